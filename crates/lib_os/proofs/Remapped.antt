-- A parent that has given a page of its own to the child maps it onto itself, as one that is copied when it is written. As such it counted
-- already, and it is seen as before: the state stands for the same abstract one. The call is never refused: the region has its table.
use Rattle.std.proofs.Common.{◌≡◌, ◌≢◌, ◌∙◌, ◌==◌, ◌*◌, ◌%◌, ◌/◌, ◌<◌, ◌&&◌, ◌||◌, ℕ, Bool, true, false, [], ◌∷◌}
use Rattle.std.proofs.Common.{Some, refl, sym, ap, subst, arith, if◌then◌else◌}
use Rattle.std.specs.Prelude.{is_some}
use Rattle.std.specs.Option.{option_map}
use Rattle.std.proofs.lemmas.Bool.Decides.{nat_tests}
use Rattle.std.proofs.lemmas.Option.{same_Some}
use Rattle.jos_base.specs.declared.called.Called.{Called}
use Rattle.jos_base.specs.declared.called.Called.TheVariants.{Answered}
use Rattle.jos_base.specs.declared.numbers.TheConstants.{NENV, NPTENTRIES, PGSIZE, SYS_PAGE_MAP}
use Rattle.jos_base.specs.Environments.{Slot}
use Rattle.jos_base.specs.KernelState.{KernelState, slot_at, with_extra, with_spaces}
use Rattle.jos_base.specs.Reach.{Entry}
use Rattle.jos_base.specs.SpacesState.{SpacesState, inserted, mapped}
use Rattle.jos_base.specs.SystemCalls.{is_page_address, shared_entry}
use Rattle.jos_base.specs.Words.{page_number, upd}
use Rattle.lib_os.specs.declared.numbers.TheConstants.{SERVICE_FORK}
use Rattle.lib_os.specs.declared.place.Place.{Place}
use Rattle.lib_os.specs.declared.place.Place.TheVariants as place
use Rattle.lib_os.specs.declared.place.Step.{Step}
use Rattle.lib_os.specs.declared.place.Step.TheVariants as step
use Rattle.lib_os.specs.declared.service.Service.TheVariants as service
use Rattle.lib_os.specs.AbstractState.{AbstractState, own}
use Rattle.lib_os.specs.DescriptorPages.{lasting_words}
use Rattle.lib_os.specs.InOrder.{IsInOrder}
use Rattle.lib_os.specs.LibrarySteps.{TakesAtMost}
use Rattle.lib_os.specs.PipeEnds.{is_made}
use Rattle.lib_os.specs.Places.{place_of, words_at}
use Rattle.lib_os.specs.Rows.{EntryRow, IsUsers, Names, Rows, as_cow, counted, cow_perm}
use Rattle.lib_os.specs.Rows.{is_of_descriptor, is_pipe_page, is_programs, is_shared, logical, may_write, page_seen, rows_of, seen_where, shown_at}
use Rattle.lib_os.specs.StandsFor.{IsBearing, IsRemapping, StandsAt, StandsFor, StandsForBorn, seen_unless, top_page, view_of}
use Rattle.lib_os.specs.UserCalls.{CallStep, giving, system}
use Rattle.lib_os.proofs.Bearing.{IsBearer, bearer, borne_calm}
use Rattle.lib_os.proofs.BearingCounts.{child_seen, other_counts, parent_counted, parent_counts, parent_lives, spaces_apart}
use Rattle.lib_os.proofs.Calls.{made_step}
use Rattle.lib_os.proofs.Effects.{Given}
use Rattle.lib_os.proofs.EntriesStand.{rows_bytes, rows_same, rows_stand, seen_own, shown_same}
use Rattle.lib_os.proofs.EntryWords.{row_entry}
use Rattle.lib_os.proofs.FreeFrames.{mapped_more}
use Rattle.lib_os.proofs.GoesDown.{IsOnWay, bearing_moves, goes_below, has_from, moved, own_moved, step_below, there_handed}
use Rattle.lib_os.proofs.GoingOn.{in_with_words}
use Rattle.lib_os.proofs.Logical.{logical_some}
use Rattle.lib_os.proofs.PagesStand.{other_regions, row_elsewhere, row_placed}
use Rattle.lib_os.proofs.Remapping.{inserted_already, page_map_is}
use Rattle.lib_os.proofs.SlotsStand.{SeenAlike, descriptors_beside, library_put}
use Rattle.lib_os.proofs.StatesStand.{others_counts}
use Rattle.jos_base.proofs.Puts.{Elsewhere}

no_other : (t u : Bool) → (t || u) ≡ true → (u ≡ true → ⊥) → t ≡ true
no_other true u is other = refl
no_other false u is other = absurd (other is)

-- a page that is no descriptor's is no pipe's
pipe_elsewhere : (p : ℕ) → (is_of_descriptor p ≡ true → ⊥) → is_pipe_page p ≡ true → ⊥
pipe_elsewhere p none is = none (grind (arith, nat_tests))

cow_user : IsUsers cow_perm
cow_user = record { page = refl; copied = λ is. (refl, refl) }

-- how the entries of one that remaps a page count
counts_there : (id page : ℕ) (row : EntryRow) → counted (place.InService service.Fork (step.Remap id page)) row page ≡ option_map as_cow (row page)
unfolding counted
counts_there id page row =
    let here : (page == page) ≡ true = grind (arith, nat_tests) in
    ap (λ (c : Bool). if c then option_map as_cow (row page) else row page) here

counts_beside : (id page : ℕ) (row : EntryRow) (p : ℕ) → p ≢ page → counted (place.InService service.Fork (step.Remap id page)) row p ≡ row p
unfolding counted
counts_beside id page row p ne =
    let other : (p == page) ≡ false = grind (arith, nat_tests) in ap (λ (c : Bool). if c then option_map as_cow (row p) else row p) other

-- ---- the state behind the call

module _ {names : Names} {s : KernelState} {a : AbstractState} {sp : SpacesState} (h : StandsFor names s a) (n id page : ℕ)
    (stands : place_of (slot_at s n) ≡ place.InService service.Fork (step.Remap id page)) (old : Entry)
    (old_is : rows_of s.spaces (slot_at s n).directory page ≡ Some old)
    (given : Given s.spaces sp (slot_at s n).directory page (record { frame = old.frame; perm = cow_perm }))
    (in_order : IsInOrder (with_spaces s sp)) (last : s.last ≡ Some n) where
  abbrev at : Step
  at = step.Remap id page

  abbrev next : Step
  next = step_below id page

  v : IsBearer names s a n at id
  v = bearer h n at id stands refl

  abbrev parent : Slot
  parent = slot_at s n

  abbrev child : Slot
  child = slot_at s (id % NENV)

  abbrev d : ℕ
  d = parent.directory

  abbrev over : Entry
  over = record { frame = old.frame; perm = cow_perm }

  bearing : IsBearing parent v.b id
  bearing = let both = v.stands in both.0

  remapping : IsRemapping (rows_of s.spaces d) page
  remapping = let both = v.stands in both.1

  same_entry : remapping.entry ≡ old
  same_entry = same_Some remapping.entry old (sym remapping.stands ∙ old_is)

  old_own : is_shared old.perm ≡ false
  old_own = ap (λ (e : Entry). is_shared e.perm) (sym same_entry) ∙ remapping.own_page

  old_writes : may_write old.perm ≡ true
  old_writes = ap (λ (e : Entry). may_write e.perm) (sym same_entry) ∙ remapping.writes

  -- a page of its own is no descriptor's
  no_descriptor : is_of_descriptor page ≡ true → ⊥
  no_descriptor is =
      let contradiction : false ≡ true = sym old_own ∙ ap (λ (bits : ℕ). is_shared bits) (v.own.library.descriptors page old is old_is) in cc

  inside : is_programs page ≡ true
  inside =
      no_other (is_programs page) (is_of_descriptor page) (there_handed parent at next stands v.own page old remapping.below old_is) no_descriptor

  -- ---- the spaces after it

  bytes_kept : (q r : ℕ) (x : Entry) → rows_of s.spaces q r ≡ Some x → sp.pages x.frame ≡ s.spaces.pages x.frame
  bytes_kept q r x hx = by_frame (x.frame == old.frame) refl
    where
      by_frame : (c : Bool) → (x.frame == old.frame) ≡ c → sp.pages x.frame ≡ s.spaces.pages x.frame
      by_frame true test =
          let same : old.frame ≡ x.frame = grind (arith, nat_tests) in
          subst (λ (f : ℕ). sp.pages f ≡ s.spaces.pages f) same given.same
      by_frame false test =
          let other : x.frame ≢ old.frame = grind (arith, nat_tests) in
          let beside : Elsewhere q r d page = λ same too.
          other (ap (λ (e : Entry). e.frame) (same_Some x old (sym hx ∙ (λ i. rows_of s.spaces (same i) (too i)) ∙ old_is))) in
          given.placed.bytes q r x (row_elsewhere given.placed q r beside ∙ hx) other

  others_alike : (q : ℕ) → q ≢ d → SeenAlike names names s.spaces sp q
  others_alike q ne = record {
    rows = λ i r. row_elsewhere given.placed q r (λ same too. ne same) i;
    bytes = λ r x hx own_page. bytes_kept q r x hx;
    named_so = λ r x hx shared_page. refl;
    devices = λ r x descriptor hx shared_page. ap lasting_words (bytes_kept q r x hx);
    pipes = λ r x pipes hx shared_page. bytes_kept q r x hx;
    regions = λ r. other_regions given.placed q r ne;
  }

  row_kept : (p : ℕ) → p ≢ page → rows_of sp d p ≡ rows_of s.spaces d p
  row_kept p ne = row_elsewhere given.placed d p (λ same too. ne too)

  shown_kept : (p : ℕ) → p ≢ page → shown_at names sp d p ≡ shown_at names s.spaces d p
  shown_kept p ne = shown_same names names s.spaces sp d p (row_kept p ne) (λ x hx own_page. bytes_kept d p x hx) (λ x hx shared_page. refl)

  memory_kept : (p : ℕ) → page_seen names sp d p ≡ page_seen names s.spaces d p
  memory_kept p = by_page (p == page) refl
    where
      here : page_seen names sp d page ≡ page_seen names s.spaces d page
      here =
          seen_own names sp d page over inside (row_placed given.placed) refl
          ∙ (λ i. Some (own (given.same i) (sym old_writes i)))
          ∙ sym (seen_own names s.spaces d page old inside old_is old_own)

      by_page : (c : Bool) → (p == page) ≡ c → page_seen names sp d p ≡ page_seen names s.spaces d p
      by_page true test =
          let same : page ≡ p = grind (arith, nat_tests) in
          subst (λ (q : ℕ). page_seen names sp d q ≡ page_seen names s.spaces d q) same here
      by_page false test = ap (seen_where (is_programs p)) (shown_kept p (grind (arith, nat_tests)))

  -- the region has its table already
  stood : is_some (s.spaces.regions d (page / NPTENTRIES)) ≡ true
  stood = let e = row_entry s.spaces d page old old_is in h.in_order.frames.regions d page e.0 e.1

  table_is : (r : ℕ) → is_some (sp.regions d r) ≡ is_some (s.spaces.regions d r)
  table_is r =
      given.placed.regions d r
      ∙ ap (λ (c : Bool). (c && (r == page / NPTENTRIES)) || is_some (s.spaces.regions d r)) here
      ∙ by_region (r == page / NPTENTRIES) refl
    where
      here : (d == d) ≡ true
      here = grind (arith, nat_tests)

      by_region : (c : Bool) → (r == page / NPTENTRIES) ≡ c → (c || is_some (s.spaces.regions d r)) ≡ is_some (s.spaces.regions d r)
      by_region true test =
          let same : page / NPTENTRIES ≡ r = grind (arith, nat_tests) in
          subst (λ (q : ℕ). true ≡ is_some (s.spaces.regions d q)) same (sym stood)
      by_region false test = refl

  -- ---- the two in them

  -- it may go on to remap the page again
  parent_stands : StandsForBorn names sp parent v.b
  parent_stands = record {
    id = v.own.id;
    id_small = v.own.id_small;
    parent = v.own.parent;
    env_type = v.own.env_type;
    runs = v.own.runs;
    upcall = v.own.upcall;
    descriptors = λ fd still. v.own.descriptors fd still
        ∙ sym (ap (seen_unless (is_made (place_of parent) fd)) (descriptors_beside names names s.spaces sp d page inside shown_kept fd));
    memory = λ p. v.own.memory p ∙ sym (memory_kept p);
    library = library_put (place_of parent) parent.extra (rows_of s.spaces d) (rows_of sp d) page inside row_kept v.own.library;
    regions_have = λ r is. table_is r ∙ v.own.regions_have r is;
    regions_only = λ r is. v.own.regions_only r (sym (table_is r) ∙ is);
    stack = v.own.stack;
    flags = v.own.flags;
    at = subst (λ (p : Place). StandsAt p (view_of sp d) parent v.b) (sym stands) (
      bearing,
      record {
        below = remapping.below;
        entry = over;
        stands = row_placed given.placed;
        user = cow_user;
        own_page = refl;
        writes = refl;
      },
    );
  }

  way : IsOnWay names sp parent v.b id child next (moved parent next)
  way =
      goes_below id page (moved parent next) (in_with_words (words_at SERVICE_FORK next) bearing) remapping.below
      (λ inner. table_is (page / NPTENTRIES) ∙ stood)
      (has_from at refl refl
      (child_seen (others_alike child.directory (λ same. spaces_apart h n id at v (sym same)))
      (λ p is. row_kept p (λ same. no_descriptor (sym (ap is_of_descriptor same) ∙ is))) v.child))

  -- ---- entries as they count

  abbrev before : Rows
  before = logical s.spaces s.environments.slots

  abbrev behind : Rows
  behind = logical sp (upd s.environments.slots n (moved parent next))

  counts : (j p : ℕ) → behind j p ≡ before j p
  counts j = by_slot (j == n) refl
    where
      over_cow : Some over ≡ option_map as_cow (Some old)
      over_cow = ap (λ (c : Bool). Some (if c then old else over)) (sym old_own)

      own_counts : (p : ℕ) (c : Bool) → (p == page) ≡ c → behind n p ≡ before n p
      own_counts p true test =
          let same : page ≡ p = grind (arith, nat_tests) in
          subst (λ (q : ℕ). behind n q ≡ before n q) same
          (parent_counts h n id at v sp next page ∙ way.plain (rows_of sp d) page ∙ row_placed given.placed ∙ over_cow
          ∙ ap (option_map as_cow) (sym old_is)
          ∙ sym (counts_there id page (rows_of s.spaces d)) ∙ sym (parent_counted h n id at v page))
      own_counts p false test =
          let other : p ≢ page = grind (arith, nat_tests) in
          parent_counts h n id at v sp next p ∙ way.plain (rows_of sp d) p ∙ row_kept p other
          ∙ sym (counts_beside id page (rows_of s.spaces d) p other) ∙ sym (parent_counted h n id at v p)

      by_slot : (c : Bool) → (j == n) ≡ c → (p : ℕ) → behind j p ≡ before j p
      by_slot true test p =
          let same : n ≡ j = grind (arith, nat_tests) in
          subst (λ (o : ℕ). behind o p ≡ before o p) same (own_counts p (p == page) refl)
      by_slot false test p =
          let other : j ≢ n = grind (arith, nat_tests) in
          other_counts h n id at v sp next j other
          (λ live. (others_alike (slot_at s j).directory
          (λ same. other (h.in_order.spaces.apart j n live (parent_lives h n id at v) same))).rows) p

  counted_bytes : (j p : ℕ) (x : Entry) → behind j p ≡ Some x → sp.pages x.frame ≡ s.spaces.pages x.frame
  counted_bytes j p x hx =
      let found = (logical_some s.spaces s.environments.slots j p x (sym (counts j p) ∙ hx)).1 in
      subst (λ (f : ℕ). sp.pages f ≡ s.spaces.pages f) found.frame (bytes_kept _ p found.entry found.stands)

  pub remapped_stands : StandsFor names (with_extra (with_spaces s sp) n (words_at SERVICE_FORK next)) a
  remapped_stands =
      bearing_moves h n id at next v way.bears sp (λ q ne apart. others_alike q ne) (own_moved parent at next stands refl (borne_calm next id way.bears) parent_stands way.stands)
      way.has (rows_bytes sp.pages counted_bytes (rows_same before behind counts (rows_stand h))) in_order
      (others_counts h n last sp) (λ p is. row_kept p (λ same. pipe_elsewhere page no_descriptor (sym (ap is_pipe_page same) ∙ is))) bytes_kept

-- ---- the call

-- what stands at the page, and the spaces after the call
pub record MapsOnto (s : KernelState) (n page : ℕ) (asked : CallStep Called) : Type 0 where
  pub old : Entry
  pub stands : rows_of s.spaces (slot_at s n).directory page ≡ Some old
  pub entry : Entry
  pub there : s.spaces.entries (slot_at s n).directory page ≡ Some entry
  pub frame : entry.frame ≡ old.frame
  pub spaces : SpacesState
  pub is : inserted s.spaces (slot_at s n).directory page (record { frame = old.frame; perm = cow_perm }) ≡ Some spaces
  pub takes : TakesAtMost 0 s.spaces spaces
  pub step : asked ≡ giving (with_spaces s spaces) (Answered 0)

-- where a page begins
abbrev start_of : ℕ → ℕ
start_of page = page % (NPTENTRIES * NPTENTRIES) * PGSIZE

start_address : (page : ℕ) → page < top_page → (is_page_address (start_of page) ≡ true) × (page_number (start_of page) ≡ page)
start_address page below = (grind (arith, nat_tests), omega (arith, below))

module _ {names : Names} {s : KernelState} {a : AbstractState} (h : StandsFor names s a) (n id page : ℕ)
    (stands : place_of (slot_at s n) ≡ place.InService service.Fork (step.Remap id page)) where
  pub maps_onto : MapsOnto s n page (system s n SYS_PAGE_MAP (0 ∷ start_of page ∷ 0 ∷ start_of page ∷ cow_perm ∷ []))
  maps_onto =
      let v = bearer h n (step.Remap id page) id stands refl in
      let both = v.stands in
      let it : IsRemapping (rows_of s.spaces (slot_at s n).directory) page = both.1 in
      let d : ℕ = (slot_at s n).directory in
      let begins = start_address page it.below in
      let raw = row_entry s.spaces d page it.entry it.stands in
      let same : raw.0.frame ≡ it.entry.frame = ap (λ (e : Entry). e.frame) raw.2 in
      let over : Entry = record { frame = raw.0.frame; perm = cow_perm } in
      let is : inserted s.spaces d page over ≡ Some (mapped s.spaces d page over) =
      inserted_already s.spaces d page over (h.in_order.frames.regions d page raw.0 raw.1) in
      record {
        old = it.entry;
        stands = it.stands;
        entry = raw.0;
        there = raw.1;
        frame = same;
        spaces = mapped s.spaces d page over;
        is = ap (λ (f : ℕ). inserted s.spaces d page (record { frame = f; perm = cow_perm })) (sym same) ∙ is;
        takes = mapped_more s.spaces d page over;
        step = page_map_is s n (parent_lives h n id (step.Remap id page) v) (start_of page) (start_of page) cow_perm begins.0 begins.0 over
            (ap (λ (q : ℕ). shared_entry (s.spaces.entries d q) cow_perm) begins.1 ∙ (λ i. shared_entry (raw.1 i) cow_perm))
            ∙ ap (λ (q : ℕ). made_step s (inserted s.spaces d q over)) begins.1
            ∙ ap (made_step s) is;
      }
