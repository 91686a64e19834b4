-- Service pipe takes the pages of its two descriptors and of the pipe, one after the other. Nobody sees these pages: the kernel's state goes on
-- standing for the same abstract one.
use Rattle.std.proofs.Common.{◌≡◌, ◌≢◌, ◌∙◌, ◌+◌, ◌/◌, ◌<◌, ◌==◌, ◌&&◌, ◌||◌, ◌⊎◌, inl, inr, ℕ, Bool, true, false, List, [], ◌∷◌, Option, Some, None}
use Rattle.std.proofs.Common.{refl, sym, ap, subst, arith, if◌then◌else◌}
use Rattle.std.specs.Prelude.{is_some, nat_le}
use Rattle.std.specs.Option.{option_map}
use Rattle.std.proofs.lemmas.Bool.{cases_eq}
use Rattle.std.proofs.lemmas.Bool.Decides.{nat_tests}
use Rattle.std.proofs.lemmas.Option.{none-some, same_Some}
use Rattle.jos_base.specs.declared.called.Called.{Called}
use Rattle.jos_base.specs.declared.called.Called.TheVariants.{Answered}
use Rattle.jos_base.specs.declared.numbers.TheConstants.{E_NO_MEM, FDTABLE, NPTENTRIES, SYS_PAGE_ALLOC}
use Rattle.jos_base.specs.Environments.{is_live}
use Rattle.jos_base.specs.KernelState.{KernelState, slot_at, with_extra, with_refusal, with_spaces}
use Rattle.jos_base.specs.Reach.{Entry}
use Rattle.jos_base.specs.SpacesState.{SpacesState, allocated, put}
use Rattle.jos_base.specs.SystemCalls.{is_page_address}
use Rattle.jos_base.specs.Words.{negated, page_number}
use Rattle.jos_base.proofs.Puts.{Elsewhere}
use Rattle.lib_os.specs.declared.numbers.TheConstants.{DESCRIPTORS, DEVICE_PIPE}
use Rattle.lib_os.specs.declared.place.PipeStep.{PipeStep}
use Rattle.lib_os.specs.declared.place.PipeStep.TheVariants as pipe
use Rattle.lib_os.specs.declared.place.Place.{Place}
use Rattle.lib_os.specs.declared.place.Place.TheVariants as place
use Rattle.lib_os.specs.declared.place.Step.TheVariants as step
use Rattle.lib_os.specs.declared.progress.Progress.{Progress}
use Rattle.lib_os.specs.declared.progress.Progress.TheVariants as progress
use Rattle.lib_os.specs.declared.service.Service.TheVariants as service
use Rattle.lib_os.specs.AbstractState.{AbstractState, Born, born}
use Rattle.lib_os.specs.DescriptorPages.{device_of, lock_of, mode_of, read_of, written_of}
use Rattle.lib_os.specs.InOrder.{IsInOrder}
use Rattle.lib_os.specs.LibraryPages.{View, is_library_region}
use Rattle.lib_os.specs.LibrarySteps.{KeepsStanding, service_answered}
use Rattle.lib_os.specs.PipeEnds.{is_dropped, is_made}
use Rattle.lib_os.specs.Places.{place_of, words_at}
use Rattle.lib_os.specs.Rows.{IsPage, IsUsers, Names, Rows, as_own, descriptor_at, descriptor_page, descriptor_perm, descriptor_seen, is_making}
use Rattle.lib_os.specs.Rows.{is_of_descriptor, is_shared, logical, makes, own_perm, pipe_page, rows_of}
use Rattle.lib_os.specs.StandsAtPipe.{AreLowestFree, AtPipe, HasNone, IsMakingPipe, TellsEnd}
use Rattle.lib_os.specs.StandsFor.{StandsAt, StandsFor, seen_unless, things_in, view_of}
use Rattle.lib_os.specs.UserCalls.{CallStep, giving, system}
use Rattle.lib_os.proofs.Calls.{PageMade, PageRefused, page_made_or_refused, refusal_is_seen}
use Rattle.lib_os.proofs.CallersStay.{alloc_answers}
use Rattle.lib_os.proofs.DescriptorLooks.{descriptor_number, descriptor_va, none_seen, seen_calm, table_region}
use Rattle.lib_os.proofs.DescriptorLooks.{SeesDescriptors}
use Rattle.lib_os.proofs.Effects.{Made}
use Rattle.lib_os.proofs.EndsDropped.{pipe_number, pipe_va}
use Rattle.lib_os.proofs.EntriesStand.{PutsRow, named_bytes, put_is, rows_put, rows_same, rows_stand}
use Rattle.lib_os.proofs.GoingOn.{in_with_words}
use Rattle.lib_os.proofs.Logical.{both}
use Rattle.lib_os.proofs.Numbered.{number_of}
use Rattle.lib_os.proofs.PageBytes.{zero_page_whole}
use Rattle.lib_os.proofs.PagesStand.{Puts, bytes_elsewhere, elsewhere, other_regions, others_seen, row_elsewhere, row_placed}
use Rattle.lib_os.proofs.PipeBytes.{new_lock, new_read, new_written}
use Rattle.lib_os.proofs.PipeMaking.{IsNextMade, counted_before, counted_own, counted_still, counted_then, making_counts, making_descriptor}
use Rattle.lib_os.proofs.PipeMaking.{making_goes_on, making_moved, making_pipe}
use Rattle.lib_os.proofs.PipesStand.{is_calm}
use Rattle.lib_os.proofs.Placing.{allocated_made}
use Rattle.lib_os.proofs.Serving.{IsServed, served}
use Rattle.lib_os.proofs.SlotsStand.{HasTables, born_at}
use Rattle.lib_os.proofs.StatesStand.{others_count}
use Rattle.lib_os.proofs.Trying.{LivesOn}

-- ---- any of these pages

-- its region is that of the descriptors' pages
made_region : (p : ℕ) → is_of_descriptor p ≡ true → p / NPTENTRIES ≡ table_region
made_region p is = grind (arith, nat_tests)

own_user : IsUsers own_perm
own_user = record { page = refl; copied = λ is. absurd (let contradiction : false ≡ true = is in cc) }

none_counts : (c : Bool) (o : Option Entry) → o ≡ None → (if c then option_map as_own o else o) ≡ None
none_counts true o none = ap (option_map as_own) none
none_counts false o none = none

module _ {names : Names} {s : KernelState} {a : AbstractState} {sp : SpacesState} (h : StandsFor names s a) (n : ℕ) (b : Born)
    (is : a.slots n ≡ born b) (from to : PipeStep) (stands : place_of (slot_at s n) ≡ place.InService service.Pipe (step.Piped from))
    (next : IsNextMade from to) (p : ℕ) (making : is_making to p ≡ true) (made : Made s.spaces sp (slot_at s n).directory p descriptor_perm)
    (vacant : rows_of s.spaces (slot_at s n).directory p ≡ None) where
  abbrev home : ℕ
  home = (slot_at s n).directory

  abbrev before : Rows
  before = logical s.spaces s.environments.slots

  abbrev new_entry : Entry
  new_entry = record { frame = made.frame; perm = descriptor_perm }

  of_descriptor : is_of_descriptor p ≡ true
  of_descriptor = (both _ _ making).0

  puts : Puts names names s.spaces sp home p (Some new_entry)
  puts = record {
    rows = made.placed.rows;
    bytes = λ q r x ne hx. made.placed.bytes q r x (row_elsewhere made.placed q r ne ∙ hx) (made.new q r x hx);
    named_so = λ q r x hx shared_page. refl;
    regions = other_regions made.placed;
  }

  row_here : rows_of sp home p ≡ Some new_entry
  row_here = row_placed made.placed

  pub row_beside : (q : ℕ) → q ≢ p → rows_of sp (slot_at s n).directory q ≡ rows_of s.spaces (slot_at s n).directory q
  row_beside q ne = row_elsewhere made.placed home q (λ same. ne)

  bytes_beside : (q : ℕ) (x : Entry) → q ≢ p → rows_of s.spaces home q ≡ Some x → sp.pages x.frame ≡ s.spaces.pages x.frame
  bytes_beside q x ne hx = puts.bytes home q x (λ same. ne) hx

  unmade_beside : (q : ℕ) → is_making to q ≡ false → q ≢ p
  unmade_beside q none same = let contradiction : true ≡ false = sym making ∙ ap (is_making to) (sym same) ∙ none in cc

  -- nothing counted there
  none_before : before n p ≡ None
  none_before = counted_before h n b is from to stands p ∙ none_counts (is_making from p) (rows_of s.spaces home p) vacant

  counts_elsewhere : (m q : ℕ) (x : Entry) → before m q ≡ Some x → Elsewhere m q n p
  counts_elsewhere m q x hx same too = none-some x (sym none_before ∙ (λ i. before (sym same i) (sym too i)) ∙ hx)

  bits : (q : ℕ) (x : Entry) → is_making to q ≡ true → rows_of sp home q ≡ Some x → x.perm ≡ descriptor_perm
  bits q x made_too hx = elim (cases_eq q p) [
    | inl here ↦ ap (λ (y : Entry). y.perm) (sym (same_Some new_entry x (sym row_here ∙ ap (rows_of sp home) (sym here) ∙ hx)))
    | inr ne ↦ (born_at h n b is).library.descriptors q x (both _ _ made_too).0 (sym (row_beside q ne) ∙ hx)
  ]

  -- the region of the page is one of the library's
  tables : HasTables sp home b.regions
  tables = record {
    have = λ r has. table_is r ∙ stood (r == p / NPTENTRIES) (is_some (s.spaces.regions home r)) ((born_at h n b is).regions_have r has);
    only = λ r has. by_region r (r == p / NPTENTRIES) refl (sym (table_is r) ∙ has);
  }
    where
      here : (home == home) ≡ true
      here = grind (arith, nat_tests)

      table_is : (r : ℕ) → is_some (sp.regions home r) ≡ ((r == p / NPTENTRIES) || is_some (s.spaces.regions home r))
      table_is r = made.placed.regions home r ∙ ap (λ (c : Bool). (c && (r == p / NPTENTRIES)) || is_some (s.spaces.regions home r)) here

      stood : (c t : Bool) → t ≡ true → (c || t) ≡ true
      stood true t has = refl
      stood false t has = has

      libraries : (r : ℕ) → (r == p / NPTENTRIES) ≡ true → is_library_region r ≡ true
      libraries r test =
          let it : r ≡ p / NPTENTRIES = grind (arith, nat_tests) in
          subst (λ (q : ℕ). is_library_region q ≡ true) (sym (it ∙ made_region p of_descriptor)) refl

      by_region : (r : ℕ) (c : Bool) → (r == p / NPTENTRIES) ≡ c → (c || is_some (s.spaces.regions home r)) ≡ true →
          (b.regions r || is_library_region r) ≡ true
      by_region r true test has = stood (b.regions r) (is_library_region r) (libraries r test)
      by_region r false test has = (born_at h n b is).regions_only r has

  module _ (fresh : (q : ℕ) → is_making to q ≡ true → is_making from q ≡ false → rows_of s.spaces (slot_at s n).directory q ≡ None) where
    -- all entries count as they did, and this one as the maker's own
    counts_then : (m q : ℕ) → making_counts s n to sp m q ≡ put before n p (Some (as_own new_entry)) m q
    counts_then = put_is before (making_counts s n to sp) n p (Some (as_own new_entry)) here beside
      where
        here : making_counts s n to sp n p ≡ Some (as_own new_entry)
        here = counted_then h n b is from to stands sp p ∙ counted_own to (rows_of sp home) p making ∙ ap (option_map as_own) row_here

        same_slot : (q : ℕ) → q ≢ p → (c t : Bool) → is_making to q ≡ c → is_making from q ≡ t → making_counts s n to sp n q ≡ before n q
        same_slot q ne true true now was =
            counted_then h n b is from to stands sp q ∙ counted_own to (rows_of sp home) q now ∙ ap (option_map as_own) (row_beside q ne)
            ∙ sym (counted_before h n b is from to stands q ∙ counted_own from (rows_of s.spaces home) q was)
        same_slot q ne true false now was =
            counted_then h n b is from to stands sp q ∙ none_counts (is_making to q) (rows_of sp home q) (row_beside q ne ∙ fresh q now was)
            ∙ sym (counted_before h n b is from to stands q ∙ none_counts (is_making from q) (rows_of s.spaces home q) (fresh q now was))
        same_slot q ne false true now was = absurd (let contradiction : true ≡ false = sym was ∙ fewer_pages q now in cc)
          where
            fewer_pages : (r : ℕ) → is_making to r ≡ false → is_making from r ≡ false
            fewer_pages r none = by_page (is_of_descriptor r) none
              where
                by_page : (d : Bool) → (d && makes to (descriptor_at r)) ≡ false → (d && makes from (descriptor_at r)) ≡ false
                by_page true off = next.fewer (descriptor_at r) off
                by_page false off = refl
        same_slot q ne false false now was =
            counted_then h n b is from to stands sp q ∙ counted_still to (rows_of sp home) q now ∙ row_beside q ne
            ∙ sym (counted_before h n b is from to stands q ∙ counted_still from (rows_of s.spaces home) q was)

        beside : (m q : ℕ) → Elsewhere m q n p → making_counts s n to sp m q ≡ before m q
        beside m q ne = by_slot (m == n) refl
          where
            by_slot : (c : Bool) → (m == n) ≡ c → making_counts s n to sp m q ≡ before m q
            by_slot true test =
                let same : m ≡ n = grind (arith, nat_tests) in
                subst (λ (r : ℕ). making_counts s n to sp r q ≡ before r q) (sym same)
                (same_slot q (ne same) (is_making to q) (is_making from q) refl refl)
            by_slot false test = others_count h n b is (making_moved s n to) (others_seen h n b is puts) m (grind (arith, nat_tests)) q

    row : PutsRow names names s.spaces.pages a.shared sp.pages a.shared (things_in s a) a.next_name a.next_name
        (logical s.spaces s.environments.slots) n p (Some (as_own new_entry))
    row = record {
      bytes = bytes_elsewhere h n b is puts;
      agree = λ m q x e ne hx is_new same.
          let found = elsewhere h n b is puts m q x ne hx in
          absurd (made.new _ q found.1.entry found.1.stands
          (found.1.frame ∙ same ∙ ap (λ (y : Entry). y.frame) (sym (same_Some (as_own new_entry) e is_new))));
      user = λ e is_new. subst (λ (y : Entry). IsUsers y.perm) (same_Some (as_own new_entry) e is_new) own_user;
      whole = λ e is_new. subst (λ (y : Entry). IsPage (sp.pages y.frame)) (same_Some (as_own new_entry) e is_new)
          (subst (λ (page : List ℕ). IsPage page) (sym made.zero) zero_page_whole);
      beside = λ q e y is_new lies same.
          absurd (made.new _ q y lies (sym same ∙ ap (λ (z : Entry). z.frame) (sym (same_Some (as_own new_entry) e is_new))));
      named_new = λ e is_new shared_page.
          let contradiction : false ≡ true = ap (λ (y : Entry). is_shared y.perm) (same_Some (as_own new_entry) e is_new) ∙ shared_page in cc;
      named_old = λ m q x ne hx shared_page was. named_bytes (sym (bytes_elsewhere h n b is puts m q x ne hx)) was;
    }

    pub taken_goes_on : (undescribed : (fd : ℕ) → makes to fd ≡ true → b.descriptors fd ≡ None) → s.last ≡ Some n →
        StandsAt (place.InService service.Pipe (step.Piped to)) (view_of sp (slot_at s n).directory) (making_moved s n to) b →
        IsInOrder (with_spaces s sp) → StandsFor names (with_extra (with_spaces s sp) n (words_at (number_of service.Pipe) (step.Piped to))) a
    taken_goes_on undescribed last so in_order =
        making_goes_on h n b is from to stands next (others_seen h n b is puts) (λ q none. row_beside q (unmade_beside q none))
        (λ q x none hx. bytes_beside q x (unmade_beside q none) hx) undescribed bits
        (λ m q x hx shared_page. bytes_elsewhere h n b is puts m q x (counts_elsewhere m q x hx) hx) last tables
        (rows_same (put before n p (Some (as_own new_entry))) (making_counts s n to sp) counts_then (rows_put (rows_stand h) row)) so in_order

  -- ---- what stands at the next step

  abbrev was : View
  was = view_of s.spaces (slot_at s n).directory

  abbrev now : View
  now = view_of sp (slot_at s n).directory

  -- an end's page tells what it told
  pub end_kept : (fd device mode : ℕ) → descriptor_page fd ≢ p → TellsEnd (view_of s.spaces (slot_at s n).directory) fd device mode →
      TellsEnd (view_of sp (slot_at s n).directory) fd device mode
  end_kept fd device mode ne it =
      let same = bytes_beside (descriptor_page fd) it.entry ne it.stands in
      record {
        entry = it.entry;
        stands = row_beside (descriptor_page fd) ne ∙ it.stands;
        device_is = ap device_of same ∙ it.device_is;
        mode_is = ap mode_of same ∙ it.mode_is;
      }

  -- the new one tells nothing yet
  pub end_new : (fd : ℕ) → p ≡ descriptor_page fd → TellsEnd (view_of sp (slot_at s n).directory) fd 0 0
  end_new fd same = record {
    entry = new_entry;
    stands = ap (rows_of sp home) (sym same) ∙ row_here;
    device_is = ap device_of made.zero ∙ new_lock;
    mode_is = ap mode_of made.zero ∙ new_written;
  }

  pub pipe_new : (fd : ℕ) → p ≡ pipe_page fd → AtPipe (view_of sp (slot_at s n).directory) fd
      (λ page. (lock_of page ≡ 0) × (read_of page ≡ 0) × (written_of page ≡ 0))
  pipe_new fd same = record {
    page = new_entry;
    lies = ap (rows_of sp home) (sym same) ∙ row_here;
    so = (ap lock_of made.zero ∙ new_lock, ap read_of made.zero ∙ new_read, ap written_of made.zero ∙ new_written);
  }

  pub none_kept : (q : ℕ) → q ≢ p → HasNone (view_of s.spaces (slot_at s n).directory) q → HasNone (view_of sp (slot_at s n).directory) q
  none_kept q ne none = row_beside q ne ∙ none

  pub lowest_kept : (reading writing : ℕ) → ((fd : ℕ) → fd ≢ reading → fd ≢ writing → makes to fd ≡ false) →
      AreLowestFree (rows_of s.spaces (slot_at s n).directory) reading writing → AreLowestFree (rows_of sp (slot_at s n).directory) reading writing
  lowest_kept reading writing others it = record {
    order = it.order;
    below = it.below;
    lower = λ fd low ne.
        let below = it.below in
        let beside : descriptor_page fd ≢ p =
        unmade_beside (descriptor_page fd)
        (making_descriptor to fd (omega (arith, low, below)) ∙ others fd ne (λ same. omega (arith, low, same))) in
        ap is_some (row_beside (descriptor_page fd) beside) ∙ it.lower fd low ne;
  }

-- ---- the three of them

-- what is made is one of the two
pub made_one : (reading writing fd : ℕ) → ((fd == reading) || (fd == writing)) ≡ true → (fd ≡ reading) ⊎ (fd ≡ writing)
made_one reading writing fd is = by_test (fd == reading) refl is
  where
    by_test : (c : Bool) → (fd == reading) ≡ c → (c || (fd == writing)) ≡ true → (fd ≡ reading) ⊎ (fd ≡ writing)
    by_test true test so = inl (grind (arith, nat_tests))
    by_test false test so = inr (grind (arith, nat_tests))

pub made_none : (reading writing fd : ℕ) → fd ≢ reading → fd ≢ writing → ((fd == reading) || (fd == writing)) ≡ false
made_none reading writing fd not_reading not_writing =
    let first : (fd == reading) ≡ false = grind (arith, nat_tests) in
    let second : (fd == writing) ≡ false = grind (arith, nat_tests) in
    λ i. first i || second i

pub made_first : (reading writing : ℕ) → ((reading == reading) || (reading == writing)) ≡ true
made_first reading writing = let first : (reading == reading) ≡ true = grind (arith, nat_tests) in ap (λ (c : Bool). c || (reading == writing)) first

pub made_second : (reading writing : ℕ) → ((writing == reading) || (writing == writing)) ≡ true
made_second reading writing =
    let second : (writing == writing) ≡ true = grind (arith, nat_tests) in
    ap (λ (c : Bool). (writing == reading) || c) second ∙ or_true (writing == reading)
  where
    or_true : (c : Bool) → (c || true) ≡ true
    or_true true = refl
    or_true false = refl

-- one of these pages is that of a descriptor, or that of its pipe
pub page_cases : (q : ℕ) → is_of_descriptor q ≡ true → (q ≡ descriptor_page (descriptor_at q)) ⊎ (q ≡ pipe_page (descriptor_at q))
page_cases q is = by_test (nat_le (page_number FDTABLE + DESCRIPTORS) q) refl
  where
    by_test : (c : Bool) → nat_le (page_number FDTABLE + DESCRIPTORS) q ≡ c → (q ≡ descriptor_page (descriptor_at q)) ⊎ (q ≡ pipe_page (descriptor_at q))
    by_test true test = inr (grind (arith, nat_tests))
    by_test false test = inl (grind (arith, nat_tests))

-- what service pipe makes, its program has not
pub undescribed_made : {names : Names} {s : KernelState} {a : AbstractState} → StandsFor names s a → (n : ℕ) (b : Born) → a.slots n ≡ born b →
    (at : PipeStep) → place_of (slot_at s n) ≡ place.InService service.Pipe (step.Piped at) →
    ((fd : ℕ) → is_dropped (place.InService service.Pipe (step.Piped at)) fd ≡ false) → (fd : ℕ) → makes at fd ≡ true → b.descriptors fd ≡ None
undescribed_made {names = names} {s = s} h n b is at stands undropped fd making =
    (born_at h n b is).descriptors fd (ap (λ (p : Place). is_dropped p fd) stands ∙ undropped fd)
    ∙ ap (λ (c : Bool). seen_unless c (descriptor_seen names s.spaces (slot_at s n).directory fd)) (ap (λ (p : Place). is_made p fd) stands ∙ making)

-- two pages that are not the same
page_apart : (first second : ℕ) → first ≢ second → descriptor_page first ≢ descriptor_page second
page_apart first second ne same = ne (omega (arith, same))

pipe_apart : (first second : ℕ) → second < DESCRIPTORS → pipe_page first ≢ descriptor_page second
pipe_apart first second below same = absurd (omega (arith, below, same))

module _ {names : Names} {s : KernelState} {a : AbstractState} {sp : SpacesState} (h : StandsFor names s a) (n reading writing : ℕ)
    (in_order : IsInOrder (with_spaces s sp)) (last : s.last ≡ Some n) where
  module _ (stands : place_of (slot_at s n) ≡ place.InService service.Pipe (step.Piped (pipe.TakingReading reading writing)))
      (made : Made s.spaces sp (slot_at s n).directory (descriptor_page reading) descriptor_perm) where
    abbrev first : IsServed names s a n service.Pipe (step.Piped (pipe.TakingReading reading writing))
    first = served h n service.Pipe (step.Piped (pipe.TakingReading reading writing)) stands

    first_it : IsMakingPipe (view_of s.spaces (slot_at s n).directory) (slot_at s n) first.b (pipe.TakingReading reading writing) reading writing
    first_it = first.at

    pub reading_taken : StandsFor names
        (with_extra (with_spaces s sp) n (words_at (number_of service.Pipe) (step.Piped (pipe.StoringReading reading writing)))) a
    reading_taken =
        taken_goes_on h n first.b first.is (pipe.TakingReading reading writing) (pipe.StoringReading reading writing) stands
        (record { unlocked = refl; unlocked_after = refl; undropped = λ fd. refl; fewer = λ fd none. refl }) (descriptor_page reading)
        (making_descriptor (pipe.StoringReading reading writing) reading reading_below ∙ made_first reading writing) made first_it.so_far.0
        (λ q making not_yet. fresh q making) undescribed last (record {
          is_in = in_with_words (words_at (number_of service.Pipe) (step.Piped (pipe.StoringReading reading writing))) first_it.is_in;
          lowest = kept_lowest first_it.lowest;
          so_far = (
            new reading refl,
            kept (descriptor_page writing) (page_apart writing reading (λ same. omega (arith, same, order))) first_it.so_far.1,
            kept (pipe_page reading) (pipe_apart reading reading reading_below) first_it.so_far.2,
          );
          none = kept (pipe_page writing) (pipe_apart writing reading reading_below) first_it.none;
        }) in_order
      where
        order : reading < writing
        order = first_it.lowest.order

        writing_below : writing < DESCRIPTORS
        writing_below = first_it.lowest.below

        reading_below : reading < DESCRIPTORS
        reading_below = omega (arith, order, writing_below)

        next : IsNextMade (pipe.TakingReading reading writing) (pipe.StoringReading reading writing)
        next = record { unlocked = refl; unlocked_after = refl; undropped = λ fd. refl; fewer = λ fd none. refl }

        making_it : is_making (pipe.StoringReading reading writing) (descriptor_page reading) ≡ true
        making_it = making_descriptor (pipe.StoringReading reading writing) reading reading_below ∙ made_first reading writing

        new : (fd : ℕ) → descriptor_page reading ≡ descriptor_page fd → TellsEnd (view_of sp (slot_at s n).directory) fd 0 0
        new =
            end_new h n first.b first.is (pipe.TakingReading reading writing) (pipe.StoringReading reading writing) stands next (descriptor_page reading)
            making_it made first_it.so_far.0

        kept : (q : ℕ) → q ≢ descriptor_page reading → HasNone (view_of s.spaces (slot_at s n).directory) q → HasNone (view_of sp (slot_at s n).directory) q
        kept =
            none_kept h n first.b first.is (pipe.TakingReading reading writing) (pipe.StoringReading reading writing) stands next (descriptor_page reading)
            making_it made first_it.so_far.0

        kept_lowest : AreLowestFree (rows_of s.spaces (slot_at s n).directory) reading writing →
            AreLowestFree (rows_of sp (slot_at s n).directory) reading writing
        kept_lowest =
            lowest_kept h n first.b first.is (pipe.TakingReading reading writing) (pipe.StoringReading reading writing) stands next
            (descriptor_page reading) making_it made first_it.so_far.0 reading writing (made_none reading writing)

        seen : SeesDescriptors names s n first.b
        seen = seen_calm h n first.b first.is (ap is_calm stands)

        undescribed : (fd : ℕ) → makes (pipe.StoringReading reading writing) fd ≡ true → first.b.descriptors fd ≡ None
        undescribed fd making = elim (made_one reading writing fd making) [
          | inl same ↦ ap first.b.descriptors same ∙ none_seen h n first.b first.is seen reading first_it.so_far.0
          | inr same ↦ ap first.b.descriptors same ∙ none_seen h n first.b first.is seen writing first_it.so_far.1
        ]

        fresh : (q : ℕ) → is_making (pipe.StoringReading reading writing) q ≡ true → rows_of s.spaces (slot_at s n).directory q ≡ None
        fresh q making = elim (page_cases q (both _ _ making).0) [
          | inl page ↦ elim (made_one reading writing (descriptor_at q) (both _ _ making).1) [
            | inl same ↦ ap (rows_of s.spaces (slot_at s n).directory) (page ∙ ap descriptor_page same) ∙ first_it.so_far.0
            | inr same ↦ ap (rows_of s.spaces (slot_at s n).directory) (page ∙ ap descriptor_page same) ∙ first_it.so_far.1
          ]
          | inr page ↦ elim (made_one reading writing (descriptor_at q) (both _ _ making).1) [
            | inl same ↦ ap (rows_of s.spaces (slot_at s n).directory) (page ∙ ap pipe_page same) ∙ first_it.so_far.2
            | inr same ↦ ap (rows_of s.spaces (slot_at s n).directory) (page ∙ ap pipe_page same) ∙ first_it.none
          ]
        ]

  module _ (stands : place_of (slot_at s n) ≡ place.InService service.Pipe (step.Piped (pipe.TakingWriting reading writing)))
      (made : Made s.spaces sp (slot_at s n).directory (descriptor_page writing) descriptor_perm) where
    abbrev second : IsServed names s a n service.Pipe (step.Piped (pipe.TakingWriting reading writing))
    second = served h n service.Pipe (step.Piped (pipe.TakingWriting reading writing)) stands

    second_it : IsMakingPipe (view_of s.spaces (slot_at s n).directory) (slot_at s n) second.b (pipe.TakingWriting reading writing) reading writing
    second_it = second.at

    pub writing_taken : StandsFor names
        (with_extra (with_spaces s sp) n (words_at (number_of service.Pipe) (step.Piped (pipe.StoringWriting reading writing)))) a
    writing_taken =
        taken_goes_on h n second.b second.is (pipe.TakingWriting reading writing) (pipe.StoringWriting reading writing) stands next (descriptor_page writing)
        making_it made second_it.so_far.1 (λ q making not_yet. absurd (let contradiction : true ≡ false = sym making ∙ not_yet in cc))
        (undescribed_made h n second.b second.is (pipe.TakingWriting reading writing) stands (λ fd. refl)) last (record {
          is_in = in_with_words (words_at (number_of service.Pipe) (step.Piped (pipe.StoringWriting reading writing))) second_it.is_in;
          lowest = lowest_kept h n second.b second.is (pipe.TakingWriting reading writing) (pipe.StoringWriting reading writing) stands next
              (descriptor_page writing) making_it made second_it.so_far.1 reading writing (made_none reading writing) second_it.lowest;
          so_far = (
            end_kept h n second.b second.is (pipe.TakingWriting reading writing) (pipe.StoringWriting reading writing) stands next
                (descriptor_page writing) making_it made second_it.so_far.1 reading DEVICE_PIPE 0
                (page_apart reading writing (λ same. omega (arith, same, order))) second_it.so_far.0,
            end_new h n second.b second.is (pipe.TakingWriting reading writing) (pipe.StoringWriting reading writing) stands next (descriptor_page writing)
                making_it made second_it.so_far.1 writing refl,
            kept (pipe_page reading) (pipe_apart reading writing writing_below) second_it.so_far.2,
          );
          none = kept (pipe_page writing) (pipe_apart writing writing writing_below) second_it.none;
        }) in_order
      where
        order : reading < writing
        order = second_it.lowest.order

        writing_below : writing < DESCRIPTORS
        writing_below = second_it.lowest.below

        next : IsNextMade (pipe.TakingWriting reading writing) (pipe.StoringWriting reading writing)
        next = record { unlocked = refl; unlocked_after = refl; undropped = λ fd. refl; fewer = λ fd none. none }

        making_it : is_making (pipe.StoringWriting reading writing) (descriptor_page writing) ≡ true
        making_it = making_descriptor (pipe.StoringWriting reading writing) writing writing_below ∙ made_second reading writing

        kept : (q : ℕ) → q ≢ descriptor_page writing → HasNone (view_of s.spaces (slot_at s n).directory) q → HasNone (view_of sp (slot_at s n).directory) q
        kept =
            none_kept h n second.b second.is (pipe.TakingWriting reading writing) (pipe.StoringWriting reading writing) stands next (descriptor_page writing)
            making_it made second_it.so_far.1

  module _ (stands : place_of (slot_at s n) ≡ place.InService service.Pipe (step.Piped (pipe.TakingPipe reading writing)))
      (made : Made s.spaces sp (slot_at s n).directory (pipe_page reading) descriptor_perm) where
    abbrev third : IsServed names s a n service.Pipe (step.Piped (pipe.TakingPipe reading writing))
    third = served h n service.Pipe (step.Piped (pipe.TakingPipe reading writing)) stands

    third_it : IsMakingPipe (view_of s.spaces (slot_at s n).directory) (slot_at s n) third.b (pipe.TakingPipe reading writing) reading writing
    third_it = third.at

    pub pipe_taken : StandsFor names
        (with_extra (with_spaces s sp) n (words_at (number_of service.Pipe) (step.Piped (pipe.MappingPipe reading writing)))) a
    pipe_taken =
        taken_goes_on h n third.b third.is (pipe.TakingPipe reading writing) (pipe.MappingPipe reading writing) stands next (pipe_page reading)
        making_it made third_it.so_far.2 (λ q making not_yet. absurd (let contradiction : true ≡ false = sym making ∙ not_yet in cc))
        (undescribed_made h n third.b third.is (pipe.TakingPipe reading writing) stands (λ fd. refl)) last (record {
          is_in = in_with_words (words_at (number_of service.Pipe) (step.Piped (pipe.MappingPipe reading writing))) third_it.is_in;
          lowest = lowest_kept h n third.b third.is (pipe.TakingPipe reading writing) (pipe.MappingPipe reading writing) stands next
              (pipe_page reading) making_it made third_it.so_far.2 reading writing (made_none reading writing) third_it.lowest;
          so_far = (
            kept reading DEVICE_PIPE 0 (λ same. pipe_apart reading reading reading_below (sym same)) third_it.so_far.0,
            kept writing DEVICE_PIPE 1 (λ same. pipe_apart reading writing writing_below (sym same)) third_it.so_far.1,
            pipe_new h n third.b third.is (pipe.TakingPipe reading writing) (pipe.MappingPipe reading writing) stands next (pipe_page reading)
                making_it made third_it.so_far.2 reading refl,
          );
          none = none_kept h n third.b third.is (pipe.TakingPipe reading writing) (pipe.MappingPipe reading writing) stands next (pipe_page reading)
              making_it made third_it.so_far.2 (pipe_page writing) (λ same. omega (arith, same, order)) third_it.none;
        }) in_order
      where
        order : reading < writing
        order = third_it.lowest.order

        writing_below : writing < DESCRIPTORS
        writing_below = third_it.lowest.below

        reading_below : reading < DESCRIPTORS
        reading_below = omega (arith, order, writing_below)

        next : IsNextMade (pipe.TakingPipe reading writing) (pipe.MappingPipe reading writing)
        next = record { unlocked = refl; unlocked_after = refl; undropped = λ fd. refl; fewer = λ fd none. none }

        making_it : is_making (pipe.MappingPipe reading writing) (pipe_page reading) ≡ true
        making_it = making_pipe (pipe.MappingPipe reading writing) reading reading_below ∙ made_first reading writing

        kept : (fd device mode : ℕ) → descriptor_page fd ≢ pipe_page reading → TellsEnd (view_of s.spaces (slot_at s n).directory) fd device mode →
            TellsEnd (view_of sp (slot_at s n).directory) fd device mode
        kept =
            end_kept h n third.b third.is (pipe.TakingPipe reading writing) (pipe.MappingPipe reading writing) stands next (pipe_page reading)
            making_it made third_it.so_far.2

-- ---- the call

module _ (s : KernelState) (n va : ℕ) where
  abbrev pub make_asked : CallStep Called
  make_asked = system s n SYS_PAGE_ALLOC (0 ∷ va ∷ descriptor_perm ∷ 0 ∷ 0 ∷ [])

  -- whatever comes of it, the caller lives on
  pub make_lives : is_live (slot_at s n) ≡ true → LivesOn make_asked n (slot_at s n).registers
  make_lives live =
      let it = alloc_answers s n live 0 va descriptor_perm 0 0 in record { live = it.live; registers = it.registers; written = it.written }

  -- the page is made, or refused
  pub make_is : is_live (slot_at s n) ≡ true → is_page_address va ≡ true →
      PageMade s n va descriptor_perm make_asked ⊎ PageRefused s n va descriptor_perm make_asked
  make_is live address = page_made_or_refused s n va descriptor_perm (0 ∷ 0 ∷ []) live address refl

  pub make_holds : is_live (slot_at s n) ≡ true → is_page_address va ≡ true → (K : CallStep Called → Type 0) →
      ((made : PageMade s n va descriptor_perm make_asked) → K (giving (with_spaces s made.spaces) (Answered 0))) →
      K (giving (with_refusal s) (Answered (negated E_NO_MEM))) → K make_asked
  make_holds live address K made refused = elim (make_is live address) [
    | inl it ↦ subst K (sym it.step) (made it)
    | inr none ↦ subst K (sym none.step) refused
  ]

-- where it is refused, nothing is said of what follows
pub refusal_keeps : (done : Progress) (s : KernelState) (n : ℕ) (words : List ℕ) → KeepsStanding done n s (with_extra (with_refusal s) n words) []
refusal_keeps done s n words a h turn quiet = absurd (refusal_is_seen s (record { stays = quiet.stays; could = quiet.could }))

pub refusal_answers : (s : KernelState) (n word : ℕ) → KeepsStanding progress.Finished n s (service_answered (with_refusal s) n word) []
refusal_answers s n word a h turn quiet = absurd (refusal_is_seen s (record { stays = quiet.stays; could = quiet.could }))

-- and no state in which it gives back what it has made stands for an abstract one
pub undoing_writing : {names : Names} {s : KernelState} {a : AbstractState} → StandsFor names s a → (n reading writing error : ℕ) →
    place_of (slot_at s n) ≡ place.InService service.Pipe (step.Piped (pipe.UndoingWriting reading writing error)) → ⊥
undoing_writing h n reading writing error stands = (served h n service.Pipe (step.Piped (pipe.UndoingWriting reading writing error)) stands).at

pub undoing_reading : {names : Names} {s : KernelState} {a : AbstractState} → StandsFor names s a → (n reading error : ℕ) →
    place_of (slot_at s n) ≡ place.InService service.Pipe (step.Piped (pipe.UndoingReading reading error)) → ⊥
undoing_reading h n reading error stands = (served h n service.Pipe (step.Piped (pipe.UndoingReading reading error)) stands).at

-- ---- what the steps come to

module _ (s : KernelState) (n reading writing : ℕ) where
  -- the number of the page, which is bounded in the call
  numbered : {names : Names} {a : AbstractState} {t : SpacesState} → StandsFor names s a → (p q f : ℕ) → p ≡ q → IsInOrder (with_spaces s t) →
      allocated s.spaces (slot_at s n).directory p descriptor_perm ≡ Some (f, t) → Made s.spaces t (slot_at s n).directory q descriptor_perm
  numbered {t = t} h p q f same in_order is =
      subst (λ (r : ℕ). Made s.spaces t (slot_at s n).directory r descriptor_perm) same
      (allocated_made s.spaces t (slot_at s n).directory p descriptor_perm f h.in_order.frames in_order.frames refl is)

  pub taking_reading_keeps : place_of (slot_at s n) ≡ place.InService service.Pipe (step.Piped (pipe.TakingReading reading writing)) →
      (made : PageMade s n (descriptor_va reading) descriptor_perm (make_asked s n (descriptor_va reading))) → IsInOrder (with_spaces s made.spaces) →
      KeepsStanding progress.Hidden n s
      (with_extra (with_spaces s made.spaces) n (words_at (number_of service.Pipe) (step.Piped (pipe.StoringReading reading writing)))) []
  taking_reading_keeps stands made in_order a h turn quiet =
      let v = served h.1 n service.Pipe (step.Piped (pipe.TakingReading reading writing)) stands in
      let it : AreLowestFree (rows_of s.spaces (slot_at s n).directory) reading writing = v.at.lowest in
      let order = it.order in
      let below = it.below in (
        refl,
        (
          h.0,
          reading_taken h.1 n reading writing in_order turn.last stands
              (numbered h.1 (page_number (descriptor_va reading)) (descriptor_page reading) made.frame
              (descriptor_number reading ∙ ap descriptor_page (omega (arith, order, below))) in_order made.is),
        ),
      )

  pub taking_writing_keeps : place_of (slot_at s n) ≡ place.InService service.Pipe (step.Piped (pipe.TakingWriting reading writing)) →
      (made : PageMade s n (descriptor_va writing) descriptor_perm (make_asked s n (descriptor_va writing))) → IsInOrder (with_spaces s made.spaces) →
      KeepsStanding progress.Hidden n s
      (with_extra (with_spaces s made.spaces) n (words_at (number_of service.Pipe) (step.Piped (pipe.StoringWriting reading writing)))) []
  taking_writing_keeps stands made in_order a h turn quiet =
      let v = served h.1 n service.Pipe (step.Piped (pipe.TakingWriting reading writing)) stands in
      let it : AreLowestFree (rows_of s.spaces (slot_at s n).directory) reading writing = v.at.lowest in
      let below = it.below in (
        refl,
        (
          h.0,
          writing_taken h.1 n reading writing in_order turn.last stands
              (numbered h.1 (page_number (descriptor_va writing)) (descriptor_page writing) made.frame
              (descriptor_number writing ∙ ap descriptor_page (omega (arith, below))) in_order made.is),
        ),
      )

  pub taking_pipe_keeps : place_of (slot_at s n) ≡ place.InService service.Pipe (step.Piped (pipe.TakingPipe reading writing)) →
      (made : PageMade s n (pipe_va reading) descriptor_perm (make_asked s n (pipe_va reading))) → IsInOrder (with_spaces s made.spaces) →
      KeepsStanding progress.Hidden n s
      (with_extra (with_spaces s made.spaces) n (words_at (number_of service.Pipe) (step.Piped (pipe.MappingPipe reading writing)))) []
  taking_pipe_keeps stands made in_order a h turn quiet =
      let v = served h.1 n service.Pipe (step.Piped (pipe.TakingPipe reading writing)) stands in
      let it : AreLowestFree (rows_of s.spaces (slot_at s n).directory) reading writing = v.at.lowest in
      let order = it.order in
      let below = it.below in (
        refl,
        (
          h.0,
          pipe_taken h.1 n reading writing in_order turn.last stands
              (numbered h.1 (page_number (pipe_va reading)) (pipe_page reading) made.frame
              (pipe_number reading ∙ ap pipe_page (omega (arith, order, below))) in_order made.is),
        ),
      )
