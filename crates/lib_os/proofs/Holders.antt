-- Who holds an open file is told by how often the page of its place is mapped: beside the server whoever has a descriptor for it maps that, and
-- nobody else.
use Rattle.std.proofs.Common.{◌≡◌, ◌≢◌, ◌∙◌, ◌+◌, ◌-◌, ◌%◌, ◌<◌, ◌≤◌, ◌==◌, ◌||◌, inl, inr, ℕ, Bool, true, false, List, Option, Some, None}
use Rattle.std.proofs.Common.{refl, sym, ap, subst, arith}
use Rattle.std.specs.Prelude.{◌&&◌, if◌then◌else◌, is_some, nat_le, nat_lt}
use Rattle.std.specs.Option.{option_map}
use Rattle.std.proofs.lemmas.Bool.{cases_eq}
use Rattle.std.proofs.lemmas.Bool.Decides.{nat_tests}
use Rattle.std.proofs.lemmas.Option.{none-some, same_Some}
use Rattle.jos_base.specs.declared.numbers.TheConstants.{FDTABLE, NENV}
use Rattle.jos_base.specs.Counting.{Entries, frame_limit, named, page_count, page_limit}
use Rattle.jos_base.specs.Environments.{Slot, is_live}
use Rattle.jos_base.specs.KernelState.{KernelState, slot_at}
use Rattle.jos_base.specs.Reach.{Entry}
use Rattle.jos_base.specs.SpacesState.{Use, own_count, put, reference_count}
use Rattle.jos_base.specs.Words.{page_number}
use Rattle.jos_base.proofs.Below.{some_below-at}
use Rattle.jos_base.proofs.Counts.{named_is, page_count-none, page_count-put, page_count-some}
use Rattle.jos_base.proofs.Puts.{put-at, put-other}
use Rattle.lib_os.specs.declared.numbers.TheConstants.{DESCRIPTORS, MAXOPEN, REQUEST, PFTEMP}
use Rattle.lib_os.specs.declared.place.HandlerStep.TheVariants as handler
use Rattle.lib_os.specs.declared.place.PipeStep.{PipeStep}
use Rattle.lib_os.specs.declared.place.PipeStep.TheVariants as pipe
use Rattle.lib_os.specs.declared.place.Place.{Place}
use Rattle.lib_os.specs.declared.place.Place.TheVariants as place
use Rattle.lib_os.specs.declared.place.Step.TheVariants as step
use Rattle.lib_os.specs.declared.service.Service.{Service}
use Rattle.lib_os.specs.declared.service.Service.TheVariants as service
use Rattle.jos_base.specs.SystemCalls.{has_write}
use Rattle.lib_os.specs.AbstractState.{AbstractState, AbstractSlot, Born, Object, OpenFile, born, file, free, read_end, serving, terminal, unborn, own, named as named_page}
use Rattle.lib_os.specs.AbstractState.{write_end}
use Rattle.lib_os.specs.DescriptorPages.{HasObject, IsOpenFile, Things, number_of, place_page, HasPipe}
use Rattle.lib_os.specs.Descriptors.{holds_in, is_held, is_name}
use Rattle.lib_os.specs.FileServer.{is_held_by}
use Rattle.lib_os.specs.GuestStep.{born_in}
use Rattle.lib_os.specs.Rows.{IsNamed, MayBeHad, Names, ShowsBy, descriptor_page, is_of_descriptor, is_shared, lasting, rows_of, EntryRow, HasThing, as_cow, as_own, counted, cow_perm, descriptor_at, descriptor_seen, is_clients, is_making, is_pipe_page, logical, logical_by, makes, name_of, own_perm, page_by, pipe_page, shown_at, may_write}
use Rattle.lib_os.specs.StandsFor.{StandsFor, StandsForSlot, things_in, StandsAt, seen_unless, view_of}
use Rattle.lib_os.specs.PipeEnds.{is_dropped, is_made, is_on_its_way, pipe_named}
use Rattle.lib_os.specs.StandsAtPipe.{StandsAtPipe}
use Rattle.lib_os.specs.LibraryPages.{View}
use Rattle.lib_os.specs.AbstractRun.{pipe_of}
use Rattle.lib_os.specs.Places.{place_of}
use Rattle.lib_os.proofs.DescriptorLooks.{entry_bits, is_descriptors}
use Rattle.lib_os.proofs.EntriesCount.{Counts, entry_counts}
use Rattle.lib_os.proofs.EntryWords.{row_entry}
use Rattle.lib_os.proofs.FilesLeft.{name-same, named-so, some-passes}
use Rattle.lib_os.proofs.KeptPages.{beside_childs, descriptor_no_spawns}
use Rattle.lib_os.proofs.Logical.{clients_are, logical_live}
use Rattle.lib_os.proofs.SlotsStand.{born_at, born_live}
use Rattle.lib_os.proofs.StatesStand.{born_not_first, clients_live, ends_at}
use Rattle.lib_os.proofs.Children.{IsOfParent, of_parent}

-- ---- how often a frame is named

named_self : (x : Entry) → named x.frame (Some x) ≡ 1
named_self x = let same : (x.frame == x.frame) ≡ true = grind (arith, nat_tests) in rw same refl

module _ (entries : Entries) (d p : ℕ) (x : Entry) (below_d : d < frame_limit) (below_p : p < page_limit) (there : entries d p ≡ Some x) where
  abbrev rest : Entries
  rest = put entries d p None

  -- it is named here, and by the others
  and_others : page_count rest x.frame + 1 ≡ page_count entries x.frame
  and_others =
      let law : page_count rest x.frame + named x.frame (entries d p) ≡ page_count entries x.frame + 0 =
      page_count-put entries d p None x.frame below_d below_p in
      let one : named x.frame (entries d p) ≡ 1 = ap (named x.frame) there ∙ named_self x in
      omega (arith, law, one)

  -- another names it
  twice_named : (q r : ℕ) (y : Entry) → q < frame_limit → r < page_limit → entries q r ≡ Some y → y.frame ≡ x.frame →
      (q ≡ d → r ≡ p → ⊥) → 2 ≤ page_count entries x.frame
  twice_named q r y below_q below_r is same other =
      let some : 1 ≤ page_count rest y.frame =
      page_count-some rest q r y below_q below_r (put-other entries d p None q r other ∙ is) in
      let one : 1 ≤ page_count rest x.frame = subst (λ (f : ℕ). 1 ≤ page_count rest f) same some in
      let all = and_others in
      omega (arith, one, all)

  -- none does
  once_named : ((q r : ℕ) (y : Entry) → entries q r ≡ Some y → y.frame ≡ x.frame → (q ≡ d → r ≡ p → ⊥) → ⊥) → page_count entries x.frame ≡ 1
  once_named none =
      let zero_ : page_count rest x.frame ≡ 0 = page_count-none rest x.frame others in
      let all = and_others in
      omega (arith, zero_, all)
    where
      not_named : (q r : ℕ) (o : Option Entry) → entries q r ≡ o → (q ≡ d → r ≡ p → ⊥) → named x.frame o ≡ 0
      not_named q r None is other = refl
      not_named q r (Some y) is other = elim (named_is x.frame y) [
        | inl here ↦ absurd (none q r y is (sym here.0) other)
        | inr off ↦ off.1
      ]

      beside : (q r : ℕ) → (q ≡ d → r ≡ p → ⊥) → named x.frame (rest q r) ≡ 0
      beside q r other = ap (named x.frame) (put-other entries d p None q r other) ∙ not_named q r (entries q r) refl other

      others : (q r : ℕ) → named x.frame (rest q r) ≡ 0
      others q r = elim (cases_eq q d) [
        | inl one ↦ elim (cases_eq r p) [
          | inl two ↦ ap (named x.frame) ((λ i. rest (one i) (two i)) ∙ put-at entries d p None)
          | inr ne ↦ beside q r (λ here too. ne too)
        ]
        | inr ne ↦ beside q r (λ here too. ne here)
      ]

-- ---- who holds a file

-- an environment has this descriptor for it
record Holder (a : AbstractState) (name : ℕ) : Type 0 where
  slot : ℕ
  small : slot < NENV
  b : Born
  at : a.slots slot ≡ born b
  fd : ℕ
  names_it : b.descriptors fd ≡ Some name

holder_of : (a : AbstractState) (name : ℕ) → is_held a name ≡ true → Holder a name
holder_of a name held =
    let found = some-passes NENV (λ n. holds_in (born_in (a.slots n)) name) held in
    by_slot found.0 found.1 (a.slots found.0) refl found.2
  where
    by_slot : (n : ℕ) → n < NENV → (slot : AbstractSlot) → a.slots n ≡ slot → holds_in (born_in slot) name ≡ true → Holder a name
    by_slot n small (free id) at has = absurd (let contradiction : false ≡ true = has in cc)
    by_slot n small (unborn id parent) at has = absurd (let contradiction : false ≡ true = has in cc)
    by_slot n small (serving id) at has = absurd (let contradiction : false ≡ true = has in cc)
    by_slot n small (born b) at has =
        let fd = some-passes DESCRIPTORS (λ k. is_name (b.descriptors k) name) has in
        record { slot = n; small = small; b = b; at = at; fd = fd.0; names_it = named-so (b.descriptors fd.0) name fd.2 }

held_so : (a : AbstractState) (n : ℕ) (b : Born) (fd name : ℕ) → n < NENV → a.slots n ≡ born b → fd < DESCRIPTORS →
    b.descriptors fd ≡ Some name → is_held a name ≡ true
held_so a n b fd name small at below is =
    some_below-at (λ k. holds_in (born_in (a.slots k)) name) NENV n small
    (ap (λ (slot : AbstractSlot). holds_in (born_in slot) name) at
    ∙ some_below-at (λ k. is_name (b.descriptors k) name) DESCRIPTORS fd below (ap (λ (o : Option ℕ). is_name o name) is ∙ name-same name))

-- ---- a descriptor and its page

-- what stands at a descriptor's page which is dropped, and at that of its pipe
record IsDropped (v : View) (fd : ℕ) : Type 0 where
  below : fd < DESCRIPTORS
  none : v.row (descriptor_page fd) ≡ None
  pipes : is_some (v.row (pipe_page fd)) ≡ true

dropped_at : (s : Service) (at : ℕ) (v : View) (k : Slot) (b : Born) → StandsAtPipe v k b s (pipe.DroppingPipe at) → IsDropped v at
dropped_at (service.Close fd) at v k b so =
    subst (λ (q : ℕ). IsDropped v q) (sym so.1) (record { below = so.2; none = so.3; pipes = so.4 })
dropped_at service.Exit at v k b so = record { below = so.0.below; none = so.1; pipes = so.2 }
dropped_at (service.Dup old new) at v k b so =
    subst (λ (q : ℕ). IsDropped v q) (sym so.1) (record { below = so.0.duplicating.new_below; none = so.2; pipes = so.3 })
dropped_at _ at v k b so = absurd so

dropped_so : (at : Place) (v : View) (k : Slot) (b : Born) → StandsAt at v k b → (fd : ℕ) → is_dropped at fd ≡ true → IsDropped v fd
dropped_so (place.InService s (step.Piped (pipe.DroppingPipe at))) v k b so fd is =
    let same : at ≡ fd = grind (arith, nat_tests, is) in subst (λ (q : ℕ). IsDropped v q) same (dropped_at s at v k b so)
dropped_so _ v k b so fd is = absurd (let contradiction : false ≡ true = is in cc)

-- none is made that is dropped
made_undropped : (at : Place) (fd : ℕ) → is_made at fd ≡ true → is_dropped at fd ≡ false
made_undropped (place.InService service.Pipe (step.Piped (pipe.DroppingPipe at))) fd is = absurd (let contradiction : false ≡ true = is in cc)
made_undropped (place.InService service.Pipe (step.Piped _)) fd is = refl
made_undropped _ fd is = absurd (let contradiction : false ≡ true = is in cc)

-- one that is made counts as its maker's own
making_own : (at : PipeStep) (row : EntryRow) (fd : ℕ) (entry : Entry) → fd < DESCRIPTORS →
    (if is_making at (descriptor_page fd) then option_map as_own (row (descriptor_page fd)) else row (descriptor_page fd)) ≡ Some entry →
    is_shared entry.perm ≡ true → makes at fd ≡ false
making_own at row fd entry below is shared_page = by_test (makes at fd) refl
  where
    by_row : (o : Option Entry) → option_map as_own o ≡ Some entry → ⊥
    by_row None none = none-some entry none
    by_row (Some x) some =
        let perm : own_perm ≡ entry.perm = ap (λ (y : Entry). y.perm) (same_Some (as_own x) entry some) in
        let contradiction : false ≡ true = ap is_shared perm ∙ shared_page in cc

    by_test : (c : Bool) → makes at fd ≡ c → makes at fd ≡ false
    by_test false off = off
    by_test true on =
        let page : is_of_descriptor (descriptor_page fd) ≡ true = grind (arith, nat_tests) in
        let number : descriptor_at (descriptor_page fd) ≡ fd = omega (arith, below) in
        let making : is_making at (descriptor_page fd) ≡ true = (λ i. page i && makes at (number i)) ∙ on in
        absurd (by_row (row (descriptor_page fd))
        (sym (ap (λ (c : Bool). if c then option_map as_own (row (descriptor_page fd)) else row (descriptor_page fd)) making) ∙ is))

counted_unmade : (at : Place) (row : EntryRow) (fd : ℕ) (entry : Entry) → fd < DESCRIPTORS → counted at row (descriptor_page fd) ≡ Some entry →
    is_shared entry.perm ≡ true → is_made at fd ≡ false
unfolding counted
counted_unmade (place.InService service.Pipe (step.Piped at)) row fd entry below is shared_page = making_own at row fd entry below is shared_page
counted_unmade _ row fd entry below is shared_page = refl

pub logical_unmade : (c : Bool) (at : Place) (row : EntryRow) (fd : ℕ) (entry : Entry) → fd < DESCRIPTORS →
    logical_by c (counted at row) (descriptor_page fd) ≡ Some entry → is_shared entry.perm ≡ true → is_made at fd ≡ false
logical_unmade true at row fd entry below is shared_page = counted_unmade at row fd entry below is shared_page
logical_unmade false at row fd entry below is shared_page = absurd (none-some entry is)

-- one that stands shared, and is not made, counts as it stands
counted_shared : (at : Place) (row : EntryRow) (fd : ℕ) (x : Entry) → fd < DESCRIPTORS → row (descriptor_page fd) ≡ Some x →
    is_shared x.perm ≡ true → is_made at fd ≡ false → counted at row (descriptor_page fd) ≡ Some x
unfolding counted
counted_shared (place.InHandler (handler.Unmapping va)) row fd x below is shared_page unmade =
    let other : (descriptor_page fd == page_number PFTEMP) ≡ false = grind (arith, nat_tests) in
    ap (λ (c : Bool). if c then None else row (descriptor_page fd)) other ∙ is
counted_shared (place.InService service.Fork (step.Remap id page)) row fd x below is shared_page unmade = by_test (descriptor_page fd == page)
  where
    by_test : (c : Bool) → (if c then option_map as_cow (row (descriptor_page fd)) else row (descriptor_page fd)) ≡ Some x
    by_test true =
        ap (λ (o : Option Entry). option_map as_cow o) is ∙ ap (λ (c : Bool). Some (if c then x else record x { perm = cow_perm })) shared_page
    by_test false = is
counted_shared (place.InService service.Pipe (step.Piped at)) row fd x below is shared_page unmade =
    let number : descriptor_at (descriptor_page fd) ≡ fd = omega (arith, below) in
    let off : makes at (descriptor_at (descriptor_page fd)) ≡ false = ap (λ (q : ℕ). makes at q) number ∙ unmade in
    let page : is_of_descriptor (descriptor_page fd) ≡ true = grind (arith, nat_tests) in
    let making : is_making at (descriptor_page fd) ≡ false = λ i. page i && off i in
    ap (λ (c : Bool). if c then option_map as_own (row (descriptor_page fd)) else row (descriptor_page fd)) making ∙ is
counted_shared (place.InService (service.Spawn path argv) (step.Spawning at)) row fd x below is shared_page unmade =
    let page : is_of_descriptor (descriptor_page fd) ≡ true = grind (arith, nat_tests) in
    ap (λ (c : Bool). if c then None else row (descriptor_page fd))
    (beside_childs at (descriptor_page fd) (descriptor_no_spawns (descriptor_page fd) page))
    ∙ is
counted_shared _ row fd x below is shared_page unmade = is

module _ {names : Names} {s : KernelState} {a : AbstractState} (h : StandsFor names s a) (n : ℕ) (b : Born) (at : a.slots n ≡ born b) (fd : ℕ) where
  abbrev its_row : EntryRow
  its_row = rows_of s.spaces (slot_at s n).directory

  its_drop : is_dropped (place_of (slot_at s n)) fd ≡ true → IsDropped (view_of s.spaces (slot_at s n).directory) fd
  its_drop = dropped_so (place_of (slot_at s n)) (view_of s.spaces (slot_at s n).directory) (slot_at s n) b (born_at h n b at).at fd

  -- it is what is seen of its page, where it is not made and not dropped
  seen_one : is_made (place_of (slot_at s n)) fd ≡ false → is_dropped (place_of (slot_at s n)) fd ≡ false →
      b.descriptors fd ≡ descriptor_seen names s.spaces (slot_at s n).directory fd
  seen_one unmade undropped =
      (born_at h n b at).descriptors fd undropped
      ∙ ap (λ (c : Bool). seen_unless c (descriptor_seen names s.spaces (slot_at s n).directory fd)) unmade

  -- one whose page stands, which is not made, names the page's frame
  pub stands_named : (x : Entry) → fd < DESCRIPTORS → its_row (descriptor_page fd) ≡ Some x → is_made (place_of (slot_at s n)) fd ≡ false →
      b.descriptors fd ≡ Some (names.name x.frame)
  stands_named x below is unmade =
      let test : nat_lt fd DESCRIPTORS ≡ true = grind (arith, nat_tests) in
      let shared_page : is_shared x.perm ≡ true = ap is_shared (entry_bits h n b at fd x below is) in
      seen_one unmade (undropped (is_dropped (place_of (slot_at s n)) fd) refl)
      ∙ ap (λ (c : Bool). if c then name_of (shown_at names s.spaces (slot_at s n).directory (descriptor_page fd)) else None) test
      ∙ ap (λ (o : Option Entry). name_of (option_map (page_by names s.spaces.pages) o)) is
      ∙ ap (λ (c : Bool). name_of (Some (if c then named_page (names.name x.frame) (has_write x.perm) else own (s.spaces.pages x.frame) (may_write x.perm))))
      shared_page
    where
      undropped : (c : Bool) → is_dropped (place_of (slot_at s n)) fd ≡ c → is_dropped (place_of (slot_at s n)) fd ≡ false
      undropped false off = off
      undropped true on = absurd (none-some x (sym (its_drop on).none ∙ is))

  -- one that names something is not made
  named_unmade : (name : ℕ) → b.descriptors fd ≡ Some name → is_made (place_of (slot_at s n)) fd ≡ false
  named_unmade name has = by_test (is_made (place_of (slot_at s n)) fd) refl
    where
      by_test : (c : Bool) → is_made (place_of (slot_at s n)) fd ≡ c → is_made (place_of (slot_at s n)) fd ≡ false
      by_test false off = off
      by_test true on =
          absurd (none-some name (sym
          ((born_at h n b at).descriptors fd (made_undropped (place_of (slot_at s n)) fd on)
          ∙ ap (λ (c : Bool). seen_unless c (descriptor_seen names s.spaces (slot_at s n).directory fd)) on) ∙ has))

  -- one that names a file is not dropped: what is dropped is an end of a pipe
  file_undropped : (name : ℕ) (f : OpenFile) → b.descriptors fd ≡ Some name → a.objects name ≡ file f → is_dropped (place_of (slot_at s n)) fd ≡ false
  file_undropped name f has is = by_test (is_dropped (place_of (slot_at s n)) fd) refl
    where
      on_way : (at : Place) → is_dropped at fd ≡ true → is_on_its_way at fd ≡ false
      on_way (place.InService service.Pipe (step.Piped (pipe.DroppingPipe other))) on = refl
      on_way (place.InService s (step.Piped (pipe.DroppingPipe other))) on = refl
      on_way _ on = absurd (let contradiction : false ≡ true = on in cc)

      by_row : is_dropped (place_of (slot_at s n)) fd ≡ true → (o : Option Entry) → its_row (pipe_page fd) ≡ o → is_some o ≡ true → ⊥
      by_row on None lies some = let contradiction : false ≡ true = some in cc
      by_row on (Some entry) lies some =
          let found = (ends_at h n b at).only fd entry (its_drop on).below (on_way (place_of (slot_at s n)) on) lies in
          let same : found.0 ≡ name = same_Some found.0 name (sym found.1 ∙ has) in
          none-some (names.name entry.frame)
          (sym (ap (λ (o : Object). pipe_of (Some o)) is) ∙ ap (λ (m : ℕ). pipe_named a.objects m) (sym same) ∙ found.2)

      by_test : (c : Bool) → is_dropped (place_of (slot_at s n)) fd ≡ c → is_dropped (place_of (slot_at s n)) fd ≡ false
      by_test false off = off
      by_test true on = absurd (by_row on (its_row (pipe_page fd)) refl (its_drop on).pipes)

  -- so the page of one that names a file stands
  row_of_file : (name : ℕ) (f : OpenFile) → b.descriptors fd ≡ Some name → a.objects name ≡ file f →
      (fd < DESCRIPTORS) × (x : Entry) × (its_row (descriptor_page fd) ≡ Some x) × (names.name x.frame ≡ name)
  row_of_file name f has is = by_test (nat_lt fd DESCRIPTORS) refl
    where
      unmade : is_made (place_of (slot_at s n)) fd ≡ false
      unmade = named_unmade name has

      seen : b.descriptors fd ≡ descriptor_seen names s.spaces (slot_at s n).directory fd
      seen = seen_one unmade (file_undropped name f has is)

      by_row : fd < DESCRIPTORS → (o : Option Entry) → its_row (descriptor_page fd) ≡ o →
          (fd < DESCRIPTORS) × (x : Entry) × (its_row (descriptor_page fd) ≡ Some x) × (names.name x.frame ≡ name)
      by_row below None none =
          let test : nat_lt fd DESCRIPTORS ≡ true = grind (arith, nat_tests) in
          absurd (none-some name (sym (seen
          ∙ ap (λ (c : Bool). if c then name_of (shown_at names s.spaces (slot_at s n).directory (descriptor_page fd)) else None) test
          ∙ ap (λ (o : Option Entry). name_of (option_map (page_by names s.spaces.pages) o)) none) ∙ has))
      by_row below (Some x) stands = (below, x, stands, same_Some (names.name x.frame) name (sym (stands_named x below stands unmade) ∙ has))

      by_test : (c : Bool) → nat_lt fd DESCRIPTORS ≡ c →
          (fd < DESCRIPTORS) × (x : Entry) × (its_row (descriptor_page fd) ≡ Some x) × (names.name x.frame ≡ name)
      by_test true test = by_row (grind (arith, nat_tests)) (its_row (descriptor_page fd)) refl
      by_test false test =
          absurd (none-some name (sym (seen
          ∙ ap (λ (c : Bool). if c then name_of (shown_at names s.spaces (slot_at s n).directory (descriptor_page fd)) else None) test) ∙ has))

-- ---- the page of a place

pub second_so : (t u : Bool) → u ≡ true → t || u ≡ true
second_so true u is = refl
second_so false u is = is

-- A place is held by this name, for which an environment has a descriptor.
pub record HeldAs (a : AbstractState) (number name : ℕ) : Type 0 where
  pub by : (a.opened number).held_by ≡ Some name
  pub held : is_held a name ≡ true

module _ {names : Names} {s : KernelState} {a : AbstractState} (h : StandsFor names s a) (number : ℕ) (e : Entry) (below : number < MAXOPEN)
    (there : s.spaces.entries (slot_at s 0).directory (place_page number) ≡ Some e) where
  abbrev home : ℕ
  home = (slot_at s 0).directory

  row_of_entry : (d p : ℕ) (x : Entry) → s.spaces.entries d p ≡ Some x → rows_of s.spaces d p ≡ Some (lasting x)
  unfolding rows_of
  row_of_entry d p x is = ap (λ (o : Option Entry). option_map lasting o) is

  row_there : rows_of s.spaces home (place_page number) ≡ Some (lasting e)
  row_there = row_of_entry home (place_page number) e there

  no_request : (place_page number == page_number REQUEST) ≡ false
  no_request = grind (arith, nat_tests)

  -- ---- whoever else maps it holds the file

  -- what stands at the page of a descriptor in the space of a client's slot is that of an environment's descriptor: its own, or its parent's
  module _ (m p : ℕ) (x : Entry) (live : is_live (slot_at s m) ≡ true) (descriptor : is_of_descriptor p ≡ true) (no_pipe : is_pipe_page p ≡ false) where
    abbrev fd : ℕ
    fd = p - page_number FDTABLE

    fd_below : fd < DESCRIPTORS
    fd_below = grind (arith, nat_tests)

    fd_page : descriptor_page fd ≡ p
    fd_page = grind (arith, nat_tests)

    its_holder : (n : ℕ) (b : Born) → n < NENV → a.slots n ≡ born b → is_made (place_of (slot_at s n)) fd ≡ false →
        rows_of s.spaces (slot_at s n).directory p ≡ Some x → is_held a (names.name x.frame) ≡ true
    its_holder n b small at unmade is =
        held_so a n b fd (names.name x.frame) small at fd_below
        (stands_named h n b at fd x fd_below (ap (rows_of s.spaces (slot_at s n).directory) fd_page ∙ is) unmade)

    -- where it counts as shared, its slot does not make it
    unmade_here : (entry : Entry) → logical s.spaces s.environments.slots m p ≡ Some entry → is_shared entry.perm ≡ true →
        is_made (place_of (slot_at s m)) fd ≡ false
    unmade_here entry counts shared_page =
        logical_unmade (is_clients m (slot_at s m)) (place_of (slot_at s m)) (rows_of s.spaces (slot_at s m).directory) fd entry fd_below
        (ap (logical s.spaces s.environments.slots m) fd_page ∙ counts) shared_page

    pub by_slot : is_made (place_of (slot_at s m)) fd ≡ false → 0 ≢ m → (slot : AbstractSlot) → a.slots m ≡ slot → rows_of s.spaces (slot_at s m).directory p ≡ Some x → StandsForSlot names s.spaces (slot_at s m) slot →
        is_held a (names.name x.frame) ≡ true
    by_slot unmade other (free id) at is k = absurd (let contradiction : false ≡ true = sym (ap (λ (j : Slot). is_live j) k) ∙ live in cc)
    by_slot unmade other (serving id) at is k =
        absurd (other (sym (sym (h.tabled.ids m live) ∙ ap (λ (i : ℕ). i % NENV) (k.id_is ∙ k.first))))
    by_slot unmade other (born b) at is k =
        let small : m < NENV = let named_by = h.tabled.ids m live in omega (arith, named_by) in its_holder m b small at unmade is
    by_slot unmade other (unborn id parent) at is k =
        by_passed (c.passed p) refl
      where
        c : IsOfParent s.spaces (slot_at s (parent % NENV)) (a.slots (parent % NENV)) (slot_at s m) id parent
        c = of_parent (h.children.borne m id parent at)

        by_passed : (t : Bool) → c.passed p ≡ t → is_held a (names.name x.frame) ≡ true
        by_passed true passed =
            its_holder (parent % NENV) c.b (omega arith) c.born_by (c.unmade fd) (sym (c.handed p descriptor passed) ∙ is)
        by_passed false off = absurd (none-some x (sym (c.rest p descriptor off) ∙ is))

  pub other_entry : (d p : ℕ) (x : Entry) → s.spaces.entries d p ≡ Some x → x.frame ≡ e.frame → d ≢ home →
      (name : ℕ) × HeldAs a number name
  other_entry d p x is same other =
      by_pipe (is_pipe_page found.page) refl
    where
      found : Counts s a d p (lasting x)
      found = entry_counts h d p (lasting x) other (row_of_entry d p x is)

      things : Things
      things = things_in s a

      name : ℕ
      name = names.name found.entry.frame

      bytes : List ℕ
      bytes = s.spaces.pages found.entry.frame

      same_frame : found.entry.frame ≡ e.frame
      same_frame = found.frame ∙ same

      had : MayBeHad false found.page found.entry
      had =
          subst (λ (c : Bool). MayBeHad c found.page found.entry) no_request
          (h.beside found.slot found.page (place_page number) found.entry (lasting e) found.counts row_there same_frame)

      named_so : IsNamed names s.spaces.pages a.shared things a.next_name found.page found.entry.frame
      named_so = h.named found.slot found.page found.entry found.counts had.shared

      kind : names.is_object name ≡ true
      kind = named_so.kind ∙ had.descriptor

      at_page : found.page ≡ p
      at_page = found.itself (by_test (is_shared (lasting x).perm) refl)
        where
          by_test : (c : Bool) → is_shared (lasting x).perm ≡ c → is_shared (lasting x).perm ≡ true
          by_test true shared_page = shared_page
          by_test false own_page = absurd (let contradiction : false ≡ true = sym (found.own own_page) ∙ had.shared in cc)

      shows : HasThing things name found.entry.frame (names.is_pipe name) bytes
      shows = subst (λ (c : Bool). ShowsBy things name found.entry.frame c (names.is_pipe name) (a.shared name) bytes) kind named_so.shows

      held : is_pipe_page found.page ≡ false → is_held a name ≡ true
      held no_pipe =
          let client = clients_are found.slot (slot_at s found.slot) found.client in
          let row : rows_of s.spaces (slot_at s found.slot).directory p ≡ Some (lasting x) =
          ap (λ (q : ℕ). rows_of s.spaces q p) (found.shared_home had.shared) ∙ row_of_entry d p x is in
          ap (λ (f : ℕ). is_held a (names.name f)) found.frame
          ∙ (let descriptor : is_of_descriptor p ≡ true = ap is_of_descriptor (sym at_page) ∙ had.descriptor in
          let none : is_pipe_page p ≡ false = ap is_pipe_page (sym at_page) ∙ no_pipe in
          by_slot found.slot p (lasting x) found.live descriptor none
          (unmade_here found.slot p (lasting x) found.live descriptor none found.entry
          (ap (logical s.spaces s.environments.slots found.slot) (sym at_page) ∙ found.counts) had.shared) client.0 (a.slots found.slot) refl row
          (h.slots found.slot))

      by_object : is_pipe_page found.page ≡ false → (object : Object) → HasObject things name found.entry.frame object bytes → (n : ℕ) × HeldAs a number n
      by_object no_pipe terminal is = absurd (is.apart (place_page number) (lasting e) row_there (sym same_frame))
      by_object no_pipe (file f) is =
          let at = h.server.alone (number_of bytes) (place_page number) is.entry (lasting e) is.below is.stands row_there (is.same ∙ same_frame) in
          let its_number : number_of bytes ≡ number = omega (arith, at) in
          (name, record { by = ap (λ (k : ℕ). (a.opened k).held_by) (sym its_number) ∙ is.held; held = held no_pipe })
      by_object no_pipe (read_end pipe) is = absurd (is.apart (place_page number) (lasting e) row_there (sym same_frame))
      by_object no_pipe (write_end pipe) is = absurd (is.apart (place_page number) (lasting e) row_there (sym same_frame))

      by_pipe : (c : Bool) → is_pipe_page found.page ≡ c → (n : ℕ) × HeldAs a number n
      by_pipe true pipes =
          let is : HasPipe things name found.entry.frame bytes =
          subst (λ (c : Bool). HasThing things name found.entry.frame c bytes) (named_so.of_pipe ∙ pipes) shows in
          absurd (is.apart (place_page number) (lasting e) row_there (sym same_frame))
      by_pipe false no_pipe =
          by_object no_pipe (a.objects name) (subst (λ (c : Bool). HasThing things name found.entry.frame c bytes) (named_so.of_pipe ∙ no_pipe) shows)

  -- whatever maps it beside the server's page
  any_other : (d p : ℕ) (x : Entry) → s.spaces.entries d p ≡ Some x → x.frame ≡ e.frame → (d ≡ home → p ≡ place_page number → ⊥) →
      (name : ℕ) × HeldAs a number name
  any_other d p x is same other = elim (cases_eq d home) [
    | inl servers ↦
        let row : rows_of s.spaces home p ≡ Some (lasting x) = ap (λ (q : ℕ). rows_of s.spaces q p) (sym servers) ∙ row_of_entry d p x is in
        absurd (other servers (h.server.alone number p (lasting e) (lasting x) below row_there row (sym same)))
    | inr ne ↦ other_entry d p x is same ne
  ]

  -- ---- whoever holds the file maps it

  module _ (name : ℕ) (f : OpenFile) (is : a.objects name ≡ file f)
      (alone : (other : ℕ) → (a.opened other).held_by ≡ Some name → number ≡ other) (held : is_held a name ≡ true) where
    abbrev has : Holder a name
    has = holder_of a name held

    abbrev seen : (has.fd < DESCRIPTORS) × (x : Entry) × (rows_of s.spaces (slot_at s has.slot).directory (descriptor_page has.fd) ≡ Some x)
        × (names.name x.frame ≡ name)
    seen = row_of_file h has.slot has.b has.at has.fd name f has.names_it is

    abbrev x : Entry
    x = seen.1

    holder_live : is_live (slot_at s has.slot) ≡ true
    holder_live = born_live (born_at h has.slot has.b has.at)

    server_live : is_live (slot_at s 0) ≡ true
    server_live = (subst (λ (slot : AbstractSlot). StandsForSlot names s.spaces (slot_at s 0) slot) h.first (h.slots 0)).lives

    elsewhere : (slot_at s has.slot).directory ≢ home
    elsewhere same =
        born_not_first h has.slot has.b has.at (sym (h.in_order.spaces.apart has.slot 0 holder_live server_live same))

    x_shared : is_shared x.perm ≡ true
    x_shared = ap is_shared (entry_bits h has.slot has.b has.at has.fd x seen.0 seen.2)

    counts : logical s.spaces s.environments.slots has.slot (descriptor_page has.fd) ≡ Some x
    counts =
        logical_live s.spaces s.environments.slots has.slot (clients_live h has.slot has.b has.at) (descriptor_page has.fd)
        ∙ counted_shared (place_of (slot_at s has.slot)) (rows_of s.spaces (slot_at s has.slot).directory) has.fd x seen.0 seen.2 x_shared
        (named_unmade h has.slot has.b has.at has.fd name has.names_it)

    named_so : IsNamed names s.spaces.pages a.shared (things_in s a) a.next_name (descriptor_page has.fd) x.frame
    named_so = h.named has.slot (descriptor_page has.fd) x counts x_shared

    name_is : names.name x.frame ≡ name
    name_is = seen.3

    kind : names.is_object (names.name x.frame) ≡ true
    kind = named_so.kind ∙ is_descriptors has.fd seen.0

    no_pipe : names.is_pipe (names.name x.frame) ≡ false
    no_pipe =
        let below : has.fd < DESCRIPTORS = seen.0 in
        let page : is_pipe_page (descriptor_page has.fd) ≡ false = grind (arith, nat_tests, below) in named_so.of_pipe ∙ page

    open_file : IsOpenFile (things_in s a) name x.frame f (s.spaces.pages x.frame)
    open_file =
        subst (λ (o : Object). HasObject (things_in s a) name x.frame o (s.spaces.pages x.frame)) is
        (subst (λ (n : ℕ). HasObject (things_in s a) n x.frame (a.objects n) (s.spaces.pages x.frame)) name_is
        (subst (λ (c : Bool). HasThing (things_in s a) (names.name x.frame) x.frame c (s.spaces.pages x.frame)) no_pipe
        (subst
        (λ (c : Bool). ShowsBy (things_in s a) (names.name x.frame) x.frame c (names.is_pipe (names.name x.frame)) (a.shared (names.name x.frame))
        (s.spaces.pages x.frame)) kind named_so.shows)))

    same_frame : x.frame ≡ e.frame
    same_frame =
        let its_number = alone (number_of (s.spaces.pages x.frame)) open_file.held in
        let entry_is : open_file.entry ≡ lasting e =
        same_Some open_file.entry (lasting e)
        (sym (ap (λ (k : ℕ). rows_of s.spaces home (place_page k)) its_number ∙ open_file.stands) ∙ row_there) in
        sym open_file.same ∙ ap (λ (y : Entry). y.frame) entry_is

    mapped_twice : 2 ≤ page_count s.spaces.entries e.frame
    mapped_twice =
        let raw = row_entry s.spaces (slot_at s has.slot).directory (descriptor_page has.fd) x seen.2 in
        let here = h.in_order.frames.within home (place_page number) e there in
        let at = h.in_order.frames.within (slot_at s has.slot).directory (descriptor_page has.fd) raw.0 raw.1 in
        twice_named s.spaces.entries home (place_page number) e here.0 here.1 there (slot_at s has.slot).directory (descriptor_page has.fd) raw.0
        at.0 at.1 raw.1 (ap (λ (y : Entry). y.frame) raw.2 ∙ same_frame) (λ same too. elsewhere same)

  -- ---- so it is told

  mapped_once : ((name : ℕ) → HeldAs a number name → ⊥) → page_count s.spaces.entries e.frame ≡ 1
  mapped_once nobody =
      let here = h.in_order.frames.within home (place_page number) e there in
      once_named s.spaces.entries home (place_page number) e here.0 here.1 there
      (λ q r y is same other. let it = any_other q r y is same other in nobody it.0 it.1)

  counts_only : reference_count s.spaces e.frame ≡ page_count s.spaces.entries e.frame
  counts_only =
      let own : own_count (s.spaces.uses e.frame) ≡ 0 =
      ap (λ (u : Use). own_count u) (h.in_order.frames.pages home (place_page number) e there) in
      omega (arith, own)

  told_true : 2 ≤ page_count s.spaces.entries e.frame → true ≡ nat_le 2 (reference_count s.spaces e.frame)
  told_true more = let counts = counts_only in let it : 2 ≤ reference_count s.spaces e.frame = omega (arith, more, counts) in grind (arith, nat_tests)

  told_false : page_count s.spaces.entries e.frame ≡ 1 → false ≡ nat_le 2 (reference_count s.spaces e.frame)
  told_false one = ap (λ (n : ℕ). nat_le 2 n) (sym one ∙ sym counts_only)

  -- The file of the place is held where its page is mapped twice: what is held there is a file, which has no other place.
  pub held_told : ((name : ℕ) → (a.opened number).held_by ≡ Some name → is_held a name ≡ true → (f : OpenFile) × (a.objects name ≡ file f)) →
      ((other name : ℕ) → (a.opened number).held_by ≡ Some name → (a.opened other).held_by ≡ Some name → number ≡ other) →
      is_held_by a (a.opened number).held_by ≡ nat_le 2 (reference_count s.spaces e.frame)
  held_told files alone = by_holder (a.opened number).held_by refl
    where
      by_held : (name : ℕ) → (a.opened number).held_by ≡ Some name → (t : Bool) → is_held a name ≡ t →
          t ≡ nat_le 2 (reference_count s.spaces e.frame)
      by_held name by true held =
          let it = files name by held in
          told_true (mapped_twice name it.0 it.1 (λ other so. alone other name by so) held)
      by_held name by false off =
          told_false (mapped_once (λ other so.
          let same : other ≡ name = same_Some other name (sym so.by ∙ by) in
          let contradiction : false ≡ true = sym off ∙ ap (is_held a) (sym same) ∙ so.held in cc))

      by_holder : (o : Option ℕ) → (a.opened number).held_by ≡ o → is_held_by a o ≡ nat_le 2 (reference_count s.spaces e.frame)
      by_holder None by = told_false (mapped_once (λ other so. none-some other (sym by ∙ so.by)))
      by_holder (Some name) by = by_held name by (is_held a name) refl
