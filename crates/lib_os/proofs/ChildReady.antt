-- A child that has all its pages is given the stack of its handler of page faults, and then the handler. The state stands for the same
-- abstract one as before: it is not seen of a child that is not born.
use Rattle.std.proofs.Common.{◌≡◌, ◌≢◌, ◌∙◌, ◌==◌, ◌%◌, ◌+◌, ◌/◌, ◌&&◌, ◌||◌, ℕ, Bool, true, false, List, Some, None, refl, sym, ap, subst, arith}
use Rattle.std.specs.Prelude.{is_some}
use Rattle.std.proofs.lemmas.Bool.Decides.{nat_tests}
use Rattle.std.proofs.lemmas.Option.{none-some, same_Some}
use Rattle.jos_base.specs.declared.numbers.TheConstants.{FDTABLE, NENV, NPTENTRIES, PTE_P, PTE_U, PTE_W, USTACKTOP, UTEMP}
use Rattle.jos_base.specs.Environments.{Slot, is_live as is_live_slot}
use Rattle.jos_base.specs.KernelState.{KernelState, slot_at, with_extra, with_slot_at, with_spaces, with_upcall}
use Rattle.jos_base.specs.Reach.{Entry}
use Rattle.jos_base.specs.SpacesState.{SpacesState, put}
use Rattle.jos_base.specs.Words.{page_number, upd}
use Rattle.lib_os.specs.declared.numbers.TheConstants.{PGFAULT_UPCALL, SERVICE_FORK, UXSTACK}
use Rattle.lib_os.specs.declared.place.Place.TheVariants as place
use Rattle.lib_os.specs.declared.place.Step.{Step}
use Rattle.lib_os.specs.declared.place.Step.TheVariants as step
use Rattle.lib_os.specs.declared.service.Service.TheVariants as service
use Rattle.lib_os.specs.AbstractMemory.{has_page_in}
use Rattle.lib_os.specs.AbstractState.{AbstractState}
use Rattle.lib_os.specs.DescriptorPages.{lasting_words}
use Rattle.lib_os.specs.InOrder.{IsInOrder}
use Rattle.lib_os.specs.LibraryPages.{is_library_region, region_index}
use Rattle.lib_os.specs.Places.{place_of, words_at}
use Rattle.lib_os.specs.Rows.{EntryRow, IsPage, IsUsers, Names, counted, is_of_descriptor, is_programs, is_shared, logical}
use Rattle.lib_os.specs.Rows.{page_seen, rows_of}
use Rattle.lib_os.specs.StandsFor.{StandsFor, StandsForBorn, StandsForUnborn, things_in}
use Rattle.lib_os.proofs.Bearing.{IsBearer, IsChild, bearer, bearing_stands, of_slots, others_count_too, parent_not_first, child_not_first}
use Rattle.lib_os.proofs.BearingCounts.{live_counts, parent_lives, child_lives, child_place, spaces_apart, parent_counted, child_counted}
use Rattle.lib_os.proofs.BearingCounts.{parent_counts, child_counts, other_counts}
use Rattle.lib_os.proofs.Effects.{Made}
use Rattle.lib_os.proofs.EntriesStand.{PutsRow, named_bytes, put_is, rows_put, rows_same, rows_stand, seen_at}
use Rattle.lib_os.proofs.GoesDown.{bearing_moves, moved, moved_place, own_moved}
use Rattle.lib_os.proofs.GoingOn.{in_with_words}
use Rattle.lib_os.proofs.Logical.{counted_plain, logical_some, programs_beside}
use Rattle.lib_os.proofs.PageBytes.{zero_page_whole}
use Rattle.lib_os.proofs.PagesStand.{other_regions, row_elsewhere, row_placed}
use Rattle.lib_os.proofs.Slots.{slot_kept}
use Rattle.lib_os.proofs.SlotsStand.{SeenAlike, born_stands, counts_unpiped, is_piped}
use Rattle.lib_os.proofs.StatesStand.{others_counts, slot_in_order}
use Rattle.jos_base.proofs.Maps.{upd-at, upd-other}
use Rattle.jos_base.proofs.Puts.{Elsewhere}

-- ---- entries count as they stand

unremapped_stack : (id : ℕ) (row : EntryRow) (p : ℕ) → counted (place.InService service.Fork (step.ChildStack id)) row p ≡ row p
unfolding counted
unremapped_stack id row p = refl

unremapped_upcall : (id : ℕ) (row : EntryRow) (p : ℕ) → counted (place.InService service.Fork (step.ChildUpcall id)) row p ≡ row p
unfolding counted
unremapped_upcall id row p = refl

unremapped_runs : (id : ℕ) (row : EntryRow) (p : ℕ) → counted (place.InService service.Fork (step.ChildRuns id)) row p ≡ row p
unfolding counted
unremapped_runs id row p = refl

-- ---- the handler

module _ {names : Names} {s : KernelState} {a : AbstractState} (h : StandsFor names s a) (n id : ℕ)
    (stands : place_of (slot_at s n) ≡ place.InService service.Fork (step.ChildUpcall id)) where
  abbrev m : ℕ
  m = id % NENV

  abbrev next : Step
  next = step.ChildRuns id

  v : IsBearer names s a n (step.ChildUpcall id) id
  v = bearer h n (step.ChildUpcall id) id stands refl

  abbrev parent : Slot
  parent = slot_at s n

  abbrev after : Slot
  after = moved parent next

  abbrev handled : Slot
  handled = record (slot_at s m) { upcall = PGFAULT_UPCALL }

  -- nothing is seen of spaces
  same_spaces : (d : ℕ) → SeenAlike names names s.spaces s.spaces d
  same_spaces d = record {
    rows = refl;
    bytes = λ p x is own_page. refl;
    named_so = λ p x is shared_page. refl;
    devices = λ p x descriptor is shared_page. refl;
    pipes = λ p x pipes is shared_page. refl;
    regions = λ r. refl;
  }

  has_handler : IsChild names s.spaces after v.b next handled
  has_handler = record {
    registers = v.child.registers;
    upcall = refl;
    passed = λ p inside on. v.child.passed p inside refl;
    handed = λ p is on. v.child.handed p is refl;
    rest = λ p inside off. absurd (let contradiction : true ≡ false = off in cc);
    library = record {
      stack = λ on. v.child.library.stack refl;
      no_stack = λ off. absurd (let contradiction : true ≡ false = off in cc);
      none = v.child.library.none;
    };
    tables = v.child.tables;
  }

  still_unborn : StandsForUnborn handled id v.b.id
  still_unborn = record {
    id_is = v.child_own.id_is;
    id_small = v.child_own.id_small;
    parent_is = v.child_own.parent_is;
    env_type = v.child_own.env_type;
    status = v.child_own.status;
    silent = v.child_own.silent;
    words = v.child_own.words;
    stack = v.child_own.stack;
  }

  abbrev slots_after : ℕ → Slot
  slots_after = upd (upd s.environments.slots m handled) n after

  counts : (j p : ℕ) → logical s.spaces slots_after j p ≡ logical s.spaces s.environments.slots j p
  counts =
      of_slots n m (λ j. (p : ℕ) → logical s.spaces slots_after j p ≡ logical s.spaces s.environments.slots j p)
      (λ p. live_counts s.spaces slots_after n after (place.InService service.Fork next) (upd-at (upd s.environments.slots m handled) n after)
      (parent_not_first h v) (parent_lives h n id (step.ChildUpcall id) v) (moved_place parent (step.ChildUpcall id) next stands) p
      ∙ unremapped_runs id (rows_of s.spaces parent.directory) p
      ∙ sym (unremapped_upcall id (rows_of s.spaces parent.directory) p)
      ∙ sym (parent_counted h n id (step.ChildUpcall id) v p))
      (λ p. live_counts s.spaces slots_after m handled place.Guest
      (upd-other (upd s.environments.slots m handled) n after m v.apart ∙ upd-at s.environments.slots m handled)
      (child_not_first h v) (child_lives h n id (step.ChildUpcall id) v) (child_place h n id (step.ChildUpcall id) v) p
      ∙ counted_plain place.Guest (rows_of s.spaces handled.directory) refl p
      ∙ sym (child_counted h n id (step.ChildUpcall id) v p))
      (λ j ne apart. others_count_too h n id (step.ChildUpcall id) next v after handled refl refl (λ d other beside. same_spaces d) j ne apart)

  abbrev state : KernelState
  state = with_slot_at s m handled

  parent_kept : slot_at state n ≡ parent
  parent_kept = slot_kept s m handled n (λ same. v.apart (sym same))

  pub handler_set_stands : StandsFor names (with_extra (with_upcall s m PGFAULT_UPCALL) n (words_at SERVICE_FORK next)) a
  handler_set_stands =
      subst (λ (x : Slot). StandsFor names (with_slot_at state n (record x { extra = words_at SERVICE_FORK next })) a) (sym parent_kept)
      (bearing_stands h n id (step.ChildUpcall id) next v after handled refl refl (λ d other beside. same_spaces d)
      (record { id = refl; env_type = refl; turns = refl; calm = λ runs. runs }) (record { id = refl; env_type = refl; turns = refl; calm = λ runs. runs })
      (moved_place parent (step.ChildUpcall id) next stands) refl
      (own_moved parent (step.ChildUpcall id) next stands refl refl v.own (in_with_words (words_at SERVICE_FORK next) v.stands)) still_unborn has_handler
      (rows_same (logical s.spaces s.environments.slots) (logical s.spaces slots_after) counts (rows_stand h))
      (slot_in_order state n after (ap (λ (x : Slot). is_live_slot x) (sym parent_kept)) (ap (λ (x : Slot). x.directory) (sym parent_kept))
      (slot_in_order s m handled refl refl h.in_order)) (λ j ne piped runs fd x y below is lies device. (refl, refl)) (λ p is. refl) (λ q p x is. refl))

-- ---- the stack

-- the bits of its page
abbrev pub stack_bits : ℕ
stack_bits = PTE_P + PTE_U + PTE_W

abbrev pub stack_page : ℕ
stack_page = page_number UXSTACK

stack_user : IsUsers stack_bits
stack_user = record { page = refl; copied = λ is. absurd (let contradiction : false ≡ true = is in cc) }

-- it is no descriptor's
no_stack : (p : ℕ) → is_of_descriptor p ≡ true → p ≢ stack_page
no_stack p is same = let contradiction : true ≡ false = sym is ∙ ap is_of_descriptor same in cc

-- its region is one of the library's
stack_region : (r : ℕ) → (r == stack_page / NPTENTRIES) ≡ true → is_library_region r ≡ true
stack_region r is = last ((r == region_index UTEMP) || (r == region_index FDTABLE)) (r == region_index USTACKTOP) is
  where
    last : (c t : Bool) → t ≡ true → (c || t) ≡ true
    last true t on = refl
    last false t on = on

module _ {names : Names} {s : KernelState} {a : AbstractState} {sp : SpacesState} (h : StandsFor names s a) (n id : ℕ)
    (stands : place_of (slot_at s n) ≡ place.InService service.Fork (step.ChildStack id))
    (made : Made s.spaces sp (slot_at s (id % NENV)).directory stack_page stack_bits) (in_order : IsInOrder (with_spaces s sp))
    (last : s.last ≡ Some n) where
  abbrev from : Step
  from = step.ChildStack id

  abbrev to : Step
  to = step.ChildUpcall id

  u : IsBearer names s a n from id
  u = bearer h n from id stands refl

  abbrev mother : Slot
  mother = slot_at s n

  abbrev child : Slot
  child = slot_at s (id % NENV)

  abbrev d : ℕ
  d = child.directory

  abbrev new_entry : Entry
  new_entry = record { frame = made.frame; perm = stack_bits }

  stood_none : rows_of s.spaces d stack_page ≡ None
  stood_none = u.child.library.no_stack refl

  -- what stood anywhere stands there, and keeps its bytes
  rows_beside : (q r : ℕ) → Elsewhere q r d stack_page → rows_of sp q r ≡ rows_of s.spaces q r
  rows_beside q r ne = row_elsewhere made.placed q r ne

  rows_kept : (q r : ℕ) (x : Entry) → rows_of s.spaces q r ≡ Some x → rows_of sp q r ≡ Some x
  rows_kept q r x hx =
      rows_beside q r (λ same too. none-some x (sym stood_none ∙ (λ i. rows_of s.spaces (sym same i) (sym too i)) ∙ hx)) ∙ hx

  bytes_kept : (q r : ℕ) (x : Entry) → rows_of s.spaces q r ≡ Some x → sp.pages x.frame ≡ s.spaces.pages x.frame
  bytes_kept q r x hx = made.placed.bytes q r x (rows_kept q r x hx) (made.new q r x hx)

  others_alike : (q : ℕ) → q ≢ d → SeenAlike names names s.spaces sp q
  others_alike q ne = record {
    rows = λ i r. rows_beside q r (λ same too. ne same) i;
    bytes = λ r x hx own_page. bytes_kept q r x hx;
    named_so = λ r x hx shared_page. refl;
    devices = λ r x descriptor hx shared_page. ap lasting_words (bytes_kept q r x hx);
    pipes = λ r x pipes hx shared_page. bytes_kept q r x hx;
    regions = λ r. other_regions made.placed q r ne;
  }

  mine : StandsForBorn names sp (moved mother to) u.b
  mine =
      own_moved mother from to stands refl refl (born_stands mother u.b (others_alike mother.directory (spaces_apart h n id from u))
      (counts_unpiped s.spaces sp mother (ap is_piped stands)) u.own)
      (in_with_words (words_at SERVICE_FORK to) u.stands)

  has_stack : IsChild names sp mother u.b to child
  has_stack = record {
    registers = u.child.registers;
    upcall = u.child.upcall;
    passed = passed;
    handed = handed;
    rest = λ p inside off. absurd (let contradiction : true ≡ false = off in cc);
    library = record {
      stack = λ on. record { entry = new_entry; stands = row_placed made.placed; own_page = refl; writes = refl };
      no_stack = λ off. absurd (let contradiction : true ≡ false = off in cc);
      none = λ p outside no_descriptor other. rows_beside d p (λ same too. other too) ∙ u.child.library.none p outside no_descriptor other;
    };
    tables = λ r is. by_region r (r == stack_page / NPTENTRIES) refl (sym (table_is r) ∙ is);
  }
    where
      passed : (p : ℕ) → is_programs p ≡ true → true ≡ true → page_seen names sp d p ≡ u.b.memory p
      passed p inside on =
          seen_at names names s.spaces sp d p (rows_beside d p (λ same too. (programs_beside p inside).1 too))
          (λ x hx own_page. bytes_kept d p x hx) (λ x hx shared_page. refl)
          ∙ u.child.passed p inside refl

      handed : (p : ℕ) → is_of_descriptor p ≡ true → true ≡ true → rows_of sp d p ≡ rows_of sp mother.directory p
      handed p is on =
          rows_beside d p (λ same too. no_stack p is too)
          ∙ u.child.handed p is refl
          ∙ sym (rows_beside mother.directory p (λ same too. spaces_apart h n id from u same))

      here : (d == d) ≡ true
      here = grind (arith, nat_tests)

      table_is : (r : ℕ) → is_some (sp.regions d r) ≡ ((r == stack_page / NPTENTRIES) || is_some (s.spaces.regions d r))
      table_is r = made.placed.regions d r ∙ ap (λ (c : Bool). (c && (r == stack_page / NPTENTRIES)) || is_some (s.spaces.regions d r)) here

      or_true : (c t : Bool) → t ≡ true → (c || t) ≡ true
      or_true true t on = refl
      or_true false t on = on

      by_region : (r : ℕ) (c : Bool) → (r == stack_page / NPTENTRIES) ≡ c → (c || is_some (s.spaces.regions d r)) ≡ true →
          (has_page_in u.b.memory r || is_library_region r) ≡ true
      by_region r true test is = or_true (has_page_in u.b.memory r) (is_library_region r) (stack_region r test)
      by_region r false test is = u.child.tables r is

  -- ---- entries as they count

  abbrev before : ℕ → EntryRow
  before = logical s.spaces s.environments.slots

  abbrev behind : ℕ → EntryRow
  behind = logical sp (upd s.environments.slots n (moved mother to))

  stack_counts : (j p : ℕ) → behind j p ≡ put before (id % NENV) stack_page (Some new_entry) j p
  stack_counts =
      put_is before behind (id % NENV) stack_page (Some new_entry) (child_counts h n id from u sp to stack_page ∙ row_placed made.placed)
      (λ j q ne. there j q ne)
    where
      there : (j q : ℕ) → Elsewhere j q (id % NENV) stack_page → behind j q ≡ before j q
      there =
          of_slots n (id % NENV) (λ j. (q : ℕ) → Elsewhere j q (id % NENV) stack_page → behind j q ≡ before j q)
          (λ q ne. parent_counts h n id from u sp to q
          ∙ unremapped_upcall id (rows_of sp mother.directory) q
          ∙ rows_beside mother.directory q (λ same too. spaces_apart h n id from u same)
          ∙ sym (unremapped_stack id (rows_of s.spaces mother.directory) q)
          ∙ sym (parent_counted h n id from u q))
          (λ q ne. child_counts h n id from u sp to q ∙ rows_beside d q (λ same too. ne refl too) ∙ sym (child_counted h n id from u q))
          (λ j other apart q ne. other_counts h n id from u sp to j other
          (λ live. (others_alike (slot_at s j).directory
          (λ same. apart (h.in_order.spaces.apart j (id % NENV) live (child_lives h n id from u) same))).rows) q)

  counted_bytes : (j q : ℕ) (x : Entry) → before j q ≡ Some x → sp.pages x.frame ≡ s.spaces.pages x.frame
  counted_bytes j q x hx =
      let found = (logical_some s.spaces s.environments.slots j q x hx).1 in
      subst (λ (f : ℕ). sp.pages f ≡ s.spaces.pages f) found.frame (bytes_kept _ q found.entry found.stands)

  stack_row : PutsRow names names s.spaces.pages a.shared sp.pages a.shared (things_in s a) a.next_name a.next_name before (id % NENV) stack_page
      (Some new_entry)
  stack_row = record {
    bytes = λ j q x ne hx. counted_bytes j q x hx;
    agree = λ j q x e ne hx is same.
        let found = (logical_some s.spaces s.environments.slots j q x hx).1 in
        absurd (made.new _ q found.entry found.stands (found.frame ∙ same ∙ ap (λ (y : Entry). y.frame) (sym (same_Some new_entry e is))));
    user = λ e is. subst (λ (y : Entry). IsUsers y.perm) (same_Some new_entry e is) stack_user;
    whole = λ e is. subst (λ (y : Entry). IsPage (sp.pages y.frame)) (same_Some new_entry e is)
        (subst (λ (page : List ℕ). IsPage page) (sym made.zero) zero_page_whole);
    beside = λ q e y is at same.
        absurd (made.new (slot_at s 0).directory q y at (sym same ∙ ap (λ (x : Entry). x.frame) (sym (same_Some new_entry e is))));
    named_new = λ e is shared_page.
        let contradiction : false ≡ true = ap (λ (y : Entry). is_shared y.perm) (same_Some new_entry e is) ∙ shared_page in cc;
    named_old = λ j q x ne hx shared_page was. named_bytes (sym (counted_bytes j q x hx)) was;
  }

  pub stack_made_stands : StandsFor names (with_extra (with_spaces s sp) n (words_at SERVICE_FORK to)) a
  stack_made_stands =
      bearing_moves h n id from to u refl sp (λ q ne beside. others_alike q beside) mine has_stack
      (rows_same (put before (id % NENV) stack_page (Some new_entry)) behind stack_counts (rows_put (rows_stand h) stack_row)) in_order
      (others_counts h n last sp) (λ p is. rows_beside mother.directory p (λ same too. spaces_apart h n id from u same)) bytes_kept
