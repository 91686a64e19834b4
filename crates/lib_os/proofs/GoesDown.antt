-- How fork goes down: a child that has the pages from one on and none below it, where fork goes on behind a page that is done, and that
-- the state stands for the same abstract one where only the parent's words are those of another step.
use Rattle.std.proofs.Common.{◌≡◌, ◌≢◌, ◌∙◌, ◌==◌, ◌+◌, ◌-◌, ◌*◌, ◌/◌, ◌%◌, ◌<◌, ◌≤◌, ◌||◌, ℕ, Bool, true, false, not, Some, None, Option}
use Rattle.std.proofs.Common.{is_some, refl, sym, ap, subst, arith, if◌then◌else◌}
use Rattle.std.specs.Prelude.{nat_le, nat_lt}
use Rattle.std.specs.Option.{option_map}
use Rattle.std.proofs.lemmas.Bool.Decides.{nat_tests}
use Rattle.std.proofs.lemmas.Bool.{eqb-true, eqb-false}
use Rattle.jos_base.specs.declared.numbers.TheConstants.{NENV, NPTENTRIES, PGSIZE, UTEMP}
use Rattle.jos_base.specs.declared.registers.Regs.{Regs}
use Rattle.jos_base.specs.Environments.{Slot}
use Rattle.jos_base.specs.KernelState.{KernelState, slot_at, with_extra, with_slot_at, with_spaces}
use Rattle.jos_base.specs.Reach.{Entry}
use Rattle.jos_base.specs.SpacesState.{SpacesState}
use Rattle.jos_base.specs.Words.{page_number, upd}
use Rattle.lib_os.specs.declared.numbers.TheConstants.{PFTEMP, SERVICE_FORK, UXSTACK}
use Rattle.lib_os.specs.declared.place.Place.{Place}
use Rattle.lib_os.specs.declared.place.Place.TheVariants as place
use Rattle.lib_os.specs.declared.place.Step.{Step}
use Rattle.lib_os.specs.declared.place.Step.TheVariants as step
use Rattle.lib_os.specs.declared.service.Service.{Service}
use Rattle.lib_os.specs.declared.service.Service.TheVariants as service
use Rattle.lib_os.specs.AbstractMemory.{has_page_in}
use Rattle.lib_os.specs.AbstractState.{AbstractState, Born}
use Rattle.lib_os.specs.Fence.{in_fence}
use Rattle.lib_os.specs.InOrder.{IsInOrder}
use Rattle.lib_os.specs.LibraryPages.{has_copy, has_working, is_library_region, has_spawns}
use Rattle.lib_os.specs.Places.{place_of, words_at}
use Rattle.lib_os.specs.Rows.{Names, EntryRow, counted, lasting, rows_of, logical, page_seen, is_of_descriptor, is_pipe_page, is_programs}
use Rattle.lib_os.specs.StandsFor.{StandsFor, StandsForBorn, StandsAt, StandsAtStep, IsBearing, view_of, upcall_at}
use Rattle.lib_os.specs.StandsFor.{borne_at, is_passed, has_stack, child_upcall, things_in, top_page}
use Rattle.lib_os.proofs.Bearing.{IsBearer, IsChild, bearing_stands, borne_calm}
use Rattle.lib_os.proofs.EntriesStand.{RowsStand, rows_same, rows_stand, seen_none}
use Rattle.lib_os.proofs.Fences.{fence_below}
use Rattle.lib_os.proofs.Numbered.{named_at}
use Rattle.lib_os.proofs.PipesStand.{descriptors_turned, is_calm, is_calm_step}
use Rattle.lib_os.proofs.Serving.{library_moved, pages_kept}
use Rattle.lib_os.proofs.Slots.{slot_back, upd-back}
use Rattle.lib_os.proofs.SlotsStand.{CountsKept, SeenAlike}
use Rattle.lib_os.proofs.StatesStand.{CountsAlike, set_counts, slot_in_order}
use Rattle.lib_os.proofs.WordsTell.{outside_stack, place_at}

-- ---- a child that has the pages from one on

pub record HasFrom (names : Names) (s : SpacesState) (parent : Slot) (b : Born) (page : ℕ) (k : Slot) : Type 0 where
  pub registers : k.registers ≡ record parent.registers { eax = 0 }
  pub upcall : k.upcall ≡ 0
  pub passed : (p : ℕ) → is_programs p ≡ true → page ≤ p → page_seen names s k.directory p ≡ b.memory p
  pub handed : (p : ℕ) → is_of_descriptor p ≡ true → page ≤ p → rows_of s k.directory p ≡ rows_of s parent.directory p
  pub rest : (p : ℕ) → is_programs p || is_of_descriptor p ≡ true → p < page → rows_of s k.directory p ≡ None
  pub none : (p : ℕ) → is_programs p ≡ false → is_of_descriptor p ≡ false → rows_of s k.directory p ≡ None
  pub tables : (r : ℕ) → is_some (s.regions k.directory r) ≡ true → has_page_in b.memory r || is_library_region r ≡ true

-- the least page that is passed on at a step
abbrev pub lowest : Step → ℕ
lowest (step.ForkRegion id region) = (region + 1) * NPTENTRIES
lowest (step.ForkEntry id page) = page + 1
lowest (step.MapChild id page perm) = page + 1
lowest (step.Remap id page) = page
lowest _ = 0

is_from : (q p : ℕ) → q ≤ p → nat_le q p ≡ true
is_from q p from = grind (arith, nat_tests)

is_below : (q p : ℕ) → p < q → nat_le q p ≡ false
is_below q p below = grind (arith, nat_tests)

from_is : (q p : ℕ) → nat_le q p ≡ true → q ≤ p
from_is q p on = grind (arith, nat_tests)

below_is : (q p : ℕ) → nat_le q p ≡ false → p < q
below_is q p off = grind (arith, nat_tests)

above_from : (page p : ℕ) → nat_lt page p ≡ nat_le (page + 1) p
above_from page p = by_test (nat_le (page + 1) p) refl
  where
    by_test : (c : Bool) → nat_le (page + 1) p ≡ c → nat_lt page p ≡ c
    by_test true is = grind (arith, nat_tests)
    by_test false is = grind (arith, nat_tests)

every : (p : ℕ) → true ≡ nat_le 0 p
every p = sym (is_from 0 p (omega arith))

passed_from : (at : Step) (p : ℕ) → is_passed at p ≡ nat_le (lowest at) p
passed_from step.Entered p = every p
passed_from (step.Trying perm) p = every p
passed_from (step.Pausing perm) p = every p
passed_from step.ReadingRegion p = every p
passed_from step.ReadingEntry p = every p
passed_from (step.Receiving id) p = every p
passed_from (step.ReadingValue id) p = every p
passed_from (step.ReadingSender id value) p = every p
passed_from (step.ReadingPerm id value sender) p = every p
passed_from (step.ForkRegion id region) p = refl
passed_from (step.ForkEntry id page) p = above_from page p
passed_from (step.MapChild id page perm) p = above_from page p
passed_from (step.Remap id page) p = refl
passed_from (step.ChildStack id) p = every p
passed_from (step.ChildUpcall id) p = every p
passed_from (step.ChildRuns id) p = every p
passed_from (step.Undoing id error) p = every p
passed_from (step.DescriptorEntry fd) p = every p
passed_from step.TargetEntry p = every p
passed_from (step.DroppingDescriptor fd) p = every p
passed_from step.MappingDescriptor p = every p
passed_from step.Ending p = every p
passed_from step.ReadingDevice p = every p
passed_from (step.BufferRegion done word) p = every p
passed_from (step.BufferEntry done word) p = every p
passed_from step.TakingPage p = every p
passed_from (step.Gathering done) p = every p
passed_from (step.Keeping done word left) p = every p
passed_from step.Printing p = every p
passed_from step.Releasing p = every p
passed_from step.Getting p = every p
passed_from (step.Delivering done word) p = every p
passed_from (step.Faulting done word) p = every p
passed_from (step.Asking id) p = every p
passed_from (step.Awaiting id) p = every p
passed_from (step.ReadingReply id) p = every p
passed_from step.Identifying p = every p
passed_from (step.Clearing id) p = every p
passed_from step.ReadingMode p = every p
passed_from step.ReadingNumber p = every p
passed_from (step.StoringNumber number) p = every p
passed_from step.StoringCount p = every p
passed_from step.TakingRequest p = every p
passed_from (step.GatheringBytes done start) p = every p
passed_from (step.KeepingBytes done word left start) p = every p
passed_from (step.CountingReply id) p = every p
passed_from (step.FileRegion done count) p = every p
passed_from (step.FileEntry done count) p = every p
passed_from (step.LoadingBytes done count) p = every p
passed_from (step.LoadingRest done count first) p = every p
passed_from (step.PuttingBytes done count word) p = every p
passed_from (step.FileFaulting done count) p = every p
passed_from (step.Returning answer) p = every p
passed_from step.FreeRegion p = every p
passed_from (step.FreeEntry fd) p = every p
passed_from (step.StoringMode fd) p = every p
passed_from (step.OpenIdentifying fd) p = every p
passed_from (step.OpenAsking id fd) p = every p
passed_from (step.OpenPausing id fd) p = every p
passed_from (step.OpenAwaiting id fd) p = every p
passed_from (step.OpenClearing id fd) p = every p
passed_from (step.ReadingOpened id fd) p = every p
passed_from (step.Piped at) p = every p
passed_from (step.Spawning at) p = every p

stack_kept : is_programs (page_number UXSTACK) ≡ false
unfolding in_fence
stack_kept = refl

stack_no_descriptor : is_of_descriptor (page_number UXSTACK) ≡ false
stack_no_descriptor = refl

-- fork passes on the pages of a program, and those of its descriptors
pub programs_handed : (p : ℕ) → is_programs p ≡ true → is_programs p || is_of_descriptor p ≡ true
programs_handed p inside = ap (λ (c : Bool). c || is_of_descriptor p) inside

pub descriptor_handed : (p : ℕ) → is_of_descriptor p ≡ true → is_programs p || is_of_descriptor p ≡ true
descriptor_handed p descriptor = ap (λ (c : Bool). is_programs p || c) descriptor ∙ by_test (is_programs p)
  where
    by_test : (c : Bool) → c || true ≡ true
    by_test true = refl
    by_test false = refl

module _ {names : Names} {s : SpacesState} {parent : Slot} {b : Born} {k : Slot} where
  -- a child at a step at which it has neither the stack of its handler nor the handler
  pub has_from : (at : Step) → has_stack at ≡ false → child_upcall at ≡ 0 → IsChild names s parent b at k → HasFrom names s parent b (lowest at) k
  has_from at no_stack no_handler h = record {
    registers = h.registers;
    upcall = h.upcall ∙ no_handler;
    passed = λ p inside from. h.passed p inside (passed_from at p ∙ is_from (lowest at) p from);
    handed = λ p descriptor from. h.handed p descriptor (passed_from at p ∙ is_from (lowest at) p from);
    rest = λ p inside below. h.rest p inside (passed_from at p ∙ is_below (lowest at) p below);
    none = none;
    tables = h.tables;
  }
    where
      none : (p : ℕ) → is_programs p ≡ false → is_of_descriptor p ≡ false → rows_of s k.directory p ≡ None
      none p outside no_descriptor = by_stack (p == page_number UXSTACK) refl
        where
          by_stack : (c : Bool) → (p == page_number UXSTACK) ≡ c → rows_of s k.directory p ≡ None
          by_stack true is = ap (rows_of s k.directory) (eqb-true p (page_number UXSTACK) is) ∙ h.library.no_stack no_stack
          by_stack false is = h.library.none p outside no_descriptor (eqb-false p (page_number UXSTACK) is)

  pub is_child : (at : Step) → has_stack at ≡ false → child_upcall at ≡ 0 → HasFrom names s parent b (lowest at) k → IsChild names s parent b at k
  is_child at no_stack no_handler h = record {
    registers = h.registers;
    upcall = h.upcall ∙ sym no_handler;
    passed = λ p inside on. h.passed p inside (from_is (lowest at) p (sym (passed_from at p) ∙ on));
    handed = λ p descriptor on. h.handed p descriptor (from_is (lowest at) p (sym (passed_from at p) ∙ on));
    rest = λ p inside off. h.rest p inside (below_is (lowest at) p (sym (passed_from at p) ∙ off));
    library = record {
      stack = λ on. absurd (let contradiction : true ≡ false = sym on ∙ no_stack in cc);
      no_stack = λ off. h.none (page_number UXSTACK) stack_kept stack_no_descriptor;
      none = λ p outside no_descriptor other. h.none p outside no_descriptor;
    };
    tables = h.tables;
  }

  -- Pages are passed over where the parent has none.
  pub passes_over : (from page : ℕ) → page ≤ from → ((p : ℕ) → is_programs p ≡ true → page ≤ p → p < from → b.memory p ≡ None) →
      ((p : ℕ) → is_of_descriptor p ≡ true → page ≤ p → p < from → rows_of s parent.directory p ≡ None) →
      HasFrom names s parent b from k → HasFrom names s parent b page k
  passes_over from page below nothing none_open h = record {
    registers = h.registers;
    upcall = h.upcall;
    passed = passed;
    handed = handed;
    rest = λ p inside lower. h.rest p inside (omega (arith, lower, below));
    none = h.none;
    tables = h.tables;
  }
    where
      passed : (p : ℕ) → is_programs p ≡ true → page ≤ p → page_seen names s k.directory p ≡ b.memory p
      passed p inside at_least = by_test (nat_le from p) refl
        where
          by_test : (c : Bool) → nat_le from p ≡ c → page_seen names s k.directory p ≡ b.memory p
          by_test true is = h.passed p inside (from_is from p is)
          by_test false is =
              let lower = below_is from p is in
              seen_none names s k.directory p (h.rest p (programs_handed p inside) lower) ∙ sym (nothing p inside at_least lower)

      handed : (p : ℕ) → is_of_descriptor p ≡ true → page ≤ p → rows_of s k.directory p ≡ rows_of s parent.directory p
      handed p descriptor at_least = by_test (nat_le from p) refl
        where
          by_test : (c : Bool) → nat_le from p ≡ c → rows_of s k.directory p ≡ rows_of s parent.directory p
          by_test true is = h.handed p descriptor (from_is from p is)
          by_test false is =
              let lower = below_is from p is in
              h.rest p (descriptor_handed p descriptor) lower ∙ sym (none_open p descriptor at_least lower)

  pub passes_page : (page : ℕ) → (is_programs page ≡ true → b.memory page ≡ None) →
      (is_of_descriptor page ≡ true → rows_of s parent.directory page ≡ None) →
      HasFrom names s parent b (page + 1) k → HasFrom names s parent b page k
  passes_page page nothing none_open =
      passes_over (page + 1) page (omega arith)
      (λ p inside at_least lower. let here : p ≡ page = omega (arith, at_least, lower) in
      ap b.memory here ∙ nothing (ap is_programs (sym here) ∙ inside))
      (λ p descriptor at_least lower. let here : p ≡ page = omega (arith, at_least, lower) in
      ap (rows_of s parent.directory) here ∙ none_open (ap is_of_descriptor (sym here) ∙ descriptor))

-- ---- pages that the parent has not

-- the pages that a program may have have lesser numbers than those on which fork does not look
pub programs_below : (p : ℕ) → is_programs p ≡ true → p < top_page
programs_below p inside = let below = fence_below (p * PGSIZE) PGSIZE inside in omega (arith, below)

-- and so have those of descriptors
pub descriptors_below : (p : ℕ) → is_of_descriptor p ≡ true → p < top_page
descriptors_below p descriptor = grind (arith, nat_tests)

-- no entry stands in a region that has no table
pub no_row : (s : KernelState) (d p : ℕ) → IsInOrder s → is_some (s.spaces.regions d (p / NPTENTRIES)) ≡ false → rows_of s.spaces d p ≡ None
unfolding rows_of
no_row s d p in_order none = by_entry (s.spaces.entries d p) refl
  where
    by_entry : (o : Option Entry) → s.spaces.entries d p ≡ o → option_map lasting o ≡ None
    by_entry None is = refl
    by_entry (Some e) is = absurd (let contradiction : true ≡ false = sym (in_order.frames.regions d p e is) ∙ none in cc)

-- so no page is seen there
pub no_table : (names : Names) (s : KernelState) (d p : ℕ) → IsInOrder s → is_some (s.spaces.regions d (p / NPTENTRIES)) ≡ false →
    page_seen names s.spaces d p ≡ None
no_table names s d p in_order none = seen_none names s.spaces d p (no_row s d p in_order none)

-- ---- where fork goes on behind a page

-- at the page below it, or at the region below, or, behind the least page of all, at the child's stack
abbrev pub step_below : ℕ → ℕ → Step
step_below id page =
    if not (page % NPTENTRIES == 0) then step.ForkEntry id (page - 1)
    else if not (page / NPTENTRIES == 0) then step.ForkRegion id (page / NPTENTRIES - 1)
    else step.ChildStack id

-- What is so of the child and of its parent at a step of fork; there entries count as they stand.
pub record IsOnWay (names : Names) (s : SpacesState) (parent : Slot) (b : Born) (id : ℕ) (k : Slot) (next : Step) (after : Slot) : Type 0 where
  pub bears : borne_at next ≡ Some id
  pub has : IsChild names s parent b next k
  pub stands : StandsAtStep (view_of s parent.directory) after b service.Fork next
  pub plain : (row : EntryRow) (p : ℕ) → counted (place.InService service.Fork next) row p ≡ row p

module _ {names : Names} {s : SpacesState} {parent : Slot} {b : Born} {k : Slot} (id page : ℕ) (after : Slot) (bearing : IsBearing after b id)
    (lower : page < top_page) (table : page % NPTENTRIES ≢ 0 → is_some (s.regions parent.directory (page / NPTENTRIES)) ≡ true)
    (has : HasFrom names s parent b page k) where
  abbrev OnWay : Step → Type 0
  OnWay next = IsOnWay names s parent b id k next after

  at_page : page % NPTENTRIES ≢ 0 → OnWay (step.ForkEntry id (page - 1))
  unfolding counted
  at_page inside =
      let here : page ≡ page - 1 + 1 = omega (arith, inside) in
      let same : page / NPTENTRIES ≡ (page - 1) / NPTENTRIES = omega (arith, inside) in
      record {
        bears = refl;
        has = is_child (step.ForkEntry id (page - 1)) refl refl (subst (λ (q : ℕ). HasFrom names s parent b q k) here has);
        stands = (
          bearing,
          omega (arith, lower),
          subst (λ (r : ℕ). is_some (s.regions parent.directory r) ≡ true) same (table inside),
        );
        plain = λ row p. refl;
      }

  at_region : page % NPTENTRIES ≡ 0 → page / NPTENTRIES ≢ 0 → OnWay (step.ForkRegion id (page / NPTENTRIES - 1))
  unfolding counted
  at_region begins above =
      let here : page ≡ (page / NPTENTRIES - 1 + 1) * NPTENTRIES = omega (arith, begins, above) in
      record {
        bears = refl;
        has = is_child (step.ForkRegion id (page / NPTENTRIES - 1)) refl refl (subst (λ (q : ℕ). HasFrom names s parent b q k) here has);
        stands = (bearing, omega (arith, lower));
        plain = λ row p. refl;
      }

  at_end : page % NPTENTRIES ≡ 0 → page / NPTENTRIES ≡ 0 → OnWay (step.ChildStack id)
  unfolding counted
  at_end begins least =
      let here : page ≡ 0 = omega (arith, begins, least) in
      record {
        bears = refl;
        has = is_child (step.ChildStack id) refl refl (subst (λ (q : ℕ). HasFrom names s parent b q k) here has);
        stands = bearing;
        plain = λ row p. refl;
      }

  pub goes_below : OnWay (step_below id page)
  goes_below = by_tests (page % NPTENTRIES == 0) (page / NPTENTRIES == 0) refl refl
    where
      by_tests : (first least : Bool) → (page % NPTENTRIES == 0) ≡ first → (page / NPTENTRIES == 0) ≡ least →
          OnWay (if not first then step.ForkEntry id (page - 1)
          else if not least then step.ForkRegion id (page / NPTENTRIES - 1) else step.ChildStack id)
      by_tests false least at some = at_page (eqb-false (page % NPTENTRIES) 0 at)
      by_tests true false at some = at_region (eqb-true (page % NPTENTRIES) 0 at) (eqb-false (page / NPTENTRIES) 0 some)
      by_tests true true at some = at_end (eqb-true (page % NPTENTRIES) 0 at) (eqb-true (page / NPTENTRIES) 0 some)

-- ---- the parent at another step

-- its words alone are others
abbrev pub moved : Slot → Step → Slot
moved k next = record k { extra = words_at SERVICE_FORK next }

module _ (k : Slot) (at next : Step) (stands : place_of k ≡ place.InService service.Fork at) where
  pub moved_place : place_of (moved k next) ≡ place.InService service.Fork next
  moved_place =
      place_at k.registers SERVICE_FORK next (outside_stack k.registers k.extra (place.InService service.Fork at) stands refl)
      ∙ ap (λ (x : Service). place.InService x next) (named_at k service.Fork at stands)

  pub own_moved : {names : Names} {s : SpacesState} {b : Born} → is_calm_step at ≡ true → is_calm_step next ≡ true → StandsForBorn names s k b →
      StandsAtStep (view_of s k.directory) (moved k next) b service.Fork next → StandsForBorn names s (moved k next) b
  own_moved {names = names} {s = s} {b = b} calm calm_after own so = record {
    id = own.id;
    id_small = own.id_small;
    parent = own.parent;
    env_type = own.env_type;
    runs = own.runs;
    upcall = own.upcall ∙ ap upcall_at stands ∙ sym (ap upcall_at moved_place);
    descriptors = descriptors_turned names s k.directory (place_of k) (place_of (moved k next)) b.descriptors (ap is_calm stands ∙ calm)
        (ap is_calm moved_place ∙ calm_after) own.descriptors;
    memory = own.memory;
    library = library_moved (place_of k) (place_of (moved k next)) k.extra (moved k next).extra (rows_of s k.directory)
        (ap has_copy stands ∙ sym (ap has_copy moved_place))
        (ap (λ (p : Place). pages_kept p k.extra) stands ∙ sym (ap (λ (p : Place). pages_kept p (moved k next).extra) moved_place))
        own.library;
    regions_have = own.regions_have;
    regions_only = own.regions_only;
    stack = own.stack;
    flags = own.flags;
    at = subst (λ (p : Place). StandsAt p (view_of s k.directory) (moved k next) b) (sym moved_place) so;
  }

  -- a page that fork looks at, and that is there, is one that a program may have, or a descriptor's
  pub there_handed : {names : Names} {s : SpacesState} {b : Born} → StandsForBorn names s k b → (p : ℕ) (x : Entry) → p < top_page →
      rows_of s k.directory p ≡ Some x → is_programs p || is_of_descriptor p ≡ true
  there_handed {s = s} own p x lower is = by_tests (is_programs p) (is_of_descriptor p) refl refl
    where
      copy : rows_of s k.directory (page_number PFTEMP) ≡ None
      copy = own.library.no_copy (ap has_copy stands)

      working : rows_of s k.directory (page_number UTEMP) ≡ None
      working = own.library.no_working (ap (λ (q : Place). has_working q k.extra) stands)

      by_tests : (c t : Bool) → is_programs p ≡ c → is_of_descriptor p ≡ t → c || t ≡ true
      by_tests true t inside descriptor = refl
      by_tests false true outside descriptor = refl
      by_tests false false outside no_descriptor = by_copy (p == page_number PFTEMP) refl
        where
          nowhere : rows_of s k.directory p ≡ None → false ≡ true
          nowhere none = let contradiction : ◌≡◌ {A = Option Entry} None (Some x) = sym none ∙ is in absurd cc

          by_copy : (c : Bool) → (p == page_number PFTEMP) ≡ c → false ≡ true
          by_copy true here = nowhere (ap (rows_of s k.directory) (eqb-true p (page_number PFTEMP) here) ∙ copy)
          by_copy false other = by_working (p == page_number UTEMP) refl
            where
              by_working : (c : Bool) → (p == page_number UTEMP) ≡ c → false ≡ true
              by_working true here = nowhere (ap (rows_of s k.directory) (eqb-true p (page_number UTEMP) here) ∙ working)
              by_working false beside =
                  nowhere (own.library.none p outside no_descriptor (λ same. let too : p ≡ page_number UXSTACK = same in omega (arith, lower, too))
                  (eqb-false p (page_number PFTEMP) other) (eqb-false p (page_number UTEMP) beside)
                  (ap (λ (q : Place). has_spawns q k.extra p) stands))

-- a child is what it is by its parent's registers and space
pub child_still : {names : Names} {s : SpacesState} {parent : Slot} {b : Born} {at : Step} {k : Slot} (after : Slot) →
    after.registers ≡ parent.registers → after.directory ≡ parent.directory → IsChild names s parent b at k → IsChild names s after b at k
child_still {s = s} after same space h = record {
  registers = h.registers ∙ ap (λ (r : Regs). record r { eax = 0 }) (sym same);
  upcall = h.upcall;
  passed = h.passed;
  handed = λ p descriptor on. h.handed p descriptor on ∙ ap (λ (d : ℕ). rows_of s d p) (sym space);
  rest = h.rest;
  library = h.library;
  tables = h.tables;
}

-- ---- the state

module _ {names : Names} {s : KernelState} {a : AbstractState} (h : StandsFor names s a) (n id : ℕ) (at next : Step)
    (v : IsBearer names s a n at id) (bears : borne_at next ≡ Some id) where
  abbrev parent : Slot
  parent = slot_at s n

  abbrev child : Slot
  child = slot_at s (id % NENV)

  abbrev after : Slot
  after = moved parent next

  module _ (sp : SpacesState) (others : (d : ℕ) → d ≢ parent.directory → d ≢ child.directory → SeenAlike names names s.spaces sp d)
      (mine : StandsForBorn names sp after v.b) (has : IsChild names sp parent v.b next child)
      (rows : RowsStand names sp.pages a.shared (things_in s a) a.next_name (logical sp (upd s.environments.slots n after)))
      (in_order : IsInOrder (with_spaces s sp)) (counted_so : (j : ℕ) → j ≢ n → CountsKept s.spaces sp (slot_at s j))
      (own_pipes : (p : ℕ) → is_pipe_page p ≡ true → rows_of sp parent.directory p ≡ rows_of s.spaces parent.directory p)
      (bytes : (d p : ℕ) (x : Entry) → rows_of s.spaces d p ≡ Some x → sp.pages x.frame ≡ s.spaces.pages x.frame) where
    back : with_slot_at (with_spaces s sp) (id % NENV) child ≡ with_spaces s sp
    back = slot_back (with_spaces s sp) (id % NENV) child refl

    -- Spaces may be others, in which nothing is seen to change but of the two.
    pub bearing_moves : StandsFor names (with_extra (with_spaces s sp) n (words_at SERVICE_FORK next)) a
    bearing_moves =
        subst (λ (t : KernelState). StandsFor names (with_slot_at t n after) a) back
        (bearing_stands h n id at next v after child refl refl others
        (record { id = refl; env_type = refl; turns = refl; calm = λ runs. runs }) (record { id = refl; env_type = refl; turns = refl; calm = λ runs. runs })
        (moved_place parent at next v.place) bears mine v.child_own (child_still after refl refl has)
        (subst (λ (slots : ℕ → Slot). RowsStand names sp.pages a.shared (things_in s a) a.next_name (logical sp (upd slots n after)))
        (sym (upd-back s.environments.slots (id % NENV) child refl)) rows)
        (subst (λ (t : KernelState). IsInOrder (with_slot_at t n after)) (sym back)
        (slot_in_order (with_spaces s sp) n after refl refl in_order)) counted_so own_pipes bytes)

  -- Spaces are what they are.
  pub bearing_words : StandsAtStep (view_of s.spaces parent.directory) after v.b service.Fork next → IsChild names s.spaces parent v.b next child →
      CountsAlike (place.InService service.Fork at) (place.InService service.Fork next) →
      StandsFor names (with_extra s n (words_at SERVICE_FORK next)) a
  bearing_words so has counts =
      bearing_moves s.spaces
      (λ d ne apart. record {
        rows = refl;
        bytes = λ p x is own_page. refl;
        named_so = λ p x is shared_page. refl;
        devices = λ p x descriptor is shared_page. refl;
        pipes = λ p x pipes is shared_page. refl;
        regions = λ r. refl;
      })
      (own_moved parent at next v.place (borne_calm at id v.borne) (borne_calm next id bears) v.own so) has
      (rows_same (logical s.spaces s.environments.slots) (logical s.spaces (upd s.environments.slots n after))
      (set_counts s n after refl refl counted_so) (rows_stand h)) h.in_order
      (λ j ne piped runs fd x y below is lies device. (refl, refl)) (λ p is. refl) (λ q p x is. refl)
    where
      counted_so : CountsAlike (place_of parent) (place_of after)
      counted_so row p =
          ap (λ (x : Place). counted x row p) (moved_place parent at next v.place)
          ∙ counts row p
          ∙ sym (ap (λ (x : Place). counted x row p) v.place)

  -- the same by what is so on its way, from a step at which entries count as they stand
  pub way_stands : ((row : EntryRow) (p : ℕ) → counted (place.InService service.Fork at) row p ≡ row p) →
      IsOnWay names s.spaces parent v.b id child next after → StandsFor names (with_extra s n (words_at SERVICE_FORK next)) a
  way_stands plain way = bearing_words way.stands way.has (λ row p. way.plain row p ∙ sym (plain row p))
