-- A child is born: its parent's last step of fork lets it run and answers. The two stand for what the abstract system has then, and
-- nothing is seen of anybody else.
use Rattle.std.proofs.Common.{◌≡◌, ◌≢◌, ◌∙◌, ◌+◌, ◌*◌, ◌/◌, ◌%◌, ◌<◌, ◌||◌, ℕ, zero, suc, Bool, true, false, not, Option, Some, None}
use Rattle.std.proofs.Common.{refl, sym, ap, subst, arith}
use Rattle.std.specs.Prelude.{is_some, nat_lt, if◌then◌else◌}
use Rattle.std.specs.Option.{option_map}
use Rattle.std.proofs.lemmas.Bool.Decides.{nat_tests}
use Rattle.jos_base.specs.Below.{some_below}
use Rattle.jos_base.specs.declared.environment.Status.TheVariants.{Runnable}
use Rattle.jos_base.specs.declared.numbers.TheConstants.{FIRST_ENV_ID, NENV, NPTENTRIES, UTEMP}
use Rattle.jos_base.specs.declared.registers.Regs.{Regs}
use Rattle.jos_base.specs.Environments.{Slot, is_live as is_live_slot, no_extra}
use Rattle.jos_base.specs.KernelState.{KernelState, slot_at, with_slot_at, with_status}
use Rattle.jos_base.specs.Reach.{Entry}
use Rattle.jos_base.specs.SpacesState.{SpacesState}
use Rattle.jos_base.specs.TrapFrames.{user_flags}
use Rattle.jos_base.specs.Words.{page_number, upd}
use Rattle.lib_os.specs.declared.numbers.TheConstants.{DESCRIPTORS, PFTEMP}
use Rattle.lib_os.specs.declared.place.Place.{Place}
use Rattle.lib_os.specs.declared.place.Place.TheVariants as place
use Rattle.lib_os.specs.declared.place.Step.TheVariants as step
use Rattle.lib_os.specs.declared.service.Service.TheVariants as service
use Rattle.lib_os.specs.AbstractFork.{bear, child_of}
use Rattle.lib_os.specs.AbstractMemory.{has_page_in}
use Rattle.lib_os.specs.AbstractRun.{abs_step}
use Rattle.lib_os.specs.AbstractState.{AbstractState, AbstractSlot, Born, Page, unborn, born, serving, is_live, slot_id, with_born}
use Rattle.lib_os.specs.AbstractState.{guest, at_guest, bearing}
use Rattle.lib_os.specs.Answers.{answered}
use Rattle.lib_os.specs.Fence.{is_resident}
use Rattle.lib_os.specs.LibraryCall.{library_step}
use Rattle.lib_os.specs.LibraryPages.{LibraryPages}
use Rattle.lib_os.specs.LibrarySteps.{service_answered}
use Rattle.lib_os.specs.Places.{place_of, is_handlers}
use Rattle.lib_os.specs.Rows.{Names, EntryRow, rows_of, page_by, page_seen, seen_where, shown_at, is_programs, counted, lasting}
use Rattle.lib_os.specs.PipeEnds.{EndsStand, locked_at}
use Rattle.lib_os.specs.Rows.{descriptor_page, descriptor_seen, is_of_descriptor, name_of, pipe_page}
use Rattle.lib_os.specs.InService.{IsIn}
use Rattle.lib_os.specs.StandsFor.{StandsFor, StandsForBorn, StandsAt, view_of, upcall_at}
use Rattle.lib_os.specs.StandsFor.{borne_in}
use Rattle.lib_os.proofs.Bearing.{IsBearer}
use Rattle.lib_os.proofs.BornOn.{Becomes, both_stand, parent_was}
use Rattle.lib_os.proofs.Logical.{programs_beside}
use Rattle.lib_os.proofs.PipesStand.{calm_locked, calm_places, descriptors_turned, ends_moved, is_calm}
use Rattle.lib_os.proofs.Serving.{back_at_guest, holds_page, step_in, words_of_none}
use Rattle.lib_os.proofs.SlotsStand.{live_stands}
use Rattle.lib_os.proofs.StatesStand.{ends_at, stopped_settles}

-- ---- the pages of a region

below : (n : ℕ) (passes : ℕ → Bool) → some_below n passes ≡ true → (i : ℕ) × (i < n) × (passes i ≡ true)
unfolding some_below
below zero passes is = absurd (let contradiction : false ≡ true = is in cc)
below (suc n) passes is = by_test (some_below n passes) refl (λ first. below n passes first) is
  where
    Found : ℕ → Type 0
    Found bound = (i : ℕ) × (i < bound) × (passes i ≡ true)

    by_test : (t : Bool) → some_below n passes ≡ t → (some_below n passes ≡ true → Found n) → (t || passes n) ≡ true → Found (suc n)
    by_test true first before e = let it = before first in (it.0, omega (arith, it.1), it.2)
    by_test false first before e = (n, omega arith, e)

-- where a region has a page
pub page_in : (memory : ℕ → Option Page) (region : ℕ) → has_page_in memory region ≡ true →
    (p : ℕ) × (p / NPTENTRIES ≡ region) × (is_some (memory p) ≡ true)
page_in memory region is =
    let it = below NPTENTRIES (λ p. is_some (memory (region * NPTENTRIES + p))) is in
    (region * NPTENTRIES + it.0, omega (arith, it.1), it.2)

-- a page that is seen has an entry
pub entry_seen : (names : Names) (s : SpacesState) (d p : ℕ) → is_some (page_seen names s d p) ≡ true → (e : Entry) × (s.entries d p ≡ Some e)
unfolding rows_of
entry_seen names s d p is = by_entry (is_programs p) (s.entries d p) refl is
  where
    by_entry : (t : Bool) (o : Option Entry) → s.entries d p ≡ o →
        is_some (seen_where t (option_map (page_by names s.pages) (option_map lasting o))) ≡ true → (e : Entry) × (s.entries d p ≡ Some e)
    by_entry t (Some e) at seen = (e, at)
    by_entry true None at seen = absurd (let contradiction : false ≡ true = seen in cc)
    by_entry false None at seen = absurd (let contradiction : false ≡ true = seen in cc)

-- a page that no program may have is not seen
pub unseen : (names : Names) (s : SpacesState) (d p : ℕ) → is_programs p ≡ false → page_seen names s d p ≡ None
unseen names s d p outside = ap (λ (t : Bool). seen_where t (option_map (page_by names s.pages) (rows_of s d p))) outside

pub copy_outside : is_programs (page_number PFTEMP) ≡ false
copy_outside = by_test (is_programs (page_number PFTEMP)) refl
  where
    by_test : (t : Bool) → is_programs (page_number PFTEMP) ≡ t → t ≡ false
    by_test true is = absurd ((programs_beside (page_number PFTEMP) is).0 refl)
    by_test false is = refl

pub working_outside : is_programs (page_number UTEMP) ≡ false
working_outside = by_test (is_programs (page_number UTEMP)) refl
  where
    by_test : (t : Bool) → is_programs (page_number UTEMP) ≡ t → t ≡ false
    by_test true is = absurd ((programs_beside (page_number UTEMP) is).2 refl)
    by_test false is = refl

-- they are no descriptor's either
pub copy_no_descriptor : is_of_descriptor (page_number PFTEMP) ≡ false
copy_no_descriptor = refl

pub working_no_descriptor : is_of_descriptor (page_number UTEMP) ≡ false
working_no_descriptor = refl

-- the page of each descriptor is one
descriptor_is : (fd : ℕ) → nat_lt fd DESCRIPTORS ≡ true → is_of_descriptor (descriptor_page fd) ≡ true
descriptor_is fd below = grind (arith, nat_tests)

-- where two spaces have the same entry at its page, they have the same descriptor
pub descriptor_same : (names : Names) (s : SpacesState) (d c fd : ℕ) →
    (is_of_descriptor (descriptor_page fd) ≡ true → rows_of s c (descriptor_page fd) ≡ rows_of s d (descriptor_page fd)) →
    descriptor_seen names s c fd ≡ descriptor_seen names s d fd
descriptor_same names s d c fd same = by_test (nat_lt fd DESCRIPTORS) refl
  where
    by_test : (t : Bool) → nat_lt fd DESCRIPTORS ≡ t →
        (if t then name_of (shown_at names s c (descriptor_page fd)) else None)
        ≡ (if t then name_of (shown_at names s d (descriptor_page fd)) else None)
    by_test true below = ap (λ (o : Option Entry). name_of (option_map (page_by names s.pages) o)) (same (descriptor_is fd below))
    by_test false below = refl

-- entries count where the child is about to run as they do at a program
runs_counts : (id : ℕ) (row : EntryRow) (p : ℕ) → counted place.Guest row p ≡ counted (place.InService service.Fork (step.ChildRuns id)) row p
unfolding counted
runs_counts id row p = refl

-- ---- the two

module _ {names : Names} {s : KernelState} {a : AbstractState} (h : StandsFor names s a) (n id : ℕ)
    (v : IsBearer names s a n (step.ChildRuns id) id) where
  abbrev m : ℕ
  m = id % NENV

  abbrev k : Slot
  k = slot_at s n

  -- the child, which may run, and its parent at its program
  abbrev child : Slot
  child = record (slot_at s m) { status = Runnable }

  abbrev parent : Slot
  parent = record k { registers = record k.registers { eax = id }; extra = no_extra }

  abbrev newborn : Born
  newborn = child_of v.b k.registers id

  abbrev back : Born
  back = record v.b { program = guest (record k.registers { eax = id }); phase = at_guest; blocked = false }

  abbrev slots_after : ℕ → Slot
  slots_after = upd (upd s.environments.slots m child) n parent

  abbrev abstract_after : ℕ → AbstractSlot
  abstract_after = upd (upd a.slots m (born newborn)) n (born back)

  in_fork : IsIn k v.b service.Fork (bearing m)
  in_fork = v.stands

  child_at : place_of child ≡ place.Guest
  child_at = words_of_none (slot_at s m).registers (slot_at s m).extra v.child_own.stack v.child_own.words

  parent_at : place_of parent ≡ place.Guest
  parent_at = words_of_none (record k.registers { eax = id }) no_extra v.outside refl

  pub child_lives : is_live_slot (slot_at s m) ≡ true
  child_lives = live_stands h m ∙ ap (λ (x : AbstractSlot). is_live x) v.child_is

  pub some_id : id ≢ 0
  some_id none =
      let first : id % NENV ≡ 0 = ap (λ (q : ℕ). q % NENV) none in
      let contradiction : serving FIRST_ENV_ID ≡ unborn id v.b.id = sym h.first ∙ ap a.slots (sym first) ∙ v.child_is in absurd cc

  pub child_owned : (slot_at s m).parent ≡ k.id
  child_owned = v.child_own.parent_is ∙ sym v.own.id

  -- ---- the child

  memory_is : (p : ℕ) → v.b.memory p ≡ page_seen names s.spaces (slot_at s m).directory p
  memory_is p = by_test (is_programs p) refl
    where
      by_test : (t : Bool) → is_programs p ≡ t → v.b.memory p ≡ page_seen names s.spaces (slot_at s m).directory p
      by_test true inside = sym (v.child.passed p inside refl)
      by_test false outside =
          v.own.memory p ∙ unseen names s.spaces k.directory p outside ∙ sym (unseen names s.spaces (slot_at s m).directory p outside)

  -- nothing is done to pipes there
  calm : is_calm (place_of k) ≡ true
  calm = ap is_calm v.place

  -- its descriptors name the same objects
  descriptors_are : (fd : ℕ) → v.b.descriptors fd ≡ descriptor_seen names s.spaces (slot_at s m).directory fd
  descriptors_are fd =
      descriptors_turned names s.spaces k.directory (place_of k) place.Guest v.b.descriptors calm refl v.own.descriptors fd refl
      ∙ sym (descriptor_same names s.spaces k.directory (slot_at s m).directory fd
      (λ descriptor. v.child.handed (descriptor_page fd) descriptor refl))

  library_is : LibraryPages place.Guest (slot_at s m).extra (rows_of s.spaces (slot_at s m).directory)
  library_is = record {
    stack = v.child.library.stack refl;
    copy = λ is. absurd (let contradiction : false ≡ true = is in cc);
    no_copy = λ is. v.child.library.none (page_number PFTEMP) copy_outside copy_no_descriptor (λ same. omega (arith, same));
    descriptors = λ p entry descriptor there. v.own.library.descriptors p entry descriptor (sym (v.child.handed p descriptor refl) ∙ there);
    working = λ is. absurd (let contradiction : false ≡ true = is in cc);
    no_working = λ is. v.child.library.none (page_number UTEMP) working_outside working_no_descriptor (λ same. omega (arith, same));
    spawns = λ p is. absurd (let contradiction : false ≡ true = is in cc);
    none = λ p outside no_descriptor no_stack no_copy no_working no_spawns. v.child.library.none p outside no_descriptor no_stack;
  }

  has_table : (r : ℕ) → has_page_in v.b.memory r ≡ true → is_some (s.spaces.regions (slot_at s m).directory r) ≡ true
  has_table r is =
      let d = (slot_at s m).directory in
      let page = page_in v.b.memory r is in
      let entry = entry_seen names s.spaces d page.0 (ap (λ (o : Option Page). is_some o) (sym (memory_is page.0)) ∙ page.2) in
      ap (λ (q : ℕ). is_some (s.spaces.regions d q)) (sym page.1) ∙ h.in_order.frames.regions d page.0 entry.0 entry.1

  child_stands : StandsForBorn names s.spaces child newborn
  child_stands = record {
    id = v.child_own.id_is;
    id_small = v.child_own.id_small;
    parent = v.child_own.parent_is;
    env_type = v.child_own.env_type;
    runs = tt;
    upcall = v.child.upcall ∙ sym (ap upcall_at child_at);
    descriptors = descriptors_turned names s.spaces (slot_at s m).directory place.Guest (place_of child) v.b.descriptors refl (ap is_calm child_at)
        (λ fd still. descriptors_are fd);
    memory = memory_is;
    library = subst (λ (at : Place). LibraryPages at (slot_at s m).extra (rows_of s.spaces (slot_at s m).directory)) (sym child_at) library_is;
    regions_have = has_table;
    regions_only = v.child.tables;
    stack = ap (λ (regs : Regs). is_handlers regs.esp || not (is_resident regs.esp)) v.child.registers ∙ v.own.stack;
    flags = subst (λ (regs : Regs). regs.eflags ≡ user_flags regs.eflags) (sym v.child.registers) v.own.flags;
    at = subst (λ (at : Place). StandsAt at (view_of s.spaces (slot_at s m).directory) child newborn) (sym child_at) (record {
      program = ap guest (sym v.child.registers);
      phase = refl;
      words = v.child_own.words;
      silent = v.child_own.silent;
      awake = refl;
    });
  }

  parent_stands : StandsForBorn names s.spaces parent back
  parent_stands =
      back_at_guest (record k.registers { eax = id }) v.own (ap holds_page v.place) calm in_fork.silent in_fork.awake v.outside refl refl

  -- ---- the state

  bears : borne_in (place_of k) ≡ Some id
  bears = ap borne_in v.place ∙ v.borne

  child_becomes : Becomes (slot_at s m) child
  child_becomes = record {
    live = sym child_lives;
    directory = refl;
    counts = λ row p. refl;
    locked = refl;
    settles = stopped_settles (slot_at s m) child refl refl refl refl;
  }

  parent_becomes : Becomes k parent
  parent_becomes = record {
    live = refl;
    directory = refl;
    counts = λ row p.
        ap (λ (at : Place). counted at row p) parent_at ∙ runs_counts id row p ∙ ap (λ (at : Place). counted at row p) (sym v.place);
    locked = ap locked_at parent_at ∙ sym (calm_locked (place_of k) calm);
    settles = record { id = refl; env_type = refl; turns = refl; calm = λ runs. runs };
  }

  pipe_handed : (fd : ℕ) → fd < DESCRIPTORS → is_of_descriptor (pipe_page fd) ≡ true
  pipe_handed fd below = grind (arith, nat_tests)

  -- beside its descriptors the child has the pages of the same pipes
  child_ends : EndsStand names a.objects (place_of child) (rows_of s.spaces child.directory) newborn
  child_ends =
      ends_moved (calm_places calm (ap is_calm child_at)) (λ fd. refl) (λ fd name is. refl)
      (λ fd below. v.child.handed (pipe_page fd) (pipe_handed fd below) refl) (λ fd x below is. refl) (ends_at h n v.b v.is)

  parent_ends : EndsStand names a.objects (place_of parent) (rows_of s.spaces parent.directory) back
  parent_ends =
      ends_moved (calm_places calm (ap is_calm parent_at)) (λ fd. refl) (λ fd name is. refl) (λ fd below. refl) (λ fd x below is. refl)
      (ends_at h n v.b v.is)

  abbrev running : KernelState
  running = with_slot_at s m child

  both : StandsFor names (with_slot_at running n parent) (with_born (with_born a m newborn) n back)
  both =
      both_stand h n id v.b v.is bears newborn back child parent child_at parent_at child_becomes parent_becomes child_stands parent_stands child_ends
      parent_ends (λ fd. refl) (λ fd. refl)

  still_there : slot_at running n ≡ k
  still_there =
      parent_was h n id v.b v.is bears newborn back child parent child_at parent_at child_becomes parent_becomes child_stands parent_stands child_ends
      parent_ends (λ fd. refl) (λ fd. refl)

  -- the child is let run, and its parent is answered its id
  pub birth_stands : StandsFor names (service_answered (with_status s m Runnable) n id) (bear a n v.b k.registers m)
  birth_stands =
      let state : service_answered running n id ≡ with_slot_at running n parent =
      ap (λ (x : Slot). with_slot_at running n (record x { registers = record x.registers { eax = id }; extra = no_extra })) still_there in
      let abstract_is : bear a n v.b k.registers m ≡ with_born (with_born a m newborn) n back =
      ap (λ (q : ℕ). answered (with_born a m (child_of v.b k.registers q)) n v.b k.registers q) (ap slot_id v.child_is) in
      subst (λ (t : KernelState). StandsFor names t (bear a n v.b k.registers m)) (sym state)
      (subst (λ (c : AbstractState). StandsFor names (with_slot_at running n parent) c) (sym abstract_is) both)

  -- which is the last step of fork
  pub birth_step : abs_step a n ≡ Some (bear a n v.b k.registers m)
  unfolding library_step
  birth_step = step_in a n v.b k service.Fork (bearing m) v.is in_fork
