-- Spawn's child is born: its parent's last step lets it run and answers. The child has the memory of its image, and what its parent shares, and its parent's
-- descriptors.
use Rattle.std.proofs.Common.{◌≡◌, ◌∙◌, ◌-◌, ◌%◌, ◌<◌, ◌==◌, ◌||◌, ℕ, Bool, true, false, not, List, [], Option, Some, None}
use Rattle.std.proofs.Common.{is_some, refl, sym, ap, subst, arith, if◌then◌else◌}
use Rattle.std.specs.Prelude.{nat_le, slice_index}
use Rattle.std.proofs.lemmas.Bool.Decides.{nat_tests}
use Rattle.jos_base.specs.declared.environment.Status.TheVariants.{Runnable}
use Rattle.jos_base.specs.declared.numbers.TheConstants.{NENV, UTEMP}
use Rattle.jos_base.specs.declared.registers.Regs.{Regs}
use Rattle.jos_base.specs.Environments.{Slot, is_live as is_live_slot, no_extra}
use Rattle.jos_base.specs.KernelState.{KernelState, slot_at, with_slot_at, with_status}
use Rattle.jos_base.specs.TrapFrames.{user_flags}
use Rattle.jos_base.specs.Words.{page_number, upd}
use Rattle.jos_base.proofs.Maps.{upd-at}
use Rattle.jos_elf.specs.Headers.{entry_count_of, entry_point_of}
use Rattle.jos_elf.specs.Parsed.{segments_of}
use Rattle.jos_elf.specs.StackPage.{stack_pointer}
use Rattle.jos_elf.specs.Started.{program_registers}
use Rattle.lib_os.specs.declared.numbers.TheConstants.{DESCRIPTORS, PFTEMP, SPAWN_GIVEN, SPAWN_HERE, SPAWN_STACK}
use Rattle.lib_os.specs.declared.place.Place.{Place}
use Rattle.lib_os.specs.declared.place.Place.TheVariants as place
use Rattle.lib_os.specs.declared.place.Step.TheVariants as step
use Rattle.lib_os.specs.declared.service.Service.TheVariants as service
use Rattle.lib_os.specs.declared.spawn_steps.FinishingStep.TheVariants as finishing
use Rattle.lib_os.specs.declared.spawn_steps.SpawnStep.{SpawnStep}
use Rattle.lib_os.specs.declared.spawn_steps.SpawnStep.TheVariants as spawn
use Rattle.lib_os.specs.AbstractMemory.{has_page_in}
use Rattle.lib_os.specs.AbstractRun.{abs_step}
use Rattle.lib_os.specs.AbstractSpawn.{all_of, child_born, headers_in, image_memory, packed, spawn_answered, spawn_step, spawned, spawned_memory, under_shared}
use Rattle.lib_os.specs.AbstractState.{AbstractState, Born, ImageRead, Page, Spawning, at_guest, born, closed, guest, slot_id, taking, with_born}
use Rattle.lib_os.specs.Fence.{is_resident}
use Rattle.lib_os.specs.LibraryCall.{library_step}
use Rattle.lib_os.specs.LibraryPages.{LibraryPages, is_library_region}
use Rattle.lib_os.specs.LibrarySteps.{service_answered}
use Rattle.lib_os.specs.PipeEnds.{EndsStand, locked_at}
use Rattle.lib_os.specs.Places.{is_handlers, place_of}
use Rattle.lib_os.specs.ProgramMemory.{program_memory}
use Rattle.lib_os.specs.Rows.{Names, counted, descriptor_page, descriptor_seen, is_of_descriptor, is_programs, page_seen, pipe_page, rows_of}
use Rattle.lib_os.specs.SpawnedChild.{Loads, Progress, child_page, handler_of, is_closed, is_loading, own_page, passing, registers_of}
use Rattle.lib_os.specs.StandsAtSpawn.{IsClosed}
use Rattle.lib_os.specs.StandsFor.{StandsAt, StandsFor, StandsForBorn, borne_in, upcall_at, view_of}
use Rattle.lib_os.proofs.BearsOn.{borne_lives}
use Rattle.lib_os.proofs.Births.{copy_no_descriptor, copy_outside, descriptor_same, entry_seen, page_in, unseen, working_no_descriptor, working_outside}
use Rattle.lib_os.proofs.BornOn.{Becomes, both_stand, parent_was}
use Rattle.lib_os.proofs.PipesStand.{calm_locked, calm_places, descriptors_turned, ends_moved, is_calm}
use Rattle.lib_os.proofs.Serving.{IsServed, back_at_guest, holds_page, kept_where, service_step, words_of_none}
use Rattle.lib_os.proofs.SpawnedGoes.{IsSpawner, spawner}
use Rattle.lib_os.proofs.SpawnedImage.{none_outside, whole_page}
use Rattle.lib_os.proofs.SpawnKeeps.{none_childs, none_kept}
use Rattle.lib_os.proofs.SpawnOwnPages.{spawn_there, spawns_at}
use Rattle.lib_os.proofs.SpawnRefuses.{born_twice, spawning_over}
use Rattle.lib_os.proofs.StatesStand.{CountsAlike, ends_at, stopped_settles}

-- ---- the image that is the child's

record ClosedSame (image of_image : ImageRead) (file bytes : List ℕ) : Type 0 where
  image_is : image ≡ of_image
  file_is : file ≡ bytes

closed_same : {slot child : ℕ} {image of_image : ImageRead} {o : Option Spawning} {more file : List ℕ} {pieces : List (List ℕ)} →
    Loads slot image o more file → o ≡ Some (closed of_image child pieces) → ClosedSame image of_image file (all_of pieces)
closed_same (is_loading fd had more) same = absurd cc
closed_same {pieces = pieces} (is_closed had more) same =
    let pieces_are : had ≡ pieces = cc in record { image_is = cc; file_is = ap all_of pieces_are }

-- where nothing is shared a page of the child's own is seen
alone_under : (o q : Option Page) → o ≡ None → under_shared o q ≡ q
alone_under o q none = ap (λ (x : Option Page). under_shared x q) none

-- a stack pointer below the top of the stack is not the library's
stack_low : (words : List (List ℕ)) → is_handlers (stack_pointer words) || not (is_resident (stack_pointer words)) ≡ true
stack_low words =
    let handlers : is_handlers (stack_pointer words) ≡ false = grind (arith, nat_tests) in
    let resident : is_resident (stack_pointer words) ≡ false = grind (arith, nat_tests) in
    (λ i. handlers i || not (resident i))

pub every_page : (p : ℕ) → nat_le 0 p ≡ true
every_page p = grind (arith, nat_tests)

-- ---- the two

module _ {names : Names} {s : KernelState} {a : AbstractState} (h : StandsFor names s a) (n path argv id : ℕ)
    (stands : place_of (slot_at s n) ≡ spawns_at path argv (spawn.Finishing (finishing.ChildRuns id))) where
  abbrev from : SpawnStep
  from = spawn.Finishing (finishing.ChildRuns id)

  abbrev it : IsServed names s a n (service.Spawn path argv) (step.Spawning from)
  it = spawn_there h n path argv from stands

  abbrev b : Born
  b = it.b

  abbrev m : ℕ
  m = id % NENV

  abbrev k : Slot
  k = slot_at s n

  abbrev kid : Slot
  kid = slot_at s m

  v : IsSpawner names s a n path argv from id b
  v = spawner h n path argv id from stands refl

  abbrev has : IsClosed k b path argv id
  has = it.at

  abbrev count : ℕ
  count = entry_count_of (slice_index v.child.image.header)

  same : ClosedSame v.child.image has.image v.child.file (all_of has.pieces)
  same = closed_same v.child.loads has.found.is

  -- the child, which may run, and its parent at its program
  abbrev child : Slot
  child = record kid { status = Runnable }

  abbrev parent : Slot
  parent = record k { registers = record k.registers { eax = id }; extra = no_extra }

  abbrev newborn : Born
  newborn = spawned b has.image has.pieces id

  abbrev back : Born
  back = record b { program = guest (record k.registers { eax = id }); phase = at_guest; blocked = false }

  child_at : place_of child ≡ place.Guest
  child_at = words_of_none kid.registers kid.extra v.child_own.stack v.child_own.words

  parent_at : place_of parent ≡ place.Guest
  parent_at = words_of_none (record k.registers { eax = id }) no_extra it.outside refl

  calm : is_calm (place_of k) ≡ true
  calm = ap is_calm stands

  -- ---- the child

  passed_from : (p : ℕ) → nat_le v.child.progress.passed p ≡ true
  passed_from p = ap (λ (before : Progress). nat_le before.passed p) v.child.is_so ∙ every_page p

  handed : (p : ℕ) → is_of_descriptor p ≡ true → rows_of s.spaces kid.directory p ≡ rows_of s.spaces k.directory p
  handed p descriptor = v.child.handed p descriptor (passed_from p)

  -- the pages that it has are those with which it is born
  page_is : (p : ℕ) → child_page b v.child.image (passing count 0) v.child.file p ≡ spawned_memory b has.image has.pieces p
  page_is p =
      ap (λ (c : Bool). if c then under_shared (b.memory p) (own_page v.child.image (passing count 0) v.child.file p)
      else own_page v.child.image (passing count 0) v.child.file p) (every_page p)
      ∙ ap (λ (o : Option Page). under_shared (b.memory p) o) (whole_page v.child.image v.child.file p)
      ∙ (λ i. under_shared (b.memory p) (program_memory (segments_of (packed (headers_in (same.image_is i).table)) (entry_count_of (slice_index (same.image_is i).header)))
      (same.file_is i) (same.image_is i).words p))

  memory_is : (p : ℕ) → spawned_memory b has.image has.pieces p ≡ page_seen names s.spaces kid.directory p
  memory_is p = by_test (is_programs p) refl
    where
      by_test : (t : Bool) → is_programs p ≡ t → spawned_memory b has.image has.pieces p ≡ page_seen names s.spaces kid.directory p
      by_test true inside =
          sym (page_is p) ∙ sym (ap (λ (before : Progress). child_page b v.child.image before v.child.file p) v.child.is_so)
          ∙ sym (v.child.memory p inside)
      by_test false outside =
          alone_under (b.memory p) (image_memory has.image has.pieces p) (it.own.memory p ∙ unseen names s.spaces k.directory p outside)
          ∙ none_outside has.image (all_of has.pieces) has.tested.size has.tested.passed p outside ∙ sym (unseen names s.spaces kid.directory p outside)

  -- its descriptors name the same objects
  descriptors_are : (fd : ℕ) → b.descriptors fd ≡ descriptor_seen names s.spaces kid.directory fd
  descriptors_are fd =
      descriptors_turned names s.spaces k.directory (place_of k) place.Guest b.descriptors calm refl it.own.descriptors fd refl
      ∙ sym (descriptor_same names s.spaces k.directory kid.directory fd (λ descriptor. handed (descriptor_page fd) descriptor))

  library_is : LibraryPages place.Guest kid.extra (rows_of s.spaces kid.directory)
  library_is = record {
    stack = v.child.handler_stack (ap (λ (before : Progress). before.handler_stack) v.child.is_so);
    copy = λ is. absurd (let contradiction : false ≡ true = is in cc);
    no_copy = λ is. v.child.none (page_number PFTEMP) copy_outside copy_no_descriptor refl;
    descriptors = λ p entry descriptor there. it.own.library.descriptors p entry descriptor (sym (handed p descriptor) ∙ there);
    working = λ is. absurd (let contradiction : false ≡ true = is in cc);
    no_working = λ is. v.child.none (page_number UTEMP) working_outside working_no_descriptor refl;
    spawns = λ p is. absurd (let contradiction : false ≡ true = is in cc);
    none = λ p outside no_descriptor no_stack no_copy no_working no_spawns. v.child.none p outside no_descriptor (grind (arith, nat_tests, no_stack));
  }

  has_table : (r : ℕ) → has_page_in (spawned_memory b has.image has.pieces) r ≡ true → is_some (s.spaces.regions kid.directory r) ≡ true
  has_table r is =
      let d = kid.directory in
      let page = page_in (spawned_memory b has.image has.pieces) r is in
      let entry = entry_seen names s.spaces d page.0 (ap (λ (o : Option Page). is_some o) (sym (memory_is page.0)) ∙ page.2) in
      ap (λ (q : ℕ). is_some (s.spaces.regions d q)) (sym page.1) ∙ h.in_order.frames.regions d page.0 entry.0 entry.1

  registers_are : kid.registers ≡ program_registers (entry_point_of (slice_index has.image.header)) has.image.words
  registers_are =
      v.child.registers ∙ ap (λ (before : Progress). registers_of before.registers k.registers v.child.image) v.child.is_so
      ∙ ap (λ (image : ImageRead). program_registers (entry_point_of (slice_index image.header)) image.words) same.image_is

  child_stands : StandsForBorn names s.spaces child newborn
  child_stands = record {
    id = v.child_own.id_is;
    id_small = v.child_own.id_small;
    parent = v.child_own.parent_is;
    env_type = v.child_own.env_type;
    runs = tt;
    upcall = v.child.upcall ∙ ap (λ (before : Progress). handler_of before.handler) v.child.is_so ∙ sym (ap upcall_at child_at);
    descriptors = descriptors_turned names s.spaces kid.directory place.Guest (place_of child) b.descriptors refl (ap is_calm child_at)
        (λ fd still. descriptors_are fd);
    memory = memory_is;
    library = subst (λ (at : Place). LibraryPages at kid.extra (rows_of s.spaces kid.directory)) (sym child_at) library_is;
    regions_have = has_table;
    regions_only = λ r table. (λ i. has_page_in (λ p. sym (page_is p) i) r || is_library_region r) ∙ v.child.tables r table;
    stack = ap (λ (regs : Regs). is_handlers regs.esp || not (is_resident regs.esp)) registers_are ∙ stack_low has.image.words;
    flags = subst (λ (regs : Regs). regs.eflags ≡ user_flags regs.eflags) (sym registers_are) refl;
    at = subst (λ (at : Place). StandsAt at (view_of s.spaces kid.directory) child newborn) (sym child_at) (record {
      program = ap guest (sym registers_are);
      phase = refl;
      words = v.child_own.words;
      silent = v.child_own.silent;
      awake = refl;
    });
  }

  no_pages : holds_page (place_of k) ≡ kept_where false
  no_pages =
      ap holds_page stands
      ∙ (λ i. (false, (λ p. none_kept (p == page_number SPAWN_GIVEN) (p == page_number SPAWN_STACK) (p == page_number SPAWN_HERE) i)))

  parent_stands : StandsForBorn names s.spaces parent back
  parent_stands =
      back_at_guest (record k.registers { eax = id }) it.own no_pages calm has.found.is_in.silent has.found.is_in.awake it.outside refl refl

  -- ---- the state

  child_lives : is_live_slot kid ≡ true
  child_lives = borne_lives h n id b it.is (ap borne_in stands)

  child_becomes : Becomes kid child
  child_becomes = record { live = sym child_lives; directory = refl; counts = λ row p. refl; locked = refl; settles = stopped_settles kid child refl refl refl refl }

  counts_so : CountsAlike (place_of k) (place_of parent)
  unfolding counted
  counts_so row p =
      ap (λ (at : Place). counted at row p) parent_at
      ∙ sym (ap (λ (c : Bool). if c then None else row p) (none_childs (p == page_number SPAWN_HERE) (p == page_number SPAWN_STACK)))
      ∙ ap (λ (at : Place). counted at row p) (sym stands)

  parent_becomes : Becomes k parent
  parent_becomes = record {
    live = refl;
    directory = refl;
    counts = counts_so;
    locked = ap locked_at parent_at ∙ sym (calm_locked (place_of k) calm);
    settles = record { id = refl; env_type = refl; turns = refl; calm = λ runs. runs };
  }

  pipe_handed : (fd : ℕ) → fd < DESCRIPTORS → is_of_descriptor (pipe_page fd) ≡ true
  pipe_handed fd below = grind (arith, nat_tests)

  child_ends : EndsStand names a.objects (place_of child) (rows_of s.spaces child.directory) newborn
  child_ends =
      ends_moved (calm_places calm (ap is_calm child_at)) (λ fd. refl) (λ fd name is. refl)
      (λ fd below. handed (pipe_page fd) (pipe_handed fd below)) (λ fd x below is. refl) (ends_at h n b it.is)

  parent_ends : EndsStand names a.objects (place_of parent) (rows_of s.spaces parent.directory) back
  parent_ends =
      ends_moved (calm_places calm (ap is_calm parent_at)) (λ fd. refl) (λ fd name is. refl) (λ fd below. refl) (λ fd x below is. refl)
      (ends_at h n b it.is)

  both : StandsFor names (with_slot_at (with_slot_at s m child) n parent) (with_born (with_born a m newborn) n back)
  both =
      both_stand h n id b it.is (ap borne_in stands) newborn back child parent child_at parent_at child_becomes parent_becomes child_stands parent_stands
      child_ends parent_ends (λ fd. refl) (λ fd. refl)

  -- at its program nothing is told of what its spawn has found out
  both_over : StandsFor names (with_slot_at (with_slot_at s m child) n parent) (with_born (with_born a m newborn) n (record back { spawning = None }))
  both_over =
      let t = with_slot_at (with_slot_at s m child) n parent in
      let there : slot_at t n ≡ parent = upd-at (upd s.environments.slots m child) n parent in
      subst (λ (x : AbstractState). StandsFor names t x) (born_twice (with_born a m newborn) n back (record back { spawning = None }))
      (spawning_over both n back (upd-at (with_born a m newborn).slots n (born back)) (ap (λ (x : Slot). place_of x) there ∙ parent_at))

  abbrev behind : AbstractState
  behind = child_born a n b has.found.is_in.regs has.image m has.pieces

  -- the child is let run, and its parent is answered its id
  pub birth_stands : StandsFor names (service_answered (with_status s (id % NENV) Runnable) n id)
      (child_born a n (spawn_there h n path argv from stands).b (spawn_there h n path argv from stands).at.found.is_in.regs
      (spawn_there h n path argv from stands).at.image (id % NENV) (spawn_there h n path argv from stands).at.pieces)
  birth_stands =
      let running = with_slot_at s m child in
      let was : slot_at running n ≡ k =
      parent_was h n id b it.is (ap borne_in stands) newborn back child parent child_at parent_at child_becomes parent_becomes child_stands parent_stands
      child_ends parent_ends (λ fd. refl) (λ fd. refl) in
      let state : service_answered running n id ≡ with_slot_at running n parent =
      ap (λ (x : Slot). with_slot_at running n (record x { registers = record x.registers { eax = id }; extra = no_extra })) was in
      let named_is : behind ≡ spawn_answered (with_born a m newborn) n b has.found.is_in.regs id =
      ap (λ (q : ℕ). spawn_answered (with_born a m (spawned b has.image has.pieces q)) n b has.found.is_in.regs q) (ap slot_id v.child_is) in
      let regs_is : spawn_answered (with_born a m newborn) n b k.registers id ≡ spawn_answered (with_born a m newborn) n b has.found.is_in.regs id =
      ap (λ (r : Regs). spawn_answered (with_born a m newborn) n b r id) has.found.is_in.registers in
      subst (λ (t : KernelState). StandsFor names t behind) (sym state)
      (subst (λ (c : AbstractState). StandsFor names (with_slot_at running n parent) c) (regs_is ∙ sym named_is) both_over)

  -- which is the last step of spawn
  pub birth_step : abs_step a n
      ≡ Some (child_born a n (spawn_there h n path argv from stands).b (spawn_there h n path argv from stands).at.found.is_in.regs
      (spawn_there h n path argv from stands).at.image (id % NENV) (spawn_there h n path argv from stands).at.pieces)
  unfolding library_step spawn_step
  birth_step =
      service_step a n b has.found.is_in.regs (service.Spawn path argv) (taking []) it.is has.found.is_in.program has.found.is_in.phase has.found.is_in.awake
      ∙ rw has.found.is refl
