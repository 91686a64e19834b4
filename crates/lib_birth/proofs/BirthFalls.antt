-- Spawn comes to an end behind the bytes of its segments, and where it is refused: each of its hidden steps there lowers the number of those that may still come.
use Rattle.std.proofs.Common.{◌≡◌, ◌≢◌, ◌<◌, ◌≤◌, ◌+◌, ◌-◌, ◌*◌, ◌/◌, ◌%◌, ◌==◌, ◌&&◌, ℕ, Bool, true, false, not, refl, arith, if◌then◌else◌}
use Rattle.std.specs.Prelude.{bit_and, nat_lt}
use Rattle.std.proofs.lemmas.Bool.{eqb-false, eqb-true}
use Rattle.std.proofs.lemmas.Bool.Decides.{nat_tests}
use Rattle.jos_base.specs.declared.called.Called.{Called}
use Rattle.jos_base.specs.declared.called.Called.TheVariants.{Answered, Blocked, Ended}
use Rattle.jos_base.specs.declared.numbers.TheConstants.{NPTENTRIES, PTE_SYSCALL}
use Rattle.jos_base.specs.Counting.{page_limit}
use Rattle.jos_base.specs.Words.{page_number}
use Rattle.jos_elf.specs.declared.numbers.TheConstants.{PF_W, PT_LOAD}
use Rattle.lib_os.specs.declared.numbers.TheConstants.{DESCRIPTORS}
use Rattle.lib_os.specs.declared.place.Step.TheVariants as step
use Rattle.lib_os.specs.declared.service.Service.TheVariants as service
use Rattle.lib_os.specs.declared.spawn_steps.FinishingStep.TheVariants as finishing
use Rattle.lib_os.specs.declared.spawn_steps.SpawnStep.{SpawnStep}
use Rattle.lib_os.specs.declared.spawn_steps.SpawnStep.TheVariants as spawn
use Rattle.lib_os.specs.declared.spawn_steps.UndoingStep.{UndoingStep}
use Rattle.lib_os.specs.declared.spawn_steps.UndoingStep.TheVariants as undoing
use Rattle.lib_os.specs.LibrarySteps.{finishing_steps_left, rights_left, steps_left}
use Rattle.lib_os.specs.Rows.{is_shared}
use Rattle.lib_stage.specs.declared.ask.Next.{Next}
use Rattle.lib_stage.proofs.Laws.{Falls, most_left}
use Rattle.lib_fd.specs.DescriptorStages.{is_there}
use Rattle.lib_fork.specs.ForkStages.{first_page, region_of}
use Rattle.lib_image.specs.SpawnNexts.{goes_on}
use Rattle.lib_child.specs.ChildSegments.{last_page, rights_from}
use Rattle.lib_child.specs.ChildNexts.{unless_refused}
use Rattle.lib_birth.specs.FinishingStages.{finishing_next, others_from, passed_below, rights_behind, touches}
use Rattle.lib_birth.specs.UndoingStages.{undoing_next}

abbrev pub Spawns : ℕ → ℕ → SpawnStep → Next → Type 0
Spawns path argv from x = Falls (service.Spawn path argv) (step.Spawning from) x

-- ---- where it is undone

pub undoing_falls : (path argv : ℕ) (at : UndoingStep) (called : Called) →
    Falls (service.Spawn path argv) (step.Spawning (spawn.Undoing at)) (undoing_next at called)
undoing_falls path argv (undoing.DestroyingChild fd child error) Ended = tt
undoing_falls path argv (undoing.DestroyingChild fd child error) (Answered word) = tt
undoing_falls path argv (undoing.DestroyingChild fd child error) Blocked = tt
undoing_falls path argv (undoing.ClosingFile fd error) called = tt
undoing_falls path argv (undoing.UndoingStack error) called = omega arith
undoing_falls path argv (undoing.UndoingGiven error) called = omega arith
undoing_falls path argv (undoing.UndoingPath error) called = tt

-- ---- behind the rights of pages

-- behind a page, at most three steps are left for each page below it, and one for each region
abbrev steps_below : ℕ → ℕ
steps_below page = 3 * page + page / NPTENTRIES + 4

below_low : (child page bound : ℕ) → steps_below page < bound → most_left (step.Spawning (passed_below child page)) < bound
below_low child page bound less = by_tests (page % NPTENTRIES == 0) (page / NPTENTRIES == 0) refl refl
  where
    by_tests : (first least : Bool) → (page % NPTENTRIES == 0) ≡ first → (page / NPTENTRIES == 0) ≡ least →
        most_left (step.Spawning (if not first then spawn.Finishing (finishing.PassingEntry child (page - 1))
        else if not least then spawn.Finishing (finishing.PassingRegion child (page / NPTENTRIES - 1))
        else spawn.Finishing (finishing.ChildRuns child))) < bound
    by_tests false least at some =
        let inside : page % NPTENTRIES ≢ 0 = eqb-false (page % NPTENTRIES) 0 at in omega (arith, inside, less)
    by_tests true false at some =
        let begins : page % NPTENTRIES ≡ 0 = eqb-true (page % NPTENTRIES) 0 at in
        let above : page / NPTENTRIES ≢ 0 = eqb-false (page / NPTENTRIES) 0 some in omega (arith, begins, above, less)
    by_tests true true at some = omega (arith, less)

-- it goes on, or undoes what it has done
unless_falls : (path argv fd child word : ℕ) (from to : SpawnStep) → 1 < steps_left (step.Spawning from) →
    most_left (step.Spawning to) < steps_left (step.Spawning from) → Spawns path argv from (unless_refused fd child word to)
unless_falls path argv fd child word from to some low = by_test (word == 0)
  where
    by_test : (c : Bool) → Spawns path argv from (if not c then goes_on (spawn.Undoing (undoing.DestroyingChild fd child word)) else goes_on to)
    by_test true = low
    by_test false = some

pub stack_falls : (path argv fd child word : ℕ) → Spawns path argv (spawn.Finishing (finishing.ChildStack fd child)) (finishing_next (finishing.ChildStack fd child) word)
stack_falls path argv fd child word =
    unless_falls path argv fd child word (spawn.Finishing (finishing.ChildStack fd child)) (spawn.Finishing (finishing.ChildUpcall fd child)) (omega arith)
    (omega arith)

pub upcall_falls : (path argv fd child word : ℕ) →
    Spawns path argv (spawn.Finishing (finishing.ChildUpcall fd child)) (finishing_next (finishing.ChildUpcall fd child) word)
upcall_falls path argv fd child word = omega arith

pub giving_falls : (path argv fd child word : ℕ) →
    Spawns path argv (spawn.Finishing (finishing.GivingStack fd child)) (finishing_next (finishing.GivingStack fd child) word)
giving_falls path argv fd child word =
    unless_falls path argv fd child word (spawn.Finishing (finishing.GivingStack fd child)) (spawn.Finishing (finishing.ReleasingStack fd child)) (omega arith)
    (omega arith)

pub region_falls : (path argv child region word : ℕ) →
    Spawns path argv (spawn.Finishing (finishing.PassingRegion child region)) (finishing_next (finishing.PassingRegion child region) word)
region_falls path argv child region word = by_test (is_there word)
  where
    by_test : (c : Bool) →
        Spawns path argv (spawn.Finishing (finishing.PassingRegion child region))
        (goes_on (if not c then passed_below child (region_of region * NPTENTRIES)
        else spawn.Finishing (finishing.PassingEntry child (first_page region))))
    by_test false = below_low child (region_of region * NPTENTRIES) _ (omega arith)
    by_test true = omega arith

pub entry_falls : (path argv child page word : ℕ) →
    Spawns path argv (spawn.Finishing (finishing.PassingEntry child page)) (finishing_next (finishing.PassingEntry child page) word)
entry_falls path argv child page word = by_test (is_there word && is_shared word)
  where
    by_test : (c : Bool) →
        Spawns path argv (spawn.Finishing (finishing.PassingEntry child page))
        (goes_on (if c then spawn.Finishing (finishing.PassingPage child page (bit_and word PTE_SYSCALL)) else passed_below child page))
    by_test true = omega arith
    by_test false = below_low child page _ (omega arith)

pub page_falls : (path argv child page perm word : ℕ) →
    Spawns path argv (spawn.Finishing (finishing.PassingPage child page perm)) (finishing_next (finishing.PassingPage child page perm) word)
page_falls path argv child page perm word =
    unless_falls path argv DESCRIPTORS child word (spawn.Finishing (finishing.PassingPage child page perm)) (passed_below child page) (omega arith)
    (below_low child page _ (omega arith))

-- ---- the rights of pages, where a segment is one of those that there are

-- where the next segment is looked at
next_low : (fd headers child header bound : ℕ) → rights_left headers header < bound → most_left (step.Spawning (rights_from fd headers child header)) < bound
next_low fd headers child header bound less = by_test (nat_lt header headers)
  where
    by_test : (c : Bool) →
        most_left (step.Spawning (if c then spawn.Finishing (finishing.RightsKind fd headers child header) else spawn.Finishing (finishing.ChildStack fd child)))
        < bound
    by_test true = omega (arith, less)
    by_test false = omega (arith, less)

pub rights_page_falls : (path argv fd headers child header page end word : ℕ) →
    Spawns path argv (spawn.Finishing (finishing.RightsPage fd headers child header page end))
    (finishing_next (finishing.RightsPage fd headers child header page end) word)
rights_page_falls path argv fd headers child header page end word =
    unless_falls path argv fd child word (spawn.Finishing (finishing.RightsPage fd headers child header page end))
    (rights_behind fd headers child header page end) (omega arith) (by_test (nat_lt (page + 1) end) refl)
  where
    by_test : (c : Bool) → nat_lt (page + 1) end ≡ c →
        most_left (step.Spawning (if c then spawn.Finishing (finishing.RightsPage fd headers child header (page + 1) end)
        else rights_from fd headers child (header + 1)))
        < finishing_steps_left (finishing.RightsPage fd headers child header page end)
    by_test true test = let more : page + 1 < end = grind (arith, nat_tests, test) in omega (arith, more)
    by_test false test = next_low fd headers child (header + 1) _ (omega arith)

-- so much is left where no segment that may be written has a part of the pages, of those before the other one
abbrev others_left : ℕ → ℕ → ℕ → ℕ → ℕ → ℕ
others_left headers header page end other = rights_left headers (header + 1) + (end - page) + 4 * (headers - other) + 2

others_low : (fd headers child header page end other : ℕ) →
    most_left (step.Spawning (others_from fd headers child header page end other)) ≤ others_left headers header page end other
others_low fd headers child header page end other = by_tests (nat_lt page end) (nat_lt other headers) refl refl
  where
    by_tests : (some more : Bool) → nat_lt page end ≡ some → nat_lt other headers ≡ more →
        most_left (step.Spawning (if not some then rights_from fd headers child (header + 1)
        else if more then spawn.Finishing (finishing.SharedKind fd headers child header page end other)
        else spawn.Finishing (finishing.RightsPage fd headers child header page end))) ≤ others_left headers header page end other
    by_tests false more none is = let low = next_low fd headers child (header + 1) (rights_left headers (header + 1) + 1) (omega arith) in omega (arith, low)
    by_tests true true none is = omega arith
    by_tests true false none is = omega arith

module _ (path argv fd headers child header : ℕ) (below : header < headers) where
  step_more : rights_left headers header ≡ rights_left headers (header + 1) + page_limit + 4 * headers + 6
  step_more = by_room (headers - (header + 1)) refl
    where
      by_room : (room : ℕ) → headers - (header + 1) ≡ room → rights_left headers header ≡ rights_left headers (header + 1) + page_limit + 4 * headers + 6
      by_room room is = let one : headers - header ≡ room + 1 = omega (arith, is, below) in rw (is, one) (omega arith)

  pub kind_falls : (word : ℕ) → Spawns path argv (spawn.Finishing (finishing.RightsKind fd headers child header))
      (finishing_next (finishing.RightsKind fd headers child header) word)
  kind_falls word = by_test (word == PT_LOAD)
    where
      by_test : (c : Bool) → Spawns path argv (spawn.Finishing (finishing.RightsKind fd headers child header))
          (if c then goes_on (spawn.Finishing (finishing.RightsFlags fd headers child header)) else goes_on (rights_from fd headers child (header + 1)))
      by_test true = let more = step_more in omega (arith, more)
      by_test false = let more = step_more in next_low fd headers child (header + 1) _ (omega (arith, more))

  pub flags_falls : (word : ℕ) → Spawns path argv (spawn.Finishing (finishing.RightsFlags fd headers child header))
      (finishing_next (finishing.RightsFlags fd headers child header) word)
  flags_falls word = by_test (bit_and word PF_W == 0)
    where
      by_test : (c : Bool) → Spawns path argv (spawn.Finishing (finishing.RightsFlags fd headers child header))
          (if c then goes_on (spawn.Finishing (finishing.RightsMemory fd headers child header)) else goes_on (rights_from fd headers child (header + 1)))
      by_test true = omega arith
      by_test false = next_low fd headers child (header + 1) _ (omega arith)

  pub memory_falls : (word : ℕ) → Spawns path argv (spawn.Finishing (finishing.RightsMemory fd headers child header))
      (finishing_next (finishing.RightsMemory fd headers child header) word)
  memory_falls word = by_test (word == 0)
    where
      by_test : (c : Bool) → Spawns path argv (spawn.Finishing (finishing.RightsMemory fd headers child header))
          (if c then goes_on (rights_from fd headers child (header + 1)) else goes_on (spawn.Finishing (finishing.RightsAddress fd headers child header word)))
      by_test true = next_low fd headers child (header + 1) _ (omega arith)
      by_test false = omega arith

  -- where it has no more pages than there are
  pub address_falls : (memory va : ℕ) → last_page va memory + 1 - page_number va ≤ page_limit → Spawns path argv (spawn.Finishing (finishing.RightsAddress fd headers child header memory))
      (finishing_next (finishing.RightsAddress fd headers child header memory) va)
  address_falls memory va few =
      let low = others_low fd headers child header (page_number va) (last_page va memory + 1) 0 in
      below_bound (most_left (step.Spawning (others_from fd headers child header (page_number va) (last_page va memory + 1) 0)))
      (rights_left headers (header + 1)) (last_page va memory + 1 - page_number va) low few
    where
      below_bound : (left rights pages : ℕ) → left ≤ rights + pages + 4 * (headers - 0) + 2 → pages ≤ page_limit → left < rights + page_limit + 4 * headers + 3
      below_bound left rights pages low few = omega (arith, low, few)

  module _ (page end other : ℕ) (lower : other < headers) where
    -- behind the other one less is left
    behind_low : (start last : ℕ) → last - start ≤ end - page → most_left (step.Spawning (others_from fd headers child header start last (other + 1)))
        < rights_left headers (header + 1) + (end - page) + 4 * (headers - other) - 1
    behind_low start last few = let low = others_low fd headers child header start last (other + 1) in omega (arith, low, few, lower)

    pub shared_kind_falls : (word : ℕ) → Spawns path argv (spawn.Finishing (finishing.SharedKind fd headers child header page end other))
        (finishing_next (finishing.SharedKind fd headers child header page end other) word)
    shared_kind_falls word = by_test (word == PT_LOAD)
      where
        by_test : (c : Bool) → Spawns path argv (spawn.Finishing (finishing.SharedKind fd headers child header page end other))
            (if c then goes_on (spawn.Finishing (finishing.SharedFlags fd headers child header page end other))
            else goes_on (others_from fd headers child header page end (other + 1)))
        by_test true = omega arith
        by_test false = let low = behind_low page end (omega arith) in omega (arith, low)

    pub shared_flags_falls : (word : ℕ) → Spawns path argv (spawn.Finishing (finishing.SharedFlags fd headers child header page end other))
        (finishing_next (finishing.SharedFlags fd headers child header page end other) word)
    shared_flags_falls word = by_test (bit_and word PF_W == 0)
      where
        by_test : (c : Bool) → Spawns path argv (spawn.Finishing (finishing.SharedFlags fd headers child header page end other))
            (if c then goes_on (others_from fd headers child header page end (other + 1))
            else goes_on (spawn.Finishing (finishing.SharedMemory fd headers child header page end other)))
        by_test true = let low = behind_low page end (omega arith) in omega (arith, low)
        by_test false = omega arith

    pub shared_memory_falls : (word : ℕ) → Spawns path argv (spawn.Finishing (finishing.SharedMemory fd headers child header page end other))
        (finishing_next (finishing.SharedMemory fd headers child header page end other) word)
    shared_memory_falls word = by_test (word == 0)
      where
        by_test : (c : Bool) → Spawns path argv (spawn.Finishing (finishing.SharedMemory fd headers child header page end other))
            (if c then goes_on (others_from fd headers child header page end (other + 1))
            else goes_on (spawn.Finishing (finishing.SharedAddress fd headers child header page end other word)))
        by_test true = let low = behind_low page end (omega arith) in omega (arith, low)
        by_test false = omega (arith, lower)

    pub shared_address_falls : (memory va : ℕ) → Spawns path argv (spawn.Finishing (finishing.SharedAddress fd headers child header page end other memory))
        (finishing_next (finishing.SharedAddress fd headers child header page end other memory) va)
    shared_address_falls memory va = by_tests (touches page va memory) (touches (end - 1) va memory)
      where
        by_tests : (first last : Bool) →
            most_left (step.Spawning (others_from fd headers child header (if first then page + 1 else page) (if last then end - 1 else end) (other + 1)))
            < rights_left headers (header + 1) + (end - page) + 4 * (headers - other) - 1
        by_tests true true = behind_low (page + 1) (end - 1) (omega arith)
        by_tests true false = behind_low (page + 1) end (omega arith)
        by_tests false true = behind_low page (end - 1) (omega arith)
        by_tests false false = behind_low page end (omega arith)
