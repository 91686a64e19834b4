-- The law of service pipe: it looks for the two lowest descriptors that are free, and makes their pages and the pipe's; where there are not two it
-- refuses. With the last mapping the pipe is there, which is seen; all before it is hidden.
use Rattle.std.proofs.Common.{◌≡◌, ◌+◌, ◌-◌, ◌<◌, ◌≤◌, ℕ, Bool, true, false, not, [], refl, arith, if◌then◌else◌}
use Rattle.std.specs.Prelude.{nat_le}
use Rattle.std.proofs.lemmas.Bool.Decides.{nat_tests}
use Rattle.jos_base.specs.declared.numbers.TheConstants.{E_MAX_OPEN}
use Rattle.jos_base.specs.Environments.{Slot, is_live}
use Rattle.jos_base.specs.KernelState.{KernelState, slot_at}
use Rattle.jos_base.specs.Words.{negated}
use Rattle.lib_os.specs.declared.numbers.TheConstants.{DESCRIPTORS, DEVICE_PIPE, FD_DEVICE, FD_MODE, SERVICE_PIPE}
use Rattle.lib_os.specs.declared.place.PipeStep.{PipeStep}
use Rattle.lib_os.specs.declared.place.PipeStep.TheVariants as pipe
use Rattle.lib_os.specs.declared.place.Place.TheVariants as place
use Rattle.lib_os.specs.declared.place.Step.{Step}
use Rattle.lib_os.specs.declared.place.Step.TheVariants as step
use Rattle.lib_os.specs.declared.service.Service.TheVariants as service
use Rattle.lib_os.specs.AbstractState.{AbstractState, Born}
use Rattle.lib_os.specs.InOrder.{IsInOrder}
use Rattle.lib_os.specs.LibraryPages.{View}
use Rattle.lib_os.specs.LibrarySteps.{AbstractFollows}
use Rattle.lib_os.specs.Places.{place_of}
use Rattle.lib_os.specs.Rows.{Names}
use Rattle.lib_os.specs.StandsAtPipe.{IsMakingPipe}
use Rattle.lib_os.specs.StandsFor.{StandsAtStep, StandsFor, view_of}
use Rattle.lib_os.specs.UserCalls.{answer_of}
use Rattle.lib_os.proofs.DescriptorLooks.{descriptor_va, entry_va, page_word, table_gives, table_va, table_word}
use Rattle.lib_os.proofs.Loading.{loaded}
use Rattle.lib_os.proofs.PipeEndsStored.{end_mode_stored, reading_stored, writing_stored}
use Rattle.lib_os.proofs.PipeLooks.{first_free, first_gives, first_last, first_taken, pipe_table_missing, pipe_table_there, second_free, second_gives}
use Rattle.lib_os.proofs.PipeLooks.{second_last, second_taken}
use Rattle.lib_os.proofs.PipeTaken.{made_first, made_second}
use Rattle.lib_os.proofs.Serving.{IsServed, served}
use Rattle.lib_stage.specs.declared.ask.Next.{Next}
use Rattle.lib_stage.specs.declared.ask.Next.TheVariants as next
use Rattle.lib_stage.specs.Nexts.{seen_as, settled}
use Rattle.lib_stage.specs.ServiceSteps.{Plan, ServiceHolds, nowhere, or_nowhere}
use Rattle.lib_stage.proofs.Laws.{Falls, law_of_load, law_of_nowhere, plainly}
use Rattle.lib_fd.specs.DescriptorStages.{is_there}
use Rattle.lib_pipe.specs.declared.making.MakingStage.{MakingStage}
use Rattle.lib_pipe.specs.declared.making.MakingStage.TheVariants as stage
use Rattle.lib_pipe.specs.MakingStages.{making, next_of_first, next_of_second, pipe_at, piped}
use Rattle.lib_pipe.proofs.EndStored.{end_store_holds}
use Rattle.lib_pipe.proofs.EndStores.{StoresEnd, stores_end}
use Rattle.lib_pipe.proofs.MakingTakes.{mapping_pipe_holds, taking_pipe_holds, taking_reading_holds, taking_writing_holds}
use Rattle.lib_pipe.proofs.MakingTakes.{undoing_reading_holds, undoing_writing_holds}

-- it goes on, or is over, in this state
abbrev Follows : KernelState → ℕ → AbstractState → Next → Type 0
Follows s n a x = AbstractFollows (seen_as x) n (settled SERVICE_PIPE x s n) a []

module _ (s : KernelState) (n : ℕ) (live : is_live (slot_at s n) ≡ true) where
  abbrev plan : MakingStage → Plan
  plan at = making (record { at = at })

  -- ---- it looks

  module _ (stands : place_of (slot_at s n) ≡ place.InService service.Pipe step.Entered) where
    entered_falls : (word : ℕ) → Falls service.Pipe step.Entered
        (if not (is_there word) then piped (pipe.TakingReading 0 1) else next.GoOn (step.FreeEntry 0))
    entered_falls word = by_test (is_there word)
      where
        by_test : (t : Bool) → Falls service.Pipe step.Entered
            (if not t then piped (pipe.TakingReading 0 1) else next.GoOn (step.FreeEntry 0))
        by_test true = omega arith
        by_test false = omega arith

    table_follows : (names : Names) (a : AbstractState) → StandsFor names s a → IsInOrder (loaded s n table_va) →
        Follows (loaded s n table_va) n a
        (if not (is_there (table_word s n)) then piped (pipe.TakingReading 0 1) else next.GoOn (step.FreeEntry 0))
    table_follows names a h order = by_test (is_there (table_word s n)) refl
      where
        by_test : (t : Bool) → is_there (table_word s n) ≡ t →
            Follows (loaded s n table_va) n a (if not t then piped (pipe.TakingReading 0 1) else next.GoOn (step.FreeEntry 0))
        by_test true is = (refl, (names, pipe_table_there h n stands order is))
        by_test false is = (refl, (names, pipe_table_missing h n stands order is))

    entered_holds : ServiceHolds s n (making (record { at = stage.Entered }))
    entered_holds =
        law_of_load s n (plan stage.Entered) service.Pipe step.Entered
        (record {
          stands = stands;
          live = live;
          numbered = refl;
          plain = plainly refl;
          goes_on = refl;
          falls = λ called. entered_falls (answer_of called);
          few = omega arith;
        })
        table_va refl (λ names a h. (record { word = table_word s n; is = table_gives h n }, table_follows names a h))

  module _ (fd : ℕ) (stands : place_of (slot_at s n) ≡ place.InService service.Pipe (step.FreeEntry fd)) where
    abbrev first_next : Bool → Bool → Next
    first_next last there =
        if last then next.Answer (negated E_MAX_OPEN)
        else if there then next.GoOn (step.FreeEntry (fd + 1))
        else piped (pipe.SecondEntry fd (fd + 1))

    first_falls : (word : ℕ) → Falls service.Pipe (step.FreeEntry fd) (next_of_first fd word)
    first_falls word = by_tests (nat_le (DESCRIPTORS - 1) fd) refl (is_there word)
      where
        by_tests : (last : Bool) → nat_le (DESCRIPTORS - 1) fd ≡ last → (there : Bool) → Falls service.Pipe (step.FreeEntry fd) (first_next last there)
        by_tests true is there = tt
        by_tests false is true = let below : fd < DESCRIPTORS - 1 = grind (arith, nat_tests) in omega (arith, below)
        by_tests false is false = let below : fd < DESCRIPTORS - 1 = grind (arith, nat_tests) in omega (arith, below)

    first_follows : (names : Names) (a : AbstractState) → StandsFor names s a → IsInOrder (loaded s n (entry_va fd)) →
        Follows (loaded s n (entry_va fd)) n a (next_of_first fd (page_word s n fd))
    first_follows names a h order = by_tests (nat_le (DESCRIPTORS - 1) fd) refl (is_there (page_word s n fd)) refl
      where
        by_tests : (last : Bool) → nat_le (DESCRIPTORS - 1) fd ≡ last → (there : Bool) → is_there (page_word s n fd) ≡ there →
            Follows (loaded s n (entry_va fd)) n a (first_next last there)
        by_tests true is there told =
            first_last h n fd stands order (let past : DESCRIPTORS - 1 ≤ fd = grind (arith, nat_tests) in omega (arith, past))
        by_tests false is true told =
            (refl, (names, first_taken h n fd stands order (let below : fd < DESCRIPTORS - 1 = grind (arith, nat_tests) in omega (arith, below)) told))
        by_tests false is false told =
            (refl, (names, first_free h n fd stands order (let below : fd < DESCRIPTORS - 1 = grind (arith, nat_tests) in omega (arith, below)) told))

    first_holds : ServiceHolds s n (making (record { at = stage.FirstEntry fd }))
    first_holds =
        law_of_load s n (plan (stage.FirstEntry fd)) service.Pipe (step.FreeEntry fd)
        (record {
          stands = stands;
          live = live;
          numbered = refl;
          plain = plainly refl;
          goes_on = refl;
          falls = λ called. first_falls (answer_of called);
          few = omega arith;
        })
        (entry_va fd) refl (λ names a h. (record { word = page_word s n fd; is = first_gives h n fd stands }, first_follows names a h))

  module _ (reading fd : ℕ) (stands : place_of (slot_at s n) ≡ place.InService service.Pipe (step.Piped (pipe.SecondEntry reading fd))) where
    abbrev second_next : Bool → Bool → Next
    second_next there last =
        if not there then piped (pipe.TakingReading reading fd)
        else if last then next.Answer (negated E_MAX_OPEN)
        else piped (pipe.SecondEntry reading (fd + 1))

    second_falls : (word : ℕ) → Falls service.Pipe (step.Piped (pipe.SecondEntry reading fd)) (next_of_second reading fd word)
    second_falls word = by_tests (is_there word) (nat_le (DESCRIPTORS - 1) fd) refl
      where
        by_tests : (there last : Bool) → nat_le (DESCRIPTORS - 1) fd ≡ last →
            Falls service.Pipe (step.Piped (pipe.SecondEntry reading fd)) (second_next there last)
        by_tests false last is = omega arith
        by_tests true true is = tt
        by_tests true false is = let below : fd < DESCRIPTORS - 1 = grind (arith, nat_tests) in omega (arith, below)

    second_follows : (names : Names) (a : AbstractState) → StandsFor names s a → IsInOrder (loaded s n (entry_va fd)) →
        Follows (loaded s n (entry_va fd)) n a (next_of_second reading fd (page_word s n fd))
    second_follows names a h order = by_tests (is_there (page_word s n fd)) refl (nat_le (DESCRIPTORS - 1) fd) refl
      where
        by_tests : (there : Bool) → is_there (page_word s n fd) ≡ there → (last : Bool) → nat_le (DESCRIPTORS - 1) fd ≡ last →
            Follows (loaded s n (entry_va fd)) n a (second_next there last)
        by_tests false told last is = (refl, (names, second_free h n reading fd stands order told))
        by_tests true told true is =
            second_last h n reading fd stands order (let past : DESCRIPTORS - 1 ≤ fd = grind (arith, nat_tests) in omega (arith, past)) told
        by_tests true told false is = (
          refl,
          (names, second_taken h n reading fd stands order (let below : fd < DESCRIPTORS - 1 = grind (arith, nat_tests) in omega (arith, below)) told),
        )

    second_holds : ServiceHolds s n (making (record { at = stage.SecondEntry reading fd }))
    second_holds =
        law_of_load s n (plan (stage.SecondEntry reading fd)) service.Pipe (step.Piped (pipe.SecondEntry reading fd))
        (record {
          stands = stands;
          live = live;
          numbered = refl;
          plain = plainly refl;
          goes_on = refl;
          falls = λ called. second_falls (answer_of called);
          few = omega arith;
        })
        (entry_va fd) refl (λ names a h. (record { word = page_word s n fd; is = second_gives h n reading fd stands }, second_follows names a h))

  -- ---- it puts into the pages of the two what they name

  module _ (reading writing : ℕ) where
    module _ (stands : place_of (slot_at s n) ≡ place.InService service.Pipe (step.Piped (pipe.StoringReading reading writing))) where
      reading_stores : (names : Names) (a : AbstractState) → StandsFor names s a → StoresEnd s n (descriptor_va reading + FD_DEVICE) DEVICE_PIPE
      reading_stores names a h =
          let v : IsServed names s a n service.Pipe (step.Piped (pipe.StoringReading reading writing)) =
          served h n service.Pipe (step.Piped (pipe.StoringReading reading writing)) stands in
          let it : IsMakingPipe (view_of s.spaces (slot_at s n).directory) (slot_at s n) v.b (pipe.StoringReading reading writing) reading writing =
          v.at in
          let order = it.lowest.order in
          let below = it.lowest.below in
          stores_end h n v.b v.is (pipe.StoringReading reading writing) stands reading (omega (arith, order, below)) (made_first reading writing) 0 0
          it.so_far.0 FD_DEVICE DEVICE_PIPE (omega arith)

      storing_reading_holds : ServiceHolds s n (making (record { at = stage.StoringReading reading writing }))
      storing_reading_holds =
          end_store_holds s n live (pipe.StoringReading reading writing) (pipe.TakingWriting reading writing) (descriptor_va reading + FD_DEVICE)
          DEVICE_PIPE stands refl (omega arith) reading_stores (λ names a h last. reading_stored h n reading writing last stands)

    module _ (stands : place_of (slot_at s n) ≡ place.InService service.Pipe (step.Piped (pipe.StoringWriting reading writing))) where
      writing_stores : (names : Names) (a : AbstractState) → StandsFor names s a → StoresEnd s n (descriptor_va writing + FD_DEVICE) DEVICE_PIPE
      writing_stores names a h =
          let v : IsServed names s a n service.Pipe (step.Piped (pipe.StoringWriting reading writing)) =
          served h n service.Pipe (step.Piped (pipe.StoringWriting reading writing)) stands in
          let it : IsMakingPipe (view_of s.spaces (slot_at s n).directory) (slot_at s n) v.b (pipe.StoringWriting reading writing) reading writing =
          v.at in
          stores_end h n v.b v.is (pipe.StoringWriting reading writing) stands writing it.lowest.below (made_second reading writing) 0 0 it.so_far.1
          FD_DEVICE DEVICE_PIPE (omega arith)

      storing_writing_holds : ServiceHolds s n (making (record { at = stage.StoringWriting reading writing }))
      storing_writing_holds =
          end_store_holds s n live (pipe.StoringWriting reading writing) (pipe.StoringEndMode reading writing) (descriptor_va writing + FD_DEVICE)
          DEVICE_PIPE stands refl (omega arith) writing_stores (λ names a h last. writing_stored h n reading writing last stands)

    module _ (stands : place_of (slot_at s n) ≡ place.InService service.Pipe (step.Piped (pipe.StoringEndMode reading writing))) where
      mode_stores : (names : Names) (a : AbstractState) → StandsFor names s a → StoresEnd s n (descriptor_va writing + FD_MODE) 1
      mode_stores names a h =
          let v : IsServed names s a n service.Pipe (step.Piped (pipe.StoringEndMode reading writing)) =
          served h n service.Pipe (step.Piped (pipe.StoringEndMode reading writing)) stands in
          let it : IsMakingPipe (view_of s.spaces (slot_at s n).directory) (slot_at s n) v.b (pipe.StoringEndMode reading writing) reading writing =
          v.at in
          stores_end h n v.b v.is (pipe.StoringEndMode reading writing) stands writing it.lowest.below (made_second reading writing) DEVICE_PIPE 0
          it.so_far.1 FD_MODE 1 (omega arith)

      storing_mode_holds : ServiceHolds s n (making (record { at = stage.StoringEndMode reading writing }))
      storing_mode_holds =
          end_store_holds s n live (pipe.StoringEndMode reading writing) (pipe.TakingPipe reading writing) (descriptor_va writing + FD_MODE) 1 stands
          refl (omega arith) mode_stores (λ names a h last. end_mode_stored h n reading writing last stands)

  -- ---- each step

  -- one that pipe has not
  no_step : (at : Step) → place_of (slot_at s n) ≡ place.InService service.Pipe at →
      ((view : View) (k : Slot) (b : Born) → StandsAtStep view k b service.Pipe at → ⊥) → ServiceHolds s n nowhere
  no_step at stands none = law_of_nowhere s n service.Pipe at stands refl none

  piped_holds : (at : PipeStep) → place_of (slot_at s n) ≡ place.InService service.Pipe (step.Piped at) →
      ServiceHolds s n (or_nowhere making (pipe_at (step.Piped at)))
  piped_holds (pipe.SecondEntry reading fd) stands = second_holds reading fd stands
  piped_holds (pipe.TakingReading reading writing) stands = taking_reading_holds s n reading writing live stands
  piped_holds (pipe.StoringReading reading writing) stands = storing_reading_holds reading writing stands
  piped_holds (pipe.TakingWriting reading writing) stands = taking_writing_holds s n reading writing live stands
  piped_holds (pipe.StoringWriting reading writing) stands = storing_writing_holds reading writing stands
  piped_holds (pipe.StoringEndMode reading writing) stands = storing_mode_holds reading writing stands
  piped_holds (pipe.TakingPipe reading writing) stands = taking_pipe_holds s n reading writing live stands
  piped_holds (pipe.MappingPipe reading writing) stands = mapping_pipe_holds s n reading writing live stands
  piped_holds (pipe.UndoingWriting reading writing error) stands = undoing_writing_holds s n reading writing live error stands
  piped_holds (pipe.UndoingReading reading error) stands = undoing_reading_holds s n reading 0 live error stands
  piped_holds (pipe.PipeEntry fd) stands = no_step (step.Piped (pipe.PipeEntry fd)) stands (λ view k b h. h)
  piped_holds (pipe.DroppingEnd fd) stands = no_step (step.Piped (pipe.DroppingEnd fd)) stands (λ view k b h. h)
  piped_holds (pipe.DroppingPipe fd) stands = no_step (step.Piped (pipe.DroppingPipe fd)) stands (λ view k b h. h)
  piped_holds pipe.SourcePipe stands = no_step (step.Piped pipe.SourcePipe) stands (λ view k b h. h)
  piped_holds pipe.MappingEnd stands = no_step (step.Piped pipe.MappingEnd) stands (λ view k b h. h)
  piped_holds pipe.EndMode stands = no_step (step.Piped pipe.EndMode) stands (λ view k b h. h)
  piped_holds pipe.TakingBytes stands = no_step (step.Piped pipe.TakingBytes) stands (λ view k b h. h)
  piped_holds (pipe.Locking done id runs) stands = no_step (step.Piped (pipe.Locking done id runs)) stands (λ view k b h. h)
  piped_holds (pipe.LockPausing done) stands = no_step (step.Piped (pipe.LockPausing done)) stands (λ view k b h. h)
  piped_holds (pipe.ReadFrom done id runs) stands = no_step (step.Piped (pipe.ReadFrom done id runs)) stands (λ view k b h. h)
  piped_holds (pipe.ReadTo done id runs from) stands = no_step (step.Piped (pipe.ReadTo done id runs from)) stands (λ view k b h. h)
  piped_holds (pipe.LoadingHeld done from) stands = no_step (step.Piped (pipe.LoadingHeld done from)) stands (λ view k b h. h)
  piped_holds (pipe.KeepingHeld done from byte) stands = no_step (step.Piped (pipe.KeepingHeld done from byte)) stands (λ view k b h. h)
  piped_holds (pipe.TakingHeld done from) stands = no_step (step.Piped (pipe.TakingHeld done from)) stands (λ view k b h. h)
  piped_holds (pipe.LoadingOwn done to) stands = no_step (step.Piped (pipe.LoadingOwn done to)) stands (λ view k b h. h)
  piped_holds (pipe.PuttingOwn done to byte) stands = no_step (step.Piped (pipe.PuttingOwn done to byte)) stands (λ view k b h. h)
  piped_holds (pipe.Putting done to) stands = no_step (step.Piped (pipe.Putting done to)) stands (λ view k b h. h)
  piped_holds (pipe.UnlockingMoved done) stands = no_step (step.Piped (pipe.UnlockingMoved done)) stands (λ view k b h. h)
  piped_holds (pipe.UnlockingEnd done) stands = no_step (step.Piped (pipe.UnlockingEnd done)) stands (λ view k b h. h)
  piped_holds (pipe.UnlockingTest done id runs) stands = no_step (step.Piped (pipe.UnlockingTest done id runs)) stands (λ view k b h. h)
  piped_holds (pipe.TestIdentifying done) stands = no_step (step.Piped (pipe.TestIdentifying done)) stands (λ view k b h. h)
  piped_holds (pipe.TestRuns done id) stands = no_step (step.Piped (pipe.TestRuns done id)) stands (λ view k b h. h)
  piped_holds (pipe.TestAgain done id runs) stands = no_step (step.Piped (pipe.TestAgain done id runs)) stands (λ view k b h. h)
  piped_holds (pipe.TestOwn done id runs) stands = no_step (step.Piped (pipe.TestOwn done id runs)) stands (λ view k b h. h)
  piped_holds (pipe.TestOther done id runs own) stands = no_step (step.Piped (pipe.TestOther done id runs own)) stands (λ view k b h. h)
  piped_holds (pipe.TestDescriptor done id runs) stands = no_step (step.Piped (pipe.TestDescriptor done id runs)) stands (λ view k b h. h)
  piped_holds (pipe.TestDescriptorCount done id runs word) stands =
      no_step (step.Piped (pipe.TestDescriptorCount done id runs word)) stands (λ view k b h. h)
  piped_holds (pipe.TestPipe done id runs count) stands = no_step (step.Piped (pipe.TestPipe done id runs count)) stands (λ view k b h. h)
  piped_holds (pipe.TestPipeCount done id runs count word) stands =
      no_step (step.Piped (pipe.TestPipeCount done id runs count word)) stands (λ view k b h. h)
  piped_holds (pipe.TestRunsAgain done id runs closed) stands =
      no_step (step.Piped (pipe.TestRunsAgain done id runs closed)) stands (λ view k b h. h)
  piped_holds (pipe.TestPausing done) stands = no_step (step.Piped (pipe.TestPausing done)) stands (λ view k b h. h)
  piped_holds pipe.StatLocking stands = no_step (step.Piped pipe.StatLocking) stands (λ view k b h. h)
  piped_holds pipe.StatPausing stands = no_step (step.Piped pipe.StatPausing) stands (λ view k b h. h)
  piped_holds pipe.StatFrom stands = no_step (step.Piped pipe.StatFrom) stands (λ view k b h. h)
  piped_holds (pipe.StatTo from) stands = no_step (step.Piped (pipe.StatTo from)) stands (λ view k b h. h)
  piped_holds (pipe.StatUnlocking held) stands = no_step (step.Piped (pipe.StatUnlocking held)) stands (λ view k b h. h)

  -- what pipe comes to at each of its steps
  pub pipe_holds : (at : Step) → place_of (slot_at s n) ≡ place.InService service.Pipe at → ServiceHolds s n (or_nowhere making (pipe_at at))
  pipe_holds step.Entered stands = entered_holds stands
  pipe_holds (step.FreeEntry fd) stands = first_holds fd stands
  pipe_holds (step.Piped at) stands = piped_holds at stands
  pipe_holds (step.DescriptorEntry fd) stands = no_step (step.DescriptorEntry fd) stands (λ view k b h. h)
  pipe_holds (step.DroppingDescriptor fd) stands = no_step (step.DroppingDescriptor fd) stands (λ view k b h. h)
  pipe_holds (step.Trying perm) stands = no_step (step.Trying perm) stands (λ view k b h. h)
  pipe_holds (step.Pausing perm) stands = no_step (step.Pausing perm) stands (λ view k b h. h)
  pipe_holds step.ReadingRegion stands = no_step step.ReadingRegion stands (λ view k b h. h)
  pipe_holds step.ReadingEntry stands = no_step step.ReadingEntry stands (λ view k b h. h)
  pipe_holds (step.Receiving id) stands = no_step (step.Receiving id) stands (λ view k b h. h)
  pipe_holds (step.ReadingValue id) stands = no_step (step.ReadingValue id) stands (λ view k b h. h)
  pipe_holds (step.ReadingSender id value) stands = no_step (step.ReadingSender id value) stands (λ view k b h. h)
  pipe_holds (step.ReadingPerm id value sender) stands = no_step (step.ReadingPerm id value sender) stands (λ view k b h. h)
  pipe_holds (step.ForkRegion child region) stands = no_step (step.ForkRegion child region) stands (λ view k b h. h)
  pipe_holds (step.ForkEntry child page) stands = no_step (step.ForkEntry child page) stands (λ view k b h. h)
  pipe_holds (step.MapChild child page perm) stands = no_step (step.MapChild child page perm) stands (λ view k b h. h)
  pipe_holds (step.Remap child page) stands = no_step (step.Remap child page) stands (λ view k b h. h)
  pipe_holds (step.ChildStack child) stands = no_step (step.ChildStack child) stands (λ view k b h. h)
  pipe_holds (step.ChildUpcall child) stands = no_step (step.ChildUpcall child) stands (λ view k b h. h)
  pipe_holds (step.ChildRuns child) stands = no_step (step.ChildRuns child) stands (λ view k b h. h)
  pipe_holds (step.Undoing child error) stands = no_step (step.Undoing child error) stands (λ view k b h. h)
  pipe_holds step.TargetEntry stands = no_step step.TargetEntry stands (λ view k b h. h)
  pipe_holds step.MappingDescriptor stands = no_step step.MappingDescriptor stands (λ view k b h. h)
  pipe_holds step.Ending stands = no_step step.Ending stands (λ view k b h. h)
  pipe_holds step.ReadingDevice stands = no_step step.ReadingDevice stands (λ view k b h. h)
  pipe_holds (step.BufferRegion done word) stands = no_step (step.BufferRegion done word) stands (λ view k b h. h)
  pipe_holds (step.BufferEntry done word) stands = no_step (step.BufferEntry done word) stands (λ view k b h. h)
  pipe_holds step.TakingPage stands = no_step step.TakingPage stands (λ view k b h. h)
  pipe_holds (step.Gathering done) stands = no_step (step.Gathering done) stands (λ view k b h. h)
  pipe_holds (step.Keeping done word left) stands = no_step (step.Keeping done word left) stands (λ view k b h. h)
  pipe_holds step.Printing stands = no_step step.Printing stands (λ view k b h. h)
  pipe_holds step.Releasing stands = no_step step.Releasing stands (λ view k b h. h)
  pipe_holds step.Getting stands = no_step step.Getting stands (λ view k b h. h)
  pipe_holds (step.Delivering done word) stands = no_step (step.Delivering done word) stands (λ view k b h. h)
  pipe_holds (step.Faulting done word) stands = no_step (step.Faulting done word) stands (λ view k b h. h)
  pipe_holds (step.Asking own) stands = no_step (step.Asking own) stands (λ view k b h. h)
  pipe_holds (step.Awaiting own) stands = no_step (step.Awaiting own) stands (λ view k b h. h)
  pipe_holds (step.ReadingReply own) stands = no_step (step.ReadingReply own) stands (λ view k b h. h)
  pipe_holds step.Identifying stands = no_step step.Identifying stands (λ view k b h. h)
  pipe_holds (step.Clearing own) stands = no_step (step.Clearing own) stands (λ view k b h. h)
  pipe_holds step.ReadingMode stands = no_step step.ReadingMode stands (λ view k b h. h)
  pipe_holds step.ReadingNumber stands = no_step step.ReadingNumber stands (λ view k b h. h)
  pipe_holds (step.StoringNumber own) stands = no_step (step.StoringNumber own) stands (λ view k b h. h)
  pipe_holds step.StoringCount stands = no_step step.StoringCount stands (λ view k b h. h)
  pipe_holds step.TakingRequest stands = no_step step.TakingRequest stands (λ view k b h. h)
  pipe_holds (step.GatheringBytes done start) stands = no_step (step.GatheringBytes done start) stands (λ view k b h. h)
  pipe_holds (step.KeepingBytes done word left start) stands = no_step (step.KeepingBytes done word left start) stands (λ view k b h. h)
  pipe_holds step.FreeRegion stands = no_step step.FreeRegion stands (λ view k b h. h)
  pipe_holds (step.StoringMode kept) stands = no_step (step.StoringMode kept) stands (λ view k b h. h)
  pipe_holds (step.OpenIdentifying kept) stands = no_step (step.OpenIdentifying kept) stands (λ view k b h. h)
  pipe_holds (step.OpenAsking own kept) stands = no_step (step.OpenAsking own kept) stands (λ view k b h. h)
  pipe_holds (step.OpenPausing own kept) stands = no_step (step.OpenPausing own kept) stands (λ view k b h. h)
  pipe_holds (step.OpenAwaiting own kept) stands = no_step (step.OpenAwaiting own kept) stands (λ view k b h. h)
  pipe_holds (step.OpenClearing own kept) stands = no_step (step.OpenClearing own kept) stands (λ view k b h. h)
  pipe_holds (step.ReadingOpened own kept) stands = no_step (step.ReadingOpened own kept) stands (λ view k b h. h)
  pipe_holds (step.Spawning at) stands = no_step (step.Spawning at) stands (λ view k b h. h)
  pipe_holds (step.CountingReply own) stands =
      no_step (step.CountingReply own) stands (λ view k b h. let contradiction : false ≡ true = h.hands in cc)
  pipe_holds (step.FileRegion done count) stands =
      no_step (step.FileRegion done count) stands (λ view k b h. let contradiction : false ≡ true = h.hands in cc)
  pipe_holds (step.FileEntry done count) stands =
      no_step (step.FileEntry done count) stands (λ view k b h. let contradiction : false ≡ true = h.0.hands in cc)
  pipe_holds (step.LoadingBytes done count) stands =
      no_step (step.LoadingBytes done count) stands (λ view k b h. let contradiction : false ≡ true = h.has.hands in cc)
  pipe_holds (step.LoadingRest done count first) stands =
      no_step (step.LoadingRest done count first) stands (λ view k b h. let contradiction : false ≡ true = h.has.hands in cc)
  pipe_holds (step.PuttingBytes done count word) stands =
      no_step (step.PuttingBytes done count word) stands (λ view k b h. let contradiction : false ≡ true = h.has.hands in cc)
  pipe_holds (step.FileFaulting done count) stands =
      no_step (step.FileFaulting done count) stands (λ view k b h. let contradiction : false ≡ true = h.0.hands in cc)
  pipe_holds (step.Returning answer) stands = no_step (step.Returning answer) stands (λ view k b h. let contradiction : false ≡ true = h.goes in cc)
