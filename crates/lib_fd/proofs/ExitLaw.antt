-- The law of exit: it reads which descriptors are open, each that it drops is a step of it in the abstract system, and so is its end.
use Rattle.std.proofs.Common.{◌≡◌, ◌+◌, ◌%◌, ◌<◌, ◌≤◌, ℕ, Bool, true, false, not, [], ◌∷◌, refl, sym, subst, arith, if◌then◌else◌}
use Rattle.std.specs.Prelude.{nat_lt}
use Rattle.std.proofs.lemmas.Bool.Decides.{nat_tests}
use Rattle.jos_base.specs.declared.called.Called.{Called}
use Rattle.jos_base.specs.declared.numbers.TheConstants.{SYS_ENV_DESTROY, SYS_PAGE_UNMAP}
use Rattle.jos_base.specs.Environments.{Slot, is_live}
use Rattle.jos_base.specs.KernelState.{KernelState, slot_at}
use Rattle.lib_os.specs.declared.numbers.TheConstants.{DESCRIPTORS, SERVICE_EXIT}
use Rattle.lib_os.specs.declared.place.PipeStep.{PipeStep}
use Rattle.lib_os.specs.declared.place.PipeStep.TheVariants as pipe
use Rattle.lib_os.specs.declared.place.Place.TheVariants as place
use Rattle.lib_os.specs.declared.place.Step.{Step}
use Rattle.lib_os.specs.declared.place.Step.TheVariants as step
use Rattle.lib_os.specs.declared.service.Service.TheVariants as service
use Rattle.lib_os.specs.InOrder.{IsInOrder}
use Rattle.lib_os.specs.LibrarySteps.{frames_at}
use Rattle.lib_os.specs.AbstractState.{Born}
use Rattle.lib_os.specs.LibraryPages.{View}
use Rattle.lib_os.specs.Places.{place_of}
use Rattle.lib_os.specs.StandsFor.{StandsAtStep}
use Rattle.lib_os.specs.UserCalls.{CallStep, answer_of}
use Rattle.lib_os.proofs.Calls.{env_destroy_is}
use Rattle.lib_os.proofs.DescriptorLooks.{descriptor_va, entry_va, page_gives, page_word, table_gives, table_va, table_word}
use Rattle.lib_os.proofs.DescriptorsStand.{drop_is, drop_lives}
use Rattle.lib_os.proofs.EndsDropped.{pipe_drop_lives, pipe_entry_va, pipe_gives, pipe_va, pipe_word}
use Rattle.lib_os.proofs.Serving.{served}
use Rattle.lib_stage.specs.declared.ask.Next.TheVariants as next
use Rattle.lib_stage.specs.Asks.{frames_of, no_args}
use Rattle.lib_stage.specs.ServiceSteps.{Plan, or_nowhere, ServiceHolds, nowhere}
use Rattle.lib_stage.proofs.Laws.{Falls, IsAt, KeepsBy, is_plain, law_of_call, law_of_end, law_of_load, law_of_nowhere, plainly, shown_keeps}
use Rattle.lib_fd.specs.declared.exit.ExitStage.{ExitStage}
use Rattle.lib_fd.specs.declared.exit.ExitStage.TheVariants as exit
use Rattle.lib_fd.specs.DescriptorStages.{behind, descriptor_of, exit_at, exit_next, exiting, is_there}
use Rattle.lib_fd.proofs.Exits.{dropping_keeps, end_keeps, ending_keeps, entered_follows, entry_follows, pipe_entry_follows, pipe_keeps}

-- the step that a stage is kept as
abbrev step_of : ExitStage → Step
step_of exit.Entered = step.Entered
step_of (exit.Entry fd) = step.DescriptorEntry fd
step_of (exit.Dropping fd) = step.DroppingDescriptor fd
step_of exit.Ending = step.Ending
step_of (exit.PipeEntry fd) = step.Piped (pipe.PipeEntry fd)
step_of (exit.DroppingEnd fd) = step.Piped (pipe.DroppingEnd fd)
step_of (exit.DroppingPipe fd) = step.Piped (pipe.DroppingPipe fd)

-- it looks at one descriptor behind the other
behind_falls : (fd : ℕ) → Falls service.Exit (step.DescriptorEntry fd) (next.GoOn (behind fd))
behind_falls fd = by_test (nat_lt (descriptor_of fd + 1) DESCRIPTORS) refl
  where
    by_test : (c : Bool) → nat_lt (descriptor_of fd + 1) DESCRIPTORS ≡ c →
        Falls service.Exit (step.DescriptorEntry fd) (next.GoOn (if c then step.DescriptorEntry (descriptor_of fd + 1) else step.Ending))
    by_test true test = let further : fd % DESCRIPTORS + 1 < DESCRIPTORS = grind (arith, nat_tests) in omega (arith, further)
    by_test false test = omega arith

falls : (at : ExitStage) (word : ℕ) → Falls service.Exit (step_of at) (exit_next at word)
falls exit.Entered word = by_test (is_there word)
  where
    by_test : (c : Bool) → Falls service.Exit step.Entered (if not c then next.GoOn step.Ending else next.GoOn (step.DescriptorEntry 0))
    by_test true = omega arith
    by_test false = omega arith
falls (exit.Entry fd) word = by_test (is_there word)
  where
    by_test : (c : Bool) →
        Falls service.Exit (step.DescriptorEntry fd) (if not c then next.GoOn (behind fd) else next.GoOn (step.Piped (pipe.PipeEntry fd)))
    by_test true = omega arith
    by_test false = behind_falls fd
falls (exit.Dropping fd) word = tt
falls exit.Ending word = tt
falls (exit.PipeEntry fd) word = by_test (is_there word)
  where
    by_test : (c : Bool) → Falls service.Exit (step.Piped (pipe.PipeEntry fd))
        (next.GoOn (if c then step.Piped (pipe.DroppingEnd fd) else step.DroppingDescriptor fd))
    by_test true = omega arith
    by_test false = omega arith
falls (exit.DroppingEnd fd) word = omega arith
falls (exit.DroppingPipe fd) word = tt

abbrev plan : ExitStage → Plan
plan at = exiting (record { at = at })

few : (at : ExitStage) → frames_of (plan at).asks ≤ frames_at (place.InService service.Exit (step_of at))
few exit.Entered = omega arith
few (exit.Entry fd) = omega arith
few (exit.Dropping fd) = omega arith
few exit.Ending = omega arith
few (exit.PipeEntry fd) = omega arith
few (exit.DroppingEnd fd) = omega arith
few (exit.DroppingPipe fd) = omega arith

module _ (s : KernelState) (n : ℕ) (live : is_live (slot_at s n) ≡ true) where
  here : (at : ExitStage) → place_of (slot_at s n) ≡ place.InService service.Exit (step_of at) → is_plain (plan at).asks ≡ true →
      IsAt s n (plan at) service.Exit (step_of at)
  here at stands plain =
      record {
        stands = stands;
        live = live;
        numbered = refl;
        plain = plainly plain;
        goes_on = refl;
        falls = λ called. falls at (answer_of called);
        few = few at;
      }

  -- one on a pipe that it has not
  no_pipe : (at : PipeStep) → place_of (slot_at s n) ≡ place.InService service.Exit (step.Piped at) →
      ((view : View) (k : Slot) (b : Born) → StandsAtStep view k b service.Exit (step.Piped at) → ⊥) → ServiceHolds s n nowhere
  no_pipe at stands none = law_of_nowhere s n service.Exit (step.Piped at) stands refl none

  piped_holds : (at : PipeStep) → place_of (slot_at s n) ≡ place.InService service.Exit (step.Piped at) →
      ServiceHolds s n (or_nowhere exiting (exit_at (step.Piped at)))
  piped_holds (pipe.PipeEntry fd) stands =
      law_of_load s n (plan (exit.PipeEntry fd)) service.Exit (step.Piped (pipe.PipeEntry fd)) (here (exit.PipeEntry fd) stands refl)
      (pipe_entry_va fd) refl
      (λ names a h. let v = served h n service.Exit (step.Piped (pipe.PipeEntry fd)) stands in (
        record { word = pipe_word s n fd; is = pipe_gives h n fd v.at.0.below v.at.0.table },
        pipe_entry_follows s n fd stands names a h,
      ))
  piped_holds (pipe.DroppingEnd fd) stands =
      law_of_call s n (plan (exit.DroppingEnd fd)) service.Exit (step.Piped (pipe.DroppingEnd fd)) (here (exit.DroppingEnd fd) stands refl)
      SYS_PAGE_UNMAP (0 ∷ descriptor_va fd ∷ 0 ∷ 0 ∷ 0 ∷ []) refl refl (drop_lives s n fd live)
      (subst (λ (z : CallStep Called). IsInOrder z.state → KeepsBy s n (plan (exit.DroppingEnd fd)) z) (sym (drop_is s n fd live))
      (end_keeps s n fd stands))
  piped_holds (pipe.DroppingPipe fd) stands =
      let args = 0 ∷ pipe_va fd ∷ 0 ∷ 0 ∷ 0 ∷ [] in
      law_of_call s n (plan (exit.DroppingPipe fd)) service.Exit (step.Piped (pipe.DroppingPipe fd)) (here (exit.DroppingPipe fd) stands refl)
      SYS_PAGE_UNMAP args refl refl (pipe_drop_lives s n fd live)
      (λ order. shown_keeps s n SYS_PAGE_UNMAP args (plan (exit.DroppingPipe fd)) (behind fd) (pipe_drop_lives s n fd live) (λ called. refl)
      (pipe_keeps s n fd stands live order))
  piped_holds (pipe.SecondEntry reading fd) stands = no_pipe (pipe.SecondEntry reading fd) stands (λ view k b h. h)
  piped_holds (pipe.TakingReading reading writing) stands = no_pipe (pipe.TakingReading reading writing) stands (λ view k b h. h)
  piped_holds (pipe.StoringReading reading writing) stands = no_pipe (pipe.StoringReading reading writing) stands (λ view k b h. h)
  piped_holds (pipe.TakingWriting reading writing) stands = no_pipe (pipe.TakingWriting reading writing) stands (λ view k b h. h)
  piped_holds (pipe.StoringWriting reading writing) stands = no_pipe (pipe.StoringWriting reading writing) stands (λ view k b h. h)
  piped_holds (pipe.StoringEndMode reading writing) stands = no_pipe (pipe.StoringEndMode reading writing) stands (λ view k b h. h)
  piped_holds (pipe.TakingPipe reading writing) stands = no_pipe (pipe.TakingPipe reading writing) stands (λ view k b h. h)
  piped_holds (pipe.MappingPipe reading writing) stands = no_pipe (pipe.MappingPipe reading writing) stands (λ view k b h. h)
  piped_holds (pipe.UndoingWriting reading writing error) stands = no_pipe (pipe.UndoingWriting reading writing error) stands (λ view k b h. h)
  piped_holds (pipe.UndoingReading reading error) stands = no_pipe (pipe.UndoingReading reading error) stands (λ view k b h. h)
  piped_holds pipe.SourcePipe stands = no_pipe pipe.SourcePipe stands (λ view k b h. h)
  piped_holds pipe.MappingEnd stands = no_pipe pipe.MappingEnd stands (λ view k b h. h)
  piped_holds pipe.EndMode stands = no_pipe pipe.EndMode stands (λ view k b h. h)
  piped_holds pipe.TakingBytes stands = no_pipe pipe.TakingBytes stands (λ view k b h. h)
  piped_holds (pipe.Locking done id runs) stands = no_pipe (pipe.Locking done id runs) stands (λ view k b h. h)
  piped_holds (pipe.LockPausing done) stands = no_pipe (pipe.LockPausing done) stands (λ view k b h. h)
  piped_holds (pipe.ReadFrom done id runs) stands = no_pipe (pipe.ReadFrom done id runs) stands (λ view k b h. h)
  piped_holds (pipe.ReadTo done id runs from) stands = no_pipe (pipe.ReadTo done id runs from) stands (λ view k b h. h)
  piped_holds (pipe.LoadingHeld done from) stands = no_pipe (pipe.LoadingHeld done from) stands (λ view k b h. h)
  piped_holds (pipe.KeepingHeld done from byte) stands = no_pipe (pipe.KeepingHeld done from byte) stands (λ view k b h. h)
  piped_holds (pipe.TakingHeld done from) stands = no_pipe (pipe.TakingHeld done from) stands (λ view k b h. h)
  piped_holds (pipe.LoadingOwn done to) stands = no_pipe (pipe.LoadingOwn done to) stands (λ view k b h. h)
  piped_holds (pipe.PuttingOwn done to byte) stands = no_pipe (pipe.PuttingOwn done to byte) stands (λ view k b h. h)
  piped_holds (pipe.Putting done to) stands = no_pipe (pipe.Putting done to) stands (λ view k b h. h)
  piped_holds (pipe.UnlockingMoved done) stands = no_pipe (pipe.UnlockingMoved done) stands (λ view k b h. h)
  piped_holds (pipe.UnlockingEnd done) stands = no_pipe (pipe.UnlockingEnd done) stands (λ view k b h. h)
  piped_holds (pipe.UnlockingTest done id runs) stands = no_pipe (pipe.UnlockingTest done id runs) stands (λ view k b h. h)
  piped_holds (pipe.TestIdentifying done) stands = no_pipe (pipe.TestIdentifying done) stands (λ view k b h. h)
  piped_holds (pipe.TestRuns done id) stands = no_pipe (pipe.TestRuns done id) stands (λ view k b h. h)
  piped_holds (pipe.TestAgain done id runs) stands = no_pipe (pipe.TestAgain done id runs) stands (λ view k b h. h)
  piped_holds (pipe.TestOwn done id runs) stands = no_pipe (pipe.TestOwn done id runs) stands (λ view k b h. h)
  piped_holds (pipe.TestOther done id runs own) stands = no_pipe (pipe.TestOther done id runs own) stands (λ view k b h. h)
  piped_holds (pipe.TestDescriptor done id runs) stands = no_pipe (pipe.TestDescriptor done id runs) stands (λ view k b h. h)
  piped_holds (pipe.TestDescriptorCount done id runs entry) stands = no_pipe (pipe.TestDescriptorCount done id runs entry) stands (λ view k b h. h)
  piped_holds (pipe.TestPipe done id runs count) stands = no_pipe (pipe.TestPipe done id runs count) stands (λ view k b h. h)
  piped_holds (pipe.TestPipeCount done id runs count entry) stands = no_pipe (pipe.TestPipeCount done id runs count entry) stands (λ view k b h. h)
  piped_holds (pipe.TestRunsAgain done id runs closed) stands = no_pipe (pipe.TestRunsAgain done id runs closed) stands (λ view k b h. h)
  piped_holds (pipe.TestPausing done) stands = no_pipe (pipe.TestPausing done) stands (λ view k b h. h)
  piped_holds pipe.StatLocking stands = no_pipe pipe.StatLocking stands (λ view k b h. h)
  piped_holds pipe.StatPausing stands = no_pipe pipe.StatPausing stands (λ view k b h. h)
  piped_holds pipe.StatFrom stands = no_pipe pipe.StatFrom stands (λ view k b h. h)
  piped_holds (pipe.StatTo from) stands = no_pipe (pipe.StatTo from) stands (λ view k b h. h)
  piped_holds (pipe.StatUnlocking held) stands = no_pipe (pipe.StatUnlocking held) stands (λ view k b h. h)

  pub exit_holds : (at : Step) → place_of (slot_at s n) ≡ place.InService service.Exit at → ServiceHolds s n (or_nowhere exiting (exit_at at))
  exit_holds step.Entered stands =
      law_of_load s n (plan exit.Entered) service.Exit step.Entered (here exit.Entered stands refl) table_va refl
      (λ names a h. (
        record { word = table_word s n; is = table_gives h n },
        entered_follows s n stands names a h,
      ))
  exit_holds (step.DescriptorEntry fd) stands =
      law_of_load s n (plan (exit.Entry fd)) service.Exit (step.DescriptorEntry fd) (here (exit.Entry fd) stands refl) (entry_va fd) refl
      (λ names a h. let v = served h n service.Exit (step.DescriptorEntry fd) stands in (
        record { word = page_word s n fd; is = page_gives h n fd v.at.1 v.at.3 },
        entry_follows s n fd stands names a h,
      ))
  exit_holds (step.DroppingDescriptor fd) stands =
      let args = 0 ∷ descriptor_va fd ∷ 0 ∷ 0 ∷ 0 ∷ [] in
      law_of_call s n (plan (exit.Dropping fd)) service.Exit (step.DroppingDescriptor fd) (here (exit.Dropping fd) stands refl)
      SYS_PAGE_UNMAP args refl refl (drop_lives s n fd live)
      (λ order. shown_keeps s n SYS_PAGE_UNMAP args (plan (exit.Dropping fd)) (behind fd) (drop_lives s n fd live) (λ called. refl)
      (dropping_keeps s n fd stands live order))
  exit_holds step.Ending stands =
      law_of_end s n service.Exit step.Ending stands refl SERVICE_EXIT SYS_ENV_DESTROY no_args refl refl refl
      (subst (λ (z : CallStep Called). IsInOrder z.state → KeepsBy s n (plan exit.Ending) z) (sym (env_destroy_is s n live (0 ∷ 0 ∷ 0 ∷ 0 ∷ [])))
      (ending_keeps s n stands live))
  exit_holds (step.Piped at) stands = piped_holds at stands
  exit_holds (step.Trying perm) stands = law_of_nowhere s n service.Exit (step.Trying perm) stands refl (λ view k b h. h)
  exit_holds (step.Pausing perm) stands = law_of_nowhere s n service.Exit (step.Pausing perm) stands refl (λ view k b h. h)
  exit_holds step.ReadingRegion stands = law_of_nowhere s n service.Exit step.ReadingRegion stands refl (λ view k b h. h)
  exit_holds step.ReadingEntry stands = law_of_nowhere s n service.Exit step.ReadingEntry stands refl (λ view k b h. h)
  exit_holds (step.Receiving id) stands = law_of_nowhere s n service.Exit (step.Receiving id) stands refl (λ view k b h. h)
  exit_holds (step.ReadingValue id) stands = law_of_nowhere s n service.Exit (step.ReadingValue id) stands refl (λ view k b h. h)
  exit_holds (step.ReadingSender id value) stands = law_of_nowhere s n service.Exit (step.ReadingSender id value) stands refl (λ view k b h. h)
  exit_holds (step.ReadingPerm id value sender) stands =
      law_of_nowhere s n service.Exit (step.ReadingPerm id value sender) stands refl (λ view k b h. h)
  exit_holds (step.ForkRegion id region) stands = law_of_nowhere s n service.Exit (step.ForkRegion id region) stands refl (λ view k b h. h)
  exit_holds (step.ForkEntry id page) stands = law_of_nowhere s n service.Exit (step.ForkEntry id page) stands refl (λ view k b h. h)
  exit_holds (step.MapChild id page perm) stands = law_of_nowhere s n service.Exit (step.MapChild id page perm) stands refl (λ view k b h. h)
  exit_holds (step.Remap id page) stands = law_of_nowhere s n service.Exit (step.Remap id page) stands refl (λ view k b h. h)
  exit_holds (step.ChildStack id) stands = law_of_nowhere s n service.Exit (step.ChildStack id) stands refl (λ view k b h. h)
  exit_holds (step.ChildUpcall id) stands = law_of_nowhere s n service.Exit (step.ChildUpcall id) stands refl (λ view k b h. h)
  exit_holds (step.ChildRuns id) stands = law_of_nowhere s n service.Exit (step.ChildRuns id) stands refl (λ view k b h. h)
  exit_holds (step.Undoing id error) stands = law_of_nowhere s n service.Exit (step.Undoing id error) stands refl (λ view k b h. h)
  exit_holds step.TargetEntry stands = law_of_nowhere s n service.Exit step.TargetEntry stands refl (λ view k b h. h)
  exit_holds step.MappingDescriptor stands = law_of_nowhere s n service.Exit step.MappingDescriptor stands refl (λ view k b h. h)
  exit_holds step.ReadingDevice stands = law_of_nowhere s n service.Exit step.ReadingDevice stands refl (λ view k b h. h)
  exit_holds (step.BufferRegion done word) stands = law_of_nowhere s n service.Exit (step.BufferRegion done word) stands refl (λ view k b h. h)
  exit_holds (step.BufferEntry done word) stands = law_of_nowhere s n service.Exit (step.BufferEntry done word) stands refl (λ view k b h. h)
  exit_holds step.TakingPage stands = law_of_nowhere s n service.Exit step.TakingPage stands refl (λ view k b h. h)
  exit_holds (step.Gathering done) stands = law_of_nowhere s n service.Exit (step.Gathering done) stands refl (λ view k b h. h)
  exit_holds (step.Keeping done word left) stands = law_of_nowhere s n service.Exit (step.Keeping done word left) stands refl (λ view k b h. h)
  exit_holds step.Printing stands = law_of_nowhere s n service.Exit step.Printing stands refl (λ view k b h. h)
  exit_holds step.Releasing stands = law_of_nowhere s n service.Exit step.Releasing stands refl (λ view k b h. h)
  exit_holds step.Getting stands = law_of_nowhere s n service.Exit step.Getting stands refl (λ view k b h. h)
  exit_holds (step.Delivering done word) stands = law_of_nowhere s n service.Exit (step.Delivering done word) stands refl (λ view k b h. h)
  exit_holds (step.Faulting done word) stands = law_of_nowhere s n service.Exit (step.Faulting done word) stands refl (λ view k b h. h)
  exit_holds (step.Asking own) stands = law_of_nowhere s n service.Exit (step.Asking own) stands refl (λ view k b h. h)
  exit_holds (step.Awaiting own) stands = law_of_nowhere s n service.Exit (step.Awaiting own) stands refl (λ view k b h. h)
  exit_holds (step.ReadingReply own) stands = law_of_nowhere s n service.Exit (step.ReadingReply own) stands refl (λ view k b h. h)
  exit_holds step.Identifying stands = law_of_nowhere s n service.Exit step.Identifying stands refl (λ view k b h. h)
  exit_holds (step.Clearing own) stands = law_of_nowhere s n service.Exit (step.Clearing own) stands refl (λ view k b h. h)
  exit_holds step.ReadingMode stands = law_of_nowhere s n service.Exit step.ReadingMode stands refl (λ view k b h. h)
  exit_holds step.ReadingNumber stands = law_of_nowhere s n service.Exit step.ReadingNumber stands refl (λ view k b h. h)
  exit_holds (step.StoringNumber own) stands = law_of_nowhere s n service.Exit (step.StoringNumber own) stands refl (λ view k b h. h)
  exit_holds step.StoringCount stands = law_of_nowhere s n service.Exit step.StoringCount stands refl (λ view k b h. h)
  exit_holds step.TakingRequest stands = law_of_nowhere s n service.Exit step.TakingRequest stands refl (λ view k b h. h)
  exit_holds (step.GatheringBytes done start) stands = law_of_nowhere s n service.Exit (step.GatheringBytes done start) stands refl (λ view k b h. h)
  exit_holds (step.KeepingBytes done word left start) stands = law_of_nowhere s n service.Exit (step.KeepingBytes done word left start) stands refl (λ view k b h. h)
  exit_holds step.FreeRegion stands = law_of_nowhere s n service.Exit step.FreeRegion stands refl (λ view k b h. h)
  exit_holds (step.FreeEntry kept) stands = law_of_nowhere s n service.Exit (step.FreeEntry kept) stands refl (λ view k b h. h)
  exit_holds (step.StoringMode kept) stands = law_of_nowhere s n service.Exit (step.StoringMode kept) stands refl (λ view k b h. h)
  exit_holds (step.OpenIdentifying kept) stands = law_of_nowhere s n service.Exit (step.OpenIdentifying kept) stands refl (λ view k b h. h)
  exit_holds (step.OpenAsking own kept) stands = law_of_nowhere s n service.Exit (step.OpenAsking own kept) stands refl (λ view k b h. h)
  exit_holds (step.OpenPausing own kept) stands = law_of_nowhere s n service.Exit (step.OpenPausing own kept) stands refl (λ view k b h. h)
  exit_holds (step.OpenAwaiting own kept) stands = law_of_nowhere s n service.Exit (step.OpenAwaiting own kept) stands refl (λ view k b h. h)
  exit_holds (step.OpenClearing own kept) stands = law_of_nowhere s n service.Exit (step.OpenClearing own kept) stands refl (λ view k b h. h)
  exit_holds (step.ReadingOpened own kept) stands = law_of_nowhere s n service.Exit (step.ReadingOpened own kept) stands refl (λ view k b h. h)
  exit_holds (step.Spawning at) stands = law_of_nowhere s n service.Exit (step.Spawning at) stands refl (λ view k b h. h)
  exit_holds (step.CountingReply own) stands = law_of_nowhere s n service.Exit (step.CountingReply own) stands refl (λ view k b h. let contradiction : false ≡ true = h.hands in cc)
  exit_holds (step.FileRegion done count) stands = law_of_nowhere s n service.Exit (step.FileRegion done count) stands refl (λ view k b h. let contradiction : false ≡ true = h.hands in cc)
  exit_holds (step.FileEntry done count) stands = law_of_nowhere s n service.Exit (step.FileEntry done count) stands refl (λ view k b h. let contradiction : false ≡ true = h.0.hands in cc)
  exit_holds (step.LoadingBytes done count) stands = law_of_nowhere s n service.Exit (step.LoadingBytes done count) stands refl (λ view k b h. let contradiction : false ≡ true = h.has.hands in cc)
  exit_holds (step.LoadingRest done count first) stands = law_of_nowhere s n service.Exit (step.LoadingRest done count first) stands refl (λ view k b h. let contradiction : false ≡ true = h.has.hands in cc)
  exit_holds (step.PuttingBytes done count word) stands = law_of_nowhere s n service.Exit (step.PuttingBytes done count word) stands refl (λ view k b h. let contradiction : false ≡ true = h.has.hands in cc)
  exit_holds (step.FileFaulting done count) stands = law_of_nowhere s n service.Exit (step.FileFaulting done count) stands refl (λ view k b h. let contradiction : false ≡ true = h.0.hands in cc)
  exit_holds (step.Returning answer) stands = law_of_nowhere s n service.Exit (step.Returning answer) stands refl (λ view k b h. let contradiction : false ≡ true = h.goes in cc)
