-- The law of dup: its answers are seen, and that the new descriptor is dropped where it is open; all between is hidden.
use Rattle.std.proofs.Common.{◌≡◌, ℕ, false, true, refl}
use Rattle.jos_base.specs.Environments.{Slot, is_live}
use Rattle.jos_base.specs.KernelState.{KernelState, slot_at}
use Rattle.lib_os.specs.declared.place.PipeStep.{PipeStep}
use Rattle.lib_os.specs.declared.place.PipeStep.TheVariants as pipe
use Rattle.lib_os.specs.declared.place.Place.TheVariants as place
use Rattle.lib_os.specs.declared.place.Step.{Step}
use Rattle.lib_os.specs.declared.place.Step.TheVariants as step
use Rattle.lib_os.specs.declared.service.Service.TheVariants as service
use Rattle.lib_os.specs.AbstractState.{Born}
use Rattle.lib_os.specs.LibraryPages.{View}
use Rattle.lib_os.specs.Places.{place_of}
use Rattle.lib_os.specs.StandsFor.{StandsAtStep}
use Rattle.lib_stage.specs.ServiceSteps.{or_nowhere, ServiceHolds, nowhere}
use Rattle.lib_stage.proofs.Laws.{law_of_nowhere}
use Rattle.lib_fd.specs.DescriptorStages.{dup_at, duplicating}
use Rattle.lib_fd.proofs.DupChanges.{dropping_end_holds, dropping_holds, dropping_pipe_holds, mapping_end_holds, mapping_holds}
use Rattle.lib_fd.proofs.DupReads.{entered_holds, new_entry_holds, new_pipe_holds, old_entry_holds, old_pipe_holds}

module _ (s : KernelState) (n old new : ℕ) (live : is_live (slot_at s n) ≡ true) where
  -- one on a pipe that it has not
  no_pipe : (at : PipeStep) → place_of (slot_at s n) ≡ place.InService (service.Dup old new) (step.Piped at) →
      ((view : View) (k : Slot) (b : Born) → StandsAtStep view k b (service.Dup old new) (step.Piped at) → ⊥) → ServiceHolds s n nowhere
  no_pipe at stands none = law_of_nowhere s n (service.Dup old new) (step.Piped at) stands refl none

  piped_holds : (at : PipeStep) → place_of (slot_at s n) ≡ place.InService (service.Dup old new) (step.Piped at) →
      ServiceHolds s n (or_nowhere duplicating (dup_at old new (step.Piped at)))
  piped_holds (pipe.PipeEntry fd) stands = new_pipe_holds s n old new live fd stands
  piped_holds (pipe.DroppingEnd fd) stands = dropping_end_holds s n old new live fd stands
  piped_holds (pipe.DroppingPipe fd) stands = dropping_pipe_holds s n old new live fd stands
  piped_holds pipe.SourcePipe stands = old_pipe_holds s n old new live stands
  piped_holds pipe.MappingEnd stands = mapping_end_holds s n old new live stands
  piped_holds (pipe.SecondEntry reading fd) stands = no_pipe (pipe.SecondEntry reading fd) stands (λ view k b h. h)
  piped_holds (pipe.TakingReading reading writing) stands = no_pipe (pipe.TakingReading reading writing) stands (λ view k b h. h)
  piped_holds (pipe.StoringReading reading writing) stands = no_pipe (pipe.StoringReading reading writing) stands (λ view k b h. h)
  piped_holds (pipe.TakingWriting reading writing) stands = no_pipe (pipe.TakingWriting reading writing) stands (λ view k b h. h)
  piped_holds (pipe.StoringWriting reading writing) stands = no_pipe (pipe.StoringWriting reading writing) stands (λ view k b h. h)
  piped_holds (pipe.StoringEndMode reading writing) stands = no_pipe (pipe.StoringEndMode reading writing) stands (λ view k b h. h)
  piped_holds (pipe.TakingPipe reading writing) stands = no_pipe (pipe.TakingPipe reading writing) stands (λ view k b h. h)
  piped_holds (pipe.MappingPipe reading writing) stands = no_pipe (pipe.MappingPipe reading writing) stands (λ view k b h. h)
  piped_holds (pipe.UndoingWriting reading writing error) stands = no_pipe (pipe.UndoingWriting reading writing error) stands (λ view k b h. h)
  piped_holds (pipe.UndoingReading reading error) stands = no_pipe (pipe.UndoingReading reading error) stands (λ view k b h. h)
  piped_holds pipe.EndMode stands = no_pipe pipe.EndMode stands (λ view k b h. h)
  piped_holds pipe.TakingBytes stands = no_pipe pipe.TakingBytes stands (λ view k b h. h)
  piped_holds (pipe.Locking done id runs) stands = no_pipe (pipe.Locking done id runs) stands (λ view k b h. h)
  piped_holds (pipe.LockPausing done) stands = no_pipe (pipe.LockPausing done) stands (λ view k b h. h)
  piped_holds (pipe.ReadFrom done id runs) stands = no_pipe (pipe.ReadFrom done id runs) stands (λ view k b h. h)
  piped_holds (pipe.ReadTo done id runs from) stands = no_pipe (pipe.ReadTo done id runs from) stands (λ view k b h. h)
  piped_holds (pipe.LoadingHeld done from) stands = no_pipe (pipe.LoadingHeld done from) stands (λ view k b h. h)
  piped_holds (pipe.KeepingHeld done from byte) stands = no_pipe (pipe.KeepingHeld done from byte) stands (λ view k b h. h)
  piped_holds (pipe.TakingHeld done from) stands = no_pipe (pipe.TakingHeld done from) stands (λ view k b h. h)
  piped_holds (pipe.LoadingOwn done to) stands = no_pipe (pipe.LoadingOwn done to) stands (λ view k b h. h)
  piped_holds (pipe.PuttingOwn done to byte) stands = no_pipe (pipe.PuttingOwn done to byte) stands (λ view k b h. h)
  piped_holds (pipe.Putting done to) stands = no_pipe (pipe.Putting done to) stands (λ view k b h. h)
  piped_holds (pipe.UnlockingMoved done) stands = no_pipe (pipe.UnlockingMoved done) stands (λ view k b h. h)
  piped_holds (pipe.UnlockingEnd done) stands = no_pipe (pipe.UnlockingEnd done) stands (λ view k b h. h)
  piped_holds (pipe.UnlockingTest done id runs) stands = no_pipe (pipe.UnlockingTest done id runs) stands (λ view k b h. h)
  piped_holds (pipe.TestIdentifying done) stands = no_pipe (pipe.TestIdentifying done) stands (λ view k b h. h)
  piped_holds (pipe.TestRuns done id) stands = no_pipe (pipe.TestRuns done id) stands (λ view k b h. h)
  piped_holds (pipe.TestAgain done id runs) stands = no_pipe (pipe.TestAgain done id runs) stands (λ view k b h. h)
  piped_holds (pipe.TestOwn done id runs) stands = no_pipe (pipe.TestOwn done id runs) stands (λ view k b h. h)
  piped_holds (pipe.TestOther done id runs own) stands = no_pipe (pipe.TestOther done id runs own) stands (λ view k b h. h)
  piped_holds (pipe.TestDescriptor done id runs) stands = no_pipe (pipe.TestDescriptor done id runs) stands (λ view k b h. h)
  piped_holds (pipe.TestDescriptorCount done id runs entry) stands = no_pipe (pipe.TestDescriptorCount done id runs entry) stands (λ view k b h. h)
  piped_holds (pipe.TestPipe done id runs count) stands = no_pipe (pipe.TestPipe done id runs count) stands (λ view k b h. h)
  piped_holds (pipe.TestPipeCount done id runs count entry) stands = no_pipe (pipe.TestPipeCount done id runs count entry) stands (λ view k b h. h)
  piped_holds (pipe.TestRunsAgain done id runs closed) stands = no_pipe (pipe.TestRunsAgain done id runs closed) stands (λ view k b h. h)
  piped_holds (pipe.TestPausing done) stands = no_pipe (pipe.TestPausing done) stands (λ view k b h. h)
  piped_holds pipe.StatLocking stands = no_pipe pipe.StatLocking stands (λ view k b h. h)
  piped_holds pipe.StatPausing stands = no_pipe pipe.StatPausing stands (λ view k b h. h)
  piped_holds pipe.StatFrom stands = no_pipe pipe.StatFrom stands (λ view k b h. h)
  piped_holds (pipe.StatTo from) stands = no_pipe (pipe.StatTo from) stands (λ view k b h. h)
  piped_holds (pipe.StatUnlocking held) stands = no_pipe (pipe.StatUnlocking held) stands (λ view k b h. h)

  pub dup_holds : (at : Step) → place_of (slot_at s n) ≡ place.InService (service.Dup old new) at →
      ServiceHolds s n (or_nowhere duplicating (dup_at old new at))
  dup_holds step.Entered stands = entered_holds s n old new live stands
  dup_holds (step.DescriptorEntry fd) stands = old_entry_holds s n old new live fd stands
  dup_holds step.TargetEntry stands = new_entry_holds s n old new live stands
  dup_holds (step.DroppingDescriptor fd) stands = dropping_holds s n old new live fd stands
  dup_holds step.MappingDescriptor stands = mapping_holds s n old new live stands
  dup_holds (step.Piped at) stands = piped_holds at stands
  dup_holds step.ReadingRegion stands = law_of_nowhere s n (service.Dup old new) step.ReadingRegion stands refl (λ view k b h. h)
  dup_holds step.ReadingEntry stands = law_of_nowhere s n (service.Dup old new) step.ReadingEntry stands refl (λ view k b h. h)
  dup_holds (step.Trying perm) stands = law_of_nowhere s n (service.Dup old new) (step.Trying perm) stands refl (λ view k b h. h)
  dup_holds (step.Pausing perm) stands = law_of_nowhere s n (service.Dup old new) (step.Pausing perm) stands refl (λ view k b h. h)
  dup_holds (step.Receiving id) stands = law_of_nowhere s n (service.Dup old new) (step.Receiving id) stands refl (λ view k b h. h)
  dup_holds (step.ReadingValue id) stands = law_of_nowhere s n (service.Dup old new) (step.ReadingValue id) stands refl (λ view k b h. h)
  dup_holds (step.ReadingSender id value) stands = law_of_nowhere s n (service.Dup old new) (step.ReadingSender id value) stands refl (λ view k b h. h)
  dup_holds (step.ReadingPerm id value sender) stands = law_of_nowhere s n (service.Dup old new) (step.ReadingPerm id value sender) stands refl (λ view k b h. h)
  dup_holds (step.ForkRegion id region) stands = law_of_nowhere s n (service.Dup old new) (step.ForkRegion id region) stands refl (λ view k b h. h)
  dup_holds (step.ForkEntry id page) stands = law_of_nowhere s n (service.Dup old new) (step.ForkEntry id page) stands refl (λ view k b h. h)
  dup_holds (step.MapChild id page perm) stands = law_of_nowhere s n (service.Dup old new) (step.MapChild id page perm) stands refl (λ view k b h. h)
  dup_holds (step.Remap id page) stands = law_of_nowhere s n (service.Dup old new) (step.Remap id page) stands refl (λ view k b h. h)
  dup_holds (step.ChildStack id) stands = law_of_nowhere s n (service.Dup old new) (step.ChildStack id) stands refl (λ view k b h. h)
  dup_holds (step.ChildUpcall id) stands = law_of_nowhere s n (service.Dup old new) (step.ChildUpcall id) stands refl (λ view k b h. h)
  dup_holds (step.ChildRuns id) stands = law_of_nowhere s n (service.Dup old new) (step.ChildRuns id) stands refl (λ view k b h. h)
  dup_holds (step.Undoing id error) stands = law_of_nowhere s n (service.Dup old new) (step.Undoing id error) stands refl (λ view k b h. h)
  dup_holds step.Ending stands = law_of_nowhere s n (service.Dup old new) step.Ending stands refl (λ view k b h. h)
  dup_holds step.ReadingDevice stands = law_of_nowhere s n (service.Dup old new) step.ReadingDevice stands refl (λ view k b h. h)
  dup_holds (step.BufferRegion done word) stands = law_of_nowhere s n (service.Dup old new) (step.BufferRegion done word) stands refl (λ view k b h. h)
  dup_holds (step.BufferEntry done word) stands = law_of_nowhere s n (service.Dup old new) (step.BufferEntry done word) stands refl (λ view k b h. h)
  dup_holds step.TakingPage stands = law_of_nowhere s n (service.Dup old new) step.TakingPage stands refl (λ view k b h. h)
  dup_holds (step.Gathering done) stands = law_of_nowhere s n (service.Dup old new) (step.Gathering done) stands refl (λ view k b h. h)
  dup_holds (step.Keeping done word left) stands = law_of_nowhere s n (service.Dup old new) (step.Keeping done word left) stands refl (λ view k b h. h)
  dup_holds step.Printing stands = law_of_nowhere s n (service.Dup old new) step.Printing stands refl (λ view k b h. h)
  dup_holds step.Releasing stands = law_of_nowhere s n (service.Dup old new) step.Releasing stands refl (λ view k b h. h)
  dup_holds step.Getting stands = law_of_nowhere s n (service.Dup old new) step.Getting stands refl (λ view k b h. h)
  dup_holds (step.Delivering done word) stands = law_of_nowhere s n (service.Dup old new) (step.Delivering done word) stands refl (λ view k b h. h)
  dup_holds (step.Faulting done word) stands = law_of_nowhere s n (service.Dup old new) (step.Faulting done word) stands refl (λ view k b h. h)
  dup_holds (step.Asking own) stands = law_of_nowhere s n (service.Dup old new) (step.Asking own) stands refl (λ view k b h. h)
  dup_holds (step.Awaiting own) stands = law_of_nowhere s n (service.Dup old new) (step.Awaiting own) stands refl (λ view k b h. h)
  dup_holds (step.ReadingReply own) stands = law_of_nowhere s n (service.Dup old new) (step.ReadingReply own) stands refl (λ view k b h. h)
  dup_holds step.Identifying stands = law_of_nowhere s n (service.Dup old new) step.Identifying stands refl (λ view k b h. h)
  dup_holds (step.Clearing own) stands = law_of_nowhere s n (service.Dup old new) (step.Clearing own) stands refl (λ view k b h. h)
  dup_holds step.ReadingMode stands = law_of_nowhere s n (service.Dup old new) step.ReadingMode stands refl (λ view k b h. h)
  dup_holds step.ReadingNumber stands = law_of_nowhere s n (service.Dup old new) step.ReadingNumber stands refl (λ view k b h. h)
  dup_holds (step.StoringNumber own) stands = law_of_nowhere s n (service.Dup old new) (step.StoringNumber own) stands refl (λ view k b h. h)
  dup_holds step.StoringCount stands = law_of_nowhere s n (service.Dup old new) step.StoringCount stands refl (λ view k b h. h)
  dup_holds step.TakingRequest stands = law_of_nowhere s n (service.Dup old new) step.TakingRequest stands refl (λ view k b h. h)
  dup_holds (step.GatheringBytes done start) stands = law_of_nowhere s n (service.Dup old new) (step.GatheringBytes done start) stands refl (λ view k b h. h)
  dup_holds (step.KeepingBytes done word left start) stands = law_of_nowhere s n (service.Dup old new) (step.KeepingBytes done word left start) stands refl (λ view k b h. h)
  dup_holds step.FreeRegion stands = law_of_nowhere s n (service.Dup old new) step.FreeRegion stands refl (λ view k b h. h)
  dup_holds (step.FreeEntry kept) stands = law_of_nowhere s n (service.Dup old new) (step.FreeEntry kept) stands refl (λ view k b h. h)
  dup_holds (step.StoringMode kept) stands = law_of_nowhere s n (service.Dup old new) (step.StoringMode kept) stands refl (λ view k b h. h)
  dup_holds (step.OpenIdentifying kept) stands = law_of_nowhere s n (service.Dup old new) (step.OpenIdentifying kept) stands refl (λ view k b h. h)
  dup_holds (step.OpenAsking own kept) stands = law_of_nowhere s n (service.Dup old new) (step.OpenAsking own kept) stands refl (λ view k b h. h)
  dup_holds (step.OpenPausing own kept) stands = law_of_nowhere s n (service.Dup old new) (step.OpenPausing own kept) stands refl (λ view k b h. h)
  dup_holds (step.OpenAwaiting own kept) stands = law_of_nowhere s n (service.Dup old new) (step.OpenAwaiting own kept) stands refl (λ view k b h. h)
  dup_holds (step.OpenClearing own kept) stands = law_of_nowhere s n (service.Dup old new) (step.OpenClearing own kept) stands refl (λ view k b h. h)
  dup_holds (step.ReadingOpened own kept) stands = law_of_nowhere s n (service.Dup old new) (step.ReadingOpened own kept) stands refl (λ view k b h. h)
  dup_holds (step.Spawning at) stands = law_of_nowhere s n (service.Dup old new) (step.Spawning at) stands refl (λ view k b h. h)
  dup_holds (step.CountingReply own) stands = law_of_nowhere s n (service.Dup old new) (step.CountingReply own) stands refl (λ view k b h. let contradiction : false ≡ true = h.hands in cc)
  dup_holds (step.FileRegion done count) stands = law_of_nowhere s n (service.Dup old new) (step.FileRegion done count) stands refl (λ view k b h. let contradiction : false ≡ true = h.hands in cc)
  dup_holds (step.FileEntry done count) stands = law_of_nowhere s n (service.Dup old new) (step.FileEntry done count) stands refl (λ view k b h. let contradiction : false ≡ true = h.0.hands in cc)
  dup_holds (step.LoadingBytes done count) stands = law_of_nowhere s n (service.Dup old new) (step.LoadingBytes done count) stands refl (λ view k b h. let contradiction : false ≡ true = h.has.hands in cc)
  dup_holds (step.LoadingRest done count first) stands = law_of_nowhere s n (service.Dup old new) (step.LoadingRest done count first) stands refl (λ view k b h. let contradiction : false ≡ true = h.has.hands in cc)
  dup_holds (step.PuttingBytes done count word) stands = law_of_nowhere s n (service.Dup old new) (step.PuttingBytes done count word) stands refl (λ view k b h. let contradiction : false ≡ true = h.has.hands in cc)
  dup_holds (step.FileFaulting done count) stands = law_of_nowhere s n (service.Dup old new) (step.FileFaulting done count) stands refl (λ view k b h. let contradiction : false ≡ true = h.0.hands in cc)
  dup_holds (step.Returning answer) stands = law_of_nowhere s n (service.Dup old new) (step.Returning answer) stands refl (λ view k b h. let contradiction : false ≡ true = h.goes in cc)
