-- The law of open_file: what it is at each of its steps in the abstract system.
use Rattle.std.proofs.Common.{◌≡◌, ◌||◌, ℕ, true, false, refl}
use Rattle.jos_base.specs.Environments.{Slot, is_live, is_runnable, is_running}
use Rattle.jos_base.specs.KernelState.{KernelState, slot_at}
use Rattle.lib_os.specs.declared.place.Place.TheVariants as place
use Rattle.lib_os.specs.declared.place.Step.{Step}
use Rattle.lib_os.specs.declared.place.Step.TheVariants as step
use Rattle.lib_os.specs.declared.service.Service.{Service}
use Rattle.lib_os.specs.declared.service.Service.TheVariants as service
use Rattle.lib_os.specs.AbstractState.{Born}
use Rattle.lib_os.specs.LibraryPages.{View}
use Rattle.lib_os.specs.LibrarySteps.{is_pausing}
use Rattle.lib_os.specs.Places.{place_of}
use Rattle.lib_os.specs.StandsFor.{StandsAtStep}
use Rattle.lib_os.specs.StandsInHandler.{AreSmall}
use Rattle.lib_stage.specs.ServiceSteps.{ServiceHolds, nowhere, or_nowhere}
use Rattle.lib_stage.proofs.Laws.{law_of_nowhere}
use Rattle.lib_file.proofs.BufferLaw.{buffer_entry_holds, buffer_region_holds}
use Rattle.lib_request.specs.OpenStages.{open_at, opening}
use Rattle.lib_request.proofs.OpenBegins.{entering_holds, free_entry_holds, free_region_holds, open_awaiting_holds, open_clearing_holds}
use Rattle.lib_request.proofs.OpenBegins.{open_reading_holds, storing_mode_holds}
use Rattle.lib_request.proofs.PageAsks.{asking_holds, identifying_holds, pausing_holds}
use Rattle.lib_request.proofs.PathGathers.{gathering_holds}
use Rattle.lib_request.proofs.PathKeeps.{keeping_holds}
use Rattle.lib_request.proofs.PathTakes.{path_faulting_holds, taking_holds}

module _ (s : KernelState) (n path mode : ℕ) (live : is_live (slot_at s n) ≡ true) (small : AreSmall (slot_at s n).registers)
    (awake : (is_runnable (slot_at s n).status || is_running (slot_at s n).status) ≡ true) where
  abbrev opens : Service
  opens = service.OpenFile path mode

  -- one that open_file has not
  no_step : (at : Step) → place_of (slot_at s n) ≡ place.InService opens at → is_pausing (place.InService opens at) ≡ false →
      ((view : View) (k : Slot) (b : Born) → StandsAtStep view k b opens at → ⊥) → ServiceHolds s n nowhere
  no_step at stands goes_on none = law_of_nowhere s n opens at stands goes_on none

  pub open_holds : (at : Step) → place_of (slot_at s n) ≡ place.InService (service.OpenFile path mode) at →
      ServiceHolds s n (or_nowhere opening (open_at path mode at))
  open_holds step.Entered stands = entering_holds s n path mode live small stands
  open_holds step.TakingPage stands = taking_holds s n opens refl live stands
  open_holds (step.BufferRegion done word) stands = buffer_region_holds s n opens live done word 0 tt stands
  open_holds (step.BufferEntry done word) stands = buffer_entry_holds s n opens live done word 0 tt stands
  open_holds (step.Gathering done) stands = gathering_holds s n opens refl done live small stands
  open_holds (step.Keeping done word left) stands = keeping_holds s n opens refl done word left live small stands
  open_holds (step.Faulting done word) stands = path_faulting_holds s n opens refl small done word stands
  open_holds step.FreeRegion stands = free_region_holds s n path mode live small stands
  open_holds (step.FreeEntry fd) stands = free_entry_holds s n path mode live small fd stands
  open_holds (step.StoringMode fd) stands = storing_mode_holds s n path mode live small fd stands
  open_holds (step.OpenIdentifying fd) stands = identifying_holds s n opens refl live fd stands
  open_holds (step.OpenAsking id fd) stands = asking_holds s n opens refl live id fd stands
  open_holds (step.OpenPausing id fd) stands = pausing_holds s n opens refl live id fd stands
  open_holds (step.OpenAwaiting id fd) stands = open_awaiting_holds s n path mode live small id fd stands
  open_holds (step.OpenClearing id fd) stands = open_clearing_holds s n path mode live small awake id fd stands
  open_holds (step.ReadingOpened id fd) stands = open_reading_holds s n path mode live small id fd stands
  open_holds (step.Piped at) stands = no_step (step.Piped at) stands refl (λ view k b h. h)
  open_holds (step.Spawning at) stands = no_step (step.Spawning at) stands refl (λ view k b h. h)
  open_holds (step.Trying perm) stands = no_step (step.Trying perm) stands refl (λ view k b h. h)
  open_holds step.ReadingRegion stands = no_step step.ReadingRegion stands refl (λ view k b h. h)
  open_holds step.ReadingEntry stands = no_step step.ReadingEntry stands refl (λ view k b h. h)
  open_holds (step.Receiving own) stands = no_step (step.Receiving own) stands refl (λ view k b h. h)
  open_holds (step.ReadingValue own) stands = no_step (step.ReadingValue own) stands refl (λ view k b h. h)
  open_holds (step.ReadingSender own word) stands = no_step (step.ReadingSender own word) stands refl (λ view k b h. h)
  open_holds (step.ReadingPerm own word sender) stands = no_step (step.ReadingPerm own word sender) stands refl (λ view k b h. h)
  open_holds (step.ForkRegion child region) stands = no_step (step.ForkRegion child region) stands refl (λ view k b h. h)
  open_holds (step.ForkEntry child page) stands = no_step (step.ForkEntry child page) stands refl (λ view k b h. h)
  open_holds (step.MapChild child page perm) stands = no_step (step.MapChild child page perm) stands refl (λ view k b h. h)
  open_holds (step.Remap child page) stands = no_step (step.Remap child page) stands refl (λ view k b h. h)
  open_holds (step.ChildStack child) stands = no_step (step.ChildStack child) stands refl (λ view k b h. h)
  open_holds (step.ChildUpcall child) stands = no_step (step.ChildUpcall child) stands refl (λ view k b h. h)
  open_holds (step.ChildRuns child) stands = no_step (step.ChildRuns child) stands refl (λ view k b h. h)
  open_holds (step.Undoing child error) stands = no_step (step.Undoing child error) stands refl (λ view k b h. h)
  open_holds (step.DescriptorEntry fd) stands = no_step (step.DescriptorEntry fd) stands refl (λ view k b h. h)
  open_holds step.TargetEntry stands = no_step step.TargetEntry stands refl (λ view k b h. h)
  open_holds (step.DroppingDescriptor fd) stands = no_step (step.DroppingDescriptor fd) stands refl (λ view k b h. h)
  open_holds step.MappingDescriptor stands = no_step step.MappingDescriptor stands refl (λ view k b h. h)
  open_holds step.Ending stands = no_step step.Ending stands refl (λ view k b h. h)
  open_holds step.ReadingDevice stands = no_step step.ReadingDevice stands refl (λ view k b h. h)
  open_holds step.Printing stands = no_step step.Printing stands refl (λ view k b h. h)
  open_holds step.Releasing stands = no_step step.Releasing stands refl (λ view k b h. h)
  open_holds step.Getting stands = no_step step.Getting stands refl (λ view k b h. h)
  open_holds (step.Delivering done word) stands = no_step (step.Delivering done word) stands refl (λ view k b h. h)
  open_holds step.ReadingMode stands = no_step step.ReadingMode stands refl (λ view k b h. h)
  open_holds step.ReadingNumber stands = no_step step.ReadingNumber stands refl (λ view k b h. h)
  open_holds (step.StoringNumber own) stands = no_step (step.StoringNumber own) stands refl (λ view k b h. h)
  open_holds step.StoringCount stands = no_step step.StoringCount stands refl (λ view k b h. h)
  open_holds step.Identifying stands = no_step step.Identifying stands refl (λ view k b h. h)
  open_holds (step.Asking own) stands = no_step (step.Asking own) stands refl (λ view k b h. h)
  open_holds (step.Pausing own) stands = no_step (step.Pausing own) stands refl (λ view k b h. h)
  open_holds (step.Awaiting own) stands = no_step (step.Awaiting own) stands refl (λ view k b h. h)
  open_holds (step.Clearing own) stands = no_step (step.Clearing own) stands refl (λ view k b h. h)
  open_holds (step.ReadingReply own) stands = no_step (step.ReadingReply own) stands refl (λ view k b h. h)
  open_holds step.TakingRequest stands = no_step step.TakingRequest stands refl (λ view k b h. h)
  open_holds (step.GatheringBytes done start) stands = no_step (step.GatheringBytes done start) stands refl (λ view k b h. h)
  open_holds (step.KeepingBytes done word left start) stands = no_step (step.KeepingBytes done word left start) stands refl (λ view k b h. h)
  open_holds (step.CountingReply own) stands =
      no_step (step.CountingReply own) stands refl (λ view k b h. let contradiction : false ≡ true = h.hands in cc)
  open_holds (step.FileRegion done count) stands =
      no_step (step.FileRegion done count) stands refl (λ view k b h. let contradiction : false ≡ true = h.hands in cc)
  open_holds (step.FileEntry done count) stands =
      no_step (step.FileEntry done count) stands refl (λ view k b h. let contradiction : false ≡ true = h.0.hands in cc)
  open_holds (step.LoadingBytes done count) stands =
      no_step (step.LoadingBytes done count) stands refl (λ view k b h. let contradiction : false ≡ true = h.has.hands in cc)
  open_holds (step.LoadingRest done count first) stands =
      no_step (step.LoadingRest done count first) stands refl (λ view k b h. let contradiction : false ≡ true = h.has.hands in cc)
  open_holds (step.PuttingBytes done count word) stands =
      no_step (step.PuttingBytes done count word) stands refl (λ view k b h. let contradiction : false ≡ true = h.has.hands in cc)
  open_holds (step.FileFaulting done count) stands =
      no_step (step.FileFaulting done count) stands refl (λ view k b h. let contradiction : false ≡ true = h.0.hands in cc)
  open_holds (step.Returning answer) stands =
      no_step (step.Returning answer) stands refl (λ view k b h. let contradiction : false ≡ true = h.goes in cc)
