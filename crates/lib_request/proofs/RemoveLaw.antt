-- The law of remove: what it is at each of its steps in the abstract system.
use Rattle.std.proofs.Common.{◌≡◌, ◌||◌, ℕ, true, false, refl}
use Rattle.jos_base.specs.Environments.{Slot, is_live, is_runnable, is_running}
use Rattle.jos_base.specs.KernelState.{KernelState, slot_at}
use Rattle.lib_os.specs.declared.place.Place.TheVariants as place
use Rattle.lib_os.specs.declared.place.Step.{Step}
use Rattle.lib_os.specs.declared.place.Step.TheVariants as step
use Rattle.lib_os.specs.declared.service.Service.{Service}
use Rattle.lib_os.specs.declared.service.Service.TheVariants as service
use Rattle.lib_os.specs.AbstractState.{Born}
use Rattle.lib_os.specs.LibraryPages.{View}
use Rattle.lib_os.specs.LibrarySteps.{is_pausing}
use Rattle.lib_os.specs.Places.{place_of}
use Rattle.lib_os.specs.StandsFor.{StandsAtStep}
use Rattle.lib_os.specs.StandsInHandler.{AreSmall}
use Rattle.lib_stage.specs.ServiceSteps.{ServiceHolds, nowhere, or_nowhere}
use Rattle.lib_stage.proofs.Laws.{law_of_nowhere}
use Rattle.lib_file.proofs.BufferLaw.{buffer_entry_holds, buffer_region_holds}
use Rattle.lib_request.specs.RemoveStages.{remove_at, removing}
use Rattle.lib_request.proofs.PageAsks.{asking_holds, awaiting_holds, clearing_holds, identifying_holds, pausing_holds, reading_holds}
use Rattle.lib_request.proofs.PathGathers.{gathering_holds}
use Rattle.lib_request.proofs.PathKeeps.{keeping_holds}
use Rattle.lib_request.proofs.PathTakes.{path_faulting_holds, taking_holds}
use Rattle.lib_request.proofs.RemoveBegins.{entering_holds}

-- ---- at each step

module _ (s : KernelState) (n path : ℕ) (live : is_live (slot_at s n) ≡ true) (small : AreSmall (slot_at s n).registers)
    (awake : (is_runnable (slot_at s n).status || is_running (slot_at s n).status) ≡ true) where
  abbrev remove : Service
  remove = service.Remove path

  -- one that remove has not
  no_step : (at : Step) → place_of (slot_at s n) ≡ place.InService remove at → is_pausing (place.InService remove at) ≡ false →
      ((view : View) (k : Slot) (b : Born) → StandsAtStep view k b remove at → ⊥) → ServiceHolds s n nowhere
  no_step at stands goes_on none = law_of_nowhere s n remove at stands goes_on none

  pub remove_holds : (at : Step) → place_of (slot_at s n) ≡ place.InService (service.Remove path) at →
      ServiceHolds s n (or_nowhere removing (remove_at path at))
  remove_holds step.Entered stands = entering_holds s n path live small stands
  remove_holds step.TakingPage stands = taking_holds s n remove refl live stands
  remove_holds (step.BufferRegion done word) stands = buffer_region_holds s n remove live done word 0 tt stands
  remove_holds (step.BufferEntry done word) stands = buffer_entry_holds s n remove live done word 0 tt stands
  remove_holds (step.Gathering done) stands = gathering_holds s n remove refl done live small stands
  remove_holds (step.Keeping done word left) stands = keeping_holds s n remove refl done word left live small stands
  remove_holds (step.Faulting done word) stands = path_faulting_holds s n remove refl small done word stands
  remove_holds step.Identifying stands = identifying_holds s n remove refl live 0 stands
  remove_holds (step.Asking id) stands = asking_holds s n remove refl live id 0 stands
  remove_holds (step.Pausing id) stands = pausing_holds s n remove refl live id 0 stands
  remove_holds (step.Awaiting id) stands = awaiting_holds s n remove refl live id stands
  remove_holds (step.Clearing id) stands = clearing_holds s n remove refl live awake id stands
  remove_holds (step.ReadingReply id) stands = reading_holds s n remove refl live id stands
  remove_holds (step.Piped at) stands = no_step (step.Piped at) stands refl (λ view k b h. h)
  remove_holds (step.Spawning at) stands = no_step (step.Spawning at) stands refl (λ view k b h. h)
  remove_holds (step.Trying perm) stands = no_step (step.Trying perm) stands refl (λ view k b h. h)
  remove_holds step.ReadingRegion stands = no_step step.ReadingRegion stands refl (λ view k b h. h)
  remove_holds step.ReadingEntry stands = no_step step.ReadingEntry stands refl (λ view k b h. h)
  remove_holds (step.Receiving own) stands = no_step (step.Receiving own) stands refl (λ view k b h. h)
  remove_holds (step.ReadingValue own) stands = no_step (step.ReadingValue own) stands refl (λ view k b h. h)
  remove_holds (step.ReadingSender own word) stands = no_step (step.ReadingSender own word) stands refl (λ view k b h. h)
  remove_holds (step.ReadingPerm own word sender) stands = no_step (step.ReadingPerm own word sender) stands refl (λ view k b h. h)
  remove_holds (step.ForkRegion child region) stands = no_step (step.ForkRegion child region) stands refl (λ view k b h. h)
  remove_holds (step.ForkEntry child page) stands = no_step (step.ForkEntry child page) stands refl (λ view k b h. h)
  remove_holds (step.MapChild child page perm) stands = no_step (step.MapChild child page perm) stands refl (λ view k b h. h)
  remove_holds (step.Remap child page) stands = no_step (step.Remap child page) stands refl (λ view k b h. h)
  remove_holds (step.ChildStack child) stands = no_step (step.ChildStack child) stands refl (λ view k b h. h)
  remove_holds (step.ChildUpcall child) stands = no_step (step.ChildUpcall child) stands refl (λ view k b h. h)
  remove_holds (step.ChildRuns child) stands = no_step (step.ChildRuns child) stands refl (λ view k b h. h)
  remove_holds (step.Undoing child error) stands = no_step (step.Undoing child error) stands refl (λ view k b h. h)
  remove_holds (step.DescriptorEntry fd) stands = no_step (step.DescriptorEntry fd) stands refl (λ view k b h. h)
  remove_holds step.TargetEntry stands = no_step step.TargetEntry stands refl (λ view k b h. h)
  remove_holds (step.DroppingDescriptor fd) stands = no_step (step.DroppingDescriptor fd) stands refl (λ view k b h. h)
  remove_holds step.MappingDescriptor stands = no_step step.MappingDescriptor stands refl (λ view k b h. h)
  remove_holds step.Ending stands = no_step step.Ending stands refl (λ view k b h. h)
  remove_holds step.ReadingDevice stands = no_step step.ReadingDevice stands refl (λ view k b h. h)
  remove_holds step.Printing stands = no_step step.Printing stands refl (λ view k b h. h)
  remove_holds step.Releasing stands = no_step step.Releasing stands refl (λ view k b h. h)
  remove_holds step.Getting stands = no_step step.Getting stands refl (λ view k b h. h)
  remove_holds (step.Delivering done word) stands = no_step (step.Delivering done word) stands refl (λ view k b h. h)
  remove_holds step.ReadingMode stands = no_step step.ReadingMode stands refl (λ view k b h. h)
  remove_holds step.ReadingNumber stands = no_step step.ReadingNumber stands refl (λ view k b h. h)
  remove_holds (step.StoringNumber own) stands = no_step (step.StoringNumber own) stands refl (λ view k b h. h)
  remove_holds step.StoringCount stands = no_step step.StoringCount stands refl (λ view k b h. h)
  remove_holds step.TakingRequest stands = no_step step.TakingRequest stands refl (λ view k b h. h)
  remove_holds (step.GatheringBytes done start) stands = no_step (step.GatheringBytes done start) stands refl (λ view k b h. h)
  remove_holds (step.KeepingBytes done word left start) stands = no_step (step.KeepingBytes done word left start) stands refl (λ view k b h. h)
  remove_holds step.FreeRegion stands = no_step step.FreeRegion stands refl (λ view k b h. h)
  remove_holds (step.FreeEntry kept) stands = no_step (step.FreeEntry kept) stands refl (λ view k b h. h)
  remove_holds (step.StoringMode kept) stands = no_step (step.StoringMode kept) stands refl (λ view k b h. h)
  remove_holds (step.OpenIdentifying kept) stands = no_step (step.OpenIdentifying kept) stands refl (λ view k b h. h)
  remove_holds (step.OpenAsking own kept) stands = no_step (step.OpenAsking own kept) stands refl (λ view k b h. h)
  remove_holds (step.OpenPausing own kept) stands = no_step (step.OpenPausing own kept) stands refl (λ view k b h. h)
  remove_holds (step.OpenAwaiting own kept) stands = no_step (step.OpenAwaiting own kept) stands refl (λ view k b h. h)
  remove_holds (step.OpenClearing own kept) stands = no_step (step.OpenClearing own kept) stands refl (λ view k b h. h)
  remove_holds (step.ReadingOpened own kept) stands = no_step (step.ReadingOpened own kept) stands refl (λ view k b h. h)
  remove_holds (step.CountingReply own) stands =
      no_step (step.CountingReply own) stands refl (λ view k b h. let contradiction : false ≡ true = h.hands in cc)
  remove_holds (step.FileRegion done count) stands =
      no_step (step.FileRegion done count) stands refl (λ view k b h. let contradiction : false ≡ true = h.hands in cc)
  remove_holds (step.FileEntry done count) stands =
      no_step (step.FileEntry done count) stands refl (λ view k b h. let contradiction : false ≡ true = h.0.hands in cc)
  remove_holds (step.LoadingBytes done count) stands =
      no_step (step.LoadingBytes done count) stands refl (λ view k b h. let contradiction : false ≡ true = h.has.hands in cc)
  remove_holds (step.LoadingRest done count first) stands =
      no_step (step.LoadingRest done count first) stands refl (λ view k b h. let contradiction : false ≡ true = h.has.hands in cc)
  remove_holds (step.PuttingBytes done count word) stands =
      no_step (step.PuttingBytes done count word) stands refl (λ view k b h. let contradiction : false ≡ true = h.has.hands in cc)
  remove_holds (step.FileFaulting done count) stands =
      no_step (step.FileFaulting done count) stands refl (λ view k b h. let contradiction : false ≡ true = h.0.hands in cc)
  remove_holds (step.Returning answer) stands =
      no_step (step.Returning answer) stands refl (λ view k b h. let contradiction : false ≡ true = h.goes in cc)
