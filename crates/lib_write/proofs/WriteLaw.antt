-- The law of write: what it is at each of its steps in the abstract system.
use Rattle.std.proofs.Common.{◌≡◌, ◌||◌, ℕ, true, false, refl}
use Rattle.jos_base.specs.Environments.{Slot, is_live, is_runnable, is_running}
use Rattle.jos_base.specs.KernelState.{KernelState, slot_at}
use Rattle.lib_os.specs.declared.place.Place.TheVariants as place
use Rattle.lib_os.specs.declared.place.Step.{Step}
use Rattle.lib_os.specs.declared.place.Step.TheVariants as step
use Rattle.lib_os.specs.declared.service.Service.{Service}
use Rattle.lib_os.specs.declared.service.Service.TheVariants as service
use Rattle.lib_os.specs.AbstractState.{Born}
use Rattle.lib_os.specs.LibraryPages.{View}
use Rattle.lib_os.specs.LibrarySteps.{is_pausing}
use Rattle.lib_os.specs.Places.{place_of}
use Rattle.lib_os.specs.StandsFor.{StandsAtStep}
use Rattle.lib_os.specs.StandsInHandler.{AreSmall}
use Rattle.lib_stage.specs.ServiceSteps.{ServiceHolds, nowhere, or_nowhere}
use Rattle.lib_stage.proofs.Laws.{law_of_nowhere}
use Rattle.lib_file.proofs.BufferLaw.{buffer_entry_holds, buffer_region_holds}
use Rattle.lib_file.proofs.FaultingLaw.{write_faulting_holds}
use Rattle.lib_file.proofs.Finds.{entry_holds, region_holds}
use Rattle.lib_offset.proofs.OffsetStarts.{number_holds, storing_count_holds, storing_number_holds}
use Rattle.lib_request.proofs.PageAsks.{asking_holds, awaiting_holds, clearing_holds, identifying_holds, pausing_holds, reading_holds}
use Rattle.lib_write.specs.WriteStages.{write_at, writing}
use Rattle.lib_write.proofs.BeginLaw.{requesting_holds, taking_holds, write_device_holds, write_mode_holds}
use Rattle.lib_write.proofs.GatherLaw.{gathering_holds}
use Rattle.lib_write.proofs.KeepLaw.{keeping_holds}
use Rattle.lib_write.proofs.EndLaw.{write_end_holds}
use Rattle.lib_write.proofs.PrintLaw.{printing_holds, releasing_holds, returning_holds}

module _ (s : KernelState) (n fd va len : ℕ) (live : is_live (slot_at s n) ≡ true) (small : AreSmall (slot_at s n).registers)
    (awake : (is_runnable (slot_at s n).status || is_running (slot_at s n).status) ≡ true) where
  abbrev write : Service
  write = service.Write fd va len

  -- one that write has not
  no_step : (at : Step) → place_of (slot_at s n) ≡ place.InService write at → is_pausing (place.InService write at) ≡ false →
      ((view : View) (k : Slot) (b : Born) → StandsAtStep view k b write at → ⊥) → ServiceHolds s n nowhere
  no_step at stands goes_on none = law_of_nowhere s n write at stands goes_on none

  pub write_holds : (at : Step) → place_of (slot_at s n) ≡ place.InService (service.Write fd va len) at →
      ServiceHolds s n (or_nowhere writing (write_at fd va len at))
  write_holds step.Entered stands = region_holds s n write fd refl live stands
  write_holds (step.DescriptorEntry at) stands = entry_holds s n write fd refl live at stands
  write_holds step.ReadingDevice stands = write_device_holds s n fd va len live stands
  write_holds step.TakingPage stands = taking_holds s n fd va len live stands
  write_holds step.ReadingMode stands = write_mode_holds s n fd va len live stands
  write_holds step.TakingRequest stands = requesting_holds s n fd va len live stands
  write_holds (step.BufferRegion done start) stands = buffer_region_holds s n write live done start start refl stands
  write_holds (step.BufferEntry done start) stands = buffer_entry_holds s n write live done start start refl stands
  write_holds (step.GatheringBytes done start) stands = gathering_holds s n fd va len start done live stands
  write_holds (step.KeepingBytes done word left start) stands = keeping_holds s n fd va len start done word left live stands
  write_holds step.Printing stands = printing_holds s n fd va len live stands
  write_holds step.Releasing stands = releasing_holds s n fd va len live stands
  write_holds (step.Faulting done word) stands = write_faulting_holds s n small done word fd va len stands
  write_holds step.ReadingNumber stands = number_holds s n write refl live stands
  write_holds (step.StoringNumber number) stands = storing_number_holds s n write refl live number stands
  write_holds step.StoringCount stands = storing_count_holds s n write refl live small stands
  write_holds step.Identifying stands = identifying_holds s n write refl live 0 stands
  write_holds (step.Asking id) stands = asking_holds s n write refl live id 0 stands
  write_holds (step.Pausing id) stands = pausing_holds s n write refl live id 0 stands
  write_holds (step.Awaiting id) stands = awaiting_holds s n write refl live id stands
  write_holds (step.Clearing id) stands = clearing_holds s n write refl live awake id stands
  write_holds (step.ReadingReply id) stands = reading_holds s n write refl live id stands
  write_holds (step.Trying perm) stands = no_step (step.Trying perm) stands refl (λ view k b h. h)
  write_holds step.ReadingRegion stands = no_step step.ReadingRegion stands refl (λ view k b h. h)
  write_holds step.ReadingEntry stands = no_step step.ReadingEntry stands refl (λ view k b h. h)
  write_holds (step.Receiving id) stands = no_step (step.Receiving id) stands refl (λ view k b h. h)
  write_holds (step.ReadingValue id) stands = no_step (step.ReadingValue id) stands refl (λ view k b h. h)
  write_holds (step.ReadingSender id value) stands = no_step (step.ReadingSender id value) stands refl (λ view k b h. h)
  write_holds (step.ReadingPerm id value sender) stands = no_step (step.ReadingPerm id value sender) stands refl (λ view k b h. h)
  write_holds (step.ForkRegion child region) stands = no_step (step.ForkRegion child region) stands refl (λ view k b h. h)
  write_holds (step.ForkEntry child page) stands = no_step (step.ForkEntry child page) stands refl (λ view k b h. h)
  write_holds (step.MapChild child page perm) stands = no_step (step.MapChild child page perm) stands refl (λ view k b h. h)
  write_holds (step.Remap child page) stands = no_step (step.Remap child page) stands refl (λ view k b h. h)
  write_holds (step.ChildStack child) stands = no_step (step.ChildStack child) stands refl (λ view k b h. h)
  write_holds (step.ChildUpcall child) stands = no_step (step.ChildUpcall child) stands refl (λ view k b h. h)
  write_holds (step.ChildRuns child) stands = no_step (step.ChildRuns child) stands refl (λ view k b h. h)
  write_holds (step.Undoing child error) stands = no_step (step.Undoing child error) stands refl (λ view k b h. h)
  write_holds step.TargetEntry stands = no_step step.TargetEntry stands refl (λ view k b h. h)
  write_holds (step.DroppingDescriptor at) stands = no_step (step.DroppingDescriptor at) stands refl (λ view k b h. h)
  write_holds step.MappingDescriptor stands = no_step step.MappingDescriptor stands refl (λ view k b h. h)
  write_holds step.Ending stands = no_step step.Ending stands refl (λ view k b h. h)
  write_holds step.Getting stands = no_step step.Getting stands refl (λ view k b h. h)
  write_holds (step.Delivering done word) stands = no_step (step.Delivering done word) stands refl (λ view k b h. h)
  write_holds (step.Gathering done) stands = no_step (step.Gathering done) stands refl (λ view k b h. h)
  write_holds (step.Keeping done word left) stands = no_step (step.Keeping done word left) stands refl (λ view k b h. h)
  write_holds step.FreeRegion stands = no_step step.FreeRegion stands refl (λ view k b h. h)
  write_holds (step.FreeEntry kept) stands = no_step (step.FreeEntry kept) stands refl (λ view k b h. h)
  write_holds (step.StoringMode kept) stands = no_step (step.StoringMode kept) stands refl (λ view k b h. h)
  write_holds (step.OpenIdentifying kept) stands = no_step (step.OpenIdentifying kept) stands refl (λ view k b h. h)
  write_holds (step.OpenAsking own kept) stands = no_step (step.OpenAsking own kept) stands refl (λ view k b h. h)
  write_holds (step.OpenPausing own kept) stands = no_step (step.OpenPausing own kept) stands refl (λ view k b h. h)
  write_holds (step.OpenAwaiting own kept) stands = no_step (step.OpenAwaiting own kept) stands refl (λ view k b h. h)
  write_holds (step.OpenClearing own kept) stands = no_step (step.OpenClearing own kept) stands refl (λ view k b h. h)
  write_holds (step.ReadingOpened own kept) stands = no_step (step.ReadingOpened own kept) stands refl (λ view k b h. h)
  write_holds (step.Spawning at) stands = no_step (step.Spawning at) stands refl (λ view k b h. h)
  write_holds (step.CountingReply own) stands =
      no_step (step.CountingReply own) stands refl (λ view k b h. let contradiction : false ≡ true = h.hands in cc)
  write_holds (step.FileRegion done count) stands =
      no_step (step.FileRegion done count) stands refl (λ view k b h. let contradiction : false ≡ true = h.hands in cc)
  write_holds (step.FileEntry done count) stands =
      no_step (step.FileEntry done count) stands refl (λ view k b h. let contradiction : false ≡ true = h.0.hands in cc)
  write_holds (step.LoadingBytes done count) stands =
      no_step (step.LoadingBytes done count) stands refl (λ view k b h. let contradiction : false ≡ true = h.has.hands in cc)
  write_holds (step.LoadingRest done count first) stands =
      no_step (step.LoadingRest done count first) stands refl (λ view k b h. let contradiction : false ≡ true = h.has.hands in cc)
  write_holds (step.PuttingBytes done count word) stands =
      no_step (step.PuttingBytes done count word) stands refl (λ view k b h. let contradiction : false ≡ true = h.has.hands in cc)
  write_holds (step.FileFaulting done count) stands =
      no_step (step.FileFaulting done count) stands refl (λ view k b h. let contradiction : false ≡ true = h.0.hands in cc)
  write_holds (step.Returning answer) stands = returning_holds s n fd va len live answer stands
  write_holds (step.Piped at) stands = write_end_holds s n fd va len live at stands
