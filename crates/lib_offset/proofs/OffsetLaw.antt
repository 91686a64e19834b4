-- The law of seek and of set_size: what each is at each of its steps in the abstract system.
use Rattle.std.proofs.Common.{◌≡◌, ◌||◌, ℕ, true, false, refl}
use Rattle.jos_base.specs.Environments.{Slot, is_live, is_runnable, is_running}
use Rattle.jos_base.specs.KernelState.{KernelState, slot_at}
use Rattle.lib_os.specs.declared.place.Place.TheVariants as place
use Rattle.lib_os.specs.declared.place.Step.{Step}
use Rattle.lib_os.specs.declared.place.Step.TheVariants as step
use Rattle.lib_os.specs.declared.service.Service.{Service}
use Rattle.lib_os.specs.declared.service.Service.TheVariants as service
use Rattle.lib_os.specs.AbstractState.{Born}
use Rattle.lib_os.specs.LibraryPages.{View}
use Rattle.lib_os.specs.LibrarySteps.{is_pausing}
use Rattle.lib_os.specs.Places.{place_of}
use Rattle.lib_os.specs.StandsFor.{StandsAtStep}
use Rattle.lib_os.specs.StandsInHandler.{AreSmall}
use Rattle.lib_stage.specs.ServiceSteps.{ServiceHolds, nowhere, or_nowhere}
use Rattle.lib_stage.proofs.Laws.{law_of_nowhere}
use Rattle.lib_file.proofs.Finds.{entry_holds, region_holds}
use Rattle.lib_request.proofs.PageAsks.{asking_holds, awaiting_holds, clearing_holds, identifying_holds, pausing_holds, reading_holds}
use Rattle.lib_offset.specs.declared.offset.OffsetService.TheVariants as of
use Rattle.lib_offset.specs.OffsetStages.{offset_at, offsetting}
use Rattle.lib_offset.proofs.OffsetStarts.{mode_holds, number_holds, seek_device_holds, set_size_device_holds, storing_count_holds}
use Rattle.lib_offset.proofs.OffsetStarts.{storing_number_holds, taking_holds}

module _ (s : KernelState) (n fd : ℕ) (live : is_live (slot_at s n) ≡ true) (small : AreSmall (slot_at s n).registers)
    (awake : (is_runnable (slot_at s n).status || is_running (slot_at s n).status) ≡ true) where
  module _ (offset : ℕ) where
    abbrev seek : Service
    seek = service.Seek fd offset

    -- one that it has not
    no_seek : (at : Step) → place_of (slot_at s n) ≡ place.InService seek at → is_pausing (place.InService seek at) ≡ false →
        ((view : View) (k : Slot) (b : Born) → StandsAtStep view k b seek at → ⊥) → ServiceHolds s n nowhere
    no_seek at stands goes_on none = law_of_nowhere s n seek at stands goes_on none

    pub seek_holds : (at : Step) → place_of (slot_at s n) ≡ place.InService seek at →
        ServiceHolds s n (or_nowhere offsetting (offset_at (of.Seek offset) fd at))
    seek_holds step.Entered stands = region_holds s n seek fd refl live stands
    seek_holds (step.DescriptorEntry at) stands = entry_holds s n seek fd refl live at stands
    seek_holds step.ReadingDevice stands = seek_device_holds s n fd live offset stands
    seek_holds step.ReadingMode stands = no_seek step.ReadingMode stands refl (λ view k b h. h)
    seek_holds step.TakingPage stands = taking_holds s n seek refl live stands
    seek_holds step.ReadingNumber stands = number_holds s n seek refl live stands
    seek_holds (step.StoringNumber number) stands = storing_number_holds s n seek refl live number stands
    seek_holds step.StoringCount stands = storing_count_holds s n seek refl live small stands
    seek_holds step.Identifying stands = identifying_holds s n seek refl live 0 stands
    seek_holds (step.Asking id) stands = asking_holds s n seek refl live id 0 stands
    seek_holds (step.Pausing id) stands = pausing_holds s n seek refl live id 0 stands
    seek_holds (step.Awaiting id) stands = awaiting_holds s n seek refl live id stands
    seek_holds (step.Clearing id) stands = clearing_holds s n seek refl live awake id stands
    seek_holds (step.ReadingReply id) stands = reading_holds s n seek refl live id stands
    seek_holds (step.Piped at) stands = no_seek (step.Piped at) stands refl (λ view k b h. h)
    seek_holds (step.Spawning at) stands = no_seek (step.Spawning at) stands refl (λ view k b h. h)
    seek_holds (step.Trying perm) stands = no_seek (step.Trying perm) stands refl (λ view k b h. h)
    seek_holds step.ReadingRegion stands = no_seek step.ReadingRegion stands refl (λ view k b h. h)
    seek_holds step.ReadingEntry stands = no_seek step.ReadingEntry stands refl (λ view k b h. h)
    seek_holds (step.Receiving id) stands = no_seek (step.Receiving id) stands refl (λ view k b h. h)
    seek_holds (step.ReadingValue id) stands = no_seek (step.ReadingValue id) stands refl (λ view k b h. h)
    seek_holds (step.ReadingSender id value) stands = no_seek (step.ReadingSender id value) stands refl (λ view k b h. h)
    seek_holds (step.ReadingPerm id value sender) stands = no_seek (step.ReadingPerm id value sender) stands refl (λ view k b h. h)
    seek_holds (step.ForkRegion child region) stands = no_seek (step.ForkRegion child region) stands refl (λ view k b h. h)
    seek_holds (step.ForkEntry child page) stands = no_seek (step.ForkEntry child page) stands refl (λ view k b h. h)
    seek_holds (step.MapChild child page perm) stands = no_seek (step.MapChild child page perm) stands refl (λ view k b h. h)
    seek_holds (step.Remap child page) stands = no_seek (step.Remap child page) stands refl (λ view k b h. h)
    seek_holds (step.ChildStack child) stands = no_seek (step.ChildStack child) stands refl (λ view k b h. h)
    seek_holds (step.ChildUpcall child) stands = no_seek (step.ChildUpcall child) stands refl (λ view k b h. h)
    seek_holds (step.ChildRuns child) stands = no_seek (step.ChildRuns child) stands refl (λ view k b h. h)
    seek_holds (step.Undoing child error) stands = no_seek (step.Undoing child error) stands refl (λ view k b h. h)
    seek_holds step.TargetEntry stands = no_seek step.TargetEntry stands refl (λ view k b h. h)
    seek_holds (step.DroppingDescriptor at) stands = no_seek (step.DroppingDescriptor at) stands refl (λ view k b h. h)
    seek_holds step.MappingDescriptor stands = no_seek step.MappingDescriptor stands refl (λ view k b h. h)
    seek_holds step.Ending stands = no_seek step.Ending stands refl (λ view k b h. h)
    seek_holds (step.BufferRegion done word) stands = no_seek (step.BufferRegion done word) stands refl (λ view k b h. h)
    seek_holds (step.BufferEntry done word) stands = no_seek (step.BufferEntry done word) stands refl (λ view k b h. h)
    seek_holds (step.Gathering done) stands = no_seek (step.Gathering done) stands refl (λ view k b h. h)
    seek_holds (step.Keeping done word left) stands = no_seek (step.Keeping done word left) stands refl (λ view k b h. h)
    seek_holds step.Printing stands = no_seek step.Printing stands refl (λ view k b h. h)
    seek_holds step.FreeRegion stands = no_seek step.FreeRegion stands refl (λ view k b h. h)
    seek_holds (step.FreeEntry kept) stands = no_seek (step.FreeEntry kept) stands refl (λ view k b h. h)
    seek_holds (step.StoringMode kept) stands = no_seek (step.StoringMode kept) stands refl (λ view k b h. h)
    seek_holds (step.OpenIdentifying kept) stands = no_seek (step.OpenIdentifying kept) stands refl (λ view k b h. h)
    seek_holds (step.OpenAsking own kept) stands = no_seek (step.OpenAsking own kept) stands refl (λ view k b h. h)
    seek_holds (step.OpenPausing own kept) stands = no_seek (step.OpenPausing own kept) stands refl (λ view k b h. h)
    seek_holds (step.OpenAwaiting own kept) stands = no_seek (step.OpenAwaiting own kept) stands refl (λ view k b h. h)
    seek_holds (step.OpenClearing own kept) stands = no_seek (step.OpenClearing own kept) stands refl (λ view k b h. h)
    seek_holds (step.ReadingOpened own kept) stands = no_seek (step.ReadingOpened own kept) stands refl (λ view k b h. h)
    seek_holds step.Releasing stands = no_seek step.Releasing stands refl (λ view k b h. h)
    seek_holds step.Getting stands = no_seek step.Getting stands refl (λ view k b h. h)
    seek_holds (step.CountingReply own) stands =
        no_seek (step.CountingReply own) stands refl (λ view k b h. let contradiction : false ≡ true = h.hands in cc)
    seek_holds (step.FileRegion done count) stands =
        no_seek (step.FileRegion done count) stands refl (λ view k b h. let contradiction : false ≡ true = h.hands in cc)
    seek_holds (step.FileEntry done count) stands =
        no_seek (step.FileEntry done count) stands refl (λ view k b h. let contradiction : false ≡ true = h.0.hands in cc)
    seek_holds (step.LoadingBytes done count) stands =
        no_seek (step.LoadingBytes done count) stands refl (λ view k b h. let contradiction : false ≡ true = h.has.hands in cc)
    seek_holds (step.LoadingRest done count first) stands =
        no_seek (step.LoadingRest done count first) stands refl (λ view k b h. let contradiction : false ≡ true = h.has.hands in cc)
    seek_holds (step.PuttingBytes done count word) stands =
        no_seek (step.PuttingBytes done count word) stands refl (λ view k b h. let contradiction : false ≡ true = h.has.hands in cc)
    seek_holds (step.FileFaulting done count) stands =
        no_seek (step.FileFaulting done count) stands refl (λ view k b h. let contradiction : false ≡ true = h.0.hands in cc)
    seek_holds (step.Returning answer) stands =
        no_seek (step.Returning answer) stands refl (λ view k b h. let contradiction : false ≡ true = h.goes in cc)
    seek_holds (step.Delivering done word) stands = no_seek (step.Delivering done word) stands refl (λ view k b h. h)
    seek_holds (step.Faulting done word) stands = no_seek (step.Faulting done word) stands refl (λ view k b h. h)
    seek_holds step.TakingRequest stands = no_seek step.TakingRequest stands refl (λ view k b h. h)
    seek_holds (step.GatheringBytes done start) stands = no_seek (step.GatheringBytes done start) stands refl (λ view k b h. h)
    seek_holds (step.KeepingBytes done word left start) stands = no_seek (step.KeepingBytes done word left start) stands refl (λ view k b h. h)

  module _ (size : ℕ) where
    abbrev set_size : Service
    set_size = service.SetSize fd size

    -- one that it has not
    no_set_size : (at : Step) → place_of (slot_at s n) ≡ place.InService set_size at → is_pausing (place.InService set_size at) ≡ false →
        ((view : View) (k : Slot) (b : Born) → StandsAtStep view k b set_size at → ⊥) → ServiceHolds s n nowhere
    no_set_size at stands goes_on none = law_of_nowhere s n set_size at stands goes_on none

    pub set_size_holds : (at : Step) → place_of (slot_at s n) ≡ place.InService set_size at →
        ServiceHolds s n (or_nowhere offsetting (offset_at (of.SetSize size) fd at))
    set_size_holds step.Entered stands = region_holds s n set_size fd refl live stands
    set_size_holds (step.DescriptorEntry at) stands = entry_holds s n set_size fd refl live at stands
    set_size_holds step.ReadingDevice stands = set_size_device_holds s n fd live size stands
    set_size_holds step.ReadingMode stands = mode_holds s n fd live size stands
    set_size_holds step.TakingPage stands = taking_holds s n set_size refl live stands
    set_size_holds step.ReadingNumber stands = number_holds s n set_size refl live stands
    set_size_holds (step.StoringNumber number) stands = storing_number_holds s n set_size refl live number stands
    set_size_holds step.StoringCount stands = storing_count_holds s n set_size refl live small stands
    set_size_holds step.Identifying stands = identifying_holds s n set_size refl live 0 stands
    set_size_holds (step.Asking id) stands = asking_holds s n set_size refl live id 0 stands
    set_size_holds (step.Pausing id) stands = pausing_holds s n set_size refl live id 0 stands
    set_size_holds (step.Awaiting id) stands = awaiting_holds s n set_size refl live id stands
    set_size_holds (step.Clearing id) stands = clearing_holds s n set_size refl live awake id stands
    set_size_holds (step.ReadingReply id) stands = reading_holds s n set_size refl live id stands
    set_size_holds (step.Piped at) stands = no_set_size (step.Piped at) stands refl (λ view k b h. h)
    set_size_holds (step.Spawning at) stands = no_set_size (step.Spawning at) stands refl (λ view k b h. h)
    set_size_holds (step.Trying perm) stands = no_set_size (step.Trying perm) stands refl (λ view k b h. h)
    set_size_holds step.ReadingRegion stands = no_set_size step.ReadingRegion stands refl (λ view k b h. h)
    set_size_holds step.ReadingEntry stands = no_set_size step.ReadingEntry stands refl (λ view k b h. h)
    set_size_holds (step.Receiving id) stands = no_set_size (step.Receiving id) stands refl (λ view k b h. h)
    set_size_holds (step.ReadingValue id) stands = no_set_size (step.ReadingValue id) stands refl (λ view k b h. h)
    set_size_holds (step.ReadingSender id value) stands = no_set_size (step.ReadingSender id value) stands refl (λ view k b h. h)
    set_size_holds (step.ReadingPerm id value sender) stands = no_set_size (step.ReadingPerm id value sender) stands refl (λ view k b h. h)
    set_size_holds (step.ForkRegion child region) stands = no_set_size (step.ForkRegion child region) stands refl (λ view k b h. h)
    set_size_holds (step.ForkEntry child page) stands = no_set_size (step.ForkEntry child page) stands refl (λ view k b h. h)
    set_size_holds (step.MapChild child page perm) stands = no_set_size (step.MapChild child page perm) stands refl (λ view k b h. h)
    set_size_holds (step.Remap child page) stands = no_set_size (step.Remap child page) stands refl (λ view k b h. h)
    set_size_holds (step.ChildStack child) stands = no_set_size (step.ChildStack child) stands refl (λ view k b h. h)
    set_size_holds (step.ChildUpcall child) stands = no_set_size (step.ChildUpcall child) stands refl (λ view k b h. h)
    set_size_holds (step.ChildRuns child) stands = no_set_size (step.ChildRuns child) stands refl (λ view k b h. h)
    set_size_holds (step.Undoing child error) stands = no_set_size (step.Undoing child error) stands refl (λ view k b h. h)
    set_size_holds step.TargetEntry stands = no_set_size step.TargetEntry stands refl (λ view k b h. h)
    set_size_holds (step.DroppingDescriptor at) stands = no_set_size (step.DroppingDescriptor at) stands refl (λ view k b h. h)
    set_size_holds step.MappingDescriptor stands = no_set_size step.MappingDescriptor stands refl (λ view k b h. h)
    set_size_holds step.Ending stands = no_set_size step.Ending stands refl (λ view k b h. h)
    set_size_holds (step.BufferRegion done word) stands = no_set_size (step.BufferRegion done word) stands refl (λ view k b h. h)
    set_size_holds (step.BufferEntry done word) stands = no_set_size (step.BufferEntry done word) stands refl (λ view k b h. h)
    set_size_holds (step.Gathering done) stands = no_set_size (step.Gathering done) stands refl (λ view k b h. h)
    set_size_holds (step.Keeping done word left) stands = no_set_size (step.Keeping done word left) stands refl (λ view k b h. h)
    set_size_holds step.Printing stands = no_set_size step.Printing stands refl (λ view k b h. h)
    set_size_holds step.FreeRegion stands = no_set_size step.FreeRegion stands refl (λ view k b h. h)
    set_size_holds (step.FreeEntry kept) stands = no_set_size (step.FreeEntry kept) stands refl (λ view k b h. h)
    set_size_holds (step.StoringMode kept) stands = no_set_size (step.StoringMode kept) stands refl (λ view k b h. h)
    set_size_holds (step.OpenIdentifying kept) stands = no_set_size (step.OpenIdentifying kept) stands refl (λ view k b h. h)
    set_size_holds (step.OpenAsking own kept) stands = no_set_size (step.OpenAsking own kept) stands refl (λ view k b h. h)
    set_size_holds (step.OpenPausing own kept) stands = no_set_size (step.OpenPausing own kept) stands refl (λ view k b h. h)
    set_size_holds (step.OpenAwaiting own kept) stands = no_set_size (step.OpenAwaiting own kept) stands refl (λ view k b h. h)
    set_size_holds (step.OpenClearing own kept) stands = no_set_size (step.OpenClearing own kept) stands refl (λ view k b h. h)
    set_size_holds (step.ReadingOpened own kept) stands = no_set_size (step.ReadingOpened own kept) stands refl (λ view k b h. h)
    set_size_holds step.Releasing stands = no_set_size step.Releasing stands refl (λ view k b h. h)
    set_size_holds step.Getting stands = no_set_size step.Getting stands refl (λ view k b h. h)
    set_size_holds (step.CountingReply own) stands =
        no_set_size (step.CountingReply own) stands refl (λ view k b h. let contradiction : false ≡ true = h.hands in cc)
    set_size_holds (step.FileRegion done count) stands =
        no_set_size (step.FileRegion done count) stands refl (λ view k b h. let contradiction : false ≡ true = h.hands in cc)
    set_size_holds (step.FileEntry done count) stands =
        no_set_size (step.FileEntry done count) stands refl (λ view k b h. let contradiction : false ≡ true = h.0.hands in cc)
    set_size_holds (step.LoadingBytes done count) stands =
        no_set_size (step.LoadingBytes done count) stands refl (λ view k b h. let contradiction : false ≡ true = h.has.hands in cc)
    set_size_holds (step.LoadingRest done count first) stands =
        no_set_size (step.LoadingRest done count first) stands refl (λ view k b h. let contradiction : false ≡ true = h.has.hands in cc)
    set_size_holds (step.PuttingBytes done count word) stands =
        no_set_size (step.PuttingBytes done count word) stands refl (λ view k b h. let contradiction : false ≡ true = h.has.hands in cc)
    set_size_holds (step.FileFaulting done count) stands =
        no_set_size (step.FileFaulting done count) stands refl (λ view k b h. let contradiction : false ≡ true = h.0.hands in cc)
    set_size_holds (step.Returning answer) stands =
        no_set_size (step.Returning answer) stands refl (λ view k b h. let contradiction : false ≡ true = h.goes in cc)
    set_size_holds (step.Delivering done word) stands = no_set_size (step.Delivering done word) stands refl (λ view k b h. h)
    set_size_holds (step.Faulting done word) stands = no_set_size (step.Faulting done word) stands refl (λ view k b h. h)
    set_size_holds step.TakingRequest stands = no_set_size step.TakingRequest stands refl (λ view k b h. h)
    set_size_holds (step.GatheringBytes done start) stands = no_set_size (step.GatheringBytes done start) stands refl (λ view k b h. h)
    set_size_holds (step.KeepingBytes done word left start) stands =
        no_set_size (step.KeepingBytes done word left start) stands refl (λ view k b h. h)
