-- The law of spawn with its path: what it is at each of its steps up to where it has that, in the abstract system. A path that lies outside of the fence is refused.
use Rattle.std.proofs.Common.{◌≡◌, ℕ, Bool, true, false, not, [], ◌∷◌, refl, sym, subst, arith, if◌then◌else◌}
use Rattle.jos_base.specs.declared.called.Called.{Called}
use Rattle.jos_base.specs.declared.called.Called.TheVariants.{Answered}
use Rattle.jos_base.specs.declared.numbers.TheConstants.{E_INVAL, SYS_GETENVID}
use Rattle.jos_base.specs.Environments.{Slot, is_live}
use Rattle.jos_base.specs.KernelState.{KernelState, slot_at}
use Rattle.jos_base.specs.Words.{negated}
use Rattle.lib_os.specs.declared.numbers.TheConstants.{SERVICE_SPAWN}
use Rattle.lib_os.specs.declared.place.Place.TheVariants as place
use Rattle.lib_os.specs.declared.place.Step.{Step}
use Rattle.lib_os.specs.declared.place.Step.TheVariants as step
use Rattle.lib_os.specs.declared.service.Service.{Service}
use Rattle.lib_os.specs.declared.service.Service.TheVariants as service
use Rattle.lib_os.specs.AbstractState.{Born}
use Rattle.lib_os.specs.Fence.{is_inside}
use Rattle.lib_os.specs.LibraryPages.{View}
use Rattle.lib_os.specs.LibrarySteps.{KeepsStanding, is_pausing}
use Rattle.lib_os.specs.Places.{place_of}
use Rattle.lib_os.specs.StandsFor.{StandsAtStep}
use Rattle.lib_os.specs.StandsInHandler.{AreSmall}
use Rattle.lib_os.specs.UserCalls.{CallStep, giving}
use Rattle.lib_os.proofs.BufferLooks.{is_spawning}
use Rattle.lib_os.proofs.Calls.{getenvid_is}
use Rattle.lib_os.proofs.PathRefused.{path_enters, path_enters_not}
use Rattle.lib_os.proofs.Trying.{LivesOn}
use Rattle.lib_stage.specs.declared.ask.Next.TheVariants as next
use Rattle.lib_stage.specs.Nexts.{seen_as, settled}
use Rattle.lib_stage.specs.ServiceSteps.{Plan, ServiceHolds, nowhere, or_nowhere}
use Rattle.lib_stage.proofs.Laws.{Falls, IsAt, KeepsBy, law_of_call, law_of_nowhere, plainly}
use Rattle.lib_file.proofs.BufferLaw.{buffer_entry_holds, buffer_region_holds}
use Rattle.lib_request.proofs.PathGathers.{gathering_holds}
use Rattle.lib_request.proofs.PathKeeps.{keeping_holds}
use Rattle.lib_request.proofs.PathTakes.{path_faulting_holds, taking_holds}
use Rattle.lib_given.specs.declared.path.PathStage.TheVariants as stage
use Rattle.lib_given.specs.PathPlan.{gathering, path_at}

module _ (s : KernelState) (n path argv : ℕ) (live : is_live (slot_at s n) ≡ true) (small : AreSmall (slot_at s n).registers) where
  abbrev spawns : Service
  spawns = service.Spawn path argv

  -- ---- whether its path lies in the fence

  module _ (stands : place_of (slot_at s n) ≡ place.InService (service.Spawn path argv) step.Entered) where
    abbrev entering : Plan
    entering = gathering (record { path = path; at = stage.Entered })

    entering_falls : (t : Bool) → Falls spawns step.Entered (if not t then next.Answer (negated E_INVAL) else next.GoOn step.TakingPage)
    entering_falls true = omega arith
    entering_falls false = tt

    entering_at : IsAt s n entering spawns step.Entered
    entering_at = record {
      stands = stands;
      live = live;
      numbered = refl;
      plain = plainly refl;
      goes_on = refl;
      falls = λ called. entering_falls (is_inside path);
      few = omega arith;
    }

    entering_keeps : KeepsBy s n entering (giving s (Answered (slot_at s n).id))
    entering_keeps = by_test (is_inside path) refl
      where
        by_test : (t : Bool) → is_inside path ≡ t →
            let x = if not t then next.Answer (negated E_INVAL) else next.GoOn step.TakingPage in
            KeepsStanding (seen_as x) n s (settled SERVICE_SPAWN x s n) []
        by_test true inside = path_enters s n spawns refl stands inside
        by_test false outside = path_enters_not s n spawns refl stands small outside

    entering_holds : ServiceHolds s n (gathering (record { path = path; at = stage.Entered }))
    entering_holds =
        let args = 0 ∷ 0 ∷ 0 ∷ 0 ∷ 0 ∷ [] in
        law_of_call s n entering spawns step.Entered entering_at SYS_GETENVID args refl refl
        (subst (λ (z : CallStep Called). LivesOn z n (slot_at s n).registers) (sym (getenvid_is s n live args))
        (record { live = live; registers = refl; written = refl }))
        (λ order. subst (λ (z : CallStep Called). KeepsBy s n entering z) (sym (getenvid_is s n live args)) entering_keeps)

  -- ---- at each step

  -- one that spawn has not
  no_step : (at : Step) → place_of (slot_at s n) ≡ place.InService spawns at → is_pausing (place.InService spawns at) ≡ false →
      ((view : View) (k : Slot) (b : Born) → StandsAtStep view k b spawns at → ⊥) → ServiceHolds s n nowhere
  no_step at stands goes_on none = law_of_nowhere s n spawns at stands goes_on none

  pub path_holds : (at : Step) → is_spawning at ≡ false → place_of (slot_at s n) ≡ place.InService (service.Spawn path argv) at →
      ServiceHolds s n (or_nowhere gathering (path_at path at))
  path_holds step.Entered beside stands = entering_holds stands
  path_holds step.TakingPage beside stands = taking_holds s n spawns refl live stands
  path_holds (step.BufferRegion done word) beside stands = buffer_region_holds s n spawns live done word 0 tt stands
  path_holds (step.BufferEntry done word) beside stands = buffer_entry_holds s n spawns live done word 0 tt stands
  path_holds (step.Gathering done) beside stands = gathering_holds s n spawns refl done live small stands
  path_holds (step.Keeping done word left) beside stands = keeping_holds s n spawns refl done word left live small stands
  path_holds (step.Faulting done word) beside stands = path_faulting_holds s n spawns refl small done word stands
  path_holds (step.Spawning at) beside stands = absurd (let contradiction : true ≡ false = beside in cc)
  path_holds (step.Piped at) beside stands = no_step (step.Piped at) stands refl (λ view k b h. h)
  path_holds (step.Trying perm) beside stands = no_step (step.Trying perm) stands refl (λ view k b h. h)
  path_holds step.ReadingRegion beside stands = no_step step.ReadingRegion stands refl (λ view k b h. h)
  path_holds step.ReadingEntry beside stands = no_step step.ReadingEntry stands refl (λ view k b h. h)
  path_holds (step.Receiving own) beside stands = no_step (step.Receiving own) stands refl (λ view k b h. h)
  path_holds (step.ReadingValue own) beside stands = no_step (step.ReadingValue own) stands refl (λ view k b h. h)
  path_holds (step.ReadingSender own word) beside stands = no_step (step.ReadingSender own word) stands refl (λ view k b h. h)
  path_holds (step.ReadingPerm own word sender) beside stands = no_step (step.ReadingPerm own word sender) stands refl (λ view k b h. h)
  path_holds (step.ForkRegion child region) beside stands = no_step (step.ForkRegion child region) stands refl (λ view k b h. h)
  path_holds (step.ForkEntry child page) beside stands = no_step (step.ForkEntry child page) stands refl (λ view k b h. h)
  path_holds (step.MapChild child page perm) beside stands = no_step (step.MapChild child page perm) stands refl (λ view k b h. h)
  path_holds (step.Remap child page) beside stands = no_step (step.Remap child page) stands refl (λ view k b h. h)
  path_holds (step.ChildStack child) beside stands = no_step (step.ChildStack child) stands refl (λ view k b h. h)
  path_holds (step.ChildUpcall child) beside stands = no_step (step.ChildUpcall child) stands refl (λ view k b h. h)
  path_holds (step.ChildRuns child) beside stands = no_step (step.ChildRuns child) stands refl (λ view k b h. h)
  path_holds (step.Undoing child error) beside stands = no_step (step.Undoing child error) stands refl (λ view k b h. h)
  path_holds (step.DescriptorEntry fd) beside stands = no_step (step.DescriptorEntry fd) stands refl (λ view k b h. h)
  path_holds step.TargetEntry beside stands = no_step step.TargetEntry stands refl (λ view k b h. h)
  path_holds (step.DroppingDescriptor fd) beside stands = no_step (step.DroppingDescriptor fd) stands refl (λ view k b h. h)
  path_holds step.MappingDescriptor beside stands = no_step step.MappingDescriptor stands refl (λ view k b h. h)
  path_holds step.Ending beside stands = no_step step.Ending stands refl (λ view k b h. h)
  path_holds step.ReadingDevice beside stands = no_step step.ReadingDevice stands refl (λ view k b h. h)
  path_holds step.Printing beside stands = no_step step.Printing stands refl (λ view k b h. h)
  path_holds step.Releasing beside stands = no_step step.Releasing stands refl (λ view k b h. h)
  path_holds step.Getting beside stands = no_step step.Getting stands refl (λ view k b h. h)
  path_holds (step.Delivering done word) beside stands = no_step (step.Delivering done word) stands refl (λ view k b h. h)
  path_holds step.ReadingMode beside stands = no_step step.ReadingMode stands refl (λ view k b h. h)
  path_holds step.ReadingNumber beside stands = no_step step.ReadingNumber stands refl (λ view k b h. h)
  path_holds (step.StoringNumber own) beside stands = no_step (step.StoringNumber own) stands refl (λ view k b h. h)
  path_holds step.StoringCount beside stands = no_step step.StoringCount stands refl (λ view k b h. h)
  path_holds step.TakingRequest beside stands = no_step step.TakingRequest stands refl (λ view k b h. h)
  path_holds (step.GatheringBytes done start) beside stands = no_step (step.GatheringBytes done start) stands refl (λ view k b h. h)
  path_holds (step.KeepingBytes done word left start) beside stands = no_step (step.KeepingBytes done word left start) stands refl (λ view k b h. h)
  path_holds step.FreeRegion beside stands = no_step step.FreeRegion stands refl (λ view k b h. h)
  path_holds (step.FreeEntry kept) beside stands = no_step (step.FreeEntry kept) stands refl (λ view k b h. h)
  path_holds (step.StoringMode kept) beside stands = no_step (step.StoringMode kept) stands refl (λ view k b h. h)
  path_holds (step.OpenIdentifying kept) beside stands = no_step (step.OpenIdentifying kept) stands refl (λ view k b h. h)
  path_holds (step.OpenAsking own kept) beside stands = no_step (step.OpenAsking own kept) stands refl (λ view k b h. h)
  path_holds (step.OpenPausing own kept) beside stands = no_step (step.OpenPausing own kept) stands refl (λ view k b h. h)
  path_holds (step.OpenAwaiting own kept) beside stands = no_step (step.OpenAwaiting own kept) stands refl (λ view k b h. h)
  path_holds (step.OpenClearing own kept) beside stands = no_step (step.OpenClearing own kept) stands refl (λ view k b h. h)
  path_holds (step.ReadingOpened own kept) beside stands = no_step (step.ReadingOpened own kept) stands refl (λ view k b h. h)
  path_holds (step.CountingReply own) beside stands =
      no_step (step.CountingReply own) stands refl (λ view k b h. let contradiction : false ≡ true = h.hands in cc)
  path_holds (step.FileRegion done count) beside stands =
      no_step (step.FileRegion done count) stands refl (λ view k b h. let contradiction : false ≡ true = h.hands in cc)
  path_holds (step.FileEntry done count) beside stands =
      no_step (step.FileEntry done count) stands refl (λ view k b h. let contradiction : false ≡ true = h.0.hands in cc)
  path_holds (step.LoadingBytes done count) beside stands =
      no_step (step.LoadingBytes done count) stands refl (λ view k b h. let contradiction : false ≡ true = h.has.hands in cc)
  path_holds (step.LoadingRest done count first) beside stands =
      no_step (step.LoadingRest done count first) stands refl (λ view k b h. let contradiction : false ≡ true = h.has.hands in cc)
  path_holds (step.PuttingBytes done count word) beside stands =
      no_step (step.PuttingBytes done count word) stands refl (λ view k b h. let contradiction : false ≡ true = h.has.hands in cc)
  path_holds (step.FileFaulting done count) beside stands =
      no_step (step.FileFaulting done count) stands refl (λ view k b h. let contradiction : false ≡ true = h.0.hands in cc)
  path_holds (step.Returning answer) beside stands =
      no_step (step.Returning answer) stands refl (λ view k b h. let contradiction : false ≡ true = h.goes in cc)
  path_holds step.Identifying beside stands = no_step step.Identifying stands refl (λ view k b h. h)
  path_holds (step.Asking id) beside stands = no_step (step.Asking id) stands refl (λ view k b h. h)
  path_holds (step.Pausing id) beside stands = no_step (step.Pausing id) stands refl (λ view k b h. h)
  path_holds (step.Awaiting id) beside stands = no_step (step.Awaiting id) stands refl (λ view k b h. h)
  path_holds (step.Clearing id) beside stands = no_step (step.Clearing id) stands refl (λ view k b h. h)
  path_holds (step.ReadingReply id) beside stands = no_step (step.ReadingReply id) stands refl (λ view k b h. h)
