-- The law of wait: each of its stages is a part of its one step in the abstract system.
use Rattle.std.proofs.Common.{◌≡◌, ◌==◌, ◌||◌, ◌≤◌, ℕ, Bool, true, false, [], ◌∷◌, refl, sym, subst, arith, if◌then◌else◌}
use Rattle.jos_base.specs.declared.called.Called.{Called}
use Rattle.jos_base.specs.declared.numbers.TheConstants.{E_BAD_ENV, E_INVAL, SYS_GETENVID, SYS_IPC_TRY_SEND}
use Rattle.jos_base.specs.Environments.{is_live}
use Rattle.jos_base.specs.KernelState.{KernelState, slot_at}
use Rattle.jos_base.specs.Words.{negated}
use Rattle.lib_os.specs.declared.numbers.TheConstants.{SERVICE_WAIT}
use Rattle.lib_os.specs.declared.place.Place.TheVariants as place
use Rattle.lib_os.specs.declared.place.Step.{Step}
use Rattle.lib_os.specs.declared.place.Step.TheVariants as step
use Rattle.lib_os.specs.declared.service.Service.TheVariants as service
use Rattle.lib_os.specs.LibrarySteps.{is_pausing, frames_at}
use Rattle.lib_os.specs.Places.{place_of}
use Rattle.lib_os.specs.UserCalls.{CallStep, answer_of}
use Rattle.lib_os.proofs.Calls.{getenvid_is}
use Rattle.lib_os.proofs.NumbersKept.{KeepsCopies, sent_copies}
use Rattle.lib_os.proofs.Trying.{LivesOn}
use Rattle.lib_stage.specs.declared.ask.Next.TheVariants as next
use Rattle.lib_stage.specs.Asks.{frames_of, performed}
use Rattle.lib_stage.specs.ServiceSteps.{Plan, or_nowhere, ServiceHolds}
use Rattle.lib_stage.proofs.Laws.{Falls, IsAt, IsPlain, KeepsBy, answered_keeps, knowingly, law_of_call, law_of_nowhere, law_of_pause, plainly}
use Rattle.lib_spawn.specs.declared.services.WaitStage.{WaitStage}
use Rattle.lib_spawn.specs.declared.services.WaitStage.TheVariants as stage
use Rattle.lib_spawn.specs.WaitStages.{next_of, wait_at, waiting}
use Rattle.lib_spawn.proofs.Waits.{entered_keeps, wait_call, tried_is, trying_keeps, pausing_keeps}

-- the step that a stage is kept as
abbrev step_of : WaitStage → Step
step_of stage.Entered = step.Entered
step_of (stage.Trying perm) = step.Trying perm
step_of (stage.Pausing perm) = step.Pausing perm

module _ (s : KernelState) (n id : ℕ) (live : is_live (slot_at s n) ≡ true) where
  falls : (at : WaitStage) (word : ℕ) → Falls (service.Wait id) (step_of at) (next_of id at word)
  falls stage.Entered own = by_test ((id == 0) || (id == own))
    where
      by_test : (t : Bool) → Falls (service.Wait id) step.Entered (if t then next.Answer (negated E_INVAL) else next.GoOn (step.Trying 0))
      by_test true = tt
      by_test false = omega arith
  falls (stage.Trying perm) word = by_test (word == negated E_BAD_ENV)
    where
      by_test : (t : Bool) → Falls (service.Wait id) (step.Trying perm) (if t then next.Answer 0 else next.Wait (step.Pausing perm))
      by_test true = tt
      by_test false = refl
  falls (stage.Pausing perm) word = omega arith

  abbrev plan : WaitStage → Plan
  plan at = waiting (record { id = id; at = at })

  few : (at : WaitStage) → frames_of (plan at).asks ≤ frames_at (place.InService (service.Wait id) (step_of at))
  few stage.Entered = omega arith
  few (stage.Trying perm) = omega arith
  few (stage.Pausing perm) = omega arith

  here : (at : WaitStage) → place_of (slot_at s n) ≡ place.InService (service.Wait id) (step_of at) → IsPlain s n (plan at).asks →
      is_pausing (place.InService (service.Wait id) (step_of at)) ≡ false → IsAt s n (plan at) (service.Wait id) (step_of at)
  here at stands plain goes_on =
      record {
        stands = stands;
        live = live;
        numbered = refl;
        plain = plain;
        goes_on = goes_on;
        falls = λ called. falls at (answer_of called);
        few = few at;
      }

  -- it passes no page
  trying_copies : (perm : ℕ) → KeepsCopies n s (performed s n (plan (stage.Trying perm)).asks).state
  unfolding performed
  trying_copies perm = sent_copies s n (id ∷ 0 ∷ 1 ∷ 0 ∷ 0 ∷ []) (λ a h low. refl)

  pub wait_holds : (at : Step) → place_of (slot_at s n) ≡ place.InService (service.Wait id) at →
      ServiceHolds s n (or_nowhere waiting (wait_at id at))
  wait_holds step.Entered stands =
      let args = 0 ∷ 0 ∷ 0 ∷ 0 ∷ 0 ∷ [] in
      law_of_call s n (plan stage.Entered) (service.Wait id) step.Entered (here stage.Entered stands (plainly refl) refl) SYS_GETENVID args refl refl
      (subst (λ (z : CallStep Called). LivesOn z n (slot_at s n).registers) (sym (getenvid_is s n live args)) (record { live = live; registers = refl; written = refl }))
      (λ order. subst (λ (z : CallStep Called). KeepsBy s n (plan stage.Entered) z) (sym (getenvid_is s n live args)) (entered_keeps s n id stands))
  wait_holds (step.Trying perm) stands =
      let it = tried_is s n id perm stands live in
      law_of_call s n (plan (stage.Trying perm)) (service.Wait id) (step.Trying perm)
      (here (stage.Trying perm) stands (knowingly refl (trying_copies perm) (λ a h. refl)) refl)
      SYS_IPC_TRY_SEND (id ∷ 0 ∷ 1 ∷ 0 ∷ 0 ∷ []) refl refl
      (record { live = it.live; registers = it.registers; written = it.written })
      (answered_keeps s n (plan (stage.Trying perm)) (wait_call s n id) it (λ order. trying_keeps s n id perm stands live))
  wait_holds (step.Pausing perm) stands =
      law_of_pause s n (service.Wait id) (step.Pausing perm) (step.Trying perm) SERVICE_WAIT (0 ∷ 0 ∷ 0 ∷ 0 ∷ 0 ∷ []) stands live refl refl
      (omega arith) (pausing_keeps s n id perm stands)
  wait_holds step.ReadingRegion stands = law_of_nowhere s n (service.Wait id) step.ReadingRegion stands refl (λ row k b h. h)
  wait_holds step.ReadingEntry stands = law_of_nowhere s n (service.Wait id) step.ReadingEntry stands refl (λ row k b h. h)
  wait_holds (step.Receiving own) stands = law_of_nowhere s n (service.Wait id) (step.Receiving own) stands refl (λ row k b h. h)
  wait_holds (step.ReadingValue own) stands = law_of_nowhere s n (service.Wait id) (step.ReadingValue own) stands refl (λ row k b h. h)
  wait_holds (step.ReadingSender own word) stands =
      law_of_nowhere s n (service.Wait id) (step.ReadingSender own word) stands refl (λ row k b h. h)
  wait_holds (step.ReadingPerm own word sender) stands =
      law_of_nowhere s n (service.Wait id) (step.ReadingPerm own word sender) stands refl (λ row k b h. h)
  wait_holds (step.ForkRegion child region) stands = law_of_nowhere s n (service.Wait id) (step.ForkRegion child region) stands refl (λ row k b h. h)
  wait_holds (step.ForkEntry child page) stands = law_of_nowhere s n (service.Wait id) (step.ForkEntry child page) stands refl (λ row k b h. h)
  wait_holds (step.MapChild child page perm) stands = law_of_nowhere s n (service.Wait id) (step.MapChild child page perm) stands refl (λ row k b h. h)
  wait_holds (step.Remap child page) stands = law_of_nowhere s n (service.Wait id) (step.Remap child page) stands refl (λ row k b h. h)
  wait_holds (step.ChildStack child) stands = law_of_nowhere s n (service.Wait id) (step.ChildStack child) stands refl (λ row k b h. h)
  wait_holds (step.ChildUpcall child) stands = law_of_nowhere s n (service.Wait id) (step.ChildUpcall child) stands refl (λ row k b h. h)
  wait_holds (step.ChildRuns child) stands = law_of_nowhere s n (service.Wait id) (step.ChildRuns child) stands refl (λ row k b h. h)
  wait_holds (step.Undoing child error) stands = law_of_nowhere s n (service.Wait id) (step.Undoing child error) stands refl (λ row k b h. h)
  wait_holds (step.DescriptorEntry fd) stands = law_of_nowhere s n (service.Wait id) (step.DescriptorEntry fd) stands refl (λ row k b h. h)
  wait_holds step.TargetEntry stands = law_of_nowhere s n (service.Wait id) step.TargetEntry stands refl (λ row k b h. h)
  wait_holds (step.DroppingDescriptor fd) stands =
      law_of_nowhere s n (service.Wait id) (step.DroppingDescriptor fd) stands refl (λ row k b h. h)
  wait_holds step.MappingDescriptor stands = law_of_nowhere s n (service.Wait id) step.MappingDescriptor stands refl (λ row k b h. h)
  wait_holds step.Ending stands = law_of_nowhere s n (service.Wait id) step.Ending stands refl (λ row k b h. h)
  wait_holds step.ReadingDevice stands = law_of_nowhere s n (service.Wait id) step.ReadingDevice stands refl (λ row k b h. h)
  wait_holds (step.BufferRegion done word) stands = law_of_nowhere s n (service.Wait id) (step.BufferRegion done word) stands refl (λ row k b h. h)
  wait_holds (step.BufferEntry done word) stands = law_of_nowhere s n (service.Wait id) (step.BufferEntry done word) stands refl (λ row k b h. h)
  wait_holds step.TakingPage stands = law_of_nowhere s n (service.Wait id) step.TakingPage stands refl (λ row k b h. h)
  wait_holds (step.Gathering done) stands = law_of_nowhere s n (service.Wait id) (step.Gathering done) stands refl (λ row k b h. h)
  wait_holds (step.Keeping done word left) stands = law_of_nowhere s n (service.Wait id) (step.Keeping done word left) stands refl (λ row k b h. h)
  wait_holds step.Printing stands = law_of_nowhere s n (service.Wait id) step.Printing stands refl (λ row k b h. h)
  wait_holds step.Releasing stands = law_of_nowhere s n (service.Wait id) step.Releasing stands refl (λ row k b h. h)
  wait_holds step.Getting stands = law_of_nowhere s n (service.Wait id) step.Getting stands refl (λ row k b h. h)
  wait_holds (step.Delivering done word) stands = law_of_nowhere s n (service.Wait id) (step.Delivering done word) stands refl (λ row k b h. h)
  wait_holds (step.Faulting done word) stands = law_of_nowhere s n (service.Wait id) (step.Faulting done word) stands refl (λ row k b h. h)
  wait_holds (step.Asking own) stands = law_of_nowhere s n (service.Wait id) (step.Asking own) stands refl (λ row k b h. h)
  wait_holds (step.Awaiting own) stands = law_of_nowhere s n (service.Wait id) (step.Awaiting own) stands refl (λ row k b h. h)
  wait_holds (step.ReadingReply own) stands = law_of_nowhere s n (service.Wait id) (step.ReadingReply own) stands refl (λ row k b h. h)
  wait_holds step.Identifying stands = law_of_nowhere s n (service.Wait id) step.Identifying stands refl (λ row k b h. h)
  wait_holds (step.Clearing own) stands = law_of_nowhere s n (service.Wait id) (step.Clearing own) stands refl (λ row k b h. h)
  wait_holds step.ReadingMode stands = law_of_nowhere s n (service.Wait id) step.ReadingMode stands refl (λ row k b h. h)
  wait_holds step.ReadingNumber stands = law_of_nowhere s n (service.Wait id) step.ReadingNumber stands refl (λ row k b h. h)
  wait_holds (step.StoringNumber own) stands = law_of_nowhere s n (service.Wait id) (step.StoringNumber own) stands refl (λ row k b h. h)
  wait_holds step.StoringCount stands = law_of_nowhere s n (service.Wait id) step.StoringCount stands refl (λ row k b h. h)
  wait_holds step.TakingRequest stands = law_of_nowhere s n (service.Wait id) step.TakingRequest stands refl (λ row k b h. h)
  wait_holds (step.GatheringBytes done start) stands = law_of_nowhere s n (service.Wait id) (step.GatheringBytes done start) stands refl (λ row k b h. h)
  wait_holds (step.KeepingBytes done word left start) stands = law_of_nowhere s n (service.Wait id) (step.KeepingBytes done word left start) stands refl (λ row k b h. h)
  wait_holds step.FreeRegion stands = law_of_nowhere s n (service.Wait id) step.FreeRegion stands refl (λ row k b h. h)
  wait_holds (step.FreeEntry kept) stands = law_of_nowhere s n (service.Wait id) (step.FreeEntry kept) stands refl (λ row k b h. h)
  wait_holds (step.StoringMode kept) stands = law_of_nowhere s n (service.Wait id) (step.StoringMode kept) stands refl (λ row k b h. h)
  wait_holds (step.OpenIdentifying kept) stands = law_of_nowhere s n (service.Wait id) (step.OpenIdentifying kept) stands refl (λ row k b h. h)
  wait_holds (step.OpenAsking own kept) stands = law_of_nowhere s n (service.Wait id) (step.OpenAsking own kept) stands refl (λ row k b h. h)
  wait_holds (step.OpenPausing own kept) stands = law_of_nowhere s n (service.Wait id) (step.OpenPausing own kept) stands refl (λ row k b h. h)
  wait_holds (step.OpenAwaiting own kept) stands = law_of_nowhere s n (service.Wait id) (step.OpenAwaiting own kept) stands refl (λ row k b h. h)
  wait_holds (step.OpenClearing own kept) stands = law_of_nowhere s n (service.Wait id) (step.OpenClearing own kept) stands refl (λ row k b h. h)
  wait_holds (step.ReadingOpened own kept) stands = law_of_nowhere s n (service.Wait id) (step.ReadingOpened own kept) stands refl (λ row k b h. h)
  wait_holds (step.Piped at) stands = law_of_nowhere s n (service.Wait id) (step.Piped at) stands refl (λ row k b h. h)
  wait_holds (step.Spawning at) stands = law_of_nowhere s n (service.Wait id) (step.Spawning at) stands refl (λ row k b h. h)
  wait_holds (step.CountingReply own) stands = law_of_nowhere s n (service.Wait id) (step.CountingReply own) stands refl (λ row k b h. let contradiction : false ≡ true = h.hands in cc)
  wait_holds (step.FileRegion done count) stands = law_of_nowhere s n (service.Wait id) (step.FileRegion done count) stands refl (λ row k b h. let contradiction : false ≡ true = h.hands in cc)
  wait_holds (step.FileEntry done count) stands = law_of_nowhere s n (service.Wait id) (step.FileEntry done count) stands refl (λ row k b h. let contradiction : false ≡ true = h.0.hands in cc)
  wait_holds (step.LoadingBytes done count) stands = law_of_nowhere s n (service.Wait id) (step.LoadingBytes done count) stands refl (λ row k b h. let contradiction : false ≡ true = h.has.hands in cc)
  wait_holds (step.LoadingRest done count first) stands = law_of_nowhere s n (service.Wait id) (step.LoadingRest done count first) stands refl (λ row k b h. let contradiction : false ≡ true = h.has.hands in cc)
  wait_holds (step.PuttingBytes done count word) stands = law_of_nowhere s n (service.Wait id) (step.PuttingBytes done count word) stands refl (λ row k b h. let contradiction : false ≡ true = h.has.hands in cc)
  wait_holds (step.FileFaulting done count) stands = law_of_nowhere s n (service.Wait id) (step.FileFaulting done count) stands refl (λ row k b h. let contradiction : false ≡ true = h.0.hands in cc)
  wait_holds (step.Returning answer) stands = law_of_nowhere s n (service.Wait id) (step.Returning answer) stands refl (λ row k b h. let contradiction : false ≡ true = h.goes in cc)
