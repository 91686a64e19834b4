-- The law of receive: its stages are the two steps that it has in the abstract system.
use Rattle.std.proofs.Common.{◌≡◌, ◌||◌, ◌≤◌, ℕ, Bool, true, false, not, [], ◌∷◌, refl, sym, subst, arith, if◌then◌else◌}
use Rattle.jos_base.specs.declared.called.Called.{Called}
use Rattle.jos_base.specs.declared.numbers.TheConstants.{E_INVAL, ENV_IPC_FROM, ENV_IPC_PERM, ENV_IPC_VALUE, SYS_GETENVID, SYS_IPC_RECV}
use Rattle.jos_base.specs.Environments.{is_live, is_runnable, is_running}
use Rattle.jos_base.specs.KernelState.{KernelState, slot_at}
use Rattle.jos_base.specs.Words.{negated}
use Rattle.lib_os.specs.declared.place.Place.TheVariants as place
use Rattle.lib_os.specs.declared.place.Step.{Step}
use Rattle.lib_os.specs.declared.place.Step.TheVariants as step
use Rattle.lib_os.specs.declared.service.Service.TheVariants as service
use Rattle.lib_os.specs.LibrarySteps.{frames_at}
use Rattle.lib_os.specs.Places.{place_of}
use Rattle.lib_os.specs.StandsFor.{destination_of}
use Rattle.lib_os.specs.UserCalls.{CallStep, answer_of}
use Rattle.lib_os.proofs.Calls.{getenvid_is}
use Rattle.lib_os.proofs.Trying.{LivesOn, recv_lives}
use Rattle.lib_stage.specs.declared.ask.Next.TheVariants as next
use Rattle.lib_stage.specs.Asks.{frames_of}
use Rattle.lib_stage.specs.ServiceSteps.{Plan, or_nowhere, ServiceHolds}
use Rattle.lib_stage.proofs.Laws.{Falls, IsAt, KeepsBy, is_plain, shown_keeps, law_of_call, law_of_load, law_of_nowhere, plainly}
use Rattle.lib_msg.specs.declared.receive.ReceiveStage.{ReceiveStage}
use Rattle.lib_msg.specs.declared.receive.ReceiveStage.TheVariants as stage
use Rattle.lib_msg.specs.ReceiveStages.{may_receive, next_of, receive_at, receiving, record_word}
use Rattle.lib_msg.proofs.Entering.{entered_keeps, waiting_keeps}
use Rattle.lib_msg.proofs.Receiving.{value_there, value_follows, sender_there, sender_follows, perm_there, perm_follows}

-- the step that a stage is kept as
abbrev step_of : ReceiveStage → Step
step_of stage.Entered = step.Entered
step_of (stage.Receiving id) = step.Receiving id
step_of (stage.ReadingValue id) = step.ReadingValue id
step_of (stage.ReadingSender id value) = step.ReadingSender id value
step_of (stage.ReadingPerm id value sender) = step.ReadingPerm id value sender

module _ (s : KernelState) (n va from : ℕ) (live : is_live (slot_at s n) ≡ true)
    (awake : (is_runnable (slot_at s n).status || is_running (slot_at s n).status) ≡ true) where
  falls : (at : ReceiveStage) (word : ℕ) → Falls (service.Receive va from) (step_of at) (next_of va from at word)
  falls stage.Entered own = by_test (may_receive va from own)
    where
      by_test : (t : Bool) → Falls (service.Receive va from) step.Entered (if not t then next.Answer (negated E_INVAL) else next.GoOn (step.Receiving own))
      by_test true = omega arith
      by_test false = tt
  falls (stage.Receiving id) word = tt
  falls (stage.ReadingValue id) word = omega arith
  falls (stage.ReadingSender id value) word = omega arith
  falls (stage.ReadingPerm id value sender) word = tt

  abbrev plan : ReceiveStage → Plan
  plan at = receiving (record { va = va; from = from; at = at })

  few : (at : ReceiveStage) → frames_of (plan at).asks ≤ frames_at (place.InService (service.Receive va from) (step_of at))
  few stage.Entered = omega arith
  few (stage.Receiving id) = omega arith
  few (stage.ReadingValue id) = omega arith
  few (stage.ReadingSender id value) = omega arith
  few (stage.ReadingPerm id value sender) = omega arith

  here : (at : ReceiveStage) → place_of (slot_at s n) ≡ place.InService (service.Receive va from) (step_of at) →
      is_plain (plan at).asks ≡ true → IsAt s n (plan at) (service.Receive va from) (step_of at)
  here at stands plain =
      record {
        stands = stands;
        live = live;
        numbered = refl;
        plain = plainly plain;
        goes_on = refl;
        falls = λ called. falls at (answer_of called);
        few = few at;
      }

  pub receive_holds : (at : Step) → place_of (slot_at s n) ≡ place.InService (service.Receive va from) at →
      ServiceHolds s n (or_nowhere receiving (receive_at va from at))
  receive_holds step.Entered stands =
      let args = 0 ∷ 0 ∷ 0 ∷ 0 ∷ 0 ∷ [] in
      law_of_call s n (plan stage.Entered) (service.Receive va from) step.Entered (here stage.Entered stands refl) SYS_GETENVID args refl refl
      (subst (λ (z : CallStep Called). LivesOn z n (slot_at s n).registers) (sym (getenvid_is s n live args)) (record { live = live; registers = refl; written = refl }))
      (λ order. subst (λ (z : CallStep Called). KeepsBy s n (plan stage.Entered) z) (sym (getenvid_is s n live args)) (entered_keeps s n va from stands))
  receive_holds (step.Receiving id) stands =
      let args = destination_of va ∷ from ∷ 0 ∷ 0 ∷ 0 ∷ [] in
      law_of_call s n (plan (stage.Receiving id)) (service.Receive va from) (step.Receiving id) (here (stage.Receiving id) stands refl) SYS_IPC_RECV args refl refl
      (recv_lives s n (destination_of va) from (0 ∷ 0 ∷ 0 ∷ []) live)
      (λ order. shown_keeps s n SYS_IPC_RECV args (plan (stage.Receiving id)) (step.ReadingValue id)
      (recv_lives s n (destination_of va) from (0 ∷ 0 ∷ 0 ∷ []) live) (λ called. refl) (waiting_keeps s n va from id stands))
  receive_holds (step.ReadingValue id) stands =
      law_of_load s n (plan (stage.ReadingValue id)) (service.Receive va from) (step.ReadingValue id) (here (stage.ReadingValue id) stands refl)
      (record_word id ENV_IPC_VALUE) refl
      (λ names a h. (
        record { word = (slot_at s n).rendezvous.value; is = value_there s n va from id stands awake names a h },
        value_follows s n va from id stands awake names a h,
      ))
  receive_holds (step.ReadingSender id value) stands =
      law_of_load s n (plan (stage.ReadingSender id value)) (service.Receive va from) (step.ReadingSender id value)
      (here (stage.ReadingSender id value) stands refl) (record_word id ENV_IPC_FROM) refl
      (λ names a h. (
        record { word = (slot_at s n).rendezvous.sender; is = sender_there s n va from id value stands names a h },
        sender_follows s n va from id value stands names a h,
      ))
  receive_holds (step.ReadingPerm id value sender) stands =
      law_of_load s n (plan (stage.ReadingPerm id value sender)) (service.Receive va from) (step.ReadingPerm id value sender)
      (here (stage.ReadingPerm id value sender) stands refl) (record_word id ENV_IPC_PERM) refl
      (λ names a h. (
        record { word = (slot_at s n).rendezvous.perm; is = perm_there s n va from id value sender stands names a h },
        perm_follows s n va from id value sender stands names a h,
      ))
  receive_holds (step.Trying perm) stands = law_of_nowhere s n (service.Receive va from) (step.Trying perm) stands refl (λ view k b h. h)
  receive_holds (step.Pausing perm) stands = law_of_nowhere s n (service.Receive va from) (step.Pausing perm) stands refl (λ view k b h. h)
  receive_holds step.ReadingRegion stands = law_of_nowhere s n (service.Receive va from) step.ReadingRegion stands refl (λ view k b h. h)
  receive_holds step.ReadingEntry stands = law_of_nowhere s n (service.Receive va from) step.ReadingEntry stands refl (λ view k b h. h)
  receive_holds (step.ForkRegion child region) stands = law_of_nowhere s n (service.Receive va from) (step.ForkRegion child region) stands refl (λ view k b h. h)
  receive_holds (step.ForkEntry child page) stands = law_of_nowhere s n (service.Receive va from) (step.ForkEntry child page) stands refl (λ view k b h. h)
  receive_holds (step.MapChild child page perm) stands = law_of_nowhere s n (service.Receive va from) (step.MapChild child page perm) stands refl (λ view k b h. h)
  receive_holds (step.Remap child page) stands = law_of_nowhere s n (service.Receive va from) (step.Remap child page) stands refl (λ view k b h. h)
  receive_holds (step.ChildStack child) stands = law_of_nowhere s n (service.Receive va from) (step.ChildStack child) stands refl (λ view k b h. h)
  receive_holds (step.ChildUpcall child) stands = law_of_nowhere s n (service.Receive va from) (step.ChildUpcall child) stands refl (λ view k b h. h)
  receive_holds (step.ChildRuns child) stands = law_of_nowhere s n (service.Receive va from) (step.ChildRuns child) stands refl (λ view k b h. h)
  receive_holds (step.Undoing child error) stands = law_of_nowhere s n (service.Receive va from) (step.Undoing child error) stands refl (λ view k b h. h)
  receive_holds (step.DescriptorEntry fd) stands = law_of_nowhere s n (service.Receive va from) (step.DescriptorEntry fd) stands refl (λ view k b h. h)
  receive_holds step.TargetEntry stands = law_of_nowhere s n (service.Receive va from) step.TargetEntry stands refl (λ view k b h. h)
  receive_holds (step.DroppingDescriptor fd) stands = law_of_nowhere s n (service.Receive va from) (step.DroppingDescriptor fd) stands refl (λ view k b h. h)
  receive_holds step.MappingDescriptor stands = law_of_nowhere s n (service.Receive va from) step.MappingDescriptor stands refl (λ view k b h. h)
  receive_holds step.Ending stands = law_of_nowhere s n (service.Receive va from) step.Ending stands refl (λ view k b h. h)
  receive_holds step.ReadingDevice stands = law_of_nowhere s n (service.Receive va from) step.ReadingDevice stands refl (λ view k b h. h)
  receive_holds (step.BufferRegion done word) stands = law_of_nowhere s n (service.Receive va from) (step.BufferRegion done word) stands refl (λ view k b h. h)
  receive_holds (step.BufferEntry done word) stands = law_of_nowhere s n (service.Receive va from) (step.BufferEntry done word) stands refl (λ view k b h. h)
  receive_holds step.TakingPage stands = law_of_nowhere s n (service.Receive va from) step.TakingPage stands refl (λ view k b h. h)
  receive_holds (step.Gathering done) stands = law_of_nowhere s n (service.Receive va from) (step.Gathering done) stands refl (λ view k b h. h)
  receive_holds (step.Keeping done word left) stands = law_of_nowhere s n (service.Receive va from) (step.Keeping done word left) stands refl (λ view k b h. h)
  receive_holds step.Printing stands = law_of_nowhere s n (service.Receive va from) step.Printing stands refl (λ view k b h. h)
  receive_holds step.Releasing stands = law_of_nowhere s n (service.Receive va from) step.Releasing stands refl (λ view k b h. h)
  receive_holds step.Getting stands = law_of_nowhere s n (service.Receive va from) step.Getting stands refl (λ view k b h. h)
  receive_holds (step.Delivering done word) stands = law_of_nowhere s n (service.Receive va from) (step.Delivering done word) stands refl (λ view k b h. h)
  receive_holds (step.Faulting done word) stands = law_of_nowhere s n (service.Receive va from) (step.Faulting done word) stands refl (λ view k b h. h)
  receive_holds (step.Asking own) stands = law_of_nowhere s n (service.Receive va from) (step.Asking own) stands refl (λ view k b h. h)
  receive_holds (step.Awaiting own) stands = law_of_nowhere s n (service.Receive va from) (step.Awaiting own) stands refl (λ view k b h. h)
  receive_holds (step.ReadingReply own) stands = law_of_nowhere s n (service.Receive va from) (step.ReadingReply own) stands refl (λ view k b h. h)
  receive_holds step.Identifying stands = law_of_nowhere s n (service.Receive va from) step.Identifying stands refl (λ view k b h. h)
  receive_holds (step.Clearing own) stands = law_of_nowhere s n (service.Receive va from) (step.Clearing own) stands refl (λ view k b h. h)
  receive_holds step.ReadingMode stands = law_of_nowhere s n (service.Receive va from) step.ReadingMode stands refl (λ view k b h. h)
  receive_holds step.ReadingNumber stands = law_of_nowhere s n (service.Receive va from) step.ReadingNumber stands refl (λ view k b h. h)
  receive_holds (step.StoringNumber own) stands = law_of_nowhere s n (service.Receive va from) (step.StoringNumber own) stands refl (λ view k b h. h)
  receive_holds step.StoringCount stands = law_of_nowhere s n (service.Receive va from) step.StoringCount stands refl (λ view k b h. h)
  receive_holds step.TakingRequest stands = law_of_nowhere s n (service.Receive va from) step.TakingRequest stands refl (λ view k b h. h)
  receive_holds (step.GatheringBytes done start) stands = law_of_nowhere s n (service.Receive va from) (step.GatheringBytes done start) stands refl (λ view k b h. h)
  receive_holds (step.KeepingBytes done word left start) stands = law_of_nowhere s n (service.Receive va from) (step.KeepingBytes done word left start) stands refl (λ view k b h. h)
  receive_holds step.FreeRegion stands = law_of_nowhere s n (service.Receive va from) step.FreeRegion stands refl (λ view k b h. h)
  receive_holds (step.FreeEntry kept) stands = law_of_nowhere s n (service.Receive va from) (step.FreeEntry kept) stands refl (λ view k b h. h)
  receive_holds (step.StoringMode kept) stands = law_of_nowhere s n (service.Receive va from) (step.StoringMode kept) stands refl (λ view k b h. h)
  receive_holds (step.OpenIdentifying kept) stands = law_of_nowhere s n (service.Receive va from) (step.OpenIdentifying kept) stands refl (λ view k b h. h)
  receive_holds (step.OpenAsking own kept) stands = law_of_nowhere s n (service.Receive va from) (step.OpenAsking own kept) stands refl (λ view k b h. h)
  receive_holds (step.OpenPausing own kept) stands = law_of_nowhere s n (service.Receive va from) (step.OpenPausing own kept) stands refl (λ view k b h. h)
  receive_holds (step.OpenAwaiting own kept) stands = law_of_nowhere s n (service.Receive va from) (step.OpenAwaiting own kept) stands refl (λ view k b h. h)
  receive_holds (step.OpenClearing own kept) stands = law_of_nowhere s n (service.Receive va from) (step.OpenClearing own kept) stands refl (λ view k b h. h)
  receive_holds (step.ReadingOpened own kept) stands = law_of_nowhere s n (service.Receive va from) (step.ReadingOpened own kept) stands refl (λ view k b h. h)
  receive_holds (step.Piped at) stands = law_of_nowhere s n (service.Receive va from) (step.Piped at) stands refl (λ view k b h. h)
  receive_holds (step.Spawning at) stands = law_of_nowhere s n (service.Receive va from) (step.Spawning at) stands refl (λ view k b h. h)
  receive_holds (step.CountingReply own) stands = law_of_nowhere s n (service.Receive va from) (step.CountingReply own) stands refl (λ view k b h. let contradiction : false ≡ true = h.hands in cc)
  receive_holds (step.FileRegion done count) stands = law_of_nowhere s n (service.Receive va from) (step.FileRegion done count) stands refl (λ view k b h. let contradiction : false ≡ true = h.hands in cc)
  receive_holds (step.FileEntry done count) stands = law_of_nowhere s n (service.Receive va from) (step.FileEntry done count) stands refl (λ view k b h. let contradiction : false ≡ true = h.0.hands in cc)
  receive_holds (step.LoadingBytes done count) stands = law_of_nowhere s n (service.Receive va from) (step.LoadingBytes done count) stands refl (λ view k b h. let contradiction : false ≡ true = h.has.hands in cc)
  receive_holds (step.LoadingRest done count first) stands = law_of_nowhere s n (service.Receive va from) (step.LoadingRest done count first) stands refl (λ view k b h. let contradiction : false ≡ true = h.has.hands in cc)
  receive_holds (step.PuttingBytes done count word) stands = law_of_nowhere s n (service.Receive va from) (step.PuttingBytes done count word) stands refl (λ view k b h. let contradiction : false ≡ true = h.has.hands in cc)
  receive_holds (step.FileFaulting done count) stands = law_of_nowhere s n (service.Receive va from) (step.FileFaulting done count) stands refl (λ view k b h. let contradiction : false ≡ true = h.0.hands in cc)
  receive_holds (step.Returning answer) stands = law_of_nowhere s n (service.Receive va from) (step.Returning answer) stands refl (λ view k b h. let contradiction : false ≡ true = h.goes in cc)
