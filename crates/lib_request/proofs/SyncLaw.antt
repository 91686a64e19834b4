-- The law of sync: each of its stages is a part of one of its steps in the abstract system.
use Rattle.std.proofs.Common.{◌≡◌, ◌||◌, ◌==◌, ◌≤◌, ℕ, Bool, true, false, not, [], ◌∷◌, refl, sym, subst, arith, if◌then◌else◌}
use Rattle.jos_base.specs.declared.called.Called.{Called}
use Rattle.jos_base.specs.declared.numbers.TheConstants.{E_IPC_NOT_RECV, FIRST_ENV_ID, SYS_GETENVID, SYS_IPC_RECV, SYS_IPC_TRY_SEND, UTOP}
use Rattle.jos_base.specs.Environments.{Slot, is_live, is_runnable, is_running}
use Rattle.jos_base.specs.KernelState.{KernelState, slot_at}
use Rattle.jos_base.specs.Words.{negated}
use Rattle.lib_os.specs.declared.numbers.TheConstants.{FSREQ_SYNC, SERVICE_SYNC}
use Rattle.lib_os.specs.declared.place.Place.TheVariants as place
use Rattle.lib_os.specs.declared.place.Step.{Step}
use Rattle.lib_os.specs.declared.place.Step.TheVariants as step
use Rattle.lib_os.specs.declared.service.Service.TheVariants as service
use Rattle.lib_os.specs.AbstractState.{Born}
use Rattle.lib_os.specs.LibraryPages.{View}
use Rattle.lib_os.specs.LibrarySteps.{frames_at, is_pausing}
use Rattle.lib_os.specs.Places.{place_of}
use Rattle.lib_os.specs.StandsFor.{StandsAtStep}
use Rattle.lib_os.specs.UserCalls.{CallStep, answer_of}
use Rattle.lib_os.proofs.Calls.{getenvid_is}
use Rattle.lib_os.proofs.ServerAsked.{ask_call, asking_copies, asking_server, pausing_keeps}
use Rattle.lib_os.proofs.Trying.{LivesOn, recv_lives}
use Rattle.lib_stage.specs.declared.ask.Next.TheVariants as next
use Rattle.lib_stage.specs.Asks.{frames_of, performed}
use Rattle.lib_stage.specs.ServiceSteps.{Plan, nowhere, or_nowhere, ServiceHolds}
use Rattle.lib_stage.proofs.Laws.{Falls, IsAt, IsPlain, KeepsBy, plainly, kept_so, answered_keeps, shown_keeps, law_of_call, law_of_load}
use Rattle.lib_stage.proofs.Laws.{law_of_nowhere, law_of_pause}
use Rattle.lib_request.specs.declared.sync.SyncStage.{SyncStage}
use Rattle.lib_request.specs.declared.sync.SyncStage.TheVariants as stage
use Rattle.lib_request.specs.Replies.{reply_place}
use Rattle.lib_request.specs.SyncStages.{next_of, sync_at, syncing}
use Rattle.lib_request.proofs.Asking.{entered_keeps, tried, asking_keeps}
use Rattle.lib_request.proofs.Replying.{awaiting_keeps, reply_there, reply_follows}

-- the step that a stage is kept as
abbrev step_of : SyncStage → Step
step_of stage.Entered = step.Entered
step_of (stage.Asking id) = step.Asking id
step_of (stage.Pausing id) = step.Pausing id
step_of (stage.Awaiting id) = step.Awaiting id
step_of (stage.ReadingReply id) = step.ReadingReply id

module _ (s : KernelState) (n : ℕ) (live : is_live (slot_at s n) ≡ true)
    (awake : (is_runnable (slot_at s n).status || is_running (slot_at s n).status) ≡ true) where
  falls : (at : SyncStage) (word : ℕ) → Falls service.Sync (step_of at) (next_of at word)
  falls stage.Entered own = omega arith
  falls (stage.Asking id) word = by_test (word == negated E_IPC_NOT_RECV) (word == 0)
    where
      by_test : (t u : Bool) → Falls service.Sync (step.Asking id)
          (if t then next.Wait (step.Pausing id) else if not u then next.Answer word else next.Show (step.Awaiting id))
      by_test true u = refl
      by_test false true = tt
      by_test false false = tt
  falls (stage.Pausing id) word = omega arith
  falls (stage.Awaiting id) word = tt
  falls (stage.ReadingReply id) word = tt

  abbrev plan : SyncStage → Plan
  plan at = syncing (record { at = at })

  few : (at : SyncStage) → frames_of (plan at).asks ≤ frames_at (place.InService service.Sync (step_of at))
  few stage.Entered = omega arith
  few (stage.Asking id) = omega arith
  few (stage.Pausing id) = omega arith
  few (stage.Awaiting id) = omega arith
  few (stage.ReadingReply id) = omega arith

  here : (at : SyncStage) → place_of (slot_at s n) ≡ place.InService service.Sync (step_of at) → IsPlain s n (plan at).asks →
      is_pausing (place.InService service.Sync (step_of at)) ≡ false → IsAt s n (plan at) service.Sync (step_of at)
  here at stands plain goes_on =
      record {
        stands = stands;
        live = live;
        numbered = refl;
        plain = plain;
        goes_on = goes_on;
        falls = λ called. falls at (answer_of called);
        few = few at;
      }

  -- the server has the word of the request, or is left alone, and no page passes
  asks_so : (id : ℕ) → place_of (slot_at s n) ≡ place.InService service.Sync (step.Asking id) → IsPlain s n (plan (stage.Asking id)).asks
  unfolding performed
  asks_so id stands = kept_so refl (asking_copies s n id stands) (asking_server s n id stands)

  -- one that sync has not
  no_step : (at : Step) → place_of (slot_at s n) ≡ place.InService service.Sync at → is_pausing (place.InService service.Sync at) ≡ false →
      ((view : View) (k : Slot) (b : Born) → StandsAtStep view k b service.Sync at → ⊥) → ServiceHolds s n nowhere
  no_step at stands goes_on none = law_of_nowhere s n service.Sync at stands goes_on none

  pub sync_holds : (at : Step) → place_of (slot_at s n) ≡ place.InService service.Sync at → ServiceHolds s n (or_nowhere syncing (sync_at at))
  sync_holds step.Entered stands =
      let args = 0 ∷ 0 ∷ 0 ∷ 0 ∷ 0 ∷ [] in
      law_of_call s n (plan stage.Entered) service.Sync step.Entered (here stage.Entered stands (plainly refl) refl) SYS_GETENVID args refl refl
      (subst (λ (z : CallStep Called). LivesOn z n (slot_at s n).registers) (sym (getenvid_is s n live args)) (record { live = live; registers = refl; written = refl }))
      (λ order. subst (λ (z : CallStep Called). KeepsBy s n (plan stage.Entered) z) (sym (getenvid_is s n live args)) (entered_keeps s n stands))
  sync_holds (step.Asking id) stands =
      let it = tried s n id stands live in
      law_of_call s n (plan (stage.Asking id)) service.Sync (step.Asking id) (here (stage.Asking id) stands (asks_so id stands) refl)
      SYS_IPC_TRY_SEND (FIRST_ENV_ID ∷ FSREQ_SYNC ∷ UTOP ∷ 0 ∷ 0 ∷ []) refl refl
      (record { live = it.live; registers = it.registers; written = it.written })
      (answered_keeps s n (plan (stage.Asking id)) (ask_call s n) it (λ order. asking_keeps s n id stands live))
  sync_holds (step.Pausing id) stands =
      law_of_pause s n service.Sync (step.Pausing id) (step.Asking id) SERVICE_SYNC (0 ∷ 0 ∷ 0 ∷ 0 ∷ 0 ∷ []) stands live refl refl
      (omega arith) (pausing_keeps s n id stands)
  sync_holds (step.Awaiting id) stands =
      let args = UTOP ∷ FIRST_ENV_ID ∷ 0 ∷ 0 ∷ 0 ∷ [] in
      let lives = recv_lives s n UTOP FIRST_ENV_ID (0 ∷ 0 ∷ 0 ∷ []) live in
      law_of_call s n (plan (stage.Awaiting id)) service.Sync (step.Awaiting id) (here (stage.Awaiting id) stands (plainly refl) refl)
      SYS_IPC_RECV args refl refl lives
      (λ order. shown_keeps s n SYS_IPC_RECV args (plan (stage.Awaiting id)) (step.ReadingReply id) lives (λ called. refl) (awaiting_keeps s n id stands))
  sync_holds (step.ReadingReply id) stands =
      law_of_load s n (plan (stage.ReadingReply id)) service.Sync (step.ReadingReply id) (here (stage.ReadingReply id) stands (plainly refl) refl)
      (reply_place id) refl
      (λ names a h. (
        record { word = (slot_at s n).rendezvous.value; is = reply_there s n id stands awake names a h },
        reply_follows s n id stands awake names a h,
      ))
  sync_holds (step.Piped at) stands = no_step (step.Piped at) stands refl (λ view k b h. h)
  sync_holds (step.Spawning at) stands = no_step (step.Spawning at) stands refl (λ view k b h. h)
  sync_holds (step.Trying perm) stands = no_step (step.Trying perm) stands refl (λ view k b h. h)
  sync_holds step.ReadingRegion stands = no_step step.ReadingRegion stands refl (λ view k b h. h)
  sync_holds step.ReadingEntry stands = no_step step.ReadingEntry stands refl (λ view k b h. h)
  sync_holds (step.Receiving own) stands = no_step (step.Receiving own) stands refl (λ view k b h. h)
  sync_holds (step.ReadingValue own) stands = no_step (step.ReadingValue own) stands refl (λ view k b h. h)
  sync_holds (step.ReadingSender own word) stands = no_step (step.ReadingSender own word) stands refl (λ view k b h. h)
  sync_holds (step.ReadingPerm own word sender) stands = no_step (step.ReadingPerm own word sender) stands refl (λ view k b h. h)
  sync_holds (step.ForkRegion child region) stands = no_step (step.ForkRegion child region) stands refl (λ view k b h. h)
  sync_holds (step.ForkEntry child page) stands = no_step (step.ForkEntry child page) stands refl (λ view k b h. h)
  sync_holds (step.MapChild child page perm) stands = no_step (step.MapChild child page perm) stands refl (λ view k b h. h)
  sync_holds (step.Remap child page) stands = no_step (step.Remap child page) stands refl (λ view k b h. h)
  sync_holds (step.ChildStack child) stands = no_step (step.ChildStack child) stands refl (λ view k b h. h)
  sync_holds (step.ChildUpcall child) stands = no_step (step.ChildUpcall child) stands refl (λ view k b h. h)
  sync_holds (step.ChildRuns child) stands = no_step (step.ChildRuns child) stands refl (λ view k b h. h)
  sync_holds (step.Undoing child error) stands = no_step (step.Undoing child error) stands refl (λ view k b h. h)
  sync_holds (step.DescriptorEntry fd) stands = no_step (step.DescriptorEntry fd) stands refl (λ view k b h. h)
  sync_holds step.TargetEntry stands = no_step step.TargetEntry stands refl (λ view k b h. h)
  sync_holds (step.DroppingDescriptor fd) stands = no_step (step.DroppingDescriptor fd) stands refl (λ view k b h. h)
  sync_holds step.MappingDescriptor stands = no_step step.MappingDescriptor stands refl (λ view k b h. h)
  sync_holds step.Ending stands = no_step step.Ending stands refl (λ view k b h. h)
  sync_holds step.ReadingDevice stands = no_step step.ReadingDevice stands refl (λ view k b h. h)
  sync_holds (step.BufferRegion done word) stands = no_step (step.BufferRegion done word) stands refl (λ view k b h. h)
  sync_holds (step.BufferEntry done word) stands = no_step (step.BufferEntry done word) stands refl (λ view k b h. h)
  sync_holds step.TakingPage stands = no_step step.TakingPage stands refl (λ view k b h. h)
  sync_holds (step.Gathering done) stands = no_step (step.Gathering done) stands refl (λ view k b h. h)
  sync_holds (step.Keeping done word left) stands = no_step (step.Keeping done word left) stands refl (λ view k b h. h)
  sync_holds step.Printing stands = no_step step.Printing stands refl (λ view k b h. h)
  sync_holds step.Releasing stands = no_step step.Releasing stands refl (λ view k b h. h)
  sync_holds step.Getting stands = no_step step.Getting stands refl (λ view k b h. h)
  sync_holds (step.Delivering done word) stands = no_step (step.Delivering done word) stands refl (λ view k b h. h)
  sync_holds (step.Faulting done word) stands = no_step (step.Faulting done word) stands refl (λ view k b h. h)
  sync_holds step.Identifying stands = no_step step.Identifying stands refl (λ view k b h. h)
  sync_holds (step.Clearing id) stands = no_step (step.Clearing id) stands refl (λ view k b h. h)
  sync_holds step.ReadingMode stands = no_step step.ReadingMode stands refl (λ view k b h. h)
  sync_holds step.ReadingNumber stands = no_step step.ReadingNumber stands refl (λ view k b h. h)
  sync_holds (step.StoringNumber own) stands = no_step (step.StoringNumber own) stands refl (λ view k b h. h)
  sync_holds step.StoringCount stands = no_step step.StoringCount stands refl (λ view k b h. h)
  sync_holds step.TakingRequest stands = no_step step.TakingRequest stands refl (λ view k b h. h)
  sync_holds (step.GatheringBytes done start) stands = no_step (step.GatheringBytes done start) stands refl (λ view k b h. h)
  sync_holds (step.KeepingBytes done word left start) stands = no_step (step.KeepingBytes done word left start) stands refl (λ view k b h. h)
  sync_holds step.FreeRegion stands = no_step step.FreeRegion stands refl (λ view k b h. h)
  sync_holds (step.FreeEntry kept) stands = no_step (step.FreeEntry kept) stands refl (λ view k b h. h)
  sync_holds (step.StoringMode kept) stands = no_step (step.StoringMode kept) stands refl (λ view k b h. h)
  sync_holds (step.OpenIdentifying kept) stands = no_step (step.OpenIdentifying kept) stands refl (λ view k b h. h)
  sync_holds (step.OpenAsking own kept) stands = no_step (step.OpenAsking own kept) stands refl (λ view k b h. h)
  sync_holds (step.OpenPausing own kept) stands = no_step (step.OpenPausing own kept) stands refl (λ view k b h. h)
  sync_holds (step.OpenAwaiting own kept) stands = no_step (step.OpenAwaiting own kept) stands refl (λ view k b h. h)
  sync_holds (step.OpenClearing own kept) stands = no_step (step.OpenClearing own kept) stands refl (λ view k b h. h)
  sync_holds (step.ReadingOpened own kept) stands = no_step (step.ReadingOpened own kept) stands refl (λ view k b h. h)
  sync_holds (step.CountingReply own) stands =
      no_step (step.CountingReply own) stands refl (λ view k b h. let contradiction : false ≡ true = h.hands in cc)
  sync_holds (step.FileRegion done count) stands =
      no_step (step.FileRegion done count) stands refl (λ view k b h. let contradiction : false ≡ true = h.hands in cc)
  sync_holds (step.FileEntry done count) stands =
      no_step (step.FileEntry done count) stands refl (λ view k b h. let contradiction : false ≡ true = h.0.hands in cc)
  sync_holds (step.LoadingBytes done count) stands =
      no_step (step.LoadingBytes done count) stands refl (λ view k b h. let contradiction : false ≡ true = h.has.hands in cc)
  sync_holds (step.LoadingRest done count first) stands =
      no_step (step.LoadingRest done count first) stands refl (λ view k b h. let contradiction : false ≡ true = h.has.hands in cc)
  sync_holds (step.PuttingBytes done count word) stands =
      no_step (step.PuttingBytes done count word) stands refl (λ view k b h. let contradiction : false ≡ true = h.has.hands in cc)
  sync_holds (step.FileFaulting done count) stands =
      no_step (step.FileFaulting done count) stands refl (λ view k b h. let contradiction : false ≡ true = h.0.hands in cc)
  sync_holds (step.Returning answer) stands =
      no_step (step.Returning answer) stands refl (λ view k b h. let contradiction : false ≡ true = h.goes in cc)
