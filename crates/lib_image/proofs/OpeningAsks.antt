-- The law of spawn where it asks the file server, for its file or for a part of that: it asks for its own id first, asks with its page, gives up its turn where the server
-- does not wait, and waits for the reply.
use Rattle.std.proofs.Common.{◌≡◌, ◌∙◌, ◌==◌, ◌<◌, ℕ, Bool, true, false, not, [], ◌∷◌, refl, sym, ap, subst, arith, if◌then◌else◌}
use Rattle.std.specs.Prelude.{Some}
use Rattle.std.proofs.lemmas.Bool.Decides.{nat_tests}
use Rattle.jos_base.specs.declared.called.Called.{Called}
use Rattle.jos_base.specs.declared.called.Called.TheVariants.{Answered}
use Rattle.jos_base.specs.declared.environment.Status.TheVariants.{Runnable}
use Rattle.jos_base.specs.declared.numbers.TheConstants.{E_IPC_NOT_RECV, FIRST_ENV_ID, SYS_GETENVID, SYS_IPC_RECV, SYS_IPC_TRY_SEND, SYS_YIELD, UTEMP}
use Rattle.jos_base.specs.Environments.{Slot, is_live}
use Rattle.jos_base.specs.KernelState.{KernelState, slot_at}
use Rattle.jos_base.specs.Words.{negated, page_number}
use Rattle.lib_os.specs.declared.numbers.TheConstants.{SERVICE_SPAWN}
use Rattle.lib_os.specs.declared.place.Step.TheVariants as step
use Rattle.lib_os.specs.declared.service.Service.{Service}
use Rattle.lib_os.specs.declared.service.Service.TheVariants as service
use Rattle.lib_os.specs.declared.spawn_steps.SpawnStep.{SpawnStep}
use Rattle.lib_os.specs.AbstractState.{AbstractState, Born}
use Rattle.lib_os.specs.InOrder.{IsInOrder}
use Rattle.lib_os.specs.LibraryPages.{View}
use Rattle.lib_os.specs.LibrarySteps.{KeepsStanding, request_perm, spawn_asks_by, spawn_frames_at, spawn_pauses_at, steps_left}
use Rattle.lib_os.specs.Places.{place_of}
use Rattle.lib_os.specs.Rows.{Names}
use Rattle.lib_os.specs.StandsAtSpawn.{StandsAtSpawn}
use Rattle.lib_os.specs.StandsFor.{StandsFor, view_of}
use Rattle.lib_os.specs.UserCalls.{CallStep, answer_of, got}
use Rattle.lib_os.proofs.Calls.{getenvid_is}
use Rattle.lib_os.proofs.PageAsked.{page_ask_call, page_asking_answered}
use Rattle.lib_os.proofs.Serving.{holds_page}
use Rattle.lib_os.proofs.SpawnAsks.{GoesFrom, HidesFrom, SpawnAsking, spawn_asked_keeps, spawn_asking_copies, spawn_asking_server, spawn_lacking_keeps}
use Rattle.lib_os.proofs.SpawnAsks.{spawn_pausing_keeps, spawn_waiting_keeps}
use Rattle.lib_os.proofs.SpawnAwaits.{behind_asked, destination_of, spawn_awaiting_keeps}
use Rattle.lib_os.proofs.SpawnedTurns.{KeepsBearing}
use Rattle.lib_os.proofs.SpawnOwnPages.{keeps_own, spawn_there, spawn_words, spawns_at}
use Rattle.lib_os.proofs.SpawnWaits.{SpawnHasAsked}
use Rattle.lib_os.proofs.Trying.{IsAnswered, LivesOn, recv_lives}
use Rattle.lib_stage.specs.declared.ask.Ask.TheVariants as ask
use Rattle.lib_stage.specs.declared.ask.Next.TheVariants as next
use Rattle.lib_stage.specs.Asks.{no_args, performed}
use Rattle.lib_stage.specs.Nexts.{seen_as, settled}
use Rattle.lib_stage.specs.ServiceSteps.{Plan, ServiceHolds}
use Rattle.lib_stage.proofs.Laws.{Falls, IsAt, IsPlain, KeepsBy, answered_keeps, kept_so, law_of_call, law_of_pause, most_left, plainly, shown_keeps}
use Rattle.lib_file.proofs.Finds.{staged}
use Rattle.lib_request.specs.PageRequests.{reply_asked_at, request_asked}
use Rattle.lib_image.specs.SpawnNexts.{goes_on, next_by, shows}

-- a record of another status has other words
abbrev woken : Slot → SpawnStep → Slot
woken k to = record k { status = Runnable; extra = spawn_words to }

module _ (s : KernelState) (n path argv : ℕ) (live : is_live (slot_at s n) ≡ true) (from : SpawnStep)
    (stands : place_of (slot_at s n) ≡ spawns_at path argv from) where
  abbrev call : Service
  call = service.Spawn path argv

  -- ---- it knows its id

  module _ (to : ℕ → SpawnStep) (steady : spawn_pauses_at from ≡ false)
      (falls : (own : ℕ) → Falls (service.Spawn path argv) (step.Spawning from) (next.GoOn (step.Spawning (to own))))
      (hides : HidesFrom n path argv from (to (slot_at s n).id))
      (goes : (v : View) (k : Slot) (b : Born) → StandsAtSpawn v k b path argv from →
      StandsAtSpawn v (record k { extra = spawn_words (to k.id) }) b path argv (to k.id)) where
    abbrev identifying : Plan
    identifying = staged call (ask.System SYS_GETENVID no_args) (λ own. goes_on (to own))

    identifying_at : IsAt s n identifying call (step.Spawning from)
    identifying_at = record {
      stands = stands;
      live = live;
      numbered = refl;
      plain = plainly refl;
      goes_on = steady;
      falls = λ called. falls (answer_of called);
      few = omega arith;
    }

    identified_keeps : KeepsStanding (seen_as (goes_on (to (slot_at s n).id))) n s (settled SERVICE_SPAWN (goes_on (to (slot_at s n).id)) s n) []
    identified_keeps a h turn quiet =
        let v = spawn_there h.1 n path argv from stands in (
          refl,
          (h.0, hides.hidden h.0 s a h.1 stands v.b v.is (goes (view_of s.spaces (slot_at s n).directory) (slot_at s n) v.b v.at)),
        )

    pub spawn_identifying_holds : ServiceHolds s n (staged (service.Spawn path argv) (ask.System SYS_GETENVID no_args) (λ own. goes_on (to own)))
    spawn_identifying_holds =
        law_of_call s n identifying call (step.Spawning from) identifying_at SYS_GETENVID no_args refl refl
        (subst (λ (z : CallStep Called). LivesOn z n (slot_at s n).registers) (sym (getenvid_is s n live no_args))
        (record { live = live; registers = refl; written = refl }))
        (λ order. subst (λ (z : CallStep Called). KeepsBy s n identifying z) (sym (getenvid_is s n live no_args)) identified_keeps)

  -- ---- it asks

  module _ (pausing awaiting : SpawnStep) (refused : ℕ → SpawnStep) (word : ℕ) (keeps : keeps_own from (page_number UTEMP) ≡ true)
      (by : spawn_asks_by from ≡ Some word) (one : spawn_frames_at from ≡ 1) (steady : spawn_pauses_at from ≡ false)
      (falls : (w : ℕ) → Falls (service.Spawn path argv) (step.Spawning from) (next_by pausing awaiting (refused w) w))
      (waits_on : HidesFrom n path argv from pausing) (goes : GoesFrom n path argv from awaiting)
      (asking : (names : Names) (a : AbstractState) (h : StandsFor names s a) →
      SpawnAsking a n (view_of s.spaces (slot_at s n).directory) (slot_at s n) (spawn_there h n path argv from stands).b path argv from pausing awaiting) where
    abbrev asking_plan : Plan
    asking_plan = staged call (request_asked word) (λ w. next_by pausing awaiting (refused w) w)

    tried : IsAnswered (page_ask_call s n word) n (slot_at s n).registers
    tried = page_asking_answered s n word live

    -- what it was answered
    answer_is : (w : ℕ) → tried.answer ≡ w → (page_ask_call s n word).gives ≡ got (Answered w)
    answer_is w is = tried.gives ∙ ap (λ (x : ℕ). got (Answered x)) is

    -- the server has the word of the request and its page, or is left alone
    asks_so : IsPlain s n asking_plan.asks
    unfolding performed
    asks_so =
        kept_so refl (spawn_asking_copies s n path argv from pausing awaiting word stands keeps by waits_on goes asking)
        (spawn_asking_server s n path argv from pausing awaiting word stands keeps by waits_on goes asking)

    asking_at : IsAt s n asking_plan call (step.Spawning from)
    asking_at = record {
      stands = stands;
      live = live;
      numbered = refl;
      plain = asks_so;
      goes_on = steady;
      falls = λ called. falls (answer_of called);
      few = omega (arith, one);
    }

    asking_keeps : IsInOrder (page_ask_call s n word).state →
        let x = next_by pausing awaiting (refused tried.answer) tried.answer in
        KeepsStanding (seen_as x) n s (settled SERVICE_SPAWN x (page_ask_call s n word).state n) []
    asking_keeps order = by_test (tried.answer == negated E_IPC_NOT_RECV) (tried.answer == 0) refl refl
      where
        by_test : (t u : Bool) → (tried.answer == negated E_IPC_NOT_RECV) ≡ t → (tried.answer == 0) ≡ u →
            let x = if t then next.Wait (step.Spawning pausing) else if not u then goes_on (refused tried.answer) else shows awaiting in
            KeepsStanding (seen_as x) n s (settled SERVICE_SPAWN x (page_ask_call s n word).state n) []
        by_test true u vain zero =
            spawn_waiting_keeps s n path argv from pausing awaiting word stands keeps by waits_on goes asking
            (answer_is (negated E_IPC_NOT_RECV) (grind (arith, nat_tests, vain)))
        by_test false true off zero =
            spawn_asked_keeps s n path argv from pausing awaiting word stands keeps by waits_on goes asking order
            (answer_is 0 (grind (arith, nat_tests, zero)))
        by_test false false off some =
            spawn_lacking_keeps s n path argv from pausing awaiting word stands keeps by waits_on goes asking (refused tried.answer) tried.answer
            tried.gives (λ is. absurd (grind (arith, nat_tests, is, some))) (λ is. absurd (grind (arith, nat_tests, is, off)))

    pub spawn_asking_holds : ServiceHolds s n (staged (service.Spawn path argv) (request_asked word) (λ w. next_by pausing awaiting (refused w) w))
    spawn_asking_holds =
        law_of_call s n asking_plan call (step.Spawning from) asking_at SYS_IPC_TRY_SEND (FIRST_ENV_ID ∷ word ∷ UTEMP ∷ request_perm ∷ 0 ∷ []) refl refl
        (record { live = tried.live; registers = tried.registers; written = tried.written })
        (answered_keeps s n asking_plan (page_ask_call s n word) tried asking_keeps)

  -- ---- it gives up its turn

  pub spawn_pausing_holds : (to : SpawnStep) → spawn_pauses_at from ≡ true → most_left (step.Spawning to) < steps_left (step.Spawning from) →
      HidesFrom n path argv from to →
      ((v : View) (k : Slot) (b : Born) → StandsAtSpawn v k b path argv from →
      (b.blocked ≡ false) × StandsAtSpawn v (woken k to) b path argv to) →
      ServiceHolds s n (staged (service.Spawn path argv) (ask.System SYS_YIELD no_args) (λ word. goes_on to))
  spawn_pausing_holds to pauses low hides goes =
      law_of_pause s n call (step.Spawning from) (step.Spawning to) SERVICE_SPAWN no_args stands live refl pauses low
      (spawn_pausing_keeps s n path argv from to stands hides goes)

  -- ---- it waits

  module _ (steady : spawn_pauses_at from ≡ false)
      (has : (v : View) (k : Slot) (b : Born) → StandsAtSpawn v k b path argv from → SpawnHasAsked v k b path argv from)
      (bearing : KeepsBearing from (behind_asked from))
      (held : holds_page (spawns_at path argv from) ≡ holds_page (spawns_at path argv (behind_asked from))) where
    abbrev waiting_plan : ℕ → Plan
    waiting_plan va = staged call (reply_asked_at va) (λ word. shows (behind_asked from))

    waiting_at : IsAt s n (waiting_plan (destination_of from)) call (step.Spawning from)
    waiting_at = record {
      stands = stands;
      live = live;
      numbered = refl;
      plain = plainly refl;
      goes_on = steady;
      falls = λ called. tt;
      few = omega arith;
    }

    pub spawn_awaiting_holds : (va : ℕ) → va ≡ destination_of from →
        ServiceHolds s n (staged (service.Spawn path argv) (reply_asked_at va) (λ word. shows (behind_asked from)))
    spawn_awaiting_holds va same =
        let args = destination_of from ∷ FIRST_ENV_ID ∷ 0 ∷ 0 ∷ 0 ∷ [] in
        let lives = recv_lives s n (destination_of from) FIRST_ENV_ID (0 ∷ 0 ∷ 0 ∷ []) live in
        subst (λ (place : ℕ). ServiceHolds s n (waiting_plan place)) (sym same)
        (law_of_call s n (waiting_plan (destination_of from)) call (step.Spawning from) waiting_at SYS_IPC_RECV args refl refl lives
        (λ order. shown_keeps s n SYS_IPC_RECV args (waiting_plan (destination_of from)) (step.Spawning (behind_asked from)) lives (λ called. refl)
        (spawn_awaiting_keeps s n path argv from stands has bearing held)))
