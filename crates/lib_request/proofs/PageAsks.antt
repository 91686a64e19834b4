-- The law of a service whose page tells its request: it asks the server with that page, waits for the reply, gives the page back, and answers
-- the word that it reads in the record of its own slot.
use Rattle.std.proofs.Common.{◌≡◌, ◌∙◌, ◌==◌, ◌||◌, ◌<◌, ℕ, Bool, true, false, not, [], ◌∷◌, refl, sym, ap, subst, arith, if◌then◌else◌}
use Rattle.std.proofs.lemmas.Bool.{false≢true}
use Rattle.std.proofs.lemmas.Bool.Decides.{nat_tests}
use Rattle.jos_base.specs.declared.called.Called.{Called}
use Rattle.jos_base.specs.declared.called.Called.TheVariants.{Answered}
use Rattle.jos_base.specs.declared.numbers.TheConstants.{E_IPC_NOT_RECV, FIRST_ENV_ID, SYS_GETENVID, SYS_IPC_RECV, SYS_IPC_TRY_SEND}
use Rattle.jos_base.specs.declared.numbers.TheConstants.{SYS_PAGE_UNMAP, SYS_YIELD, UTEMP, UTOP}
use Rattle.jos_base.specs.Environments.{is_live, is_runnable, is_running}
use Rattle.jos_base.specs.KernelState.{KernelState, slot_at, with_extra}
use Rattle.jos_base.specs.Words.{negated}
use Rattle.lib_os.specs.declared.place.Place.TheVariants as place
use Rattle.lib_os.specs.declared.place.Step.{Step}
use Rattle.lib_os.specs.declared.place.Step.TheVariants as step
use Rattle.lib_os.specs.declared.progress.Progress.TheVariants as progress
use Rattle.lib_os.specs.declared.service.Service.{Service}
use Rattle.lib_os.specs.declared.service.Service.TheVariants as service
use Rattle.lib_os.specs.AbstractState.{AbstractState}
use Rattle.lib_os.specs.Answers.{answered}
use Rattle.lib_os.specs.FileServer.{await_reply}
use Rattle.lib_os.specs.InOrder.{IsInOrder}
use Rattle.lib_os.specs.LibrarySteps.{AbstractFollows, KeepsStanding, asking_step, is_pausing, request_perm, service_answered, steps_left}
use Rattle.lib_os.specs.Places.{place_of, words_at}
use Rattle.lib_os.specs.Rows.{Names}
use Rattle.lib_os.specs.StandsFor.{HasAsked, HasReply, StandsFor, borne_in, view_of}
use Rattle.lib_os.specs.UserCalls.{CallStep, answer_of, got, load, system}
use Rattle.lib_os.proofs.Calls.{getenvid_is}
use Rattle.lib_os.proofs.Loading.{loaded}
use Rattle.lib_os.proofs.Numbered.{named_at, number_of}
use Rattle.lib_os.proofs.PageAnswered.{page_reply_stands, page_reply_step}
use Rattle.lib_os.proofs.PageAsked.{identified_keeps, page_ask_call, page_asked_keeps, page_asking_answered, page_asking_copies, page_asking_server}
use Rattle.lib_os.proofs.PageAsked.{page_lacking_keeps, page_pausing_keeps, page_waiting_keeps}
use Rattle.lib_os.proofs.PageAwaited.{page_awaiting_stands, page_awaiting_step}
use Rattle.lib_os.proofs.PageCleared.{clearing_keeps}
use Rattle.lib_os.proofs.PageGiven.{give_is, give_lives}
use Rattle.lib_os.proofs.PipesStand.{is_calm}
use Rattle.lib_os.proofs.ReplyRead.{reply_load}
use Rattle.lib_os.proofs.AskedPlaces.{asked_step, awaiting_step}
use Rattle.lib_os.proofs.RequestPages.{asked_there, asks_with_page, brings_page, identifying_step, pausing_step, put_there, replied_there}
use Rattle.lib_os.proofs.RequestPages.{request_frames, request_held, request_unborne, request_unheld, word_asked}
use Rattle.lib_os.proofs.Serving.{holds_page, printed_nothing, served}
use Rattle.lib_os.proofs.SlotsStand.{born_live}
use Rattle.lib_os.proofs.Trying.{IsAnswered, LivesOn, recv_lives}
use Rattle.lib_os.proofs.WindowWords.{read_at}
use Rattle.lib_stage.specs.declared.ask.Ask.TheVariants as ask
use Rattle.lib_stage.specs.declared.ask.Next.TheVariants as next
use Rattle.lib_stage.specs.Asks.{no_args, performed}
use Rattle.lib_stage.specs.Nexts.{seen_as, settled}
use Rattle.lib_stage.specs.ServiceSteps.{Plan, ServiceHolds}
use Rattle.lib_stage.proofs.Laws.{Falls, IsAt, most_left, IsPlain, KeepsBy, answered_keeps, kept_so, law_of_call, law_of_load, law_of_pause, plainly}
use Rattle.lib_stage.proofs.Laws.{shown_keeps}
use Rattle.lib_file.proofs.Finds.{is_steady, pauses, staged}
use Rattle.lib_request.specs.PageRequests.{clearing_asked, next_by, reply_asked, request_asked}
use Rattle.lib_request.specs.Replies.{reply_place}

-- ---- the services

remove_steady : (path : ℕ) (at : Step) → pauses at ≡ false → is_pausing (place.InService (service.Remove path) at) ≡ false
remove_steady path (step.Pausing id) none = absurd (false≢true (sym none))
remove_steady path _ none = refl

-- none of their steps but the one that pauses gives up its turn
pub steady : (call : Service) → asks_with_page call ≡ true → (at : Step) → pauses at ≡ false → is_pausing (place.InService call at) ≡ false
steady (service.Remove path) is at none = remove_steady path at none
steady (service.Seek fd offset) is at none = is_steady (service.Seek fd offset) fd refl at none
steady (service.SetSize fd size) is at none = is_steady (service.SetSize fd size) fd refl at none
steady (service.Write fd va len) is at none = is_steady (service.Write fd va len) fd refl at none
steady (service.Read fd va len) is at none = is_steady (service.Read fd va len) fd refl at none
steady (service.Stat fd va) is at none = is_steady (service.Stat fd va) fd refl at none
steady _ is at none = absurd (false≢true is)

pausing : (call : Service) → brings_page call ≡ true → (id fd : ℕ) → is_pausing (place.InService call (pausing_step call id fd)) ≡ true
pausing (service.OpenFile path mode) is id fd = refl
pausing (service.Remove path) is id fd = refl
pausing (service.Seek given offset) is id fd = refl
pausing (service.SetSize given size) is id fd = refl
pausing (service.Write given va len) is id fd = refl
pausing (service.Read given va len) is id fd = refl
pausing (service.Stat given va) is id fd = refl
pausing _ is id fd = absurd (false≢true is)

-- where it asks for its id, and where it asks the server, it does not
identifying_steady : (call : Service) → brings_page call ≡ true → (fd : ℕ) → is_pausing (place.InService call (identifying_step call fd)) ≡ false
identifying_steady (service.OpenFile path mode) is fd = refl
identifying_steady (service.Remove path) is fd = refl
identifying_steady (service.Seek given offset) is fd = refl
identifying_steady (service.SetSize given size) is fd = refl
identifying_steady (service.Write given va len) is fd = refl
identifying_steady (service.Read given va len) is fd = refl
identifying_steady (service.Stat given va) is fd = refl
identifying_steady _ is fd = absurd (false≢true is)

asking_steady : (call : Service) → brings_page call ≡ true → (id fd : ℕ) → is_pausing (place.InService call (asking_step call id fd)) ≡ false
asking_steady (service.OpenFile path mode) is id fd = refl
asking_steady (service.Remove path) is id fd = refl
asking_steady (service.Seek given offset) is id fd = refl
asking_steady (service.SetSize given size) is id fd = refl
asking_steady (service.Write given va len) is id fd = refl
asking_steady (service.Read given va len) is id fd = refl
asking_steady (service.Stat given va) is id fd = refl
asking_steady _ is id fd = absurd (false≢true is)

-- fewer steps are left where it asks
asking_fewer : (call : Service) → brings_page call ≡ true → (id fd : ℕ) →
    (most_left (asking_step call id fd) < steps_left (identifying_step call fd)) × (most_left (asking_step call id fd) < steps_left (pausing_step call id fd))
asking_fewer (service.OpenFile path mode) is id fd = (omega arith, omega arith)
asking_fewer (service.Remove path) is id fd = (omega arith, omega arith)
asking_fewer (service.Seek given offset) is id fd = (omega arith, omega arith)
asking_fewer (service.SetSize given size) is id fd = (omega arith, omega arith)
asking_fewer (service.Write given va len) is id fd = (omega arith, omega arith)
asking_fewer (service.Read given va len) is id fd = (omega arith, omega arith)
asking_fewer (service.Stat given va) is id fd = (omega arith, omega arith)
asking_fewer _ is id fd = absurd (false≢true is)

module _ (s : KernelState) (n : ℕ) (call : Service) (with_page : brings_page call ≡ true) (live : is_live (slot_at s n) ≡ true) where
  -- ---- it knows its id

  module _ (fd : ℕ) (stands : place_of (slot_at s n) ≡ place.InService call (identifying_step call fd)) where
    abbrev identifying : Plan
    identifying = staged call (ask.System SYS_GETENVID no_args) (λ own. next.GoOn (asking_step call own fd))

    identifying_at : IsAt s n identifying call (identifying_step call fd)
    identifying_at = record {
      stands = stands;
      live = live;
      numbered = refl;
      plain = plainly refl;
      goes_on = identifying_steady call with_page fd;
      falls = λ called. (asking_fewer call with_page (answer_of called) fd).0;
      few = omega arith;
    }

    pub identifying_holds : ServiceHolds s n (staged call (ask.System SYS_GETENVID no_args) (λ own. next.GoOn (asking_step call own fd)))
    identifying_holds =
        law_of_call s n identifying call (identifying_step call fd) identifying_at SYS_GETENVID no_args refl refl
        (subst (λ (z : CallStep Called). LivesOn z n (slot_at s n).registers) (sym (getenvid_is s n live no_args))
        (record { live = live; registers = refl; written = refl }))
        (λ order. subst (λ (z : CallStep Called). KeepsBy s n identifying z) (sym (getenvid_is s n live no_args))
        (identified_keeps s n fd call with_page stands))

  -- ---- it asks

  module _ (id fd : ℕ) (stands : place_of (slot_at s n) ≡ place.InService call (asking_step call id fd)) where
    abbrev code : ℕ
    code = word_asked call

    abbrev asking : Plan
    asking = staged call (request_asked (word_asked call)) (next_by (pausing_step call id fd) (asked_step call id fd))

    tried : IsAnswered (page_ask_call s n code) n (slot_at s n).registers
    tried = page_asking_answered s n code live

    -- what it was answered
    answer_is : (word : ℕ) → tried.answer ≡ word → (page_ask_call s n code).gives ≡ got (Answered word)
    answer_is word is = tried.gives ∙ ap (λ (w : ℕ). got (Answered w)) is

    asking_falls : (word : ℕ) → Falls call (asking_step call id fd) (next_by (pausing_step call id fd) (asked_step call id fd) word)
    asking_falls word = by_test (word == negated E_IPC_NOT_RECV) (word == 0)
      where
        by_test : (t u : Bool) →
            Falls call (asking_step call id fd) (if t then next.Wait (pausing_step call id fd) else if not u then next.Answer word else next.Show (asked_step call id fd))
        by_test true u = pausing call with_page id fd
        by_test false true = tt
        by_test false false = tt

    -- the server has the word of the request and its page, or is left alone
    asks_so : IsPlain s n asking.asks
    unfolding performed
    asks_so = kept_so refl (page_asking_copies s n id fd call with_page stands) (page_asking_server s n id fd call with_page stands)

    asking_at : IsAt s n asking call (asking_step call id fd)
    asking_at = record {
      stands = stands;
      live = live;
      numbered = refl;
      plain = asks_so;
      goes_on = asking_steady call with_page id fd;
      falls = λ called. asking_falls (answer_of called);
      few = let frames = request_frames call with_page id fd in omega (arith, frames);
    }

    asking_keeps : IsInOrder (page_ask_call s n code).state →
        let x = next_by (pausing_step call id fd) (asked_step call id fd) tried.answer in KeepsStanding (seen_as x) n s (settled (number_of call) x (page_ask_call s n code).state n) []
    asking_keeps order = by_test (tried.answer == negated E_IPC_NOT_RECV) (tried.answer == 0) refl refl
      where
        by_test : (t u : Bool) → (tried.answer == negated E_IPC_NOT_RECV) ≡ t → (tried.answer == 0) ≡ u →
            let x = if t then next.Wait (pausing_step call id fd) else if not u then next.Answer tried.answer else next.Show (asked_step call id fd) in
            KeepsStanding (seen_as x) n s (settled (number_of call) x (page_ask_call s n code).state n) []
        by_test true u vain zero =
            page_waiting_keeps s n id fd call with_page stands (answer_is (negated E_IPC_NOT_RECV) (grind (arith, nat_tests, vain)))
        by_test false true off zero = page_asked_keeps s n id fd call with_page stands order (answer_is 0 (grind (arith, nat_tests, zero)))
        by_test false false off some =
            page_lacking_keeps s n id fd call with_page stands tried.answer tried.gives (λ is. absurd (grind (arith, nat_tests, is, some)))
            (λ is. absurd (grind (arith, nat_tests, is, off)))

    pub asking_holds : ServiceHolds s n (staged call (request_asked (word_asked call)) (next_by (pausing_step call id fd) (asked_step call id fd)))
    asking_holds =
        law_of_call s n asking call (asking_step call id fd) asking_at SYS_IPC_TRY_SEND
        (FIRST_ENV_ID ∷ code ∷ UTEMP ∷ request_perm ∷ 0 ∷ []) refl refl
        (record { live = tried.live; registers = tried.registers; written = tried.written })
        (answered_keeps s n asking (page_ask_call s n code) tried asking_keeps)

  -- ---- it gives up its turn

  pub pausing_holds : (id fd : ℕ) → place_of (slot_at s n) ≡ place.InService call (pausing_step call id fd) →
      ServiceHolds s n (staged call (ask.System SYS_YIELD no_args) (λ word. next.GoOn (asking_step call id fd)))
  pausing_holds id fd stands =
      law_of_pause s n call (pausing_step call id fd) (asking_step call id fd) (number_of call) no_args stands live refl (pausing call with_page id fd)
      (asking_fewer call with_page id fd).1 (page_pausing_keeps s n id fd call with_page stands)

module _ (s : KernelState) (n : ℕ) (call : Service) (with_page : asks_with_page call ≡ true) (live : is_live (slot_at s n) ≡ true) where
  -- ---- it waits

  module _ (id : ℕ) (stands : place_of (slot_at s n) ≡ place.InService call (step.Awaiting id)) where
    abbrev awaiting : Plan
    awaiting = staged call reply_asked (λ word. next.Show (awaiting_step call id 0))

    awaiting_keeps :
        KeepsStanding progress.Visible n s
        (with_extra (system s n SYS_IPC_RECV (UTOP ∷ FIRST_ENV_ID ∷ 0 ∷ 0 ∷ 0 ∷ [])).state n (words_at (number_of call) (awaiting_step call id 0))) []
    awaiting_keeps a h turn quiet =
        let v = served h.1 n call (step.Awaiting id) stands in
        let at : (id ≡ (slot_at s n).id) × HasAsked (slot_at s n) v.b call =
        asked_there (view_of s.spaces (slot_at s n).directory) (slot_at s n) v.b call with_page id v.at in
        let unborne = ap borne_in v.place ∙ request_unborne call with_page (step.Awaiting id) in
        let holds = ap holds_page v.place ∙ request_held call with_page (step.Awaiting id) refl in
        let calm : is_calm (place_of (slot_at s n)) ≡ true = ap is_calm v.place in (
          await_reply a n v.b call,
          page_awaiting_step h.1 n v.b v.is v.outside unborne holds calm call with_page at.1,
          printed_nothing a,
          (
            h.0,
            page_awaiting_stands h.1 n v.b v.is v.outside unborne holds calm call with_page id (0 ∷ 0 ∷ 0 ∷ []) at.0 at.1
                (put_there (view_of s.spaces (slot_at s n).directory) (slot_at s n) v.b call with_page id v.at)
                (named_at (slot_at s n) call (step.Awaiting id) stands),
          ),
        )

    awaiting_at : IsAt s n awaiting call (step.Awaiting id)
    awaiting_at = record {
      stands = stands;
      live = live;
      numbered = refl;
      plain = plainly refl;
      goes_on = steady call with_page (step.Awaiting id) refl;
      falls = λ called. tt;
      few = omega arith;
    }

    pub awaiting_holds : ServiceHolds s n (staged call reply_asked (λ word. next.Show (awaiting_step call id 0)))
    awaiting_holds =
        let args = UTOP ∷ FIRST_ENV_ID ∷ 0 ∷ 0 ∷ 0 ∷ [] in
        let lives = recv_lives s n UTOP FIRST_ENV_ID (0 ∷ 0 ∷ 0 ∷ []) live in
        law_of_call s n awaiting call (step.Awaiting id) awaiting_at SYS_IPC_RECV args refl refl lives
        (λ order. shown_keeps s n SYS_IPC_RECV args awaiting (awaiting_step call id 0) lives (λ called. refl) awaiting_keeps)

  -- ---- the reply has come: its page is given back

  module _ (awake : (is_runnable (slot_at s n).status || is_running (slot_at s n).status) ≡ true) (id : ℕ)
      (stands : place_of (slot_at s n) ≡ place.InService call (step.Clearing id)) where
    abbrev clearing : Plan
    clearing = staged call clearing_asked (λ word. next.GoOn (step.ReadingReply id))

    clearing_at : IsAt s n clearing call (step.Clearing id)
    clearing_at = record {
      stands = stands;
      live = live;
      numbered = refl;
      plain = plainly refl;
      goes_on = steady call with_page (step.Clearing id) refl;
      falls = λ called. omega arith;
      few = omega arith;
    }

    pub clearing_holds : ServiceHolds s n (staged call clearing_asked (λ word. next.GoOn (step.ReadingReply id)))
    clearing_holds =
        law_of_call s n clearing call (step.Clearing id) clearing_at SYS_PAGE_UNMAP (0 ∷ UTEMP ∷ 0 ∷ 0 ∷ 0 ∷ []) refl refl
        (give_lives s n live)
        (subst (λ (z : CallStep Called). IsInOrder z.state → KeepsBy s n clearing z) (sym (give_is s n live))
        (λ order. clearing_keeps s n id call with_page stands awake order))

  -- ---- and its word is answered

  module _ (id : ℕ) (stands : place_of (slot_at s n) ≡ place.InService call (step.ReadingReply id)) where
    abbrev value : ℕ
    value = (slot_at s n).rendezvous.value

    abbrev reading : Plan
    reading = staged call (ask.Load (reply_place id)) (λ word. next.Answer word)

    reading_at : IsAt s n reading call (step.ReadingReply id)
    reading_at = record {
      stands = stands;
      live = live;
      numbered = refl;
      plain = plainly refl;
      goes_on = steady call with_page (step.ReadingReply id) refl;
      falls = λ called. tt;
      few = omega arith;
    }

    reply_there : (names : Names) (a : AbstractState) → StandsFor names s a → load s n (reply_place id) ≡ read_at s n (reply_place id) value
    reply_there names a h =
        let v = served h n call (step.ReadingReply id) stands in
        let at : (id ≡ (slot_at s n).id) × HasReply (slot_at s n) v.b call =
        replied_there (view_of s.spaces (slot_at s n).directory) (slot_at s n) v.b call with_page id v.at in
        reply_load s n id (h.tabled.ids n (born_live v.own)) at.0 at.1.small

    reply_follows : (names : Names) (a : AbstractState) → StandsFor names s a → IsInOrder (loaded s n (reply_place id)) →
        AbstractFollows progress.Finished n (service_answered (loaded s n (reply_place id)) n value) a []
    reply_follows names a h order =
        let v = served h n call (step.ReadingReply id) stands in
        let at : (id ≡ (slot_at s n).id) × HasReply (slot_at s n) v.b call =
        replied_there (view_of s.spaces (slot_at s n).directory) (slot_at s n) v.b call with_page id v.at in
        let unborne = ap borne_in v.place ∙ request_unborne call with_page (step.ReadingReply id) in
        let holds = ap holds_page v.place ∙ request_unheld call with_page id in
        let calm : is_calm (place_of (slot_at s n)) ≡ true = ap is_calm v.place in (
          answered a n v.b at.1.regs value,
          page_reply_step h n v.b v.is v.outside unborne holds calm call with_page at.1,
          printed_nothing a,
          (
            names,
            page_reply_stands h n v.b v.is v.outside unborne holds calm call with_page at.1 (reply_place id) order,
          ),
        )

    pub reading_holds : ServiceHolds s n (staged call (ask.Load (reply_place id)) (λ word. next.Answer word))
    reading_holds =
        law_of_load s n reading call (step.ReadingReply id) reading_at (reply_place id) refl
        (λ names a h. (record { word = value; is = reply_there names a h }, reply_follows names a h))
