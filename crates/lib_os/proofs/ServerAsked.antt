-- One who asks the file server that all is written to the disk: where the server waits, the word of the request comes to it, which is
-- seen; and where it does not, nothing is changed, and the one who asks gives up its turn and asks again.
use Rattle.std.proofs.Common.{◌≡◌, ◌≢◌, ◌∙◌, ◌⊎◌, inl, inr, ◌==◌, ◌&&◌, ◌||◌, ℕ, true, false, not, List, [], ◌∷◌, Ok, Some, None}
use Rattle.std.proofs.Common.{refl, sym, ap, subst, arith}
use Rattle.std.specs.Prelude.{is_none, is_some}
use Rattle.jos_base.specs.declared.called.Called.{Called}
use Rattle.jos_base.specs.declared.called.Called.TheVariants.{Answered}
use Rattle.jos_base.specs.declared.environment.Status.TheVariants.{Runnable}
use Rattle.jos_base.specs.declared.numbers.TheConstants.{E_IPC_NOT_RECV, FIRST_ENV_ID, SYS_IPC_TRY_SEND, UTOP}
use Rattle.jos_base.specs.Environments.{Slot, found, is_live as is_live_slot}
use Rattle.jos_base.specs.KernelState.{KernelState, slot_at, with_extra, with_slot_at, with_status}
use Rattle.jos_base.specs.SpacesState.{SpacesState}
use Rattle.jos_base.specs.Words.{negated}
use Rattle.fs_layout.specs.FileTree.{sync_files}
use Rattle.lib_os.specs.declared.numbers.TheConstants.{FSREQ_SYNC, SERVICE_SYNC, SHORT_QUANTUM}
use Rattle.lib_os.specs.declared.place.Place.{Place}
use Rattle.lib_os.specs.declared.place.Place.TheVariants as place
use Rattle.lib_os.specs.declared.place.Step.TheVariants as step
use Rattle.lib_os.specs.declared.progress.Progress.{Progress}
use Rattle.lib_os.specs.declared.progress.Progress.TheVariants as progress
use Rattle.lib_os.specs.declared.service.Service.{Service}
use Rattle.lib_os.specs.declared.service.Service.TheVariants as service
use Rattle.lib_os.specs.AbstractRun.{abs_step, may_wait, phase_may_wait, pipe_at, pipe_may_wait, slot_may_wait}
use Rattle.lib_os.specs.AbstractState.{AbstractSlot, AbstractState, Born, Phase, born, act, asked, entered, in_service}
use Rattle.lib_os.specs.AbstractState.{Server, leaving, idle, looking, busy, acted, is_idle}
use Rattle.lib_os.specs.Answers.{at_stage}
use Rattle.lib_os.specs.FileServer.{request_taken}
use Rattle.lib_os.specs.LibraryCall.{library_step}
use Rattle.lib_os.specs.LibrarySteps.{AbstractFollows, KeepsServer, KeepsStanding, Leaves, LeavesOrAsks, Stands, asked_it, left_alone, with_word}
use Rattle.lib_os.specs.Places.{place_of, words_at, is_handlers}
use Rattle.lib_os.specs.Rows.{Names, rows_of}
use Rattle.lib_os.specs.Services.{service_of}
use Rattle.lib_os.specs.InService.{IsIn}
use Rattle.lib_os.specs.StandsFor.{AwaitsRequest, HasAsked, HasServer, IsServerStatus, StandsAt, StandsFor, StandsForBorn, StandsForServer}
use Rattle.lib_os.specs.StandsFor.{borne_in, upcall_at, view_of}
use Rattle.lib_os.specs.UserCalls.{CallStep, Got, got, giving, system}
use Rattle.lib_os.proofs.PipesStand.{calm_places, descriptors_turned, is_calm}
use Rattle.lib_os.proofs.GoingOn.{in_with_words, words_stand}
use Rattle.lib_os.proofs.Logical.{is_plain}
use Rattle.lib_os.proofs.Numbered.{named_at}
use Rattle.lib_os.proofs.NumbersKept.{KeepsCopies, copies_kept}
use Rattle.lib_os.proofs.OthersCopies.{plain_wait}
use Rattle.lib_os.proofs.OthersKept.{system_stay}
use Rattle.lib_os.proofs.Sends.{found_where, not_waited_for, word_comes}
use Rattle.lib_os.proofs.ServerStands.{first_slot}
use Rattle.lib_os.proofs.Serving.{IsServed, holds_page, library_moved, plain_copy, plain_upcall, plain_working, printed_nothing, served, step_in, kept_where}
use Rattle.lib_os.proofs.Slots.{slot_kept}
use Rattle.lib_os.proofs.SlotsStand.{born_at, born_live}
use Rattle.lib_os.proofs.StatesStand.{born_not_first, server_set, slot_changed, status_stands, stopped_settles}
use Rattle.lib_os.proofs.StepsLeave.{Behind, behind, goes_on}
use Rattle.lib_os.proofs.Trying.{IsAnswered, try_send_answered}
use Rattle.lib_os.proofs.WordsTell.{handler_runs, is_in_handler, place_at}
use Rattle.jos_base.proofs.Maps.{upd-at}

-- ---- the call

abbrev pub ask_call : KernelState → ℕ → CallStep Called
ask_call s n = system s n SYS_IPC_TRY_SEND (FIRST_ENV_ID ∷ FSREQ_SYNC ∷ UTOP ∷ 0 ∷ 0 ∷ [])

-- the state in which the word has come to the server
abbrev pub server_asked : KernelState → ℕ → KernelState
server_asked s n = with_slot_at s 0 (with_word (slot_at s 0) (slot_at s n).id FSREQ_SYNC)

-- the abstract state in which the server has the request
abbrev pub with_request : AbstractState → ℕ → AbstractState
with_request a n = record a { server = busy n (act sync_files None) None }

-- The server waits, and the word comes to it; or it does not, and nothing is changed.
pub data AsksOrWaits (s : KernelState) (a : AbstractState) (n : ℕ) : Type 0 where
  asks : a.server ≡ idle → AwaitsRequest (slot_at s 0) → ask_call s n ≡ giving (server_asked s n) (Answered 0) → AsksOrWaits s a n
  waits : is_idle a.server ≡ false → ask_call s n ≡ giving s (Answered (negated E_IPC_NOT_RECV)) → AsksOrWaits s a n

module _ {names : Names} {s : KernelState} {a : AbstractState} (h : StandsFor names s a) (n : ℕ) (b : Born) (at : a.slots n ≡ born b)
    (silent : (slot_at s n).rendezvous.receiving ≡ false) where
  live : is_live_slot (slot_at s n) ≡ true
  live = born_live (born_at h n b at)

  named : found s.environments FIRST_ENV_ID n false ≡ Some 0
  named = found_where s.environments FIRST_ENV_ID n (λ e. omega (arith, e)) (first_slot h).lives (first_slot h).id_is

  pub asks_or_waits : AsksOrWaits s a n
  asks_or_waits = by_server a.server refl h.server.status
    where
      deaf : (server : Server) → a.server ≡ server → is_idle server ≡ false → (slot_at s 0).rendezvous.receiving ≡ false → AsksOrWaits s a n
      deaf server is not_idle silent_too =
          waits (ap is_idle is ∙ not_idle)
          (not_waited_for s n FIRST_ENV_ID FSREQ_SYNC UTOP 0 (0 ∷ []) live silent 0 named
          (λ i. silent_too i && (((slot_at s 0).rendezvous.wanted == 0) || ((slot_at s 0).rendezvous.wanted == (slot_at s n).id))))

      by_server : (server : Server) → a.server ≡ server → IsServerStatus server (slot_at s 0) → AsksOrWaits s a n
      by_server idle is so =
          asks is so
          (word_comes s n FIRST_ENV_ID FSREQ_SYNC UTOP 0 (0 ∷ []) live silent 0 named
          (λ i. so.receiving i && ((so.anybody i == 0) || (so.anybody i == (slot_at s n).id))) (omega arith))
      by_server leaving is so = deaf leaving is refl so.1
      by_server (looking client request place) is so = deaf (looking client request place) is refl so.1
      by_server (busy client request place) is so = deaf (busy client request place) is refl so.1
      by_server (acted client answer bytes object) is so = deaf (acted client answer bytes object) is refl so.1

-- ---- its step

module _ (a : AbstractState) (n : ℕ) (b : Born) (k : Slot) (at : a.slots n ≡ born b) (is_in : IsIn k b service.Sync entered) where
  asking_is : abs_step a n ≡ request_taken a n b service.Sync (act sync_files None) a.server
  unfolding library_step
  asking_is = step_in a n b k service.Sync entered at is_in

  pub asking_step : a.server ≡ idle → abs_step a n ≡ Some (at_stage (with_request a n) n b service.Sync asked)
  asking_step is = asking_is ∙ ap (λ (x : Server). request_taken a n b service.Sync (act sync_files None) x) is

  pub asking_waits : is_idle a.server ≡ false → abs_step a n ≡ None
  asking_waits not_idle = asking_is ∙ by_server a.server not_idle
    where
      by_server : (server : Server) → is_idle server ≡ false → request_taken a n b service.Sync (act sync_files None) server ≡ None
      by_server idle is = absurd (let contradiction : true ≡ false = is in cc)
      by_server leaving is = refl
      by_server (looking client request place) is = refl
      by_server (busy client request place) is = refl
      by_server (acted client answer bytes object) is = refl

-- It would have its step if the server were idle.
pub asking_may_wait : (a : AbstractState) (n : ℕ) (b : Born) (k : Slot) → a.slots n ≡ born b → IsIn k b service.Sync entered →
    is_idle a.server ≡ false → (quantum : ℕ) → may_wait a n quantum ≡ true
unfolding may_wait
asking_may_wait a n b k at is_in not_idle quantum =
    let none = asking_waits a n b k at is_in not_idle in
    let some = asking_step (record a { server = idle }) n b k at is_in refl in
    ap (λ (x : AbstractSlot). slot_may_wait a n x quantum) at
    ∙ ap (λ (x : Phase). phase_may_wait a n b x quantum) is_in.phase
    ∙ (λ i. (not (not_idle i) && is_none (none i) && is_some (some i)) || pipe_may_wait a n service.Sync (pipe_at a b None) quantum)

-- ---- it has asked

-- its own part
asked_own : {names : Names} {s : SpacesState} {k : Slot} {b : Born} (id : ℕ) → StandsForBorn names s k b →
    is_handlers k.registers.esp ≡ false → holds_page (place_of k) ≡ kept_where false → is_calm (place_of k) ≡ true → IsIn k b service.Sync entered → id ≡ k.id →
    service_of (record k.registers { eax = SERVICE_SYNC }) ≡ service.Sync →
    StandsForBorn names s (record k { extra = words_at SERVICE_SYNC (step.Awaiting id) }) (record b { phase = in_service service.Sync asked })
asked_own {names = names} {s = s} {k = k} {b = b} id own outside holds calm is_in self names_it =
    let j : Slot = record k { extra = words_at SERVICE_SYNC (step.Awaiting id) } in
    let c : Born = record b { phase = in_service service.Sync asked } in
    let there : place_of j ≡ place.InService service.Sync (step.Awaiting id) =
    place_at k.registers SERVICE_SYNC (step.Awaiting id) outside ∙ ap (λ (x : Service). place.InService x (step.Awaiting id)) names_it in
    let plain : is_in_handler (place_of k) ≡ false = handler_runs k.registers k.extra ∙ outside in
    let so : HasAsked j c service.Sync = record { program = is_in.program; phase = refl; silent = is_in.silent; awake = is_in.awake } in
    record {
      id = own.id;
      id_small = own.id_small;
      parent = own.parent;
      env_type = own.env_type;
      runs = own.runs;
      upcall = own.upcall ∙ plain_upcall (place_of k) plain ∙ sym (ap upcall_at there);
      descriptors = descriptors_turned names s k.directory (place_of k) (place_of j) b.descriptors calm (ap is_calm there) own.descriptors;
      memory = own.memory;
      library = library_moved (place_of k) (place_of j) k.extra j.extra (rows_of s k.directory)
          (plain_copy (place_of k) plain ∙ sym (plain_copy (place_of j) (ap is_in_handler there)))
          (plain_working (place_of k) k.extra plain ∙ holds ∙ sym (ap holds_page there)
          ∙ sym (plain_working (place_of j) j.extra (ap is_in_handler there))) own.library;
      regions_have = own.regions_have;
      regions_only = own.regions_only;
      stack = own.stack;
      flags = own.flags;
      at = subst (λ (p : Place). StandsAt p (view_of s k.directory) j c) (sym there) (self, so);
    }

module _ {names : Names} {s : KernelState} {a : AbstractState} (h : StandsFor names s a) (n id : ℕ)
    (v : IsServed names s a n service.Sync (step.Asking id)) where
  -- the server's slot
  abbrev told : Slot
  told = with_word (slot_at s 0) (slot_at s n).id FSREQ_SYNC

  told_stands : StandsForServer told FIRST_ENV_ID
  told_stands =
      let k = first_slot h in record {
        first = k.first;
        id_is = k.id_is;
        lives = refl;
        parent = k.parent;
        env_type = k.env_type;
        words = k.words;
        stack = k.stack;
      }

  told_has : HasServer s.spaces told a.opened a.files.blocks (with_request a n).server
  told_has = record { status = (tt, refl); pages = h.server.pages; tables = h.server.tables; alone = h.server.alone }

  -- the word has come to the server
  pub request_stands : StandsFor names (server_asked s n) (with_request a n)
  request_stands =
      server_set h told (with_request a n).server refl (stopped_settles (slot_at s 0) told refl refl refl refl) told_stands told_has

  other : n ≢ 0
  other same = born_not_first h n v.b v.is (sym same)

  kept : slot_at (server_asked s n) n ≡ slot_at s n
  kept = slot_kept s 0 told n other

  -- and who has asked stands where it will wait for the reply
  pub asking_stands : StandsFor names (with_extra (server_asked s n) n (words_at SERVICE_SYNC (step.Awaiting id)))
      (at_stage (with_request a n) n v.b service.Sync asked)
  asking_stands =
      let m : KernelState = server_asked s n in
      let k : Slot = slot_at m n in
      let outside : is_handlers k.registers.esp ≡ false = ap (λ (x : Slot). is_handlers x.registers.esp) kept ∙ v.outside in
      let place_is : place_of k ≡ place.InService service.Sync (step.Asking id) = ap (λ (x : Slot). place_of x) kept ∙ v.place in
      let names_it : service_of (record k.registers { eax = SERVICE_SYNC }) ≡ service.Sync = named_at k service.Sync (step.Asking id) place_is in
      let own = asked_own id (born_at request_stands n v.b v.is) outside (ap holds_page place_is) (ap is_calm place_is)
      (subst (λ (x : Slot). IsIn x v.b service.Sync entered) (sym kept) v.at.1) (v.at.0 ∙ sym (ap (λ (x : Slot). x.id) kept)) names_it in
      let j : Slot = record k { extra = words_at SERVICE_SYNC (step.Awaiting id) } in
      let there : place_of j ≡ place.InService service.Sync (step.Awaiting id) =
      place_at k.registers SERVICE_SYNC (step.Awaiting id) outside ∙ ap (λ (x : Service). place.InService x (step.Awaiting id)) names_it in
      slot_changed request_stands n v.b v.is j (record v.b { phase = in_service service.Sync asked }) refl
      (record { id = refl; env_type = refl; turns = refl; calm = λ runs. runs }) (ap is_plain place_is) (ap is_plain there) own
      (calm_places (ap is_calm place_is) (ap is_calm there)) (λ fd. refl)

-- ---- by its answer

abbrev pub word_in : Called → ℕ
word_in (Answered word) = word
word_in _ = 0

abbrev pub word_got : Got Called → ℕ
word_got (got called) = word_in called
word_got _ = 0

module _ (s : KernelState) (n id : ℕ) (stands : place_of (slot_at s n) ≡ place.InService service.Sync (step.Asking id)) where
  abbrev mid : KernelState
  mid = (ask_call s n).state

  outcome : {names : Names} {a : AbstractState} → StandsFor names s a → AsksOrWaits s a n
  outcome h = let v = served h n service.Sync (step.Asking id) stands in asks_or_waits h n v.b v.is v.at.1.silent

  gave : (after : KernelState) (w word : ℕ) → ask_call s n ≡ giving after (Answered w) → (ask_call s n).gives ≡ got (Answered word) → word ≡ w
  gave after w word is gives = ap (λ (x : Got Called). word_got x) (sym gives ∙ ap (λ (x : CallStep Called). x.gives) is)

  came_to : (after : KernelState) (w : ℕ) → ask_call s n ≡ giving after (Answered w) → mid ≡ after
  came_to after w is = ap (λ (x : CallStep Called). x.state) is

  -- there are two answers
  pub asking_answer : (a : AbstractState) → Stands s a → (word : ℕ) → (ask_call s n).gives ≡ got (Answered word) →
      (word ≡ 0) ⊎ (word ≡ negated E_IPC_NOT_RECV)
  asking_answer a h word gives = by_outcome (outcome h.1)
    where
      by_outcome : AsksOrWaits s a n → (word ≡ 0) ⊎ (word ≡ negated E_IPC_NOT_RECV)
      by_outcome (asks is so call_is) = inl (gave (server_asked s n) 0 word call_is gives)
      by_outcome (waits not_idle call_is) = inr (gave s (negated E_IPC_NOT_RECV) word call_is gives)

  -- the word has come
  pub asked_keeps : (ask_call s n).gives ≡ got (Answered 0) →
      KeepsStanding progress.Visible n s (with_extra mid n (words_at SERVICE_SYNC (step.Awaiting id))) []
  asked_keeps gives a h turn quiet = by_outcome (outcome h.1)
    where
      by_outcome : AsksOrWaits s a n → AbstractFollows progress.Visible n (with_extra mid n (words_at SERVICE_SYNC (step.Awaiting id))) a []
      by_outcome (waits not_idle call_is) =
          let same = gave s (negated E_IPC_NOT_RECV) 0 call_is gives in absurd (omega (arith, same))
      by_outcome (asks is so call_is) =
          let v = served h.1 n service.Sync (step.Asking id) stands in
          let end : AbstractState = at_stage (with_request a n) n v.b service.Sync asked in (
            end,
            asking_step a n v.b (slot_at s n) v.is v.at.1 is,
            printed_nothing a,
            (
              h.0,
              subst (λ (t : KernelState). StandsFor h.0 (with_extra t n (words_at SERVICE_SYNC (step.Awaiting id))) end)
                  (sym (came_to (server_asked s n) 0 call_is)) (asking_stands h.1 n id v),
            ),
          )

  -- the server does not wait
  pub waiting_keeps : (ask_call s n).gives ≡ got (Answered (negated E_IPC_NOT_RECV)) →
      KeepsStanding progress.Waited n s (with_extra mid n (words_at SERVICE_SYNC (step.Pausing id))) []
  waiting_keeps gives a h turn quiet = by_outcome (outcome h.1)
    where
      by_outcome : AsksOrWaits s a n → AbstractFollows progress.Waited n (with_extra mid n (words_at SERVICE_SYNC (step.Pausing id))) a []
      by_outcome (asks is so call_is) =
          let same = gave (server_asked s n) 0 (negated E_IPC_NOT_RECV) call_is gives in absurd (omega (arith, same))
      by_outcome (waits not_idle call_is) =
          let v = served h.1 n service.Sync (step.Asking id) stands in
          let words = words_at SERVICE_SYNC (step.Pausing id) in (
            (
              refl,
              (
                h.0,
                subst (λ (t : KernelState). StandsFor h.0 (with_extra t n words) a) (sym (came_to s (negated E_IPC_NOT_RECV) call_is))
                    (words_stand h.1 n SERVICE_SYNC v.b v.is v.own v.outside (ap borne_in v.place) (ap is_calm v.place) service.Sync
                    (step.Pausing id) (ap holds_page v.place) refl refl (named_at (slot_at s n) service.Sync (step.Asking id) stands)
                    (v.at.0, in_with_words words v.at.1)),
              ),
            ),
            asking_may_wait a n v.b (slot_at s n) v.is v.at.1 not_idle SHORT_QUANTUM,
          )

  -- ---- what is left

  -- the file server is asked, or left alone
  pub asking_server : KeepsServer n s mid
  asking_server then_so differs lives a h = by_outcome (outcome h.1)
    where
      by_outcome : AsksOrWaits s a n → LeavesOrAsks n s mid
      by_outcome (asks is so call_is) =
          subst (λ (t : KernelState). LeavesOrAsks n s t) (sym (came_to (server_asked s n) 0 call_is))
          (asked_it (record {
            by_service = service.Sync;
            id = id;
            fd = 0;
            at = stands;
            waited = so;
            brings = (upd-at s.environments.slots 0 (with_word (slot_at s 0) (slot_at s n).id FSREQ_SYNC), refl);
          }))
      by_outcome (waits not_idle call_is) =
          subst (λ (t : KernelState). LeavesOrAsks n s t) (sym (came_to s (negated E_IPC_NOT_RECV) call_is))
          (left_alone (record { slot = refl; entries = λ p. refl; regions = λ r. refl; pages = λ p e is lacks. refl }))

  -- no page passes
  pub asking_copies : KeepsCopies n s mid
  asking_copies =
      copies_kept s mid n (plain_wait s n SYS_IPC_TRY_SEND (FIRST_ENV_ID ∷ FSREQ_SYNC ∷ UTOP ∷ 0 ∷ 0 ∷ []) refl)

  pub asking_behind : Behind s n mid
  asking_behind =
      behind s n SYS_IPC_TRY_SEND (FIRST_ENV_ID ∷ FSREQ_SYNC ∷ UTOP ∷ 0 ∷ 0 ∷ []) refl
      (λ before after live a h. system_stay s n SYS_IPC_TRY_SEND (FIRST_ENV_ID ∷ FSREQ_SYNC ∷ UTOP ∷ 0 ∷ 0 ∷ []) refl) asking_copies asking_server

  -- with the words that tell how far it is
  pub asking_leaves : (words : List ℕ) (done : Progress) → Leaves (Ok done) n s (with_extra mid n words)
  asking_leaves words done = goes_on s mid (with_extra mid n words) n words done asking_behind refl

-- it is answered, and lives on
pub asking_answered : (s : KernelState) (n : ℕ) → is_live_slot (slot_at s n) ≡ true → IsAnswered (ask_call s n) n (slot_at s n).registers
asking_answered s n live = try_send_answered s n FIRST_ENV_ID FSREQ_SYNC UTOP 0 (0 ∷ []) live

-- ---- it gives up its turn

pub pausing_keeps : (s : KernelState) (n id : ℕ) → place_of (slot_at s n) ≡ place.InService service.Sync (step.Pausing id) →
    KeepsStanding progress.Hidden n s (with_extra (with_status s n Runnable) n (words_at SERVICE_SYNC (step.Asking id))) []
pausing_keeps s n id stands a h turn quiet =
    let v = served h.1 n service.Sync (step.Pausing id) stands in
    let ran = status_stands h.1 n v.b v.is v.at.1.awake in
    let w = words_at SERVICE_SYNC (step.Asking id) in
    let slot_is : slot_at (with_status s n Runnable) n ≡ record (slot_at s n) { status = Runnable } =
    upd-at s.environments.slots n (record (slot_at s n) { status = Runnable }) in
    let k : Slot = record (slot_at s n) { status = Runnable } in
    let in_it : IsIn k v.b service.Sync entered =
    record { program = v.at.1.program; phase = v.at.1.phase; silent = v.at.1.silent; awake = v.at.1.awake } in (
      refl,
      (
        h.0,
        words_stand ran n SERVICE_SYNC v.b v.is (born_at ran n v.b v.is)
            (ap (λ (x : Slot). is_handlers x.registers.esp) slot_is ∙ v.outside)
            (ap (λ (x : Slot). borne_in (place_of x)) slot_is ∙ ap borne_in v.place)
            (ap (λ (x : Slot). is_calm (place_of x)) slot_is ∙ ap is_calm v.place) service.Sync (step.Asking id)
            (ap (λ (x : Slot). holds_page (place_of x)) slot_is ∙ ap holds_page v.place) refl refl
            (subst (λ (x : Slot). service_of (record x.registers { eax = SERVICE_SYNC }) ≡ service.Sync) (sym slot_is)
            (named_at (slot_at s n) service.Sync (step.Pausing id) stands))
            (subst (λ (x : Slot). (id ≡ x.id) × IsIn (record x { extra = w }) v.b service.Sync entered) (sym slot_is)
            (v.at.0, in_with_words w in_it)),
      ),
    )
