-- One that has asked the file server begins to wait for the reply, and then answers the word that came, which it reads in the record of its
-- own slot.
use Rattle.std.proofs.Common.{◌≡◌, ◌∙◌, ◌+◌, ◌*◌, ◌%◌, ◌^◌, ◌<◌, ◌||◌, ℕ, Bool, true, false, List, [], ◌∷◌, Some, None, get_or}
use Rattle.std.proofs.Common.{refl, sym, ap, subst, arith}
use Rattle.jos_base.specs.declared.called.Called.{Called}
use Rattle.jos_base.specs.declared.called.Called.TheVariants.{Blocked}
use Rattle.jos_base.specs.declared.environment.Status.{Status}
use Rattle.jos_base.specs.declared.environment.Status.TheVariants.{NotRunnable, Runnable, Running}
use Rattle.jos_base.specs.declared.memory.Access.TheVariants.{Read}
use Rattle.jos_base.specs.declared.numbers.TheConstants.{ENV_IPC_VALUE, ENV_SIZE, FIRST_ENV_ID, NENV, SYS_IPC_RECV, UENVS, UTOP}
use Rattle.jos_base.specs.declared.registers.Regs.{Regs}
use Rattle.jos_base.specs.Environments.{Slot, is_live, is_runnable, is_running, record_words}
use Rattle.jos_base.specs.KernelState.{KernelState, slot_at, with_extra, with_slot_at}
use Rattle.jos_base.specs.Messages.{wanting}
use Rattle.jos_base.specs.SpacesState.{SpacesState}
use Rattle.lib_os.specs.declared.numbers.TheConstants.{SERVICE_SYNC}
use Rattle.lib_os.specs.declared.place.Place.{Place}
use Rattle.lib_os.specs.declared.place.Place.TheVariants as place
use Rattle.lib_os.specs.declared.place.Step.TheVariants as step
use Rattle.lib_os.specs.declared.service.Service.{Service}
use Rattle.lib_os.specs.declared.service.Service.TheVariants as service
use Rattle.lib_os.specs.AbstractRun.{abs_step}
use Rattle.lib_os.specs.AbstractState.{AbstractState, Born, born, asked, awaiting, replied, in_service}
use Rattle.lib_os.specs.Answers.{answered}
use Rattle.lib_os.specs.FileServer.{await_reply}
use Rattle.lib_os.specs.InOrder.{IsInOrder}
use Rattle.lib_os.specs.LibraryCall.{library_step}
use Rattle.lib_os.specs.LibraryPages.{has_copy}
use Rattle.lib_os.specs.LibrarySteps.{service_answered, gone_back}
use Rattle.lib_os.specs.Places.{place_of, words_at, is_handlers}
use Rattle.lib_os.specs.Rows.{Names, rows_of}
use Rattle.lib_os.specs.Services.{service_of}
use Rattle.lib_os.specs.StandsFor.{StandsFor, StandsForBorn, StandsAt, IsStatusFor, HasAsked, IsAwaiting, HasReply, AwaitsOrHas, awaits}
use Rattle.lib_os.specs.StandsFor.{has_reply, view_of, upcall_at, borne_in}
use Rattle.lib_os.specs.UserCalls.{CallStep, got, load, system}
use Rattle.lib_os.proofs.Answering.{back_stands}
use Rattle.lib_os.proofs.Calls.{ipc_recv_is, waits_is}
use Rattle.lib_os.proofs.Loading.{loaded}
use Rattle.lib_os.proofs.Logical.{is_plain, unborne_plain}
use Rattle.lib_os.proofs.PipesStand.{calm_places, calm_unmade, descriptors_turned, is_calm}
use Rattle.lib_os.proofs.Serving.{service_step, holds_page, plain_upcall, plain_copy, plain_working, library_moved, kept_where, pages_kept}
use Rattle.lib_os.proofs.Slots.{words_put}
use Rattle.lib_os.proofs.SlotsStand.{born_at, born_live}
use Rattle.lib_os.proofs.StatesStand.{quiet_stands, slot_changed, stopped_settles}
use Rattle.lib_os.proofs.Touching.{touched_quiet}
use Rattle.lib_os.proofs.WindowWords.{read_at, load_record_word}
use Rattle.lib_os.proofs.WordsTell.{place_at, is_in_handler, handler_runs}

-- ---- it begins to wait

-- the slot of one that begins to wait for the server's word
abbrev pub awaiting_in_slot : Slot → ℕ → Slot
awaiting_in_slot k id = record k {
  rendezvous = wanting k.rendezvous UTOP FIRST_ENV_ID;
  status = NotRunnable;
  extra = words_at SERVICE_SYNC (step.ReadingReply id);
}

awaiting_place : (k : Slot) (id : ℕ) → is_handlers k.registers.esp ≡ false → service_of (record k.registers { eax = SERVICE_SYNC }) ≡ service.Sync →
    place_of (awaiting_in_slot k id) ≡ place.InService service.Sync (step.ReadingReply id)
awaiting_place k id outside names_it =
    place_at k.registers SERVICE_SYNC (step.ReadingReply id) outside ∙ ap (λ (x : Service). place.InService x (step.ReadingReply id)) names_it

-- the environment that waits
abbrev pub waiting : Born → Born
waiting b = record b { phase = in_service service.Sync awaiting; blocked = true }

awaiting_own : {names : Names} {s : SpacesState} {k : Slot} {b : Born} (id : ℕ) → StandsForBorn names s k b → is_handlers k.registers.esp ≡ false →
    holds_page (place_of k) ≡ kept_where false → is_calm (place_of k) ≡ true → id ≡ k.id → HasAsked k b service.Sync →
    service_of (record k.registers { eax = SERVICE_SYNC }) ≡ service.Sync → StandsForBorn names s (awaiting_in_slot k id) (waiting b)
awaiting_own {names = names} {s = s} {k = k} {b = b} id own outside holds calm self has names_it =
    let j : Slot = awaiting_in_slot k id in
    let at : place_of j ≡ place.InService service.Sync (step.ReadingReply id) = awaiting_place k id outside names_it in
    let plain : is_in_handler (place_of k) ≡ false = handler_runs k.registers k.extra ∙ outside in
    let so : IsAwaiting j (waiting b) service.Sync = record {
      program = has.program;
      phase = refl;
      blocked = refl;
      rendezvous = refl;
      wanted = refl;
      destination = refl;
    } in
    record {
      id = own.id;
      id_small = own.id_small;
      parent = own.parent;
      env_type = own.env_type;
      runs = tt;
      upcall = own.upcall ∙ plain_upcall (place_of k) plain ∙ sym (ap upcall_at at);
      descriptors = descriptors_turned names s k.directory (place_of k) (place_of j) b.descriptors calm (ap is_calm at) own.descriptors;
      memory = own.memory;
      library = library_moved (place_of k) (place_of j) k.extra j.extra (rows_of s k.directory) (plain_copy (place_of k) plain ∙ sym (ap has_copy at))
          (plain_working (place_of k) k.extra plain ∙ holds ∙ sym (ap (λ (p : Place). pages_kept p j.extra) at)) own.library;
      regions_have = own.regions_have;
      regions_only = own.regions_only;
      stack = own.stack;
      flags = own.flags;
      at = subst (λ (p : Place). StandsAt p (view_of s k.directory) j (waiting b)) (sym at) (self, awaits so);
    }

-- the call
awaiting_call : (s : KernelState) (n : ℕ) (rest : List ℕ) → is_live (slot_at s n) ≡ true →
    system s n SYS_IPC_RECV (UTOP ∷ FIRST_ENV_ID ∷ rest)
    ≡ record {
      state = with_slot_at s n (record (slot_at s n) { rendezvous = wanting (slot_at s n).rendezvous UTOP FIRST_ENV_ID; status = NotRunnable });
      gives = got Blocked;
      written = [];
    }
awaiting_call s n rest live =
    ipc_recv_is s n live UTOP FIRST_ENV_ID rest refl
    ∙ (λ i. record { state = waits_is s n (wanting (slot_at s n).rendezvous UTOP FIRST_ENV_ID) NotRunnable i; gives = got Blocked; written = [] })

module _ {names : Names} {s : KernelState} {a : AbstractState} (h : StandsFor names s a) (n : ℕ) (b : Born) (at : a.slots n ≡ born b)
    (outside : is_handlers (slot_at s n).registers.esp ≡ false) (unborne : borne_in (place_of (slot_at s n)) ≡ None)
    (holds : holds_page (place_of (slot_at s n)) ≡ kept_where false) (calm : is_calm (place_of (slot_at s n)) ≡ true) where
  -- its step
  pub awaiting_step : HasAsked (slot_at s n) b service.Sync → abs_step a n ≡ Some (await_reply a n b service.Sync)
  unfolding library_step
  awaiting_step has = service_step a n b (slot_at s n).registers service.Sync asked at has.program has.phase has.awake

  -- the state behind the call, with the words of the step after it
  pub awaiting_stands : (id : ℕ) (rest : List ℕ) → id ≡ (slot_at s n).id → HasAsked (slot_at s n) b service.Sync →
      service_of (record (slot_at s n).registers { eax = SERVICE_SYNC }) ≡ service.Sync →
      StandsFor names (with_extra (system s n SYS_IPC_RECV (UTOP ∷ FIRST_ENV_ID ∷ rest)).state n (words_at SERVICE_SYNC (step.ReadingReply id)))
      (await_reply a n b service.Sync)
  awaiting_stands id rest self has names_it =
      let words : List ℕ = words_at SERVICE_SYNC (step.ReadingReply id) in
      let k : Slot = record (slot_at s n) { rendezvous = wanting (slot_at s n).rendezvous UTOP FIRST_ENV_ID; status = NotRunnable } in
      let after : with_extra (system s n SYS_IPC_RECV (UTOP ∷ FIRST_ENV_ID ∷ rest)).state n words ≡ with_slot_at s n (record k { extra = words }) =
      ap (λ (x : CallStep Called). with_extra x.state n words) (awaiting_call s n rest (born_live (born_at h n b at)))
      ∙ words_put s n k words in
      subst (λ (x : KernelState). StandsFor names x (await_reply a n b service.Sync)) (sym after)
      (slot_changed h n b at (awaiting_in_slot (slot_at s n) id) (waiting b) refl
      (stopped_settles (slot_at s n) (awaiting_in_slot (slot_at s n) id) refl refl refl refl)
      (unborne_plain (place_of (slot_at s n)) (handler_runs (slot_at s n).registers (slot_at s n).extra ∙ outside) unborne
      (calm_unmade (place_of (slot_at s n)) calm))
      (ap is_plain (awaiting_place (slot_at s n) id outside names_it))
      (awaiting_own id (born_at h n b at) outside holds calm self has names_it)
      (calm_places calm (ap is_calm (awaiting_place (slot_at s n) id outside names_it))) (λ fd. refl))

-- ---- the reply

-- where the word of a reply stands: in the record of the environment's slot
abbrev pub reply_at : ℕ → ℕ
reply_at id = UENVS + ENV_SIZE * (id % NENV) + 4 * ENV_IPC_VALUE

value_word : (k : Slot) → get_or (record_words k) ENV_IPC_VALUE 0 ≡ k.rendezvous.value
unfolding record_words
value_word k = refl

-- it is read there
pub reply_load : (s : KernelState) (n id : ℕ) → (slot_at s n).id % NENV ≡ n → id ≡ (slot_at s n).id → (slot_at s n).rendezvous.value < 2 ^ 32 →
    load s n (reply_at id) ≡ read_at s n (reply_at id) (slot_at s n).rendezvous.value
reply_load s n id numbered self small =
    let own : id % NENV ≡ n = ap (λ (x : ℕ). x % NENV) self ∙ numbered in
    let slot : n < NENV = omega (arith, own) in
    let there : reply_at id ≡ UENVS + ENV_SIZE * n + 4 * ENV_IPC_VALUE = ap (λ (m : ℕ). UENVS + ENV_SIZE * m + 4 * ENV_IPC_VALUE) own in
    let at_slot = load_record_word s n n ENV_IPC_VALUE slot (omega arith) (subst (λ (w : ℕ). w < 2 ^ 32) (sym (value_word (slot_at s n))) small) in
    ap (λ (x : ℕ). load s n x) there ∙ at_slot ∙ (λ j. read_at s n (sym there j) (value_word (slot_at s n) j))

-- One that may run does not wait: the reply has come.
pub awake_reply : (k : Slot) (b : Born) (s : Service) → IsStatusFor k.status b.blocked → (is_runnable k.status || is_running k.status) ≡ true →
    AwaitsOrHas k b s → HasReply k b s
awake_reply k b s runs awake (has_reply h) = h
awake_reply k b s runs awake (awaits h) = absurd (never k.status b.blocked runs awake h.blocked)
  where
    never : (status : Status) (blocked : Bool) → IsStatusFor status blocked → (is_runnable status || is_running status) ≡ true → blocked ≡ true → ⊥
    never Runnable false r w e = let contradiction : false ≡ true = e in absurd cc
    never Running false r w e = let contradiction : false ≡ true = e in absurd cc
    never NotRunnable true r w e = let contradiction : false ≡ true = w in absurd cc
    never _ _ r w e = r

module _ {names : Names} {s : KernelState} {a : AbstractState} (h : StandsFor names s a) (n : ℕ) (b : Born) (at : a.slots n ≡ born b)
    (outside : is_handlers (slot_at s n).registers.esp ≡ false) (unborne : borne_in (place_of (slot_at s n)) ≡ None)
    (holds : holds_page (place_of (slot_at s n)) ≡ kept_where false) (calm : is_calm (place_of (slot_at s n)) ≡ true) (has : HasReply (slot_at s n) b service.Sync) where
  abbrev reply : ℕ
  reply = (slot_at s n).rendezvous.value

  -- its step
  pub reply_step : abs_step a n ≡ Some (answered a n b has.regs reply)
  unfolding library_step
  reply_step = service_step a n b has.regs service.Sync (replied [] reply) at has.program has.phase has.awake

  -- the state behind the load, when the word is answered
  pub reply_stands : (address : ℕ) → IsInOrder (loaded s n address) →
      StandsFor names (service_answered (loaded s n address) n reply) (answered a n b has.regs reply)
  reply_stands address order =
      let told : Regs = record has.regs { eax = reply } in
      let same : service_answered (loaded s n address) n reply ≡ gone_back (loaded s n address) n told =
      λ i. gone_back (loaded s n address) n (record (has.registers i) { eax = reply }) in
      let stack : told.esp ≡ (slot_at s n).registers.esp = sym (ap (λ (x : Regs). x.esp) has.registers) in
      let flags : told.eflags ≡ (slot_at s n).registers.eflags = sym (ap (λ (x : Regs). x.eflags) has.registers) in
      let still : StandsFor names (loaded s n address) a = quiet_stands h (touched_quiet s.spaces (slot_at s n).directory address Read) order in
      subst (λ (t : KernelState). StandsFor names t (answered a n b has.regs reply)) (sym same)
      (back_stands still n b at told unborne holds calm has.silent has.awake outside stack flags)
