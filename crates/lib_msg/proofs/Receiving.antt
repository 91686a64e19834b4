-- receive, when a message has come: its words are read in the record of the own slot, and told to the program.
use Rattle.std.proofs.Common.{◌≡◌, ◌∙◌, ◌+◌, ◌*◌, ◌%◌, ◌^◌, ◌<◌, ◌||◌, ℕ, Bool, true, false, List, [], Some, get_or}
use Rattle.std.proofs.Common.{refl, sym, ap, subst, arith}
use Rattle.jos_base.specs.declared.environment.Status.{Status}
use Rattle.jos_base.specs.declared.environment.Status.TheVariants.{Runnable, Running, NotRunnable}
use Rattle.jos_base.specs.declared.memory.Access.TheVariants.{Read}
use Rattle.jos_base.specs.declared.numbers.TheConstants.{ENV_IPC_FROM, ENV_IPC_PERM, ENV_IPC_VALUE, ENV_SIZE, ENV_WORDS, NENV, UENVS}
use Rattle.jos_base.specs.declared.registers.Regs.{Regs}
use Rattle.jos_base.specs.Environments.{Slot, is_runnable, is_running, record_words}
use Rattle.jos_base.specs.KernelState.{KernelState, slot_at, with_extra}
use Rattle.lib_os.specs.declared.numbers.TheConstants.{SERVICE_RECEIVE}
use Rattle.lib_os.specs.declared.place.Place.TheVariants as place
use Rattle.lib_os.specs.declared.place.Step.TheVariants as step
use Rattle.lib_os.specs.declared.progress.Progress.TheVariants as progress
use Rattle.lib_os.specs.declared.service.Service.TheVariants as service
use Rattle.lib_os.specs.AbstractMessages.{received_answer}
use Rattle.lib_os.specs.AbstractState.{AbstractState, Born, Message, received}
use Rattle.lib_os.specs.InOrder.{IsInOrder}
use Rattle.lib_os.specs.LibraryCall.{library_step}
use Rattle.lib_os.specs.LibrarySteps.{AbstractFollows, gone_back}
use Rattle.lib_os.specs.Places.{place_of, words_at}
use Rattle.lib_os.specs.Rows.{Names}
use Rattle.lib_os.specs.StandsFor.{StandsFor, IsStatusFor, HasReceived, WaitsOrHas, waits, has, kind_by, borne_in}
use Rattle.lib_os.specs.UserCalls.{load}
use Rattle.lib_os.proofs.Answering.{back_stands}
use Rattle.lib_os.proofs.GoingOn.{words_stand}
use Rattle.lib_os.proofs.Loading.{loaded}
use Rattle.lib_os.proofs.Numbered.{named_at}
use Rattle.lib_os.proofs.PipesStand.{is_calm}
use Rattle.lib_os.proofs.Serving.{holds_page, printed_nothing, served, service_step}
use Rattle.lib_os.proofs.SlotsStand.{born_at, born_live}
use Rattle.lib_os.proofs.StatesStand.{quiet_stands}
use Rattle.lib_os.proofs.Touching.{touched_quiet}
use Rattle.lib_os.proofs.WindowWords.{read_at, load_record_word}
use Rattle.lib_msg.specs.ReceiveStages.{record_word}

-- ---- the record

-- the words of a message in a record
value_word : (k : Slot) → get_or (record_words k) ENV_IPC_VALUE 0 ≡ k.rendezvous.value
unfolding record_words
value_word k = refl

sender_word : (k : Slot) → get_or (record_words k) ENV_IPC_FROM 0 ≡ k.rendezvous.sender
unfolding record_words
sender_word k = refl

perm_word : (k : Slot) → get_or (record_words k) ENV_IPC_PERM 0 ≡ k.rendezvous.perm
unfolding record_words
perm_word k = refl

-- a word of the record of the own slot
own_word : (s : KernelState) (n id i word : ℕ) → (slot_at s n).id % NENV ≡ n → id ≡ (slot_at s n).id →
    i < ENV_WORDS → get_or (record_words (slot_at s n)) i 0 ≡ word → word < 2 ^ 32 → load s n (record_word id i) ≡ read_at s n (record_word id i) word
own_word s n id i word numbered self short is small =
    let own : id % NENV ≡ n = ap (λ (x : ℕ). x % NENV) self ∙ numbered in
    let slot : n < NENV = omega (arith, own) in
    let there : record_word id i ≡ UENVS + ENV_SIZE * n + 4 * i = ap (λ (m : ℕ). UENVS + ENV_SIZE * m + 4 * i) own in
    let at_slot = load_record_word s n n i slot short (subst (λ (w : ℕ). w < 2 ^ 32) (sym is) small) in
    ap (λ (x : ℕ). load s n x) there ∙ at_slot
    ∙ (λ j. read_at s n (sym there j) (is j))

-- an environment that may run does not wait
awake_has : (k : Slot) (b : Born) (va from : ℕ) → IsStatusFor k.status b.blocked →
    (is_runnable k.status || is_running k.status) ≡ true → WaitsOrHas k b va from →
    HasReceived k b va from
awake_has k b va from runs awake (has h) = h
awake_has k b va from runs awake (waits h) = absurd (never k.status b.blocked runs awake h.blocked)
  where
    never : (status : Status) (blocked : Bool) → IsStatusFor status blocked → (is_runnable status || is_running status) ≡ true → blocked ≡ true → ⊥
    never Runnable false r w e = let contradiction : false ≡ true = e in absurd cc
    never Running false r w e = let contradiction : false ≡ true = e in absurd cc
    never NotRunnable true r w e = let contradiction : false ≡ true = w in absurd cc
    never _ _ r w e = r

with_words_received : {k : Slot} {b : Born} {va from : ℕ} (words : List ℕ) → HasReceived k b va from →
    HasReceived (record k { extra = words }) b va from
with_words_received words h = record {
  regs = h.regs;
  program = h.program;
  registers = h.registers;
  message = h.message;
  phase = h.phase;
  awake = h.awake;
  silent = h.silent;
  come = h.come;
}

module _ (s : KernelState) (n va from id : ℕ) where
  abbrev k : Slot
  k = slot_at s n

  still_stands : (address : ℕ) {names : Names} {a : AbstractState} → StandsFor names s a → IsInOrder (loaded s n address) → StandsFor names (loaded s n address) a
  still_stands address h order = quiet_stands h (touched_quiet s.spaces k.directory address Read) order

  -- ---- the word

  module _ (stands : place_of k ≡ place.InService (service.Receive va from) (step.ReadingValue id))
      (awake : (is_runnable k.status || is_running k.status) ≡ true)
      (names : Names) (a : AbstractState) (h : StandsFor names s a) where
    came : (b : Born) → IsStatusFor k.status b.blocked → (id ≡ k.id) × WaitsOrHas k b va from → HasReceived k b va from
    came b runs at = awake_has k b va from runs awake (at.1)

    pub value_there : load s n (record_word id ENV_IPC_VALUE) ≡ read_at s n (record_word id ENV_IPC_VALUE) k.rendezvous.value
    value_there =
        let v = served h n (service.Receive va from) (step.ReadingValue id) stands in
        let at : (id ≡ k.id) × WaitsOrHas k v.b va from = v.at in
        own_word s n id ENV_IPC_VALUE k.rendezvous.value (h.tabled.ids n (born_live v.own)) (at.0) (omega arith) (value_word k) (came v.b v.own.runs at).come.value_small

    pub value_follows : IsInOrder (loaded s n (record_word id ENV_IPC_VALUE)) →
        AbstractFollows progress.Hidden n (with_extra (loaded s n (record_word id ENV_IPC_VALUE)) n (words_at SERVICE_RECEIVE (step.ReadingSender id k.rendezvous.value))) a []
    value_follows order =
        let v = served h n (service.Receive va from) (step.ReadingValue id) stands in
        let at : (id ≡ k.id) × WaitsOrHas k v.b va from = v.at in
        let to = step.ReadingSender id k.rendezvous.value in
        let there = still_stands (record_word id ENV_IPC_VALUE) h order in (
          refl,
          (
            names,
            words_stand there n SERVICE_RECEIVE v.b v.is (born_at there n v.b v.is) v.outside (ap borne_in v.place) (ap is_calm v.place) (service.Receive va from) to (ap holds_page v.place) refl refl
                (named_at k (service.Receive va from) (step.ReadingValue id) stands)
                (at.0, refl, with_words_received (words_at SERVICE_RECEIVE to) (came v.b v.own.runs at)),
          ),
        )

  -- ---- the sender

  module _ (value : ℕ) (stands : place_of k ≡ place.InService (service.Receive va from) (step.ReadingSender id value))
      (names : Names) (a : AbstractState) (h : StandsFor names s a) where
    pub sender_there : load s n (record_word id ENV_IPC_FROM) ≡ read_at s n (record_word id ENV_IPC_FROM) k.rendezvous.sender
    sender_there =
        let v = served h n (service.Receive va from) (step.ReadingSender id value) stands in
        let at : (id ≡ k.id) × (value ≡ k.rendezvous.value) × HasReceived k v.b va from = v.at in
        own_word s n id ENV_IPC_FROM k.rendezvous.sender (h.tabled.ids n (born_live v.own)) (at.0) (omega arith) (sender_word k) at.2.come.sender_small

    pub sender_follows : IsInOrder (loaded s n (record_word id ENV_IPC_FROM)) →
        AbstractFollows progress.Hidden n (with_extra (loaded s n (record_word id ENV_IPC_FROM)) n (words_at SERVICE_RECEIVE (step.ReadingPerm id value k.rendezvous.sender))) a []
    sender_follows order =
        let v = served h n (service.Receive va from) (step.ReadingSender id value) stands in
        let at : (id ≡ k.id) × (value ≡ k.rendezvous.value) × HasReceived k v.b va from = v.at in
        let to = step.ReadingPerm id value k.rendezvous.sender in
        let there = still_stands (record_word id ENV_IPC_FROM) h order in (
          refl,
          (
            names,
            words_stand there n SERVICE_RECEIVE v.b v.is (born_at there n v.b v.is) v.outside (ap borne_in v.place) (ap is_calm v.place) (service.Receive va from) to (ap holds_page v.place) refl refl
                (named_at k (service.Receive va from) (step.ReadingSender id value) stands)
                (at.0, at.1, refl, with_words_received (words_at SERVICE_RECEIVE to) (at.2)),
          ),
        )

  -- ---- the page's bits, and the answer

  answer_step : (a : AbstractState) (b : Born) (regs : Regs) (m : Message) →
      library_step a n b regs (service.Receive va from) (received m) ≡ Some (received_answer a n b regs m)
  unfolding library_step
  answer_step a b regs m = refl

  module _ (value sender : ℕ) (stands : place_of k ≡ place.InService (service.Receive va from) (step.ReadingPerm id value sender))
      (names : Names) (a : AbstractState) (h : StandsFor names s a) where
    pub perm_there : load s n (record_word id ENV_IPC_PERM) ≡ read_at s n (record_word id ENV_IPC_PERM) k.rendezvous.perm
    perm_there =
        let v = served h n (service.Receive va from) (step.ReadingPerm id value sender) stands in
        let at : (id ≡ k.id) × (value ≡ k.rendezvous.value) × (sender ≡ k.rendezvous.sender) × HasReceived k v.b va from = v.at in
        let small = at.3.come.perm_small in
        own_word s n id ENV_IPC_PERM k.rendezvous.perm (h.tabled.ids n (born_live v.own)) (at.0) (omega arith) (perm_word k) (omega (arith, small))

    pub perm_follows : IsInOrder (loaded s n (record_word id ENV_IPC_PERM)) →
        AbstractFollows progress.Finished n
        (gone_back (loaded s n (record_word id ENV_IPC_PERM)) n (record k.registers { eax = 0; edx = sender; ecx = value; ebx = kind_by k.rendezvous.perm })) a []
    perm_follows order =
        let v = served h n (service.Receive va from) (step.ReadingPerm id value sender) stands in
        let at : (id ≡ k.id) × (value ≡ k.rendezvous.value) × (sender ≡ k.rendezvous.sender) × HasReceived k v.b va from = v.at in
        let it = at.3 in
        let come = it.come in
        let address = record_word id ENV_IPC_PERM in
        let told : Regs = record it.regs { eax = 0; edx = it.message.sender; ecx = it.message.value; ebx = it.message.page } in
        let value_is : value ≡ it.message.value = at.1 ∙ come.value in
        let sender_is : sender ≡ it.message.sender = at.2 ∙ come.sender in
        let state_is : gone_back (loaded s n address) n (record k.registers { eax = 0; edx = sender; ecx = value; ebx = kind_by k.rendezvous.perm })
        ≡ gone_back (loaded s n address) n told =
        λ i. gone_back (loaded s n address) n (record (it.registers i) { eax = 0; edx = sender_is i; ecx = value_is i; ebx = come.page i }) in
        let stack : told.esp ≡ k.registers.esp = sym (ap (λ (x : Regs). x.esp) it.registers) in
        let flags : told.eflags ≡ k.registers.eflags = sym (ap (λ (x : Regs). x.eflags) it.registers) in (
          received_answer a n v.b it.regs it.message,
          service_step a n v.b it.regs (service.Receive va from) (received it.message) v.is it.program it.phase it.awake
              ∙ answer_step a v.b it.regs it.message,
          printed_nothing a,
          (
            names,
            subst (λ (t : KernelState). StandsFor names t (received_answer a n v.b it.regs it.message)) (sym state_is)
                (back_stands (still_stands address h order) n v.b v.is told (ap borne_in v.place) (ap holds_page v.place) (ap is_calm v.place) it.silent it.awake v.outside stack flags),
          ),
        )
