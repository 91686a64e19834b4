-- Where the file server goes by a call of its own: whom it serves is told then as before, and which of its calls nobody ever sees.
use Rattle.std.proofs.Common.{◌≡◌, ◌∙◌, ◌==◌, ℕ, Bool, true, false, not, Option, Some, None, refl, sym, ap, if◌then◌else◌}
use Rattle.jos_base.specs.declared.numbers.TheConstants.{E_INVAL, E_MAX_OPEN}
use Rattle.jos_base.specs.Environments.{Slot}
use Rattle.jos_base.specs.Messages.{Rendezvous}
use Rattle.jos_base.specs.Words.{negated}
use Rattle.lib_os.specs.declared.progress.Progress.TheVariants as progress
use Rattle.lib_os.specs.declared.request.RequestKind.{RequestKind}
use Rattle.lib_os.specs.declared.request.RequestKind.TheVariants as kind
use Rattle.fs_jobs.specs.declared.place.Job.TheVariants as job
use Rattle.fs_requests.specs.declared.plan.ServerAsk.TheVariants as ask
use Rattle.fs_requests.specs.declared.plan.ServerNext.{ServerNext}
use Rattle.fs_requests.specs.declared.state.ServerState.{ServerState}
use Rattle.fs_requests.specs.declared.state.ServerStep.{ServerStep}
use Rattle.fs_requests.specs.declared.state.ServerStep.TheVariants as step
use Rattle.fs_requests.specs.ServerPlans.{acted, acting, ask_for, begun, call_for, count_by, further, hidden, is_held, is_last, next_check, next_for, next_holders, request_by, shown}
use Rattle.fs_seen.specs.ServerSees.{makes_call}
use Rattle.jos_run.specs.ServerStands.{client_id, serving_at}

-- ---- whom it serves

module _ (k : Slot) where
  abbrev st : ServerState
  st = serving_at k

  -- In the slot in which it goes on so, and which has the same message, the client is told as it was; where it has read who asks, by that word.
  abbrev pub KeepsClient : ServerStep → ℕ → ServerNext → Type 0
  KeepsClient x word next =
      (j : Slot) → (serving_at j).client ≡ next.state.client → j.rendezvous ≡ k.rendezvous →
      (x ≡ step.ReadingClient → word ≡ k.rendezvous.sender) → client_id next.state.step j ≡ client_id x k

  by_test : (t : Bool) (x : ServerStep) (word : ℕ) (y z : ServerNext) → KeepsClient x word y → KeepsClient x word z →
      KeepsClient x word (if t then y else z)
  by_test true x word y z one other = one
  by_test false x word y z one other = other

  asked_by : (o : Option RequestKind) (word : ℕ) → KeepsClient step.ReadingClient word (request_by o (record st { client = word; number = 0 }))
  asked_by None word j same meets told = same ∙ told refl
  asked_by (Some kind.Open) word j same meets told = same ∙ told refl
  asked_by (Some kind.SetSize) word j same meets told = same ∙ told refl
  asked_by (Some kind.Read) word j same meets told = same ∙ told refl
  asked_by (Some kind.Write) word j same meets told = same ∙ told refl
  asked_by (Some kind.Stat) word j same meets told = same ∙ told refl
  asked_by (Some kind.Remove) word j same meets told = same ∙ told refl
  asked_by (Some kind.Sync) word j same meets told = same ∙ told refl
  asked_by (Some kind.Seek) word j same meets told = same ∙ told refl
  asked_by (Some kind.ReadAt) word j same meets told = same ∙ told refl

  counted_by : (o : Option RequestKind) (word : ℕ) → KeepsClient step.ReadingCount word (count_by o st word)
  counted_by None word j same meets told = same
  counted_by (Some kind.Open) word j same meets told = same
  counted_by (Some kind.SetSize) word j same meets told = same
  counted_by (Some kind.Read) word j same meets told = same
  counted_by (Some kind.Write) word j same meets told = same
  counted_by (Some kind.Stat) word j same meets told = same
  counted_by (Some kind.Remove) word j same meets told = same
  counted_by (Some kind.Sync) word j same meets told = same
  counted_by (Some kind.Seek) word j same meets told = same
  counted_by (Some kind.ReadAt) word j same meets told = same

  held_by : (word : ℕ) → KeepsClient step.LookingHolders word (next_holders st word)
  held_by word =
      by_test (not (is_held word)) step.LookingHolders word (shown st step.ReadingMode)
      (if is_last st then acted st (negated E_MAX_OPEN) else shown (further st) step.LookingRecord) (λ j same meets told. same)
      (by_test (is_last st) step.LookingHolders word (acted st (negated E_MAX_OPEN)) (shown (further st) step.LookingRecord)
      (λ j same meets told. same) (λ j same meets told. same))

  checked_at : (x : ServerStep) → ((j : Slot) → client_id x k ≡ st.client) → (word : ℕ) → KeepsClient x word (next_check st)
  checked_at x own word =
      by_test (is_last st) x word (begun st step.Working (job.Remove st.home)) (hidden (further st) step.CheckingRecord)
      (λ j same meets told. same ∙ sym_own j) (λ j same meets told. same ∙ sym_own j)
    where
      sym_own : (j : Slot) → st.client ≡ client_id x k
      sym_own j = sym (own j)

  pub keeps_client : (x : ServerStep) (word : ℕ) → makes_call x ≡ true → KeepsClient x word (next_for st x word)
  keeps_client step.ReadingKind word is = λ j same meets told. ap (λ (r : Rendezvous). r.sender) meets
  keeps_client step.ReadingClient word is = asked_by st.kind word
  keeps_client step.ReadingFile word is = λ j same meets told. same
  keeps_client step.ReadingOffset word is = λ j same meets told. same
  keeps_client step.ReadingCount word is = counted_by st.kind word
  keeps_client step.ReadingRecord word is = λ j same meets told. same
  keeps_client step.LookingRecord word is =
      by_test (word == 0) step.LookingRecord word (shown st step.TakingPage) (hidden st step.LookingEntry) (λ j same meets told. same)
      (λ j same meets told. same)
  keeps_client step.LookingEntry word is = λ j same meets told. same
  keeps_client step.LookingHolders word is = held_by word
  keeps_client step.TakingPage word is =
      by_test (word == 0) step.TakingPage word (hidden st step.ReadingMode) (acting st word) (λ j same meets told. same) (λ j same meets told. same)
  keeps_client step.ReadingMode word is = λ j same meets told. same
  keeps_client step.StoringRecord word is = λ j same meets told. same
  keeps_client step.StoringDevice word is = λ j same meets told. same
  keeps_client step.ReadingModeAgain word is = λ j same meets told. same
  keeps_client step.StoringMode word is = λ j same meets told. same
  keeps_client step.StoringFile word is = λ j same meets told. same
  keeps_client step.ReadingRecordAgain word is = λ j same meets told. same
  keeps_client step.StoringSize word is = λ j same meets told. same
  keeps_client step.Advancing word is = λ j same meets told. same
  keeps_client step.StoringOffset word is = λ j same meets told. same
  keeps_client step.CheckingRecord word is =
      by_test (word == st.home) step.CheckingRecord word (hidden st step.CheckingEntry) (next_check st) (λ j same meets told. same)
      (checked_at step.CheckingRecord (λ j. refl) word)
  keeps_client step.CheckingEntry word is = λ j same meets told. same
  keeps_client step.CheckingHolders word is =
      by_test (is_held word) step.CheckingHolders word (acted st (negated E_INVAL)) (next_check st) (λ j same meets told. same)
      (checked_at step.CheckingHolders (λ j. refl) word)
  keeps_client step.Acting word is = λ j same meets told. same
  keeps_client step.Releasing word is = absurd (let contradiction : false ≡ true = is in cc)
  keeps_client step.Receiving word is = absurd (let contradiction : false ≡ true = is in cc)
  keeps_client step.Working word is = absurd (let contradiction : false ≡ true = is in cc)
  keeps_client step.Finding word is = absurd (let contradiction : false ≡ true = is in cc)
  keeps_client step.Sizing word is = absurd (let contradiction : false ≡ true = is in cc)
  keeps_client step.Flushing word is = absurd (let contradiction : false ≡ true = is in cc)
  keeps_client step.Replying word is = absurd (let contradiction : false ≡ true = is in cc)
  keeps_client step.Pausing word is = absurd (let contradiction : false ≡ true = is in cc)

-- ---- what it asks for

pub calls_it : (st : ServerState) (x : ServerStep) → makes_call x ≡ true → ask_for st x ≡ ask.Call (call_for st x)
calls_it st step.ReadingKind is = refl
calls_it st step.ReadingClient is = refl
calls_it st step.ReadingFile is = refl
calls_it st step.ReadingOffset is = refl
calls_it st step.ReadingCount is = refl
calls_it st step.ReadingRecord is = refl
calls_it st step.LookingRecord is = refl
calls_it st step.LookingEntry is = refl
calls_it st step.LookingHolders is = refl
calls_it st step.TakingPage is = refl
calls_it st step.ReadingMode is = refl
calls_it st step.StoringRecord is = refl
calls_it st step.StoringDevice is = refl
calls_it st step.ReadingModeAgain is = refl
calls_it st step.StoringMode is = refl
calls_it st step.StoringFile is = refl
calls_it st step.ReadingRecordAgain is = refl
calls_it st step.StoringSize is = refl
calls_it st step.Advancing is = refl
calls_it st step.StoringOffset is = refl
calls_it st step.CheckingRecord is = refl
calls_it st step.CheckingEntry is = refl
calls_it st step.CheckingHolders is = refl
calls_it st step.Acting is = refl
calls_it st step.Releasing is = refl
calls_it st step.Receiving is = refl
calls_it st step.Working is = absurd (let contradiction : false ≡ true = is in cc)
calls_it st step.Finding is = absurd (let contradiction : false ≡ true = is in cc)
calls_it st step.Sizing is = absurd (let contradiction : false ≡ true = is in cc)
calls_it st step.Flushing is = absurd (let contradiction : false ≡ true = is in cc)
calls_it st step.Replying is = refl
calls_it st step.Pausing is = refl

-- ---- what nobody sees

abbrev pub NobodySees : ServerNext → Type 0
NobodySees next = next.seen ≡ progress.Hidden

module _ (st : ServerState) where
  pub asked_unseen : (word : ℕ) → NobodySees (next_for st step.ReadingClient word)
  asked_unseen word = by_kind st.kind
    where
      by_kind : (o : Option RequestKind) → NobodySees (request_by o (record st { client = word; number = 0 }))
      by_kind None = refl
      by_kind (Some kind.Open) = refl
      by_kind (Some kind.SetSize) = refl
      by_kind (Some kind.Read) = refl
      by_kind (Some kind.Write) = refl
      by_kind (Some kind.Stat) = refl
      by_kind (Some kind.Remove) = refl
      by_kind (Some kind.Sync) = refl
      by_kind (Some kind.Seek) = refl
      by_kind (Some kind.ReadAt) = refl

  pub counted_unseen : (word : ℕ) → NobodySees (next_for st step.ReadingCount word)
  counted_unseen word = by_kind st.kind
    where
      by_kind : (o : Option RequestKind) → NobodySees (count_by o st word)
      by_kind None = refl
      by_kind (Some kind.Open) = refl
      by_kind (Some kind.SetSize) = refl
      by_kind (Some kind.Read) = refl
      by_kind (Some kind.Write) = refl
      by_kind (Some kind.Stat) = refl
      by_kind (Some kind.Remove) = refl
      by_kind (Some kind.Sync) = refl
      by_kind (Some kind.Seek) = refl
      by_kind (Some kind.ReadAt) = refl

  pub taken_unseen : (word : ℕ) → NobodySees (next_for st step.TakingPage word)
  taken_unseen word = by_test (word == 0)
    where
      by_test : (t : Bool) → NobodySees (if t then hidden st step.ReadingMode else acting st word)
      by_test true = refl
      by_test false = refl
