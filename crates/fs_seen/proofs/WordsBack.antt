-- The words of the server tell where it stands, those of the cache stay, and a job that begins has its own.
use Rattle.std.proofs.Common.{◌≡◌, ◌∙◌, ◌<◌, ◌/◌, ◌%◌, ℕ, List, [], ◌∷◌, length, drop, get_or, Option, Some, None}
use Rattle.std.proofs.Common.{refl, ap, arith}
use Rattle.jos_base.specs.declared.registers.Regs.{Regs}
use Rattle.lib_os.specs.declared.numbers.TheConstants.{MAXOPEN}
use Rattle.lib_os.specs.declared.request.RequestKind.{RequestKind}
use Rattle.lib_os.specs.declared.request.RequestKind.TheVariants as kind
use Rattle.lib_os.specs.Requests.{request_kind}
use Rattle.fs_jobs.specs.declared.place.Job.{Job}
use Rattle.fs_places.specs.TreePlaces as places
use Rattle.fs_places.proofs.TreeWords.{last_four, length_with, state_told}
use Rattle.fs_runs.specs.TreeRuns.{begun_with}
use Rattle.fs_requests.specs.declared.state.ServerState.{ServerState}
use Rattle.fs_requests.specs.declared.state.ServerStep.{ServerStep}
use Rattle.fs_requests.specs.declared.state.ServerStep.TheVariants as step
use Rattle.fs_requests.specs.ServerWords.{kind_word, registers_with, server_in, step_in, step_word, words_with}
use Rattle.fs_server.specs.ServerSteps.{registers_begun, words_begun}

-- ---- steps and kinds

pub step_back : (x : ServerStep) → step_in (step_word x) ≡ x
unfolding step_in step_word
step_back step.Releasing = refl
step_back step.Receiving = refl
step_back step.ReadingKind = refl
step_back step.ReadingClient = refl
step_back step.ReadingFile = refl
step_back step.ReadingOffset = refl
step_back step.ReadingCount = refl
step_back step.ReadingRecord = refl
step_back step.LookingRecord = refl
step_back step.LookingEntry = refl
step_back step.LookingHolders = refl
step_back step.TakingPage = refl
step_back step.ReadingMode = refl
step_back step.Working = refl
step_back step.Finding = refl
step_back step.StoringRecord = refl
step_back step.StoringDevice = refl
step_back step.ReadingModeAgain = refl
step_back step.StoringMode = refl
step_back step.StoringFile = refl
step_back step.ReadingRecordAgain = refl
step_back step.Sizing = refl
step_back step.StoringSize = refl
step_back step.Advancing = refl
step_back step.StoringOffset = refl
step_back step.CheckingRecord = refl
step_back step.CheckingEntry = refl
step_back step.CheckingHolders = refl
step_back step.Flushing = refl
step_back step.Acting = refl
step_back step.Replying = refl
step_back step.Pausing = refl

step_small : (x : ServerStep) → step_word x < 32
unfolding step_word
step_small step.Releasing = omega arith
step_small step.Receiving = omega arith
step_small step.ReadingKind = omega arith
step_small step.ReadingClient = omega arith
step_small step.ReadingFile = omega arith
step_small step.ReadingOffset = omega arith
step_small step.ReadingCount = omega arith
step_small step.ReadingRecord = omega arith
step_small step.LookingRecord = omega arith
step_small step.LookingEntry = omega arith
step_small step.LookingHolders = omega arith
step_small step.TakingPage = omega arith
step_small step.ReadingMode = omega arith
step_small step.Working = omega arith
step_small step.Finding = omega arith
step_small step.StoringRecord = omega arith
step_small step.StoringDevice = omega arith
step_small step.ReadingModeAgain = omega arith
step_small step.StoringMode = omega arith
step_small step.StoringFile = omega arith
step_small step.ReadingRecordAgain = omega arith
step_small step.Sizing = omega arith
step_small step.StoringSize = omega arith
step_small step.Advancing = omega arith
step_small step.StoringOffset = omega arith
step_small step.CheckingRecord = omega arith
step_small step.CheckingEntry = omega arith
step_small step.CheckingHolders = omega arith
step_small step.Flushing = omega arith
step_small step.Acting = omega arith
step_small step.Replying = omega arith
step_small step.Pausing = omega arith

kind_back : (k : Option RequestKind) → request_kind (kind_word k) ≡ k
kind_back None = refl
kind_back (Some kind.Open) = refl
kind_back (Some kind.SetSize) = refl
kind_back (Some kind.Read) = refl
kind_back (Some kind.Write) = refl
kind_back (Some kind.Stat) = refl
kind_back (Some kind.Remove) = refl
kind_back (Some kind.Sync) = refl
kind_back (Some kind.Seek) = refl
kind_back (Some kind.ReadAt) = refl

kind_small : (k : Option RequestKind) → kind_word k < 16
kind_small None = omega arith
kind_small (Some kind.Open) = omega arith
kind_small (Some kind.SetSize) = omega arith
kind_small (Some kind.Read) = omega arith
kind_small (Some kind.Write) = omega arith
kind_small (Some kind.Stat) = omega arith
kind_small (Some kind.Remove) = omega arith
kind_small (Some kind.Sync) = omega arith
kind_small (Some kind.Seek) = omega arith
kind_small (Some kind.ReadAt) = omega arith

-- ---- the words

-- the three words that are set, and those that stay
record AreSet (words : List ℕ) (st : ServerState) : Type 0 where
  home : get_or (words_with words st) 1 0 ≡ st.home
  at : get_or (words_with words st) 2 0 ≡ st.at
  count : get_or (words_with words st) 3 0 ≡ st.count
  long : length (words_with words st) ≡ 12
  rest : drop 8 (words_with words st) ≡ drop 8 words

words_set : (words : List ℕ) (st : ServerState) → length words ≡ 12 → AreSet words st
unfolding words_with
words_set [] st twelve = absurd (omega arith)
words_set (_ ∷ []) st twelve = absurd (omega arith)
words_set (_ ∷ _ ∷ []) st twelve = absurd (omega arith)
words_set (_ ∷ _ ∷ _ ∷ []) st twelve = absurd (omega arith)
words_set (_ ∷ _ ∷ _ ∷ _ ∷ rest) st twelve = record { home = refl; at = refl; count = refl; long = twelve; rest = refl }

-- ---- where it stands

-- the words of the client, and of step, kind and number
module _ (regs : Regs) (st : ServerState) (below : st.number < MAXOPEN) where
  abbrev eip : ℕ
  eip = (registers_with regs st).eip

  eip_step : step_in (eip % 32) ≡ st.step
  eip_step =
      let small = step_small st.step in
      let is : eip % 32 ≡ step_word st.step = omega (arith, small) in
      ap step_in is ∙ step_back st.step

  eip_kind : request_kind (eip / 32 % 16) ≡ st.kind
  eip_kind =
      let small = step_small st.step in
      let few = kind_small st.kind in
      let is : eip / 32 % 16 ≡ kind_word st.kind = omega (arith, small, few) in
      ap request_kind is ∙ kind_back st.kind

  eip_number : eip / 512 % MAXOPEN ≡ st.number
  eip_number =
      let small = step_small st.step in
      let few = kind_small st.kind in
      omega (arith, small, few, below)

  module _ (words : List ℕ) (twelve : length words ≡ 12) where
    server_back : server_in (registers_with regs st) (words_with words st) ≡ st
    unfolding server_in
    server_back =
        let set = words_set words st twelve in
        λ i. record {
          step = eip_step i;
          kind = eip_kind i;
          client = st.client;
          number = eip_number i;
          home = set.home i;
          at = set.at i;
          count = set.count i;
        }

-- ---- with a job that begins

-- where the server stands by its registers and words
pub record StandsIn (regs : Regs) (words : List ℕ) (st : ServerState) : Type 0 where
  pub at_step : (server_in regs words).step ≡ st.step
  pub kind : (server_in regs words).kind ≡ st.kind
  pub client : (server_in regs words).client ≡ st.client
  pub number : (server_in regs words).number ≡ st.number

module _ (regs : Regs) (words : List ℕ) (st : ServerState) (below : st.number < MAXOPEN) (twelve : length words ≡ 12) where
  pub stands_in : (begins : Option Job) → StandsIn (registers_begun begins (registers_with regs st)) (words_begun begins (words_with words st)) st
  unfolding server_in places.registers_with
  stands_in None =
      record { at_step = eip_step regs st below; kind = eip_kind regs st below; client = refl; number = eip_number regs st below }
  stands_in (Some job) =
      record { at_step = eip_step regs st below; kind = eip_kind regs st below; client = refl; number = eip_number regs st below }

  -- where no job begins the three words are its own
  pub stands_whole : (begins : Option Job) → begins ≡ None →
      server_in (registers_begun begins (registers_with regs st)) (words_begun begins (words_with words st)) ≡ st
  stands_whole begins none =
      ap (λ (o : Option Job). server_in (registers_begun o (registers_with regs st)) (words_begun o (words_with words st))) none
      ∙ server_back regs st below words twelve

  pub begun_long : (begins : Option Job) → length (words_begun begins (words_with words st)) ≡ 12
  begun_long None = (words_set words st twelve).long
  begun_long (Some job) = length_with (words_with words st) (begun_with job) (words_set words st twelve).long

  pub begun_rest : (begins : Option Job) → drop 8 (words_begun begins (words_with words st)) ≡ drop 8 words
  begun_rest None = (words_set words st twelve).rest
  begun_rest (Some job) = last_four (words_with words st) (begun_with job) ∙ (words_set words st twelve).rest

-- and a job that begins stands at its beginning
pub job_told : (regs : Regs) (words : List ℕ) (begins : Option Job) (job : Job) → begins ≡ Some job →
    places.state_in (registers_begun begins regs) (words_begun begins words) ≡ begun_with job
job_told regs words begins job some =
    ap (λ (o : Option Job). places.state_in (registers_begun o regs) (words_begun o words)) some ∙ state_told regs words (begun_with job)
