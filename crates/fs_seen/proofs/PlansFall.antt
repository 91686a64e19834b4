-- By its plan the server comes nearer to its act with each step, whatever words come, but for the steps of a job or a flush that go on.
use Rattle.std.proofs.Common.{◌≡◌, ◌<◌, ◌+◌, ◌-◌, ◌*◌, ◌%◌, ◌==◌, ℕ, Bool, true, false, not, Option, Some, None, refl, sym, subst, arith, if◌then◌else◌}
use Rattle.std.proofs.lemmas.Bool.Decides.{nat_tests}
use Rattle.jos_base.specs.declared.numbers.TheConstants.{E_INVAL, E_MAX_OPEN}
use Rattle.jos_base.specs.Words.{negated}
use Rattle.lib_os.specs.declared.numbers.TheConstants.{MAXOPEN}
use Rattle.lib_os.specs.declared.request.RequestKind.{RequestKind}
use Rattle.lib_os.specs.declared.request.RequestKind.TheVariants as kind
use Rattle.fs_jobs.specs.declared.place.Job.TheVariants as job
use Rattle.fs_requests.specs.declared.plan.ServerNext.{ServerNext}
use Rattle.fs_requests.specs.declared.state.ServerState.{ServerState}
use Rattle.fs_requests.specs.declared.state.ServerStep.{ServerStep}
use Rattle.fs_requests.specs.declared.state.ServerStep.TheVariants as step
use Rattle.fs_requests.specs.ServerPlans.{acted, acting, begun, count_by, found_by, further, hidden, is_count, is_held, is_last, next_check, next_for}
use Rattle.fs_requests.specs.ServerPlans.{next_holders, next_sized, opens, request_by, shown, worked_by}
use Rattle.fs_serving.specs.ServerRuns.{is_serving}
use Rattle.fs_seen.specs.ServerSoon.{left_over}
use Rattle.fs_seen.proofs.KindsFit.{KindFits}

module _ (long work flush later after : ℕ) (few : later < long) (little : after < long) where
  -- behind it less is left than so much
  abbrev Below : ℕ → ServerNext → Type 0
  Below most next = left_over long next.state.step next.state.kind next.state.number later after < most

  by_test : (most : ℕ) (t : Bool) (x y : ServerNext) → (t ≡ true → Below most x) → (t ≡ false → Below most y) → Below most (if t then x else y)
  by_test most true x y first second = first refl
  by_test most false x y first second = second refl

  -- what a job has left
  abbrev working : Bool → ℕ → ℕ
  working b x = if b then 2 * long + 40 + x else 10 + x

  abbrev finding : Bool → ℕ → ℕ
  finding b x = if b then long + 20 + x else 2 * long + 5000 + x

  -- where one begins, of a file that is open, of one that is removed, or whatever it is of
  file_below : (k : Option RequestKind) → opens k ≡ false → working (opens k) later < 2 * long + 40
  file_below k is = subst (λ (b : Bool). working b later < 2 * long + 40) (sym is) (omega (arith, few))

  removing_below : (k : Option RequestKind) (rest : ℕ) → k ≡ Some kind.Remove → working (opens k) later < 2 * long + 20 + rest
  removing_below k rest is = subst (λ (k : Option RequestKind). working (opens k) later < 2 * long + 20 + rest) (sym is) (omega (arith, few))

  working_below : (b : Bool) (most : ℕ) → 3 * long + 39 < most → working b later < most
  working_below true most lt = omega (arith, lt, few)
  working_below false most lt = omega (arith, lt, few)

  finding_below : (b : Bool) (most : ℕ) → 3 * long + 4999 < most → finding b later < most
  finding_below true most lt = omega (arith, lt, few)
  finding_below false most lt = omega (arith, lt, few)

  -- and one that ends
  working_above : (b : Bool) (k : ℕ) → k < 10 → k < working b work
  working_above true k lt = omega (arith, lt)
  working_above false k lt = omega (arith, lt)

  finding_above : (b : Bool) (k : ℕ) → k < long + 20 → k < finding b work
  finding_above true k lt = omega (arith, lt)
  finding_above false k lt = omega (arith, lt)

  module _ (st : ServerState) (below : st.number < MAXOPEN) where
    at_request : (k : Option RequestKind) → Below (3 * long + 10000) (request_by k (record st { number = 0 }))
    at_request None = omega arith
    at_request (Some kind.Open) = omega (arith, few)
    at_request (Some kind.SetSize) = omega arith
    at_request (Some kind.Read) = omega arith
    at_request (Some kind.Write) = omega arith
    at_request (Some kind.Stat) = omega arith
    at_request (Some kind.Remove) = finding_below (opens st.kind) (3 * long + 10000) (omega arith)
    at_request (Some kind.Sync) = omega (arith, little)
    at_request (Some kind.Seek) = omega arith
    at_request (Some kind.ReadAt) = omega arith

    at_count : (k : Option RequestKind) (word : ℕ) → Below (2 * long + 41) (count_by k st word)
    at_count None word = omega arith
    at_count (Some kind.Open) word = omega arith
    at_count (Some kind.SetSize) word = omega arith
    at_count (Some kind.Read) word = omega arith
    at_count (Some kind.Write) word = omega arith
    at_count (Some kind.Stat) word = omega arith
    at_count (Some kind.Remove) word = omega arith
    at_count (Some kind.Sync) word = omega arith
    at_count (Some kind.Seek) word = omega arith
    at_count (Some kind.ReadAt) word = omega arith

    abbrev worked_most : ℕ
    worked_most = working (opens st.kind) work

    moved_on : (answer : ℕ) → Below worked_most (if is_count answer then hidden (record st { count = answer }) step.Advancing else acting st answer)
    moved_on answer =
        by_test worked_most (is_count answer) (hidden (record st { count = answer }) step.Advancing) (acting st answer)
        (λ is. working_above (opens st.kind) 2 (omega arith)) (λ is. working_above (opens st.kind) 1 (omega arith))

    found_less : (k : Option RequestKind) → opens k ≡ true → finding (opens k) later < working (opens k) work
    found_less k is = subst (λ (b : Bool). finding b later < working b work) (sym is) (omega (arith, few))

    at_worked : (k : Option RequestKind) → st.kind ≡ k → (answer : ℕ) → Below worked_most (worked_by k st answer)
    at_worked None is answer = working_above (opens st.kind) 1 (omega arith)
    at_worked (Some kind.Open) is answer =
        by_test worked_most (answer == 0) (begun st step.Finding job.Find) (acting st answer)
        (λ zero. found_less st.kind (subst (λ (k : Option RequestKind). opens k ≡ true) (sym is) refl))
        (λ other. working_above (opens st.kind) 1 (omega arith))
    at_worked (Some kind.SetSize) is answer = working_above (opens st.kind) 1 (omega arith)
    at_worked (Some kind.Read) is answer = moved_on answer
    at_worked (Some kind.Write) is answer = moved_on answer
    at_worked (Some kind.Stat) is answer = working_above (opens st.kind) 1 (omega arith)
    at_worked (Some kind.Remove) is answer = working_above (opens st.kind) 1 (omega arith)
    at_worked (Some kind.Sync) is answer = working_above (opens st.kind) 1 (omega arith)
    at_worked (Some kind.Seek) is answer = working_above (opens st.kind) 1 (omega arith)
    at_worked (Some kind.ReadAt) is answer = working_above (opens st.kind) 1 (omega arith)

    abbrev found_most : ℕ
    found_most = finding (opens st.kind) work

    ended : (answer : ℕ) → Below found_most (acting st answer)
    ended answer = finding_above (opens st.kind) 1 (omega arith)

    checks_less : (k : Option RequestKind) → opens k ≡ false → 2 * long + 22 + 3 * (MAXOPEN - st.number) < finding (opens k) work
    checks_less k is = subst (λ (b : Bool). 2 * long + 22 + 3 * (MAXOPEN - st.number) < finding b work) (sym is) (omega arith)

    at_found : (k : Option RequestKind) → st.kind ≡ k → (answer : ℕ) → Below found_most (found_by k st answer)
    at_found None is answer = ended answer
    at_found (Some kind.Open) is answer =
        by_test found_most (is_count answer) (hidden (record st { home = answer }) step.StoringRecord) (acting st answer)
        (λ some. finding_above (opens st.kind) (long + 10) (omega arith)) (λ none. ended answer)
    at_found (Some kind.SetSize) is answer = ended answer
    at_found (Some kind.Read) is answer = ended answer
    at_found (Some kind.Write) is answer = ended answer
    at_found (Some kind.Stat) is answer = ended answer
    at_found (Some kind.Remove) is answer =
        by_test found_most (is_count answer) (hidden (record st { home = answer }) step.CheckingRecord) (acting st answer)
        (λ some. checks_less st.kind (subst (λ (k : Option RequestKind). opens k ≡ false) (sym is) refl)) (λ none. ended answer)
    at_found (Some kind.Sync) is answer = ended answer
    at_found (Some kind.Seek) is answer = ended answer
    at_found (Some kind.ReadAt) is answer = ended answer

    at_sized : (size : ℕ) → Below (4 + work) (next_sized st size)
    at_sized size =
        by_test (4 + work) (is_count size) (hidden (record st { count = size }) step.StoringSize) (acting st size) (λ is. omega arith)
        (λ is. omega arith)

    at_check : st.kind ≡ Some kind.Remove → Below (2 * long + 20 + 3 * (MAXOPEN - st.number)) (next_check st)
    at_check removes =
        by_test (2 * long + 20 + 3 * (MAXOPEN - st.number)) (is_last st) (begun st step.Working (job.Remove st.home))
        (hidden (further st) step.CheckingRecord)
        (λ last. removing_below st.kind (3 * (MAXOPEN - st.number)) removes) (λ more. further_below more)
      where
        further_below : is_last st ≡ false → 2 * long + 22 + 3 * (MAXOPEN - (st.number % MAXOPEN + 1)) < 2 * long + 20 + 3 * (MAXOPEN - st.number)
        further_below more = let less : st.number % MAXOPEN + 1 < MAXOPEN = grind (arith, nat_tests, more) in omega (arith, less, below)

    at_holders : (holders : ℕ) → Below (3 * long + 60 + 3 * (MAXOPEN - st.number)) (next_holders st holders)
    at_holders holders =
        let most = 3 * long + 60 + 3 * (MAXOPEN - st.number) in
        by_test most (not (is_held holders)) (shown st step.ReadingMode)
        (if is_last st then acted st (negated E_MAX_OPEN) else shown (further st) step.LookingRecord)
        (λ is. omega arith)
        (λ is. by_test most (is_last st) (acted st (negated E_MAX_OPEN)) (shown (further st) step.LookingRecord)
        (λ last. omega arith) (λ more. further_below more))
      where
        further_below : is_last st ≡ false → 3 * long + 62 + 3 * (MAXOPEN - (st.number % MAXOPEN + 1)) < 3 * long + 60 + 3 * (MAXOPEN - st.number)
        further_below more = let less : st.number % MAXOPEN + 1 < MAXOPEN = grind (arith, nat_tests, more) in omega (arith, less, below)

  -- from each step up to the act
  pub plans_fall : (st : ServerState) (at : ServerStep) (word : ℕ) → st.number < MAXOPEN → is_serving at ≡ true → KindFits at st.kind →
      Below (left_over long at st.kind st.number work flush) (next_for st at word)
  plans_fall st step.Releasing word below on kind_is = absurd (let contradiction : false ≡ true = on in cc)
  plans_fall st step.Receiving word below on kind_is = absurd (let contradiction : false ≡ true = on in cc)
  plans_fall st step.ReadingKind word below on kind_is = omega arith
  plans_fall st step.ReadingClient word below on kind_is = at_request (record st { client = word }) below st.kind
  plans_fall st step.ReadingFile word below on kind_is = omega arith
  plans_fall st step.ReadingOffset word below on kind_is = omega arith
  plans_fall st step.ReadingCount word below on kind_is = at_count st below st.kind word
  plans_fall st step.ReadingRecord word below on kind_is = file_below st.kind kind_is
  plans_fall st step.LookingRecord word below on kind_is =
      by_test (3 * long + 62 + 3 * (MAXOPEN - st.number)) (word == 0) (shown st step.TakingPage) (hidden st step.LookingEntry) (λ is. omega arith)
      (λ is. omega arith)
  plans_fall st step.LookingEntry word below on kind_is = omega arith
  plans_fall st step.LookingHolders word below on kind_is = at_holders st below word
  plans_fall st step.TakingPage word below on kind_is =
      by_test (3 * long + 51) (word == 0) (hidden st step.ReadingMode) (acting st word) (λ is. omega arith) (λ is. omega arith)
  plans_fall st step.ReadingMode word below on kind_is = working_below (opens st.kind) (3 * long + 50) (omega arith)
  plans_fall st step.Working word below on kind_is = at_worked st below st.kind refl word
  plans_fall st step.Finding word below on kind_is = at_found st below st.kind refl word
  plans_fall st step.StoringRecord word below on kind_is = omega arith
  plans_fall st step.StoringDevice word below on kind_is = omega arith
  plans_fall st step.ReadingModeAgain word below on kind_is = omega arith
  plans_fall st step.StoringMode word below on kind_is = omega arith
  plans_fall st step.StoringFile word below on kind_is = omega arith
  plans_fall st step.ReadingRecordAgain word below on kind_is = omega (arith, few)
  plans_fall st step.Sizing word below on kind_is = at_sized st below word
  plans_fall st step.StoringSize word below on kind_is = omega arith
  plans_fall st step.Advancing word below on kind_is = omega arith
  plans_fall st step.StoringOffset word below on kind_is = omega arith
  plans_fall st step.CheckingRecord word below on kind_is =
      by_test (2 * long + 22 + 3 * (MAXOPEN - st.number)) (word == st.home) (hidden st step.CheckingEntry) (next_check st) (λ is. omega arith)
      (λ is. up (left_over long (next_check st).state.step (next_check st).state.kind (next_check st).state.number later after) (2 * long)
      (3 * (MAXOPEN - st.number)) (at_check st below kind_is))
    where
      up : (x l r : ℕ) → x < l + 20 + r → x < l + 22 + r
      up x l r lt = omega (arith, lt)
  plans_fall st step.CheckingEntry word below on kind_is = omega arith
  plans_fall st step.CheckingHolders word below on kind_is =
      by_test (2 * long + 20 + 3 * (MAXOPEN - st.number)) (is_held word) (acted st (negated E_INVAL)) (next_check st) (λ is. omega arith)
      (λ is. at_check st below kind_is)
  plans_fall st step.Flushing word below on kind_is = omega arith
  plans_fall st step.Acting word below on kind_is = omega arith
  plans_fall st step.Replying word below on kind_is = absurd (let contradiction : false ≡ true = on in cc)
  plans_fall st step.Pausing word below on kind_is = absurd (let contradiction : false ≡ true = on in cc)
