-- By its plan the server has fewer calls left behind each hidden step, whatever words come, but for the steps of a job or a flush that go on; and behind
-- one that is seen it has no more than a whole request takes.
use Rattle.std.proofs.Common.{◌≡◌, ◌<◌, ◌≤◌, ◌+◌, ◌-◌, ◌*◌, ◌^◌, ◌%◌, ◌==◌, ℕ, Bool, true, false, not, Option, Some, None, refl, sym, subst, arith}
use Rattle.std.proofs.Common.{if◌then◌else◌}
use Rattle.std.proofs.lemmas.Bool.{false≢true}
use Rattle.std.proofs.lemmas.Bool.Decides.{nat_tests}
use Rattle.jos_base.specs.declared.numbers.TheConstants.{E_INVAL, E_MAX_OPEN}
use Rattle.jos_base.specs.Words.{negated}
use Rattle.lib_os.specs.declared.numbers.TheConstants.{MAXOPEN}
use Rattle.lib_os.specs.declared.progress.Progress.{Progress}
use Rattle.lib_os.specs.declared.progress.Progress.TheVariants as progress
use Rattle.lib_os.specs.declared.request.RequestKind.{RequestKind}
use Rattle.lib_os.specs.declared.request.RequestKind.TheVariants as kind
use Rattle.fs_cache.specs.CacheSteps.{flush_calls_max}
use Rattle.fs_jobs.specs.declared.place.Job.TheVariants as job
use Rattle.fs_requests.specs.declared.plan.ServerNext.{ServerNext}
use Rattle.fs_requests.specs.declared.state.ServerState.{ServerState}
use Rattle.fs_requests.specs.declared.state.ServerStep.{ServerStep}
use Rattle.fs_requests.specs.declared.state.ServerStep.TheVariants as step
use Rattle.fs_requests.specs.ServerPlans.{acted, acting, begun, count_by, found_by, further, hidden, is_count, is_held, is_last, next_check, next_for}
use Rattle.fs_requests.specs.ServerPlans.{next_holders, next_sized, opens, request_by, shown, worked_by}
use Rattle.fs_serving.specs.ServerRuns.{is_serving, job_calls_max, work_calls_max}
use Rattle.fs_seen.specs.ServerFew.{calls_over, server_calls_max}
use Rattle.fs_seen.proofs.KindsFit.{KindFits}

-- ---- what is known at a step

-- so many calls are left of a job at most, where one is under way
abbrev pub JobFits : ℕ → ℕ → ServerStep → Option RequestKind → Type 0
JobFits count work step.Working k = work ≤ job_calls_max step.Working k count
JobFits count work step.Finding k = work ≤ job_calls_max step.Finding k count
JobFits count work step.Sizing k = work ≤ job_calls_max step.Sizing k count
JobFits count work _ k = Unit {0}

-- fewer behind a hidden step, and no more than a request takes behind another
abbrev pub Falls : ℕ → Progress → ℕ → ℕ → Type 0
Falls count progress.Hidden most left = left < most
Falls count _ most left = left ≤ server_calls_max count

pub falls_more : (count : ℕ) (p : Progress) (less most left : ℕ) → less ≤ most → Falls count p less left → Falls count p most left
falls_more count progress.Hidden less most left le falls = omega (arith, le, falls)
falls_more count progress.Visible less most left le falls = falls
falls_more count progress.Waited less most left le falls = falls
falls_more count progress.Finished less most left le falls = falls
falls_more count progress.Ended less most left le falls = falls

-- ---- by the plan

module _ (count work flush later after : ℕ) (some : 1 ≤ count) (little : after ≤ flush_calls_max count) where
  -- behind it less is left than so much
  abbrev Below : ℕ → ServerNext → Type 0
  Below most next =
      JobFits count later next.state.step next.state.kind →
      Falls count next.seen most (calls_over count next.state.step next.state.kind next.state.number later after)

  by_test : (most : ℕ) (t : Bool) (x y : ServerNext) → (t ≡ true → Below most x) → (t ≡ false → Below most y) → Below most (if t then x else y)
  by_test most true x y first second = first refl
  by_test most false x y first second = second refl

  -- what a job that begins has left
  abbrev working : Option RequestKind → ℕ → ℕ
  working k x = if opens k then 2 ^ 12 * count + 6290 + x else 10 + x

  abbrev finding : Bool → ℕ → ℕ
  finding b x = if b then 60 + x else 2 ^ 12 * count + 58200 + x

  file_below : (k : Option RequestKind) → opens k ≡ false → later ≤ work_calls_max k count → working k later < 2 ^ 13 * count + 65016
  file_below None is fits = omega (arith, fits)
  file_below (Some kind.Open) is fits = absurd (false≢true (sym is))
  file_below (Some kind.SetSize) is fits = omega (arith, fits)
  file_below (Some kind.Read) is fits = omega (arith, fits)
  file_below (Some kind.Write) is fits = omega (arith, fits)
  file_below (Some kind.Stat) is fits = omega (arith, fits)
  file_below (Some kind.Remove) is fits = omega (arith, fits)
  file_below (Some kind.Sync) is fits = omega (arith, fits)
  file_below (Some kind.Seek) is fits = omega (arith, fits)
  file_below (Some kind.ReadAt) is fits = omega (arith, fits)

  opening_below : (k : Option RequestKind) → later ≤ work_calls_max k count → working k later < 2 ^ 13 * count + 65301
  opening_below None fits = omega (arith, fits)
  opening_below (Some kind.Open) fits = omega (arith, fits)
  opening_below (Some kind.SetSize) fits = omega (arith, fits)
  opening_below (Some kind.Read) fits = omega (arith, fits)
  opening_below (Some kind.Write) fits = omega (arith, fits)
  opening_below (Some kind.Stat) fits = omega (arith, fits)
  opening_below (Some kind.Remove) fits = omega (arith, fits)
  opening_below (Some kind.Sync) fits = omega (arith, fits)
  opening_below (Some kind.Seek) fits = omega (arith, fits)
  opening_below (Some kind.ReadAt) fits = omega (arith, fits)

  removing_below : (k : Option RequestKind) (rest : ℕ) → k ≡ Some kind.Remove → later ≤ work_calls_max k count →
      working k later < 2 ^ 12 * count + 55020 + rest
  removing_below k rest is =
      subst (λ (k : Option RequestKind). later ≤ work_calls_max k count → working k later < 2 ^ 12 * count + 55020 + rest) (sym is)
      (λ fits. omega (arith, fits))

  finding_below : (b : Bool) → later ≤ job_calls_max step.Finding None count → finding b later < 2 ^ 13 * count + 65503
  finding_below true fits = omega (arith, fits)
  finding_below false fits = omega (arith, fits)

  -- and one that ends
  working_above : (k : Option RequestKind) (n : ℕ) → n < 10 → n < working k work
  working_above k n lt = by (opens k)
    where
      by : (b : Bool) → n < (if b then 2 ^ 12 * count + 6290 + work else 10 + work)
      by true = omega (arith, lt)
      by false = omega (arith, lt)

  finding_above : (b : Bool) (n : ℕ) → n < 60 → n < finding b work
  finding_above true n lt = omega (arith, lt)
  finding_above false n lt = omega (arith, lt)

  module _ (st : ServerState) (below : st.number < MAXOPEN) where
    at_request : (k : Option RequestKind) → Below (2 ^ 13 * count + 65503) (request_by k (record st { number = 0 }))
    at_request None fits = omega arith
    at_request (Some kind.Open) fits = omega arith
    at_request (Some kind.SetSize) fits = omega arith
    at_request (Some kind.Read) fits = omega arith
    at_request (Some kind.Write) fits = omega arith
    at_request (Some kind.Stat) fits = omega arith
    at_request (Some kind.Remove) fits = finding_below (opens st.kind) fits
    at_request (Some kind.Sync) fits = omega (arith, some, little)
    at_request (Some kind.Seek) fits = omega arith
    at_request (Some kind.ReadAt) fits = omega arith

    at_count : (k : Option RequestKind) (word : ℕ) → Below (2 ^ 13 * count + 65017) (count_by k st word)
    at_count None word fits = omega arith
    at_count (Some kind.Open) word fits = omega arith
    at_count (Some kind.SetSize) word fits = omega arith
    at_count (Some kind.Read) word fits = omega arith
    at_count (Some kind.Write) word fits = omega arith
    at_count (Some kind.Stat) word fits = omega arith
    at_count (Some kind.Remove) word fits = omega arith
    at_count (Some kind.Sync) word fits = omega arith
    at_count (Some kind.Seek) word fits = omega arith
    at_count (Some kind.ReadAt) word fits = omega arith

    -- behind the job of the act
    abbrev worked_most : ℕ
    worked_most = working st.kind work

    shows_next : (answer : ℕ) → Below worked_most (acting st answer)
    shows_next answer fits = working_above st.kind 1 (omega arith)

    moved_on : (answer : ℕ) → Below worked_most (if is_count answer then hidden (record st { count = answer }) step.Advancing else acting st answer)
    moved_on answer =
        by_test worked_most (is_count answer) (hidden (record st { count = answer }) step.Advancing) (acting st answer)
        (λ is fits. working_above st.kind 2 (omega arith)) (λ is. shows_next answer)

    found_less : (k : Option RequestKind) → opens k ≡ true → later ≤ job_calls_max step.Finding k count → finding (opens k) later < working k work
    found_less k is fits =
        subst (λ (b : Bool). finding b later < (if b then 2 ^ 12 * count + 6290 + work else 10 + work)) (sym is) (omega (arith, fits))

    at_worked : (k : Option RequestKind) → st.kind ≡ k → (answer : ℕ) → Below worked_most (worked_by k st answer)
    at_worked None is answer = shows_next answer
    at_worked (Some kind.Open) is answer =
        by_test worked_most (answer == 0) (begun st step.Finding job.Find) (acting st answer)
        (λ zero fits. found_less st.kind (subst (λ (k : Option RequestKind). opens k ≡ true) (sym is) refl) fits)
        (λ other. shows_next answer)
    at_worked (Some kind.SetSize) is answer = shows_next answer
    at_worked (Some kind.Read) is answer = moved_on answer
    at_worked (Some kind.Write) is answer = moved_on answer
    at_worked (Some kind.Stat) is answer = shows_next answer
    at_worked (Some kind.Remove) is answer = shows_next answer
    at_worked (Some kind.Sync) is answer = shows_next answer
    at_worked (Some kind.Seek) is answer = shows_next answer
    at_worked (Some kind.ReadAt) is answer = shows_next answer

    -- behind that of a path
    abbrev found_most : ℕ
    found_most = finding (opens st.kind) work

    ended : (answer : ℕ) → Below found_most (acting st answer)
    ended answer fits = finding_above (opens st.kind) 1 (omega arith)

    checks_less : (k : Option RequestKind) → opens k ≡ false → 2 ^ 12 * count + 55022 + 3 * (MAXOPEN - st.number) < finding (opens k) work
    checks_less k is =
        subst (λ (b : Bool). 2 ^ 12 * count + 55022 + 3 * (MAXOPEN - st.number) < finding b work) (sym is) (omega arith)

    at_found : (k : Option RequestKind) → st.kind ≡ k → (answer : ℕ) → Below found_most (found_by k st answer)
    at_found None is answer = ended answer
    at_found (Some kind.Open) is answer =
        by_test found_most (is_count answer) (hidden (record st { home = answer }) step.StoringRecord) (acting st answer)
        (λ some_place fits. finding_above (opens st.kind) 55 (omega arith)) (λ none. ended answer)
    at_found (Some kind.SetSize) is answer = ended answer
    at_found (Some kind.Read) is answer = ended answer
    at_found (Some kind.Write) is answer = ended answer
    at_found (Some kind.Stat) is answer = ended answer
    at_found (Some kind.Remove) is answer =
        by_test found_most (is_count answer) (hidden (record st { home = answer }) step.CheckingRecord) (acting st answer)
        (λ some_place fits. checks_less st.kind (subst (λ (k : Option RequestKind). opens k ≡ false) (sym is) refl)) (λ none. ended answer)
    at_found (Some kind.Sync) is answer = ended answer
    at_found (Some kind.Seek) is answer = ended answer
    at_found (Some kind.ReadAt) is answer = ended answer

    -- and behind that of a size
    at_sized : (size : ℕ) → Below (10 + work) (next_sized st size)
    at_sized size =
        by_test (10 + work) (is_count size) (hidden (record st { count = size }) step.StoringSize) (acting st size) (λ is fits. omega arith)
        (λ is fits. omega arith)

    -- at a place of the table
    abbrev check_most : ℕ
    check_most = 2 ^ 12 * count + 55020 + 3 * (MAXOPEN - st.number)

    at_check : st.kind ≡ Some kind.Remove → Below check_most (next_check st)
    at_check removes =
        by_test check_most (is_last st) (begun st step.Working (job.Remove st.home)) (hidden (further st) step.CheckingRecord)
        (λ last fits. removing_below st.kind (3 * (MAXOPEN - st.number)) removes fits) (λ more fits. further_below more)
      where
        further_below : is_last st ≡ false → 2 ^ 12 * count + 55022 + 3 * (MAXOPEN - (st.number % MAXOPEN + 1)) < check_most
        further_below more = let less : st.number % MAXOPEN + 1 < MAXOPEN = grind (arith, nat_tests, more) in omega (arith, less, below)

    at_holders : (most holders : ℕ) → Below most (next_holders st holders)
    at_holders most holders =
        by_test most (not (is_held holders)) (shown st step.ReadingMode)
        (if is_last st then acted st (negated E_MAX_OPEN) else shown (further st) step.LookingRecord)
        (λ is fits. omega arith)
        (λ is. by_test most (is_last st) (acted st (negated E_MAX_OPEN)) (shown (further st) step.LookingRecord)
        (λ last fits. omega arith) (λ more fits. omega arith))

  -- from each step up to the act
  pub plans_take : (st : ServerState) (at : ServerStep) (word : ℕ) → st.number < MAXOPEN → is_serving at ≡ true → KindFits at st.kind →
      Below (calls_over count at st.kind st.number work flush) (next_for st at word)
  plans_take st step.Releasing word below on kind_is = absurd (false≢true on)
  plans_take st step.Receiving word below on kind_is = absurd (false≢true on)
  plans_take st step.ReadingKind word below on kind_is = λ fits. omega arith
  plans_take st step.ReadingClient word below on kind_is = at_request (record st { client = word }) below st.kind
  plans_take st step.ReadingFile word below on kind_is = λ fits. omega arith
  plans_take st step.ReadingOffset word below on kind_is = λ fits. omega arith
  plans_take st step.ReadingCount word below on kind_is = at_count st below st.kind word
  plans_take st step.ReadingRecord word below on kind_is = λ fits. file_below st.kind kind_is fits
  plans_take st step.LookingRecord word below on kind_is =
      by_test (2 ^ 13 * count + 65502) (word == 0) (shown st step.TakingPage) (hidden st step.LookingEntry) (λ is fits. omega arith)
      (λ is fits. omega arith)
  plans_take st step.LookingEntry word below on kind_is = λ fits. omega arith
  plans_take st step.LookingHolders word below on kind_is = at_holders st below (2 ^ 13 * count + 65500) word
  plans_take st step.TakingPage word below on kind_is =
      by_test (2 ^ 13 * count + 65302) (word == 0) (hidden st step.ReadingMode) (acting st word) (λ is fits. omega arith) (λ is fits. omega arith)
  plans_take st step.ReadingMode word below on kind_is = λ fits. opening_below st.kind fits
  plans_take st step.Working word below on kind_is = at_worked st below st.kind refl word
  plans_take st step.Finding word below on kind_is = at_found st below st.kind refl word
  plans_take st step.StoringRecord word below on kind_is = λ fits. omega arith
  plans_take st step.StoringDevice word below on kind_is = λ fits. omega arith
  plans_take st step.ReadingModeAgain word below on kind_is = λ fits. omega arith
  plans_take st step.StoringMode word below on kind_is = λ fits. omega arith
  plans_take st step.StoringFile word below on kind_is = λ fits. omega arith
  plans_take st step.ReadingRecordAgain word below on kind_is = λ fits. omega (arith, fits)
  plans_take st step.Sizing word below on kind_is = at_sized st below word
  plans_take st step.StoringSize word below on kind_is = λ fits. omega arith
  plans_take st step.Advancing word below on kind_is = λ fits. omega arith
  plans_take st step.StoringOffset word below on kind_is = λ fits. omega arith
  plans_take st step.CheckingRecord word below on kind_is =
      by_test (2 ^ 12 * count + 55022 + 3 * (MAXOPEN - st.number)) (word == st.home) (hidden st step.CheckingEntry) (next_check st)
      (λ is fits. omega arith)
      (λ is fits. falls_more count (next_check st).seen (2 ^ 12 * count + 55020 + 3 * (MAXOPEN - st.number))
      (2 ^ 12 * count + 55022 + 3 * (MAXOPEN - st.number))
      (calls_over count (next_check st).state.step (next_check st).state.kind (next_check st).state.number later after) (omega arith)
      (at_check st below kind_is fits))
  plans_take st step.CheckingEntry word below on kind_is = λ fits. omega arith
  plans_take st step.CheckingHolders word below on kind_is =
      by_test (2 ^ 12 * count + 55020 + 3 * (MAXOPEN - st.number)) (is_held word) (acted st (negated E_INVAL)) (next_check st)
      (λ is fits. omega arith) (λ is. at_check st below kind_is)
  plans_take st step.Flushing word below on kind_is = λ fits. omega arith
  plans_take st step.Acting word below on kind_is = λ fits. omega arith
  plans_take st step.Replying word below on kind_is = absurd (false≢true on)
  plans_take st step.Pausing word below on kind_is = absurd (false≢true on)
