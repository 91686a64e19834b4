-- Where the server goes, the number of a place is one of the table's, and a job begins just where one is under way then.
use Rattle.std.proofs.Common.{◌≡◌, ◌<◌, ◌==◌, ◌&&◌, ℕ, Bool, true, false, not, Option, Some, None, refl, arith, if◌then◌else◌}
use Rattle.std.proofs.lemmas.Bool.Decides.{nat_tests}
use Rattle.std.specs.Prelude.{is_some}
use Rattle.jos_base.specs.declared.numbers.TheConstants.{E_INVAL, E_IPC_NOT_RECV, E_MAX_OPEN, E_NO_MEM}
use Rattle.jos_base.specs.Words.{negated}
use Rattle.lib_os.specs.declared.numbers.TheConstants.{MAXOPEN}
use Rattle.lib_os.specs.declared.progress.Progress.TheVariants as progress
use Rattle.lib_os.specs.declared.request.RequestKind.{RequestKind}
use Rattle.lib_os.specs.declared.request.RequestKind.TheVariants as kind
use Rattle.fs_jobs.specs.declared.place.Job.TheVariants as job
use Rattle.fs_requests.specs.declared.plan.ServerNext.{ServerNext}
use Rattle.fs_requests.specs.declared.state.ServerState.{ServerState}
use Rattle.fs_requests.specs.declared.state.ServerStep.{ServerStep}
use Rattle.fs_requests.specs.declared.state.ServerStep.TheVariants as step
use Rattle.fs_requests.specs.ServerPlans.{acted, acting, begun, count_by, found_by, further, hidden, is_count, is_held, is_last, next_check, next_for}
use Rattle.fs_requests.specs.ServerPlans.{next_holders, next_replied, next_sized, request_by, shown, worked_by}
use Rattle.fs_seen.specs.ServerSees.{is_working}

pub record GoesWell (next : ServerNext) : Type 0 where
  pub below : next.state.number < MAXOPEN
  pub begins : is_working next.state.step ≡ is_some next.begins

-- by a test
by_test : (t : Bool) (x y : ServerNext) → (t ≡ true → GoesWell x) → (t ≡ false → GoesWell y) → GoesWell (if t then x else y)
by_test true x y first second = first refl
by_test false x y first second = second refl

module _ (st : ServerState) (below : st.number < MAXOPEN) where
  well_request : (k : Option RequestKind) → GoesWell (request_by k (record st { number = 0 }))
  well_request None = record { below = omega arith; begins = refl }
  well_request (Some kind.Open) = record { below = omega arith; begins = refl }
  well_request (Some kind.SetSize) = record { below = omega arith; begins = refl }
  well_request (Some kind.Read) = record { below = omega arith; begins = refl }
  well_request (Some kind.Write) = record { below = omega arith; begins = refl }
  well_request (Some kind.Stat) = record { below = omega arith; begins = refl }
  well_request (Some kind.Remove) = record { below = omega arith; begins = refl }
  well_request (Some kind.Sync) = record { below = omega arith; begins = refl }
  well_request (Some kind.Seek) = record { below = omega arith; begins = refl }
  well_request (Some kind.ReadAt) = record { below = omega arith; begins = refl }

  well_count : (k : Option RequestKind) (word : ℕ) → GoesWell (count_by k st word)
  well_count None word = record { below = below; begins = refl }
  well_count (Some kind.Open) word = record { below = below; begins = refl }
  well_count (Some kind.SetSize) word = record { below = below; begins = refl }
  well_count (Some kind.Read) word = record { below = below; begins = refl }
  well_count (Some kind.Write) word = record { below = below; begins = refl }
  well_count (Some kind.Stat) word = record { below = below; begins = refl }
  well_count (Some kind.Remove) word = record { below = below; begins = refl }
  well_count (Some kind.Sync) word = record { below = below; begins = refl }
  well_count (Some kind.Seek) word = record { below = below; begins = refl }
  well_count (Some kind.ReadAt) word = record { below = below; begins = refl }

  well_acting : (answer : ℕ) → GoesWell (acting st answer)
  well_acting answer = record { below = below; begins = refl }

  well_moved : (answer : ℕ) → GoesWell (if is_count answer then hidden (record st { count = answer }) step.Advancing else acting st answer)
  well_moved answer =
      by_test (is_count answer) (hidden (record st { count = answer }) step.Advancing) (acting st answer)
      (λ is. record { below = below; begins = refl }) (λ is. well_acting answer)

  well_worked : (k : Option RequestKind) (answer : ℕ) → GoesWell (worked_by k st answer)
  well_worked None answer = well_acting answer
  well_worked (Some kind.Open) answer =
      by_test (answer == 0) (begun st step.Finding job.Find) (acting st answer) (λ is. record { below = below; begins = refl })
      (λ is. well_acting answer)
  well_worked (Some kind.SetSize) answer = well_acting answer
  well_worked (Some kind.Read) answer = well_moved answer
  well_worked (Some kind.Write) answer = well_moved answer
  well_worked (Some kind.Stat) answer = well_acting answer
  well_worked (Some kind.Remove) answer = well_acting answer
  well_worked (Some kind.Sync) answer = well_acting answer
  well_worked (Some kind.Seek) answer = well_acting answer
  well_worked (Some kind.ReadAt) answer = well_acting answer

  well_going : (at : ServerStep) → is_working at ≡ false → (answer : ℕ) →
      GoesWell (if is_count answer then hidden (record st { home = answer }) at else acting st answer)
  well_going at off answer =
      by_test (is_count answer) (hidden (record st { home = answer }) at) (acting st answer) (λ is. record { below = below; begins = off })
      (λ is. well_acting answer)

  well_found : (k : Option RequestKind) (answer : ℕ) → GoesWell (found_by k st answer)
  well_found None answer = well_acting answer
  well_found (Some kind.Open) answer = well_going step.StoringRecord refl answer
  well_found (Some kind.SetSize) answer = well_acting answer
  well_found (Some kind.Read) answer = well_acting answer
  well_found (Some kind.Write) answer = well_acting answer
  well_found (Some kind.Stat) answer = well_acting answer
  well_found (Some kind.Remove) answer = well_going step.CheckingRecord refl answer
  well_found (Some kind.Sync) answer = well_acting answer
  well_found (Some kind.Seek) answer = well_acting answer
  well_found (Some kind.ReadAt) answer = well_acting answer

  well_sized : (size : ℕ) → GoesWell (next_sized st size)
  well_sized size =
      by_test (is_count size) (hidden (record st { count = size }) step.StoringSize) (acting st size)
      (λ is. record { below = below; begins = refl }) (λ is. well_acting size)

  further_below : is_last st ≡ false → (further st).number < MAXOPEN
  further_below not_last = grind (arith, nat_tests)

  well_holders : (holders : ℕ) → GoesWell (next_holders st holders)
  well_holders holders =
      by_test (not (is_held holders)) (shown st step.ReadingMode)
      (if is_last st then acted st (negated E_MAX_OPEN) else shown (further st) step.LookingRecord)
      (λ is. record { below = below; begins = refl })
      (λ is. by_test (is_last st) (acted st (negated E_MAX_OPEN)) (shown (further st) step.LookingRecord)
      (λ last. record { below = below; begins = refl }) (λ not_last. record { below = further_below not_last; begins = refl }))

  well_check : GoesWell (next_check st)
  well_check =
      by_test (is_last st) (begun st step.Working (job.Remove st.home)) (hidden (further st) step.CheckingRecord)
      (λ last. record { below = below; begins = refl }) (λ not_last. record { below = further_below not_last; begins = refl })

  well_replied : (answer : ℕ) → GoesWell (next_replied st answer)
  well_replied answer =
      by_test (answer == negated E_IPC_NOT_RECV) (record { state = record st { step = step.Pausing }; begins = None; seen = progress.Waited })
      (if (answer == negated E_NO_MEM) && not (st.count == answer) then hidden
      (record st { count = answer }) step.Replying else shown st step.Releasing)
      (λ is. record { below = below; begins = refl })
      (λ is. by_test ((answer == negated E_NO_MEM) && not (st.count == answer)) (hidden (record st { count = answer }) step.Replying)
      (shown st step.Releasing) (λ none. record { below = below; begins = refl }) (λ other. record { below = below; begins = refl }))

-- from each step
pub goes_well : (st : ServerState) (at : ServerStep) (word : ℕ) → st.number < MAXOPEN → GoesWell (next_for st at word)
goes_well st step.Releasing word below = record { below = below; begins = refl }
goes_well st step.Receiving word below = record { below = below; begins = refl }
goes_well st step.ReadingKind word below = record { below = below; begins = refl }
goes_well st step.ReadingClient word below = well_request (record st { client = word }) below st.kind
goes_well st step.ReadingFile word below = record { below = omega arith; begins = refl }
goes_well st step.ReadingOffset word below = record { below = below; begins = refl }
goes_well st step.ReadingCount word below = well_count st below st.kind word
goes_well st step.ReadingRecord word below = record { below = below; begins = refl }
goes_well st step.LookingRecord word below =
    by_test (word == 0) (shown st step.TakingPage) (hidden st step.LookingEntry) (λ is. record { below = below; begins = refl })
    (λ is. record { below = below; begins = refl })
goes_well st step.LookingEntry word below = record { below = below; begins = refl }
goes_well st step.LookingHolders word below = well_holders st below word
goes_well st step.TakingPage word below =
    by_test (word == 0) (hidden st step.ReadingMode) (acting st word) (λ is. record { below = below; begins = refl })
    (λ is. record { below = below; begins = refl })
goes_well st step.ReadingMode word below = record { below = below; begins = refl }
goes_well st step.Working word below = well_worked st below st.kind word
goes_well st step.Finding word below = well_found st below st.kind word
goes_well st step.StoringRecord word below = record { below = below; begins = refl }
goes_well st step.StoringDevice word below = record { below = below; begins = refl }
goes_well st step.ReadingModeAgain word below = record { below = below; begins = refl }
goes_well st step.StoringMode word below = record { below = below; begins = refl }
goes_well st step.StoringFile word below = record { below = below; begins = refl }
goes_well st step.ReadingRecordAgain word below = record { below = below; begins = refl }
goes_well st step.Sizing word below = well_sized st below word
goes_well st step.StoringSize word below = record { below = below; begins = refl }
goes_well st step.Advancing word below = record { below = below; begins = refl }
goes_well st step.StoringOffset word below = record { below = below; begins = refl }
goes_well st step.CheckingRecord word below =
    by_test (word == st.home) (hidden st step.CheckingEntry) (next_check st) (λ is. record { below = below; begins = refl })
    (λ is. well_check st below)
goes_well st step.CheckingEntry word below = record { below = below; begins = refl }
goes_well st step.CheckingHolders word below =
    by_test (is_held word) (acted st (negated E_INVAL)) (next_check st) (λ is. record { below = below; begins = refl }) (λ is. well_check st below)
goes_well st step.Flushing word below = record { below = below; begins = refl }
goes_well st step.Acting word below = record { below = below; begins = refl }
goes_well st step.Replying word below = well_replied st below word
goes_well st step.Pausing word below = record { below = below; begins = refl }
