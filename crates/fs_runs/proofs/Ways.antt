-- What is left of a run, behind its next step.
use Rattle.std.proofs.Common.{◌≡◌, ◌∙◌, ◌<◌, ◌≤◌, ◌+◌, ℕ, suc, Bool, true, false, Option, None, refl, sym, ap, subst, arith}
use Rattle.std.proofs.lemmas.Bool.{false≢true}
use Rattle.fs_jobs.specs.declared.place.TreeState.{TreeState}
use Rattle.fs_jobs.specs.declared.asks.TreeAsk.{TreeAsk}
use Rattle.fs_jobs.specs.declared.asks.TreeNext.{TreeNext}
use Rattle.fs_jobs.specs.declared.asks.TreeNext.TheVariants.{Answer, GoOn}
use Rattle.fs_jobs.specs.TreeBounds.{is_bounded}
use Rattle.fs_runs.specs.JobCalls.{act_calls_max, calls_for, found_behind, job_steps_max}
use Rattle.fs_runs.specs.TreePlans.{ask_at, next_at}
use Rattle.fs_runs.specs.TreeRuns.{Ends, FewerCalls, HasActed, IsInside, Memory, RunsGoOn, WaysGoOn}
use Rattle.fs_runs.specs.TreeRuns.{at_once, calls_of, later, memory_after, reply_of}
use Rattle.fs_runs.proofs.CallsFound.{calls-fall}

is_answer : TreeNext → Bool
is_answer (Answer word) = true
is_answer (GoOn next) = false

-- a job does not answer where it goes on
clash : {X : Type 0} (t : TreeNext) (next : TreeState) (answer : ℕ) → t ≡ GoOn next → t ≡ Answer answer → X
unfolding is_answer
clash t next answer goes ends = absurd (false≢true (sym (ap is_answer goes) ∙ ap is_answer ends))

same_next : (t : TreeNext) (a b : TreeState) → t ≡ GoOn a → t ≡ GoOn b → a ≡ b
same_next t a b one other = let is : ◌≡◌ {A = TreeNext} (GoOn a) (GoOn b) = sym one ∙ other in let it : ◌≡◌ {A = TreeState} a b = cc in it

same_answer : (t : TreeNext) (a b : ℕ) → t ≡ Answer a → t ≡ Answer b → a ≡ b
same_answer t a b one other = let is : ◌≡◌ {A = TreeNext} (Answer a) (Answer b) = sym one ∙ other in let it : ◌≡◌ {A = ℕ} a b = cc in it

-- ---- a run, by its end

fewer : (n k : ℕ) → suc n ≤ k → n ≤ k
fewer n k le = omega (arith, le)

-- the calls behind a step are no more than all
less : (n k most : ℕ) → n < k → k ≤ most → n ≤ most
less n k most lt le = omega (arith, lt, le)

-- what is left behind a step: one step fewer, and the calls but those of the step
record Further (count answer : ℕ) (after : Memory) (left : ℕ) (it : TreeAsk) (before : Option ℕ → ℕ) (next : TreeState) (m : Memory) : Type 0 where
  some : ℕ
  rest : Ends count answer after some next m
  one : suc some ≡ left
  calls : FewerCalls it before (λ found. calls_of found rest)
  few : calls_of None rest < before None

by_end : (count : ℕ) (state : TreeState) (m : Memory) (left answer : ℕ) (after : Memory) (ends : Ends count answer after left state m) →
    (is_bounded state ≡ true) × IsInside count (ask_at state)
    × ((next : TreeState) → next_at state (reply_of (ask_at state) m) ≡ GoOn next →
    Further count answer after left (ask_at state) (λ found. calls_of found ends) next (memory_after (ask_at state) m))
    × ((word : ℕ) → next_at state (reply_of (ask_at state) m) ≡ Answer word → (word ≡ answer) × (memory_after (ask_at state) m ≡ after))
unfolding calls_of
by_end count state m left answer after (at_once s n bounded inside tells leaves) = (
  bounded,
  inside,
  (λ next goes. clash (next_at state (reply_of (ask_at state) m)) next answer goes tells),
  (λ word is. (same_answer (next_at state (reply_of (ask_at state) m)) word answer is tells, leaves)),
)
by_end count state m left answer after (later n s next k bounded inside goes rest) = (
  bounded,
  inside,
  (λ other is.
      subst
      (λ (z : TreeState).
      Further count answer after (suc n) (ask_at state) (λ found. calls_for found (ask_at state) + calls_of (found_behind found (ask_at state)) rest) z
      (memory_after (ask_at state) m))
      (same_next (next_at state (reply_of (ask_at state) m)) next other goes is)
      (record { some = n; rest = rest; one = refl; calls = λ found. refl; few = calls-fall (ask_at state) rest })),
  (λ word is. clash (next_at state (reply_of (ask_at state) m)) next word goes is),
)

-- ---- both kinds of job

pub runs_go_on : RunsGoOn
runs_go_on most count answer after state m run =
    let all = by_end count state m run.left answer after run.ends in (
      all.0,
      all.1,
      (λ next goes.
          let f = all.2 next goes in (
            record {
              left = f.some;
              soon = fewer f.some (job_steps_max count) (subst (λ (n : ℕ). n ≤ job_steps_max count) (sym f.one) run.soon);
              ends = f.rest;
              few = less (calls_of None f.rest) (calls_of None run.ends) most f.few run.few;
            },
            f.one,
            f.calls,
          )),
      all.3,
    )

-- and so does one that is on its way
pub ways_go_on : WaysGoOn
ways_go_on count is_open act before state m way =
    let all = by_end count state m way.left way.answer way.after way.ends in (
      all.0,
      all.1,
      (λ next goes.
          let f = all.2 next goes in (
            record {
              left = f.some;
              soon = fewer f.some (job_steps_max count) (subst (λ (n : ℕ). n ≤ job_steps_max count) (sym f.one) way.soon);
              answer = way.answer;
              after = way.after;
              ends = f.rest;
              few = less (calls_of None f.rest) (calls_of None way.ends) (act_calls_max act count) f.few way.few;
              acted = way.acted;
            },
            f.one,
            f.calls,
          )),
      (λ word is.
          let ended = all.3 word is in
          subst (λ (w : ℕ). HasActed is_open act before w (memory_after (ask_at state) m)) (sym ended.0)
          (subst (λ (z : Memory). HasActed is_open act before way.answer z) (sym ended.1) way.acted)),
    )
