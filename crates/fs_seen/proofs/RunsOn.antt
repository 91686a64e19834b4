-- What is left of a run behind its step, whatever job it is.
use Rattle.std.proofs.Common.{◌≡◌, ◌∙◌, ◌+◌, ℕ, suc, Bool, true, false, Option, refl, sym, ap, subst}
use Rattle.std.proofs.lemmas.Bool.{false≢true}
use Rattle.fs_jobs.specs.declared.place.TreeState.{TreeState}
use Rattle.fs_jobs.specs.declared.asks.TreeAsk.{TreeAsk}
use Rattle.fs_jobs.specs.declared.asks.TreeNext.{TreeNext}
use Rattle.fs_jobs.specs.declared.asks.TreeNext.TheVariants.{Answer, GoOn}
use Rattle.fs_runs.specs.JobCalls.{calls_for, found_behind}
use Rattle.fs_runs.specs.TreePlans.{ask_at, next_at}
use Rattle.fs_runs.specs.TreeRuns.{Ends, FewerCalls, Memory, at_once, calls_of, later, memory_after, reply_of}

-- one step fewer, and the calls but those of the step
pub record RunsOn (count answer : ℕ) (after : Memory) (most : ℕ) (it : TreeAsk) (before : Option ℕ → ℕ) (next : TreeState) (m : Memory) : Type 0 where
  pub left : ℕ
  pub ends : Ends count answer after left next m
  pub one : suc left ≡ most
  pub calls : FewerCalls it before (λ found. calls_of found ends)

is_answer : TreeNext → Bool
is_answer (Answer word) = true
is_answer (GoOn next) = false

-- a job does not answer where it goes on
clash : {X : Type 0} (t : TreeNext) (next : TreeState) (answer : ℕ) → t ≡ GoOn next → t ≡ Answer answer → X
unfolding is_answer
clash t next answer goes ends = absurd (false≢true (sym (ap is_answer goes) ∙ ap is_answer ends))

same_next : (t : TreeNext) (a b : TreeState) → t ≡ GoOn a → t ≡ GoOn b → a ≡ b
same_next t a b one other = let is : ◌≡◌ {A = TreeNext} (GoOn a) (GoOn b) = sym one ∙ other in let it : ◌≡◌ {A = TreeState} a b = cc in it

pub run_goes_on : (count answer : ℕ) (after : Memory) (left : ℕ) (state next : TreeState) (m : Memory) (ends : Ends count answer after left state m) →
    next_at state (reply_of (ask_at state) m) ≡ GoOn next →
    RunsOn count answer after left (ask_at state) (λ found. calls_of found ends) next (memory_after (ask_at state) m)
unfolding calls_of
run_goes_on count answer after left state next m (at_once s k bounded inside tells leaves) goes =
    clash (next_at state (reply_of (ask_at state) m)) next answer goes tells
run_goes_on count answer after left state next m (later n s on k bounded inside goes rest) is =
    subst
    (λ (z : TreeState).
    RunsOn count answer after (suc n) (ask_at state) (λ found. calls_for found (ask_at state) + calls_of (found_behind found (ask_at state)) rest) z
    (memory_after (ask_at state) m))
    (same_next (next_at state (reply_of (ask_at state) m)) on next goes is)
    (record { left = n; ends = rest; one = refl; calls = λ found. refl })
