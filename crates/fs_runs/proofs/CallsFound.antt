-- What is found last makes a difference of five calls to a run.
use Rattle.std.proofs.Common.{◌≡◌, ◌<◌, ◌≤◌, ◌+◌, ◌/◌, ℕ, suc, Bool, true, false, Option, None, refl, ap, arith}
use Rattle.std.specs.Prelude.{if◌then◌else◌}
use Rattle.fs_jobs.specs.declared.place.TreeState.{TreeState}
use Rattle.fs_jobs.specs.declared.asks.TreeAsk.{TreeAsk}
use Rattle.fs_jobs.specs.declared.asks.TreeAsk.TheVariants as ask
use Rattle.fs_runs.specs.JobCalls.{calls_at, calls_for, found_behind, is_same}
use Rattle.fs_runs.specs.TreePlans.{ask_at}
use Rattle.fs_runs.specs.TreeRuns.{Ends, Memory, at_once, calls_of, later}
use Rattle.fs_runs.proofs.CallsWarm.{calls-within}

-- where the block was found that is asked for, or none was asked for
data Asks (found : Option ℕ) (it : TreeAsk) : Type 0 where
  of_disk : (block : ℕ) → calls_for None it ≡ 6 → 1 ≤ calls_for found it → calls_for found it ≤ 6 → found_behind found it ≡ found_behind None it →
      Asks found it
  of_page : calls_for found it ≡ 1 → calls_for None it ≡ 1 → found_behind found it ≡ found → found_behind None it ≡ None → Asks found it

some-calls : (found : Option ℕ) (block : ℕ) → 1 ≤ calls_at found block
some-calls found block = by (is_same found block)
  where
    by : (b : Bool) → 1 ≤ (if b then 1 else 6)
    by true = omega arith
    by false = omega arith

asks : (found : Option ℕ) (it : TreeAsk) → Asks found it
asks found (ask.Load at) = of_disk (at / 4096) refl (some-calls found (at / 4096)) (calls-within found (ask.Load at)) refl
asks found (ask.LoadByte at) = of_disk (at / 4096) refl (some-calls found (at / 4096)) (calls-within found (ask.LoadByte at)) refl
asks found (ask.Store at word) = of_disk (at / 4096) refl (some-calls found (at / 4096)) (calls-within found (ask.Store at word)) refl
asks found (ask.StoreByte at byte) = of_disk (at / 4096) refl (some-calls found (at / 4096)) (calls-within found (ask.StoreByte at byte)) refl
asks found (ask.Request at) = of_page refl refl refl refl
asks found (ask.HandBack at byte) = of_page refl refl refl refl

step-calls : (found : Option ℕ) (it : TreeAsk) → 1 ≤ calls_for found it
step-calls found it = by (asks found it)
  where
    by : Asks found it → 1 ≤ calls_for found it
    by (of_disk block six some most same) = some
    by (of_page one other stays none) = omega (arith, one)

calls-none : {count answer : ℕ} {after : Memory} {n : ℕ} {state : TreeState} {m : Memory} (found : Option ℕ) (ends : Ends count answer after n state m) →
    (calls_of found ends ≤ calls_of None ends) × (calls_of None ends ≤ calls_of found ends + 5)
unfolding calls_of
calls-none found (at_once state m bounded inside tells leaves) = by (asks found (ask_at state))
  where
    by : Asks found (ask_at state) →
        (calls_for found (ask_at state) ≤ calls_for None (ask_at state)) × (calls_for None (ask_at state) ≤ calls_for found (ask_at state) + 5)
    by (of_disk block six some most same) = (omega (arith, six, most), omega (arith, six, some))
    by (of_page one other stays none) = (omega (arith, one, other), omega (arith, one, other))
calls-none {count} {answer} {after} found (later n state next m bounded inside goes rest) = by (calls-none found rest) (asks found (ask_at state))
  where
    it : TreeAsk
    it = ask_at state

    by : (calls_of found rest ≤ calls_of None rest) × (calls_of None rest ≤ calls_of found rest + 5) → Asks found it →
        (calls_for found it + calls_of (found_behind found it) rest ≤ calls_for None it + calls_of (found_behind None it) rest)
        × (calls_for None it + calls_of (found_behind None it) rest ≤ calls_for found it + calls_of (found_behind found it) rest + 5)
    by both (of_disk block six some most same) =
        let e : calls_of (found_behind found it) rest ≡ calls_of (found_behind None it) rest = ap (λ (f : Option ℕ). calls_of f rest) same in
        (omega (arith, six, most, e), omega (arith, six, some, e))
    by both (of_page one other stays none) =
        let e : calls_of (found_behind found it) rest ≡ calls_of found rest = ap (λ (f : Option ℕ). calls_of f rest) stays in
        let g : calls_of (found_behind None it) rest ≡ calls_of None rest = ap (λ (f : Option ℕ). calls_of f rest) none in
        let low = both.0 in
        let high = both.1 in
        (omega (arith, one, other, e, g, low), omega (arith, one, other, e, g, high))

-- So a run's calls, where nothing is known to be found, are fewer behind each step.
pub calls-fall : {count answer : ℕ} {after : Memory} {n : ℕ} {next : TreeState} {m : Memory} (it : TreeAsk) (rest : Ends count answer after n next m) →
    calls_of None rest < calls_for None it + calls_of (found_behind None it) rest
calls-fall {count} {answer} {after} {n} {next} {m} it rest = by (asks None it) (calls-none (found_behind None it) rest)
  where
    by : Asks None it →
        (calls_of (found_behind None it) rest ≤ calls_of None rest) × (calls_of None rest ≤ calls_of (found_behind None it) rest + 5) →
        calls_of None rest < calls_for None it + calls_of (found_behind None it) rest
    by (of_disk block six some most same) both = let high = both.1 in omega (arith, six, high)
    by (of_page one other stays none) both =
        let e : calls_of (found_behind None it) rest ≡ calls_of None rest = ap (λ (f : Option ℕ). calls_of f rest) none in omega (arith, one, e)

-- each step is a call at least
pub steps-calls : {count answer : ℕ} {after : Memory} {n : ℕ} {state : TreeState} {m : Memory} (found : Option ℕ) (ends : Ends count answer after n state m) →
    n ≤ calls_of found ends
unfolding calls_of
steps-calls found (at_once state m bounded inside tells leaves) = step-calls found (ask_at state)
steps-calls found (later n state next m bounded inside goes rest) =
    more (calls_for found (ask_at state)) (calls_of (found_behind found (ask_at state)) rest) n (step-calls found (ask_at state))
    (steps-calls (found_behind found (ask_at state)) rest)
  where
    more : (a b n : ℕ) → 1 ≤ a → n ≤ b → suc n ≤ a + b
    more a b n one rest = omega (arith, one, rest)
