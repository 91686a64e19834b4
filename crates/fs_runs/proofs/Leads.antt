-- Runs of a job from one state to another, put behind each other, and what the changes of a record's blocks weigh that begin on the way.
use Rattle.std.proofs.Common.{◌≡◌, ◌∙◌, ◌+◌, ℕ, suc, true, arith, subst, ap}
use Rattle.fs_jobs.specs.declared.place.TreeState.{TreeState}
use Rattle.fs_jobs.specs.declared.asks.TreeNext.TheVariants.{Answer, GoOn}
use Rattle.fs_jobs.specs.TreeBounds.{is_bounded}
use Rattle.fs_runs.specs.JobCalls.{weight}
use Rattle.fs_runs.specs.TreePlans.{ask_at, next_at}
use Rattle.fs_runs.specs.TreeRuns.{IsInside, Memory, memory_after, reply_of}

-- From a state and a memory the job comes to others; so much the changes weigh that begin on the way.
pub data LeadsIn (count : ℕ) (to : TreeState) (after : Memory) : ℕ → TreeState → Memory → Type 0 where
  here : LeadsIn count to after 0 to after
  on : {weighs : ℕ} → (state next : TreeState) (m : Memory) → is_bounded state ≡ true → IsInside count (ask_at state) →
      next_at state (reply_of (ask_at state) m) ≡ GoOn next → LeadsIn count to after weighs next (memory_after (ask_at state) m) →
      LeadsIn count to after (weight state + weighs) state m

-- From here the job ends with an answer: so much its changes weigh, and so many steps it makes.
pub data EndsIn (count : ℕ) (answer : ℕ) (after : Memory) : ℕ → ℕ → TreeState → Memory → Type 0 where
  at_once : (state : TreeState) (m : Memory) → is_bounded state ≡ true → IsInside count (ask_at state) →
      next_at state (reply_of (ask_at state) m) ≡ Answer answer →
      memory_after (ask_at state) m ≡ after → EndsIn count answer after (weight state) 1 state m
  later : {weighs : ℕ} → (n : ℕ) (state next : TreeState) (m : Memory) → is_bounded state ≡ true → IsInside count (ask_at state) →
      next_at state (reply_of (ask_at state) m) ≡ GoOn next → EndsIn count answer after weighs n next (memory_after (ask_at state) m) →
      EndsIn count answer after (weight state + weighs) (suc n) state m

-- no change begins on the way
abbrev pub Leads : ℕ → TreeState → Memory → TreeState → Memory → Type 0
Leads count to after state m = LeadsIn count to after 0 state m

added : (a b c : ℕ) → a + (b + c) ≡ a + b + c
added a b c = omega arith

none : (n : ℕ) → n ≡ 0 + n
none n = omega arith

-- one run behind another
pub leads_on : {count : ℕ} {to further : TreeState} {mid after : Memory} {one two : ℕ} (state : TreeState) (m : Memory) →
    LeadsIn count to mid one state m → LeadsIn count further after two to mid → LeadsIn count further after (one + two) state m
leads_on {count} {to} {further} {mid} {after} {one} {two} state m here rest =
    subst (λ (k : ℕ). LeadsIn count further after k state m) (none two) rest
leads_on {count} {to} {further} {mid} {after} {one} {two} state m (on {weighs} s next n bounded inside goes run) rest =
    subst (λ (k : ℕ). LeadsIn count further after k s n) (added (weight s) weighs two)
    (on s next n bounded inside goes (leads_on next (memory_after (ask_at s) n) run rest))

-- the end behind a run
pub leads_to_end : {count answer : ℕ} {to : TreeState} {mid after : Memory} {one two : ℕ} (state : TreeState) (m : Memory) →
    LeadsIn count to mid one state m → (k : ℕ) → EndsIn count answer after two k to mid → (n : ℕ) × EndsIn count answer after (one + two) n state m
leads_to_end {count} {answer} {to} {mid} {after} {one} {two} state m here k ends =
    (k, subst (λ (i : ℕ). EndsIn count answer after i k state m) (none two) ends)
leads_to_end {count} {answer} {to} {mid} {after} {one} {two} state m (on {weighs} s next n bounded inside goes run) k ends =
    let rest = leads_to_end next (memory_after (ask_at s) n) run k ends in (
      suc rest.0,
      subst (λ (i : ℕ). EndsIn count answer after i (suc rest.0) s n) (added (weight s) weighs two)
          (later rest.0 s next n bounded inside goes rest.1),
    )

-- how many steps a run is
unfoldable pub steps_of : {count : ℕ} {to : TreeState} {after : Memory} {weighs : ℕ} {state : TreeState} {m : Memory} →
    LeadsIn count to after weighs state m → ℕ
steps_of here = 0
steps_of (on state next m bounded inside goes run) = suc (steps_of run)

-- so many more than behind it
pub end_steps : {count answer : ℕ} {to : TreeState} {mid after : Memory} {one two : ℕ} (state : TreeState) (m : Memory)
    (run : LeadsIn count to mid one state m) (k : ℕ) (ends : EndsIn count answer after two k to mid) → (leads_to_end state m run k ends).0 ≡ steps_of run + k
unfolding leads_to_end steps_of
end_steps state m here k ends = none k
end_steps state m (on s next n bounded inside goes run) k ends =
    ap suc (end_steps next (memory_after (ask_at s) n) run k ends) ∙ one_more (steps_of run) k
  where
    one_more : (a b : ℕ) → suc (a + b) ≡ suc a + b
    one_more a b = omega arith
