-- Steps of a job, one by one, and what its numbers keep to.
use Rattle.std.proofs.Common.{◌≡◌, ◌∙◌, ◌+◌, ◌<◌, ◌≤◌, inl, inr, ℕ, zero, suc, true, refl, sym, ap, subst, arith, add-one}
use Rattle.std.proofs.lemmas.Bool.Decides.{nat_tests}
use Rattle.jos_base.specs.Words.{upd}
use Rattle.jos_base.proofs.Bounds.{below_or_last}
use Rattle.jos_base.proofs.Maps.{upd-all, upd-at, upd-other}
use Rattle.fs_jobs.specs.declared.place.Changed.{Changed}
use Rattle.fs_jobs.specs.declared.place.FilePlace.{FilePlace}
use Rattle.fs_jobs.specs.declared.place.Job.{Job}
use Rattle.fs_jobs.specs.declared.place.TreeState.{TreeState}
use Rattle.fs_jobs.specs.declared.asks.TreeNext.TheVariants.{Answer, GoOn}
use Rattle.fs_jobs.specs.TreeBounds.{is_block, is_bounded, is_bounded_changed, is_bounded_file, is_bounded_job, is_count, is_place}
use Rattle.fs_runs.specs.JobCalls.{weight}
use Rattle.fs_runs.specs.TreePlans.{ask_at, next_at}
use Rattle.fs_runs.specs.TreeRuns.{IsInside, Memory, memory_after, reply_of}
use Rattle.fs_jobs.specs.TreeTests.{low_byte}
use Rattle.fs_runs.proofs.Leads.{EndsIn, Leads, at_once, later, leads_to_end}
use Rattle.fs_runs.proofs.Pieces.{EndsAfter, EndsWith, at_file}

-- ---- steps

-- an end behind a run
pub ends_on : {count answer : ℕ} {to : TreeState} {mid after : Memory} (state : TreeState) (m : Memory) → Leads count to mid state m →
    EndsWith count answer after to mid → EndsWith count answer after state m
ends_on state m run ends = leads_to_end state m run ends.0 ends.1

-- behind one step
pub ends_behind : {count answer : ℕ} {after : Memory} (state next : TreeState) (m now : Memory) → is_bounded state ≡ true →
    IsInside count (ask_at state) → next_at state (reply_of (ask_at state) m) ≡ GoOn next → memory_after (ask_at state) m ≡ now →
    EndsWith count answer after next now → EndsAfter count answer after (weight state + 0) state m
ends_behind {count} {answer} {after} state next m now bounded inside goes is ends =
    (suc ends.0, later ends.0 state next m bounded inside goes (subst (λ (x : Memory). EndsIn count answer after 0 ends.0 next x) (sym is) ends.1))

-- with it
pub ends_here : {count answer : ℕ} {after : Memory} (state : TreeState) (m : Memory) → is_bounded state ≡ true →
    IsInside count (ask_at state) → next_at state (reply_of (ask_at state) m) ≡ Answer answer → memory_after (ask_at state) m ≡ after →
    EndsAfter count answer after (weight state) state m
ends_here state m bounded inside goes is = (1, at_once state m bounded inside goes is)

-- ---- bounds

pub is-place : (n : ℕ) → n < 268435456 → is_place n ≡ true
is-place n less = grind (arith, nat_tests)

pub is-count : (n : ℕ) → n < 1048576 → is_count n ≡ true
is-count n less = grind (arith, nat_tests)

pub is-block : (n : ℕ) → n < 65536 → is_block n ≡ true
is-block n less = grind (arith, nat_tests)

pub bounded-file : (j : Job) (count : ℕ) (c : Changed) (p : FilePlace) → count ≤ 16384 → is_bounded_job j ≡ true →
    is_bounded_changed c ≡ true → is_bounded_file p ≡ true → is_bounded (at_file j count c p) ≡ true
bounded-file j count c p few job_is changed_is place_is =
    let counted : is_block count ≡ true = is-block count (omega (arith, few)) in rw (counted, job_is, changed_is, place_is) refl

-- ---- the page, of which so many bytes at its begin were handed back

pub handed : (ℕ → ℕ) → (ℕ → ℕ) → ℕ → ℕ → ℕ
handed page v zero = page
handed page v (suc n) = upd (handed page v n) n (v n)

pub handed-none : (page v : ℕ → ℕ) → handed page v 0 ≡ page
unfolding handed
handed-none page v = refl

pub handed-more : (page v : ℕ → ℕ) (n : ℕ) → handed page v (n + 1) ≡ upd (handed page v n) n (v n)
unfolding handed
handed-more page v n = ap (handed page v) (add-one n)

pub handed-at : (page v : ℕ → ℕ) (n k : ℕ) → k < n → handed page v n k ≡ v k
unfolding handed
handed-at page v zero k less = absurd (omega (arith, less))
handed-at page v (suc n) k less = elim (below_or_last k n less) [
  | inl below ↦ upd-other (handed page v n) n (v n) k (λ e. omega (arith, e, below)) ∙ handed-at page v n k below
  | inr last ↦ ap (upd (handed page v n) n (v n)) last ∙ upd-at (handed page v n) n (v n) ∙ ap v (sym last)
]

-- and the rest of it
pub handed-past : (page v : ℕ → ℕ) (n k : ℕ) → n ≤ k → handed page v n k ≡ page k
unfolding handed
handed-past page v zero k past = refl
handed-past page v (suc n) k past =
    upd-other (handed page v n) n (v n) k (λ e. omega (arith, e, past)) ∙ handed-past page v n k (omega (arith, past))

pub handed-small : (page v : ℕ → ℕ) (n : ℕ) → ((q : ℕ) → page q < 256) → ((k : ℕ) → v k < 256) → (q : ℕ) → handed page v n q < 256
unfolding handed
handed-small page v zero small each q = small q
handed-small page v (suc n) small each q =
    upd-all (λ k x. x < 256) (handed page v n) n (v n) (each n) (λ k ne. handed-small page v n small each k) q

-- a byte is its lowest eight bits
pub low-byte : (n : ℕ) → n < 256 → low_byte n ≡ n
low-byte n less = omega (arith, less)
