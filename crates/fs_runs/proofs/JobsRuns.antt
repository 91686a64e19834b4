-- From before one change of a record's blocks to before the next.
use Rattle.std.proofs.Common.{◌≡◌, ◌∙◌, ◌<◌, ◌≤◌, ◌+◌, ◌-◌, ◌*◌, ◌%◌, ◌⊎◌, inl, inr, ℕ, zero, suc, Bool, true, false, not, [], ◌∷◌}
use Rattle.std.proofs.Common.{refl, ap, arith, get_or, length}
use Rattle.std.specs.Prelude.{◌==◌, ◌&&◌, nat_le, nat_lt, if◌then◌else◌, slice_index}
use Rattle.std.specs.Int.{w32, to_le_bytes}
use Rattle.std.proofs.lemmas.Bool.Decides.{nat_tests}
use Rattle.jos_base.specs.Words.{upd}
use Rattle.fs_layout.specs.declared.numbers.TheConstants.{MAXFILESIZE}
use Rattle.fs_layout.specs.DiskImage.{indirect_of, is_data_block, size_of}
use Rattle.fs_acts.specs.BlockActs.{with_bytes, stored}
use Rattle.fs_jobs.specs.declared.place.Changed.{Changed}
use Rattle.fs_jobs.specs.declared.place.FilePlace.{FilePlace}
use Rattle.fs_jobs.specs.declared.place.FilePlace.TheVariants as file
use Rattle.fs_jobs.specs.declared.place.Job.{Job}
use Rattle.fs_jobs.specs.declared.place.TreeState.{TreeState}
use Rattle.fs_jobs.specs.declared.asks.TreeAsk.{TreeAsk}
use Rattle.fs_jobs.specs.declared.asks.TreeAsk.TheVariants as ask
use Rattle.fs_jobs.specs.declared.asks.TreeNext.TheVariants.{GoOn}
use Rattle.fs_jobs.specs.declared.tests.TheConstants.{DAMAGED}
use Rattle.fs_changes.specs.ChangePlans.{next_change}
use Rattle.fs_jobs.specs.TreeBounds.{is_bounded, is_bounded_changed, is_bounded_file, is_bounded_job, is_block, is_place}
use Rattle.fs_runs.specs.TreePlans.{ask_at}
use Rattle.fs_runs.specs.TreeRuns.{AreSmall, Memory, memory_after}
use Rattle.fs_jobs.specs.TreeTests.{low_byte, refused}
use Rattle.fs_runs.proofs.Leads.{Leads, LeadsIn, here, on}
use Rattle.fs_runs.proofs.Pieces.{LiesOn, at_file}
use Rattle.fs_runs.proofs.JobsFacts.{Facts, changed, count-small, indirect-is, read_now, bounded-changed, home-small, size-small}

-- ---- bytes stay small

four-small : (a b c d : ℕ) → a < 256 → b < 256 → c < 256 → d < 256 → (k : ℕ) → get_or (a ∷ b ∷ c ∷ d ∷ []) k 0 < 256
four-small a b c d e f g h zero = e
four-small a b c d e f g h (suc zero) = f
four-small a b c d e f g h (suc (suc zero)) = g
four-small a b c d e f g h (suc (suc (suc zero))) = h
four-small a b c d e f g h (suc (suc (suc (suc k)))) = omega arith

le-small : (word k : ℕ) → slice_index (to_le_bytes w32 word) k < 256
le-small word k = four-small _ _ _ _ (omega arith) (omega arith) (omega arith) (omega arith) k

with-small : (byte : ℕ → ℕ) (at word : ℕ) → ((q : ℕ) → byte q < 256) → (q : ℕ) → with_bytes byte at (to_le_bytes w32 word) q < 256
unfolding with_bytes
with-small byte at word small q = by (nat_le at q && nat_lt q (at + length (to_le_bytes w32 word)))
  where
    by : (b : Bool) → (if b then slice_index (to_le_bytes w32 word) (q - at) else byte q) < 256
    by true = le-small word (q - at)
    by false = small q

upd-small : (byte : ℕ → ℕ) (at value : ℕ) → ((q : ℕ) → byte q < 256) → (q : ℕ) → upd byte at (low_byte value) q < 256
unfolding upd
upd-small byte at value small q = by (q == at)
  where
    by : (b : Bool) → (if b then value % 256 else byte q) < 256
    by true = omega arith
    by false = small q

step-small : (it : TreeAsk) (m : Memory) → AreSmall m → AreSmall (memory_after it m)
unfolding stored
step-small (ask.Load at) m small = small
step-small (ask.LoadByte at) m small = small
step-small (ask.Store at word) m small = (with-small m.disk at word small.0, small.1)
step-small (ask.StoreByte at byte) m small = (upd-small m.disk at byte small.0, small.1)
step-small (ask.Request at) m small = small
step-small (ask.HandBack at byte) m small = (small.0, upd-small m.page at byte small.1)

pub leads-small : {count : ℕ} {to : TreeState} {after : Memory} {weighs : ℕ} (state : TreeState) (m : Memory) →
    LeadsIn count to after weighs state m → AreSmall m →
    AreSmall after
leads-small state m here small = small
leads-small state m (on s next n bounded inside goes run) small =
    leads-small next (memory_after (ask_at s) n) run (step-small (ask_at s) n small)

-- ---- steps at a record

pub bounded-file : (count : ℕ) (j : Job) (c : Changed) (place : FilePlace) → is_block count ≡ true → is_bounded_job j ≡ true →
    is_bounded_changed c ≡ true → is_bounded_file place ≡ true → is_bounded (at_file j count c place) ≡ true
bounded-file count j c place a b d e = λ i. a i && b i && (d i && e i)

pub inside-word : (count home at : ℕ) → LiesOn count home → (k : ℕ) → at ≡ home + 4 * k → k < 64 → (at + 4 ≤ 4096 * count) × (at % 4 ≡ 0)
inside-word count home at lies k e low =
    let inside = lies.inside in
    let even = lies.even in
    (omega (arith, inside, low, e), omega (arith, even, e))

pub short-size : (size : ℕ) → size ≤ MAXFILESIZE → nat_lt MAXFILESIZE size ≡ false
short-size size le = grind (arith, nat_tests)

pub good-number : (test : Bool) (n : ℕ) → (n ≡ 0) ⊎ (test ≡ true) → (not (n == 0) && not test) ≡ false
good-number test n (inl none) = rw none refl
good-number test n (inr is) = rw is (and-none (not (n == 0)))
  where
    and-none : (b : Bool) → (b && false) ≡ false
    and-none true = refl
    and-none false = refl

-- the size and the indirect block are read before a change
abbrev pub before : Job → ℕ → ℕ → ℕ → ℕ → ℕ → TreeState
before j count home end size indirect = at_file j count (changed home size indirect end) file.SizeNow

abbrev pub deciding : Job → ℕ → ℕ → ℕ → (ℕ → ℕ) → ℕ → TreeState
deciding j count home end byte indirect = at_file j count (changed home (size_of byte home) indirect end) file.IndirectNow

pub reads-again : (count : ℕ) (j : Job) (home end : ℕ) (m : Memory) (size indirect : ℕ) → Facts count home m.disk → is_bounded_job j ≡ true →
    end ≤ MAXFILESIZE → is_place size ≡ true → is_block indirect ≡ true → (next : TreeState) →
    next_change (deciding j count home end m.disk indirect) (read_now home end m.disk) ≡ GoOn next →
    Leads count next m (before j count home end size indirect) m
reads-again count j home end m size indirect is job short a b next goes =
    let at = home-small count home is.lies is.counted.2 in
    let small = count-small count is.counted.2 in
    on (before j count home end size indirect) (deciding j count home end m.disk indirect) m
    (bounded-file count j (changed home size indirect end) file.SizeNow small job
    (bounded-changed home size indirect end at a b (size-small end short)) refl)
    (inside-word count home (home + 128) is.lies 32 (omega arith) (omega arith))
    (ap (λ (t : Bool). if t then refused DAMAGED else GoOn (deciding j count home end m.disk indirect)) (short-size (size_of m.disk home) is.short))
    (on (deciding j count home end m.disk indirect) next m
    (bounded-file count j (changed home (size_of m.disk home) indirect end) file.IndirectNow small job
    (bounded-changed home (size_of m.disk home) indirect end at (size-small (size_of m.disk home) is.short) b (size-small end short)) refl)
    (inside-word count home (home + 128 + 8 + 40) is.lies 44 (omega arith) (omega arith))
    (ap (λ (t : Bool). if t then refused DAMAGED else next_change (deciding j count home end m.disk indirect) (read_now home end m.disk))
    (good-number (is_data_block count (indirect_of m.disk home)) (indirect_of m.disk home) (indirect-is is)) ∙ goes)
    here)
