-- Frames that stand in places: where each of some frames stands in a place, there are no more of them than places in which
-- something stands. The places are a first one, those of slots (one alone, rows and pages), and those of names.
use Rattle.std.proofs.Common.{◌+◌, ◌<◌, ◌≤◌, ℕ, arith}
use Rattle.std.specs.Prelude.{Option, is_some}
use Rattle.jos_base.specs.Counting.{total}
use Rattle.jos_base.specs.Environments.{bit_of}
use Rattle.lib_os.proofs.Sums.{is_at, at_most_once}
use Rattle.jos_base.proofs.Sums.{total-mono, total-sum, total-ones, total-swap}

-- how many places have something
abbrev pub filled : ℕ → (ℕ → Option ℕ) → ℕ
filled n place = total n (λ k. bit_of (is_some (place k)))

-- how often a frame stands in places
abbrev pub times_in : ℕ → (ℕ → Option ℕ) → ℕ → ℕ
times_in n place f = total n (λ k. is_at (place k) f)

module _ (pool base : ℕ) where
  places_fill : (n : ℕ) (place : ℕ → Option ℕ) → total pool (λ i. times_in n place (base + i)) ≤ filled n place
  places_fill n place =
      let swapped = total-swap pool n (λ i k. is_at (place k) (base + i)) in
      let each = total-mono n (λ k. total pool (λ i. is_at (place k) (base + i))) (λ k. bit_of (is_some (place k)))
      (λ k lt. at_most_once pool base (place k)) in
      omega (arith, swapped, each)

  module _ (slots rows pages names : ℕ) (first : Option ℕ) (alone : ℕ → Option ℕ) (row page : ℕ → ℕ → Option ℕ)
      (name : ℕ → Option ℕ) where
    abbrev pub times_in_slot : ℕ → ℕ → ℕ
    times_in_slot n f = is_at (alone n) f + (times_in rows (row n) f + times_in pages (page n) f)

    abbrev pub times : ℕ → ℕ
    times f = is_at first f + (total slots (λ n. times_in_slot n f) + times_in names name f)

    abbrev pub filled_in_slot : ℕ → ℕ
    filled_in_slot n = bit_of (is_some (alone n)) + (filled rows (row n) + filled pages (page n))

    slot_fills : (n : ℕ) → total pool (λ i. times_in_slot n (base + i)) ≤ filled_in_slot n
    slot_fills n =
        let outer = total-sum pool (λ i. is_at (alone n) (base + i))
        (λ i. times_in rows (row n) (base + i) + times_in pages (page n) (base + i)) in
        let inner = total-sum pool (λ i. times_in rows (row n) (base + i)) (λ i. times_in pages (page n) (base + i)) in
        let one = at_most_once pool base (alone n) in
        let two = places_fill rows (row n) in
        let three = places_fill pages (page n) in
        omega (arith, outer, inner, one, two, three)

    slots_fill : total pool (λ i. total slots (λ n. times_in_slot n (base + i))) ≤ total slots filled_in_slot
    slots_fill =
        let swapped = total-swap pool slots (λ i n. times_in_slot n (base + i)) in
        let each = total-mono slots (λ n. total pool (λ i. times_in_slot n (base + i))) filled_in_slot (λ n lt. slot_fills n) in
        omega (arith, swapped, each)

    pub no_more_frames : ((i : ℕ) → i < pool → 1 ≤ times (base + i)) →
        pool ≤ bit_of (is_some first) + (total slots filled_in_slot + filled names name)
    no_more_frames stand =
        let ones = total-ones pool in
        let all = total-mono pool (λ i. 1) (λ i. times (base + i)) stand in
        let outer = total-sum pool (λ i. is_at first (base + i))
        (λ i. total slots (λ n. times_in_slot n (base + i)) + times_in names name (base + i)) in
        let inner = total-sum pool (λ i. total slots (λ n. times_in_slot n (base + i))) (λ i. times_in names name (base + i)) in
        let one = at_most_once pool base first in
        let two = slots_fill in
        let three = places_fill names name in
        omega (arith, ones, all, outer, inner, one, two, three)
