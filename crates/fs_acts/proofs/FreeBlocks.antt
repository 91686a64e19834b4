-- Where blocks are free there is a lowest one, and it is a data block that is marked free.
use Rattle.std.proofs.Common.{◌≡◌, ◌∙◌, ◌+◌, ◌-◌, ◌<◌, ◌≤◌, inl, inr, ℕ, zero, suc, Bool, true, false}
use Rattle.std.proofs.Common.{Option, Some, None, refl, sym, ap, arith}
use Rattle.std.specs.Prelude.{find, ◌&&◌, nat_le, nat_lt}
use Rattle.std.specs.List.{range_with_len}
use Rattle.std.proofs.lemmas.Bool.{cases_eq}
use Rattle.std.proofs.lemmas.Bool.Decides.{nat_tests}
use Rattle.jos_base.specs.Counting.{total}
use Rattle.jos_base.specs.Environments.{bit_of}
use Rattle.fs_layout.specs.DiskImage.{block_count, first_data_block, is_data_block, is_marked_free}
use Rattle.fs_layout.specs.DiskFiles.{free_blocks}
use Rattle.fs_acts.specs.BlockActs.{lowest_free}
use Rattle.fs_acts.specs.BlockLaws.{FreeIsFound}
use Rattle.fs_acts.proofs.DiskCounts.{image-counted}

-- ---- sums

-- a sum that is not 0 has a number that is not
pub total-some : (n : ℕ) (g : ℕ → ℕ) → 0 < total n g → (i : ℕ) × ((i < n) × (0 < g i))
unfolding total
total-some zero g some = absurd (omega arith)
total-some (suc n) g some = elim (cases_eq (g n) 0) [
  | inl none ↦
      let rest = total-some n g (omega (arith, some, none)) in (rest.0, (omega (arith, rest.1.0), rest.1.1))
  | inr one ↦ (n, (omega arith, omega (arith, one)))
]

pub bit-some : (b : Bool) → 0 < bit_of b → b ≡ true
bit-some true some = refl
bit-some false some = absurd (omega arith)

-- ---- the first of a range

found-step : (p : ℕ → Bool) (n a : ℕ) (b : Bool) → p a ≡ b → (found : ℕ) × (find p (range_with_len (a + 1) n) ≡ Some found) →
    (found : ℕ) × (find p (range_with_len a (suc n)) ≡ Some found)
found-step p n a true here later = (a, rw here refl)
found-step p n a false here later = (later.0, rw here later.1)

-- one in the range passes, so one is found
found-in : (p : ℕ → Bool) (n a i : ℕ) → i < n → p (a + i) ≡ true → (found : ℕ) × (find p (range_with_len a n) ≡ Some found)
found-in p zero a i within is = absurd (omega arith)
found-in p (suc n) a zero within is = let here : p a ≡ true = ap p (plain a) ∙ is in (a, rw here refl)
  where
    plain : (a : ℕ) → a ≡ a + 0
    plain a = omega arith
found-in p (suc n) a (suc i) within is =
    found-step p n a (p a) refl (found-in p n (a + 1) i (omega arith) (ap p (next a i) ∙ is))
  where
    next : (a i : ℕ) → a + 1 + i ≡ a + suc i
    next a i = omega arith

-- what passed, in the range
abbrev pub InRange : (ℕ → Bool) → ℕ → ℕ → ℕ → Type 0
InRange p a n found = (p found ≡ true) × ((a ≤ found) × (found < a + n))

some-same : (a b : ℕ) → ◌≡◌ {A = Option ℕ} (Some a) (Some b) → a ≡ b
some-same a b e = cc

range-step : (p : ℕ → Bool) (n a found : ℕ) (b : Bool) → p a ≡ b →
    (find p (range_with_len (a + 1) n) ≡ Some found → InRange p (a + 1) n found) →
    find p (range_with_len a (suc n)) ≡ Some found → InRange p a (suc n) found
range-step p n a found true here later e =
    let all : ◌≡◌ {A = Option ℕ} (find p (range_with_len a (suc n))) (Some a) = rw here refl in
    let same = some-same a found (sym all ∙ e) in
    (ap p (sym same) ∙ here, (omega (arith, same), omega (arith, same)))
range-step p n a found false here later e =
    let all : ◌≡◌ {A = Option ℕ} (find p (range_with_len a (suc n))) (find p (range_with_len (a + 1) n)) = rw here refl in
    let rest = later (sym all ∙ e) in
    (rest.0, (omega (arith, rest.1.0), omega (arith, rest.1.1)))

in-range : (p : ℕ → Bool) (n a found : ℕ) → find p (range_with_len a n) ≡ Some found → InRange p a n found
in-range p zero a found e = absurd (none found e)
  where
    none : (found : ℕ) → ◌≡◌ {A = Option ℕ} None (Some found) → ⊥
    none found e = cc
in-range p (suc n) a found e = range-step p n a found (p a) refl (in-range p n (a + 1) found) e

-- ---- the lowest free block

is-data : (first blocks block : ℕ) → first ≤ block → block < first + (blocks - first) →
    (nat_le first block && nat_lt block blocks) ≡ true
is-data first blocks block le lt =
    let below : block < blocks = omega (arith, le, lt) in
    let a : nat_le first block ≡ true = grind (arith, nat_tests) in
    let b : nat_lt block blocks ≡ true = grind (arith, nat_tests) in
    rw (a, b) refl

-- it is a data block, and marked free
pub lowest-free : (byte : ℕ → ℕ) (block : ℕ) → lowest_free byte ≡ Some block →
    (is_marked_free byte block ≡ true) × (is_data_block (block_count byte) block ≡ true)
unfolding lowest_free
lowest-free byte block e =
    let blocks : ℕ = block_count byte in
    let found = in-range (is_marked_free byte) (blocks - first_data_block blocks) (first_data_block blocks) block e in
    (found.0, is-data (first_data_block blocks) blocks block found.1.0 found.1.1)

data-marked : (byte : ℕ → ℕ) (block : ℕ) (first : ℕ) →
    (block < first → is_marked_free byte block ≡ false) → is_marked_free byte block ≡ true → first ≤ block
data-marked byte block first used is = by_test (nat_lt block first) refl
  where
    clash : (b : Bool) → b ≡ true → b ≡ false → ⊥
    clash true is e = cc
    clash false is e = cc

    by_test : (b : Bool) → nat_lt block first ≡ b → first ≤ block
    by_test true test =
        let lt : block < first = grind (arith, nat_tests) in absurd (clash (is_marked_free byte block) is (used lt))
    by_test false test = grind (arith, nat_tests)

-- the law
pub free-found : FreeIsFound
unfolding lowest_free free_blocks
free-found size byte e some =
    let blocks : ℕ = block_count byte in
    let first : ℕ = first_data_block blocks in
    let counted = image-counted size byte e in
    let one = total-some blocks (λ block. bit_of (is_marked_free byte block)) some in
    let is = bit-some (is_marked_free byte one.0) one.1.1 in
    let behind : first ≤ one.0 = data-marked byte one.0 first (counted.first one.0) is in
    found-in (is_marked_free byte) (blocks - first) first (one.0 - first) (below first one.0 blocks behind one.1.0)
    (ap (is_marked_free byte) (place first one.0 behind) ∙ is)
  where
    below : (first one blocks : ℕ) → first ≤ one → one < blocks → one - first < blocks - first
    below first one blocks le lt = omega arith

    place : (first one : ℕ) → first ≤ one → first + (one - first) ≡ one
    place first one le = omega arith
