-- A block's bit in the bitmap is set and cleared, and all others stay.
use Rattle.std.proofs.Common.{◌≡◌, ◌≢◌, ◌∙◌, ◌⊎◌, inl, inr, ℕ, ◌+◌, ◌-◌, ◌*◌, ◌/◌, ◌%◌, ◌^◌, ◌<◌, ◌≤◌, ◌==◌, zero, suc, true, false}
use Rattle.std.proofs.Common.{refl, sym, ap, arith, eq-eqb, ne_eqb, pow-suc}
use Rattle.std.specs.Int.{bit_at}
use Rattle.std.proofs.lemmas.Bool.{cases_eq}
use Rattle.std.proofs.lemmas.Bool.Decides.{nat_tests}
use Rattle.std.proofs.lemmas.Nat.Bits.{bit_at_lowest, bit_at-suc, bit_at_above, bit_at-lt}
use Rattle.jos_base.specs.Environments.{bit_of}
use Rattle.fs_layout.specs.DiskImage.{block_count, is_marked_free}
use Rattle.fs_acts.specs.BlockActs.{mark_place}
use Rattle.fs_acts.proofs.OneRecord.{MarksGo}

-- ---- one bit of a number

half-add : (n m : ℕ) → (n + 2 * m) / 2 ≡ n / 2 + m
half-add n m = omega arith

rest-add : (n m : ℕ) → (n + 2 * m) % 2 ≡ n % 2
rest-add n m = omega arith

half-odd : (n : ℕ) → n % 2 ≡ 0 → (n + 1) / 2 ≡ n / 2
half-odd n even = omega arith

twice : (k : ℕ) → 2 ^ suc k ≡ 2 * 2 ^ k
twice k = let p = pow-suc 2 k in omega (arith, p)

-- a bit that is 0 is set by adding its weight
pub add-same : (k n : ℕ) → bit_at n k ≡ 0 → bit_at (n + 2 ^ k) k ≡ 1
add-same zero n none =
    let even : n % 2 ≡ 0 = sym (bit_at_lowest n) ∙ none in
    bit_at_lowest (n + 1) ∙ odd n even
  where
    odd : (n : ℕ) → n % 2 ≡ 0 → (n + 1) % 2 ≡ 1
    odd n even = omega arith
add-same (suc k) n none =
    ap (λ m. bit_at (n + m) (suc k)) (twice k) ∙ bit_at-suc (n + 2 * 2 ^ k) k ∙ ap (λ m. bit_at m k) (half-add n (2 ^ k))
    ∙ add-same k (n / 2) (sym (bit_at-suc n k) ∙ none)

pub add-other : (k j n : ℕ) → bit_at n k ≡ 0 → j ≢ k → bit_at (n + 2 ^ k) j ≡ bit_at n j
add-other zero zero n none ne = absurd (ne refl)
add-other zero (suc j) n none ne =
    let even : n % 2 ≡ 0 = sym (bit_at_lowest n) ∙ none in
    bit_at-suc (n + 1) j ∙ ap (λ m. bit_at m j) (half-odd n even) ∙ sym (bit_at-suc n j)
add-other (suc k) zero n none ne =
    bit_at_lowest (n + 2 ^ suc k) ∙ ap (λ m. (n + m) % 2) (twice k) ∙ rest-add n (2 ^ k) ∙ sym (bit_at_lowest n)
add-other (suc k) (suc j) n none ne =
    ap (λ m. bit_at (n + m) (suc j)) (twice k) ∙ bit_at-suc (n + 2 * 2 ^ k) j ∙ ap (λ m. bit_at m j) (half-add n (2 ^ k))
    ∙ add-other k j (n / 2) (sym (bit_at-suc n k) ∙ none) (λ e. ne (ap suc e)) ∙ sym (bit_at-suc n j)

-- and one that is 1 is cleared by taking it away
half-sub : (n m : ℕ) → (n - 2 * m) / 2 ≡ n / 2 - m
half-sub n m = omega arith

rest-sub : (n m : ℕ) → m ≤ n / 2 → (n - 2 * m) % 2 ≡ n % 2
rest-sub n m le = omega arith

half-even : (n : ℕ) → n % 2 ≡ 1 → (n - 1) / 2 ≡ n / 2
half-even n odd = omega arith

weight-within : (n k : ℕ) → bit_at n k ≡ 1 → 2 ^ k ≤ n
weight-within n k one = elim (cases n (2 ^ k)) [
  | inl low ↦ let none = bit_at_above n k k low (omega arith) in absurd (omega (arith, none, one))
  | inr high ↦ high
]
  where
    cases : (a b : ℕ) → (a < b) ⊎ (b ≤ a)
    cases zero zero = inr (omega arith)
    cases zero (suc b) = inl (omega arith)
    cases (suc a) zero = inr (omega arith)
    cases (suc a) (suc b) = elim (cases a b) [ inl lt ↦ inl (omega (arith, lt)) | inr le ↦ inr (omega (arith, le)) ]

pub sub-same : (k n : ℕ) → bit_at n k ≡ 1 → bit_at (n - 2 ^ k) k ≡ 0
sub-same zero n one =
    let odd : n % 2 ≡ 1 = sym (bit_at_lowest n) ∙ one in
    bit_at_lowest (n - 1) ∙ even n odd
  where
    even : (n : ℕ) → n % 2 ≡ 1 → (n - 1) % 2 ≡ 0
    even n odd = omega arith
sub-same (suc k) n one =
    ap (λ m. bit_at (n - m) (suc k)) (twice k) ∙ bit_at-suc (n - 2 * 2 ^ k) k ∙ ap (λ m. bit_at m k) (half-sub n (2 ^ k))
    ∙ sub-same k (n / 2) (sym (bit_at-suc n k) ∙ one)

pub sub-other : (k j n : ℕ) → bit_at n k ≡ 1 → j ≢ k → bit_at (n - 2 ^ k) j ≡ bit_at n j
sub-other zero zero n one ne = absurd (ne refl)
sub-other zero (suc j) n one ne =
    let odd : n % 2 ≡ 1 = sym (bit_at_lowest n) ∙ one in
    bit_at-suc (n - 1) j ∙ ap (λ m. bit_at m j) (half-even n odd) ∙ sym (bit_at-suc n j)
sub-other (suc k) zero n one ne =
    let half : bit_at (n / 2) k ≡ 1 = sym (bit_at-suc n k) ∙ one in
    bit_at_lowest (n - 2 ^ suc k) ∙ ap (λ m. (n - m) % 2) (twice k) ∙ rest-sub n (2 ^ k) (weight-within (n / 2) k half)
    ∙ sym (bit_at_lowest n)
sub-other (suc k) (suc j) n one ne =
    ap (λ m. bit_at (n - m) (suc j)) (twice k) ∙ bit_at-suc (n - 2 * 2 ^ k) j ∙ ap (λ m. bit_at m j) (half-sub n (2 ^ k))
    ∙ sub-other k j (n / 2) (sym (bit_at-suc n k) ∙ one) (λ e. ne (ap suc e)) ∙ sym (bit_at-suc n j)

-- ---- a block's bit

-- a block whose bit was set, and one whose bit was cleared
pub record Freed (byte other : ℕ → ℕ) (block : ℕ) : Type 0 where
  pub was : is_marked_free byte block ≡ false
  pub at : other (mark_place block) ≡ byte (mark_place block) + 2 ^ (block % 8)
  pub others : (q : ℕ) → q < block_count byte → q / 8 ≢ block / 8 → byte (mark_place q) ≡ other (mark_place q)

pub record Used (byte other : ℕ → ℕ) (block : ℕ) : Type 0 where
  pub was : is_marked_free byte block ≡ true
  pub at : other (mark_place block) ≡ byte (mark_place block) - 2 ^ (block % 8)
  pub others : (q : ℕ) → q < block_count byte → q / 8 ≢ block / 8 → byte (mark_place q) ≡ other (mark_place q)

-- the bits of a block, and of none
abbrev pub this_block : ℕ → ℕ → ℕ
this_block block q = bit_of (block == q)

abbrev pub no_block : ℕ → ℕ
no_block q = 0

bit-clear : (n : ℕ) → n < 2 → (n == 1) ≡ false → n ≡ 0
bit-clear n low e = grind (arith, nat_tests)

bit-set : (n : ℕ) → (n == 1) ≡ true → n ≡ 1
bit-set n e = grind (arith, nat_tests)

same-row : (block q : ℕ) → q ≢ block → q / 8 ≡ block / 8 → q % 8 ≢ block % 8
same-row block q ne row same = ne (omega (arith, row, same))

marked-same : (byte other : ℕ → ℕ) (q : ℕ) → bit_at (byte (mark_place q)) (q % 8) ≡ bit_at (other (mark_place q)) (q % 8) →
    bit_of (is_marked_free other q) ≡ bit_of (is_marked_free byte q)
marked-same byte other q same = ap (λ n. bit_of (n == 1)) (sym same)

freed-other : (byte other : ℕ → ℕ) (block q : ℕ) → Freed byte other block → q < block_count byte → q ≢ block →
    bit_of (is_marked_free other q) ≡ bit_of (is_marked_free byte q)
freed-other byte other block q freed within ne = elim (cases_eq (q / 8) (block / 8)) [
  | inl row ↦
      let old : ℕ = byte (mark_place block) in
      let place : mark_place q ≡ mark_place block = ap (λ n. 8192 + n) row in
      let none = bit-clear (bit_at old (block % 8)) (bit_at-lt old (block % 8)) freed.was in
      marked-same byte other q
      (ap (λ p. bit_at (byte p) (q % 8)) place ∙ sym (add-other (block % 8) (q % 8) old none (same-row block q ne row))
      ∙ ap (λ n. bit_at n (q % 8)) (sym freed.at) ∙ ap (λ p. bit_at (other p) (q % 8)) (sym place))
  | inr rows ↦ marked-same byte other q (ap (λ n. bit_at n (q % 8)) (freed.others q within rows))
]

freed-this : (byte other : ℕ → ℕ) (block : ℕ) → Freed byte other block → is_marked_free other block ≡ true
freed-this byte other block freed =
    let old : ℕ = byte (mark_place block) in
    let none = bit-clear (bit_at old (block % 8)) (bit_at-lt old (block % 8)) freed.was in
    ap (λ n. bit_at n (block % 8) == 1) freed.at ∙ ap (λ n. n == 1) (add-same (block % 8) old none)

pub freed-marks : (byte other : ℕ → ℕ) (block : ℕ) → Freed byte other block → MarksGo byte other no_block (this_block block)
freed-marks byte other block freed q within = elim (cases_eq q block) [
  | inl e ↦
      let now = ap (λ p. bit_of (is_marked_free other p)) e ∙ ap bit_of (freed-this byte other block freed) in
      let was = ap (λ p. bit_of (is_marked_free byte p)) e ∙ ap bit_of freed.was in
      let here = ap bit_of (eq-eqb block q (sym e)) in
      omega (arith, now, was, here)
  | inr ne ↦
      let same = freed-other byte other block q freed within ne in
      let here = ap bit_of (ne_eqb block q (λ e. ne (sym e))) in
      omega (arith, same, here)
]

used-other : (byte other : ℕ → ℕ) (block q : ℕ) → Used byte other block → q < block_count byte → q ≢ block →
    bit_of (is_marked_free other q) ≡ bit_of (is_marked_free byte q)
used-other byte other block q used within ne = elim (cases_eq (q / 8) (block / 8)) [
  | inl row ↦
      let old : ℕ = byte (mark_place block) in
      let place : mark_place q ≡ mark_place block = ap (λ n. 8192 + n) row in
      let one = bit-set (bit_at old (block % 8)) used.was in
      marked-same byte other q
      (ap (λ p. bit_at (byte p) (q % 8)) place ∙ sym (sub-other (block % 8) (q % 8) old one (same-row block q ne row))
      ∙ ap (λ n. bit_at n (q % 8)) (sym used.at) ∙ ap (λ p. bit_at (other p) (q % 8)) (sym place))
  | inr rows ↦ marked-same byte other q (ap (λ n. bit_at n (q % 8)) (used.others q within rows))
]

used-this : (byte other : ℕ → ℕ) (block : ℕ) → Used byte other block → is_marked_free other block ≡ false
used-this byte other block used =
    let old : ℕ = byte (mark_place block) in
    let one = bit-set (bit_at old (block % 8)) used.was in
    ap (λ n. bit_at n (block % 8) == 1) used.at ∙ ap (λ n. n == 1) (sub-same (block % 8) old one)

pub used-marks : (byte other : ℕ → ℕ) (block : ℕ) → Used byte other block → MarksGo byte other (this_block block) no_block
used-marks byte other block used q within = elim (cases_eq q block) [
  | inl e ↦
      let now = ap (λ p. bit_of (is_marked_free other p)) e ∙ ap bit_of (used-this byte other block used) in
      let was = ap (λ p. bit_of (is_marked_free byte p)) e ∙ ap bit_of used.was in
      let here = ap bit_of (eq-eqb block q (sym e)) in
      omega (arith, now, was, here)
  | inr ne ↦
      let same = used-other byte other block q used within ne in
      let here = ap bit_of (ne_eqb block q (λ e. ne (sym e))) in
      omega (arith, same, here)
]
