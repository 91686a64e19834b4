-- The bits of entries.
use Rattle.std.proofs.Common.{◌≡◌, ◌≢◌, ◌==◌, Bool, true, false, ◌∙◌, ◌+◌, ◌*◌, ◌/◌, ◌%◌, ◌^◌, ◌<◌, ℕ, zero, suc, sym}
use Rattle.std.proofs.Common.{ap, arith}
use Rattle.std.proofs.lemmas.Bool.Decides.{nat_tests}
use Rattle.std.specs.Prelude.{bit_and, bit_or}
use Rattle.std.specs.Int.{bit_at}
use Rattle.std.proofs.lemmas.Nat.{and_mod, and_mask, and_assoc, and_shr, and_le_l, and_le_r, or_lt}
use Rattle.std.proofs.lemmas.Nat.Bits.{bit_at_and, bit_at_or, same_from_bits_below}

-- whether a word names a frame, as it was tested
pub is_there : (word : ℕ) (b : Bool) → b ≡ (word % 2 == 1) → b ≡ true → word % 2 ≡ 1
is_there word b is told = let test : (word % 2 == 1) ≡ true = sym is ∙ told in grind (arith, nat_tests)

pub is_away : (word : ℕ) (b : Bool) → b ≡ (word % 2 == 1) → b ≡ false → word % 2 ≢ 1
is_away word b is told = let test : (word % 2 == 1) ≡ false = sym is ∙ told in grind (arith, nat_tests)

-- what a user may reach is there
pub user_present : (perm : ℕ) → bit_and perm 5 ≡ 5 → perm % 2 ≡ 1
user_present perm is =
    let low = and_mod perm 5 1 in
    let one = and_mask (perm % 2) 1 in
    let both = ap (λ (n : ℕ). n % 2) is in
    omega (arith, low, one, both)

-- P and A of a word
pub marks_of : (word : ℕ) → bit_and word 33 ≡ 32 * (word / 32 % 2) + word % 2
marks_of word =
    let high = and_shr word 33 5 in
    let high_is = and_mask (word / 32) 1 in
    let low = and_mod word 33 5 in
    let low_is = and_mask (word % 32) 1 in
    omega (arith, high, high_is, low, low_is)

-- bits among the low twelve, P being one of them
module _ (word bits : ℕ) (present : bits % 2 ≡ 1) (small : bits < 4096) where
  pub low_bits : bit_and (word % 4096) bits ≡ bit_and word bits
  low_bits =
      let low = and_mod word bits 12 in
      let most = and_le_r word bits in
      let same : bits % 4096 ≡ bits = omega arith in
      let part = ap (bit_and (word % 4096)) same in
      omega (arith, low, most, part)

  pub bits_present : bit_and word bits ≡ bits → word % 2 ≡ 1
  bits_present stand =
      let low = and_mod word bits 1 in
      let one = ap (bit_and (word % 2)) present in
      let is = and_mask (word % 2) 1 in
      omega (arith, low, one, is, stand)

-- where all bits of a set stand, those of a part of it stand
pub part_stands : (perm all part : ℕ) → bit_and perm all ≡ all → bit_and all part ≡ part → bit_and perm part ≡ part
part_stands perm all part stands within =
    sym (ap (bit_and perm) within) ∙ sym (and_assoc part perm all) ∙ ap (λ (n : ℕ). bit_and n part) stands ∙ within

below_power : (n : ℕ) → n < 2 ^ n
below_power zero = omega arith
below_power (suc n) = let before = below_power n in omega (arith, before)

-- bits that stand are set without a change
pub or_stays : (perm bits : ℕ) → bit_and perm bits ≡ bits → bit_or perm bits ≡ perm
or_stays perm bits stand =
    same_from_bits_below perm (bit_or perm bits) perm (or_lt perm perm bits (below_power perm) low) (below_power perm) (λ i below. each i)
  where
    low : bits < 2 ^ perm
    low = let part = and_le_l perm bits in let all = below_power perm in omega (arith, part, all, stand)

    each : (i : ℕ) → bit_at (bit_or perm bits) i ≡ bit_at perm i
    each i =
        let either = bit_at_or perm bits i in
        let both = bit_at_and perm bits i in
        let same = ap (λ (n : ℕ). bit_at n i) stand in
        omega (arith, either, both, same)
