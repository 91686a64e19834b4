-- The conditions after CMP, from the flags to the numbers.
use Rattle.std.proofs.Common.{◌≡◌, ℕ, ◌+◌, ◌-◌, ◌%◌, ◌^◌, ◌<◌, ◌≤◌, Bool, true, false, refl, sym, ap, ◌∙◌, arith}
use Rattle.std.specs.Prelude.{◌==◌, ◌&&◌, ◌||◌, not, nat_le, nat_lt, bit_and, bit_or, int_lt, int_le}
use Rattle.std.proofs.Math.Bool.{beq}
use Rattle.std.proofs.lemmas.Nat.{and_or_self, and_or_apart, and_assoc}
use Rattle.std.specs.Int.{w8, w16, w32, cast_signed}
use Rattle.std.proofs.lemmas.Int.{ints}
use Rattle.std.proofs.lemmas.Bool.Decides.{nat_tests}
use Rattle.std.specs.Int.Bits.{and_zero_r}
use Rattle.std.proofs.Math.Nat.{mod-eq_of_lt, mod-mod}
use Rattle.jos_alu.specs.declared.width.Width.{Width}
use Rattle.jos_alu.specs.declared.width.Width.TheVariants.{Bits8, Bits16, Bits32}
use Rattle.jos_alu.specs.declared.flags.StatusFlags.{StatusFlags}
use Rattle.jos_alu.specs.Flags.{modulus, sign_bit, flag, is_set, with_status_flags, flags_of_difference, difference_of}
use Rattle.jos_alu.specs.Flags.{condition_holds}
use Rattle.jos_alu.specs.Products.{signed_of}
use Rattle.jos_alu.specs.Laws.{ComparesNumbers}

-- ---- single flags

-- another flag does not matter
off : (x m n : ℕ) (b : Bool) → bit_and m n ≡ 0 → bit_and 0 n ≡ 0 → bit_and (bit_or x (flag b m)) n ≡ bit_and x n
off x m n true e z = and_or_apart n x m e
off x m n false e z = and_or_apart n x 0 z

on : (x n : ℕ) (b : Bool) → bit_and x n ≡ 0 → bit_and 0 n ≡ 0 → bit_and (bit_or x (flag b n)) n ≡ flag b n
on x n true e z = and_or_self n x
on x n false e z = and_or_apart n x 0 z ∙ e

-- the rest of EFLAGS has no status flag
rest : (e n : ℕ) → bit_and 0xffff_f72a n ≡ 0 → bit_and e 0 ≡ 0 → bit_and (bit_and e 0xffff_f72a) n ≡ 0
rest e n h z = and_assoc n e 0xffff_f72a ∙ ap (bit_and e) h ∙ z

module _ (e : ℕ) (f : StatusFlags) (z : bit_and e 0 ≡ 0) where
  carry_is : is_set (with_status_flags e f) 0x001 ≡ f.carry
  unfolding with_status_flags
  carry_is =
      ap (λ n. not (n == 0)) (off _ 0x800 1 f.overflow refl refl ∙ off _ 0x080 1 f.sign refl refl ∙ off _ 0x040 1 f.zero refl refl
      ∙ off _ 0x010 1 f.auxiliary refl refl ∙ off _ 0x004 1 f.parity refl refl ∙ on _ 1 f.carry (rest e 1 refl z) refl)
      ∙ shown f.carry
    where
      shown : (b : Bool) → not (flag b 0x001 == 0) ≡ b
      shown true = refl
      shown false = refl

  zero_is : is_set (with_status_flags e f) 0x040 ≡ f.zero
  unfolding with_status_flags
  zero_is =
      ap (λ n. not (n == 0)) (off _ 0x800 0x040 f.overflow refl refl ∙ off _ 0x080 0x040 f.sign refl refl
      ∙ on _ 0x040 f.zero (off _ 0x010 0x040 f.auxiliary refl refl ∙ off _ 0x004 0x040 f.parity refl refl ∙ off _ 0x001 0x040 f.carry refl refl
      ∙ rest e 0x040 refl z) refl)
      ∙ shown f.zero
    where
      shown : (b : Bool) → not (flag b 0x040 == 0) ≡ b
      shown true = refl
      shown false = refl

  sign_is : is_set (with_status_flags e f) 0x080 ≡ f.sign
  unfolding with_status_flags
  sign_is =
      ap (λ n. not (n == 0)) (off _ 0x800 0x080 f.overflow refl refl
      ∙ on _ 0x080 f.sign (off _ 0x040 0x080 f.zero refl refl ∙ off _ 0x010 0x080 f.auxiliary refl refl ∙ off _ 0x004 0x080 f.parity refl refl
      ∙ off _ 0x001 0x080 f.carry refl refl ∙ rest e 0x080 refl z) refl)
      ∙ shown f.sign
    where
      shown : (b : Bool) → not (flag b 0x080 == 0) ≡ b
      shown true = refl
      shown false = refl

  overflow_is : is_set (with_status_flags e f) 0x800 ≡ f.overflow
  unfolding with_status_flags
  overflow_is =
      ap (λ n. not (n == 0)) (on _ 0x800 f.overflow (off _ 0x080 0x800 f.sign refl refl ∙ off _ 0x040 0x800 f.zero refl refl
      ∙ off _ 0x010 0x800 f.auxiliary refl refl ∙ off _ 0x004 0x800 f.parity refl refl ∙ off _ 0x001 0x800 f.carry refl refl
      ∙ rest e 0x800 refl z) refl)
      ∙ shown f.overflow
    where
      shown : (b : Bool) → not (flag b 0x800 == 0) ≡ b
      shown true = refl
      shown false = refl

-- ---- the numbers

-- what the difference is, without a modulus
difference_is : (width : Width) (a b : ℕ) → a < modulus width → b < modulus width →
    (b ≤ a → difference_of width a b 0 ≡ a - b) × (a < b → difference_of width a b 0 ≡ a + modulus width - b)
difference_is Bits8 a b ha hb = (λ h. omega arith, λ h. omega arith)
difference_is Bits16 a b ha hb = (λ h. omega arith, λ h. omega arith)
difference_is Bits32 a b ha hb = (λ h. omega arith, λ h. omega arith)

-- SF and OF differ where the signed number is less
abbrev signs_differ : ℕ → ℕ → ℕ → ℕ → Bool
signs_differ h a b r = not (beq (nat_le h r) (not (beq (nat_le h a) (nat_le h b)) && not (beq (nat_le h a) (nat_le h r))))

less_byte : (a b r : ℕ) → a < 256 → b < 256 → (b ≤ a → r ≡ a - b) → (a < b → r ≡ a + 256 - b) →
    signs_differ 128 a b r ≡ int_lt (cast_signed w8 a) (cast_signed w8 b)
less_byte a b r ha hb ge lt = grind (arith, ints, nat_tests)

less_word : (a b r : ℕ) → a < 2 ^ 32 → b < 2 ^ 32 → (b ≤ a → r ≡ a - b) → (a < b → r ≡ a + 2 ^ 32 - b) →
    signs_differ (2 ^ 31) a b r ≡ int_lt (cast_signed w32 a) (cast_signed w32 b)
less_word a b r ha hb ge lt = grind (arith, ints, nat_tests)

less_pair : (a b r : ℕ) → a < 65536 → b < 65536 → (b ≤ a → r ≡ a - b) → (a < b → r ≡ a + 65536 - b) →
    signs_differ 32768 a b r ≡ int_lt (cast_signed w16 a) (cast_signed w16 b)
less_pair a b r ha hb ge lt = grind (arith, ints, nat_tests)

equal_byte : (a b : ℕ) → a < 256 → b < 256 → ((a == b) || int_lt (cast_signed w8 a) (cast_signed w8 b)) ≡ int_le (cast_signed w8 a) (cast_signed w8 b)
equal_byte a b ha hb = grind (arith, ints, nat_tests)

equal_pair : (a b : ℕ) → a < 65536 → b < 65536 → ((a == b) || int_lt (cast_signed w16 a) (cast_signed w16 b)) ≡ int_le (cast_signed w16 a) (cast_signed w16 b)
equal_pair a b ha hb = grind (arith, ints, nat_tests)

equal_word : (a b : ℕ) → a < 2 ^ 32 → b < 2 ^ 32 → ((a == b) || int_lt (cast_signed w32 a) (cast_signed w32 b)) ≡ int_le (cast_signed w32 a) (cast_signed w32 b)
equal_word a b ha hb = grind (arith, ints, nat_tests)

zero_equal : (a b m r : ℕ) → a < m → b < m → (b ≤ a → r ≡ a - b) → (a < b → r ≡ a + m - b) → (r == 0) ≡ (a == b)
zero_equal a b m r ha hb ge lt = grind (arith, nat_tests)

below_equal : (a b m r : ℕ) → a < m → b < m → (b ≤ a → r ≡ a - b) → (a < b → r ≡ a + m - b) → (nat_lt a (b + 0) || (r == 0)) ≡ nat_le a b
below_equal a b m r ha hb ge lt = grind (arith, nat_tests)

-- the lowest bits of a small number are the number
pub small : (width : Width) (n : ℕ) → n < modulus width → n % modulus width ≡ n
small width n h = mod-eq_of_lt h

signs_at : (width : Width) (a b : ℕ) → Bool
signs_at width a b =
    signs_differ (sign_bit width) (a % modulus width) (b % modulus width) (difference_of width a b 0 % modulus width)

signs_less : (width : Width) (a b : ℕ) → a < modulus width → b < modulus width →
    signs_at width a b ≡ int_lt (signed_of width a) (signed_of width b)
unfolding signs_at signed_of
signs_less Bits8 a b ha hb =
    let d = difference_is Bits8 a b ha hb in
    (λ i. signs_differ 128 (small Bits8 a ha i) (small Bits8 b hb i) (mod-mod (a + 2 ^ 33 - (b + 0)) 256 i))
    ∙ less_byte a b (difference_of Bits8 a b 0) ha hb d.0 d.1
    ∙ (λ i. int_lt (cast_signed w8 (sym (small Bits8 a ha) i)) (cast_signed w8 (sym (small Bits8 b hb) i)))
signs_less Bits16 a b ha hb =
    let d = difference_is Bits16 a b ha hb in
    (λ i. signs_differ 32768 (small Bits16 a ha i) (small Bits16 b hb i) (mod-mod (a + 2 ^ 33 - (b + 0)) 65536 i))
    ∙ less_pair a b (difference_of Bits16 a b 0) ha hb d.0 d.1
    ∙ (λ i. int_lt (cast_signed w16 (sym (small Bits16 a ha) i)) (cast_signed w16 (sym (small Bits16 b hb) i)))
signs_less Bits32 a b ha hb =
    let d = difference_is Bits32 a b ha hb in
    (λ i. signs_differ (2 ^ 31) (small Bits32 a ha i) (small Bits32 b hb i) (mod-mod (a + 2 ^ 33 - (b + 0)) (2 ^ 32) i))
    ∙ less_word a b (difference_of Bits32 a b 0) ha hb d.0 d.1
    ∙ (λ i. int_lt (cast_signed w32 (sym (small Bits32 a ha) i)) (cast_signed w32 (sym (small Bits32 b hb) i)))

equal_less : (width : Width) (a b : ℕ) → a < modulus width → b < modulus width →
    ((a == b) || int_lt (signed_of width a) (signed_of width b)) ≡ int_le (signed_of width a) (signed_of width b)
unfolding signed_of
equal_less Bits8 a b ha hb =
    (λ i. (a == b) || int_lt (cast_signed w8 (small Bits8 a ha i)) (cast_signed w8 (small Bits8 b hb i))) ∙ equal_byte a b ha hb
    ∙ (λ i. int_le (cast_signed w8 (sym (small Bits8 a ha) i)) (cast_signed w8 (sym (small Bits8 b hb) i)))
equal_less Bits16 a b ha hb =
    (λ i. (a == b) || int_lt (cast_signed w16 (small Bits16 a ha i)) (cast_signed w16 (small Bits16 b hb i))) ∙ equal_pair a b ha hb
    ∙ (λ i. int_le (cast_signed w16 (sym (small Bits16 a ha) i)) (cast_signed w16 (sym (small Bits16 b hb) i)))
equal_less Bits32 a b ha hb =
    (λ i. (a == b) || int_lt (cast_signed w32 (small Bits32 a ha i)) (cast_signed w32 (small Bits32 b hb i))) ∙ equal_word a b ha hb
    ∙ (λ i. int_le (cast_signed w32 (sym (small Bits32 a ha) i)) (cast_signed w32 (sym (small Bits32 b hb) i)))

pub compares : ComparesNumbers
unfolding flags_of_difference condition_holds signs_at
compares width a b e ha hb =
    let f = flags_of_difference width a b 0 in
    let d = difference_is width a b ha hb in
    let z : bit_and e 0 ≡ 0 = and_zero_r e in
    let is_zero = zero_is e f z ∙ zero_equal a b (modulus width) (difference_of width a b 0) ha hb d.0 d.1 in
    let is_less : not (beq (is_set (with_status_flags e f) 0x080) (is_set (with_status_flags e f) 0x800)) ≡ int_lt (signed_of width a) (signed_of width b) =
    (λ i. not (beq (sign_is e f z i) (overflow_is e f z i))) ∙ signs_less width a b ha hb in
    record {
      below = carry_is e f z ∙ (let n : b + 0 ≡ b = omega arith in ap (λ x. nat_lt a x) n);
      equal = is_zero;
      below_or_equal = (λ i. carry_is e f z i || zero_is e f z i) ∙ below_equal a b (modulus width) (difference_of width a b 0) ha hb d.0 d.1;
      less = is_less;
      less_or_equal = (λ i. is_zero i || is_less i) ∙ equal_less width a b ha hb;
    }
