-- SAR as a quotient of signed numbers, which is rounded down.
use Rattle.std.proofs.Common.{◌≡◌, ℕ, ◌+◌, ◌/◌, ◌%◌, ◌^◌, ◌<◌, zero, suc, sym, ap, ◌∙◌, arith, if◌then◌else◌}
use Rattle.std.specs.Prelude.{ℤ, pos, negsuc, nat_le}
use Rattle.std.specs.Int.{w8, w16, w32, cast_signed, int_div_euclid}
use Rattle.std.proofs.lemmas.Int.{ints}
use Rattle.std.proofs.lemmas.Bool.Decides.{nat_tests}
use Rattle.std.proofs.Math.Nat.{mod-eq_of_lt, div-div-eq-div-mul, pow-succ'}
use Rattle.jos_alu.specs.declared.width.Width.{Width}
use Rattle.jos_alu.specs.declared.width.Width.TheVariants.{Bits8, Bits16, Bits32}
use Rattle.jos_alu.specs.declared.shifts.Shift.TheVariants.{Sar}
use Rattle.jos_alu.specs.Flags.{modulus, is_negative}
use Rattle.jos_alu.specs.Shifts.{down, shift_once, shift_times}
use Rattle.jos_alu.specs.Products.{signed_of}
use Rattle.jos_alu.specs.Laws.{ShiftsSigned}

-- one place at each width
once_byte : (v : ℕ) → v < 256 → cast_signed w8 (v / 2 + (if nat_le 128 v then 128 else 0)) ≡ int_div_euclid (cast_signed w8 v) (pos 2)
once_byte v h = grind (arith, ints, nat_tests)

once_pair : (v : ℕ) → v < 65536 → cast_signed w16 (v / 2 + (if nat_le 32768 v then 32768 else 0)) ≡ int_div_euclid (cast_signed w16 v) (pos 2)
once_pair v h = grind (arith, ints, nat_tests)

once_word : (v : ℕ) → v < 2 ^ 32 → cast_signed w32 (v / 2 + (if nat_le (2 ^ 31) v then 2 ^ 31 else 0)) ≡ int_div_euclid (cast_signed w32 v) (pos 2)
once_word v h = grind (arith, ints, nat_tests)

-- twice is once by the product
div_euclid-twice : (z : ℤ) (n : ℕ) → int_div_euclid (int_div_euclid z (pos 2)) (pos (2 ^ n)) ≡ int_div_euclid z (pos (2 ^ suc n))
div_euclid-twice (pos a) n = ap pos (div-div-eq-div-mul a 2 (2 ^ n) ∙ ap (λ x. a / x) (sym (pow-succ' 2 n)))
div_euclid-twice (negsuc a) n = ap negsuc (div-div-eq-div-mul a 2 (2 ^ n) ∙ ap (λ x. a / x) (sym (pow-succ' 2 n)))

div_euclid-one : (z : ℤ) → z ≡ int_div_euclid z (pos 1)
div_euclid-one (pos a) = let e : a ≡ a / 1 = omega arith in ap pos e
div_euclid-one (negsuc a) = let e : a ≡ a / 1 = omega arith in ap negsuc e

stays_below : (width : Width) (v : ℕ) → v < modulus width → down width (is_negative width v) v < modulus width
stays_below Bits8 v h = grind (arith, nat_tests)
stays_below Bits16 v h = grind (arith, nat_tests)
stays_below Bits32 v h = grind (arith, nat_tests)

once : (width : Width) (v : ℕ) → v < modulus width → signed_of width (down width (is_negative width v) v) ≡ int_div_euclid (signed_of width v) (pos 2)
unfolding signed_of
once Bits8 v h =
    let e : v % 256 ≡ v = mod-eq_of_lt h in
    let f : down Bits8 (is_negative Bits8 v) v % 256 ≡ down Bits8 (is_negative Bits8 v) v = mod-eq_of_lt (stays_below Bits8 v h) in
    ap (cast_signed w8) f ∙ (λ i. cast_signed w8 (v / 2 + (if nat_le 128 (e i) then 128 else 0))) ∙ once_byte v h
    ∙ (λ i. int_div_euclid (cast_signed w8 (sym e i)) (pos 2))
once Bits16 v h =
    let e : v % 65536 ≡ v = mod-eq_of_lt h in
    let f : down Bits16 (is_negative Bits16 v) v % 65536 ≡ down Bits16 (is_negative Bits16 v) v = mod-eq_of_lt (stays_below Bits16 v h) in
    ap (cast_signed w16) f ∙ (λ i. cast_signed w16 (v / 2 + (if nat_le 32768 (e i) then 32768 else 0))) ∙ once_pair v h
    ∙ (λ i. int_div_euclid (cast_signed w16 (sym e i)) (pos 2))
once Bits32 v h =
    let e : v % 2 ^ 32 ≡ v = mod-eq_of_lt h in
    let f : down Bits32 (is_negative Bits32 v) v % 2 ^ 32 ≡ down Bits32 (is_negative Bits32 v) v = mod-eq_of_lt (stays_below Bits32 v h) in
    ap (cast_signed w32) f ∙ (λ i. cast_signed w32 (v / 2 + (if nat_le (2 ^ 31) (e i) then 2 ^ 31 else 0))) ∙ once_word v h
    ∙ (λ i. int_div_euclid (cast_signed w32 (sym e i)) (pos 2))

pub shifts_signed : ShiftsSigned
unfolding shift_times shift_once
shifts_signed width zero s h = div_euclid-one (signed_of width s.value)
shifts_signed width (suc n) s h =
    shifts_signed width n (shift_once Sar width s) (stays_below width s.value h)
    ∙ ap (λ z. int_div_euclid z (pos (2 ^ n))) (once width s.value h)
    ∙ div_euclid-twice (signed_of width s.value) n
