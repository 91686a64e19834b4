-- SHRD, SHR and SAR by many places, in numbers: the number of twice the width, divided by a power of two.
use Rattle.std.proofs.Common.{◌≡◌, ℕ, ◌+◌, ◌-◌, ◌*◌, ◌/◌, ◌%◌, ◌^◌, ◌<◌, zero, suc, true, false, refl, Bool, sym, ap}
use Rattle.std.proofs.Common.{◌∙◌, arith, if◌then◌else◌}
use Rattle.std.proofs.lemmas.Bool.Decides.{nat_tests}
use Rattle.std.proofs.lemmas.Nat.{div-mul-add, mod-mul-add, pow_pos}
use Rattle.std.proofs.Math.Nat.{div-div-eq-div-mul, pow-suc, suc-add, mul_comm}
use Rattle.jos_alu.specs.declared.width.Width.{Width}
use Rattle.jos_alu.specs.declared.width.Width.TheVariants.{Bits8, Bits16, Bits32}
use Rattle.jos_alu.specs.declared.shifts.Shift.TheVariants.{Shr, Sar, Shrd}
use Rattle.jos_alu.specs.declared.shifts.Shifting.{Shifting}
use Rattle.jos_alu.specs.Flags.{modulus, is_negative}
use Rattle.jos_alu.specs.Shifts.{is_odd, down, shift_once, shift_times, shift_start}
use Rattle.jos_alu.proofs.ShiftTimes.{last}

-- ---- one place

value_down : (width : Width) (y : ℕ) → down width (is_odd (y / modulus width)) (y % modulus width) ≡ y / 2 % modulus width
value_down Bits8 y = grind (arith, nat_tests)
value_down Bits16 y = grind (arith, nat_tests)
value_down Bits32 y = grind (arith, nat_tests)

other_down : (width : Width) (y : ℕ) → down width false (y / modulus width) ≡ y / 2 / modulus width
other_down Bits8 y = omega arith
other_down Bits16 y = omega arith
other_down Bits32 y = omega arith

carry_down : (width : Width) (y : ℕ) → is_odd (y % modulus width) ≡ is_odd y
carry_down Bits8 y = grind (arith, nat_tests)
carry_down Bits16 y = grind (arith, nat_tests)
carry_down Bits32 y = grind (arith, nat_tests)

-- ---- many places

-- the other number above the first
abbrev double : Width → ℕ → ℕ → ℕ
double width value other = other * modulus width + value

halved : (d n : ℕ) → d / 2 ^ n / 2 ≡ d / 2 ^ suc n
halved d n = div-div-eq-div-mul d (2 ^ n) 2 ∙ ap (λ x. d / x) (sym (pow-suc 2 n))

whole : (d : ℕ) → d ≡ d / 1
whole d = omega arith

-- one place more
once : (width : Width) (d n : ℕ) (s : Shifting) → s.value ≡ d / 2 ^ n % modulus width → s.other ≡ d / 2 ^ n / modulus width →
    shift_once Shrd width s ≡ record { value = d / 2 ^ n / 2 % modulus width; other = d / 2 ^ suc n / modulus width; carry = is_odd (d / 2 ^ n) }
unfolding shift_once
once width d n s e f =
    (λ i. record {
      value = ((λ j. down width (is_odd (f j)) (e j)) ∙ value_down width (d / 2 ^ n)) i;
      other = (ap (down width false) f ∙ other_down width (d / 2 ^ n) ∙ ap (λ x. x / modulus width) (halved d n)) i;
      carry = (ap is_odd e ∙ carry_down width (d / 2 ^ n)) i;
    })

-- The first number is the low part of the quotient, and the other the high one.
parts : (width : Width) (n value other : ℕ) → value < modulus width →
    ((shift_times Shrd width n (shift_start value other)).value ≡ double width value other / 2 ^ n % modulus width)
    × ((shift_times Shrd width n (shift_start value other)).other ≡ double width value other / 2 ^ n / modulus width)
unfolding shift_times
parts width zero value other small = (
  sym (mod-mul-add other (modulus width) value small) ∙ ap (λ d. d % modulus width) (whole (double width value other)),
  sym (div-mul-add other (modulus width) value small) ∙ ap (λ d. d / modulus width) (whole (double width value other)),
)
parts width (suc n) value other small =
    let before = parts width n value other small in
    let e = last Shrd width n (shift_start value other) ∙ once width (double width value other) n _ before.0 before.1 in
    (ap (λ s. s.value) e ∙ ap (λ d. d % modulus width) (halved (double width value other) n), ap (λ s. s.other) e)

other_after : (width : Width) (n value other : ℕ) → value < modulus width → double width value other / 2 ^ n / modulus width ≡ other / 2 ^ n
other_after width n value other small =
    div-div-eq-div-mul (double width value other) (2 ^ n) (modulus width)
    ∙ ap (λ x. double width value other / x) (mul_comm (2 ^ n) (modulus width))
    ∙ sym (div-div-eq-div-mul (double width value other) (modulus width) (2 ^ n))
    ∙ ap (λ x. x / 2 ^ n) (div-mul-add other (modulus width) value small)

pub many_down : (width : Width) (n value other : ℕ) → value < modulus width →
    shift_times Shrd width (suc n) (shift_start value other) ≡ record {
      value = double width value other / 2 ^ n / 2 % modulus width;
      other = other / 2 ^ suc n;
      carry = is_odd (double width value other / 2 ^ n);
    }
many_down width n value other small =
    let before = parts width n value other small in
    last Shrd width n (shift_start value other) ∙ once width (double width value other) n _ before.0 before.1
    ∙ (λ i. record {
      value = double width value other / 2 ^ n / 2 % modulus width;
      other = other_after width (suc n) value other small i;
      carry = is_odd (double width value other / 2 ^ n);
    })

-- ---- SHR is SHRD of a number with nothing above it

pub alone_down : (width : Width) (n value other : ℕ) (carry : Bool) →
    shift_times Shr width n (record { value = value; other = other; carry = carry })
    ≡ record (shift_times Shrd width n (record { value = value; other = 0; carry = carry })) { other = other }
unfolding shift_times shift_once
alone_down width zero value other carry = refl
alone_down width (suc n) value other carry =
    alone_down width n (down width false value) other (is_odd value)

-- ---- SAR is SHRD of a number with copies of its sign above it

-- n copies of the sign
signs : Bool → ℕ → ℕ
signs true n = 2 ^ n - 1
signs false n = 0

signs_in_32 : (negative : Bool) → signs negative 32 ≡ (if negative then 0xffff_ffff else 0)
unfolding signs
signs_in_32 true = refl
signs_in_32 false = refl

signs_down : (width : Width) (negative : Bool) (n value : ℕ) (carry : Bool) →
    shift_once Shrd width (record { value = value; other = signs negative (suc n); carry = carry })
    ≡ record { value = down width negative value; other = signs negative n; carry = is_odd value }
unfolding shift_once signs
signs_down width true n value carry =
    let odd : is_odd (2 ^ suc n - 1) ≡ true = grind (arith, nat_tests, pow_pos n, pow-suc 2 n) in
    let fewer : (2 ^ suc n - 1) / 2 + 0 ≡ 2 ^ n - 1 = omega (arith, pow_pos n, pow-suc 2 n) in
    (λ i. record { value = down width (odd i) value; other = fewer i; carry = is_odd value })
signs_down width false n value carry = refl

keeps_sign : (width : Width) (negative : Bool) (v : ℕ) → v < modulus width → is_negative width v ≡ negative →
    (down width negative v < modulus width) × (is_negative width (down width negative v) ≡ negative)
keeps_sign Bits8 true v small e = (grind (arith, nat_tests), grind (arith, nat_tests))
keeps_sign Bits8 false v small e = (grind (arith, nat_tests), grind (arith, nat_tests))
keeps_sign Bits16 true v small e = (grind (arith, nat_tests), grind (arith, nat_tests))
keeps_sign Bits16 false v small e = (grind (arith, nat_tests), grind (arith, nat_tests))
keeps_sign Bits32 true v small e = (grind (arith, nat_tests), grind (arith, nat_tests))
keeps_sign Bits32 false v small e = (grind (arith, nat_tests), grind (arith, nat_tests))

-- with more signs above the number than places, by those that are left
below_signs : (width : Width) (negative : Bool) (n left value other : ℕ) (carry : Bool) → value < modulus width → is_negative width value ≡ negative →
    shift_times Sar width n (record { value = value; other = other; carry = carry })
    ≡ record (shift_times Shrd width n (record { value = value; other = signs negative (n + left); carry = carry })) { other = other }
unfolding shift_times shift_once
below_signs width negative zero left value other carry small e = refl
below_signs width negative (suc n) left value other carry small e =
    let after = keeps_sign width negative value small e in
    ap (λ b. shift_times Sar width n (record { value = down width b value; other = other; carry = is_odd value })) e
    ∙ below_signs width negative n left (down width negative value) other (is_odd value) after.0 after.1
    ∙ ap (λ s. record (shift_times Shrd width n s) { other = other })
    (sym (ap (λ k. shift_once Shrd width (record { value = value; other = signs negative k; carry = carry })) (suc-add n left)
    ∙ signs_down width negative (n + left) value carry))

pub signed_down : (width : Width) (n value other : ℕ) → n < 32 → value < modulus width →
    shift_times Sar width n (shift_start value other)
    ≡ record (shift_times Shrd width n (shift_start value (if is_negative width value then 0xffff_ffff else 0))) { other = other }
signed_down width n value other few small =
    let negative = is_negative width value in
    let all : n + (32 - n) ≡ 32 = omega arith in
    below_signs width negative n (32 - n) value other false small refl
    ∙ ap (λ x. record (shift_times Shrd width n (shift_start value x)) { other = other }) (ap (signs negative) all ∙ signs_in_32 negative)
