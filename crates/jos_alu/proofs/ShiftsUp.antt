-- SHLD and SHL by many places, in numbers: a number times a power of two, and to it what the product of the other
-- one has above the width.
use Rattle.std.proofs.Common.{◌≡◌, ℕ, ◌+◌, ◌*◌, ◌/◌, ◌%◌, ◌^◌, ◌<◌, ◌≤◌, zero, suc, false, Bool, sym, refl, ap, ◌∙◌}
use Rattle.std.proofs.Common.{arith}
use Rattle.std.proofs.lemmas.Bool.Decides.{nat_tests}
use Rattle.std.proofs.Math.Nat.{mod-mod, mod-le, div-le_self, pow-suc, pow-le-pow_right, mul-le-mul_left, mul_assoc}
use Rattle.jos_alu.specs.declared.width.Width.{Width}
use Rattle.jos_alu.specs.declared.width.Width.TheVariants.{Bits8, Bits16, Bits32}
use Rattle.jos_alu.specs.declared.shifts.Shift.TheVariants.{Shl, Shld}
use Rattle.jos_alu.specs.declared.shifts.Shifting.{Shifting}
use Rattle.jos_alu.specs.Flags.{modulus, is_negative}
use Rattle.jos_alu.specs.Shifts.{is_odd, up, shift_once, shift_times, shift_start}
use Rattle.jos_alu.proofs.ShiftTimes.{last}

-- ---- one place, of numbers y and w that are known by their lowest bits

value_up : (width : Width) (y w a z : ℕ) →
    y % modulus width ≡ (a + z / modulus width) % modulus width → w % modulus width ≡ z % modulus width →
    up width (is_negative width w) y ≡ (a * 2 + z * 2 / modulus width) % modulus width
value_up Bits8 y w a z e f = grind (arith, nat_tests)
value_up Bits16 y w a z e f = grind (arith, nat_tests)
value_up Bits32 y w a z e f = grind (arith, nat_tests)

other_up : (width : Width) (w z : ℕ) → w % modulus width ≡ z % modulus width → up width false w ≡ (z * 2) % modulus width
other_up Bits8 w z e = grind (arith, nat_tests)
other_up Bits16 w z e = grind (arith, nat_tests)
other_up Bits32 w z e = grind (arith, nat_tests)

carry_up : (width : Width) (y a z : ℕ) → y % modulus width ≡ (a + z / modulus width) % modulus width →
    is_negative width y ≡ is_odd ((a * 2 + z * 2 / modulus width) / modulus width)
carry_up Bits8 y a z e = grind (arith, nat_tests)
carry_up Bits16 y a z e = grind (arith, nat_tests)
carry_up Bits32 y a z e = grind (arith, nat_tests)

-- ---- many places

-- the other number after n places, with what has left it above the width
abbrev pub behind : Width → ℕ → ℕ → ℕ
behind width n other = other % modulus width * 2 ^ n

-- the number after n places, with what has left it above the width
abbrev pub advanced : Width → ℕ → ℕ → ℕ → ℕ
advanced width n value other = value * 2 ^ n + behind width n other / modulus width

-- what SHLD makes of them
abbrev raised_up : Width → ℕ → ℕ → ℕ → Shifting
raised_up width n value other = record {
  value = advanced width n value other % modulus width;
  other = behind width n other % modulus width;
  carry = is_odd (advanced width n value other / modulus width);
}

nothing_behind : (width : Width) (value other : ℕ) → value ≡ value * 1 + other % modulus width * 1 / modulus width
nothing_behind Bits8 value other = omega arith
nothing_behind Bits16 value other = omega arith
nothing_behind Bits32 value other = omega arith

twice : (v n : ℕ) → v * 2 ^ n * 2 ≡ v * 2 ^ suc n
twice v n = mul_assoc v (2 ^ n) 2 ∙ ap (λ x. v * x) (sym (pow-suc 2 n))

twice_moved : (width : Width) (n value other : ℕ) →
    value * 2 ^ n * 2 + behind width n other * 2 / modulus width ≡ advanced width (suc n) value other
twice_moved width n value other =
    (λ i. twice value n i + twice (other % modulus width) n i / modulus width)

-- one place more
once : (width : Width) (n value other : ℕ) (s : Shifting) →
    s.value % modulus width ≡ advanced width n value other % modulus width → s.other % modulus width ≡ behind width n other % modulus width →
    shift_once Shld width s ≡ raised_up width (suc n) value other
unfolding shift_once
once width n value other s e f =
    let is_moved = twice_moved width n value other in
    (λ i. record {
      value = (value_up width s.value s.other (value * 2 ^ n) (behind width n other) e f ∙ ap (λ x. x % modulus width) is_moved) i;
      other = (other_up width s.other (behind width n other) f ∙ ap (λ x. x % modulus width) (twice (other % modulus width) n)) i;
      carry = (carry_up width s.value (value * 2 ^ n) (behind width n other) e ∙ ap (λ x. is_odd (x / modulus width)) is_moved) i;
    })

one : (width : Width) (other : ℕ) → other % modulus width ≡ (other % modulus width * 1) % modulus width
one Bits8 other = omega arith
one Bits16 other = omega arith
one Bits32 other = omega arith

-- The lowest bits are those of the products, also after no place.
lowest : (width : Width) (n value other : ℕ) →
    ((shift_times Shld width n (shift_start value other)).value % modulus width ≡ advanced width n value other % modulus width)
    × ((shift_times Shld width n (shift_start value other)).other % modulus width ≡ behind width n other % modulus width)
unfolding shift_times
lowest width zero value other = (ap (λ x. x % modulus width) (nothing_behind width value other), one width other)
lowest width (suc n) value other =
    let before = lowest width n value other in
    let e = last Shld width n (shift_start value other) ∙ once width n value other _ before.0 before.1 in (
      ap (λ s. s.value % modulus width) e ∙ mod-mod (advanced width (suc n) value other) (modulus width),
      ap (λ s. s.other % modulus width) e ∙ mod-mod (behind width (suc n) other) (modulus width),
    )

pub many_up : (width : Width) (n value other : ℕ) → 0 < n → shift_times Shld width n (shift_start value other) ≡ raised_up width n value other
many_up width zero value other some = absurd (omega arith)
many_up width (suc n) value other some =
    let before = lowest width n value other in
    last Shld width n (shift_start value other) ∙ once width n value other _ before.0 before.1

-- ---- SHL is SHLD of a number with nothing behind it

nothing_up : (width : Width) (value : ℕ) (carry : Bool) → shift_once Shld width (record { value = value; other = 0; carry = carry }) ≡ record { value = up width false value; other = 0; carry = is_negative width value }
unfolding shift_once
nothing_up Bits8 value carry = refl
nothing_up Bits16 value carry = refl
nothing_up Bits32 value carry = refl

pub alone_up : (width : Width) (n value other : ℕ) (carry : Bool) →
    shift_times Shl width n (record { value = value; other = other; carry = carry })
    ≡ record (shift_times Shld width n (record { value = value; other = 0; carry = carry })) { other = other }
unfolding shift_times shift_once
alone_up width zero value other carry = refl
alone_up width (suc n) value other carry =
    alone_up width n (up width false value) other (is_negative width value)
    ∙ ap (λ s. record (shift_times Shld width n s) { other = other }) (sym (nothing_up width value carry))

-- ---- 64 bits are enough

below_half : (v n : ℕ) → v < 2 ^ 32 → n < 32 → v * 2 ^ n < 2 ^ 63
below_half v n small few =
    let power : 2 ^ n ≤ 2 ^ 31 = pow-le-pow_right {n = 2} (omega arith) {i = n} {j = 31} (omega arith) in
    let product : v * 2 ^ n ≤ v * 2 ^ 31 = mul-le-mul_left v power in
    omega arith

pub room : (width : Width) (n value other : ℕ) → n < 32 → value < 2 ^ 32 → other < 2 ^ 32 → advanced width n value other < 2 ^ 64
room width n value other few small_value small_other =
    let high : value * 2 ^ n < 2 ^ 63 = below_half value n small_value few in
    let lowest : other % modulus width ≤ other = mod-le other (modulus width) in
    let low : behind width n other < 2 ^ 63 = below_half (other % modulus width) n (omega arith) few in
    let above : behind width n other / modulus width ≤ behind width n other = div-le_self (behind width n other) (modulus width) in
    omega arith
