-- What the definitions mean in numbers: shifts are products and quotients, rotations undo each other, a quotient
-- with its remainder is the dividend, and the conditions after CMP compare.
use Rattle.std.specs.Prelude.{◌≡◌, ℕ, ◌+◌, ◌*◌, ◌/◌, ◌%◌, ◌^◌, ◌<◌, ◌==◌, nat_lt, nat_le, true, ℤ, pos, negsuc}
use Rattle.std.specs.Prelude.{unsigned_abs, not, ◌+ℤ◌, ◌-ℤ◌, ◌*ℤ◌, int_lt, int_le, IfSome}
use Rattle.std.specs.Int.{int_div_euclid}
use Rattle.jos_alu.specs.declared.width.Width.{Width}
use Rattle.jos_alu.specs.declared.condition.Condition.TheVariants as condition
use Rattle.jos_alu.specs.declared.shifts.Shift.TheVariants.{Rol, Ror, Shl, Shr, Sar}
use Rattle.jos_alu.specs.declared.products.Halves.{Halves}
use Rattle.jos_alu.specs.declared.shifts.Shifting.{Shifting}
use Rattle.jos_alu.specs.Flags.{modulus, flags_of_sum, flags_of_difference, subtracted, condition_holds}
use Rattle.jos_alu.specs.Shifts.{shift_times}
use Rattle.jos_alu.specs.Products.{signed_of, bits_of, fits_in, unsigned_quotient, signed_quotient}

-- up by n places is times 2^n, without the bits that go out
abbrev pub ShiftsUp : Type 0
ShiftsUp = (width : Width) (n : ℕ) (s : Shifting) →
    (shift_times Shl width n s).value % modulus width ≡ (s.value * 2 ^ n) % modulus width

-- down by n places is divided by 2^n
abbrev pub ShiftsDown : Type 0
ShiftsDown = (width : Width) (n : ℕ) (s : Shifting) → (shift_times Shr width n s).value ≡ s.value / 2 ^ n

-- SAR by n places divides the signed number by 2^n, rounding down.
abbrev pub ShiftsSigned : Type 0
ShiftsSigned = (width : Width) (n : ℕ) (s : Shifting) → s.value < modulus width →
    signed_of width (shift_times Sar width n s).value ≡ int_div_euclid (signed_of width s.value) (pos (2 ^ n))

-- ROL by n places undoes ROR by n places.
abbrev pub RotatesBack : Type 0
RotatesBack = (width : Width) (n : ℕ) (s : Shifting) → s.value < modulus width →
    (shift_times Rol width n (shift_times Ror width n s)).value ≡ s.value

abbrev pub DividesUnsigned : Type 0
DividesUnsigned = (width : Width) (n d : ℕ) →
    IfSome (unsigned_quotient width n d) (λ h. (h.low * d + h.high ≡ n) × (h.high < d) × (h.low < modulus width))

-- 0, or of the same sign as the number that is divided
abbrev pub HasSignOf : ℤ → ℤ → Type 0
HasSignOf remainder (pos n) = int_le (pos 0) remainder ≡ true
HasSignOf remainder (negsuc n) = int_le remainder (pos 0) ≡ true

-- The halves are those of a quotient, which fits, and of a remainder, which is smaller than the divisor and has
-- the dividend's sign.
abbrev pub AreQuotientOf : Width → ℤ → ℤ → Halves → Type 0
AreQuotientOf width n d h = (quotient remainder : ℤ)
    × (quotient *ℤ d +ℤ remainder ≡ n) × (fits_in width quotient ≡ true)
    × (unsigned_abs remainder < unsigned_abs d) × HasSignOf remainder n
    × (h.low ≡ bits_of quotient % modulus width) × (h.high ≡ bits_of remainder % modulus width)

abbrev pub DividesSigned : Type 0
DividesSigned = (width : Width) (n d : ℤ) → IfSome (signed_quotient width n d) (AreQuotientOf width n d)

-- The conditions after CMP are the comparisons of the two numbers: below, equal and below or equal of the numbers
-- themselves, and less and less or equal of the signed ones.
pub record Compares (width : Width) (a b : ℕ) (eflags : ℕ) : Type 0 where
  pub below : condition_holds eflags condition.Below ≡ nat_lt a b
  pub equal : condition_holds eflags condition.Equal ≡ (a == b)
  pub below_or_equal : condition_holds eflags condition.BelowOrEqual ≡ nat_le a b
  pub less : condition_holds eflags condition.Less ≡ int_lt (signed_of width a) (signed_of width b)
  pub less_or_equal : condition_holds eflags condition.LessOrEqual ≡ int_le (signed_of width a) (signed_of width b)

abbrev pub ComparesNumbers : Type 0
ComparesNumbers = (width : Width) (a b eflags : ℕ) → a < modulus width → b < modulus width →
    Compares width a b (subtracted width a b 0 eflags).eflags

-- OF is set where the signed sum, or the signed difference, does not fit the width.
pub record Overflows (width : Width) (a b carry : ℕ) : Type 0 where
  pub sum : (flags_of_sum width a b carry).overflow ≡ not (fits_in width (signed_of width a +ℤ signed_of width b +ℤ pos carry))
  pub difference : (flags_of_difference width a b carry).overflow ≡ not (fits_in width (signed_of width a -ℤ signed_of width b -ℤ pos carry))

abbrev pub OverflowsSigned : Type 0
OverflowsSigned = (width : Width) (a b carry : ℕ) → a < modulus width → b < modulus width → carry < 2 → Overflows width a b carry
