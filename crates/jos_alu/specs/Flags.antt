-- The status flags of sums, differences and results of logic at a width, and the conditions on them.
-- (Intel 80386 Programmer's Reference Manual, 1986, section 2.3.4.1, and appendices C and D.)
use Rattle.std.specs.Prelude.{ℕ, ◌+◌, ◌-◌, ◌%◌, ◌^◌, ◌==◌, ◌&&◌, ◌||◌, nat_lt, nat_le, not, Bool, false, bit_and}
use Rattle.std.specs.Prelude.{bit_or, bit_xor, if◌then◌else◌}
use Rattle.std.specs.Int.RustNames.{count_ones}
use Rattle.std.proofs.Math.Bool.{beq}
use Rattle.jos_base.specs.declared.numbers.TheConstants.{FL_CF, FL_PF, FL_AF, FL_ZF, FL_SF, FL_OF}
use Rattle.jos_base.specs.Environments.{bit_of}
use Rattle.jos_alu.specs.declared.width.Width.{Width}
use Rattle.jos_alu.specs.declared.width.Width.TheVariants.{Bits8, Bits16, Bits32}
use Rattle.jos_alu.specs.declared.operation.Operation.{Operation}
use Rattle.jos_alu.specs.declared.operation.Operation.TheVariants.{Add, Or, Adc, Sbb, And, Sub, Xor, Cmp}
use Rattle.jos_alu.specs.declared.condition.Condition.{Condition}
use Rattle.jos_alu.specs.declared.condition.Condition.TheVariants as condition
use Rattle.jos_alu.specs.declared.flags.StatusFlags.{StatusFlags}
use Rattle.jos_alu.specs.declared.flags.Computed.{Computed}

-- how many numbers there are of a width
abbrev pub modulus : Width → ℕ
modulus Bits8 = 256
modulus Bits16 = 65536
modulus Bits32 = 2 ^ 32

-- the top bit of a width, which negative numbers have in two's complement
abbrev pub sign_bit : Width → ℕ
sign_bit Bits8 = 128
sign_bit Bits16 = 32768
sign_bit Bits32 = 2 ^ 31

abbrev pub is_negative : Width → ℕ → Bool
is_negative width n = nat_le (sign_bit width) (n % modulus width)

-- ---- EFLAGS

abbrev pub flag : Bool → ℕ → ℕ
flag set place = if set then place else 0

abbrev pub is_set : ℕ → ℕ → Bool
is_set eflags place = not (bit_and eflags place == 0)

-- the six flags that arithmetic sets
unfoldable pub status_flags_of : ℕ → StatusFlags
status_flags_of eflags = record {
  carry = is_set eflags FL_CF;
  parity = is_set eflags FL_PF;
  auxiliary = is_set eflags FL_AF;
  zero = is_set eflags FL_ZF;
  sign = is_set eflags FL_SF;
  overflow = is_set eflags FL_OF;
}

-- EFLAGS with these six flags, and all else as it was
unfoldable pub with_status_flags : ℕ → StatusFlags → ℕ
with_status_flags eflags f =
    bit_or (bit_or (bit_or (bit_or (bit_or (bit_or (bit_and eflags 0xffff_f72a)
    (flag f.carry FL_CF)) (flag f.parity FL_PF)) (flag f.auxiliary FL_AF)) (flag f.zero FL_ZF)) (flag f.sign FL_SF)) (flag f.overflow FL_OF)

-- ---- sums, differences and logic

-- the flags that the result alone decides: PF of its low byte, ZF and SF
abbrev pub flags_of_result : Width → ℕ → Bool → Bool → Bool → StatusFlags
flags_of_result width result carry auxiliary overflow = record {
  carry = carry;
  parity = count_ones (result % 256) % 2 == 0;
  auxiliary = auxiliary;
  zero = result == 0;
  sign = is_negative width result;
  overflow = overflow;
}

-- a sum with a carry into it
abbrev pub sum_of : Width → ℕ → ℕ → ℕ → ℕ
sum_of width a b carry = (a + b + carry) % modulus width

-- CF: the sum does not fit. AF: nor do the low four bits. OF: the signs agree, and the result's is another.
unfoldable pub flags_of_sum : Width → ℕ → ℕ → ℕ → StatusFlags
flags_of_sum width a b carry =
    flags_of_result width (sum_of width a b carry) (nat_le (modulus width) (a + b + carry)) (nat_le 16 (a % 16 + b % 16 + carry))
    (beq (is_negative width a) (is_negative width b) && not (beq (is_negative width a) (is_negative width (sum_of width a b carry))))

-- a difference with a borrow; 2^33 is 0 at each width, and above what is taken away
abbrev pub difference_of : Width → ℕ → ℕ → ℕ → ℕ
difference_of width a b borrow = (a + 2 ^ 33 - (b + borrow)) % modulus width

-- CF: there is a borrow. AF: of the low four bits too. OF: the signs differ, and the result's is not a's.
unfoldable pub flags_of_difference : Width → ℕ → ℕ → ℕ → StatusFlags
flags_of_difference width a b borrow =
    flags_of_result width (difference_of width a b borrow) (nat_lt a (b + borrow)) (nat_lt (a % 16) (b % 16 + borrow))
    (not (beq (is_negative width a) (is_negative width b))
    && not (beq (is_negative width a) (is_negative width (difference_of width a b borrow))))

-- Logic clears CF and OF, and keeps AF.
unfoldable pub flags_of_logic : Width → ℕ → ℕ → StatusFlags
flags_of_logic width result eflags = flags_of_result width result false (is_set eflags FL_AF) false

abbrev pub keeping_carry : ℕ → StatusFlags → StatusFlags
keeping_carry eflags f = record f { carry = is_set eflags FL_CF }

-- ---- what an operation gives: a number and EFLAGS

abbrev pub added : Width → ℕ → ℕ → ℕ → ℕ → Computed
added width a b carry eflags =
    record { value = sum_of width a b carry; eflags = with_status_flags eflags (flags_of_sum width a b carry) }

abbrev pub subtracted : Width → ℕ → ℕ → ℕ → ℕ → Computed
subtracted width a b borrow eflags =
    record { value = difference_of width a b borrow; eflags = with_status_flags eflags (flags_of_difference width a b borrow) }

abbrev pub combined : Width → ℕ → ℕ → Computed
combined width value eflags = record { value = value; eflags = with_status_flags eflags (flags_of_logic width value eflags) }

abbrev pub increased : Width → ℕ → ℕ → ℕ → Computed
increased width a b eflags =
    record { value = sum_of width a b 0; eflags = with_status_flags eflags (keeping_carry eflags (flags_of_sum width a b 0)) }

abbrev pub decreased : Width → ℕ → ℕ → ℕ → Computed
decreased width a b eflags =
    record { value = difference_of width a b 0; eflags = with_status_flags eflags (keeping_carry eflags (flags_of_difference width a b 0)) }

-- ADC adds CF too, and SBB takes CF away. CMP is SUB; that its difference is dropped is said where it is used.
unfoldable pub operated : Operation → Width → ℕ → ℕ → ℕ → Computed
operated Add width a b eflags = added width a b 0 eflags
operated Or width a b eflags = combined width (bit_or a b) eflags
operated Adc width a b eflags = added width a b (bit_of (is_set eflags FL_CF)) eflags
operated Sbb width a b eflags = subtracted width a b (bit_of (is_set eflags FL_CF)) eflags
operated And width a b eflags = combined width (bit_and a b) eflags
operated Sub width a b eflags = subtracted width a b 0 eflags
operated Xor width a b eflags = combined width (bit_xor a b) eflags
operated Cmp width a b eflags = subtracted width a b 0 eflags

-- ---- conditions

-- SF is not OF: the signed difference that CMP leaves is negative
abbrev pub is_less : ℕ → Bool
is_less eflags = not (beq (is_set eflags FL_SF) (is_set eflags FL_OF))

-- whether the flags are such that a jump with this condition is taken
unfoldable pub condition_holds : ℕ → Condition → Bool
condition_holds eflags condition.Overflow = is_set eflags FL_OF
condition_holds eflags condition.NotOverflow = not (is_set eflags FL_OF)
condition_holds eflags condition.Below = is_set eflags FL_CF
condition_holds eflags condition.AboveOrEqual = not (is_set eflags FL_CF)
condition_holds eflags condition.Equal = is_set eflags FL_ZF
condition_holds eflags condition.NotEqual = not (is_set eflags FL_ZF)
condition_holds eflags condition.BelowOrEqual = is_set eflags FL_CF || is_set eflags FL_ZF
condition_holds eflags condition.Above = not (is_set eflags FL_CF || is_set eflags FL_ZF)
condition_holds eflags condition.Sign = is_set eflags FL_SF
condition_holds eflags condition.NotSign = not (is_set eflags FL_SF)
condition_holds eflags condition.ParityEven = is_set eflags FL_PF
condition_holds eflags condition.ParityOdd = not (is_set eflags FL_PF)
condition_holds eflags condition.Less = is_less eflags
condition_holds eflags condition.GreaterOrEqual = not (is_less eflags)
condition_holds eflags condition.LessOrEqual = is_set eflags FL_ZF || is_less eflags
condition_holds eflags condition.Greater = not (is_set eflags FL_ZF || is_less eflags)
