-- Shifts and rotations: a shift by a count is that many shifts by one place.
-- (Intel 80386 Programmer's Reference Manual, 1986, section 17.2.2: RCL/RCR/ROL/ROR, SAL/SAR/SHL/SHR, SHLD, SHRD.
-- Flags that it leaves undefined are kept.)
use Rattle.std.specs.Prelude.{ℕ, ◌+◌, ◌*◌, ◌/◌, ◌%◌, ◌==◌, nat_le, not, zero, suc, Bool, false, if◌then◌else◌}
use Rattle.std.proofs.Math.Bool.{beq}
use Rattle.jos_base.specs.Environments.{bit_of}
use Rattle.jos_alu.specs.declared.width.Width.{Width}
use Rattle.jos_alu.specs.declared.shifts.Shift.{Shift}
use Rattle.jos_alu.specs.declared.shifts.Shift.TheVariants.{Rol, Ror, Shl, Shr, Sar, Shld, Shrd}
use Rattle.jos_alu.specs.declared.flags.StatusFlags.{StatusFlags}
use Rattle.jos_alu.specs.declared.flags.Computed.{Computed}
use Rattle.jos_alu.specs.declared.shifts.Shifting.{Shifting}
use Rattle.jos_alu.specs.Flags.{modulus, sign_bit, is_negative, status_flags_of, with_status_flags, flags_of_result}

abbrev pub is_odd : ℕ → Bool
is_odd n = n % 2 == 1

-- one place up, with this bit at the bottom
abbrev pub up : Width → Bool → ℕ → ℕ
up width low n = (n * 2 + bit_of low) % modulus width

-- one place down, with this bit at the top
abbrev pub down : Width → Bool → ℕ → ℕ
down width high n = n / 2 + (if high then sign_bit width else 0)

-- By one place: the value, for SHLD and SHRD the register whose bits come in, and in CF the bit that goes out.
unfoldable pub shift_once : Shift → Width → Shifting → Shifting
shift_once Rol width s = record { value = up width (is_negative width s.value) s.value; other = s.other; carry = is_negative width s.value }
shift_once Ror width s = record { value = down width (is_odd s.value) s.value; other = s.other; carry = is_odd s.value }
shift_once Shl width s = record { value = up width false s.value; other = s.other; carry = is_negative width s.value }
shift_once Shr width s = record { value = down width false s.value; other = s.other; carry = is_odd s.value }
shift_once Sar width s = record { value = down width (is_negative width s.value) s.value; other = s.other; carry = is_odd s.value }
shift_once Shld width s =
    record { value = up width (is_negative width s.other) s.value; other = up width false s.other; carry = is_negative width s.value }
shift_once Shrd width s =
    record { value = down width (is_odd s.other) s.value; other = down width false s.other; carry = is_odd s.value }

unfoldable pub shift_times : Shift → Width → ℕ → Shifting → Shifting
shift_times shift width zero s = s
shift_times shift width (suc n) s = shift_times shift width n (shift_once shift width s)

-- the bit below the top
abbrev pub second_top : Width → ℕ → Bool
second_top width n = nat_le (sign_bit width / 2) (n % sign_bit width)

-- OF of a shift by one place, from the old value, the result and CF
abbrev pub shift_overflow : Shift → Width → ℕ → ℕ → Bool → Bool → Bool
shift_overflow Rol width old result carry kept = not (beq carry (is_negative width result))
shift_overflow Ror width old result carry kept = not (beq (is_negative width result) (second_top width result))
shift_overflow Shl width old result carry kept = not (beq carry (is_negative width result))
shift_overflow Shr width old result carry kept = is_negative width old
shift_overflow Sar width old result carry kept = false
shift_overflow Shld width old result carry kept = kept
shift_overflow Shrd width old result carry kept = kept

-- Any other count keeps OF.
abbrev pub overflow_after : Shift → Width → ℕ → Shifting → ℕ → Bool → Bool
overflow_after shift width old s count kept =
    if count == 1 then shift_overflow shift width old s.value s.carry kept else kept

abbrev pub rotated_flags : StatusFlags → Bool → Bool → StatusFlags
rotated_flags f carry overflow = record f { carry = carry; overflow = overflow }

-- Rotations set CF and OF alone, and the others SF, ZF and PF too.
unfoldable pub shift_flags : Shift → Width → ℕ → Shifting → ℕ → StatusFlags → StatusFlags
shift_flags Rol width old s count f = rotated_flags f s.carry (overflow_after Rol width old s count f.overflow)
shift_flags Ror width old s count f = rotated_flags f s.carry (overflow_after Ror width old s count f.overflow)
shift_flags Shl width old s count f = flags_of_result width s.value s.carry f.auxiliary (overflow_after Shl width old s count f.overflow)
shift_flags Shr width old s count f = flags_of_result width s.value s.carry f.auxiliary (overflow_after Shr width old s count f.overflow)
shift_flags Sar width old s count f = flags_of_result width s.value s.carry f.auxiliary (overflow_after Sar width old s count f.overflow)
shift_flags Shld width old s count f = flags_of_result width s.value s.carry f.auxiliary (overflow_after Shld width old s count f.overflow)
shift_flags Shrd width old s count f = flags_of_result width s.value s.carry f.auxiliary (overflow_after Shrd width old s count f.overflow)

abbrev pub shift_result : Shift → Width → ℕ → Shifting → ℕ → ℕ → Computed
shift_result shift width old s count eflags =
    record { value = s.value; eflags = with_status_flags eflags (shift_flags shift width old s count (status_flags_of eflags)) }

abbrev pub shift_start : ℕ → ℕ → Shifting
shift_start value other = record { value = value; other = other; carry = false }

-- The count is taken modulo 32. By no place nothing changes. The lowest bits of the width are what is shifted.
unfoldable pub shifted : Shift → Width → ℕ → ℕ → ℕ → ℕ → Computed
shifted shift width value other count eflags =
    if count % 32 == 0 then record { value = value; eflags = eflags }
    else shift_result shift width value (shift_times shift width (count % 32) (shift_start (value % modulus width) other)) (count % 32) eflags
