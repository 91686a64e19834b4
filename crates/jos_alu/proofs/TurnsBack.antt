-- ROL and ROR by many places: CF is the bit that came in last, and ROR is ROL by what is left of 32 places.
use Rattle.std.proofs.Common.{◌≡◌, ℕ, ◌+◌, ◌-◌, ◌*◌, ◌<◌, zero, suc, Bool, true, false, sym, ap, refl, ◌∙◌, arith}
use Rattle.std.proofs.lemmas.Bool.Decides.{nat_tests}
use Rattle.jos_alu.specs.declared.width.Width.{Width}
use Rattle.jos_alu.specs.declared.width.Width.TheVariants.{Bits8, Bits16, Bits32}
use Rattle.jos_alu.specs.declared.shifts.Shift.TheVariants.{Rol, Ror}
use Rattle.jos_alu.specs.declared.shifts.Shifting.{Shifting}
use Rattle.jos_alu.specs.Flags.{modulus, is_negative}
use Rattle.jos_alu.specs.Shifts.{is_odd, up, down, shift_once, shift_times, shift_start}
use Rattle.jos_alu.proofs.ShiftTimes.{last, in_parts}
use Rattle.jos_alu.proofs.Turns.{bits_in, alone, back_again}
use Rattle.jos_alu.proofs.Rotations.{bounded, rotates_back}

-- ---- the bit that came in

low_bit : (width : Width) (low : Bool) (v : ℕ) → low ≡ is_odd (up width low v)
low_bit Bits8 true v = grind (arith, nat_tests)
low_bit Bits8 false v = grind (arith, nat_tests)
low_bit Bits16 true v = grind (arith, nat_tests)
low_bit Bits16 false v = grind (arith, nat_tests)
low_bit Bits32 true v = grind (arith, nat_tests)
low_bit Bits32 false v = grind (arith, nat_tests)

top_bit : (width : Width) (high : Bool) (v : ℕ) → v < modulus width → high ≡ is_negative width (down width high v)
top_bit Bits8 true v small = grind (arith, nat_tests)
top_bit Bits8 false v small = grind (arith, nat_tests)
top_bit Bits16 true v small = grind (arith, nat_tests)
top_bit Bits16 false v small = grind (arith, nat_tests)
top_bit Bits32 true v small = grind (arith, nat_tests)
top_bit Bits32 false v small = grind (arith, nat_tests)

-- ---- ROL

other_left : (width : Width) (n : ℕ) (s : Shifting) → (shift_times Rol width n s).other ≡ s.other
unfolding shift_times shift_once
other_left width zero s = refl
other_left width (suc n) s = other_left width n (shift_once Rol width s)

carry_left : (width : Width) (s : Shifting) → (shift_once Rol width s).carry ≡ is_odd (shift_once Rol width s).value
unfolding shift_once
carry_left width s = low_bit width (is_negative width s.value) s.value

carry_after_left : (width : Width) (n : ℕ) (s : Shifting) → 0 < n → (shift_times Rol width n s).carry ≡ is_odd (shift_times Rol width n s).value
carry_after_left width zero s some = absurd (omega arith)
carry_after_left width (suc n) s some =
    let e = last Rol width n s in
    ap (λ t. t.carry) e ∙ carry_left width (shift_times Rol width n s) ∙ sym (ap (λ t. is_odd t.value) e)

pub many_left : (width : Width) (n value other : ℕ) → 0 < n →
    shift_times Rol width n (shift_start value other) ≡ record {
      value = (shift_times Rol width n (shift_start value 0)).value;
      other = other;
      carry = is_odd (shift_times Rol width n (shift_start value 0)).value;
    }
many_left width n value other some =
    let same = alone width n (shift_start value other) (shift_start value 0) refl in
    (λ i. record {
      value = same i;
      other = other_left width n (shift_start value other) i;
      carry = (carry_after_left width n (shift_start value other) some ∙ ap is_odd same) i;
    })

-- ---- ROR

other_right : (width : Width) (n : ℕ) (s : Shifting) → (shift_times Ror width n s).other ≡ s.other
unfolding shift_times shift_once
other_right width zero s = refl
other_right width (suc n) s = other_right width n (shift_once Ror width s)

carry_right : (width : Width) (s : Shifting) → s.value < modulus width → (shift_once Ror width s).carry ≡ is_negative width (shift_once Ror width s).value
unfolding shift_once
carry_right width s small = top_bit width (is_odd s.value) s.value small

carry_after_right : (width : Width) (n : ℕ) (s : Shifting) → 0 < n → s.value < modulus width →
    (shift_times Ror width n s).carry ≡ is_negative width (shift_times Ror width n s).value
carry_after_right width zero s some small = absurd (omega arith)
carry_after_right width (suc n) s some small =
    let e = last Ror width n s in
    ap (λ t. t.carry) e ∙ carry_right width (shift_times Ror width n s) (bounded width n s small) ∙ sym (ap (λ t. is_negative width t.value) e)

turns_in_32 : (width : Width) → (turns : ℕ) × (turns * bits_in width + 0 ≡ 32)
turns_in_32 Bits8 = (4, refl)
turns_in_32 Bits16 = (2, refl)
turns_in_32 Bits32 = (1, refl)

-- The places up that are left of 32 do what the places down do, since all 32 do nothing.
value_right : (width : Width) (n : ℕ) (s : Shifting) → n < 32 → s.value < modulus width →
    (shift_times Ror width n s).value ≡ (shift_times Rol width (32 - n) s).value
unfolding shift_times
value_right width n s few small =
    let x = shift_times Ror width n s in
    let turns = turns_in_32 width in
    let all : n + (32 - n) ≡ turns.0 * bits_in width + 0 = omega (arith, turns.1) in
    sym (back_again width turns.0 0 x (bounded width n s small))
    ∙ ap (λ k. (shift_times Rol width k x).value) (sym all)
    ∙ ap (λ t. t.value) (in_parts Rol width n (32 - n) x)
    ∙ alone width (32 - n) (shift_times Rol width n x) s (rotates_back width n s small)

pub many_right : (width : Width) (n value other : ℕ) → 0 < n → n < 32 → value < modulus width →
    shift_times Ror width n (shift_start value other) ≡ record {
      value = (shift_times Rol width (32 - n) (shift_start value 0)).value;
      other = other;
      carry = is_negative width (shift_times Rol width (32 - n) (shift_start value 0)).value;
    }
many_right width n value other some few small =
    let same = value_right width n (shift_start value other) few small ∙ alone width (32 - n) (shift_start value other) (shift_start value 0) refl in
    (λ i. record {
      value = same i;
      other = other_right width n (shift_start value other) i;
      carry = (carry_after_right width n (shift_start value other) some small ∙ ap (is_negative width) same) i;
    })
