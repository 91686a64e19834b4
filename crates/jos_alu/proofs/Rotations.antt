-- ROL undoes ROR, one place after the other.
use Rattle.std.proofs.Common.{◌≡◌, ℕ, ◌+◌, ◌*◌, ◌/◌, ◌%◌, ◌^◌, ◌<◌, zero, suc, Bool, true, false, refl, ap, ◌∙◌}
use Rattle.std.proofs.Common.{arith, if◌then◌else◌}
use Rattle.std.specs.Prelude.{nat_le}
use Rattle.std.proofs.lemmas.Bool.Decides.{nat_tests}
use Rattle.std.proofs.Math.Nat.{mod-eq_of_lt, add-mod_right}
use Rattle.jos_base.specs.Environments.{bit_of}
use Rattle.jos_alu.specs.declared.width.Width.{Width}
use Rattle.jos_alu.specs.declared.width.Width.TheVariants.{Bits8, Bits16, Bits32}
use Rattle.jos_alu.specs.declared.shifts.Shift.TheVariants.{Rol, Ror}
use Rattle.jos_alu.specs.declared.shifts.Shifting.{Shifting}
use Rattle.jos_alu.specs.Flags.{modulus, is_negative}
use Rattle.jos_alu.specs.Shifts.{is_odd, up, down, shift_once, shift_times}
use Rattle.jos_alu.specs.Laws.{RotatesBack}
use Rattle.jos_alu.proofs.ShiftTimes.{last}
use Rattle.jos_alu.proofs.Turns.{alone}

-- ---- one place

below : (h m v : ℕ) (odd : Bool) → m ≡ h * 2 → v < m → v / 2 + (if odd then h else 0) < m
below h m v true e small = omega arith
below h m v false e small = omega arith

down_below : (width : Width) (v : ℕ) → v < modulus width → down width (is_odd v) v < modulus width
down_below Bits8 v small = below 128 256 v (is_odd v) refl small
down_below Bits16 v small = below 32768 65536 v (is_odd v) refl small
down_below Bits32 v small = below (2 ^ 31) (2 ^ 32) v (is_odd v) refl small

back : (h m v : ℕ) (odd : Bool) → m ≡ h * 2 → v < m → is_odd v ≡ odd →
    (nat_le h ((v / 2 + (if odd then h else 0)) % m) ≡ odd)
    × (((v / 2 + (if odd then h else 0)) * 2 + bit_of odd) % m ≡ v)
back h m v true e small is =
    let odd : v % 2 ≡ 1 = grind (arith, nat_tests) in
    let whole : (v / 2 + h) * 2 + 1 ≡ v + m = omega arith in
    let top : nat_le h (v / 2 + h) ≡ true = grind (arith, nat_tests) in
    let inside : v / 2 + h < m = omega arith in
    (ap (λ x. nat_le h x) (mod-eq_of_lt inside) ∙ top, ap (λ x. x % m) whole ∙ add-mod_right v m ∙ mod-eq_of_lt small)
back h m v false e small is =
    let even : v % 2 ≡ 0 = grind (arith, nat_tests) in
    let whole : (v / 2 + 0) * 2 + 0 ≡ v = omega arith in
    let inside : v / 2 + 0 < m = omega arith in
    let low : v / 2 + 0 < h = omega arith in
    let top : nat_le h (v / 2 + 0) ≡ false = grind (arith, nat_tests) in
    (ap (λ x. nat_le h x) (mod-eq_of_lt inside) ∙ top, ap (λ x. x % m) whole ∙ mod-eq_of_lt small)

joined : (width : Width) (d v : ℕ) (negative odd : Bool) → negative ≡ odd → (d * 2 + bit_of odd) % modulus width ≡ v → up width negative d ≡ v
joined width d v negative odd e h = ap (λ low. up width low d) e ∙ h

up_down : (width : Width) (v : ℕ) → v < modulus width → up width (is_negative width (down width (is_odd v) v)) (down width (is_odd v) v) ≡ v
up_down Bits8 v small = let b = back 128 256 v (is_odd v) refl small refl in joined Bits8 _ v _ (is_odd v) b.0 b.1
up_down Bits16 v small = let b = back 32768 65536 v (is_odd v) refl small refl in joined Bits16 _ v _ (is_odd v) b.0 b.1
up_down Bits32 v small = let b = back (2 ^ 31) (2 ^ 32) v (is_odd v) refl small refl in joined Bits32 _ v _ (is_odd v) b.0 b.1

-- ---- many places

pub bounded : (width : Width) (n : ℕ) (s : Shifting) → s.value < modulus width → (shift_times Ror width n s).value < modulus width
unfolding shift_times shift_once
bounded width zero s small = small
bounded width (suc n) s small = bounded width n (shift_once Ror width s) (down_below width s.value small)

once : (width : Width) (s : Shifting) → s.value < modulus width → (shift_once Rol width (shift_once Ror width s)).value ≡ s.value
unfolding shift_once
once width s small = up_down width s.value small

pub rotates_back : RotatesBack
unfolding shift_times
rotates_back width zero s small = refl
rotates_back width (suc n) s small =
    ap (λ x. (shift_times Rol width n (shift_once Rol width x)).value) (last Ror width n s)
    ∙ alone width n _ (shift_times Ror width n s) (once width (shift_times Ror width n s) (bounded width n s small))
    ∙ rotates_back width n s small
