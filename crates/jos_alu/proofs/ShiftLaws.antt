-- Shifts by one place, many times, as products and quotients.
use Rattle.std.proofs.Common.{◌≡◌, ℕ, ◌+◌, ◌*◌, ◌/◌, ◌%◌, ◌^◌, zero, suc, sym, ap, ◌∙◌, arith}
use Rattle.std.proofs.lemmas.Nat.{mul-mod}
use Rattle.std.proofs.Math.Nat.{mod-mod, div-div-eq-div-mul, pow-succ'}
use Rattle.jos_alu.specs.declared.shifts.Shift.TheVariants.{Shl, Shr}
use Rattle.jos_alu.specs.Flags.{modulus}
use Rattle.jos_alu.specs.Shifts.{shift_once, shift_times}
use Rattle.jos_alu.specs.Laws.{ShiftsUp, ShiftsDown}

-- one place more
double : (v n m : ℕ) → ((v * 2 + 0) % m * 2 ^ n) % m ≡ (v * 2 ^ suc n) % m
double v n m =
    let two : v * 2 + 0 ≡ v * 2 = omega arith in
    ap (λ x. (x % m * 2 ^ n) % m) two
    ∙ mul-mod ((v * 2) % m) (2 ^ n) m
    ∙ ap (λ x. (x * (2 ^ n % m)) % m) (mod-mod (v * 2) m)
    ∙ sym (mul-mod (v * 2) (2 ^ n) m)
    ∙ ap (λ x. x % m) (let e : v * 2 * 2 ^ n ≡ v * (2 * 2 ^ n) = grind arith in e ∙ ap (λ x. v * x) (sym (pow-succ' 2 n)))

pub shifts_up : ShiftsUp
unfolding shift_times shift_once
shifts_up width zero s = let e : s.value ≡ s.value * 1 = omega arith in ap (λ x. x % modulus width) e
shifts_up width (suc n) s = shifts_up width n (shift_once Shl width s) ∙ double s.value n (modulus width)

halve : (v n : ℕ) → (v / 2 + 0) / 2 ^ n ≡ v / 2 ^ suc n
halve v n =
    let e : v / 2 + 0 ≡ v / 2 = omega arith in
    ap (λ x. x / 2 ^ n) e ∙ div-div-eq-div-mul v 2 (2 ^ n) ∙ ap (λ x. v / x) (sym (pow-succ' 2 n))

pub shifts_down : ShiftsDown
unfolding shift_times shift_once
shifts_down width zero s = let e : s.value ≡ s.value / 1 = omega arith in e
shifts_down width (suc n) s = shifts_down width n (shift_once Shr width s) ∙ halve s.value n
