-- Many shifts by one place, taken apart.
use Rattle.std.proofs.Common.{◌≡◌, ℕ, ◌+◌, zero, suc, refl, ap, ◌∙◌}
use Rattle.std.proofs.Math.Nat.{zero-add, suc-add}
use Rattle.jos_alu.specs.declared.width.Width.{Width}
use Rattle.jos_alu.specs.declared.shifts.Shift.{Shift}
use Rattle.jos_alu.specs.declared.shifts.Shifting.{Shifting}
use Rattle.jos_alu.specs.Shifts.{shift_once, shift_times}

-- the last one
pub last : (shift : Shift) (width : Width) (n : ℕ) (s : Shifting) → shift_times shift width (suc n) s ≡ shift_once shift width (shift_times shift width n s)
unfolding shift_times
last shift width zero s = refl
last shift width (suc n) s = last shift width n (shift_once shift width s)

-- the first m and the n after them
pub in_parts : (shift : Shift) (width : Width) (m n : ℕ) (s : Shifting) → shift_times shift width (m + n) s ≡ shift_times shift width n (shift_times shift width m s)
unfolding shift_times
in_parts shift width zero n s = ap (λ k. shift_times shift width k s) (zero-add n)
in_parts shift width (suc m) n s = ap (λ k. shift_times shift width k s) (suc-add m n) ∙ in_parts shift width m n (shift_once shift width s)
