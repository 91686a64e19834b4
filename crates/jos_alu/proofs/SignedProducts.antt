-- The product of two signed words fits 64 bits, and is what the code computes of their bits.
use Rattle.std.proofs.Common.{◌≡◌, ℕ, ◌≤◌, ◌^◌, ap, ◌∙◌, arith}
use Rattle.std.specs.Prelude.{ℤ, pos, negsuc, ◌*ℤ◌, unsigned_abs, FitsSigned}
use Rattle.std.specs.Int.{w32, w64, cast_signed, cast_unsigned}
use Rattle.std.proofs.lemmas.Int.{to_z-of_z, fits_signed_mul}

pub abs_le : (z : ℤ) → FitsSigned w32 z → unsigned_abs z ≤ 2 ^ 31
abs_le (pos n) h = omega (arith, h.sfits)
abs_le (negsuc n) h = omega (arith, h.sfits)

pub longer : (z : ℤ) → FitsSigned w32 z → FitsSigned w64 z
longer z h = record { sfits = omega (arith, h.sfits) }

pub product_fits : (x y : ℤ) → FitsSigned w32 x → FitsSigned w32 y → FitsSigned w64 (x *ℤ y)
product_fits x y fx fy = fits_signed_mul w64 x y (2 ^ 31) (2 ^ 31) (abs_le x fx) (abs_le y fy) (omega arith)

-- as i64
widened : (x l : ℤ) → FitsSigned w32 x → l ≡ cast_signed w32 (cast_unsigned w32 x) → cast_signed w64 (cast_unsigned w64 l) ≡ x
widened x l f e =
    ap (λ z. cast_signed w64 (cast_unsigned w64 z)) (e ∙ to_z-of_z w32 x f) ∙ to_z-of_z w64 x (longer x f)

pub product_bits : (x y l r : ℤ) (p : ℕ) → FitsSigned w32 x → FitsSigned w32 y →
    l ≡ cast_signed w32 (cast_unsigned w32 x) → r ≡ cast_signed w32 (cast_unsigned w32 y) →
    p ≡ cast_unsigned w64 (cast_signed w64 (cast_unsigned w64 (cast_signed w64 (cast_unsigned w64 l) *ℤ cast_signed w64 (cast_unsigned w64 r)))) →
    p ≡ cast_unsigned w64 (x *ℤ y)
product_bits x y l r p fx fy el er ep =
    ep
    ∙ ap (λ z. cast_unsigned w64 (cast_signed w64 (cast_unsigned w64 z))) (λ i. widened x l fx el i *ℤ widened y r fy er i)
    ∙ ap (cast_unsigned w64) (to_z-of_z w64 (x *ℤ y) (product_fits x y fx fy))
