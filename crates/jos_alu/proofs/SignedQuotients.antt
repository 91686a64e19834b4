-- The division of 64 bits gives the signed quotient, wherever that fits the width.
use Rattle.std.proofs.Common.{◌≡◌, ℕ, ◌<◌, ◌%◌, Bool, true, false, Some, None, refl, ap, sym, ◌∙◌, subst, arith}
use Rattle.std.proofs.Common.{if◌then◌else◌}
use Rattle.std.specs.Prelude.{ℤ, pos, negsuc, ◌==◌, int_div, int_rem, unsigned_abs, FitsSigned}
use Rattle.std.specs.Int.{w64, cast_signed, cast_unsigned, CanDivide}
use Rattle.std.proofs.lemmas.Int.{to_z-of_z, rem_is}
use Rattle.std.proofs.lemmas.Bool.Decides.{nat_tests}
use Rattle.jos_alu.specs.declared.width.Width.{Width}
use Rattle.jos_alu.specs.declared.width.Width.TheVariants.{Bits8, Bits16, Bits32}
use Rattle.jos_alu.specs.declared.products.Halves.{Halves}
use Rattle.jos_alu.specs.Flags.{modulus}
use Rattle.jos_alu.specs.Products.{bits_of, fits_in, signed_quotient}

-- what fits the width fits 64 bits
within : (width : Width) (q : ℤ) → fits_in width q ≡ true → FitsSigned w64 q
unfolding fits_in
within Bits8 (pos n) e = record { sfits = grind (arith, nat_tests) }
within Bits8 (negsuc n) e = record { sfits = grind (arith, nat_tests) }
within Bits16 (pos n) e = record { sfits = grind (arith, nat_tests) }
within Bits16 (negsuc n) e = record { sfits = grind (arith, nat_tests) }
within Bits32 (pos n) e = record { sfits = grind (arith, nat_tests) }
within Bits32 (negsuc n) e = record { sfits = grind (arith, nat_tests) }

pick_none : (zero fits : Bool) (h : Halves) → (fits ≡ true → ⊥) → None ≡ (if zero then None else if fits then Some h else None)
pick_none true fits h never = refl
pick_none false true h never = absurd (never refl)
pick_none false false h never = refl

pick_some : (zero fits : Bool) (h k : Halves) → zero ≡ false → fits ≡ true → h ≡ k → Some h ≡ (if zero then None else if fits then Some k else None)
pick_some true fits h k z f e = cc
pick_some false true h k z f e = ap (λ x. Some x) e
pick_some false false h k z f e = cc

not_zero : (d : ℤ) → 0 < cast_unsigned w64 d → (unsigned_abs d == 0) ≡ false
not_zero (pos n) h = grind (arith, nat_tests)
not_zero (negsuc n) h = grind (arith, nat_tests)

pub on_none : (width : Width) (n d : ℤ) → FitsSigned w64 n → FitsSigned w64 d → (cast_unsigned w64 d ≡ 0 → ⊥) →
    (CanDivide w64 (cast_signed w64 (cast_unsigned w64 n)) (cast_signed w64 (cast_unsigned w64 d)) → ⊥) →
    None ≡ signed_quotient width n d
unfolding signed_quotient
on_none width n d fn fd nonzero never =
    pick_none _ _ _ (λ e. never (subst (λ (x : ℤ). CanDivide w64 x (cast_signed w64 (cast_unsigned w64 d))) (sym (to_z-of_z w64 n fn))
    (subst (λ (y : ℤ). CanDivide w64 n y) (sym (to_z-of_z w64 d fd)) (omega arith, within width (int_div n d) e))))

pub on_some : (width : Width) (n d q : ℤ) (low high : ℕ) → FitsSigned w64 n → FitsSigned w64 d →
    CanDivide w64 (cast_signed w64 (cast_unsigned w64 n)) (cast_signed w64 (cast_unsigned w64 d)) →
    q ≡ int_div (cast_signed w64 (cast_unsigned w64 n)) (cast_signed w64 (cast_unsigned w64 d)) →
    true ≡ fits_in width (cast_signed w64 (cast_unsigned w64 q)) →
    low ≡ bits_of (cast_signed w64 (cast_unsigned w64 q)) % modulus width →
    high ≡ bits_of (cast_signed w64 (cast_unsigned w64 (int_rem (cast_signed w64 (cast_unsigned w64 n)) (cast_signed w64 (cast_unsigned w64 d))))) % modulus width →
    Some (record { low = low; high = high }) ≡ signed_quotient width n d
unfolding signed_quotient
on_some width n d q low high fn fd can eq fits el eh =
    let en = to_z-of_z w64 n fn in
    let ed = to_z-of_z w64 d fd in
    let is_q : q ≡ int_div n d = eq ∙ (λ i. int_div (en i) (ed i)) in
    let fq : FitsSigned w64 q = subst (λ (z : ℤ). FitsSigned w64 z) (sym eq) can.1 in
    let same : cast_signed w64 (cast_unsigned w64 q) ≡ int_div n d = to_z-of_z w64 q fq ∙ is_q in
    let nz : 0 < cast_unsigned w64 d = subst (λ (z : ℤ). 0 < cast_unsigned w64 z) ed can.0 in
    pick_some _ _ _ _ (not_zero d nz) (ap (fits_in width) (sym same) ∙ sym fits)
    (λ i. record {
      low = (el ∙ ap (λ z. bits_of z % modulus width) same) i;
      high = (eh ∙ ap (λ z. bits_of z % modulus width) (rem_is w64 n d fn fd)) i;
    })
