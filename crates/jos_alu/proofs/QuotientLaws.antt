-- A quotient and its remainder are the dividend.
use Rattle.std.proofs.Common.{◌≡◌, ℕ, zero, suc, ◌+◌, ◌*◌, ◌/◌, ◌%◌, ◌<◌, Bool, true, false, Some, None, refl, neg_ℤ}
use Rattle.std.proofs.Common.{arith, if◌then◌else◌}
use Rattle.std.specs.Prelude.{◌==◌, nat_le, ℤ, pos, negsuc, unsigned_abs, int_le, int_div, int_rem, IfSome}
use Rattle.std.proofs.lemmas.Int.{quot-rem, rem_below}
use Rattle.std.proofs.lemmas.Bool.Decides.{nat_tests}
use Rattle.jos_alu.specs.declared.products.Halves.{Halves}
use Rattle.jos_alu.specs.Flags.{modulus}
use Rattle.jos_alu.specs.Products.{unsigned_quotient, signed_quotient}
use Rattle.jos_alu.specs.Laws.{DividesUnsigned, HasSignOf, AreQuotientOf, DividesSigned}

-- what holds of the one value
found : (none short : Bool) (h : Halves) (P : Halves → Type 0) → (none ≡ false → short ≡ false → P h) →
    IfSome (if none then None else if short then None else Some h) P
found true short h P f = tt
found false true h P f = tt
found false false h P f = f refl refl

kept : (none fits : Bool) (h : Halves) (P : Halves → Type 0) → (none ≡ false → fits ≡ true → P h) →
    IfSome (if none then None else if fits then Some h else None) P
kept true fits h P f = tt
kept false true h P f = f refl refl
kept false false h P f = tt

parts : (n d m : ℕ) → (d == 0) ≡ false → nat_le m (n / d) ≡ false → (n / d * d + n % d ≡ n) × (n % d < d) × (n / d < m)
parts n d m nonzero fits =
    let positive : 0 < d = grind (arith, nat_tests) in
    (grind arith, omega arith, grind (arith, nat_tests))

pub divides_unsigned : DividesUnsigned
unfolding unsigned_quotient
divides_unsigned width n d = found _ _ _ _ (parts n d (modulus width))

-- a number that is negated is not positive
negated : (x : ℕ) → int_le (neg_ℤ (pos x)) (pos 0) ≡ true
negated zero = refl
negated (suc x) = refl

sign : (n d : ℤ) → HasSignOf (int_rem n d) n
sign (pos n) d = let e : nat_le 0 (n % unsigned_abs d) ≡ true = grind (arith, nat_tests) in e
sign (negsuc n) d = negated (suc n % unsigned_abs d)

smaller : (n d : ℤ) → (unsigned_abs d == 0) ≡ false → unsigned_abs (int_rem n d) < unsigned_abs d
smaller n d nonzero = let positive : 0 < unsigned_abs d = grind (arith, nat_tests) in rem_below n d positive

pub divides_signed : DividesSigned
unfolding signed_quotient
divides_signed width n d =
    kept _ _ _ (AreQuotientOf width n d)
    (λ nonzero fits. (int_div n d, int_rem n d, quot-rem n d, fits, smaller n d nonzero, sign n d, refl, refl))
