-- Numbers below a count.
use Rattle.std.proofs.Common.{◌≡◌, ◌<◌, ◌⊎◌, inl, inr, ℕ, suc, arith}
use Rattle.std.proofs.lemmas.Bool.{cases_eq}

-- a number below the next one is below this one, or it is this one
pub below_or_last : (i n : ℕ) → i < suc n → (i < n) ⊎ (i ≡ n)
below_or_last i n within = elim (cases_eq i n) [ inl is ↦ inr is | inr ne ↦ inl (omega (arith, within, ne)) ]
