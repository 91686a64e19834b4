-- Tests that are true.
use Rattle.std.proofs.Common.{◌≡◌, ℕ, zero, suc, ◌<◌, Bool, true, false, arith, ap, inl, inr}
use Rattle.std.proofs.Common.{◌∙◌}
use Rattle.std.specs.Prelude.{◌&&◌}
use Rattle.std.proofs.lemmas.Bool.{and_parts}
use Rattle.jos_base.proofs.Bounds.{below_or_last}

pub no_false : {P : Type 0} → false ≡ true → P
no_false e = absurd cc

-- ---- tests of each number below a bound

abbrev pub all_below : (ℕ → Bool) → ℕ → Bool
all_below test zero = true
all_below test (suc n) = test n && all_below test n

pub all_at : (test : ℕ → Bool) (n : ℕ) → all_below test n ≡ true → (i : ℕ) → i < n → test i ≡ true
all_at test zero h i small = absurd (omega arith)
all_at test (suc n) h i small =
    let parts = and_parts (test n) (all_below test n) h in
    elim (below_or_last i n small) [
      | inr e ↦ ap test e ∙ parts.0
      | inl less ↦ all_at test n parts.1 i less
    ]
