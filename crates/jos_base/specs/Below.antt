-- Numbers below a count: the values at each of them, and whether one of them passes a test.
use Rattle.std.specs.Prelude.{ℕ, zero, suc, ◌||◌, Bool, false, List, [], ◌∷◌, ◌++◌}

-- the values at each of them
unfoldable pub values_below : {A : Type 0} → ℕ → (ℕ → A) → List A
values_below zero f = []
values_below (suc n) f = values_below n f ++ f n ∷ []

-- whether one of them passes
unfoldable pub some_below : ℕ → (ℕ → Bool) → Bool
some_below zero passes = false
some_below (suc n) passes = some_below n passes || passes n
