-- The values at each number below a count, as a list.
use Rattle.std.proofs.Common.{◌≡◌, ◌∙◌, ◌+◌, ◌≤◌, ℕ, zero, suc, List, [], ◌∷◌}
use Rattle.std.proofs.Common.{◌++◌, length, take, drop, map, sym, ap, arith, add-zero}
use Rattle.std.specs.Prelude.{slice_index}
use Rattle.std.specs.List.{range_with_len}
use Rattle.std.proofs.lemmas.List.{length-take-le, get_or-take}
use Rattle.std.proofs.lemmas.List.{get_or-drop, length-drop, append_assoc, append-nil}
use Rattle.std.proofs.lemmas.List.FromFn.{length-map-range_with_len, get_or-map-range_with_len}
use Rattle.jos_base.specs.Below.{values_below}
use Rattle.jos_base.proofs.Below.{length-values, get_or-values, is-values}

-- the first values and those behind them
pub values-append : {A : Type 0} (m n : ℕ) (f : ℕ → A) →
    values_below m f ++ values_below n (λ k. f (m + k)) ≡ values_below (m + n) f
unfolding values_below
values-append m zero f = append-nil (values_below m f) ∙ ap (λ k. values_below k f) (sym (add-zero m))
values-append {A} m (suc n) f =
    sym (append_assoc (values_below m f) (values_below n (λ k. f (m + k))) (f (m + n) ∷ []))
    ∙ ap (λ (l : List A). l ++ f (m + n) ∷ []) (values-append m n f)
    ∙ ap (λ k. values_below k f) (next m n)
  where
    next : (m n : ℕ) → suc (m + n) ≡ m + suc n
    next m n = omega arith

-- the first of them
pub take-values : (n k : ℕ) (f : ℕ → ℕ) → k ≤ n → take k (values_below n f) ≡ values_below k f
take-values n k f le =
    is-values (take k (values_below n f)) k f 0 (length-take-le k (values_below n f) (omega (arith, length-values n f)))
    (λ i within. get_or-take k (values_below n f) i 0 within ∙ get_or-values n f i 0 (omega arith))

-- the same over the list of the numbers
pub range-values : (from n : ℕ) (f : ℕ → ℕ) → map (λ k. f (from + k)) (range_with_len 0 n) ≡ values_below n (λ k. f (from + k))
range-values from n f =
    is-values (map (λ k. f (from + k)) (range_with_len 0 n)) n (λ k. f (from + k)) 0
    (length-map-range_with_len (λ k. f (from + k)) 0 n)
    (λ i within. get_or-map-range_with_len (λ k. f (from + k)) 0 n i i 0 within (omega arith))

-- of a part of a list
pub slice-values : (xs : List ℕ) (from n : ℕ) → from + n ≤ length xs →
    take n (drop from xs) ≡ values_below n (λ k. slice_index xs (from + k))
slice-values xs from n within =
    is-values (take n (drop from xs)) n (λ k. slice_index xs (from + k)) 0
    (length-take-le n (drop from xs) (omega (arith, length-drop from xs)))
    (λ i below. get_or-take n (drop from xs) i 0 below ∙ get_or-drop from xs i 0)
