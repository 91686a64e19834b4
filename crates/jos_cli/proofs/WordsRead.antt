-- The words that were read, one more, and those behind it.
use Rattle.std.proofs.Common.{◌≡◌, ℕ, ◌+◌, ◌<◌, suc, List, [], ◌∷◌, ◌++◌, length, take, drop, map, get_or, sym, ap, ◌∙◌, drop-cons}
use Rattle.std.proofs.lemmas.List.{take_more, take-append-drop, map-append}

module _ {X Y : Type 0} (f : X → Y) (xs : List X) (k : ℕ) (d : X) where
  pub one_more : k < length xs → map f (take (k + 1) xs) ≡ map f (take k xs) ++ f (get_or xs k d) ∷ []
  one_more below = ap (map f) (take_more xs k d below) ∙ map-append f (take k xs) (get_or xs k d ∷ [])

  pub at_one : k < length xs → map f xs ≡ map f (take k xs) ++ f (get_or xs k d) ∷ map f (drop (suc k) xs)
  at_one below =
      ap (map f) (sym (take-append-drop k xs) ∙ ap (λ l. take k xs ++ l) (drop-cons xs k d below))
      ∙ map-append f (take k xs) (get_or xs k d ∷ drop (suc k) xs)
