-- What is behind the bytes that are written stays.
use Rattle.std.proofs.Common.{◌≡◌, ℕ, ◌+◌, ◌-◌, ◌≤◌, List, drop, sym, ap, ◌∙◌, arith}
use Rattle.std.proofs.lemmas.List.{drop-drop}

drop_on : (n m : ℕ) (a b : List ℕ) → n ≤ m → drop n a ≡ drop n b → drop m a ≡ drop m b
drop_on n m a b h e =
    let same : n + (m - n) ≡ m = omega (arith, h) in
    ap (λ (k : ℕ). drop k a) (sym same) ∙ sym (drop-drop (m - n) n a) ∙ ap (λ (l : List ℕ). drop (m - n) l) e ∙ drop-drop (m - n) n b ∙ ap (λ (k : ℕ). drop k b) same

-- one write behind another
pub kept_on : (n m : ℕ) (old mid new : List ℕ) → n ≤ m → drop n mid ≡ drop n old → drop m new ≡ drop m mid → drop m new ≡ drop m old
kept_on n m old mid new h first second = second ∙ drop_on n m mid old h first
