-- The last traps that are kept.
use Rattle.std.proofs.Common.{◌≡◌, ◌∙◌, ℕ, ◌+◌, ◌-◌, List, [], ◌∷◌, ◌++◌, length, drop, drop-drop, Option, Some, None, refl, sym, ap, arith}
use Rattle.std.proofs.lemmas.List.{length-append, length-drop, drop-append-le}
use Rattle.circular_buffer.specs.Buffer.{buffer, keep_last}
use Rattle.jos_kernel.specs.declared.trace.TrapLine.{TrapLine}
use Rattle.jos_kernel.specs.Books.{traced}
use Rattle.jos_kernel.specs.ExoRun.{traps_after}

-- of the last of them and one more those are kept that are kept of all
pub kept_more : {X : Type 0} (n : ℕ) (xs : List X) (x : X) → keep_last n (keep_last n xs ++ x ∷ []) ≡ keep_last n (xs ++ x ∷ [])
kept_more n xs x =
    let k = length xs - n in
    let part : drop k xs ++ x ∷ [] ≡ drop k (xs ++ x ∷ []) = sym (drop-append-le k xs (x ∷ []) (omega arith)) in
    let whole : length (xs ++ x ∷ []) ≡ length xs + 1 = length-append xs (x ∷ []) in
    let left : length (drop k (xs ++ x ∷ [])) ≡ length (xs ++ x ∷ []) - k = length-drop k (xs ++ x ∷ []) in
    let at : k + (length (drop k (xs ++ x ∷ [])) - n) ≡ length (xs ++ x ∷ []) - n = omega (arith, whole, left) in
    ap (keep_last n) part
    ∙ drop-drop (length (drop k (xs ++ x ∷ [])) - n) k (xs ++ x ∷ [])
    ∙ ap (λ (j : ℕ). drop j (xs ++ x ∷ [])) at

pub traced_more : (n : ℕ) (traps : List TrapLine) (raised : Option TrapLine) →
    traced (buffer (keep_last n traps) n) raised ≡ buffer (keep_last n (traps_after traps raised)) n
traced_more n traps None = refl
traced_more n traps (Some trap) = ap (λ (kept : List TrapLine). buffer kept n) (kept_more n traps trap)
