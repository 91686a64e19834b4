-- A buffer that is filled piece by piece.
use Rattle.std.proofs.Common.{◌≡◌, ℕ, ◌+◌, ◌≤◌, List, ◌++◌, length, take, drop, ap, ◌∙◌, le_refl, drop_at, length-take-le}
use Rattle.std.proofs.Math.Seq.{take-add}
use Rattle.std.proofs.lemmas.List.{take-append-le}
use Rattle.std.proofs.lemmas.Slice.{take-put_mid_below}
use borrow.Rule.Slice.PartMut.{put_mid, post_of}

-- what is filled after a read into the rest
pub filled-put_mid : (a k n : ℕ) (xs ys : List ℕ) → a ≤ length xs → n ≤ length ys → take (a + n) (put_mid a k xs ys) ≡ take a xs ++ take n ys
filled-put_mid a k n xs ys within fits =
    take-add a n (put_mid a k xs ys)
    ∙ ap (λ (l : List ℕ). l ++ take n (drop a (put_mid a k xs ys))) (take-put_mid_below a k xs ys a (le_refl a) within)
    ∙ ap (λ (l : List ℕ). take a xs ++ take n l) (drop_at (take a xs) (ys ++ post_of a k xs) a (length-take-le a xs within))
    ∙ ap (λ (l : List ℕ). take a xs ++ l) (take-append-le n ys (post_of a k xs) fits)
