-- How long the bytes of a file are after a write and with a new size, and that what was written is read back.
use Rattle.std.proofs.Common.{◌≡◌, ℕ, ◌+◌, ◌-◌, List, ◌++◌, length, ap, ◌∙◌, arith, append_assoc}
use Rattle.std.specs.Prelude.{min, max, take, drop, replicate}
use Rattle.std.proofs.lemmas.List.{length-append, length-take, length-drop, length-replicate, drop_at}
use Rattle.std.proofs.Math.Seq.{take-append_seam}
use Rattle.fs_layout.specs.FileActs.{overwritten, resized}

-- so many of the bytes, and zeros up to there
length-filled : (bytes : List ℕ) (at : ℕ) → length (take at bytes ++ replicate (at - length bytes) 0) ≡ at
length-filled bytes at =
    let first : List ℕ = take at bytes in
    let zeros : List ℕ = replicate (at - length bytes) 0 in
    let whole : length (first ++ zeros) ≡ length first + length zeros = length-append first zeros in
    let of_first : length first ≡ min at (length bytes) = length-take at bytes in
    let of_zeros : length zeros ≡ at - length bytes = length-replicate (at - length bytes) 0 in
    omega arith

-- a file ends where it did, or where what was written ends
pub length-overwritten : (bytes : List ℕ) (at : ℕ) (new : List ℕ) →
    length (overwritten bytes at new) ≡ max (length bytes) (at + length new)
unfolding overwritten
length-overwritten bytes at new =
    let before : List ℕ = take at bytes ++ replicate (at - length bytes) 0 in
    let filled : length before ≡ at = length-filled bytes at in
    let behind : List ℕ = drop (at + length new) bytes in
    let last : length behind ≡ length bytes - (at + length new) = length-drop (at + length new) bytes in
    let most : length (before ++ new) ≡ length before + length new = length-append before new in
    let whole : length (before ++ new ++ behind) ≡ length (before ++ new) + length behind = length-append (before ++ new) behind in
    omega arith

-- what was written at a place stands there
pub read-overwritten : (bytes : List ℕ) (at : ℕ) (new : List ℕ) → take (length new) (drop at (overwritten bytes at new)) ≡ new
unfolding overwritten
read-overwritten bytes at new =
    let before : List ℕ = take at bytes ++ replicate (at - length bytes) 0 in
    let behind : List ℕ = drop (at + length new) bytes in
    ap {B = List ℕ} (λ l. take (length new) (drop at l)) (append_assoc before new behind)
    ∙ ap {B = List ℕ} (take (length new)) (drop_at before (new ++ behind) at (length-filled bytes at))
    ∙ take-append_seam new behind

pub length-resized : (bytes : List ℕ) (size : ℕ) → length (resized bytes size) ≡ size
unfolding resized
length-resized bytes size = length-filled bytes size
