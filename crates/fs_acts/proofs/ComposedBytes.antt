-- The bytes of a file whose size is set in steps, and how many blocks they take.
use Rattle.std.proofs.Common.{◌≡◌, ◌∙◌, ◌+◌, ◌-◌, ◌*◌, ◌<◌, ◌≤◌, ◌⊎◌, inl, inr, ℕ, List, ◌++◌, length}
use Rattle.std.proofs.Common.{refl, sym, ap, arith, append_assoc, min}
use Rattle.std.specs.Prelude.{take, drop, replicate}
use Rattle.std.proofs.lemmas.List.{length-take, length-drop, take_all, take-take, take_at, drop_all}
use Rattle.std.proofs.lemmas.List.{take-append-le, append-nil, replicate-append-replicate, get_or-take, get_or-drop}
use Rattle.std.proofs.lemmas.Bool.{cases_lt}
use Rattle.fs_layout.specs.FileTree.{blocks_of}
use Rattle.fs_layout.specs.FileActs.{overwritten, resized}
use Rattle.jos_base.specs.Below.{values_below}
use Rattle.fs_layout.proofs.FileBytes.{length-resized}
use Rattle.jos_base.proofs.Below.{is-values, length-values, get_or-values}

-- ---- sizes

-- a greater size
resized-longer : (bytes : List ℕ) (size : ℕ) → length bytes ≤ size →
    resized bytes size ≡ bytes ++ replicate (size - length bytes) 0
unfolding resized
resized-longer bytes size more = ap (λ (l : List ℕ). l ++ replicate (size - length bytes) 0) (take_all size bytes more)

-- a size that is not greater
pub resized-shorter : (bytes : List ℕ) (size : ℕ) → size ≤ length bytes → resized bytes size ≡ take size bytes
unfolding resized
resized-shorter bytes size less =
    let none : size - length bytes ≡ 0 = omega arith in
    ap (λ (n : ℕ). take size bytes ++ replicate n 0) none ∙ append-nil (take size bytes)

-- the size that it has
pub resized-same : (bytes : List ℕ) (size : ℕ) → length bytes ≡ size → resized bytes size ≡ bytes
resized-same bytes size e = resized-shorter bytes size (omega arith) ∙ take_all size bytes (omega arith)

-- zeros in two steps
resized-more : (bytes : List ℕ) (first second : ℕ) → length bytes ≤ first → first ≤ second →
    resized bytes first ++ replicate (second - first) 0 ≡ resized bytes second
resized-more bytes first second one two =
    let sum : (first - length bytes) + (second - first) ≡ second - length bytes = omega arith in
    ap (λ (l : List ℕ). l ++ replicate (second - first) 0) (resized-longer bytes first one)
    ∙ append_assoc bytes (replicate (first - length bytes) 0) (replicate (second - first) 0)
    ∙ ap (λ (l : List ℕ). bytes ++ l) (replicate-append-replicate (first - length bytes) (second - first) 0)
    ∙ ap (λ (n : ℕ). bytes ++ replicate n 0) sum
    ∙ sym (resized-longer bytes second (omega arith))

pub resized-twice : (bytes : List ℕ) (first second : ℕ) → length bytes ≤ first → first ≤ second →
    resized (resized bytes first) second ≡ resized bytes second
resized-twice bytes first second one two =
    let long : length (resized bytes first) ≡ first = length-resized bytes first in
    resized-longer (resized bytes first) second (omega arith)
    ∙ ap (λ (n : ℕ). resized bytes first ++ replicate (second - n) 0) long
    ∙ resized-more bytes first second one two

-- what is cut off first is not missed
pub resized-take : (bytes : List ℕ) (size : ℕ) → resized (take size bytes) size ≡ resized bytes size
unfolding resized
resized-take bytes size =
    let long : length (take size bytes) ≡ min size (length bytes) = length-take size bytes in
    let left : size - length (take size bytes) ≡ size - length bytes = omega arith in
    ap (λ (l : List ℕ). l ++ replicate (size - length (take size bytes)) 0) (take-take size size bytes (omega arith))
    ∙ ap (λ (n : ℕ). take size bytes ++ replicate n 0) left

-- the first bytes of a file that was made longer
take-resized : (bytes : List ℕ) (first second : ℕ) → first ≤ second → (first < length bytes) ⊎ (length bytes ≤ first) →
    take first (resized bytes second) ≡ resized bytes first
unfolding resized
take-resized bytes first second within (inl less) =
    let long : length (take second bytes) ≡ min second (length bytes) = length-take second bytes in
    take-append-le first (take second bytes) (replicate (second - length bytes) 0) (omega arith)
    ∙ take-take first second bytes within
    ∙ sym (resized-shorter bytes first (omega arith))
take-resized bytes first second within (inr more) =
    ap (take first) (sym (resized-more bytes first second more within))
    ∙ take_at (resized bytes first) (replicate (second - first) 0) first (length-resized bytes first)

-- what is written past the end, after the file was made so long
pub overwritten-resized : (bytes : List ℕ) (at : ℕ) (new : List ℕ) → length bytes ≤ at + length new →
    overwritten (resized bytes (at + length new)) at new ≡ overwritten bytes at new
unfolding overwritten
overwritten-resized bytes at new short =
    let end : ℕ = at + length new in
    let now : List ℕ = resized bytes end in
    let long : length now ≡ end = length-resized bytes end in
    let none : at - length now ≡ 0 = omega arith in
    let before : take at now ++ replicate (at - length now) 0 ≡ resized bytes at =
    ap (λ (n : ℕ). take at now ++ replicate n 0) none ∙ append-nil (take at now)
    ∙ take-resized bytes at end (omega arith) (cases_lt at (length bytes)) in
    let opened : resized bytes at ≡ take at bytes ++ replicate (at - length bytes) 0 = unfold resized in refl in
    ap (λ (l : List ℕ). l ++ new ++ drop end now) (before ∙ opened)
    ∙ ap (λ (l : List ℕ). take at bytes ++ replicate (at - length bytes) 0 ++ new ++ l)
    (drop_all end now (omega arith) ∙ sym (drop_all end bytes short))

-- ---- reading

-- a part of the values below a count
pub values-part : (f : ℕ → ℕ) (n at most : ℕ) →
    take most (drop at (values_below n f)) ≡ values_below (min most (n - at)) (λ k. f (at + k))
values-part f n at most =
    let whole : List ℕ = values_below n f in
    let long : length whole ≡ n = length-values n f in
    let left : length (drop at whole) ≡ length whole - at = length-drop at whole in
    let part : length (take most (drop at whole)) ≡ min most (length (drop at whole)) = length-take most (drop at whole) in
    is-values (take most (drop at whole)) (min most (n - at)) (λ k. f (at + k)) 0 (omega arith)
    (λ i within.
    get_or-take most (drop at whole) i 0 (omega arith)
    ∙ get_or-drop at whole i 0
    ∙ get_or-values n f (at + i) 0 (omega arith))

-- ---- blocks

-- so many bytes lie in their blocks
pub blocks-cover : (n : ℕ) → n ≤ 4096 * blocks_of n
blocks-cover n = omega arith

pub blocks-of_whole : (n : ℕ) → blocks_of (4096 * n) ≡ n
blocks-of_whole n = omega arith

-- and fill all but the last
pub blocks-before : (n k : ℕ) → k < blocks_of n → 4096 * k < n
blocks-before n k less = omega arith

pub blocks-more : (n m : ℕ) → n ≤ m → blocks_of n ≤ blocks_of m
blocks-more n m le = omega arith
