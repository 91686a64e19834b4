-- The bytes of a file, block by block.
use Rattle.std.proofs.Common.{◌≡◌, ◌∙◌, ◌+◌, ◌*◌, ◌-◌, ◌/◌, ◌%◌, ◌<◌, ◌≤◌, ℕ, List, [], ◌++◌, min, length, take, drop}
use Rattle.std.proofs.Common.{refl, sym, ap, arith}
use Rattle.std.specs.Prelude.{slice_index}
use Rattle.jos_base.specs.Below.{values_below}
use Rattle.fs_layout.specs.DiskImage.{block_number_at, size_of}
use Rattle.fs_layout.specs.DiskFiles.{file_byte, file_bytes}
use Rattle.fs_contents.proofs.Below.{values-append, slice-values}
use Rattle.jos_base.proofs.Below.{values-same}

-- how many of so many bytes stand in the first blocks
abbrev pub in_blocks : ℕ → ℕ → ℕ
in_blocks size i = min (4096 * i) size

-- the bytes of the first blocks
pub no-blocks : (byte : ℕ → ℕ) (place size : ℕ) (xs : List ℕ) → xs ≡ [] →
    xs ≡ values_below (in_blocks size 0) (file_byte byte place)
unfolding values_below
no-blocks byte place size xs none = none ∙ ap (λ n. values_below n (file_byte byte place)) start
  where
    start : 0 ≡ in_blocks size 0
    start = omega arith

-- a byte of a file stands in the block of its place
at-block : (byte : ℕ → ℕ) (place i k : ℕ) → k < 4096 → file_byte byte place (4096 * i + k) ≡ byte (4096 * block_number_at byte place i + k)
at-block byte place i k within =
    let block : (4096 * i + k) / 4096 ≡ i = omega arith in
    let rest : (4096 * i + k) % 4096 ≡ k = omega arith in
    rw (block, rest) refl

-- where a block is left, all before it are full
next-block : (size i : ℕ) → i < (size + 4095) / 4096 → in_blocks size i ≡ 4096 * i
next-block size i within = omega arith

-- how many bytes there are with it
more-blocks : (size i : ℕ) → i < (size + 4095) / 4096 → 4096 * i + min (size - 4096 * i) 4096 ≡ in_blocks size (i + 1)
more-blocks size i within = omega arith

-- one block more
pub one-block : (xs image : List ℕ) (place size i number count : ℕ) →
    xs ≡ values_below (in_blocks size i) (file_byte (slice_index image) place) → i < (size + 4095) / 4096 →
    number ≡ block_number_at (slice_index image) place i → count ≡ min (size - 4096 * i) 4096 → 4096 * number + count ≤ length image →
    xs ++ take count (drop (4096 * number) image) ≡ values_below (in_blocks size (i + 1)) (file_byte (slice_index image) place)
one-block xs image place size i number count e within is counted held =
    let byte : ℕ → ℕ = slice_index image in
    let f : ℕ → ℕ = file_byte byte place in
    let short : count ≤ 4096 = omega arith in
    let front : xs ≡ values_below (4096 * i) f = e ∙ ap (λ n. values_below n f) (next-block size i within) in
    let block : take count (drop (4096 * number) image) ≡ values_below count (λ k. f (4096 * i + k)) =
    slice-values image (4096 * number) count held
    ∙ values-same count (λ k. byte (4096 * number + k)) (λ k. f (4096 * i + k))
    (λ k below.
    ap (λ n. byte (4096 * n + k)) is ∙ sym (at-block byte place i k (omega arith))) in
    ap (λ l. l ++ take count (drop (4096 * number) image)) front
    ∙ ap (λ l. values_below (4096 * i) f ++ l) block
    ∙ values-append (4096 * i) count f
    ∙ ap (λ n. values_below n f) (ap (λ n. 4096 * i + n) counted ∙ more-blocks size i within)

-- all of them
pub all-blocks : (xs : List ℕ) (byte : ℕ → ℕ) (place size i : ℕ) → xs ≡ values_below (in_blocks size i) (file_byte byte place) →
    (size + 4095) / 4096 ≤ i → size ≡ size_of byte place → xs ≡ file_bytes byte place
unfolding file_bytes
all-blocks xs byte place size i e past is =
    let all : in_blocks size i ≡ size = omega arith in e ∙ ap (λ n. values_below n (file_byte byte place)) (all ∙ is)
