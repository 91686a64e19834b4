-- The bitmap counts as many free blocks as the tree of files leaves.
use Rattle.std.proofs.Common.{◌≡◌, ◌∙◌, ◌+◌, ◌-◌, ◌<◌, ◌≤◌, ◌&&◌, ℕ, zero, suc, Bool, true, false, not, refl, sym, ap, arith, min}
use Rattle.std.specs.Prelude.{nat_le, nat_lt}
use Rattle.std.proofs.lemmas.Bool.{and_parts, not-true}
use Rattle.std.proofs.lemmas.Bool.Decides.{nat_tests}
use Rattle.jos_base.specs.Counting.{total}
use Rattle.jos_base.specs.Environments.{bit_of}
use Rattle.jos_base.proofs.Sums.{total-same, total-ones, total-sum}
use Rattle.fs_layout.specs.FileTree.{tree_blocks, bitmap_blocks, blocks_in_use, blocks_free}
use Rattle.fs_layout.specs.DiskImage.{block_count, first_data_block, is_good_count, is_marked_free, none_named, root_place}
use Rattle.fs_layout.specs.DiskFiles.{IsDiskImage, root_of, named_blocks, is_unnamed, unnamed_blocks, free_blocks, file_system_of}
use Rattle.fs_acts.specs.BlockLaws.{times_on_disk, BlocksAreCounted, FreeIsCounted}
use Rattle.fs_acts.proofs.DiskCounts.{super-met, image-counted, names-counted}
use Rattle.fs_acts.proofs.Named.{named-data}
use Rattle.fs_acts.proofs.TreeBlocks.{tree-total}

below-step : (n f : ℕ) (b : Bool) → nat_lt n f ≡ b → min n f + bit_of b ≡ min (suc n) f
below-step n f true is = let lt : n < f = grind (arith, nat_tests) in omega (arith, lt)
below-step n f false is = let le : f ≤ n = grind (arith, nat_tests) in omega (arith, le)

-- the numbers below a count that are below another
total-below : (n f : ℕ) → total n (λ q. bit_of (nat_lt q f)) ≡ min n f
unfolding total
total-below zero f = omega arith
total-below (suc n) f = ap (λ m. m + bit_of (nat_lt n f)) (total-below n f) ∙ below-step n f (nat_lt n f) refl

-- a block is free, or one of the first, or named, or in use without a name
one-of : (free first named : Bool) → (first ≡ true → free ≡ false) → (named ≡ true → free ≡ false) → (named ≡ true → first ≡ false) →
    bit_of free + (bit_of first + (bit_of named + bit_of (not first && not free && not named))) ≡ 1
one-of true true named a b c = absurd (clash (a refl))
  where
    clash : true ≡ false → ⊥
    clash e = cc
one-of true false true a b c = absurd (clash (b refl))
  where
    clash : true ≡ false → ⊥
    clash e = cc
one-of true false false a b c = refl
one-of false true true a b c = absurd (clash (c refl))
  where
    clash : true ≡ false → ⊥
    clash e = cc
one-of false true false a b c = refl
one-of false false true a b c = refl
one-of false false false a b c = refl

bit-one : (b : Bool) (n : ℕ) → bit_of b ≡ n → b ≡ true → 0 < n
bit-one true n e is = omega (arith, e)
bit-one false n e is = absurd (cc)

data-not-first : (first blocks q : ℕ) → q < blocks → (nat_le first q && nat_lt q blocks) ≡ not (nat_lt q first)
data-not-first first blocks q within = by_test (nat_lt q first) refl
  where
    by_test : (b : Bool) → nat_lt q first ≡ b → (nat_le first q && nat_lt q blocks) ≡ not b
    by_test true is = let no_le : nat_le first q ≡ false = grind (arith, nat_tests) in rw no_le refl
    by_test false is =
        let le : nat_le first q ≡ true = grind (arith, nat_tests) in
        let lt : nat_lt q blocks ≡ true = grind (arith, nat_tests) in
        rw (le, lt) refl

first-lt : (q first : ℕ) → nat_lt q first ≡ true → q < first
first-lt q first is = grind (arith, nat_tests)

flipped : (b : Bool) → true ≡ not b → b ≡ false
flipped b e = not-true b (sym e)

each-one : (size : ℕ) (byte : ℕ → ℕ) → IsDiskImage size byte → (q : ℕ) → q < block_count byte →
    bit_of (is_marked_free byte q)
    + (bit_of (nat_lt q (first_data_block (block_count byte))) + (bit_of (named_blocks byte q) + bit_of (is_unnamed byte q)))
    ≡ 1
each-one size byte e q within =
    let counted = image-counted size byte e in
    let first : ℕ = first_data_block (block_count byte) in
    let free : Bool = is_marked_free byte q in
    let named : Bool = named_blocks byte q in
    let same = names-counted size byte e q in
    let turned = data-not-first first (block_count byte) q within in
    ap (λ (d : Bool). bit_of free + (bit_of (nat_lt q first) + (bit_of named + bit_of (d && not free && not named)))) turned
    ∙ one-of free (nat_lt q first) named (λ is. counted.first q (first-lt q first is))
    (λ is. counted.in_use q (bit-one named (times_on_disk byte q) same is))
    (λ is.
    flipped (nat_lt q first)
    (sym (named-data (block_count byte) byte root_place q counted.records (bit-one named (times_on_disk byte q) same is)) ∙ turned))

-- the first blocks are blocks
pub first-within : (blocks : ℕ) → is_good_count blocks ≡ true → first_data_block blocks ≤ blocks
first-within blocks is =
    let parts = and_parts (nat_le 4 blocks) (nat_le blocks 16384) is in
    let low : 4 ≤ blocks = grind (arith, nat_tests, parts.0) in
    let high : blocks ≤ 16384 = grind (arith, nat_tests, parts.1) in
    omega (arith, low, high)

sums : (n : ℕ) (a b c d : ℕ → ℕ) → total n (λ q. a q + (b q + (c q + d q))) ≡ total n a + (total n b + (total n c + total n d))
sums n a b c d =
    let one = total-sum n a (λ q. b q + (c q + d q)) in
    let two = total-sum n b (λ q. c q + d q) in
    let three = total-sum n c d in
    omega (arith, one, two, three)

-- all blocks
all-blocks : (size : ℕ) (byte : ℕ → ℕ) → IsDiskImage size byte →
    2 + bitmap_blocks (block_count byte) + tree_blocks (root_of byte) + unnamed_blocks byte + free_blocks byte ≡ block_count byte
unfolding unnamed_blocks free_blocks
all-blocks size byte e =
    let counted = image-counted size byte e in
    let met = super-met size byte none_named none_named counted.begins in
    let blocks : ℕ = block_count byte in
    let first : ℕ = first_data_block blocks in
    let free : ℕ → ℕ = λ q. bit_of (is_marked_free byte q) in
    let before : ℕ → ℕ = λ q. bit_of (nat_lt q first) in
    let named : ℕ → ℕ = λ q. bit_of (named_blocks byte q) in
    let unnamed : ℕ → ℕ = λ q. bit_of (is_unnamed byte q) in
    let all = total-same blocks (λ q. free q + (before q + (named q + unnamed q))) (λ q. 1) (each-one size byte e) in
    let tree = tree-total blocks byte root_place counted.records in
    let times = total-same blocks named (times_on_disk byte) (λ q within. names-counted size byte e q) in
    left blocks (total blocks free) (total blocks before) first (total blocks named) (total blocks unnamed) (tree_blocks (root_of byte))
    (sym (sums blocks free before named unnamed) ∙ all ∙ total-ones blocks) (total-below blocks first)
    (first-within blocks met.count) (times ∙ sym tree)
  where
    left : (blocks free before first named unnamed tree : ℕ) → free + (before + (named + unnamed)) ≡ blocks → before ≡ min blocks first →
        first ≤ blocks → named ≡ tree → first + tree + unnamed + free ≡ blocks
    left blocks free before first named unnamed tree a b c d = omega (arith, a, b, c, d)

-- the law
pub blocks-counted : BlocksAreCounted
unfolding file_system_of
blocks-counted size byte e = all-blocks size byte e

-- the law
pub free-counted : FreeIsCounted
unfolding file_system_of
free-counted size byte e =
    left (blocks_in_use (file_system_of byte)) (free_blocks byte) (block_count byte) (blocks-counted size byte e)
    ∙ of_system
  where
    left : (used free blocks : ℕ) → used + free ≡ blocks → free ≡ blocks - used
    left used free blocks h = omega arith

    of_system : block_count byte - blocks_in_use (file_system_of byte) ≡ blocks_free (file_system_of byte)
    of_system = refl
