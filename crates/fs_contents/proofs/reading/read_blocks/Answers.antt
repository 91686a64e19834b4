use Rattle.std.proofs.Common.{◌≡◌, ◌∙◌, ◌+◌, ◌*◌, ◌-◌, ◌/◌, ◌<◌, ◌≤◌, min, ℕ, List, ap, arith, subst, sym}
use Rattle.std.specs.Prelude.{slice_index, length}
use Rattle.std.specs.Int.{div_ceil}
use Rattle.fs_layout.specs.DiskImage.{block_number_at, size_of, block_count}
use Rattle.fs_contents.proofs.Places.{number-below, block-within}
use Rattle.fs_contents.proofs.Blocks.{no-blocks, one-block, all-blocks}
use Rattle.fs_contents.proofs.reading.read_blocks.Goals as goal

pub loop-i-init : goal.loop-i-init
loop-i-init c =
    no-blocks (slice_index c.args.image.now) c.args.place c.size_of-size.result c.in_ok-bytes.bytes.items c.in_ok-bytes.ensures.items

-- what is read of the disk is read of the image
number-in : (xs ys : List ℕ) → xs ≡ ys → (place i number : ℕ) → number ≡ block_number_at (slice_index xs) place i →
    number ≡ block_number_at (slice_index ys) place i
number-in xs ys e place i number h = h ∙ ap (λ (l : List ℕ). block_number_at (slice_index l) place i) e

size-in : (xs ys : List ℕ) → xs ≡ ys → (place size : ℕ) → size ≡ size_of (slice_index xs) place →
    size ≡ size_of (slice_index ys) place
size-in xs ys e place size h = h ∙ ap (λ (l : List ℕ). size_of (slice_index l) place) e

blocks-are : (size : ℕ) → div_ceil size 4096 ≡ (size + 4095) / 4096
blocks-are size = omega arith

pub loop-i-preserved : goal.loop-i-preserved
loop-i-preserved c =
    let number =
    number-in c.new-disk.result.bytes.now c.args.image.now c.new-disk.ensures c.args.place c.loop-i.i c.block_number_at.result
    c.block_number_at.ensures in
    let size =
    size-in c.new-disk.result.bytes.now c.args.image.now c.new-disk.ensures c.args.place c.size_of-size.result
    c.size_of-size.ensures in
    let blocks = c.div_ceil-i-end.ensures ∙ blocks-are c.size_of-size.result in
    let within : c.loop-i.i < (c.size_of-size.result + 4095) / 4096 = subst (λ n. c.loop-i.i < n) blocks c.loop-i-test.true in
    let needed = subst (λ n. c.loop-i.i < (n + 4095) / 4096) size within in
    let below =
    number-below (slice_index c.args.image.now) c.args.place c.loop-i.i c.requires.readable needed in
    let count : 4096 * c.block_number_at.result + c.min.result - 4096 * c.block_number_at.result ≡ c.min.result = omega arith in
    let short : c.min.result ≤ 4096 = omega arith in
    let least : c.min.result ≡ min (c.size_of-size.result - 4096 * c.loop-i.i) 4096 = c.min.ensures in
    let held =
    block-within c.block_number_at.result (block_count (slice_index c.args.image.now)) (length c.args.image.now)
    (4096 * c.block_number_at.result + c.min.result - 4096 * c.block_number_at.result) (subst (λ n. n < block_count (slice_index c.args.image.now)) (sym number) below) c.requires.blocks (omega arith) in
    c.in_ok-extend_from_slice.ensures.items
    ∙ one-block c.loop-i.bytes.items c.args.image.now c.args.place c.size_of-size.result c.loop-i.i c.block_number_at.result
    (4096 * c.block_number_at.result + c.min.result - 4096 * c.block_number_at.result) c.loop-i.invariant within number (count ∙ least) held

pub returns : goal.returns
returns c =
    let size =
    size-in c.new-disk.result.bytes.now c.args.image.now c.new-disk.ensures c.args.place c.size_of-size.result
    c.size_of-size.ensures in
    let blocks = c.div_ceil-i-end.ensures ∙ blocks-are c.size_of-size.result in
    let past : (c.size_of-size.result + 4095) / 4096 ≤ c.loop-i.i = subst (λ n. n ≤ c.loop-i.i) blocks c.loop-i-test.false in
    all-blocks c.loop-i.bytes.items (slice_index c.args.image.now) c.args.place c.size_of-size.result c.loop-i.i c.loop-i.invariant
    past size
