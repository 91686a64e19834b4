-- Records and blocks lie within the disk.
use Rattle.std.proofs.Common.{◌≡◌, ◌+◌, ◌*◌, ◌/◌, ◌%◌, ◌<◌, ◌≤◌, ℕ, arith}
use Rattle.fs_layout.specs.declared.numbers.TheConstants.{BLKSIZE, RECORDSIZE}
use Rattle.fs_layout.specs.DiskImage.{block_count, block_number_at, size_of, blocks_needed, slot_count, slot_place}
use Rattle.fs_layout.specs.DiskLaws.{IsReadable}
use Rattle.fs_layout.proofs.OneTest.{data_block_below}

-- the blocks of a readable record
pub number-below : (byte : ℕ → ℕ) (place i : ℕ) → IsReadable byte place → i < blocks_needed byte place →
    block_number_at byte place i < block_count byte
number-below byte place i readable within = data_block_below (block_count byte) (block_number_at byte place i) (readable.within i within)

-- a block has so many bytes behind its first
pub block-within : (number blocks total bytes : ℕ) → number < blocks → 4096 * blocks ≤ total → bytes ≤ 4096 →
    4096 * number + bytes ≤ total
block-within number blocks total bytes below held short =
    let next : 4096 * number + 4096 ≤ 4096 * blocks = omega arith in
    omega arith

-- the block of a slot is within the size
slot-block : (size i : ℕ) → i < size / 256 → i / 16 < (size + 4095) / 4096
slot-block size i within = omega arith

-- so the record in a slot lies within the disk
pub slot-within : (byte : ℕ → ℕ) (directory i total : ℕ) → IsReadable byte directory → BLKSIZE * block_count byte ≤ total →
    i < slot_count byte directory → slot_place byte directory i + RECORDSIZE ≤ total
slot-within byte directory i total readable held within =
    let below = number-below byte directory (i / 16) readable (slot-block (size_of byte directory) i within) in
    let inside =
    block-within (block_number_at byte directory (i / 16)) (block_count byte) total (256 * (i % 16) + 256) below held (omega arith) in
    let same = sums (4096 * block_number_at byte directory (i / 16)) (256 * (i % 16)) 256 in
    omega arith
  where
    sums : (a b c : ℕ) → a + (b + c) ≡ a + b + c
    sums a b c = omega arith
