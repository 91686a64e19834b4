-- What is proved of the tests of a disk image.
use Rattle.std.specs.Prelude.{◌≡◌, ℕ, zero, suc, ◌*◌, ◌%◌, ◌<◌, ◌≤◌, Result, true, false}
use Rattle.fs_layout.specs.declared.numbers.TheConstants.{BLKSIZE, MAXFILESIZE}
use Rattle.fs_layout.specs.DiskImage.{ImageFault, Blocks, none_named, then_tested, in_turn, block_count, root_place}
use Rattle.fs_layout.specs.DiskImage.{record_tests, contents_test, is_data_block, is_directory_at, is_empty_record, size_of}
use Rattle.fs_layout.specs.DiskImage.{blocks_needed, block_number_at, slot_count, slot_place}
use Rattle.fs_layout.specs.DiskFiles.{IsDiskImage, records_at}

-- the tests of all records, where the walk goes down to this depth
abbrev pub walk : ℕ → (ℕ → ℕ) → Result Blocks ImageFault
walk depth byte = then_tested (in_turn (record_tests byte root_place) none_named) (contents_test depth byte root_place)

-- More depth than the number of blocks changes nothing, whatever the bytes are, and whether a fault is told or not.
abbrev pub DepthSuffices : Type 0
DepthSuffices = (byte : ℕ → ℕ) (depth : ℕ) → block_count byte ≤ depth → walk depth byte ≡ walk (block_count byte) byte

-- ---- what a disk has

-- A record that may be read: a directory has whole blocks, no size is past the greatest, and each block within the size is one
-- that a record may name.
pub record IsReadable (byte : ℕ → ℕ) (place : ℕ) : Type 0 where
  pub whole : is_directory_at byte place ≡ true → size_of byte place % BLKSIZE ≡ 0
  pub short : size_of byte place ≤ MAXFILESIZE
  pub within : (i : ℕ) → i < blocks_needed byte place → is_data_block (block_count byte) (block_number_at byte place i) ≡ true

-- So is each record from this one down, and there are no directories deeper than this with records.
unfoldable pub AreReadable : ℕ → (ℕ → ℕ) → ℕ → Type 0
AreReadable zero byte place = IsReadable byte place × (is_directory_at byte place ≡ true → slot_count byte place ≡ 0)
AreReadable (suc depth) byte place =
    IsReadable byte place
    × (is_directory_at byte place ≡ true → (i : ℕ) → i < slot_count byte place →
    is_empty_record byte (slot_place byte place i) ≡ false → AreReadable depth byte (slot_place byte place i))

-- The root of a disk is a directory, every record can be read, and the blocks are there.
pub record IsSoundDisk (total : ℕ) (byte : ℕ → ℕ) : Type 0 where
  pub root : is_directory_at byte root_place ≡ true
  pub records : AreReadable (block_count byte) byte root_place
  pub blocks : BLKSIZE * block_count byte ≤ total

abbrev pub DisksAreSound : Type 0
DisksAreSound = (total : ℕ) (byte : ℕ → ℕ) → IsDiskImage total byte → IsSoundDisk total byte

-- In the tree that a disk has, the bound on the depth is never used up either.
abbrev pub TreeDepthSuffices : Type 0
TreeDepthSuffices = (total : ℕ) (byte : ℕ → ℕ) → IsDiskImage total byte → (depth : ℕ) → block_count byte ≤ depth →
    records_at depth byte root_place ≡ records_at (block_count byte) byte root_place
