-- Which files a disk image names: the tree of its records, and the blocks that are in use though nothing names them. It is
-- told for every image, and means something for one without a fault.
-- (MIT 6.828, lab 5: inc/fs.h and fs/fs.c.)
use Rattle.std.specs.Prelude.{ℕ, zero, suc, ◌+◌, ◌*◌, ◌/◌, ◌%◌, ◌&&◌, not, Bool, List, Option, Some, None, ◌≡◌, if◌then◌else◌}
use Rattle.std.specs.Result.{result_unwrap_or}
use Rattle.jos_base.specs.Counting.{total}
use Rattle.jos_base.specs.Environments.{bit_of}
use Rattle.fs_layout.specs.declared.numbers.TheConstants.{BLKSIZE}
use Rattle.fs_layout.specs.FileTree.{Node, a_file, a_directory, Records, no_more, NamedNode, records_from, FileSystem}
use Rattle.jos_base.specs.Below.{values_below}
use Rattle.fs_layout.specs.DiskImage.{block_count, root_place, is_marked_free, is_data_block, size_of}
use Rattle.fs_layout.specs.DiskImage.{has_indirect, name_of, is_empty_record, is_directory_at, block_number_at, slot_count, slot_place}
use Rattle.fs_layout.specs.DiskImage.{Blocks, none_named, in_turn, tree_tests, image_fault}

-- the bytes are a disk image
abbrev pub IsDiskImage : ℕ → (ℕ → ℕ) → Type 0
IsDiskImage size byte = image_fault size byte ≡ None

-- ---- the tree

-- a byte of a file, counted from its first
abbrev pub file_byte : (ℕ → ℕ) → ℕ → ℕ → ℕ
file_byte byte place at = byte (BLKSIZE * block_number_at byte place (at / BLKSIZE) + at % BLKSIZE)

unfoldable pub file_bytes : (ℕ → ℕ) → ℕ → List ℕ
file_bytes byte place = values_below (size_of byte place) (file_byte byte place)

-- The node of the record at a place; `records` has those of a directory, by the place of its own record.
abbrev pub node_of : (ℕ → Records) → (ℕ → ℕ) → ℕ → Node
node_of records byte place =
    if is_directory_at byte place then a_directory (records place) (has_indirect byte place)
    else a_file (file_bytes byte place) (has_indirect byte place)

-- what the record at a place names
abbrev pub named_of : (ℕ → Records) → (ℕ → ℕ) → ℕ → Option NamedNode
named_of records byte place =
    if is_empty_record byte place then None
    else Some (record { name = name_of byte place; node = node_of records byte place })

-- The records of the directory at a place. The first number bounds how deep directories stand in one another, as it does
-- in the tests, and is the number of blocks.
unfoldable pub records_at : ℕ → (ℕ → ℕ) → ℕ → Records
records_at zero byte directory = no_more
records_at (suc depth) byte directory =
    records_from
    (values_below (slot_count byte directory)
    (λ i. named_of (records_at depth byte) byte (slot_place byte directory i)))

-- the root, with all that stands below it
abbrev pub root_of : (ℕ → ℕ) → Node
root_of byte = node_of (records_at (block_count byte) byte) byte root_place

-- ---- blocks

-- the blocks that records and indirect blocks name
unfoldable pub named_blocks : (ℕ → ℕ) → Blocks
named_blocks byte = result_unwrap_or (in_turn (tree_tests byte) none_named) none_named

-- a block that is in use, though nothing names it
abbrev pub is_unnamed : (ℕ → ℕ) → ℕ → Bool
is_unnamed byte block =
    is_data_block (block_count byte) block && not (is_marked_free byte block) && not (named_blocks byte block)

unfoldable pub unnamed_blocks : (ℕ → ℕ) → ℕ
unnamed_blocks byte = total (block_count byte) (λ block. bit_of (is_unnamed byte block))

-- how many are free
unfoldable pub free_blocks : (ℕ → ℕ) → ℕ
free_blocks byte = total (block_count byte) (λ block. bit_of (is_marked_free byte block))

-- the files of an image
unfoldable pub file_system_of : (ℕ → ℕ) → FileSystem
file_system_of byte = record { root = root_of byte; blocks = block_count byte; unnamed = unnamed_blocks byte }
