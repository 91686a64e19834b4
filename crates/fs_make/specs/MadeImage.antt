-- The image that is made of files, byte by byte. Behind the boot block, the super block and the bitmap stand the blocks of the root
-- directory, and then those of each file, in their order. The blocks of one follow one another; an indirect block comes right
-- behind the tenth. What is left is free. (The format is that of MIT 6.828, lab 5, inc/fs.h; which blocks are taken is this
-- system's own.)
use Rattle.std.specs.Prelude.{ℕ, ◌+◌, ◌-◌, ◌*◌, ◌/◌, ◌^◌, nat_lt, min, List, [], ◌∷◌, ◌++◌, length, map, take, drop, replicate, codes}
use Rattle.std.specs.Prelude.{Option, Some, None, if◌then◌else◌}
use Rattle.std.specs.List.{range_with_len}
use Rattle.jos_base.specs.TrapFrames.{bytes_of_words}
use Rattle.jos_host.specs.MemHost.{Named}
use Rattle.fs_layout.specs.declared.records.FileEntry.{FileEntry}
use Rattle.fs_layout.specs.declared.numbers.TheConstants.{BLKSIZE, RECORDSIZE, MAXNAMELEN, NDIRECT, NINDIRECT, FTYPE_REG, FTYPE_DIR}
use Rattle.fs_layout.specs.Layout.{zeros, entry_bytes, super_bytes}
use Rattle.fs_layout.specs.FileTree.{FileSystem, a_file, a_directory, records_from, blocks_of, needs_indirect, bitmap_blocks}
use Rattle.fs_layout.specs.FileTree.{NamedNode}
use Rattle.fs_layout.specs.DiskImage.{first_data_block}
use Rattle.fs_make.specs.MakeFaults.{root_size, span_of, blocks_used}

-- ---- the blocks of one file or directory, which begin with the block `first`

-- the bytes with zeros behind them, so that whole blocks are filled
abbrev pub padded : List ℕ → List ℕ
padded bytes = bytes ++ zeros (BLKSIZE * blocks_of (length bytes) - length bytes)

-- the numbers in its record, by its size
abbrev pub direct_numbers : ℕ → ℕ → List ℕ
direct_numbers first size = map (λ i. if nat_lt i (blocks_of size) then first + i else 0) (range_with_len 0 NDIRECT)

abbrev pub indirect_number : ℕ → ℕ → ℕ
indirect_number first size = if needs_indirect size then first + NDIRECT else 0

-- the numbers in its indirect block
abbrev pub further_numbers : ℕ → ℕ → List ℕ
further_numbers first size =
    map (λ i. if nat_lt (NDIRECT + i) (blocks_of size) then first + NDIRECT + 1 + i else 0) (range_with_len 0 NINDIRECT)

unfoldable pub made_entry : List ℕ → ℕ → ℕ → ℕ → FileEntry
made_entry name size kind first = record {
  name = name ++ zeros (MAXNAMELEN - length name);
  size = size;
  kind = kind;
  direct = direct_numbers first size;
  indirect = indirect_number first size;
}

-- all its blocks
unfoldable pub node_blocks : ℕ → List ℕ → List ℕ
node_blocks first bytes =
    if needs_indirect (length bytes)
    then take (BLKSIZE * NDIRECT) bytes ++ (bytes_of_words (further_numbers first (length bytes)) ++ padded (drop (BLKSIZE * NDIRECT) bytes))
    else padded bytes

-- ---- the files, of which the first begins with the block `first`

unfoldable pub files_entries : ℕ → List Named → List ℕ
files_entries first [] = []
files_entries first (file ∷ files) =
    entry_bytes (made_entry file.name (length file.bytes) FTYPE_REG first) ++ files_entries (first + span_of (length file.bytes)) files

unfoldable pub files_blocks : ℕ → List Named → List ℕ
files_blocks first [] = []
files_blocks first (file ∷ files) = node_blocks first file.bytes ++ files_blocks (first + span_of (length file.bytes)) files

-- the bytes of the root directory: a record for each file, and empty ones up to the end of the last block
unfoldable pub root_bytes : ℕ → List Named → List ℕ
root_bytes first files = files_entries first files ++ zeros (root_size (length files) - RECORDSIZE * length files)

-- ---- the bitmap

-- A byte of it: the bit of a block is 0 where the block is in use, which the first so many are. Behind the last block each is 1.
abbrev pub bitmap_byte : ℕ → ℕ → ℕ
bitmap_byte used k = 256 - 2 ^ min (used - 8 * k) 8

unfoldable pub bitmap_bytes : ℕ → ℕ → List ℕ
bitmap_bytes blocks used = map (bitmap_byte used) (range_with_len 0 (BLKSIZE * bitmap_blocks blocks))

-- ---- the image

-- the block behind those of the root directory, where the first file begins
abbrev pub first_file_block : ℕ → List Named → ℕ
first_file_block blocks files = first_data_block blocks + span_of (root_size (length files))

unfoldable pub made_super : ℕ → List Named → List ℕ
made_super blocks files =
    super_bytes
    (record { blocks = blocks; root = made_entry (codes "/") (root_size (length files)) FTYPE_DIR (first_data_block blocks) })

-- of files without a fault
unfoldable pub made_image : ℕ → List Named → List ℕ
made_image blocks files =
    zeros BLKSIZE
    ++ (made_super blocks files
    ++ (bitmap_bytes blocks (blocks_used blocks files)
    ++ (node_blocks (first_data_block blocks) (root_bytes (first_file_block blocks files) files)
    ++ (files_blocks (first_file_block blocks files) files
    ++ zeros (BLKSIZE * (blocks - blocks_used blocks files))))))

-- ---- the tree

abbrev pub file_record : Named → Option NamedNode
file_record file = Some (record { name = file.name; node = a_file file.bytes (needs_indirect (length file.bytes)) })

-- the files in the root directory, in their order, and empty records behind them
unfoldable pub made_files : ℕ → List Named → FileSystem
made_files blocks files = record {
  root = a_directory
      (records_from (map file_record files ++ replicate (root_size (length files) / RECORDSIZE - length files) None))
      (needs_indirect (root_size (length files)));
  blocks = blocks;
  unnamed = 0;
}
