-- The disk of the file server: a file of the host, of which so many blocks may be moved. It stands beside the kernel's state, as the
-- console does. Where the host doesn't tell its files, nothing is known of it.
-- (MIT 6.828, lab 5: fs/ide.c.)
use Rattle.std.specs.Prelude.{◌≡◌, ◌≤◌, ℕ, ◌+◌, ◌*◌, ◌/◌, ◌%◌, List, [], length, slice_index, Option, Some, None}
use Rattle.jos_base.specs.Below.{values_below}
use Rattle.jos_base.specs.Words.{upd}
use Rattle.jos_host.specs.Files.{Files, bytes_of}
use Rattle.fs_layout.specs.declared.numbers.TheConstants.{BLKSIZE}
use Rattle.lib_os.specs.Rows.{IsPage}

-- the file's name, and how many blocks there are
pub record DiskFile : Type 0 where
  pub name : List ℕ
  pub blocks : ℕ

-- where there is none
abbrev pub no_disk : DiskFile
no_disk = record { name = []; blocks = 0 }

-- how many blocks a disk has, and the bytes of each
pub record Disk : Type 0 where
  pub count : ℕ
  pub block : ℕ → List ℕ

-- the disk with these bytes in a block
abbrev pub with_block : Disk → ℕ → List ℕ → Disk
with_block d n bytes = record d { block = upd d.block n bytes }

-- the bytes of a block in those of a file, with zeros behind the file's end
unfoldable pub block_in : List ℕ → ℕ → List ℕ
block_in file n = values_below BLKSIZE (λ k. slice_index file (BLKSIZE * n + k))

-- the disk that a host tells
abbrev pub disk_in : Files → DiskFile → Disk
disk_in files disk = record { count = disk.blocks; block = block_in (bytes_of files disk.name) }

-- the byte at a place, by the bytes of the blocks
abbrev pub byte_in_blocks : (ℕ → List ℕ) → ℕ → ℕ
byte_in_blocks block at = slice_index (block (at / BLKSIZE)) (at % BLKSIZE)

-- the file has all of its blocks
abbrev pub HasBlocks : Option Files → DiskFile → Type 0
HasBlocks None disk = Unit {0}
HasBlocks (Some files) disk = BLKSIZE * disk.blocks ≤ length (bytes_of files disk.name)

-- where the host tells its files, these are the block's bytes
abbrev pub AreToldOf : Option Files → DiskFile → ℕ → List ℕ → Type 0
AreToldOf None disk n bytes = Unit {0}
AreToldOf (Some files) disk n bytes = bytes ≡ (disk_in files disk).block n

-- The bytes of a block have come: a page of them.
pub record BlockCame (files : Option Files) (disk : DiskFile) (n : ℕ) (bytes : List ℕ) : Type 0 where
  pub page : IsPage bytes
  pub told : AreToldOf files disk n bytes
