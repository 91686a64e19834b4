-- What the bytes of an image say that is made of files: its super block, its bitmap, and the record and the bytes of each
-- file.
use Rattle.std.proofs.Common.{◌≡◌, ◌+◌, ◌/◌, ◌<◌, ◌≤◌, ℕ, zero, suc, true, false, List, [], ◌∷◌, length, refl, arith}
use Rattle.std.specs.Prelude.{bytes_eq}
use Rattle.jos_host.specs.MemHost.{Named}
use Rattle.fs_layout.specs.declared.numbers.TheConstants.{RECORDSIZE, MAXFILESIZE, MINBLOCKS, MAXBLOCKS, FTYPE_REG, FTYPE_DIR, FS_MAGIC}
use Rattle.fs_layout.specs.DiskImage.{block_count, magic_of, root_place, is_marked_free, size_of, kind_at, name_of}
use Rattle.fs_layout.specs.DiskImage.{is_empty_record, slot_count, slot_place, first_data_block}
use Rattle.fs_layout.specs.DiskFiles.{file_bytes}
use Rattle.fs_make.specs.MakeFaults.{is_file_name, root_size, span_of, spans_of, blocks_used}
use Rattle.fs_make.specs.MadeImage.{first_file_block}
use Rattle.fs_make.proofs.Walks.{LaidFrom}

-- ---- files by their places

-- the file at a place; past the end one without a name
unfoldable pub file_at : List Named → ℕ → Named
file_at [] i = record { name = []; bytes = [] }
file_at (file ∷ files) zero = file
file_at (file ∷ files) (suc i) = file_at files i

-- the block with which it begins, where the first begins with the block `first`
unfoldable pub starts_at : ℕ → List Named → ℕ → ℕ
starts_at first [] i = first
starts_at first (file ∷ files) zero = first
starts_at first (file ∷ files) (suc i) = starts_at (first + span_of (length file.bytes)) files i

-- the first begins there, each other behind the one before it, and past the end all are passed
pub starts-first : (first : ℕ) (files : List Named) → starts_at first files 0 ≡ first
unfolding starts_at
starts-first first [] = refl
starts-first first (file ∷ files) = refl

pub starts-next : (first : ℕ) (files : List Named) (i : ℕ) → i < length files →
    starts_at first files (suc i) ≡ starts_at first files i + span_of (length (file_at files i).bytes)
unfolding starts_at file_at
starts-next first [] i within = absurd (omega arith)
starts-next first (file ∷ files) zero within = starts-first (first + span_of (length file.bytes)) files
starts-next first (file ∷ files) (suc i) within = starts-next (first + span_of (length file.bytes)) files i (omega arith)

pub starts-past : (first : ℕ) (files : List Named) (i : ℕ) → length files ≤ i → starts_at first files i ≡ first + spans_of files
unfolding starts_at spans_of
starts-past first [] i past = omega arith
starts-past first (file ∷ files) zero past = absurd (omega arith)
starts-past first (file ∷ files) (suc i) past =
    let rest = starts-past (first + span_of (length file.bytes)) files i (omega arith) in
    omega arith

-- none begins before the first
pub starts-behind : (first : ℕ) (files : List Named) (i : ℕ) → first ≤ starts_at first files i
unfolding starts_at
starts-behind first [] i = omega arith
starts-behind first (file ∷ files) zero = omega arith
starts-behind first (file ∷ files) (suc i) =
    let rest = starts-behind (first + span_of (length file.bytes)) files i in
    omega arith

-- its blocks are among those of all files
pub starts-within : (first : ℕ) (files : List Named) (i : ℕ) → i < length files →
    starts_at first files i + span_of (length (file_at files i).bytes) ≤ first + spans_of files
unfolding starts_at file_at spans_of
starts-within first [] i within = absurd (omega arith)
starts-within first (file ∷ files) zero within = omega arith
starts-within first (file ∷ files) (suc i) within =
    let rest = starts-within (first + span_of (length file.bytes)) files i (omega arith) in
    omega arith

-- the root directory has a record for each file
pub slots-enough : (files : ℕ) → files ≤ root_size files / RECORDSIZE
unfolding root_size
slots-enough files = omega arith

-- ---- files without a fault

pub record Faultless (blocks : ℕ) (files : List Named) : Type 0 where
  pub at_least : MINBLOCKS ≤ blocks
  pub at_most : blocks ≤ MAXBLOCKS
  pub named : (i : ℕ) → i < length files → is_file_name (file_at files i).name ≡ true
  pub apart : (i j : ℕ) → j < i → i < length files → bytes_eq (file_at files j).name (file_at files i).name ≡ false
  pub short : (i : ℕ) → i < length files → length (file_at files i).bytes ≤ MAXFILESIZE
  pub room : blocks_used blocks files ≤ blocks
  pub short_root : root_size (length files) ≤ MAXFILESIZE

-- ---- what the bytes say

-- of the super block, the bitmap and the root's record
pub record SaysRoot (byte : ℕ → ℕ) (blocks : ℕ) (files : List Named) : Type 0 where
  pub magic : magic_of byte ≡ FS_MAGIC
  pub count : block_count byte ≡ blocks
  pub in_use : (b : ℕ) → b < blocks_used blocks files → is_marked_free byte b ≡ false
  pub free : (b : ℕ) → blocks_used blocks files ≤ b → b < blocks → is_marked_free byte b ≡ true
  pub size : size_of byte root_place ≡ root_size (length files)
  pub kind : kind_at byte root_place ≡ FTYPE_DIR
  pub laid : LaidFrom byte root_place (first_data_block blocks)

-- of the file with a number, by its record
pub record SaysFile (byte : ℕ → ℕ) (first : ℕ) (files : List Named) (i : ℕ) : Type 0 where
  pub some : is_empty_record byte (slot_place byte root_place i) ≡ false
  pub name : name_of byte (slot_place byte root_place i) ≡ (file_at files i).name
  pub size : size_of byte (slot_place byte root_place i) ≡ length (file_at files i).bytes
  pub kind : kind_at byte (slot_place byte root_place i) ≡ FTYPE_REG
  pub laid : LaidFrom byte (slot_place byte root_place i) (starts_at first files i)
  pub bytes : file_bytes byte (slot_place byte root_place i) ≡ (file_at files i).bytes

-- of the whole image
pub record Says (byte : ℕ → ℕ) (blocks : ℕ) (files : List Named) : Type 0 where
  pub root : SaysRoot byte blocks files
  pub file : (i : ℕ) → i < length files → SaysFile byte (first_file_block blocks files) files i
  pub empty : (i : ℕ) → length files ≤ i → i < slot_count byte root_place → is_empty_record byte (slot_place byte root_place i) ≡ true
