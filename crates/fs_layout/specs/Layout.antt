-- How a record and the super block lie on the disk. The numbers have four bytes, the lowest first. The bytes that are read
-- are seen as a function from each place to the byte there.
-- (MIT 6.828, lab 5: inc/fs.h, struct File and struct Super.)
use Rattle.std.specs.Prelude.{◌≡◌, ℕ, ◌+◌, ◌-◌, ◌*◌, ◌^◌, ◌<◌, ◌==◌, List, [], ◌∷◌, ◌++◌, map, length, replicate, slice_index, if◌then◌else◌}
use Rattle.std.specs.Prelude.{Option, Some, None}
use Rattle.std.specs.List.{range_with_len}
use Rattle.jos_base.specs.TrapFrames.{bytes_of_words}
use Rattle.jos_base.specs.Words.{word_at}
use Rattle.fs_layout.specs.declared.records.FileEntry.{FileEntry}
use Rattle.fs_layout.specs.declared.records.Super.{Super}
use Rattle.fs_layout.specs.declared.numbers.TheConstants.{BLKSIZE, RECORDSIZE, MAXNAMELEN, NDIRECT, FS_MAGIC}
use Rattle.fs_layout.specs.declared.numbers.TheConstants.{BLOCKS_AT, ROOT_AT}
use Rattle.fs_layout.specs.declared.numbers.TheConstants.{SIZE_AT, KIND_AT, DIRECT_AT, INDIRECT_AT, PADDING_AT}

-- ---- reading

-- so many bytes, and so many numbers, from a place on
unfoldable pub bytes_from : (ℕ → ℕ) → ℕ → ℕ → List ℕ
bytes_from byte at n = map (λ k. byte (at + k)) (range_with_len 0 n)

unfoldable pub words_from : (ℕ → ℕ) → ℕ → ℕ → List ℕ
words_from byte at n = map (λ k. word_at byte (at + 4 * k)) (range_with_len 0 n)

-- the record that begins at a place; its padding says nothing
unfoldable pub file_entry_at : (ℕ → ℕ) → ℕ → FileEntry
file_entry_at byte at = record {
  name = bytes_from byte at MAXNAMELEN;
  size = word_at byte (at + SIZE_AT);
  kind = word_at byte (at + KIND_AT);
  direct = words_from byte (at + DIRECT_AT) NDIRECT;
  indirect = word_at byte (at + INDIRECT_AT);
}

-- the super block that begins at a place; none is there where the first word is another than the magic
unfoldable pub super_at : (ℕ → ℕ) → ℕ → Option Super
super_at byte at =
    if word_at byte at == FS_MAGIC
    then Some (record { blocks = word_at byte (at + BLOCKS_AT); root = file_entry_at byte (at + ROOT_AT) }) else None

-- ---- writing

unfoldable pub zeros : ℕ → List ℕ
zeros n = replicate n 0

-- the name, the words, and zeros as padding
unfoldable pub entry_bytes : FileEntry → List ℕ
entry_bytes e =
    e.name ++ (bytes_of_words (e.size ∷ e.kind ∷ []) ++ (bytes_of_words e.direct ++ (bytes_of_words (e.indirect ∷ []) ++ zeros (RECORDSIZE - PADDING_AT))))

-- the magic, the number of blocks and the root's record, and zeros up to the end of the block
unfoldable pub super_bytes : Super → List ℕ
super_bytes s = bytes_of_words (FS_MAGIC ∷ s.blocks ∷ []) ++ (entry_bytes s.root ++ zeros (BLKSIZE - (ROOT_AT + RECORDSIZE)))

-- what is known of a record by its type: how long its lists are, and that its numbers are words
pub record EntryFits (e : FileEntry) : Type 0 where
  pub name : length e.name ≡ MAXNAMELEN
  pub size : e.size < 2 ^ 32
  pub kind : e.kind < 2 ^ 32
  pub direct : length e.direct ≡ NDIRECT
  pub each : (k : ℕ) → slice_index e.direct k < 2 ^ 32
  pub indirect : e.indirect < 2 ^ 32
