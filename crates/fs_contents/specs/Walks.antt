-- What is kept on the way to what a path names.
use Rattle.std.specs.Prelude.{◌≡◌, ℕ, zero, suc, ◌<◌, true, false, List, [], ◌∷◌, ◌++◌, bytes_eq, Result, if◌then◌else◌}
use Rattle.jos_base.specs.declared.errno.Errno.{Errno}
use Rattle.fs_layout.specs.declared.records.FileEntry.{FileEntry}
use Rattle.fs_layout.specs.Layout.{file_entry_at}
use Rattle.fs_layout.specs.FileTree.{Node}
use Rattle.fs_layout.specs.FileActs.{look_from}
use Rattle.fs_layout.specs.DiskImage.{name_of, is_directory_at, is_empty_record, slot_count, slot_place}
use Rattle.fs_layout.specs.DiskFiles.{records_at, node_of}
use Rattle.fs_layout.specs.DiskLaws.{AreReadable}
use Rattle.fs_contents.specs.Contents.{found_node}

-- The record at a place is the first in the directory that has the name.
pub record IsFirstNamed (byte : ℕ → ℕ) (directory : ℕ) (name : List ℕ) (place : ℕ) : Type 0 where
  pub in_directory : is_directory_at byte directory ≡ true
  pub slot : ℕ
  pub within : slot < slot_count byte directory
  pub stands : place ≡ slot_place byte directory slot
  pub named : bytes_eq (name_of byte place) name ≡ true
  pub first : (j : ℕ) → j < slot → bytes_eq (name_of byte (slot_place byte directory j)) name ≡ false

-- There is none, or this is no directory.
abbrev pub NoneIsNamed : (ℕ → ℕ) → ℕ → List ℕ → Type 0
NoneIsNamed byte directory name =
    is_directory_at byte directory ≡ true → (j : ℕ) → j < slot_count byte directory →
    bytes_eq (name_of byte (slot_place byte directory j)) name ≡ false

-- What is found leads on by these names from the record at a place, from which on all records can be read.
pub record LeadsOn (byte : ℕ → ℕ) (found : Result Node Errno) (names : List (List ℕ)) (place : ℕ) : Type 0 where
  pub depth : ℕ
  pub readable : AreReadable depth byte place
  pub found_is : found ≡ found_node (look_from names (node_of (records_at depth byte) byte place))

-- of the first records of a directory, so many, those that are not empty
unfoldable pub entries_below : (ℕ → ℕ) → ℕ → ℕ → List FileEntry
entries_below byte directory zero = []
entries_below byte directory (suc n) =
    entries_below byte directory n
    ++ (if is_empty_record byte (slot_place byte directory n) then [] else file_entry_at byte (slot_place byte directory n) ∷ [])
