-- What a path leads to in a tree of files: the records of a directory, or the bytes of a file, or the error by which it is refused.
-- (The errors are those of the file server: MIT 6.828, lab 5, fs/fs.c and inc/error.h.)
use Rattle.std.specs.Prelude.{◌≡◌, ℕ, ◌==◌, Bool, true, false, List, [], ◌∷◌, length, Option, Some, None, Result, Ok, Err}
use Rattle.std.specs.List.{before_first}
use Rattle.jos_base.specs.declared.errno.Errno.{Errno}
use Rattle.jos_base.specs.declared.errno.Errno.TheVariants.{Invalid, NotFound, BadPath}
use Rattle.fs_layout.specs.declared.records.FileEntry.{FileEntry}
use Rattle.fs_layout.specs.declared.numbers.TheConstants.{FTYPE_DIR}
use Rattle.fs_layout.specs.FileTree.{Node, a_file, a_directory, NamedNode, FileSystem, listed, directory_size}
use Rattle.fs_layout.specs.FileActs.{Looked, bad_path, nowhere, missing, there, look_up}
use Rattle.fs_contents.specs.declared.fault.ReadFault.{ReadFault}
use Rattle.fs_contents.specs.declared.fault.ReadFault.TheVariants.{NotThere, NoMemory}

-- what a directory's record tells of what it names
pub record Told : Type 0 where
  pub name : List ℕ
  pub directory : Bool
  pub size : ℕ

-- of what stands in the tree
abbrev pub told_of_node : List ℕ → Node → Told
told_of_node name (a_file bytes indirect) = record { name = name; directory = false; size = length bytes }
told_of_node name (a_directory records indirect) =
    record { name = name; directory = true; size = directory_size (listed records) }

-- of all records that are not empty, in their order
unfoldable pub told_of_records : List (Option NamedNode) → List Told
told_of_records [] = []
told_of_records (None ∷ rest) = told_of_records rest
told_of_records (Some named ∷ rest) = told_of_node named.name named.node ∷ told_of_records rest

-- of a record as it lies on the disk
abbrev pub told_of_entry : FileEntry → Told
told_of_entry entry =
    record { name = before_first (λ byte. byte == 0) entry.name; directory = entry.kind == FTYPE_DIR; size = entry.size }

-- ---- by a path

abbrev pub found_node : Looked → Result Node Errno
found_node bad_path = Err BadPath
found_node nowhere = Err NotFound
found_node (missing way directory name) = Err NotFound
found_node (there way node) = Ok node

abbrev pub directory_found : Result Node Errno → Result (List Told) Errno
directory_found (Ok (a_directory records indirect)) = Ok (told_of_records (listed records))
directory_found (Ok (a_file bytes indirect)) = Err Invalid
directory_found (Err errno) = Err errno

abbrev pub file_found : Result Node Errno → Result (List ℕ) Errno
file_found (Ok (a_file bytes indirect)) = Ok bytes
file_found (Ok (a_directory records indirect)) = Err Invalid
file_found (Err errno) = Err errno

-- the records of the directory that a path names
abbrev pub listed_at : FileSystem → List ℕ → Result (List Told) Errno
listed_at s path = directory_found (found_node (look_up s path))

-- the bytes of the file that a path names
abbrev pub read_at : FileSystem → List ℕ → Result (List ℕ) Errno
read_at s path = file_found (found_node (look_up s path))

-- ---- answers

-- the fault says why there is nothing; want of memory says nothing
abbrev pub IsReadFault : {X : Type 0} → Result X Errno → ReadFault → Type 0
IsReadFault found (NotThere errno) = found ≡ Err errno
IsReadFault found NoMemory = Unit {0}
