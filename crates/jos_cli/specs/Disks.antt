-- What `ls` and `cat` tell of a disk. (This system's own.)
use Rattle.std.specs.Prelude.{ℕ, List, [], ◌∷◌, ◌++◌, length, codes, decimal, slice_index, Option, Some, None, unwrap_or, Result, Ok, Err}
use Rattle.std.specs.Prelude.{if◌then◌else◌}
use Rattle.jos_base.specs.declared.errno.Errno.{Errno}
use Rattle.jos_base.specs.Words.{◌>>=◌}
use Rattle.jos_words.specs.Arguments.{Word}
use Rattle.jos_words.specs.Commands.{Ls, Cat}
use Rattle.fs_layout.specs.FileTree.{FileSystem}
use Rattle.fs_layout.specs.DiskImage.{ImageFault, block_count}
use Rattle.fs_layout.specs.DiskFiles.{file_system_of}
use Rattle.fs_image.specs.DiskHeld.{HeldDisk, held_of, fault_in}
use Rattle.fs_contents.specs.Contents.{Told, listed_at, read_at}
use Rattle.jos_cli.specs.Found.{FileAt}
use Rattle.jos_cli.specs.Answer.{Judged, absent, bad_disk, not_there, made, Expected, expected_if}

-- ---- the disk

abbrev pub held_at : ℕ → Option (List ℕ) → Judged HeldDisk
held_at place None = Err (absent place)
held_at place (Some bytes) = Ok (held_of bytes)

abbrev pub checked_by : Option ImageFault → HeldDisk → Judged HeldDisk
checked_by None held = Ok held
checked_by (Some fault) held = Err (bad_disk fault)

-- what is looked at of the disk, where it has no fault
abbrev pub checked : HeldDisk → Judged HeldDisk
checked held = checked_by (fault_in held) held

unfoldable pub disk_of : FileAt → Judged HeldDisk
disk_of file = held_at file.word.place file.bytes >>= checked

abbrev pub tree_of : HeldDisk → FileSystem
tree_of held = file_system_of (slice_index held.bytes)

-- what is looked at of a file that is there
abbrev pub held_on : FileAt → HeldDisk
held_on file = held_of (unwrap_or file.bytes [])

-- how many blocks its super block counts
abbrev pub blocks_on : FileAt → ℕ
blocks_on file = block_count (slice_index (held_on file).bytes)

-- the files that stand on it
abbrev pub files_on : FileAt → FileSystem
files_on file = tree_of (held_on file)

abbrev pub if_there : {X : Type 0} → Result X Errno → Judged X
if_there (Ok x) = Ok x
if_there (Err errno) = Err (not_there errno)

-- the path of the directory, which is the root's where none is named
abbrev pub path_of : Option Word → List ℕ
path_of None = []
path_of (Some word) = word.text

-- ---- the listing

-- `NAME SIZE` of a file, and `NAME/` of a directory
abbrev pub size_text : Told → List ℕ
size_text told = if told.directory then codes "/\n" else codes " " ++ decimal told.size ++ codes "\n"

abbrev pub record_line : Told → List ℕ
record_line told = told.name ++ size_text told

unfoldable pub listing : List Told → List ℕ
listing [] = []
listing (told ∷ rest) = record_line told ++ listing rest

-- ---- what is expected

-- these bytes come to the console
abbrev pub expected_of_printed : List ℕ → Expected
expected_of_printed bytes = record { answer = made (length bytes); console = bytes }

abbrev pub expected_of_listing : List ℕ → HeldDisk → Expected
expected_of_listing path held = expected_if (if_there (listed_at (tree_of held) path)) (λ told. expected_of_printed (listing told))

abbrev pub expected_of_bytes : List ℕ → HeldDisk → Expected
expected_of_bytes path held = expected_if (if_there (read_at (tree_of held) path)) expected_of_printed

-- of `ls`, for the disk that is found
unfoldable pub expected_of_ls : Ls → FileAt → Expected
expected_of_ls l file = expected_if (disk_of file) (expected_of_listing (path_of l.path))

-- of `cat`, for the disk that is found
unfoldable pub expected_of_cat : Cat → FileAt → Expected
expected_of_cat c file = expected_if (disk_of file) (expected_of_bytes c.path.text)
