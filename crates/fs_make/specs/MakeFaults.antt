-- Why no image is made of files: tests of which the first that fails gives the fault. (This system's own, but for the greatest
-- lengths: MIT 6.828, lab 5, inc/fs.h.)
use Rattle.std.specs.Prelude.{ℕ, ◌+◌, ◌-◌, ◌*◌, ◌/◌, ◌==◌, ◌&&◌, ◌||◌, nat_lt, not, Bool, List, [], ◌∷◌, length, position, bytes_eq}
use Rattle.std.specs.Prelude.{Option, Some, None, option_map, if◌then◌else◌}
use Rattle.std.specs.Option.{option_or}
use Rattle.std.specs.List.{list_any}
use Rattle.jos_host.specs.MemHost.{Named}
use Rattle.fs_layout.specs.declared.numbers.TheConstants.{BLKSIZE, BLKFILES, MAXNAMELEN, MAXFILESIZE}
use Rattle.fs_layout.specs.FileTree.{blocks_taken, needs_indirect}
use Rattle.fs_layout.specs.FileActs.{is_slash}
use Rattle.fs_layout.specs.DiskImage.{is_good_count, first_data_block}
use Rattle.fs_make.specs.declared.fault.MakeFault.{MakeFault}
use Rattle.fs_make.specs.declared.fault.MakeFault.TheVariants.{TooManyBlocks, BadName, TwiceNamed, TooLong, NoRoom}

-- ---- names

-- a name is not empty, leaves room for a NUL, and has neither a slash nor a NUL
unfoldable pub is_file_name : List ℕ → Bool
is_file_name name =
    nat_lt 0 (length name) && nat_lt (length name) MAXNAMELEN && not (list_any (λ byte. is_slash byte || (byte == 0)) name)

-- the place of the first file whose name is one of these or that of a file before it
unfoldable pub first_taken : List (List ℕ) → List Named → Option ℕ
first_taken before [] = None
first_taken before (file ∷ files) =
    if list_any (bytes_eq file.name) before then Some 0
    else option_map (λ place. place + 1) (first_taken (file.name ∷ before) files)

-- ---- blocks

-- the size of the root directory: as many blocks as the records of so many files need
unfoldable pub root_size : ℕ → ℕ
root_size files = BLKSIZE * ((files + (BLKFILES - 1)) / BLKFILES)

-- the blocks of so many bytes, with the indirect block where one is needed
abbrev pub span_of : ℕ → ℕ
span_of size = blocks_taken size (needs_indirect size)

-- the blocks of all files
unfoldable pub spans_of : List Named → ℕ
spans_of [] = 0
spans_of (file ∷ files) = span_of (length file.bytes) + spans_of files

-- how many blocks are in use: those before the data blocks, and those of the root directory and of the files
unfoldable pub blocks_used : ℕ → List Named → ℕ
blocks_used blocks files = first_data_block blocks + span_of (root_size (length files)) + spans_of files

-- ---- the fault

abbrev pub fault_where : Bool → MakeFault → Option MakeFault
fault_where fails fault = if fails then Some fault else None

-- the first fault of files that are to be put on a disk of so many blocks; a file is told by its place
unfoldable pub make_fault : ℕ → List Named → Option MakeFault
make_fault blocks files =
    option_or (fault_where (not (is_good_count blocks)) TooManyBlocks)
    (option_or (option_map BadName (position (λ (file : Named). not (is_file_name file.name)) files))
    (option_or (option_map TwiceNamed (first_taken [] files))
    (option_or (option_map TooLong (position (λ (file : Named). nat_lt MAXFILESIZE (length file.bytes)) files))
    (fault_where (nat_lt blocks (blocks_used blocks files) || nat_lt MAXFILESIZE (root_size (length files))) NoRoom))))
