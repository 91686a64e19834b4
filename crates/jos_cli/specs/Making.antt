-- What `mkfs` makes of the files that its words name, and the disk that `gen` makes. (This system's own.)
use Rattle.std.specs.Prelude.{ℕ, List, [], ◌∷◌, map, codes, Option, Some, None, Ok, Err, if◌then◌else◌}
use Rattle.jos_host.specs.Files as host
use Rattle.jos_host.specs.MemHost.{Named}
use Rattle.jos_base.specs.declared.numbers.TheConstants.{FILE_MAX}
use Rattle.jos_base.specs.Words.{◌>>=◌}
use Rattle.jos_words.specs.Arguments.{Word}
use Rattle.jos_words.specs.Commands.{Mkfs}
use Rattle.fs_layout.specs.FileActs.{is_slash}
use Rattle.fs_make.specs.declared.fault.MakeFault.{MakeFault}
use Rattle.fs_make.specs.declared.fault.MakeFault.TheVariants.{NoMemory}
use Rattle.fs_make.specs.MakeFaults.{make_fault}
use Rattle.fs_make.specs.MadeImage.{made_image}
use Rattle.jos_demo.specs.Workloads.{workload_of, work_file}
use Rattle.jos_cli.specs.declared.outcome.Which.TheVariants.{File}
use Rattle.jos_cli.specs.declared.generating.TheConstants.{WORK_BLOCKS}
use Rattle.jos_cli.specs.Limits.{limit_of_blocks}
use Rattle.jos_cli.specs.Found.{FileAt}
use Rattle.jos_cli.specs.Answer.{Judged, all_judged, within, bytes_within, bad_make, Expected, expected_if, expected_of_writing}

-- ---- the files

-- what stands behind the last slash of a text, or another name where there is none
unfoldable pub behind_last_slash : List ℕ → List ℕ → List ℕ
behind_last_slash name [] = name
behind_last_slash name (byte ∷ rest) = behind_last_slash (if is_slash byte then rest else name) rest

-- the name of a file on the disk: what stands behind the last slash of its word, or all where there is none
abbrev pub file_name : List ℕ → List ℕ
file_name text = behind_last_slash text text

abbrev pub named_with : Word → List ℕ → Named
named_with word bytes = record { name = file_name word.text; bytes = bytes }

unfoldable pub named_file : FileAt → Judged Named
named_file file = do
  bytes ← bytes_within FILE_MAX File file.word.place file.bytes
  Ok (named_with file.word bytes)

abbrev pub named_files : List FileAt → Judged (List Named)
named_files files = all_judged (map named_file files)

-- ---- the disk

abbrev pub made_unless : Option MakeFault → List ℕ → Judged (List ℕ)
made_unless None disk = Ok disk
made_unless (Some fault) disk = Err (bad_make fault)

unfoldable pub disk_made : ℕ → List Named → Judged (List ℕ)
disk_made blocks files = made_unless (make_fault blocks files) (made_image blocks files)

-- the disk that the words ask for, once its number of blocks is within the limits
unfoldable pub disk_asked : Mkfs → List FileAt → Judged (List ℕ)
disk_asked m found = do
  _ ← within (limit_of_blocks m.blocks)
  files ← named_files found
  disk_made m.blocks.value files

-- of `mkfs`, for the files that are found
abbrev pub expected_of_mkfs : Mkfs → List FileAt → Expected
expected_of_mkfs m found = expected_if (disk_asked m found) expected_of_writing

-- ---- of a host that tells its files

-- a file that a word names, as it is put on the disk
abbrev pub named_in : host.Files → Word → Named
named_in files word = named_with word (host.bytes_of files word.text)

-- the disk that is made of the files that the words name
abbrev pub disk_in : host.Files → Mkfs → List ℕ
disk_in files m = made_image m.blocks.value (map (named_in files) m.files)

-- ---- the disk of `gen`

-- its one file: the program for the seed
abbrev pub work_files : ℕ → List Named
work_files seed = record { name = codes "work"; bytes = work_file (workload_of seed) } ∷ []

unfoldable pub work_disk : ℕ → List ℕ
work_disk seed = made_image WORK_BLOCKS (work_files seed)

-- want of memory, and no fault of files
abbrev pub IsMemoryFault : MakeFault → Type 0
IsMemoryFault NoMemory = Unit {0}
IsMemoryFault fault = ⊥
