-- The abstract state in which a run begins: the server, which is not yet ready for a request, with the files of its disk, and one program.
use Rattle.std.specs.Prelude.{◌≡◌, ℕ, ◌+◌, ◌-◌, ◌*◌, ◌==◌, nat_lt, false, List, [], Option, Some, None, if◌then◌else◌}
use Rattle.jos_base.specs.declared.numbers.TheConstants.{FIRST_ENV_ID, NENV}
use Rattle.jos_base.specs.SpacesState.{rising}
use Rattle.jos_elf.specs.Parsed.{Layout}
use Rattle.fs_layout.specs.declared.numbers.TheConstants.{BLKSIZE}
use Rattle.fs_layout.specs.DiskFiles.{IsDiskImage, file_system_of}
use Rattle.fs_layout.specs.DiskImage.{block_count}
use Rattle.fs_layout.specs.FileTree.{FileSystem}
use Rattle.lib_os.specs.AbstractMemory.{has_page_in}
use Rattle.lib_os.specs.Disk.{Disk, byte_in_blocks}
use Rattle.lib_os.specs.ProgramMemory.{program_memory}
use Rattle.lib_os.specs.AbstractState.{AbstractState, Born, Page, TablePlace, AbstractSlot, free, born, serving, guest, at_guest, leaving, terminal}
use Rattle.fs_seen.specs.ServerMemory.{AreDiskBytes}
use Rattle.jos_elf.specs.Started.{program_registers}

-- the pages of the image, and that of the stack
abbrev pub first_memory : Layout → List ℕ → List (List ℕ) → ℕ → Option Page
first_memory image file words = program_memory image.segments file words

-- its first two descriptors name one object
abbrev pub first_descriptors : ℕ → Option ℕ
first_descriptors fd = if nat_lt fd 2 then Some 0 else None

-- a program with this memory, at its first instruction, whose first two descriptors name the console
abbrev pub program_with : Layout → List (List ℕ) → (ℕ → Option Page) → Born
program_with image words memory = record {
  id = FIRST_ENV_ID + 1;
  parent = 0;
  program = guest (program_registers image.entry words);
  memory = memory;
  regions = has_page_in memory;
  descriptors = first_descriptors;
  phase = at_guest;
  spawning = None;
  blocked = false;
}

abbrev pub first_slot : Born → ℕ → AbstractSlot
first_slot b n = if n == 0 then serving FIRST_ENV_ID else if n == 1 then born b else free 0

abbrev pub no_place : TablePlace
no_place = record { held_by = None; used = false }

-- the server and this program alone
abbrev pub start_with : Born → List ℕ → FileSystem → AbstractState
start_with b input files = record {
  slots = first_slot b;
  free_slots = rising 2 (NENV - 2);
  shared = λ name. [];
  objects = λ name. terminal;
  pipes = λ name. [];
  next_name = 1;
  files = files;
  opened = λ k. no_place;
  server = leaving;
  console = [];
  input = input;
  last = None;
  turns = 0;
}

-- the program of an image that was read from a file, with its words, the console's input and the files of the disk
abbrev pub start_state : Layout → List ℕ → List (List ℕ) → List ℕ → FileSystem → AbstractState
start_state image file words input files = start_with (program_with image words (first_memory image file words)) input files

-- The disk is one without a fault, of bytes, and has these files.
pub record HoldsFiles (d : Disk) (files : FileSystem) : Type 0 where
  pub image : IsDiskImage (BLKSIZE * d.count) (byte_in_blocks d.block)
  pub count : block_count (byte_in_blocks d.block) ≡ d.count
  pub bytes : AreDiskBytes d
  pub are : file_system_of (byte_in_blocks d.block) ≡ files
