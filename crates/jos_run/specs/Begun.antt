-- What holds where a run begins: the kernel's state, with the disk, stands for the first abstract one, with the file server at its step, and nothing
-- has happened.
use Rattle.std.specs.Prelude.{◌≡◌, ◌≤◌, ℕ, true, List, None, Some, Ok}
use Rattle.jos_base.specs.declared.numbers.TheConstants.{FRAMES_MIN, FRAMES_MAX}
use Rattle.jos_base.specs.KernelState.{KernelState}
use Rattle.jos_elf.specs.Parsed.{Layout, parsed}
use Rattle.fs_layout.specs.FileTree.{FileSystem}
use Rattle.lib_os.specs.Disk.{Disk}
use Rattle.lib_os.specs.Rows.{AreBytes}
use Rattle.lib_os.specs.Need.{EachHasUse}
use Rattle.jos_elf.specs.StackPage.{fits_stack, strings_of}
use Rattle.jos_run.specs.Boot.{boot_frames, booted_within, program_booted}
use Rattle.jos_run.specs.LibraryRuns.{NoneRuns}
use Rattle.jos_run.specs.ServerStands.{StandsWhole}
use Rattle.jos_run.specs.Start.{HoldsFiles, start_state}
use Rattle.jos_run.specs.Worlds.{beside}

-- nothing has happened, and each frame that is handed out has a use
pub record IsNew (s : KernelState) (frames : ℕ) : Type 0 where
  pub none_runs : NoneRuns s
  pub refusals : s.refusals ≡ 0
  pub turns : s.turns ≡ 0
  pub last : s.last ≡ None
  pub frames_are : s.spaces.frames ≡ frames
  pub used : EachHasUse s.spaces

-- A program that is booted, from a file of bytes, with words of bytes and an input of bytes, stands for the abstract state in which its run begins,
-- beside a disk without a fault.
abbrev pub ProgramsBegin : Type 0
ProgramsBegin = (image : Layout) (file : List ℕ) (words : List (List ℕ)) (frames : ℕ) (input : List ℕ) (s : KernelState) →
    AreBytes file → AreBytes (strings_of words) → AreBytes input → parsed file ≡ Ok image → fits_stack words ≡ true → FRAMES_MIN ≤ frames → frames ≤ FRAMES_MAX →
    program_booted image file words frames input ≡ Some s → IsNew s frames
    × ((d : Disk) (files : FileSystem) → HoldsFiles d files → StandsWhole (beside s (Some d)) (start_state image file words input files))

-- And in the frames that it wants, every program is booted.
abbrev pub ProgramsBoot : Type 0
ProgramsBoot = (image : Layout) (file : List ℕ) (words : List (List ℕ)) (frames : ℕ) (input : List ℕ) →
    parsed file ≡ Ok image → fits_stack words ≡ true → boot_frames image ≤ frames → frames ≤ FRAMES_MAX →
    (s : KernelState) × (booted_within image file words frames input ≡ Some s)
