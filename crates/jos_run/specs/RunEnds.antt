-- What a run of a program under the library answers.
use Rattle.std.specs.Prelude.{◌≡◌, ℕ, List, Option, Some, None, Result, Ok, Err, IsSome}
use Rattle.jos_host.specs.Frames.{Around}
use Rattle.jos_host.specs.Gains.{Gains}
use Rattle.jos_host.specs.Told.{Rose}
use Rattle.jos_base.specs.KernelState.{KernelState}
use Rattle.jos_elf.specs.Parsed.{Layout}
use Rattle.fs_layout.specs.FileTree.{FileSystem}
use Rattle.jos_kernel.specs.declared.kernel.BootFault.{BootFault}
use Rattle.jos_kernel.specs.declared.kernel.BootFault.TheVariants.{Pool, NoMemory}
use Rattle.jos_kernel.specs.declared.trace.TrapLine.{TrapLine}
use Rattle.jos_kernel.specs.Reports.{Reported, CutOff}
use Rattle.lib_os.specs.AbstractState.{AbstractState}
use Rattle.lib_os.specs.Disk.{Disk}
use Rattle.jos_run.specs.declared.programs.RunEnd.{RunEnd}
use Rattle.jos_run.specs.declared.programs.RunEnd.TheVariants.{Ended, HostFault}
use Rattle.jos_run.specs.declared.programs.Setup.{Setup}
use Rattle.jos_run.specs.Boot.{booted_within}
use Rattle.jos_run.specs.ServerStands.{StandsWhole}
use Rattle.jos_run.specs.Start.{HoldsFiles, start_state}
use Rattle.jos_run.specs.RunReports.{IsTold, IsToldCutOff}
use Rattle.jos_run.specs.RunSteps.{HasGone}
use Rattle.jos_run.specs.Worlds.{World, beside}

-- a program that is run: its image with the file that it was read from, its words, and what the run is given
pub record Job : Type 0 where
  pub image : Layout
  pub file : List ℕ
  pub words : List (List ℕ)
  pub frames : ℕ
  pub schedule : List ℕ
  pub input : List ℕ
  pub steps : ℕ
  -- how many of the last traps are told
  pub trace : ℕ

-- the program of an image and its file, with its words and what its run is given
abbrev pub given_job : Layout → List ℕ → List (List ℕ) → Setup → Job
given_job image file words setup = record {
  image = image;
  file = file;
  words = words;
  frames = setup.frames;
  schedule = setup.schedule;
  input = setup.input.items;
  steps = setup.budget;
  trace = setup.trace;
}

-- the abstract system in which it begins, with these files
abbrev pub start_of : Job → FileSystem → AbstractState
start_of p files = start_state p.image p.file p.words p.input files

-- It begins with this one: the host tells a disk without a fault, whose files it has.
pub record BeginsWith (p : Job) (disk : Option Disk) (first : AbstractState) : Type 0 where
  pub told : Disk
  pub files : FileSystem
  pub is : disk ≡ Some told
  pub holds : HoldsFiles told files
  pub starts : first ≡ start_of p files

-- the state of the kernel in which it begins; None where the frames are too few
abbrev pub begun : Job → Option KernelState
begun p = booted_within p.image p.file p.words p.frames p.input

abbrev pub CanBegin : Job → Type 0
CanBegin p = IsSome (begun p)

-- The run is over, and this is told of it, with the last of its traps; the console has gained what it has printed. With the
-- abstract system it is compared where the host tells a disk without a fault. The one state is that behind its turns, and the other the last.
abbrev pub HasRun : Job → Reported → List TrapLine → Around (Option Disk) → Around (Option (List ℕ)) → Type 0
HasRun p report traps disks console =
    CanBegin p × ((printed : List ℕ) × (turned : World) × (last : KernelState) × Gains console printed
    × IsTold p.schedule (BeginsWith p disks.before) p.frames p.steps report printed turned (beside last disks.after)
    × ((s : KernelState) × (begun p ≡ Some s)
    × HasGone (beside s disks.before) turned (beside last disks.after) p.steps p.trace report traps printed))

-- A call of the host failed in the run.
abbrev pub IsCut : Job → CutOff → Around (Option Disk) → Around (Option (List ℕ)) → Type 0
IsCut p cut disks console = CanBegin p × IsToldCutOff p.schedule (BeginsWith p disks.before) p.frames cut console

-- How a run that began has ended.
abbrev pub IsEndOf : Job → RunEnd → Around (Option Disk) → Around (Option (List ℕ)) → Type 0
IsEndOf p (Ended report trace) disks console = HasRun p report trace.items disks console
IsEndOf p (HostFault cut) disks console = IsCut p cut disks console

-- What `run` answers for a program. Before the run nothing is printed.
abbrev pub AnswersFor : Job → Result RunEnd BootFault → Around (Option Disk) → Around (Option (List ℕ)) → Type 0
AnswersFor p (Ok end) disks console = IsEndOf p end disks console
AnswersFor p (Err Pool) disks console = (begun p ≡ None) × (console.after ≡ console.before)
AnswersFor p (Err NoMemory) disks console = console.after ≡ console.before

-- A failed call of the host is answered only where the count of its faults rose, and every other answer leaves the count.
abbrev pub HasEndCause : Around ℕ → RunEnd → Type 0
HasEndCause faults (Ended report trace) = faults.after ≡ faults.before
HasEndCause faults (HostFault cut) = Rose faults.before faults.after

abbrev pub HasRunCause : Around ℕ → Result RunEnd BootFault → Type 0
HasRunCause faults (Ok end) = HasEndCause faults end
HasRunCause faults (Err fault) = faults.after ≡ faults.before

-- ---- a program that is booted

-- It has run from this state of the kernel on, and from each abstract state for which that stands with the disk.
abbrev pub RunsFrom : KernelState → Setup → RunEnd → Around (Option Disk) → Around (Option (List ℕ)) → Type 0
RunsFrom s setup (Ended report trace) disks console =
    (printed : List ℕ) × (turned : World) × (last : KernelState) × Gains console printed
    × IsTold setup.schedule (StandsWhole (beside s disks.before)) setup.frames setup.budget report printed turned (beside last disks.after)
    × HasGone (beside s disks.before) turned (beside last disks.after) setup.budget setup.trace report trace.items printed
RunsFrom s setup (HostFault cut) disks console =
    IsToldCutOff setup.schedule (StandsWhole (beside s disks.before)) setup.frames cut console
