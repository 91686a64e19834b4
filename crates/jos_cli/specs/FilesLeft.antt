-- What the program leaves of the host's files. (This system's own.)
use Rattle.std.specs.Prelude.{◌≡◌, ℕ, ◌⊎◌, ⊤, List, map, length, slice_index, Option, Some, None, MatchOption}
use Rattle.std.specs.Option.{option_map}
use Rattle.jos_host.specs.Files.{Files, with_bytes, SameElsewhere}
use Rattle.jos_host.specs.MemHost.{Named}
use Rattle.fs_layout.specs.DiskFiles.{IsDiskImage, file_system_of}
use Rattle.fs_make.specs.MadeImage.{made_files}
use Rattle.jos_cli.specs.declared.outcome.Outcome.{Outcome}
use Rattle.jos_cli.specs.declared.outcome.Outcome.TheVariants.{Ran, Made, HostFault, NoMemory}
use Rattle.jos_cli.specs.declared.outcome.Which.{Which}
use Rattle.jos_host.specs.Frames.{Around, from_to}
use Rattle.jos_words.specs.Commands.{Command, Mkfs, Gen, exo, run, demo, mkfs, ls, cat, gen}
use Rattle.jos_run.specs.DiskTouches.{KeepsFiles}
use Rattle.jos_cli.specs.Commands.{program_file}
use Rattle.jos_cli.specs.Limits.{limit_of_seed}
use Rattle.jos_cli.specs.Making.{named_in, disk_in, work_disk}

-- every other name keeps its bytes
abbrev pub KeepsOthers : List ℕ → Around (Option Files) → Type 0
KeepsOthers name told =
    MatchOption told.before (told.after ≡ None) (λ old. (files : Files) × (told.after ≡ Some files) × SameElsewhere old name files)

-- the files told, with these bytes under the name
abbrev pub told_with : Option Files → List ℕ → List ℕ → Option Files
told_with told name bytes = option_map (λ files. with_bytes files name bytes) told

-- These are the files where one was made. Where a call of the host failed, every other name keeps its bytes, and else
-- every name does.
abbrev pub LeavesBy : List ℕ → Option Files → Outcome → Around (Option Files) → Type 0
LeavesBy name made (Made bytes) told = told.after ≡ made
LeavesBy name made (HostFault stopped) told = KeepsOthers name told
LeavesBy name made outcome told = told.after ≡ told.before

-- The file that is made has the program's bytes.
abbrev pub LeavesProgram : List ℕ → List ℕ → Outcome → Around (Option Files) → Type 0
LeavesProgram program file outcome told = LeavesBy file (told_with told.before file (program_file program)) outcome told

-- the files told, with the disk that is made of them
abbrev pub told_with_disk : Option Files → Mkfs → Option Files
told_with_disk told m = option_map (λ files. with_bytes files m.disk.text (disk_in files m)) told

-- The file that is made has the disk's bytes.
abbrev pub LeavesDisk : Mkfs → Outcome → Around (Option Files) → Type 0
LeavesDisk m outcome told = LeavesBy m.disk.text (told_with_disk told.before m) outcome told

-- A run may change bytes of its disk: every other name keeps its bytes, and the disk its length.
abbrev pub LeavesBlocks : List ℕ → Outcome → Around (Option Files) → Type 0
LeavesBlocks disk (Ran report trace) told = KeepsFiles disk told.before told.after
LeavesBlocks disk (HostFault stopped) told = KeepsFiles disk told.before told.after
LeavesBlocks disk outcome told = told.after ≡ told.before

-- the files told, with the disk that `gen` makes
abbrev pub told_with_work : Option Files → Gen → Option Files
told_with_work told g = told_with told g.disk.text (work_disk g.seed.value)

-- A disk is made, and a run of it leaves what a run leaves of the files with the disk. There may be no memory before the disk is made
-- or behind that; and where a call of the host failed, every other name keeps its bytes.
abbrev pub LeavesMadeAndRun : List ℕ → Option Files → Outcome → Around (Option Files) → Type 0
LeavesMadeAndRun disk made (HostFault stopped) told = KeepsOthers disk told
LeavesMadeAndRun disk made NoMemory told = (told.after ≡ told.before) ⊎ (told.after ≡ made)
LeavesMadeAndRun disk made outcome told = LeavesBlocks disk outcome (from_to made told.after)

-- where the seed passes a limit, no disk is made
abbrev pub LeavesWorkBy : Option Which → Gen → Outcome → Around (Option Files) → Type 0
LeavesWorkBy (Some which) g outcome told = told.after ≡ told.before
LeavesWorkBy None g outcome told = LeavesMadeAndRun g.disk.text (told_with_work told.before g) outcome told

abbrev pub LeavesWork : Gen → Outcome → Around (Option Files) → Type 0
LeavesWork g outcome told = LeavesWorkBy (limit_of_seed g.seed) g outcome told

-- Only `demo`, `mkfs`, `run` and `gen` write a file.
abbrev pub LeavesFiles : Option Command → Outcome → Around (Option Files) → Type 0
LeavesFiles None outcome told = told.after ≡ told.before
LeavesFiles (Some (exo e)) outcome told = told.after ≡ told.before
LeavesFiles (Some (run r)) outcome told = LeavesBlocks r.disk.text outcome told
LeavesFiles (Some (demo d)) outcome told = LeavesProgram d.name.text d.file.text outcome told
LeavesFiles (Some (mkfs m)) outcome told = LeavesDisk m outcome told
LeavesFiles (Some (ls l)) outcome told = told.after ≡ told.before
LeavesFiles (Some (cat c)) outcome told = told.after ≡ told.before
LeavesFiles (Some (gen g)) outcome told = LeavesWork g outcome told

-- Where there is no memory, every name keeps its bytes, but that `gen` may have made its disk.
abbrev pub LeavesAtNoMemory : Option Command → Around (Option Files) → Type 0
LeavesAtNoMemory (Some (gen g)) told = LeavesWork g NoMemory told
LeavesAtNoMemory command told = told.after ≡ told.before

-- ---- the disk that is made

-- the bytes are a disk without a fault, which has the files
pub record IsDiskWith (blocks : ℕ) (files : List Named) (disk : List ℕ) : Type 0 where
  pub good : IsDiskImage (length disk) (slice_index disk)
  pub tree : file_system_of (slice_index disk) ≡ made_files blocks files

-- Such a disk stands under the name, with the files that the words name.
pub record HasDisk (m : Mkfs) (before after : Files) : Type 0 where
  pub disk : List ℕ
  pub stands : after m.disk.text ≡ Some disk
  pub good : IsDiskWith m.blocks.value (map (named_in before) m.files) disk

-- It does so where it was made.
abbrev pub HoldsDisk : Mkfs → Outcome → Around (Option Files) → Type 0
HoldsDisk m (Made bytes) told =
    MatchOption told.before ⊤ (λ before. (after : Files) × (told.after ≡ Some after) × HasDisk m before after)
HoldsDisk m outcome told = Unit {0}

abbrev pub LeavesGoodDisk : Option Command → Outcome → Around (Option Files) → Type 0
LeavesGoodDisk (Some (mkfs m)) outcome told = HoldsDisk m outcome told
LeavesGoodDisk command outcome told = Unit {0}
