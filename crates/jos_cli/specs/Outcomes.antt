-- What an outcome of the program says of the answer that is expected, and when it may come. (This system's own.)
use Rattle.std.specs.Prelude.{◌≡◌, ◌≢◌, ◌≤◌, ℕ, ◌+◌, List, [], length, drop, map, Option, Some, None, IsOk, IsSome, option_map}
use Rattle.std.specs.Prelude.{Ok}
use Rattle.jos_host.specs.Files.{Files}
use Rattle.jos_host.specs.Told.{Rose}
use Rattle.jos_host.specs.Frames.{Around, from_to}
use Rattle.jos_base.specs.declared.numbers.TheConstants.{INPUT_MAX}
use Rattle.jos_words.specs.Commands.{Command, Exo, Run, Mkfs, Ls, Cat, Gen, exo, run, demo, mkfs, ls, cat, gen}
use Rattle.jos_kernel.specs.declared.report.End.{End}
use Rattle.jos_kernel.specs.declared.report.End.TheVariants.{Done, Stuck, Budget, TurnsFull}
use Rattle.fs_image.specs.DiskHeld.{held_of, fault_in}
use Rattle.fs_contents.specs.Contents.{listed_at, read_at}
use Rattle.fs_make.specs.MakeFaults.{make_fault}
use Rattle.jos_kernel.specs.Boot.{Loadable, booted}
use Rattle.jos_run.specs.Boot.{booted_within}
use Rattle.jos_cli.specs.declared.outcome.Which.TheVariants.{Input, Boot}
use Rattle.jos_cli.specs.declared.outcome.Outcome.{Outcome}
use Rattle.jos_cli.specs.declared.outcome.Outcome.TheVariants.{Ran, Usage, Absent, Limit, BadSchedule, BadImage}
use Rattle.jos_cli.specs.declared.outcome.Outcome.TheVariants.{HostFault, NoMemory, Made, BadDisk, NotThere, BadMake}
use Rattle.jos_cli.specs.Commands.{path_word, texts_of, run_of_gen}
use Rattle.jos_cli.specs.Limits.{numbers_of_exo, numbers_of_run, limit_of_words, limit_of_run, frames_of, limit_of_blocks, limit_of_seed}
use Rattle.jos_cli.specs.Found.{FileAt, file_at, IsFileAt, AreFound, sources_of_exo, Found, IsFound, RunFound, IsRunFound, IsInput}
use Rattle.jos_cli.specs.InputTaken.{HasLost}
use Rattle.jos_cli.specs.Answer.{Answer, usage, limit, ran, refused}
use Rattle.jos_cli.specs.Answer.{schedule_of, images_of, expected_of_exo, expected_of_demo}
use Rattle.jos_cli.specs.Making.{named_files, named_in, expected_of_mkfs}
use Rattle.jos_cli.specs.Disks.{tree_of, path_of, expected_of_ls, expected_of_cat}
use Rattle.jos_cli.specs.Kinds.{Kind, answered, cut_off, no_memory, kind_of, Answers}
use Rattle.jos_cli.specs.FilesLeft.{told_with_work}
use Rattle.jos_cli.specs.RunAnswers.{program_on, BeginsWithDisk, AnswersRun, AnswersGen}

-- ---- the answer

-- What a command answers, of the files and the input that the host tells, before it and behind it. Of those that it does not tell
-- there are some for which it holds.
abbrev pub AnswersCommand : Around (Option Files) → Option (List ℕ) → Option Command → Outcome → Around (Option (List ℕ)) → Type 0
AnswersCommand files told_input None outcome console = Answers (refused usage) outcome console
AnswersCommand files told_input (Some (demo d)) outcome console = Answers (expected_of_demo d.name.text) outcome console
AnswersCommand files told_input (Some (exo e)) outcome console =
    (found : Found) × (input : List ℕ) × IsFound files.before (sources_of_exo e) found × IsInput told_input input
    × Answers (expected_of_exo e found input) outcome console
AnswersCommand files told_input (Some (run r)) outcome console =
    (found : RunFound) × (input : List ℕ) × IsRunFound files.before r found × IsInput told_input input
    × BeginsWithDisk r found input files.before × AnswersRun r found input files (kind_of outcome) console
AnswersCommand files told_input (Some (mkfs m)) outcome console =
    (found : List FileAt) × AreFound files.before m.files found × Answers (expected_of_mkfs m found) outcome console
AnswersCommand files told_input (Some (ls l)) outcome console =
    (file : FileAt) × IsFileAt files.before l.disk file × Answers (expected_of_ls l file) outcome console
AnswersCommand files told_input (Some (cat c)) outcome console =
    (file : FileAt) × IsFileAt files.before c.disk file × Answers (expected_of_cat c file) outcome console
AnswersCommand files told_input (Some (gen g)) outcome console =
    (found : RunFound) × (input : List ℕ) × IsRunFound (told_with_work files.before g) (run_of_gen g) found × IsInput told_input input
    × BeginsWithDisk (run_of_gen g) found input (told_with_work files.before g)
    × AnswersGen g found input (from_to (told_with_work files.before g) files.after) (kind_of outcome) console

-- the words alone decide this answer, whatever the host tells
abbrev pub IsUsageCase : Option Command → Outcome → Type 0
IsUsageCase None Usage = Unit {0}
IsUsageCase None (HostFault stopped) = Unit {0}
IsUsageCase None NoMemory = Unit {0}
IsUsageCase None _ = ⊥
IsUsageCase (Some command) outcome = outcome ≢ Usage

-- ---- the causes

-- A failed call of the host is the answer only where the count of its faults rose, and every other answer leaves
-- the count. What is handed out beside it is empty.
abbrev pub HasCauseOf : Around ℕ → Kind → Type 0
HasCauseOf faults (answered answer) = faults.after ≡ faults.before
HasCauseOf faults (cut_off stopped) = Rose faults.before faults.after × (stopped.turns ≡ []) × (stopped.first_refused ≡ None)
HasCauseOf faults no_memory = faults.after ≡ faults.before

abbrev pub HasOutcomeCause : Around ℕ → Outcome → Type 0
HasOutcomeCause faults outcome = HasCauseOf faults (kind_of outcome)

-- the same where turns may have been taken, and are handed out
abbrev pub HasRunCauseOf : Around ℕ → Kind → Type 0
HasRunCauseOf faults (answered answer) = faults.after ≡ faults.before
HasRunCauseOf faults (cut_off stopped) = Rose faults.before faults.after
HasRunCauseOf faults no_memory = faults.after ≡ faults.before

-- Only `run` and `gen` hand out turns.
abbrev pub HasCommandCause : Option Command → Around ℕ → Outcome → Type 0
HasCommandCause None faults outcome = HasOutcomeCause faults outcome
HasCommandCause (Some (exo e)) faults outcome = HasOutcomeCause faults outcome
HasCommandCause (Some (run r)) faults outcome = HasRunCauseOf faults (kind_of outcome)
HasCommandCause (Some (demo d)) faults outcome = HasOutcomeCause faults outcome
HasCommandCause (Some (mkfs m)) faults outcome = HasOutcomeCause faults outcome
HasCommandCause (Some (ls l)) faults outcome = HasOutcomeCause faults outcome
HasCommandCause (Some (cat c)) faults outcome = HasOutcomeCause faults outcome
HasCommandCause (Some (gen g)) faults outcome = HasRunCauseOf faults (kind_of outcome)

-- the words, the files and the input of a run, with frames enough to boot it
pub record CanRun (e : Exo) (found : Found) (input : List ℕ) : Type 0 where
  pub words : limit_of_words e ≡ None
  pub schedule : IsOk (schedule_of found.schedule)
  pub images : List Loadable
  pub read : images_of found.images ≡ Ok images
  pub short : length input ≤ INPUT_MAX
  pub frames : IsSome (booted images (frames_of (numbers_of_exo e)) input)

-- the same of a run under the library, whose program stands on a disk without a fault
pub record CanRunProgram (r : Run) (found : RunFound) (input : List ℕ) : Type 0 where
  pub words : limit_of_run r ≡ None
  pub schedule : IsOk (schedule_of found.schedule)
  pub image : Loadable
  pub read : program_on (path_word r.words) found.disk ≡ Ok image
  pub short : length input ≤ INPUT_MAX
  pub frames : IsSome (booted_within image.image image.file (texts_of r) (frames_of (numbers_of_run r)) input)

-- A seed and an input: the disk that is made is a disk without a fault, its program is an image, and the frames are enough to boot it.
pub record CanGenerate (g : Gen) (input : List ℕ) : Type 0 where
  pub seed : limit_of_seed g.seed ≡ None
  pub short : length input ≤ INPUT_MAX

-- the number, the files and the room of a disk that can be made
pub record CanMake (m : Mkfs) (files : Files) : Type 0 where
  pub blocks : limit_of_blocks m.blocks ≡ None
  pub read : IsOk (named_files (map (file_at files) m.files))
  pub no_fault : make_fault m.blocks.value (map (named_in files) m.files) ≡ None

-- a disk without a fault, and a path that leads to a directory of it
pub record CanList (l : Ls) (files : Files) : Type 0 where
  pub bytes : List ℕ
  pub there : files l.disk.text ≡ Some bytes
  pub no_fault : fault_in (held_of bytes) ≡ None
  pub path : IsOk (listed_at (tree_of (held_of bytes)) (path_of l.path))

-- a disk without a fault, and a path that leads to a file of it
pub record CanPrint (c : Cat) (files : Files) : Type 0 where
  pub bytes : List ℕ
  pub there : files c.disk.text ≡ Some bytes
  pub no_fault : fault_in (held_of bytes) ≡ None
  pub path : IsOk (read_at (tree_of (held_of bytes)) c.path.text)

-- it was run, or there was no memory to begin with
abbrev pub IsRunCase : Outcome → Type 0
IsRunCase (Ran report trace) = Unit {0}
IsRunCase NoMemory = Unit {0}
IsRunCase _ = ⊥

-- of the refusals of a run this is none but that the input is too long
abbrev pub IsGeneratedCase : Outcome → Type 0
IsGeneratedCase (Ran report trace) = Unit {0}
IsGeneratedCase (Limit Input) = Unit {0}
IsGeneratedCase (HostFault stopped) = Unit {0}
IsGeneratedCase NoMemory = Unit {0}
IsGeneratedCase _ = ⊥

-- it was written, or there was no memory to begin with
abbrev pub IsMadeCase : Outcome → Type 0
IsMadeCase (Made bytes) = Unit {0}
IsMadeCase NoMemory = Unit {0}
IsMadeCase _ = ⊥

-- there was no memory to begin with, or a call of the host failed
abbrev pub IsMemoryCase : Outcome → Type 0
IsMemoryCase NoMemory = Unit {0}
IsMemoryCase (HostFault stopped) = Unit {0}
IsMemoryCase _ = ⊥

-- ---- the input

-- No input is taken before all files are read, and then all of it, up to one byte past the limit.
abbrev pub left_by : Answer → List ℕ → List ℕ
left_by (ran report trace) input = []
left_by (limit Boot) input = []
left_by (limit Input) input = drop (INPUT_MAX + 1) input
left_by _ input = input

abbrev pub LeavesInputBy : Kind → Around (Option (List ℕ)) → Type 0
LeavesInputBy (answered answer) input = input.after ≡ option_map (left_by answer) input.before
LeavesInputBy (cut_off stopped) input = HasLost input.before input.after
LeavesInputBy no_memory input = HasLost input.before input.after

-- Only `exo`, `run` and `gen` read input.
abbrev pub LeavesInput : Option Command → Outcome → Around (Option (List ℕ)) → Type 0
LeavesInput None outcome input = input.after ≡ input.before
LeavesInput (Some (demo d)) outcome input = input.after ≡ input.before
LeavesInput (Some (mkfs m)) outcome input = input.after ≡ input.before
LeavesInput (Some (ls l)) outcome input = input.after ≡ input.before
LeavesInput (Some (cat c)) outcome input = input.after ≡ input.before
LeavesInput (Some (exo e)) outcome input = LeavesInputBy (kind_of outcome) input
LeavesInput (Some (run r)) outcome input = LeavesInputBy (kind_of outcome) input
LeavesInput (Some (gen g)) outcome input = LeavesInputBy (kind_of outcome) input

-- ---- the exit status

abbrev pub end_status : End → ℕ
end_status Done = 0
end_status Stuck = 9
end_status Budget = 10
end_status TurnsFull = 11

abbrev pub status_of : Outcome → ℕ
status_of (Ran report trace) = end_status report.end
status_of Usage = 1
status_of (Absent word) = 2
status_of (Limit which) = 3
status_of (BadImage word fault) = 4
status_of (BadSchedule fault) = 5
status_of (HostFault stopped) = 7
status_of NoMemory = 8
status_of (Made bytes) = 0
status_of (BadDisk fault) = 6
status_of (NotThere errno) = 12
status_of (BadMake fault) = 13

-- The status of a failed call of the host is answered only where the count of its faults rose, and every other leaves
-- the count.
pub record HasStatusCause (faults : Around ℕ) (status : ℕ) : Type 0 where
  pub fault : status ≡ 7 → Rose faults.before faults.after
  pub other : status ≢ 7 → faults.after ≡ faults.before
