-- What the program answers to `run`, by its words, the files that they name and the console's input. Refusals are tried in
-- the order in which they stand. The program is the file that stands at its path on the disk, and the disk is that of the file
-- server of its run. What comes of the run itself is told by the turns of its report: the console has what the abstract system
-- prints in them, which begins with the files of the disk. Behind them the file server makes the act that it is busy with, and the
-- disk has the files of the abstract system then. (This system's own.)
use Rattle.std.specs.Prelude.{◌≡◌, ℕ, ◌⊎◌, List, [], Option, Some, None, Ok, Err}
use Rattle.jos_base.specs.Words.{◌>>=◌}
use Rattle.jos_elf.specs.Parsed as image
use Rattle.fs_image.specs.DiskHeld.{HeldDisk}
use Rattle.fs_contents.specs.Contents.{read_at}
use Rattle.jos_host.specs.Files.{Files, bytes_of}
use Rattle.jos_host.specs.Frames.{Around, from_to}
use Rattle.jos_words.specs.Arguments.{Word}
use Rattle.jos_words.specs.Commands.{Run, Gen}
use Rattle.jos_kernel.specs.Boot.{Loadable}
use Rattle.jos_kernel.specs.declared.trace.TrapLine.{TrapLine}
use Rattle.jos_kernel.specs.Reports.{Reported, CutOff}
use Rattle.lib_os.specs.Disk.{Disk, DiskFile, disk_in}
use Rattle.lib_os.specs.Rows.{AreBytes}
use Rattle.jos_run.specs.RunEnds.{Job, BeginsWith, begun, start_of, HasRun, IsCut}
use Rattle.jos_run.specs.Worlds.{told_disk}
use Rattle.jos_cli.specs.declared.outcome.Which.TheVariants.{Boot}
use Rattle.jos_cli.specs.Commands.{path_word, texts_of, run_of_gen}
use Rattle.jos_cli.specs.Limits.{numbers_of_run, limit_of_run, limit_of_seed, frames_of, budget_of, trace_of}
use Rattle.jos_cli.specs.Found.{FileAt, RunFound}
use Rattle.jos_cli.specs.Answer.{Judged, within, schedule_of, loadable_of, input_within, Answer, ran, limit}
use Rattle.jos_cli.specs.Disks.{disk_of, tree_of, blocks_on, files_on, if_there}
use Rattle.jos_cli.specs.Kinds.{Kind, answered, cut_off, no_memory}

-- ---- what is read

-- the image that stands at a path on a disk; where the file's bytes are none, the path's word is told
unfoldable pub image_on : Word → HeldDisk → Judged Loadable
image_on path held = do
  bytes ← if_there (read_at (tree_of held) path.text)
  loadable_of path.place bytes (image.parsed bytes)

-- of the disk that is found
unfoldable pub program_on : Word → FileAt → Judged Loadable
program_on path disk = disk_of disk >>= image_on path

pub record GatheredProgram : Type 0 where
  -- its numbers
  pub schedule : List ℕ
  pub program : Loadable
  -- how many blocks the disk has
  pub blocks : ℕ
  pub input : List ℕ

-- All of it is read in this order, once the words are within their limits.
unfoldable pub gathered_program : Run → RunFound → List ℕ → Judged GatheredProgram
gathered_program r found input = do
  _ ← within (limit_of_run r)
  schedule ← schedule_of found.schedule
  program ← program_on (path_word r.words) found.disk
  bytes ← input_within input
  Ok (record { schedule = schedule; program = program; blocks = blocks_on found.disk; input = bytes })

-- ---- the run

-- the program, with all that its run is given
abbrev pub job_of : Run → GatheredProgram → Job
job_of r read = record {
  image = read.program.image;
  file = read.program.file;
  words = texts_of r;
  frames = frames_of (numbers_of_run r);
  schedule = read.schedule;
  input = read.input;
  steps = budget_of (numbers_of_run r);
  trace = trace_of (numbers_of_run r);
}

-- the disk of the file server: the file that the words name, with all of its blocks
abbrev pub disk_file_of : Run → GatheredProgram → DiskFile
disk_file_of r read = record { name = r.disk.text; blocks = read.blocks }

-- as the host tells it before the run and behind it
abbrev pub disks_of : Run → GatheredProgram → Around (Option Files) → Around (Option Disk)
disks_of r read files = from_to (told_disk files.before (disk_file_of r read)) (told_disk files.after (disk_file_of r read))

-- Where the host tells its files, and what it tells of the disk's file are bytes, the abstract system with which the run is compared
-- begins with the files that stand on the disk that was found.
abbrev pub BeginsWithDisk : Run → RunFound → List ℕ → Option Files → Type 0
BeginsWithDisk r found input None = Unit {0}
BeginsWithDisk r found input (Some files) =
    AreBytes (bytes_of files r.disk.text) → (read : GatheredProgram) → gathered_program r found input ≡ Ok read →
    BeginsWith (job_of r read) (Some (disk_in files (disk_file_of r read))) (start_of (job_of r read) (files_on found.disk))

-- the run was over, and what failed was the call that writes its note
pub record IsCutBehind (p : Job) (cut : CutOff) (disks : Around (Option Disk)) (console : Around (Option (List ℕ))) : Type 0 where
  pub report : Reported
  pub traps : List TrapLine
  pub run : HasRun p report traps disks console
  pub turns : cut.turns ≡ report.turns
  pub first_refused : cut.first_refused ≡ report.first_refused

-- Before the first turn no page was refused, and nothing was written.
pub record IsCutBefore (cut : CutOff) (console : Around (Option (List ℕ))) : Type 0 where
  pub turns : cut.turns ≡ []
  pub first_refused : cut.first_refused ≡ None
  pub unwritten : console.after ≡ console.before

-- before the run, in it or behind it
abbrev pub IsCutBy : Job → CutOff → Around (Option Disk) → Around (Option (List ℕ)) → Type 0
IsCutBy p cut disks console = IsCutBefore cut console ⊎ (IsCut p cut disks console ⊎ IsCutBehind p cut disks console)

abbrev pub AnswersAs : Job → Answer → Around (Option Disk) → Around (Option (List ℕ)) → Type 0
AnswersAs p (ran report traps) disks console = HasRun p report traps disks console
AnswersAs p (limit Boot) disks console = (begun p ≡ None) × (console.after ≡ console.before)
AnswersAs p _ disks console = ⊥

abbrev pub RunsAs : Job → Around (Option Disk) → Kind → Around (Option (List ℕ)) → Type 0
RunsAs p disks (answered answer) console = AnswersAs p answer disks console
RunsAs p disks (cut_off cut) console = IsCutBy p cut disks console
RunsAs p disks no_memory console = console.after ≡ console.before

-- ---- all of it

-- It is refused: nothing is written, and no turn is told.
abbrev pub IsRefusal : Answer → Kind → Around (Option (List ℕ)) → Type 0
IsRefusal refusal (answered answer) console = (answer ≡ refusal) × (console.after ≡ console.before)
IsRefusal refusal (cut_off cut) console =
    (cut.turns ≡ []) × (cut.first_refused ≡ None) × (console.after ≡ console.before)
IsRefusal refusal no_memory console = console.after ≡ console.before

-- what is judged, and what is answered then
abbrev pub Then : {X : Type 0} → Judged X → (X → Kind → Around (Option (List ℕ)) → Type 0) →
    Kind → Around (Option (List ℕ)) → Type 0
Then (Ok x) next kind console = next x kind console
Then (Err refusal) next kind console = IsRefusal refusal kind console

-- of `run`, for the files that are found and the input, with the files that the host tells before and behind
abbrev pub AnswersRun : Run → RunFound → List ℕ → Around (Option Files) → Kind → Around (Option (List ℕ)) → Type 0
AnswersRun r found input files kind console =
    Then (gathered_program r found input) (λ read. RunsAs (job_of r read) (disks_of r read files)) kind console

-- Of `gen`: that of its run, which begins with the disk that is made; the files before are those with that disk. Where the seed passes a
-- limit, there is no run.
abbrev pub AnswersGen : Gen → RunFound → List ℕ → Around (Option Files) → Kind → Around (Option (List ℕ)) → Type 0
AnswersGen g found input files kind console =
    Then (within (limit_of_seed g.seed)) (λ _. AnswersRun (run_of_gen g) found input files) kind console
