-- What the program answers, where nothing fails, as a function of its words, of the files that they name and of the
-- console's input. Refusals are tried in the order in which they stand. (This system's own.)
use Rattle.std.specs.Prelude.{ℕ, nat_lt, List, [], ◌∷◌, length, map, Option, Some, None, Result, Ok, Err, if◌then◌else◌}
use Rattle.jos_base.specs.declared.numbers.TheConstants.{SCHEDULE_TEXT_MAX, IMAGE_MAX, INPUT_MAX}
use Rattle.jos_words.specs.Commands.{Exo}
use Rattle.jos_sched.specs.declared.fault.ScheduleFault.{ScheduleFault}
use Rattle.jos_sched.specs.Schedule as schedule
use Rattle.jos_elf.specs.declared.fault.ElfFault.{ElfFault}
use Rattle.jos_elf.specs.Parsed.{Layout}
use Rattle.jos_elf.specs.Parsed as image
use Rattle.jos_base.specs.declared.errno.Errno.{Errno}
use Rattle.jos_base.specs.Words.{◌>>=◌}
use Rattle.fs_layout.specs.DiskImage.{ImageFault}
use Rattle.fs_make.specs.declared.fault.MakeFault.{MakeFault}
use Rattle.circular_buffer.specs.Buffer.{keep_last}
use Rattle.jos_kernel.specs.declared.trace.TrapLine.{TrapLine}
use Rattle.jos_kernel.specs.Reports.{Reported}
use Rattle.jos_kernel.specs.Boot.{Loadable}
use Rattle.jos_kernel.specs.ExoRun.{Ran, exo_run, report_of}
use Rattle.jos_cli.specs.declared.outcome.Which.{Which}
use Rattle.jos_cli.specs.declared.outcome.Which.TheVariants.{Schedule, Image, Input, Boot}
use Rattle.jos_cli.specs.Commands.{program_file}
use Rattle.jos_cli.specs.declared.limits.Numbers.{Numbers}
use Rattle.jos_cli.specs.Limits.{numbers_of_exo, limit_of_words, frames_of, budget_of, trace_of}
use Rattle.jos_cli.specs.Found.{FileAt, Found}

pub data Answer : Type 0 where
  usage : Answer
  -- the word that names it, counted from 0
  absent : ℕ → Answer
  limit : Which → Answer
  bad_schedule : ScheduleFault → Answer
  bad_image : ℕ → ElfFault → Answer
  -- what is told of the run, and the last of its traps, as many as the words ask for
  ran : Reported → List TrapLine → Answer
  -- the number of bytes that are written
  made : ℕ → Answer
  -- the fault that the disk has
  bad_disk : ImageFault → Answer
  -- the error by which the path is refused
  not_there : Errno → Answer
  -- the fault that the files have, of which a disk was to be made
  bad_make : MakeFault → Answer

-- the answer, and what comes to the console before it
pub record Expected : Type 0 where
  pub answer : Answer
  pub console : List ℕ

-- an answer with nothing on the console
abbrev pub refused : Answer → Expected
refused answer = record { answer = answer; console = [] }

-- ---- what is read

-- a thing, or the answer that refuses it
abbrev pub Judged : Type 0 → Type 0
Judged X = Result X Answer

-- Each is judged before the next is looked at.
unfoldable pub all_judged : {X : Type 0} → List (Judged X) → Judged (List X)
all_judged [] = Ok []
all_judged (first ∷ rest) = do
  x ← first
  others ← all_judged rest
  Ok (x ∷ others)

abbrev pub within : Option Which → Judged (Unit {0})
within None = Ok tt
within (Some which) = Err (limit which)

-- the bytes that stand under a name, so many at most
abbrev pub bytes_within : ℕ → Which → ℕ → Option (List ℕ) → Judged (List ℕ)
bytes_within most which place None = Err (absent place)
bytes_within most which place (Some bytes) = if nat_lt most (length bytes) then Err (limit which) else Ok bytes

abbrev pub numbers_of : Result (List ℕ) ScheduleFault → Judged (List ℕ)
numbers_of (Ok numbers) = Ok numbers
numbers_of (Err fault) = Err (bad_schedule fault)

-- the text of a schedule, which is empty where no file is named
abbrev pub text_of : Option FileAt → Judged (List ℕ)
text_of None = Ok []
text_of (Some file) = bytes_within SCHEDULE_TEXT_MAX Schedule file.word.place file.bytes

unfoldable pub schedule_of : Option FileAt → Judged (List ℕ)
schedule_of file = do
  text ← text_of file
  numbers_of (schedule.parsed text)

abbrev pub loadable_of : ℕ → List ℕ → Result Layout ElfFault → Judged Loadable
loadable_of place bytes (Ok layout) = Ok (record { image = layout; file = bytes })
loadable_of place bytes (Err fault) = Err (bad_image place fault)

unfoldable pub loadable_in : FileAt → Judged Loadable
loadable_in file = do
  bytes ← bytes_within IMAGE_MAX Image file.word.place file.bytes
  loadable_of file.word.place bytes (image.parsed bytes)

abbrev pub images_of : List FileAt → Judged (List Loadable)
images_of files = all_judged (map loadable_in files)

abbrev pub input_within : List ℕ → Judged (List ℕ)
input_within input = if nat_lt INPUT_MAX (length input) then Err (limit Input) else Ok input

-- what is read for `exo`
pub record Gathered : Type 0 where
  -- its numbers
  pub schedule : List ℕ
  pub images : List Loadable
  pub input : List ℕ

-- All of it is read in this order, once the words are within their limits.
unfoldable pub gathered : Option Which → Found → List ℕ → Judged Gathered
gathered passed found input = do
  _ ← within passed
  schedule ← schedule_of found.schedule
  images ← images_of found.images
  bytes ← input_within input
  Ok (record { schedule = schedule; images = images; input = bytes })

-- ---- what is expected

abbrev pub expected_if : {X : Type 0} → Judged X → (X → Expected) → Expected
expected_if (Ok x) next = next x
expected_if (Err answer) next = refused answer

-- there is no run where the frames are too few to boot the images
abbrev pub expected_of_run : ℕ → Option Ran → Expected
expected_of_run trace None = refused (limit Boot)
expected_of_run trace (Some r) = record {
  answer = ran (report_of r.progress r.end) (keep_last trace r.progress.traps);
  console = r.progress.console;
}

-- of the images that are read, by these numbers
abbrev pub expected_of_images : Numbers → Gathered → Expected
expected_of_images numbers read =
    expected_of_run (trace_of numbers) (exo_run read.images read.input read.schedule (frames_of numbers) (budget_of numbers))

-- of `exo`, for the files that are found and the input
unfoldable pub expected_of_exo : Exo → Found → List ℕ → Expected
expected_of_exo e found input = expected_if (gathered (limit_of_words e) found input) (expected_of_images (numbers_of_exo e))

-- these bytes are written to a file
abbrev pub expected_of_writing : List ℕ → Expected
expected_of_writing bytes = refused (made (length bytes))

-- of `demo`, for the name of a program
abbrev pub expected_of_demo : List ℕ → Expected
expected_of_demo program = expected_of_writing (program_file program)
