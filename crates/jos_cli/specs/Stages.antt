-- What is found, judged and expected in the parts of the commands, one after another.
use Rattle.std.specs.Prelude.{◌≡◌, ℕ, Bool, true, false, List, [], ◌∷◌, map, Option, Some, None, option_map, Result, Ok, Err}
use Rattle.jos_host.specs.Files.{Files}
use Rattle.jos_words.specs.declared.words.WordAt.{WordAt}
use Rattle.jos_words.specs.Arguments.{Word, word_in_bytes}
use Rattle.jos_words.specs.Commands.{Command, Run, exo, run, demo, mkfs, ls, cat, gen}
use Rattle.jos_sched.specs.declared.fault.ScheduleFault.{ScheduleFault}
use Rattle.jos_sched.specs.declared.fault.ScheduleFault.TheVariants as schedule
use Rattle.jos_kernel.specs.Boot.{loadables}
use Rattle.jos_kernel.specs.Reports.{CutOff}
use Rattle.jos_kernel.specs.declared.kernel.BootFault.{BootFault}
use Rattle.jos_kernel.specs.declared.kernel.BootFault.TheVariants as boot_fault
use Rattle.jos_elf.specs.StackPage.{fits_stack}
use Rattle.jos_cli.specs.declared.outcome.Outcome.{Outcome}
use Rattle.jos_cli.specs.declared.outcome.Outcome.TheVariants.{Ran, Usage, Absent, Limit, BadSchedule, BadImage, HostFault, NoMemory, Made}
use Rattle.jos_cli.specs.declared.outcome.Outcome.TheVariants.{BadDisk, NotThere}
use Rattle.jos_cli.specs.declared.outcome.Which.{Which}
use Rattle.jos_cli.specs.declared.outcome.Which.TheVariants.{Frames, Steps, Trace, Images, Schedule, Image, Boot, File, Args}
use Rattle.jos_run.specs.declared.programs.RunEnd.{RunEnd}
use Rattle.jos_run.specs.declared.programs.RunEnd.TheVariants as end
use Rattle.jos_cli.specs.declared.loading.ReadForRun.{ReadForRun}
use Rattle.jos_cli.specs.declared.programs.ReadProgram.{ReadProgram}
use Rattle.jos_cli.specs.declared.limits.Numbers.{Numbers}
use Rattle.jos_cli.specs.declared.limits.Settings.{Settings}
use Rattle.jos_cli.specs.Commands.{texts_of}
use Rattle.jos_cli.specs.Limits.{frames_of, budget_of, trace_of, numbers_of_run, AreWithin}
use Rattle.jos_cli.specs.Found.{FileAt, IsFileAt, Sources}
use Rattle.jos_cli.specs.Answer.{Judged, ran, Gathered}
use Rattle.jos_cli.specs.Kinds.{Kind, answered, cut_off, no_memory, kind_of}
use Rattle.jos_cli.specs.RunAnswers.{GatheredProgram}

-- ---- what is found

unfoldable pub AreFilesAt : Option Files → List Word → List FileAt → Type 0
AreFilesAt told [] [] = Unit {0}
AreFilesAt told (word ∷ words) (file ∷ files) = IsFileAt told word file × AreFilesAt told words files
AreFilesAt told _ _ = ⊥

-- ---- what is judged

-- an outcome in the place of what is judged
abbrev pub RefusesBy : {X : Type 0} → Judged X → Kind → Type 0
RefusesBy judged (answered answer) = judged ≡ Err answer
RefusesBy judged (cut_off stopped) = Unit {0}
RefusesBy judged no_memory = Unit {0}

abbrev pub Judges : {X Y : Type 0} → Judged X → (Y → X) → Result Y Outcome → Type 0
Judges judged see (Ok y) = judged ≡ Ok (see y)
Judges judged see (Err outcome) = RefusesBy judged (kind_of outcome)

-- the outcome of a text that is no schedule
abbrev pub schedule_refusal : ScheduleFault → Outcome
schedule_refusal schedule.NoMemory = NoMemory
schedule_refusal fault = BadSchedule fault

-- ---- what is read

-- the numbers that the words give or leave
abbrev pub settings_of : Numbers → Settings
settings_of numbers = record { frames = frames_of numbers; steps = budget_of numbers; trace = trace_of numbers }

-- the limits that the words of a run can pass
abbrev pub IsOfWords : Which → Type 0
IsOfWords Frames = Unit {0}
IsOfWords Steps = Unit {0}
IsOfWords Trace = Unit {0}
IsOfWords Images = Unit {0}
IsOfWords Args = Unit {0}
IsOfWords _ = ⊥

-- words that name files, as bytes
abbrev pub sources_in : Option WordAt → List WordAt → Sources
sources_in schedule images = record { schedule = option_map word_in_bytes schedule; images = map word_in_bytes images }

-- what was read for a run, as it is defined
abbrev pub gathered_of : ReadForRun → Gathered
gathered_of read = record {
  schedule = read.schedule;
  images = loadables read.images.images.items read.images.files.items;
  input = read.input.items;
}

-- what was read for the run of a program, as it is defined
abbrev pub gathered_program_of : ReadProgram → GatheredProgram
gathered_program_of read = record {
  schedule = read.schedule;
  program = record { image = read.image; file = read.file.items };
  blocks = read.blocks;
  input = read.input.items;
}

-- the outcome where a file that the words name was not read
abbrev pub IsUnread : Outcome → Type 0
IsUnread (Absent word) = Unit {0}
IsUnread (Limit Schedule) = Unit {0}
IsUnread (Limit Image) = Unit {0}
IsUnread (Limit File) = Unit {0}
IsUnread (BadSchedule fault) = Unit {0}
IsUnread (BadImage word fault) = Unit {0}
IsUnread (HostFault stopped) = Unit {0}
IsUnread NoMemory = Unit {0}
IsUnread _ = ⊥

-- the outcome where a disk was not read, or a path leads to no image on it
abbrev pub IsUnreadOnDisk : Outcome → Type 0
IsUnreadOnDisk (Absent word) = Unit {0}
IsUnreadOnDisk (BadDisk fault) = Unit {0}
IsUnreadOnDisk (NotThere errno) = Unit {0}
IsUnreadOnDisk (BadImage word fault) = Unit {0}
IsUnreadOnDisk (HostFault stopped) = Unit {0}
IsUnreadOnDisk NoMemory = Unit {0}
IsUnreadOnDisk _ = ⊥

-- the outcome where nothing was written
abbrev pub IsUnmade : Outcome → Type 0
IsUnmade Usage = ⊥
IsUnmade (Made bytes) = ⊥
IsUnmade _ = Unit {0}

-- a fact for an answer that tells of something made
abbrev pub IfMade : Outcome → Type 0 → Type 0
IfMade (Made bytes) P = P
IfMade _ P = Unit {0}

-- ---- a run

-- what is answered where a run has ended
abbrev pub outcome_of_end : RunEnd → Outcome
outcome_of_end (end.Ended report trace) = Ran report trace
outcome_of_end (end.HostFault stopped) = HostFault stopped

-- and where there may have been none
abbrev pub outcome_of_run : Result RunEnd BootFault → Outcome
outcome_of_run (Ok ended) = outcome_of_end ended
outcome_of_run (Err boot_fault.Pool) = Limit Boot
outcome_of_run (Err boot_fault.NoMemory) = NoMemory

-- the words of a program that may be run
pub record MayRun (r : Run) (words : List (List ℕ)) : Type 0 where
  pub are : words ≡ texts_of r
  pub fit : fits_stack words ≡ true
  pub within : AreWithin (numbers_of_run r)

-- ---- what is told where the note of an answer could not be written

abbrev pub nothing_done : CutOff
nothing_done = record { turns = []; first_refused = None }

-- the turns that were taken
abbrev pub cut_of : Kind → CutOff
cut_of (answered (ran report traps)) = record { turns = report.turns; first_refused = report.first_refused }
cut_of (answered answer) = nothing_done
cut_of (cut_off stopped) = stopped
cut_of no_memory = nothing_done

-- as the answer is that of `run`, or not
abbrev pub cut_if : Bool → Outcome → CutOff
cut_if true own = cut_of (kind_of own)
cut_if false own = nothing_done

abbrev pub cut_behind : Option Command → Outcome → CutOff
cut_behind None own = nothing_done
cut_behind (Some (exo e)) own = nothing_done
cut_behind (Some (run r)) own = cut_of (kind_of own)
cut_behind (Some (demo d)) own = nothing_done
cut_behind (Some (mkfs m)) own = nothing_done
cut_behind (Some (ls l)) own = nothing_done
cut_behind (Some (cat c)) own = nothing_done
cut_behind (Some (gen g)) own = cut_of (kind_of own)
