-- What `run` answers, stage by stage.
use Rattle.std.proofs.Common.{◌≡◌, ℕ, nat_lt, Bool, true, false, cond, List, [], length, Option, Some, None, Result, Ok, Err, refl, sym, ap, subst, ◌∙◌}
use mathlib.Core.Logic.{inl, inr}
use Rattle.jos_host.specs.Files.{Files}
use Rattle.jos_host.specs.Frames.{Around}
use Rattle.jos_elf.specs.declared.fault.ElfFault.{ElfFault}
use Rattle.jos_elf.specs.Parsed.{Layout, parsed}
use Rattle.jos_words.specs.Arguments.{Word}
use Rattle.jos_words.specs.Commands.{Run, Gen}
use Rattle.jos_kernel.specs.declared.kernel.BootFault.{BootFault}
use Rattle.jos_kernel.specs.declared.kernel.BootFault.TheVariants as boot_fault
use Rattle.jos_kernel.specs.Reports.{CutOff}
use Rattle.lib_os.specs.Disk.{Disk}
use Rattle.jos_run.specs.declared.programs.RunEnd.{RunEnd}
use Rattle.jos_run.specs.declared.programs.RunEnd.TheVariants as end
use Rattle.jos_run.specs.RunEnds.{Job, IsCut, AnswersFor, HasRunCause}
use Rattle.jos_cli.specs.declared.limits.Settings.{Settings}
use Rattle.jos_cli.specs.Commands.{path_word, texts_of, run_of_gen}
use Rattle.jos_cli.specs.declared.outcome.Which.TheVariants as which
use Rattle.jos_cli.specs.Limits.{numbers_of_run, limit_of_run, limit_of_seed}
use Rattle.jos_cli.specs.Found.{FileAt, RunFound}
use Rattle.jos_cli.specs.Answer.{Judged, Answer, usage, absent, limit, bad_schedule, bad_image, ran, made, bad_disk, not_there, bad_make}
use Rattle.jos_cli.specs.Answer.{within, bytes_within, numbers_of, text_of, schedule_of, loadable_of, input_within}
use Rattle.jos_cli.specs.Disks.{held_at, checked_by, checked, disk_of, tree_of, if_there}
use Rattle.fs_layout.specs.DiskImage.{ImageFault}
use Rattle.fs_image.specs.DiskHeld.{HeldDisk, fault_in}
use Rattle.fs_contents.specs.Contents.{read_at}
use Rattle.jos_base.specs.declared.errno.Errno.{Errno}
use Rattle.jos_base.specs.declared.numbers.TheConstants.{SCHEDULE_TEXT_MAX, INPUT_MAX}
use Rattle.jos_base.specs.Words.{◌>>=◌}
use Rattle.jos_sched.specs.declared.fault.ScheduleFault.{ScheduleFault}
use Rattle.jos_sched.specs.Schedule as schedule
use Rattle.jos_cli.specs.declared.outcome.Which.{Which}
use Rattle.jos_cli.specs.Kinds.{Kind, answered, cut_off, no_memory, kind_of}
use Rattle.jos_cli.specs.RunAnswers.{image_on, program_on, GatheredProgram, gathered_program, job_of, disks_of, IsRefusal, AnswersAs, RunsAs, Then, AnswersRun, AnswersGen}
use Rattle.jos_cli.specs.Outcomes.{HasCauseOf, HasRunCauseOf}
use Rattle.jos_cli.specs.Stages.{RefusesBy, settings_of, outcome_of_run, nothing_done, cut_of}
use Rattle.jos_cli.proofs.ProgramsRead.{read_all, from_input, from_program, from_schedule}

-- ---- what a failed call of the host left

-- in a turn
pub in_turn : (p : Job) (cut : CutOff) (disks : Around (Option Disk)) (console : Around (Option (List ℕ))) → IsCut p cut disks console → RunsAs p disks (cut_off cut) console
in_turn p cut disks console h = inr (inl h)

-- behind the run
answer_behind : (p : Job) (answer : Answer) (disks : Around (Option Disk)) (console : Around (Option (List ℕ))) → AnswersAs p answer disks console →
    RunsAs p disks (cut_off (cut_of (answered answer))) console
answer_behind p (ran report traps) disks console h =
    inr (inr (record { report = report; traps = traps; run = h; turns = refl; first_refused = refl }))
answer_behind p (limit which.Boot) disks console h = inl (record { turns = refl; first_refused = refl; unwritten = h.1 })
answer_behind p (limit which.Frames) disks console h = absurd h
answer_behind p (limit which.Steps) disks console h = absurd h
answer_behind p (limit which.Trace) disks console h = absurd h
answer_behind p (limit which.Images) disks console h = absurd h
answer_behind p (limit which.Schedule) disks console h = absurd h
answer_behind p (limit which.Image) disks console h = absurd h
answer_behind p (limit which.Input) disks console h = absurd h
answer_behind p (limit which.Blocks) disks console h = absurd h
answer_behind p (limit which.File) disks console h = absurd h
answer_behind p (limit which.Args) disks console h = absurd h
answer_behind p (limit which.Seed) disks console h = absurd h
answer_behind p usage disks console h = absurd h
answer_behind p (absent word) disks console h = absurd h
answer_behind p (bad_schedule fault) disks console h = absurd h
answer_behind p (bad_image word fault) disks console h = absurd h
answer_behind p (made bytes) disks console h = absurd h
answer_behind p (bad_disk fault) disks console h = absurd h
answer_behind p (not_there errno) disks console h = absurd h
answer_behind p (bad_make fault) disks console h = absurd h

run_behind : (p : Job) (disks : Around (Option Disk)) (kind : Kind) (console : Around (Option (List ℕ))) → RunsAs p disks kind console →
    RunsAs p disks (cut_off (cut_of kind)) console
run_behind p disks (answered answer) console h = answer_behind p answer disks console h
run_behind p disks (cut_off cut) console h = h
run_behind p disks no_memory console h = inl (record { turns = refl; first_refused = refl; unwritten = h })

-- ---- no turn is told of what is refused

TellsNoTurn : {X : Type 0} → Judged X → Type 0
TellsNoTurn (Ok x) = Unit {0}
TellsNoTurn (Err refusal) = cut_of (answered refusal) ≡ nothing_done

both_tell_none : {X Y : Type 0} (judged : Judged X) (next : X → Judged Y) → TellsNoTurn judged → ((x : X) → TellsNoTurn (next x)) → TellsNoTurn (judged >>= next)
unfolding TellsNoTurn
both_tell_none (Ok x) next h more = more x
both_tell_none (Err refusal) next h more = h

limit_tells_none : (over : Bool) (which : Which) (bytes : List ℕ) → TellsNoTurn (cond over (Err (limit which)) (Ok bytes))
unfolding TellsNoTurn
limit_tells_none true passed bytes = refl
limit_tells_none false passed bytes = tt

bytes_tell_none : (most : ℕ) (which : Which) (place : ℕ) (stands : Option (List ℕ)) → TellsNoTurn (bytes_within most which place stands)
unfolding TellsNoTurn
bytes_tell_none most passed place None = refl
bytes_tell_none most passed place (Some bytes) = limit_tells_none (nat_lt most (length bytes)) passed bytes

within_tells_none : (which : Option Which) → TellsNoTurn (within which)
unfolding TellsNoTurn
within_tells_none None = tt
within_tells_none (Some passed) = refl

numbers_tell_none : (numbers : Result (List ℕ) ScheduleFault) → TellsNoTurn (numbers_of numbers)
unfolding TellsNoTurn
numbers_tell_none (Ok numbers) = tt
numbers_tell_none (Err fault) = refl

text_tells_none : (file : Option FileAt) → TellsNoTurn (text_of file)
unfolding TellsNoTurn
text_tells_none None = tt
text_tells_none (Some file) = bytes_tell_none SCHEDULE_TEXT_MAX which.Schedule file.word.place file.bytes

schedule_tells_none : (file : Option FileAt) → TellsNoTurn (schedule_of file)
unfolding schedule_of
schedule_tells_none file = both_tell_none (text_of file) (λ text. numbers_of (schedule.parsed text)) (text_tells_none file) (λ text. numbers_tell_none (schedule.parsed text))

layout_tells_none : (place : ℕ) (bytes : List ℕ) (layout : Result Layout ElfFault) → TellsNoTurn (loadable_of place bytes layout)
unfolding TellsNoTurn
layout_tells_none place bytes (Ok layout) = tt
layout_tells_none place bytes (Err fault) = refl

there_tells_none : {X : Type 0} (found : Result X Errno) → TellsNoTurn (if_there found)
unfolding TellsNoTurn
there_tells_none (Ok x) = tt
there_tells_none (Err errno) = refl

image_tells_none : (path : Word) (held : HeldDisk) → TellsNoTurn (image_on path held)
unfolding image_on
image_tells_none path held =
    both_tell_none (if_there (read_at (tree_of held) path.text)) (λ bytes. loadable_of path.place bytes (parsed bytes))
    (there_tells_none (read_at (tree_of held) path.text)) (λ bytes. layout_tells_none path.place bytes (parsed bytes))

held_tells_none : (place : ℕ) (stands : Option (List ℕ)) → TellsNoTurn (held_at place stands)
unfolding TellsNoTurn
held_tells_none place None = refl
held_tells_none place (Some bytes) = tt

checked_tells_none : (fault : Option ImageFault) (held : HeldDisk) → TellsNoTurn (checked_by fault held)
unfolding TellsNoTurn
checked_tells_none None held = tt
checked_tells_none (Some fault) held = refl

disk_tells_none : (file : FileAt) → TellsNoTurn (disk_of file)
unfolding disk_of
disk_tells_none file =
    both_tell_none (held_at file.word.place file.bytes) checked (held_tells_none file.word.place file.bytes) (λ held. checked_tells_none (fault_in held) held)

program_tells_none : (path : Word) (disk : FileAt) → TellsNoTurn (program_on path disk)
unfolding program_on
program_tells_none path disk = both_tell_none (disk_of disk) (image_on path) (disk_tells_none disk) (image_tells_none path)

input_tells_none : (input : List ℕ) → TellsNoTurn (input_within input)
input_tells_none input = limit_tells_none (nat_lt INPUT_MAX (length input)) which.Input input

all_tell_none : (r : Run) (found : RunFound) (input : List ℕ) → TellsNoTurn (gathered_program r found input)
unfolding TellsNoTurn gathered_program
all_tell_none r found input =
    both_tell_none (within (limit_of_run r)) (λ _. from_schedule r found input) (within_tells_none (limit_of_run r)) (λ _.
    both_tell_none (schedule_of found.schedule) (from_program r found input) (schedule_tells_none found.schedule) (λ schedule.
    both_tell_none (program_on (path_word r.words) found.disk) (from_input r found input schedule) (program_tells_none (path_word r.words) found.disk) (λ program.
    both_tell_none (input_within input) (read_all r found input schedule program) (input_tells_none input) (λ bytes. tt))))

-- ---- what holds of each answer

pub record IsStage (answers : Kind → Around (Option (List ℕ)) → Type 0) : Type 0 where
  -- it may be cut off before anything is written
  pub cut : (c : CutOff) (console : Around (Option (List ℕ))) → c.turns ≡ [] → c.first_refused ≡ None → console.after ≡ console.before → answers (cut_off c) console
  -- there may be no memory, and then nothing is written
  pub memory : (console : Around (Option (List ℕ))) → console.after ≡ console.before → answers no_memory console
  pub unwritten : (console : Around (Option (List ℕ))) → answers no_memory console → console.after ≡ console.before
  -- the note of each of its answers may fail
  pub behind : (kind : Kind) (console : Around (Option (List ℕ))) → answers kind console → answers (cut_off (cut_of kind)) console

refusal_behind : (refusal : Answer) (kind : Kind) (console : Around (Option (List ℕ))) → cut_of (answered refusal) ≡ nothing_done → IsRefusal refusal kind console →
    IsRefusal refusal (cut_off (cut_of kind)) console
refusal_behind refusal (answered answer) console none h =
    let is : cut_of (answered answer) ≡ nothing_done = ap (λ (a : Answer). cut_of (answered a)) h.0 ∙ none in
    (ap (λ (c : CutOff). c.turns) is, ap (λ (c : CutOff). c.first_refused) is, h.1)
refusal_behind refusal (cut_off c) console none h = h
refusal_behind refusal no_memory console none h = (refl, refl, h)

refusal_stage : (refusal : Answer) → cut_of (answered refusal) ≡ nothing_done → IsStage (IsRefusal refusal)
refusal_stage refusal none = record {
  cut = λ c console turns page same. (turns, page, same);
  memory = λ console same. same;
  unwritten = λ console h. h;
  behind = λ kind console h. refusal_behind refusal kind console none h;
}

run_stage : (p : Job) (disks : Around (Option Disk)) → IsStage (RunsAs p disks)
run_stage p disks = record {
  cut = λ c console turns page same. inl (record { turns = turns; first_refused = page; unwritten = same });
  memory = λ console same. same;
  unwritten = λ console h. h;
  behind = λ kind console h. run_behind p disks kind console h;
}

then_stage : {X : Type 0} (judged : Judged X) (next : X → Kind → Around (Option (List ℕ)) → Type 0) → TellsNoTurn judged → ((x : X) → IsStage (next x)) →
    IsStage (Then judged next)
unfolding TellsNoTurn
then_stage (Ok x) next none stage = let s = stage x in record { cut = s.cut; memory = s.memory; unwritten = s.unwritten; behind = s.behind }
then_stage (Err refusal) next none stage =
    let s = refusal_stage refusal none in record { cut = s.cut; memory = s.memory; unwritten = s.unwritten; behind = s.behind }

-- what follows where all is read
abbrev from_here : Run → Around (Option Files) → GatheredProgram → Kind → Around (Option (List ℕ)) → Type 0
from_here r files read = RunsAs (job_of r read) (disks_of r read files)

pub words_stage : (r : Run) (found : RunFound) (input : List ℕ) (files : Around (Option Files)) → IsStage (AnswersRun r found input files)
words_stage r found input files =
    then_stage (gathered_program r found input) (from_here r files) (all_tell_none r found input) (λ read. run_stage (job_of r read) (disks_of r read files))

-- ---- the run of `gen`

pub gen_stage : (g : Gen) (found : RunFound) (input : List ℕ) (files : Around (Option Files)) → IsStage (AnswersGen g found input files)
gen_stage g found input files =
    then_stage (within (limit_of_seed g.seed)) (λ _. AnswersRun (run_of_gen g) found input files) (within_tells_none (limit_of_seed g.seed))
    (λ _. words_stage (run_of_gen g) found input files)

module _ (g : Gen) (found : RunFound) (input : List ℕ) (files : Around (Option Files)) (kind : Kind) (console : Around (Option (List ℕ))) where
  abbrev by_limit : Option Which → Type 0
  by_limit passed = Then (within passed) (λ _. AnswersRun (run_of_gen g) found input files) kind console

  -- the seed passes a limit
  pub gen_refused : (passed : Which) → limit_of_seed g.seed ≡ Some passed → IsRefusal (limit passed) kind console → AnswersGen g found input files kind console
  gen_refused passed h answer = subst by_limit (sym h) answer

  -- it passes none
  pub gen_goes_on : limit_of_seed g.seed ≡ None → AnswersRun (run_of_gen g) found input files kind console → AnswersGen g found input files kind console
  gen_goes_on h answer = subst by_limit (sym h) answer

  -- the same backwards
  pub gen_runs : limit_of_seed g.seed ≡ None → AnswersGen g found input files kind console → AnswersRun (run_of_gen g) found input files kind console
  gen_runs h answer = subst by_limit h answer

-- ---- the program of `run`

module _ (r : Run) (found : RunFound) (input : List ℕ) (files : Around (Option Files)) (kind : Kind) (console : Around (Option (List ℕ))) where
  -- it is refused, and nothing was written
  pub run_refused : (faults : Around ℕ) → RefusesBy (gathered_program r found input) kind → HasCauseOf faults kind → console.after ≡ console.before →
      AnswersRun r found input files kind console
  run_refused faults h cause same = by_kind kind h cause
    where
      by_kind : (k : Kind) → RefusesBy (gathered_program r found input) k → HasCauseOf faults k → AnswersRun r found input files k console
      by_kind (answered answer) h cause =
          subst (λ (j : Judged GatheredProgram). Then j (from_here r files) (answered answer) console) (sym h) (refl, same)
      by_kind (cut_off c) h cause = (words_stage r found input files).cut c console cause.1 cause.2 same
      by_kind no_memory h cause = (words_stage r found input files).memory console same

  -- it is run
  pub run_goes_on : (read : GatheredProgram) → gathered_program r found input ≡ Ok read → RunsAs (job_of r read) (disks_of r read files) kind console →
      AnswersRun r found input files kind console
  run_goes_on read h answer = subst (λ (j : Judged GatheredProgram). Then j (from_here r files) kind console) (sym h) answer

  -- the same backwards
  pub program_runs : (read : GatheredProgram) → gathered_program r found input ≡ Ok read → AnswersRun r found input files kind console →
      RunsAs (job_of r read) (disks_of r read files) kind console
  program_runs read h answer = subst (λ (j : Judged GatheredProgram). Then j (from_here r files) kind console) h answer

-- what `jos_run` answers
pub runs_as : (p : Job) (run : Result RunEnd BootFault) (disks : Around (Option Disk)) (console : Around (Option (List ℕ))) → AnswersFor p run disks console →
    RunsAs p disks (kind_of (outcome_of_run run)) console
runs_as p (Ok (end.Ended report trace)) disks console h = h
runs_as p (Ok (end.HostFault stopped)) disks console h = in_turn p stopped disks console h
runs_as p (Err boot_fault.Pool) disks console h = h
runs_as p (Err boot_fault.NoMemory) disks console h = h

pub ran_cause : (run : Result RunEnd BootFault) (faults : Around ℕ) → HasRunCause faults run → HasRunCauseOf faults (kind_of (outcome_of_run run))
ran_cause (Ok (end.Ended report trace)) faults h = h
ran_cause (Ok (end.HostFault stopped)) faults h = h
ran_cause (Err boot_fault.Pool) faults h = h
ran_cause (Err boot_fault.NoMemory) faults h = h

-- its program is the one that was read
pub given_is : (r : Run) (blocks : ℕ) (schedule input : List ℕ) (words : List (List ℕ)) (settings : Settings) (image : Layout) (file bytes : List ℕ) → words ≡ texts_of r →
    settings ≡ settings_of (numbers_of_run r) → bytes ≡ file →
    record {
      image = image;
      file = bytes;
      words = words;
      frames = settings.frames;
      schedule = schedule;
      input = input;
      steps = settings.steps;
      trace = settings.trace;
    }
    ≡ job_of r (record { schedule = schedule; program = record { image = image; file = file }; blocks = blocks; input = input })
given_is r blocks schedule input words settings image file bytes are is same = λ k. record {
  image = image;
  file = same k;
  words = are k;
  frames = (is k).frames;
  schedule = schedule;
  input = input;
  steps = (is k).steps;
  trace = (is k).trace;
}
