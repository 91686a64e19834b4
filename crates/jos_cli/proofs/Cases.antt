-- Which outcomes there can be where nothing stands in the way.
use Rattle.std.proofs.Common.{◌≡◌, ℕ, ◌≤◌, List, [], ◌∷◌, length, map, Option, Some, None, Result, Ok, Err, refl, ap, subst, ◌∙◌}
use Rattle.std.specs.Prelude.{IsOk, IsSome}
use Rattle.jos_host.specs.Files.{Files}
use Rattle.jos_host.specs.Told.{Rose}
use Rattle.jos_host.specs.Frames.{Around, from_to}
use Rattle.jos_base.specs.declared.numbers.TheConstants.{INPUT_MAX}
use Rattle.jos_base.specs.KernelState.{KernelState}
use Rattle.jos_words.specs.Arguments.{Word}
use Rattle.jos_words.specs.Commands.{Command, Exo, Run, Mkfs, Ls, Cat, exo, run, mkfs, ls, cat}
use Rattle.fs_image.specs.DiskHeld.{HeldDisk, held_of}
use Rattle.fs_layout.specs.DiskImage.{ImageFault}
use Rattle.fs_contents.specs.Contents.{Told, listed_at, read_at}
use Rattle.fs_make.specs.declared.fault.MakeFault.{MakeFault}
use Rattle.fs_make.specs.MakeFaults.{make_fault}
use Rattle.fs_make.specs.MadeImage.{made_image}
use Rattle.jos_base.specs.declared.errno.Errno.{Errno}
use Rattle.jos_base.specs.Words.{◌>>=◌}
use Rattle.jos_kernel.specs.Boot.{Loadable, booted}
use Rattle.jos_kernel.specs.ExoRun.{Ran, exo_run, run_from_boot}
use Rattle.jos_cli.specs.declared.outcome.Outcome.{Outcome}
use Rattle.jos_cli.specs.declared.outcome.Outcome.TheVariants as outcome
use Rattle.jos_cli.specs.Limits.{numbers_of_exo, limit_of_words, frames_of, budget_of, trace_of}
use Rattle.jos_cli.specs.Found.{FileAt, file_at, Found, found_in, RunFound, run_found_in}
use Rattle.jos_cli.specs.Answer.{Judged, schedule_of, images_of, Gathered, gathered, Expected, expected_if, expected_of_run, expected_of_images, expected_of_exo}
use Rattle.jos_cli.specs.Answer.{made, expected_of_writing}
use Rattle.jos_cli.specs.Making.{named_files, made_unless, disk_made, expected_of_mkfs}
use Rattle.jos_cli.specs.Disks.{held_at, checked, checked_by, disk_of, tree_of, blocks_on, if_there, path_of, listing, expected_of_printed}
use Rattle.jos_cli.specs.Disks.{expected_of_listing, expected_of_bytes, expected_of_ls, expected_of_cat}
use Rattle.jos_cli.specs.Kinds.{Kind, kind_of, Answers}
use Rattle.lib_os.specs.Disk.{Disk}
use Rattle.jos_run.specs.RunEnds.{Job, CanBegin}
use Rattle.jos_cli.specs.declared.outcome.Which.{Which}
use Rattle.jos_cli.specs.declared.outcome.Which.TheVariants as which
use Rattle.jos_cli.specs.RunAnswers.{GatheredProgram, gathered_program, job_of, disks_of, RunsAs, AnswersRun}
use Rattle.jos_cli.specs.Outcomes.{AnswersCommand, HasOutcomeCause, HasRunCauseOf, HasCommandCause, CanRun, CanRunProgram, IsRunCase, CanMake, CanList, CanPrint, IsMadeCase}
use Rattle.jos_cli.specs.Stages.{AreFilesAt}
use Rattle.jos_cli.proofs.Finding.{run_found_is}
use Rattle.jos_cli.proofs.InputRead.{within_limit}
use Rattle.jos_cli.proofs.Gathering.{all_read}
use Rattle.jos_cli.proofs.ProgramsRead as programs
use Rattle.jos_cli.proofs.RunAnswered.{program_runs}
use Rattle.jos_cli.proofs.NamedRead.{named_are, files_named}

is_ok : {X E : Type 0} (r : Result X E) → IsOk r → (x : X) × (r ≡ Ok x)
is_ok (Ok x) h = (x, refl)
is_ok (Err e) h = absurd (let e = h in cc)

-- ---- a run

run_of-some : (schedule : List ℕ) (steps : ℕ) (state : Option KernelState) → IsSome state → (r : Ran) × (run_from_boot schedule steps state ≡ Some r)
run_of-some schedule steps (Some state) h = (_, refl)
run_of-some schedule steps None h = absurd (let e = h in cc)

-- what is read is there
reads : (passed : Option Which) (found : Found) (input : List ℕ) (schedule : List ℕ) (images : List Loadable) → passed ≡ None → schedule_of found.schedule ≡ Ok schedule →
    images_of found.images ≡ Ok images → length input ≤ INPUT_MAX → gathered passed found input ≡ Ok (record { schedule = schedule; images = images; input = input })
reads passed found input schedule images none s i short =
    ap (λ (p : Option Which). gathered p found input) none ∙ all_read found input schedule s images i input (within_limit input short)

runs : (e : Exo) (found : Found) (input : List ℕ) → CanRun e found input → (r : Ran) × (expected_of_exo e found input ≡ expected_of_run (trace_of (numbers_of_exo e)) (Some r))
unfolding expected_of_exo exo_run
runs e found input can =
    let numbers = is_ok (schedule_of found.schedule) can.schedule in
    let run = run_of-some numbers.0 (budget_of (numbers_of_exo e)) (booted can.images (frames_of (numbers_of_exo e)) input) can.frames in (
      run.0,
      ap (λ (j : Judged Gathered). expected_if j (expected_of_images (numbers_of_exo e)))
          (reads (limit_of_words e) found input numbers.0 can.images can.words numbers.1 can.read can.short)
          ∙ ap (expected_of_run (trace_of (numbers_of_exo e))) run.1,
    )

run_case : (trace : ℕ) (r : Ran) (faults : Around ℕ) (own : Outcome) (console : Around (Option (List ℕ))) → Answers (expected_of_run trace (Some r)) own console →
    HasOutcomeCause faults own → (Rose faults.before faults.after → ⊥) → IsRunCase own
run_case trace r faults (outcome.Ran report last) console h cause calm = tt
run_case trace r faults outcome.NoMemory console h cause calm = tt
run_case trace r faults (outcome.HostFault stopped) console h cause calm = absurd (calm cause.0)
run_case trace r faults outcome.Usage console h cause calm = absurd (let e = h.0 in cc)
run_case trace r faults (outcome.Absent word) console h cause calm = absurd (let e = h.0 in cc)
run_case trace r faults (outcome.Limit which) console h cause calm = absurd (let e = h.0 in cc)
run_case trace r faults (outcome.BadSchedule fault) console h cause calm = absurd (let e = h.0 in cc)
run_case trace r faults (outcome.BadImage word fault) console h cause calm = absurd (let e = h.0 in cc)
run_case trace r faults (outcome.Made bytes) console h cause calm = absurd (let e = h.0 in cc)
run_case trace r faults (outcome.BadDisk fault) console h cause calm = absurd (let e = h.0 in cc)
run_case trace r faults (outcome.NotThere errno) console h cause calm = absurd (let e = h.0 in cc)
run_case trace r faults (outcome.BadMake fault) console h cause calm = absurd (let e = h.0 in cc)

-- images are run where they can be
pub is_run : (told : Around (Option Files)) (told_input : Option (List ℕ)) (command : Option Command) (faults : Around ℕ) (own : Outcome) (console : Around (Option (List ℕ))) →
    AnswersCommand told told_input command own console → HasCommandCause command faults own → (files : Files) (input : List ℕ) (e : Exo) → told.before ≡ Some files →
    told_input ≡ Some input → command ≡ Some (exo e) → CanRun e (found_in files e) input → (Rose faults.before faults.after → ⊥) → IsRunCase own
is_run told told_input command faults own console h cause files input e f i c can calm =
    let answers = subst (λ (o : Option Command). AnswersCommand (from_to (Some files) told.after) (Some input) o own console) c
    (subst (λ (o : Option (List ℕ)). AnswersCommand (from_to (Some files) told.after) o command own console) i
    (subst (λ (o : Option Files). AnswersCommand (from_to o told.after) told_input command own console) f h)) in
    let run = runs e (found_in files e) input can in
    run_case (trace_of (numbers_of_exo e)) run.0 faults own console
    (subst (λ (x : Expected). Answers x own console) ((λ k. expected_of_exo e (answers.2 k) (answers.3 k)) ∙ run.1) answers.4)
    (subst (λ (o : Option Command). HasCommandCause o faults own) c cause) calm

-- ---- a run under the library

pub none_booted : {X : Type 0} (state : Option X) → state ≡ None → IsSome state → ⊥
none_booted None e h = let some = h in cc
none_booted (Some x) e h = cc

program_case : (p : Job) (disks : Around (Option Disk)) (faults : Around ℕ) (own : Outcome) (console : Around (Option (List ℕ))) → RunsAs p disks (kind_of own) console → CanBegin p →
    HasRunCauseOf faults (kind_of own) → (Rose faults.before faults.after → ⊥) → IsRunCase own
program_case p disks faults (outcome.Ran report last) console h can cause calm = tt
program_case p disks faults outcome.NoMemory console h can cause calm = tt
program_case p disks faults (outcome.HostFault stopped) console h can cause calm = absurd (calm cause)
program_case p disks faults (outcome.Limit which.Boot) console h can cause calm = absurd (none_booted _ h.0 can)
program_case p disks faults (outcome.Limit which.Frames) console h can cause calm = absurd h
program_case p disks faults (outcome.Limit which.Steps) console h can cause calm = absurd h
program_case p disks faults (outcome.Limit which.Trace) console h can cause calm = absurd h
program_case p disks faults (outcome.Limit which.Images) console h can cause calm = absurd h
program_case p disks faults (outcome.Limit which.Schedule) console h can cause calm = absurd h
program_case p disks faults (outcome.Limit which.Image) console h can cause calm = absurd h
program_case p disks faults (outcome.Limit which.Input) console h can cause calm = absurd h
program_case p disks faults (outcome.Limit which.Blocks) console h can cause calm = absurd h
program_case p disks faults (outcome.Limit which.File) console h can cause calm = absurd h
program_case p disks faults (outcome.Limit which.Args) console h can cause calm = absurd h
program_case p disks faults (outcome.Limit which.Seed) console h can cause calm = absurd h
program_case p disks faults outcome.Usage console h can cause calm = absurd h
program_case p disks faults (outcome.Absent word) console h can cause calm = absurd h
program_case p disks faults (outcome.BadSchedule fault) console h can cause calm = absurd h
program_case p disks faults (outcome.BadImage word fault) console h can cause calm = absurd h
program_case p disks faults (outcome.Made bytes) console h can cause calm = absurd h
program_case p disks faults (outcome.BadDisk fault) console h can cause calm = absurd h
program_case p disks faults (outcome.NotThere errno) console h can cause calm = absurd h
program_case p disks faults (outcome.BadMake fault) console h can cause calm = absurd h

-- what is answered where a program can be run
runs_program : (r : Run) (found : RunFound) (input : List ℕ) (files : Around (Option Files)) (kind : Kind) (console : Around (Option (List ℕ))) (can : CanRunProgram r found input) →
    AnswersRun r found input files kind console → (p : Job) × (disks : Around (Option Disk)) × CanBegin p × RunsAs p disks kind console
runs_program r found input files kind console can h =
    let schedule = is_ok (schedule_of found.schedule) can.schedule in
    let read : GatheredProgram = record { schedule = schedule.0; program = can.image; blocks = blocks_on found.disk; input = input } in
    let all : gathered_program r found input ≡ Ok read =
    programs.all_read r found input can.words schedule.0 schedule.1 can.image can.read (blocks_on found.disk) refl input (within_limit input can.short) in (
      job_of r read,
      disks_of r read files,
      can.frames,
      program_runs r found input files kind console read all h,
    )

-- a program is run where it can be
pub is_run_program : (told : Around (Option Files)) (told_input : Option (List ℕ)) (command : Option Command) (faults : Around ℕ) (own : Outcome) (console : Around (Option (List ℕ))) →
    AnswersCommand told told_input command own console → HasCommandCause command faults own → (files : Files) (input : List ℕ) (r : Run) → told.before ≡ Some files →
    told_input ≡ Some input → command ≡ Some (run r) → CanRunProgram r (run_found_in files r) input → (Rose faults.before faults.after → ⊥) → IsRunCase own
is_run_program told told_input command faults own console h cause files input r f i c can calm =
    let answers = subst (λ (o : Option Command). AnswersCommand (from_to (Some files) told.after) (Some input) o own console) c
    (subst (λ (o : Option (List ℕ)). AnswersCommand (from_to (Some files) told.after) o command own console) i
    (subst (λ (o : Option Files). AnswersCommand (from_to o told.after) told_input command own console) f h)) in
    let behind = from_to (Some files) told.after in
    let same = subst (λ (x : List ℕ). AnswersRun r (run_found_in files r) x behind (kind_of own) console) answers.3
    (subst (λ (x : RunFound). AnswersRun r x answers.1 behind (kind_of own) console) (run_found_is files r answers.0 answers.2) answers.5) in
    let runs = runs_program r (run_found_in files r) input behind (kind_of own) console can same in
    program_case runs.0 runs.1 faults own console runs.3 runs.2 (subst (λ (o : Option Command). HasCommandCause o faults own) c cause) calm

-- ---- something made

made_case : (e : Expected) (n : ℕ) (faults : Around ℕ) (own : Outcome) (console : Around (Option (List ℕ))) → e.answer ≡ made n → Answers e own console →
    HasOutcomeCause faults own → (Rose faults.before faults.after → ⊥) → IsMadeCase own
made_case e n faults (outcome.Made bytes) console is h cause calm = tt
made_case e n faults outcome.NoMemory console is h cause calm = tt
made_case e n faults (outcome.HostFault stopped) console is h cause calm = absurd (calm cause.0)
made_case e n faults (outcome.Ran report last) console is h cause calm = absurd (let same = h.0 ∙ is in cc)
made_case e n faults outcome.Usage console is h cause calm = absurd (let same = h.0 ∙ is in cc)
made_case e n faults (outcome.Absent word) console is h cause calm = absurd (let same = h.0 ∙ is in cc)
made_case e n faults (outcome.Limit which) console is h cause calm = absurd (let same = h.0 ∙ is in cc)
made_case e n faults (outcome.BadSchedule fault) console is h cause calm = absurd (let same = h.0 ∙ is in cc)
made_case e n faults (outcome.BadImage word fault) console is h cause calm = absurd (let same = h.0 ∙ is in cc)
made_case e n faults (outcome.BadDisk fault) console is h cause calm = absurd (let same = h.0 ∙ is in cc)
made_case e n faults (outcome.NotThere errno) console is h cause calm = absurd (let same = h.0 ∙ is in cc)
made_case e n faults (outcome.BadMake fault) console is h cause calm = absurd (let same = h.0 ∙ is in cc)

are_at : (files : Files) (words : List Word) → AreFilesAt (Some files) words (map (file_at files) words)
unfolding AreFilesAt
are_at files [] = tt
are_at files (word ∷ words) = (refl, are_at files words)

-- a disk is made
makes : (m : Mkfs) (files : Files) → CanMake m files → (n : ℕ) × ((expected_of_mkfs m (map (file_at files) m.files)).answer ≡ made n)
unfolding disk_made
makes m files can =
    let found = map (file_at files) m.files in
    let l = is_ok (named_files found) can.read in
    let disk = made_image m.blocks.value l.0 in
    let good : make_fault m.blocks.value l.0 ≡ None =
    ap (make_fault m.blocks.value) (named_are files m.files found l.0 (are_at files m.files) l.1) ∙ can.no_fault in (
      length disk,
      ap (λ (e : Expected). e.answer)
          (ap (λ (j : Judged (List ℕ)). expected_if j expected_of_writing) (files_named m found can.blocks l.0 l.1)
          ∙ ap (λ (f : Option MakeFault). expected_if (made_unless f disk) expected_of_writing) good),
    )

-- a disk is there
pub there : (file : FileAt) (bytes : List ℕ) (fault : Option ImageFault) → file.bytes ≡ Some bytes → checked (held_of bytes) ≡ checked_by fault (held_of bytes) → fault ≡ None →
    disk_of file ≡ Ok (held_of bytes)
unfolding disk_of
there file bytes fault stands same none =
    ap (λ (s : Option (List ℕ)). held_at file.word.place s >>= checked) stands ∙ same ∙ ap (λ (f : Option ImageFault). checked_by f (held_of bytes)) none

-- a directory is printed
lists : (l : Ls) (files : Files) → CanList l files → (n : ℕ) × ((expected_of_ls l (file_at files l.disk)).answer ≡ made n)
unfolding expected_of_ls
lists l files can =
    let held = held_of can.bytes in
    let told = is_ok (listed_at (tree_of held) (path_of l.path)) can.path in (
      length (listing told.0),
      ap (λ (e : Expected). e.answer)
          (ap (λ (j : Judged HeldDisk). expected_if j (expected_of_listing (path_of l.path))) (there (file_at files l.disk) can.bytes _ can.there refl can.no_fault)
          ∙ ap (λ (r : Result (List Told) Errno). expected_if (if_there r) (λ records. expected_of_printed (listing records))) told.1),
    )

-- a file is printed
prints : (c : Cat) (files : Files) → CanPrint c files → (n : ℕ) × ((expected_of_cat c (file_at files c.disk)).answer ≡ made n)
unfolding expected_of_cat
prints c files can =
    let held = held_of can.bytes in
    let bytes = is_ok (read_at (tree_of held) c.path.text) can.path in (
      length bytes.0,
      ap (λ (e : Expected). e.answer)
          (ap (λ (j : Judged HeldDisk). expected_if j (expected_of_bytes c.path.text)) (there (file_at files c.disk) can.bytes _ can.there refl can.no_fault)
          ∙ ap (λ (r : Result (List ℕ) Errno). expected_if (if_there r) expected_of_printed) bytes.1),
    )

module _ (told : Around (Option Files)) (told_input : Option (List ℕ)) (command : Option Command) (faults : Around ℕ) (own : Outcome) (console : Around (Option (List ℕ)))
    (h : AnswersCommand told told_input command own console) (cause : HasCommandCause command faults own) (calm : Rose faults.before faults.after → ⊥) (files : Files)
    (f : told.before ≡ Some files) where
  -- the same of the files and the command that there are
  of_command : (one : Command) → command ≡ Some one → AnswersCommand (from_to (Some files) told.after) told_input (Some one) own console
  of_command one is =
      subst (λ (o : Option Command). AnswersCommand (from_to (Some files) told.after) told_input o own console) is
      (subst (λ (o : Option Files). AnswersCommand (from_to o told.after) told_input command own console) f h)

  cause_of_command : (one : Command) → command ≡ Some one → HasCommandCause (Some one) faults own
  cause_of_command one is = subst (λ (o : Option Command). HasCommandCause o faults own) is cause

  pub is_made : (m : Mkfs) → command ≡ Some (mkfs m) → CanMake m files → IsMadeCase own
  is_made m is can =
      let answers = of_command (mkfs m) is in let n = makes m files can in
      made_case (expected_of_mkfs m answers.0) n.0 faults own console (ap (λ (found : List FileAt). (expected_of_mkfs m found).answer) answers.1 ∙ n.1) answers.2 (cause_of_command (mkfs m) is) calm

  pub is_listed : (l : Ls) → command ≡ Some (ls l) → CanList l files → IsMadeCase own
  is_listed l is can =
      let answers = of_command (ls l) is in let n = lists l files can in
      made_case (expected_of_ls l answers.0) n.0 faults own console (ap (λ (file : FileAt). (expected_of_ls l file).answer) answers.1 ∙ n.1) answers.2 (cause_of_command (ls l) is) calm

  pub is_printed : (c : Cat) → command ≡ Some (cat c) → CanPrint c files → IsMadeCase own
  is_printed c is can =
      let answers = of_command (cat c) is in let n = prints c files can in
      made_case (expected_of_cat c answers.0) n.0 faults own console (ap (λ (file : FileAt). (expected_of_cat c file).answer) answers.1 ∙ n.1) answers.2 (cause_of_command (cat c) is) calm
