-- What `gen` does, seen from outside: its disk is made, and then its run goes on with that.
use Rattle.std.proofs.Common.{◌≡◌, ℕ, List, [], ◌∷◌, length, Option, Some, None, Ok, refl, sym, subst, ◌∙◌}
use Rattle.std.proofs.lemmas.Bool.{cases_lt}
use mathlib.Core.Logic.{inl, inr}
use Rattle.jos_host.specs.Files.{Files}
use Rattle.jos_host.specs.Told.{Rose}
use Rattle.jos_host.specs.Frames.{Around, from_to, around}
use Rattle.jos_host.specs.declared.host.Host.{Ghosts}
use Rattle.jos_base.specs.declared.numbers.TheConstants.{INPUT_MAX}
use Rattle.jos_words.specs.Commands.{Command, Run, Gen, gen, run}
use Rattle.lib_os.specs.Disk.{Disk}
use Rattle.jos_run.specs.RunEnds.{Job, CanBegin}
use Rattle.jos_cli.specs.declared.outcome.Which.{Which}
use Rattle.jos_cli.specs.declared.outcome.Which.TheVariants as which
use Rattle.jos_cli.specs.declared.outcome.Outcome.{Outcome}
use Rattle.jos_cli.specs.declared.outcome.Outcome.TheVariants as outcome
use Rattle.jos_cli.specs.Commands.{run_of_gen}
use Rattle.jos_cli.specs.Limits.{limit_of_seed}
use Rattle.jos_cli.specs.Found.{RunFound, run_found_in}
use Rattle.jos_cli.specs.Answer.{Judged, limit}
use Rattle.jos_cli.specs.Disks.{blocks_on}
use Rattle.jos_cli.specs.Making.{work_disk}
use Rattle.jos_cli.specs.Kinds.{answered, kind_of}
use Rattle.jos_cli.specs.RunAnswers.{GatheredProgram, gathered_program, job_of, disks_of, IsRefusal, RunsAs, Then, AnswersRun, AnswersGen}
use Rattle.jos_cli.specs.Outcomes.{AnswersCommand, HasOutcomeCause, HasRunCauseOf, HasCommandCause, LeavesInputBy, CanGenerate, IsRunCase, IsGeneratedCase, IsMemoryCase}
use Rattle.jos_cli.specs.FilesAsked.{AsksWorkBy}
use Rattle.jos_cli.specs.FilesLeft.{told_with_work, LeavesBy, LeavesBlocks, LeavesMadeAndRun, LeavesWorkBy}
use Rattle.jos_cli.specs.Outside.{outside}
use Rattle.jos_cli.specs.Effects.{DoesCommand, MakesFile}
use Rattle.jos_cli.proofs.Finding.{some_run_found, some_input, run_found_is}
use Rattle.jos_cli.proofs.FilesWritten.{made_and_run}
use Rattle.jos_cli.proofs.Leaving.{left_seed, left_no_memory}
use Rattle.jos_cli.proofs.RunAnswered.{gen_stage, gen_refused, gen_goes_on, gen_runs, program_runs}
use Rattle.jos_cli.proofs.RunDisks.{begins_with_disk}
use Rattle.jos_cli.proofs.Tops.{run_cause}
use Rattle.jos_cli.proofs.Cases.{none_booted, is_run_program}
use Rattle.jos_cli.proofs.WorkDisks.{program, no_limit, own_schedule, made_in, work_read, work_begins, can_run_work}
use Rattle.jos_cli.proofs.ProgramsRead as programs
use Rattle.jos_cli.proofs.InputRead.{within_limit, past_limit}

-- ---- no disk is made

-- it is cut off, or there is no memory
unmade_answers : (g : Gen) (found : RunFound) (input : List ℕ) (files : Around (Option Files)) (o : Outcome) (faults : Around ℕ) (console : Around (Option (List ℕ))) →
    IsMemoryCase o → HasOutcomeCause faults o → console.after ≡ console.before → AnswersGen g found input files (kind_of o) console
unmade_answers g found input files (outcome.HostFault stopped) faults console h cause same = (gen_stage g found input files).cut stopped console cause.1 cause.2 same
unmade_answers g found input files outcome.NoMemory faults console h cause same = (gen_stage g found input files).memory console same
unmade_answers g found input files (outcome.Ran report trace) faults console h cause same = absurd h
unmade_answers g found input files outcome.Usage faults console h cause same = absurd h
unmade_answers g found input files (outcome.Absent word) faults console h cause same = absurd h
unmade_answers g found input files (outcome.Limit which) faults console h cause same = absurd h
unmade_answers g found input files (outcome.BadImage word fault) faults console h cause same = absurd h
unmade_answers g found input files (outcome.BadSchedule fault) faults console h cause same = absurd h
unmade_answers g found input files (outcome.Made bytes) faults console h cause same = absurd h
unmade_answers g found input files (outcome.BadDisk fault) faults console h cause same = absurd h
unmade_answers g found input files (outcome.NotThere errno) faults console h cause same = absurd h
unmade_answers g found input files (outcome.BadMake fault) faults console h cause same = absurd h

unmade_leaves : (name : List ℕ) (made : Option Files) (o : Outcome) (told : Around (Option Files)) → IsMemoryCase o → LeavesBy name made o told →
    LeavesMadeAndRun name made o told
unmade_leaves name made (outcome.HostFault stopped) told h left = left
unmade_leaves name made outcome.NoMemory told h left = inl left
unmade_leaves name made (outcome.Ran report trace) told h left = absurd h
unmade_leaves name made outcome.Usage told h left = absurd h
unmade_leaves name made (outcome.Absent word) told h left = absurd h
unmade_leaves name made (outcome.Limit which) told h left = absurd h
unmade_leaves name made (outcome.BadImage word fault) told h left = absurd h
unmade_leaves name made (outcome.BadSchedule fault) told h left = absurd h
unmade_leaves name made (outcome.Made bytes) told h left = absurd h
unmade_leaves name made (outcome.BadDisk fault) told h left = absurd h
unmade_leaves name made (outcome.NotThere errno) told h left = absurd h
unmade_leaves name made (outcome.BadMake fault) told h left = absurd h

memory_no_usage : (o : Outcome) → IsMemoryCase o → o ≡ outcome.Usage → ⊥
memory_no_usage o h e = subst IsMemoryCase e h

module _ {H : Type 0} (host : Ghosts H) (g : Gen) where
  -- the seed passes a limit
  pub seed_refused : (a : H) (passed : Which) → limit_of_seed g.seed ≡ Some passed → passed ≡ which.Seed →
      DoesCommand (Some (gen g)) (outcome.Limit passed) (outside host a a)
  seed_refused a passed h is =
      let made = told_with_work (host.files a) g in
      let found = some_run_found made (run_of_gen g) in
      let given = some_input (host.input a) in
      record {
        answer = (
          found.0,
          given.0,
          found.1,
          given.1,
          begins_with_disk (run_of_gen g) found.0 given.0 made found.1,
          gen_refused g found.0 given.0 (from_to made (host.files a)) (answered (limit passed)) (around host.console a a) passed h (refl, refl),
        );
        usage = λ e. cc;
        files = subst (λ (l : Option Which). LeavesWorkBy l g (outcome.Limit passed) (around host.files a a)) (sym h) refl;
        disk = tt;
        input = subst (λ (w : Which). LeavesInputBy (answered (limit w)) (around host.input a a)) (sym is) (left_seed (host.input a) (host.input a) refl);
        notes = refl;
        asked = subst (λ (l : Option Which). AsksWorkBy l g.disk.text (around host.asked a a)) (sym h) refl;
        cause = refl;
      }

  module _ (none : limit_of_seed g.seed ≡ None) where
    -- the disk is not made
    pub work_unmade : (a b : H) (o : Outcome) → MakesFile g.disk.text (work_disk g.seed.value) (Some o) (outside host a b) →
        DoesCommand (Some (gen g)) o (outside host a b)
    work_unmade a b o h =
        let made = told_with_work (host.files a) g in
        let found = some_run_found made (run_of_gen g) in
        let given = some_input (host.input a) in
        record {
          answer = (
            found.0,
            given.0,
            found.1,
            given.1,
            begins_with_disk (run_of_gen g) found.0 given.0 made found.1,
            unmade_answers g found.0 given.0 (from_to made (host.files b)) o (around host.faults a b) (around host.console a b) h.unwritten h.cause h.console,
          );
          usage = memory_no_usage o h.unwritten;
          files =
              subst (λ (l : Option Which). LeavesWorkBy l g o (around host.files a b)) (sym none)
              (unmade_leaves g.disk.text made o (around host.files a b) h.unwritten h.files);
          disk = tt;
          input = left_no_memory (Some (gen g)) o (host.input a) (host.input b) h.unwritten h.input;
          notes = h.notes;
          asked = subst (λ (l : Option Which). AsksWorkBy l g.disk.text (around host.asked a b)) (sym none) (inl h.asked);
          cause = run_cause (around host.faults a b) (kind_of o) h.cause;
        }

    -- it is made, and run
    pub work_ran : (a b c : H) (o : Outcome) → MakesFile g.disk.text (work_disk g.seed.value) None (outside host a b) →
        DoesCommand (Some (run (run_of_gen g))) o (outside host b c) → DoesCommand (Some (gen g)) o (outside host a c)
    work_ran a b c o h ran =
        let made = told_with_work (host.files a) g in
        let console = around host.console a c in
        let answer = subst (λ (i : Option (List ℕ)). AnswersCommand (from_to made (host.files c)) i (Some (run (run_of_gen g))) o console) h.input
        (subst (λ (f : Option Files). AnswersCommand (from_to f (host.files c)) (host.input b) (Some (run (run_of_gen g))) o console) h.files
        (subst (λ (t : Option (List ℕ)). AnswersCommand (around host.files b c) (host.input b) (Some (run (run_of_gen g))) o (from_to t (host.console c))) h.console
        ran.answer)) in
        record {
          answer = (
            answer.0,
            answer.1,
            answer.2,
            answer.3,
            answer.4,
            gen_goes_on g answer.0 answer.1 (from_to made (host.files c)) (kind_of o) console none answer.5,
          );
          usage = ran.usage;
          files =
              subst (λ (l : Option Which). LeavesWorkBy l g o (around host.files a c)) (sym none)
              (made_and_run g.disk.text (work_disk g.seed.value) (host.files a) (host.files c) o
              (subst (λ (f : Option Files). LeavesBlocks g.disk.text o (from_to f (host.files c))) h.files ran.files));
          disk = tt;
          input = subst (λ (i : Option (List ℕ)). LeavesInputBy (kind_of o) (from_to i (host.input c))) h.input ran.input;
          notes = ran.notes ∙ h.notes;
          asked =
              subst (λ (l : Option Which). AsksWorkBy l g.disk.text (around host.asked a c)) (sym none)
              (inr (host.asked b, h.asked, ran.asked));
          cause = subst (λ (n : ℕ). HasRunCauseOf (from_to n (host.faults c)) (kind_of o)) h.cause ran.cause;
        }

-- ---- nothing stands in the way

pub is_generated : (told : Around (Option Files)) (told_input : Option (List ℕ)) (command : Option Command) (faults : Around ℕ) (own : Outcome) (console : Around (Option (List ℕ))) →
    AnswersCommand told told_input command own console → HasCommandCause command faults own → (files : Files) (input : List ℕ) (g : Gen) → told.before ≡ Some files →
    told_input ≡ Some input → command ≡ Some (gen g) → CanGenerate g input → (Rose faults.before faults.after → ⊥) → IsRunCase own
is_generated told told_input command faults own console h cause files input g f i c can calm =
    let made = made_in files g in
    let behind = from_to (Some made) told.after in
    let answer = subst (λ (o : Option Command). AnswersCommand (from_to (Some files) told.after) (Some input) o own console) c
    (subst (λ (o : Option (List ℕ)). AnswersCommand (from_to (Some files) told.after) o command own console) i
    (subst (λ (o : Option Files). AnswersCommand (from_to o told.after) told_input command own console) f h)) in
    is_run_program behind (Some input) (Some (run (run_of_gen g))) faults own console
    (answer.0, answer.1, answer.2, answer.3, answer.4, gen_runs g answer.0 answer.1 behind (kind_of own) console can.seed answer.5)
    (subst (λ (o : Option Command). HasCommandCause o faults own) c cause) made input (run_of_gen g) refl refl refl
    (can_run_work g files input can) calm

-- ---- what else may be answered

-- the input is too long
past_case : (own : Outcome) (console : Around (Option (List ℕ))) → IsRefusal (limit which.Input) (kind_of own) console → IsGeneratedCase own
past_case (outcome.Ran report trace) console h = tt
past_case (outcome.HostFault stopped) console h = tt
past_case outcome.NoMemory console h = tt
past_case (outcome.Limit which.Input) console h = tt
past_case (outcome.Limit which.Frames) console h = absurd (let e = h.0 in cc)
past_case (outcome.Limit which.Steps) console h = absurd (let e = h.0 in cc)
past_case (outcome.Limit which.Trace) console h = absurd (let e = h.0 in cc)
past_case (outcome.Limit which.Images) console h = absurd (let e = h.0 in cc)
past_case (outcome.Limit which.Schedule) console h = absurd (let e = h.0 in cc)
past_case (outcome.Limit which.Image) console h = absurd (let e = h.0 in cc)
past_case (outcome.Limit which.Boot) console h = absurd (let e = h.0 in cc)
past_case (outcome.Limit which.Blocks) console h = absurd (let e = h.0 in cc)
past_case (outcome.Limit which.File) console h = absurd (let e = h.0 in cc)
past_case (outcome.Limit which.Args) console h = absurd (let e = h.0 in cc)
past_case (outcome.Limit which.Seed) console h = absurd (let e = h.0 in cc)
past_case outcome.Usage console h = absurd (let e = h.0 in cc)
past_case (outcome.Absent word) console h = absurd (let e = h.0 in cc)
past_case (outcome.BadSchedule fault) console h = absurd (let e = h.0 in cc)
past_case (outcome.BadImage word fault) console h = absurd (let e = h.0 in cc)
past_case (outcome.Made bytes) console h = absurd (let e = h.0 in cc)
past_case (outcome.BadDisk fault) console h = absurd (let e = h.0 in cc)
past_case (outcome.NotThere errno) console h = absurd (let e = h.0 in cc)
past_case (outcome.BadMake fault) console h = absurd (let e = h.0 in cc)

-- it is run
begun_case : (p : Job) (disks : Around (Option Disk)) (own : Outcome) (console : Around (Option (List ℕ))) → RunsAs p disks (kind_of own) console → CanBegin p →
    IsGeneratedCase own
begun_case p disks (outcome.Ran report trace) console h can = tt
begun_case p disks (outcome.HostFault stopped) console h can = tt
begun_case p disks outcome.NoMemory console h can = tt
begun_case p disks (outcome.Limit which.Boot) console h can = absurd (none_booted _ h.0 can)
begun_case p disks (outcome.Limit which.Input) console h can = absurd h
begun_case p disks (outcome.Limit which.Frames) console h can = absurd h
begun_case p disks (outcome.Limit which.Steps) console h can = absurd h
begun_case p disks (outcome.Limit which.Trace) console h can = absurd h
begun_case p disks (outcome.Limit which.Images) console h can = absurd h
begun_case p disks (outcome.Limit which.Schedule) console h can = absurd h
begun_case p disks (outcome.Limit which.Image) console h can = absurd h
begun_case p disks (outcome.Limit which.Blocks) console h can = absurd h
begun_case p disks (outcome.Limit which.File) console h can = absurd h
begun_case p disks (outcome.Limit which.Args) console h can = absurd h
begun_case p disks (outcome.Limit which.Seed) console h can = absurd h
begun_case p disks outcome.Usage console h can = absurd h
begun_case p disks (outcome.Absent word) console h can = absurd h
begun_case p disks (outcome.BadSchedule fault) console h can = absurd h
begun_case p disks (outcome.BadImage word fault) console h can = absurd h
begun_case p disks (outcome.Made bytes) console h can = absurd h
begun_case p disks (outcome.BadDisk fault) console h can = absurd h
begun_case p disks (outcome.NotThere errno) console h can = absurd h
begun_case p disks (outcome.BadMake fault) console h can = absurd h

module _ (g : Gen) (files : Files) (input : List ℕ) (behind : Around (Option Files)) (own : Outcome) (console : Around (Option (List ℕ)))
    (h : AnswersRun (run_of_gen g) (run_found_in (made_in files g) (run_of_gen g)) input behind (kind_of own) console) where
  abbrev r : Run
  r = run_of_gen g

  abbrev found : RunFound
  found = run_found_in (made_in files g) r

  by_input : IsGeneratedCase own
  by_input = elim (cases_lt INPUT_MAX (length input)) [
    | inl past ↦
        let refused = programs.input_refused r found input (no_limit g) (1000 ∷ []) own_schedule (program g.seed.value) (work_read g files) (answered (limit which.Input))
        (past_limit input past) in
        past_case own console (subst (λ (j : Judged GatheredProgram). Then j (λ read. RunsAs (job_of r read) (disks_of r read behind)) (kind_of own) console) refused h)
    | inr short ↦
        let read : GatheredProgram = record { schedule = 1000 ∷ []; program = program g.seed.value; blocks = blocks_on found.disk; input = input } in
        let all : gathered_program r found input ≡ Ok read =
        programs.all_read r found input (no_limit g) (1000 ∷ []) own_schedule (program g.seed.value) (work_read g files) (blocks_on found.disk) refl input
        (within_limit input short) in
        begun_case (job_of r read) (disks_of r read behind) own console (program_runs r found input behind (kind_of own) console read all h) (work_begins g input)
  ]

pub is_accepted : (told : Around (Option Files)) (told_input : Option (List ℕ)) (command : Option Command) (own : Outcome) (console : Around (Option (List ℕ))) →
    AnswersCommand told told_input command own console → (files : Files) (g : Gen) → told.before ≡ Some files → command ≡ Some (gen g) →
    limit_of_seed g.seed ≡ None → IsGeneratedCase own
is_accepted told told_input command own console h files g f c none =
    let behind = from_to (Some (made_in files g)) told.after in
    let answer = subst (λ (o : Option Command). AnswersCommand (from_to (Some files) told.after) told_input o own console) c
    (subst (λ (o : Option Files). AnswersCommand (from_to o told.after) told_input command own console) f h) in
    by_input g files answer.1 behind own console
    (subst (λ (x : RunFound). AnswersRun (run_of_gen g) x answer.1 behind (kind_of own) console) (run_found_is (made_in files g) (run_of_gen g) answer.0 answer.2)
    (gen_runs g answer.0 answer.1 behind (kind_of own) console none answer.5))

pub memory_accepted : (own : Outcome) → IsMemoryCase own → IsGeneratedCase own
memory_accepted (outcome.HostFault stopped) h = tt
memory_accepted outcome.NoMemory h = tt
memory_accepted (outcome.Ran report trace) h = tt
memory_accepted outcome.Usage h = absurd h
memory_accepted (outcome.Absent word) h = absurd h
memory_accepted (outcome.Limit which) h = absurd h
memory_accepted (outcome.BadImage word fault) h = absurd h
memory_accepted (outcome.BadSchedule fault) h = absurd h
memory_accepted (outcome.Made bytes) h = absurd h
memory_accepted (outcome.BadDisk fault) h = absurd h
memory_accepted (outcome.NotThere errno) h = absurd h
memory_accepted (outcome.BadMake fault) h = absurd h
