-- What the functions of a command do, one after another, as it is seen from outside.
use Rattle.std.proofs.Common.{◌≡◌, ℕ, List, [], ◌∷◌, ◌++◌, Option, Some, None, Result, Ok, Err, refl, sym, ap, subst, ◌∙◌, arith, MatchResult}
use Rattle.std.specs.Option.{option_map}
use Rattle.std.specs.Prelude.{OnErr}
use Rattle.jos_host.specs.Asked.{Asked, and_noted}
use Rattle.jos_host.specs.Files.{Files}
use Rattle.jos_host.specs.Told.{HasCause}
use Rattle.jos_host.specs.Frames.{Unchanged, from_to, around}
use Rattle.jos_host.specs.declared.host.Host.{Ghosts}
use mathlib.Core.Logic.{inl, inr}
use Rattle.jos_words.specs.Arguments.{Word}
use Rattle.fs_image.specs.DiskHeld.{IsReadInPieces}
use Rattle.jos_words.specs.Commands.{Command, Exo, Run, exo, run}
use Rattle.jos_kernel.specs.declared.kernel.BootFault.{BootFault}
use Rattle.jos_kernel.specs.declared.kernel.BootFault.TheVariants as boot_fault
use Rattle.jos_run.specs.declared.programs.RunEnd.{RunEnd}
use Rattle.jos_run.specs.declared.programs.RunEnd.TheVariants as end
use Rattle.jos_run.specs.DiskTouches.{KeepsFiles, TouchesDiskOnly}
use Rattle.jos_cli.specs.declared.outcome.Which.{Which}
use Rattle.jos_cli.specs.declared.outcome.Outcome.{Outcome}
use Rattle.jos_cli.specs.declared.outcome.Outcome.TheVariants as outcome
use Rattle.jos_cli.specs.Limits.{numbers_of_exo, limit_of_words}
use Rattle.jos_cli.specs.Found.{sources_of_exo, Found, IsFound, RunFound, IsRunFound, IsInput}
use Rattle.jos_cli.specs.Answer.{Gathered, gathered, expected_of_images}
use Rattle.jos_cli.specs.Kinds.{kind_of, Answers}
use Rattle.jos_cli.specs.RunAnswers.{GatheredProgram, gathered_program, job_of, disk_file_of, disks_of, RunsAs}
use Rattle.jos_cli.specs.Outcomes.{IsUsageCase, HasOutcomeCause, HasRunCauseOf, LeavesInputBy}
use Rattle.jos_cli.specs.FilesAsked.{AsksFor, AsksAll, AsksScheduleAndDisk, read_calls, schedule_calls, files_calls, source_calls, AsksSomeNotes, AsksNote}
use Rattle.jos_cli.specs.FilesLeft.{LeavesBlocks}
use Rattle.jos_cli.specs.Stages.{RefusesBy, IsOfWords, outcome_of_run}
use Rattle.jos_cli.specs.Outside.{Outside, outside}
use Rattle.jos_cli.specs.Effects.{DoesCommand, ReadsFiles, Gathers, ReadsDisk, GathersProgram, WritesNotes}
use Rattle.jos_cli.proofs.Asking.{asks_no_more, asks_none, asks_first, asks_then, asks_both, asks_all, asks_nothing, asks_file, asks_part, asks_part_whole, moves_none}
use Rattle.jos_cli.proofs.Asking.{notes_none, notes_done, notes_then, notes_then_last}
use Rattle.jos_cli.proofs.Judging.{exo_refused, exo_goes_on}
use Rattle.jos_cli.proofs.Leaving.{left_no_memory, left_words, left_unread, left_unread_on_disk, left_ran, unread_no_usage, unread_on_disk_no_usage, ran_no_usage}
use Rattle.jos_cli.proofs.RunAnswered.{run_refused, run_goes_on}
use Rattle.jos_cli.proofs.RunDisks.{begins_with_disk}
use Rattle.jos_cli.proofs.FilesWritten.{keeps_files, no_blocks, no_disk}
use Rattle.jos_cli.proofs.Tops.{run_cause, command_cause, at_no_memory}

-- the count was the same before
cause_after : (o : Outcome) (a b c : ℕ) → b ≡ a → HasOutcomeCause (from_to b c) o → HasOutcomeCause (from_to a c) o
cause_after o a b c same h = subst (λ (n : ℕ). HasOutcomeCause (from_to n c) o) same h

-- ---- files, one after another

module _ {H : Type 0} (host : Ghosts H) where
  pub no_file : (a : H) → ReadsFiles (files_calls []) None (outside host a a)
  no_file a = record { unread = tt; files = refl; input = refl; console = refl; notes = refl; asked = asks_nothing (host.asked a); cause = refl }

  module _ (words : List Word) {a b c : H} (h : ReadsFiles (files_calls words) None (outside host a b)) (word : Word) where
    pub one_file : ReadsFiles (read_calls word.text) None (outside host b c) → ReadsFiles (files_calls (words ++ word ∷ [])) None (outside host a c)
    one_file one = record {
      unread = tt;
      files = one.files ∙ h.files;
      input = one.input ∙ h.input;
      console = one.console ∙ h.console;
      notes = one.notes ∙ h.notes;
      asked = asks_file words word (host.asked a) (host.asked b) (host.asked c) h.asked one.asked;
      cause = one.cause ∙ h.cause;
    }

    -- it is not read
    pub file_refused : (rest : List Word) (o : Outcome) → ReadsFiles (read_calls word.text) (Some o) (outside host b c) →
        ReadsFiles (files_calls (words ++ word ∷ rest)) (Some o) (outside host a c)
    file_refused rest o one = record {
      unread = one.unread;
      files = one.files ∙ h.files;
      input = one.input ∙ h.input;
      console = one.console ∙ h.console;
      notes = one.notes ∙ h.notes;
      asked = asks_part words word rest (host.asked a) (host.asked b) (host.asked c) h.asked one.asked;
      cause = cause_after o (host.faults a) (host.faults b) (host.faults c) h.cause one.cause;
    }

    -- it is read, and there is no memory to keep it
    pub file_dropped : (rest : List Word) → ReadsFiles (read_calls word.text) None (outside host b c) →
        ReadsFiles (files_calls (words ++ word ∷ rest)) (Some outcome.NoMemory) (outside host a c)
    file_dropped rest one = record {
      unread = tt;
      files = one.files ∙ h.files;
      input = one.input ∙ h.input;
      console = one.console ∙ h.console;
      notes = one.notes ∙ h.notes;
      asked = asks_part_whole words word rest (host.asked a) (host.asked b) (host.asked c) h.asked one.asked;
      cause = one.cause ∙ h.cause;
    }

  -- files of one list, and then those of another
  module _ {calls more : List Asked} {a b c : H} (h : ReadsFiles calls None (outside host a b)) where
    pub files_then : ReadsFiles more None (outside host b c) → ReadsFiles (calls ++ more) None (outside host a c)
    files_then then = record {
      unread = tt;
      files = then.files ∙ h.files;
      input = then.input ∙ h.input;
      console = then.console ∙ h.console;
      notes = then.notes ∙ h.notes;
      asked = asks_both calls more (host.asked a) (host.asked b) (host.asked c) h.asked then.asked;
      cause = then.cause ∙ h.cause;
    }

    pub files_then_refused : (o : Outcome) → ReadsFiles more (Some o) (outside host b c) → ReadsFiles (calls ++ more) (Some o) (outside host a c)
    files_then_refused o then = record {
      unread = then.unread;
      files = then.files ∙ h.files;
      input = then.input ∙ h.input;
      console = then.console ∙ h.console;
      notes = then.notes ∙ h.notes;
      asked = asks_then calls more (host.asked a) (host.asked b) (host.asked c) h.asked then.asked;
      cause = cause_after o (host.faults a) (host.faults b) (host.faults c) h.cause then.cause;
    }

-- one of the first is not read
pub first_refused : {calls : List Asked} (more : List Asked) {o : Outcome} {seen : Outside} → ReadsFiles calls (Some o) seen → ReadsFiles (calls ++ more) (Some o) seen
first_refused {calls = calls} more {seen = seen} h = record {
  unread = h.unread;
  files = h.files;
  input = h.input;
  console = h.console;
  notes = h.notes;
  asked = asks_first calls more seen.asked.before seen.asked.after h.asked;
  cause = h.cause;
}

-- ---- and then the input

-- no input is read
pub no_input : {calls : List Asked} {o : Outcome} {seen : Outside} → ReadsFiles calls (Some o) seen → Gathers calls (Some o) seen
no_input {o = o} {seen = seen} h = record {
  usage = unread_no_usage o h.unread;
  files = h.files;
  input = left_unread o seen.input.before seen.input.after h.unread h.input;
  console = h.console;
  notes = h.notes;
  asked = h.asked;
  cause = h.cause;
}

-- nothing is read
pub limit_passed : {H : Type 0} (host : Ghosts H) (a : H) (calls : List Asked) (which : Which) → IsOfWords which →
    Gathers calls (Some (outcome.Limit which)) (outside host a a)
limit_passed host a calls which h = record {
  usage = λ e. cc;
  files = refl;
  input = left_words which (host.input a) (host.input a) h refl;
  console = refl;
  notes = refl;
  asked = asks_none calls (host.asked a) (host.asked a) refl;
  cause = refl;
}

module _ {H : Type 0} (host : Ghosts H) {calls : List Asked} {a b c : H} (h : ReadsFiles calls None (outside host a b)) where
  pub input_then : Gathers [] None (outside host b c) → Gathers calls None (outside host a c)
  input_then then = record {
    usage = tt;
    files = then.files ∙ h.files;
    input = then.input ∙ ap (option_map (λ bytes. [])) h.input;
    console = then.console ∙ h.console;
    notes = then.notes ∙ h.notes;
    asked = subst (λ (log : Option (List Asked)). AsksAll calls (from_to (host.asked a) log)) (sym then.asked) h.asked;
    cause = then.cause ∙ h.cause;
  }

  pub input_refused : (o : Outcome) → Gathers [] (Some o) (outside host b c) → Gathers calls (Some o) (outside host a c)
  input_refused o then = record {
    usage = then.usage;
    files = then.files ∙ h.files;
    input = subst (λ (input : Option (List ℕ)). LeavesInputBy (kind_of o) (from_to input (host.input c))) h.input then.input;
    console = then.console ∙ h.console;
    notes = then.notes ∙ h.notes;
    asked =
        subst (λ (log : Option (List Asked)). AsksFor calls (from_to (host.asked a) log)) (sym then.asked)
        (asks_all calls (host.asked a) (host.asked b) h.asked);
    cause = cause_after o (host.faults a) (host.faults b) (host.faults c) h.cause then.cause;
  }

-- ---- a schedule, a disk and then the input

module _ (schedule : Option Word) (disk : List ℕ) where
  -- nothing is read
  pub program_limit_passed : {H : Type 0} (host : Ghosts H) (a : H) (which : Which) → IsOfWords which →
      GathersProgram schedule disk (Some (outcome.Limit which)) (outside host a a)
  program_limit_passed host a which h = record {
    usage = λ e. cc;
    files = refl;
    input = left_words which (host.input a) (host.input a) h refl;
    console = refl;
    notes = refl;
    asked = inl (asks_none (schedule_calls schedule) (host.asked a) (host.asked a) refl);
    cause = refl;
  }

  -- no disk is read
  pub no_disk_read : {o : Outcome} {seen : Outside} → ReadsFiles (schedule_calls schedule) (Some o) seen → GathersProgram schedule disk (Some o) seen
  no_disk_read {o = o} {seen = seen} h = record {
    usage = unread_no_usage o h.unread;
    files = h.files;
    input = left_unread o seen.input.before seen.input.after h.unread h.input;
    console = h.console;
    notes = h.notes;
    asked = inl h.asked;
    cause = h.cause;
  }

  module _ {H : Type 0} (host : Ghosts H) {a b c : H} (h : ReadsFiles (schedule_calls schedule) None (outside host a b)) where
    -- no input is read
    pub disk_refused : (o : Outcome) → ReadsDisk disk (Some o) (outside host b c) → GathersProgram schedule disk (Some o) (outside host a c)
    disk_refused o then = record {
      usage = unread_on_disk_no_usage o then.unread;
      files = then.files ∙ h.files;
      input = left_unread_on_disk o (host.input a) (host.input c) then.unread (then.input ∙ h.input);
      console = then.console ∙ h.console;
      notes = then.notes ∙ h.notes;
      asked = inr (host.asked b, h.asked, then.asked);
      cause = cause_after o (host.faults a) (host.faults b) (host.faults c) h.cause then.cause;
    }

    module _ {d : H} (then : ReadsDisk disk None (outside host b c)) where
      disk_asked : host.asked d ≡ host.asked c → AsksScheduleAndDisk schedule disk (around host.asked a d)
      disk_asked same =
          inr (host.asked b, h.asked, subst (λ (log : Option (List Asked)). IsReadInPieces disk (from_to (host.asked b) log)) (sym same) then.asked)

      pub program_and_input : Gathers [] None (outside host c d) → GathersProgram schedule disk None (outside host a d)
      program_and_input last = record {
        usage = tt;
        files = last.files ∙ then.files ∙ h.files;
        input = last.input ∙ ap (option_map (λ bytes. [])) (then.input ∙ h.input);
        console = last.console ∙ then.console ∙ h.console;
        notes = last.notes ∙ then.notes ∙ h.notes;
        asked = disk_asked last.asked;
        cause = last.cause ∙ then.cause ∙ h.cause;
      }

      pub program_input_refused : (o : Outcome) → Gathers [] (Some o) (outside host c d) → GathersProgram schedule disk (Some o) (outside host a d)
      program_input_refused o last = record {
        usage = last.usage;
        files = last.files ∙ then.files ∙ h.files;
        input = subst (λ (input : Option (List ℕ)). LeavesInputBy (kind_of o) (from_to input (host.input d))) (then.input ∙ h.input) last.input;
        console = last.console ∙ then.console ∙ h.console;
        notes = last.notes ∙ then.notes ∙ h.notes;
        asked = disk_asked last.asked;
        cause = cause_after o (host.faults a) (host.faults c) (host.faults d) (then.cause ∙ h.cause) last.cause;
      }

-- ---- `exo` and `run`

module _ (o : Outcome) (seen : Outside) (input : List ℕ) (i : IsInput seen.input.before input) where
  pub exo_unread : (found : Found) (e : Exo) → IsFound seen.files.before (sources_of_exo e) found → RefusesBy (gathered (limit_of_words e) found input) (kind_of o) →
      Gathers (source_calls (sources_of_exo e)) (Some o) seen → DoesCommand (Some (exo e)) o seen
  exo_unread found e f refusal h = record {
    answer = (found, input, f, i, exo_refused e found input (kind_of o) seen.console refusal h.console);
    usage = h.usage;
    files = h.files;
    disk = tt;
    input = h.input;
    notes = h.notes;
    asked = h.asked;
    cause = h.cause;
  }

  pub run_unread : (found : RunFound) (r : Run) → IsRunFound seen.files.before r found → RefusesBy (gathered_program r found input) (kind_of o) →
      GathersProgram r.schedule r.disk.text (Some o) seen → DoesCommand (Some (run r)) o seen
  run_unread found r f refusal h = record {
    answer = (
      found,
      input,
      f,
      i,
      begins_with_disk r found input seen.files.before f,
      run_refused r found input seen.files (kind_of o) seen.console seen.faults refusal h.cause h.console,
    );
    usage = h.usage;
    files = no_blocks r.disk.text seen.files.before seen.files.after o h.files;
    disk = tt;
    input = h.input;
    notes = h.notes;
    asked = (seen.asked.after, h.asked, moves_none r.disk.text seen.asked.after seen.asked.after refl);
    cause = run_cause seen.faults (kind_of o) h.cause;
  }

-- what was read is run
module _ {H : Type 0} (host : Ghosts H) (a b c : H) (input : List ℕ) (i : IsInput (host.input a) input) (ran : Result RunEnd BootFault)
    (rest : Unchanged host.files host.input host.asked host.notes b c) where
  left : (new : Option (List ℕ)) → new ≡ option_map (λ bytes. []) (host.input a) → host.input c ≡ new →
      LeavesInputBy (kind_of (outcome_of_run ran)) (from_to (host.input a) (host.input c))
  left new taken same = left_ran ran (host.input a) (host.input c) (same ∙ taken)

  asked_by : (calls : List Asked) → AsksAll calls (from_to (host.asked a) (host.asked b)) → AsksFor calls (from_to (host.asked a) (host.asked c))
  asked_by calls h =
      subst (λ (log : Option (List Asked)). AsksFor calls (from_to (host.asked a) log)) (sym rest.third) (asks_all calls (host.asked a) (host.asked b) h)

  pub exo_ran : (found : Found) (read : Gathered) (e : Exo) → IsFound (host.files a) (sources_of_exo e) found → gathered (limit_of_words e) found input ≡ Ok read →
      Gathers (source_calls (sources_of_exo e)) None (outside host a b) →
      Answers (expected_of_images (numbers_of_exo e) read) (outcome_of_run ran) (around host.console b c) →
      HasOutcomeCause (around host.faults b c) (outcome_of_run ran) → DoesCommand (Some (exo e)) (outcome_of_run ran) (outside host a c)
  exo_ran found read e f judged h told cause = record {
    answer = (
      found,
      input,
      f,
      i,
      exo_goes_on e found input (kind_of (outcome_of_run ran)) (around host.console a c) read judged
          (subst (λ (console : Option (List ℕ)). Answers (expected_of_images (numbers_of_exo e) read) (outcome_of_run ran) (from_to console (host.console c))) h.console told),
    );
    usage = ran_no_usage ran;
    files = rest.first ∙ h.files;
    disk = tt;
    input = left (host.input b) h.input rest.second;
    notes = rest.fourth ∙ h.notes;
    asked = asked_by (source_calls (sources_of_exo e)) h.asked;
    cause = cause_after (outcome_of_run ran) (host.faults a) (host.faults b) (host.faults c) h.cause cause;
  }

-- the same of the program of a disk, of which blocks were moved
module _ {H : Type 0} (host : Ghosts H) (a b c : H) (input : List ℕ) (i : IsInput (host.input a) input) (ran : Result RunEnd BootFault) where
  ran_files : (result : Result RunEnd BootFault) (name : List ℕ) → KeepsFiles name (host.files b) (host.files c) → OnErr result (c ≡ b) →
      LeavesBlocks name (outcome_of_run result) (around host.files b c)
  ran_files (Ok (end.Ended report trace)) name keeps same = keeps
  ran_files (Ok (end.HostFault stopped)) name keeps same = keeps
  ran_files (Err boot_fault.Pool) name keeps same = ap host.files same
  ran_files (Err boot_fault.NoMemory) name keeps same = ap host.files same

  pub run_ran : (found : RunFound) (read : GatheredProgram) (r : Run) → IsRunFound (host.files a) r found → gathered_program r found input ≡ Ok read →
      GathersProgram r.schedule r.disk.text None (outside host a b) →
      RunsAs (job_of r read) (disks_of r read (around host.files b c)) (kind_of (outcome_of_run ran)) (around host.console b c) →
      TouchesDiskOnly (disk_file_of r read) (around host.files b c) (around host.asked b c) → host.input c ≡ host.input b → host.notes c ≡ host.notes b →
      OnErr ran (c ≡ b) → HasRunCauseOf (around host.faults b c) (kind_of (outcome_of_run ran)) → DoesCommand (Some (run r)) (outcome_of_run ran) (outside host a c)
  run_ran found read r f judged h told touches taken noted unasked cause = record {
    answer = (
      found,
      input,
      f,
      i,
      begins_with_disk r found input (host.files a) f,
      run_goes_on r found input (around host.files a c) (kind_of (outcome_of_run ran)) (around host.console a c) read judged
          (subst (λ (console : Option (List ℕ)). RunsAs (job_of r read) (disks_of r read (around host.files a c)) (kind_of (outcome_of_run ran)) (from_to console (host.console c))) h.console
          (subst (λ (files : Option Files). RunsAs (job_of r read) (disks_of r read (from_to files (host.files c))) (kind_of (outcome_of_run ran)) (around host.console b c)) h.files told)),
    );
    usage = ran_no_usage ran;
    files =
        subst (λ (files : Option Files). LeavesBlocks r.disk.text (outcome_of_run ran) (from_to files (host.files c))) h.files
        (ran_files ran r.disk.text touches.keeps unasked);
    disk = tt;
    input = left_ran ran (host.input a) (host.input c) (taken ∙ h.input);
    notes = noted ∙ h.notes;
    asked = (host.asked b, h.asked, (touches.calls, touches.of_disk, touches.asked_are));
    cause = subst (λ (n : ℕ). HasRunCauseOf (from_to n (host.faults c)) (kind_of (outcome_of_run ran))) h.cause cause;
  }

-- ---- no memory

no_memory_no_usage : (command : Option Command) → IsUsageCase command outcome.NoMemory
no_memory_no_usage None = tt
no_memory_no_usage (Some c) = λ e. cc

-- nothing was done
pub did_nothing : {H : Type 0} (host : Ghosts H) (a : H) (command : Option Command) → DoesCommand command outcome.NoMemory (outside host a a)
did_nothing host a command = record {
  answer = at_no_memory (around host.files a a) (host.input a) command (around host.console a a) refl;
  usage = no_memory_no_usage command;
  files = keeps_files command (host.files a);
  disk = no_disk command (around host.files a a);
  input = left_no_memory command outcome.NoMemory (host.input a) (host.input a) tt refl;
  notes = refl;
  asked = asks_no_more command (host.asked a) (host.asked a) refl;
  cause = command_cause command (around host.faults a a) outcome.NoMemory refl;
}

-- ---- notes, one call after another

module _ {H : Type 0} (host : Ghosts H) {E : Type 0} where
  pub no_note : (a : H) → WritesNotes {T = Unit {0}} {E = E} (Ok tt) (outside host a a)
  no_note a = record {
    files = refl;
    input = refl;
    console = refl;
    asked = notes_none (host.asked a);
    cause = record { later = omega arith; rose = tt; stayed = refl };
  }

  pub one_note : {T : Type 0} (result : Result T E) (a b : H) → host.files b ≡ host.files a → host.input b ≡ host.input a → host.console b ≡ host.console a →
      host.asked b ≡ and_noted (host.asked a) → HasCause (host.faults a) (host.faults b) result → WritesNotes result (outside host a b)
  one_note result a b files input console asked cause = record {
    files = files;
    input = input;
    console = console;
    asked = notes_done result (host.asked a) (host.asked b) asked;
    cause = cause;
  }

  pub notes_after : {S T : Type 0} {x : S} {a b c : H} → WritesNotes {E = E} (Ok x) (outside host a b) → (result : Result T E) → WritesNotes result (outside host b c) →
      WritesNotes result (outside host a c)
  notes_after {T = T} {a = a} {b = b} {c = c} first result then = record {
    files = then.files ∙ first.files;
    input = then.input ∙ first.input;
    console = then.console ∙ first.console;
    asked = asked_after result then.asked;
    cause = subst (λ (n : ℕ). HasCause n (host.faults c) result) first.cause.stayed then.cause;
  }
    where
      asked_after : (r : Result T E) → MatchResult r (λ _. AsksSomeNotes (around host.asked b c)) (λ _. AsksNote (around host.asked b c)) →
          MatchResult r (λ _. AsksSomeNotes (around host.asked a c)) (λ _. AsksNote (around host.asked a c))
      asked_after (Ok y) h = notes_then (host.asked a) (host.asked b) (host.asked c) first.asked h
      asked_after (Err failed) h = notes_then_last (host.asked a) (host.asked b) (host.asked c) first.asked h
