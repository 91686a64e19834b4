-- What the console has where the note of an outcome could not be written.
use Rattle.std.proofs.Common.{◌≡◌, ℕ, ◌<◌, ◌≤◌, List, Option, Some, None, refl, sym, subst, arith}
use mathlib.Core.Logic.{inl, inr}
use Rattle.std.specs.Prelude.{◌^◌}
use Rattle.jos_host.specs.Files.{Files}
use Rattle.jos_host.specs.Told.{Rose}
use Rattle.jos_cli.specs.declared.outcome.Outcome.{Outcome}
use Rattle.jos_cli.specs.declared.outcome.Outcome.TheVariants as outcome
use Rattle.jos_host.specs.Frames.{Around, from_to}
use Rattle.jos_host.specs.Gains.{Gains, GainsPart}
use Rattle.jos_words.specs.Commands.{Command, exo, run, demo, mkfs, ls, cat, gen}
use Rattle.jos_cli.specs.Commands.{command_of, run_of_gen}
use Rattle.jos_cli.specs.Found.{sources_of_exo}
use Rattle.jos_cli.specs.Answer.{Expected, refused, usage, expected_of_exo, expected_of_demo}
use Rattle.jos_cli.specs.Making.{expected_of_mkfs}
use Rattle.jos_cli.specs.Disks.{expected_of_ls, expected_of_cat}
use Rattle.jos_cli.specs.Kinds.{Kind, answered, cut_off, no_memory, kind_of, AnswersBy}
use Rattle.jos_cli.specs.FilesLeft.{told_with_work}
use Rattle.jos_cli.specs.RunAnswers.{AnswersRun, AnswersGen}
use Rattle.jos_cli.specs.Outcomes.{AnswersCommand, HasCauseOf, HasOutcomeCause, HasRunCauseOf, HasCommandCause}
use Rattle.jos_cli.specs.Stages.{nothing_done, cut_of, cut_behind}
use Rattle.jos_cli.specs.Notes.{note_of, IsNoted}
use Rattle.jos_cli.specs.FaultNotes.{IfHostFault, IfNoFault, FaultIsNoted}
use Rattle.jos_cli.proofs.Judging.{part_of}
use Rattle.jos_cli.proofs.RunAnswered.{words_stage, gen_stage}
use Rattle.jos_cli.proofs.RunDisks.{begins_with_disk}
use Rattle.jos_cli.proofs.Finding.{some_found, some_run_found, some_input, some_file, some_are_found}

part : (e : Expected) (kind : Kind) (console : Around (Option (List ℕ))) (later : Option (List ℕ)) → AnswersBy e kind console → later ≡ console.after →
    GainsPart (from_to console.before later) e.console
part e kind console later h same =
    subst (λ (c : Option (List ℕ)). GainsPart (from_to console.before c) e.console) (sym same) (part_of e kind console h)

pub answers_behind : (files : Around (Option Files)) (input : Option (List ℕ)) (command : Option Command) (own : Outcome) (console : Around (Option (List ℕ)))
    (left : Option Files) (later : Option (List ℕ)) → AnswersCommand files input command own console → left ≡ files.after → later ≡ console.after →
    AnswersCommand (from_to files.before left) input command (outcome.HostFault (cut_behind command own)) (from_to console.before later)
answers_behind files input None own console left later h stays same = part (refused usage) (kind_of own) console later h same
answers_behind files input (Some (demo d)) own console left later h stays same = part (expected_of_demo d.name.text) (kind_of own) console later h same
answers_behind files input (Some (exo e)) own console left later h stays same =
    (h.0, h.1, h.2, h.3, part (expected_of_exo e h.0 h.1) (kind_of own) console later h.4 same)
answers_behind files input (Some (run r)) own console left later h stays same = (
  h.0,
  h.1,
  h.2,
  h.3,
  h.4,
  subst (λ (f : Option Files). AnswersRun r h.0 h.1 (from_to files.before f) (cut_off (cut_of (kind_of own))) (from_to console.before later)) (sym stays)
      (subst (λ (c : Option (List ℕ)). AnswersRun r h.0 h.1 files (cut_off (cut_of (kind_of own))) (from_to console.before c)) (sym same)
      ((words_stage r h.0 h.1 files).behind (kind_of own) console h.5)),
)
answers_behind files input (Some (mkfs m)) own console left later h stays same =
    (h.0, h.1, part (expected_of_mkfs m h.0) (kind_of own) console later h.2 same)
answers_behind files input (Some (ls l)) own console left later h stays same =
    (h.0, h.1, part (expected_of_ls l h.0) (kind_of own) console later h.2 same)
answers_behind files input (Some (cat c)) own console left later h stays same =
    (h.0, h.1, part (expected_of_cat c h.0) (kind_of own) console later h.2 same)
answers_behind files input (Some (gen g)) own console left later h stays same =
    let made = told_with_work files.before g in (
      h.0,
      h.1,
      h.2,
      h.3,
      h.4,
      subst (λ (f : Option Files). AnswersGen g h.0 h.1 (from_to made f) (cut_off (cut_of (kind_of own))) (from_to console.before later)) (sym stays)
          (subst (λ (c : Option (List ℕ)). AnswersGen g h.0 h.1 (from_to made files.after) (cut_off (cut_of (kind_of own))) (from_to console.before c)) (sym same)
          ((gen_stage g h.0 h.1 (from_to made files.after)).behind (kind_of own) console h.5)),
    )

-- no turns are told where there was no memory
pub behind_memory : (command : Option Command) → cut_behind command outcome.NoMemory ≡ nothing_done
behind_memory None = refl
behind_memory (Some (demo d)) = refl
behind_memory (Some (exo e)) = refl
behind_memory (Some (run r)) = refl
behind_memory (Some (mkfs m)) = refl
behind_memory (Some (ls l)) = refl
behind_memory (Some (cat c)) = refl
behind_memory (Some (gen g)) = refl

-- ---- the causes

-- without turns the cause is that of any command
pub run_cause : (faults : Around ℕ) (kind : Kind) → HasCauseOf faults kind → HasRunCauseOf faults kind
run_cause faults (answered answer) h = h
run_cause faults (cut_off stopped) h = h.0
run_cause faults no_memory h = h

pub command_cause : (command : Option Command) (faults : Around ℕ) (own : Outcome) → HasOutcomeCause faults own → HasCommandCause command faults own
command_cause None faults own h = h
command_cause (Some (demo d)) faults own h = h
command_cause (Some (exo e)) faults own h = h
command_cause (Some (run r)) faults own h = run_cause faults (kind_of own) h
command_cause (Some (mkfs m)) faults own h = h
command_cause (Some (ls l)) faults own h = h
command_cause (Some (cat c)) faults own h = h
command_cause (Some (gen g)) faults own h = run_cause faults (kind_of own) h

-- and with them the count is the same
pub cause_of : (command : Option Command) (faults : Around ℕ) (own : Outcome) → HasCommandCause command faults own → HasRunCauseOf faults (kind_of own)
cause_of None faults own h = run_cause faults (kind_of own) h
cause_of (Some (demo d)) faults own h = run_cause faults (kind_of own) h
cause_of (Some (exo e)) faults own h = run_cause faults (kind_of own) h
cause_of (Some (run r)) faults own h = h
cause_of (Some (mkfs m)) faults own h = run_cause faults (kind_of own) h
cause_of (Some (ls l)) faults own h = run_cause faults (kind_of own) h
cause_of (Some (cat c)) faults own h = run_cause faults (kind_of own) h
cause_of (Some (gen g)) faults own h = h

-- a failed call of the host, which a note was to be written by
fault_cause : (command : Option Command) (faults : Around ℕ) (own : Outcome) → Rose faults.before faults.after →
    HasCommandCause command faults (outcome.HostFault (cut_behind command own))
fault_cause None faults own rose = (rose, refl, refl)
fault_cause (Some (demo d)) faults own rose = (rose, refl, refl)
fault_cause (Some (exo e)) faults own rose = (rose, refl, refl)
fault_cause (Some (run r)) faults own rose = rose
fault_cause (Some (mkfs m)) faults own rose = (rose, refl, refl)
fault_cause (Some (ls l)) faults own rose = (rose, refl, refl)
fault_cause (Some (cat c)) faults own rose = (rose, refl, refl)
fault_cause (Some (gen g)) faults own rose = rose

rose_behind : (kind : Kind) (a b c : ℕ) → HasRunCauseOf (from_to a b) kind → Rose b c → b ≤ c → c < 2 ^ 64 → Rose a c
rose_behind (answered answer) a b c h rose later fits = subst (λ (n : ℕ). Rose n c) h rose
rose_behind no_memory a b c h rose later fits = subst (λ (n : ℕ). Rose n c) h rose
rose_behind (cut_off stopped) a b c (inl h) rose later fits = inl (omega (arith, h, later))
rose_behind (cut_off stopped) a b c (inr h) rose later fits = inr (omega (arith, h, later, fits))

pub cause_behind : (command : Option Command) (own : Outcome) (a b c : ℕ) → HasCommandCause command (from_to a b) own → Rose b c → b ≤ c → c < 2 ^ 64 →
    HasCommandCause command (from_to a c) (outcome.HostFault (cut_behind command own))
cause_behind command own a b c h rose later fits =
    fault_cause command (from_to a c) own (rose_behind (kind_of own) a b c (cause_of command (from_to a b) own h) rose later fits)

-- ---- the note where a call of the host failed

-- the note is written
pub noted : (files : Around (Option Files)) (input : Option (List ℕ)) (words : List (List ℕ)) (outcome : Outcome) (faults : Around ℕ) (console notes : Around (Option (List ℕ))) →
    Gains notes (note_of words outcome) → IfHostFault outcome (FaultIsNoted files input words faults console notes)
unfolding FaultIsNoted
noted files input words (outcome.HostFault stopped) faults console notes h = inl h
noted files input words (outcome.Ran report trace) faults console notes h = tt
noted files input words outcome.Usage faults console notes h = tt
noted files input words (outcome.Absent word) faults console notes h = tt
noted files input words (outcome.Limit which) faults console notes h = tt
noted files input words (outcome.BadSchedule fault) faults console notes h = tt
noted files input words (outcome.BadImage word fault) faults console notes h = tt
noted files input words outcome.NoMemory faults console notes h = tt
noted files input words (outcome.Made bytes) faults console notes h = tt
noted files input words (outcome.BadDisk fault) faults console notes h = tt
noted files input words (outcome.NotThere errno) faults console notes h = tt
noted files input words (outcome.BadMake fault) faults console notes h = tt

pub is_noted : (words : List (List ℕ)) (outcome : Outcome) (notes : Around (Option (List ℕ))) → Gains notes (note_of words outcome) → IsNoted words outcome notes
is_noted words (outcome.HostFault stopped) notes h = (note_of words (outcome.HostFault stopped), h)
is_noted words (outcome.Ran report trace) notes h = h
is_noted words outcome.Usage notes h = h
is_noted words (outcome.Absent word) notes h = h
is_noted words (outcome.Limit which) notes h = h
is_noted words (outcome.BadSchedule fault) notes h = h
is_noted words (outcome.BadImage word fault) notes h = h
is_noted words outcome.NoMemory notes h = h
is_noted words (outcome.Made bytes) notes h = h
is_noted words (outcome.BadDisk fault) notes h = h
is_noted words (outcome.NotThere errno) notes h = h
is_noted words (outcome.BadMake fault) notes h = h

-- or it failed
module _ (files : Around (Option Files)) (input : Option (List ℕ)) (words : List (List ℕ)) (faults : Around ℕ) (now : ℕ) (console notes : Around (Option (List ℕ)))
    (left : Option Files) (later : Option (List ℕ)) (rose : Rose faults.after now) (stays : left ≡ files.after) (same : later ≡ console.after) where
  others : (own : Outcome) → IfNoFault own (AnswersCommand (from_to files.before left) input (command_of words) own (from_to console.before later)) →
      GainsPart notes (note_of words own) → FaultIsNoted (from_to files.before left) input words (from_to faults.before now) (from_to console.before later) notes
  unfolding FaultIsNoted
  others own answer part = inr (inr (own, answer, part))

  moved : (own : Outcome) → AnswersCommand files input (command_of words) own console →
      AnswersCommand (from_to files.before left) input (command_of words) own (from_to console.before later)
  moved own answer =
      subst (λ (f : Option Files). AnswersCommand (from_to files.before f) input (command_of words) own (from_to console.before later)) (sym stays)
      (subst (λ (c : Option (List ℕ)). AnswersCommand files input (command_of words) own (from_to console.before c)) (sym same) answer)

  pub not_noted : (own : Outcome) → HasCommandCause (command_of words) faults own → AnswersCommand files input (command_of words) own console → GainsPart notes (note_of words own) →
      FaultIsNoted (from_to files.before left) input words (from_to faults.before now) (from_to console.before later) notes
  unfolding FaultIsNoted
  not_noted (outcome.HostFault stopped) cause answer part = inr (inl ((faults.after, cause_of (command_of words) faults (outcome.HostFault stopped) cause, rose), part))
  not_noted (outcome.Ran report trace) cause answer part = others (outcome.Ran report trace) (moved (outcome.Ran report trace) answer) part
  not_noted outcome.Usage cause answer part = others outcome.Usage (moved outcome.Usage answer) part
  not_noted (outcome.Absent word) cause answer part = others (outcome.Absent word) (moved (outcome.Absent word) answer) part
  not_noted (outcome.Limit which) cause answer part = others (outcome.Limit which) (moved (outcome.Limit which) answer) part
  not_noted (outcome.BadSchedule fault) cause answer part = others (outcome.BadSchedule fault) (moved (outcome.BadSchedule fault) answer) part
  not_noted (outcome.BadImage word fault) cause answer part = others (outcome.BadImage word fault) (moved (outcome.BadImage word fault) answer) part
  not_noted outcome.NoMemory cause answer part = others outcome.NoMemory (moved outcome.NoMemory answer) part
  not_noted (outcome.Made bytes) cause answer part = others (outcome.Made bytes) (moved (outcome.Made bytes) answer) part
  not_noted (outcome.BadDisk fault) cause answer part = others (outcome.BadDisk fault) (moved (outcome.BadDisk fault) answer) part
  not_noted (outcome.NotThere errno) cause answer part = others (outcome.NotThere errno) (moved (outcome.NotThere errno) answer) part
  not_noted (outcome.BadMake fault) cause answer part = others (outcome.BadMake fault) (moved (outcome.BadMake fault) answer) part

-- there was no memory
pub at_no_memory : (files : Around (Option Files)) (input : Option (List ℕ)) (command : Option Command) (console : Around (Option (List ℕ))) →
    console.after ≡ console.before → AnswersCommand files input command outcome.NoMemory console
at_no_memory files input None console same = same
at_no_memory files input (Some (demo d)) console same = same
at_no_memory files input (Some (exo e)) console same =
    let found = some_found files.before (sources_of_exo e) in let given = some_input input in (found.0, given.0, found.1, given.1, same)
at_no_memory files input (Some (run r)) console same =
    let found = some_run_found files.before r in let given = some_input input in (
      found.0,
      given.0,
      found.1,
      given.1,
      begins_with_disk r found.0 given.0 files.before found.1,
      (words_stage r found.0 given.0 files).memory console same,
    )
at_no_memory files input (Some (mkfs m)) console same = let found = some_are_found files.before m.files in (found.0, found.1, same)
at_no_memory files input (Some (ls l)) console same = let file = some_file files.before l.disk in (file.0, file.1, same)
at_no_memory files input (Some (cat c)) console same = let file = some_file files.before c.disk in (file.0, file.1, same)
at_no_memory files input (Some (gen g)) console same =
    let made = told_with_work files.before g in
    let found = some_run_found made (run_of_gen g) in let given = some_input input in (
      found.0,
      given.0,
      found.1,
      given.1,
      begins_with_disk (run_of_gen g) found.0 given.0 made found.1,
      (gen_stage g found.0 given.0 (from_to made files.after)).memory console same,
    )

-- and then nothing was written
pub unwritten : (files : Around (Option Files)) (input : Option (List ℕ)) (command : Option Command) (console : Around (Option (List ℕ))) →
    AnswersCommand files input command outcome.NoMemory console → console.after ≡ console.before
unwritten files input None console h = h
unwritten files input (Some (demo d)) console h = h
unwritten files input (Some (exo e)) console h = h.4
unwritten files input (Some (run r)) console h = (words_stage r h.0 h.1 files).unwritten console h.5
unwritten files input (Some (mkfs m)) console h = h.2
unwritten files input (Some (ls l)) console h = h.2
unwritten files input (Some (cat c)) console h = h.2
unwritten files input (Some (gen g)) console h = (gen_stage g h.0 h.1 (from_to (told_with_work files.before g) files.after)).unwritten console h.5
