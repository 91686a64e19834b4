-- What the functions of a command do, seen from outside.
use Rattle.std.specs.Prelude.{◌≡◌, ◌≢◌, ℕ, List, [], Option, IfSome, MatchOption, option_map, Result, MatchResult}
use Rattle.jos_host.specs.Asked.{Asked}
use Rattle.jos_host.specs.Told.{HasCause}
use Rattle.jos_words.specs.Arguments.{Word}
use Rattle.jos_words.specs.Commands.{Command}
use Rattle.fs_image.specs.DiskHeld.{IsReadInPieces}
use Rattle.jos_cli.specs.declared.outcome.Outcome.{Outcome}
use Rattle.jos_cli.specs.declared.outcome.Outcome.TheVariants.{Usage}
use Rattle.jos_cli.specs.Answer.{Expected}
use Rattle.jos_cli.specs.Kinds.{kind_of, Answers}
use Rattle.jos_cli.specs.Outcomes.{AnswersCommand, IsUsageCase, HasOutcomeCause, HasCommandCause, LeavesInput, LeavesInputBy, IsMemoryCase}
use Rattle.jos_cli.specs.FilesAsked.{AsksFor, AsksAll, AsksScheduleAndDisk, AsksFiles, write_calls, AsksSomeNotes, AsksNote}
use Rattle.jos_cli.specs.FilesLeft.{told_with, LeavesBy, LeavesFiles, LeavesGoodDisk}
use Rattle.jos_cli.specs.Outside.{Outside, IsKept}
use Rattle.jos_cli.specs.Stages.{IsUnread, IsUnreadOnDisk}

-- What a command does, but for its note.
pub record DoesCommand (command : Option Command) (outcome : Outcome) (seen : Outside) : Type 0 where
  pub answer : AnswersCommand seen.files seen.input.before command outcome seen.console
  pub usage : IsUsageCase command outcome
  pub files : LeavesFiles command outcome seen.files
  pub disk : LeavesGoodDisk command outcome seen.files
  pub input : LeavesInput command outcome seen.input
  pub notes : IsKept seen.notes
  pub asked : AsksFiles command seen.asked
  pub cause : HasCommandCause command seen.faults outcome

-- ---- what is read

-- Files are read by these calls, the first of them alone where one is not read, and nothing else is done.
pub record ReadsFiles (calls : List Asked) (refusal : Option Outcome) (seen : Outside) : Type 0 where
  pub unread : IfSome refusal IsUnread
  pub files : IsKept seen.files
  pub input : IsKept seen.input
  pub console : IsKept seen.console
  pub notes : IsKept seen.notes
  pub asked : MatchOption refusal (AsksAll calls seen.asked) (λ _. AsksFor calls seen.asked)
  pub cause : MatchOption refusal (IsKept seen.faults) (HasOutcomeCause seen.faults)

-- Files are read by these calls and then all input, up to what is refused, and nothing else is done.
pub record Gathers (calls : List Asked) (refusal : Option Outcome) (seen : Outside) : Type 0 where
  pub usage : IfSome refusal (λ outcome. outcome ≢ Usage)
  pub files : IsKept seen.files
  pub input : MatchOption refusal (seen.input.after ≡ option_map (λ _. []) seen.input.before) (λ outcome. LeavesInputBy (kind_of outcome) seen.input)
  pub console : IsKept seen.console
  pub notes : IsKept seen.notes
  pub asked : MatchOption refusal (AsksAll calls seen.asked) (λ _. AsksFor calls seen.asked)
  pub cause : MatchOption refusal (IsKept seen.faults) (HasOutcomeCause seen.faults)

-- A disk is read in pieces, up to what is refused, and nothing else is done.
pub record ReadsDisk (name : List ℕ) (refusal : Option Outcome) (seen : Outside) : Type 0 where
  pub unread : IfSome refusal IsUnreadOnDisk
  pub files : IsKept seen.files
  pub input : IsKept seen.input
  pub console : IsKept seen.console
  pub notes : IsKept seen.notes
  pub asked : IsReadInPieces name seen.asked
  pub cause : MatchOption refusal (IsKept seen.faults) (HasOutcomeCause seen.faults)

-- A schedule is read, then a disk in pieces and then all input, up to what is refused, and nothing else is done.
pub record GathersProgram (schedule : Option Word) (disk : List ℕ) (refusal : Option Outcome) (seen : Outside) : Type 0 where
  pub usage : IfSome refusal (λ outcome. outcome ≢ Usage)
  pub files : IsKept seen.files
  pub input : MatchOption refusal (seen.input.after ≡ option_map (λ _. []) seen.input.before) (λ outcome. LeavesInputBy (kind_of outcome) seen.input)
  pub console : IsKept seen.console
  pub notes : IsKept seen.notes
  pub asked : AsksScheduleAndDisk schedule disk seen.asked
  pub cause : MatchOption refusal (IsKept seen.faults) (HasOutcomeCause seen.faults)

-- ---- what is written

-- This is answered and comes to the console, and nothing else is done.
pub record PrintsAnswer (e : Expected) (outcome : Outcome) (seen : Outside) : Type 0 where
  pub answer : Answers e outcome seen.console
  pub usage : outcome ≢ Usage
  pub files : IsKept seen.files
  pub input : IsKept seen.input
  pub notes : IsKept seen.notes
  pub asked : IsKept seen.asked
  pub cause : HasOutcomeCause seen.faults outcome

-- This is answered, and these bytes are written to the file, where any are; nothing else is done.
pub record WritesFile (e : Expected) (file bytes : List ℕ) (outcome : Outcome) (seen : Outside) : Type 0 where
  pub answer : Answers e outcome seen.console
  pub usage : outcome ≢ Usage
  pub files : LeavesBy file (told_with seen.files.before file bytes) outcome seen.files
  pub input : IsKept seen.input
  pub notes : IsKept seen.notes
  pub asked : AsksFor (write_calls file) seen.asked
  pub cause : HasOutcomeCause seen.faults outcome

-- These bytes are written to the file, up to what is refused, and nothing else is done.
pub record MakesFile (file bytes : List ℕ) (refusal : Option Outcome) (seen : Outside) : Type 0 where
  pub unwritten : IfSome refusal IsMemoryCase
  pub files : MatchOption refusal (seen.files.after ≡ told_with seen.files.before file bytes)
      (λ outcome. LeavesBy file (told_with seen.files.before file bytes) outcome seen.files)
  pub input : IsKept seen.input
  pub console : IsKept seen.console
  pub notes : IsKept seen.notes
  pub asked : MatchOption refusal (AsksAll (write_calls file) seen.asked) (λ _. AsksFor (write_calls file) seen.asked)
  pub cause : MatchOption refusal (IsKept seen.faults) (HasOutcomeCause seen.faults)

-- ---- the notes

-- Notes are written by some calls, the last of which may have failed, and nothing else is done.
pub record WritesNotes {T E : Type 0} (result : Result T E) (seen : Outside) : Type 0 where
  pub files : IsKept seen.files
  pub input : IsKept seen.input
  pub console : IsKept seen.console
  pub asked : MatchResult result (λ _. AsksSomeNotes seen.asked) (λ _. AsksNote seen.asked)
  pub cause : HasCause seen.faults.before seen.faults.after result
