-- The note where a call of the host failed. (This system's own.)
use Rattle.std.specs.Prelude.{ℕ, ◌⊎◌, List, Option, codes}
use Rattle.jos_host.specs.Files.{Files}
use Rattle.jos_host.specs.Told.{Rose}
use Rattle.jos_cli.specs.declared.outcome.Outcome.{Outcome}
use Rattle.jos_cli.specs.declared.outcome.Outcome.TheVariants.{HostFault}
use Rattle.jos_host.specs.Frames.{Around}
use Rattle.jos_host.specs.Gains.{Gains, GainsPart}
use Rattle.jos_cli.specs.Commands.{command_of}
use Rattle.jos_cli.specs.Outcomes.{AnswersCommand}
use Rattle.jos_cli.specs.Notes.{note_of}

-- a fact for an answer that tells a failed call of the host
abbrev pub IfHostFault : Outcome → Type 0 → Type 0
IfHostFault (HostFault stopped) P = P
IfHostFault outcome P = Unit {0}

-- a fact for any other answer
abbrev pub IfNoFault : Outcome → Type 0 → Type 0
IfNoFault (HostFault stopped) P = ⊥
IfNoFault outcome P = P

-- a second call failed, after the first
abbrev pub RoseTwice : Around ℕ → Type 0
RoseTwice faults = (between : ℕ) × Rose faults.before between × Rose between faults.after

-- The line `host fault` is noted; or a part of it, where a second call failed; or a part of the line of the answer that
-- the words and the files decide, where it was its note that failed.
unfoldable pub FaultIsNoted : Around (Option Files) → Option (List ℕ) → List (List ℕ) → Around ℕ → Around (Option (List ℕ)) → Around (Option (List ℕ)) → Type 0
FaultIsNoted files input words faults console notes =
    Gains notes (codes "host fault\n")
    ⊎ ((RoseTwice faults × GainsPart notes (codes "host fault\n"))
    ⊎ ((own : Outcome) × IfNoFault own (AnswersCommand files input (command_of words) own console) × GainsPart notes (note_of words own)))
