-- The kinds of outcomes, and what one of them says of the answer that is expected. (This system's own.)
use Rattle.std.specs.Prelude.{◌≡◌, ℕ, List, Option}
use Rattle.jos_host.specs.Frames.{Around}
use Rattle.jos_host.specs.Gains.{Gains, GainsPart}
use Rattle.jos_kernel.specs.Reports.{CutOff}
use Rattle.fs_image.specs.Answers.{fault_of}
use Rattle.jos_cli.specs.declared.outcome.Outcome.{Outcome}
use Rattle.jos_cli.specs.declared.outcome.Outcome.TheVariants.{Ran, Usage, Absent, Limit, BadSchedule, BadImage}
use Rattle.jos_cli.specs.declared.outcome.Outcome.TheVariants.{HostFault, NoMemory, Made, BadDisk, NotThere, BadMake}
use Rattle.jos_cli.specs.Answer.{Answer, usage, absent, limit, bad_schedule, bad_image, ran, made, bad_disk, not_there, bad_make}
use Rattle.jos_cli.specs.Answer.{Expected}

-- an outcome: an answer, or a call of the host failed, or there was no memory
pub data Kind : Type 0 where
  answered : Answer → Kind
  cut_off : CutOff → Kind
  no_memory : Kind

abbrev pub kind_of : Outcome → Kind
kind_of (Ran report trace) = answered (ran report trace.items)
kind_of Usage = answered usage
kind_of (Absent word) = answered (absent word)
kind_of (Limit which) = answered (limit which)
kind_of (BadSchedule fault) = answered (bad_schedule fault)
kind_of (BadImage word fault) = answered (bad_image word fault)
kind_of (Made bytes) = answered (made bytes)
kind_of (BadDisk fault) = answered (bad_disk (fault_of fault))
kind_of (NotThere errno) = answered (not_there errno)
kind_of (BadMake fault) = answered (bad_make fault)
kind_of (HostFault stopped) = cut_off stopped
kind_of NoMemory = no_memory

-- The outcome is what is expected, and the console has gained what is expected; a failed call of the host leaves
-- a part of that, and want of memory comes before anything is written.
abbrev pub AnswersBy : Expected → Kind → Around (Option (List ℕ)) → Type 0
AnswersBy e (answered answer) console = (answer ≡ e.answer) × Gains console e.console
AnswersBy e (cut_off stopped) console = GainsPart console e.console
AnswersBy e no_memory console = console.after ≡ console.before

abbrev pub Answers : Expected → Outcome → Around (Option (List ℕ)) → Type 0
Answers e outcome console = AnswersBy e (kind_of outcome) console
