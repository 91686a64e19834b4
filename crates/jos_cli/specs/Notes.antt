-- The notes: the traps that are told, and one line that tells the answer. (This system's own.)
use Rattle.std.specs.Prelude.{ℕ, List, [], ◌∷◌, ◌++◌, length, slice_get, unwrap_or, Option, codes, decimal}
use Rattle.jos_elf.specs.declared.fault.ElfFault.{ElfFault}
use Rattle.jos_elf.specs.FaultTexts.{fault_text}
use Rattle.jos_base.specs.declared.errno.Errno.{Errno}
use Rattle.jos_base.specs.SystemCalls.{error_number}
use Rattle.fs_image.specs.declared.fault.ImageFault.{ImageFault}
use Rattle.fs_image.specs.FaultTexts.{image_fault_text}
use Rattle.fs_make.specs.declared.fault.MakeFault.{MakeFault}
use Rattle.fs_make.specs.FaultTexts.{make_fault_text}
use Rattle.jos_sched.specs.declared.fault.ScheduleFault.{ScheduleFault}
use Rattle.jos_sched.specs.declared.fault.ScheduleFault.TheVariants as schedule
use Rattle.jos_kernel.specs.declared.report.End.{End}
use Rattle.jos_kernel.specs.declared.report.End.TheVariants.{Done, Stuck, Budget, TurnsFull}
use Rattle.jos_cli.specs.declared.outcome.Which.{Which}
use Rattle.jos_cli.specs.declared.outcome.Which.TheVariants as which
use Rattle.jos_cli.specs.declared.outcome.Outcome.{Outcome}
use Rattle.jos_cli.specs.declared.outcome.Outcome.TheVariants.{Ran, Usage, Absent, Limit, BadSchedule, BadImage}
use Rattle.jos_cli.specs.declared.outcome.Outcome.TheVariants.{HostFault, NoMemory, Made, BadDisk, NotThere, BadMake}
use Rattle.jos_host.specs.Frames.{Around}
use Rattle.jos_base.specs.Lines.{trace_line}
use Rattle.jos_kernel.specs.declared.trace.TrapLine.{TrapLine}
use Rattle.jos_kernel.specs.Reports.{Reported}
use Rattle.jos_host.specs.Gains.{Gains}

abbrev pub end_text : End → List ℕ
end_text Done = codes "done"
end_text Stuck = codes "stuck"
end_text Budget = codes "budget"
end_text TurnsFull = codes "turns full"

unfoldable pub report_text : Reported → List ℕ
report_text r =
    end_text r.end ++ codes " steps " ++ decimal r.steps ++ codes " turns " ++ decimal (length r.turns)
    ++ codes " refused " ++ decimal r.refused ++ codes " upcalls " ++ decimal r.upcalls ++ codes "\n"

abbrev pub limit_text : Which → List ℕ
limit_text which.Frames = codes "limit: frames\n"
limit_text which.Steps = codes "limit: steps\n"
limit_text which.Trace = codes "limit: trace\n"
limit_text which.Images = codes "limit: images\n"
limit_text which.Schedule = codes "limit: schedule\n"
limit_text which.Image = codes "limit: image\n"
limit_text which.Input = codes "limit: input\n"
limit_text which.Boot = codes "limit: boot\n"
limit_text which.Blocks = codes "limit: blocks\n"
limit_text which.File = codes "limit: file\n"
limit_text which.Args = codes "limit: args\n"
limit_text which.Seed = codes "limit: seed\n"

abbrev pub schedule_fault_text : ScheduleFault → List ℕ
schedule_fault_text (schedule.NotANumber place) = codes "not a number " ++ decimal place
schedule_fault_text (schedule.Zero place) = codes "zero " ++ decimal place
schedule_fault_text (schedule.TooBig place) = codes "too big " ++ decimal place
schedule_fault_text schedule.TooMany = codes "too many"
schedule_fault_text schedule.NoMemory = codes "out of memory"

abbrev pub bad_schedule_text : ScheduleFault → List ℕ
bad_schedule_text fault = codes "schedule: " ++ schedule_fault_text fault ++ codes "\n"

abbrev pub bad_image_text : ElfFault → List ℕ
bad_image_text fault = codes ": bad image: " ++ fault_text fault ++ codes "\n"

abbrev pub made_text : ℕ → List ℕ
made_text bytes = codes "made " ++ decimal bytes ++ codes "\n"

abbrev pub bad_disk_text : ImageFault → List ℕ
bad_disk_text fault = codes "bad disk: " ++ image_fault_text fault ++ codes "\n"

abbrev pub not_there_text : Errno → List ℕ
not_there_text errno = codes "not there: " ++ decimal (error_number errno) ++ codes "\n"

abbrev pub bad_make_text : MakeFault → List ℕ
bad_make_text fault = codes "cannot make: " ++ make_fault_text fault ++ codes "\n"

-- the line, but for the word that begins it
abbrev pub note_text : Outcome → List ℕ
note_text (Ran report trace) = report_text report
note_text Usage = codes "usage: jos COMMAND [OPTIONS] WORDS\n"
note_text (Absent word) = codes ": absent\n"
note_text (Limit which) = limit_text which
note_text (BadSchedule fault) = bad_schedule_text fault
note_text (BadImage word fault) = bad_image_text fault
note_text (HostFault stopped) = codes "host fault\n"
note_text NoMemory = codes "out of memory\n"
note_text (Made bytes) = made_text bytes
note_text (BadDisk fault) = bad_disk_text fault
note_text (NotThere errno) = not_there_text errno
note_text (BadMake fault) = bad_make_text fault

-- the word that begins the line, if one does
abbrev pub word_in_note : List (List ℕ) → Outcome → List ℕ
word_in_note words (Absent word) = unwrap_or (slice_get words word) []
word_in_note words (BadImage word fault) = unwrap_or (slice_get words word) []
word_in_note words _ = []

-- ---- the traps

unfoldable pub trace_text : List TrapLine → List ℕ
trace_text [] = []
trace_text (trap ∷ rest) = trace_line trap.id trap.trap trap.error trap.va trap.ip ++ trace_text rest

-- a line for each trap of a run that is told, in their order
abbrev pub traps_told : Outcome → List ℕ
traps_told (Ran report trace) = trace_text trace.items
traps_told _ = []

-- ---- all of it

abbrev pub note_of : List (List ℕ) → Outcome → List ℕ
note_of words outcome = word_in_note words outcome ++ (traps_told outcome ++ note_text outcome)

-- The notes have gained a line for each trap that is told, and then the line that tells the answer; where a call of the host failed, some bytes.
abbrev pub IsNoted : List (List ℕ) → Outcome → Around (Option (List ℕ)) → Type 0
IsNoted words (HostFault stopped) notes = (bytes : List ℕ) × Gains notes bytes
IsNoted words outcome notes = Gains notes (note_of words outcome)
