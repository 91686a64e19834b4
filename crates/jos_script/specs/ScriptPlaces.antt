-- Which script each place of the code stands for, and which call each of its calls is.
use Rattle.std.specs.Prelude.{ℕ, ◌+◌, Bool, List, [], ◌∷◌, ◌++◌, drop, map, slice_index_or, unwrap_or, Option, Some, None}
use Rattle.std.specs.Prelude.{if◌then◌else◌}
use Rattle.jos_shell.specs.Grammar.{Asked, nothing_asked, commands_in}
use Rattle.jos_script.specs.declared.numbers.TheConstants.{INPUT_MODE, OUTPUT_MODE, SLASH}
use Rattle.jos_script.specs.declared.answer.Ends.{Ends}
use Rattle.jos_script.specs.declared.text.Text.TheVariants.{SyntaxError, Error}
use Rattle.jos_script.specs.declared.call.Path.{Path}
use Rattle.jos_script.specs.declared.call.ShellCall.{ShellCall}
use Rattle.jos_script.specs.declared.call.ShellCall.TheVariants as call
use Rattle.jos_script.specs.declared.child.Redirection.{Redirection}
use Rattle.jos_script.specs.declared.child.Redirection.TheVariants.{Input, Output}
use Rattle.jos_script.specs.declared.child.ChildStep.{ChildStep}
use Rattle.jos_script.specs.declared.child.ChildStep.TheVariants as child_step
use Rattle.jos_script.specs.declared.place.Job.{Job}
use Rattle.jos_script.specs.declared.place.Behind.{Behind}
use Rattle.jos_script.specs.declared.place.BehindStep.{BehindStep}
use Rattle.jos_script.specs.declared.place.BehindStep.TheVariants as behind_step
use Rattle.jos_script.specs.declared.place.Place.{Place}
use Rattle.jos_script.specs.declared.place.Place.TheVariants as place
use Rattle.jos_script.specs.declared.place.Next.{Next}
use Rattle.jos_script.specs.declared.place.Next.TheVariants.{ReadLine, At}
use Rattle.jos_script.specs.declared.place.Read.{Read}
use Rattle.jos_script.specs.declared.place.Read.TheVariants.{Keep, Pass, Line}
use Rattle.jos_script.specs.ShellScript.{Call, print, pipe, fork, dup, close, open_file, spawn, wait, exit}
use Rattle.jos_script.specs.ShellScript.{Script, asks, reads, exits, ◌>>◌, waits, finishes, word_of, word_in, text_bytes, prints}
use Rattle.jos_script.specs.ShellScript.{to_pipe, opened, spawns, output_then_spawn, files_then_spawn}
use Rattle.jos_script.specs.ShellScript.{JobState, new_job, closes_before, closes_both, goes_on, forks, piped, runs}

-- ---- calls

abbrev pub path_bytes : List ℕ → Path → List ℕ
path_bytes line path = if path.slash then SLASH ∷ word_in line path.word else word_in line path.word

abbrev pub told : List ℕ → ShellCall → Call
told line (call.Print text) = print (text_bytes line text)
told line call.Pipe = pipe
told line call.Fork = fork
told line (call.Dup old new) = dup old new
told line (call.Close fd) = close fd
told line (call.OpenFile path mode) = open_file (word_in line path) mode
told line (call.Spawn path words) = spawn (path_bytes line path) (map (word_in line) words.items)
told line (call.Wait id) = wait id
told line call.Exit = exit

-- ---- the commands of the line

unfoldable pub commands_of : List ℕ → List Asked
commands_of line = unwrap_or (commands_in line) []

unfoldable pub command_at : List ℕ → ℕ → Asked
command_at line number = slice_index_or (commands_of line) number nothing_asked

abbrev pub end_of : Bool → Script
end_of last = if last then exits else reads []

-- the line from one of its commands on
unfoldable pub runs_from : List ℕ → Bool → ℕ → Option JobState → Script
runs_from line last number job = runs line (end_of last) job (drop number (commands_of line))

-- ---- the child of a command

abbrev pub mode_of : Redirection → ℕ
mode_of Input = INPUT_MODE
mode_of Output = OUTPUT_MODE

abbrev pub descriptor_of : Redirection → ℕ
descriptor_of Input = 0
descriptor_of Output = 1

-- what comes when the file is open
abbrev pub behind_file : List ℕ → Asked → Redirection → Script
behind_file line command Input = output_then_spawn line command
behind_file line command Output = spawns line command

abbrev pub child_at : List ℕ → Asked → ChildStep → Script
child_at line command (child_step.JoinBefore before ends) = dup before 0 >> close before >> to_pipe ends (files_then_spawn line command)
child_at line command (child_step.CloseBefore before ends) = close before >> to_pipe ends (files_then_spawn line command)
child_at line command (child_step.JoinPipe ends) =
    dup ends.writing 1 >> close ends.reading >> close ends.writing >> files_then_spawn line command
child_at line command (child_step.CloseReading ends) = close ends.reading >> close ends.writing >> files_then_spawn line command
child_at line command (child_step.CloseWriting writing) = close writing >> files_then_spawn line command
child_at line command (child_step.OpenFile redirection file) =
    asks (open_file (word_in line file) (mode_of redirection)) (λ answer.
    opened line file (descriptor_of redirection) (behind_file line command redirection) (word_of answer))
child_at line command (child_step.JoinFile redirection fd) =
    dup fd (descriptor_of redirection) >> close fd >> behind_file line command redirection
child_at line command (child_step.CloseFile redirection fd) = close fd >> behind_file line command redirection
child_at line command child_step.Spawn = spawns line command
child_at line command (child_step.CloseAll fd id) = finishes fd id
child_at line command (child_step.Print text) = prints line text exits
child_at line command child_step.Exit = exits

abbrev pub child_script : List ℕ → ℕ → ChildStep → Script
child_script line number step = child_at line (command_at line number) step

-- ---- the shell

abbrev pub job_state : Job → JobState
job_state job = record { before = job.before; children = job.children.items }

-- the line behind the command of a job
abbrev pub rest_of : List ℕ → Job → Option JobState → Script
rest_of line job next = runs_from line job.last (job.number + 1) next

abbrev pub rest_behind : List ℕ → Behind → Option JobState → Script
rest_behind line behind next = runs_from line behind.last behind.next next

-- the job is over when its children have ended
abbrev pub waits_behind : List ℕ → Behind → Script
waits_behind line behind = waits behind.children.items (rest_behind line behind (Some new_job))

abbrev pub behind_at : List ℕ → Behind → BehindStep → Script
behind_at line behind (behind_step.CloseBefore before ends) =
    close before >> goes_on ends behind.children.items (rest_behind line behind)
behind_at line behind (behind_step.CloseWriting ends) =
    close ends.writing >> rest_behind line behind (Some (record { before = Some ends.reading; children = behind.children.items }))
behind_at line behind (behind_step.DropBefore before ends) = close before >> closes_both ends (waits_behind line behind)
behind_at line behind (behind_step.DropReading ends) = close ends.reading >> close ends.writing >> waits_behind line behind
behind_at line behind (behind_step.DropWriting writing) = close writing >> waits_behind line behind
behind_at line behind (behind_step.Wait id) = wait id >> waits_behind line behind

-- ---- a line

-- what a job that is given up still does
abbrev pub given_up : List ℕ → Job → Option Ends → Script
given_up line job ends =
    closes_before job.before (closes_both ends (waits job.children.items
    (rest_of line job (if (command_at line job.number).piped then None else Some new_job))))

abbrev pub script_at : List ℕ → Place → Script
script_at line (place.Refused last) = prints line SyntaxError (end_of last)
script_at line (place.Piping job) =
    asks pipe (λ answer. piped line (command_at line job.number) (job_state job) (rest_of line job) answer)
script_at line (place.Forking job ends) = forks line (command_at line job.number) (job_state job) ends (rest_of line job)
script_at line (place.GivingUp job ends error) = prints line (Error error) (given_up line job ends)
script_at line (place.Behind behind step) = behind_at line behind step
script_at line (place.Child number step) = child_script line number step
script_at line place.Exit = exits

abbrev pub next_script : List ℕ → Next → Script
next_script line ReadLine = reads []
next_script line (At place) = script_at line place

abbrev pub read_script : List ℕ → Read → Script
read_script line (Keep byte) = reads (line ++ byte ∷ [])
read_script line Pass = reads line
read_script line (Line next) = next_script line next
