-- What the shell does with a line: a tree of calls of the library, where each call's answer tells how it goes on. A child goes on
-- from the fork that made it, where it is answered 0.
-- (This system's own, after MIT 6.828, user/sh.c, `runcmd`)
use Rattle.std.specs.Prelude.{ℕ, zero, suc, ◌+◌, ◌-◌, ◌%◌, ◌^◌, ◌==◌, nat_lt, Bool, false, List, [], ◌∷◌, ◌++◌, length, take, drop, map}
use Rattle.std.specs.Prelude.{Option, Some, None, codes, decimal, if◌then◌else◌}
use Rattle.jos_base.specs.Words.{negated}
use Rattle.jos_base.specs.declared.numbers.TheConstants.{E_NOT_FOUND}
use Rattle.fs_layout.specs.declared.paths.Span.{Span}
use Rattle.jos_shell.specs.declared.numbers.TheConstants.{LINE_MAX}
use Rattle.jos_shell.specs.Grammar.{Asked, commands_in}
use Rattle.jos_script.specs.declared.numbers.TheConstants.{DESCRIPTORS, INPUT_MODE, OUTPUT_MODE, NEWLINE, SLASH}
use Rattle.jos_script.specs.declared.answer.Ends.{Ends}
use Rattle.jos_script.specs.declared.answer.Answer.{Answer}
use Rattle.jos_script.specs.declared.answer.Answer.TheVariants.{Word, Made, Byte}
use Rattle.jos_script.specs.declared.text.Text.{Text}
use Rattle.jos_script.specs.declared.text.Text.TheVariants.{SyntaxError, CannotBeOpened, NotFound, WordError, Error}

-- ---- calls and scripts

pub data Call : Type 0 where
  -- one byte of descriptor 0
  read_byte : Call
  -- these bytes on the console
  print : List ℕ → Call
  pipe : Call
  fork : Call
  -- the second descriptor names what the first does
  dup : ℕ → ℕ → Call
  close : ℕ → Call
  -- a path and a mode
  open_file : List ℕ → ℕ → Call
  -- a path and the words
  spawn : List ℕ → List (List ℕ) → Call
  wait : ℕ → Call
  exit : Call

pub data Script : Type 0 where
  -- a call, and how it goes on by the answer
  asks : Call → (Answer → Script) → Script
  -- a byte is read, where these of its line have come
  reads : List ℕ → Script
  -- exit, and nothing behind it
  exits : Script

infixr 10 ◌>>◌
-- a call that may answer what it likes
abbrev pub ◌>>◌ : Call → Script → Script
call >> script = asks call (λ answer. script)

-- the ids are waited for, one by one
unfoldable pub waits : List ℕ → Script → Script
waits [] script = script
waits (id ∷ rest) script = wait id >> waits rest script

-- so many descriptors are closed, from one on
unfoldable pub closes : ℕ → ℕ → Script → Script
closes fd zero script = script
closes fd (suc more) script = close fd >> closes (fd + 1) more script

-- ---- answers

abbrev pub word_of : Answer → ℕ
word_of (Word word) = word
word_of (Made ends) = 0
word_of (Byte byte) = 1

-- an answer that is no error's number
abbrev pub is_count : ℕ → Bool
is_count word = nat_lt word 0x80000000

-- the number of the error that a word answers
abbrev pub error_of : ℕ → ℕ
error_of word = negated word % 2 ^ 32

-- ---- words and texts

-- what stands at a place of the line
unfoldable pub word_in : List ℕ → Span → List ℕ
word_in line span = take (span.to - span.from) (drop span.from line)

abbrev pub begins_with_slash : List ℕ → Bool
begins_with_slash [] = false
begins_with_slash (byte ∷ rest) = byte == SLASH

-- the path of a program, which is looked for from the root on
unfoldable pub rooted : List ℕ → List ℕ
rooted path = if begins_with_slash path then path else SLASH ∷ path

unfoldable pub text_bytes : List ℕ → Text → List ℕ
text_bytes line SyntaxError = codes "syntax error\n"
text_bytes line (CannotBeOpened file) = word_in line file ++ codes ": cannot be opened\n"
text_bytes line (NotFound word) = word_in line word ++ codes ": not found\n"
text_bytes line (WordError word error) = word_in line word ++ codes ": error " ++ decimal error ++ codes "\n"
text_bytes line (Error error) = codes "error " ++ decimal error ++ codes "\n"

abbrev pub prints : List ℕ → Text → Script → Script
prints line text script = print (text_bytes line text) >> script

-- ---- the child of a command

-- its input is the pipe behind the command before
unfoldable pub from_pipe : Option ℕ → Script → Script
from_pipe None script = script
from_pipe (Some before) script = dup before 0 >> close before >> script

-- its output is the pipe in front of the next command
unfoldable pub to_pipe : Option Ends → Script → Script
to_pipe None script = script
to_pipe (Some ends) script = dup ends.writing 1 >> close ends.reading >> close ends.writing >> script

abbrev pub opened : List ℕ → Span → ℕ → Script → ℕ → Script
opened line file fd script word =
    if is_count word then dup word fd >> close word >> script else prints line (CannotBeOpened file) exits

-- a descriptor is a file, opened in a mode
unfoldable pub redirects : List ℕ → Option Span → ℕ → ℕ → Script → Script
redirects line None mode fd script = script
redirects line (Some file) mode fd script =
    asks (open_file (word_in line file) mode) (λ answer. opened line file fd script (word_of answer))

-- the first word, which names the program
abbrev pub program : List Span → Span
program [] = record { from = 0; to = 0 }
program (word ∷ rest) = word

abbrev pub not_run : Span → ℕ → Text
not_run word error = if error == E_NOT_FOUND then NotFound word else WordError word error

-- nothing of the child's stays open while it waits for the program
unfoldable pub finishes : ℕ → ℕ → Script
finishes fd id = closes fd (DESCRIPTORS - fd) (wait id >> exits)

abbrev pub spawned : List ℕ → Span → ℕ → Script
spawned line word id =
    if is_count id then finishes 0 id else prints line (not_run word (error_of id)) exits

unfoldable pub spawns : List ℕ → Asked → Script
spawns line command =
    asks (spawn (rooted (word_in line (program command.words))) (map (word_in line) command.words)) (λ answer.
    spawned line (program command.words) (word_of answer))

abbrev pub output_then_spawn : List ℕ → Asked → Script
output_then_spawn line command = redirects line command.to OUTPUT_MODE 1 (spawns line command)

abbrev pub files_then_spawn : List ℕ → Asked → Script
files_then_spawn line command = redirects line command.from INPUT_MODE 0 (output_then_spawn line command)

unfoldable pub child : List ℕ → Asked → Option ℕ → Option Ends → Script
child line command before ends = from_pipe before (to_pipe ends (files_then_spawn line command))

-- ---- the shell

-- Of a job: the end by which the next command reads what the one before it writes, and the ids of the children that are made.
pub record JobState : Type 0 where
  pub before : Option ℕ
  pub children : List ℕ

abbrev pub new_job : JobState
new_job = record { before = None; children = [] }

unfoldable pub closes_before : Option ℕ → Script → Script
closes_before None script = script
closes_before (Some before) script = close before >> script

unfoldable pub closes_both : Option Ends → Script → Script
closes_both None script = script
closes_both (Some ends) script = close ends.reading >> close ends.writing >> script

-- Below, the rest of a line is given as how it goes on: with a job, or with None behind a job that is given up.

-- The job is given up: the ends that it holds are closed, and its children are waited for.
unfoldable pub gives_up : List ℕ → Asked → JobState → Option Ends → (Option JobState → Script) → ℕ → Script
gives_up line command job ends rest word =
    prints line (Error (error_of word)) (closes_before job.before (closes_both ends (waits job.children
    (rest (if command.piped then None else Some new_job)))))

-- A child is made. Behind the job's last all are waited for.
unfoldable pub goes_on : Option Ends → List ℕ → (Option JobState → Script) → Script
goes_on None children rest = waits children (rest (Some new_job))
goes_on (Some ends) children rest = close ends.writing >> rest (Some (record { before = Some ends.reading; children = children }))

unfoldable pub forked : List ℕ → Asked → JobState → Option Ends → (Option JobState → Script) → ℕ → Script
forked line command job ends rest id =
    if id == 0 then child line command job.before ends
    else if is_count id then closes_before job.before (goes_on ends (job.children ++ id ∷ []) rest)
    else gives_up line command job ends rest id

abbrev pub forks : List ℕ → Asked → JobState → Option Ends → (Option JobState → Script) → Script
forks line command job ends rest = asks fork (λ answer. forked line command job ends rest (word_of answer))

abbrev pub piped : List ℕ → Asked → JobState → (Option JobState → Script) → Answer → Script
piped line command job rest (Made ends) = forks line command job (Some ends) rest
piped line command job rest answer = gives_up line command job None rest (word_of answer)

-- a command of a job, in front of the rest of the line
abbrev pub begins : List ℕ → Asked → JobState → (Option JobState → Script) → Script
begins line command job rest =
    if command.piped then asks pipe (λ answer. piped line command job rest answer) else forks line command job None rest

-- The commands from one on; those of a job that is given up are passed over. Behind the last no job is under way: its output is no
-- command's input.
unfoldable pub runs : List ℕ → Script → Option JobState → List Asked → Script
runs line end job [] = end
runs line end (Some job) (command ∷ rest) = begins line command job (λ next. runs line end next rest)
runs line end None (command ∷ rest) = runs line end (if command.piped then None else Some new_job) rest

-- ---- lines

abbrev pub script_read : List ℕ → Script → Option (List Asked) → Script
script_read line end None = prints line SyntaxError end
script_read line end (Some commands) = runs line end (Some new_job) commands

-- what it does with a line, in front of what it does then
unfoldable pub script : List ℕ → Script → Script
script line end = script_read line end (commands_in line)

-- Of a line that is too long one byte too many is kept: it is refused all the same.
abbrev pub kept : List ℕ → ℕ → List ℕ
kept line byte = if nat_lt LINE_MAX (length line) then line else line ++ byte ∷ []

-- The line ends with a newline, or where no byte comes; then it is the last.
unfoldable pub byte_read : List ℕ → Answer → Script
byte_read line (Byte byte) = if byte == NEWLINE then script line (reads []) else reads (kept line byte)
byte_read line answer = script line exits

-- ---- along a script

abbrev pub next : Script → Call
next (asks call rest) = call
next (reads line) = read_byte
next exits = exit

abbrev pub answered : Script → Answer → Script
answered (asks call rest) answer = rest answer
answered (reads line) answer = byte_read line answer
answered exits answer = exits

-- where a script stands that was answered so
unfoldable pub after_all : Script → List Answer → Script
after_all script [] = script
after_all script (answer ∷ rest) = after_all (answered script answer) rest

-- what the shell does, from its first byte on
abbrev pub shell : Script
shell = reads []
