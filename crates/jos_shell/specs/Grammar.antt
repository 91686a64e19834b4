-- Which commands a line of the shell asks for. A line is jobs with a `;` between two; a job is nothing, or commands with a `|`
-- between two; a command has words, and among them at most one `<` and one `>`, each with the word behind it. (This system's own,
-- after MIT 6.828, user/sh.c, `runcmd`)
use Rattle.std.specs.Prelude.{ℕ, ◌<◌, ◌≤◌, ◌&&◌, nat_lt, nat_le, Bool, true, false, List, [], ◌∷◌, ◌++◌, length}
use Rattle.std.specs.Prelude.{Option, Some, None, IfSome, is_some, if◌then◌else◌}
use Rattle.std.specs.List.{All, slice_split, list_any}
use Rattle.fs_layout.specs.declared.paths.Span.{Span}
use Rattle.jos_shell.specs.declared.numbers.TheConstants.{LINE_MAX, WORDS_MAX, COMMANDS_MAX}
use Rattle.jos_shell.specs.declared.tokens.Symbol.TheVariants.{Input, Output, Pipe, Next}
use Rattle.jos_shell.specs.declared.tokens.Token.{Token}
use Rattle.jos_shell.specs.declared.tokens.Token.TheVariants.{Sign, Word}
use Rattle.jos_shell.specs.Tokens.{spoken, is_reserved, tokens_from}
use Rattle.jos_shell.specs.declared.line.Command.{Command}

infixl 10 ◌>>=◌
abbrev pub ◌>>=◌ : {A B : Type 0} → Option A → (A → Option B) → Option B
(Some x) >>= next = next x
None >>= next = None

-- ---- a command

-- Its words, the files that its input and output are redirected to, and whether its output is the next command's input. Words and
-- files are told by where they stand in the line.
pub record Asked : Type 0 where
  pub words : List Span
  pub from : Option Span
  pub to : Option Span
  pub piped : Bool

abbrev pub nothing_asked : Asked
nothing_asked = record { words = []; from = None; to = None; piped = false }

abbrev pub asked_word : Span → Asked → Option Asked
asked_word word command = Some (record command { words = word ∷ command.words })

abbrev pub asked_from : Span → Asked → Option Asked
asked_from file command = if is_some command.from then None else Some (record command { from = Some file })

abbrev pub asked_to : Span → Asked → Option Asked
asked_to file command = if is_some command.to then None else Some (record command { to = Some file })

-- of the symbols and words between two `|`
unfoldable pub words_asked : List Token → Option Asked
words_asked [] = Some nothing_asked
words_asked (Word word ∷ rest) = words_asked rest >>= asked_word word
words_asked (Sign Input ∷ Word file ∷ rest) = words_asked rest >>= asked_from file
words_asked (Sign Output ∷ Word file ∷ rest) = words_asked rest >>= asked_to file
words_asked (Sign _ ∷ rest) = None

-- A command has at least one word, and not too many.
abbrev pub if_it_has_words : Asked → Option Asked
if_it_has_words command =
    if nat_lt 0 (length command.words) && nat_le (length command.words) WORDS_MAX then Some command else None

abbrev pub command_asked : List Token → Option Asked
command_asked tokens = words_asked tokens >>= if_it_has_words

-- ---- a job

abbrev pub is_pipe : Token → Bool
is_pipe (Sign Pipe) = true
is_pipe _ = false

-- the output of each command but the last is the input of the next
abbrev pub in_front_of : Asked → List Asked → List Asked
in_front_of command [] = record command { piped = false } ∷ []
in_front_of command (next ∷ rest) = record command { piped = true } ∷ next ∷ rest

unfoldable pub commands_asked : List (List Token) → Option (List Asked)
commands_asked [] = Some []
commands_asked (tokens ∷ rest) = do
  command ← command_asked tokens
  others ← commands_asked rest
  Some (in_front_of command others)

-- of the symbols and words between two `;`
abbrev pub job_asked : List Token → Option (List Asked)
job_asked [] = Some []
job_asked tokens = commands_asked (slice_split is_pipe tokens)

-- ---- a line

abbrev pub is_next : Token → Bool
is_next (Sign Next) = true
is_next _ = false

-- the commands of all jobs, one behind the other; where one job can't be read, none is
unfoldable pub jobs_asked : List (List Token) → Option (List Asked)
jobs_asked [] = Some []
jobs_asked (tokens ∷ rest) = do
  job ← job_asked tokens
  others ← jobs_asked rest
  Some (job ++ others)

abbrev pub if_not_too_many : List Asked → Option (List Asked)
if_not_too_many commands = if nat_le (length commands) COMMANDS_MAX then Some commands else None

-- The commands that a line asks for; None where it is longer than a line may be, has one of `&`, `(` and `)` outside of its
-- comment, or can't be read. The bytes of the comment count for its length.
unfoldable pub commands_in : List ℕ → Option (List Asked)
commands_in line =
    if nat_lt LINE_MAX (length line) then None
    else if list_any is_reserved (spoken line) then None
    else jobs_asked (slice_split is_next (tokens_from 0 (spoken line))) >>= if_not_too_many

-- ---- as the code has it

abbrev pub asked_by : Command → Asked
asked_by command = record { words = command.words.items; from = command.from; to = command.to; piped = command.piped }

-- what is known of where a word or a file stands in a line of so many bytes
pub record IsInLine (total : ℕ) (span : Span) : Type 0 where
  pub some : span.from < span.to
  pub within : span.to ≤ total

-- and of the words and files of a command
pub record CommandIsInLine (total : ℕ) (command : Command) : Type 0 where
  pub words : All (IsInLine total) command.words.items
  pub from : IfSome command.from (IsInLine total)
  pub to : IfSome command.to (IsInLine total)
