-- A line that is read from left to right: what was read of it, in front of what is still to be read.
use Rattle.std.specs.Prelude.{ℕ, ◌==◌, ◌||◌, ◌&&◌, nat_lt, not, Bool, true, false, List}
use Rattle.std.specs.Prelude.{[], ◌∷◌, ◌++◌, length, map, Option, Some, None, is_some, if◌then◌else◌}
use Rattle.std.specs.List.{slice_split}
use Rattle.fs_layout.specs.declared.paths.Span.{Span}
use Rattle.jos_shell.specs.declared.tokens.Symbol.{Symbol}
use Rattle.jos_shell.specs.declared.tokens.Symbol.TheVariants.{Input, Output, Pipe, Next}
use Rattle.jos_shell.specs.declared.tokens.Token.{Token}
use Rattle.jos_shell.specs.declared.tokens.Token.TheVariants.{Word}
use Rattle.jos_shell.specs.declared.reader.Reader.{Reader}
use Rattle.jos_shell.specs.declared.numbers.TheConstants.{COMMANDS_MAX}
use Rattle.jos_shell.specs.Tokens.{is_blank}
use Rattle.jos_shell.specs.Grammar.{Asked, nothing_asked, words_asked, if_it_has_words, is_pipe, is_next, in_front_of, commands_asked, jobs_asked}
use Rattle.jos_shell.specs.Grammar.{if_not_too_many, asked_by, ◌>>=◌}

-- ---- bytes

-- the symbol that a byte is
abbrev pub symbol_of : ℕ → Option Symbol
symbol_of byte =
    if byte == 60 then Some Input else if byte == 62 then Some Output else if byte == 124 then Some Pipe else if byte == 59 then Some Next else None

abbrev pub is_no_blank : ℕ → Bool
is_no_blank byte = not (is_blank byte)

-- a symbol or a blank
abbrev pub ends_word : ℕ → Bool
ends_word byte = is_some (symbol_of byte) || is_blank byte

-- ---- what was read

-- the commands that have ended, what was read of the one behind them, and whether a `|` stands before that one
pub record Begun : Type 0 where
  pub done : List Asked
  pub command : Asked
  pub after_pipe : Bool

abbrev pub begun_by : Reader → Begun
begun_by reader = record { done = map asked_by reader.commands.items; command = asked_by reader.command; after_pipe = reader.after_pipe }

-- nothing was read
abbrev pub nothing_begun : Begun
nothing_begun = record { done = []; command = nothing_asked; after_pipe = false }

abbrev pub is_nil : {A : Type 0} → List A → Bool
is_nil [] = true
is_nil (x ∷ rest) = false

abbrev pub is_nothing : Asked → Bool
is_nothing command = is_nil command.words && not (is_some command.from) && not (is_some command.to)

-- nothing was read of the job
abbrev pub has_no_job : Begun → Bool
has_no_job begun = not begun.after_pipe && is_nothing begun.command

-- the command that is being read may end here
abbrev pub can_end : Begun → Bool
can_end begun = is_some (if_it_has_words begun.command) && nat_lt (length begun.done) COMMANDS_MAX

-- it has ended
abbrev pub ended : Begun → Bool → Begun
ended begun piped = record { done = begun.done ++ record begun.command { piped = piped } ∷ []; command = nothing_asked; after_pipe = piped }

-- ---- in front of what is still to be read

abbrev pub has_word_first : List Token → Bool
has_word_first (Word word ∷ rest) = true
has_word_first tokens = false

-- the parts that `slice_split` gives: what goes on, and what stands behind it
abbrev pub first_part : {A : Type 0} → List (List A) → List A
first_part [] = []
first_part (part ∷ parts) = part

abbrev pub other_parts : {A : Type 0} → List (List A) → List (List A)
other_parts [] = []
other_parts (part ∷ parts) = parts

-- a file is given before or behind, but not twice
abbrev pub one_file : Option Span → Option Span → Option (Option Span)
one_file None behind = Some behind
one_file (Some file) None = Some (Some file)
one_file (Some file) (Some other) = None

-- what was read of a command, and what stands behind it
abbrev pub joined : Asked → Asked → Option Asked
joined before behind = do
  from ← one_file before.from behind.from
  to ← one_file before.to behind.to
  Some (record { words = before.words ++ behind.words; from = from; to = to; piped = behind.piped })

abbrev pub command_behind : Asked → List Token → Option Asked
command_behind before tokens = (words_asked tokens >>= joined before) >>= if_it_has_words

abbrev pub commands_behind : Asked → List (List Token) → Option (List Asked)
commands_behind before parts = do
  command ← command_behind before (first_part parts)
  others ← commands_asked (other_parts parts)
  Some (in_front_of command others)

abbrev pub job_behind : Begun → List Token → Option (List Asked)
job_behind begun tokens =
    if is_nil tokens && has_no_job begun then Some [] else commands_behind begun.command (slice_split is_pipe tokens)

abbrev pub jobs_behind : Begun → List (List Token) → Option (List Asked)
jobs_behind begun parts = do
  job ← job_behind begun (first_part parts)
  others ← jobs_asked (other_parts parts)
  Some (begun.done ++ (job ++ others))

-- the commands of a line of which this much was read, and these symbols and words are still to be read
unfoldable pub line_behind : Begun → List Token → Option (List Asked)
line_behind begun tokens = jobs_behind begun (slice_split is_next tokens) >>= if_not_too_many
