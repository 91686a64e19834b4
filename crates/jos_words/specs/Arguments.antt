-- The words behind a command's name: options, each with its value, and positional words. (This system's own.)
use Rattle.std.specs.Prelude.{ℕ, ◌+◌, ◌==◌, ◌&&◌, not, Bool, true, false, List, [], ◌∷◌, ◌++◌, codes, map}
use Rattle.std.specs.Prelude.{Option, Some, None, is_some, option_map, find, if◌then◌else◌}
use Rattle.std.specs.List.{before_first, after_first, list_any}
use Rattle.std.specs.Str.{bytes_eq}
use Rattle.std.specs.Borrow.{Bor}
use Rattle.jos_words.specs.Values.{is_value}
use Rattle.jos_words.specs.declared.words.WordAt.{WordAt}
use Rattle.jos_words.specs.declared.arguments.GivenOption.{GivenOption}
use Rattle.jos_words.specs.declared.arguments.ReadArguments.{ReadArguments}
use Rattle.jos_words.specs.declared.arguments.ReadWaiting.{ReadWaiting}
use Rattle.jos_words.specs.declared.arguments.ReadWaiting.TheVariants as read

infixl 10 ◌>>=◌
abbrev pub ◌>>=◌ : {A B : Type 0} → Option A → (A → Option B) → Option B
(Some x) >>= next = next x
None >>= next = None

-- a text, and the place of the word that has it; the command's name is at place 0
pub record Word : Type 0 where
  pub place : ℕ
  pub text : List ℕ

-- an option that is given, with its value
pub record Given : Type 0 where
  pub name : List ℕ
  pub value : Word

pub record Arguments : Type 0 where
  pub options : List Given
  pub positionals : List Word

-- ---- one word

-- it begins with `-` and is longer
abbrev pub is_option : List ℕ → Bool
is_option (first ∷ second ∷ rest) = first == 45
is_option _ = false

-- behind the first of these all words are positional
abbrev pub is_end : List ℕ → Bool
is_end word = bytes_eq word (codes "--")

-- what stands before the first `=`, and what stands behind it if there is one
abbrev pub cut_at_equals : List ℕ → List ℕ × Option (List ℕ)
cut_at_equals text = (
  before_first (λ byte. byte == 61) text,
  if list_any (λ byte. byte == 61) text then Some (after_first (λ byte. byte == 61) text) else None,
)

-- the name and the value of `--name=value`, and the name of `--name`; no other word names an option
abbrev pub option_parts : List ℕ → Option (List ℕ × Option (List ℕ))
option_parts (first ∷ second ∷ rest) = if first == 45 && second == 45 then Some (cut_at_equals rest) else None
option_parts _ = None

-- ---- what is read so far

-- the value of the option of this name, where it is given
abbrev pub value_of : List ℕ → List Given → Option Word
value_of name options = option_map (λ option. option.value) (find (λ option. bytes_eq option.name name) options)

abbrev pub has_option : List (List ℕ) → List ℕ → Bool
has_option names name = list_any (λ known. bytes_eq known name) names

-- an option may be given if it is one of the command's, was not given before, and its value is one
abbrev pub with_option : List (List ℕ) → Arguments → List ℕ → Word → Option Arguments
with_option names arguments name value =
    if has_option names name && not (is_some (value_of name arguments.options)) && is_value value.text
    then Some (record arguments { options = arguments.options ++ record { name = name; value = value } ∷ [] }) else None

abbrev pub with_positional : Arguments → Word → Arguments
with_positional arguments word = record arguments { positionals = arguments.positionals ++ word ∷ [] }

-- ---- all words

-- what the next word may be: any word; the value of the option of this name; or positional in any case
pub data Waiting : Type 0 where
  any_word : Waiting
  value_for : List ℕ → Waiting
  positional_word : Waiting

pub record Reading : Type 0 where
  pub arguments : Arguments
  pub waiting : Waiting

abbrev pub then_any : Option Arguments → Option Reading
then_any = option_map (λ arguments. record { arguments = arguments; waiting = any_word })

-- a word that is an option, by its name and the value in it
abbrev pub option_read : List (List ℕ) → Arguments → ℕ → Option (List ℕ × Option (List ℕ)) → Option Reading
option_read names arguments place None = None
option_read names arguments place (Some (name, None)) =
    if has_option names name then Some (record { arguments = arguments; waiting = value_for name }) else None
option_read names arguments place (Some (name, Some value)) =
    then_any (with_option names arguments name (record { place = place; text = value }))

-- one word more
abbrev pub word_read_by : List (List ℕ) → Arguments → Waiting → Word → Option Reading
word_read_by names arguments any_word word =
    if is_end word.text then Some (record { arguments = arguments; waiting = positional_word })
    else if is_option word.text then option_read names arguments word.place (option_parts word.text)
    else Some (record { arguments = with_positional arguments word; waiting = any_word })
word_read_by names arguments (value_for name) word = then_any (with_option names arguments name word)
word_read_by names arguments positional_word word =
    Some (record { arguments = with_positional arguments word; waiting = positional_word })

unfoldable pub word_read : List (List ℕ) → Reading → Word → Option Reading
word_read names r word = word_read_by names r.arguments r.waiting word

-- words, of which the first is at this place
unfoldable pub words_read : List (List ℕ) → Reading → ℕ → List (List ℕ) → Option Reading
words_read names r place [] = Some r
words_read names r place (text ∷ rest) = do
  next ← word_read names r (record { place = place; text = text })
  words_read names next (place + 1) rest

-- at the end no option may lack its value
abbrev pub has_ended : Waiting → Bool
has_ended (value_for name) = false
has_ended _ = true

abbrev pub ended : Reading → Option Arguments
ended r = if has_ended r.waiting then Some r.arguments else None

abbrev pub nothing_read : Reading
nothing_read = record { arguments = record { options = []; positionals = [] }; waiting = any_word }

-- the words behind the name of a command that has the options of these names
abbrev pub arguments_of : List (List ℕ) → List (List ℕ) → Option Arguments
arguments_of names words = do
  last ← words_read names nothing_read 1 words
  ended last

-- ---- what was read, with its words in bytes

abbrev pub texts : List (Bor (List ℕ)) → List (List ℕ)
texts = map (λ text. text.now)

abbrev pub word_in_bytes : WordAt → Word
word_in_bytes word = record { place = word.place; text = word.text.now }

abbrev pub given_in_bytes : GivenOption → Given
given_in_bytes given = record { name = given.name.now; value = word_in_bytes given.value }

abbrev pub arguments_in_bytes : ReadArguments → Arguments
arguments_in_bytes arguments = record {
  options = map given_in_bytes arguments.options.items;
  positionals = map word_in_bytes arguments.positionals.items;
}

abbrev pub waiting_in_bytes : ReadWaiting → Waiting
waiting_in_bytes read.AnyWord = any_word
waiting_in_bytes (read.ValueFor name) = value_for name.now
waiting_in_bytes read.PositionalWord = positional_word

abbrev pub reading_in_bytes : ReadArguments → ReadWaiting → Reading
reading_in_bytes arguments waiting =
    record { arguments = arguments_in_bytes arguments; waiting = waiting_in_bytes waiting }
