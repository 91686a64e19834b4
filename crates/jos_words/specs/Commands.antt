-- Which command a list of words is. (This system's own.)
use Rattle.std.specs.Prelude.{ℕ, List, [], ◌∷◌, map, Option, Some, None, option_map, codes}
use Rattle.std.specs.Prelude.{if◌then◌else◌}
use Rattle.std.specs.Str.{bytes_eq}
use Rattle.jos_words.specs.Values.{number_of}
use Rattle.jos_words.specs.Arguments.{◌>>=◌, Word, Arguments, value_of, arguments_of, word_in_bytes}
use Rattle.jos_words.specs.declared.values.NumberAt.{NumberAt}
use Rattle.jos_words.specs.declared.commands.ExoWords.{ExoWords}
use Rattle.jos_words.specs.declared.commands.RunWords.{RunWords}
use Rattle.jos_words.specs.declared.commands.DemoWords.{DemoWords}
use Rattle.jos_words.specs.declared.commands.MkfsWords.{MkfsWords}
use Rattle.jos_words.specs.declared.commands.LsWords.{LsWords}
use Rattle.jos_words.specs.declared.commands.CatWords.{CatWords}
use Rattle.jos_words.specs.declared.commands.GenWords.{GenWords}
use Rattle.jos_words.specs.declared.commands.CommandWords.{CommandWords}
use Rattle.jos_words.specs.declared.commands.CommandWords.TheVariants as read

-- ---- `exo [--frames N] [--steps N] [--schedule FILE] [--trace N] IMAGE..`

pub record Exo : Type 0 where
  pub frames : Option NumberAt
  pub steps : Option NumberAt
  pub schedule : Option Word
  pub trace : Option NumberAt
  pub images : List Word

-- the options of `exo` and `run`
abbrev pub running_options : List (List ℕ)
running_options = codes "frames" ∷ codes "steps" ∷ codes "schedule" ∷ codes "trace" ∷ []

-- an option that is not given is fine, and one that is given has to be a number
abbrev pub number_in : Option Word → Option (Option NumberAt)
number_in None = Some None
number_in (Some word) = option_map (λ value. Some (record { place = word.place; value = value })) (number_of word.text)

abbrev pub at_least_one : List Word → Option (List Word)
at_least_one [] = None
at_least_one (word ∷ words) = Some (word ∷ words)

unfoldable pub exo_of : Arguments → Option Exo
exo_of arguments = do
  frames ← number_in (value_of (codes "frames") arguments.options)
  steps ← number_in (value_of (codes "steps") arguments.options)
  trace ← number_in (value_of (codes "trace") arguments.options)
  images ← at_least_one arguments.positionals
  Some (record { frames = frames; steps = steps; schedule = value_of (codes "schedule") arguments.options; trace = trace; images = images })

-- the words behind `exo`
unfoldable pub exo_words : List (List ℕ) → Option Exo
exo_words words = do
  arguments ← arguments_of running_options words
  exo_of arguments

-- ---- `run [--frames N] [--steps N] [--schedule FILE] [--trace N] DISK PATH [WORD..]`

-- the first of the words is the program's path on the disk, and all of them are the program's
pub record Run : Type 0 where
  pub frames : Option NumberAt
  pub steps : Option NumberAt
  pub schedule : Option Word
  pub trace : Option NumberAt
  pub disk : Word
  pub words : List Word

-- a word, and at least one behind it
abbrev pub one_and_more : List Word → Option (Word × List Word)
one_and_more (first ∷ second ∷ more) = Some (first, second ∷ more)
one_and_more _ = None

-- as of `exo`, with a disk and words in place of images
unfoldable pub run_of : Arguments → Option Run
run_of arguments = do
  e ← exo_of arguments
  words ← one_and_more e.images
  Some (record { frames = e.frames; steps = e.steps; schedule = e.schedule; trace = e.trace; disk = words.0; words = words.1 })

-- the words behind `run`
unfoldable pub run_words : List (List ℕ) → Option Run
run_words words = do
  arguments ← arguments_of running_options words
  run_of arguments

-- ---- `demo NAME FILE`

pub record Demo : Type 0 where
  pub name : Word
  pub file : Word

abbrev pub two_of : List Word → Option (Word × Word)
two_of (first ∷ second ∷ []) = Some (first, second)
two_of _ = None

unfoldable pub demo_of : Arguments → Option Demo
demo_of arguments = do
  two ← two_of arguments.positionals
  Some (record { name = two.0; file = two.1 })

-- the words behind `demo`, which has no options
unfoldable pub demo_words : List (List ℕ) → Option Demo
demo_words words = do
  arguments ← arguments_of [] words
  demo_of arguments

-- ---- `mkfs DISK BLOCKS [FILE..]`

pub record Mkfs : Type 0 where
  pub disk : Word
  pub blocks : NumberAt
  pub files : List Word

abbrev pub two_and_more : List Word → Option (Word × Word × List Word)
two_and_more (first ∷ second ∷ more) = Some (first, second, more)
two_and_more _ = None

-- a positional word that has to be a number
abbrev pub placed_number : Word → Option NumberAt
placed_number word = option_map (λ value. record { place = word.place; value = value }) (number_of word.text)

unfoldable pub mkfs_of : Arguments → Option Mkfs
mkfs_of arguments = do
  words ← two_and_more arguments.positionals
  blocks ← placed_number words.1
  Some (record { disk = words.0; blocks = blocks; files = words.2 })

-- the words behind `mkfs`, which has no options
unfoldable pub mkfs_words : List (List ℕ) → Option Mkfs
mkfs_words words = do
  arguments ← arguments_of [] words
  mkfs_of arguments

-- ---- `ls DISK [PATH]`

pub record Ls : Type 0 where
  pub disk : Word
  pub path : Option Word

abbrev pub one_or_two : List Word → Option (Word × Option Word)
one_or_two (first ∷ []) = Some (first, None)
one_or_two (first ∷ second ∷ []) = Some (first, Some second)
one_or_two _ = None

unfoldable pub ls_of : Arguments → Option Ls
ls_of arguments = do
  words ← one_or_two arguments.positionals
  Some (record { disk = words.0; path = words.1 })

-- the words behind `ls`, which has no options
unfoldable pub ls_words : List (List ℕ) → Option Ls
ls_words words = do
  arguments ← arguments_of [] words
  ls_of arguments

-- ---- `cat DISK PATH`

pub record Cat : Type 0 where
  pub disk : Word
  pub path : Word

unfoldable pub cat_of : Arguments → Option Cat
cat_of arguments = do
  two ← two_of arguments.positionals
  Some (record { disk = two.0; path = two.1 })

-- the words behind `cat`, which has no options
unfoldable pub cat_words : List (List ℕ) → Option Cat
cat_words words = do
  arguments ← arguments_of [] words
  cat_of arguments

-- ---- `gen SEED DISK`

pub record Gen : Type 0 where
  pub seed : NumberAt
  pub disk : Word

unfoldable pub gen_of : Arguments → Option Gen
gen_of arguments = do
  two ← two_of arguments.positionals
  seed ← placed_number two.0
  Some (record { seed = seed; disk = two.1 })

-- the words behind `gen`, which has no options
unfoldable pub gen_words : List (List ℕ) → Option Gen
gen_words words = do
  arguments ← arguments_of [] words
  gen_of arguments

-- ---- all commands

pub data Command : Type 0 where
  exo : Exo → Command
  run : Run → Command
  demo : Demo → Command
  mkfs : Mkfs → Command
  ls : Ls → Command
  cat : Cat → Command
  gen : Gen → Command

-- the first word is the command's name
unfoldable pub command_of : List (List ℕ) → Option Command
command_of [] = None
command_of (name ∷ words) =
    if bytes_eq name (codes "exo") then option_map exo (exo_words words)
    else if bytes_eq name (codes "run") then option_map run (run_words words)
    else if bytes_eq name (codes "demo") then option_map demo (demo_words words)
    else if bytes_eq name (codes "mkfs") then option_map mkfs (mkfs_words words)
    else if bytes_eq name (codes "ls") then option_map ls (ls_words words)
    else if bytes_eq name (codes "cat") then option_map cat (cat_words words)
    else if bytes_eq name (codes "gen") then option_map gen (gen_words words)
    else None

-- ---- a command that was read, with its words in bytes

abbrev pub exo_in_bytes : ExoWords → Exo
exo_in_bytes words = record {
  frames = words.frames;
  steps = words.steps;
  schedule = option_map word_in_bytes words.schedule;
  trace = words.trace;
  images = map word_in_bytes words.images.items;
}

abbrev pub run_in_bytes : RunWords → Run
run_in_bytes words = record {
  frames = words.frames;
  steps = words.steps;
  schedule = option_map word_in_bytes words.schedule;
  trace = words.trace;
  disk = word_in_bytes words.disk;
  words = map word_in_bytes words.words.items;
}

abbrev pub demo_in_bytes : DemoWords → Demo
demo_in_bytes words = record { name = word_in_bytes words.name; file = word_in_bytes words.file }

abbrev pub mkfs_in_bytes : MkfsWords → Mkfs
mkfs_in_bytes words = record {
  disk = word_in_bytes words.disk;
  blocks = words.blocks;
  files = map word_in_bytes words.files.items;
}

abbrev pub ls_in_bytes : LsWords → Ls
ls_in_bytes words = record { disk = word_in_bytes words.disk; path = option_map word_in_bytes words.path }

abbrev pub cat_in_bytes : CatWords → Cat
cat_in_bytes words = record { disk = word_in_bytes words.disk; path = word_in_bytes words.path }

abbrev pub gen_in_bytes : GenWords → Gen
gen_in_bytes words = record { seed = words.seed; disk = word_in_bytes words.disk }

abbrev pub in_bytes : CommandWords → Command
in_bytes (read.Exo words) = exo (exo_in_bytes words)
in_bytes (read.Run words) = run (run_in_bytes words)
in_bytes (read.Demo words) = demo (demo_in_bytes words)
in_bytes (read.Mkfs words) = mkfs (mkfs_in_bytes words)
in_bytes (read.Ls words) = ls (ls_in_bytes words)
in_bytes (read.Cat words) = cat (cat_in_bytes words)
in_bytes (read.Gen words) = gen (gen_in_bytes words)
