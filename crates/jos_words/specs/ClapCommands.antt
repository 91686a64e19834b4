-- The commands as clap is told of them. (The kit's clap, 4.)
use Rattle.std.specs.Prelude.{◌≡◌, ◌⊎◌, ℕ, Bool, List, [], ◌∷◌, ◌++◌, Some, None, true, false, codes, map, drop}
use Rattle.clap.specs.Words.{App, Rule, new_app, new_rule, takes}
use Rattle.clap.specs.declared.builder.action.ArgAction.TheVariants.{Append}
use Rattle.jos_words.specs.Arguments.{arguments_of}
use Rattle.jos_words.specs.Commands.{running_options}

-- an option `--name`, which takes one value
abbrev pub option_rule : List ℕ → Rule
option_rule name = record (new_rule name) { long = Some name }

-- a positional word that has to be there
abbrev pub required_rule : List ℕ → Rule
required_rule name = record (new_rule name) { required = true }

-- a positional word that need not be there
abbrev pub optional_rule : List ℕ → Rule
optional_rule name = new_rule name

-- positional words, of which one has to be there
abbrev pub repeated_rule : List ℕ → Rule
repeated_rule name = record (new_rule name) { action = Some Append; required = true }

-- positional words, of which none has to be there
abbrev pub optional_repeated_rule : List ℕ → Rule
optional_repeated_rule name = record (new_rule name) { action = Some Append }

-- a command with these arguments, and without help and version flags
abbrev pub app_with : List ℕ → List Rule → App
app_with name rules =
    let app = new_app name in
    record app { top = record app.top { rules = rules; disable_help_flag = true; disable_version_flag = true } }

-- `exo` or `run`
abbrev pub running_app : List ℕ → App
running_app name = app_with name (map option_rule running_options ++ repeated_rule (codes "word") ∷ [])

abbrev pub demo_app : App
demo_app = app_with (codes "demo") (required_rule (codes "name") ∷ required_rule (codes "file") ∷ [])

abbrev pub mkfs_app : App
mkfs_app = app_with (codes "mkfs") (required_rule (codes "disk") ∷ required_rule (codes "blocks") ∷ optional_repeated_rule (codes "file") ∷ [])

abbrev pub ls_app : App
ls_app = app_with (codes "ls") (required_rule (codes "disk") ∷ optional_rule (codes "path") ∷ [])

abbrev pub cat_app : App
cat_app = app_with (codes "cat") (required_rule (codes "disk") ∷ required_rule (codes "path") ∷ [])

abbrev pub gen_app : App
gen_app = app_with (codes "gen") (required_rule (codes "seed") ∷ required_rule (codes "disk") ∷ [])

-- clap takes these words, the first of which is the command's name
unfoldable pub clap_takes : App → List (List ℕ) → Bool
clap_takes app words = takes app words

-- Clap refuses the words, or those behind the name are no arguments with these options.
abbrev pub AreRefused : App → List (List ℕ) → List (List ℕ) → Type 0
AreRefused app names words = (clap_takes app words ≡ false) ⊎ (arguments_of names (drop 1 words) ≡ None)
