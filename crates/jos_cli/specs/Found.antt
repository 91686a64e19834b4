-- The files that the words name, and the input, as they are found. (This system's own.)
use Rattle.std.specs.Prelude.{◌≡◌, ℕ, List, map, Option, Some, None, option_map}
use Rattle.jos_host.specs.Files.{Files}
use Rattle.jos_words.specs.Arguments.{Word}
use Rattle.jos_words.specs.Commands.{Exo, Run}

-- what stands under the name that a word has
pub record FileAt : Type 0 where
  pub word : Word
  -- None where the name is absent
  pub bytes : Option (List ℕ)

abbrev pub file_at : Files → Word → FileAt
file_at files word = record { word = word; bytes = files word.text }

-- This stands under the name, where the host tells its files. Where it does not, anything may.
abbrev pub IsFileAt : Option Files → Word → FileAt → Type 0
IsFileAt (Some files) word file = file ≡ file_at files word
IsFileAt None word file = file.word ≡ word

-- The same of a schedule, which need not be named.
abbrev pub IsScheduleAt : Option Files → Option Word → Option FileAt → Type 0
IsScheduleAt told None None = Unit {0}
IsScheduleAt told (Some word) (Some file) = IsFileAt told word file
IsScheduleAt told _ _ = ⊥

-- The same under each name.
abbrev pub AreFound : Option Files → List Word → List FileAt → Type 0
AreFound (Some files) words found = found ≡ map (file_at files) words
AreFound None words found = map (λ file. file.word) found ≡ words

-- ---- the files of `exo`

-- the words that name them
pub record Sources : Type 0 where
  -- None where no schedule is named
  pub schedule : Option Word
  pub images : List Word

abbrev pub sources_of_exo : Exo → Sources
sources_of_exo e = record { schedule = e.schedule; images = e.images }

pub record Found : Type 0 where
  pub schedule : Option FileAt
  pub images : List FileAt

abbrev pub all_in : Files → Sources → Found
all_in files sources = record { schedule = option_map (file_at files) sources.schedule; images = map (file_at files) sources.images }

abbrev pub found_in : Files → Exo → Found
found_in files e = all_in files (sources_of_exo e)

-- something for each name
pub record HasNames (sources : Sources) (found : Found) : Type 0 where
  pub schedule : option_map (λ file. file.word) found.schedule ≡ sources.schedule
  pub images : map (λ file. file.word) found.images ≡ sources.images

-- These are the files, where the host tells them. Where it does not, any may be found.
abbrev pub IsFound : Option Files → Sources → Found → Type 0
IsFound (Some files) sources found = found ≡ all_in files sources
IsFound None sources found = HasNames sources found

-- ---- the files of `run`

pub record RunFound : Type 0 where
  -- None where no schedule is named
  pub schedule : Option FileAt
  pub disk : FileAt

abbrev pub run_found_in : Files → Run → RunFound
run_found_in files r = record { schedule = option_map (file_at files) r.schedule; disk = file_at files r.disk }

-- These are the files, where the host tells them. Where it does not, any may be found.
pub record IsRunFound (told : Option Files) (r : Run) (found : RunFound) : Type 0 where
  pub schedule : IsScheduleAt told r.schedule found.schedule
  pub disk : IsFileAt told r.disk found.disk

-- ---- the input

-- This is the console's input, where the host tells it.
abbrev pub IsInput : Option (List ℕ) → List ℕ → Type 0
IsInput (Some told) input = input ≡ told
IsInput None input = Unit {0}
