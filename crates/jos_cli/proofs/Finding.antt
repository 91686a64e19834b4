-- What may be found, where a host does not tell it.
use Rattle.std.proofs.Common.{◌≡◌, ℕ, List, [], ◌∷◌, Option, Some, None, refl, ap}
use Rattle.std.specs.Option.{option_map}
use Rattle.jos_host.specs.Files.{Files}
use Rattle.jos_words.specs.Arguments.{Word}
use Rattle.jos_words.specs.Commands.{Run}
use Rattle.jos_cli.specs.Found.{FileAt, file_at, IsFileAt, IsScheduleAt, AreFound, Sources, Found, IsFound, RunFound, run_found_in, IsRunFound, IsInput}
use Rattle.jos_cli.specs.Stages.{AreFilesAt}

pub some_file : (told : Option Files) (word : Word) → (file : FileAt) × IsFileAt told word file
some_file (Some files) word = (file_at files word, refl)
some_file None word = (record { word = word; bytes = None }, refl)

pub some_schedule : (told : Option Files) (word : Option Word) → (file : Option FileAt) × IsScheduleAt told word file
some_schedule told None = (None, tt)
some_schedule told (Some word) = let found = some_file told word in (Some found.0, found.1)

pub some_files : (told : Option Files) (words : List Word) → (files : List FileAt) × AreFilesAt told words files
unfolding AreFilesAt
some_files told [] = ([], tt)
some_files told (word ∷ words) = let one = some_file told word in let more = some_files told words in (one.0 ∷ more.0, (one.1, more.1))

pub some_input : (told : Option (List ℕ)) → (input : List ℕ) × IsInput told input
some_input (Some told) = (told, refl)
some_input None = ([], tt)

-- files that stand under their names
pub are_found : (told : Option Files) (words : List Word) (found : List FileAt) → AreFilesAt told words found → AreFound told words found
unfolding AreFilesAt
are_found (Some files) [] [] h = refl
are_found None [] [] h = refl
are_found told [] (file ∷ found) h = absurd h
are_found told (word ∷ words) [] h = absurd h
are_found (Some files) (word ∷ words) (file ∷ found) h = λ i. h.0 i ∷ are_found (Some files) words found h.1 i
are_found None (word ∷ words) (file ∷ found) h = λ i. h.0 i ∷ are_found None words found h.1 i

pub some_are_found : (told : Option Files) (words : List Word) → (found : List FileAt) × AreFound told words found
some_are_found told words = let found = some_files told words in (found.0, are_found told words found.0 found.1)

-- ---- the files of `exo`

schedule_is : (files : Files) (word : Option Word) (found : Option FileAt) → IsScheduleAt (Some files) word found → found ≡ option_map (file_at files) word
schedule_is files None None h = refl
schedule_is files None (Some file) h = absurd h
schedule_is files (Some word) None h = absurd h
schedule_is files (Some word) (Some file) h = ap (λ f. Some f) h

schedule_stands : (word : Option Word) (found : Option FileAt) → IsScheduleAt None word found → option_map (λ file. file.word) found ≡ word
schedule_stands None None h = refl
schedule_stands None (Some file) h = absurd h
schedule_stands (Some word) None h = absurd h
schedule_stands (Some word) (Some file) h = ap (λ p. Some p) h

pub all_found : (told : Option Files) (sources : Sources) (schedule : Option FileAt) (images : List FileAt) → IsScheduleAt told sources.schedule schedule →
    AreFilesAt told sources.images images → IsFound told sources (record { schedule = schedule; images = images })
all_found (Some files) sources schedule images s i =
    λ k. record { schedule = schedule_is files sources.schedule schedule s k; images = are_found (Some files) sources.images images i k }
all_found None sources schedule images s i =
    record { schedule = schedule_stands sources.schedule schedule s; images = are_found None sources.images images i }

pub some_found : (told : Option Files) (sources : Sources) → (found : Found) × IsFound told sources found
some_found told sources =
    let s = some_schedule told sources.schedule in let i = some_files told sources.images in
    (record { schedule = s.0; images = i.0 }, all_found told sources s.0 i.0 s.1 i.1)

-- ---- the files of `run`

pub run_found_is : (files : Files) (r : Run) (found : RunFound) → IsRunFound (Some files) r found → found ≡ run_found_in files r
run_found_is files r found h = λ k. record { schedule = schedule_is files r.schedule found.schedule h.schedule k; disk = h.disk k }

pub some_run_found : (told : Option Files) (r : Run) → (found : RunFound) × IsRunFound told r found
some_run_found told r =
    let s = some_schedule told r.schedule in let d = some_file told r.disk in
    (record { schedule = s.0; disk = d.0 }, record { schedule = s.1; disk = d.1 })
