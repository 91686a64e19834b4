-- The twelve words that an environment keeps for the library, by their places: the second tells how far a service is, and the ten behind that what
-- it has found out.
use Rattle.std.specs.Prelude.{ℕ, List, get_or}

abbrev pub step_word : List ℕ → ℕ
step_word words = get_or words 1 0

abbrev pub first_word : List ℕ → ℕ
first_word words = get_or words 2 0

abbrev pub second_word : List ℕ → ℕ
second_word words = get_or words 3 0

abbrev pub third_word : List ℕ → ℕ
third_word words = get_or words 4 0

abbrev pub fourth_word : List ℕ → ℕ
fourth_word words = get_or words 5 0

abbrev pub fifth_word : List ℕ → ℕ
fifth_word words = get_or words 6 0

abbrev pub sixth_word : List ℕ → ℕ
sixth_word words = get_or words 7 0

abbrev pub seventh_word : List ℕ → ℕ
seventh_word words = get_or words 8 0

abbrev pub eighth_word : List ℕ → ℕ
eighth_word words = get_or words 9 0

abbrev pub ninth_word : List ℕ → ℕ
ninth_word words = get_or words 10 0

abbrev pub tenth_word : List ℕ → ℕ
tenth_word words = get_or words 11 0
