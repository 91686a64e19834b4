-- What the words of the command line ask. (This system's own.)
use Rattle.std.specs.Prelude.{ℕ, List, [], ◌∷◌, map, codes, Option, Some, None, is_some, unwrap_or, if◌then◌else◌}
use Rattle.jos_demo.specs.Programs.{file_of}
use Rattle.jos_words.specs.Arguments.{Word}
use Rattle.jos_words.specs.Commands.{Command, Run, Gen, exo, run, demo, mkfs, ls, cat, gen}
use Rattle.jos_words.specs.Commands as words

-- a command, but for `demo` with a name that no example program has
abbrev pub known : Option Command → Option Command
known None = None
known (Some (exo e)) = Some (exo e)
known (Some (run r)) = Some (run r)
known (Some (demo d)) = if is_some (file_of d.name.text) then Some (demo d) else None
known (Some (mkfs m)) = Some (mkfs m)
known (Some (ls l)) = Some (ls l)
known (Some (cat c)) = Some (cat c)
known (Some (gen g)) = Some (gen g)

abbrev pub command_of : List (List ℕ) → Option Command
command_of texts = known (words.command_of texts)

-- the file of an example program
abbrev pub program_file : List ℕ → List ℕ
program_file program = unwrap_or (file_of program) []

-- the first word of a program is its path on the disk
abbrev pub path_word : List Word → Word
path_word [] = record { place = 0; text = [] }
path_word (word ∷ rest) = word

-- the words of a program, as it is given them
abbrev pub texts_of : Run → List (List ℕ)
texts_of r = map (λ word. word.text) r.words

-- ---- the run of `gen`

-- The path of its program on the disk is no word of the command line, and so has no place there. It is given that of the disk's word:
-- a note could tell it only where the path led to no image, and on the disk that is made it leads to one.
abbrev pub work_word : Gen → Word
work_word g = record { place = g.disk.place; text = codes "work" }

-- the run of that program, with all options at their defaults
abbrev pub run_of_gen : Gen → Run
run_of_gen g = record { frames = None; steps = None; schedule = None; trace = None; disk = g.disk; words = work_word g ∷ [] }
