-- The first page of a program's stack: the words that it is given (argv). Downwards from USTACKTOP stand the strings, in
-- the order of the words and without gaps; below them, at a multiple of four, the strings' addresses and a 0; below these
-- the address of the first of them; and where ESP points, how many words there are.
-- (MIT 6.828, init_stack of lib/spawn.c, and lib/entry.S.)
use Rattle.std.specs.Prelude.{ℕ, ◌+◌, ◌-◌, ◌*◌, ◌/◌, ◌&&◌, nat_le, Bool, List, [], ◌∷◌, ◌++◌, length, replicate}
use Rattle.jos_base.specs.declared.numbers.TheConstants.{PGSIZE, USTACKTOP}
use Rattle.jos_base.specs.TrapFrames.{bytes_of_words}
use Rattle.jos_elf.specs.declared.numbers.TheConstants.{ARGS_MAX}

-- the words one after another, a 0 behind each
unfoldable pub strings_of : List (List ℕ) → List ℕ
strings_of [] = []
strings_of (word ∷ rest) = word ++ (0 ∷ strings_of rest)

-- the addresses of the strings, the first of which stands at this one, and a 0
unfoldable pub addresses_from : ℕ → List (List ℕ) → List ℕ
addresses_from at [] = 0 ∷ []
addresses_from at (word ∷ rest) = at ∷ addresses_from (at + length word + 1) rest

-- the next multiple of four
abbrev pub in_words : ℕ → ℕ
in_words n = (n + 3) / 4 * 4

abbrev pub strings_size : List (List ℕ) → ℕ
strings_size words = length (strings_of words)

-- how many bytes stand from ESP on
unfoldable pub stack_size : List (List ℕ) → ℕ
stack_size words = in_words (strings_size words) + 4 * (length words + 1) + 8

-- where ESP points
abbrev pub stack_pointer : List (List ℕ) → ℕ
stack_pointer words = USTACKTOP - stack_size words

-- what stands from ESP up to USTACKTOP
unfoldable pub stack_contents : List (List ℕ) → List ℕ
stack_contents words =
    bytes_of_words (length words ∷ (stack_pointer words + 8) ∷ addresses_from (USTACKTOP - strings_size words) words)
    ++ (replicate (in_words (strings_size words) - strings_size words) 0 ++ strings_of words)

-- a program may be given these words
unfoldable pub fits_stack : List (List ℕ) → Bool
fits_stack words = nat_le 1 (length words) && nat_le (length words) ARGS_MAX && nat_le (stack_size words) PGSIZE
