-- The words of the command line, of what std hands out.
use Rattle.std.specs.Prelude.{ℕ, List, [], map, take, drop, Result, Ok, Err, String, string_bytes}
use Rattle.std.specs.declared.vec.IntoIter.{IntoIter}
use Rattle.std.specs.Vec.Iter.{into_iter_items, into_iter_len}
use Rattle.std.specs.declared.io.Error.{Error}

-- those that are left, as bytes
abbrev pub words_left : {A Z : Type 0} → IntoIter (String A) Z → List (List ℕ)
words_left arguments = map (λ t. string_bytes t) (take (into_iter_len arguments) (into_iter_items arguments))

-- The first word is the program's name. Where std hands out none, since one is no text or there was no memory, there
-- are none.
abbrev pub given_words : {A Z : Type 0} → Result (IntoIter (String A) Z) Error → List (List ℕ)
given_words (Ok arguments) = drop 1 (words_left arguments)
given_words (Err error) = []
