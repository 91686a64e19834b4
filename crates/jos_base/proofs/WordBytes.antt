-- The bytes of words, one list behind another.
use Rattle.std.proofs.Common.{◌≡◌, ◌∙◌, ◌+◌, ◌*◌, ℕ, List, [], ◌∷◌, ◌++◌, length, refl, sym, ap, arith, append_assoc, length-append}
use Rattle.std.specs.Int.{w32, to_le_bytes}
use Rattle.std.proofs.lemmas.List.{append-nil}
use Rattle.jos_base.specs.TrapFrames.{bytes_of_words}

pub length-bytes_of_words : (words : List ℕ) → length (bytes_of_words words) ≡ 4 * length words
unfolding bytes_of_words
length-bytes_of_words [] = refl
length-bytes_of_words (word ∷ rest) =
    let four : length (to_le_bytes w32 word ++ bytes_of_words rest) ≡ 4 + length (bytes_of_words rest) = length-append (to_le_bytes w32 word) (bytes_of_words rest) in
    omega (arith, four, length-bytes_of_words rest)

pub bytes_of_words-nil : bytes_of_words [] ≡ []
unfolding bytes_of_words
bytes_of_words-nil = refl

pub bytes_of_words-one : (word : ℕ) → bytes_of_words (word ∷ []) ≡ to_le_bytes w32 word
unfolding bytes_of_words
bytes_of_words-one word = append-nil (to_le_bytes w32 word)

pub bytes_of_words-append : (words more : List ℕ) → bytes_of_words (words ++ more) ≡ bytes_of_words words ++ bytes_of_words more
unfolding bytes_of_words
bytes_of_words-append [] more = refl
bytes_of_words-append (word ∷ rest) more = ap (λ (l : List ℕ). to_le_bytes w32 word ++ l) (bytes_of_words-append rest more) ∙ sym (append_assoc (to_le_bytes w32 word) (bytes_of_words rest) (bytes_of_words more))
