-- Bytes that stand at a place, and what they say there: lists behind one another, zeros and words. And lists of the values
-- below a count.
use Rattle.std.proofs.Common.{◌≡◌, ◌∙◌, ◌+◌, ◌*◌, ◌^◌, ◌<◌, inl, inr, ℕ, zero, suc, List, [], ◌∷◌, length, get_or}
use Rattle.std.proofs.Common.{refl, sym, ap, arith}
use Rattle.std.specs.Int.{w32, to_le_bytes}
use Rattle.std.proofs.lemmas.Bool.{cases_lt}
use Rattle.std.proofs.lemmas.List.{get_or-replicate, get_or_past, length-replicate, ext_get_or}
use Rattle.jos_base.specs.TrapFrames.{bytes_of_words}
use Rattle.jos_base.specs.Words.{word_at}
use Rattle.fs_layout.specs.Layout.{zeros}
use Rattle.jos_base.specs.Below.{values_below}
use Rattle.fs_layout.proofs.Written.{Stands, stands-rest, word-back}
use Rattle.jos_base.proofs.Below.{length-values, get_or-values}

-- ---- zeros

-- past the end too
pub get_or-zeros : (n k : ℕ) → get_or (zeros n) k 0 ≡ 0
unfolding zeros
get_or-zeros n k = elim (cases_lt k n) [
  | inl lt ↦ get_or-replicate n k 0 0 lt
  | inr past ↦ get_or_past _ k 0 (omega (arith, length-replicate n zero))
]

-- ---- words

-- the words behind the first
pub words-rest : (byte : ℕ → ℕ) (at word : ℕ) (rest : List ℕ) → Stands byte at (bytes_of_words (word ∷ rest)) → Stands byte (at + 4) (bytes_of_words rest)
unfolding bytes_of_words
words-rest byte at word rest all = stands-rest byte at (at + 4) (to_le_bytes w32 word) (bytes_of_words rest) refl all

-- a word among others
pub words-stand : (byte : ℕ → ℕ) (at : ℕ) (words : List ℕ) → ((k : ℕ) → k < length words → get_or words k 0 < 2 ^ 32) → Stands byte at (bytes_of_words words) →
    (k : ℕ) → k < length words → word_at byte (at + 4 * k) ≡ get_or words k 0
words-stand byte at [] fits all k within = absurd (omega arith)
words-stand byte at (word ∷ rest) fits all zero within = ap (word_at byte) (omega arith) ∙ word-back byte at word rest (fits 0 (omega arith)) all
words-stand byte at (word ∷ rest) fits all (suc k) within =
    let place : at + 4 * suc k ≡ at + 4 + 4 * k = omega arith in
    ap (word_at byte) place
    ∙ words-stand byte (at + 4) rest (λ j lt. fits (suc j) (omega arith)) (words-rest byte at word rest all) k (omega arith)

-- ---- the values below a count

-- they are a list with the same values
pub values_below-is : {A : Type 0} (n : ℕ) (f : ℕ → A) (xs : List A) (d : A) → length xs ≡ n →
    ((k : ℕ) → k < n → f k ≡ get_or xs k d) → values_below n f ≡ xs
values_below-is n f xs d long is =
    ext_get_or d (values_below n f) xs (length-values n f ∙ sym long)
    (λ k lt.
    let below : k < n = omega (arith, length-values n f) in
    get_or-values n f k d below ∙ is k below)
