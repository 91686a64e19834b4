-- The bytes of a page: as many as there are, each below 256, when the page is new, when a byte is put into it, and when others lie over
-- some of them.
use Rattle.std.proofs.Common.{◌∙◌, ◌+◌, ◌<◌, ◌≤◌, ◌++◌, ℕ, zero, suc, List, [], ◌∷◌, length, arith}
use Rattle.std.proofs.lemmas.List.{length-append, length-replicate, length-set, length-take, length-drop}
use Rattle.std.specs.Int.{w32, to_le_bytes, byte_at}
use Rattle.std.specs.Prelude.{slice_set, replicate, take, drop}
use Rattle.jos_base.specs.declared.numbers.TheConstants.{PGSIZE}
use Rattle.jos_base.specs.SpacesState.{zero_page, overlaid}
use Rattle.jos_base.specs.TrapFrames.{bytes_of_words}
use Rattle.lib_os.specs.Rows.{AreBytes, IsPage}

pub bytes_none : AreBytes []
bytes_none i = omega arith

pub bytes_more : (byte : ℕ) (rest : List ℕ) → byte < 256 → AreBytes rest → AreBytes (byte ∷ rest)
bytes_more byte rest small more zero = small
bytes_more byte rest small more (suc i) = more i

pub bytes_append : (first second : List ℕ) → AreBytes first → AreBytes second → AreBytes (first ++ second)
bytes_append [] second small more i = more i
bytes_append (byte ∷ rest) second small more zero = small zero
bytes_append (byte ∷ rest) second small more (suc i) = bytes_append rest second (λ j. small (suc j)) more i

pub bytes_take : (n : ℕ) (bytes : List ℕ) → AreBytes bytes → AreBytes (take n bytes)
bytes_take zero bytes small i = omega arith
bytes_take (suc n) [] small i = omega arith
bytes_take (suc n) (byte ∷ rest) small zero = small zero
bytes_take (suc n) (byte ∷ rest) small (suc i) = bytes_take n rest (λ j. small (suc j)) i

pub bytes_drop : (n : ℕ) (bytes : List ℕ) → AreBytes bytes → AreBytes (drop n bytes)
bytes_drop zero bytes small i = small i
bytes_drop (suc n) [] small i = omega arith
bytes_drop (suc n) (byte ∷ rest) small i = bytes_drop n rest (λ j. small (suc j)) i

pub bytes_set : (bytes : List ℕ) (at byte : ℕ) → byte < 256 → AreBytes bytes → AreBytes (slice_set bytes at byte)
bytes_set [] at byte small all i = all i
bytes_set (first ∷ rest) zero byte small all zero = small
bytes_set (first ∷ rest) zero byte small all (suc i) = all (suc i)
bytes_set (first ∷ rest) (suc at) byte small all zero = all zero
bytes_set (first ∷ rest) (suc at) byte small all (suc i) = bytes_set rest at byte small (λ j. all (suc j)) i

pub bytes_same : (n byte : ℕ) → byte < 256 → AreBytes (replicate n byte)
bytes_same zero byte small i = omega arith
bytes_same (suc n) byte small zero = small
bytes_same (suc n) byte small (suc i) = bytes_same n byte small i

-- ---- words

four_bytes : (a b c d : ℕ) → a < 256 → b < 256 → c < 256 → d < 256 → AreBytes (a ∷ b ∷ c ∷ d ∷ [])
four_bytes a b c d first second third fourth zero = first
four_bytes a b c d first second third fourth (suc zero) = second
four_bytes a b c d first second third fourth (suc (suc zero)) = third
four_bytes a b c d first second third fourth (suc (suc (suc zero))) = fourth
four_bytes a b c d first second third fourth (suc (suc (suc (suc i)))) = omega arith

byte_small : (i n : ℕ) → byte_at i n < 256
byte_small zero n = omega arith
byte_small (suc i) n = omega arith

pub word_bytes : (word : ℕ) → AreBytes (to_le_bytes w32 word)
word_bytes word =
    four_bytes (byte_at 0 word) (byte_at 1 word) (byte_at 2 word) (byte_at 3 word) (byte_small 0 word) (byte_small 1 word) (byte_small 2 word)
    (byte_small 3 word)

pub words_bytes : (words : List ℕ) → AreBytes (bytes_of_words words)
unfolding bytes_of_words
words_bytes [] = bytes_none
words_bytes (word ∷ rest) = bytes_append (to_le_bytes w32 word) (bytes_of_words rest) (word_bytes word) (words_bytes rest)

-- ---- pages

pub zero_page_whole : IsPage zero_page
unfolding zero_page
zero_page_whole = record { long = length-replicate {A = ℕ} PGSIZE 0; small = bytes_same PGSIZE 0 (omega arith) }

pub page_set : (bytes : List ℕ) (at byte : ℕ) → byte < 256 → IsPage bytes → IsPage (slice_set bytes at byte)
page_set bytes at byte small page =
    record { long = length-set bytes at byte ∙ page.long; small = bytes_set bytes at byte small page.small }

-- other bytes lie over some of them
pub page_overlaid : (old : List ℕ) (offset : ℕ) (bytes : List ℕ) → offset + length bytes ≤ PGSIZE → AreBytes bytes → IsPage old →
    IsPage (overlaid old offset bytes)
page_overlaid old offset bytes within small page = record {
  long =
      let all = length-append (take offset old) (bytes ++ drop (offset + length bytes) old) in
      let behind = length-append bytes (drop (offset + length bytes) old) in
      let first = length-take offset old in
      let last = length-drop (offset + length bytes) old in
      let long = page.long in
      omega (arith, all, behind, first, last, long);
  small = bytes_append (take offset old) (bytes ++ drop (offset + length bytes) old) (bytes_take offset old page.small)
      (bytes_append bytes (drop (offset + length bytes) old) small (bytes_drop (offset + length bytes) old page.small));
}
