-- What the blocks of a file or a directory say.
use Rattle.std.proofs.Common.{◌≡◌, ◌∙◌, ◌+◌, ◌-◌, ◌*◌, ◌^◌, ◌<◌, ◌≤◌, inl, inr, ℕ}
use Rattle.std.proofs.Common.{List, ◌++◌, length, get_or, take, drop, map, min, sym, ap, subst, arith, length-append}
use Rattle.std.specs.Prelude.{nat_lt, if◌then◌else◌}
use Rattle.std.specs.List.{range_with_len}
use Rattle.std.proofs.lemmas.Bool.{cases_lt, cond-true, cond-false, lt-ltb, le-ltb}
use Rattle.std.proofs.lemmas.Bool.Decides.{nat_tests}
use Rattle.std.proofs.lemmas.List.{get_or-take, get_or-drop, length-take, length-drop}
use Rattle.std.proofs.lemmas.List.FromFn.{length-map-range_with_len, get_or-map-range_with_len}
use Rattle.jos_base.specs.TrapFrames.{bytes_of_words}
use Rattle.fs_layout.specs.declared.numbers.TheConstants.{BLKSIZE, NDIRECT, NINDIRECT, MAXBLOCKS}
use Rattle.fs_layout.specs.Layout.{zeros}
use Rattle.fs_layout.specs.FileTree.{blocks_of, needs_indirect}
use Rattle.fs_layout.proofs.Written.{Stands, length-zeros, stands-first, stands-rest}
use Rattle.fs_make.specs.MakeFaults.{span_of}
use Rattle.fs_make.specs.MadeImage.{padded, node_blocks}
use Rattle.fs_make.proofs.Standing.{words-stand}
use Rattle.jos_base.proofs.WordBytes.{length-bytes_of_words}
use Rattle.jos_base.specs.Words.{word_at}

-- ---- lists of numbers

-- so many numbers
numbers : (ℕ → ℕ) → ℕ → List ℕ
numbers f n = map f (range_with_len 0 n)

length-numbers : (f : ℕ → ℕ) (n : ℕ) → length (numbers f n) ≡ n
unfolding numbers
length-numbers f n = length-map-range_with_len f 0 n

get_or-numbers : (f : ℕ → ℕ) (n k : ℕ) → k < n → get_or (numbers f n) k 0 ≡ f k
unfolding numbers
get_or-numbers f n k within = get_or-map-range_with_len f 0 n k k 0 within (omega arith)

-- the numbers in an indirect block
abbrev pub further_number : ℕ → ℕ → ℕ → ℕ
further_number first size i = if nat_lt (NDIRECT + i) (blocks_of size) then first + NDIRECT + 1 + i else 0

-- ---- the blocks of a node

-- without an indirect block
node-few : (first : ℕ) (bytes : List ℕ) → blocks_of (length bytes) ≤ NDIRECT → node_blocks first bytes ≡ padded bytes
unfolding node_blocks
node-few first bytes few = cond-false (needs_indirect (length bytes)) _ (padded bytes) (le-ltb NDIRECT (blocks_of (length bytes)) few)

-- and with one
node-many : (first : ℕ) (bytes : List ℕ) → NDIRECT < blocks_of (length bytes) →
    node_blocks first bytes
    ≡ take (BLKSIZE * NDIRECT) bytes ++ (bytes_of_words (numbers (further_number first (length bytes)) NINDIRECT) ++ padded (drop (BLKSIZE * NDIRECT) bytes))
unfolding node_blocks numbers
node-many first bytes many = cond-true (needs_indirect (length bytes)) _ (padded bytes) (lt-ltb NDIRECT (blocks_of (length bytes)) many)

-- how many blocks these are
span-few : (size : ℕ) → blocks_of size ≤ NDIRECT → span_of size ≡ blocks_of size
span-few size few = grind (arith, nat_tests)

span-many : (size : ℕ) → NDIRECT < blocks_of size → span_of size ≡ blocks_of size + 1
span-many size many = grind (arith, nat_tests)

-- ---- how long they are

-- zeros fill up the last block
whole : (size : ℕ) → size + (BLKSIZE * blocks_of size - size) ≡ BLKSIZE * blocks_of size
whole size = omega arith

length-padded : (bytes : List ℕ) → length (padded bytes) ≡ BLKSIZE * blocks_of (length bytes)
length-padded bytes =
    length-append bytes (zeros (BLKSIZE * blocks_of (length bytes) - length bytes))
    ∙ ap (λ (n : ℕ). length bytes + n) (length-zeros (BLKSIZE * blocks_of (length bytes) - length bytes))
    ∙ whole (length bytes)

-- the first ten blocks, the indirect block, and those behind it
length-first : (bytes : List ℕ) → NDIRECT < blocks_of (length bytes) → length (take (BLKSIZE * NDIRECT) bytes) ≡ BLKSIZE * NDIRECT
length-first bytes many = length-take (BLKSIZE * NDIRECT) bytes ∙ full (length bytes) many
  where
    full : (size : ℕ) → NDIRECT < blocks_of size → min (BLKSIZE * NDIRECT) size ≡ BLKSIZE * NDIRECT
    full size many = omega arith

length-further : (first size : ℕ) → length (bytes_of_words (numbers (further_number first size) NINDIRECT)) ≡ BLKSIZE
length-further first size =
    length-bytes_of_words (numbers (further_number first size) NINDIRECT)
    ∙ ap (λ (n : ℕ). 4 * n) (length-numbers (further_number first size) NINDIRECT)

length-last : (bytes : List ℕ) → NDIRECT < blocks_of (length bytes) →
    length (padded (drop (BLKSIZE * NDIRECT) bytes)) ≡ BLKSIZE * (blocks_of (length bytes) - NDIRECT)
length-last bytes many =
    length-padded (drop (BLKSIZE * NDIRECT) bytes)
    ∙ ap (λ (n : ℕ). BLKSIZE * blocks_of n) (length-drop (BLKSIZE * NDIRECT) bytes)
    ∙ less (length bytes) many
  where
    less : (size : ℕ) → NDIRECT < blocks_of size → BLKSIZE * blocks_of (size - BLKSIZE * NDIRECT) ≡ BLKSIZE * (blocks_of size - NDIRECT)
    less size many = omega arith

length-three : (a b c : List ℕ) (l m n : ℕ) → length a ≡ l → length b ≡ m → length c ≡ n → length (a ++ (b ++ c)) ≡ l + (m + n)
length-three a b c l m n p q r = omega (arith, length-append a (b ++ c), length-append b c)

-- they are as many as the node takes
pub length-node : (first : ℕ) (bytes : List ℕ) → length (node_blocks first bytes) ≡ BLKSIZE * span_of (length bytes)
length-node first bytes = elim (cases_lt NDIRECT (blocks_of (length bytes))) [
  | inr few ↦
      ap length (node-few first bytes few) ∙ length-padded bytes
      ∙ ap (λ (n : ℕ). BLKSIZE * n) (sym (span-few (length bytes) few))
  | inl many ↦
      ap length (node-many first bytes many)
      ∙ length-three _ _ _ _ _ _ (length-first bytes many) (length-further first (length bytes)) (length-last bytes many)
      ∙ sum (blocks_of (length bytes)) many
      ∙ ap (λ (n : ℕ). BLKSIZE * n) (sym (span-many (length bytes) many))
]
  where
    sum : (n : ℕ) → NDIRECT < n → BLKSIZE * NDIRECT + (BLKSIZE + BLKSIZE * (n - NDIRECT)) ≡ BLKSIZE * (n + 1)
    sum n many = omega arith

-- ---- what they say

-- What the blocks say that begin with this one: the bytes, of which those past the tenth block stand a block further on,
-- and the numbers in the indirect block.
pub record NodeStands (byte : ℕ → ℕ) (first : ℕ) (bytes : List ℕ) : Type 0 where
  pub early : (at : ℕ) → at < length bytes → at < BLKSIZE * NDIRECT → byte (BLKSIZE * first + at) ≡ get_or bytes at 0
  pub late : (at : ℕ) → at < length bytes → BLKSIZE * NDIRECT ≤ at → byte (BLKSIZE * first + BLKSIZE + at) ≡ get_or bytes at 0
  pub words : NDIRECT < blocks_of (length bytes) → (i : ℕ) → i < NINDIRECT →
      word_at byte (BLKSIZE * (first + NDIRECT) + 4 * i) ≡ further_number first (length bytes) i

-- the numbers in the indirect block are words
further-fits : (first size i : ℕ) → first ≤ MAXBLOCKS → i < NINDIRECT → further_number first size i < 2 ^ 32
further-fits first size i few within = grind (arith, nat_tests)

-- with no indirect block no byte is past the tenth block
few-early : (size at : ℕ) → blocks_of size ≤ NDIRECT → at < size → at < BLKSIZE * NDIRECT
few-early size at few within = omega arith

node-few-stands : (byte : ℕ → ℕ) (first : ℕ) (bytes : List ℕ) → blocks_of (length bytes) ≤ NDIRECT →
    Stands byte (BLKSIZE * first) (padded bytes) → NodeStands byte first bytes
node-few-stands byte first bytes few all =
    let here = stands-first byte (BLKSIZE * first) bytes _ all in
    record {
      early = λ at within before. here.each at within;
      late = λ at within past. absurd (not-both at (few-early (length bytes) at few within) past);
      words = λ many. absurd (not-both NDIRECT many few);
    }
  where
    not-both : (a : ℕ) {b : ℕ} → a < b → b ≤ a → ⊥
    not-both a lt le = omega arith

node-many-stands : (byte : ℕ → ℕ) (first : ℕ) (bytes : List ℕ) → first ≤ MAXBLOCKS → NDIRECT < blocks_of (length bytes) →
    Stands byte (BLKSIZE * first)
    (take (BLKSIZE * NDIRECT) bytes ++ (bytes_of_words (numbers (further_number first (length bytes)) NINDIRECT) ++ padded (drop (BLKSIZE * NDIRECT) bytes))) →
    NodeStands byte first bytes
node-many-stands byte first bytes low many all =
    let words : List ℕ = numbers (further_number first (length bytes)) NINDIRECT in
    let start : List ℕ = take (BLKSIZE * NDIRECT) bytes in
    let more : List ℕ = drop (BLKSIZE * NDIRECT) bytes in
    let here = stands-first byte (BLKSIZE * first) start _ all in
    let behind = stands-rest byte (BLKSIZE * first) (BLKSIZE * (first + NDIRECT)) start _ (ten first (length start) (length-first bytes many)) all in
    let listed = stands-first byte (BLKSIZE * (first + NDIRECT)) (bytes_of_words words) _ behind in
    let last = stands-first byte (BLKSIZE * (first + NDIRECT + 1)) more _
    (stands-rest byte (BLKSIZE * (first + NDIRECT)) (BLKSIZE * (first + NDIRECT + 1)) (bytes_of_words words) _ (one (first + NDIRECT) (length (bytes_of_words words)) (length-further first (length bytes))) behind) in
    record {
      early = λ at within before.
          here.each at (early at (length start) (length-first bytes many) before) ∙ get_or-take (BLKSIZE * NDIRECT) bytes at 0 before;
      late = λ at within past.
          ap byte (place first at past)
          ∙ last.each (at - BLKSIZE * NDIRECT) (behind_them at (length bytes) (length more) (length-drop (BLKSIZE * NDIRECT) bytes) within past)
          ∙ get_or-drop (BLKSIZE * NDIRECT) bytes (at - BLKSIZE * NDIRECT) 0
          ∙ ap (λ (n : ℕ). get_or bytes n 0) (again at past);
      words = λ _ i within.
          words-stand byte (BLKSIZE * (first + NDIRECT)) words
          (λ k lt. subst (λ (n : ℕ). n < 2 ^ 32) (sym (get_or-numbers (further_number first (length bytes)) NINDIRECT k (counted k (length words) (length-numbers _ NINDIRECT) lt)))
          (further-fits first (length bytes) k low (counted k (length words) (length-numbers _ NINDIRECT) lt)))
          listed i (early i (length words) (length-numbers _ NINDIRECT) within)
          ∙ get_or-numbers (further_number first (length bytes)) NINDIRECT i within;
    }
  where
    ten : (b n : ℕ) → n ≡ BLKSIZE * NDIRECT → BLKSIZE * (b + NDIRECT) ≡ BLKSIZE * b + n
    ten b n e = omega arith

    one : (b n : ℕ) → n ≡ BLKSIZE → BLKSIZE * (b + 1) ≡ BLKSIZE * b + n
    one b n e = omega arith

    early : (at n : ℕ) {m : ℕ} → n ≡ m → at < m → at < n
    early at n e lt = omega arith

    counted : (at n : ℕ) {m : ℕ} → n ≡ m → at < n → at < m
    counted at n e lt = omega arith

    place : (b at : ℕ) → BLKSIZE * NDIRECT ≤ at → BLKSIZE * b + BLKSIZE + at ≡ BLKSIZE * (b + NDIRECT + 1) + (at - BLKSIZE * NDIRECT)
    place b at past = omega arith

    behind_them : (at size rest : ℕ) → rest ≡ size - BLKSIZE * NDIRECT → at < size → BLKSIZE * NDIRECT ≤ at → at - BLKSIZE * NDIRECT < rest
    behind_them at size rest e within past = omega arith

    again : (at : ℕ) → BLKSIZE * NDIRECT ≤ at → BLKSIZE * NDIRECT + (at - BLKSIZE * NDIRECT) ≡ at
    again at past = omega arith

-- where the blocks stand they say so
pub node-stands : (byte : ℕ → ℕ) (first : ℕ) (bytes : List ℕ) → first ≤ MAXBLOCKS → Stands byte (BLKSIZE * first) (node_blocks first bytes) →
    NodeStands byte first bytes
node-stands byte first bytes low all = elim (cases_lt NDIRECT (blocks_of (length bytes))) [
  | inr few ↦ node-few-stands byte first bytes few (subst (Stands byte (BLKSIZE * first)) (node-few first bytes few) all)
  | inl many ↦ node-many-stands byte first bytes low many (subst (Stands byte (BLKSIZE * first)) (node-many first bytes many) all)
]
