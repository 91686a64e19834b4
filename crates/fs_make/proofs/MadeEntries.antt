-- What the record of a file or a directory says, and the bytes that are read by it.
use Rattle.std.proofs.Common.{◌≡◌, ◌∙◌, ◌+◌, ◌-◌, ◌*◌, ◌/◌, ◌%◌, ◌^◌, ◌<◌, ◌≤◌, inl, inr, ℕ, true, false}
use Rattle.std.proofs.Common.{List, ◌++◌, length, get_or, sym, ap, subst, arith}
use Rattle.std.specs.Prelude.{nat_lt, slice_index, if◌then◌else◌}
use Rattle.std.proofs.lemmas.Bool.{cases_lt, cond-true, cond-false}
use Rattle.std.proofs.lemmas.Bool.Decides.{nat_tests}
use Rattle.std.proofs.lemmas.List.{get_or_past}
use Rattle.std.proofs.lemmas.List.FromFn.{length-map-range_with_len, get_or-map-range_with_len}
use Rattle.jos_base.specs.Words.{word_at}
use Rattle.fs_layout.specs.declared.records.FileEntry.{FileEntry}
use Rattle.fs_layout.specs.declared.numbers.TheConstants.{BLKSIZE, MAXNAMELEN, NDIRECT, NINDIRECT, MAXFILESIZE, MAXBLOCKS}
use Rattle.fs_layout.specs.Layout.{zeros, file_entry_at, entry_bytes, words_from, EntryFits}
use Rattle.fs_layout.specs.FileTree.{blocks_of}
use Rattle.fs_layout.specs.DiskImage.{size_of, kind_at, direct_of, indirect_of, number_in_indirect, block_number_at, blocks_needed}
use Rattle.fs_layout.specs.DiskFiles.{file_byte, file_bytes}
use Rattle.fs_layout.proofs.Written.{Stands, entry-back, stands-first}
use Rattle.fs_make.specs.MadeImage.{direct_numbers, indirect_number, made_entry}
use Rattle.fs_make.proofs.Walks.{LaidFrom}
use Rattle.fs_make.proofs.Standing.{values_below-is}
use Rattle.fs_make.proofs.FileNames.{length-field}
use Rattle.fs_make.proofs.MadeNodes.{further_number, NodeStands}

-- ---- a record

-- one of the numbers of the first ten blocks
abbrev pub direct_number : ℕ → ℕ → ℕ → ℕ
direct_number first size i = if nat_lt i (blocks_of size) then first + i else 0

-- what a record says of a node of this size whose blocks begin with this one
pub record RecordSays (byte : ℕ → ℕ) (place size kind first : ℕ) : Type 0 where
  pub size_is : size_of byte place ≡ size
  pub kind_is : kind_at byte place ≡ kind
  pub direct : (i : ℕ) → i < NDIRECT → direct_of byte place i ≡ direct_number first size i
  pub indirect : indirect_of byte place ≡ indirect_number first size

-- numbers that fit a record
pub record InRange (name : List ℕ) (size kind first : ℕ) : Type 0 where
  pub name_short : length name < MAXNAMELEN
  pub size_short : size ≤ MAXFILESIZE
  pub kind_known : kind ≤ 1
  pub first_low : first ≤ MAXBLOCKS

-- the numbers are words
direct-fits : (first size i : ℕ) → first ≤ MAXBLOCKS → i < NDIRECT → direct_number first size i < 2 ^ 32
direct-fits first size i low within = grind (arith, nat_tests)

indirect-fits : (first size : ℕ) → first ≤ MAXBLOCKS → indirect_number first size < 2 ^ 32
indirect-fits first size low = grind (arith, nat_tests)

-- the list of the ten
direct-at : (first size i : ℕ) → i < NDIRECT → get_or (direct_numbers first size) i 0 ≡ direct_number first size i
direct-at first size i within = get_or-map-range_with_len (direct_number first size) 0 NDIRECT i i 0 within (omega arith)

length-direct : (first size : ℕ) → length (direct_numbers first size) ≡ NDIRECT
length-direct first size = length-map-range_with_len (direct_number first size) 0 NDIRECT

each-direct-fits : (first size i : ℕ) → first ≤ MAXBLOCKS → slice_index (direct_numbers first size) i < 2 ^ 32
each-direct-fits first size i low = elim (cases_lt i NDIRECT) [
  | inl within ↦ subst (λ (n : ℕ). n < 2 ^ 32) (sym (direct-at first size i within)) (direct-fits first size i low within)
  | inr past ↦ subst (λ (n : ℕ). n < 2 ^ 32) (sym (get_or_past (direct_numbers first size) i 0 (at_least (length (direct_numbers first size)) (length-direct first size) past))) (omega arith)
]
  where
    at_least : (n : ℕ) → n ≡ NDIRECT → NDIRECT ≤ i → n ≤ i
    at_least n e le = omega arith

-- the record is one whose bytes are read back
pub entry-fits : (name : List ℕ) (size kind first : ℕ) → InRange name size kind first → EntryFits (made_entry name size kind first)
unfolding made_entry
entry-fits name size kind first range = record {
  name = length-field name range.name_short;
  size = low size range.size_short;
  kind = known kind range.kind_known;
  direct = length-direct first size;
  each = λ k. each-direct-fits first size k range.first_low;
  indirect = indirect-fits first size range.first_low;
}
  where
    low : (n : ℕ) → n ≤ MAXFILESIZE → n < 2 ^ 32
    low n le = omega arith

    known : (n : ℕ) → n ≤ 1 → n < 2 ^ 32
    known n le = omega arith

-- and so where it stands it says so
pub record-says : (byte : ℕ → ℕ) (place : ℕ) (name : List ℕ) (size kind first : ℕ) → InRange name size kind first →
    Stands byte place (entry_bytes (made_entry name size kind first)) → RecordSays byte place size kind first
unfolding file_entry_at words_from made_entry
record-says byte place name size kind first range all =
    let back = entry-back byte place (made_entry name size kind first) (entry-fits name size kind first range) all in
    record {
      size_is = ap (λ (e : FileEntry). e.size) back;
      kind_is = ap (word_at byte) (kind_place place) ∙ ap (λ (e : FileEntry). e.kind) back;
      direct = λ i within.
          ap (word_at byte) (direct_place place i)
          ∙ sym (get_or-map-range_with_len (λ k. word_at byte (place + 136 + 4 * k)) 0 NDIRECT i i 0 within (start i))
          ∙ ap (λ (e : FileEntry). get_or e.direct i 0) back
          ∙ direct-at first size i within;
      indirect = ap (word_at byte) (indirect_place place) ∙ ap (λ (e : FileEntry). e.indirect) back;
    }
  where
    kind_place : (p : ℕ) → p + MAXNAMELEN + 4 ≡ p + 132
    kind_place p = omega arith

    direct_place : (p i : ℕ) → p + MAXNAMELEN + 8 + 4 * i ≡ p + 136 + 4 * i
    direct_place p i = omega arith

    indirect_place : (p : ℕ) → p + MAXNAMELEN + 8 + 4 * NDIRECT ≡ p + 176
    indirect_place p = omega arith

    start : (i : ℕ) → 0 + i ≡ i
    start i = omega arith

-- whether a block is within the size
below-test : (i n m : ℕ) → n ≡ m → i < n → nat_lt i m ≡ true
below-test i n m e lt = grind (arith, nat_tests)

past-test : (i n m : ℕ) → n ≡ m → n ≤ i → nat_lt i m ≡ false
past-test i n m e le = grind (arith, nat_tests)

-- the record and the indirect block together: the numbers are those of blocks that follow one another
pub laid-from : (byte : ℕ → ℕ) (place kind first : ℕ) (bytes : List ℕ) → length bytes ≤ MAXFILESIZE →
    RecordSays byte place (length bytes) kind first → NodeStands byte first bytes → LaidFrom byte place first
laid-from byte place kind first bytes short says node =
    let size : ℕ = length bytes in
    let needed : blocks_needed byte place ≡ blocks_of (length bytes) = ap (λ (n : ℕ). blocks_of n) says.size_is in
    record {
      direct = λ i within lt. says.direct i within ∙ cond-true _ _ _ (below-test i (blocks_needed byte place) (blocks_of (length bytes)) needed lt);
      no_more_direct = λ i within past. says.direct i within ∙ cond-false _ _ _ (past-test i (blocks_needed byte place) (blocks_of (length bytes)) needed past);
      indirect = λ many. says.indirect ∙ cond-true _ _ _ (below-test NDIRECT (blocks_needed byte place) (blocks_of (length bytes)) needed many);
      no_indirect = λ few. says.indirect ∙ cond-false _ _ _ (past-test NDIRECT (blocks_needed byte place) (blocks_of (length bytes)) needed few);
      further = λ many i lt.
          number many i (room i (blocks_needed byte place) (blocks_of (length bytes)) needed (fits (length bytes) short) lt)
          ∙ cond-true _ _ _ (below-test (NDIRECT + i) (blocks_needed byte place) (blocks_of (length bytes)) needed lt);
      no_further = λ many i within past.
          number many i within ∙ cond-false _ _ _ (past-test (NDIRECT + i) (blocks_needed byte place) (blocks_of (length bytes)) needed past);
      fits = few_enough (blocks_needed byte place) (blocks_of (length bytes)) needed (fits (length bytes) short);
    }
  where
    fits : (size : ℕ) → size ≤ MAXFILESIZE → blocks_of size ≤ NDIRECT + NINDIRECT
    fits size le = omega arith

    few_enough : (n m : ℕ) → n ≡ m → m ≤ NDIRECT + NINDIRECT → n ≤ NDIRECT + NINDIRECT
    few_enough n m e le = omega arith

    room : (i n m : ℕ) → n ≡ m → m ≤ NDIRECT + NINDIRECT → NDIRECT + i < n → i < NINDIRECT
    room i n m e le lt = omega arith

    more : (n m : ℕ) → n ≡ m → NDIRECT < n → NDIRECT < m
    more n m e lt = omega arith

    number : NDIRECT < blocks_needed byte place → (i : ℕ) → i < NINDIRECT → number_in_indirect byte place i ≡ further_number first (length bytes) i
    number many i within =
        ap (λ (n : ℕ). word_at byte (BLKSIZE * n + 4 * i))
        (says.indirect ∙ cond-true _ _ _ (below-test NDIRECT (blocks_needed byte place) (blocks_of (length bytes)) (ap (λ (n : ℕ). blocks_of n) says.size_is) many))
        ∙ node.words (more (blocks_needed byte place) (blocks_of (length bytes)) (ap (λ (n : ℕ). blocks_of n) says.size_is) many) i within

-- the name in a record
pub entry-name : (byte : ℕ → ℕ) (place : ℕ) (name : List ℕ) (size kind first : ℕ) → Stands byte place (entry_bytes (made_entry name size kind first)) →
    Stands byte place (name ++ zeros (MAXNAMELEN - length name))
unfolding entry_bytes made_entry
entry-name byte place name size kind first all = stands-first byte place (name ++ zeros (MAXNAMELEN - length name)) _ all

-- ---- the bytes of a file

-- the number of one of its blocks: of the first ten, and of those behind them
number-direct : (byte : ℕ → ℕ) (place first i : ℕ) → LaidFrom byte place first → i < NDIRECT → i < blocks_needed byte place →
    block_number_at byte place i ≡ first + i
number-direct byte place first i laid within lt =
    let test : nat_lt i NDIRECT ≡ true = grind (arith, nat_tests) in
    rw test (laid.direct i within lt)

number-further : (byte : ℕ → ℕ) (place first i : ℕ) → LaidFrom byte place first → NDIRECT ≤ i → i < blocks_needed byte place →
    block_number_at byte place i ≡ first + i + 1
number-further byte place first i laid past lt =
    let test : nat_lt i NDIRECT ≡ false = grind (arith, nat_tests) in
    let more : NDIRECT < blocks_needed byte place = omega arith in
    let read = laid.further more (i - NDIRECT) (omega arith) in
    rw test (read ∙ omega arith)

-- a byte, and all of them
pub file-byte : (byte : ℕ → ℕ) (place first at : ℕ) (bytes : List ℕ) → LaidFrom byte place first → size_of byte place ≡ length bytes →
    NodeStands byte first bytes → at < length bytes → file_byte byte place at ≡ get_or bytes at 0
file-byte byte place first at bytes laid size node within = elim (cases_lt (at / BLKSIZE) NDIRECT) [
  | inl direct ↦
      ap (λ (n : ℕ). byte (BLKSIZE * n + at % BLKSIZE)) (number-direct byte place first (at / BLKSIZE) laid direct (among (size_of byte place) (length bytes) size within))
      ∙ ap byte (early first at) ∙ node.early at within (omega arith)
  | inr further ↦
      ap (λ (n : ℕ). byte (BLKSIZE * n + at % BLKSIZE)) (number-further byte place first (at / BLKSIZE) laid further (among (size_of byte place) (length bytes) size within))
      ∙ ap byte (late first at) ∙ node.late at within (omega arith)
]
  where
    among : (n m : ℕ) → n ≡ m → at < m → at / BLKSIZE < (n + (BLKSIZE - 1)) / BLKSIZE
    among n m e lt = omega arith

    early : (b at : ℕ) → BLKSIZE * (b + at / BLKSIZE) + at % BLKSIZE ≡ BLKSIZE * b + at
    early b at = omega arith

    late : (b at : ℕ) → BLKSIZE * (b + at / BLKSIZE + 1) + at % BLKSIZE ≡ BLKSIZE * b + BLKSIZE + at
    late b at = omega arith

pub file-bytes : (byte : ℕ → ℕ) (place first : ℕ) (bytes : List ℕ) → LaidFrom byte place first → size_of byte place ≡ length bytes →
    NodeStands byte first bytes → file_bytes byte place ≡ bytes
unfolding file_bytes
file-bytes byte place first bytes laid size node =
    values_below-is (size_of byte place) (file_byte byte place) bytes 0 (sym size)
    (λ at lt. file-byte byte place first at bytes laid size node (below at (size_of byte place) (length bytes) size lt))
  where
    below : (at n m : ℕ) → n ≡ m → at < n → at < m
    below at n m e lt = omega arith
