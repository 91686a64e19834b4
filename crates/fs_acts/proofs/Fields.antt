-- What a record says of itself stands in its own bytes and in its indirect block.
use Rattle.std.proofs.Common.{◌≡◌, ◌∙◌, ℕ, ◌+◌, ◌-◌, ◌*◌, ◌/◌, ◌%◌, ◌<◌, ◌≤◌, ◌==◌, ◌&&◌, Bool, true, false, not, [], ◌∷◌}
use Rattle.std.proofs.Common.{refl, sym, ap, subst, arith}
use Rattle.std.specs.Prelude.{nat_lt, nat_le}
use Rattle.std.specs.List.{before_first}
use Rattle.std.specs.Int.{w32, from_le_bytes}
use Rattle.std.proofs.lemmas.Bool.Decides.{nat_tests}
use Rattle.jos_base.specs.Words.{word_at}
use Rattle.jos_base.specs.Counting.{total}
use Rattle.jos_base.specs.Environments.{bit_of}
use Rattle.jos_base.proofs.Sums.{total-same}
use Rattle.fs_layout.specs.declared.numbers.TheConstants.{BLKSIZE, RECORDSIZE, BLKFILES, MAXNAMELEN, NDIRECT, NINDIRECT}
use Rattle.fs_layout.specs.DiskImage.{block_count, is_data_block, size_of, kind_at, direct_of, indirect_of}
use Rattle.fs_layout.specs.DiskImage.{name_of, is_directory_at, has_indirect, blocks_needed, number_in_indirect, block_number_at}
use Rattle.fs_layout.specs.DiskImage.{slot_count, slot_place, has_stray, has_stray_in_indirect}
use Rattle.fs_layout.specs.LayoutLaws.{Same}
use Rattle.jos_base.proofs.Below.{values-same, some_below-same}
use Rattle.fs_acts.specs.BlockLaws.{IsGoodRecord, own_times}

-- ---- bytes that are the same

-- a byte of them
pub same-byte : (n : ℕ) (byte other : ℕ → ℕ) (from : ℕ) → Same n byte from other from → (q : ℕ) → from ≤ q → q < from + n →
    byte q ≡ other q
same-byte n byte other from same q after within =
    let at : from + (q - from) ≡ q = omega arith in
    ap byte (sym at) ∙ same (q - from) (omega arith) ∙ ap other at

-- a word of them
pub same-word : (n : ℕ) (byte other : ℕ → ℕ) (from : ℕ) → Same n byte from other from → (q : ℕ) → from ≤ q → q + 4 ≤ from + n →
    word_at byte q ≡ word_at other q
same-word n byte other from same q after within =
    let a : byte q ≡ other q = same-byte n byte other from same q after (omega arith) in
    let b : byte (q + 1) ≡ other (q + 1) = same-byte n byte other from same (q + 1) (omega arith) (omega arith) in
    let c : byte (q + 2) ≡ other (q + 2) = same-byte n byte other from same (q + 2) (omega arith) (omega arith) in
    let d : byte (q + 3) ≡ other (q + 3) = same-byte n byte other from same (q + 3) (omega arith) (omega arith) in
    λ i. from_le_bytes w32 (a i ∷ b i ∷ c i ∷ d i ∷ [])

-- fewer of them, from a later place on
pub same-part : (n m : ℕ) (byte other : ℕ → ℕ) (from to : ℕ) → Same n byte from other from → from ≤ to → to + m ≤ from + n →
    Same m byte to other to
same-part n m byte other from to same after within k below =
    same-byte n byte other from same (to + k) (omega arith) (omega arith)

-- ---- what two disks say alike of the record at a place

-- its name, its kind, and whether it is empty
pub record SameLabel (byte other : ℕ → ℕ) (place : ℕ) : Type 0 where
  pub name : name_of byte place ≡ name_of other place
  pub kind : kind_at byte place ≡ kind_at other place
  pub first : byte place ≡ other place

-- its size and its numbers
pub record SameFields (byte other : ℕ → ℕ) (place : ℕ) : Type 0 where
  pub size : size_of byte place ≡ size_of other place
  pub kind : kind_at byte place ≡ kind_at other place
  pub direct : (i : ℕ) → i < NDIRECT → direct_of byte place i ≡ direct_of other place i
  pub indirect : indirect_of byte place ≡ indirect_of other place
  pub behind : has_indirect byte place ≡ true → (i : ℕ) → i < NINDIRECT → number_in_indirect byte place i ≡ number_in_indirect other place i

same-name : (byte other : ℕ → ℕ) (place : ℕ) → Same RECORDSIZE byte place other place → name_of byte place ≡ name_of other place
unfolding name_of
same-name byte other place same =
    ap (before_first (λ b. b == 0))
    (values-same MAXNAMELEN (λ k. byte (place + k)) (λ k. other (place + k)) (λ k below. same k (omega arith)))

pub same-label : (byte other : ℕ → ℕ) (place : ℕ) → Same RECORDSIZE byte place other place → SameLabel byte other place
same-label byte other place same = record {
  name = same-name byte other place same;
  kind = same-word RECORDSIZE byte other place same (place + MAXNAMELEN + 4) (omega arith) (omega arith);
  first = same-byte RECORDSIZE byte other place same place (omega arith) (omega arith);
}

pub same-fields : (byte other : ℕ → ℕ) (place : ℕ) → Same RECORDSIZE byte place other place →
    (has_indirect byte place ≡ true →
    Same BLKSIZE byte (BLKSIZE * indirect_of byte place) other (BLKSIZE * indirect_of byte place)) → SameFields byte other place
same-fields byte other place same block =
    let indirect : indirect_of byte place ≡ indirect_of other place =
    same-word RECORDSIZE byte other place same (place + MAXNAMELEN + 8 + 4 * NDIRECT) (omega arith) (omega arith) in
    record {
      size = same-word RECORDSIZE byte other place same (place + MAXNAMELEN) (omega arith) (omega arith);
      kind = same-word RECORDSIZE byte other place same (place + MAXNAMELEN + 4) (omega arith) (omega arith);
      direct = λ i below. same-word RECORDSIZE byte other place same (place + MAXNAMELEN + 8 + 4 * i) (omega arith) (omega arith);
      indirect = indirect;
      behind = λ has i below.
          same-word BLKSIZE byte other (BLKSIZE * indirect_of byte place) (block has) (BLKSIZE * indirect_of byte place + 4 * i)
          (omega arith) (omega arith)
          ∙ ap (λ n. word_at other (BLKSIZE * n + 4 * i)) indirect;
    }

-- ---- the record's numbers

-- how many blocks a size takes that is not past the greatest
few_blocks : (size : ℕ) → size ≤ 4235264 → (size + 4095) / 4096 ≤ 1034
few_blocks size short = omega arith

past_ten : (i : ℕ) → nat_lt i 10 ≡ false → 10 ≤ i
past_ten i far = grind (arith, nat_tests)

below_ten : (i : ℕ) → nat_lt i 10 ≡ true → i < 10
below_ten i own = grind (arith, nat_tests)

-- the number of each block within the size
pub same-number : (byte other : ℕ → ℕ) (place : ℕ) → IsGoodRecord byte place → SameFields byte other place → (i : ℕ) →
    i < blocks_needed byte place → block_number_at byte place i ≡ block_number_at other place i
same-number byte other place good same i within = by_place (nat_lt i NDIRECT) refl
  where
    by_place : (own : Bool) → nat_lt i NDIRECT ≡ own → block_number_at byte place i ≡ block_number_at other place i
    by_place true own = rw own (same.direct i (below_ten i own))
    by_place false far =
        let past : 10 ≤ i = past_ten i far in
        let few = few_blocks (size_of byte place) good.readable.short in
        let has = good.needed (omega arith) in
        rw far (same.behind has (i - NDIRECT) (omega arith))

-- and where a directory's records stand
slot_block : (size i : ℕ) → i < size / 256 → i / 16 < (size + 4095) / 4096
slot_block size i within = omega arith

pub same-slot : (byte other : ℕ → ℕ) (place : ℕ) → IsGoodRecord byte place → SameFields byte other place → (i : ℕ) →
    i < slot_count byte place → slot_place byte place i ≡ slot_place other place i
same-slot byte other place good same i within =
    ap (λ n. BLKSIZE * n + RECORDSIZE * (i % BLKFILES))
    (same-number byte other place good same (i / BLKFILES) (slot_block (size_of byte place) i within))

-- ---- what is asked of the record alone

pub same-stray : (byte other : ℕ → ℕ) (place : ℕ) → SameFields byte other place → has_stray byte place ≡ has_stray other place
unfolding has_stray
same-stray byte other place same =
    some_below-same NDIRECT (λ i. nat_le (blocks_needed byte place) i && not (direct_of byte place i == 0))
    (λ i. nat_le (blocks_needed other place) i && not (direct_of other place i == 0))
    (λ i below. λ k. nat_le ((same.size k + (BLKSIZE - 1)) / BLKSIZE) i && not (same.direct i below k == 0))

pub same-stray_behind : (byte other : ℕ → ℕ) (place : ℕ) → SameFields byte other place → has_indirect byte place ≡ true →
    has_stray_in_indirect byte place ≡ has_stray_in_indirect other place
unfolding has_stray_in_indirect
same-stray_behind byte other place same has =
    some_below-same NINDIRECT
    (λ i. nat_le (blocks_needed byte place) (NDIRECT + i) && not (number_in_indirect byte place i == 0))
    (λ i. nat_le (blocks_needed other place) (NDIRECT + i) && not (number_in_indirect other place i == 0))
    (λ i below. λ k. nat_le ((same.size k + (BLKSIZE - 1)) / BLKSIZE) (NDIRECT + i) && not (same.behind has i below k == 0))

same-has_indirect : (byte other : ℕ → ℕ) (place : ℕ) → SameFields byte other place → has_indirect byte place ≡ has_indirect other place
same-has_indirect byte other place same = ap (λ n. not (n == 0)) same.indirect

same-needed : (byte other : ℕ → ℕ) (place : ℕ) → SameFields byte other place → blocks_needed byte place ≡ blocks_needed other place
same-needed byte other place same = ap (λ n. (n + (BLKSIZE - 1)) / BLKSIZE) same.size

pub same-directory : (byte other : ℕ → ℕ) (place : ℕ) → kind_at byte place ≡ kind_at other place →
    is_directory_at byte place ≡ is_directory_at other place
same-directory byte other place kind = ap (λ n. n == 1) kind

pub good-same : (byte other : ℕ → ℕ) (place : ℕ) → block_count byte ≡ block_count other → IsGoodRecord byte place →
    SameFields byte other place → IsGoodRecord other place
good-same byte other place count good same =
    let has_back : has_indirect other place ≡ true → has_indirect byte place ≡ true =
    λ has. same-has_indirect byte other place same ∙ has in
    record {
      readable = record {
        whole = λ is.
            subst (λ n. n % BLKSIZE ≡ 0) same.size (good.readable.whole (same-directory byte other place same.kind ∙ is));
        short = subst (λ n. n ≤ 4235264) same.size good.readable.short;
        within = λ i below.
            let inside : i < blocks_needed byte place = subst (λ n. i < n) (sym (same-needed byte other place same)) below in
            ap (λ n. is_data_block n (block_number_at other place i)) (sym count)
            ∙ ap (is_data_block (block_count byte)) (sym (same-number byte other place good same i inside))
            ∙ good.readable.within i inside;
      };
      indirect = λ has.
          ap (λ n. is_data_block n (indirect_of other place)) (sym count)
          ∙ ap (is_data_block (block_count byte)) (sym same.indirect)
          ∙ good.indirect (has_back has);
      needed = λ many.
          sym (same-has_indirect byte other place same)
          ∙ good.needed (subst (λ n. NDIRECT < n) (sym (same-needed byte other place same)) many);
      no_stray = sym (same-stray byte other place same) ∙ good.no_stray;
      none_behind = λ has. sym (same-stray_behind byte other place same (has_back has)) ∙ good.none_behind (has_back has);
    }

-- ---- how often it names a block

pub own_times-same : (byte other : ℕ → ℕ) (place : ℕ) → IsGoodRecord byte place → SameFields byte other place → (block : ℕ) →
    own_times byte place block ≡ own_times other place block
unfolding own_times
own_times-same byte other place good same block =
    let numbers : total (blocks_needed byte place) (λ i. bit_of (block_number_at byte place i == block))
    ≡ total (blocks_needed byte place) (λ i. bit_of (block_number_at other place i == block)) =
    total-same (blocks_needed byte place) (λ i. bit_of (block_number_at byte place i == block))
    (λ i. bit_of (block_number_at other place i == block))
    (λ i within. ap (λ n. bit_of (n == block)) (same-number byte other place good same i within)) in
    let needed : blocks_needed byte place ≡ blocks_needed other place = same-needed byte other place same in
    let all : total (blocks_needed byte place) (λ i. bit_of (block_number_at byte place i == block))
    ≡ total (blocks_needed other place) (λ i. bit_of (block_number_at other place i == block)) =
    numbers ∙ ap (λ n. total n (λ i. bit_of (block_number_at other place i == block))) needed in
    λ k. all k + bit_of (not (same.indirect k == 0) && (same.indirect k == block))
