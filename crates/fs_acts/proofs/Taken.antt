-- A free block that is taken: its bit is cleared, and its bytes are zeros.
use Rattle.std.proofs.Common.{◌≡◌, ◌≢◌, ◌∙◌, ◌⊎◌, inl, inr, ℕ, ◌+◌, ◌-◌, ◌*◌, ◌/◌, ◌%◌, ◌^◌, ◌<◌, ◌≤◌, ◌==◌, ◌&&◌, Bool}
use Rattle.std.proofs.Common.{true, false, not, Some, refl, sym, ap, subst, arith}
use Rattle.std.specs.Prelude.{nat_le}
use Rattle.std.proofs.lemmas.Bool.{cases_eq}
use Rattle.jos_base.specs.Words.{word_at}
use Rattle.fs_layout.specs.declared.numbers.TheConstants.{BLKSIZE, RECORDSIZE, NDIRECT, NINDIRECT}
use Rattle.fs_layout.specs.DiskImage.{block_count, root_place, first_data_block, is_data_block, indirect_of, blocks_needed}
use Rattle.fs_layout.specs.DiskImage.{number_in_indirect, has_stray_in_indirect, is_marked_free}
use Rattle.jos_base.proofs.Below.{some_below-none}
use Rattle.fs_acts.specs.BlockActs.{put_byte, put_word, stored, written, zero_block, mark_place, lowest_free}
use Rattle.fs_acts.specs.BlockLaws.{IsCounted, times_named, times_on_disk}
use Rattle.fs_acts.proofs.Stored.{same-word, stored-word, stored-zero}
use Rattle.fs_acts.proofs.OneWay.{none-before}
use Rattle.fs_acts.proofs.OneRecord.{AreLoose}
use Rattle.fs_acts.proofs.AtEnd.{AtEnd, data-after, data-first, Elsewhere, map-block, InMap, off-mark, mark-beyond, off-block}
use Rattle.fs_acts.proofs.BlockPuts.{below_or_past, Beyond, WordPut, byte-put, zero-block}
use Rattle.fs_acts.proofs.Marks.{Used}
use Rattle.fs_acts.proofs.FreeBlocks.{lowest-free}
use Rattle.fs_acts.proofs.TreeBlocks.{data-below}

-- ---- a free block

pub record IsFree (byte : ℕ → ℕ) (block : ℕ) : Type 0 where
  pub marked : is_marked_free byte block ≡ true
  pub sound : is_data_block (block_count byte) block ≡ true
  pub first : first_data_block (block_count byte) ≤ block
  pub within : block < block_count byte
  pub none : times_on_disk byte block ≡ 0

clash : (b : Bool) → b ≡ true → b ≡ false → ⊥
clash true is no_more = cc
clash false is no_more = cc

pub free-block : (size : ℕ) (byte : ℕ → ℕ) (block : ℕ) → IsCounted size byte → lowest_free byte ≡ Some block → IsFree byte block
free-block size byte block counted found =
    let lowest = lowest-free byte block found in
    record {
      marked = lowest.0;
      sound = lowest.1;
      first = data-after (block_count byte) block lowest.1;
      within = data-below (block_count byte) block lowest.1;
      none = elim (cases_eq (times_on_disk byte block) 0) [
        | inl none ↦ none
        | inr some ↦ absurd (clash (is_marked_free byte block) lowest.0 (counted.in_use block (omega (arith, some))))
      ];
    }

-- the blocks that are told: the bitmap's, and this one
abbrev pub InTaken : (ℕ → ℕ) → ℕ → ℕ → Type 0
InTaken byte block q = InMap byte q ⊎ (q ≡ block)

pub taken-loose : (size : ℕ) (byte : ℕ → ℕ) (block : ℕ) → IsCounted size byte → IsFree byte block → AreLoose byte (InTaken byte block)
taken-loose size byte block counted free q (inl (after, before)) =
    (none-before byte (block_count byte) root_place q counted.records before, λ e. omega (arith, after, e))
taken-loose size byte block counted free q (inr e) =
    let first = free.first in (ap (times_on_disk byte) e ∙ free.none, λ one. omega (arith, e, one, first))

pub taken-apart : (byte : ℕ → ℕ) (depth place block : ℕ) → AtEnd byte depth place →
    ((q : ℕ) → times_named depth byte place q ≤ times_on_disk byte q) → IsFree byte block → (q : ℕ) →
    0 < times_named depth byte place q → InTaken byte block q → ⊥
taken-apart byte depth place block end above free q some (inl (after, before)) =
    let first = data-first depth byte place q end.good some in omega (arith, first, before)
taken-apart byte depth place block end above free q some (inr e) =
    let most = above q in let none = ap (times_on_disk byte) e ∙ free.none in omega (arith, some, most, none)

-- ---- its bytes and its bit

pub record Zeroed (byte mid : ℕ → ℕ) (block : ℕ) : Type 0 where
  pub kept : (q : ℕ) → q ≢ mark_place block → Beyond 4096 (4096 * block) q → byte q ≡ mid q
  pub mark : mid (mark_place block) ≡ byte (mark_place block) - 2 ^ (block % 8)
  pub zero : (q : ℕ) → 4096 * block ≤ q → q < 4096 * block + 4096 → mid q ≡ 0

-- the bitmap is before the block
pub mark-before : (byte : ℕ → ℕ) (block q : ℕ) → IsFree byte block → q < block_count byte → mark_place q < 4096 * block
mark-before byte block q free within =
    let map = (map-block (block_count byte) q within).1 in let first = free.first in below q block map first
  where
    below : (q block : ℕ) → mark_place q / 4096 < first_data_block (block_count byte) → first_data_block (block_count byte) ≤ block →
        mark_place q < 4096 * block
    below q block map first = let order : mark_place q / 4096 < block = omega (arith, map, first) in omega (arith, order)

pub block-zeroed : (byte : ℕ → ℕ) (block : ℕ) → IsFree byte block →
    Zeroed byte
    (written (zero_block block) (stored (put_byte (mark_place block) (byte (mark_place block) - 2 ^ (block % 8))) byte)) block
block-zeroed byte block free =
    let value : ℕ = byte (mark_place block) - 2 ^ (block % 8) in
    let marked : ℕ → ℕ = stored (put_byte (mark_place block) value) byte in
    let put = byte-put byte (mark_place block) value in
    let zeros = zero-block marked block in
    record {
      kept = λ q ne beyond. put.kept q ne ∙ zeros.kept q beyond;
      mark = sym (zeros.kept (mark_place block) (inl (mark-before byte block block free free.within))) ∙ put.now;
      zero = zeros.now;
    }

-- ---- words that are put in the record then

-- what is left of it where the word stands in the record
pub record TakenWord (byte other : ℕ → ℕ) (place block from word : ℕ) : Type 0 where
  pub elsewhere : Elsewhere byte other place (InTaken byte block)
  pub kept : (q : ℕ) → place ≤ q → q < place + RECORDSIZE → Beyond 4 from q → byte q ≡ other q
  pub now : word_at other from ≡ word
  pub used : Used byte other block
  pub zero : (q : ℕ) → 4096 * block ≤ q → q < 4096 * block + 4096 → other q ≡ 0

differ : (a b : ℕ) → a ≢ b → 8192 + a ≢ 8192 + b
differ a b ne e = ne (omega (arith, e))

neither : (block q : ℕ) → 4096 * block ≤ q → q < 4096 * block + 4096 → Beyond 4096 (4096 * block) q → ⊥
neither block q after before (inl less) = omega (arith, after, less)
neither block q after before (inr more) = omega (arith, before, more)

pub taken-word : (byte mid other : ℕ → ℕ) (depth place block from word : ℕ) → AtEnd byte depth place → IsFree byte block →
    Zeroed byte mid block → place ≤ from → from + 4 ≤ place + 256 → WordPut mid other from word →
    TakenWord byte other place block from word
taken-word byte mid other depth place block from word end free zeroed low high put =
    let apart = end.off_loose block free.first free.none in
    record {
      elsewhere = λ q. elim (cases_eq q (mark_place block)) [
        | inl e ↦
            let map = map-block (block_count byte) block free.within in
            inr (inr (inl (subst (InMap byte) (sym (ap (λ p. p / BLKSIZE) e)) (map.0, map.1))))
        | inr ne ↦ by_block q ne (below_or_past q (4096 * block)) (below_or_past q (4096 * block + 4096))
      ];
      kept = λ q after before beyond.
          zeroed.kept q (off-mark byte depth place end q block after before free.within)
          (off-block byte depth place end q block after before apart)
          ∙ put.kept q beyond;
      now = put.now;
      used = record {
        was = free.marked;
        at = sym (put.kept (mark_place block) (mark-beyond byte depth place end from 4 block low high free.within)) ∙ zeroed.mark;
        others = λ q inside rows.
            zeroed.kept (mark_place q) (differ (q / 8) (block / 8) rows) (inl (mark-before byte block q free inside))
            ∙ put.kept (mark_place q) (mark-beyond byte depth place end from 4 q low high inside);
      };
      zero = λ q after before.
          sym (put.kept q (beyond q after before apart (below_or_past q from) (below_or_past q (from + 4)))) ∙ zeroed.zero q after before;
    }
  where
    beyond : (q : ℕ) → 4096 * block ≤ q → q < 4096 * block + 4096 → place / BLKSIZE ≢ block → (q < from) ⊎ (from ≤ q) →
        (q < from + 4) ⊎ (from + 4 ≤ q) → Beyond 4 from q
    beyond q after before apart (inl less) side = inl less
    beyond q after before apart (inr past) (inr behind) = inr behind
    beyond q after before apart (inr past) (inl inside) =
        absurd
        (neither block q after before
        (off-block byte depth place end q block (omega (arith, low, past)) (omega (arith, inside, high)) apart))

    by_word : (q : ℕ) → q ≢ mark_place block → Beyond 4096 (4096 * block) q → (q < from) ⊎ (from ≤ q) →
        (q < from + 4) ⊎ (from + 4 ≤ q) →
        (byte q ≡ other q) ⊎ (((place ≤ q) × (q < place + RECORDSIZE)) ⊎ InTaken byte block (q / BLKSIZE))
    by_word q ne outside (inl less) side = inl (zeroed.kept q ne outside ∙ put.kept q (inl less))
    by_word q ne outside (inr past) (inr behind) = inl (zeroed.kept q ne outside ∙ put.kept q (inr behind))
    by_word q ne outside (inr past) (inl inside) = inr (inl (omega (arith, low, past), omega (arith, inside, high)))

    quotient : (q : ℕ) → 4096 * block ≤ q → q < 4096 * block + 4096 → q / 4096 ≡ block
    quotient q after before = omega (arith, after, before)

    by_block : (q : ℕ) → q ≢ mark_place block → (q < 4096 * block) ⊎ (4096 * block ≤ q) →
        (q < 4096 * block + 4096) ⊎ (4096 * block + 4096 ≤ q) →
        (byte q ≡ other q) ⊎ (((place ≤ q) × (q < place + RECORDSIZE)) ⊎ InTaken byte block (q / BLKSIZE))
    by_block q ne (inl less) side = by_word q ne (inl less) (below_or_past q from) (below_or_past q (from + 4))
    by_block q ne (inr past) (inr behind) = by_word q ne (inr behind) (below_or_past q from) (below_or_past q (from + 4))
    by_block q ne (inr past) (inl inside) = inr (inr (inr (quotient q past inside)))

-- ---- numbers in a block of zeros

zero-word : (other : ℕ → ℕ) (place : ℕ) → ((k : ℕ) → k < 4 → other (place + k) ≡ 0) → word_at other place ≡ 0
zero-word other place none =
    let at : place + 0 ≡ place = omega arith in
    let here : (q : ℕ) → place ≤ q → q < place + 4 → stored (put_word place 0) other q ≡ 0 =
    λ q low high. stored-zero other place q low high in
    same-word other (stored (put_word place 0) other) place
    (ap other (sym at) ∙ none 0 (omega arith) ∙ sym (here place (omega arith) (omega arith)))
    (none 1 (omega arith) ∙ sym (here (place + 1) (omega arith) (omega arith)))
    (none 2 (omega arith) ∙ sym (here (place + 2) (omega arith) (omega arith)))
    (none 3 (omega arith) ∙ sym (here (place + 3) (omega arith) (omega arith)))
    ∙ stored-word other place 0 (omega arith)

none-and : (b : Bool) (n : ℕ) → n ≡ 0 → (b && not (n == 0)) ≡ false
none-and true n e = ap (λ m. not (m == 0)) e
none-and false n e = refl

pub zero-behind : (other : ℕ → ℕ) (place block : ℕ) → indirect_of other place ≡ block →
    ((q : ℕ) → 4096 * block ≤ q → q < 4096 * block + 4096 → other q ≡ 0) → has_stray_in_indirect other place ≡ false
unfolding has_stray_in_indirect
zero-behind other place block at zeros =
    some_below-none
    (λ i. nat_le (blocks_needed other place) (NDIRECT + i) && not (number_in_indirect other place i == 0)) NINDIRECT
    (λ i within.
    none-and (nat_le (blocks_needed other place) (NDIRECT + i)) (number_in_indirect other place i)
    (ap (λ n. word_at other (BLKSIZE * n + 4 * i)) at
    ∙ zero-word other (BLKSIZE * block + 4 * i)
    (λ k below. zeros (BLKSIZE * block + 4 * i + k) (omega arith) (omega (arith, within, below)))))
