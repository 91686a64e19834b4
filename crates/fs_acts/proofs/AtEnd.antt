-- The record at a way's end, and what a change leaves of the blocks of it and of those below it.
use Rattle.std.proofs.Common.{◌≡◌, ◌≢◌, ◌∙◌, ◌⊎◌, inl, inr, ℕ, ◌+◌, ◌*◌, ◌/◌, ◌%◌, ◌<◌, ◌≤◌, ◌==◌, suc, true}
use Rattle.std.proofs.Common.{List, [], ◌∷◌, Option, Some, refl, sym, ap, subst, arith, option_map}
use Rattle.std.specs.Prelude.{nat_le, nat_lt}
use Rattle.std.specs.List.{before_first}
use Rattle.std.proofs.lemmas.Bool.{and_parts}
use Rattle.std.proofs.lemmas.Bool.Decides.{nat_tests}
use Rattle.fs_layout.specs.declared.numbers.TheConstants.{BLKSIZE, RECORDSIZE, MAXNAMELEN}
use Rattle.fs_layout.specs.FileTree.{Node}
use Rattle.jos_base.specs.Below.{values_below}
use Rattle.fs_layout.specs.DiskImage.{block_count, root_place, first_data_block, is_data_block, name_of, slot_place}
use Rattle.fs_layout.specs.DiskImage.{blocks_needed, block_number_at}
use Rattle.fs_layout.specs.DiskFiles.{file_byte, node_of, records_at}
use Rattle.fs_layout.specs.LayoutLaws.{Same}
use Rattle.jos_base.proofs.Below.{values-same}
use Rattle.fs_acts.specs.BlockActs.{mark_place}
use Rattle.fs_acts.specs.BlockLaws.{AreGood, IsCounted, Holds, times_named, times_on_disk}
use Rattle.fs_acts.proofs.Fields.{SameLabel, same-word}
use Rattle.fs_acts.proofs.Named.{own-one, times-own, times-slot, named-data}
use Rattle.fs_acts.proofs.OneWay.{IsWay, NamedOnce, Aligned, way-aligned, way-good, way-once, way-shorter, way-block, root-once}
use Rattle.fs_acts.proofs.Records.{records-alike, slot-good, SameBlocks, slot-same}
use Rattle.fs_acts.proofs.Ways.{good-readable, nodes-deeper, ways-lead}
use Rattle.fs_acts.proofs.Refitted.{BelowAlike}
use Rattle.fs_acts.proofs.BlockPuts.{below_or_past, Beyond}

-- ---- the record

-- what is known of it
pub record AtEnd (byte : ℕ → ℕ) (depth place : ℕ) : Type 0 where
  pub good : AreGood depth byte place
  pub once : NamedOnce byte depth place
  pub aligned : Aligned place
  -- the bitmap's blocks are not its block
  pub off_map : (place / BLKSIZE < 2) ⊎ (first_data_block (block_count byte) ≤ place / BLKSIZE)
  -- nor is a block that nothing names
  pub off_loose : (block : ℕ) → first_data_block (block_count byte) ≤ block → times_on_disk byte block ≡ 0 → place / BLKSIZE ≢ block

pub data-after : (blocks block : ℕ) → is_data_block blocks block ≡ true → first_data_block blocks ≤ block
data-after blocks block is =
    let part = (and_parts (nat_le (first_data_block blocks) block) (nat_lt block blocks) is).0 in at_least (first_data_block blocks) part
  where
    at_least : (first : ℕ) → nat_le first block ≡ true → first ≤ block
    at_least first part = grind (arith, nat_tests)

pub data-first : (depth : ℕ) (byte : ℕ → ℕ) (place block : ℕ) → AreGood depth byte place → 0 < times_named depth byte place block →
    first_data_block (block_count byte) ≤ block
data-first depth byte place block good some = data-after (block_count byte) block (named-data depth byte place block good some)

end-off_map : (byte : ℕ → ℕ) (depth : ℕ) (way : List ℕ) (place end : ℕ) → AreGood depth byte root_place →
    IsWay byte depth root_place way place end → (place / BLKSIZE < 2) ⊎ (first_data_block (block_count byte) ≤ place / BLKSIZE)
unfolding IsWay
end-off_map byte depth [] place end good (at, left) = inl (let block = ap (λ p. p / BLKSIZE) at in omega (arith, block))
end-off_map byte depth (i ∷ way) place end good onward =
    let some = way-block byte depth root_place i way place end onward in
    inr (data-first depth byte root_place (place / BLKSIZE) good (omega (arith, some)))

end-off_loose : (byte : ℕ → ℕ) (depth : ℕ) (way : List ℕ) (place end first : ℕ) → 2 ≤ first →
    IsWay byte depth root_place way place end → (block : ℕ) → first ≤ block → times_named depth byte root_place block ≡ 0 →
    place / BLKSIZE ≢ block
unfolding IsWay
end-off_loose byte depth [] place end first some (at, left) block past none e =
    let here = ap (λ p. p / BLKSIZE) at in omega (arith, some, past, here, e)
end-off_loose byte depth (i ∷ way) place end first some onward block past none e =
    let named = way-block byte depth root_place i way place end onward in
    let same = ap (times_named depth byte root_place) e in
    omega (arith, named, same, none)

pub at-end : (size : ℕ) (byte : ℕ → ℕ) (way : List ℕ) (place end : ℕ) → IsCounted size byte →
    IsWay byte (block_count byte) root_place way place end → AtEnd byte end place
at-end size byte way place end counted leads = record {
  good = way-good byte (block_count byte) root_place way place end leads counted.records;
  once = way-once byte (block_count byte) root_place way place end leads (root-once size byte counted);
  aligned = way-aligned byte (block_count byte) root_place way place end leads (omega arith);
  off_map = end-off_map byte (block_count byte) way place end counted.records leads;
  off_loose =
      end-off_loose byte (block_count byte) way place end (first_data_block (block_count byte)) (omega arith) leads;
}

-- ---- its node

some-node : (one other : Node) → ◌≡◌ {A = Option Node} (Some one) (Some other) → one ≡ other
some-node one other e = cc

pub held-node : (size : ℕ) (byte : ℕ → ℕ) (way : List ℕ) (place : ℕ) (node : Node) → Holds size byte way place node → (end : ℕ) →
    IsCounted size byte → IsWay byte (block_count byte) root_place way place end → node ≡ node_of (records_at end byte) byte place
held-node size byte way place node holds end counted leads =
    let depth : ℕ = block_count byte in
    some-node node (node_of (records_at depth byte) byte place)
    (sym holds.is ∙ ways-lead size byte holds.sound way
    ∙ ap (λ p. option_map (node_of (records_at depth byte) byte) p) holds.stands)
    ∙ nodes-deeper byte end depth place (way-shorter byte depth root_place way place end leads)
    (good-readable end byte place (way-good byte depth root_place way place end leads counted.records))

-- ---- what a change leaves

-- what is not in the record, and not in a block that is told
abbrev pub Elsewhere : (ℕ → ℕ) → (ℕ → ℕ) → ℕ → (ℕ → Type 0) → Type 0
Elsewhere byte other place Told =
    (q : ℕ) → (byte q ≡ other q) ⊎ (((place ≤ q) × (q < place + RECORDSIZE)) ⊎ Told (q / BLKSIZE))

-- blocks that the record and those below it name, and that are not told
pub block-stays : (byte other : ℕ → ℕ) (depth place : ℕ) (Told : ℕ → Type 0) → AtEnd byte depth place → Elsewhere byte other place Told →
    (block : ℕ) → 0 < times_named depth byte place block → (Told block → ⊥) →
    Same BLKSIZE byte (BLKSIZE * block) other (BLKSIZE * block)
block-stays byte other depth place Told end elsewhere block some free k below = elim (elsewhere (BLKSIZE * block + k)) [
  | inl e ↦ e
  | inr differs ↦
      let at = in_block block k below in
      elim differs [
        | inl inside ↦
            let same : block ≡ place / BLKSIZE = in_record block k place below end.aligned inside.0 inside.1 in
            let none = ap (times_named depth byte place) same ∙ end.once.outside in
            absurd (omega (arith, some, none))
        | inr told ↦ absurd (free (subst Told at told))
      ]
]
  where
    in_block : (block k : ℕ) → k < 4096 → (4096 * block + k) / 4096 ≡ block
    in_block block k below = omega arith

    in_record : (block k place : ℕ) → k < 4096 → place % 4096 + 256 ≤ 4096 → place ≤ 4096 * block + k →
        4096 * block + k < place + 256 → block ≡ place / 4096
    in_record block k place below aligned low high = omega arith

-- its own blocks
pub own-stay : (byte other : ℕ → ℕ) (depth place : ℕ) (Told : ℕ → Type 0) → AtEnd byte depth place → Elsewhere byte other place Told →
    ((i : ℕ) → i < blocks_needed byte place → Told (block_number_at byte place i) → ⊥) → SameBlocks byte other place
own-stay byte other depth place Told end elsewhere free i within =
    let own = own-one byte place i (block_number_at byte place i) within refl in
    let all = times-own depth byte place (block_number_at byte place i) in
    block-stays byte other depth place Told end elsewhere (block_number_at byte place i) (omega (arith, own, all)) (free i within)

-- and all below it
pub below-alike : (byte other : ℕ → ℕ) (depth place : ℕ) (Told : ℕ → Type 0) → AtEnd byte (suc depth) place →
    Elsewhere byte other place Told → block_count byte ≡ block_count other →
    ((block : ℕ) → 0 < times_named (suc depth) byte place block → Told block → ⊥) → SameBlocks byte other place →
    BelowAlike depth byte other place
below-alike byte other depth place Told end elsewhere count free own i named =
    records-alike depth byte other (slot_place byte place i) count (slot-good depth byte place i end.good named).1
    (slot-same byte other place i own named.within)
    (λ block some.
    let all = times-slot depth byte place block i named in
    let here : 0 < times_named (suc depth) byte place block = omega (arith, some, all) in
    block-stays byte other (suc depth) place Told end elsewhere block here (free block here))

-- the bytes of a file, so far
byte_block : (n at blocks : ℕ) → at < n → (n + 4095) / 4096 ≤ blocks → at / 4096 < blocks
byte_block n at blocks within few = omega arith

byte_rest : (at : ℕ) → at % 4096 < 4096
byte_rest at = omega arith

pub bytes-stay : (byte other : ℕ → ℕ) (place n blocks : ℕ) → (n + 4095) / 4096 ≤ blocks →
    ((i : ℕ) → i < blocks → block_number_at byte place i ≡ block_number_at other place i) →
    ((i : ℕ) → i < blocks → Same BLKSIZE byte (BLKSIZE * block_number_at byte place i) other (BLKSIZE * block_number_at byte place i)) →
    values_below n (file_byte byte place) ≡ values_below n (file_byte other place)
bytes-stay byte other place n blocks few numbers same =
    values-same n (file_byte byte place) (file_byte other place)
    (λ at within.
    let inside = byte_block n at blocks within few in
    same (at / BLKSIZE) inside (at % BLKSIZE) (byte_rest at)
    ∙ ap (λ m. other (BLKSIZE * m + at % BLKSIZE)) (numbers (at / BLKSIZE) inside))

-- the label, by the first bytes
front-name : (byte other : ℕ → ℕ) (place : ℕ) → Same 136 byte place other place → name_of byte place ≡ name_of other place
unfolding name_of
front-name byte other place same =
    ap (before_first (λ b. b == 0))
    (values-same MAXNAMELEN (λ k. byte (place + k)) (λ k. other (place + k)) (λ k below. same k (omega arith)))

pub front-label : (byte other : ℕ → ℕ) (place : ℕ) → Same 136 byte place other place → SameLabel byte other place
front-label byte other place same = record {
  name = front-name byte other place same;
  kind = same-word 136 byte other place same (place + MAXNAMELEN + 4) (omega arith) (omega arith);
  first = let at : place + 0 ≡ place = omega arith in ap byte (sym at) ∙ same 0 (omega arith) ∙ ap other at;
}

-- ---- the bitmap's blocks

-- the block of a block's bit
pub map-block : (blocks block : ℕ) → block < blocks → (2 ≤ mark_place block / BLKSIZE) × (mark_place block / BLKSIZE < first_data_block blocks)
map-block blocks block within = (omega arith, omega arith)

-- the blocks of the bitmap
abbrev pub InMap : (ℕ → ℕ) → ℕ → Type 0
InMap byte block = (2 ≤ block) × (block < first_data_block (block_count byte))

-- a bit's byte is not in the record
pub off-mark : (byte : ℕ → ℕ) (depth place : ℕ) → AtEnd byte depth place → (q block : ℕ) → place ≤ q → q < place + 256 →
    block < block_count byte → q ≢ mark_place block
off-mark byte depth place end q block low high within e =
    let map = map-block (block_count byte) block within in
    let here = in_place q place low high end.aligned in
    let there = ap (λ p. p / BLKSIZE) e in
    elim end.off_map [
      | inl before ↦ let a = map.0 in omega (arith, a, here, there, before)
      | inr behind ↦ let a = map.1 in omega (arith, a, here, there, behind)
    ]
  where
    in_place : (q place : ℕ) → place ≤ q → q < place + 256 → place % 4096 + 256 ≤ 4096 → q / 4096 ≡ place / 4096
    in_place q place low high aligned = omega arith

pub mark-beyond : (byte : ℕ → ℕ) (depth place : ℕ) → AtEnd byte depth place → (from n block : ℕ) → place ≤ from → from + n ≤ place + 256 →
    block < block_count byte → Beyond n from (mark_place block)
mark-beyond byte depth place end from n block low high within = elim (below_or_past (mark_place block) from) [
  | inl before ↦ inl before
  | inr past ↦
      elim (below_or_past (mark_place block) (from + n)) [
        | inl inside ↦
            absurd (off-mark byte depth place end (mark_place block) block (omega (arith, low, past)) (omega (arith, inside, high)) within refl)
        | inr behind ↦ inr behind
      ]
]

-- nor in a block that nothing names
pub off-block : (byte : ℕ → ℕ) (depth place : ℕ) → AtEnd byte depth place → (q block : ℕ) → place ≤ q → q < place + 256 →
    place / BLKSIZE ≢ block → Beyond 4096 (4096 * block) q
off-block byte depth place end q block low high ne = elim (below_or_past q (4096 * block)) [
  | inl before ↦ inl before
  | inr past ↦
      elim (below_or_past q (4096 * block + 4096)) [
        | inl inside ↦ absurd (ne (same q place block low high end.aligned past inside))
        | inr behind ↦ inr behind
      ]
]
  where
    same : (q place block : ℕ) → place ≤ q → q < place + 256 → place % 4096 + 256 ≤ 4096 → 4096 * block ≤ q →
        q < 4096 * block + 4096 → place / 4096 ≡ block
    same q place block low high aligned past inside = omega arith
