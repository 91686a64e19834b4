-- How often the tests of all records of a disk name each block, and what they ask of the records.
use Rattle.std.proofs.Common.{◌≡◌, ◌∙◌, ◌+◌, ◌<◌, ◌&&◌, ℕ, zero, suc, Bool, true, false, not, refl, ap, arith, if◌then◌else◌}
use Rattle.std.specs.Prelude.{nat_lt}
use Rattle.std.proofs.lemmas.Bool.{not-true, and_parts}
use Rattle.std.proofs.lemmas.Bool.Decides.{nat_tests}
use Rattle.jos_base.specs.Counting.{total}
use Rattle.jos_base.proofs.Sums.{total-none}
use Rattle.fs_layout.specs.DiskImage.{Kind, BadName, SameName, MarkedFree, Test, demand, in_turn}
use Rattle.fs_layout.specs.DiskImage.{block_count, is_marked_free, first_data_block, kind_at, name_of, is_empty_record}
use Rattle.fs_layout.specs.DiskImage.{is_directory_at, is_good_kind, is_good_name, has_taken_name, slot_count, slot_place, root_place}
use Rattle.fs_layout.specs.DiskImage.{slot_tests, slot_test, contents_test, first_blocks_test, tree_tests}
use Rattle.fs_layout.specs.DiskLaws.{AreReadable}
use Rattle.fs_acts.specs.BlockLaws.{own_times, times_named, times_on_disk, IsGoodRecord, IsGoodSlot, AreGood}
use Rattle.fs_acts.proofs.Counts.{Times, Counts, counts-none, counts-demand, counts-more, counts-as, counts-where, counts-each}
use Rattle.fs_acts.proofs.RecordCounts.{counts-record}

-- ---- below a directory

-- how often the records below a directory name a block, without its own record
pub below_times : ℕ → (ℕ → ℕ) → ℕ → Times
below_times zero byte place block = 0
below_times (suc depth) byte place block =
    total (slot_count byte place)
    (λ i. if is_empty_record byte (slot_place byte place i) then 0 else times_named depth byte (slot_place byte place i) block)

directory-times : (directory : Bool) (own n : ℕ) (f : ℕ → ℕ) →
    own + total (if directory then n else 0) f ≡ own + (if directory then total n f else 0)
unfolding total
directory-times true own n f = refl
directory-times false own n f = refl

no-times : (directory : Bool) (own : ℕ) → own ≡ own + (if directory then 0 else 0)
no-times true own = omega arith
no-times false own = omega arith

-- by the record itself, and by those below it
pub times-split : (depth : ℕ) (byte : ℕ → ℕ) (place block : ℕ) →
    times_named depth byte place block
    ≡ own_times byte place block + (if is_directory_at byte place then below_times depth byte place block else 0)
unfolding times_named below_times
times-split zero byte place block = no-times (is_directory_at byte place) (own_times byte place block)
times-split (suc depth) byte place block =
    directory-times (is_directory_at byte place) (own_times byte place block) (slot_count byte place)
    (λ i. if is_empty_record byte (slot_place byte place i) then 0 else times_named depth byte (slot_place byte place i) block)

-- what the tests ask of the records below a directory
pub GoodBelow : ℕ → (ℕ → ℕ) → ℕ → Type 0
GoodBelow zero byte place = Unit {0}
GoodBelow (suc depth) byte place =
    (i : ℕ) → i < slot_count byte place → is_empty_record byte (slot_place byte place i) ≡ false →
    IsGoodSlot byte place i
    × (IsGoodRecord byte (slot_place byte place i)
    × (is_directory_at byte (slot_place byte place i) ≡ true → GoodBelow depth byte (slot_place byte place i)))

-- of one of them
abbrev GoodSlot : ℕ → (ℕ → ℕ) → ℕ → ℕ → Type 0
GoodSlot depth byte place i =
    IsGoodSlot byte place i
    × (IsGoodRecord byte (slot_place byte place i)
    × (is_directory_at byte (slot_place byte place i) ≡ true → GoodBelow depth byte (slot_place byte place i)))

is-not : (b : Bool) → b ≡ false → not b ≡ true
is-not b e = rw e refl

counts-slot_tests : (depth : ℕ) (byte : ℕ → ℕ) (onward : ℕ → Test) (directory i : ℕ) →
    ((place : ℕ) → Counts byte (onward place) (below_times depth byte place) (GoodBelow depth byte place)) →
    Counts byte (in_turn (slot_tests onward byte directory i)) (times_named depth byte (slot_place byte directory i))
    (GoodSlot depth byte directory i)
unfolding slot_tests
counts-slot_tests depth byte onward directory i below =
    let place : ℕ = slot_place byte directory i in
    counts-as (times_named depth byte place) (GoodSlot depth byte directory i)
    (counts-more _ _ (counts-demand byte (is_good_kind (kind_at byte place)) (Kind place))
    (counts-more _ _ (counts-demand byte (is_good_name (name_of byte place)) (BadName place))
    (counts-more _ _ (counts-record byte place)
    (counts-more _ _ (counts-demand byte (not (has_taken_name byte directory i)) (SameName place))
    (counts-more _ _ (counts-where (is_directory_at byte place) (onward place) (below place)) (counts-none byte))))))
    (λ all. (
      record { kind = all.0; named = all.1.0; alone = not-true (has_taken_name byte directory i) all.1.1.1.0 },
      (all.1.1.0, all.1.1.1.1.0),
    ))
    (λ good.
    (good.0.kind, (good.0.named, (good.1.0, (is-not (has_taken_name byte directory i) good.0.alone, (good.1.1, tt))))))
    (λ _ block.
    sums (own_times byte place block) (if is_directory_at byte place then below_times depth byte place block else 0)
    (times_named depth byte place block) (times-split depth byte place block))
  where
    sums : (own rest all : ℕ) → all ≡ own + rest → 0 + (0 + (own + (0 + (rest + 0)))) ≡ all
    sums own rest all e = omega arith

counts-slot : (depth : ℕ) (byte : ℕ → ℕ) (onward : ℕ → Test) (directory i : ℕ) →
    ((place : ℕ) → Counts byte (onward place) (below_times depth byte place) (GoodBelow depth byte place)) →
    Counts byte (slot_test onward byte directory i)
    (λ block.
    if is_empty_record byte (slot_place byte directory i) then 0 else times_named depth byte (slot_place byte directory i) block)
    (is_empty_record byte (slot_place byte directory i) ≡ false → GoodSlot depth byte directory i)
counts-slot depth byte onward directory i below =
    let place : ℕ = slot_place byte directory i in
    counts-as (λ block. if is_empty_record byte place then 0 else times_named depth byte place block)
    (is_empty_record byte place ≡ false → GoodSlot depth byte directory i)
    (counts-where (not (is_empty_record byte place)) (λ named. in_turn (slot_tests onward byte directory i) named)
    (counts-slot_tests depth byte onward directory i below))
    (λ good filled. good (is-not (is_empty_record byte place) filled))
    (λ good filled. good (not-true (is_empty_record byte place) filled))
    (λ _ block. turned (is_empty_record byte place) (times_named depth byte place block))
  where
    turned : (b : Bool) (n : ℕ) → (if not b then n else 0) ≡ (if b then 0 else n)
    turned true n = refl
    turned false n = refl

pub counts-contents : (depth : ℕ) (byte : ℕ → ℕ) (place : ℕ) →
    Counts byte (contents_test depth byte place) (below_times depth byte place) (GoodBelow depth byte place)
unfolding contents_test below_times GoodBelow in_turn
counts-contents zero byte place =
    counts-as (λ block. 0) (Unit {0}) (counts-none byte) (λ u. tt) (λ u. tt) (λ _ block. refl)
counts-contents (suc depth) byte place =
    counts-each byte (slot_count byte place) (slot_test (contents_test depth byte) byte place)
    (λ i block.
    if is_empty_record byte (slot_place byte place i) then 0 else times_named depth byte (slot_place byte place i) block)
    (λ i. is_empty_record byte (slot_place byte place i) ≡ false → GoodSlot depth byte place i)
    (λ i within. counts-slot depth byte (contents_test depth byte) place i (λ below. counts-contents depth byte below))

-- ---- the tree

-- the blocks before the data blocks are in use
abbrev pub FirstInUse : (ℕ → ℕ) → Type 0
FirstInUse byte = (block : ℕ) → block < first_data_block (block_count byte) → is_marked_free byte block ≡ false

counts-first : (byte : ℕ → ℕ) → Counts byte (first_blocks_test byte) (λ block. 0) (FirstInUse byte)
unfolding first_blocks_test
counts-first byte =
    counts-as (λ block. 0) (FirstInUse byte)
    (counts-each byte (first_data_block (block_count byte)) (λ block. demand (not (is_marked_free byte block)) (MarkedFree block))
    (λ i q. 0) (λ block. not (is_marked_free byte block) ≡ true)
    (λ block within. counts-demand byte (not (is_marked_free byte block)) (MarkedFree block)))
    (λ all block within. not-true (is_marked_free byte block) (all block within))
    (λ first block within. is-not (is_marked_free byte block) (first block within))
    (λ _ block. total-none (first_data_block (block_count byte)) (λ i. 0) (λ q within. refl))

-- what the tests of the tree ask
abbrev pub TreeGood : (ℕ → ℕ) → Type 0
TreeGood byte = IsGoodRecord byte root_place × (GoodBelow (block_count byte) byte root_place × FirstInUse byte)

pub counts-tree : (byte : ℕ → ℕ) → is_directory_at byte root_place ≡ true →
    Counts byte (in_turn (tree_tests byte)) (times_on_disk byte) (TreeGood byte)
unfolding tree_tests
counts-tree byte is =
    counts-as (times_on_disk byte) (TreeGood byte)
    (counts-more _ _ (counts-record byte root_place)
    (counts-more _ _ (counts-contents (block_count byte) byte root_place)
    (counts-more _ _ (counts-first byte) (counts-none byte))))
    (λ all. (all.0, (all.1.0, all.1.1.0)))
    (λ good. (good.0, (good.1.0, (good.1.1, tt))))
    (λ _ block.
    sums (own_times byte root_place block) (below_times (block_count byte) byte root_place block) (times_on_disk byte block)
    (times-split (block_count byte) byte root_place block
    ∙ ap (λ (b : Bool). own_times byte root_place block + (if b then below_times (block_count byte) byte root_place block else 0)) is))
  where
    sums : (own rest all : ℕ) → all ≡ own + rest → own + (rest + (0 + 0)) ≡ all
    sums own rest all e = omega arith

-- ---- what they ask, as it is told of each record

-- a record that is named in a directory
pub slot-parts : (directory : Bool) (i n : ℕ) (empty : Bool) → (directory && nat_lt i n && not empty) ≡ true →
    (directory ≡ true) × ((i < n) × (empty ≡ false))
slot-parts true i n false e = (refl, (grind (arith, nat_tests, and_parts), refl))
slot-parts true i n true e = absurd (none (nat_lt i n) e)
  where
    none : (b : Bool) → (b && false) ≡ true → ⊥
    none true e = cc
    none false e = cc
slot-parts false i n empty e = absurd (cc)

pub parts-slot : (directory : Bool) (i n : ℕ) (empty : Bool) → directory ≡ true → i < n → empty ≡ false →
    (directory && nat_lt i n && not empty) ≡ true
parts-slot directory i n empty is within filled =
    let lt : nat_lt i n ≡ true = grind (arith, nat_tests) in rw (is, lt, filled) refl

-- with the depth that is never used up
pub below-good : (depth : ℕ) (byte : ℕ → ℕ) (place : ℕ) → IsGoodRecord byte place →
    (is_directory_at byte place ≡ true → GoodBelow depth byte place) → AreReadable depth byte place → AreGood depth byte place
unfolding GoodBelow AreGood AreReadable
below-good zero byte place good below readable = (good, readable.1)
below-good (suc depth) byte place good below readable = (
  good,
  λ i named.
      let parts =
      slot-parts (is_directory_at byte place) i (slot_count byte place) (is_empty_record byte (slot_place byte place i)) named in
      let slot = below parts.0 i parts.1.0 parts.1.1 in (
        slot.0,
        below-good depth byte (slot_place byte place i) slot.1.0 slot.1.1 (readable.1 parts.0 i parts.1.0 parts.1.1),
      ),
)

pub good-below : (depth : ℕ) (byte : ℕ → ℕ) (place : ℕ) → AreGood depth byte place →
    IsGoodRecord byte place × (is_directory_at byte place ≡ true → GoodBelow depth byte place)
unfolding GoodBelow AreGood
good-below zero byte place good = (good.0, λ is. tt)
good-below (suc depth) byte place good = (
  good.0,
  λ is i within filled.
      let slot =
      good.1 i
      (parts-slot (is_directory_at byte place) i (slot_count byte place) (is_empty_record byte (slot_place byte place i)) is within
      filled) in
      (slot.0, good-below depth byte (slot_place byte place i) slot.1),
)
