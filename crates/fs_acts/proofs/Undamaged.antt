-- On a disk without a fault no test of damage fails.
use Rattle.std.proofs.Common.{◌≡◌, ◌<◌, ◌==◌, ◌&&◌, ℕ, zero, suc, Bool, true, false, List, [], ◌∷◌, not}
use Rattle.std.proofs.Common.{Option, Some, None, refl, subst, arith, if◌then◌else◌}
use Rattle.std.specs.Prelude.{◌||◌, nat_le}
use Rattle.std.proofs.lemmas.Bool.Decides.{nat_tests}
use Rattle.fs_layout.specs.declared.numbers.TheConstants.{FS_MAGIC, MAXFILESIZE}
use Rattle.fs_layout.specs.DiskImage.{block_count, magic_of, root_place, is_good_count, is_good_kind, is_good_name, is_good_size}
use Rattle.fs_layout.specs.DiskImage.{is_data_block, kind_at, size_of, name_of, indirect_of, is_directory_at}
use Rattle.fs_layout.specs.DiskImage.{is_empty_record, block_number_at, slot_count, slot_place, none_named}
use Rattle.fs_layout.specs.DiskFiles.{IsDiskImage}
use Rattle.fs_acts.specs.BlockActs.{place_from, place_at, is_named_slot}
use Rattle.fs_acts.specs.BlockLaws.{IsGoodRecord, AreGood, DisksAreUndamaged}
use Rattle.fs_acts.proofs.WalkCounts.{slot-parts}
use Rattle.fs_acts.proofs.DiskCounts.{super-met, image-counted}
use Rattle.fs_acts.proofs.RecordCounts.{if-whole, if-le}

-- ---- a record that a way leads to

-- it is good, and it is the root's or has a good name
pub record Reached (byte : ℕ → ℕ) (place : ℕ) : Type 0 where
  pub good : IsGoodRecord byte place
  pub kind : is_good_kind (kind_at byte place) ≡ true
  pub named : ((place == root_place) || is_good_name (name_of byte place)) ≡ true

pub good-record : (depth : ℕ) (byte : ℕ → ℕ) (place : ℕ) → AreGood depth byte place → IsGoodRecord byte place
unfolding AreGood
good-record zero byte place good = good.0
good-record (suc depth) byte place good = good.0

none-some : {X : Type 0} (place : ℕ) → ◌≡◌ {A = Option ℕ} None (Some place) → X
none-some place e = absurd (cc)

pub some-same : (a b : ℕ) → ◌≡◌ {A = Option ℕ} (Some a) (Some b) → a ≡ b
some-same a b e = cc

or-right : (a b : Bool) → b ≡ true → (a || b) ≡ true
or-right true b e = refl
or-right false b e = e

-- the first record of a way is named in the directory, and the way goes on from there
pub way-goes : (byte : ℕ → ℕ) (i : ℕ) (way : List ℕ) (here place : ℕ) → place_from byte (i ∷ way) here ≡ Some place →
    (is_named_slot byte here i ≡ true) × (place_from byte way (slot_place byte here i) ≡ Some place)
unfolding place_from
way-goes byte i way here place e = by_test (is_named_slot byte here i) refl e
  where
    by_test : (b : Bool) → is_named_slot byte here i ≡ b →
        (if b then place_from byte way (slot_place byte here i) else None) ≡ Some place →
        (is_named_slot byte here i ≡ true) × (place_from byte way (slot_place byte here i) ≡ Some place)
    by_test true is e = (is, e)
    by_test false is e = none-some place e

pub reached : (way : List ℕ) (depth : ℕ) (byte : ℕ → ℕ) (here place : ℕ) → AreGood depth byte here → Reached byte here →
    place_from byte way here ≡ Some place → Reached byte place
unfolding place_from AreGood
reached [] depth byte here place good now e = subst (Reached byte) (some-same here place e) now
reached (i ∷ way) zero byte here place good now e =
    let goes = way-goes byte i way here place e in
    let parts = slot-parts (is_directory_at byte here) i (slot_count byte here) (is_empty_record byte (slot_place byte here i)) goes.0 in
    absurd (none (slot_count byte here) i (good.1 parts.0) parts.1.0)
  where
    none : (n i : ℕ) → n ≡ 0 → i < n → ⊥
    none n i e lt = omega arith
reached (i ∷ way) (suc depth) byte here place good now e =
    let goes = way-goes byte i way here place e in
    let next : ℕ = slot_place byte here i in
    let slot = good.1 i goes.0 in
    reached way depth byte next place slot.1
    (record {
      good = good-record depth byte next slot.1;
      kind = slot.0.kind;
      named = or-right (next == root_place) (is_good_name (name_of byte next)) slot.0.named;
    })
    goes.1

-- a directory has a good kind
kind-good : (kind : ℕ) → (kind == 1) ≡ true → ((kind == 0) || (kind == 1)) ≡ true
kind-good kind is = or-right (kind == 0) (kind == 1) is

-- what stands at a way on a disk
pub way-reached : (size : ℕ) (byte : ℕ → ℕ) → IsDiskImage size byte → (way : List ℕ) (place : ℕ) → place_at byte way ≡ Some place →
    Reached byte place
way-reached size byte e way place leads =
    let counted = image-counted size byte e in
    let met = super-met size byte none_named none_named counted.begins in
    let root : (root_place == root_place) ≡ true = grind (arith, nat_tests) in
    reached way (block_count byte) byte root_place place counted.records
    (record {
      good = good-record (block_count byte) byte root_place counted.records;
      kind = kind-good (kind_at byte root_place) met.root;
      named = rw root refl;
    })
    leads

-- ---- no damage

all-four : (a b c d : Bool) → a ≡ true → b ≡ true → c ≡ true → d ≡ true → not (a && b && c && d) ≡ false
all-four a b c d e f g h = rw (e, f, g, h) refl

all-three : (a b c : Bool) → a ≡ true → b ≡ true → c ≡ true → not (a && b && c) ≡ false
all-three a b c e f g = rw (e, f, g) refl

is-so : (b : Bool) → b ≡ true → not b ≡ false
is-so b e = rw e refl

-- the law
pub disks-undamaged : DisksAreUndamaged
disks-undamaged size byte e =
    let counted = image-counted size byte e in
    let met = super-met size byte none_named none_named counted.begins in (
      all-three (magic_of byte == FS_MAGIC) (is_good_count (block_count byte)) (is_directory_at byte root_place) met.magic met.count
          met.root,
      λ way place leads.
          let it = way-reached size byte e way place leads in (
            all-four (is_good_kind (kind_at byte place)) (is_good_size (kind_at byte place) (size_of byte place))
                (nat_le (size_of byte place) MAXFILESIZE) ((place == root_place) || is_good_name (name_of byte place)) it.kind
                (if-whole (is_directory_at byte place) (size_of byte place) it.good.readable.whole)
                (if-le (size_of byte place) MAXFILESIZE it.good.readable.short) it.named,
            λ has. is-so (is_data_block (block_count byte) (indirect_of byte place)) (it.good.indirect has),
            λ i within.
                is-so (is_data_block (block_count byte) (block_number_at byte place i)) (it.good.readable.within i within),
          ),
    )
