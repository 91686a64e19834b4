-- A record to which a way leads lies on the disk: it is the root's, or stands in a data block.
use Rattle.std.proofs.Common.{◌≡◌, ◌+◌, ◌*◌, ◌/◌, ◌%◌, ◌<◌, ◌≤◌, ℕ, zero, suc, true, List, [], ◌∷◌, Some, subst, arith}
use Rattle.fs_layout.specs.declared.numbers.TheConstants.{BLKFILES}
use Rattle.fs_layout.specs.DiskImage.{block_count, block_number_at, is_data_block, is_directory_at, is_empty_record, root_place}
use Rattle.fs_layout.specs.DiskImage.{size_of, slot_count, slot_place}
use Rattle.fs_acts.specs.BlockActs.{place_from}
use Rattle.fs_acts.specs.BlockLaws.{AreGood}
use Rattle.fs_acts.proofs.DiskCounts.{image-counted}
use Rattle.fs_acts.proofs.Disks.{disk-blocks}
use Rattle.fs_acts.proofs.TreeBlocks.{data-below}
use Rattle.fs_acts.proofs.Undamaged.{some-same, way-goes}
use Rattle.fs_acts.proofs.WalkCounts.{slot-parts}
use Rattle.fs_layout.specs.declared.numbers.TheConstants.{BLKSIZE}
use Rattle.fs_runs.proofs.Pieces.{LiesOn, PlacesLie}

-- the root's record lies in block 1
pub root-lies : (count : ℕ) → 4 ≤ count → LiesOn count root_place
root-lies count some = record { even = omega arith; inside = omega arith }

-- and each record of a directory in a block
pub slot-lies : (count : ℕ) (byte : ℕ → ℕ) (place i : ℕ) → is_data_block count (block_number_at byte place (i / BLKFILES)) ≡ true →
    LiesOn count (slot_place byte place i)
slot-lies count byte place i is_data =
    let n : ℕ = block_number_at byte place (i / BLKFILES) in
    let below : n < count = data-below count n is_data in
    record { even = even n i; inside = inside n i below }
  where
    even : (n i : ℕ) → (4096 * n + 256 * (i % 16)) % 4 ≡ 0
    even n i = omega arith

    inside : (n i : ℕ) → n < count → 4096 * n + 256 * (i % 16) + 256 ≤ 4096 * count
    inside n i below = let next : 4096 * n + 4096 ≤ 4096 * count = omega (arith, below) in omega (arith, next)

-- the number of a record's block is within the size of its directory
pub slot-block : (size i : ℕ) → i < size / 256 → i / 16 < (size + 4095) / 4096
slot-block size i within = omega arith

way-lies : (way : List ℕ) (depth : ℕ) (byte : ℕ → ℕ) (here place : ℕ) → AreGood depth byte here → LiesOn (block_count byte) here →
    place_from byte way here ≡ Some place → LiesOn (block_count byte) place
unfolding place_from AreGood
way-lies [] depth byte here place good lies e = subst (LiesOn (block_count byte)) (some-same here place e) lies
way-lies (i ∷ way) zero byte here place good lies e =
    let goes = way-goes byte i way here place e in
    let parts = slot-parts (is_directory_at byte here) i (slot_count byte here) (is_empty_record byte (slot_place byte here i)) goes.0 in
    absurd (none (slot_count byte here) i (good.1 parts.0) parts.1.0)
  where
    none : (n i : ℕ) → n ≡ 0 → i < n → ⊥
    none n i e lt = omega arith
way-lies (i ∷ way) (suc depth) byte here place good lies e =
    let goes = way-goes byte i way here place e in
    let parts = slot-parts (is_directory_at byte here) i (slot_count byte here) (is_empty_record byte (slot_place byte here i)) goes.0 in
    let within = slot-block (size_of byte here) i parts.1.0 in
    way-lies way depth byte (slot_place byte here i) place (good.1 i goes.0).1
    (slot-lies (block_count byte) byte here i (good.0.readable.within (i / BLKFILES) within)) goes.1

pub places_lie : PlacesLie
places_lie count m way home sound e =
    let counted = image-counted (BLKSIZE * count) m.disk sound.disk in
    subst (λ n. LiesOn n home) sound.count_is
    (way-lies way (block_count m.disk) m.disk root_place home counted.records
    (root-lies (block_count m.disk) (disk-blocks (BLKSIZE * count) m.disk counted).0) e)
