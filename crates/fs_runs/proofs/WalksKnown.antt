-- What is known at a place of the way of a path, over a disk without a fault: no block of a directory is looked through twice, since a record and
-- those below it have no block in common.
use Rattle.std.proofs.Common.{◌≡◌, ◌∙◌, ◌<◌, ◌≤◌, ◌+◌, ◌-◌, ◌*◌, ◌/◌, ◌%◌, ℕ, zero, suc, Bool, true, false}
use Rattle.std.proofs.Common.{refl, ap, arith}
use Rattle.std.specs.Prelude.{◌==◌, ◌&&◌, ◌||◌, nat_le, nat_lt, if◌then◌else◌}
use Rattle.std.proofs.lemmas.Bool.Decides.{nat_tests}
use Rattle.jos_base.specs.Counting.{total}
use Rattle.jos_base.specs.Words.{word_at}
use Rattle.jos_base.proofs.Sums.{total-le, total-mono, total-sum}
use Rattle.fs_layout.specs.DiskImage.{block_count, block_number_at, blocks_needed, has_indirect, indirect_of, is_directory_at}
use Rattle.fs_layout.specs.DiskImage.{is_empty_record, root_place, slot_count, slot_place}
use Rattle.fs_acts.specs.BlockLaws as laws
use Rattle.fs_acts.specs.BlockLaws.{AreGood, IsGoodRecord, own_times, times_named}
use Rattle.fs_acts.proofs.Named.{IsNamed, named-is, times-own, times-slot}
use Rattle.fs_acts.proofs.TreeBlocks.{own-total}
use Rattle.fs_jobs.specs.declared.place.Seek.{Seek}
use Rattle.fs_jobs.specs.declared.place.WalkPlace.{WalkPlace}
use Rattle.fs_jobs.specs.declared.place.WalkPlace.TheVariants as walk
use Rattle.fs_jobs.specs.RecordFields.{direct_at, indirect_at}
use Rattle.fs_jobs.specs.TreeTests.{low_byte}
use Rattle.fs_walks.specs.WalkPlans.{record_at}
use Rattle.fs_runs.specs.TreeRuns.{AreSmall, Memory}

-- ---- the blocks of a record and of those below it

pub blocks_below : ℕ → (ℕ → ℕ) → ℕ → ℕ
blocks_below depth byte place = total (block_count byte) (times_named depth byte place)

good-record : (depth : ℕ) (byte : ℕ → ℕ) (place : ℕ) → AreGood depth byte place → IsGoodRecord byte place
unfolding AreGood
good-record zero byte place good = good.0
good-record (suc depth) byte place good = good.0

pub good-child : (depth : ℕ) (byte : ℕ → ℕ) (place i : ℕ) → AreGood (suc depth) byte place → IsNamed byte place i →
    AreGood depth byte (slot_place byte place i)
unfolding AreGood
good-child depth byte place i good named = (good.1 i (named-is byte place i named)).1

pub good-none : (byte : ℕ → ℕ) (place : ℕ) → AreGood 0 byte place → is_directory_at byte place ≡ true → slot_count byte place ≡ 0
unfolding AreGood
good-none byte place good is = good.1 is

own-some : (byte : ℕ → ℕ) (place : ℕ) → IsGoodRecord byte place → blocks_needed byte place ≤ total (block_count byte) (own_times byte place)
own-some byte place good =
    let all = own-total byte place good in
    more (blocks_needed byte place) (if has_indirect byte place then 1 else 0) (total (block_count byte) (own_times byte place)) all
  where
    more : (a b n : ℕ) → n ≡ a + b → a ≤ n
    more a b n e = omega (arith, e)

-- no block is one of them twice
pub own-few : (byte : ℕ → ℕ) (place : ℕ) → IsGoodRecord byte place → ((block : ℕ) → own_times byte place block ≤ 1) →
    blocks_needed byte place ≤ block_count byte
own-few byte place good once =
    let some = own-some byte place good in
    let all = total-le (block_count byte) 1 (own_times byte place) once in
    omega (arith, some, all)

pub below-own : (depth : ℕ) (byte : ℕ → ℕ) (place : ℕ) → AreGood depth byte place → blocks_needed byte place ≤ blocks_below depth byte place
unfolding blocks_below
below-own depth byte place good =
    let own = own-some byte place (good-record depth byte place good) in
    let all = total-mono (block_count byte) (own_times byte place) (times_named depth byte place) (λ q lt. times-own depth byte place q) in
    omega (arith, own, all)

pub below-child : (depth : ℕ) (byte : ℕ → ℕ) (place i : ℕ) → AreGood (suc depth) byte place → IsNamed byte place i →
    blocks_needed byte place + blocks_below depth byte (slot_place byte place i) ≤ blocks_below (suc depth) byte place
unfolding blocks_below
below-child depth byte place i good named =
    let n : ℕ = block_count byte in
    let own : ℕ → ℕ = own_times byte place in
    let child : ℕ → ℕ = times_named depth byte (slot_place byte place i) in
    let some = own-some byte place (good-record (suc depth) byte place good) in
    let both = total-sum n own child in
    let all = total-mono n (λ q. own q + child q) (times_named (suc depth) byte place) (λ q lt. times-slot depth byte place q i named) in
    within (blocks_needed byte place) (total n own) (total n child) (total n (λ q. own q + child q))
    (total n (times_named (suc depth) byte place)) some both all
  where
    within : (a b c d e : ℕ) → a ≤ b → d ≡ b + c → d ≤ e → a + c ≤ e
    within a b c d e f g h = omega (arith, f, g, h)

pub below-root : (size : ℕ) (byte : ℕ → ℕ) → laws.IsCounted size byte → blocks_below (block_count byte) byte root_place ≤ block_count byte
unfolding blocks_below
below-root size byte counted =
    let all = total-le (block_count byte) 1 (times_named (block_count byte) byte root_place) counted.once in omega (arith, all)

-- ---- what is known at a place of the way

-- a record of a directory is at hand
pub record Scans (m : Memory) (depth : ℕ) (seek : Seek) : Type 0 where
  pub good : AreGood (suc depth) m.disk seek.directory
  pub is : is_directory_at m.disk seek.directory ≡ true
  pub slots : seek.slots ≡ slot_count m.disk seek.directory
  pub within : seek.slot < seek.slots

abbrev pub IsBlock : Memory → Seek → ℕ → Type 0
IsBlock m seek block = block ≡ block_number_at m.disk seek.directory (seek.slot / 16)

abbrev pub IsFilled : Memory → Seek → Type 0
IsFilled m seek = is_empty_record m.disk (slot_place m.disk seek.directory seek.slot) ≡ false

-- directories stand no deeper in the record at hand than this
unfoldable pub IsAt : Memory → ℕ → WalkPlace → Type 0
IsAt m depth (walk.Component from home) = AreGood depth m.disk home
IsAt m depth (walk.DirectoryKind from directory) = AreGood depth m.disk directory
IsAt m depth (walk.DirectorySize from directory) = AreGood depth m.disk directory × (is_directory_at m.disk directory ≡ true)
IsAt m depth (walk.Slot seek) = Scans m depth seek
IsAt m depth (walk.SlotIndirect seek indirect) =
    Scans m depth seek × (indirect ≡ indirect_of m.disk seek.directory) × (nat_lt (seek.slot / 16) 10 ≡ false)
IsAt m depth (walk.NameByte seek block k) = Scans m depth seek × IsBlock m seek block × ((k == 0) ≡ false → IsFilled m seek)
IsAt m depth (walk.PathByte seek block k byte) =
    Scans m depth seek × IsBlock m seek block × IsFilled m seek × (((k == 0) && (byte == 0)) ≡ false)
IsAt m depth _ = Unit {0}

-- what is known of the disk
pub record Known (m : Memory) : Type 0 where
  pub small : AreSmall m
  pub good : AreGood (block_count m.disk) m.disk root_place
  pub few : blocks_below (block_count m.disk) m.disk root_place ≤ block_count m.disk

-- ---- tests

pub not-le : (a b : ℕ) → nat_le a b ≡ false → b < a
not-le a b e = grind (arith, nat_tests)

pub not-zero : (n : ℕ) → (n == 0) ≡ false → 0 < n
not-zero n e = grind (arith, nat_tests)

pub second-false : (a b : Bool) → (a || b) ≡ false → b ≡ false
second-false true b e = absurd (cc e)
second-false false b e = e

pub first-false : (a b : Bool) → (a || b) ≡ false → a ≡ false
first-false true b e = absurd (cc e)
first-false false b e = refl

pub own-number : (byte : ℕ → ℕ) (directory i : ℕ) → nat_lt i 10 ≡ true →
    word_at byte (if nat_lt i 10 then direct_at directory i else indirect_at directory) ≡ block_number_at byte directory i
own-number byte directory i e = rw e refl

pub far-number : (byte : ℕ → ℕ) (directory i : ℕ) → nat_lt i 10 ≡ false →
    word_at byte (if nat_lt i 10 then direct_at directory i else indirect_at directory) ≡ indirect_of byte directory
far-number byte directory i e = rw e refl

pub indirect-number : (byte : ℕ → ℕ) (directory i indirect : ℕ) → indirect ≡ indirect_of byte directory → nat_lt i 10 ≡ false →
    word_at byte (4096 * indirect + 4 * (i - 10)) ≡ block_number_at byte directory i
indirect-number byte directory i indirect is e =
    ap (λ (n : ℕ). word_at byte (4096 * n + 4 * (i - 10))) is ∙ (rw e refl)

pub low : (n : ℕ) → n < 256 → low_byte n ≡ n
low n small = omega (arith, small)

-- the record's place by its block
pub place-is : (m : Memory) (seek : Seek) (block : ℕ) → IsBlock m seek block → record_at seek block ≡ slot_place m.disk seek.directory seek.slot
place-is m seek block is = ap (λ (n : ℕ). 4096 * n + 256 * (seek.slot % 16)) is
