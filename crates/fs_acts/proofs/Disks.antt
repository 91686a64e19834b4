-- Two disks that say alike of their blocks have the same faults and files.
use Rattle.std.proofs.Common.{◌≡◌, ◌∙◌, ℕ, ◌+◌, ◌*◌, ◌/◌, ◌%◌, ◌<◌, ◌≤◌, ◌==◌, ◌&&◌, Bool, true, false, not, List, [], ◌∷◌}
use Rattle.std.proofs.Common.{refl, sym, ap, subst, arith}
use Rattle.std.specs.Prelude.{nat_le}
use Rattle.std.specs.Int.{bit_at}
use Rattle.std.proofs.lemmas.Bool.{and_parts}
use Rattle.std.proofs.lemmas.Bool.Decides.{nat_tests}
use Rattle.jos_base.specs.Counting.{total}
use Rattle.jos_base.specs.Environments.{bit_of}
use Rattle.jos_base.proofs.Sums.{total-same}
use Rattle.fs_layout.specs.declared.numbers.TheConstants.{BLKSIZE, FS_MAGIC}
use Rattle.fs_layout.specs.DiskImage.{TooShort, Magic, BlockCount, RootKind, Test, demand, in_turn, none_named}
use Rattle.fs_layout.specs.DiskImage.{super_tests, magic_of, block_count, is_good_count, root_place, kind_at}
use Rattle.fs_layout.specs.DiskImage.{is_marked_free, first_data_block, is_data_block}
use Rattle.fs_layout.specs.DiskFiles.{IsDiskImage, node_of, records_at, root_of, named_blocks, is_unnamed, unnamed_blocks, file_system_of}
use Rattle.fs_acts.specs.BlockLaws.{AreGood, IsCounted, times_on_disk, times_named, SameWithin, BlocksDecide}
use Rattle.fs_acts.proofs.Fields.{same-word}
use Rattle.fs_acts.proofs.Named.{named-data}
use Rattle.fs_acts.proofs.TreeBlocks.{data-below}
use Rattle.fs_acts.proofs.DiskCounts.{super-met, image-counted, counted-image, names-counted}
use Rattle.fs_acts.proofs.Records.{Alike, records-alike}

-- ---- the super block

-- its words, and the kind of the root
pub record SameSuper (byte other : ℕ → ℕ) : Type 0 where
  pub magic : magic_of byte ≡ magic_of other
  pub count : block_count byte ≡ block_count other
  pub root : kind_at byte root_place ≡ kind_at other root_place

pub super-same : (size : ℕ) (byte other : ℕ → ℕ) → SameSuper byte other → super_tests size byte ≡ super_tests size other
unfolding super_tests
super-same size byte other same =
    λ k. demand (nat_le (3 * BLKSIZE) size && nat_le (BLKSIZE * same.count k) size) TooShort
    ∷ demand (same.magic k == FS_MAGIC) Magic
    ∷ demand (is_good_count (same.count k)) BlockCount
    ∷ demand (same.root k == 1) RootKind
    ∷ []

-- how many blocks a disk has
pub good-count : (blocks : ℕ) → is_good_count blocks ≡ true → (4 ≤ blocks) × (blocks ≤ 16384)
good-count blocks good =
    let parts = and_parts (nat_le 4 blocks) (nat_le blocks 16384) good in
    (grind (arith, nat_tests), grind (arith, nat_tests))

pub disk-blocks : (size : ℕ) (byte : ℕ → ℕ) → IsCounted size byte → (4 ≤ block_count byte) × (block_count byte ≤ 16384)
disk-blocks size byte counted =
    good-count (block_count byte) (super-met size byte none_named none_named counted.begins).count

-- ---- no fault

-- What one disk says of its blocks, and another, which names them as often and marks them alike.
pub record SameDisks (byte other : ℕ → ℕ) : Type 0 where
  pub super : SameSuper byte other
  pub good : AreGood (block_count byte) other root_place
  pub times : (block : ℕ) → times_on_disk byte block ≡ times_named (block_count byte) other root_place block
  pub marks : (block : ℕ) → block < block_count byte → is_marked_free byte block ≡ is_marked_free other block

times-same : (byte other : ℕ → ℕ) → SameDisks byte other → (block : ℕ) → times_on_disk byte block ≡ times_on_disk other block
times-same byte other same block = same.times block ∙ ap (λ n. times_named n other root_place block) same.super.count

pub few_first : (blocks : ℕ) → 4 ≤ blocks → 2 + (blocks + 32767) / 32768 ≤ blocks
few_first blocks some = omega arith

pub counted-same : (size : ℕ) (byte other : ℕ → ℕ) → IsCounted size byte → SameDisks byte other → IsCounted size other
counted-same size byte other counted same = record {
  begins = ap (λ (tests : List Test). in_turn tests none_named) (sym (super-same size byte other same.super)) ∙ counted.begins;
  records = subst (λ n. AreGood n other root_place) same.super.count same.good;
  once = λ block. subst (λ n. n ≤ 1) (times-same byte other same block) (counted.once block);
  in_use = λ block some.
      let named = subst (λ n. 0 < n) (sym (times-same byte other same block)) some in
      sym (same.marks block (data-below (block_count byte) block (named-data (block_count byte) byte root_place block counted.records named)))
      ∙ counted.in_use block named;
  first = λ block low.
      let before = subst (λ n. block < first_data_block n) (sym same.super.count) low in
      let few = few_first (block_count byte) (disk-blocks size byte counted).0 in
      sym (same.marks block (omega (arith, before, few))) ∙ counted.first block before;
}

-- ---- the same files

bit-same : (a b : Bool) → bit_of a ≡ bit_of b → a ≡ b
bit-same true true e = refl
bit-same false false e = refl
bit-same true false e = absurd (omega arith)
bit-same false true e = absurd (omega arith)

pub named-same : (size : ℕ) (byte other : ℕ → ℕ) → IsDiskImage size byte → IsDiskImage size other → (block : ℕ) →
    times_on_disk byte block ≡ times_on_disk other block → named_blocks byte block ≡ named_blocks other block
named-same size byte other image sound block times =
    bit-same (named_blocks byte block) (named_blocks other block)
    (names-counted size byte image block ∙ times ∙ sym (names-counted size other sound block))

pub unnamed-same : (byte other : ℕ → ℕ) → block_count byte ≡ block_count other →
    ((block : ℕ) → block < block_count byte → is_unnamed byte block ≡ is_unnamed other block) →
    unnamed_blocks byte ≡ unnamed_blocks other
unfolding unnamed_blocks
unnamed-same byte other count same =
    total-same (block_count byte) (λ block. bit_of (is_unnamed byte block)) (λ block. bit_of (is_unnamed other block))
    (λ block within. ap bit_of (same block within))
    ∙ ap (λ n. total n (λ block. bit_of (is_unnamed other block))) count

pub marks-unnamed : (size : ℕ) (byte other : ℕ → ℕ) → IsDiskImage size byte → IsDiskImage size other → SameDisks byte other →
    unnamed_blocks byte ≡ unnamed_blocks other
marks-unnamed size byte other image sound same =
    unnamed-same byte other same.super.count
    (λ block within.
    let marks = same.marks block within in
    let named = named-same size byte other image sound block (times-same byte other same block) in
    λ k. is_data_block (same.super.count k) block && not (marks k) && not (named k))

pub files-same : (byte other : ℕ → ℕ) → block_count byte ≡ block_count other → root_of byte ≡ root_of other →
    unnamed_blocks byte ≡ unnamed_blocks other → file_system_of byte ≡ file_system_of other
unfolding file_system_of
files-same byte other count root unnamed = λ k. record { root = root k; blocks = count k; unnamed = unnamed k }

-- ---- bytes past the blocks

pub within-block : (blocks block k : ℕ) → block < blocks → k < 4096 → 4096 * block + k < 4096 * blocks
within-block blocks block k below inside =
    let next : 4096 * block + 4096 ≤ 4096 * blocks = omega arith in omega arith

pub within-map : (blocks block : ℕ) → 4 ≤ blocks → block < blocks → 8192 + block / 8 < 4096 * blocks
within-map blocks block some below = omega arith

within-super : (blocks at : ℕ) → 4 ≤ blocks → at < 8192 → at < 4096 * blocks
within-super blocks at some low = omega arith

super-within : (byte other : ℕ → ℕ) → 4 ≤ block_count byte → SameWithin (block_count byte) byte other → SameSuper byte other
super-within byte other some same =
    let first : (k : ℕ) → k < 8192 → byte (0 + k) ≡ other (0 + k) = λ k low. same (0 + k) (within-super (block_count byte) (0 + k) some (omega arith)) in
    record {
      magic = same-word 8192 byte other 0 first BLKSIZE (omega arith) (omega arith);
      count = same-word 8192 byte other 0 first (BLKSIZE + 4) (omega arith) (omega arith);
      root = same-word 8192 byte other 0 first (root_place + 128 + 4) (omega arith) (omega arith);
    }

all-alike : (size : ℕ) (byte other : ℕ → ℕ) → IsCounted size byte → SameSuper byte other → SameWithin (block_count byte) byte other →
    Alike (block_count byte) byte other root_place
all-alike size byte other counted super same =
    let some = (disk-blocks size byte counted).0 in
    records-alike (block_count byte) byte other root_place super.count counted.records
    (λ k below. same (root_place + k) (within-super (block_count byte) (root_place + k) some (omega arith)))
    (λ block named k below.
    same (BLKSIZE * block + k)
    (within-block (block_count byte) block k
    (data-below (block_count byte) block (named-data (block_count byte) byte root_place block counted.records named)) below))

same-disks : (size : ℕ) (byte other : ℕ → ℕ) → IsCounted size byte → SameSuper byte other → SameWithin (block_count byte) byte other →
    SameDisks byte other
same-disks size byte other counted super same =
    let alike = all-alike size byte other counted super same in
    record {
      super = super;
      good = alike.good;
      times = alike.times;
      marks = λ block below.
          ap (λ b. bit_at b (block % 8) == 1)
          (same (2 * BLKSIZE + block / 8) (within-map (block_count byte) block (disk-blocks size byte counted).0 below));
    }

-- the law
pub blocks-decide : BlocksDecide
blocks-decide size byte other image same =
    let counted = image-counted size byte image in
    let super = super-within byte other (disk-blocks size byte counted).0 same in
    let disks = same-disks size byte other counted super same in
    let sound = counted-image size other (counted-same size byte other counted disks) in
    let root : root_of byte ≡ root_of other =
    (all-alike size byte other counted super same).node
    ∙ ap (λ n. node_of (records_at n other) other root_place) super.count in
    (sound, sym (files-same byte other super.count root (marks-unnamed size byte other image sound disks)))
