-- What a record says depends on its own bytes and on the blocks that it and those below it name.
use Rattle.std.proofs.Common.{◌≡◌, ◌∙◌, ℕ, ◌+◌, ◌*◌, ◌/◌, ◌%◌, ◌<◌, ◌≤◌, ◌==◌, zero, suc, Bool, true, false, not, Option, Some, None}
use Rattle.std.proofs.Common.{refl, sym, ap, subst, arith}
use Rattle.std.specs.Prelude.{bytes_eq, if◌then◌else◌}
use Rattle.jos_base.specs.Counting.{total}
use Rattle.jos_base.proofs.Sums.{total-same}
use Rattle.fs_layout.specs.declared.numbers.TheConstants.{BLKSIZE, RECORDSIZE, BLKFILES}
use Rattle.fs_layout.specs.FileTree.{a_file, a_directory, Records, NamedNode, records_from}
use Rattle.jos_base.specs.Below.{values_below}
use Rattle.fs_layout.specs.DiskImage.{block_count, size_of, kind_at, indirect_of, name_of, is_good_kind, is_good_name}
use Rattle.fs_layout.specs.DiskImage.{is_directory_at, has_indirect, is_empty_record, blocks_needed, block_number_at}
use Rattle.fs_layout.specs.DiskImage.{slot_count, slot_place, has_taken_name}
use Rattle.fs_layout.specs.DiskFiles.{file_byte, file_bytes, node_of, named_of, records_at}
use Rattle.fs_layout.specs.LayoutLaws.{Same}
use Rattle.jos_base.proofs.Below.{values-same, some_below-same}
use Rattle.fs_acts.specs.BlockActs.{is_named_slot}
use Rattle.fs_acts.specs.BlockLaws.{IsGoodRecord, IsGoodSlot, AreGood, own_times, times_named, RecordsAreTheirBlocks}
use Rattle.fs_acts.proofs.Fields.{same-part, SameLabel, SameFields, same-label, same-fields, same-number, same-slot, same-directory}
use Rattle.fs_acts.proofs.Fields.{good-same, own_times-same}
use Rattle.fs_acts.proofs.Named.{IsNamed, is-named, named-is, own-one, own-indirect, slots, times_below, times-own, times-slot}
use Rattle.fs_acts.proofs.Named.{below-slot}
use Rattle.fs_acts.proofs.Staying.{AllFrom, slot-stays, all-from}

-- ---- the record itself

-- its goodness, whatever the depth
pub own-good : (depth : ℕ) (byte : ℕ → ℕ) (place : ℕ) → AreGood depth byte place → IsGoodRecord byte place
unfolding AreGood
own-good zero byte place good = good.0
own-good (suc depth) byte place good = good.0

-- a directory of the last depth has no records
pub no-slot : (byte : ℕ → ℕ) (place i : ℕ) → AreGood zero byte place → IsNamed byte place i → ⊥
unfolding AreGood
no-slot byte place i good named = let none = good.1 named.is in let within = named.within in omega (arith, none, within)

-- a slot's record is good
pub slot-good : (depth : ℕ) (byte : ℕ → ℕ) (place i : ℕ) → AreGood (suc depth) byte place → IsNamed byte place i →
    IsGoodSlot byte place i × AreGood depth byte (slot_place byte place i)
unfolding AreGood
slot-good depth byte place i good named = good.1 i (named-is byte place i named)

-- the node of a directory, and of a file
pub directory-node : (records : ℕ → Records) (byte : ℕ → ℕ) (place : ℕ) → is_directory_at byte place ≡ true →
    node_of records byte place ≡ a_directory (records place) (has_indirect byte place)
directory-node records byte place is = rw is refl

pub file-node : (records : ℕ → Records) (byte : ℕ → ℕ) (place : ℕ) → is_directory_at byte place ≡ false →
    node_of records byte place ≡ a_file (file_bytes byte place) (has_indirect byte place)
file-node records byte place is = rw is refl

pub node-alike : (byte other : ℕ → ℕ) (place : ℕ) (ones others : ℕ → Records) → SameFields byte other place →
    (is_directory_at byte place ≡ true → ones place ≡ others place) →
    (is_directory_at byte place ≡ false → file_bytes byte place ≡ file_bytes other place) →
    node_of ones byte place ≡ node_of others other place
node-alike byte other place ones others same records bytes = by_kind (is_directory_at byte place) refl
  where
    by_kind : (kind : Bool) → is_directory_at byte place ≡ kind → node_of ones byte place ≡ node_of others other place
    by_kind true is =
        directory-node ones byte place is
        ∙ (λ k. a_directory (records is k) (not (same.indirect k == 0)))
        ∙ sym (directory-node others other place (sym (same-directory byte other place same.kind) ∙ is))
    by_kind false is =
        file-node ones byte place is
        ∙ (λ k. a_file (bytes is k) (not (same.indirect k == 0)))
        ∙ sym (file-node others other place (sym (same-directory byte other place same.kind) ∙ is))

-- the blocks within its size are the same
abbrev pub SameBlocks : (ℕ → ℕ) → (ℕ → ℕ) → ℕ → Type 0
SameBlocks byte other place =
    (i : ℕ) → i < blocks_needed byte place →
    Same BLKSIZE byte (BLKSIZE * block_number_at byte place i) other (BLKSIZE * block_number_at byte place i)

byte_block : (size at : ℕ) → at < size → at / 4096 < (size + 4095) / 4096
byte_block size at within = omega arith

byte_rest : (at : ℕ) → at % 4096 < 4096
byte_rest at = omega arith

pub file_bytes-same : (byte other : ℕ → ℕ) (place : ℕ) → IsGoodRecord byte place → SameFields byte other place →
    SameBlocks byte other place → file_bytes byte place ≡ file_bytes other place
unfolding file_bytes
file_bytes-same byte other place good same blocks =
    values-same (size_of byte place) (file_byte byte place) (file_byte other place)
    (λ at within.
    let inside = byte_block (size_of byte place) at within in
    blocks (at / BLKSIZE) inside (at % BLKSIZE) (byte_rest at)
    ∙ ap (λ n. other (BLKSIZE * n + at % BLKSIZE)) (same-number byte other place good same (at / BLKSIZE) inside))
    ∙ ap (λ n. values_below n (file_byte other place)) same.size

-- and so are the records in them
slot_block : (size i : ℕ) → i < size / 256 → i / 16 < (size + 4095) / 4096
slot_block size i within = omega arith

slot_low : (n i : ℕ) → 4096 * n ≤ 4096 * n + 256 * (i % 16)
slot_low n i = omega arith

slot_high : (n i : ℕ) → 4096 * n + 256 * (i % 16) + 256 ≤ 4096 * n + 4096
slot_high n i = omega arith

pub slot-same : (byte other : ℕ → ℕ) (place i : ℕ) → SameBlocks byte other place → i < slot_count byte place →
    Same RECORDSIZE byte (slot_place byte place i) other (slot_place byte place i)
slot-same byte other place i blocks within =
    let n : ℕ = block_number_at byte place (i / BLKFILES) in
    same-part BLKSIZE RECORDSIZE byte other (BLKSIZE * n) (slot_place byte place i)
    (blocks (i / BLKFILES) (slot_block (size_of byte place) i within)) (slot_low n i) (slot_high n i)

-- ---- a directory

-- Two disks say alike of the record of a directory and of what its records are called.
pub record SameDirectory (byte other : ℕ → ℕ) (place : ℕ) : Type 0 where
  pub count : block_count byte ≡ block_count other
  pub good : IsGoodRecord byte place
  pub fields : SameFields byte other place
  pub labels : (i : ℕ) → is_directory_at byte place ≡ true → i < slot_count byte place → SameLabel byte other (slot_place byte place i)

pub same-slots : (byte other : ℕ → ℕ) (place : ℕ) → SameFields byte other place → slot_count byte place ≡ slot_count other place
same-slots byte other place same = ap (λ n. n / RECORDSIZE) same.size

-- a slot that has a name on the one disk
named-back : (byte other : ℕ → ℕ) (place i : ℕ) → SameDirectory byte other place → IsNamed other place i → IsNamed byte place i
named-back byte other place i same named =
    let is = same-directory byte other place same.fields.kind ∙ named.is in
    let within = subst (λ n. i < n) (sym (same-slots byte other place same.fields)) named.within in
    record {
      is = is;
      within = within;
      filled =
          ap (λ b. b == 0) ((same.labels i is within).first)
          ∙ ap (λ p. other p == 0) (same-slot byte other place same.good same.fields i within) ∙ named.filled;
    }

pub named-there : (byte other : ℕ → ℕ) (place i : ℕ) → SameDirectory byte other place → IsNamed byte place i →
    is_named_slot other place i ≡ true
named-there byte other place i same named =
    named-is other place i
    (record {
      is = sym (same-directory byte other place same.fields.kind) ∙ named.is;
      within = subst (λ n. i < n) (same-slots byte other place same.fields) named.within;
      filled =
          ap (λ p. is_empty_record other p) (sym (same-slot byte other place same.good same.fields i named.within))
          ∙ ap (λ b. b == 0) (sym ((same.labels i named.is named.within).first)) ∙ named.filled;
    })

-- has a good kind and a good name on the other, which is its own
taken-same : (byte other : ℕ → ℕ) (place i : ℕ) → SameDirectory byte other place → IsNamed byte place i →
    has_taken_name byte place i ≡ has_taken_name other place i
unfolding has_taken_name
taken-same byte other place i same named =
    let name : (j : ℕ) → j < slot_count byte place →
    name_of byte (slot_place byte place j) ≡ name_of other (slot_place other place j) =
    λ j below.
    (same.labels j named.is below).name ∙ ap (name_of other) (same-slot byte other place same.good same.fields j below) in
    some_below-same i (λ j. bytes_eq (name_of byte (slot_place byte place j)) (name_of byte (slot_place byte place i)))
    (λ j. bytes_eq (name_of other (slot_place other place j)) (name_of other (slot_place other place i)))
    (λ j below.
    let within = named.within in
    λ k. bytes_eq (name j (omega (arith, below, within)) k) (name i within k))

slot-good_same : (byte other : ℕ → ℕ) (place i : ℕ) → SameDirectory byte other place → IsNamed byte place i →
    IsGoodSlot byte place i → IsGoodSlot other place i
slot-good_same byte other place i same named good =
    let label = same.labels i named.is named.within in
    let at = same-slot byte other place same.good same.fields i named.within in
    record {
      kind = subst (λ n. is_good_kind n ≡ true) (label.kind ∙ ap (kind_at other) at) good.kind;
      named = subst (λ n. is_good_name n ≡ true) (label.name ∙ ap (name_of other) at) good.named;
      alone = sym (taken-same byte other place i same named) ∙ good.alone;
    }

-- it is good on the other where what stands below is good there
pub directory-good : (depth : ℕ) (byte other : ℕ → ℕ) (place : ℕ) → AreGood (suc depth) byte place → SameDirectory byte other place →
    ((i : ℕ) → IsNamed byte place i → AreGood depth other (slot_place byte place i)) → AreGood (suc depth) other place
unfolding AreGood
directory-good depth byte other place good same below = (
  good-same byte other place same.count good.0 same.fields,
  λ i is.
      let named = named-back byte other place i same (is-named other place i is) in (
        slot-good_same byte other place i same named (good.1 i (named-is byte place i named)).0,
        subst (AreGood depth other) (same-slot byte other place same.good same.fields i named.within) (below i named),
      ),
)

-- How often a block is named there, by the slots of the one disk: `times_now` is the slot's own.
abbrev pub times_now : ℕ → (ℕ → ℕ) → (ℕ → ℕ) → ℕ → ℕ → ℕ → ℕ
times_now depth byte other place block i =
    if is_empty_record byte (slot_place byte place i) then 0 else times_named depth other (slot_place byte place i) block

now-below : (depth : ℕ) (byte other : ℕ → ℕ) (place block i : ℕ) → SameDirectory byte other place → is_directory_at byte place ≡ true →
    i < slot_count byte place → times_now depth byte other place block i ≡ times_below depth other place block i
now-below depth byte other place block i same is within =
    (λ k. if (same.labels i is within).first k == 0 then 0 else times_named depth other (slot_place byte place i) block)
    ∙ ap (λ p. if is_empty_record other p then 0 else times_named depth other p block)
    (same-slot byte other place same.good same.fields i within)

pub directory-times : (depth : ℕ) (byte other : ℕ → ℕ) (place block : ℕ) → SameDirectory byte other place →
    own_times byte place block + total (slots byte place) (times_now depth byte other place block)
    ≡ times_named (suc depth) other place block
unfolding times_named
directory-times depth byte other place block same =
    let own = own_times-same byte other place same.good same.fields block in
    let number : slots byte place ≡ slots other place =
    λ k. if same-directory byte other place same.fields.kind k then same-slots byte other place same.fields k else 0 in
    let each : total (slots byte place) (times_now depth byte other place block)
    ≡ total (slots byte place) (times_below depth other place block) =
    total-same (slots byte place) (times_now depth byte other place block) (times_below depth other place block)
    (λ i within.
    let kind = below-slot byte place i within in now-below depth byte other place block i same kind.0 kind.1) in
    let all : total (slots byte place) (times_now depth byte other place block)
    ≡ total (slots other place) (times_below depth other place block) =
    each ∙ ap (λ n. total n (times_below depth other place block)) number in
    λ k. own k + all k

-- What its slots name there: `named_now` is what the slot's own names.
abbrev pub named_now : ℕ → (ℕ → ℕ) → (ℕ → ℕ) → ℕ → Option NamedNode
named_now depth byte other place =
    if is_empty_record byte place then None
    else Some (record { name = name_of byte place; node = node_of (records_at depth other) other place })

now-named : (depth : ℕ) (byte other : ℕ → ℕ) (place there : ℕ) → SameLabel byte other place → place ≡ there →
    named_now depth byte other place ≡ named_of (records_at depth other) other there
now-named depth byte other place there label at =
    (λ k. if label.first k == 0 then None
    else Some (record { name = label.name k; node = node_of (records_at depth other) other place }))
    ∙ ap (named_of (records_at depth other) other) at

pub directory-records : (depth : ℕ) (byte other : ℕ → ℕ) (place : ℕ) → SameDirectory byte other place →
    is_directory_at byte place ≡ true →
    records_from (values_below (slot_count byte place) (λ i. named_now depth byte other (slot_place byte place i)))
    ≡ records_at (suc depth) other place
unfolding records_at
directory-records depth byte other place same is =
    ap records_from
    (values-same (slot_count byte place) (λ i. named_now depth byte other (slot_place byte place i))
    (λ i. named_of (records_at depth other) other (slot_place other place i))
    (λ i within.
    now-named depth byte other (slot_place byte place i) (slot_place other place i) (same.labels i is within)
    (same-slot byte other place same.good same.fields i within))
    ∙ ap (λ n. values_below n (λ i. named_of (records_at depth other) other (slot_place other place i)))
    (same-slots byte other place same.fields))

-- ---- the record and all below it

pub record Alike (depth : ℕ) (byte other : ℕ → ℕ) (place : ℕ) : Type 0 where
  pub good : AreGood depth other place
  pub times : (block : ℕ) → times_named depth byte place block ≡ times_named depth other place block
  pub node : node_of (records_at depth byte) byte place ≡ node_of (records_at depth other) other place
  pub stay : AllFrom byte other place

abbrev pub SameNamed : ℕ → (ℕ → ℕ) → (ℕ → ℕ) → ℕ → Type 0
SameNamed depth byte other place =
    (block : ℕ) → 0 < times_named depth byte place block → Same BLKSIZE byte (BLKSIZE * block) other (BLKSIZE * block)

-- by what the record names itself
fields-alike : (depth : ℕ) (byte other : ℕ → ℕ) (place : ℕ) → Same RECORDSIZE byte place other place →
    SameNamed depth byte other place → SameFields byte other place
fields-alike depth byte other place same blocks =
    same-fields byte other place same
    (λ has.
    let own = own-indirect byte place has in
    let all = times-own depth byte place (indirect_of byte place) in
    blocks (indirect_of byte place) (omega (arith, own, all)))

blocks-alike : (depth : ℕ) (byte other : ℕ → ℕ) (place : ℕ) → SameNamed depth byte other place → SameBlocks byte other place
blocks-alike depth byte other place blocks i within =
    let own = own-one byte place i (block_number_at byte place i) within refl in
    let all = times-own depth byte place (block_number_at byte place i) in
    blocks (block_number_at byte place i) (omega (arith, own, all))

pub named-alike : (depth : ℕ) (byte other : ℕ → ℕ) (place : ℕ) →
    (is_empty_record byte place ≡ false → node_of (records_at depth byte) byte place ≡ node_of (records_at depth other) other place) →
    named_of (records_at depth byte) byte place ≡ named_now depth byte other place
named-alike depth byte other place node = by_test (is_empty_record byte place) refl
  where
    by_test : (empty : Bool) → is_empty_record byte place ≡ empty →
        named_of (records_at depth byte) byte place ≡ named_now depth byte other place
    by_test true is = rw is refl
    by_test false is = rw is (ap (λ n. Some (record { name = name_of byte place; node = n })) (node is))

pub times-alike : (depth : ℕ) (byte other : ℕ → ℕ) (place block i : ℕ) →
    (is_empty_record byte (slot_place byte place i) ≡ false →
    times_named depth byte (slot_place byte place i) block ≡ times_named depth other (slot_place byte place i) block) →
    times_below depth byte place block i ≡ times_now depth byte other place block i
times-alike depth byte other place block i same = by_test (is_empty_record byte (slot_place byte place i)) refl
  where
    by_test : (empty : Bool) → is_empty_record byte (slot_place byte place i) ≡ empty →
        times_below depth byte place block i ≡ times_now depth byte other place block i
    by_test true is = rw is refl
    by_test false is = rw is (same is)

-- at the last depth
zero-alike : (byte other : ℕ → ℕ) (place : ℕ) → block_count byte ≡ block_count other → AreGood zero byte place →
    Same RECORDSIZE byte place other place → SameNamed zero byte other place → Alike zero byte other place
unfolding AreGood times_named records_at
zero-alike byte other place count good same blocks =
    let fields = fields-alike zero byte other place same blocks in
    record {
      good = (
        good-same byte other place count good.0 fields,
        λ is. sym (same-slots byte other place fields) ∙ good.1 (same-directory byte other place fields.kind ∙ is),
      );
      times = λ block. own_times-same byte other place good.0 fields block;
      node =
          node-alike byte other place (records_at zero byte) (records_at zero other) fields (λ is. refl)
          (λ is. file_bytes-same byte other place good.0 fields (blocks-alike zero byte other place blocks));
      stay =
          all-from byte other place (sym (same-directory byte other place fields.kind))
          (λ i named way at leads. absurd (no-slot byte place i good named));
    }

-- with more
deep-alike : (depth : ℕ) (byte other : ℕ → ℕ) (place : ℕ) → AreGood (suc depth) byte place → SameDirectory byte other place →
    SameBlocks byte other place → ((i : ℕ) → IsNamed byte place i → Alike depth byte other (slot_place byte place i)) →
    Alike (suc depth) byte other place
unfolding times_named records_at
deep-alike depth byte other place good same blocks below = record {
  good = directory-good depth byte other place good same (λ i named. (below i named).good);
  times = λ block.
      ap (λ n. own_times byte place block + n)
      (total-same (slots byte place) (times_below depth byte place block) (times_now depth byte other place block)
      (λ i within.
      let kind = below-slot byte place i within in
      times-alike depth byte other place block i
      (λ filled. (below i (record { is = kind.0; within = kind.1; filled = filled })).times block)))
      ∙ directory-times depth byte other place block same;
  node =
      node-alike byte other place (records_at (suc depth) byte) (records_at (suc depth) other) same.fields
      (λ is.
      ap records_from
      (values-same (slot_count byte place) (λ i. named_of (records_at depth byte) byte (slot_place byte place i))
      (λ i. named_now depth byte other (slot_place byte place i))
      (λ i within.
      named-alike depth byte other (slot_place byte place i)
      (λ filled. (below i (record { is = is; within = within; filled = filled })).node)))
      ∙ directory-records depth byte other place same is)
      (λ is. file_bytes-same byte other place same.good same.fields blocks);
  stay =
      all-from byte other place (sym (same-directory byte other place same.fields.kind))
      (λ i named way at leads.
      slot-stays byte other place i way at (named-there byte other place i same named)
      (same-slot byte other place same.good same.fields i named.within) ((below i named).stay way at leads));
}

pub records-alike : (depth : ℕ) (byte other : ℕ → ℕ) (place : ℕ) → block_count byte ≡ block_count other → AreGood depth byte place →
    Same RECORDSIZE byte place other place → SameNamed depth byte other place → Alike depth byte other place
records-alike zero byte other place count good same blocks = zero-alike byte other place count good same blocks
records-alike (suc depth) byte other place count good same blocks =
    let fields = fields-alike (suc depth) byte other place same blocks in
    let own = blocks-alike (suc depth) byte other place blocks in
    deep-alike depth byte other place good
    (record {
      count = count;
      good = own-good (suc depth) byte place good;
      fields = fields;
      labels = λ i is within. same-label byte other (slot_place byte place i) (slot-same byte other place i own within);
    })
    own
    (λ i named.
    records-alike depth byte other (slot_place byte place i) count (slot-good depth byte place i good named).1
    (slot-same byte other place i own named.within)
    (λ block some. let all = times-slot depth byte place block i named in blocks block (omega (arith, all, some))))

-- the law
pub records-blocks : RecordsAreTheirBlocks
records-blocks depth byte other place count good same blocks =
    let alike = records-alike depth byte other place (sym count) good same blocks in
    (alike.good, (λ block. sym (alike.times block)), sym alike.node)
