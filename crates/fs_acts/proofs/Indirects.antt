-- A record's indirect block is given back, and taken.
use Rattle.std.proofs.Common.{◌≡◌, ◌≢◌, ◌∙◌, ◌⊎◌, inl, inr, ℕ, ◌+◌, ◌-◌, ◌*◌, ◌/◌, ◌%◌, ◌^◌, ◌<◌, ◌≤◌, ◌==◌, ◌&&◌, zero, suc, Bool}
use Rattle.std.proofs.Common.{true, false, not, List, ◌++◌, Option, None, refl, sym, ap, subst, arith, replicate, append-nil}
use Rattle.std.specs.Prelude.{nat_le, nat_lt}
use Rattle.std.proofs.lemmas.Bool.{cases_eq}
use Rattle.std.proofs.lemmas.Bool.Decides.{nat_tests}
use Rattle.jos_base.specs.Counting.{total}
use Rattle.jos_base.specs.Environments.{bit_of}
use Rattle.jos_base.proofs.Sums.{total-same}
use Rattle.fs_layout.specs.declared.numbers.TheConstants.{BLKSIZE, RECORDSIZE, BLKFILES, MAXNAMELEN, NDIRECT}
use Rattle.fs_layout.specs.FileTree.{Node, a_file, a_directory, Records, NamedNode, listed, records_from, with_node}
use Rattle.jos_base.specs.Below.{values_below}
use Rattle.fs_layout.specs.DiskImage.{block_count, root_place, is_data_block, size_of, kind_at}
use Rattle.fs_layout.specs.DiskImage.{direct_of, indirect_of, is_directory_at, has_indirect, blocks_needed, block_number_at}
use Rattle.fs_layout.specs.DiskImage.{slot_count, slot_place, has_stray, has_stray_in_indirect, is_marked_free}
use Rattle.fs_layout.specs.DiskFiles.{file_byte, file_bytes, node_of, records_at, file_system_of}
use Rattle.fs_layout.specs.LayoutLaws.{Same}
use Rattle.jos_base.proofs.Below.{some_below-same}
use Rattle.fs_layout.proofs.FileTrees.{records_from-listed}
use Rattle.fs_acts.specs.BlockActs.{put_byte, put_word, stored, written, mark_place, give_indirect}
use Rattle.fs_acts.specs.BlockLaws.{IsGoodRecord, AreGood, IsCounted, own_times, times_named, Holds, NowHas, marked}
use Rattle.fs_acts.specs.BlockLaws.{GivenIndirectIsUnmarked}
use Rattle.fs_acts.proofs.Fields.{same-word, same-label, same-directory}
use Rattle.fs_acts.proofs.Named.{own-one, own-indirect, times-own}
use Rattle.fs_acts.proofs.Records.{own-good, no-slot, directory-node, file-node, SameBlocks, slot-same}
use Rattle.fs_acts.proofs.OneWay.{way-is, way-times, none-before}
use Rattle.fs_acts.proofs.OneSlot.{NowIs}
use Rattle.fs_acts.proofs.OneRecord.{AreLoose, changed-gives_on}
use Rattle.fs_acts.proofs.Staying.{AllFrom, all-from}
use Rattle.fs_acts.proofs.Refitted.{SlotsGo, go-stay, go-good, go-times, go-list}
use Rattle.fs_acts.proofs.AtEnd.{AtEnd, at-end, held-node, data-first, Elsewhere, own-stay, below-alike, bytes-stay, front-label}
use Rattle.fs_acts.proofs.AtEnd.{map-block, InMap, off-mark, mark-beyond}
use Rattle.fs_acts.proofs.BlockPuts.{below_or_past, WordPut, word-put, BytePut, byte-put}
use Rattle.fs_acts.proofs.Marks.{Freed, freed-marks, this_block, no_block}
use Rattle.fs_acts.proofs.DiskCounts.{image-counted}
use Rattle.fs_acts.proofs.TreeBlocks.{data-below}
use Rattle.fs_acts.proofs.Trees.{put-again}

-- ---- another number of an indirect block

-- Only that number is another, and no block past the tenth is within the size.
pub record IndirectSet (byte other : ℕ → ℕ) (place : ℕ) (Told : ℕ → Type 0) : Type 0 where
  pub elsewhere : Elsewhere byte other place Told
  pub front : Same 176 byte place other place
  pub few : blocks_needed byte place ≤ NDIRECT
  -- the block is a data block, in which all numbers are 0
  pub sound : has_indirect other place ≡ true → is_data_block (block_count byte) (indirect_of other place) ≡ true
  pub behind : has_indirect other place ≡ true → has_stray_in_indirect other place ≡ false

set-size : {byte other : ℕ → ℕ} {place : ℕ} {Told : ℕ → Type 0} → IndirectSet byte other place Told →
    size_of byte place ≡ size_of other place
set-size {byte} {other} {place} set = same-word 176 byte other place set.front (place + MAXNAMELEN) (omega arith) (omega arith)

set-kind : {byte other : ℕ → ℕ} {place : ℕ} {Told : ℕ → Type 0} → IndirectSet byte other place Told →
    kind_at byte place ≡ kind_at other place
set-kind {byte} {other} {place} set = same-word 176 byte other place set.front (place + MAXNAMELEN + 4) (omega arith) (omega arith)

set-direct : {byte other : ℕ → ℕ} {place : ℕ} {Told : ℕ → Type 0} → IndirectSet byte other place Told → (i : ℕ) → i < NDIRECT →
    direct_of byte place i ≡ direct_of other place i
set-direct {byte} {other} {place} set i below =
    same-word 176 byte other place set.front (place + MAXNAMELEN + 8 + 4 * i) (omega arith) (omega arith)

set-needed : {byte other : ℕ → ℕ} {place : ℕ} {Told : ℕ → Type 0} → IndirectSet byte other place Told →
    blocks_needed byte place ≡ blocks_needed other place
set-needed set = ap (λ n. (n + (BLKSIZE - 1)) / BLKSIZE) (set-size set)

if-below : (i n : ℕ) → i < n → nat_lt i n ≡ true
if-below i n below = grind (arith, nat_tests)

set-number : {byte other : ℕ → ℕ} {place : ℕ} {Told : ℕ → Type 0} → IndirectSet byte other place Told → (i : ℕ) →
    i < blocks_needed byte place → block_number_at byte place i ≡ block_number_at other place i
set-number {byte} {other} {place} set i within =
    let few = set.few in
    let below : i < NDIRECT = omega (arith, within, few) in
    let own = if-below i NDIRECT below in
    rw own (set-direct set i below)

-- the record is good
set-stray : {byte other : ℕ → ℕ} {place : ℕ} {Told : ℕ → Type 0} → IndirectSet byte other place Told →
    has_stray byte place ≡ has_stray other place
unfolding has_stray
set-stray {byte} {other} {place} set =
    let size = set-size set in
    some_below-same NDIRECT (λ i. nat_le (blocks_needed byte place) i && not (direct_of byte place i == 0))
    (λ i. nat_le (blocks_needed other place) i && not (direct_of other place i == 0))
    (λ i below. let direct = set-direct set i below in λ k. nat_le ((size k + (BLKSIZE - 1)) / BLKSIZE) i && not (direct k == 0))

set-good : {byte other : ℕ → ℕ} {place : ℕ} {Told : ℕ → Type 0} → IndirectSet byte other place Told →
    block_count byte ≡ block_count other → IsGoodRecord byte place → IsGoodRecord other place
set-good {byte} {other} {place} set count good = record {
  readable = record {
    whole = λ is.
        subst (λ n. n % BLKSIZE ≡ 0) (set-size set)
        (good.readable.whole (same-directory byte other place (set-kind set) ∙ is));
    short = subst (λ n. n ≤ 4235264) (set-size set) good.readable.short;
    within = λ i below.
        let inside : i < blocks_needed byte place = subst (λ n. i < n) (sym (set-needed set)) below in
        ap (λ n. is_data_block n (block_number_at other place i)) (sym count)
        ∙ ap (is_data_block (block_count byte)) (sym (set-number set i inside))
        ∙ good.readable.within i inside;
  };
  indirect = λ has. ap (λ n. is_data_block n (indirect_of other place)) (sym count) ∙ set.sound has;
  needed = λ many.
      let same = set-needed set in let few = set.few in absurd (omega (arith, same, few, many));
  no_stray = sym (set-stray set) ∙ good.no_stray;
  none_behind = set.behind;
}

-- it names the same blocks, but for the indirect one
set-own : {byte other : ℕ → ℕ} {place : ℕ} {Told : ℕ → Type 0} → IndirectSet byte other place Told → (gain loss : ℕ → ℕ) →
    ((block : ℕ) → bit_of (has_indirect other place && (indirect_of other place == block)) + loss block
    ≡ bit_of (has_indirect byte place && (indirect_of byte place == block)) + gain block) → (block : ℕ) →
    own_times other place block + loss block ≡ own_times byte place block + gain block
unfolding own_times
set-own {byte} {other} {place} set gain loss indirect block =
    let f : ℕ → ℕ = λ i. bit_of (block_number_at byte place i == block) in
    let g : ℕ → ℕ = λ i. bit_of (block_number_at other place i == block) in
    let numbers : total (blocks_needed byte place) f ≡ total (blocks_needed other place) g =
    total-same (blocks_needed byte place) f g (λ i within. ap (λ n. bit_of (n == block)) (set-number set i within))
    ∙ ap (λ n. total n g) (set-needed set) in
    let here = indirect block in
    omega (arith, numbers, here)

-- a directory's records stand where they stood
set-slots : {byte other : ℕ → ℕ} {place : ℕ} {Told : ℕ → Type 0} → IndirectSet byte other place Told →
    slot_count byte place ≡ slot_count other place
set-slots set = ap (λ n. n / RECORDSIZE) (set-size set)

slot-number : (size i : ℕ) → i < size / 256 → i / 16 < (size + 4095) / 4096
slot-number size i within = omega arith

set-go : {byte other : ℕ → ℕ} {place : ℕ} {Told : ℕ → Type 0} → IndirectSet byte other place Told → SameBlocks byte other place →
    SlotsGo byte other place
set-go {byte} {other} {place} set own =
    let count = set-slots set in
    record {
      directory = same-directory byte other place (set-kind set);
      more = omega (arith, count);
      places = λ i within.
          ap (λ n. BLKSIZE * n + RECORDSIZE * (i % BLKFILES))
          (set-number set (i / BLKFILES) (slot-number (size_of byte place) i within));
      labels = λ i is within. same-label byte other (slot_place byte place i) (slot-same byte other place i own within);
      empty = λ i is past within. absurd (omega (arith, count, past, within));
    }

-- ---- its node

marked-own : (records : ℕ → Records) (byte : ℕ → ℕ) (place : ℕ) →
    marked (node_of records byte place) (has_indirect byte place) ≡ node_of records byte place
marked-own records byte place = by_kind (is_directory_at byte place) refl
  where
    by_kind : (kind : Bool) → is_directory_at byte place ≡ kind →
        marked (node_of records byte place) (has_indirect byte place) ≡ node_of records byte place
    by_kind true is = rw is refl
    by_kind false is = rw is refl

set-bytes : {byte other : ℕ → ℕ} {place : ℕ} {Told : ℕ → Type 0} → IndirectSet byte other place Told → SameBlocks byte other place →
    file_bytes byte place ≡ file_bytes other place
unfolding file_bytes
set-bytes {byte} {other} {place} set own =
    bytes-stay byte other place (size_of byte place) (blocks_needed byte place) (omega arith) (set-number set) own
    ∙ ap (λ n. values_below n (file_byte other place)) (set-size set)

set-node : {byte other : ℕ → ℕ} {place : ℕ} {Told : ℕ → Type 0} → (depth : ℕ) → IndirectSet byte other place Told →
    SameBlocks byte other place →
    (is_directory_at byte place ≡ true → records_at depth byte place ≡ records_at depth other place) →
    node_of (records_at depth other) other place
    ≡ marked (node_of (records_at depth byte) byte place) (has_indirect other place)
set-node {byte} {other} {place} depth set own records = by_kind (is_directory_at byte place) refl
  where
    by_kind : (kind : Bool) → is_directory_at byte place ≡ kind →
        node_of (records_at depth other) other place
        ≡ marked (node_of (records_at depth byte) byte place) (has_indirect other place)
    by_kind true is =
        directory-node (records_at depth other) other place (sym (same-directory byte other place (set-kind set)) ∙ is)
        ∙ ap (λ r. a_directory r (has_indirect other place)) (sym (records is))
        ∙ ap (λ n. marked n (has_indirect other place)) (sym (directory-node (records_at depth byte) byte place is))
    by_kind false is =
        file-node (records_at depth other) other place (sym (same-directory byte other place (set-kind set)) ∙ is)
        ∙ ap (λ b. a_file b (has_indirect other place)) (sym (set-bytes set own))
        ∙ ap (λ n. marked n (has_indirect other place)) (sym (file-node (records_at depth byte) byte place is))

no-records : (byte other : ℕ → ℕ) (place : ℕ) → records_at zero byte place ≡ records_at zero other place
unfolding records_at
no-records byte other place = refl

list-end : (list : List (Option NamedNode)) (n m : ℕ) → n ≡ m → list ++ replicate (m - n) None ≡ list
list-end list n m e =
    let none : m - n ≡ 0 = omega (arith, e) in
    ap (λ k. list ++ replicate k None) none ∙ append-nil list

same-records : (depth : ℕ) (byte other : ℕ → ℕ) (place : ℕ) → slot_count byte place ≡ slot_count other place →
    listed (records_at (suc depth) byte place) ++ replicate (slot_count other place - slot_count byte place) None
    ≡ listed (records_at (suc depth) other place) → records_at (suc depth) byte place ≡ records_at (suc depth) other place
same-records depth byte other place count list =
    sym (records_from-listed (records_at (suc depth) byte place))
    ∙ ap records_from
    (sym (list-end (listed (records_at (suc depth) byte place)) (slot_count byte place) (slot_count other place) count) ∙ list)
    ∙ records_from-listed (records_at (suc depth) other place)

-- ---- so the record has become this

own-free : (depth : ℕ) (byte : ℕ → ℕ) (place : ℕ) (Told : ℕ → Type 0) →
    ((block : ℕ) → 0 < times_named depth byte place block → Told block → ⊥) → (i : ℕ) → i < blocks_needed byte place →
    Told (block_number_at byte place i) → ⊥
own-free depth byte place Told free i within =
    let own = own-one byte place i (block_number_at byte place i) within refl in
    let all = times-own depth byte place (block_number_at byte place i) in
    free (block_number_at byte place i) (omega (arith, own, all))

pub set-now : (byte other : ℕ → ℕ) (depth place : ℕ) (Told : ℕ → Type 0) (gain loss : ℕ → ℕ) (node : Node) → AtEnd byte depth place →
    IndirectSet byte other place Told → block_count byte ≡ block_count other →
    ((block : ℕ) → 0 < times_named depth byte place block → Told block → ⊥) →
    ((block : ℕ) → bit_of (has_indirect other place && (indirect_of other place == block)) + loss block
    ≡ bit_of (has_indirect byte place && (indirect_of byte place == block)) + gain block) →
    node ≡ node_of (records_at depth byte) byte place →
    NowIs depth byte other place gain loss (marked node (has_indirect other place)) × AllFrom byte other place
unfolding AreGood times_named
set-now byte other zero place Told gain loss node end set count free indirect is =
    let own = own-stay byte other zero place Told end set.elsewhere (own-free zero byte place Told free) in (
      record {
        good = (
          set-good set count (end.good).0,
          λ directory.
              sym (set-slots set) ∙ (end.good).1 (same-directory byte other place (set-kind set) ∙ directory),
        );
        times = set-own set gain loss indirect;
        node =
            set-node zero set own (λ directory. no-records byte other place)
            ∙ ap (λ n. marked n (has_indirect other place)) (sym is);
      },
      all-from byte other place (sym (same-directory byte other place (set-kind set)))
          (λ i named way at leads. absurd (no-slot byte place i end.good named)),
    )
set-now byte other (suc depth) place Told gain loss node end set count free indirect is =
    let own = own-stay byte other (suc depth) place Told end set.elsewhere (own-free (suc depth) byte place Told free) in
    let go = set-go set own in
    let below = below-alike byte other depth place Told end set.elsewhere count free own in (
      record {
        good = go-good depth byte other place end.good go (set-good set count (own-good (suc depth) byte place end.good)) below;
        times = go-times depth byte other place gain loss go below (set-own set gain loss indirect);
        node =
            set-node (suc depth) set own
            (λ directory. same-records depth byte other place (set-slots set) (go-list depth byte other place go directory below))
            ∙ ap (λ n. marked n (has_indirect other place)) (sym is);
      },
      go-stay depth byte other place go below,
    )

-- ---- the puts

-- where the number stands
abbrev pub indirect_place : ℕ → ℕ
indirect_place place = place + MAXNAMELEN + 8 + 4 * NDIRECT

mark-here : (byte other mid : ℕ → ℕ) (block v : ℕ) (q : ℕ) → q / 8 ≢ block / 8 → byte (mark_place q) ≡ mid (mark_place q) →
    BytePut mid other (mark_place block) v → byte (mark_place q) ≡ other (mark_place q)
mark-here byte other mid block v q rows same put = same ∙ put.kept (mark_place q) (differ (q / 8) (block / 8) rows)
  where
    differ : (a b : ℕ) → a ≢ b → 8192 + a ≢ 8192 + b
    differ a b ne e = ne (omega (arith, e))

-- what is stored where an indirect block is given back
give-puts : (byte : ℕ → ℕ) (place : ℕ) → has_indirect byte place ≡ true → is_marked_free byte (indirect_of byte place) ≡ false →
    written (give_indirect place byte) byte
    ≡ stored
    (put_byte (mark_place (indirect_of byte place)) (byte (mark_place (indirect_of byte place)) + 2 ^ (indirect_of byte place % 8)))
    (stored (put_word (indirect_place place) 0) byte)
unfolding give_indirect written
give-puts byte place has used = rw (has, used) refl

give-none : (byte : ℕ → ℕ) (place : ℕ) → has_indirect byte place ≡ false → written (give_indirect place byte) byte ≡ byte
unfolding give_indirect written
give-none byte place has = rw has refl

-- what it leaves
record Given (byte other : ℕ → ℕ) (place block : ℕ) : Type 0 where
  elsewhere : Elsewhere byte other place (InMap byte)
  front : Same 176 byte place other place
  now : indirect_of other place ≡ 0
  freed : Freed byte other block

given-facts : (byte mid other : ℕ → ℕ) (depth place block : ℕ) → AtEnd byte depth place → block < block_count byte →
    is_marked_free byte block ≡ false → WordPut byte mid (indirect_place place) 0 →
    BytePut mid other (mark_place block) (byte (mark_place block) + 2 ^ (block % 8)) → Given byte other place block
given-facts byte mid other depth place block end within used word mark = record {
  elsewhere = λ q. elim (cases_eq q (mark_place block)) [
    | inl e ↦
        let map = map-block (block_count byte) block within in
        inr (inr (subst (InMap byte) (sym (ap (λ p. p / BLKSIZE) e)) (map.0, map.1)))
    | inr ne ↦ by_word q ne (below_or_past q (indirect_place place)) (below_or_past q (indirect_place place + 4))
  ];
  front = λ k below.
      word.kept (place + k) (inl (omega (arith, below)))
      ∙ mark.kept (place + k) (off-mark byte depth place end (place + k) block (omega arith) (omega (arith, below)) within);
  now =
      sym
      (same-word 4 mid other (indirect_place place)
      (λ k below.
      mark.kept (indirect_place place + k)
      (off-mark byte depth place end (indirect_place place + k) block (omega arith) (omega (arith, below)) within))
      (indirect_place place) (omega arith) (omega arith))
      ∙ word.now;
  freed = record {
    was = used;
    at = mark.now;
    others = λ q inside rows.
        mark-here byte other mid block _ q rows
        (word.kept (mark_place q) (mark-beyond byte depth place end (indirect_place place) 4 q (omega arith) (omega arith) inside)) mark;
  };
}
  where
    by_word : (q : ℕ) → q ≢ mark_place block → (q < indirect_place place) ⊎ (indirect_place place ≤ q) →
        (q < indirect_place place + 4) ⊎ (indirect_place place + 4 ≤ q) →
        (byte q ≡ other q) ⊎ (((place ≤ q) × (q < place + RECORDSIZE)) ⊎ InMap byte (q / BLKSIZE))
    by_word q ne (inl low) side = inl (word.kept q (inl low) ∙ mark.kept q ne)
    by_word q ne (inr past) (inr high) = inl (word.kept q (inr high) ∙ mark.kept q ne)
    by_word q ne (inr past) (inl inside) = inr (inl (omega (arith, past), omega (arith, inside)))

-- no record names the bitmap
pub map-loose : (size : ℕ) (byte : ℕ → ℕ) → IsCounted size byte → AreLoose byte (InMap byte)
map-loose size byte counted block (after, before) =
    (none-before byte (block_count byte) root_place block counted.records before, λ e. omega (arith, after, e))

no-zero : (n : ℕ) → n ≡ 0 → not (n == 0) ≡ false
no-zero n e = ap (λ m. not (m == 0)) e

clash : (b : Bool) → b ≡ true → b ≡ false → ⊥
clash true is no_more = cc
clash false is no_more = cc

pub bit-none : (has : Bool) (n block : ℕ) → has ≡ false → bit_of (has && (n == block)) ≡ 0
bit-none has n block is = rw is refl

pub bit-here : (has : Bool) (n block : ℕ) → has ≡ true → bit_of (has && (n == block)) ≡ bit_of (n == block)
bit-here has n block is = rw is refl

-- ---- the indirect block is given back

given-gives : (size : ℕ) (byte other : ℕ → ℕ) (way : List ℕ) (place : ℕ) (node : Node) → Holds size byte way place node →
    blocks_needed byte place ≤ NDIRECT → has_indirect byte place ≡ true →
    ((depth : ℕ) → AtEnd byte depth place → Given byte other place (indirect_of byte place)) →
    NowHas size byte other way (marked node false)
given-gives size byte other way place node holds few has facts =
    let counted = image-counted size byte holds.sound in
    let block : ℕ = indirect_of byte place in
    let leads = way-is byte way (block_count byte) root_place place counted.records holds.stands in
    let given = facts leads.0 (at-end size byte way place leads.0 counted leads.1) in
    let none = no-zero (indirect_of other place) given.now in
    let set : IndirectSet byte other place (InMap byte) =
    record {
      elsewhere = given.elsewhere;
      front = given.front;
      few = few;
      sound = λ is. absurd (clash (has_indirect other place) is none);
      behind = λ is. absurd (clash (has_indirect other place) is none);
    } in
    subst (λ m. NowHas size byte other way (marked node m)) none
    (changed-gives_on size byte other way place (InMap byte) no_block (this_block block) (marked node (has_indirect other place))
    holds.sound holds.stands
    (record {
      elsewhere = λ q. elim (given.elsewhere q) [
        | inl e ↦ inl e
        | inr differs ↦ inr (elim differs [ inl inside ↦ inl inside | inr told ↦ inr (inr told) ])
      ];
      label = front-label byte other place (λ k below. given.front k (omega (arith, below)));
    })
    (map-loose size byte counted) (freed-marks byte other block given.freed)
    (λ count d onward.
    let end = at-end size byte way place d counted onward in
    set-now byte other d place (InMap byte) no_block (this_block block) node end set count
    (λ q some map. let first = data-first d byte place q end.good some in let before = map.1 in omega (arith, first, before))
    (λ q.
    let now = bit-none (has_indirect other place) (indirect_of other place) q none in
    let was = bit-here (has_indirect byte place) block q has in
    omega (arith, now, was))
    (held-node size byte way place node holds d counted onward)))

pub same-give : (size : ℕ) (byte : ℕ → ℕ) (way : List ℕ) (place : ℕ) (node : Node) (mark : Bool) → Holds size byte way place node →
    has_indirect byte place ≡ mark → NowHas size byte byte way (marked node mark)
same-give size byte way place node mark holds has =
    let counted = image-counted size byte holds.sound in
    let leads = way-is byte way (block_count byte) root_place place counted.records holds.stands in
    let is = held-node size byte way place node holds leads.0 counted leads.1 in
    let same : marked node mark ≡ node =
    ap (marked node) (sym has)
    ∙ ap (λ n. marked n (has_indirect byte place)) is ∙ marked-own (records_at leads.0 byte) byte place ∙ sym is in
    record {
      gives = record {
        sound = holds.sound;
        tree = sym (ap (with_node (file_system_of byte) way) same ∙ put-again (file_system_of byte) way node holds.is);
      };
      stays = refl;
      all_stay = λ at end goes. (goes, refl);
    }

end-indirect : (size : ℕ) (byte : ℕ → ℕ) (way : List ℕ) (place : ℕ) (node : Node) → Holds size byte way place node →
    has_indirect byte place ≡ true →
    (indirect_of byte place < block_count byte) × (is_marked_free byte (indirect_of byte place) ≡ false)
end-indirect size byte way place node holds has =
    let counted = image-counted size byte holds.sound in
    let block : ℕ = indirect_of byte place in
    let leads = way-is byte way (block_count byte) root_place place counted.records holds.stands in
    let end = at-end size byte way place leads.0 counted leads.1 in
    let good = own-good leads.0 byte place end.good in
    let own = own-indirect byte place has in
    let all = times-own leads.0 byte place block in
    let above = way-times byte (block_count byte) root_place way place leads.0 leads.1 block in
    (data-below (block_count byte) block (good.indirect has), counted.in_use block (omega (arith, own, all, above)))

-- the law
pub given-indirect : GivenIndirectIsUnmarked
given-indirect size byte way place node holds few = by_mark (has_indirect byte place) refl
  where
    by_mark : (has : Bool) → has_indirect byte place ≡ has →
        NowHas size byte (written (give_indirect place byte) byte) way (marked node false)
    by_mark true has =
        let block : ℕ = indirect_of byte place in
        let in_use = end-indirect size byte way place node holds has in
        let mid : ℕ → ℕ = stored (put_word (indirect_place place) 0) byte in
        let value : ℕ = byte (mark_place block) + 2 ^ (block % 8) in
        subst (λ (o : ℕ → ℕ). NowHas size byte o way (marked node false))
        (sym (give-puts byte place has in_use.1))
        (given-gives size byte (stored (put_byte (mark_place block) value) mid) way place node holds few has
        (λ depth end.
        given-facts byte mid (stored (put_byte (mark_place block) value) mid) depth place block end in_use.0 in_use.1
        (word-put byte (indirect_place place) 0 (omega arith)) (byte-put mid (mark_place block) value)))
    by_mark false has =
        subst (λ (o : ℕ → ℕ). NowHas size byte o way (marked node false)) (sym (give-none byte place has))
        (same-give size byte way place node false holds has)
