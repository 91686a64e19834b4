-- The fault of bytes is told by the blocks that they count: each test reads within them, since those before it passed.
use Rattle.std.proofs.Common.{◌≡◌, ◌∙◌, ◌+◌, ◌-◌, ◌*◌, ◌/◌, ◌%◌, ◌<◌, ◌≤◌, ◌==◌, ℕ, zero, suc, Bool, true, false, not, min}
use Rattle.std.proofs.Common.{List, [], ◌∷◌, Result, Ok, Err, refl, sym, ap, arith}
use Rattle.std.specs.Prelude.{◌||◌, nat_lt, nat_le, max, bytes_eq}
use Rattle.std.specs.Result.{result_err}
use Rattle.std.specs.Int.{bit_at}
use Rattle.std.proofs.lemmas.Bool.Decides.{nat_tests}
use Rattle.jos_base.specs.Words.{word_at}
use Rattle.fs_layout.specs.declared.numbers.TheConstants.{BLKSIZE, RECORDSIZE, MAXFILESIZE, NDIRECT}
use Rattle.fs_layout.specs.FileTree.{needs_indirect, blocks_of}
use Rattle.fs_layout.specs.DiskImage.{ImageFault, Range, NamedTwice, MarkedFree, DirSize, TooLong, Stray, Kind, BadName, SameName, Blocks}
use Rattle.fs_layout.specs.DiskImage.{none_named, Test, demand, only_where, then_tested, in_turn, for_each_below, block_count, root_place}
use Rattle.fs_layout.specs.DiskImage.{is_marked_free, first_data_block, is_data_block, is_good_kind, is_good_name, is_good_size, size_of}
use Rattle.fs_layout.specs.DiskImage.{kind_at, direct_of, indirect_of, name_of, is_empty_record, is_directory_at, has_indirect}
use Rattle.fs_layout.specs.DiskImage.{blocks_needed, number_in_indirect, block_number_at, slot_count, slot_place}
use Rattle.fs_layout.specs.DiskImage.{has_stray_in_indirect, has_taken_name, block_test, number_test, indirect_test, numbers_tests}
use Rattle.fs_layout.specs.DiskImage.{stray_tests, record_tests, slot_tests, slot_test, contents_test, first_blocks_test, super_tests}
use Rattle.fs_layout.specs.DiskImage.{tree_tests, image_tests, image_fault}
use Rattle.fs_layout.specs.LayoutLaws.{Same}
use Rattle.jos_base.proofs.Below.{some_below-same}
use Rattle.fs_acts.specs.BlockLaws.{IsGoodRecord, SameWithin, FaultsAreTheirBlocks}
use Rattle.fs_acts.proofs.Fields.{same-word, SameLabel, same-label, SameFields, same-fields, same-slot, same-stray, same-stray_behind}
use Rattle.fs_acts.proofs.Counts.{counts-where, err-not-ok}
use Rattle.fs_acts.proofs.RecordCounts.{counts-number, counts-numbers, counts-record, le-if}
use Rattle.fs_acts.proofs.DiskCounts.{in_turn-append, super-met}
use Rattle.fs_acts.proofs.Disks.{SameSuper, super-same, good-count, within-block, within-map, few_first}
use Rattle.fs_acts.proofs.TreeBlocks.{data-below}

-- ---- tests that give the same

demand-met : (b : Bool) (fault : ImageFault) (named now : Blocks) → demand b fault named ≡ Ok now → b ≡ true
demand-met true fault named now e = refl
demand-met false fault named now e = err-not-ok fault now e

-- after what a test gave
then-same : (result : Result Blocks ImageFault) (one other : Test) → ((now : Blocks) → result ≡ Ok now → one now ≡ other now) →
    then_tested result one ≡ then_tested result other
then-same (Ok now) one other same = same now refl
then-same (Err fault) one other same = refl

turn-same : (test its : Test) (ones others : List Test) (named : Blocks) → test named ≡ its named →
    ((now : Blocks) → test named ≡ Ok now → in_turn ones now ≡ in_turn others now) → in_turn (test ∷ ones) named ≡ in_turn (its ∷ others) named
unfolding in_turn
turn-same test its ones others named e same =
    then-same (test named) (in_turn ones) (in_turn others) same
    ∙ ap (λ (r : Result Blocks ImageFault). then_tested r (in_turn others)) e

each-same : (n : ℕ) (one other : ℕ → Test) → ((i : ℕ) → i < n → (now : Blocks) → one i now ≡ other i now) → (named : Blocks) →
    for_each_below n one named ≡ for_each_below n other named
unfolding for_each_below
each-same zero one other same named = refl
each-same (suc n) one other same named =
    then-same (for_each_below n one named) (one n) (other n) (λ now made. same n (omega arith) now)
    ∙ ap (λ (r : Result Blocks ImageFault). then_tested r (other n)) (each-same n one other (λ i less. same i (omega (arith, less))) named)

where-same : (made : Bool) (one other : Test) (named : Blocks) → (made ≡ true → one named ≡ other named) →
    only_where made one named ≡ only_where made other named
where-same true one other named same = same refl
where-same false one other named same = refl

-- ---- numbers

-- bytes that are the same within the blocks that are counted
record Twins (byte other : ℕ → ℕ) : Type 0 where
  count : block_count byte ≡ block_count other
  same : SameWithin (block_count byte) byte other
  some : 4 ≤ block_count byte

marks-same : (byte other : ℕ → ℕ) (block : ℕ) → Twins byte other → block < block_count byte →
    is_marked_free byte block ≡ is_marked_free other block
marks-same byte other block twins below =
    ap (λ b. bit_at b (block % 8) == 1) (twins.same (2 * BLKSIZE + block / 8) (within-map (block_count byte) block twins.some below))

block-bytes : (byte other : ℕ → ℕ) (block : ℕ) → Twins byte other → is_data_block (block_count byte) block ≡ true →
    Same BLKSIZE byte (BLKSIZE * block) other (BLKSIZE * block)
block-bytes byte other block twins is k below =
    twins.same (BLKSIZE * block + k) (within-block (block_count byte) block k (data-below (block_count byte) block is) below)

block-same : (byte other : ℕ → ℕ) (block : ℕ) → Twins byte other → (named : Blocks) → block_test byte block named ≡ block_test other block named
unfolding block_test
block-same byte other block twins named =
    turn-same _ _ _ _ named (ap (λ n. demand (is_data_block n block) (Range block) named) twins.count)
    (λ now made.
    let is = demand-met (is_data_block (block_count byte) block) (Range block) named now made in
    turn-same (demand (not (named block)) (NamedTwice block)) (demand (not (named block)) (NamedTwice block)) _ _ now refl
    (λ later _.
    turn-same _ _ _ _ later
    (ap (λ (b : Bool). demand (not b) (MarkedFree block) later)
    (marks-same byte other block twins (data-below (block_count byte) block is)))
    (λ last _. refl)))

number-same : (byte other : ℕ → ℕ) (place number : ℕ) → Twins byte other → (named : Blocks) →
    number_test byte place number named ≡ number_test other place number named
unfolding number_test
number-same byte other place number twins named =
    turn-same _ _ _ _ named refl
    (λ now _. turn-same (block_test byte number) (block_test other number) [] [] now (block-same byte other number twins now) (λ last _. refl))

-- ---- a record

-- where it stands
abbrev Lies : (ℕ → ℕ) → ℕ → Type 0
Lies byte place = place + RECORDSIZE ≤ BLKSIZE * block_count byte

record-bytes : (byte other : ℕ → ℕ) (place : ℕ) → Twins byte other → Lies byte place → Same RECORDSIZE byte place other place
record-bytes byte other place twins lies k below = twins.same (place + k) (inside place k (4096 * block_count byte) lies below)
  where
    inside : (place k all : ℕ) → place + 256 ≤ all → k < 256 → place + k < all
    inside place k all lies_ below_ = omega arith

size-same : (byte other : ℕ → ℕ) (place : ℕ) → Twins byte other → Lies byte place → size_of byte place ≡ size_of other place
size-same byte other place twins lies =
    same-word RECORDSIZE byte other place (record-bytes byte other place twins lies) (place + 128) (omega arith) (omega arith)

indirect-same : (byte other : ℕ → ℕ) (place : ℕ) → Twins byte other → Lies byte place → indirect_of byte place ≡ indirect_of other place
indirect-same byte other place twins lies =
    same-word RECORDSIZE byte other place (record-bytes byte other place twins lies) (place + 128 + 8 + 40) (omega arith) (omega arith)

direct-same : (byte other : ℕ → ℕ) (place i : ℕ) → Twins byte other → Lies byte place → i < 10 → direct_of byte place i ≡ direct_of other place i
direct-same byte other place i twins lies below =
    same-word RECORDSIZE byte other place (record-bytes byte other place twins lies) (place + 128 + 8 + 4 * i) (omega arith) (omega arith)

fields-same : (byte other : ℕ → ℕ) (place : ℕ) → Twins byte other → Lies byte place →
    (has_indirect byte place ≡ true → is_data_block (block_count byte) (indirect_of byte place) ≡ true) → SameFields byte other place
fields-same byte other place twins lies is_data =
    same-fields byte other place (record-bytes byte other place twins lies)
    (λ has. block-bytes byte other (indirect_of byte place) twins (is_data has))

needs-it : (n i : ℕ) (has : Bool) → i < n - 10 → (nat_lt 10 n || has) ≡ true
needs-it n i has less = let past : 10 < n = omega (arith, less) in or-left (nat_lt 10 n) has (is-less n past)
  where
    is-less : (n : ℕ) → 10 < n → nat_lt 10 n ≡ true
    is-less n past_ = grind (arith, nat_tests)

    or-left : (a b : Bool) → a ≡ true → (a || b) ≡ true
    or-left true b e = refl
    or-left false b e = absurd (cc)

few-far : (size i : ℕ) → size ≤ 4235264 → i < blocks_of size - 10 → i < 1024
few-far size i short less = omega arith

numbers-same : (byte other : ℕ → ℕ) (place : ℕ) → Twins byte other → Lies byte place → size_of byte place ≤ MAXFILESIZE → (named : Blocks) →
    in_turn (numbers_tests byte place) named ≡ in_turn (numbers_tests other place) named
unfolding numbers_tests indirect_test
numbers-same byte other place twins lies short named =
    let size = size-same byte other place twins lies in
    let indirect = indirect-same byte other place twins lies in
    let tested : Bool = needs_indirect (size_of byte place) || has_indirect byte place in
    turn-same _ _ _ _ named
    (each-same (min (blocks_needed byte place) NDIRECT) (λ i. number_test byte place (direct_of byte place i))
    (λ i. number_test other place (direct_of other place i))
    (λ i less now.
    number-same byte other place (direct_of byte place i) twins now
    ∙ ap (λ n. number_test other place n now) (direct-same byte other place i twins lies (omega (arith, less)))) named
    ∙ ap (λ s. for_each_below (min (blocks_of s) NDIRECT) (λ i. number_test other place (direct_of other place i)) named) size)
    (λ now _.
    turn-same _ _ _ _ now
    (where-same tested (number_test byte place (indirect_of byte place)) (number_test other place (indirect_of byte place)) now
    (λ _. number-same byte other place (indirect_of byte place) twins now)
    ∙ (λ k. only_where (needs_indirect (size k) || not (indirect k == 0)) (number_test other place (indirect k)) now))
    (λ later made.
    let is_data =
    (counts-where tested (number_test byte place (indirect_of byte place)) (counts-number byte place (indirect_of byte place))).asks now later
    made in
    turn-same _ _ _ _ later
    (each-same (blocks_needed byte place - NDIRECT) (λ i. number_test byte place (number_in_indirect byte place i))
    (λ i. number_test other place (number_in_indirect other place i))
    (λ i less then.
    number-same byte other place (number_in_indirect byte place i) twins then
    ∙ ap (λ n. number_test other place n then)
    (far i (is_data (needs-it (blocks_needed byte place) i (has_indirect byte place) less)) (few-far (size_of byte place) i short less) indirect))
    later
    ∙ ap (λ s. for_each_below (blocks_of s - NDIRECT) (λ i. number_test other place (number_in_indirect other place i)) later) size)
    (λ last _. refl)))
  where
    far : (i : ℕ) → is_data_block (block_count byte) (indirect_of byte place) ≡ true → i < 1024 →
        indirect_of byte place ≡ indirect_of other place → number_in_indirect byte place i ≡ number_in_indirect other place i
    far i is_data below same =
        same-word BLKSIZE byte other (BLKSIZE * indirect_of byte place) (block-bytes byte other (indirect_of byte place) twins is_data)
        (BLKSIZE * indirect_of byte place + 4 * i) (omega arith) (omega arith)
        ∙ ap (λ n. word_at other (BLKSIZE * n + 4 * i)) same

stray-same : (byte other : ℕ → ℕ) (place : ℕ) → SameFields byte other place → (named : Blocks) →
    in_turn (stray_tests byte place) named ≡ in_turn (stray_tests other place) named
unfolding stray_tests
stray-same byte other place same named =
    turn-same _ _ _ _ named (ap (λ (b : Bool). demand (not b) (Stray place) named) (same-stray byte other place same))
    (λ now _.
    turn-same _ _ _ _ now
    (where-same (has_indirect byte place) (λ n. demand (not (has_stray_in_indirect byte place)) (Stray place) n)
    (λ n. demand (not (has_stray_in_indirect other place)) (Stray place) n) now
    (λ has. ap (λ (b : Bool). demand (not b) (Stray place) now) (same-stray_behind byte other place same has))
    ∙ ap (λ n. only_where (not (n == 0)) (λ m. demand (not (has_stray_in_indirect other place)) (Stray place) m) now) same.indirect)
    (λ last _. refl))

record-same : (byte other : ℕ → ℕ) (place : ℕ) → Twins byte other → Lies byte place → (named : Blocks) →
    in_turn (record_tests byte place) named ≡ in_turn (record_tests other place) named
unfolding record_tests
record-same byte other place twins lies named =
    let size = size-same byte other place twins lies in
    let label = same-label byte other place (record-bytes byte other place twins lies) in
    turn-same _ _ _ _ named (λ k. demand (is_good_size (label.kind k) (size k)) (DirSize place) named)
    (λ now _.
    turn-same _ _ _ _ now (λ k. demand (nat_le (size k) MAXFILESIZE) (TooLong place) now)
    (λ later made.
    let short = le-if (size_of byte place) MAXFILESIZE (demand-met (nat_le (size_of byte place) MAXFILESIZE) (TooLong place) now later made) in
    turn-same _ _ _ _ later (numbers-same byte other place twins lies short later)
    (λ then told.
    let numbers = (counts-numbers byte place).asks later then told in
    turn-same _ _ _ _ then (stray-same byte other place (fields-same byte other place twins lies numbers.indirect) then) (λ last _. refl))))

-- ---- below a directory

slot-lies : (byte : ℕ → ℕ) (place i : ℕ) → IsGoodRecord byte place → i < slot_count byte place → Lies byte (slot_place byte place i)
slot-lies byte place i good inside =
    let below =
    data-below (block_count byte) (block_number_at byte place (i / 16)) (good.readable.within (i / 16) (needed (size_of byte place) i inside)) in
    in_block (block_number_at byte place (i / 16)) i (block_count byte) below
  where
    needed : (size i : ℕ) → i < size / 256 → i / 16 < (size + 4095) / 4096
    needed size i less = omega arith

    in_block : (n i count : ℕ) → n < count → 4096 * n + 256 * (i % 16) + 256 ≤ 4096 * count
    in_block n i count less = omega arith

contents-same : (depth : ℕ) (byte other : ℕ → ℕ) (place : ℕ) → Twins byte other → Lies byte place → IsGoodRecord byte place → (named : Blocks) →
    contents_test depth byte place named ≡ contents_test depth other place named
unfolding contents_test
contents-same zero byte other place twins lies good named = refl
contents-same (suc depth) byte other place twins lies good named =
    each-same (slot_count byte place) (slot_test (contents_test depth byte) byte place) (slot_test (contents_test depth other) other place)
    (λ i less now. slot (λ below there fine n. contents-same depth byte other below twins there fine n) i less now) named
    ∙ ap (λ s. for_each_below (s / 256) (slot_test (contents_test depth other) other place) named) (size-same byte other place twins lies)
  where
    Onward : Type 0
    Onward =
        (below : ℕ) → Lies byte below → IsGoodRecord byte below → (n : Blocks) →
        contents_test depth byte below n ≡ contents_test depth other below n

    fields : SameFields byte other place
    fields = fields-same byte other place twins lies good.indirect

    at : (i : ℕ) → i < slot_count byte place → slot_place byte place i ≡ slot_place other place i
    at i less = same-slot byte other place good fields i less

    label : (i : ℕ) → i < slot_count byte place → SameLabel byte other (slot_place byte place i)
    label i less =
        same-label byte other (slot_place byte place i)
        (record-bytes byte other (slot_place byte place i) twins (slot-lies byte place i good less))

    name : (i : ℕ) → i < slot_count byte place → name_of byte (slot_place byte place i) ≡ name_of other (slot_place other place i)
    name i less = (label i less).name ∙ ap (name_of other) (at i less)

    taken : (i : ℕ) → i < slot_count byte place → has_taken_name byte place i ≡ has_taken_name other place i
    taken i less = unfold has_taken_name in
        (some_below-same i (λ j. bytes_eq (name_of byte (slot_place byte place j)) (name_of byte (slot_place byte place i)))
        (λ j. bytes_eq (name_of other (slot_place other place j)) (name_of other (slot_place other place i)))
        (λ j before. λ k. bytes_eq (name j (omega (arith, before, less)) k) (name i less k)))

    tests : Onward → (i : ℕ) → i < slot_count byte place → (now : Blocks) →
        in_turn (slot_tests (contents_test depth byte) byte place i) now ≡ in_turn (slot_tests (contents_test depth other) other place i) now
    tests onward i less now = unfold slot_tests in
        (let here : ℕ = slot_place byte place i in
        let lies_here = slot-lies byte place i good less in
        let kind : kind_at byte here ≡ kind_at other (slot_place other place i) = (label i less).kind ∙ ap (kind_at other) (at i less) in
        turn-same _ _ _ _ now (λ k. demand (is_good_kind (kind k)) (Kind (at i less k)) now)
        (λ n1 _.
        turn-same _ _ _ _ n1 (λ k. demand (is_good_name (name i less k)) (BadName (at i less k)) n1)
        (λ n2 _.
        turn-same _ _ _ _ n2
        (record-same byte other here twins lies_here n2 ∙ ap (λ p. in_turn (record_tests other p) n2) (at i less))
        (λ n3 made.
        let good_here = (counts-record byte here).asks n2 n3 made in
        turn-same _ _ _ _ n3 (λ k. demand (not (taken i less k)) (SameName (at i less k)) n3)
        (λ n4 _.
        turn-same _ _ _ _ n4
        (where-same (is_directory_at byte here) (contents_test depth byte here) (contents_test depth other here) n4
        (λ _. onward here lies_here good_here n4)
        ∙ (λ k. only_where (kind k == 1) (contents_test depth other (at i less k)) n4))
        (λ last _. refl))))))

    slot : Onward → (i : ℕ) → i < slot_count byte place → (now : Blocks) →
        slot_test (contents_test depth byte) byte place i now ≡ slot_test (contents_test depth other) other place i now
    slot onward i less now =
        let first : byte (slot_place byte place i) ≡ other (slot_place other place i) = (label i less).first ∙ ap other (at i less) in
        where-same (not (is_empty_record byte (slot_place byte place i))) (λ n. in_turn (slot_tests (contents_test depth byte) byte place i) n)
        (λ n. in_turn (slot_tests (contents_test depth other) other place i) n) now (λ _. tests onward i less now)
        ∙ ap (λ b. only_where (not (b == 0)) (λ n. in_turn (slot_tests (contents_test depth other) other place i) n) now) first

-- ---- the tree

first-same : (byte other : ℕ → ℕ) → Twins byte other → (named : Blocks) → first_blocks_test byte named ≡ first_blocks_test other named
unfolding first_blocks_test
first-same byte other twins named =
    each-same (first_data_block (block_count byte)) (λ block. demand (not (is_marked_free byte block)) (MarkedFree block))
    (λ block. demand (not (is_marked_free other block)) (MarkedFree block))
    (λ block less now.
    ap (λ (b : Bool). demand (not b) (MarkedFree block) now)
    (marks-same byte other block twins (before block (block_count byte) less (few_first (block_count byte) twins.some)))) named
    ∙ ap (λ n. for_each_below (first_data_block n) (λ block. demand (not (is_marked_free other block)) (MarkedFree block)) named) twins.count
  where
    before : (block n : ℕ) → block < first_data_block n → first_data_block n ≤ n → block < n
    before block n less few = omega (arith, less, few)

tree-same : (byte other : ℕ → ℕ) → Twins byte other → (named : Blocks) → in_turn (tree_tests byte) named ≡ in_turn (tree_tests other) named
unfolding tree_tests
tree-same byte other twins named =
    let lies = root_lies (block_count byte) twins.some in
    turn-same _ _ _ _ named (record-same byte other root_place twins lies named)
    (λ now made.
    turn-same _ _ _ _ now
    (contents-same (block_count byte) byte other root_place twins lies ((counts-record byte root_place).asks named now made) now
    ∙ ap (λ n. contents_test n other root_place now) twins.count)
    (λ later _. turn-same _ _ _ _ later (first-same byte other twins later) (λ last _. refl)))
  where
    root_lies : (n : ℕ) → 4 ≤ n → 4104 + 256 ≤ 4096 * n
    root_lies n some = omega arith

-- ---- the law

pub faults-blocks : FaultsAreTheirBlocks
unfolding image_fault image_tests
faults-blocks size byte other same =
    sym
    (ap result_err
    (in_turn-append (super_tests size byte) (tree_tests byte) none_named
    ∙ then-same (in_turn (super_tests size byte) none_named) (in_turn (tree_tests byte)) (in_turn (tree_tests other))
    (λ now made.
    let count = good-count (block_count byte) (super-met size byte none_named now made).count in
    tree-same byte other
    (record {
      count = super.count;
      same = λ at below. same at (counted at (block_count byte) count.1 below);
      some = count.0;
    }) now)
    ∙ ap (λ (tests : List Test). then_tested (in_turn tests none_named) (in_turn (tree_tests other))) (super-same size byte other super)
    ∙ sym (in_turn-append (super_tests size other) (tree_tests other) none_named)))
  where
    counted : (at n : ℕ) → n ≤ 16384 → at < 4096 * n → at < 4096 * max 2 (min n 16384)
    counted at n few below = omega arith

    low : (at n : ℕ) → at < 8192 → at < 4096 * max 2 n
    low at n below = omega arith

    first : Same 8192 byte 0 other 0
    first k below = same (0 + k) (low (0 + k) (min (block_count byte) 16384) (omega arith))

    super : SameSuper byte other
    super =
        record {
          magic = same-word 8192 byte other 0 first BLKSIZE (omega arith) (omega arith);
          count = same-word 8192 byte other 0 first (BLKSIZE + 4) (omega arith) (omega arith);
          root = same-word 8192 byte other 0 first (root_place + 128 + 4) (omega arith) (omega arith);
        }
