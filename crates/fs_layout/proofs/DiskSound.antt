-- What tests that were passed tell: the records of a disk can be read, and the bound on the depth of its tree is never used up.
use Rattle.std.proofs.Common.{◌≡◌, ◌∙◌, ◌*◌, ◌-◌, ◌%◌, ◌<◌, ◌≤◌, ◌==◌, ◌&&◌, inl, inr, ℕ, zero, suc, Bool}
use Rattle.std.proofs.Common.{true, false, List, [], ◌∷◌, not, min, Some, None, Result, Ok, Err, refl, sym, ap, subst}
use Rattle.std.proofs.Common.{arith}
use Rattle.std.specs.Prelude.{◌||◌, nat_lt, nat_le}
use Rattle.std.specs.Result.{result_err}
use Rattle.std.proofs.lemmas.Bool.Decides.{nat_tests}
use Rattle.jos_base.specs.Words.{upd}
use Rattle.fs_layout.specs.declared.numbers.TheConstants.{BLKSIZE, MAXFILESIZE, NDIRECT, FS_MAGIC}
use Rattle.fs_layout.specs.FileTree.{Records, no_more, a_directory, records_from}
use Rattle.fs_layout.specs.DiskImage.{ImageFault, Kind, BadName, DirSize, TooLong, Hole, Range, NamedTwice, MarkedFree, SameName}
use Rattle.fs_layout.specs.DiskImage.{TooShort, Magic, BlockCount, RootKind, Blocks, none_named, Test, demand, only_where, then_tested}
use Rattle.jos_base.specs.Below.{values_below}
use Rattle.fs_layout.specs.DiskImage.{in_turn, for_each_below, block_count, magic_of, is_good_count, is_data_block}
use Rattle.fs_layout.specs.DiskImage.{is_marked_free, size_of, kind_at, direct_of, name_of, number_in_indirect, block_number_at}
use Rattle.fs_layout.specs.DiskImage.{blocks_needed, slot_count, slot_place, is_empty_record, is_directory_at, has_indirect}
use Rattle.fs_layout.specs.DiskImage.{is_good_kind, is_good_name, is_good_size, has_taken_name, block_test, number_test}
use Rattle.fs_layout.specs.DiskImage.{indirect_test, numbers_tests, stray_tests, record_tests, slot_tests, slot_test}
use Rattle.fs_layout.specs.DiskImage.{contents_test, root_place, super_tests, tree_tests, first_blocks_test, image_tests, image_fault}
use Rattle.fs_layout.specs.DiskFiles.{node_of, named_of, records_at}
use Rattle.fs_layout.specs.DiskLaws.{IsReadable, AreReadable, DisksAreSound, TreeDepthSuffices}
use Rattle.fs_layout.proofs.DiskDepth.{Meets, unnamed, unnamed-none, keeps-where, keeps-each, Suffices, record-suffices}
use Rattle.fs_layout.proofs.DiskDepth.{keeps-slot_tests, keeps-contents}
use Rattle.std.proofs.lemmas.Bool.{and_parts}
use Rattle.jos_base.proofs.Bounds.{below_or_last}
use Rattle.jos_base.proofs.Below.{values-same}

-- ---- tests that were passed

-- what was given between a test and those after it
record Between (first : Result Blocks ImageFault) (rest : Test) (now : Blocks) : Type 0 where
  named : Blocks
  made : first ≡ Ok named
  rest_made : rest named ≡ Ok now

-- a fault is no success
err-not-ok : {X : Type 0} (fault : ImageFault) (now : Blocks) → Err fault ≡ Ok now → X
err-not-ok fault now e = cc

-- both tests passed
after-passed : (result : Result Blocks ImageFault) (test : Test) (now : Blocks) → then_tested result test ≡ Ok now →
    Between result test now
after-passed (Ok named) test now e = record { named = named; made = refl; rest_made = e }
after-passed (Err fault) test now e = err-not-ok fault now e

-- a test that was made passed
where-passed : (made : Bool) (test : Test) (named now : Blocks) → made ≡ true → only_where made test named ≡ Ok now →
    test named ≡ Ok now
where-passed true test named now is e = e
where-passed false test named now is e = absurd (cc)

-- the first test and the others passed
turn-passed : (test : Test) (tests : List Test) (named now : Blocks) → in_turn (test ∷ tests) named ≡ Ok now →
    Between (test named) (in_turn tests) now
unfolding in_turn
turn-passed test tests named now e = after-passed (test named) (in_turn tests) now e

-- after a demand the others get what it got
demand-turn : (passes : Bool) (fault : ImageFault) (tests : List Test) (named now : Blocks) →
    in_turn (demand passes fault ∷ tests) named ≡ Ok now → (passes ≡ true) × (in_turn tests named ≡ Ok now)
unfolding in_turn
demand-turn true fault tests named now e = (refl, e)
demand-turn false fault tests named now e = err-not-ok fault now e

-- one of the tests for each number below a count
record One (test : ℕ → Test) (first : Blocks) (i : ℕ) : Type 0 where
  named : Blocks
  now : Blocks
  before_it : for_each_below i test first ≡ Ok named
  made : test i named ≡ Ok now

-- each of them passed
each-passed : (n : ℕ) (test : ℕ → Test) (first last : Blocks) → for_each_below n test first ≡ Ok last → (i : ℕ) → i < n →
    One test first i
unfolding for_each_below
each-passed zero test first last e i within = absurd (omega arith)
each-passed (suc n) test first last e i within =
    let parts = after-passed (for_each_below n test first) (test n) last e in
    elim (below_or_last i n within) [
      | inl below ↦ each-passed n test first parts.named parts.made i below
      | inr same ↦
          subst (One test first) (sym same)
          (record { named = parts.named; now = last; before_it = parts.made; made = parts.rest_made })
    ]

-- ---- a record

-- a block that passed is a data block
block-data : (byte : ℕ → ℕ) (block : ℕ) (named now : Blocks) → block_test byte block named ≡ Ok now →
    is_data_block (block_count byte) block ≡ true
unfolding block_test
block-data byte block named now e =
    (demand-turn (is_data_block (block_count byte) block) (Range block)
    (demand (not (named block)) (NamedTwice block)
    ∷ demand (not (is_marked_free byte block)) (MarkedFree block)
    ∷ (λ before. Ok (upd before block true))
    ∷ [])
    named now e).0

-- so is one whose number passed
number-data : (byte : ℕ → ℕ) (place number : ℕ) (named now : Blocks) → number_test byte place number named ≡ Ok now →
    is_data_block (block_count byte) number ≡ true
unfolding number_test
number-data byte place number named now e =
    let rest = (demand-turn (not (number == 0)) (Hole place) (block_test byte number ∷ []) named now e).1 in
    let parts = turn-passed (block_test byte number) [] named now rest in
    block-data byte number named parts.named parts.made

-- the numbers of the blocks within the size
number-is-data : (byte : ℕ → ℕ) (place i : ℕ) (direct : Bool) → nat_lt i NDIRECT ≡ direct →
    (nat_lt i NDIRECT ≡ true → is_data_block (block_count byte) (direct_of byte place i) ≡ true) →
    (nat_lt i NDIRECT ≡ false → is_data_block (block_count byte) (number_in_indirect byte place (i - NDIRECT)) ≡ true) →
    is_data_block (block_count byte) (block_number_at byte place i) ≡ true
number-is-data byte place i true is own far = rw is (own is)
number-is-data byte place i false is own far = rw is (far is)

-- which of the tests is that of a number
below_ten : (i n : ℕ) → nat_lt i 10 ≡ true → i < n → i < min n 10
below_ten i n own within = grind (arith, nat_tests)

past_ten : (i n : ℕ) → nat_lt i 10 ≡ false → i < n → i - 10 < n - 10
past_ten i n far within = grind (arith, nat_tests)

-- each block within the size is a data block
numbers-data : (byte : ℕ → ℕ) (place : ℕ) (named now : Blocks) → in_turn (numbers_tests byte place) named ≡ Ok now → (i : ℕ) →
    i < blocks_needed byte place → is_data_block (block_count byte) (block_number_at byte place i) ≡ true
unfolding numbers_tests
numbers-data byte place named now e i within =
    let own_test : ℕ → Test = λ k. number_test byte place (direct_of byte place k) in
    let far_test : ℕ → Test = λ k. number_test byte place (number_in_indirect byte place k) in
    let far_tests : Test = for_each_below (blocks_needed byte place - NDIRECT) far_test in
    let own =
    turn-passed (for_each_below (min (blocks_needed byte place) NDIRECT) own_test)
    (indirect_test byte place ∷ far_tests ∷ []) named now e in
    let indirect = turn-passed (indirect_test byte place) (far_tests ∷ []) own.named now own.rest_made in
    let far = turn-passed far_tests [] indirect.named now indirect.rest_made in
    number-is-data byte place i (nat_lt i NDIRECT) refl
    (λ is_own.
    let one =
    each-passed (min (blocks_needed byte place) NDIRECT) own_test named own.named own.made i
    (below_ten i (blocks_needed byte place) is_own within) in
    number-data byte place (direct_of byte place i) one.named one.now one.made)
    (λ is_far.
    let one =
    each-passed (blocks_needed byte place - NDIRECT) far_test indirect.named far.named far.made (i - NDIRECT)
    (past_ten i (blocks_needed byte place) is_far within) in
    number-data byte place (number_in_indirect byte place (i - NDIRECT)) one.named one.now one.made)

-- a directory of a good size has whole blocks
whole-if : (directory : Bool) (size : ℕ) → (not directory || (size % 4096 == 0)) ≡ true → directory ≡ true → size % 4096 ≡ 0
whole-if true size good is = grind (arith, nat_tests)
whole-if false size good is = absurd (cc)

-- what the test of two numbers says
le-if : (a b : ℕ) → nat_le a b ≡ true → a ≤ b
le-if a b e = grind (arith, nat_tests)

-- a record that passed can be read
record-readable : (byte : ℕ → ℕ) (place : ℕ) (named now : Blocks) → in_turn (record_tests byte place) named ≡ Ok now →
    IsReadable byte place
unfolding record_tests
record-readable byte place named now e =
    let numbers : Test = in_turn (numbers_tests byte place) in
    let strays : Test = in_turn (stray_tests byte place) in
    let size =
    demand-turn (is_good_size (kind_at byte place) (size_of byte place)) (DirSize place)
    (demand (nat_le (size_of byte place) MAXFILESIZE) (TooLong place) ∷ numbers ∷ strays ∷ []) named now e in
    let short =
    demand-turn (nat_le (size_of byte place) MAXFILESIZE) (TooLong place) (numbers ∷ strays ∷ []) named now size.1 in
    let parts = turn-passed numbers (strays ∷ []) named now short.1 in
    record {
      whole = whole-if (is_directory_at byte place) (size_of byte place) size.0;
      short = le-if (size_of byte place) MAXFILESIZE short.0;
      within = numbers-data byte place named parts.named parts.made;
    }

-- ---- a directory's record

-- the tests of the record itself, and of what stands below it
record SlotMade (onward : ℕ → Test) (byte : ℕ → ℕ) (place : ℕ) (named now : Blocks) : Type 0 where
  behind : Blocks
  own : in_turn (record_tests byte place) named ≡ Ok behind
  below : is_directory_at byte place ≡ true → onward place behind ≡ Ok now

-- a last test passed
last-after : (result : Result Blocks ImageFault) (now : Blocks) → then_tested result (in_turn []) ≡ Ok now → result ≡ Ok now
unfolding in_turn
last-after (Ok named) now e = e
last-after (Err fault) now e = e

last-passed : (test : Test) (named now : Blocks) → in_turn (test ∷ []) named ≡ Ok now → test named ≡ Ok now
unfolding in_turn
last-passed test named now e = last-after (test named) now e

-- what a slot passed
slot-passed : (onward : ℕ → Test) (byte : ℕ → ℕ) (directory i : ℕ) (named now : Blocks) →
    in_turn (slot_tests onward byte directory i) named ≡ Ok now → SlotMade onward byte (slot_place byte directory i) named now
unfolding slot_tests
slot-passed onward byte directory i named now e =
    let place : ℕ = slot_place byte directory i in
    let below : Test = only_where (is_directory_at byte place) (onward place) in
    let apart : Test = demand (not (has_taken_name byte directory i)) (SameName place) in
    let own : Test = in_turn (record_tests byte place) in
    let name : Test = demand (is_good_name (name_of byte place)) (BadName place) in
    let kind =
    demand-turn (is_good_kind (kind_at byte place)) (Kind place) (name ∷ own ∷ apart ∷ below ∷ []) named now e in
    let named_well =
    demand-turn (is_good_name (name_of byte place)) (BadName place) (own ∷ apart ∷ below ∷ []) named now kind.1 in
    let parts = turn-passed own (apart ∷ below ∷ []) named now named_well.1 in
    let alone =
    demand-turn (not (has_taken_name byte directory i)) (SameName place) (below ∷ []) parts.named now parts.rest_made in
    record {
      behind = parts.named;
      own = parts.made;
      below = λ is.
          where-passed (is_directory_at byte place) (onward place) parts.named now is
          (last-passed below parts.named now alone.1);
    }

-- what holds where no fault was told holds of a success
meets-ok : (holds : Blocks → Type 0) (result : Result Blocks ImageFault) (now : Blocks) → result ≡ Ok now →
    Meets holds result → holds now
meets-ok holds result now e met = subst (Meets holds) e met

not-false : (b : Bool) → b ≡ false → not b ≡ true
not-false b e = rw e refl

-- where something implies what is not, there is none
none-if : (n left : ℕ) → (0 < n → left < 0) → n ≡ 0
none-if zero left h = refl
none-if (suc n) left h = let impossible = h (omega arith) in absurd (omega arith)

-- ---- the walk

-- a directory that passed can be read with all that stands below it
contents-readable : (byte : ℕ → ℕ) (depth place : ℕ) (named now : Blocks) → IsReadable byte place →
    Suffices byte place depth named → (is_directory_at byte place ≡ true → contents_test depth byte place named ≡ Ok now) →
    AreReadable depth byte place
unfolding AreReadable contents_test
contents-readable byte zero place named now readable suffices made =
    (readable, λ is. none-if (slot_count byte place) (unnamed byte named) suffices)
contents-readable byte (suc depth) place named now readable suffices made = (
  readable,
  λ is i within filled.
      let test : ℕ → Test = slot_test (contents_test depth byte) byte place in
      let below : ℕ = slot_place byte place i in
      let one = each-passed (slot_count byte place) test named now (made is) i within in
      let some : 0 < slot_count byte place = omega arith in
      let kept =
      (keeps-each byte i test
      (λ k. keeps-where _ (keeps-slot_tests byte place k (contents_test depth byte) (keeps-contents byte depth)))).keeps
      (suc depth) named (suffices some) in
      let few =
      meets-ok (λ behind. unnamed byte behind < suc depth) (for_each_below i test named) one.named one.before_it kept in
      let slot =
      slot-passed (contents_test depth byte) byte place i one.named one.now
      (where-passed (not (is_empty_record byte below)) (in_turn (slot_tests (contents_test depth byte) byte place i)) one.named
      one.now (not-false (is_empty_record byte below) filled) one.made) in
      let enough =
      meets-ok (Suffices byte below depth) (in_turn (record_tests byte below) one.named) slot.behind slot.own
      (record-suffices byte below depth one.named (le-suc (unnamed byte one.named) depth few)) in
      contents-readable byte depth below slot.behind one.now (record-readable byte below one.named slot.behind slot.own) enough
      slot.below,
)
  where
    le-suc : (a b : ℕ) → a < suc b → a ≤ b
    le-suc a b h = omega arith

-- ---- the image

-- without a fault the tests passed
none-ok : (result : Result Blocks ImageFault) → result_err result ≡ None → (now : Blocks) × (result ≡ Ok now)
none-ok (Ok now) e = (now, refl)
none-ok (Err fault) e = absurd (cc)

-- the law
pub disks-sound : DisksAreSound
unfolding image_fault image_tests super_tests tree_tests
disks-sound total byte e =
    let passed = none-ok (in_turn (image_tests total byte) none_named) e in
    let tree : List Test = tree_tests byte in
    let long : Bool = nat_le (3 * BLKSIZE) total && nat_le (BLKSIZE * block_count byte) total in
    let magic : Test = demand (magic_of byte == FS_MAGIC) Magic in
    let count : Test = demand (is_good_count (block_count byte)) BlockCount in
    let root : Test = demand (is_directory_at byte root_place) RootKind in
    let t1 = demand-turn long TooShort (magic ∷ count ∷ root ∷ tree) none_named passed.0 passed.1 in
    let t2 = demand-turn (magic_of byte == FS_MAGIC) Magic (count ∷ root ∷ tree) none_named passed.0 t1.1 in
    let t3 = demand-turn (is_good_count (block_count byte)) BlockCount (root ∷ tree) none_named passed.0 t2.1 in
    let t4 = demand-turn (is_directory_at byte root_place) RootKind tree none_named passed.0 t3.1 in
    let contents : Test = contents_test (block_count byte) byte root_place in
    let first : Test = first_blocks_test byte in
    let own = turn-passed (in_turn (record_tests byte root_place)) (contents ∷ first ∷ []) none_named passed.0 t4.1 in
    let below = turn-passed contents (first ∷ []) own.named passed.0 own.rest_made in
    record {
      root = t4.0;
      records =
          contents-readable byte (block_count byte) root_place own.named below.named
          (record-readable byte root_place none_named own.named own.made)
          (meets-ok (Suffices byte root_place (block_count byte)) (in_turn (record_tests byte root_place) none_named) own.named
          own.made (record-suffices byte root_place (block_count byte) none_named (unnamed-none byte)))
          (λ is. below.made);
      blocks =
          le-if (BLKSIZE * block_count byte) total
          (and_parts (nat_le (3 * BLKSIZE) total) (nat_le (BLKSIZE * block_count byte) total) t1.0).1;
    }

-- ---- the tree

-- no values give no list
none-below : {A : Type 0} (n : ℕ) (f : ℕ → A) → n ≡ 0 → values_below n f ≡ []
unfolding values_below
none-below zero f none = refl
none-below (suc n) f none = absurd (omega arith)

-- what a record names, by the records that stand below it
node-same : (byte : ℕ → ℕ) (place : ℕ) (ones others : ℕ → Records) (directory : Bool) → is_directory_at byte place ≡ directory →
    (is_directory_at byte place ≡ true → ones place ≡ others place) → node_of ones byte place ≡ node_of others byte place
node-same byte place ones others true is same = rw is (ap (λ r. a_directory r (has_indirect byte place)) (same is))
node-same byte place ones others false is same = rw is refl

-- the same of a record that may be empty
named-same : (byte : ℕ → ℕ) (place : ℕ) (ones others : ℕ → Records) (empty : Bool) → is_empty_record byte place ≡ empty →
    (is_empty_record byte place ≡ false → is_directory_at byte place ≡ true → ones place ≡ others place) →
    named_of ones byte place ≡ named_of others byte place
named-same byte place ones others true is same = rw is refl
named-same byte place ones others false is same =
    rw is
    (ap (λ n. Some (record { name = name_of byte place; node = n }))
    (node-same byte place ones others (is_directory_at byte place) refl (same is)))

-- no list gives no records
no-records : records_from [] ≡ no_more
unfolding records_from
no-records = refl

-- a greater bound gives the same records
records-same : (byte : ℕ → ℕ) (depth more place : ℕ) → depth ≤ more → AreReadable depth byte place →
    is_directory_at byte place ≡ true → records_at more byte place ≡ records_at depth byte place
unfolding records_at AreReadable
records-same byte zero zero place le readable is = refl
records-same byte zero (suc more) place le readable is =
    ap records_from
    (none-below (slot_count byte place) (λ i. named_of (records_at more byte) byte (slot_place byte place i)) (readable.1 is))
    ∙ no-records
records-same byte (suc depth) zero place le readable is = absurd (omega arith)
records-same byte (suc depth) (suc more) place le readable is =
    ap records_from
    (values-same (slot_count byte place) (λ i. named_of (records_at more byte) byte (slot_place byte place i))
    (λ i. named_of (records_at depth byte) byte (slot_place byte place i))
    (λ i within.
    let below : ℕ = slot_place byte place i in
    named-same byte below (records_at more byte) (records_at depth byte) (is_empty_record byte below) refl
    (λ filled is_one. records-same byte depth more below (omega arith) (readable.1 is i within filled) is_one)))

-- so does one above the number of blocks
pub tree-depth : TreeDepthSuffices
tree-depth total byte e depth le =
    let sound = disks-sound total byte e in
    records-same byte (block_count byte) depth root_place le sound.records sound.root
