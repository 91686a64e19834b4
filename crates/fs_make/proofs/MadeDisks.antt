-- The images that are made are disks: no test fails, and the blocks that records name are those from the first data block
-- on and before the first that is free.
use Rattle.std.proofs.Common.{◌≡◌, ◌∙◌, ◌+◌, ◌*◌, ◌%◌, ◌<◌, ◌≤◌, ◌==◌, ◌&&◌, inl, inr, ℕ, zero, suc, true}
use Rattle.std.proofs.Common.{false, List, not, length, Result, Ok, None, refl, sym, ap, arith}
use Rattle.std.specs.Prelude.{nat_le, bytes_eq, slice_index}
use Rattle.std.specs.Result.{result_err}
use Rattle.std.proofs.lemmas.Bool.{or_right, cases_lt, eq-eqb}
use Rattle.std.proofs.lemmas.Bool.Decides.{nat_tests}
use Rattle.jos_host.specs.MemHost.{Named}
use Rattle.fs_layout.specs.declared.numbers.TheConstants.{BLKSIZE, FTYPE_REG, FTYPE_DIR, FS_MAGIC}
use Rattle.fs_layout.specs.DiskImage.{ImageFault, Blocks, none_named, Test, then_tested, in_turn, for_each_below}
use Rattle.fs_layout.specs.DiskImage.{block_count, magic_of, root_place, size_of, kind_at}
use Rattle.fs_layout.specs.DiskImage.{is_empty_record, is_directory_at, is_data_block, is_good_kind, is_good_name, is_good_size}
use Rattle.fs_layout.specs.DiskImage.{slot_count, slot_place, first_data_block, has_taken_name, slot_tests}
use Rattle.fs_layout.specs.DiskImage.{slot_test, contents_test, is_good_count, super_tests, first_blocks_test, tree_tests}
use Rattle.fs_layout.specs.DiskImage.{image_tests, image_fault}
use Rattle.fs_layout.specs.DiskFiles.{IsDiskImage}
use Rattle.fs_make.specs.MakeFaults.{root_size, span_of, spans_of, blocks_used, make_fault}
use Rattle.fs_make.specs.MadeImage.{first_file_block, made_image}
use Rattle.fs_make.proofs.Walks.{turn, no_turn, between, between-none}
use Rattle.fs_make.proofs.Walks.{each-names, Used, span_at, record-named}
use Rattle.fs_make.proofs.FileNames.{file-name, name-good}
use Rattle.fs_make.proofs.Faultless.{faultless}
use Rattle.fs_make.proofs.MadeImages.{length-made, made-says}
use Rattle.fs_make.proofs.MadeRecords.{file_at, starts_at, starts-first, starts-next, starts-past, starts-behind, starts-within}
use Rattle.fs_make.proofs.MadeRecords.{slots-enough, Faultless, SaysRoot, Says}
use Rattle.fs_layout.proofs.OneTest.{demand_passes, where_not, where_so}
use Rattle.jos_base.proofs.Below.{some_below-none}

-- ---- the blocks in use

-- those of the files, and of the root and before it
blocks-used : (byte : ℕ → ℕ) (blocks : ℕ) (files : List Named) → Faultless blocks files → SaysRoot byte blocks files →
    Used byte (first_data_block blocks) (blocks_used blocks files)
blocks-used byte blocks files good says = record {
  first_data = λ b from to.
      let room : blocks_used blocks files ≤ blocks = good.room in
      let count : block_count byte ≡ blocks = says.count in
      ap (λ (n : ℕ). is_data_block n b) count ∙ data_block b from (omega arith);
  marked = says.in_use;
  some = omega arith;
}
  where
    data_block : (b : ℕ) → first_data_block blocks ≤ b → b < blocks → is_data_block blocks b ≡ true
    data_block b from to = grind (arith, nat_tests)

-- ---- names

-- no earlier record has a file's name
name-free : (byte : ℕ → ℕ) (blocks : ℕ) (files : List Named) → Faultless blocks files → Says byte blocks files → (i : ℕ) → i < length files →
    has_taken_name byte root_place i ≡ false
unfolding has_taken_name
name-free byte blocks files good says i within = some_below-none _ i (λ j before.
    (λ k. bytes_eq ((says.file j (omega arith)).name k) ((says.file i within).name k)) ∙ good.apart i j before within)

-- ---- the records of the directory

-- the record of a file: its blocks are named
file-named : (byte : ℕ → ℕ) (blocks : ℕ) (files : List Named) (onward : ℕ → Test) (i : ℕ) → Faultless blocks files → Says byte blocks files → i < length files →
    in_turn (slot_tests onward byte root_place i) (between (first_data_block blocks) (starts_at (first_file_block blocks files) files i))
    ≡ Ok (between (first_data_block blocks) (starts_at (first_file_block blocks files) files (suc i)))
unfolding slot_tests blocks_used
file-named byte blocks files onward i good says within =
    let place : ℕ = slot_place byte root_place i in
    let first : ℕ = first_data_block blocks in
    let one : ℕ = first_file_block blocks files in
    let file = says.file i within in
    let from : ℕ = starts_at one files i in
    let to : ℕ = starts_at one files (suc i) in
    let old : Blocks = between first from in
    let new : Blocks = between first to in
    let behind : one ≤ from = starts-behind one files i in
    let among : from + span_of (length (file_at files i).bytes) ≤ one + spans_of files = starts-within one files i within in
    let next : to ≡ from + span_of (length (file_at files i).bytes) = starts-next one files i within in
    let span : span_at byte place ≡ span_of (length (file_at files i).bytes) = ap span_of file.size in
    turn _ _ old old (Ok new) (demand_passes _ _ old (good_kind (kind_at byte place) file.kind))
    (turn _ _ old old (Ok new)
    (demand_passes _ _ old (ap is_good_name file.name ∙ name-good (file_at files i).name (file-name (file_at files i).name (good.named i within))))
    (turn _ _ old new (Ok new)
    (record-named byte place first (blocks_used blocks files) from (blocks-used byte blocks files good says.root) (omega arith) file.laid (omega arith)
    (good_size (kind_at byte place) (size_of byte place) file.kind)
    ∙ ap (λ (b : ℕ). Ok (between first b)) (omega arith))
    (turn _ _ new new (Ok new) (demand_passes _ _ new (ap not (name-free byte blocks files good says i within)))
    (turn _ _ new new (Ok new) (where_not (is_directory_at byte place) (onward place) new (no_directory (kind_at byte place) file.kind))
    (no_turn new)))))
  where
    good_kind : (kind : ℕ) → kind ≡ FTYPE_REG → is_good_kind kind ≡ true
    good_kind kind e = grind (arith, nat_tests)

    good_size : (kind size : ℕ) → kind ≡ FTYPE_REG → is_good_size kind size ≡ true
    good_size kind size e = grind (arith, nat_tests)

    no_directory : (kind : ℕ) → kind ≡ FTYPE_REG → (kind == FTYPE_DIR) ≡ false
    no_directory kind e = grind (arith, nat_tests)

-- any record: one that is empty names nothing
slot-named : (byte : ℕ → ℕ) (blocks : ℕ) (files : List Named) (onward : ℕ → Test) (i : ℕ) → Faultless blocks files → Says byte blocks files → i < slot_count byte root_place →
    slot_test onward byte root_place i (between (first_data_block blocks) (starts_at (first_file_block blocks files) files i))
    ≡ Ok (between (first_data_block blocks) (starts_at (first_file_block blocks files) files (suc i)))
slot-named byte blocks files onward i good says within = elim (cases_lt i (length files)) [
  | inl lt ↦
      where_so (not (is_empty_record byte (slot_place byte root_place i))) (in_turn (slot_tests onward byte root_place i)) _
      (ap not (says.file i lt).some)
      ∙ file-named byte blocks files onward i good says lt
  | inr past ↦
      where_not (not (is_empty_record byte (slot_place byte root_place i))) (in_turn (slot_tests onward byte root_place i)) _
      (ap not (says.empty i past within))
      ∙ ap (λ (b : ℕ). Ok (between (first_data_block blocks) b))
      (starts-past (first_file_block blocks files) files i past ∙ sym (starts-past (first_file_block blocks files) files (suc i) (omega arith)))
]

-- all of them
contents-named : (byte : ℕ → ℕ) (blocks : ℕ) (files : List Named) (depth : ℕ) → Faultless blocks files → Says byte blocks files → 0 < depth →
    contents_test depth byte root_place (between (first_data_block blocks) (first_file_block blocks files))
    ≡ Ok (between (first_data_block blocks) (blocks_used blocks files))
unfolding contents_test blocks_used
contents-named byte blocks files zero good says some = absurd (omega arith)
contents-named byte blocks files (suc depth) good says some =
    let first : ℕ = first_data_block blocks in
    let one : ℕ = first_file_block blocks files in
    ap (λ (b : ℕ). for_each_below (slot_count byte root_place) (slot_test (contents_test depth byte) byte root_place) (between first b)) (sym (starts-first one files))
    ∙ each-names (slot_count byte root_place) (slot_test (contents_test depth byte) byte root_place) first (starts_at one files)
    (λ i lt. slot-named byte blocks files (contents_test depth byte) i good says lt)
    ∙ ap (λ (b : ℕ). Ok (between first b)) (starts-past one files (slot_count byte root_place) enough ∙ all)
  where
    enough : length files ≤ slot_count byte root_place
    enough = let size = says.root.size in let many = slots-enough (length files) in omega arith

    all : first_file_block blocks files + spans_of files ≡ blocks_used blocks files
    all = refl

-- ---- the image

-- a test of each number that names nothing
each-passed : (n : ℕ) (test : ℕ → Test) (named : Blocks) → ((i : ℕ) → i < n → test i named ≡ Ok named) → for_each_below n test named ≡ Ok named
unfolding for_each_below
each-passed zero test named passed = refl
each-passed (suc n) test named passed =
    ap (λ (r : Result Blocks ImageFault). then_tested r (test n)) (each-passed n test named (λ i lt. passed i (omega arith)))
    ∙ passed n (omega arith)

-- the blocks before the data blocks
first_blocks-passed : (byte : ℕ → ℕ) (blocks : ℕ) (files : List Named) (named : Blocks) → SaysRoot byte blocks files →
    first_blocks_test byte named ≡ Ok named
unfolding first_blocks_test blocks_used
first_blocks-passed byte blocks files named says =
    let count : block_count byte ≡ blocks = says.count in
    each-passed (first_data_block (block_count byte)) _ named (λ b lt.
    demand_passes _ _ named (ap not (says.in_use b (before b (block_count byte) count lt))))
  where
    before : (b n : ℕ) → n ≡ blocks → b < first_data_block n → b < blocks_used blocks files
    before b n e lt = omega arith

-- the root has whole blocks
root-good_size : (kind size files : ℕ) → size ≡ root_size files → is_good_size kind size ≡ true
unfolding root_size
root-good_size kind size files e =
    let whole : size % BLKSIZE ≡ 0 = omega arith in
    let test : (size % BLKSIZE == 0) ≡ true = grind (arith, nat_tests) in
    or_right (not (kind == FTYPE_DIR)) (size % BLKSIZE == 0) test

-- The blocks that records name at the end are those of the interval.
pub tree-named : (byte : ℕ → ℕ) (blocks : ℕ) (files : List Named) → Faultless blocks files → Says byte blocks files →
    in_turn (tree_tests byte) none_named ≡ Ok (between (first_data_block blocks) (blocks_used blocks files))
unfolding tree_tests blocks_used
tree-named byte blocks files good says =
    let first : ℕ = first_data_block blocks in
    let one : ℕ = first_file_block blocks files in
    let none : Blocks = between first first in
    let root : Blocks = between first one in
    let all : Blocks = between first (blocks_used blocks files) in
    let size : size_of byte root_place ≡ root_size (length files) = says.root.size in
    let span : first + span_at byte root_place ≡ one = ap (λ (n : ℕ). first + span_of n) size in
    let count : block_count byte ≡ blocks = says.root.count in
    let least = good.at_least in
    ap (in_turn (tree_tests byte)) (between-none first)
    ∙ turn _ _ none root (Ok all)
    (record-named byte root_place first (blocks_used blocks files) first (blocks-used byte blocks files good says.root) (omega arith) says.root.laid (omega arith)
    (root-good_size (kind_at byte root_place) (size_of byte root_place) (length files) size)
    ∙ ap (λ (b : ℕ). Ok (between first b)) span)
    (turn _ _ root all (Ok all) (contents-named byte blocks files (block_count byte) good says (omega arith))
    (turn _ _ all all (Ok all) (first_blocks-passed byte blocks files all says.root) (no_turn all)))

-- bytes that say what an image of files without a fault says
pub says-disk : (total : ℕ) (byte : ℕ → ℕ) (blocks : ℕ) (files : List Named) → Faultless blocks files → Says byte blocks files →
    total ≡ BLKSIZE * blocks → IsDiskImage total byte
unfolding image_fault image_tests super_tests
says-disk total byte blocks files good says long =
    let least = good.at_least in
    let most = good.at_most in
    let count : block_count byte ≡ blocks = says.root.count in
    let all : Blocks = between (first_data_block blocks) (blocks_used blocks files) in
    ap result_err
    (turn _ _ none_named none_named (Ok all) (demand_passes _ _ none_named (long_enough (block_count byte) count least))
    (turn _ _ none_named none_named (Ok all) (demand_passes _ _ none_named (eq-eqb (magic_of byte) FS_MAGIC says.root.magic))
    (turn _ _ none_named none_named (Ok all) (demand_passes _ _ none_named (good_count (block_count byte) count least most))
    (turn _ _ none_named none_named (Ok all) (demand_passes _ _ none_named (eq-eqb (kind_at byte root_place) FTYPE_DIR says.root.kind))
    (tree-named byte blocks files good says)))))
  where
    long_enough : (n : ℕ) → n ≡ blocks → 4 ≤ blocks → (nat_le (3 * BLKSIZE) total && nat_le (BLKSIZE * n) total) ≡ true
    long_enough n e least = grind (arith, nat_tests)

    good_count : (n : ℕ) → n ≡ blocks → 4 ≤ blocks → blocks ≤ 16384 → is_good_count n ≡ true
    good_count n e least most = grind (arith, nat_tests)

-- Each image that is made is a disk.
pub made_is_disk : (blocks : ℕ) (files : List Named) → make_fault blocks files ≡ None →
    IsDiskImage (length (made_image blocks files)) (slice_index (made_image blocks files))
made_is_disk blocks files none =
    let good = faultless blocks files none in
    says-disk (length (made_image blocks files)) (slice_index (made_image blocks files)) blocks files good (made-says blocks files good) (length-made blocks files good)
