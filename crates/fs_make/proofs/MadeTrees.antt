-- The images that are made have the files of which they were made, and every block in use is named.
use Rattle.std.proofs.Common.{◌≡◌, ◌∙◌, ◌-◌, ◌/◌, ◌<◌, ◌≤◌, ◌==◌, ◌&&◌, inl, inr, ℕ, zero, suc, true}
use Rattle.std.proofs.Common.{false, List, [], ◌∷◌, ◌++◌, map, get_or, not, length, length-append, Option, None, Result, Bool, refl, sym, ap, arith}
use Rattle.std.specs.Prelude.{nat_lt, nat_le, replicate, slice_index}
use Rattle.std.specs.Result.{result_unwrap_or}
use Rattle.std.proofs.lemmas.Bool.{cases_lt, eq-eqb}
use Rattle.std.proofs.lemmas.Bool.Decides.{nat_tests}
use Rattle.std.proofs.lemmas.List.{get_or_append_left, get_or-append_right, get_or-replicate, length-replicate, length-map}
use Rattle.jos_host.specs.MemHost.{Named}
use Rattle.fs_layout.specs.declared.numbers.TheConstants.{RECORDSIZE, NDIRECT, FTYPE_REG, FTYPE_DIR}
use Rattle.fs_layout.specs.FileTree.{a_directory, Records, records_from, needs_indirect}
use Rattle.fs_layout.specs.FileTree.{NamedNode}
use Rattle.fs_layout.specs.DiskImage.{block_count, is_marked_free, root_place, size_of, kind_at, has_indirect}
use Rattle.fs_layout.specs.DiskImage.{name_of, blocks_needed, is_empty_record, is_directory_at, is_data_block, slot_count, slot_place}
use Rattle.fs_layout.specs.DiskImage.{first_data_block, ImageFault, Blocks, none_named}
use Rattle.fs_layout.specs.DiskFiles.{file_bytes, named_of, records_at, root_of, named_blocks, is_unnamed}
use Rattle.fs_layout.specs.DiskFiles.{unnamed_blocks, file_system_of}
use Rattle.fs_make.specs.MakeFaults.{root_size, blocks_used, make_fault}
use Rattle.fs_make.specs.MadeImage.{made_image, file_record, made_files}
use Rattle.fs_make.proofs.Standing.{values_below-is}
use Rattle.fs_make.proofs.Walks.{between, between-is, LaidFrom}
use Rattle.fs_make.proofs.Faultless.{faultless}
use Rattle.fs_make.proofs.MadeImages.{made-says}
use Rattle.fs_make.proofs.MadeRecords.{file_at, slots-enough, Faultless, Says}
use Rattle.fs_make.proofs.MadeDisks.{tree-named}
use Rattle.jos_base.proofs.Sums.{total-none}
use Rattle.jos_base.specs.Environments.{bit_of}

-- ---- the tree

-- a record has an indirect block where its size needs one
indirect-needed : (byte : ℕ → ℕ) (place from : ℕ) → LaidFrom byte place from → has_indirect byte place ≡ needs_indirect (size_of byte place)
indirect-needed byte place from laid = elim (cases_lt NDIRECT (blocks_needed byte place)) [
  | inr few ↦ let none = laid.no_indirect few in grind (arith, nat_tests)
  | inl many ↦ let some = laid.indirect many in grind (arith, nat_tests)
]

-- what a record of a file names
a_file-named : (records : ℕ → Records) (byte : ℕ → ℕ) (place : ℕ) (file : Named) → is_empty_record byte place ≡ false →
    is_directory_at byte place ≡ false → name_of byte place ≡ file.name → file_bytes byte place ≡ file.bytes →
    has_indirect byte place ≡ needs_indirect (length file.bytes) → named_of records byte place ≡ file_record file
a_file-named records byte place file some plain name bytes indirect =
    rw (some, plain, name, bytes, indirect) refl

-- an empty record
nothing-named : (records : ℕ → Records) (byte : ℕ → ℕ) (place : ℕ) → is_empty_record byte place ≡ true → named_of records byte place ≡ None
nothing-named records byte place empty = rw empty refl

get_or-named_files : (files : List Named) (i : ℕ) → i < length files → get_or (map file_record files) i None ≡ file_record (file_at files i)
unfolding file_at
get_or-named_files [] i within = absurd (omega arith)
get_or-named_files (file ∷ files) zero within = refl
get_or-named_files (file ∷ files) (suc i) within = get_or-named_files files i (omega arith)

-- the records of the root directory, in their order
entries_of : List Named → ℕ → List (Option NamedNode)
entries_of files n = map file_record files ++ replicate (n - length files) None

-- how many they are, and which stands at a place
length-entries_of : (files : List Named) (n : ℕ) → length files ≤ n → length (entries_of files n) ≡ n
unfolding entries_of
length-entries_of files n enough =
    let both = length-append (map file_record files) (replicate (n - length files) None) in
    let first = length-map files file_record in
    let rest = length-replicate {A = Option NamedNode} (n - length files) None in
    omega arith

entry-here : (files : List Named) (n i : ℕ) → i < length files → get_or (entries_of files n) i None ≡ file_record (file_at files i)
unfolding entries_of
entry-here files n i within =
    get_or_append_left (map file_record files) (replicate (n - length files) None) None i (omega (arith, length-map files file_record))
    ∙ get_or-named_files files i within

entry-past : (files : List Named) (n i : ℕ) → length files ≤ i → i < n → get_or (entries_of files n) i None ≡ None
unfolding entries_of
entry-past files n i past within =
    get_or-append_right (map file_record files) (replicate (n - length files) None) (length files) i None (length-map files file_record) past
    ∙ get_or-replicate (n - length files) (i - length files) None None (omega arith)

-- and what the image has there
slot-is : (byte : ℕ → ℕ) (blocks : ℕ) (files : List Named) (records : ℕ → Records) (i : ℕ) → Says byte blocks files → i < slot_count byte root_place →
    named_of records byte (slot_place byte root_place i) ≡ get_or (entries_of files (slot_count byte root_place)) i None
slot-is byte blocks files records i says within = elim (cases_lt i (length files)) [
  | inl lt ↦
      let file = says.file i lt in
      a_file-named records byte (slot_place byte root_place i) (file_at files i) file.some
      (no_directory (kind_at byte (slot_place byte root_place i)) file.kind) file.name file.bytes
      (indirect-needed byte (slot_place byte root_place i) _ file.laid ∙ ap needs_indirect file.size)
      ∙ sym (entry-here files (slot_count byte root_place) i lt)
  | inr past ↦
      nothing-named records byte (slot_place byte root_place i) (says.empty i past within)
      ∙ sym (entry-past files (slot_count byte root_place) i past within)
]
  where
    no_directory : (kind : ℕ) → kind ≡ FTYPE_REG → (kind == FTYPE_DIR) ≡ false
    no_directory kind e = grind (arith, nat_tests)

-- so those are its records
records-are : (byte : ℕ → ℕ) (blocks : ℕ) (files : List Named) (depth : ℕ) → Says byte blocks files → length files ≤ slot_count byte root_place → 0 < depth →
    records_at depth byte root_place ≡ records_from (entries_of files (slot_count byte root_place))
unfolding records_at
records-are byte blocks files zero says enough some = absurd (omega arith)
records-are byte blocks files (suc depth) says enough some =
    ap records_from
    (values_below-is (slot_count byte root_place) _ (entries_of files (slot_count byte root_place)) None
    (length-entries_of files (slot_count byte root_place) enough)
    (λ i lt. slot-is byte blocks files (records_at depth byte) i says lt))

-- and this is its root
root-is : (byte : ℕ → ℕ) (blocks : ℕ) (files : List Named) (records : Records) → Says byte blocks files →
    records_at (block_count byte) byte root_place ≡ records →
    root_of byte ≡ a_directory records (needs_indirect (root_size (length files)))
root-is byte blocks files records says are =
    let directory : is_directory_at byte root_place ≡ true = eq-eqb (kind_at byte root_place) FTYPE_DIR says.root.kind in
    let indirect : has_indirect byte root_place ≡ needs_indirect (root_size (length files)) =
    indirect-needed byte root_place _ says.root.laid ∙ ap needs_indirect says.root.size in
    rw (directory, are, indirect) refl

-- ---- the blocks that nothing names

-- those that are named
blocks-named : (byte : ℕ → ℕ) (blocks : ℕ) (files : List Named) → Faultless blocks files → Says byte blocks files →
    named_blocks byte ≡ between (first_data_block blocks) (blocks_used blocks files)
unfolding named_blocks
blocks-named byte blocks files good says =
    ap (λ (r : Result Blocks ImageFault). result_unwrap_or r none_named) (tree-named byte blocks files good says)

-- a block in use is one of them
all-named : (byte : ℕ → ℕ) (blocks : ℕ) (files : List Named) (b : ℕ) → Faultless blocks files → Says byte blocks files → b < blocks →
    is_unnamed byte b ≡ false
all-named byte blocks files b good says within =
    let named : named_blocks byte b ≡ (nat_le (first_data_block blocks) b && nat_lt b (blocks_used blocks files)) =
    (λ k. blocks-named byte blocks files good says k b) ∙ between-is (first_data_block blocks) (blocks_used blocks files) b in
    let count : block_count byte ≡ blocks = says.root.count in
    elim (cases_lt b (blocks_used blocks files)) [
      | inl used ↦ in_use (block_count byte) (is_marked_free byte b) (named_blocks byte b) (blocks_used blocks files) count named used
      | inr past ↦
          let free = says.root.free b past within in
          is_free (is_data_block (block_count byte) b) (is_marked_free byte b) (named_blocks byte b) free
    ]
  where
    in_use : (n : ℕ) (marked named : Bool) (used : ℕ) → n ≡ blocks → named ≡ (nat_le (first_data_block blocks) b && nat_lt b used) → b < used →
        (is_data_block n b && not marked && not named) ≡ false
    in_use n marked named used count is lt = grind (arith, nat_tests)

    is_free : (is_data marked named : Bool) → marked ≡ true → (is_data && not marked && not named) ≡ false
    is_free true marked named e = grind arith
    is_free false marked named e = refl

-- so there is none beside them
none-unnamed : (byte : ℕ → ℕ) (blocks : ℕ) (files : List Named) → Faultless blocks files → Says byte blocks files → unnamed_blocks byte ≡ 0
unfolding unnamed_blocks
none-unnamed byte blocks files good says =
    total-none (block_count byte) _ (λ b lt. ap bit_of (all-named byte blocks files b good says (within b (block_count byte) says.root.count lt)))
  where
    within : (b n : ℕ) → n ≡ blocks → b < n → b < blocks
    within b n e lt = omega arith

-- ---- the files

-- bytes that say what an image of files without a fault says
pub says-files : (byte : ℕ → ℕ) (blocks : ℕ) (files : List Named) → Faultless blocks files → Says byte blocks files →
    file_system_of byte ≡ made_files blocks files
unfolding file_system_of made_files entries_of
says-files byte blocks files good says =
    let least = good.at_least in
    let count : block_count byte ≡ blocks = says.root.count in
    let slots : slot_count byte root_place ≡ root_size (length files) / RECORDSIZE = ap (λ (n : ℕ). n / RECORDSIZE) says.root.size in
    let enough : length files ≤ root_size (length files) / RECORDSIZE = slots-enough (length files) in
    let root = root-is byte blocks files _ says
    (records-are byte blocks files (block_count byte) says (omega arith) (omega arith)
    ∙ ap (λ (n : ℕ). records_from (entries_of files n)) slots) in
    let none = none-unnamed byte blocks files good says in
    λ k. record { root = root k; blocks = count k; unnamed = none k }

-- Each image that is made has the files of which it is made.
pub made_has_files : (blocks : ℕ) (files : List Named) → make_fault blocks files ≡ None →
    file_system_of (slice_index (made_image blocks files)) ≡ made_files blocks files
made_has_files blocks files none =
    let good = faultless blocks files none in
    says-files (slice_index (made_image blocks files)) blocks files good (made-says blocks files good)
