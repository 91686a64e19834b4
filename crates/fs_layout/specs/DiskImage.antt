-- Which bytes are a disk image: the fields of the super block, the bitmap and the records, and the tests that an image has
-- to pass, in the order in which they are made. The first that fails gives the fault. An image is seen as the number of its
-- bytes, `total`, and the byte at each place, `byte`; what stands behind the blocks that it counts is not looked at.
-- (MIT 6.828, lab 5: inc/fs.h, fs/bc.c, and check_super, check_bitmap and block_is_free of fs/fs.c. The other tests, their
-- order and the bounds on the number of blocks are this system's own, and so is that a file has no holes.)
use Rattle.std.specs.Prelude.{ℕ, zero, suc, ◌+◌, ◌-◌, ◌*◌, ◌/◌, ◌%◌, ◌==◌, ◌&&◌, ◌||◌, nat_lt, nat_le, min, not, Bool, true, false}
use Rattle.std.specs.Prelude.{List, [], ◌∷◌, ◌++◌, length, bytes_eq, Option, Result, Ok, Err, if◌then◌else◌}
use Rattle.std.specs.List.{before_first, list_any}
use Rattle.std.specs.Result.{result_err}
use Rattle.std.specs.Int.{bit_at}
use Rattle.jos_base.specs.Below.{values_below, some_below}
use Rattle.jos_base.specs.Words.{upd, word_at}
use Rattle.fs_layout.specs.declared.numbers.TheConstants.{BLKSIZE, RECORDSIZE, BLKFILES, MAXNAMELEN, MAXFILESIZE, NDIRECT, NINDIRECT}
use Rattle.fs_layout.specs.declared.numbers.TheConstants.{FTYPE_REG, FTYPE_DIR, FS_MAGIC, MINBLOCKS, MAXBLOCKS}
use Rattle.fs_layout.specs.FileTree.{blocks_of, needs_indirect, bitmap_blocks}
use Rattle.fs_layout.specs.FileActs.{is_slash}

-- ---- the super block and the bitmap

-- The super block is block 1: the magic word, the number of blocks, and the root's record.
abbrev pub magic_of : (ℕ → ℕ) → ℕ
magic_of byte = word_at byte BLKSIZE

abbrev pub block_count : (ℕ → ℕ) → ℕ
block_count byte = word_at byte (BLKSIZE + 4)

abbrev pub root_place : ℕ
root_place = BLKSIZE + 8

-- The bitmap begins at block 2. A block is free where its bit is 1; the lowest bit of a byte comes first.
abbrev pub is_marked_free : (ℕ → ℕ) → ℕ → Bool
is_marked_free byte block = bit_at (byte (2 * BLKSIZE + block / 8)) (block % 8) == 1

-- Of a disk of so many blocks the first that a record may name: the boot block, the super block and the bitmap come before.
abbrev pub first_data_block : ℕ → ℕ
first_data_block blocks = 2 + bitmap_blocks blocks

abbrev pub is_data_block : ℕ → ℕ → Bool
is_data_block blocks block = nat_le (first_data_block blocks) block && nat_lt block blocks

-- ---- records

-- A record stands at a place of the image, which is that of its first byte. It has a name, a size, a kind, ten block numbers
-- and the number of the indirect block, or 0.
abbrev pub size_of : (ℕ → ℕ) → ℕ → ℕ
size_of byte place = word_at byte (place + MAXNAMELEN)

abbrev pub kind_at : (ℕ → ℕ) → ℕ → ℕ
kind_at byte place = word_at byte (place + MAXNAMELEN + 4)

abbrev pub direct_of : (ℕ → ℕ) → ℕ → ℕ → ℕ
direct_of byte place i = word_at byte (place + MAXNAMELEN + 8 + 4 * i)

abbrev pub indirect_of : (ℕ → ℕ) → ℕ → ℕ
indirect_of byte place = word_at byte (place + MAXNAMELEN + 8 + 4 * NDIRECT)

-- the bytes of the name before its NUL; all of them where there is none
unfoldable pub name_of : (ℕ → ℕ) → ℕ → List ℕ
name_of byte place = before_first (λ b. b == 0) (values_below MAXNAMELEN (λ k. byte (place + k)))

-- a record whose name is empty names nothing
abbrev pub is_empty_record : (ℕ → ℕ) → ℕ → Bool
is_empty_record byte place = byte place == 0

abbrev pub is_directory_at : (ℕ → ℕ) → ℕ → Bool
is_directory_at byte place = kind_at byte place == FTYPE_DIR

abbrev pub has_indirect : (ℕ → ℕ) → ℕ → Bool
has_indirect byte place = not (indirect_of byte place == 0)

-- how many blocks its size takes
abbrev pub blocks_needed : (ℕ → ℕ) → ℕ → ℕ
blocks_needed byte place = blocks_of (size_of byte place)

-- the block number that stands at a place of its indirect block
abbrev pub number_in_indirect : (ℕ → ℕ) → ℕ → ℕ → ℕ
number_in_indirect byte place i = word_at byte (BLKSIZE * indirect_of byte place + 4 * i)

-- the number of one of its blocks, which are counted from 0
abbrev pub block_number_at : (ℕ → ℕ) → ℕ → ℕ → ℕ
block_number_at byte place i = if nat_lt i NDIRECT then direct_of byte place i else number_in_indirect byte place (i - NDIRECT)

-- how many records a directory holds, and where each of them stands
abbrev pub slot_count : (ℕ → ℕ) → ℕ → ℕ
slot_count byte place = size_of byte place / RECORDSIZE

abbrev pub slot_place : (ℕ → ℕ) → ℕ → ℕ → ℕ
slot_place byte place i = BLKSIZE * block_number_at byte place (i / BLKFILES) + RECORDSIZE * (i % BLKFILES)

-- ---- faults and tests

-- Why bytes are no disk image. A record is told by its place.
pub data ImageFault : Type 0 where
  -- there are under three blocks, or fewer bytes than the number of blocks says
  TooShort : ImageFault
  -- the magic word is another
  Magic : ImageFault
  -- the number of blocks is not one that a disk may have
  BlockCount : ImageFault
  -- the root is no directory
  RootKind : ImageFault
  -- the record's kind is neither a file's nor a directory's
  Kind : ℕ → ImageFault
  -- its name has no NUL, or a slash
  BadName : ℕ → ImageFault
  -- it is a directory whose size is not that of whole blocks
  DirSize : ℕ → ImageFault
  -- its size is past the greatest
  TooLong : ℕ → ImageFault
  -- it lacks a block within its size
  Hole : ℕ → ImageFault
  -- this block is named and is none that a record may name
  Range : ℕ → ImageFault
  -- this block was named before
  NamedTwice : ℕ → ImageFault
  -- this block is in use and marked free
  MarkedFree : ℕ → ImageFault
  -- the record names a block past its size
  Stray : ℕ → ImageFault
  -- a record that comes before it in its directory has its name
  SameName : ℕ → ImageFault

-- the blocks that were named so far
abbrev pub Blocks : Type 0
Blocks = ℕ → Bool

abbrev pub none_named : Blocks
none_named block = false

-- A test is made after others: it gets the blocks that were named so far, and adds those that it names, or gives the fault.
abbrev pub Test : Type 0
Test = Blocks → Result Blocks ImageFault

-- the fault where the condition doesn't hold
abbrev pub demand : Bool → ImageFault → Test
demand true fault named = Ok named
demand false fault named = Err fault

-- a test that is made only under a condition
abbrev pub only_where : Bool → Test → Test
only_where true test named = test named
only_where false test named = Ok named

-- a test after what the tests before it gave
abbrev pub then_tested : Result Blocks ImageFault → Test → Result Blocks ImageFault
then_tested (Ok named) test = test named
then_tested (Err fault) test = Err fault

-- tests one after another, up to the first fault
unfoldable pub in_turn : List Test → Test
in_turn [] named = Ok named
in_turn (test ∷ tests) named = then_tested (test named) (in_turn tests)

-- a test for each number below a count, in rising order, up to the first fault
unfoldable pub for_each_below : ℕ → (ℕ → Test) → Test
for_each_below zero test named = Ok named
for_each_below (suc n) test named = then_tested (for_each_below n test named) (test n)

-- ---- the blocks of a record

-- a block that is named: one that may be, that was not named before, and that is in use
unfoldable pub block_test : (ℕ → ℕ) → ℕ → Test
block_test byte block named =
    in_turn
    (demand (is_data_block (block_count byte) block) (Range block)
    ∷ demand (not (named block)) (NamedTwice block)
    ∷ demand (not (is_marked_free byte block)) (MarkedFree block)
    ∷ (λ before. Ok (upd before block true))
    ∷ [])
    named

-- a number that may not be 0, of the record at this place
unfoldable pub number_test : (ℕ → ℕ) → ℕ → ℕ → Test
number_test byte place number = in_turn (demand (not (number == 0)) (Hole place) ∷ block_test byte number ∷ [])

-- the indirect block: where the size needs none, it may be there all the same, and is then in use
unfoldable pub indirect_test : (ℕ → ℕ) → ℕ → Test
indirect_test byte place =
    only_where (needs_indirect (size_of byte place) || has_indirect byte place)
    (number_test byte place (indirect_of byte place))

-- the blocks within the size, in their order; the indirect block comes before those whose numbers stand in it
unfoldable pub numbers_tests : (ℕ → ℕ) → ℕ → List Test
numbers_tests byte place =
    for_each_below (min (blocks_needed byte place) NDIRECT) (λ i. number_test byte place (direct_of byte place i))
    ∷ indirect_test byte place
    ∷ for_each_below (blocks_needed byte place - NDIRECT) (λ i. number_test byte place (number_in_indirect byte place i))
    ∷ []

-- whether one of the record's own numbers that is past the size is not 0, and the same of those in its indirect block
unfoldable pub has_stray : (ℕ → ℕ) → ℕ → Bool
has_stray byte place =
    some_below NDIRECT (λ i. nat_le (blocks_needed byte place) i && not (direct_of byte place i == 0))

unfoldable pub has_stray_in_indirect : (ℕ → ℕ) → ℕ → Bool
has_stray_in_indirect byte place =
    some_below NINDIRECT
    (λ i. nat_le (blocks_needed byte place) (NDIRECT + i) && not (number_in_indirect byte place i == 0))

unfoldable pub stray_tests : (ℕ → ℕ) → ℕ → List Test
stray_tests byte place =
    demand (not (has_stray byte place)) (Stray place)
    ∷ only_where (has_indirect byte place) (λ named. demand (not (has_stray_in_indirect byte place)) (Stray place) named)
    ∷ []

-- ---- a record

abbrev pub is_good_kind : ℕ → Bool
is_good_kind kind = (kind == FTYPE_REG) || (kind == FTYPE_DIR)

-- By the bytes before the NUL, or all of them: there is a NUL, and no slash before it. What stands behind it doesn't count.
abbrev pub is_good_name : List ℕ → Bool
is_good_name name = nat_lt (length name) MAXNAMELEN && not (list_any is_slash name)

-- by the kind and the size: a directory has whole blocks
abbrev pub is_good_size : ℕ → ℕ → Bool
is_good_size kind size = not (kind == FTYPE_DIR) || (size % BLKSIZE == 0)

-- the tests that are the root's too
unfoldable pub record_tests : (ℕ → ℕ) → ℕ → List Test
record_tests byte place =
    demand (is_good_size (kind_at byte place) (size_of byte place)) (DirSize place)
    ∷ demand (nat_le (size_of byte place) MAXFILESIZE) (TooLong place)
    ∷ in_turn (numbers_tests byte place)
    ∷ in_turn (stray_tests byte place)
    ∷ []

-- whether a record of the directory has the name of one before it
unfoldable pub has_taken_name : (ℕ → ℕ) → ℕ → ℕ → Bool
has_taken_name byte directory i =
    some_below i
    (λ j. bytes_eq (name_of byte (slot_place byte directory j)) (name_of byte (slot_place byte directory i)))

-- The record with a number in a directory, and then, where it is a directory itself, what it holds: `onward` tests that.
unfoldable pub slot_tests : (ℕ → Test) → (ℕ → ℕ) → ℕ → ℕ → List Test
slot_tests onward byte directory i =
    let place = slot_place byte directory i in
    demand (is_good_kind (kind_at byte place)) (Kind place)
    ∷ demand (is_good_name (name_of byte place)) (BadName place)
    ∷ in_turn (record_tests byte place)
    ∷ demand (not (has_taken_name byte directory i)) (SameName place)
    ∷ only_where (is_directory_at byte place) (onward place)
    ∷ []

-- an empty record is passed over
abbrev pub slot_test : (ℕ → Test) → (ℕ → ℕ) → ℕ → ℕ → Test
slot_test onward byte directory i =
    only_where (not (is_empty_record byte (slot_place byte directory i)))
    (λ named. in_turn (slot_tests onward byte directory i) named)

-- ---- the image

-- The records of the directory at a place, each with all that stands below it before the next. The first number bounds how
-- deep directories stand in one another, and is the number of blocks at the root. It is never used up: a directory whose
-- records are reached has a data block, or Hole or Range was told before, and no other directory has that block, or NamedTwice
-- was told before. So of directories in one another there are fewer than blocks. (DiskLaws.antt has the law)
unfoldable pub contents_test : ℕ → (ℕ → ℕ) → ℕ → Test
contents_test zero byte directory named = Ok named
contents_test (suc depth) byte directory named =
    for_each_below (slot_count byte directory) (slot_test (contents_test depth byte) byte directory) named

-- how many blocks a disk may have
abbrev pub is_good_count : ℕ → Bool
is_good_count blocks = nat_le MINBLOCKS blocks && nat_le blocks MAXBLOCKS

-- the super block
unfoldable pub super_tests : ℕ → (ℕ → ℕ) → List Test
super_tests total byte =
    demand (nat_le (3 * BLKSIZE) total && nat_le (BLKSIZE * block_count byte) total) TooShort
    ∷ demand (magic_of byte == FS_MAGIC) Magic
    ∷ demand (is_good_count (block_count byte)) BlockCount
    ∷ demand (is_directory_at byte root_place) RootKind
    ∷ []

-- at the end the blocks that no record names and that are always in use
unfoldable pub first_blocks_test : (ℕ → ℕ) → Test
first_blocks_test byte =
    for_each_below (first_data_block (block_count byte))
    (λ block. demand (not (is_marked_free byte block)) (MarkedFree block))

-- the root, and then every record below it
unfoldable pub tree_tests : (ℕ → ℕ) → List Test
tree_tests byte =
    in_turn (record_tests byte root_place)
    ∷ contents_test (block_count byte) byte root_place
    ∷ first_blocks_test byte
    ∷ []

-- all of them
unfoldable pub image_tests : ℕ → (ℕ → ℕ) → List Test
image_tests total byte = super_tests total byte ++ tree_tests byte

-- the first fault, or none where the bytes are a disk image
unfoldable pub image_fault : ℕ → (ℕ → ℕ) → Option ImageFault
image_fault total byte = result_err (in_turn (image_tests total byte) none_named)
