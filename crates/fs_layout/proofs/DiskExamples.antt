-- Small disk images: the faults of some, and the files of others, computed.
use Rattle.std.specs.Prelude.{◌≡◌, ℕ, ◌+◌, ◌-◌, ◌*◌, ◌/◌, ◌%◌, ◌^◌, ◌==◌, nat_lt, List, [], ◌∷◌, codes, Option, Some, None, Ok, Err}
use Rattle.std.specs.Prelude.{replicate, true, false, refl, if◌then◌else◌}
use Rattle.jos_base.specs.Words.{upd}
use Rattle.jos_base.specs.Counting.{total}
use Rattle.fs_layout.specs.declared.numbers.TheConstants.{FS_MAGIC, MAXFILESIZE}
use Rattle.fs_layout.specs.FileTree.{Node, a_file, a_directory, NamedNode, records_from, FileSystem, blocks_free, tree_blocks, listed}
use Rattle.fs_layout.specs.DiskImage.{ImageFault, TooShort, Magic, BlockCount, RootKind, Kind, BadName, DirSize, TooLong}
use Rattle.fs_layout.specs.DiskImage.{Hole, Range, NamedTwice, MarkedFree, Stray, SameName}
use Rattle.fs_layout.specs.DiskImage.{super_tests, in_turn, none_named, image_fault, image_tests, tree_tests, contents_test}
use Rattle.fs_layout.specs.DiskImage.{slot_tests, record_tests, has_taken_name, stray_tests, has_stray, has_stray_in_indirect}
use Rattle.fs_layout.specs.DiskImage.{numbers_tests, indirect_test, first_blocks_test, number_test, block_test}
use Rattle.jos_base.specs.Below.{values_below, some_below}
use Rattle.fs_layout.specs.DiskImage.{for_each_below, name_of}
use Rattle.fs_layout.specs.DiskFiles.{file_system_of, unnamed_blocks, named_blocks, free_blocks, records_at, file_bytes}

-- ---- images, as the words that are not 0

-- the bytes with another word at a place, which is a multiple of four
abbrev put : ℕ → ℕ → (ℕ → ℕ) → ℕ → ℕ
put place word byte at = if at / 4 * 4 == place then word / 256 ^ (at % 4) % 256 else byte at

abbrev zeros : ℕ → ℕ
zeros at = 0

-- a record's size, its kind, and its first block number
abbrev with_size : ℕ → ℕ → (ℕ → ℕ) → ℕ → ℕ
with_size place size byte = put (place + 128) size byte

abbrev with_kind : ℕ → ℕ → (ℕ → ℕ) → ℕ → ℕ
with_kind place kind byte = put (place + 132) kind byte

abbrev with_block : ℕ → ℕ → (ℕ → ℕ) → ℕ → ℕ
with_block place block byte = put (place + 136) block byte

abbrev with_indirect : ℕ → ℕ → (ℕ → ℕ) → ℕ → ℕ
with_indirect place block byte = put (place + 176) block byte

-- the first words of the bitmap and of a name
abbrev with_bitmap : ℕ → (ℕ → ℕ) → ℕ → ℕ
with_bitmap word byte = put 8192 word byte

abbrev with_name : ℕ → ℕ → (ℕ → ℕ) → ℕ → ℕ
with_name place word byte = put place word byte

-- a super block with its first two words, and a root of no size and of this kind
abbrev super : ℕ → ℕ → ℕ → ℕ → ℕ
super magic blocks kind = put 4096 magic (put 4100 blocks (with_kind 4104 kind zeros))

-- Sixteen blocks. The root has block 3, where the first record is the file `a` with two bytes in block 4. The other blocks are
-- free.
abbrev disk : ℕ → ℕ
disk =
    put 4096 FS_MAGIC
    (put 4100 16
    (with_size 4104 4096
    (with_kind 4104 1
    (with_block 4104 3
    (with_bitmap 0xffffffe0
    (with_name 12288 0x61 (with_size 12288 2 (with_block 12288 4 (put 16384 0x6968 zeros)))))))))

-- the same with the file `b` in the second record, of no size
abbrev two_files : ℕ → ℕ
two_files = with_name 12544 0x62 disk

-- The same with a directory in the place of the first file. It has block 4, where the first record is the file `c` of no size.
abbrev nested : ℕ → ℕ
nested = with_kind 12288 1 (with_size 12288 4096 (with_name 16384 0x63 two_files))

-- ---- the super block

two_blocks : in_turn (super_tests 8192 zeros) none_named ≡ Err TooShort
unfolding super_tests in_turn
two_blocks = refl

-- A block that is counted is missing. That is told before the magic word.
too_short : in_turn (super_tests 12288 (super 0 4 0)) none_named ≡ Err TooShort
unfolding super_tests in_turn
too_short = refl

another_magic : in_turn (super_tests 16384 (super (FS_MAGIC + 1) 3 0)) none_named ≡ Err Magic
unfolding super_tests in_turn
another_magic = refl

three_blocks : in_turn (super_tests 16384 (super FS_MAGIC 3 0)) none_named ≡ Err BlockCount
unfolding super_tests in_turn
three_blocks = refl

too_many_blocks : in_turn (super_tests 67112960 (super FS_MAGIC 16385 1)) none_named ≡ Err BlockCount
unfolding super_tests in_turn
too_many_blocks = refl

root_is_a_file : in_turn (super_tests 16384 (super FS_MAGIC 4 0)) none_named ≡ Err RootKind
unfolding super_tests in_turn
root_is_a_file = refl

good_super_blocks : in_turn (super_tests 16384 (super FS_MAGIC 4 1)) none_named ≡ Ok none_named
unfolding super_tests in_turn
good_super_blocks = refl

most_blocks : in_turn (super_tests 67108864 (super FS_MAGIC 16384 1)) none_named ≡ Ok none_named
unfolding super_tests in_turn
most_blocks = refl

-- ---- the records

-- what is told of sixteen blocks
fault : (ℕ → ℕ) → Option ImageFault
unfolding image_fault image_tests super_tests tree_tests in_turn contents_test slot_tests record_tests has_taken_name
    stray_tests has_stray has_stray_in_indirect numbers_tests indirect_test first_blocks_test number_test block_test
    for_each_below values_below some_below name_of upd
fault byte = image_fault 65536 byte

disk_is_good : fault disk ≡ None
unfolding fault
disk_is_good = refl

two_files_are_good : fault two_files ≡ None
unfolding fault
two_files_are_good = refl

nested_is_good : fault nested ≡ None
unfolding fault
nested_is_good = refl

another_kind : fault (with_kind 12288 2 disk) ≡ Some (Kind 12288)
unfolding fault
another_kind = refl

-- a slash before the NUL, and one behind it, which doesn't count
slash : fault (with_name 12288 0x2f61 disk) ≡ Some (BadName 12288)
unfolding fault
slash = refl

slash_behind_the_name : fault (with_name 12288 0x2f0061 disk) ≡ None
unfolding fault
slash_behind_the_name = refl

-- 127 bytes and a NUL are a name, 128 bytes are none
abbrev long_name : ℕ → ℕ → ℕ
long_name len at = if nat_lt at 12288 then disk at else if nat_lt at (12288 + len) then 0x61 else disk at

longest_name : fault (long_name 127) ≡ None
unfolding fault
longest_name = refl

no_nul : fault (long_name 128) ≡ Some (BadName 12288)
unfolding fault
no_nul = refl

part_of_a_block : fault (with_size 4104 256 disk) ≡ Some (DirSize 4104)
unfolding fault
part_of_a_block = refl

too_long : fault (with_size 12288 (MAXFILESIZE + 1) disk) ≡ Some (TooLong 12288)
unfolding fault
too_long = refl

-- its size is lawful, and its second block is missing
hole : fault (with_size 12288 4097 disk) ≡ Some (Hole 12288)
unfolding fault
hole = refl

block_past_the_end : fault (with_block 4104 4096 disk) ≡ Some (Range 4096)
unfolding fault
block_past_the_end = refl

bitmap_named : fault (with_block 12288 2 disk) ≡ Some (Range 2)
unfolding fault
bitmap_named = refl

-- the root's block named by a file, and by a directory, which would stand in itself
twice_named : fault (with_block 12288 3 disk) ≡ Some (NamedTwice 3)
unfolding fault
twice_named = refl

directory_in_itself : fault (with_kind 12288 1 (with_size 12288 4096 (with_block 12288 3 disk))) ≡ Some (NamedTwice 3)
unfolding fault
directory_in_itself = refl

marked_free : fault (with_bitmap 0xfffffff0 disk) ≡ Some (MarkedFree 4)
unfolding fault
marked_free = refl

-- the boot block is marked free, which is told after all records
boot_block_free : fault (with_bitmap 0xffffffe1 disk) ≡ Some (MarkedFree 0)
unfolding fault
boot_block_free = refl

boot_block_and_file_free : fault (with_bitmap 0xfffffff1 disk) ≡ Some (MarkedFree 4)
unfolding fault
boot_block_and_file_free = refl

stray : fault (with_size 12288 0 disk) ≡ Some (Stray 12288)
unfolding fault
stray = refl

-- the later of two records is told
same_name : fault (with_name 12544 0x61 disk) ≡ Some (SameName 12544)
unfolding fault
same_name = refl

-- one name in two directories
same_name_below : fault (with_name 16384 0x61 nested) ≡ None
unfolding fault
same_name_below = refl

-- a fault inside of a directory comes before those of the record behind it
below_comes_first : fault (with_kind 16384 2 (with_name 12544 0x61 nested)) ≡ Some (Kind 16384)
unfolding fault
below_comes_first = refl

-- ---- indirect blocks

-- a file of two bytes may have one
not_needed : fault (with_indirect 12288 5 (with_bitmap 0xffffffc0 disk)) ≡ None
unfolding fault
not_needed = refl

not_needed_and_free : fault (with_indirect 12288 5 disk) ≡ Some (MarkedFree 5)
unfolding fault
not_needed_and_free = refl

-- no number may stand in it
not_needed_and_used : fault (with_indirect 12288 5 (with_bitmap 0xffffffc0 (put 20480 6 disk))) ≡ Some (Stray 12288)
unfolding fault
not_needed_and_used = refl

-- a file of eleven blocks: 4 and 6 to 14, the indirect block 5, and 15, which is named there
abbrev eleven_blocks : ℕ → ℕ
eleven_blocks =
    with_size 12288 40961
    (with_bitmap 0xffff0000
    (with_indirect 12288 5
    (put 20480 15
    (λ at.
    if at / 4 * 4 == 12424 then disk at
    else if nat_lt at 12424 then disk at
    else if nat_lt at 12464 then (if at % 4 == 0 then (at - 12424) / 4 + 5 else 0)
    else disk at))))

eleven_are_good : fault eleven_blocks ≡ None
unfolding fault
eleven_are_good = refl

-- the indirect block comes before those that are named there, and after the first ten
indirect_missing : fault (with_indirect 12288 0 eleven_blocks) ≡ Some (Hole 12288)
unfolding fault
indirect_missing = refl

indirect_comes_before : fault (with_bitmap 0xffff8020 eleven_blocks) ≡ Some (MarkedFree 5)
unfolding fault
indirect_comes_before = refl

indirect_comes_behind : fault (with_bitmap 0xffff4020 eleven_blocks) ≡ Some (MarkedFree 14)
unfolding fault
indirect_comes_behind = refl

eleventh_missing : fault (put 20480 0 eleven_blocks) ≡ Some (Hole 12288)
unfolding fault
eleventh_missing = refl

twelfth_named : fault (put 20484 15 eleven_blocks) ≡ Some (Stray 12288)
unfolding fault
twelfth_named = refl

-- ---- the files

-- the files of an image, and how many blocks are free by its bitmap
files : (ℕ → ℕ) → FileSystem
unfolding file_system_of unnamed_blocks named_blocks records_at file_bytes total tree_tests in_turn contents_test slot_tests
    record_tests has_taken_name stray_tests has_stray has_stray_in_indirect numbers_tests indirect_test first_blocks_test
    number_test block_test for_each_below values_below some_below name_of upd records_from
files byte = file_system_of byte

free : (ℕ → ℕ) → ℕ
unfolding free_blocks total
free byte = free_blocks byte

-- the records of a block, of which the first ones are given
abbrev named : List ℕ → Node → Option NamedNode
named name node = Some (record { name = name; node = node })

abbrev hi : Node
hi = a_file (codes "hi") false

files_of_disk : files disk
    ≡ record { root = a_directory (records_from (named (codes "a") hi ∷ replicate 15 None)) false; blocks = 16; unnamed = 0 }
unfolding files
files_of_disk = refl

blocks_of_disk : free disk ≡ 11
unfolding free
blocks_of_disk = refl

free_by_the_tree : blocks_free (files disk) ≡ free disk
unfolding files free tree_blocks listed
free_by_the_tree = refl

-- three more blocks are in use
files_and_unnamed_blocks : (files (with_bitmap 0xffffff00 two_files)).unnamed ≡ 3
unfolding files
files_and_unnamed_blocks = refl

-- an indirect block that isn't needed counts with its file
files_with_indirect : files (with_indirect 12288 5 (with_bitmap 0xffffffc0 disk))
    ≡ record {
      root = a_directory (records_from (named (codes "a") (a_file (codes "hi") true) ∷ replicate 15 None)) false;
      blocks = 16;
      unnamed = 0;
    }
unfolding files
files_with_indirect = refl

files_of_nested : files nested
    ≡ record {
      root = a_directory
          (records_from
          (named (codes "a") (a_directory (records_from (named (codes "c") (a_file [] false) ∷ replicate 15 None)) false)
          ∷ named (codes "b") (a_file [] false)
          ∷ replicate 14 None))
          false;
      blocks = 16;
      unnamed = 0;
    }
unfolding files
files_of_nested = refl
