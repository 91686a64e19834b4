-- Acts on the files of small disks, computed.
use Rattle.std.specs.Prelude.{◌≡◌, ℕ, ◌+◌, Bool, true, false, List, [], ◌∷◌, ◌++◌, codes, Some, None, refl, replicate}
use Rattle.jos_base.specs.declared.numbers.TheConstants.{E_INVAL, E_NO_DISK, E_NOT_FOUND, E_BAD_PATH, E_FILE_EXISTS}
use Rattle.jos_base.specs.Words.{negated}
use Rattle.jos_base.specs.TrapFrames.{bytes_of_words}
use Rattle.fs_layout.specs.declared.numbers.TheConstants.{MAXFILESIZE, O_CREAT, O_EXCL, O_TRUNC}
use Rattle.fs_layout.specs.FileTree.{a_file, a_directory, no_more, empty_record, named_record, FileSystem, node_at}
use Rattle.fs_layout.specs.FileTree.{needs_indirect, blocks_taken, bitmap_blocks, blocks_in_use, blocks_free}
use Rattle.fs_layout.specs.FileTree.{listed, records_from, named_from, replaced, emptied, tree_blocks}
use Rattle.fs_layout.specs.FileTree.{FileAct, open_path, read_file, write_file, set_file_size, stat_file, remove_path}
use Rattle.fs_layout.specs.FileActs.{Acted, done, refused, names_in, is_good_path, find_name, look_from, look_up}
use Rattle.fs_layout.specs.FileActs.{bytes_at, read_act, overwritten, write_act, resized, set_size_act, stat_bytes, stat_act}
use Rattle.fs_layout.specs.FileActs.{with_room, with_new_file, new_file, open_act, remove_act, file_act, file_named}

-- what a request gives where no file is open
act : FileSystem → FileAct → Acted
unfolding file_act open_act read_act write_act set_size_act stat_act remove_act
    look_up look_from find_name names_in is_good_path
    with_new_file with_room overwritten resized bytes_at stat_bytes bytes_of_words
    listed records_from named_from replaced emptied tree_blocks
act s request = file_act (λ way. false) s request

-- a disk of so many blocks without a file
abbrev empty_disk : ℕ → FileSystem
empty_disk blocks = record { root = a_directory no_more false; blocks = blocks; unnamed = 0 }

-- the same with an empty file `a`
with_a : ℕ → FileSystem
unfolding act
with_a blocks = (act (empty_disk blocks) (open_path (codes "/a") O_CREAT)).files

-- the file `a`
a : List ℕ
a = 0 ∷ []

-- the boot block, the super block and the bitmap; then the root's first block with them
first_blocks : blocks_in_use (empty_disk 8) ≡ 3
unfolding act
first_blocks = refl

blocks_with_a : blocks_in_use (with_a 8) ≡ 4
unfolding with_a
blocks_with_a = refl

-- slashes beside slashes and at the ends count for nothing
a_is_named : file_named (with_a 8) (codes "//a/") ≡ Some a
unfolding with_a a
a_is_named = refl

-- it is there: that is an error with O_EXCL, and else it is opened
made_again : act (with_a 8) (open_path (codes "a") (O_CREAT + O_EXCL)) ≡ refused (with_a 8) E_FILE_EXISTS
unfolding with_a
made_again = refl

opened_again : act (with_a 8) (open_path (codes "a") (O_CREAT + O_TRUNC)) ≡ done (with_a 8) 0
unfolding with_a
opened_again = refl

-- the root is no file
root_opened : act (with_a 8) (open_path (codes "/") 0) ≡ refused (with_a 8) E_INVAL
unfolding with_a
root_opened = refl

root_made : act (with_a 8) (open_path (codes "/") (O_CREAT + O_EXCL)) ≡ refused (with_a 8) E_FILE_EXISTS
unfolding with_a
root_made = refl

-- a name that is missing, and names behind a missing one and behind a file's
missing_opened : act (with_a 8) (open_path (codes "b") O_EXCL) ≡ refused (with_a 8) E_NOT_FOUND
unfolding with_a
missing_opened = refl

behind_missing : act (with_a 8) (open_path (codes "b/c") O_CREAT) ≡ refused (with_a 8) E_NOT_FOUND
unfolding with_a
behind_missing = refl

behind_file : act (with_a 8) (open_path (codes "a/c") O_CREAT) ≡ refused (with_a 8) E_NOT_FOUND
unfolding with_a
behind_file = refl

-- names of 127 and of 128 bytes
long_name : act (with_a 8) (open_path (replicate 127 98) 0) ≡ refused (with_a 8) E_NOT_FOUND
unfolding with_a
long_name = refl

longer_name : act (with_a 8) (open_path (codes "a/" ++ replicate 128 98) 0) ≡ refused (with_a 8) E_BAD_PATH
unfolding with_a
longer_name = refl

-- ---- bytes

-- three bytes are written at place 2, and two zeros stand before them
written : FileSystem
unfolding act with_a a
written = (act (with_a 8) (write_file a 2 (codes "abc"))).files

write_answer : (act (with_a 8) (write_file a 2 (codes "abc"))).answer ≡ 3
unfolding act with_a a
write_answer = refl

read_back : (act written (read_file a 0 10)).bytes ≡ 0 ∷ 0 ∷ codes "abc"
unfolding written
read_back = refl

read_answer : (act written (read_file a 1 3)).answer ≡ 3
unfolding written
read_answer = refl

read_past_end : act written (read_file a 9 10) ≡ done written 0
unfolding written
read_past_end = refl

blocks_written : blocks_in_use written ≡ 5
unfolding written
blocks_written = refl

-- no block is free: nothing changes
write_does_not_fit : act (with_a 4) (write_file a 2 (codes "abc")) ≡ refused (with_a 4) E_NO_DISK
unfolding with_a a
write_does_not_fit = refl

-- past the greatest size; no bytes are written anywhere
write_too_far : act (with_a 8) (write_file a 4235264 (codes "a")) ≡ refused (with_a 8) E_NO_DISK
unfolding with_a a
write_too_far = refl

write_of_none : act (with_a 8) (write_file a 4235265 []) ≡ done (with_a 8) 0
unfolding with_a a
write_of_none = refl

-- a smaller size and a greater one
resized_twice : (act (act (act written (set_file_size a 3)).files (set_file_size a 5)).files (read_file a 0 10)).bytes
    ≡ 0 ∷ 0 ∷ 97 ∷ 0 ∷ 0 ∷ []
unfolding written
resized_twice = refl

size_too_great : act (with_a 8) (set_file_size a 4235265) ≡ refused (with_a 8) E_NO_DISK
unfolding with_a a
size_too_great = refl

stat_answered : (act written (stat_file a)).bytes ≡ 97 ∷ (replicate 127 0 ++ bytes_of_words (5 ∷ 0 ∷ []))
unfolding written
stat_answered = refl

-- ---- removal

removed : FileSystem
unfolding act written
removed = (act written (remove_path (codes "a"))).files

is_removed : file_named removed (codes "a") ≡ None
unfolding removed
is_removed = refl

-- the root keeps its block
blocks_removed : blocks_in_use removed ≡ 4
unfolding removed
blocks_removed = refl

-- the file is open
not_removed : remove_act (λ way. true) written (codes "a") ≡ refused written E_INVAL
unfolding written
not_removed = refl

-- ---- indirect blocks

-- a file of three bytes with an indirect block, on a disk without a free block
abbrev marked : FileSystem
marked = record {
  root = a_directory (named_record (codes "a") (a_file (codes "abc") true) no_more) false;
  blocks = 6;
  unnamed = 0;
}

-- it goes with any new size, also with the same, and what it gives back counts
mark_goes : node_at (act marked (set_file_size a 3)).files a ≡ Some (a_file (codes "abc") false)
unfolding act a
mark_goes = refl

mark_truncated : node_at (act marked (open_path (codes "a") O_TRUNC)).files a ≡ Some (a_file [] false)
unfolding act a
mark_truncated = refl

-- and stays where bytes are written
mark_stays : node_at (act marked (write_file a 2 (codes "d"))).files a ≡ Some (a_file (codes "abd") true)
unfolding act a
mark_stays = refl

-- an empty file with an indirect block, on a disk without a free block
abbrev marked_empty : FileSystem
marked_empty = record {
  root = a_directory (named_record (codes "a") (a_file [] true) no_more) false;
  blocks = 5;
  unnamed = 0;
}

-- a byte takes a block: a new size gives the indirect block for it, and a write does not
block_exchanged : (act marked_empty (set_file_size a 1)).answer ≡ 0
unfolding act a
block_exchanged = refl

block_not_exchanged : act marked_empty (write_file a 0 (codes "b")) ≡ refused marked_empty E_NO_DISK
unfolding act a
block_not_exchanged = refl

-- sizes at which blocks begin
ten_blocks : needs_indirect 40960 ≡ false
ten_blocks = refl

eleven_blocks : needs_indirect 40961 ≡ true
eleven_blocks = refl

most_blocks : blocks_taken MAXFILESIZE true ≡ 1035
most_blocks = refl

one_bitmap_block : bitmap_blocks 32768 ≡ 1
one_bitmap_block = refl

two_bitmap_blocks : bitmap_blocks 32769 ≡ 2
two_bitmap_blocks = refl

-- ---- directories

-- a directory `d` with a file `b` in its second record, and a block that nothing names
abbrev nested : FileSystem
nested = record {
  root = a_directory (named_record (codes "d") (a_directory (empty_record (named_record (codes "b") (a_file [] false) no_more)) false) no_more)
      false;
  blocks = 7;
  unnamed = 1;
}

blocks_nested : blocks_free nested ≡ 1
unfolding act
blocks_nested = refl

b_is_named : file_named nested (codes "/d//b") ≡ Some (0 ∷ 1 ∷ [])
unfolding act
b_is_named = refl

-- a new file has the first empty record
c_is_made : file_named (act nested (open_path (codes "d/c") O_CREAT)).files (codes "d/c") ≡ Some (0 ∷ 0 ∷ [])
unfolding act
c_is_made = refl

b_is_written : (act (act nested (write_file (0 ∷ 1 ∷ []) 0 (codes "xyz"))).files (read_file (0 ∷ 1 ∷ []) 1 1)).bytes ≡ codes "y"
unfolding act
b_is_written = refl

b_is_removed : node_at (act nested (remove_path (codes "d/b"))).files (0 ∷ 1 ∷ []) ≡ None
unfolding act
b_is_removed = refl

directory_stays : act nested (remove_path (codes "d")) ≡ refused nested E_INVAL
unfolding act
directory_stays = refl

directory_opened : act nested (open_path (codes "d") O_CREAT) ≡ refused nested E_INVAL
unfolding act
directory_opened = refl

-- a root of so many files with the same name
abbrev full : ℕ → Bool → ℕ → FileSystem
full files indirect blocks = record {
  root = a_directory (records_from (replicate files (Some (new_file (codes "b"))))) indirect;
  blocks = blocks;
  unnamed = 0;
}

-- no record is empty: the file needs a block of the root's
second_block : (act (full 16 false 5) (open_path (codes "a") O_CREAT)).answer ≡ 0
unfolding act
second_block = refl

at_place : file_named (act (full 16 false 5) (open_path (codes "a") O_CREAT)).files (codes "a") ≡ Some (16 ∷ [])
unfolding act
at_place = refl

no_second_block : act (full 16 false 4) (open_path (codes "a") O_CREAT) ≡ refused (full 16 false 4) E_NO_DISK
unfolding act
no_second_block = refl

-- the eleventh block needs the indirect block too, where it isn't there
eleventh_block : blocks_in_use (act (full 160 false 15) (open_path (codes "a") O_CREAT)).files ≡ 15
unfolding act
eleventh_block = refl

no_eleventh_block : (act (full 160 false 14) (open_path (codes "a") O_CREAT)).answer ≡ negated E_NO_DISK
unfolding act
no_eleventh_block = refl

eleventh_with_indirect : (act (full 160 true 15) (open_path (codes "a") O_CREAT)).answer ≡ 0
unfolding act
eleventh_with_indirect = refl
