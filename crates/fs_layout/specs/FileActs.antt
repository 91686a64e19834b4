-- What is done to files. An act gives a file system and an answer. Where the act is refused, the file system stays as
-- it was, and the answer is an error's number, negated as a word. Of several refusals the one that stands first here
-- is told. Which files are open, for what and at which offset is no part of this: an act is told the place in the
-- file.
-- (MIT 6.828, lab 5: inc/fs.h, inc/lib.h, inc/error.h, fs/fs.c and fs/serv.c. That files have no holes, that an act
-- which doesn't fit changes nothing, and that an open file is not removed is this system's own.)
use Rattle.std.specs.Prelude.{ℕ, ◌+◌, ◌-◌, ◌==◌, ◌&&◌, ◌||◌, nat_lt, nat_le, not, min, Bool, false}
use Rattle.std.specs.Prelude.{List, [], ◌∷◌, ◌++◌, length, take, drop, replicate, filter, slice_set, slice_index_or, bytes_eq, position}
use Rattle.std.specs.Prelude.{Option, Some, None, option_map, is_none, if◌then◌else◌}
use Rattle.std.specs.List.{slice_split, list_all, position_or_len}
use Rattle.jos_base.specs.declared.numbers.TheConstants.{E_INVAL, E_NO_DISK, E_NOT_FOUND, E_BAD_PATH, E_FILE_EXISTS}
use Rattle.jos_base.specs.Words.{negated, has_bit}
use Rattle.jos_base.specs.TrapFrames.{bytes_of_words}
use Rattle.fs_layout.specs.declared.numbers.TheConstants.{BLKSIZE, BLKFILES, MAXNAMELEN, MAXFILESIZE, MAXPATHLEN, FTYPE_REG}
use Rattle.fs_layout.specs.declared.numbers.TheConstants.{O_CREAT, O_TRUNC, O_EXCL}
use Rattle.fs_layout.specs.FileTree.{Node, a_file, a_directory, NamedNode, FileSystem}
use Rattle.fs_layout.specs.FileTree.{listed, records_from, directory_size, needs_indirect, blocks_in_use, blocks_free}
use Rattle.fs_layout.specs.FileTree.{named_at, node_at, with_node, without_node}
use Rattle.fs_layout.specs.FileTree.{FileAct, open_path, read_file, write_file, set_file_size, stat_file, remove_path, sync_files}

-- ---- what an act gives

-- the file system after an act, the word that is answered, and the bytes that are handed back
pub record Acted : Type 0 where
  pub files : FileSystem
  pub answer : ℕ
  pub bytes : List ℕ

abbrev pub done : FileSystem → ℕ → Acted
done s answer = record { files = s; answer = answer; bytes = [] }

-- nothing has changed
abbrev pub refused : FileSystem → ℕ → Acted
refused s error = done s (negated error)

-- The act is done where it needs no more blocks than are free. What it takes and what it gives back count against each
-- other.
abbrev pub done_if_it_fits : FileSystem → FileSystem → ℕ → Acted
done_if_it_fits before after answer =
    if nat_le (blocks_in_use after - blocks_in_use before) (blocks_free before) then done after answer
    else refused before E_NO_DISK

-- ---- paths

abbrev pub is_slash : ℕ → Bool
is_slash byte = byte == 47

abbrev pub is_empty : List ℕ → Bool
is_empty bytes = length bytes == 0

-- The names of a path stand between its slashes. Several slashes count as one, and those at either end don't count. A
-- path without a name leads to the root.
unfoldable pub names_in : List ℕ → List (List ℕ)
names_in path = filter (λ name. not (is_empty name)) (slice_split is_slash path)

-- whether the path and each name in it leave room for a NUL
unfoldable pub is_good_path : List ℕ → Bool
is_good_path path = nat_lt (length path) MAXPATHLEN && list_all (λ name. nat_lt (length name) MAXNAMELEN) (names_in path)

-- ---- looking a path up

abbrev pub has_name : List ℕ → Option NamedNode → Bool
has_name name None = false
has_name name (Some named) = bytes_eq named.name name

abbrev pub found_record : List (Option NamedNode) → Option ℕ → Option (ℕ × Node)
found_record list None = None
found_record list (Some place) = option_map (λ (named : NamedNode). (place, named.node)) (slice_index_or list place None)

-- the place of the record with a name, and the node that it names
unfoldable pub find_name : List ℕ → List (Option NamedNode) → Option (ℕ × Node)
find_name name list = found_record list (position (has_name name) list)

-- where a path leads
pub data Looked : Type 0 where
  -- nowhere: the path, or a name in it, is too long
  bad_path : Looked
  -- nowhere: a name before the last one is missing, or a file has it
  nowhere : Looked
  -- to a directory in which the last name is missing: the directory's way, the directory and the name
  missing : List ℕ → Node → List ℕ → Looked
  -- to a node: its way, and the node
  there : List ℕ → Node → Looked

-- the same, seen from a directory where it began in the record at a place
abbrev pub seen_from_above : ℕ → Looked → Looked
seen_from_above place bad_path = bad_path
seen_from_above place nowhere = nowhere
seen_from_above place (missing way directory name) = missing (place ∷ way) directory name
seen_from_above place (there way node) = there (place ∷ way) node

-- A name was looked up in a directory, and other names follow it. Where the name was found, `onward` looks these up.
abbrev pub looked_in : Node → List ℕ → List (List ℕ) → Option (ℕ × Node) → (Node → Looked) → Looked
looked_in directory name [] None onward = missing [] directory name
looked_in directory name (next ∷ rest) None onward = nowhere
looked_in directory name rest (Some found) onward = seen_from_above found.0 (onward found.1)

-- the names, each looked up in the directory that the one before it names
unfoldable pub look_from : List (List ℕ) → Node → Looked
look_from [] node = there [] node
look_from (name ∷ rest) (a_file bytes indirect) = nowhere
look_from (name ∷ rest) (a_directory records indirect) =
    looked_in (a_directory records indirect) name rest (find_name name (listed records)) (look_from rest)

unfoldable pub look_up : FileSystem → List ℕ → Looked
look_up s path = if is_good_path path then look_from (names_in path) s.root else bad_path

abbrev pub file_at_end : Looked → Option (List ℕ)
file_at_end bad_path = None
file_at_end nowhere = None
file_at_end (missing way directory name) = None
file_at_end (there way (a_file bytes indirect)) = Some way
file_at_end (there way (a_directory records indirect)) = None

-- the way of the file that a path names
abbrev pub file_named : FileSystem → List ℕ → Option (List ℕ)
file_named s path = file_at_end (look_up s path)

-- ---- acts on a file

-- what is done to a file, by its bytes and whether it has an indirect block; a way that leads to no file is refused
abbrev pub on_file : FileSystem → Option Node → (List ℕ → Bool → Acted) → Acted
on_file s None act = refused s E_INVAL
on_file s (Some (a_directory records indirect)) act = refused s E_INVAL
on_file s (Some (a_file bytes indirect)) act = act bytes indirect

-- so many of the bytes from a place on, as far as there are any, and at most a block
unfoldable pub bytes_at : List ℕ → ℕ → ℕ → List ℕ
bytes_at bytes at n = take (min n BLKSIZE) (drop at bytes)

abbrev pub handed_back : FileSystem → List ℕ → Acted
handed_back s bytes = record { files = s; answer = length bytes; bytes = bytes }

-- read(file, at, n): the answer is the number of bytes, and 0 at the end and past it
unfoldable pub read_act : FileSystem → List ℕ → ℕ → ℕ → Acted
read_act s way at n = on_file s (node_at s way) (λ bytes indirect. handed_back s (bytes_at bytes at n))

-- the bytes with new ones over them from a place on; between the old end and that place there are zeros
unfoldable pub overwritten : List ℕ → ℕ → List ℕ → List ℕ
overwritten bytes at new = take at bytes ++ replicate (at - length bytes) 0 ++ new ++ drop (at + length new) bytes

-- a file with these bytes; its indirect block stays, and comes where it is needed
abbrev pub grown_file : List ℕ → Bool → Node
grown_file bytes indirect = a_file bytes (indirect || needs_indirect (length bytes))

abbrev pub write_to : FileSystem → List ℕ → ℕ → List ℕ → List ℕ → Bool → Acted
write_to s way at [] bytes indirect = done s 0
write_to s way at (byte ∷ rest) bytes indirect =
    let new = byte ∷ rest in
    if nat_lt MAXFILESIZE (at + length new) then refused s E_NO_DISK
    else done_if_it_fits s (with_node s way (grown_file (overwritten bytes at new) indirect)) (length new)

-- write(file, at, bytes): the answer is the number of bytes. No bytes change nothing, wherever the place is.
unfoldable pub write_act : FileSystem → List ℕ → ℕ → List ℕ → Acted
write_act s way at new = on_file s (node_at s way) (write_to s way at new)

-- the first of the bytes, so many, and zeros behind them where they are fewer
unfoldable pub resized : List ℕ → ℕ → List ℕ
resized bytes size = take size bytes ++ replicate (size - length bytes) 0

-- the file has an indirect block from now on exactly where its size needs one
abbrev pub set_size_to : FileSystem → List ℕ → ℕ → List ℕ → Bool → Acted
set_size_to s way size bytes indirect =
    if nat_lt MAXFILESIZE size then refused s E_NO_DISK
    else done_if_it_fits s (with_node s way (a_file (resized bytes size) (needs_indirect size))) 0

-- set_size(file, size)
unfoldable pub set_size_act : FileSystem → List ℕ → ℕ → Acted
set_size_act s way size = on_file s (node_at s way) (set_size_to s way size)

-- the name and NULs behind it, then the size and the kind as words
unfoldable pub stat_bytes : List ℕ → ℕ → ℕ → List ℕ
stat_bytes name size kind = name ++ replicate (MAXNAMELEN - length name) 0 ++ bytes_of_words (size ∷ kind ∷ [])

abbrev pub stat_of : FileSystem → Option NamedNode → Acted
stat_of s None = refused s E_INVAL
stat_of s (Some named) =
    on_file s (Some named.node)
    (λ bytes indirect. record { files = s; answer = 0; bytes = stat_bytes named.name (length bytes) FTYPE_REG })

-- stat(file)
unfoldable pub stat_act : FileSystem → List ℕ → Acted
stat_act s way = stat_of s (named_at s way)

-- ---- acts on a path

-- the first place whose record is empty; where there is none, the first behind the records
abbrev pub free_place : List (Option NamedNode) → ℕ
free_place list = position_or_len is_none list

-- the records with room for one more name: where none is empty, a block of empty ones follows them
unfoldable pub with_room : List (Option NamedNode) → List (Option NamedNode)
with_room list = if nat_lt (free_place list) (length list) then list else list ++ replicate BLKFILES None

-- a new file has no bytes
abbrev pub new_file : List ℕ → NamedNode
new_file name = record { name = name; node = a_file [] false }

-- the records with a new file's in the free place
unfoldable pub with_new_file : List ℕ → List (Option NamedNode) → List (Option NamedNode)
with_new_file name list = slice_set (with_room list) (free_place list) (Some (new_file name))

-- A directory gets these records. Its indirect block stays, and comes where it is needed.
abbrev pub directory_grown : FileSystem → List ℕ → Bool → List (Option NamedNode) → Acted
directory_grown s way indirect list =
    let size = directory_size list in
    if nat_lt MAXFILESIZE size then refused s E_NO_DISK
    else done_if_it_fits s (with_node s way (a_directory (records_from list) (indirect || needs_indirect size))) 0

-- a file of size 0 is made in a directory, which stands at a way; what is no directory doesn't come here
abbrev pub create_in : FileSystem → List ℕ → Node → List ℕ → Acted
create_in s way (a_directory records indirect) name = directory_grown s way indirect (with_new_file name (listed records))
create_in s way (a_file bytes indirect) name = refused s E_NOT_FOUND

-- what is there is opened
abbrev pub open_there : FileSystem → ℕ → List ℕ → Node → Acted
open_there s mode way (a_directory records indirect) = refused s E_INVAL
open_there s mode way (a_file bytes indirect) =
    if has_bit mode O_TRUNC then set_size_to s way 0 bytes indirect else done s 0

abbrev pub open_looked : FileSystem → ℕ → Looked → Acted
open_looked s mode bad_path = refused s E_BAD_PATH
open_looked s mode nowhere = refused s E_NOT_FOUND
open_looked s mode (missing way directory name) =
    if has_bit mode O_CREAT then create_in s way directory name else refused s E_NOT_FOUND
open_looked s mode (there way node) =
    if has_bit mode O_CREAT && has_bit mode O_EXCL then refused s E_FILE_EXISTS else open_there s mode way node

-- open(path, mode): where it is not refused the answer is 0, and the file is the one that the path names from then on
unfoldable pub open_act : FileSystem → List ℕ → ℕ → Acted
open_act s path mode = open_looked s mode (look_up s path)

abbrev pub remove_looked : (List ℕ → Bool) → FileSystem → Looked → Acted
remove_looked is_open s bad_path = refused s E_BAD_PATH
remove_looked is_open s nowhere = refused s E_NOT_FOUND
remove_looked is_open s (missing way directory name) = refused s E_NOT_FOUND
remove_looked is_open s (there way (a_directory records indirect)) = refused s E_INVAL
remove_looked is_open s (there way (a_file bytes indirect)) =
    if is_open way then refused s E_INVAL else done (without_node s way) 0

-- remove(path): the file's record is empty then, and its directory is as long as before. `is_open` tells whether the
-- file at a way is open.
unfoldable pub remove_act : (List ℕ → Bool) → FileSystem → List ℕ → Acted
remove_act is_open s path = remove_looked is_open s (look_up s path)

-- ---- every act

-- What is asked for is done. After sync() all is on the disk too, which can't be seen here.
unfoldable pub file_act : (List ℕ → Bool) → FileSystem → FileAct → Acted
file_act is_open s (open_path path mode) = open_act s path mode
file_act is_open s (read_file way at n) = read_act s way at n
file_act is_open s (write_file way at bytes) = write_act s way at bytes
file_act is_open s (set_file_size way size) = set_size_act s way size
file_act is_open s (stat_file way) = stat_act s way
file_act is_open s (remove_path path) = remove_act is_open s path
file_act is_open s sync_files = done s 0
