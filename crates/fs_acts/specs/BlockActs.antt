-- What the acts on files store in the blocks of a disk, in which order, and which blocks they take and give back. What
-- they do to the tree of files is told in FileActs.antt of fs_layout. The bytes of a disk are seen as a function from each
-- place to the byte there.
-- (MIT 6.828, lab 5: fs/fs.c, alloc_block, file_block_walk, file_set_size, file_create. That the lowest free block is
-- taken first, that an act gives back before it takes, and that whether it fits is counted before it stores anything is
-- this system's own.)
use Rattle.std.specs.Prelude.{ℕ, zero, suc, ◌+◌, ◌-◌, ◌*◌, ◌/◌, ◌%◌, ◌^◌, ◌==◌, ◌&&◌, ◌||◌, nat_lt, nat_le, not, min, Bool}
use Rattle.std.specs.Prelude.{List, [], ◌∷◌, ◌++◌, length, replicate, slice_index, bytes_eq, position, find}
use Rattle.std.specs.Prelude.{Option, Some, None, if◌then◌else◌}
use Rattle.std.specs.List.{range_with_len}
use Rattle.std.specs.Int.{w32, to_le_bytes}
use Rattle.jos_base.specs.declared.numbers.TheConstants.{E_INVAL, E_NO_DISK, E_NOT_FOUND, E_BAD_PATH, E_FILE_EXISTS}
use Rattle.jos_base.specs.Words.{upd, negated, has_bit}
use Rattle.fs_layout.specs.declared.numbers.TheConstants.{BLKSIZE, RECORDSIZE, MAXNAMELEN, MAXFILESIZE, NDIRECT, FTYPE_REG}
use Rattle.fs_layout.specs.declared.numbers.TheConstants.{FS_MAGIC, O_CREAT, O_TRUNC, O_EXCL}
use Rattle.fs_layout.specs.FileTree.{FileAct, open_path, read_file, write_file, set_file_size, stat_file, remove_path, sync_files}
use Rattle.fs_layout.specs.FileTree.{blocks_of, needs_indirect, blocks_taken}
use Rattle.fs_layout.specs.FileActs.{is_good_path, names_in, stat_bytes}
use Rattle.jos_base.specs.Below.{values_below}
use Rattle.fs_layout.specs.DiskImage.{magic_of, block_count, root_place, is_marked_free, first_data_block}
use Rattle.fs_layout.specs.DiskImage.{is_data_block, is_good_count, is_good_kind, is_good_name, is_good_size}
use Rattle.fs_layout.specs.DiskImage.{size_of, kind_at, indirect_of, name_of, is_empty_record, is_directory_at, has_indirect}
use Rattle.fs_layout.specs.DiskImage.{blocks_needed, block_number_at, slot_count, slot_place}
use Rattle.fs_layout.specs.DiskFiles.{free_blocks}

-- ---- puts

-- One store: of a byte, or of a word at a multiple of four.
pub data Put : Type 0 where
  put_byte : ℕ → ℕ → Put
  put_word : ℕ → ℕ → Put

-- the bytes with others from a place on
unfoldable pub with_bytes : (ℕ → ℕ) → ℕ → List ℕ → ℕ → ℕ
with_bytes byte at new q = if nat_le at q && nat_lt q (at + length new) then slice_index new (q - at) else byte q

-- the disk after a put, and after several
unfoldable pub stored : Put → (ℕ → ℕ) → ℕ → ℕ
stored (put_byte place value) byte = upd byte place value
stored (put_word place word) byte = with_bytes byte place (to_le_bytes w32 word)

unfoldable pub written : List Put → (ℕ → ℕ) → ℕ → ℕ
written [] byte = byte
written (put ∷ rest) byte = written rest (stored put byte)

-- ---- where fields stand

-- the number of a record's block, of those that are counted from 0
abbrev pub number_place : (ℕ → ℕ) → ℕ → ℕ → ℕ
number_place byte place i =
    if nat_lt i NDIRECT then place + MAXNAMELEN + 8 + 4 * i else BLKSIZE * indirect_of byte place + 4 * (i - NDIRECT)

-- a byte of a record's blocks, of those that are counted from 0
abbrev pub byte_place : (ℕ → ℕ) → ℕ → ℕ → ℕ
byte_place byte place at = BLKSIZE * block_number_at byte place (at / BLKSIZE) + at % BLKSIZE

-- the byte of the bitmap that has a block's bit
abbrev pub mark_place : ℕ → ℕ
mark_place block = 2 * BLKSIZE + block / 8

-- The data block that is handed out. Bits past the number of blocks say nothing.
unfoldable pub lowest_free : (ℕ → ℕ) → Option ℕ
lowest_free byte =
    let first = first_data_block (block_count byte) in
    find (is_marked_free byte) (range_with_len first (block_count byte - first))

-- ---- puts of one kind

abbrev pub put_size : ℕ → ℕ → List Put
put_size place size = put_word (place + MAXNAMELEN) size ∷ []

abbrev pub put_indirect : ℕ → ℕ → List Put
put_indirect place block = put_word (place + MAXNAMELEN + 8 + 4 * NDIRECT) block ∷ []

abbrev pub put_number : (ℕ → ℕ) → ℕ → ℕ → ℕ → List Put
put_number byte place i block = put_word (number_place byte place i) block ∷ []

-- The block's bit is cleared and set, whatever it was.
abbrev pub mark_used : (ℕ → ℕ) → ℕ → List Put
mark_used byte block =
    let old = byte (mark_place block) in
    put_byte (mark_place block) (if is_marked_free byte block then old - 2 ^ (block % 8) else old) ∷ []

abbrev pub mark_free : (ℕ → ℕ) → ℕ → List Put
mark_free byte block =
    let old = byte (mark_place block) in
    put_byte (mark_place block) (if is_marked_free byte block then old else old + 2 ^ (block % 8)) ∷ []

unfoldable pub zero_block : ℕ → List Put
zero_block block = values_below (BLKSIZE / 4) (λ k. put_word (BLKSIZE * block + 4 * k) 0)

-- bytes of a file from one on, which lie within its blocks
unfoldable pub put_bytes : (ℕ → ℕ) → ℕ → ℕ → List ℕ → List Put
put_bytes byte place at new = values_below (length new) (λ k. put_byte (byte_place byte place (at + k)) (slice_index new k))

-- ---- changes

-- A change is told by the disk as it stands when its turn comes. Between two changes a disk has no fault.
abbrev pub Change : Type 0
Change = (ℕ → ℕ) → List Put

-- changes, each told by the disk that those before it leave
unfoldable pub puts_in_turn : List Change → (ℕ → ℕ) → List Put
puts_in_turn [] byte = []
puts_in_turn (change ∷ rest) byte = change byte ++ puts_in_turn rest (written (change byte) byte)

-- a change with a block that is taken; it comes only where one is free
abbrev pub with_taken : (ℕ → List Put) → Option ℕ → List Put
with_taken puts None = []
with_taken puts (Some block) = puts block

-- Of the record at a place: bytes within its size are stored.
unfoldable pub overwrite : ℕ → ℕ → List ℕ → Change
overwrite place at new byte = put_bytes byte place at new

-- its size is lowered, and its blocks stay
unfoldable pub cut : ℕ → ℕ → Change
cut place end byte = if nat_lt end (size_of byte place) then put_size place end else []

-- its size is raised, its blocks stay, and zeros come between
unfoldable pub fill : ℕ → ℕ → Change
fill place end byte =
    let size = size_of byte place in
    if nat_lt size end then put_bytes byte place size (replicate (end - size) 0) ++ put_size place end else []

-- it gets an indirect block where it has ten data blocks and no indirect block
unfoldable pub take_indirect : ℕ → Change
take_indirect place byte =
    if nat_lt (blocks_needed byte place) NDIRECT || has_indirect byte place then []
    else with_taken (λ block. mark_used byte block ++ zero_block block ++ put_indirect place block) (lowest_free byte)

-- It gets one more block, of zeros, where its size is that of whole blocks. The size is raised by a block, but not past
-- the end.
unfoldable pub take_block : ℕ → ℕ → Change
take_block place end byte =
    let n = blocks_needed byte place in
    with_taken
    (λ block. mark_used byte block ++ zero_block block ++ put_number byte place n block ++ put_size place (min end (BLKSIZE * (n + 1))))
    (lowest_free byte)

-- its last block is given back; what is left is whole blocks
unfoldable pub give_block : ℕ → Change
give_block place byte =
    let last = blocks_needed byte place - 1 in
    put_size place (BLKSIZE * last) ++ put_number byte place last 0 ++ mark_free byte (block_number_at byte place last)

-- Its indirect block is given back, where there is one. It has at most ten data blocks, so all numbers there are 0.
unfoldable pub give_indirect : ℕ → Change
give_indirect place byte =
    if has_indirect byte place then put_indirect place 0 ++ mark_free byte (indirect_of byte place) else []

-- the name's byte at a place, and NULs behind the name
abbrev pub name_byte : List ℕ → ℕ → ℕ
name_byte name k = if nat_lt k (length name) then slice_index name k else 0

-- The record with a number in the directory at a place, which is empty, becomes a new file's. Its first byte comes last:
-- before it the record is still empty.
unfoldable pub make_record : ℕ → ℕ → List ℕ → Change
make_record directory i name byte =
    let place = slot_place byte directory i in
    values_below (MAXNAMELEN - 1) (λ k. put_byte (place + 1 + k) (name_byte name (1 + k)))
    ++ values_below ((RECORDSIZE - MAXNAMELEN) / 4) (λ k. put_word (place + MAXNAMELEN + 4 * k) 0)
    ++ put_byte place (name_byte name 0) ∷ []

-- the record at a place, of a file that has no blocks any more, becomes empty
unfoldable pub empty_it : ℕ → Change
empty_it place byte = put_byte place 0 ∷ []

-- ---- another size

-- so many blocks more, each after its indirect block where that is wanted
unfoldable pub take_blocks : ℕ → ℕ → ℕ → List Change
take_blocks zero place end = []
take_blocks (suc n) place end = take_indirect place ∷ take_block place end ∷ take_blocks n place end

-- to a greater size; the indirect block stays, and comes where it is needed
unfoldable pub growth : (ℕ → ℕ) → ℕ → ℕ → List Change
growth byte place end =
    let n = blocks_needed byte place in fill place (min end (BLKSIZE * n)) ∷ take_blocks (blocks_of end - n) place end

-- to any size; afterwards there is an indirect block exactly where it is needed
unfoldable pub resizing : (ℕ → ℕ) → ℕ → ℕ → List Change
resizing byte place end =
    replicate (blocks_needed byte place - blocks_of end) (give_block place)
    ++ (if needs_indirect end then [] else give_indirect place ∷ [])
    ++ cut place end ∷ growth byte place end

-- whether the record at a place may come to hold so many blocks; what it holds already counts
abbrev pub fits : (ℕ → ℕ) → ℕ → ℕ → Bool
fits byte place blocks =
    nat_le (blocks - blocks_taken (size_of byte place) (has_indirect byte place)) (free_blocks byte)

-- ---- places of records

abbrev pub is_named_slot : (ℕ → ℕ) → ℕ → ℕ → Bool
is_named_slot byte directory i =
    is_directory_at byte directory && nat_lt i (slot_count byte directory) && not (is_empty_record byte (slot_place byte directory i))

-- the record at a way that begins here, and at a way
unfoldable pub place_from : (ℕ → ℕ) → List ℕ → ℕ → Option ℕ
place_from byte [] place = Some place
place_from byte (i ∷ way) place =
    if is_named_slot byte place i then place_from byte way (slot_place byte place i) else None

abbrev pub place_at : (ℕ → ℕ) → List ℕ → Option ℕ
place_at byte way = place_from byte way root_place

-- the number of the first record of a directory whose place passes
unfoldable pub first_slot : (ℕ → ℕ) → ℕ → (ℕ → Bool) → Option ℕ
first_slot byte directory passes = position passes (values_below (slot_count byte directory) (slot_place byte directory))

abbrev pub slot_named : (ℕ → ℕ) → ℕ → List ℕ → Option ℕ
slot_named byte directory name =
    first_slot byte directory (λ place. not (is_empty_record byte place) && bytes_eq (name_of byte place) name)

-- Where a path leads, as `Looked` of the tree tells it, with places of records beside ways.
pub data Led : Type 0 where
  too_long : Led
  astray : Led
  -- the directory's place, and the name that is missing there
  no_record : ℕ → List ℕ → Led
  -- the record's place, and its way
  a_record : ℕ → List ℕ → Led

abbrev pub led_from_above : ℕ → Led → Led
led_from_above i too_long = too_long
led_from_above i astray = astray
led_from_above i (no_record place name) = no_record place name
led_from_above i (a_record place way) = a_record place (i ∷ way)

-- A name was looked up in the directory at a place, and other names follow it.
abbrev pub led_in : (ℕ → ℕ) → ℕ → List ℕ → List (List ℕ) → Option ℕ → (ℕ → Led) → Led
led_in byte directory name [] None onward = no_record directory name
led_in byte directory name (next ∷ rest) None onward = astray
led_in byte directory name rest (Some i) onward = led_from_above i (onward (slot_place byte directory i))

unfoldable pub led_by : (ℕ → ℕ) → List (List ℕ) → ℕ → Led
led_by byte [] place = a_record place []
led_by byte (name ∷ rest) place =
    if is_directory_at byte place then led_in byte place name rest (slot_named byte place name) (led_by byte rest) else astray

unfoldable pub led_to : (ℕ → ℕ) → List ℕ → Led
led_to byte path = if is_good_path path then led_by byte (names_in path) root_place else too_long

-- ---- acts

-- the changes, the word that is answered, and the bytes that are handed back
pub record Planned : Type 0 where
  pub changes : List Change
  pub answer : ℕ
  pub bytes : List ℕ

abbrev pub planned : List Change → ℕ → Planned
planned changes answer = record { changes = changes; answer = answer; bytes = [] }

-- nothing is stored
abbrev pub turned_down : ℕ → Planned
turned_down error = planned [] (negated error)

-- so many blocks are held afterwards
abbrev pub planned_if_it_fits : (ℕ → ℕ) → ℕ → ℕ → ℕ → List Change → Planned
planned_if_it_fits byte place blocks answer changes =
    if fits byte place blocks then planned changes answer else turned_down E_NO_DISK

unfoldable pub size_plan : (ℕ → ℕ) → ℕ → ℕ → Planned
size_plan byte place end =
    if nat_lt MAXFILESIZE end then turned_down E_NO_DISK
    else planned_if_it_fits byte place (blocks_taken end (needs_indirect end)) 0 (resizing byte place end)

-- the blocks of a record that grows to a size
abbrev pub blocks_grown : (ℕ → ℕ) → ℕ → ℕ → ℕ
blocks_grown byte place end = blocks_taken end (has_indirect byte place || needs_indirect end)

-- so many bytes, at least one
abbrev pub write_some : (ℕ → ℕ) → ℕ → ℕ → List ℕ → Planned
write_some byte place at new =
    let end = at + length new in
    if nat_lt MAXFILESIZE end then turned_down E_NO_DISK
    else if nat_le end (size_of byte place) then planned (overwrite place at new ∷ []) (length new)
    else planned_if_it_fits byte place (blocks_grown byte place end) (length new) (growth byte place end ++ overwrite place at new ∷ [])

unfoldable pub write_plan : (ℕ → ℕ) → ℕ → ℕ → List ℕ → Planned
write_plan byte place at [] = planned [] 0
write_plan byte place at (first ∷ rest) = write_some byte place at (first ∷ rest)

-- at most a block
unfoldable pub read_plan : (ℕ → ℕ) → ℕ → ℕ → ℕ → Planned
read_plan byte place at n =
    let bytes = values_below (min (min n BLKSIZE) (size_of byte place - at)) (λ k. byte (byte_place byte place (at + k))) in
    record { changes = []; answer = length bytes; bytes = bytes }

unfoldable pub stat_plan : (ℕ → ℕ) → ℕ → Planned
stat_plan byte place =
    record { changes = []; answer = 0; bytes = stat_bytes (name_of byte place) (size_of byte place) FTYPE_REG }

-- the first empty record is taken; where there is none, the first of a new block
abbrev pub create_plan_at : (ℕ → ℕ) → ℕ → List ℕ → Option ℕ → Planned
create_plan_at byte directory name (Some i) = planned (make_record directory i name ∷ []) 0
create_plan_at byte directory name None =
    let end = size_of byte directory + BLKSIZE in
    if nat_lt MAXFILESIZE end then turned_down E_NO_DISK
    else planned_if_it_fits byte directory (blocks_grown byte directory end) 0
    (growth byte directory end ++ make_record directory (slot_count byte directory) name ∷ [])

unfoldable pub create_plan : (ℕ → ℕ) → ℕ → List ℕ → Planned
create_plan byte directory name = create_plan_at byte directory name (first_slot byte directory (is_empty_record byte))

-- what a record names is opened
abbrev pub open_record : (ℕ → ℕ) → ℕ → ℕ → Planned
open_record byte mode place =
    if has_bit mode O_CREAT && has_bit mode O_EXCL then turned_down E_FILE_EXISTS
    else if is_directory_at byte place then turned_down E_INVAL
    else if has_bit mode O_TRUNC then size_plan byte place 0
    else planned [] 0

abbrev pub open_led : (ℕ → ℕ) → ℕ → Led → Planned
open_led byte mode too_long = turned_down E_BAD_PATH
open_led byte mode astray = turned_down E_NOT_FOUND
open_led byte mode (no_record directory name) =
    if has_bit mode O_CREAT then create_plan byte directory name else turned_down E_NOT_FOUND
open_led byte mode (a_record place way) = open_record byte mode place

-- the blocks are given back first, so that the record names none when it becomes empty
abbrev pub remove_led : (List ℕ → Bool) → (ℕ → ℕ) → Led → Planned
remove_led is_open byte too_long = turned_down E_BAD_PATH
remove_led is_open byte astray = turned_down E_NOT_FOUND
remove_led is_open byte (no_record directory name) = turned_down E_NOT_FOUND
remove_led is_open byte (a_record place way) =
    if is_directory_at byte place || is_open way then turned_down E_INVAL
    else planned (resizing byte place 0 ++ empty_it place ∷ []) 0

-- what is done to a file; what is no file is refused
abbrev pub of_file : (ℕ → ℕ) → Option ℕ → (ℕ → Planned) → Planned
of_file byte None plan = turned_down E_INVAL
of_file byte (Some place) plan = if is_directory_at byte place then turned_down E_INVAL else plan place

unfoldable pub plan_of : (List ℕ → Bool) → (ℕ → ℕ) → FileAct → Planned
plan_of is_open byte (open_path path mode) = open_led byte mode (led_to byte path)
plan_of is_open byte (read_file way at n) = of_file byte (place_at byte way) (λ place. read_plan byte place at n)
plan_of is_open byte (write_file way at bytes) = of_file byte (place_at byte way) (λ place. write_plan byte place at bytes)
plan_of is_open byte (set_file_size way size) = of_file byte (place_at byte way) (λ place. size_plan byte place size)
plan_of is_open byte (stat_file way) = of_file byte (place_at byte way) (stat_plan byte)
plan_of is_open byte (remove_path path) = remove_led is_open byte (led_to byte path)
plan_of is_open byte sync_files = planned [] 0

-- all that an act puts
abbrev pub puts_of : (List ℕ → Bool) → (ℕ → ℕ) → FileAct → List Put
puts_of is_open byte act = puts_in_turn (plan_of is_open byte act).changes byte

-- ---- damage

-- What is tested of all that is read, so that nothing is read or stored past the disk whatever the bytes are. The super
-- block:
abbrev pub is_damaged_super : (ℕ → ℕ) → Bool
is_damaged_super byte =
    not ((magic_of byte == FS_MAGIC) && is_good_count (block_count byte) && is_directory_at byte root_place)

-- a record by its kind and its size, and where it isn't the root's by its name
abbrev pub is_damaged_record : (ℕ → ℕ) → ℕ → Bool
is_damaged_record byte place =
    not (is_good_kind (kind_at byte place) && is_good_size (kind_at byte place) (size_of byte place)
    && nat_le (size_of byte place) MAXFILESIZE && ((place == root_place) || is_good_name (name_of byte place)))

-- the number of a block within the size, and of an indirect block that is read
abbrev pub is_damaged_number : (ℕ → ℕ) → ℕ → Bool
is_damaged_number byte number = not (is_data_block (block_count byte) number)
