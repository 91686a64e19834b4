-- What is proved of disks without a fault, and of the acts on their blocks.
use Rattle.std.specs.Prelude.{◌≡◌, ℕ, zero, suc, ◌+◌, ◌-◌, ◌*◌, ◌%◌, ◌^◌, ◌<◌, ◌≤◌, ◌==◌, ◌&&◌, ◌⊎◌, ◌↔◌, min, max, true, false, Ok}
use Rattle.std.specs.Prelude.{Bool, List, [], ◌∷◌, ◌++◌, length, take, drop, replicate, slice_set, ⊤}
use Rattle.std.specs.Prelude.{Option, Some, None, option_map, if◌then◌else◌}
use Rattle.std.specs.List.{list_any, All}
use Rattle.jos_base.specs.Counting.{total}
use Rattle.jos_base.specs.Environments.{bit_of}
use Rattle.fs_layout.specs.declared.numbers.TheConstants.{BLKSIZE, RECORDSIZE, BLKFILES, MAXNAMELEN, MAXFILESIZE, NDIRECT, MAXBLOCKS}
use Rattle.fs_layout.specs.FileTree.{FileAct, open_path, read_file, write_file, set_file_size, stat_file, remove_path, sync_files}
use Rattle.fs_layout.specs.FileTree.{Node, a_file, a_directory, NamedNode, FileSystem, records_from}
use Rattle.fs_layout.specs.FileTree.{named_at, node_at, with_node, without_node, blocks_of, blocks_in_use, blocks_free}
use Rattle.fs_layout.specs.FileActs.{Looked, bad_path, nowhere, missing, there, look_up, file_act, overwritten, resized, new_file}
use Rattle.fs_layout.specs.FileActs.{is_slash, has_name}
use Rattle.fs_layout.specs.DiskImage.{block_count, root_place, is_marked_free, first_data_block, is_data_block, is_good_kind}
use Rattle.fs_layout.specs.DiskImage.{is_good_name, kind_at, indirect_of, has_indirect, is_directory_at, is_empty_record, name_of}
use Rattle.fs_layout.specs.DiskImage.{blocks_needed, block_number_at, slot_count, slot_place, has_stray, has_stray_in_indirect, in_turn}
use Rattle.fs_layout.specs.DiskImage.{super_tests, none_named, has_taken_name, image_fault}
use Rattle.fs_layout.specs.DiskFiles.{IsDiskImage, file_system_of, free_blocks, node_of, records_at, named_blocks}
use Rattle.fs_layout.specs.DiskLaws.{IsReadable}
use Rattle.fs_layout.specs.LayoutLaws.{Same}
use Rattle.fs_acts.specs.BlockActs.{Put, put_byte, put_word, written, Change, puts_in_turn, plan_of, puts_of, Led, too_long}
use Rattle.fs_acts.specs.BlockActs.{astray, no_record, a_record, led_to, place_at, is_named_slot, lowest_free, overwrite, cut, fill}
use Rattle.fs_acts.specs.BlockActs.{take_indirect, take_block, give_block, give_indirect, make_record, empty_it}
use Rattle.fs_acts.specs.BlockActs.{is_damaged_super, is_damaged_record, is_damaged_number}

-- ---- the tests as counts

-- How often the record at a place names a block, and how often it and those below it do. Here an additive count takes the
-- place of the set of blocks that the tests hand on.
unfoldable pub own_times : (ℕ → ℕ) → ℕ → ℕ → ℕ
own_times byte place block =
    total (blocks_needed byte place) (λ i. bit_of (block_number_at byte place i == block))
    + bit_of (has_indirect byte place && (indirect_of byte place == block))

unfoldable pub times_named : ℕ → (ℕ → ℕ) → ℕ → ℕ → ℕ
times_named zero byte place block = own_times byte place block
times_named (suc depth) byte place block =
    own_times byte place block
    + total (if is_directory_at byte place then slot_count byte place else 0)
    (λ i. if is_empty_record byte (slot_place byte place i) then 0 else times_named depth byte (slot_place byte place i) block)

abbrev pub times_on_disk : (ℕ → ℕ) → ℕ → ℕ
times_on_disk byte block = times_named (block_count byte) byte root_place block

-- what the tests ask of one record alone
pub record IsGoodRecord (byte : ℕ → ℕ) (place : ℕ) : Type 0 where
  pub readable : IsReadable byte place
  pub indirect : has_indirect byte place ≡ true → is_data_block (block_count byte) (indirect_of byte place) ≡ true
  pub needed : NDIRECT < blocks_needed byte place → has_indirect byte place ≡ true
  pub no_stray : has_stray byte place ≡ false
  pub none_behind : has_indirect byte place ≡ true → has_stray_in_indirect byte place ≡ false

-- what they ask of one below a directory
pub record IsGoodSlot (byte : ℕ → ℕ) (directory : ℕ) (i : ℕ) : Type 0 where
  pub kind : is_good_kind (kind_at byte (slot_place byte directory i)) ≡ true
  pub named : is_good_name (name_of byte (slot_place byte directory i)) ≡ true
  pub alone : has_taken_name byte directory i ≡ false

unfoldable pub AreGood : ℕ → (ℕ → ℕ) → ℕ → Type 0
AreGood zero byte place = IsGoodRecord byte place × (is_directory_at byte place ≡ true → slot_count byte place ≡ 0)
AreGood (suc depth) byte place =
    IsGoodRecord byte place
    × ((i : ℕ) → is_named_slot byte place i ≡ true → IsGoodSlot byte place i × AreGood depth byte (slot_place byte place i))

pub record IsCounted (size : ℕ) (byte : ℕ → ℕ) : Type 0 where
  pub begins : in_turn (super_tests size byte) none_named ≡ Ok none_named
  pub records : AreGood (block_count byte) byte root_place
  pub once : (block : ℕ) → times_on_disk byte block ≤ 1
  pub in_use : (block : ℕ) → 0 < times_on_disk byte block → is_marked_free byte block ≡ false
  pub first : (block : ℕ) → block < first_data_block (block_count byte) → is_marked_free byte block ≡ false

-- The tests pass exactly where this holds. All that follows is proved of it, and never of the tests.
abbrev pub DisksAreCounted : Type 0
DisksAreCounted = (size : ℕ) (byte : ℕ → ℕ) → IsDiskImage size byte ↔ IsCounted size byte

abbrev pub NamesAreCounted : Type 0
NamesAreCounted = (size : ℕ) (byte : ℕ → ℕ) → IsDiskImage size byte → (block : ℕ) →
    bit_of (named_blocks byte block) ≡ times_on_disk byte block

-- the blocks in use, as the acts count them on the tree, and those that the bitmap says are free
abbrev pub BlocksAreCounted : Type 0
BlocksAreCounted = (size : ℕ) (byte : ℕ → ℕ) → IsDiskImage size byte →
    blocks_in_use (file_system_of byte) + free_blocks byte ≡ block_count byte

-- the act counts on the tree, and the bitmap says the same
abbrev pub FreeIsCounted : Type 0
FreeIsCounted = (size : ℕ) (byte : ℕ → ℕ) → IsDiskImage size byte → free_blocks byte ≡ blocks_free (file_system_of byte)

-- where blocks are free there is a lowest one
abbrev pub FreeIsFound : Type 0
FreeIsFound = (size : ℕ) (byte : ℕ → ℕ) → IsDiskImage size byte → 0 < free_blocks byte →
    (block : ℕ) × (lowest_free byte ≡ Some block)

-- ---- bytes that are not looked at

-- What a record says depends on its own bytes and on the blocks that it and those below it name: the rest of the disk
-- may be another.
abbrev pub RecordsAreTheirBlocks : Type 0
RecordsAreTheirBlocks = (depth : ℕ) (byte other : ℕ → ℕ) (place : ℕ) → block_count other ≡ block_count byte →
    AreGood depth byte place → Same RECORDSIZE byte place other place →
    ((block : ℕ) → 0 < times_named depth byte place block → Same BLKSIZE byte (BLKSIZE * block) other (BLKSIZE * block)) →
    AreGood depth other place × ((block : ℕ) → times_named depth other place block ≡ times_named depth byte place block)
    × (node_of (records_at depth other) other place ≡ node_of (records_at depth byte) byte place)

-- Two disks whose bytes agree within their blocks have the same faults and files.
abbrev pub SameWithin : ℕ → (ℕ → ℕ) → (ℕ → ℕ) → Type 0
SameWithin blocks byte other = (at : ℕ) → at < BLKSIZE * blocks → byte at ≡ other at

abbrev pub BlocksDecide : Type 0
BlocksDecide = (size : ℕ) (byte other : ℕ → ℕ) → IsDiskImage size byte → SameWithin (block_count byte) byte other →
    IsDiskImage size other × (file_system_of other ≡ file_system_of byte)

-- So it is with the fault of any bytes: it is told by the blocks that they count, or by the super block where a disk may
-- not have so many.
abbrev pub FaultsAreTheirBlocks : Type 0
FaultsAreTheirBlocks = (size : ℕ) (byte other : ℕ → ℕ) → SameWithin (max 2 (min (block_count byte) MAXBLOCKS)) byte other →
    image_fault size other ≡ image_fault size byte

-- ---- ways and paths

-- A node that is put where it stands changes nothing.
abbrev pub PutAgainChangesNothing : Type 0
PutAgainChangesNothing = (files : FileSystem) (way : List ℕ) (node : Node) → node_at files way ≡ Some node →
    with_node files way node ≡ files

-- A way leads to a record where it leads to a node of the tree, and this is the record's.
abbrev pub WaysLeadToRecords : Type 0
WaysLeadToRecords = (size : ℕ) (byte : ℕ → ℕ) → IsDiskImage size byte → (way : List ℕ) →
    node_at (file_system_of byte) way ≡ option_map (node_of (records_at (block_count byte) byte) byte) (place_at byte way)

-- It has the record's name, where it is not the root.
abbrev pub WaysLeadToNames : Type 0
WaysLeadToNames = (size : ℕ) (byte : ℕ → ℕ) → IsDiskImage size byte → (first : ℕ) (way : List ℕ) (place : ℕ) (named : NamedNode) →
    place_at byte (first ∷ way) ≡ Some place → named_at (file_system_of byte) (first ∷ way) ≡ Some named →
    named.name ≡ name_of byte place

-- No other way leads there.
abbrev pub PlacesHaveOneWay : Type 0
PlacesHaveOneWay = (size : ℕ) (byte : ℕ → ℕ) → IsDiskImage size byte → (way other : List ℕ) (place : ℕ) →
    place_at byte way ≡ Some place → place_at byte other ≡ Some place → way ≡ other

-- where a path leads on the disk and in the tree
abbrev pub LeadsAlike : (ℕ → ℕ) → Led → Looked → Type 0
LeadsAlike byte too_long looked = looked ≡ bad_path
LeadsAlike byte astray looked = looked ≡ nowhere
LeadsAlike byte (no_record place name) looked =
    (way : List ℕ) × (place_at byte way ≡ Some place)
    × (looked ≡ missing way (node_of (records_at (block_count byte) byte) byte place) name)
LeadsAlike byte (a_record place way) looked =
    (place_at byte way ≡ Some place) × (looked ≡ there way (node_of (records_at (block_count byte) byte) byte place))

abbrev pub PathsLeadAlike : Type 0
PathsLeadAlike = (size : ℕ) (byte : ℕ → ℕ) → IsDiskImage size byte → (path : List ℕ) →
    LeadsAlike byte (led_to byte path) (look_up (file_system_of byte) path)

-- ---- puts

abbrev pub PrefixesAreWritten : Type 0
PrefixesAreWritten = (first rest : List Put) (byte : ℕ → ℕ) → written (first ++ rest) byte ≡ written rest (written first byte)

-- A put lies within so many blocks; a word stands at a multiple of four and is below 2^32.
abbrev pub IsWithin : ℕ → Put → Type 0
IsWithin blocks (put_byte place value) = place < BLKSIZE * blocks
IsWithin blocks (put_word place word) = (place + 4 ≤ BLKSIZE * blocks) × (place % 4 ≡ 0) × (word < 2 ^ 32)

-- Every put of an act lies within the disk's blocks.
abbrev pub PutsStayWithin : Type 0
PutsStayWithin = (size : ℕ) (byte : ℕ → ℕ) (is_open : List ℕ → Bool) (act : FileAct) → IsDiskImage size byte →
    All (IsWithin (block_count byte)) (puts_of is_open byte act)

-- ---- changes

-- After the puts the disk has no fault, and these files.
pub record Gives (size : ℕ) (byte : ℕ → ℕ) (files : FileSystem) : Type 0 where
  pub sound : IsDiskImage size byte
  pub tree : file_system_of byte ≡ files

-- a disk, and a file or a directory of it
pub record Holds (size : ℕ) (byte : ℕ → ℕ) (way : List ℕ) (place : ℕ) (node : Node) : Type 0 where
  pub sound : IsDiskImage size byte
  pub stands : place_at byte way ≡ Some place
  pub is : node_at (file_system_of byte) way ≡ Some node

-- What a way leads to stands on another disk where it stood, and is a directory there exactly where it was one.
abbrev pub Stays : (ℕ → ℕ) → (ℕ → ℕ) → List ℕ → ℕ → Type 0
Stays byte other way place = (place_at other way ≡ Some place) × (is_directory_at other place ≡ is_directory_at byte place)

-- Another disk has another node at a way, and all records stand where they stood.
pub record NowHas (size : ℕ) (byte other : ℕ → ℕ) (way : List ℕ) (node : Node) : Type 0 where
  pub gives : Gives size other (with_node (file_system_of byte) way node)
  pub stays : place_at other way ≡ place_at byte way
  pub all_stay : (at : List ℕ) (place : ℕ) → place_at byte at ≡ Some place → Stays byte other at place

-- Another disk has no node at a way any more, and all other records stand where they stood.
pub record NowLacks (size : ℕ) (byte other : ℕ → ℕ) (way : List ℕ) : Type 0 where
  pub gives : Gives size other (without_node (file_system_of byte) way)
  pub others_stay : (at : List ℕ) (place : ℕ) → place_at byte at ≡ Some place → Stays byte other at place ⊎ (at ≡ way)

-- a change puts another node at a way
abbrev pub Becomes : ℕ → (ℕ → ℕ) → List ℕ → Change → Node → Type 0
Becomes size byte way change node = NowHas size byte (written (change byte) byte) way node

abbrev pub OverwritesAreActs : Type 0
OverwritesAreActs = (size : ℕ) (byte : ℕ → ℕ) (way : List ℕ) (place : ℕ) (bytes : List ℕ) (indirect : Bool) →
    Holds size byte way place (a_file bytes indirect) → (at : ℕ) (new : List ℕ) → at + length new ≤ length bytes →
    Becomes size byte way (overwrite place at new) (a_file (overwritten bytes at new) indirect)

abbrev pub CutsAreActs : Type 0
CutsAreActs = (size : ℕ) (byte : ℕ → ℕ) (way : List ℕ) (place : ℕ) (bytes : List ℕ) (indirect : Bool) →
    Holds size byte way place (a_file bytes indirect) → (end : ℕ) → end ≤ length bytes → blocks_of end ≡ blocks_of (length bytes) →
    Becomes size byte way (cut place end) (a_file (take end bytes) indirect)

abbrev pub FillsAreActs : Type 0
FillsAreActs = (size : ℕ) (byte : ℕ → ℕ) (way : List ℕ) (place : ℕ) (bytes : List ℕ) (indirect : Bool) →
    Holds size byte way place (a_file bytes indirect) → (end : ℕ) → length bytes ≤ end → blocks_of end ≡ blocks_of (length bytes) →
    Becomes size byte way (fill place end) (a_file (resized bytes end) indirect)

-- of a file and of a directory
abbrev pub marked : Node → Bool → Node
marked (a_file bytes indirect) mark = a_file bytes mark
marked (a_directory records indirect) mark = a_directory records mark

abbrev pub TakenIndirectIsMarked : Type 0
TakenIndirectIsMarked = (size : ℕ) (byte : ℕ → ℕ) (way : List ℕ) (place : ℕ) (node : Node) →
    Holds size byte way place node → blocks_needed byte place ≡ NDIRECT → 0 < free_blocks byte →
    Becomes size byte way (take_indirect place) (marked node true)

abbrev pub GivenIndirectIsUnmarked : Type 0
GivenIndirectIsUnmarked = (size : ℕ) (byte : ℕ → ℕ) (way : List ℕ) (place : ℕ) (node : Node) →
    Holds size byte way place node → blocks_needed byte place ≤ NDIRECT →
    Becomes size byte way (give_indirect place) (marked node false)

-- one more block: the size is that of whole blocks, and where these are ten or more there is an indirect block
pub record HasRoom (byte : ℕ → ℕ) (place : ℕ) (length : ℕ) (end : ℕ) : Type 0 where
  pub whole : length % BLKSIZE ≡ 0
  pub more : length < end
  pub short : end ≤ MAXFILESIZE
  pub counted : (blocks_of length < NDIRECT) ⊎ (has_indirect byte place ≡ true)
  pub free : 0 < free_blocks byte

abbrev pub TakenBlocksAreZeros : Type 0
TakenBlocksAreZeros = (size : ℕ) (byte : ℕ → ℕ) (way : List ℕ) (place : ℕ) (bytes : List ℕ) (indirect : Bool) (end : ℕ) →
    Holds size byte way place (a_file bytes indirect) → HasRoom byte place (length bytes) end →
    Becomes size byte way (take_block place end) (a_file (resized bytes (min end (length bytes + BLKSIZE))) indirect)

abbrev pub TakenBlocksAreEmptyRecords : Type 0
TakenBlocksAreEmptyRecords = (size : ℕ) (byte : ℕ → ℕ) (way : List ℕ) (place : ℕ) (list : List (Option NamedNode)) (indirect : Bool) →
    Holds size byte way place (a_directory (records_from list) indirect) →
    let end = RECORDSIZE * length list + BLKSIZE in
    HasRoom byte place (RECORDSIZE * length list) end →
    Becomes size byte way (take_block place end) (a_directory (records_from (list ++ replicate BLKFILES None)) indirect)

abbrev pub GivenBlocksAreLost : Type 0
GivenBlocksAreLost = (size : ℕ) (byte : ℕ → ℕ) (way : List ℕ) (place : ℕ) (bytes : List ℕ) (indirect : Bool) →
    Holds size byte way place (a_file bytes indirect) → 0 < length bytes →
    Becomes size byte way (give_block place) (a_file (take (BLKSIZE * (blocks_of (length bytes) - 1)) bytes) indirect)

-- a name that a record can have: some bytes, none of them a slash or 0, with room for a NUL
pub record IsRecordName (name : List ℕ) : Type 0 where
  pub some : 0 < length name
  pub short : length name < MAXNAMELEN
  pub no_slash : list_any is_slash name ≡ false
  pub no_nul : list_any (λ b. b == 0) name ≡ false

abbrev pub MadeRecordsAreFiles : Type 0
MadeRecordsAreFiles = (size : ℕ) (byte : ℕ → ℕ) (way : List ℕ) (place : ℕ) (list : List (Option NamedNode)) (indirect : Bool) →
    Holds size byte way place (a_directory (records_from list) indirect) → (i : ℕ) (name : List ℕ) → i < length list →
    is_empty_record byte (slot_place byte place i) ≡ true → IsRecordName name → list_any (has_name name) list ≡ false →
    Becomes size byte way (make_record place i name) (a_directory (records_from (slice_set list i (Some (new_file name)))) indirect)

abbrev pub EmptyFilesAreRemoved : Type 0
EmptyFilesAreRemoved = (size : ℕ) (byte : ℕ → ℕ) (first : ℕ) (way : List ℕ) (place : ℕ) →
    Holds size byte (first ∷ way) place (a_file [] false) →
    NowLacks size byte (written (empty_it place byte) byte) (first ∷ way)

-- ---- acts

-- A path has no 0 in it. In the tree a name may have one, and on a disk it would end there.
abbrev pub HasString : FileAct → Type 0
HasString (open_path path mode) = list_any (λ b. b == 0) path ≡ false
HasString (read_file way at n) = ⊤
HasString (write_file way at bytes) = ⊤
HasString (set_file_size way size) = ⊤
HasString (stat_file way) = ⊤
HasString (remove_path path) = ⊤
HasString sync_files = ⊤

-- An act on blocks is the act on the tree.
pub record IsAct (size : ℕ) (is_open : List ℕ → Bool) (byte : ℕ → ℕ) (act : FileAct) : Type 0 where
  pub answer : (plan_of is_open byte act).answer ≡ (file_act is_open (file_system_of byte) act).answer
  pub bytes : (plan_of is_open byte act).bytes ≡ (file_act is_open (file_system_of byte) act).bytes
  pub gives : Gives size (written (puts_of is_open byte act) byte) (file_act is_open (file_system_of byte) act).files

abbrev pub BlockActsAreActs : Type 0
BlockActsAreActs = (size : ℕ) (byte : ℕ → ℕ) (is_open : List ℕ → Bool) (act : FileAct) →
    IsDiskImage size byte → HasString act → IsAct size is_open byte act

-- the file that an act removes
abbrev pub IsRemoved : (ℕ → ℕ) → FileAct → List ℕ → ℕ → Type 0
IsRemoved byte (open_path path mode) way place = ⊥
IsRemoved byte (read_file at from n) way place = ⊥
IsRemoved byte (write_file at from bytes) way place = ⊥
IsRemoved byte (set_file_size at size) way place = ⊥
IsRemoved byte (stat_file at) way place = ⊥
IsRemoved byte (remove_path path) way place = led_to byte path ≡ a_record place way
IsRemoved byte sync_files way place = ⊥

-- No act moves a record: what a way leads to stands where it stood, but for the file that is removed, where the act answers 0.
abbrev pub PlacesStay : Type 0
PlacesStay = (size : ℕ) (byte : ℕ → ℕ) (is_open : List ℕ → Bool) (act : FileAct) → IsDiskImage size byte → HasString act →
    (way : List ℕ) (place : ℕ) → place_at byte way ≡ Some place →
    Stays byte (written (puts_of is_open byte act) byte) way place
    ⊎ (IsRemoved byte act way place × ((plan_of is_open byte act).answer ≡ 0))

-- Between two changes the disk has no fault.
abbrev pub ChangesKeepDisks : Type 0
ChangesKeepDisks = (size : ℕ) (byte : ℕ → ℕ) (is_open : List ℕ → Bool) (act : FileAct) (k : ℕ) →
    IsDiskImage size byte → HasString act →
    IsDiskImage size (written (puts_in_turn (take k (plan_of is_open byte act).changes) byte) byte)

-- An act that is begun anew there, with changes still to come, puts exactly what is left.
abbrev pub ActsGoOn : Type 0
ActsGoOn = (size : ℕ) (byte : ℕ → ℕ) (is_open : List ℕ → Bool) (act : FileAct) (k : ℕ) →
    IsDiskImage size byte → HasString act → k < length (plan_of is_open byte act).changes →
    let now = written (puts_in_turn (take k (plan_of is_open byte act).changes) byte) byte in
    puts_of is_open now act ≡ puts_in_turn (drop k (plan_of is_open byte act).changes) now

-- ---- damage

-- On a disk without a fault no test of damage fails, of the super block, the records and the numbers within their sizes.
abbrev pub DisksAreUndamaged : Type 0
DisksAreUndamaged = (size : ℕ) (byte : ℕ → ℕ) → IsDiskImage size byte → (is_damaged_super byte ≡ false)
    × ((way : List ℕ) (place : ℕ) → place_at byte way ≡ Some place → (is_damaged_record byte place ≡ false)
    × (has_indirect byte place ≡ true → is_damaged_number byte (indirect_of byte place) ≡ false)
    × ((i : ℕ) → i < blocks_needed byte place → is_damaged_number byte (block_number_at byte place i) ≡ false))
