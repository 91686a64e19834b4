-- The files of a disk as a tree: what a directory and a file are, how a way leads to them, how many blocks of the disk
-- they take, and what may be asked of the file server. Which blocks they take is not told here.
-- (MIT 6.828, lab 5: inc/fs.h and fs/fs.c.)
use Rattle.std.specs.Prelude.{ℕ, ◌+◌, ◌-◌, ◌*◌, ◌/◌, nat_lt, Bool, List, [], ◌∷◌, length, codes}
use Rattle.std.specs.Prelude.{Option, Some, None, option_map, option_and_then, slice_index_or, slice_set, if◌then◌else◌}
use Rattle.fs_layout.specs.declared.numbers.TheConstants.{BLKSIZE, BLKBITSIZE, RECORDSIZE, NDIRECT}

-- ---- the tree

mutual
  -- A file is its bytes, a directory is its records. Each says whether it has an indirect block.
  pub data Node : Type 0 where
    a_file : List ℕ → Bool → Node
    a_directory : Records → Bool → Node

  -- The records of a directory, in their order: each is empty, or has a name and the node of that name. Below they are
  -- read and written as a list, by `listed` and `records_from`.
  pub data Records : Type 0 where
    no_more : Records
    empty_record : Records → Records
    named_record : List ℕ → Node → Records → Records

-- what a record has that is not empty; the name is without its NUL
pub record NamedNode : Type 0 where
  pub name : List ℕ
  pub node : Node

-- the records as a list
unfoldable pub listed : Records → List (Option NamedNode)
listed no_more = []
listed (empty_record rest) = None ∷ listed rest
listed (named_record name node rest) = Some (record { name = name; node = node }) ∷ listed rest

-- and a list as records
unfoldable pub records_from : List (Option NamedNode) → Records
records_from [] = no_more
records_from (None ∷ rest) = empty_record (records_from rest)
records_from (Some named ∷ rest) = named_record named.name named.node (records_from rest)

-- the files of a disk
pub record FileSystem : Type 0 where
  -- the root, which is a directory, with all that stands below it
  pub root : Node
  -- the blocks of the disk
  pub blocks : ℕ
  -- how many blocks are in use, though no record and no indirect block names them, beside the boot block, the super
  -- block and the bitmap
  pub unnamed : ℕ

-- ---- one node

-- a file has no records
abbrev pub records_in : Node → List (Option NamedNode)
records_in (a_file bytes indirect) = []
records_in (a_directory records indirect) = listed records

-- a directory with other records
abbrev pub with_records : Node → List (Option NamedNode) → Node
with_records (a_file bytes indirect) list = a_file bytes indirect
with_records (a_directory records indirect) list = a_directory (records_from list) indirect

-- the record at a place; past the end it is as an empty one
abbrev pub record_at : Node → ℕ → Option NamedNode
record_at node place = slice_index_or (records_in node) place None

-- a directory with another record at a place
abbrev pub with_record : Node → ℕ → Option NamedNode → Node
with_record node place entry = with_records node (slice_set (records_in node) place entry)

-- ---- ways

-- A way names a node by the places of the records that lead to it from the root on. The root has the empty way.

-- the root as though a record named it
abbrev pub root_record : FileSystem → NamedNode
root_record s = record { name = codes "/"; node = s.root }

-- what stands at a way that begins here
unfoldable pub named_from : List ℕ → NamedNode → Option NamedNode
named_from [] here = Some here
named_from (place ∷ way) here = option_and_then (named_from way) (record_at here.node place)

-- the name and the node at a way
abbrev pub named_at : FileSystem → List ℕ → Option NamedNode
named_at s way = named_from way (root_record s)

-- the node at a way
abbrev pub node_at : FileSystem → List ℕ → Option Node
node_at s way = option_map (λ (found : NamedNode). found.node) (named_at s way)

-- how many bytes a file has; what is none has 0
abbrev pub size_of : Option Node → ℕ
size_of None = 0
size_of (Some (a_file bytes indirect)) = length bytes
size_of (Some (a_directory records indirect)) = 0

abbrev pub file_size : FileSystem → List ℕ → ℕ
file_size s way = size_of (node_at s way)

-- a record with its node changed; an empty one stays empty
abbrev pub node_changed : (Node → Node) → Option NamedNode → Option NamedNode
node_changed change entry = option_map (λ (named : NamedNode). record named { node = change named.node }) entry

-- the tree from here on, with another node at a way
unfoldable pub replaced : List ℕ → Node → Node → Node
replaced [] new here = new
replaced (place ∷ way) new here = with_record here place (node_changed (replaced way new) (record_at here place))

-- the tree from here on, with the record at a way empty; no record names the root
unfoldable pub emptied : List ℕ → Node → Node
emptied [] here = here
emptied (place ∷ []) here = with_record here place None
emptied (place ∷ next ∷ way) here = with_record here place (node_changed (emptied (next ∷ way)) (record_at here place))

-- the file system with another node at a way
abbrev pub with_node : FileSystem → List ℕ → Node → FileSystem
with_node s way new = record s { root = replaced way new s.root }

-- the file system without what stood at a way
abbrev pub without_node : FileSystem → List ℕ → FileSystem
without_node s way = record s { root = emptied way s.root }

-- ---- blocks

-- how many blocks so many bytes take
abbrev pub blocks_of : ℕ → ℕ
blocks_of size = (size + (BLKSIZE - 1)) / BLKSIZE

-- whether these are more than a record names by itself
abbrev pub needs_indirect : ℕ → Bool
needs_indirect size = nat_lt NDIRECT (blocks_of size)

-- the bytes of a directory, in which empty records count
abbrev pub directory_size : List (Option NamedNode) → ℕ
directory_size list = RECORDSIZE * length list

-- the blocks for so many bytes, and the indirect block, where there is one
abbrev pub blocks_taken : ℕ → Bool → ℕ
blocks_taken size indirect = blocks_of size + (if indirect then 1 else 0)

-- the blocks of a node and of all that stands below it
unfoldable mutual
  pub tree_blocks : Node → ℕ
  tree_blocks (a_file bytes indirect) = blocks_taken (length bytes) indirect
  tree_blocks (a_directory records indirect) =
      blocks_taken (directory_size (listed records)) indirect + records_blocks records

  pub records_blocks : Records → ℕ
  records_blocks no_more = 0
  records_blocks (empty_record rest) = records_blocks rest
  records_blocks (named_record name node rest) = tree_blocks node + records_blocks rest

-- the blocks of the bitmap, by the blocks of the disk
abbrev pub bitmap_blocks : ℕ → ℕ
bitmap_blocks blocks = (blocks + (BLKBITSIZE - 1)) / BLKBITSIZE

-- the blocks in use: the boot block and the super block, the bitmap, the tree, and those that nothing names
abbrev pub blocks_in_use : FileSystem → ℕ
blocks_in_use s = 2 + bitmap_blocks s.blocks + tree_blocks s.root + s.unnamed

abbrev pub blocks_free : FileSystem → ℕ
blocks_free s = s.blocks - blocks_in_use s

-- ---- requests

-- What the file server may be asked for. A path is a list of bytes, and a file is named by its way.
pub data FileAct : Type 0 where
  -- the path, and the mode
  open_path : List ℕ → ℕ → FileAct
  -- the file, the place of the first byte, and how many bytes
  read_file : List ℕ → ℕ → ℕ → FileAct
  -- the file, the place of the first byte, and the bytes
  write_file : List ℕ → ℕ → List ℕ → FileAct
  -- the file, and the size that it is to have
  set_file_size : List ℕ → ℕ → FileAct
  -- the file
  stat_file : List ℕ → FileAct
  -- the path
  remove_path : List ℕ → FileAct
  sync_files : FileAct
