-- The abstract system: what the programs of `run` see. A fork copies memory at once, a shared page is one page
-- wherever it stands, a file is a list of bytes and a pipe a list of at most 32. There are no frames here, no page
-- tables, no caches and no steps that nobody sees.
-- (MIT 6.828, labs 4 and 5; that the library's whole behaviour is that of this system is this system's own.)
use Rattle.std.specs.Prelude.{ℕ, not, Bool, true, false, List, ◌++◌, Option}
use Rattle.jos_base.specs.declared.registers.Regs.{Regs}
use Rattle.jos_base.specs.Words.{upd}
use Rattle.lib_os.specs.declared.service.Service.{Service}
use Rattle.fs_layout.specs.FileTree.{FileSystem, FileAct}

-- ---- memory

-- A page of an environment. A shared page has a name, and its bytes stand in the state, once for all who have it.
pub data Page : Type 0 where
  -- the bytes, and whether they may be written
  own : List ℕ → Bool → Page
  -- the name, and whether it may be written by this environment
  named : ℕ → Bool → Page

-- ---- what a descriptor names

-- A file that is open. Which one is said by the places of the records on its way from the root.
pub record OpenFile : Type 0 where
  pub way : List ℕ
  -- the place of the next byte
  pub offset : ℕ
  -- 0 for reading, 1 for writing, 2 for both
  pub mode : ℕ
  -- how many bytes it had when it was opened
  pub size : ℕ

pub data Object : Type 0 where
  file : OpenFile → Object
  terminal : Object
  read_end : ℕ → Object
  write_end : ℕ → Object

-- ---- programs

-- The shell stands in a script: the line that it has read, and what the calls for it have answered so far. From the two
-- follows which call is next.
pub record ShellPlace : Type 0 where
  pub line : List ℕ
  pub answers : List ℕ

pub data ProgramState : Type 0 where
  guest : Regs → ProgramState
  shell : ShellPlace → ProgramState

-- ---- where a program stands

-- a message that came to one who waits: its sender, the word, and 0 with no page, 1 with one that may be read, 2 with
-- one that may be written
pub record Message : Type 0 where
  pub sender : ℕ
  pub value : ℕ
  pub page : ℕ

-- What the file server is asked for: an act on the files, with the object whose offset goes on by what is read or
-- written; or that an object's offset be another.
pub data Request : Type 0 where
  act : FileAct → Option ℕ → Request
  seek : ℕ → ℕ → Request

-- How far a service is.
pub data Stage : Type 0 where
  -- nothing is done yet
  entered : Stage
  -- so many bytes of what it was given are taken
  gathering : List ℕ → Stage
  -- bytes are still to be put at an address, and then this is the answer
  delivering : ℕ → List ℕ → ℕ → Stage
  -- fork and spawn: the slot of the child, which is not born yet
  bearing : ℕ → Stage
  -- receive: waits
  receiving : Stage
  -- receive: this came
  received : Message → Stage
  -- the server is asked, and then the program waits for the reply
  asked : Stage
  awaiting : Stage
  -- the server's reply: bytes that are to be put where the program wants them, and the answer
  replied : List ℕ → ℕ → Stage
  -- a pipe: the bytes that are taken from it, or still to be put, and how many that were
  moving : List ℕ → ℕ → Stage
  -- spawn, behind its path: so many bytes of an address or of a string are taken; none is where nothing is asked and nothing has come
  taking : List ℕ → Stage

pub data Phase : Type 0 where
  -- at its next instruction
  at_guest : Phase
  -- after a page fault at this address by the instruction at that one; its next step ends it
  faulted : ℕ → ℕ → Phase
  in_service : Service → Stage → Phase

-- What spawn has of the program that it starts: the words that this is given, and of its file the bytes of the ELF header and those of the
-- table of program headers.
pub record ImageRead : Type 0 where
  pub words : List (List ℕ)
  pub header : List ℕ
  pub table : List ℕ

-- What spawn has found out, beside how far it is with the bytes and the reply that it takes.
pub data Spawning : Type 0 where
  -- the path, and the addresses of words
  listing : List ℕ → List ℕ → Spawning
  -- the path, the addresses of the words that are still to be taken, and the words that are
  quoting : List ℕ → List ℕ → List (List ℕ) → Spawning
  -- the file is asked for, for a program with these words
  opening : List (List ℕ) → Spawning
  -- with its descriptor, the header and the table are asked for
  heading : ℕ → List (List ℕ) → Spawning
  tabling : ℕ → List (List ℕ) → List ℕ → Spawning
  -- the child is made, in this slot, and so many pieces of the file are read
  loading : ℕ → ImageRead → ℕ → List (List ℕ) → Spawning
  -- the descriptor is dropped, and the child may be born
  closed : ImageRead → ℕ → List (List ℕ) → Spawning
  -- it will answer this error: the descriptor is still to be dropped, or it is
  dropping : ℕ → ℕ → Spawning
  refusing : ℕ → Spawning

-- ---- slots

pub record Born : Type 0 where
  pub id : ℕ
  pub parent : ℕ
  pub program : ProgramState
  -- by the numbers of pages
  pub memory : ℕ → Option Page
  -- the regions of 4 MB in which it ever had a page
  pub regions : ℕ → Bool
  -- the name of the object of each descriptor that is open
  pub descriptors : ℕ → Option ℕ
  pub phase : Phase
  -- in spawn, behind its path
  pub spawning : Option Spawning
  -- it has no turn before another environment's step
  pub blocked : Bool

pub data AbstractSlot : Type 0 where
  -- with the last id
  free : ℕ → AbstractSlot
  -- a child that is being made: its id, and its parent's
  unborn : ℕ → ℕ → AbstractSlot
  born : Born → AbstractSlot
  -- the server's, which is slot 0, with its id
  serving : ℕ → AbstractSlot

-- ---- the file server

pub data Server : Type 0 where
  -- it is not yet ready for a request, at the beginning and where it has replied
  leaving : Server
  idle : Server
  -- for this client and its request it looks at a place of the table of open files
  looking : ℕ → Request → ℕ → Server
  -- it has taken a place for the client, where the request wants one
  busy : ℕ → Request → Option ℕ → Server
  -- it has acted: the client, the answer, the bytes that are handed back, and the object that is opened
  acted : ℕ → ℕ → List ℕ → Option ℕ → Server

-- a place of the table of open files
pub record TablePlace : Type 0 where
  -- the object that has it
  pub held_by : Option ℕ
  -- whether any ever had it
  pub used : Bool

-- ---- the state

pub record AbstractState : Type 0 where
  pub slots : ℕ → AbstractSlot
  -- the next to be given first
  pub free_slots : List ℕ
  -- the bytes of the shared pages, by their names
  pub shared : ℕ → List ℕ
  pub objects : ℕ → Object
  -- the bytes that a pipe holds, by its name
  pub pipes : ℕ → List ℕ
  -- the next name of a page, an object or a pipe
  pub next_name : ℕ
  pub files : FileSystem
  pub opened : ℕ → TablePlace
  pub server : Server
  -- the bytes that were printed
  pub console : List ℕ
  -- the bytes that the console still has to give
  pub input : List ℕ
  -- the slot that had the last turn
  pub last : Option ℕ
  -- how many turns were begun
  pub turns : ℕ

abbrev pub with_slot : AbstractState → ℕ → AbstractSlot → AbstractState
with_slot a n slot = record a { slots = upd a.slots n slot }

abbrev pub with_born : AbstractState → ℕ → Born → AbstractState
with_born a n b = with_slot a n (born b)

abbrev pub with_printed : AbstractState → List ℕ → AbstractState
with_printed a bytes = record a { console = a.console ++ bytes }

-- ---- who is there

abbrev pub slot_id : AbstractSlot → ℕ
slot_id (free id) = id
slot_id (unborn id parent) = id
slot_id (born b) = b.id
slot_id (serving id) = id

abbrev pub is_live : AbstractSlot → Bool
is_live (free id) = false
is_live (unborn id parent) = true
is_live (born b) = true
is_live (serving id) = true

abbrev pub is_idle : Server → Bool
is_idle idle = true
is_idle _ = false

abbrev pub can_run_as : Server → AbstractSlot → Bool
can_run_as server (free id) = false
can_run_as server (unborn id parent) = false
can_run_as server (born b) = not b.blocked
can_run_as server (serving id) = not (is_idle server)

-- a slot that may have the next turn
abbrev pub can_run : AbstractState → ℕ → Bool
can_run a n = can_run_as a.server (a.slots n)
