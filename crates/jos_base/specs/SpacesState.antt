-- Address spaces as maps, and what becomes of them when frames are taken, pages inserted and removed, and spaces
-- made and destroyed. A space is named by the frame of its directory.
-- (Intel 80386 Programmer's Reference Manual, 1986, section 5.2; MIT 6.828, kern/pmap.c.)
use Rattle.std.specs.Prelude.{ℕ, ◌+◌, ◌-◌, ◌/◌, ◌==◌, nat_lt, zero, suc, Bool, true, false, List, [], ◌∷◌, take, drop, length}
use Rattle.std.specs.Prelude.{◌++◌, replicate, Option, Some, None, if◌then◌else◌}
use Rattle.std.specs.Option.{option_map}
use Rattle.jos_base.specs.declared.numbers.TheConstants.{PGSIZE, NPTENTRIES}
use Rattle.jos_base.specs.Words.{upd}
use Rattle.jos_base.specs.Reach.{Entry}
use Rattle.jos_base.specs.Counting.{Entries, page_count, page_limit}

-- what a frame is used for: each has one use
pub data Use : Type 0 where
  reserved : Use
  free : Use
  -- handed out, neither inserted nor given back
  fresh : Use
  page : Use
  directory : Use
  table : Use

abbrev pub is_directory : Use → Bool
is_directory directory = true
is_directory _ = false

-- the table of a region of 1,024 pages, and whether the region was accessed
pub record Region : Type 0 where
  pub table : ℕ
  pub accessed : Bool

pub record SpacesState : Type 0 where
  -- how many frames there are
  pub frames : ℕ
  -- of every frame
  pub uses : ℕ → Use
  -- the free frames, the next to be handed out first
  pub free : List ℕ
  -- the bytes of the frames that are pages or fresh; of others none
  pub pages : ℕ → List ℕ
  -- from a directory's frame and a directory index below that of UTOP
  pub regions : ℕ → ℕ → Option Region
  -- from a directory's frame and the number of a page below UTOP
  pub entries : Entries

-- the map of two indices with this value at both, and as it was elsewhere
abbrev pub put : {V : Type 0} → (ℕ → ℕ → V) → ℕ → ℕ → V → ℕ → ℕ → V
put f a b v = upd f a (upd (f a) b v)

-- the frames that are directories, each of a space in use
abbrev pub directories : SpacesState → ℕ → Bool
directories s frame = is_directory (s.uses frame)

-- ---- counts

-- a frame counts once more where it is reserved, a directory or a table
abbrev pub own_count : Use → ℕ
own_count reserved = 1
own_count directory = 1
own_count table = 1
own_count _ = 0

abbrev pub reference_count : SpacesState → ℕ → ℕ
reference_count s frame = page_count s.entries frame + own_count (s.uses frame)

-- ---- frames handed out and given back

-- a frame goes to the head of the free list
abbrev pub freed : SpacesState → ℕ → SpacesState
freed s frame = record s { uses = upd s.uses frame free; free = frame ∷ s.free; pages = upd s.pages frame [] }

-- a page that no entry names is freed
abbrev pub released : SpacesState → Option ℕ → SpacesState
released s None = s
released s (Some frame) = if page_count s.entries frame == 0 then freed s frame else s

-- the head of the list is handed out with these bytes
abbrev pub taken : SpacesState → ℕ → List ℕ → List ℕ → SpacesState
taken s frame rest bytes = record s { uses = upd s.uses frame fresh; free = rest; pages = upd s.pages frame bytes }

-- a page of zeros
unfoldable pub zero_page : List ℕ
zero_page = replicate PGSIZE 0

abbrev pub fresh_from : SpacesState → List ℕ → Option (ℕ × SpacesState)
fresh_from s [] = None
fresh_from s (frame ∷ rest) = Some (frame, taken s frame rest zero_page)

-- the head of the list as a fresh frame of zeros, with the state after it; None where the list is empty
unfoldable pub fresh_of : SpacesState → Option (ℕ × SpacesState)
fresh_of s = fresh_from s s.free

abbrev pub created_from : SpacesState → List ℕ → Option (ℕ × SpacesState)
created_from s [] = None
created_from s (frame ∷ rest) =
    Some (frame, record s { uses = upd s.uses frame directory; free = rest; pages = upd s.pages frame [] })

-- the head of the list as the directory of a space that has no pages; None where the list is empty
unfoldable pub created : SpacesState → Option (ℕ × SpacesState)
created s = created_from s s.free

abbrev pub with_page_bytes : SpacesState → ℕ → List ℕ → SpacesState
with_page_bytes s frame bytes = record s { pages = upd s.pages frame bytes }

-- a page with these bytes from an offset on, and as it was round them
abbrev pub overlaid : List ℕ → ℕ → List ℕ → List ℕ
overlaid old offset bytes = take offset old ++ (bytes ++ drop (offset + length bytes) old)

-- ---- insertion

abbrev pub frame_of : Option Entry → Option ℕ
frame_of None = None
frame_of (Some entry) = Some entry.frame

abbrev pub with_entry : SpacesState → ℕ → ℕ → Entry → SpacesState
with_entry s space number entry =
    record s { uses = upd s.uses entry.frame page; entries = put s.entries space number (Some entry) }

-- The page's entry replaces what stood there. A frame that stood there is freed if no entry names it then; so the
-- same frame inserted again is kept.
unfoldable pub mapped : SpacesState → ℕ → ℕ → Entry → SpacesState
mapped s space number entry = released (with_entry s space number entry) (frame_of (s.entries space number))

-- a table for the region, of a frame that was taken from the list
abbrev pub with_table : SpacesState → ℕ → ℕ → ℕ → SpacesState
with_table s space index frame = record s {
  uses = upd s.uses frame table;
  pages = upd s.pages frame [];
  regions = put s.regions space index (Some (record { table = frame; accessed = false }));
}

abbrev pub tabled_new : SpacesState → List ℕ → ℕ → ℕ → Option SpacesState
tabled_new s [] space index = None
tabled_new s (frame ∷ rest) space index = Some (with_table (record s { free = rest }) space index frame)

abbrev pub tabled_by : SpacesState → Option Region → ℕ → ℕ → Option SpacesState
tabled_by s (Some region) space index = Some s
tabled_by s None space index = tabled_new s s.free space index

-- where the region has no table, the head of the list becomes its table; None where the list is empty then
unfoldable pub tabled : SpacesState → ℕ → ℕ → Option SpacesState
tabled s space index = tabled_by s (s.regions space index) space index

unfoldable pub inserted : SpacesState → ℕ → ℕ → Entry → Option SpacesState
inserted s space number entry = option_map (λ t. mapped t space number entry) (tabled s space (number / NPTENTRIES))

-- a fresh page of zeros is inserted, with these bits
abbrev pub allocated_in : Option (ℕ × SpacesState) → ℕ → ℕ → ℕ → Option (ℕ × SpacesState)
allocated_in None space number perm = None
allocated_in (Some f) space number perm =
    option_map (λ t. (f.0, t)) (inserted f.1 space number (record { frame = f.0; perm = perm }))

-- its frame is taken before its table's; None where the list is empty at either
unfoldable pub allocated : SpacesState → ℕ → ℕ → ℕ → Option (ℕ × SpacesState)
allocated s space number perm = allocated_in (fresh_of s) space number perm

-- ---- removal

abbrev pub without_entry : SpacesState → ℕ → ℕ → SpacesState
without_entry s space number = record s { entries = put s.entries space number None }

-- the page is removed, if there is one; a frame that no entry names then is freed
unfoldable pub unmapped : SpacesState → ℕ → ℕ → SpacesState
unmapped s space number = released (without_entry s space number) (frame_of (s.entries space number))

-- the pages below a number are removed in rising order
unfoldable pub pages_removed : SpacesState → ℕ → ℕ → SpacesState
pages_removed s space zero = s
pages_removed s space (suc n) = unmapped (pages_removed s space n) space n

abbrev pub without_region : SpacesState → ℕ → ℕ → Option Region → SpacesState
without_region s space index None = s
without_region s space index (Some region) =
    freed (record s { regions = put s.regions space index None }) region.table

-- the tables below a directory index are freed in rising order
unfoldable pub tables_freed : SpacesState → ℕ → ℕ → SpacesState
tables_freed s space zero = s
tables_freed s space (suc n) =
    without_region (tables_freed s space n) space n ((tables_freed s space n).regions space n)

-- directory indices below that of UTOP
abbrev pub region_limit : ℕ
region_limit = 0x3bb

-- The space is destroyed: its pages are removed, then its tables are freed, and then its directory.
unfoldable pub destroyed : SpacesState → ℕ → SpacesState
destroyed s space = freed (tables_freed (pages_removed s space page_limit) space region_limit) space

-- ---- the beginning

-- numbers from a first one upwards
unfoldable pub rising : ℕ → ℕ → List ℕ
rising first zero = []
rising first (suc n) = first ∷ rising (first + 1) n

-- the frames of the count records, 512 in each
abbrev pub count_frames : ℕ → ℕ
count_frames frames = (frames + 511) / 512

-- frame 0, 16 frames of environment records, those of the count records, and two tables of windows
abbrev pub reserved_frames : ℕ → ℕ
reserved_frames frames = count_frames frames + 19

-- so many frames: the first are reserved, and the others free in rising order
unfoldable pub first_spaces : ℕ → SpacesState
first_spaces frames = record {
  frames = frames;
  uses = λ f. if nat_lt f (reserved_frames frames) then reserved else if nat_lt f frames then free else reserved;
  free = rising (reserved_frames frames) (frames - reserved_frames frames);
  pages = λ f. [];
  regions = λ d r. None;
  entries = λ d p. None;
}
