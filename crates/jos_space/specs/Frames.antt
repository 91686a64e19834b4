-- The frames as lists, and what they are in the kernel's state: what each list holds is looked up by its place.
-- (Intel 80386 Programmer's Reference Manual, 1986, section 5.2: directories, tables and their entries.)
use Rattle.std.specs.Prelude.{◌≡◌, ◌≢◌, ◌<◌, ◌≤◌, ℕ, ◌-◌, ◌/◌, ◌%◌, ◌==◌, nat_lt, zero, suc, Bool, true, false, List}
use Rattle.std.specs.Prelude.{[], ◌∷◌, length, get_or, replicate, Option, Some, None, if◌then◌else◌}
use Rattle.jos_base.specs.declared.numbers.TheConstants.{PGSIZE, NPTENTRIES, NENV, ENV_WORDS}
use Rattle.jos_base.specs.Reach.{Entry}
use Rattle.jos_base.specs.Counting.{Entries, total, page_count, frame_limit}
use Rattle.jos_base.specs.SpacesState.{Use, reserved, free, fresh, page, directory, table, Region, SpacesState, taken}
use Rattle.jos_base.specs.SpacesState.{region_limit, reserved_frames}
use Rattle.jos_space.specs.declared.role.Role.{Role}
use Rattle.jos_space.specs.declared.role.Role.TheVariants.{Reserved, Free, Fresh, Page, Directory, Table}
use Rattle.jos_space.specs.Calls.{has_bytes}

-- what the frames hold, by look-ups alone
pub record Held : Type 0 where
  -- how many frames there are
  pub frames : ℕ
  -- the words of a directory or a table
  pub word : ℕ → ℕ → ℕ
  pub bytes : ℕ → List ℕ
  pub role : ℕ → Role
  -- how many page entries name the frame
  pub count : ℕ → ℕ
  -- the free frames, the last to be handed out first
  pub place : ℕ → ℕ
  pub free_len : ℕ

-- ---- what they are in the kernel's state

-- the words of entries: P is bit 0, A bit 5, and the frame stands from bit 12 on
abbrev pub is_present : ℕ → Bool
is_present word = word % 2 == 1

abbrev pub is_accessed : ℕ → Bool
is_accessed word = word / 32 % 2 == 1

abbrev pub entry_of : ℕ → Option Entry
entry_of word = if is_present word then Some (record { frame = word / PGSIZE; perm = word % PGSIZE }) else None

abbrev pub region_of : ℕ → Option Region
region_of word =
    if is_present word then Some (record { table = word / PGSIZE; accessed = is_accessed word }) else None

abbrev pub is_directory : Role → Bool
is_directory Directory = true
is_directory _ = false

unfoldable pub regions_of : Held → ℕ → ℕ → Option Region
regions_of c d r =
    if is_directory (c.role d) then (if nat_lt r region_limit then region_of (c.word d r) else None) else None

abbrev pub entry_in : Held → Option Region → ℕ → Option Entry
entry_in c None i = None
entry_in c (Some region) i = entry_of (c.word region.table i)

unfoldable pub entries_of : Held → Entries
entries_of c d p = entry_in c (regions_of c d (p / NPTENTRIES)) (p % NPTENTRIES)

abbrev pub use_of : Role → Use
use_of Reserved = reserved
use_of (Free k) = free
use_of Fresh = fresh
use_of Page = page
use_of Directory = directory
use_of (Table d r) = table

abbrev pub may_map : Role → Bool
may_map role = has_bytes (use_of role)

abbrev pub bytes_by : Role → List ℕ → List ℕ
bytes_by role bytes = if may_map role then bytes else []

-- the places below n, the last first
unfoldable pub stacked : (ℕ → ℕ) → ℕ → List ℕ
stacked place zero = []
stacked place (suc n) = place n ∷ stacked place n

unfoldable pub state_of : Held → SpacesState
state_of c = record {
  frames = c.frames;
  uses = λ f. use_of (c.role f);
  free = stacked c.place c.free_len;
  pages = λ f. bytes_by (c.role f) (c.bytes f);
  regions = regions_of c;
  entries = entries_of c;
}

-- ---- what holds of them at every moment

abbrev pub free_count : Role → ℕ
free_count (Free k) = 1
free_count _ = 0

pub record IsSound (frames : ℕ) (c : Held) : Type 0 where
  -- each region's table knows its region, so no frame is the table of two
  pub tables : (d r : ℕ) (region : Region) → regions_of c d r ≡ Some region → c.role region.table ≡ Table d r
  -- each frame that an entry names is a page
  pub pages : (d p : ℕ) (entry : Entry) → entries_of c d p ≡ Some entry → c.role entry.frame ≡ Page
  pub counts : (f : ℕ) → c.count f ≡ page_count (entries_of c) f
  -- each free frame knows its place in the list, so none stands there twice
  pub listed : (k : ℕ) → k < c.free_len → c.role (c.place k) ≡ Free k
  pub free_len : total frames (λ f. free_count (c.role f)) ≡ c.free_len
  pub outside : (f : ℕ) → frames ≤ f → c.role f ≡ Reserved
  pub limit : frames ≤ frame_limit

-- ---- the lists

pub record Lists : Type 0 where
  -- of each frame NPTENTRIES words, for its use as a directory or a table
  pub words : List (List ℕ)
  -- of each frame PGSIZE bytes, for its use as a page
  pub bytes : List (List ℕ)
  pub roles : List Role
  pub counts : List ℕ
  pub order : List ℕ
  pub free_len : ℕ
  -- of each slot of the table of environments the words of its record, which a user reads
  pub records : List (List ℕ)

abbrev pub held_in : Lists → Held
held_in l = record {
  frames = length l.roles;
  word = λ f i. get_or (get_or l.words f []) i 0;
  bytes = λ f. get_or l.bytes f [];
  role = λ f. get_or l.roles f Reserved;
  count = λ f. get_or l.counts f 0;
  place = λ k. get_or l.order k 0;
  free_len = l.free_len;
}

-- the frames and spaces as the kernel's state has them
abbrev pub state : Lists → SpacesState
state l = state_of (held_in l)

-- the words of the records of all slots
abbrev pub records : Lists → ℕ → List ℕ
records l n = get_or l.records n []

-- each list of frames is as long as there are frames, and that of records as there are slots
pub record AreSound (l : Lists) : Type 0 where
  pub words : length l.words ≡ length l.roles
  pub bytes : length l.bytes ≡ length l.roles
  pub counts : length l.counts ≡ length l.roles
  pub order : length l.order ≡ length l.roles
  pub records : length l.records ≡ NENV
  pub sound : IsSound (length l.roles) (held_in l)

-- ---- words of single calls

-- the head of the list is handed out with the bytes that it has
abbrev pub handed_by : SpacesState → List ℕ → ℕ → List ℕ → Option SpacesState
handed_by s [] h bytes = None
handed_by s (f ∷ rest) h bytes = if f == h then Some (taken s f rest bytes) else None

abbrev pub handed_out : SpacesState → Held → ℕ → Option SpacesState
handed_out s c h = handed_by s s.free h (c.bytes h)

abbrev pub is_used : Use → Bool
is_used reserved = false
is_used free = false
is_used _ = true

-- A frame may be freed if it is in use and nothing hangs on it: no entry on a page, no region on a table, and on a
-- directory no table.
pub record IsIdle (s : SpacesState) (f : ℕ) : Type 0 where
  pub used : is_used (s.uses f) ≡ true
  pub as_page : s.uses f ≡ page → page_count s.entries f ≡ 0
  pub as_table : s.uses f ≡ table → (d r : ℕ) (region : Region) → s.regions d r ≡ Some region → region.table ≢ f
  pub as_directory : s.uses f ≡ directory → (r : ℕ) → s.regions f r ≡ None

-- a directory or a table without an entry
unfoldable pub zero_words : List ℕ
zero_words = replicate NPTENTRIES 0

-- the record of a slot that no environment ever had
unfoldable pub zero_record : List ℕ
zero_record = replicate ENV_WORDS 0

-- the roles at the beginning
abbrev pub first_role : ℕ → ℕ → Role
first_role frames f = if nat_lt f (reserved_frames frames) then Reserved else Free (frames - 1 - f)
