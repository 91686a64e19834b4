-- What the file server sees of the kernel's state: its view, by the pages of its space, by how often the kernel counts that a frame is mapped, and by
-- the message that came.
use Rattle.std.specs.Prelude.{◌≡◌, ◌≢◌, ◌<◌, ◌≤◌, ℕ, ◌+◌, ◌*◌, ◌^◌, ◌==◌, ◌&&◌, ◌||◌, nat_le, nat_lt, Bool, true, false, is_some, get_or, slice_index}
use Rattle.std.specs.Prelude.{Option, Some, None, option_map, if◌then◌else◌}
use Rattle.jos_base.specs.declared.memory.Access.{Access}
use Rattle.jos_base.specs.declared.numbers.TheConstants.{FDTABLE}
use Rattle.jos_base.specs.KernelState.{KernelState, slot_at}
use Rattle.jos_base.specs.Reach.{Entry, allows}
use Rattle.jos_base.specs.SpacesState.{reference_count}
use Rattle.jos_base.specs.Words.{page_number}
use Rattle.fs_layout.specs.declared.numbers.TheConstants.{MAXBLOCKS}
use Rattle.fs_layout.specs.FileTree.{sync_files}
use Rattle.lib_os.specs.declared.numbers.TheConstants.{MAXOPEN, OPEN_RECORDS, REQUEST}
use Rattle.lib_os.specs.AbstractState.{Request, act, Server, looking, busy}
use Rattle.lib_os.specs.Disk.{Disk}
use Rattle.lib_os.specs.LibrarySteps.{HasCounts}
use Rattle.lib_os.specs.MadeCalls.{is_server_page}
use Rattle.lib_os.specs.Rows.{IsPage}
use Rattle.fs_cache.specs.CacheStands.{CacheAt, IsBlockEntry}
use Rattle.fs_cache.specs.CacheSteps.{row_in}
use Rattle.fs_tree.specs.TreeSteps.{job_in, memory_in}
use Rattle.fs_requests.specs.ServerPlans.{open_page}
use Rattle.fs_serving.specs.ServerViews.{Serving, View, word_of}
use Rattle.fs_server.specs.ServerSteps.{server_at}

-- ---- the pages

-- the page of a request, that of the records, and that of a place
abbrev pub request_page : ℕ
request_page = page_number REQUEST

abbrev pub records_page : ℕ
records_page = page_number OPEN_RECORDS

abbrev pub place_page : ℕ → ℕ
place_page number = page_number (open_page number)

-- the pages of the table of open files
abbrev pub is_table_page : ℕ → Bool
is_table_page p = (p == records_page) || (nat_le (page_number FDTABLE) p && nat_lt p (page_number FDTABLE + MAXOPEN))

-- the entry of a page in the space of a slot's environment
abbrev pub entry_of : KernelState → ℕ → ℕ → Option Entry
entry_of s n p = s.spaces.entries (slot_at s n).directory p

-- the page of a request is there
abbrev pub has_request : KernelState → ℕ → Bool
has_request s n = is_some (entry_of s n request_page)

-- that of the page of a place
abbrev pub place_entry : KernelState → ℕ → ℕ → Option Entry
place_entry s n number = if nat_lt number MAXOPEN then entry_of s n (place_page number) else None

-- the bytes of a page that is there, and its frame; 0 where no page is
abbrev pub bytes_by : KernelState → Option Entry → Option (ℕ → ℕ)
bytes_by s entry = option_map (λ e. slice_index (s.spaces.pages e.frame)) entry

abbrev pub frame_by : Option Entry → ℕ
frame_by None = 0
frame_by (Some e) = e.frame

-- ---- what is seen

abbrev pub home_in : KernelState → ℕ → ℕ → ℕ
home_in s n number = if nat_lt number MAXOPEN then word_of (bytes_by s (entry_of s n records_page)) (4 * number) else 0

abbrev pub view_in : Disk → KernelState → ℕ → View
view_in d s n = record {
  memory = memory_in d s n;
  homes = λ number. home_in s n number;
  pages = λ number. bytes_by s (place_entry s n number);
  frames = λ number. frame_by (place_entry s n number);
  holders = λ frame. reference_count s.spaces frame;
  value = (slot_at s n).rendezvous.value;
  sender = (slot_at s n).rendezvous.sender;
}

abbrev pub serving_in : Disk → KernelState → ℕ → Serving
serving_in d s n = record { state = server_at s n; job = job_in s n; view = view_in d s n }

-- ---- how the table stands

-- The page of an entry is read and written by its environment, and has the bytes of a page.
pub record IsOpenPage (s : KernelState) (e : Entry) : Type 0 where
  pub allowed : (access : Access) → allows e.perm access ≡ true
  pub whole : IsPage (s.spaces.pages e.frame)

-- The page of the records is there. What is there of the table may be read and written, and is in no frame of another page of the server's.
pub record HasFileTable (s : KernelState) (n : ℕ) : Type 0 where
  pub records : is_some (entry_of s n records_page) ≡ true
  pub pages : (p : ℕ) (e : Entry) → is_table_page p ≡ true → entry_of s n p ≡ Some e → IsOpenPage s e
  pub apart : (p q : ℕ) (x y : Entry) → is_table_page p ≡ true → is_server_page q ≡ true → entry_of s n p ≡ Some x → entry_of s n q ≡ Some y →
      x.frame ≡ y.frame → p ≡ q

-- ---- over the disk

-- The page of a request may be written, and is no block's.
pub record IsRequestPage (s : KernelState) (n : ℕ) (e : Entry) : Type 0 where
  pub bits : IsBlockEntry e
  pub apart : (b : ℕ) (x : Entry) → row_in s n b ≡ Some x → x.frame ≢ e.frame

-- what the disk holds is bytes
abbrev pub AreDiskBytes : Disk → Type 0
AreDiskBytes d = (n k : ℕ) → slice_index (d.block n) k < 256

-- The cache stands over the disk, which has no more blocks than there may be, and so does the table; and so does the page of a request, if one is
-- there.
pub record StandsOver (d : Disk) (s : KernelState) (n : ℕ) : Type 0 where
  pub cache : CacheAt d s n
  pub count : d.count ≤ MAXBLOCKS
  pub bytes : AreDiskBytes d
  pub request : (e : Entry) → entry_of s n request_page ≡ Some e → IsRequestPage s n e
  pub table : HasFileTable s n

-- The page of a request, if one is there, has the bytes of a page. (Behind the act it is its client's alone, who may do with it what it likes.)
abbrev pub HasWholeRequest : KernelState → ℕ → Type 0
HasWholeRequest s n = (e : Entry) → entry_of s n request_page ≡ Some e → IsPage (s.spaces.pages e.frame)

-- ---- who sends a page

-- All that is asked for but a sync is told in a page.
abbrev pub sends_page : Request → Bool
sends_page (act sync_files object) = false
sends_page _ = true

abbrev pub HasPageFor : Request → KernelState → ℕ → Type 0
HasPageFor request s n = sends_page request ≡ true → has_request s n ≡ true

-- until the act is made the page of the request is there, where one was sent
abbrev pub HasRequested : Server → KernelState → ℕ → Type 0
HasRequested (looking client request place) s n = HasPageFor request s n
HasRequested (busy client request place) s n = HasPageFor request s n
HasRequested _ s n = Unit {0}

-- ---- what the kernel keeps

-- It counts pages and turns by words; and what is kept of the server is words.
pub record HasWords (s : KernelState) (n : ℕ) : Type 0 where
  pub counted : HasCounts s n
  pub words : (k : ℕ) → get_or (slot_at s n).extra k 0 < 2 ^ 32
  pub value : (slot_at s n).rendezvous.value < 2 ^ 32
  pub sender : (slot_at s n).rendezvous.sender < 2 ^ 32
