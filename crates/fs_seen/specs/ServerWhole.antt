-- That the file server serves from one request to the next: while it waits it stands over the disk and its table, a request that comes is one of the
-- abstract server's, it replies, and gives the page of the request back. What is kept of it at each moment is `IsServing`.
use Rattle.std.specs.Prelude.{◌≡◌, ◌≢◌, ◌<◌, ◌≤◌, ℕ, ◌+◌, ◌/◌, ◌%◌, nat_lt, Bool, true, false, is_some, List, [], length, slice_index}
use Rattle.std.specs.Prelude.{Some, None, if◌then◌else◌}
use Rattle.jos_base.specs.declared.numbers.TheConstants.{E_IPC_NOT_RECV, NENV, PGSIZE, PTE_P, PTE_U, PTE_W, UTOP}
use Rattle.jos_base.specs.Environments.{is_live}
use Rattle.jos_base.specs.KernelState.{KernelState, slot_at}
use Rattle.jos_base.specs.Reach.{Entry}
use Rattle.jos_base.specs.SpacesState.{inserted, reference_count, zero_page}
use Rattle.jos_base.specs.Words.{negated}
use Rattle.lib_os.specs.declared.numbers.TheConstants.{MAXOPEN, REQUEST}
use Rattle.lib_os.specs.declared.progress.Progress.{Progress}
use Rattle.lib_os.specs.declared.progress.Progress.TheVariants as progress
use Rattle.lib_os.specs.declared.request.RequestKind.{RequestKind}
use Rattle.lib_os.specs.Requests as requests
use Rattle.lib_os.specs.AbstractState.{AbstractState, OpenFile, Request, Server, file, acted, busy, idle, leaving, looking, terminal}
use Rattle.lib_os.specs.AbstractLaws.{client_served}
use Rattle.lib_os.specs.Descriptors.{holds_in, is_held}
use Rattle.lib_os.specs.Disk.{Disk, byte_in_blocks}
use Rattle.lib_os.specs.FileServer.{is_file_open, request_begun, server_step}
use Rattle.lib_os.specs.GuestStep.{born_in}
use Rattle.lib_os.specs.InOrder.{IsInOrder}
use Rattle.lib_os.specs.LibraryPages.{region_index}
use Rattle.lib_os.specs.LibrarySteps.{request_perm, with_message_in, with_word}
use Rattle.lib_os.specs.MadeCalls.{is_server_page}
use Rattle.lib_os.specs.UserCalls.{Output, is_file_server}
use Rattle.fs_layout.specs.declared.numbers.TheConstants.{BLKSIZE, MAXBLOCKS}
use Rattle.fs_blocks.specs.declared.place.CachePlace.TheVariants as cache
use Rattle.fs_cache.specs.CacheSteps.{cache_state}
use Rattle.fs_tree.specs.TreeSteps.{memory_in, request_bytes}
use Rattle.fs_requests.specs.declared.state.ServerStep.{ServerStep}
use Rattle.fs_requests.specs.declared.state.ServerStep.TheVariants as step
use Rattle.fs_requests.specs.ServerPlans.{call_at, next_at, replying}
use Rattle.fs_serving.specs.ServerRuns.{AsksFor, HasFiles, StandsServing, TableStands, client_of}
use Rattle.fs_serving.specs.ServerViews.{View}
use Rattle.fs_server.specs.ServerSteps.{gone_on, server_at}
use Rattle.fs_seen.specs.ServerMemory.{AreDiskBytes, HasRequested, IsRequestPage, StandsOver, bytes_by, entry_of, has_request, home_in}
use Rattle.fs_seen.specs.ServerMemory.{is_table_page, place_entry, place_page, records_page, request_page, serving_in, view_in}
use Rattle.fs_seen.specs.ServerSees.{CacheRests, HasCalledAt, HasServed}

-- ---- at each moment

-- It waits for a request: the files are those of the disk as its cache holds it, and over that the table of open files stands.
pub record IsIdle (d : Disk) (s : KernelState) (n : ℕ) (a : AbstractState) : Type 0 where
  pub at : (server_at s n).step ≡ step.ReadingKind
  pub files : HasFiles d.count (memory_in d s n) a.files
  pub table : TableStands (memory_in d s n).disk a (view_in d s n)

-- by what it does in the abstract system
abbrev pub ServesBy : Server → Disk → KernelState → ℕ → AbstractState → Type 0
ServesBy idle d s n a = IsIdle d s n a
ServesBy _ d s n a = StandsServing d.count a (serving_in d s n)

abbrev pub ServesFor : Disk → KernelState → ℕ → AbstractState → Type 0
ServesFor d s n a = ServesBy a.server d s n a

-- It stands over the disk, serves for the abstract state, and has the page of the request until the act is made; and its cache fetches no block but
-- for a job.
pub record IsServing (d : Disk) (s : KernelState) (n : ℕ) (a : AbstractState) : Type 0 where
  pub stands : StandsOver d s n
  pub serves : ServesFor d s n a
  pub requested : HasRequested a.server s n
  pub rests : CacheRests (server_at s n).step s n

-- behind its own step: for the same abstract state behind a hidden one, and for that after the abstract server's step behind a visible one
abbrev pub GoesOnServing : Progress → Disk → KernelState → ℕ → AbstractState → Type 0
GoesOnServing progress.Hidden d after n a = IsServing d after n a
GoesOnServing progress.Visible d after n a = (b : AbstractState) × (server_step a ≡ Some b) × IsServing d after n b
GoesOnServing _ d after n a = ⊥

-- What is known where it makes no call of its own but to serve: it is not idle, and stands by itself for the abstract state.
abbrev pub ServersStand : Type 0
ServersStand = (a : AbstractState) (d : Disk) (s : KernelState) → IsServing d s 0 a → a.server ≢ idle → StandsServing d.count a (serving_in d s 0)

-- What it has served by a step (`CallsServe`, `JobsServe`, `FlushesServe`) is kept.
abbrev pub ServedIsKept : Type 0
ServedIsKept = (a : AbstractState) (e : Disk) (s after : KernelState) (done : Progress) → HasRequested a.server s 0 →
    CacheRests (server_at s 0).step s 0 → HasServed e.count a e s after 0 done → GoesOnServing done e after 0 a

-- ---- the table

-- The table has the records and the pages that it had.
pub record SameTable (s after : KernelState) (n : ℕ) : Type 0 where
  pub homes : (number : ℕ) → home_in after n number ≡ home_in s n number
  pub pages : (number : ℕ) → bytes_by after (place_entry after n number) ≡ bytes_by s (place_entry s n number)

-- It serves on at this step, and the table is as it was.
pub record ServesOn (d : Disk) (s after : KernelState) (a : AbstractState) (at : ServerStep) : Type 0 where
  pub serving : IsServing d after 0 a
  pub at_step : (server_at after 0).step ≡ at
  pub table : SameTable s after 0

-- ---- the start

-- each object is the console
abbrev pub AllConsoles : AbstractState → Type 0
AllConsoles a = (name : ℕ) → a.objects name ≡ terminal

-- the bytes of a disk
abbrev pub bytes_on : Disk → ℕ → ℕ
bytes_on d at = if nat_lt (at / BLKSIZE) d.count then byte_in_blocks d.block at else 0

-- The server is about to begin: its cache has nothing under way, and of pages it has that of the records alone, which holds zeros.
pub record IsFirst (s : KernelState) (n : ℕ) : Type 0 where
  pub in_order : IsInOrder s
  pub lives : is_live (slot_at s n) ≡ true
  pub server : is_file_server (slot_at s n).env_type ≡ true
  pub long : length (slot_at s n).extra ≡ 12
  pub rests : (cache_state s n).place ≡ cache.Resting
  pub at : (server_at s n).step ≡ step.Releasing
  pub entry : Entry
  pub stands : entry_of s n records_page ≡ Some entry
  pub bits : entry.perm ≡ PTE_P + PTE_U + PTE_W
  pub zeros : s.spaces.pages entry.frame ≡ zero_page
  pub alone : (p : ℕ) → p ≢ records_page → entry_of s n p ≡ None

-- So it serves for an abstract state whose files are those of the disk, where nothing is open.
abbrev pub StartsServe : Type 0
StartsServe = (a : AbstractState) (d : Disk) (s : KernelState) → IsFirst s 0 → d.count ≤ MAXBLOCKS → AreDiskBytes d →
    HasFiles d.count (record { disk = bytes_on d; page = λ at. 0 }) a.files → a.server ≡ leaving → ((number : ℕ) → (a.opened number).held_by ≡ None) →
    AllConsoles a → ((name : ℕ) → is_held a name ≡ true → name < a.next_name) → IsServing d s 0 a

-- ---- between two requests

-- It gives back the page of the request that it has served, if one was there.
abbrev pub ReleasesServe : Type 0
ReleasesServe = (a : AbstractState) (d : Disk) (s after : KernelState) (output : Output) (done : Progress) →
    (server_at s 0).step ≡ step.Releasing → IsServing d s 0 a → IsInOrder after → HasCalledAt s after 0 output done →
    (done ≡ progress.Hidden) × ServesOn d s after a step.Receiving × (has_request after 0 ≡ false)

-- And waits for the next.
abbrev pub ReceivesServe : Type 0
ReceivesServe = (a : AbstractState) (d : Disk) (s after : KernelState) (output : Output) (done : Progress) →
    (server_at s 0).step ≡ step.Receiving → IsServing d s 0 a → IsInOrder after → HasCalledAt s after 0 output done →
    (done ≡ progress.Visible) × (server_step a ≡ Some (record a { server = idle })) × ServesOn d s after (record a { server = idle }) step.ReadingKind
    × (has_request after 0 ≡ has_request s 0)

-- ---- a request comes

-- A message has come to the server, which waited, and perhaps a page with it, in a frame of no other of its pages. All else of the server is as it
-- was, but EAX.
pub record IsAsked (s after : KernelState) (n : ℕ) : Type 0 where
  pub lives : is_live (slot_at after n) ≡ true
  pub env_type : (slot_at after n).env_type ≡ (slot_at s n).env_type
  pub directory : (slot_at after n).directory ≡ (slot_at s n).directory
  pub words : (slot_at after n).extra ≡ (slot_at s n).extra
  pub registers : (eax : ℕ) × ((slot_at after n).registers ≡ record (slot_at s n).registers { eax = eax })
  pub entries : (p : ℕ) → p ≢ request_page → entry_of after n p ≡ entry_of s n p
  pub tables : (r : ℕ) → r ≢ region_index REQUEST →
      is_some (after.spaces.regions (slot_at s n).directory r) ≡ is_some (s.spaces.regions (slot_at s n).directory r)
  pub bytes : (p : ℕ) (e : Entry) → is_server_page p ≡ true → p ≢ request_page → entry_of s n p ≡ Some e →
      after.spaces.pages e.frame ≡ s.spaces.pages e.frame
  pub page : (e : Entry) → entry_of after n request_page ≡ Some e → IsRequestPage after n e
  pub apart : (p : ℕ) (x e : Entry) → is_table_page p ≡ true → entry_of s n p ≡ Some x → entry_of after n request_page ≡ Some e → x.frame ≢ e.frame

-- So it is where a word came alone, and no space has changed.
abbrev pub AskedByWord : Type 0
AskedByWord = (d : Disk) (s after : KernelState) (n sender value : ℕ) → StandsOver d s n → slot_at after n ≡ with_word (slot_at s n) sender value →
    after.spaces ≡ s.spaces → IsAsked s after n

-- The page of a frame has come with the message, and is that of the request.
pub record IsAskedBy (s after : KernelState) (n frame : ℕ) : Type 0 where
  pub asked : IsAsked s after n
  pub entry : entry_of after n request_page ≡ Some (record { frame = frame; perm = request_perm })
  pub bytes : (at : ℕ) → at < PGSIZE → request_bytes after n at ≡ slice_index (s.spaces.pages frame) at
  pub page : after.spaces.pages frame ≡ s.spaces.pages frame

-- So it is where a page came that stands in some space, in a frame that no page of the server's has, but perhaps that of a request before.
abbrev pub AskedByPage : Type 0
AskedByPage = (d : Disk) (s after : KernelState) (n sender value perm dir p : ℕ) (own : Entry) → StandsOver d s n → IsInOrder after →
    slot_at after n ≡ with_message_in (slot_at s n) sender value perm → s.spaces.entries dir p ≡ Some own →
    inserted s.spaces (slot_at s n).directory request_page (record { frame = own.frame; perm = request_perm }) ≡ Some after.spaces →
    ((q : ℕ) (y : Entry) → is_server_page q ≡ true → entry_of s n q ≡ Some y → y.frame ≡ own.frame → q ≡ request_page) → IsAskedBy s after n own.frame

-- It is asked while it waits: it serves the request that its page and its message tell.
abbrev pub AskedServes : Type 0
AskedServes = (a b : AbstractState) (d : Disk) (s after : KernelState) (client : ℕ) (request : Request) (k : RequestKind) → a.server ≡ idle →
    IsServing d s 0 a → IsInOrder after → IsAsked s after 0 → b.files ≡ a.files → b.server ≡ request_begun client request →
    HasRequested (request_begun client request) after 0 → AsksFor b (request_bytes after 0) k request →
    (slot_at after 0).rendezvous.value ≡ requests.request_word k → (slot_at after 0).rendezvous.sender % NENV ≡ client →
    TableStands (memory_in d s 0).disk b (view_in d after 0) → ServesOn d s after b step.ReadingKind

-- ---- the reply

-- The kernel has left the server's slot, and all spaces, as they were.
pub record LeavesSlot (s mid : KernelState) (n : ℕ) : Type 0 where
  pub slot : slot_at mid n ≡ slot_at s n
  pub spaces : mid.spaces ≡ s.spaces

-- Where nothing was opened no page goes with the reply.
abbrev pub RepliesWithWord : Type 0
RepliesWithWord = (a : AbstractState) (d : Disk) (s : KernelState) (client answer : ℕ) (bytes : List ℕ) →
    (server_at s 0).step ≡ step.Replying → a.server ≡ acted client answer bytes None → IsServing d s 0 a →
    (call_at (server_at s 0) ≡ replying (server_at s 0) (UTOP, 0)) × (client_of (server_at s 0) ≡ client) × ((server_at s 0).count ≡ answer)

-- The reply has come: behind it the server is about to give back the page of the request.
abbrev pub RepliesServe : Type 0
RepliesServe = (a b : AbstractState) (d : Disk) (s mid after : KernelState) → (server_at s 0).step ≡ step.Replying → IsServing d s 0 a →
    IsInOrder after → LeavesSlot s mid 0 → after ≡ gone_on mid 0 (next_at (server_at s 0) 0) → b.server ≡ leaving → b.files ≡ a.files →
    ((disk : ℕ → ℕ) → TableStands disk a (view_in d s 0) → TableStands disk b (view_in d s 0)) →
    ServesOn d s after b step.Releasing

-- The client does not wait for it yet.
abbrev pub WaitsServe : Type 0
WaitsServe = (a : AbstractState) (d : Disk) (s mid after : KernelState) → (server_at s 0).step ≡ step.Replying → IsServing d s 0 a →
    IsInOrder after → LeavesSlot s mid 0 → after ≡ gone_on mid 0 (next_at (server_at s 0) (negated E_IPC_NOT_RECV)) →
    ServesOn d s after a step.Pausing

-- It gives up its turn, and tries again.
abbrev pub PausesServe : Type 0
PausesServe = (a : AbstractState) (d : Disk) (s after : KernelState) (output : Output) (done : Progress) →
    (server_at s 0).step ≡ step.Pausing → IsServing d s 0 a → IsInOrder after → HasCalledAt s after 0 output done →
    (done ≡ progress.Hidden) × ServesOn d s after a step.Replying

-- ---- a step of another

-- The bytes of the request count until the act is made, and those that are handed back until the reply.
abbrev pub keeps_request : Server → Bool
keeps_request (looking client request place) = true
keeps_request (busy client request place) = true
keeps_request (acted client answer [] object) = false
keeps_request (acted client answer bytes object) = true
keeps_request leaving = false
keeps_request idle = false

-- Another's step has left the server's slot, its entries and tables, the bytes of its pages, and how often the frame of a place's page is mapped. The
-- bytes of the page of a request are left as long as they count.
pub record LeavesPages (server : Server) (s after : KernelState) (n : ℕ) : Type 0 where
  pub slot : slot_at after n ≡ slot_at s n
  pub entries : (p : ℕ) → entry_of after n p ≡ entry_of s n p
  pub tables : (r : ℕ) → after.spaces.regions (slot_at s n).directory r ≡ s.spaces.regions (slot_at s n).directory r
  pub bytes : (p : ℕ) (e : Entry) → is_server_page p ≡ true → p ≢ request_page → entry_of s n p ≡ Some e →
      after.spaces.pages e.frame ≡ s.spaces.pages e.frame
  pub request : keeps_request server ≡ true → (e : Entry) → entry_of s n request_page ≡ Some e →
      after.spaces.pages e.frame ≡ s.spaces.pages e.frame
  pub counts : (number : ℕ) (e : Entry) → number < MAXOPEN → entry_of s n (place_page number) ≡ Some e →
      reference_count after.spaces e.frame ≡ reference_count s.spaces e.frame

-- Of what the server has nothing is other in the abstract state, nor is a file open that was not, or the other way round.
pub record SameServed (a b : AbstractState) : Type 0 where
  pub server : b.server ≡ a.server
  pub files : b.files ≡ a.files
  pub opened : b.opened ≡ a.opened
  pub objects : b.objects ≡ a.objects
  pub held : (name : ℕ) (f : OpenFile) → a.objects name ≡ file f → is_held b name ≡ is_held a name
  pub holds : (client name : ℕ) (f : OpenFile) → a.objects name ≡ file f → client_served a.server ≡ Some client →
      holds_in (born_in (a.slots client)) name ≡ true → holds_in (born_in (b.slots client)) name ≡ true
  pub file_open : is_file_open b ≡ is_file_open a

-- It serves on where the table stands for that abstract state.
abbrev pub OthersServe : Type 0
OthersServe = (a b : AbstractState) (d : Disk) (s after : KernelState) → IsServing d s 0 a → IsInOrder after → LeavesPages a.server s after 0 →
    SameServed a b →
    ((disk : ℕ → ℕ) → TableStands disk a (view_in d after 0) → TableStands disk b (view_in d after 0)) →
    ServesOn d s after b (server_at s 0).step

-- ---- where nothing was ever opened

-- no place of the table has a file, or a page
pub record NothingOpened (a : AbstractState) (v : View) : Type 0 where
  pub homes : (number : ℕ) → v.homes number ≡ 0
  pub pages : (number : ℕ) → v.pages number ≡ None
  pub places : (number : ℕ) → (a.opened number).held_by ≡ None

-- It is so where the page of the records holds zeros, and no place has a page.
abbrev pub UnopenedViews : Type 0
UnopenedViews = (a : AbstractState) (d : Disk) (s : KernelState) (n : ℕ) (entry : Entry) → entry_of s n records_page ≡ Some entry →
    s.spaces.pages entry.frame ≡ zero_page → ((number : ℕ) → number < MAXOPEN → entry_of s n (place_page number) ≡ None) →
    ((number : ℕ) → (a.opened number).held_by ≡ None) → NothingOpened a (view_in d s n)

-- The table stands so, over any disk, where each object is the console.
abbrev pub UnopenedTables : Type 0
UnopenedTables = (disk : ℕ → ℕ) (a : AbstractState) (v : View) → NothingOpened a v → AllConsoles a →
    ((name : ℕ) → is_held a name ≡ true → name < a.next_name) → TableStands disk a v
