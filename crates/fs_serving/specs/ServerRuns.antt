-- When the file server, by what it sees of its memory, stands for that of the abstract system, and that it goes on as that does: from a request
-- that has come up to its act, which the next of the abstract server's steps is, and on to the reply.
-- (MIT 6.828, lab 5: fs/serv.c. Which of the server's steps is the abstract one is this system's own: the last store of what is opened, read,
-- written or sought; the count that shows that a place is held, or that a file which is to be removed is open; and for all else a step that does
-- nothing more.)
use Rattle.std.specs.Prelude.{◌≡◌, ◌≢◌, ◌<◌, ◌≤◌, ◌⊎◌, ℕ, ◌+◌, ◌*◌, ◌/◌, ◌%◌, ◌^◌, suc, nat_le, Bool, true, false, is_some, List, length, slice_index}
use Rattle.std.specs.Prelude.{Option, Some, None}
use Rattle.jos_base.specs.declared.numbers.TheConstants.{NENV, PGSIZE}
use Rattle.jos_base.specs.Words.{word_at}
use Rattle.fs_layout.specs.declared.numbers.TheConstants.{BLKSIZE}
use Rattle.fs_layout.specs.DiskFiles.{IsDiskImage, file_system_of}
use Rattle.fs_layout.specs.DiskImage.{block_count, is_directory_at}
use Rattle.fs_layout.specs.FileActs.{file_named}
use Rattle.fs_layout.specs.FileTree.{FileAct, FileSystem, file_size, open_path, read_file, remove_path, set_file_size, stat_file, sync_files, write_file}
use Rattle.fs_acts.specs.BlockActs.{a_record, led_to, place_at}
use Rattle.fs_jobs.specs.declared.asks.TreeNext.TheVariants.{Answer, GoOn}
use Rattle.fs_jobs.specs.declared.place.TreeState.{TreeState}
use Rattle.fs_jobs.specs.TreeBounds.{is_bounded}
use Rattle.fs_runs.specs.JobCalls.{find_calls_max, job_steps_max, size_calls_max}
use Rattle.fs_runs.specs.TreePlans as tree
use Rattle.fs_runs.specs.TreeRuns.{AreSmall, FewerCalls, HasActed, HasPath, IsInside, IsOnItsWay, IsRunning, Memory, bytes_given, calls_of}
use Rattle.fs_runs.specs.TreeRuns.{found_place, memory_after, reply_of}
use Rattle.lib_os.specs.declared.numbers.TheConstants.{DEVICE_FILE, FD_DEVICE, FD_FILE, FD_MODE, FD_OFFSET, FD_SIZE, MAXOPEN}
use Rattle.lib_os.specs.declared.numbers.TheConstants.{REQUEST_COUNT, REQUEST_FILE, REQUEST_MODE, REQUEST_PLACE}
use Rattle.lib_os.specs.declared.progress.Progress.{Progress}
use Rattle.lib_os.specs.declared.progress.Progress.TheVariants as progress
use Rattle.lib_os.specs.declared.request.RequestKind.{RequestKind}
use Rattle.lib_os.specs.declared.request.RequestKind.TheVariants as kind
use Rattle.lib_os.specs.Requests as requests
use Rattle.lib_os.specs.AbstractState.{AbstractState, OpenFile, Server, file, Request, act, seek, leaving, looking, busy, acted}
use Rattle.lib_os.specs.AbstractLaws.{client_served}
use Rattle.lib_os.specs.Descriptors.{holds_in, is_held}
use Rattle.lib_os.specs.FileServer.{is_count, is_file_open, is_held_by, low_mode, request_begun, server_step}
use Rattle.lib_os.specs.GuestStep.{born_in}
use Rattle.fs_requests.specs.declared.plan.ServerAsk.{ServerAsk}
use Rattle.fs_requests.specs.declared.plan.ServerAsk.TheVariants as ask
use Rattle.fs_requests.specs.declared.plan.ServerNext.{ServerNext}
use Rattle.fs_requests.specs.declared.state.ServerState.{ServerState}
use Rattle.fs_requests.specs.declared.state.ServerStep.{ServerStep}
use Rattle.fs_requests.specs.declared.state.ServerStep.TheVariants as step
use Rattle.fs_requests.specs.ServerPlans.{ask_at, next_at}
use Rattle.fs_serving.specs.ServerViews.{Calls, Serving, View, gone_on, page_word, place_told, request_word}

-- ---- the files

-- the files are those of a disk of so many blocks, without a fault
pub record HasFiles (count : ℕ) (m : Memory) (files : FileSystem) : Type 0 where
  pub disk : IsDiskImage (BLKSIZE * count) m.disk
  pub count_is : block_count m.disk ≡ count
  pub are : file_system_of m.disk ≡ files

-- ---- the table of open files

-- A place has a file: its record stands where the table says, and the page of the place tells the object.
pub record HasFile (disk : ℕ → ℕ) (a : AbstractState) (v : View) (number name : ℕ) : Type 0 where
  pub f : OpenFile
  pub is : a.objects name ≡ file f
  pub home : place_at disk f.way ≡ Some (v.homes number)
  pub regular : is_directory_at disk (v.homes number) ≡ false
  pub there : is_some (v.pages number) ≡ true
  pub device : page_word v number FD_DEVICE ≡ DEVICE_FILE
  pub offset : page_word v number FD_OFFSET ≡ f.offset
  pub mode : page_word v number FD_MODE ≡ f.mode
  pub size : page_word v number FD_SIZE ≡ f.size
  pub number_is : page_word v number FD_FILE ≡ number
  pub small : f.offset < 2 ^ 31
  pub sized : f.size < 2 ^ 31

-- A place: it has a page once it had a file; who holds it is told by how often that is mapped; and what is held there is a file.
pub record PlaceStands (disk : ℕ → ℕ) (a : AbstractState) (v : View) (number : ℕ) : Type 0 where
  pub unused : v.homes number ≡ 0 → (a.opened number).held_by ≡ None
  pub there : v.homes number ≢ 0 → is_some (v.pages number) ≡ true
  pub used : is_some (v.pages number) ≡ true → (a.opened number).used ≡ true
  pub counts : v.homes number ≢ 0 → is_held_by a (a.opened number).held_by ≡ nat_le 2 (v.holders (v.frames number))
  pub holds : (name : ℕ) → (a.opened number).held_by ≡ Some name → is_held a name ≡ true → HasFile disk a v number name

-- Each place stands, a file that is held has one place, and names are given in order.
pub record TableStands (disk : ℕ → ℕ) (a : AbstractState) (v : View) : Type 0 where
  pub places : (number : ℕ) → number < MAXOPEN → PlaceStands disk a v number
  pub held : (name : ℕ) (f : OpenFile) → is_held a name ≡ true → a.objects name ≡ file f →
      (number : ℕ) × (number < MAXOPEN) × ((a.opened number).held_by ≡ Some name)
  pub alone : (number other name : ℕ) → (a.opened number).held_by ≡ Some name → (a.opened other).held_by ≡ Some name → number ≡ other
  pub old : (number name : ℕ) → (a.opened number).held_by ≡ Some name → name < a.next_name
  pub old_held : (name : ℕ) → is_held a name ≡ true → name < a.next_name

-- ---- requests

-- A request names an object by its file's number, which is the place that has it. Whom the server serves has a descriptor for it.
pub record IsOpenAs (a : AbstractState) (page : ℕ → ℕ) (name : ℕ) (f : OpenFile) : Type 0 where
  pub below : word_at page REQUEST_FILE < MAXOPEN
  pub place : (a.opened (word_at page REQUEST_FILE)).held_by ≡ Some name
  pub held : is_held a name ≡ true
  pub is : a.objects name ≡ file f
  pub client : (n : ℕ) → client_served a.server ≡ Some n → holds_in (born_in (a.slots n)) name ≡ true

-- The page of a request of this kind asks for this.
pub data AsksFor (a : AbstractState) (page : ℕ → ℕ) : RequestKind → Request → Type 0 where
  opens : (path : List ℕ) (mode : ℕ) → HasPath page path → word_at page REQUEST_MODE ≡ mode →
      AsksFor a page kind.Open (act (open_path path mode) None)
  removes : (path : List ℕ) → HasPath page path → AsksFor a page kind.Remove (act (remove_path path) None)
  reads : (name : ℕ) (f : OpenFile) → IsOpenAs a page name f →
      AsksFor a page kind.Read (act (read_file f.way f.offset (word_at page REQUEST_COUNT)) (Some name))
  reads_at : (name : ℕ) (f : OpenFile) → IsOpenAs a page name f → word_at page REQUEST_PLACE < 2 ^ 31 →
      AsksFor a page kind.ReadAt (act (read_file f.way (word_at page REQUEST_PLACE) (word_at page REQUEST_COUNT)) None)
  writes : (name : ℕ) (f : OpenFile) → IsOpenAs a page name f → word_at page REQUEST_COUNT + 8 ≤ PGSIZE →
      AsksFor a page kind.Write (act (write_file f.way f.offset (bytes_given page (word_at page REQUEST_COUNT))) (Some name))
  sizes : (name : ℕ) (f : OpenFile) → IsOpenAs a page name f →
      AsksFor a page kind.SetSize (act (set_file_size f.way (word_at page REQUEST_COUNT)) None)
  stats : (name : ℕ) (f : OpenFile) → IsOpenAs a page name f → AsksFor a page kind.Stat (act (stat_file f.way) None)
  seeks : (name : ℕ) (f : OpenFile) → IsOpenAs a page name f → word_at page REQUEST_COUNT < 2 ^ 31 →
      AsksFor a page kind.Seek (seek name (word_at page REQUEST_COUNT))
  syncs : AsksFor a page kind.Sync (act sync_files None)

-- what is asked of a file that is open
abbrev pub is_of_file : RequestKind → Bool
is_of_file kind.Open = false
is_of_file kind.Remove = false
is_of_file kind.Sync = false
is_of_file _ = true

-- ---- what is known while a request is served

-- the slot of the client
abbrev pub client_of : ServerState → ℕ
client_of st = st.client % NENV

-- It has come, and is about to be read.
pub record HasCome (a : AbstractState) (it : Serving) (before : Memory) (sender : ℕ) (k : RequestKind) : Type 0 where
  pub request : Request
  pub server : a.server ≡ request_begun (sender % NENV) request
  pub asks : AsksFor a before.page k request
  pub memory : it.view.memory ≡ before

-- The server is busy with it.
pub record IsBusy (a : AbstractState) (it : Serving) (before : Memory) (place : Option ℕ) (k : RequestKind) (request : Request) : Type 0 where
  pub server : a.server ≡ busy (client_of it.state) request place
  pub kind_is : it.state.kind ≡ Some k
  pub asks : AsksFor a before.page k request

-- The file is one that is open; so much of the request was read.
pub record OfFile (a : AbstractState) (it : Serving) (before : Memory) : Type 0 where
  pub k : RequestKind
  pub request : Request
  pub is_busy : IsBusy a it before None k request
  pub of_file : is_of_file k ≡ true
  pub memory : it.view.memory ≡ before

abbrev pub HasNumber : Serving → Type 0
HasNumber it = it.state.number ≡ request_word it.view REQUEST_FILE

abbrev pub HasOffset : Serving → Type 0
HasOffset it = it.state.at ≡ place_told it.state.kind it.view it.state.number

-- ---- opening

-- The server looks at a place for it.
pub record IsLooking (a : AbstractState) (it : Serving) (before : Memory) : Type 0 where
  pub path : List ℕ
  pub mode : ℕ
  pub server : a.server ≡ looking (client_of it.state) (act (open_path path mode) None) it.state.number
  pub kind_is : it.state.kind ≡ Some kind.Open
  pub asks : AsksFor a before.page kind.Open (act (open_path path mode) None)
  pub below : it.state.number < MAXOPEN
  pub memory : it.view.memory ≡ before

-- It has a place for it, which nobody holds.
pub record IsOpening (a : AbstractState) (it : Serving) (before : Memory) (path : List ℕ) (mode : ℕ) : Type 0 where
  pub is_busy : IsBusy a it before (Some it.state.number) kind.Open (act (open_path path mode) None)
  pub below : it.state.number < MAXOPEN
  pub nobodys : (a.opened it.state.number).held_by ≡ None
  pub used : (a.opened it.state.number).used ≡ true

-- the place has a page, which nobody else has
abbrev pub HasPage : Serving → Type 0
HasPage it =
    (is_some (it.view.pages it.state.number) ≡ true) × (nat_le 2 (it.view.holders (it.view.frames it.state.number)) ≡ false)

-- It is opened: the act is made on the disk, and the path leads to the file's record.
pub record IsOpened (a : AbstractState) (it : Serving) (before : Memory) (path : List ℕ) (mode home : ℕ) : Type 0 where
  pub opening : IsOpening a it before path mode
  pub has_page : HasPage it
  pub has_acted : HasActed (is_file_open a) (open_path path mode) before 0 it.view.memory
  pub way : List ℕ
  pub leads : led_to it.view.memory.disk path ≡ a_record home way
  pub regular : is_directory_at it.view.memory.disk home ≡ false
  pub named : file_named (file_system_of it.view.memory.disk) path ≡ Some way

-- the size that what is opened has
abbrev pub size_opened : {a : AbstractState} {it : Serving} {before : Memory} {path : List ℕ} {mode home : ℕ} → IsOpened a it before path mode home → ℕ
size_opened {it = it} opened = file_size (file_system_of it.view.memory.disk) opened.way

-- So much of the place's page is told. Where the record stands is kept up to where the table has it.
pub record IsTold (a : AbstractState) (it : Serving) (before : Memory) (told : ℕ) : Type 0 where
  pub path : List ℕ
  pub mode : ℕ
  pub home : ℕ
  pub opened : IsOpened a it before path mode home
  pub kept : told ≡ 0 → it.state.home ≡ home
  pub home_is : 1 ≤ told → it.view.homes it.state.number ≡ home
  pub device : 2 ≤ told → page_word it.view it.state.number FD_DEVICE ≡ DEVICE_FILE
  pub read : told ≡ 3 → it.state.count ≡ mode
  pub mode_is : 4 ≤ told → page_word it.view it.state.number FD_MODE ≡ low_mode mode
  pub number_is : 5 ≤ told → page_word it.view it.state.number FD_FILE ≡ it.state.number
  pub sized : told ≡ 6 → it.state.count ≡ size_opened opened
  pub size : 7 ≤ told → page_word it.view it.state.number FD_SIZE ≡ size_opened opened
  pub offset : 7 ≤ told → (it.state.at ≡ 0) × (it.state.count ≡ 0)

-- ---- acts on files

-- Whether a file is open decides on a removal alone, where its path leads to one.
abbrev pub OpenAlike : (List ℕ → Bool) → (List ℕ → Bool) → (ℕ → ℕ) → FileAct → Type 0
OpenAlike is_open other disk (remove_path path) = (home : ℕ) (way : List ℕ) → led_to disk path ≡ a_record home way →
    is_directory_at disk home ≡ false → is_open way ≡ other way
OpenAlike is_open other disk _ = Unit {0}

-- A file that is removed is not open. (Nobody begins to hold one that nobody holds, but by the server's reply.)
abbrev pub IsClosed : (List ℕ → Bool) → (ℕ → ℕ) → FileAct → Type 0
IsClosed is_open disk (remove_path path) = (home : ℕ) (way : List ℕ) → led_to disk path ≡ a_record home way →
    is_directory_at disk home ≡ false → is_open way ≡ false
IsClosed is_open disk _ = Unit {0}

-- where the place at hand is that of the file that is read or written
abbrev pub IsMoving : RequestKind → Bool
IsMoving kind.Read = true
IsMoving kind.Write = true
IsMoving _ = false

-- The job of the act is under way; a sync has none.
pub record IsWorking (count : ℕ) (a : AbstractState) (it : Serving) (before : Memory) : Type 0 where
  pub k : RequestKind
  pub f : FileAct
  pub object : Option ℕ
  pub place : Option ℕ
  pub is_busy : IsBusy a it before place k (act f object)
  pub is_open : List ℕ → Bool
  pub alike : OpenAlike is_open (is_file_open a) before.disk f
  pub closed : IsClosed (is_file_open a) before.disk f
  pub on_its_way : IsOnItsWay count is_open f before it.job it.view.memory
  pub opening : k ≡ kind.Open → (path : List ℕ) × (mode : ℕ) × IsOpening a it before path mode × HasPage it
  pub moving : IsMoving k ≡ true → it.state.number ≡ word_at before.page REQUEST_FILE
  -- there is no place of the table taken for bytes that are moved
  pub no_place : IsMoving k ≡ true → place ≡ None
  pub no_sync : k ≢ kind.Sync

-- bytes were moved, so many
pub record HasMoved (a : AbstractState) (it : Serving) (before : Memory) : Type 0 where
  pub k : RequestKind
  pub f : FileAct
  pub name : ℕ
  pub is_busy : IsBusy a it before None k (act f (Some name))
  pub moves : IsMoving k ≡ true
  pub number : it.state.number ≡ word_at before.page REQUEST_FILE
  pub has_acted : HasActed (is_file_open a) f before it.state.count it.view.memory
  pub many : is_count it.state.count ≡ true

-- the act is made, and moves no offset
pub record IsDone (a : AbstractState) (it : Serving) (before : Memory) : Type 0 where
  pub k : RequestKind
  pub f : FileAct
  pub object : Option ℕ
  pub place : Option ℕ
  pub is_busy : IsBusy a it before place k (act f object)
  pub has_acted : HasActed (is_file_open a) f before it.state.count it.view.memory
  pub closed : IsClosed (is_file_open a) before.disk f
  pub stays : (object ≡ None) ⊎ (is_count it.state.count ≡ false)
  pub not_opened : k ≡ kind.Open → it.state.count ≢ 0

-- an offset is about to be stored: of what was opened, where bytes were moved, or where it was sought
pub data IsStoring (a : AbstractState) (it : Serving) (before : Memory) : Type 0 where
  opened : IsTold a it before 7 → IsStoring a it before
  moved : (so : HasMoved a it before) → it.state.at ≡ (page_word it.view it.state.number FD_OFFSET + it.state.count) % 2 ^ 32 →
      IsStoring a it before
  sought : (name : ℕ) → IsBusy a it before None kind.Seek (seek name it.state.at) → it.state.number ≡ word_at before.page REQUEST_FILE →
      it.state.at ≡ word_at before.page REQUEST_COUNT → it.state.count ≡ 0 → it.view.memory ≡ before → IsStoring a it before

-- ---- removing

-- where the path of what is to be removed is looked up; the run leaves the memory as it was before
pub record IsFinding (count : ℕ) (a : AbstractState) (it : Serving) (before : Memory) : Type 0 where
  pub path : List ℕ
  pub is_busy : IsBusy a it before None kind.Remove (act (remove_path path) None)
  pub first : it.state.number ≡ 0
  pub running : IsRunning (find_calls_max count) count (found_place before.disk (led_to before.disk path)) before it.job it.view.memory

-- The file is not open at a place below that at hand.
pub record IsChecking (a : AbstractState) (it : Serving) (before : Memory) : Type 0 where
  pub path : List ℕ
  pub way : List ℕ
  pub is_busy : IsBusy a it before None kind.Remove (act (remove_path path) None)
  pub memory : it.view.memory ≡ before
  pub leads : led_to before.disk path ≡ a_record it.state.home way
  pub regular : is_directory_at before.disk it.state.home ≡ false
  pub below : it.state.number < MAXOPEN
  pub closed : (number name : ℕ) → number < it.state.number → (a.opened number).held_by ≡ Some name → is_held a name ≡ true →
      it.view.homes number ≢ it.state.home

-- the server, where it sees another memory
abbrev pub over : Serving → Memory → Serving
over it m = record it { view = record it.view { memory = m } }

-- What was opened is looked up, or what is to be removed. The run leaves the memory over which what is opened was told.
pub data IsFound (count : ℕ) (a : AbstractState) (it : Serving) (before : Memory) : Type 0 where
  opened : (path : List ℕ) (mode home : ℕ) {m : Memory} → IsOpened a (over it m) before path mode home →
      IsRunning (find_calls_max count) count home m it.job it.view.memory → IsFound count a it before
  removed : IsFinding count a it before → IsFound count a it before

-- How many bytes that has which is opened is asked for. The run leaves the memory over which all else was told.
pub record IsSizing (count : ℕ) (a : AbstractState) (it : Serving) (before : Memory) : Type 0 where
  pub left_as : Memory
  pub so_far : IsTold a (over it left_as) before 5
  pub running : IsRunning size_calls_max count (size_opened so_far.opened) left_as it.job it.view.memory

-- ---- replying

-- The act is made, and the reply tells it: what is handed back stands in the page, and what is opened stands at its place.
abbrev pub HasObject : AbstractState → Serving → Option ℕ → Type 0
HasObject a it None = it.state.kind ≡ Some kind.Open → it.state.count ≢ 0
HasObject a it (Some name) =
    (it.state.kind ≡ Some kind.Open) × (it.state.count ≡ 0) × (it.state.number < MAXOPEN) × ((a.opened it.state.number).held_by ≡ Some name)
    × HasFile it.view.memory.disk a it.view it.state.number name

pub record IsReplying (a : AbstractState) (it : Serving) (before : Memory) : Type 0 where
  pub bytes : List ℕ
  pub object : Option ℕ
  pub server : a.server ≡ acted (client_of it.state) it.state.count bytes object
  pub memory : it.view.memory ≡ before
  pub handed : (i : ℕ) → i < length bytes → before.page i ≡ slice_index bytes i
  pub has_object : HasObject a it object

-- ---- steps

-- the frame of the place at hand was read of its entry
abbrev pub HasFrame : Serving → Type 0
HasFrame it = it.state.at / PGSIZE ≡ it.view.frames it.state.number

abbrev pub WasUsed : Serving → Type 0
WasUsed it = it.view.homes it.state.number ≢ 0

-- at each step what is so
abbrev pub StandsAtStep : ServerStep → ℕ → AbstractState → Serving → Memory → Type 0
StandsAtStep step.Releasing count a it before = (a.server ≡ leaving) × (it.view.memory.disk ≡ before.disk)
StandsAtStep step.Receiving count a it before = (a.server ≡ leaving) × (it.view.memory.disk ≡ before.disk)
StandsAtStep step.ReadingKind count a it before =
    (k : RequestKind) × (it.view.value ≡ requests.request_word k) × HasCome a it before it.view.sender k
StandsAtStep step.ReadingClient count a it before =
    (k : RequestKind) × (it.state.kind ≡ Some k) × HasCome a it before it.view.sender k
StandsAtStep step.ReadingFile count a it before = OfFile a it before
StandsAtStep step.ReadingOffset count a it before = OfFile a it before × HasNumber it
StandsAtStep step.ReadingCount count a it before = OfFile a it before × HasNumber it × HasOffset it
StandsAtStep step.ReadingRecord count a it before =
    OfFile a it before × HasNumber it × HasOffset it × (it.state.count ≡ request_word it.view REQUEST_COUNT) × (it.state.kind ≢ Some kind.Seek)
StandsAtStep step.LookingRecord count a it before = IsLooking a it before
StandsAtStep step.LookingEntry count a it before = IsLooking a it before × WasUsed it
StandsAtStep step.LookingHolders count a it before = IsLooking a it before × WasUsed it × HasFrame it
StandsAtStep step.TakingPage count a it before =
    (path : List ℕ) × (mode : ℕ) × IsOpening a it before path mode × (it.view.homes it.state.number ≡ 0) × (it.view.memory ≡ before)
StandsAtStep step.ReadingMode count a it before =
    (path : List ℕ) × (mode : ℕ) × IsOpening a it before path mode × HasPage it × (it.view.memory ≡ before)
StandsAtStep step.Working count a it before = IsWorking count a it before
StandsAtStep step.Finding count a it before = IsFound count a it before
StandsAtStep step.StoringRecord count a it before = IsTold a it before 0
StandsAtStep step.StoringDevice count a it before = IsTold a it before 1
StandsAtStep step.ReadingModeAgain count a it before = IsTold a it before 2
StandsAtStep step.StoringMode count a it before = IsTold a it before 3
StandsAtStep step.StoringFile count a it before = IsTold a it before 4
StandsAtStep step.ReadingRecordAgain count a it before = IsTold a it before 5
StandsAtStep step.Sizing count a it before = IsSizing count a it before
StandsAtStep step.StoringSize count a it before = IsTold a it before 6
StandsAtStep step.Advancing count a it before = HasMoved a it before
StandsAtStep step.StoringOffset count a it before = IsStoring a it before
StandsAtStep step.CheckingRecord count a it before = IsChecking a it before
StandsAtStep step.CheckingEntry count a it before = IsChecking a it before × (it.view.homes it.state.number ≡ it.state.home)
StandsAtStep step.CheckingHolders count a it before =
    IsChecking a it before × (it.view.homes it.state.number ≡ it.state.home) × HasFrame it
StandsAtStep step.Flushing count a it before = IsBusy a it before None kind.Sync (act sync_files None) × (it.view.memory ≡ before)
StandsAtStep step.Acting count a it before = IsDone a it before
StandsAtStep step.Replying count a it before = IsReplying a it before
StandsAtStep step.Pausing count a it before = IsReplying a it before

-- The server stands for the abstract one: the files are those of the disk as it was when the act began, the table of open files stands over that
-- disk, and at its step this is so.
pub record StandsServing (count : ℕ) (a : AbstractState) (it : Serving) : Type 0 where
  pub before : Memory
  pub files : HasFiles count before a.files
  pub table : TableStands before.disk a it.view
  pub at : StandsAtStep it.state.step count a it before

-- ---- the law

-- the steps from a request that has come up to the reply
abbrev pub is_serving : ServerStep → Bool
is_serving step.Releasing = false
is_serving step.Receiving = false
is_serving step.Replying = false
is_serving step.Pausing = false
is_serving _ = true

-- The file server is busy with a request whose act is not made.
abbrev pub is_acting : Server → Bool
is_acting (looking client request number) = true
is_acting (busy client request place) = true
is_acting _ = false

-- Behind a hidden step the server stands for the same abstract state, and behind a visible one for that after the abstract server's step.
abbrev pub Follows : ℕ → AbstractState → Progress → Serving → Type 0
Follows count a progress.Hidden it = StandsServing count a it
Follows count a progress.Visible it = (b : AbstractState) × (server_step a ≡ Some b) × StandsServing count b it
Follows count a _ it = ⊥

-- what is seen behind a step of the job, and where it goes
abbrev pub memory_worked : Serving → Memory
memory_worked it = memory_after (tree.ask_at it.job) it.view.memory

abbrev pub worked : Serving → Serving
worked it = record it { view = record it.view { memory = memory_worked it } }

abbrev pub word_worked : Serving → ℕ
word_worked it = reply_of (tree.ask_at it.job) it.view.memory

-- A step of a job is lawful, and leads on.
pub record WorksOn (count : ℕ) (a : AbstractState) (it : Serving) : Type 0 where
  pub bounded : is_bounded it.job ≡ true
  pub inside : IsInside count (tree.ask_at it.job)
  pub goes : (next : TreeState) → tree.next_at it.job (word_worked it) ≡ GoOn next → StandsServing count a (record (worked it) { job = next })
  pub answers : (word : ℕ) → AreSmall (memory_worked it) → tree.next_at it.job (word_worked it) ≡ Answer word →
      let next = next_at it.state word in Follows count a next.seen (gone_on (worked it) next (worked it).view)

abbrev pub GoesOnBy : ServerAsk → ℕ → AbstractState → Serving → Type 0
GoesOnBy (ask.Call call) count a it = (next : ServerNext) (behind : Serving) → Calls it next behind → Follows count a next.seen behind
GoesOnBy ask.Work count a it = WorksOn count a it
GoesOnBy ask.Flush count a it = let next = next_at it.state 0 in Follows count a next.seen (gone_on it next it.view)

-- From a request that has come up to the reply the server goes on as the abstract one does.
abbrev pub ServersServe : Type 0
ServersServe = (count : ℕ) (a : AbstractState) (it : Serving) → is_serving it.state.step ≡ true → AreSmall it.view.memory →
    StandsServing count a it → GoesOnBy (ask_at it.state) count a it

-- ---- how long a job lasts

-- the steps at which one is under way
abbrev pub has_job : ServerStep → Bool
has_job step.Working = true
has_job step.Finding = true
has_job step.Sizing = true
has_job _ = false

-- how many steps it has left
abbrev pub found_left : (count : ℕ) (a : AbstractState) (it : Serving) (before : Memory) → IsFound count a it before → ℕ
found_left count a it before (opened path mode home is run) = run.left
found_left count a it before (removed is) = is.running.left

abbrev pub left_at : (at : ServerStep) (count : ℕ) (a : AbstractState) (it : Serving) (before : Memory) → StandsAtStep at count a it before → ℕ
left_at step.Working count a it before is = is.on_its_way.left
left_at step.Finding count a it before is = found_left count a it before is
left_at step.Sizing count a it before is = is.running.left
left_at _ count a it before is = 0

abbrev pub job_left : (count : ℕ) (a : AbstractState) (it : Serving) → StandsServing count a it → ℕ
job_left count a it stands = left_at it.state.step count a it stands.before stands.at

-- and how many calls, by the block that was found last
abbrev pub found_calls : (count : ℕ) (a : AbstractState) (it : Serving) (before : Memory) → IsFound count a it before → Option ℕ → ℕ
found_calls count a it before (opened path mode home is run) found = calls_of found run.ends
found_calls count a it before (removed is) found = calls_of found is.running.ends

abbrev pub calls_at : (at : ServerStep) (count : ℕ) (a : AbstractState) (it : Serving) (before : Memory) → StandsAtStep at count a it before →
    Option ℕ → ℕ
calls_at step.Working count a it before is found = calls_of found is.on_its_way.ends
calls_at step.Finding count a it before is found = found_calls count a it before is found
calls_at step.Sizing count a it before is found = calls_of found is.running.ends
calls_at _ count a it before is found = 0

abbrev pub job_calls : (count : ℕ) (a : AbstractState) (it : Serving) → StandsServing count a it → Option ℕ → ℕ
job_calls count a it stands found = calls_at it.state.step count a it stands.before stands.at found

-- the most of them, by what is asked for: a path that is opened, or removed, is looked up beside the act
abbrev pub work_calls_max : Option RequestKind → ℕ → ℕ
work_calls_max (Some kind.Open) count = 2 ^ 12 * count + 59000
work_calls_max (Some kind.Remove) count = 2 ^ 12 * count + 55000
work_calls_max other count = 2 ^ 13 * count + 65000

abbrev pub job_calls_max : ServerStep → Option RequestKind → ℕ → ℕ
job_calls_max step.Finding k count = find_calls_max count
job_calls_max step.Sizing k count = size_calls_max
job_calls_max _ k count = work_calls_max k count

-- A job that goes on.
abbrev pub job_on : Serving → TreeState → Serving
job_on it next = record (worked it) { job = next }

-- The blocks of the disk bound how many these are, and where the job goes on it is one fewer, and its calls are fewer.
abbrev pub JobsEndSoon : Type 0
JobsEndSoon = (count : ℕ) (a : AbstractState) (it : Serving) (stands : StandsServing count a it) → has_job it.state.step ≡ true →
    (job_left count a it stands ≤ job_steps_max count) × (job_calls count a it stands None ≤ job_calls_max it.state.step it.state.kind count)
    × ((next : TreeState) → tree.next_at it.job (word_worked it) ≡ GoOn next →
    (further : StandsServing count a (job_on it next)) × (suc (job_left count a (job_on it next) further) ≡ job_left count a it stands)
    × FewerCalls (tree.ask_at it.job) (job_calls count a it stands) (job_calls count a (job_on it next) further))
