-- What a slot's environment has in memory, as the library sees it: the pages that it keeps beside those of the program, and the
-- frame of a page fault on the stack of its handler.
-- (MIT 6.828, inc/memlayout.h, and lib/pfentry.S.)
use Rattle.std.specs.Prelude.{◌≡◌, ◌≢◌, ◌<◌, ℕ, ◌+◌, ◌-◌, ◌/◌, ◌==◌, ◌&&◌, ◌||◌, Bool, true, false, List, None, Some}
use Rattle.std.specs.Prelude.{slice_index, if◌then◌else◌}
use Rattle.jos_base.specs.declared.memory.PageFault.{PageFault}
use Rattle.jos_base.specs.declared.numbers.TheConstants.{FDTABLE, NPTENTRIES, PGSIZE, USTACKTOP, UTEMP, UXSTACKTOP}
use Rattle.jos_base.specs.declared.registers.Regs.{Regs}
use Rattle.jos_base.specs.Reach.{Entry}
use Rattle.jos_base.specs.SystemCalls.{has_write}
use Rattle.jos_base.specs.TrapFrames.{frame_bytes, frame_size}
use Rattle.jos_base.specs.Words.{page_number}
use Rattle.lib_os.specs.declared.numbers.TheConstants.{PFTEMP, SERVICE_READ, SERVICE_REMOVE, SERVICE_SEEK, SERVICE_SET_SIZE, SERVICE_STAT}
use Rattle.lib_os.specs.declared.numbers.TheConstants.{SERVICE_WRITE, UXSTACK, SERVICE_OPEN_FILE, SERVICE_SPAWN}
use Rattle.lib_os.specs.declared.place.HandlerStep.TheVariants as handler
use Rattle.lib_os.specs.declared.place.Place.{Place}
use Rattle.lib_os.specs.declared.place.Place.TheVariants as place
use Rattle.lib_os.specs.declared.place.PipeStep.{PipeStep}
use Rattle.lib_os.specs.declared.place.PipeStep.TheVariants as pipe
use Rattle.lib_os.specs.declared.place.Step.{Step}
use Rattle.lib_os.specs.declared.place.Step.TheVariants as step
use Rattle.lib_os.specs.declared.service.Service.TheVariants as service
use Rattle.lib_os.specs.Places.{service_word, step_in}
use Rattle.lib_os.specs.Services.{is_built}
use Rattle.lib_os.specs.SpawnPages.{keeps_page_at, keeps_request_page}
use Rattle.lib_os.specs.Rows.{EntryRow, descriptor_perm, is_of_descriptor, is_programs, is_shared}

-- ---- regions

-- the region of 4 MB in which an address lies
abbrev pub region_index : ℕ → ℕ
region_index va = page_number va / NPTENTRIES

-- The library has pages in these regions: those that it works with, its descriptors, and its stacks.
abbrev pub is_library_region : ℕ → Bool
is_library_region r = (r == region_index UTEMP) || (r == region_index FDTABLE) || (r == region_index USTACKTOP)

-- ---- what is seen of a space

-- its entries, which regions have tables, and of frames the bytes, and how often each is mapped
pub record View : Type 0 where
  pub row : EntryRow
  pub tables : ℕ → Bool
  pub bytes : ℕ → List ℕ
  pub counts : ℕ → ℕ

-- a page of one's own, which may be written
pub record IsOwnWritable (row : EntryRow) (p : ℕ) : Type 0 where
  pub entry : Entry
  pub stands : row p ≡ Some entry
  pub own_page : is_shared entry.perm ≡ false
  pub writes : has_write entry.perm ≡ true

-- ---- the library's pages

-- the handler of page faults has a page at PFTEMP
abbrev pub has_copy : Place → Bool
has_copy (place.InHandler (handler.Loading va index)) = true
has_copy (place.InHandler (handler.Storing va index word)) = true
has_copy (place.InHandler (handler.MappingOver va)) = true
has_copy (place.InHandler (handler.Unmapping va)) = true
has_copy _ = false

-- read and write on a pipe have a page for the bytes that they move, from when they have taken it
abbrev pub keeps_moved : PipeStep → Bool
keeps_moved (pipe.Locking done id runs) = true
keeps_moved (pipe.LockPausing done) = true
keeps_moved (pipe.ReadFrom done id runs) = true
keeps_moved (pipe.ReadTo done id runs from) = true
keeps_moved (pipe.LoadingHeld done from) = true
keeps_moved (pipe.KeepingHeld done from byte) = true
keeps_moved (pipe.TakingHeld done from) = true
keeps_moved (pipe.LoadingOwn done to) = true
keeps_moved (pipe.PuttingOwn done to byte) = true
keeps_moved (pipe.Putting done to) = true
keeps_moved (pipe.UnlockingMoved done) = true
keeps_moved (pipe.UnlockingEnd done) = true
keeps_moved (pipe.UnlockingTest done id runs) = true
keeps_moved (pipe.TestIdentifying done) = true
keeps_moved (pipe.TestRuns done id) = true
keeps_moved (pipe.TestAgain done id runs) = true
keeps_moved (pipe.TestOwn done id runs) = true
keeps_moved (pipe.TestOther done id runs own) = true
keeps_moved (pipe.TestDescriptor done id runs) = true
keeps_moved (pipe.TestDescriptorCount done id runs frame) = true
keeps_moved (pipe.TestPipe done id runs count) = true
keeps_moved (pipe.TestPipeCount done id runs count frame) = true
keeps_moved (pipe.TestRunsAgain done id runs closed) = true
keeps_moved (pipe.TestPausing done) = true
keeps_moved _ = false

-- write has a page at UTEMP in which it keeps the bytes of its buffer, from when it has taken it until it gives it back; of a file that tells
-- its request
abbrev pub keeps_page : Step → Bool
keeps_page (step.BufferRegion done word) = true
keeps_page (step.BufferEntry done word) = true
keeps_page (step.GatheringBytes done start) = true
keeps_page (step.KeepingBytes done word left start) = true
keeps_page step.Printing = true
keeps_page step.Releasing = true
keeps_page (step.Faulting done word) = true
keeps_page step.ReadingNumber = true
keeps_page (step.StoringNumber number) = true
keeps_page step.StoringCount = true
keeps_page step.Identifying = true
keeps_page (step.Asking id) = true
keeps_page (step.Pausing id) = true
keeps_page (step.Awaiting id) = true
keeps_page (step.Clearing id) = true
keeps_page (step.Piped at) = keeps_moved at
keeps_page (step.Returning answer) = true
keeps_page _ = false

-- so have remove and open_file with their paths, from when they have taken the page until they give it back, behind the reply or where they refuse
abbrev pub keeps_path : Step → Bool
keeps_path (step.BufferRegion done word) = true
keeps_path (step.BufferEntry done word) = true
keeps_path (step.Gathering done) = true
keeps_path (step.Keeping done word left) = true
keeps_path (step.Faulting done word) = true
keeps_path step.Identifying = true
keeps_path (step.Asking id) = true
keeps_path (step.Pausing id) = true
keeps_path (step.Awaiting id) = true
keeps_path (step.Clearing id) = true
keeps_path step.FreeRegion = true
keeps_path (step.FreeEntry fd) = true
keeps_path (step.StoringMode fd) = true
keeps_path (step.OpenIdentifying fd) = true
keeps_path (step.OpenAsking id fd) = true
keeps_path (step.OpenPausing id fd) = true
keeps_path (step.OpenAwaiting id fd) = true
keeps_path (step.OpenClearing id fd) = true
keeps_path _ = false

-- and seek, set_size, read and stat with what they ask, from when they have taken the page until they give it back, behind the reply; read and
-- stat have the bytes of the reply there
abbrev pub keeps_request : Step → Bool
keeps_request step.ReadingNumber = true
keeps_request (step.StoringNumber number) = true
keeps_request step.StoringCount = true
keeps_request step.Identifying = true
keeps_request (step.Asking id) = true
keeps_request (step.Pausing id) = true
keeps_request (step.Awaiting id) = true
keeps_request (step.Clearing id) = true
keeps_request (step.CountingReply id) = true
keeps_request (step.FileRegion done count) = true
keeps_request (step.FileEntry done count) = true
keeps_request (step.LoadingBytes done count) = true
keeps_request (step.LoadingRest done count first) = true
keeps_request (step.PuttingBytes done count word) = true
keeps_request (step.FileFaulting done count) = true
keeps_request (step.Returning answer) = true
keeps_request (step.Piped at) = keeps_moved at
keeps_request _ = false

-- spawn has its path there, then each of its requests with what that brings, and the record of its child's registers
abbrev pub keeps_spawning : Step → Bool
keeps_spawning (step.BufferRegion done word) = true
keeps_spawning (step.BufferEntry done word) = true
keeps_spawning (step.Gathering done) = true
keeps_spawning (step.Keeping done word left) = true
keeps_spawning (step.Faulting done word) = true
keeps_spawning (step.Spawning at) = keeps_request_page at
keeps_spawning _ = false

-- these services, by their numbers
abbrev pub asks_of_files : ℕ → Bool
asks_of_files number = (number == SERVICE_SEEK) || (number == SERVICE_SET_SIZE) || (number == SERVICE_READ) || (number == SERVICE_STAT)

-- the words are kept for spawn, where that is built
abbrev pub are_spawns : List ℕ → Bool
are_spawns words = is_built SERVICE_SPAWN && (service_word words == SERVICE_SPAWN + 1)

-- the same by the words that are kept for the service, as beneath the handler of page faults
abbrev pub keeps_page_beneath : List ℕ → Bool
keeps_page_beneath words =
    if service_word words == SERVICE_WRITE + 1 then keeps_page (step_in words)
    else if (service_word words == SERVICE_REMOVE + 1) || (service_word words == SERVICE_OPEN_FILE + 1) then keeps_path (step_in words)
    else if are_spawns words then keeps_spawning (step_in words)
    else asks_of_files (service_word words - 1) && keeps_request (step_in words)

-- there is such a page
abbrev pub has_working : Place → List ℕ → Bool
has_working (place.InService (service.Write fd va len) at) words = keeps_page at
has_working (place.InService (service.Remove path) at) words = keeps_path at
has_working (place.InService (service.OpenFile path mode) at) words = keeps_path at
has_working (place.InService (service.Spawn path argv) at) words = keeps_spawning at
has_working (place.InService (service.Seek fd offset) at) words = keeps_request at
has_working (place.InService (service.SetSize fd size) at) words = keeps_request at
has_working (place.InService (service.Read fd va len) at) words = keeps_request at
has_working (place.InService (service.Stat fd va) at) words = keeps_request at
has_working (place.InHandler at) words = keeps_page_beneath words
has_working _ words = false

-- spawn has others, at a step
abbrev pub spawn_keeps : Step → ℕ → Bool
spawn_keeps (step.Spawning at) p = keeps_page_at at p
spawn_keeps _ p = false

abbrev pub keeps_beneath : List ℕ → ℕ → Bool
keeps_beneath words p = are_spawns words && spawn_keeps (step_in words) p

-- there is such a page, with this number
abbrev pub has_spawns : Place → List ℕ → ℕ → Bool
has_spawns (place.InService (service.Spawn path argv) at) words p = spawn_keeps at p
has_spawns (place.InHandler at) words p = keeps_beneath words p
has_spawns _ words p = false

-- Beside the pages that a program may have there are those of its descriptors, the stack of the handler of page faults, while that
-- copies, the copy, the page in which a service keeps what it moves, and those that spawn keeps beside that.
pub record LibraryPages (at : Place) (words : List ℕ) (row : EntryRow) : Type 0 where
  pub stack : IsOwnWritable row (page_number UXSTACK)
  pub copy : has_copy at ≡ true → IsOwnWritable row (page_number PFTEMP)
  pub no_copy : has_copy at ≡ false → row (page_number PFTEMP) ≡ None
  pub descriptors : (p : ℕ) (entry : Entry) → is_of_descriptor p ≡ true → row p ≡ Some entry → entry.perm ≡ descriptor_perm
  pub working : has_working at words ≡ true → IsOwnWritable row (page_number UTEMP)
  pub no_working : has_working at words ≡ false → row (page_number UTEMP) ≡ None
  pub spawns : (p : ℕ) → has_spawns at words p ≡ true → IsOwnWritable row p
  pub none : (p : ℕ) → is_programs p ≡ false → is_of_descriptor p ≡ false → p ≢ page_number UXSTACK → p ≢ page_number PFTEMP →
      p ≢ page_number UTEMP → has_spawns at words p ≡ false → row p ≡ None

-- The page at UTEMP has the first n of these bytes.
pub record HasTaken (v : View) (bytes : List ℕ) (n : ℕ) : Type 0 where
  pub entry : Entry
  pub stands : v.row (page_number UTEMP) ≡ Some entry
  pub own_page : is_shared entry.perm ≡ false
  pub same : (i : ℕ) → i < n → slice_index (v.bytes entry.frame) i ≡ slice_index bytes i

-- ---- the frame of a page fault

-- where it stands: at the top of the stack of the handler
abbrev pub frame_place : ℕ
frame_place = UXSTACKTOP - frame_size

-- The frame of a fault, with the registers of the program that raised it, stands there, and ESP is its address.
pub record HasFrame (v : View) (esp : ℕ) (fault : PageFault) (regs : Regs) : Type 0 where
  pub at : esp ≡ frame_place
  pub entry : Entry
  pub stands : v.row (page_number UXSTACK) ≡ Some entry
  pub own_page : is_shared entry.perm ≡ false
  pub bytes : (i : ℕ) → i < frame_size →
      slice_index (v.bytes entry.frame) (PGSIZE - frame_size + i) ≡ slice_index (frame_bytes fault regs) i
