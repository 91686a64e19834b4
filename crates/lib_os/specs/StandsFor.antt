-- When a state of the kernel stands for a state of the abstract system. It is a conjunction of parts: one of each slot,
-- with its registers, its place in a service and its pages; one of each frame, with the entries that name it; and one of
-- what is there once. Nothing here speaks of steps. (That the library keeps this is what its steps promise, in
-- `LibrarySteps.antt`. As far as objects are built, what a descriptor names is a file that is open, or the console.)
use Rattle.std.specs.Prelude.{◌≡◌, ◌≢◌, ◌<◌, ◌≤◌, ℕ, ◌+◌, ◌-◌, ◌*◌, ◌/◌, ◌%◌, ◌^◌, ◌==◌, ◌&&◌, ◌||◌, nat_le, nat_lt, not, Bool, true, false}
use Rattle.std.specs.Prelude.{is_some, List, [], ◌∷◌, Option, Some, None}
use Rattle.std.specs.Prelude.{length, take, drop, slice_index, if◌then◌else◌}
use Rattle.std.specs.Int.{w32, to_le_bytes}
use Rattle.std.specs.List.{position_or_len}
use Rattle.jos_base.specs.declared.environment.EnvType.TheVariants.{User, FileServer}
use Rattle.jos_base.specs.declared.environment.Status.{Status}
use Rattle.jos_base.specs.declared.environment.Status.TheVariants.{Runnable, Running, NotRunnable}
use Rattle.jos_base.specs.declared.numbers.TheConstants.{FDTABLE, FIRST_ENV_ID, NENV, NPTENTRIES, PGSIZE, USTACKTOP, UTEMP, UTOP}
use Rattle.jos_base.specs.declared.registers.Regs.{Regs}
use Rattle.jos_base.specs.Environments.{Slot, free_slot, no_extra, is_live, is_running}
use Rattle.jos_base.specs.KernelState.{KernelState, slot_at}
use Rattle.jos_base.specs.Messages.{Rendezvous}
use Rattle.jos_base.specs.Reach.{Entry}
use Rattle.jos_base.specs.SpacesState.{SpacesState, reference_count}
use Rattle.jos_base.specs.SystemCalls.{has_write}
use Rattle.jos_base.specs.TrapFrames.{user_flags}
use Rattle.jos_base.specs.Words.{page_number, word_at}
use Rattle.lib_os.specs.declared.numbers.TheConstants.{DESCRIPTORS, DISKMAP, MAXOPEN, OFFSET_MAX, OPEN_RECORDS, PGFAULT_UPCALL, REQUEST}
use Rattle.lib_os.specs.declared.numbers.TheConstants.{REQUEST_BYTES, REQUEST_COUNT, REQUEST_FILE, UXSTACK, STAT_SIZE, REQUEST_MODE}
use Rattle.fs_layout.specs.declared.numbers.TheConstants.{MAXBLOCKS, MAXPATHLEN}
use Rattle.lib_os.specs.declared.place.HandlerStep.TheVariants as handler
use Rattle.lib_os.specs.declared.place.Place.{Place}
use Rattle.lib_os.specs.declared.place.Place.TheVariants as place
use Rattle.lib_os.specs.declared.place.Step.{Step}
use Rattle.lib_os.specs.declared.place.Step.TheVariants as step
use Rattle.lib_os.specs.declared.service.Service.{Service}
use Rattle.lib_os.specs.declared.service.Service.TheVariants as service
use Rattle.lib_os.specs.AbstractState.{AbstractState, Born, AbstractSlot, free, unborn, born, serving, Server, idle, TablePlace}
use Rattle.lib_os.specs.AbstractState.{Stage, asked, awaiting, replied, bearing, entered, gathering, receiving, received, Message, guest, at_guest, in_service}
use Rattle.lib_os.specs.AbstractMemory.{has_page_in}
use Rattle.lib_os.specs.AbstractMessages.{is_page_or_none}
use Rattle.lib_os.specs.DescriptorPages.{Things, mode_of, number_of, place_page}
use Rattle.lib_os.specs.Fence.{is_buffer, is_inside, is_page_inside, is_resident}
use Rattle.lib_os.specs.FileServices.{is_nul, is_mode}
use Rattle.lib_os.specs.InOrder.{IsInOrder}
use Rattle.lib_os.specs.InService.{EachIsOpenBelow, HasTable, IsDuplicating, IsIn, IsLowestFree, IsOpen, NoneIsOpenBelow}
use Rattle.lib_os.specs.LibraryPages.{View, HasTaken, IsOwnWritable, LibraryPages, is_library_region, region_index}
use Rattle.lib_os.specs.PipeEnds.{EndsStandAt, LocksStand, is_dropped, is_made}
use Rattle.lib_os.specs.Places.{place_of, is_handlers, service_word}
use Rattle.lib_os.specs.Rows.{EntryRow, Names, rows_of, page_seen, logical, is_programs, is_shared, may_write, cow_perm}
use Rattle.lib_os.specs.Rows.{descriptor_page, descriptor_seen, is_of_descriptor, pipe_page}
use Rattle.lib_os.specs.Rows.{AgreeWhereShared, AreBytes, AreNamed, AreBeside, AreUsers, IsUsers, AreWhole, server_row}
use Rattle.lib_os.specs.SpawnedChild.{IsSpawned, spawning_child}
use Rattle.lib_os.specs.StandsAtPipe.{StandsAtPipe}
use Rattle.lib_os.specs.StandsAtSpawn.{StandsAtSpawn}
use Rattle.lib_os.specs.StandsInHandler.{IsAtGuest, IsFileOpen, IsInHandler, IsGiven, IsGivenBytes, WantsMore, StandsDelivering, StandsPutting}
use Rattle.lib_os.specs.StandsInHandler.{buffer_of, wanted_of, is_refused_by, next_page, wanted_from, HasBytes, IsLoadingBytes, IsLoadingRest}
use Rattle.lib_os.specs.StandsInHandler.{IsPuttingBytes, MayPut, handed_with, hands_back, HasNoEnd, WantsMoreOfPath, may_follow, stage_with}
use Rattle.lib_os.specs.StandsInHandler.{takes_path}

-- ---- an environment at its place

-- an environment may be named by this id in send and receive
abbrev pub IsOther : Born → ℕ → Type 0
IsOther b id = (id ≢ b.id) × (id ≢ FIRST_ENV_ID)

-- the page at an address may pass, by its entry's bits
pub record IsSendable (row : EntryRow) (va perm : ℕ) : Type 0 where
  pub inside : is_page_inside va ≡ true
  pub entry : Entry
  pub stands : row (page_number va) ≡ Some entry
  pub bits : perm ≡ entry.perm
  pub passes : is_shared perm || not (may_write perm) ≡ true

-- there is no page to send, or it may pass
abbrev pub MaySendBy : Bool → EntryRow → ℕ → ℕ → Type 0
MaySendBy true row va perm = Unit {0}
MaySendBy false row va perm = IsSendable row va perm

abbrev pub MaySend : EntryRow → ℕ → ℕ → Type 0
MaySend row va perm = MaySendBy (va == 0) row va perm

pub record IsTrying (row : EntryRow) (k : Slot) (b : Born) (id value va perm : ℕ) : Type 0 where
  pub is_in : IsIn k b (service.Send id value va) entered
  pub some : id ≢ 0
  pub other : IsOther b id
  pub page : MaySend row va perm

pub record IsWaiting (k : Slot) (b : Born) (id : ℕ) : Type 0 where
  pub is_in : IsIn k b (service.Wait id) entered
  pub some : id ≢ 0
  pub other : id ≢ b.id

-- send, before it knows the bits of its page; where it reads its entry, the page's region is known to have a table
pub record IsLooking (k : Slot) (b : Born) (id value va : ℕ) : Type 0 where
  pub is_in : IsIn k b (service.Send id value va) entered
  pub some : id ≢ 0
  pub other : IsOther b id
  pub somewhere : va ≢ 0
  pub inside : is_page_inside va ≡ true

-- receive, before it waits
pub record IsAboutToWait (k : Slot) (b : Born) (va from id : ℕ) : Type 0 where
  pub is_in : IsIn k b (service.Receive va from) entered
  pub self : id ≡ k.id
  pub page : is_page_or_none va ≡ true
  pub other : IsOther b from

-- where the kernel is told to put a page; 0 stands for no page
abbrev pub destination_of : ℕ → ℕ
destination_of va = if va == 0 then UTOP else va

-- receive, while it waits
pub record IsReceiving (k : Slot) (b : Born) (va from : ℕ) : Type 0 where
  pub program : b.program ≡ guest k.registers
  pub phase : b.phase ≡ in_service (service.Receive va from) receiving
  pub blocked : b.blocked ≡ true
  pub page : is_page_or_none va ≡ true
  pub rendezvous : k.rendezvous.receiving ≡ true
  pub wanted : k.rendezvous.wanted ≡ from
  pub destination : k.rendezvous.destination ≡ destination_of va

-- what the bits of a page's entry are told as: 0 no page, 1 one that may be read, 2 one that may be written
abbrev pub kind_by : ℕ → ℕ
kind_by perm = if perm == 0 then 0 else if has_write perm then 2 else 1

-- the words of a message that has come, which the kernel keeps
pub record HasCome (r : Rendezvous) (m : Message) : Type 0 where
  pub value : r.value ≡ m.value
  pub sender : r.sender ≡ m.sender
  pub page : kind_by r.perm ≡ m.page
  pub value_small : r.value < 2 ^ 32
  pub sender_small : r.sender < 2 ^ 32
  pub perm_small : r.perm < 4096

-- Receive, when a message has come: the kernel has set EAX to 0.
pub record HasReceived (k : Slot) (b : Born) (va from : ℕ) : Type 0 where
  pub regs : Regs
  pub program : b.program ≡ guest regs
  pub registers : k.registers ≡ record regs { eax = 0 }
  pub message : Message
  pub phase : b.phase ≡ in_service (service.Receive va from) (received message)
  pub awake : b.blocked ≡ false
  pub silent : k.rendezvous.receiving ≡ false
  pub come : HasCome k.rendezvous message

-- receive, where it waits, or where the message has come and nothing of it is read
pub data WaitsOrHas (k : Slot) (b : Born) (va from : ℕ) : Type 0 where
  waits : IsReceiving k b va from → WaitsOrHas k b va from
  has : HasReceived k b va from → WaitsOrHas k b va from

-- ---- requests to the file server

-- It has asked, and does not wait yet.
pub record HasAsked (k : Slot) (b : Born) (s : Service) : Type 0 where
  pub program : b.program ≡ guest k.registers
  pub phase : b.phase ≡ in_service s asked
  pub silent : k.rendezvous.receiving ≡ false
  pub awake : b.blocked ≡ false

-- it waits for the server's reply, with which no page goes
pub record IsAwaiting (k : Slot) (b : Born) (s : Service) : Type 0 where
  pub program : b.program ≡ guest k.registers
  pub phase : b.phase ≡ in_service s awaiting
  pub blocked : b.blocked ≡ true
  pub rendezvous : k.rendezvous.receiving ≡ true
  pub wanted : k.rendezvous.wanted ≡ FIRST_ENV_ID
  pub destination : k.rendezvous.destination ≡ UTOP

-- The reply has come, which is a word: the kernel has set EAX to 0.
pub record HasReply (k : Slot) (b : Born) (s : Service) : Type 0 where
  pub regs : Regs
  pub program : b.program ≡ guest regs
  pub registers : k.registers ≡ record regs { eax = 0 }
  pub phase : b.phase ≡ in_service s (replied [] k.rendezvous.value)
  pub awake : b.blocked ≡ false
  pub silent : k.rendezvous.receiving ≡ false
  pub small : k.rendezvous.value < 2 ^ 32

-- where it waits, or where the reply has come and is not read
pub data AwaitsOrHas (k : Slot) (b : Born) (s : Service) : Type 0 where
  awaits : IsAwaiting k b s → AwaitsOrHas k b s
  has_reply : HasReply k b s → AwaitsOrHas k b s

-- The reply of one to which bytes are handed back: the page at UTEMP has them.
pub record HasBytesReply (v : View) (k : Slot) (b : Born) (s : Service) : Type 0 where
  pub regs : Regs
  pub program : b.program ≡ guest regs
  pub registers : k.registers ≡ record regs { eax = 0 }
  pub bytes : List ℕ
  pub phase : b.phase ≡ in_service s (replied bytes k.rendezvous.value)
  pub awake : b.blocked ≡ false
  pub silent : k.rendezvous.receiving ≡ false
  pub small : k.rendezvous.value < 2 ^ 32
  pub many : length bytes ≡ handed_with s k.rendezvous.value
  pub small_bytes : AreBytes bytes
  pub kept : HasTaken v bytes (length bytes)

-- Where it waits nothing is known of its page, into which the server puts the bytes.
pub data AwaitsOrHasBytes (v : View) (k : Slot) (b : Born) (s : Service) : Type 0 where
  awaits_bytes : IsAwaiting k b s → AwaitsOrHasBytes v k b s
  has_bytes : HasBytesReply v k b s → AwaitsOrHasBytes v k b s

-- it is about to count them, or waits, and its buffer lies in the fence
pub record IsCounting (v : View) (k : Slot) (b : Born) (s : Service) (id : ℕ) : Type 0 where
  pub self : id ≡ k.id
  pub hands : hands_back s ≡ true
  pub inside : MayPut s
  pub so : AwaitsOrHasBytes v k b s

-- ---- what a descriptor names

-- the descriptor of which a service wants to know what it names
abbrev pub descriptor_given : Service → Option ℕ
descriptor_given (service.Read fd va len) = Some fd
descriptor_given (service.Write fd va len) = Some fd
descriptor_given (service.Seek fd offset) = Some fd
descriptor_given (service.Stat fd va) = Some fd
descriptor_given (service.SetSize fd size) = Some fd
descriptor_given _ = None

-- it is about to read the entry of its page
pub record IsLookingUp (v : View) (k : Slot) (b : Born) (s : Service) (at fd : ℕ) : Type 0 where
  pub is_in : IsIn k b s entered
  pub same : at ≡ fd
  pub below : fd < DESCRIPTORS
  pub table : HasTable v

-- it is open, and the service is about to read what it names
pub record IsReadingDevice (v : View) (k : Slot) (b : Born) (s : Service) (fd : ℕ) : Type 0 where
  pub is_in : IsIn k b s entered
  pub below : fd < DESCRIPTORS
  pub stands : IsOpen v.row fd

abbrev pub StandsAtDevice : View → Slot → Born → Service → Option ℕ → Type 0
StandsAtDevice v k b s (Some fd) = IsReadingDevice v k b s fd
StandsAtDevice v k b s None = ⊥

-- ---- bytes that are moved

-- as it moves bytes, their pages are written or read
abbrev pub writes_buffer : Service → Bool
writes_buffer (service.Write fd va len) = false
writes_buffer (service.Remove path) = false
writes_buffer (service.OpenFile path mode) = false
writes_buffer (service.Spawn path argv) = false
writes_buffer _ = true

-- the page of the next byte refuses it
abbrev pub refuses_next : EntryRow → Service → ℕ → Bool
refuses_next row s done = is_refused_by (writes_buffer s) (row (next_page s done))

-- The page at UTEMP has the first n of these bytes from this place of the page on.
pub record HasTakenFrom (v : View) (start : ℕ) (bytes : List ℕ) (n : ℕ) : Type 0 where
  pub entry : Entry
  pub stands : v.row (page_number UTEMP) ≡ Some entry
  pub own_page : is_shared entry.perm ≡ false
  pub same : (i : ℕ) → i < n → slice_index (v.bytes entry.frame) (start % PGSIZE + i) ≡ slice_index bytes i

-- write has taken so many bytes, which its page has, and wants more
pub record IsTaking (v : View) (k : Slot) (b : Born) (fd va len start done : ℕ) : Type 0 where
  pub bytes : List ℕ
  pub program : b.program ≡ guest k.registers
  pub wants : WantsMore v b fd va len start bytes
  pub many : length bytes ≡ done
  pub kept : HasTakenFrom v start bytes done
  pub silent : k.rendezvous.receiving ≡ false
  pub awake : b.blocked ≡ false

-- it has loaded the last so many of the bytes that it has taken, and its page has those before
pub record IsKeeping (v : View) (k : Slot) (b : Born) (fd va len start done word left : ℕ) : Type 0 where
  pub bytes : List ℕ
  pub is_in : IsIn k b (service.Write fd va len) (gathering bytes)
  pub given : IsGivenBytes v fd va len start
  pub many : length bytes ≡ done + left
  pub few : length bytes ≤ wanted_from start len
  pub some : 0 < left
  pub last : left ≤ 4
  pub word_is : take left (to_le_bytes w32 word) ≡ drop done bytes
  pub small : AreBytes bytes
  -- the page of the last of them did not refuse it
  pub allowed : refuses_next v.row (service.Write fd va len) (done + left - 1) ≡ false
  pub kept : HasTakenFrom v start bytes done

-- its page has all bytes for the console
pub record IsPrinting (v : View) (k : Slot) (b : Born) (fd va len : ℕ) : Type 0 where
  pub bytes : List ℕ
  pub is_in : IsIn k b (service.Write fd va len) (gathering bytes)
  pub given : IsGiven v fd va len
  pub many : length bytes ≡ wanted_of len
  pub kept : HasTaken v bytes (length bytes)

-- one that is given a path has taken so many bytes of it, which its page has, and wants more
pub record IsTakingPath (v : View) (k : Slot) (b : Born) (s : Service) (done : ℕ) : Type 0 where
  pub bytes : List ℕ
  pub program : b.program ≡ guest k.registers
  pub wants : WantsMoreOfPath b s bytes
  pub many : length bytes ≡ done
  pub kept : HasTaken v bytes done
  pub silent : k.rendezvous.receiving ≡ false
  pub awake : b.blocked ≡ false

-- it has taken so many, none of them the end, and may take no other
pub record IsRefusingPath (k : Slot) (b : Born) (s : Service) (done : ℕ) : Type 0 where
  pub bytes : List ℕ
  pub takes : takes_path s ≡ true
  pub is_in : IsIn k b s (stage_with bytes)
  pub no_end : HasNoEnd bytes
  pub many : length bytes ≡ done
  pub few : done ≤ MAXPATHLEN
  pub ends : may_follow (buffer_of s) done ≡ false

-- It is about to take the next, whose page doesn't refuse that, or to refuse its path, by whether another may follow.
abbrev pub IsGatheringPath : Bool → View → Slot → Born → Service → ℕ → Type 0
IsGatheringPath true v k b s done = IsTakingPath v k b s done × (refuses_next v.row s done ≡ false)
IsGatheringPath false v k b s done = IsRefusingPath k b s done

-- It has loaded the last so many of the bytes that it has taken, and its page has those before, none of which is the end.
pub record IsKeepingPath (v : View) (k : Slot) (b : Born) (s : Service) (done word left : ℕ) : Type 0 where
  pub bytes : List ℕ
  pub takes : takes_path s ≡ true
  pub is_in : IsIn k b s (gathering bytes)
  pub many : length bytes ≡ done + left
  pub few : length bytes ≤ MAXPATHLEN
  pub some : 0 < left
  pub last : left ≤ 4
  pub word_is : take left (to_le_bytes w32 word) ≡ drop done bytes
  pub small : AreBytes bytes
  pub no_end : done ≤ position_or_len is_nul bytes
  -- the page of the last of them did not refuse it
  pub allowed : refuses_next v.row s (done + left - 1) ≡ false
  pub kept : HasTaken v bytes done

-- The path is taken: its page has it, with its end.
pub record HasWholePath (v : View) (k : Slot) (b : Born) (s : Service) : Type 0 where
  pub bytes : List ℕ
  pub is_in : IsIn k b s (gathering bytes)
  pub few : length bytes ≤ MAXPATHLEN
  pub small : AreBytes bytes
  pub ended : position_or_len is_nul bytes < length bytes
  pub kept : HasTaken v bytes (position_or_len is_nul bytes + 1)

-- ---- a request on a file that is open

-- the page at UTEMP has this word at this place
pub record HasWordAt (v : View) (at word : ℕ) : Type 0 where
  pub entry : Entry
  pub stands : v.row (page_number UTEMP) ≡ Some entry
  pub own_page : is_shared entry.perm ≡ false
  pub word_is : word_at (slice_index (v.bytes entry.frame)) at ≡ word

-- at a stage it is given a descriptor that names a file
pub record IsOfFileAt (v : View) (k : Slot) (b : Born) (s : Service) (stage : Stage) (fd : ℕ) : Type 0 where
  pub is_in : IsIn k b s stage
  pub below : fd < DESCRIPTORS
  pub file : IsFileOpen v fd

-- of which it has asked nothing, and taken nothing for it
abbrev pub IsOfFile : View → Slot → Born → Service → ℕ → Type 0
IsOfFile v k b s fd = IsOfFileAt v k b s entered fd

-- write has all bytes that it takes, which its page has behind what its request tells before
pub record HasAllBytes (v : View) (va len : ℕ) (stage : Stage) : Type 0 where
  pub bytes : List ℕ
  pub stage_is : stage ≡ stage_with bytes
  pub buffer : is_buffer va (wanted_from REQUEST_BYTES len) ≡ true
  pub many : length bytes ≡ wanted_from REQUEST_BYTES len
  pub kept : HasTakenFrom v REQUEST_BYTES bytes (length bytes)

-- a service has what it takes for its request: the others take nothing
abbrev pub HasForRequest : View → Service → Stage → Type 0
HasForRequest v (service.Write fd va len) stage = HasAllBytes v va len stage
HasForRequest v _ stage = stage ≡ entered

-- what it asks of a file of this mode is not refused
abbrev pub MayAskOf : Service → ℕ → Type 0
MayAskOf (service.Seek fd offset) mode = offset ≤ OFFSET_MAX
MayAskOf (service.SetSize fd size) mode = mode ≢ 0
MayAskOf (service.Write fd va len) mode = mode ≢ 0
MayAskOf (service.Read fd va len) mode = (mode ≢ 1) × (is_buffer va (wanted_of len) ≡ true)
MayAskOf (service.Stat fd va) mode = is_buffer va STAT_SIZE ≡ true
MayAskOf _ mode = ⊥

-- and the offset, the size, or how many bytes it writes or wants, that goes with it; stat has none
abbrev pub count_given : Service → ℕ
count_given (service.Seek fd offset) = offset
count_given (service.SetSize fd size) = size
count_given (service.Write fd va len) = wanted_from REQUEST_BYTES len
count_given (service.Read fd va len) = wanted_of len
count_given _ = 0

-- it is about to ask that of the file
pub record AsksOfFile (v : View) (k : Slot) (b : Born) (s : Service) (fd : ℕ) : Type 0 where
  pub stage : Stage
  pub of_file : IsOfFileAt v k b s stage fd
  pub allowed : MayAskOf s (mode_of (v.bytes of_file.file.entry.frame))
  pub has : HasForRequest v s stage

-- it has read the number of the file
pub record HasFileNumber (v : View) (k : Slot) (b : Born) (s : Service) (fd number : ℕ) : Type 0 where
  pub asks : AsksOfFile v k b s fd
  pub number_is : number ≡ number_of (v.bytes asks.of_file.file.entry.frame)

-- its page has the number
pub record TellsNumber (v : View) (k : Slot) (b : Born) (s : Service) (fd : ℕ) : Type 0 where
  pub asks : AsksOfFile v k b s fd
  pub number_told : HasWordAt v REQUEST_FILE (number_of (v.bytes asks.of_file.file.entry.frame))

-- and what goes with it
pub record TellsOfFile (v : View) (k : Slot) (b : Born) (s : Service) (fd : ℕ) : Type 0 where
  pub asks : AsksOfFile v k b s fd
  pub number_told : HasWordAt v REQUEST_FILE (number_of (v.bytes asks.of_file.file.entry.frame))
  pub count_told : HasWordAt v REQUEST_COUNT (count_given s)

-- ---- a file is opened

-- the page of open_file has its path, and it looks for a free descriptor, from this one on: all below are open
pub record IsLookingForFree (v : View) (k : Slot) (b : Born) (s : Service) (fd : ℕ) : Type 0 where
  pub whole : HasWholePath v k b s
  pub most : fd ≤ DESCRIPTORS
  pub lower : EachIsOpenBelow v.row fd
  pub table : HasTable v

-- it has found the lowest that is free
pub record HasFoundFree (v : View) (k : Slot) (b : Born) (s : Service) (fd : ℕ) : Type 0 where
  pub whole : HasWholePath v k b s
  pub lowest : IsLowestFree v.row fd

-- the page has the mode, too
pub record TellsOpen (v : View) (k : Slot) (b : Born) (s : Service) (mode : ℕ) : Type 0 where
  pub whole : HasWholePath v k b s
  pub mode_told : HasWordAt v REQUEST_MODE mode

-- It waits for the reply. A page that comes with it is put where that of its descriptor is.
pub record IsAwaitingFile (v : View) (k : Slot) (b : Born) (s : Service) (fd : ℕ) : Type 0 where
  pub program : b.program ≡ guest k.registers
  pub phase : b.phase ≡ in_service s awaiting
  pub blocked : b.blocked ≡ true
  pub rendezvous : k.rendezvous.receiving ≡ true
  pub wanted : k.rendezvous.wanted ≡ FIRST_ENV_ID
  pub destination : k.rendezvous.destination ≡ FDTABLE + PGSIZE * fd
  pub lowest : IsLowestFree v.row fd

-- what is answered by the word of the reply: that is 0 where the file is open, by its descriptor, and else an error's number
abbrev pub opened_answer : ℕ → ℕ → ℕ
opened_answer value fd = if value == 0 then fd else value

-- The reply has come: the kernel has set EAX to 0.
pub record HasOpened (k : Slot) (b : Born) (s : Service) (fd : ℕ) : Type 0 where
  pub regs : Regs
  pub program : b.program ≡ guest regs
  pub registers : k.registers ≡ record regs { eax = 0 }
  pub phase : b.phase ≡ in_service s (replied [] (opened_answer k.rendezvous.value fd))
  pub awake : b.blocked ≡ false
  pub silent : k.rendezvous.receiving ≡ false
  pub small : k.rendezvous.value < 2 ^ 32

-- where it waits, or where the reply has come and is not read
pub data AwaitsFileOrHas (v : View) (k : Slot) (b : Born) (s : Service) (fd : ℕ) : Type 0 where
  awaits_file : IsAwaitingFile v k b s fd → AwaitsFileOrHas v k b s fd
  has_opened : HasOpened k b s fd → AwaitsFileOrHas v k b s fd

-- ---- requests

-- the page of a service tells its request
abbrev pub TellsRequest : View → Slot → Born → Service → Type 0
TellsRequest v k b (service.Remove path) = HasWholePath v k b (service.Remove path)
TellsRequest v k b (service.OpenFile path mode) = TellsOpen v k b (service.OpenFile path mode) mode
TellsRequest v k b (service.Seek fd offset) = TellsOfFile v k b (service.Seek fd offset) fd
TellsRequest v k b (service.SetSize fd size) = TellsOfFile v k b (service.SetSize fd size) fd
TellsRequest v k b (service.Write fd va len) = TellsOfFile v k b (service.Write fd va len) fd
TellsRequest v k b (service.Read fd va len) = TellsOfFile v k b (service.Read fd va len) fd
TellsRequest v k b (service.Stat fd va) = TellsOfFile v k b (service.Stat fd va) fd
TellsRequest v k b _ = ⊥

-- ---- what is printed, and the bytes that are put

-- they are printed, and the program goes on with the answer
pub record HasPrinted (k : Slot) (b : Born) (len : ℕ) : Type 0 where
  pub program : b.program ≡ guest (record k.registers { eax = wanted_of len })
  pub phase : b.phase ≡ at_guest
  pub silent : k.rendezvous.receiving ≡ false
  pub awake : b.blocked ≡ false

-- the services that give a page back behind their answer
abbrev pub goes_back : Service → Bool
goes_back (service.Read fd va len) = true
goes_back (service.Write fd va len) = true
goes_back (service.Stat fd va) = true
goes_back _ = false

-- the bytes of a file are put, or those of a pipe are moved, and the program goes on with the answer
pub record HasReturned (k : Slot) (b : Born) (s : Service) (answer : ℕ) : Type 0 where
  pub goes : goes_back s ≡ true
  pub program : b.program ≡ guest (record k.registers { eax = answer })
  pub phase : b.phase ≡ at_guest
  pub silent : k.rendezvous.receiving ≡ false
  pub awake : b.blocked ≡ false

-- read is about to take a byte of the console
pub record IsGetting (v : View) (k : Slot) (b : Born) (fd va len : ℕ) : Type 0 where
  pub is_in : IsIn k b (service.Read fd va len) entered
  pub given : IsGiven v fd va len
  pub some : 0 < len

-- a service that stands before the next byte of its buffer, of which it has moved so many; and this is so
abbrev pub StandsBefore : Type 0 → View → Slot → Born → Service → ℕ → ℕ → Type 0
StandsBefore so v k b (service.Read fd va len) done word = StandsDelivering (service.Read fd va len) done word k b × so
StandsBefore so v k b (service.Stat fd va) done word = StandsDelivering (service.Stat fd va) done word k b × so
StandsBefore so v k b (service.Write fd va len) done word = IsTaking v k b fd va len word done × so
StandsBefore so v k b (service.Remove path) done word = IsTakingPath v k b (service.Remove path) done × so
StandsBefore so v k b (service.OpenFile path mode) done word = IsTakingPath v k b (service.OpenFile path mode) done × so
StandsBefore so v k b (service.Spawn path argv) done word = IsTakingPath v k b (service.Spawn path argv) done × so
StandsBefore so v k b _ done word = ⊥

-- ---- fork

-- it bears the child with this id
abbrev pub IsBearing : Slot → Born → ℕ → Type 0
IsBearing k b id = IsIn k b service.Fork (bearing (id % NENV))

-- the numbers of pages and regions that fork passes on end here
abbrev pub top_page : ℕ
top_page = page_number USTACKTOP

-- the bits with which a page is mapped into the child: a page of its own that may be written is copied when it is
abbrev pub child_perm : ℕ → ℕ
child_perm perm = if is_shared perm || not (may_write perm) then perm else cow_perm

-- it has looked at the page, and is about to map it with these bits
pub record IsMapping (row : EntryRow) (page perm : ℕ) : Type 0 where
  pub below : page < top_page
  pub entry : Entry
  pub stands : row page ≡ Some entry
  pub bits : perm ≡ child_perm entry.perm

-- the child has the page, which is the environment's own and may be written
pub record IsRemapping (row : EntryRow) (page : ℕ) : Type 0 where
  pub below : page < top_page
  pub entry : Entry
  pub stands : row page ≡ Some entry
  pub user : IsUsers entry.perm
  pub own_page : is_shared entry.perm ≡ false
  pub writes : may_write entry.perm ≡ true

-- at each step of a service what is so; ⊥ for a step that the service has not
abbrev pub StandsAtStep : View → Slot → Born → Service → Step → Type 0
StandsAtStep v k b s step.Entered = IsIn k b s entered
StandsAtStep v k b s (step.Piped at) = StandsAtPipe v k b s at
StandsAtStep v k b s step.ReadingDevice = StandsAtDevice v k b s (descriptor_given s)
StandsAtStep v k b s (step.BufferRegion done word) = StandsBefore (Unit {0}) v k b s done word
StandsAtStep v k b s (step.BufferEntry done word) = StandsBefore (v.tables (region_index (buffer_of s + done)) ≡ true) v k b s done word
StandsAtStep v k b s (step.Faulting done word) = StandsBefore (refuses_next v.row s done ≡ true) v k b s done word
StandsAtStep v k b s (step.CountingReply id) = IsCounting v k b s id
StandsAtStep v k b s (step.FileRegion done count) = HasBytes v k b s done count
StandsAtStep v k b s (step.FileEntry done count) = HasBytes v k b s done count × (v.tables (region_index (buffer_of s + done)) ≡ true)
StandsAtStep v k b s (step.LoadingBytes done count) = IsLoadingBytes v k b s done count
StandsAtStep v k b s (step.LoadingRest done count first) = IsLoadingRest v k b s done count first
StandsAtStep v k b s (step.PuttingBytes done count word) = IsPuttingBytes v k b s done count word
StandsAtStep v k b s (step.FileFaulting done count) = HasBytes v k b s done count × (refuses_next v.row s done ≡ true)
StandsAtStep v k b s (step.Returning answer) = HasReturned k b s answer
StandsAtStep v k b (service.Read fd va len) (step.Delivering done word) = StandsPutting v.row (service.Read fd va len) done word k b
StandsAtStep v k b (service.Stat fd va) (step.Delivering done word) = StandsPutting v.row (service.Stat fd va) done word k b
StandsAtStep v k b (service.Read fd va len) (step.DescriptorEntry at) = IsLookingUp v k b (service.Read fd va len) at fd
StandsAtStep v k b (service.Write fd va len) (step.DescriptorEntry at) = IsLookingUp v k b (service.Write fd va len) at fd
StandsAtStep v k b (service.Seek fd offset) (step.DescriptorEntry at) = IsLookingUp v k b (service.Seek fd offset) at fd
StandsAtStep v k b (service.Stat fd va) (step.DescriptorEntry at) = IsLookingUp v k b (service.Stat fd va) at fd
StandsAtStep v k b (service.SetSize fd size) (step.DescriptorEntry at) = IsLookingUp v k b (service.SetSize fd size) at fd
StandsAtStep v k b (service.Read fd va len) step.Getting = IsGetting v k b fd va len
StandsAtStep v k b (service.Write fd va len) step.TakingPage =
    IsIn k b (service.Write fd va len) entered × IsGiven v fd va len × (0 < len)
StandsAtStep v k b (service.Write fd va len) (step.GatheringBytes done start) =
    IsTaking v k b fd va len start done × (refuses_next v.row (service.Write fd va len) done ≡ false)
StandsAtStep v k b (service.Write fd va len) (step.KeepingBytes done word left start) = IsKeeping v k b fd va len start done word left
StandsAtStep v k b (service.Write fd va len) step.Printing = IsPrinting v k b fd va len
StandsAtStep v k b (service.Write fd va len) step.Releasing = HasPrinted k b len
StandsAtStep v k b (service.Write fd va len) step.ReadingMode = IsOfFile v k b (service.Write fd va len) fd
StandsAtStep v k b (service.Write fd va len) step.TakingRequest =
    IsIn k b (service.Write fd va len) entered × IsGivenBytes v fd va len REQUEST_BYTES
StandsAtStep v k b (service.Write fd va len) step.ReadingNumber = AsksOfFile v k b (service.Write fd va len) fd
StandsAtStep v k b (service.Write fd va len) (step.StoringNumber number) = HasFileNumber v k b (service.Write fd va len) fd number
StandsAtStep v k b (service.Write fd va len) step.StoringCount = TellsNumber v k b (service.Write fd va len) fd
StandsAtStep v k b (service.Write fd va len) step.Identifying = TellsOfFile v k b (service.Write fd va len) fd
StandsAtStep v k b (service.Write fd va len) (step.Asking id) = (id ≡ k.id) × TellsOfFile v k b (service.Write fd va len) fd
StandsAtStep v k b (service.Write fd va len) (step.Pausing id) = (id ≡ k.id) × TellsOfFile v k b (service.Write fd va len) fd
StandsAtStep v k b (service.Write fd va len) (step.Awaiting id) = (id ≡ k.id) × HasAsked k b (service.Write fd va len)
StandsAtStep v k b (service.Write fd va len) (step.Clearing id) = (id ≡ k.id) × AwaitsOrHas k b (service.Write fd va len)
StandsAtStep v k b (service.Write fd va len) (step.ReadingReply id) = (id ≡ k.id) × HasReply k b (service.Write fd va len)
StandsAtStep v k b (service.Remove path) step.TakingPage = IsIn k b (service.Remove path) entered × (is_inside path ≡ true)
StandsAtStep v k b (service.Remove path) (step.Gathering done) = IsGatheringPath (may_follow path done) v k b (service.Remove path) done
StandsAtStep v k b (service.Remove path) (step.Keeping done word left) = IsKeepingPath v k b (service.Remove path) done word left
StandsAtStep v k b (service.Remove path) step.Identifying = HasWholePath v k b (service.Remove path)
StandsAtStep v k b (service.Remove path) (step.Asking id) = (id ≡ k.id) × HasWholePath v k b (service.Remove path)
StandsAtStep v k b (service.Remove path) (step.Pausing id) = (id ≡ k.id) × HasWholePath v k b (service.Remove path)
StandsAtStep v k b (service.Remove path) (step.Awaiting id) = (id ≡ k.id) × HasAsked k b (service.Remove path)
StandsAtStep v k b (service.Remove path) (step.Clearing id) = (id ≡ k.id) × AwaitsOrHas k b (service.Remove path)
StandsAtStep v k b (service.Remove path) (step.ReadingReply id) = (id ≡ k.id) × HasReply k b (service.Remove path)
StandsAtStep v k b (service.OpenFile path mode) step.TakingPage =
    IsIn k b (service.OpenFile path mode) entered × (is_mode mode ≡ true) × (is_inside path ≡ true)
StandsAtStep v k b (service.OpenFile path mode) (step.Gathering done) =
    IsGatheringPath (may_follow path done) v k b (service.OpenFile path mode) done
StandsAtStep v k b (service.OpenFile path mode) (step.Keeping done word left) = IsKeepingPath v k b (service.OpenFile path mode) done word left
StandsAtStep v k b (service.OpenFile path mode) step.FreeRegion = HasWholePath v k b (service.OpenFile path mode)
StandsAtStep v k b (service.OpenFile path mode) (step.FreeEntry fd) = IsLookingForFree v k b (service.OpenFile path mode) fd
StandsAtStep v k b (service.OpenFile path mode) (step.StoringMode fd) = HasFoundFree v k b (service.OpenFile path mode) fd
StandsAtStep v k b (service.OpenFile path mode) (step.OpenIdentifying fd) =
    IsLowestFree v.row fd × TellsOpen v k b (service.OpenFile path mode) mode
StandsAtStep v k b (service.OpenFile path mode) (step.OpenAsking id fd) =
    (id ≡ k.id) × IsLowestFree v.row fd × TellsOpen v k b (service.OpenFile path mode) mode
StandsAtStep v k b (service.OpenFile path mode) (step.OpenPausing id fd) =
    (id ≡ k.id) × IsLowestFree v.row fd × TellsOpen v k b (service.OpenFile path mode) mode
StandsAtStep v k b (service.OpenFile path mode) (step.OpenAwaiting id fd) =
    (id ≡ k.id) × IsLowestFree v.row fd × HasAsked k b (service.OpenFile path mode)
StandsAtStep v k b (service.OpenFile path mode) (step.OpenClearing id fd) =
    (id ≡ k.id) × AwaitsFileOrHas v k b (service.OpenFile path mode) fd
StandsAtStep v k b (service.OpenFile path mode) (step.ReadingOpened id fd) = (id ≡ k.id) × HasOpened k b (service.OpenFile path mode) fd
StandsAtStep v k b (service.Seek fd offset) step.TakingPage = AsksOfFile v k b (service.Seek fd offset) fd
StandsAtStep v k b (service.Seek fd offset) step.ReadingNumber = AsksOfFile v k b (service.Seek fd offset) fd
StandsAtStep v k b (service.Seek fd offset) (step.StoringNumber number) = HasFileNumber v k b (service.Seek fd offset) fd number
StandsAtStep v k b (service.Seek fd offset) step.StoringCount = TellsNumber v k b (service.Seek fd offset) fd
StandsAtStep v k b (service.Seek fd offset) step.Identifying = TellsOfFile v k b (service.Seek fd offset) fd
StandsAtStep v k b (service.Seek fd offset) (step.Asking id) = (id ≡ k.id) × TellsOfFile v k b (service.Seek fd offset) fd
StandsAtStep v k b (service.Seek fd offset) (step.Pausing id) = (id ≡ k.id) × TellsOfFile v k b (service.Seek fd offset) fd
StandsAtStep v k b (service.Seek fd offset) (step.Awaiting id) = (id ≡ k.id) × HasAsked k b (service.Seek fd offset)
StandsAtStep v k b (service.Seek fd offset) (step.Clearing id) = (id ≡ k.id) × AwaitsOrHas k b (service.Seek fd offset)
StandsAtStep v k b (service.Seek fd offset) (step.ReadingReply id) = (id ≡ k.id) × HasReply k b (service.Seek fd offset)
StandsAtStep v k b (service.SetSize fd size) step.ReadingMode = IsOfFile v k b (service.SetSize fd size) fd
StandsAtStep v k b (service.SetSize fd size) step.TakingPage = AsksOfFile v k b (service.SetSize fd size) fd
StandsAtStep v k b (service.SetSize fd size) step.ReadingNumber = AsksOfFile v k b (service.SetSize fd size) fd
StandsAtStep v k b (service.SetSize fd size) (step.StoringNumber number) = HasFileNumber v k b (service.SetSize fd size) fd number
StandsAtStep v k b (service.SetSize fd size) step.StoringCount = TellsNumber v k b (service.SetSize fd size) fd
StandsAtStep v k b (service.SetSize fd size) step.Identifying = TellsOfFile v k b (service.SetSize fd size) fd
StandsAtStep v k b (service.SetSize fd size) (step.Asking id) = (id ≡ k.id) × TellsOfFile v k b (service.SetSize fd size) fd
StandsAtStep v k b (service.SetSize fd size) (step.Pausing id) = (id ≡ k.id) × TellsOfFile v k b (service.SetSize fd size) fd
StandsAtStep v k b (service.SetSize fd size) (step.Awaiting id) = (id ≡ k.id) × HasAsked k b (service.SetSize fd size)
StandsAtStep v k b (service.SetSize fd size) (step.Clearing id) = (id ≡ k.id) × AwaitsOrHas k b (service.SetSize fd size)
StandsAtStep v k b (service.SetSize fd size) (step.ReadingReply id) = (id ≡ k.id) × HasReply k b (service.SetSize fd size)
StandsAtStep v k b (service.Read fd va len) step.ReadingMode = IsOfFile v k b (service.Read fd va len) fd
StandsAtStep v k b (service.Read fd va len) step.TakingPage = AsksOfFile v k b (service.Read fd va len) fd
StandsAtStep v k b (service.Read fd va len) step.ReadingNumber = AsksOfFile v k b (service.Read fd va len) fd
StandsAtStep v k b (service.Read fd va len) (step.StoringNumber number) = HasFileNumber v k b (service.Read fd va len) fd number
StandsAtStep v k b (service.Read fd va len) step.StoringCount = TellsNumber v k b (service.Read fd va len) fd
StandsAtStep v k b (service.Read fd va len) step.Identifying = TellsOfFile v k b (service.Read fd va len) fd
StandsAtStep v k b (service.Read fd va len) (step.Asking id) = (id ≡ k.id) × TellsOfFile v k b (service.Read fd va len) fd
StandsAtStep v k b (service.Read fd va len) (step.Pausing id) = (id ≡ k.id) × TellsOfFile v k b (service.Read fd va len) fd
StandsAtStep v k b (service.Read fd va len) (step.Awaiting id) = (id ≡ k.id) × HasAsked k b (service.Read fd va len) × MayPut (service.Read fd va len)
StandsAtStep v k b (service.Read fd va len) (step.Clearing id) = (id ≡ k.id) × HasReply k b (service.Read fd va len)
StandsAtStep v k b (service.Read fd va len) (step.ReadingReply id) = (id ≡ k.id) × HasReply k b (service.Read fd va len)
StandsAtStep v k b (service.Stat fd va) step.TakingPage = AsksOfFile v k b (service.Stat fd va) fd
StandsAtStep v k b (service.Stat fd va) step.ReadingNumber = AsksOfFile v k b (service.Stat fd va) fd
StandsAtStep v k b (service.Stat fd va) (step.StoringNumber number) = HasFileNumber v k b (service.Stat fd va) fd number
StandsAtStep v k b (service.Stat fd va) step.StoringCount = TellsNumber v k b (service.Stat fd va) fd
StandsAtStep v k b (service.Stat fd va) step.Identifying = TellsOfFile v k b (service.Stat fd va) fd
StandsAtStep v k b (service.Stat fd va) (step.Asking id) = (id ≡ k.id) × TellsOfFile v k b (service.Stat fd va) fd
StandsAtStep v k b (service.Stat fd va) (step.Pausing id) = (id ≡ k.id) × TellsOfFile v k b (service.Stat fd va) fd
StandsAtStep v k b (service.Stat fd va) (step.Awaiting id) = (id ≡ k.id) × HasAsked k b (service.Stat fd va) × MayPut (service.Stat fd va)
StandsAtStep v k b (service.Stat fd va) (step.Clearing id) = (id ≡ k.id) × HasReply k b (service.Stat fd va)
StandsAtStep v k b (service.Stat fd va) (step.ReadingReply id) = (id ≡ k.id) × HasReply k b (service.Stat fd va)
StandsAtStep v k b (service.Wait id) (step.Trying perm) = IsWaiting k b id
StandsAtStep v k b (service.Wait id) (step.Pausing perm) = IsWaiting k b id
StandsAtStep v k b (service.Send id value va) (step.Trying perm) = IsTrying v.row k b id value va perm
StandsAtStep v k b (service.Send id value va) (step.Pausing perm) = IsTrying v.row k b id value va perm
StandsAtStep v k b (service.Send id value va) step.ReadingRegion = IsLooking k b id value va
StandsAtStep v k b (service.Send id value va) step.ReadingEntry =
    IsLooking k b id value va × (v.tables (page_number va / NPTENTRIES) ≡ true)
StandsAtStep v k b (service.Receive va from) (step.Receiving id) = IsAboutToWait k b va from id
StandsAtStep v k b (service.Receive va from) (step.ReadingValue id) = (id ≡ k.id) × WaitsOrHas k b va from
StandsAtStep v k b (service.Receive va from) (step.ReadingSender id value) =
    (id ≡ k.id) × (value ≡ k.rendezvous.value) × HasReceived k b va from
StandsAtStep v k b (service.Receive va from) (step.ReadingPerm id value sender) =
    (id ≡ k.id) × (value ≡ k.rendezvous.value) × (sender ≡ k.rendezvous.sender) × HasReceived k b va from
StandsAtStep v k b service.Sync (step.Asking id) = (id ≡ k.id) × IsIn k b service.Sync entered
StandsAtStep v k b service.Sync (step.Pausing id) = (id ≡ k.id) × IsIn k b service.Sync entered
StandsAtStep v k b service.Sync (step.Awaiting id) = (id ≡ k.id) × HasAsked k b service.Sync
StandsAtStep v k b service.Sync (step.ReadingReply id) = (id ≡ k.id) × AwaitsOrHas k b service.Sync
StandsAtStep v k b service.Fork (step.ForkRegion id region) = IsBearing k b id × (region ≤ region_index USTACKTOP)
StandsAtStep v k b service.Fork (step.ForkEntry id page) =
    IsBearing k b id × (page < top_page) × (v.tables (page / NPTENTRIES) ≡ true)
StandsAtStep v k b service.Fork (step.MapChild id page perm) = IsBearing k b id × IsMapping v.row page perm
StandsAtStep v k b service.Fork (step.Remap id page) = IsBearing k b id × IsRemapping v.row page
StandsAtStep v k b service.Fork (step.ChildStack id) = IsBearing k b id
StandsAtStep v k b service.Fork (step.ChildUpcall id) = IsBearing k b id
StandsAtStep v k b service.Fork (step.ChildRuns id) = IsBearing k b id
StandsAtStep v k b service.Exit (step.DescriptorEntry fd) =
    IsIn k b service.Exit entered × (fd < DESCRIPTORS) × NoneIsOpenBelow v.row fd × HasTable v
StandsAtStep v k b service.Exit (step.DroppingDescriptor fd) =
    IsIn k b service.Exit entered × (fd < DESCRIPTORS) × NoneIsOpenBelow v.row fd × HasTable v × IsOpen v.row fd × (v.row (pipe_page fd) ≡ None)
StandsAtStep v k b service.Exit step.Ending = IsIn k b service.Exit entered × NoneIsOpenBelow v.row DESCRIPTORS
StandsAtStep v k b (service.Close fd) (step.DescriptorEntry at) = IsIn k b (service.Close fd) entered × (at ≡ fd) × (fd < DESCRIPTORS) × HasTable v
StandsAtStep v k b (service.Close fd) (step.DroppingDescriptor at) =
    IsIn k b (service.Close fd) entered × (at ≡ fd) × (fd < DESCRIPTORS) × IsOpen v.row fd × (v.row (pipe_page fd) ≡ None)
StandsAtStep v k b (service.Dup old new) (step.DescriptorEntry at) =
    IsIn k b (service.Dup old new) entered × (at ≡ old) × (old < DESCRIPTORS) × HasTable v
StandsAtStep v k b (service.Dup old new) step.TargetEntry = IsIn k b (service.Dup old new) entered × IsDuplicating v.row old new × HasTable v
StandsAtStep v k b (service.Dup old new) (step.DroppingDescriptor at) =
    IsIn k b (service.Dup old new) entered × (at ≡ new) × IsDuplicating v.row old new × HasTable v × IsOpen v.row new
    × (v.row (pipe_page new) ≡ None)
StandsAtStep v k b (service.Dup old new) step.MappingDescriptor =
    IsIn k b (service.Dup old new) entered × IsDuplicating v.row old new × HasTable v × (v.row (descriptor_page new) ≡ None)
    × (v.row (pipe_page new) ≡ v.row (pipe_page old))
StandsAtStep v k b (service.Spawn path argv) step.TakingPage = IsIn k b (service.Spawn path argv) entered × (is_inside path ≡ true)
StandsAtStep v k b (service.Spawn path argv) (step.Gathering done) = IsGatheringPath (may_follow path done) v k b (service.Spawn path argv) done
StandsAtStep v k b (service.Spawn path argv) (step.Keeping done word left) = IsKeepingPath v k b (service.Spawn path argv) done word left
StandsAtStep v k b (service.Spawn path argv) (step.Spawning at) = StandsAtSpawn v k b path argv at
StandsAtStep v k b service.Pipe (step.FreeEntry fd) =
    IsIn k b service.Pipe entered × (fd < DESCRIPTORS) × EachIsOpenBelow v.row fd × HasTable v
StandsAtStep v k b _ _ = ⊥

abbrev pub StandsAt : Place → View → Slot → Born → Type 0
StandsAt place.Guest v k b = IsAtGuest k b
StandsAt (place.InService s step) v k b = StandsAtStep v k b s step
StandsAt (place.InHandler step) v k b = IsInHandler step v k b

-- the address of its handler of page faults; none where that is about to raise the fault that ends the environment
abbrev pub upcall_at : Place → ℕ
upcall_at (place.InHandler (handler.Touching va error ip)) = 0
upcall_at _ = PGFAULT_UPCALL

-- ---- slots

-- it may run, or waits
abbrev pub IsStatusFor : Status → Bool → Type 0
IsStatusFor Runnable false = Unit {0}
IsStatusFor Running false = Unit {0}
IsStatusFor NotRunnable true = Unit {0}
IsStatusFor _ _ = ⊥

-- what a space shows
abbrev pub view_of : SpacesState → ℕ → View
view_of s d =
    record { row = rows_of s d; tables = λ r. is_some (s.regions d r); bytes = s.pages; counts = λ frame. reference_count s frame }

-- the object of a descriptor that service pipe is not about to make
abbrev pub seen_unless : Bool → Option ℕ → Option ℕ
seen_unless made name = if made then None else name

abbrev pub descriptor_seen_at : Place → Names → SpacesState → ℕ → ℕ → Option ℕ
descriptor_seen_at at names s d fd = seen_unless (is_made at fd) (descriptor_seen names s d fd)

-- An environment: what is its own. It has a table for each region in which it ever had a page, and no others but the library's.
pub record StandsForBorn (names : Names) (s : SpacesState) (k : Slot) (b : Born) : Type 0 where
  pub id : k.id ≡ b.id
  pub id_small : k.id < 2 ^ 32
  pub parent : k.parent ≡ b.parent
  pub env_type : k.env_type ≡ User
  pub runs : IsStatusFor k.status b.blocked
  pub upcall : k.upcall ≡ upcall_at (place_of k)
  pub descriptors : (fd : ℕ) → is_dropped (place_of k) fd ≡ false → b.descriptors fd ≡ descriptor_seen_at (place_of k) names s k.directory fd
  pub memory : (p : ℕ) → b.memory p ≡ page_seen names s k.directory p
  pub library : LibraryPages (place_of k) k.extra (rows_of s k.directory)
  pub regions_have : (r : ℕ) → b.regions r ≡ true → is_some (s.regions k.directory r) ≡ true
  pub regions_only : (r : ℕ) → is_some (s.regions k.directory r) ≡ true → b.regions r || is_library_region r ≡ true
  pub stack : is_handlers k.registers.esp || not (is_resident k.registers.esp) ≡ true
  pub flags : k.registers.eflags ≡ user_flags k.registers.eflags
  pub at : StandsAt (place_of k) (view_of s k.directory) k b

-- ---- a child that is being made

-- the id of the child that fork bears at a step
abbrev pub borne_at : Step → Option ℕ
borne_at (step.ForkRegion id region) = Some id
borne_at (step.ForkEntry id page) = Some id
borne_at (step.MapChild id page perm) = Some id
borne_at (step.Remap id page) = Some id
borne_at (step.ChildStack id) = Some id
borne_at (step.ChildUpcall id) = Some id
borne_at (step.ChildRuns id) = Some id
borne_at _ = None

abbrev pub borne_in : Place → Option ℕ
borne_in (place.InService service.Fork step) = borne_at step
borne_in (place.InService (service.Spawn path argv) (step.Spawning at)) = spawning_child at
borne_in _ = None

-- Fork passes on the pages of a program and those of its descriptors, from the greatest downwards: the page of this number is passed on.
abbrev pub is_passed : Step → ℕ → Bool
is_passed (step.ForkRegion id region) p = nat_le ((region + 1) * NPTENTRIES) p
is_passed (step.ForkEntry id page) p = nat_lt page p
is_passed (step.MapChild id page perm) p = nat_lt page p
is_passed (step.Remap id page) p = nat_le page p
is_passed _ p = true

-- the child has the stack of its handler, and then the handler
abbrev pub has_stack : Step → Bool
has_stack (step.ChildUpcall id) = true
has_stack (step.ChildRuns id) = true
has_stack _ = false

abbrev pub child_upcall : Step → ℕ
child_upcall (step.ChildRuns id) = PGFAULT_UPCALL
child_upcall _ = 0

-- the library's pages of a child
pub record ChildPages (step : Step) (row : EntryRow) : Type 0 where
  pub stack : has_stack step ≡ true → IsOwnWritable row (page_number UXSTACK)
  pub no_stack : has_stack step ≡ false → row (page_number UXSTACK) ≡ None
  pub none : (p : ℕ) → is_programs p ≡ false → is_of_descriptor p ≡ false → p ≢ page_number UXSTACK → row p ≡ None

-- What is a child's own that is not born: it never runs.
pub record StandsForUnborn (k : Slot) (id parent : ℕ) : Type 0 where
  pub id_is : k.id ≡ id
  pub id_small : k.id < 2 ^ 32
  pub parent_is : k.parent ≡ parent
  pub env_type : k.env_type ≡ User
  pub status : k.status ≡ NotRunnable
  pub silent : k.rendezvous.receiving ≡ false
  pub words : k.extra ≡ no_extra
  pub stack : is_handlers k.registers.esp ≡ false

-- Its parent stands in fork, and bears it. It has the pages that are passed on, each as the parent sees it, those of descriptors by the
-- parent's own entries, and the registers that it will begin with.
pub record IsBorne (names : Names) (s : SpacesState) (parent : Slot) (parent_is : AbstractSlot) (k : Slot) (id parent_id : ℕ) : Type 0 where
  pub b : Born
  pub born_by : parent_is ≡ born b
  pub named : b.id ≡ parent_id
  pub step : Step
  pub at : place_of parent ≡ place.InService service.Fork step
  pub borne : borne_at step ≡ Some id
  -- what it has
  pub registers : k.registers ≡ record parent.registers { eax = 0 }
  pub upcall : k.upcall ≡ child_upcall step
  pub passed : (p : ℕ) → is_programs p ≡ true → is_passed step p ≡ true → page_seen names s k.directory p ≡ b.memory p
  pub handed : (p : ℕ) → is_of_descriptor p ≡ true → is_passed step p ≡ true → rows_of s k.directory p ≡ rows_of s parent.directory p
  pub rest : (p : ℕ) → is_programs p || is_of_descriptor p ≡ true → is_passed step p ≡ false → rows_of s k.directory p ≡ None
  pub library : ChildPages step (rows_of s k.directory)
  pub tables : (r : ℕ) → is_some (s.regions k.directory r) ≡ true → has_page_in b.memory r || is_library_region r ≡ true

-- by its parent, which stands in fork or in spawn
pub data IsBorneBy (names : Names) (s : SpacesState) (parent : Slot) (parent_is : AbstractSlot) (k : Slot) (id parent_id : ℕ) : Type 0 where
  by_fork : IsBorne names s parent parent_is k id parent_id → IsBorneBy names s parent parent_is k id parent_id
  by_spawn : IsSpawned names s parent parent_is k id parent_id → IsBorneBy names s parent parent_is k id parent_id

-- Who is not born is borne by its parent, and whoever bears a child has it: the child's slot is that which its id names.
pub record HasChildren (names : Names) (s : SpacesState) (slots : ℕ → Slot) (abstract : ℕ → AbstractSlot) : Type 0 where
  pub borne : (m id parent : ℕ) → abstract m ≡ unborn id parent →
      IsBorneBy names s (slots (parent % NENV)) (abstract (parent % NENV)) (slots m) id parent
  pub have : (n id : ℕ) (b : Born) → abstract n ≡ born b → borne_in (place_of (slots n)) ≡ Some id → abstract (id % NENV) ≡ unborn id b.id

-- ---- the file server

-- A page with this number may be the file server's: that of a request, that of the records' places, that of a place of the table of open
-- files which was ever taken, or that of a block of the disk.
abbrev pub is_servers_page : (ℕ → TablePlace) → ℕ → ℕ → Bool
is_servers_page opened blocks p =
    (p == page_number REQUEST) || (p == page_number OPEN_RECORDS)
    || (nat_le (page_number FDTABLE) p && nat_lt p (page_number FDTABLE + MAXOPEN) && (opened (p - page_number FDTABLE)).used)
    || (nat_le (page_number DISKMAP) p && nat_lt p (page_number DISKMAP + blocks))

-- Its space may have tables for these regions.
abbrev pub is_servers_region : ℕ → Bool
is_servers_region r =
    (r == region_index REQUEST) || (r == region_index FDTABLE)
    || (nat_le (region_index DISKMAP) r && nat_lt r (region_index DISKMAP + MAXBLOCKS / NPTENTRIES))

-- it waits for a request, by anybody
pub record AwaitsRequest (k : Slot) : Type 0 where
  pub status : k.status ≡ NotRunnable
  pub receiving : k.rendezvous.receiving ≡ true
  pub anybody : k.rendezvous.wanted ≡ 0
  pub destination : k.rendezvous.destination ≡ REQUEST

-- While it is idle it waits, and else it may run.
abbrev pub IsServerStatus : Server → Slot → Type 0
IsServerStatus idle k = AwaitsRequest k
IsServerStatus _ k = IsStatusFor k.status false × (k.rendezvous.receiving ≡ false)

-- its slot, in which no service stands
pub record StandsForServer (k : Slot) (id : ℕ) : Type 0 where
  pub first : id ≡ FIRST_ENV_ID
  pub id_is : k.id ≡ id
  pub lives : is_live k ≡ true
  pub parent : k.parent ≡ 0
  pub env_type : k.env_type ≡ FileServer
  pub words : service_word k.extra ≡ 0
  pub stack : is_handlers k.registers.esp ≡ false

-- what it does, and what it has
pub record HasServer (s : SpacesState) (k : Slot) (opened : ℕ → TablePlace) (blocks : ℕ) (server : Server) : Type 0 where
  pub status : IsServerStatus server k
  pub pages : (p : ℕ) → is_some (rows_of s k.directory p) ≡ true → is_servers_page opened blocks p ≡ true
  pub tables : (r : ℕ) → is_some (s.regions k.directory r) ≡ true → is_servers_region r ≡ true
  -- what stands in the frame of a place's page is that page
  pub alone : (j q : ℕ) (x y : Entry) → j < MAXOPEN → rows_of s k.directory (place_page j) ≡ Some x → rows_of s k.directory q ≡ Some y →
      x.frame ≡ y.frame → q ≡ place_page j

abbrev pub StandsForSlot : Names → SpacesState → Slot → AbstractSlot → Type 0
StandsForSlot names s k (free id) = k ≡ free_slot id
StandsForSlot names s k (unborn id parent) = StandsForUnborn k id parent
StandsForSlot names s k (born b) = StandsForBorn names s k b
StandsForSlot names s k (serving id) = StandsForServer k id

-- ---- the table

-- An id names its slot, a file server stands in slot 0 alone, and no slot is RUNNING but that which had the last turn.
pub record IsTabled (slots : ℕ → Slot) (last : Option ℕ) : Type 0 where
  pub ids : (n : ℕ) → is_live (slots n) ≡ true → (slots n).id % NENV ≡ n
  pub servers : (n : ℕ) → n ≢ 0 → (slots n).env_type ≡ User
  pub running : (n : ℕ) → is_running (slots n).status ≡ true → last ≡ Some n

-- the numbers in a list are those of slots of the table
abbrev pub AreSlots : List ℕ → Type 0
AreSlots [] = Unit {0}
AreSlots (n ∷ rest) = (n < NENV) × AreSlots rest

-- the slots that are free, the next to be given first
pub record AreFreeSlots (slots abstract : List ℕ) : Type 0 where
  pub same : slots ≡ abstract
  pub within : AreSlots slots

-- ---- the whole

-- each descriptor names an object that has come before
abbrev pub NamesAreOld : (ℕ → AbstractSlot) → ℕ → Type 0
NamesAreOld slots next = (n fd name : ℕ) (b : Born) → slots n ≡ born b → b.descriptors fd ≡ Some name → name < next

-- what there is of objects
abbrev pub things_in : KernelState → AbstractState → Things
things_in s a = record { objects = a.objects; pipes = a.pipes; opened = a.opened; row = server_row s.spaces s.environments.slots }

pub record StandsFor (names : Names) (s : KernelState) (a : AbstractState) : Type 0 where
  -- each slot
  pub slots : (n : ℕ) → StandsForSlot names s.spaces (slot_at s n) (a.slots n)
  pub children : HasChildren names s.spaces s.environments.slots a.slots
  -- each frame
  pub apart : AgreeWhereShared (logical s.spaces s.environments.slots)
  pub named : AreNamed names s.spaces.pages a.shared (things_in s a) a.next_name (logical s.spaces s.environments.slots)
  pub users : AreUsers (logical s.spaces s.environments.slots)
  pub whole : AreWhole s.spaces.pages (logical s.spaces s.environments.slots)
  pub beside : AreBeside (server_row s.spaces s.environments.slots) (logical s.spaces s.environments.slots)
  pub old : NamesAreOld a.slots a.next_name
  -- each pipe
  pub ends : (n : ℕ) → EndsStandAt names a.objects (place_of (slot_at s n)) (rows_of s.spaces (slot_at s n).directory) (a.slots n)
  pub locks : LocksStand s.spaces.pages s.environments.slots (logical s.spaces s.environments.slots)
  -- what is there once
  pub free_slots : AreFreeSlots s.environments.free_slots a.free_slots
  pub first : a.slots 0 ≡ serving FIRST_ENV_ID
  pub server : HasServer s.spaces (slot_at s 0) a.opened a.files.blocks a.server
  pub input : (s.input ≡ a.input) × AreBytes a.input
  pub last : s.last ≡ a.last
  pub turns : s.turns ≡ a.turns
  pub runs : (n : ℕ) → (slot_at s n).runs ≤ s.turns
  pub tabled : IsTabled s.environments.slots s.last
  pub in_order : IsInOrder s
