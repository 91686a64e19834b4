-- An environment at its program, one in a service that moves bytes to or from the program's memory, and one whose page fault is in the
-- hands of the library's handler: either its page is copied, and then the instruction, or the service's access, is made again, or the
-- fault ends it.
-- (MIT 6.828, lib/fork.c: pgfault.)
use Rattle.std.specs.Prelude.{◌≡◌, ◌≢◌, ◌<◌, ◌^◌, ℕ, ◌+◌, ◌-◌, ◌*◌, ◌&&◌, nat_lt, not, Bool, true, false, is_some, get_or, Option, None, Some}
use Rattle.std.specs.Prelude.{All, ◌%◌, ◌≤◌, ◌==◌, zero, suc, nat_le, codes, List, [], ◌∷◌, drop, length, min, slice_index, take, if◌then◌else◌}
use Rattle.std.specs.Int.{w32, from_le_bytes, to_le_bytes}
use Rattle.std.specs.List.{position_or_len}
use Rattle.jos_base.specs.declared.memory.PageFault.{PageFault}
use Rattle.jos_base.specs.declared.numbers.TheConstants.{FEC_PR, FEC_U, FEC_WR, PGSIZE, UTRAPFRAME_WORDS}
use Rattle.jos_base.specs.declared.registers.Regs.{Regs}
use Rattle.jos_base.specs.Environments.{Slot, no_extra}
use Rattle.jos_base.specs.Reach.{Entry}
use Rattle.jos_base.specs.SystemCalls.{has_write}
use Rattle.jos_base.specs.TrapFrames.{frame_words, user_flags}
use Rattle.jos_base.specs.Words.{page_number, has_bit, word_at}
use Rattle.fs_layout.specs.declared.numbers.TheConstants.{FTYPE_REG, MAXPATHLEN}
use Rattle.fs_layout.specs.FileActs.{stat_bytes}
use Rattle.lib_os.specs.declared.numbers.TheConstants.{DESCRIPTORS, DEVICE_CONSOLE, DEVICE_FILE, DEVICE_PIPE, PFTEMP, REQUEST_BYTES}
use Rattle.lib_os.specs.declared.numbers.TheConstants.{STAT_SIZE, TRANSFER_MAX}
use Rattle.lib_os.specs.declared.place.HandlerStep.{HandlerStep}
use Rattle.lib_os.specs.declared.place.HandlerStep.TheVariants as handler
use Rattle.lib_os.specs.declared.place.Place.TheVariants as place
use Rattle.lib_os.specs.declared.place.Step.TheVariants as step
use Rattle.lib_os.specs.declared.service.Service.{Service}
use Rattle.lib_os.specs.declared.service.Service.TheVariants as service
use Rattle.lib_os.specs.AbstractState.{Born, Phase, guest, at_guest, faulted, in_service, Stage, delivering, entered, gathering, replied}
use Rattle.lib_os.specs.DescriptorPages.{device_of, mode_of}
use Rattle.lib_os.specs.Answers.{moved_at_once}
use Rattle.lib_os.specs.Fence.{is_buffer, is_inside, is_resident}
use Rattle.lib_os.specs.FileServices.{is_nul, terminal_stat, is_mode}
use Rattle.lib_os.specs.LibraryPages.{View, HasFrame, HasTaken}
use Rattle.lib_os.specs.Places.{place_of}
use Rattle.jos_elf.specs.declared.numbers.TheConstants.{ARGS_MAX}
use Rattle.lib_os.specs.SpawnGiven.{Lists, Quotes, address_place, string_place}
use Rattle.lib_os.specs.Rows.{EntryRow, is_shared, is_cow, descriptor_page, pipe_page, AreBytes}

-- ---- registers

-- they have 32 bits each
pub record AreSmall (regs : Regs) : Type 0 where
  pub eax : regs.eax < 2 ^ 32
  pub ecx : regs.ecx < 2 ^ 32
  pub edx : regs.edx < 2 ^ 32
  pub ebx : regs.ebx < 2 ^ 32
  pub esp : regs.esp < 2 ^ 32
  pub ebp : regs.ebp < 2 ^ 32
  pub esi : regs.esi < 2 ^ 32
  pub edi : regs.edi < 2 ^ 32
  pub eip : regs.eip < 2 ^ 32
  pub eflags : regs.eflags < 2 ^ 32

-- ---- at the program

-- at its program it keeps no words
pub record IsAtGuest (k : Slot) (b : Born) : Type 0 where
  pub program : b.program ≡ guest k.registers
  pub phase : b.phase ≡ at_guest
  pub words : k.extra ≡ no_extra
  pub silent : k.rendezvous.receiving ≡ false
  pub awake : b.blocked ≡ false

-- ---- accesses that are refused

-- the fault was raised by a write
abbrev pub is_write : ℕ → Bool
is_write error = has_bit error FEC_WR

-- An entry refuses a read, or a write, and its page is not one that waits to be copied.
abbrev pub is_refused_by : Bool → Option Entry → Bool
is_refused_by write None = true
is_refused_by write (Some entry) = write && not (has_write entry.perm) && not (is_cow entry.perm)

-- ---- in a service that moves bytes

-- Bytes are still to be put at an address, and this is the answer then.
pub record IsDelivering (k : Slot) (b : Born) (s : Service) (at : ℕ) (bytes : List ℕ) (answer : ℕ) : Type 0 where
  pub program : b.program ≡ guest k.registers
  pub phase : b.phase ≡ in_service s (delivering at bytes answer)
  pub silent : k.rendezvous.receiving ≡ false
  pub awake : b.blocked ≡ false
  pub some : 0 < length bytes
  pub inside : is_buffer at (length bytes) ≡ true
  pub small : AreBytes bytes

-- what stat tells of the console, by the word 0, and of a pipe that holds so many bytes, by one more
abbrev pub pipe_stat : ℕ → List ℕ
pipe_stat held = stat_bytes (codes "<pipe>") held FTYPE_REG

abbrev pub stat_told : ℕ → List ℕ
stat_told zero = terminal_stat
stat_told (suc held) = pipe_stat held

-- read has the byte that it has taken, and stat what it tells of the console or of a pipe
abbrev pub StandsDelivering : Service → ℕ → ℕ → Slot → Born → Type 0
StandsDelivering (service.Read fd va len) done word k b = IsDelivering k b (service.Read fd va len) (va + done) (word ∷ []) 1
StandsDelivering (service.Stat fd va) done word k b = IsDelivering k b (service.Stat fd va) (va + done) (drop done (stat_told word)) 0
StandsDelivering _ done word k b = ⊥

-- the address of the buffer that a service is given
abbrev pub buffer_of : Service → ℕ
buffer_of (service.Read fd va len) = va
buffer_of (service.Write fd va len) = va
buffer_of (service.Stat fd va) = va
buffer_of (service.Remove path) = path
buffer_of (service.OpenFile path mode) = path
buffer_of (service.Spawn path argv) = path
buffer_of _ = 0

-- the page of the byte behind so many
abbrev pub next_page : Service → ℕ → ℕ
next_page s done = page_number (buffer_of s + done)

-- and the page of the next byte may be written, where it stands or as a copy of it
abbrev pub StandsPutting : EntryRow → Service → ℕ → ℕ → Slot → Born → Type 0
StandsPutting row s done word k b = StandsDelivering s done word k b × (is_refused_by true (row (next_page s done)) ≡ false)

-- how many bytes are moved at most
abbrev pub wanted_of : ℕ → ℕ
wanted_of len = min len TRANSFER_MAX

-- the stage of write, and of one that is given a path, with the bytes that it has taken
abbrev pub stage_with : List ℕ → Stage
stage_with [] = entered
stage_with (byte ∷ rest) = gathering (byte ∷ rest)

-- a descriptor is open, and what it names is told to be the console
pub record IsConsoleOpen (v : View) (fd : ℕ) : Type 0 where
  pub entry : Entry
  pub stands : v.row (descriptor_page fd) ≡ Some entry
  pub device : device_of (v.bytes entry.frame) ≡ DEVICE_CONSOLE

-- or a file
pub record IsFileOpen (v : View) (fd : ℕ) : Type 0 where
  pub entry : Entry
  pub stands : v.row (descriptor_page fd) ≡ Some entry
  pub device : device_of (v.bytes entry.frame) ≡ DEVICE_FILE

-- or an end of a pipe, open for reading or writing, beside which the page of the pipe is there
pub record IsEndOpen (v : View) (fd mode : ℕ) : Type 0 where
  pub entry : Entry
  pub stands : v.row (descriptor_page fd) ≡ Some entry
  pub device : device_of (v.bytes entry.frame) ≡ DEVICE_PIPE
  pub mode_is : mode_of (v.bytes entry.frame) ≡ mode
  pub page : Entry
  pub lies : v.row (pipe_page fd) ≡ Some page

-- or a file that may be written
pub record IsWritableFile (v : View) (fd : ℕ) : Type 0 where
  pub file : IsFileOpen v fd
  pub writable : mode_of (v.bytes file.entry.frame) ≢ 0

-- read and write are given a descriptor that names the console, and a buffer in the fence
pub record IsGiven (v : View) (fd va len : ℕ) : Type 0 where
  pub below : fd < DESCRIPTORS
  pub console : IsConsoleOpen v fd
  pub buffer : is_buffer va (wanted_of len) ≡ true

-- Write's bytes begin at this place in its page, by what its descriptor names: for the console at 0, for a file behind what its request tells before,
-- and for a pipe at a page's size, which is 0 of the page, too.
pub data BeginsAt (v : View) (fd start : ℕ) : Type 0 where
  on_console : start ≡ 0 → IsConsoleOpen v fd → BeginsAt v fd start
  in_file : start ≡ REQUEST_BYTES → IsWritableFile v fd → BeginsAt v fd start
  in_pipe : start ≡ PGSIZE → IsEndOpen v fd 1 → BeginsAt v fd start

-- How many bytes it takes: as many as the page has from there on, at most. (The place of those for a pipe is kept as one page behind.)
abbrev pub wanted_from : ℕ → ℕ → ℕ
wanted_from start len = min len (PGSIZE - start % PGSIZE)

-- write is given a descriptor that names the console, a file or an end of a pipe, and a buffer in the fence
pub record IsGivenBytes (v : View) (fd va len start : ℕ) : Type 0 where
  pub below : fd < DESCRIPTORS
  pub begins : BeginsAt v fd start
  pub buffer : is_buffer va (wanted_from start len) ≡ true

-- it has taken these bytes, and wants more
pub record WantsMore (v : View) (b : Born) (fd va len start : ℕ) (bytes : List ℕ) : Type 0 where
  pub phase : b.phase ≡ in_service (service.Write fd va len) (stage_with bytes)
  pub given : IsGivenBytes v fd va len start
  pub fewer : length bytes < wanted_from start len

-- ---- the bytes of a file

-- the services to which the file server hands bytes back
abbrev pub hands_back : Service → Bool
hands_back (service.Read fd va len) = true
hands_back (service.Stat fd va) = true
hands_back _ = false

-- how many bytes these want at most
abbrev pub most_of : Service → ℕ
most_of (service.Read fd va len) = wanted_of len
most_of (service.Stat fd va) = STAT_SIZE
most_of _ = 0

-- their buffer lies in the fence
abbrev pub MayPut : Service → Type 0
MayPut s = is_buffer (buffer_of s) (most_of s) ≡ true

-- How many bytes come with a reply, by its word: read is told how many, and stat 0; none come with an error's number.
abbrev pub handed_with : Service → ℕ → ℕ
handed_with (service.Read fd va len) word = if nat_le word (wanted_of len) then word else 0
handed_with (service.Stat fd va) word = if word == 0 then STAT_SIZE else 0
handed_with _ word = 0

-- and what is answered behind so many
abbrev pub answer_behind : Service → ℕ → ℕ
answer_behind (service.Read fd va len) count = count
answer_behind _ count = 0

-- So it stands: none of them is put yet, behind a reply of the server's, or of a pipe's; or so many are.
pub data HandsAt (s : Service) (bytes : List ℕ) (answer : ℕ) : ℕ → Phase → Type 0 where
  by_reply : HandsAt s bytes answer 0 (in_service s (replied bytes answer))
  behind : (done : ℕ) → HandsAt s bytes answer done (in_service s (delivering (buffer_of s + done) (drop done bytes) answer))

-- The page at UTEMP has so many bytes of the reply, or of a pipe, of which so many are put, and not all. (With the reply the kernel has set EAX to 0.)
pub record HasBytes (v : View) (k : Slot) (b : Born) (s : Service) (done count : ℕ) : Type 0 where
  pub hands : hands_back s ≡ true
  pub regs : Regs
  pub program : b.program ≡ guest regs
  pub eax : ℕ
  pub registers : k.registers ≡ record regs { eax = eax }
  pub bytes : List ℕ
  pub hands_at : HandsAt s bytes (answer_behind s count) done b.phase
  pub many : length bytes ≡ count
  pub fewer : done < count
  pub most : count ≤ TRANSFER_MAX
  pub inside : is_buffer (buffer_of s) count ≡ true
  pub small : AreBytes bytes
  pub kept : HasTaken v bytes count
  pub silent : k.rendezvous.receiving ≡ false
  pub awake : b.blocked ≡ false

-- how many of them are put at once
abbrev pub put_at_once : Service → ℕ → ℕ → ℕ
put_at_once s done count = moved_at_once (buffer_of s + done) (count - done)

-- The page of the next byte may be written, where it stands or as a copy of it.
pub record IsLoadingBytes (v : View) (k : Slot) (b : Born) (s : Service) (done count : ℕ) : Type 0 where
  pub has : HasBytes v k b s done count
  pub allowed : is_refused_by true (v.row (next_page s done)) ≡ false

-- It wants four bytes that stand in two words, of which it has the first.
pub record IsLoadingRest (v : View) (k : Slot) (b : Born) (s : Service) (done count first : ℕ) : Type 0 where
  pub has : HasBytes v k b s done count
  pub allowed : is_refused_by true (v.row (next_page s done)) ≡ false
  pub whole : put_at_once s done count ≡ 4
  pub apart : done % 4 ≢ 0
  pub first_is : word_at (slice_index has.bytes) (done - done % 4) ≡ first

-- It has loaded the next bytes.
pub record IsPuttingBytes (v : View) (k : Slot) (b : Born) (s : Service) (done count word : ℕ) : Type 0 where
  pub has : HasBytes v k b s done count
  pub allowed : is_refused_by true (v.row (next_page s done)) ≡ false
  pub word_is : take (put_at_once s done count) (to_le_bytes w32 word) ≡ take (put_at_once s done count) (drop done has.bytes)

-- ---- a path

-- none of these bytes is the end of a path
abbrev pub HasNoEnd : List ℕ → Type 0
HasNoEnd bytes = position_or_len is_nul bytes ≡ length bytes

-- behind so many bytes of a path another may be taken
abbrev pub may_follow : ℕ → ℕ → Bool
may_follow path done = nat_lt done MAXPATHLEN && is_inside (path + done)

-- it is given a path, and takes the bytes of that: open_file does where the mode is one
abbrev pub takes_path : Service → Bool
takes_path (service.Remove path) = true
takes_path (service.OpenFile path mode) = is_mode mode
takes_path (service.Spawn path argv) = true
takes_path _ = false

-- it has taken these bytes of its path, and wants more
pub record WantsMoreOfPath (b : Born) (s : Service) (bytes : List ℕ) : Type 0 where
  pub takes : takes_path s ≡ true
  pub phase : b.phase ≡ in_service s (stage_with bytes)
  pub no_end : HasNoEnd bytes
  pub follows : may_follow (buffer_of s) (length bytes) ≡ true

-- ---- what stands beneath the handler, where it copies a page

-- The program makes its instruction again, or a service puts its bytes again.
pub data StandsBeneath (v : View) (k : Slot) (b : Born) : Type 0 where
  at_program : IsAtGuest k b → StandsBeneath v k b
  in_delivery : (s : Service) (done word : ℕ) → place_of k ≡ place.InService s (step.Delivering done word) →
      StandsPutting v.row s done word k b → StandsBeneath v k b
  in_handing : (s : Service) (done count word : ℕ) → place_of k ≡ place.InService s (step.PuttingBytes done count word) →
      IsPuttingBytes v k b s done count word → StandsBeneath v k b

-- ---- a page is copied

-- the page of an address waits to be copied
pub record IsToCopy (row : EntryRow) (va : ℕ) : Type 0 where
  pub entry : Entry
  pub stands : row (page_number va) ≡ Some entry
  pub own_page : is_shared entry.perm ≡ false
  pub copied : is_cow entry.perm ≡ true

-- The first bytes of the page stand in its copy.
pub record IsCopiedTo (n : ℕ) (v : View) (va : ℕ) : Type 0 where
  pub source : Entry
  pub copy : Entry
  pub source_is : v.row (page_number va) ≡ Some source
  pub copy_is : v.row (page_number PFTEMP) ≡ Some copy
  pub source_own : is_shared source.perm ≡ false
  pub copy_own : is_shared copy.perm ≡ false
  pub same : (i : ℕ) → i < n → slice_index (v.bytes copy.frame) i ≡ slice_index (v.bytes source.frame) i

-- the word of a page at an offset
abbrev pub page_word : List ℕ → ℕ → ℕ
page_word bytes at = from_le_bytes w32 (slice_index bytes at ∷ slice_index bytes (at + 1) ∷ slice_index bytes (at + 2) ∷ slice_index bytes (at + 3) ∷ [])

-- the page of an address has this word
pub record HasWord (v : View) (va index word : ℕ) : Type 0 where
  pub entry : Entry
  pub stands : v.row (page_number va) ≡ Some entry
  pub own_page : is_shared entry.perm ≡ false
  pub word_is : word ≡ page_word (v.bytes entry.frame) (4 * index)

-- The copy is the page of the address, and stands where it was made too.
pub record IsMappedTwice (v : View) (va : ℕ) : Type 0 where
  pub here : Entry
  pub there : Entry
  pub here_is : v.row (page_number va) ≡ Some here
  pub there_is : v.row (page_number PFTEMP) ≡ Some there
  pub own_page : is_shared here.perm ≡ false
  pub own_copy : is_shared there.perm ≡ false
  pub writes : has_write here.perm ≡ true
  pub frames : there.frame ≡ here.frame

-- what is so at each step of the copying, of the fault at an address; ⊥ for the steps of the other way
abbrev pub CopiesAt : HandlerStep → View → ℕ → Type 0
CopiesAt handler.Entered v va = IsToCopy v.row va
CopiesAt (handler.ReadingError found) v va = (found ≡ va) × IsToCopy v.row va
CopiesAt (handler.Looking found) v va = (found ≡ va) × IsToCopy v.row va
CopiesAt (handler.Taking found) v va = (found ≡ va) × IsToCopy v.row va
CopiesAt (handler.Loading found index) v va = (found ≡ va) × IsToCopy v.row va × IsCopiedTo (4 * index) v va
CopiesAt (handler.Storing found index word) v va =
    (found ≡ va) × IsToCopy v.row va × IsCopiedTo (4 * index) v va × HasWord v va index word
CopiesAt (handler.MappingOver found) v va = (found ≡ va) × IsToCopy v.row va × IsCopiedTo PGSIZE v va
CopiesAt (handler.Unmapping found) v va = (found ≡ va) × IsMappedTwice v va
CopiesAt handler.Restoring v va = Unit {0}
CopiesAt _ v va = ⊥

-- The handler copies the page for who stands beneath it.
pub record Copies (h : HandlerStep) (v : View) (k : Slot) (b : Born) (fault : PageFault) (regs : Regs) : Type 0 where
  pub beneath : StandsBeneath v (record k { registers = regs }) b
  pub error : fault.error ≡ FEC_U + FEC_PR + FEC_WR
  pub inside : is_inside fault.va ≡ true
  pub at : CopiesAt h v fault.va

-- ---- a fault that ends the environment

-- what is so at each step on the way to the end; ⊥ for the steps of the other way
abbrev pub EndsAt : HandlerStep → PageFault → Regs → Type 0
EndsAt handler.Entered fault regs = Unit {0}
EndsAt (handler.ReadingError va) fault regs = va ≡ fault.va
EndsAt (handler.Looking va) fault regs = (va ≡ fault.va) × (fault.error ≡ FEC_U + FEC_PR + FEC_WR)
EndsAt (handler.ReadingIp va error) fault regs = (va ≡ fault.va) × (error ≡ fault.error)
EndsAt (handler.Unsetting va error ip) fault regs = (va ≡ fault.va) × (error ≡ fault.error) × (ip ≡ regs.eip)
EndsAt (handler.Touching va error ip) fault regs = (va ≡ fault.va) × (error ≡ fault.error) × (ip ≡ regs.eip)
EndsAt _ fault regs = ⊥

-- The program is marked with the fault of an access at an address by the instruction at another, or a service stands before its access
-- to the byte at the address, which would be a write or not.
pub data IsStoppedAt (write : Bool) (v : View) (b : Born) (va ip : ℕ) : Type 0 where
  marked : b.phase ≡ faulted va ip → IsStoppedAt write v b va ip
  reading : (fd buffer len : ℕ) (bytes : List ℕ) (answer : ℕ) → write ≡ true →
      b.phase ≡ in_service (service.Read fd buffer len) (delivering va bytes answer) → 0 < length bytes → IsStoppedAt write v b va ip
  telling : (fd buffer : ℕ) (bytes : List ℕ) (answer : ℕ) → write ≡ true →
      b.phase ≡ in_service (service.Stat fd buffer) (delivering va bytes answer) → 0 < length bytes → IsStoppedAt write v b va ip
  handing : (s : Service) (bytes : List ℕ) (answer : ℕ) → write ≡ true → hands_back s ≡ true → b.phase ≡ in_service s (replied bytes answer) →
      0 < length bytes → va ≡ buffer_of s → IsStoppedAt write v b va ip
  writing : (fd buffer len start : ℕ) (bytes : List ℕ) → write ≡ false → WantsMore v b fd buffer len start bytes → va ≡ buffer + length bytes →
      IsStoppedAt write v b va ip
  following : (s : Service) (bytes : List ℕ) → write ≡ false → WantsMoreOfPath b s bytes → va ≡ buffer_of s + length bytes →
      IsStoppedAt write v b va ip
  listed : (path argv : ℕ) (name addresses taken : List ℕ) (stage : Stage) → write ≡ false → b.phase ≡ in_service (service.Spawn path argv) stage →
      Lists b name addresses taken stage → All (λ address. (address ≢ 0) × (address < 2 ^ 32)) addresses → length addresses ≤ ARGS_MAX → length taken < 4 →
      va ≡ address_place argv (length addresses) (length taken) → IsStoppedAt write v b va ip
  quoted : (path argv address : ℕ) (name left taken : List ℕ) (words : List (List ℕ)) (stage : Stage) → write ≡ false →
      b.phase ≡ in_service (service.Spawn path argv) stage → Quotes b name (address ∷ left) words taken stage → length taken < PGSIZE →
      va ≡ string_place address (length taken) → IsStoppedAt write v b va ip

-- The environment ends by the fault. Its registers are those of its program, but for EAX, which the kernel may have set with a reply.
pub record Ends (h : HandlerStep) (v : View) (k : Slot) (b : Born) (fault : PageFault) (regs : Regs) : Type 0 where
  pub eax : ℕ
  pub program : b.program ≡ guest (record regs { eax = eax })
  pub stopped : IsStoppedAt (is_write fault.error) v b fault.va regs.eip
  pub silent : k.rendezvous.receiving ≡ false
  pub awake : b.blocked ≡ false
  pub inside : is_inside fault.va ≡ true
  pub refused : is_refused_by (is_write fault.error) (v.row (page_number fault.va)) ≡ true
  -- what the error code tells of a page that is there is so
  pub present : fault.error ≡ FEC_U + FEC_PR + FEC_WR → is_some (v.row (page_number fault.va)) ≡ true
  pub at : EndsAt h fault regs

-- ---- both

pub data CopiesOrEnds (h : HandlerStep) (v : View) (k : Slot) (b : Born) (fault : PageFault) (regs : Regs) : Type 0 where
  copies : Copies h v k b fault regs → CopiesOrEnds h v k b fault regs
  ends : Ends h v k b fault regs → CopiesOrEnds h v k b fault regs

-- The handler has the fault in its frame, with the registers of the program.
pub record IsInHandler (h : HandlerStep) (v : View) (k : Slot) (b : Born) : Type 0 where
  pub fault : PageFault
  pub regs : Regs
  pub frame : HasFrame v k.registers.esp fault regs
  pub small : (i : ℕ) → i < UTRAPFRAME_WORDS → get_or (frame_words fault regs) i 0 < 2 ^ 32
  pub flags : regs.eflags ≡ user_flags regs.eflags
  pub stack : is_resident regs.esp ≡ false
  pub way : CopiesOrEnds h v k b fault regs
