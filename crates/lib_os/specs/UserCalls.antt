-- What the library asks of the kernel for an environment, call by call, as functions of the kernel's state: a word or a byte
-- moved as a user moves it, a system call, registers taken back from the frame of a page fault. Each call is one step, and
-- another environment may have its turn between any two.
-- (MIT 6.828, lib/syscall.c, and the loads and stores of lib/*.c.)
use Rattle.std.specs.Prelude.{◌≡◌, ◌≤◌, ℕ, ◌+◌, ◌-◌, ◌*◌, ◌^◌, min, nat_lt, ◌==◌, ◌&&◌, Bool, true, false, not, List, [], ◌∷◌, get_or, length}
use Rattle.std.specs.Prelude.{Option, Some, None, Result, Ok, Err, if◌then◌else◌}
use Rattle.std.specs.Int.{w32, to_le_bytes, from_le_bytes}
use Rattle.jos_base.specs.declared.called.Called.{Called}
use Rattle.jos_base.specs.declared.called.Called.TheVariants.{Answered}
use Rattle.jos_base.specs.declared.environment.EnvType.{EnvType}
use Rattle.jos_base.specs.declared.environment.EnvType.TheVariants.{User, FileServer}
use Rattle.jos_base.specs.declared.line.Line.TheVariants.{UserFault}
use Rattle.jos_base.specs.declared.memory.Access.{Access}
use Rattle.jos_base.specs.declared.memory.Access.TheVariants.{Read, Write}
use Rattle.jos_base.specs.declared.memory.PageFault.{PageFault}
use Rattle.jos_base.specs.declared.numbers.TheConstants.{E_INVAL, PGSIZE, SYS_ENV_SET_TRAPFRAME}
use Rattle.jos_base.specs.declared.registers.Regs.{Regs}
use Rattle.jos_base.specs.Below.{values_below}
use Rattle.jos_base.specs.Environments.{records_of, found, is_live}
use Rattle.jos_base.specs.KernelState.{KernelState, slot_at, with_registers, with_spaces}
use Rattle.jos_base.specs.Reach.{FrameOffset}
use Rattle.jos_base.specs.SystemCalls.{Did, handled, killed, system_call, user_bytes, with_bytes_reached}
use Rattle.jos_base.specs.TrapFrames.{words_of_bytes, frame_size, from_frame}
use Rattle.jos_base.specs.UserMemory.{reach_in, is_allowed, touched, byte_at, stored_byte}
use Rattle.jos_base.specs.Words.{is_exactly, negated}
use Rattle.jos_host.specs.declared.host.Failed.{Failed}
use Rattle.jos_host.specs.declared.host.HostCall.{HostCall}
use Rattle.jos_host.specs.Asked.{Asked, and_asked}
use Rattle.jos_host.specs.Files.{Files}
use Rattle.jos_host.specs.Told.{Rose, WritesAt}
use Rattle.jos_host.specs.Frames.{Around, around}
use Rattle.fs_layout.specs.declared.numbers.TheConstants.{BLKSIZE}
use Rattle.jos_host.specs.Gains.{Gains, GainsPart}
use Rattle.lib_os.specs.Disk.{DiskFile, BlockCame}
use Rattle.lib_os.specs.declared.user_os.Stop.{Stop}
use Rattle.lib_os.specs.declared.user_os.Stop.TheVariants as stop

-- ---- what a call has done

-- what the library gets of it
pub data Got (X : Type 0) : Type 0 where
  got : X → Got X
  -- the access faulted, and the environment's handler goes on
  to_handler : Got X
  -- it faulted, and the environment is destroyed
  gone : Got X

-- the state after a call, what the library gets, and the bytes that are written to the console
pub record CallStep (X : Type 0) : Type 0 where
  pub state : KernelState
  pub gives : Got X
  pub written : List ℕ

abbrev pub giving : {X : Type 0} → KernelState → X → CallStep X
giving s x = record { state = s; gives = got x; written = [] }

-- ---- accesses

-- An access that is refused is a page fault of the environment's own, at the address behind its INT 0x40.
abbrev pub faulting : {X : Type 0} → KernelState → ℕ → PageFault → Option KernelState → CallStep X
faulting s n fault (Some after) = record { state = after; gives = to_handler; written = [] }
faulting s n fault None =
    let did = killed s n (UserFault fault.va (slot_at s n).registers.eip) in record { state = did.state; gives = gone; written = did.written }

-- what is done in the state in which the access has set its bits
abbrev pub accessing : {X : Type 0} → KernelState → ℕ → ℕ → Access → (KernelState → CallStep X) → Result FrameOffset PageFault → CallStep X
accessing s n va access done (Ok location) = done (with_spaces s (touched s.spaces (slot_at s n).directory va access))
accessing s n va access done (Err fault) = faulting s n fault (handled s n fault)

-- an access to bytes that lie in the page of their first
abbrev pub by_access : {X : Type 0} → KernelState → ℕ → ℕ → Access → (KernelState → CallStep X) → CallStep X
by_access s n va access done = accessing s n va access done (reach_in s.spaces (slot_at s n).directory va access)

-- ---- words and bytes

abbrev pub user_byte : KernelState → ℕ → ℕ → ℕ
user_byte s n va = byte_at (records_of s.environments) s.spaces (slot_at s n).directory va

-- the word at an address, the lowest byte first
abbrev pub user_word : KernelState → ℕ → ℕ → ℕ
user_word s n va =
    from_le_bytes w32 (user_byte s n va ∷ user_byte s n (va + 1) ∷ user_byte s n (va + 2) ∷ user_byte s n (va + 3) ∷ [])

abbrev pub with_user_byte : KernelState → ℕ → ℕ → ℕ → KernelState
with_user_byte s n va byte = with_spaces s (stored_byte s.spaces (slot_at s n).directory va byte)

abbrev pub with_bytes_put : KernelState → ℕ → ℕ → List ℕ → KernelState
with_bytes_put s n va [] = s
with_bytes_put s n va (byte ∷ rest) = with_bytes_put (with_user_byte s n va byte) n (va + 1) rest

abbrev pub with_user_word : KernelState → ℕ → ℕ → ℕ → KernelState
with_user_word s n va word = with_bytes_put s n va (to_le_bytes w32 word)

-- ---- the calls

-- load(va), of a word that lies at a multiple of four
unfoldable pub load : KernelState → ℕ → ℕ → CallStep ℕ
load s n va = by_access s n va Read (λ after. giving after (user_word after n va))

unfoldable pub load_byte : KernelState → ℕ → ℕ → CallStep ℕ
load_byte s n va = by_access s n va Read (λ after. giving after (user_byte after n va))

-- store(va, word), to a multiple of four
unfoldable pub store : KernelState → ℕ → ℕ → ℕ → CallStep (Unit {0})
store s n va word = by_access s n va Write (λ after. giving (with_user_word after n va word) tt)

unfoldable pub store_byte : KernelState → ℕ → ℕ → ℕ → CallStep (Unit {0})
store_byte s n va byte = by_access s n va Write (λ after. giving (with_user_byte after n va byte) tt)

-- exchange(va, word): the word that stood there is given, in the same step
unfoldable pub exchange : KernelState → ℕ → ℕ → ℕ → CallStep ℕ
exchange s n va word = by_access s n va Write (λ after. record { state = with_user_word after n va word; gives = got (user_word after n va); written = [] })

-- the registers with which a system call is made
abbrev pub asking : Regs → ℕ → List ℕ → Regs
asking regs number args = record regs {
  eax = number;
  edx = get_or args 0 0;
  ecx = get_or args 1 0;
  ebx = get_or args 2 0;
  edi = get_or args 3 0;
  esi = get_or args 4 0;
}

-- the call sets the caller's own registers
abbrev pub sets_own : KernelState → ℕ → ℕ → List ℕ → Bool
sets_own s n number args = (number == SYS_ENV_SET_TRAPFRAME) && is_exactly n (found s.environments (get_or args 0 0) n true)

-- Behind a call the caller has the registers that it had before, but where it has set its own. One that is gone has none.
abbrev pub taken_back : KernelState → ℕ → Bool → Regs → KernelState
taken_back s n own regs = if is_live (slot_at s n) && not own then with_registers s n regs else s

abbrev pub called_by : ℕ → Bool → Regs → Did → CallStep Called
called_by n own regs did = record { state = taken_back did.state n own regs; gives = got did.called; written = did.written }

-- system(number, args): the system call with this number, given these in EDX, ECX, EBX, EDI and ESI. A child that it makes has
-- the caller's registers with these in them.
unfoldable pub system : KernelState → ℕ → ℕ → List ℕ → CallStep Called
system s n number args =
    let regs = (slot_at s n).registers in
    called_by n (sets_own s n number args) regs (system_call (with_registers s n (asking regs number args)) n)

abbrev pub restored : KernelState → ℕ → Result (List ℕ) PageFault → CallStep (Unit {0})
restored s n (Ok bytes) =
    giving (with_registers (with_bytes_reached s n (slot_at s n).registers.esp frame_size) n (from_frame (words_of_bytes bytes))) tt
restored s n (Err fault) = faulting s n fault (handled s n fault)

-- restore_frame(): the registers are those of the page fault's frame that stands at ESP
unfoldable pub restore_frame : KernelState → ℕ → CallStep (Unit {0})
restore_frame s n = restored s n (user_bytes s n (slot_at s n).registers.esp frame_size)

-- ---- blocks of the disk

abbrev pub is_file_server : EnvType → Bool
is_file_server FileServer = true
is_file_server User = false

-- a call for a block: the state, who makes it, the disk, and which block is moved to or from the page at which address
pub record BlockCall : Type 0 where
  pub state : KernelState
  pub slot : ℕ
  pub disk : DiskFile
  pub block : ℕ
  pub va : ℕ

-- The file server makes it, the disk has the block, and the page may be accessed so.
abbrev pub may_move : BlockCall → Access → Bool
may_move call access =
    let caller = slot_at call.state call.slot in
    is_file_server caller.env_type && nat_lt call.block call.disk.blocks && is_allowed call.state.spaces caller.directory call.va access

-- what a call for a block is given
abbrev pub block_call : KernelState → ℕ → DiskFile → ℕ → ℕ → BlockCall
block_call s n disk block va = record { state = s; slot = n; disk = disk; block = block; va = va }

-- A block is read into a page that may be written, and written from one that may be read.
abbrev pub may_read_block : BlockCall → Bool
may_read_block call = may_move call Write

abbrev pub may_write_block : BlockCall → Bool
may_write_block call = may_move call Read

-- the bytes of the page at an address, as its environment reads them
unfoldable pub page_bytes : KernelState → ℕ → ℕ → List ℕ
page_bytes s n va = values_below PGSIZE (λ k. user_byte s n (va + k))

-- the page at an address is accessed
abbrev pub page_accessed : KernelState → ℕ → ℕ → Access → KernelState
page_accessed s n va access = with_spaces s (touched s.spaces (slot_at s n).directory va access)

-- these bytes come to it
unfoldable pub block_put : KernelState → ℕ → ℕ → List ℕ → KernelState
block_put s n va bytes = with_bytes_put (page_accessed s n va Write) n va bytes

-- block_read(block, va): 0, and the bytes of the block have come to the page; or 3 negated, where they may not
abbrev pub IsReadBy : Bool → BlockCall → Option Files → ℕ → KernelState → Type 0
IsReadBy true call files word after =
    (word ≡ 0) × (bytes : List ℕ) × BlockCame files call.disk call.block bytes × (after ≡ block_put call.state call.slot call.va bytes)
IsReadBy false call files word after = (word ≡ negated E_INVAL) × (after ≡ call.state)

-- Where the host failed, it was asked, and nothing is said of the state.
abbrev pub IsBlockRead : BlockCall → Option Files → Result ℕ Failed → KernelState → Type 0
IsBlockRead call files (Ok word) after = IsReadBy (may_read_block call) call files word after
IsBlockRead call files (Err _) after = may_read_block call ≡ true

-- block_write(block, va): 0, and the bytes of the page have come to the block; or 3 negated, where they may not
abbrev pub IsSentBy : Bool → BlockCall → ℕ → KernelState → Type 0
IsSentBy true call word after = (word ≡ 0) × (after ≡ page_accessed call.state call.slot call.va Read)
IsSentBy false call word after = (word ≡ negated E_INVAL) × (after ≡ call.state)

abbrev pub IsBlockWrite : BlockCall → Result ℕ Failed → KernelState → Type 0
IsBlockWrite call (Ok word) after = IsSentBy (may_write_block call) call word after
IsBlockWrite call (Err _) after = may_write_block call ≡ true

-- whether the host has done it, without the word that is answered
abbrev pub done_only : {E : Type 0} → Result ℕ E → Result (Unit {0}) E
done_only (Ok word) = Ok tt
done_only (Err failed) = Err failed

-- What the host tells of its files behind it. Where the host failed, what stands in the block is unknown.
abbrev pub FilesBehindBy : {E : Type 0} → Bool → BlockCall → Result ℕ E → Around (Option Files) → Type 0
FilesBehindBy true call result files =
    WritesAt files.before call.disk.name (BLKSIZE * call.block) (page_bytes call.state call.slot call.va) (done_only result) files.after
FilesBehindBy false call result files = files.after ≡ files.before

abbrev pub FilesBehind : {E : Type 0} → BlockCall → Result ℕ E → Around (Option Files) → Type 0
FilesBehind call result files = FilesBehindBy (may_write_block call) call result files

-- the calls that a host was asked, by whether it was asked this one of the disk's file
abbrev pub asked_by : Bool → Option (List Asked) → HostCall → DiskFile → Option (List Asked)
asked_by made told call disk = if made then and_asked told call disk.name else told

-- ---- what is printed

-- What came to the console, where the host tells it, and how many bytes were counted.
pub record Output : Type 0 where
  pub console : Around (Option (List ℕ))
  pub count : Around ℕ

abbrev pub output : {H S : Type 0} → (H → Option (List ℕ)) → (S → ℕ) → Around H → Around S → Output
output console count host self = record {
  console = around console host.before host.after;
  count = around count self.before self.after;
}

-- The console has gained these bytes, and they are counted. The count stands still at the end of its type.
pub record Prints (output : Output) (bytes : List ℕ) : Type 0 where
  pub gains : Gains output.console bytes
  pub counted : output.count.after ≡ min (output.count.before + length bytes) (2 ^ 64 - 1)

-- a part of them came
abbrev pub PrintsPart : Output → List ℕ → Type 0
PrintsPart output bytes = GainsPart output.console bytes

-- ---- results

-- What a call answers, with the state after it and what was printed. Where the host failed, it was in the line of the
-- environment's end, a part of which came.
abbrev pub IsStep : {X : Type 0} → CallStep X → Result X Stop → KernelState → Output → Type 0
IsStep step (Ok x) state output = (step.gives ≡ got x) × (state ≡ step.state) × Prints output step.written
IsStep step (Err stop.Upcall) state output = (step.gives ≡ to_handler) × (state ≡ step.state) × Prints output step.written
IsStep step (Err stop.Ended) state output = (step.gives ≡ gone) × (state ≡ step.state) × Prints output step.written
IsStep step (Err stop.Failed) state output = (step.gives ≡ gone) × PrintsPart output step.written

-- the same of a system call, which faults nowhere
abbrev pub IsCallStep : CallStep Called → Result Called Failed → KernelState → Output → Type 0
IsCallStep step (Ok called) state output = (step.gives ≡ got called) × (state ≡ step.state) × Prints output step.written
IsCallStep step (Err _) state output = PrintsPart output step.written

-- the word that a system call has answered; 0 where it has answered nothing
abbrev pub answer_of : Called → ℕ
answer_of (Answered word) = word
answer_of _ = 0

-- A failed call of the host is answered only where the count of its faults rose, and every other answer leaves the count.
abbrev pub HasStopCause : {X : Type 0} → Around ℕ → Result X Stop → Type 0
HasStopCause faults (Err stop.Failed) = (faults.before ≤ faults.after) × Rose faults.before faults.after
HasStopCause faults (Err stop.Upcall) = faults.after ≡ faults.before
HasStopCause faults (Err stop.Ended) = faults.after ≡ faults.before
HasStopCause faults (Ok x) = faults.after ≡ faults.before
