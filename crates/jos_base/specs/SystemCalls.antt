-- What each system call does. Which one is asked for stands in EAX, what it is given in EDX, ECX, EBX, EDI and ESI, in this
-- order, and what it answers in EAX. Of several refusals the one that stands first here is told.
-- (MIT 6.828, inc/syscall.h, inc/error.h and kern/syscall.c.)
use Rattle.std.specs.Prelude.{ℕ, ◌+◌, ◌*◌, ◌%◌, ◌==◌, ◌&&◌, ◌||◌, nat_lt, not, Bool, true, false, List, [], ◌∷◌, Option, Some, None}
use Rattle.std.specs.Prelude.{Result, Ok, Err, bit_and, if◌then◌else◌}
use Rattle.std.specs.Option.{option_map}
use Rattle.jos_base.specs.declared.memory.PageFault.{PageFault}
use Rattle.jos_base.specs.declared.memory.Access.TheVariants.{Write}
use Rattle.jos_base.specs.declared.registers.Regs.{Regs}
use Rattle.jos_base.specs.declared.environment.Status.{Status}
use Rattle.jos_base.specs.declared.environment.Status.TheVariants.{NotRunnable, Runnable}
use Rattle.jos_base.specs.declared.errno.Errno.{Errno}
use Rattle.jos_base.specs.declared.errno.Errno.TheVariants.{BadEnv, Invalid, NoMem, NoFreeEnv, IpcNotRecv, NotFound, BadPath}
use Rattle.jos_base.specs.declared.called.Called.{Called}
use Rattle.jos_base.specs.declared.called.Called.TheVariants.{Answered, Ended, Blocked}
use Rattle.jos_base.specs.declared.line.Line.{Line}
use Rattle.jos_base.specs.declared.line.Line.TheVariants.{UserFault, UserMemCheck}
use Rattle.jos_base.specs.declared.numbers.TheConstants.{SYS_CPUTS, SYS_CGETC, SYS_GETENVID, SYS_ENV_DESTROY}
use Rattle.jos_base.specs.declared.numbers.TheConstants.{SYS_PAGE_ALLOC, SYS_PAGE_MAP, SYS_PAGE_UNMAP}
use Rattle.jos_base.specs.declared.numbers.TheConstants.{SYS_EXOFORK, SYS_ENV_SET_STATUS, SYS_ENV_SET_TRAPFRAME}
use Rattle.jos_base.specs.declared.numbers.TheConstants.{SYS_ENV_SET_PGFAULT_UPCALL, SYS_YIELD, SYS_IPC_TRY_SEND, SYS_IPC_RECV}
use Rattle.jos_base.specs.declared.numbers.TheConstants.{E_BAD_ENV, E_INVAL, E_NO_MEM, E_NO_FREE_ENV, E_IPC_NOT_RECV, E_NOT_FOUND, E_BAD_PATH, CPUTS_MAX}
use Rattle.jos_base.specs.declared.numbers.TheConstants.{ENV_RUNNABLE, ENV_NOT_RUNNABLE, END_OF_INPUT, TRAPFRAME_WORDS}
use Rattle.jos_base.specs.declared.numbers.TheConstants.{PGSIZE, PTE_P, PTE_W, PTE_U, PTE_SYSCALL, UTOP}
use Rattle.jos_base.specs.Words.{negated, page_number}
use Rattle.jos_base.specs.Reach.{Entry, FrameOffset, bytes_read}
use Rattle.jos_base.specs.SpacesState.{SpacesState, created, destroyed, allocated, inserted, unmapped, overlaid, with_page_bytes}
use Rattle.jos_base.specs.UserMemory.{reach_in, touched, all_touched, read_byte}
use Rattle.jos_base.specs.Messages.{accepts, delivered, wanting}
use Rattle.jos_base.specs.TrapFrames.{frame_bytes, from_record, upcall_place, words_of_bytes}
use Rattle.jos_base.specs.Environments.{Environments, allotted, found, slot_freed, with_answer, records_of}
use Rattle.jos_base.specs.KernelState.{KernelState, slot_at, with_slot_at, with_spaces, with_status, with_registers, with_directory}
use Rattle.jos_base.specs.KernelState.{with_refusal, with_upcall, with_upcall_counted, with_rendezvous}
use Rattle.jos_base.specs.Lines.{line_text}

abbrev pub error_number : Errno → ℕ
error_number BadEnv = E_BAD_ENV
error_number Invalid = E_INVAL
error_number NoMem = E_NO_MEM
error_number NoFreeEnv = E_NO_FREE_ENV
error_number IpcNotRecv = E_IPC_NOT_RECV
error_number NotFound = E_NOT_FOUND
error_number BadPath = E_BAD_PATH

-- what a call or a fault has done: the state after it, what the caller gets, and the bytes that are written
pub record Did : Type 0 where
  pub state : KernelState
  pub called : Called
  pub written : List ℕ

-- ---- answers

-- the caller has an answer, in this state
abbrev pub answered : KernelState → ℕ → ℕ → Did
answered s n answer = record {
  state = with_slot_at s n (with_answer (slot_at s n) answer);
  called = Answered answer;
  written = [];
}

-- the caller is refused
abbrev pub refused : KernelState → ℕ → Errno → Did
refused s n error = answered s n (negated (error_number error))

-- ---- ends

-- an environment is destroyed: its space, and then its slot is free
abbrev pub without_environment : KernelState → ℕ → KernelState
without_environment s n = record s {
  spaces = destroyed s.spaces (slot_at s n).directory;
  environments = slot_freed s.environments n (slot_at s n).id;
}

-- an environment is destroyed, and a line tells why
unfoldable pub killed : KernelState → ℕ → Line → Did
killed s n line = record {
  state = without_environment s n;
  called = Ended;
  written = line_text (slot_at s n).id line;
}

-- ---- page faults

-- what a trap has done: the state after it, and the bytes that are written
pub record Trapped : Type 0 where
  pub state : KernelState
  pub written : List ℕ

abbrev pub trapped_by : Did → Trapped
trapped_by did = record { state = did.state; written = did.written }

-- The frame is written as a user writes: it lies in one page, which gets its bits. Then the handler goes on, with the frame
-- on its stack.
abbrev pub handler_entered : KernelState → ℕ → PageFault → ℕ → Result FrameOffset PageFault → Option KernelState
handler_entered s n fault place (Err refusal) = None
handler_entered s n fault place (Ok at) =
    let slot = slot_at s n in
    let reached = touched s.spaces slot.directory place Write in
    let written = with_page_bytes reached at.frame (overlaid (reached.pages at.frame) at.offset (frame_bytes fault slot.registers)) in
    Some (with_upcall_counted (with_registers (with_spaces s written) n (record slot.registers { esp = place; eip = slot.upcall })))

abbrev pub handled_at : KernelState → ℕ → PageFault → Option ℕ → Option KernelState
handled_at s n fault None = None
handled_at s n fault (Some place) =
    handler_entered s n fault place (reach_in s.spaces (slot_at s n).directory place Write)

-- A page fault of the environment's own is handed to its handler. None where it has none, and where the frame can't be
-- written.
unfoldable pub handled : KernelState → ℕ → PageFault → Option KernelState
handled s n fault =
    if (slot_at s n).upcall == 0 then None else handled_at s n fault (upcall_place (slot_at s n).registers.esp)

abbrev pub delivered_to : KernelState → ℕ → PageFault → Option KernelState → Trapped
delivered_to s n fault (Some after) = record { state = after; written = [] }
delivered_to s n fault None = trapped_by (killed s n (UserFault fault.va (slot_at s n).registers.eip))

-- a page fault of the instruction at EIP: its handler has it, or the environment is destroyed
abbrev pub deliver_fault : KernelState → ℕ → PageFault → Trapped
deliver_fault s n fault = delivered_to s n fault (handled s n fault)

-- ---- the calls

-- so many bytes as a user reads them, or the fault of the first that can't be read
abbrev pub user_bytes : KernelState → ℕ → ℕ → ℕ → Result (List ℕ) PageFault
user_bytes s n va len = bytes_read (read_byte (records_of s.environments) s.spaces (slot_at s n).directory) va len

-- the state after so many bytes were reached for a read, by a user
abbrev pub with_bytes_reached : KernelState → ℕ → ℕ → ℕ → KernelState
with_bytes_reached s n va len = with_spaces s (all_touched s.spaces (slot_at s n).directory va len)

-- cputs(va, len): a caller that asks for too many bytes is refused, and one whose bytes can't all be read is
-- destroyed; else they are reached, as a user reaches them, and go to the console
abbrev pub cputs_of : KernelState → ℕ → ℕ → ℕ → Result (List ℕ) PageFault → Did
cputs_of s n va len (Ok bytes) = record (answered (with_bytes_reached s n va len) n 0) { written = bytes }
cputs_of s n va len (Err fault) = killed s n (UserMemCheck fault.va)

abbrev pub cputs : KernelState → ℕ → ℕ → ℕ → Did
cputs s n va len =
    if nat_lt CPUTS_MAX len then refused s n Invalid
    else cputs_of s n va len (user_bytes s n va len)

-- cgetc(): the next byte of the input, or a number where it is at its end
abbrev pub cgetc_from : KernelState → ℕ → List ℕ → Did
cgetc_from s n [] = answered s n END_OF_INPUT
cgetc_from s n (byte ∷ rest) = answered (record s { input = rest }) n byte

-- env_destroy(id): the caller, or a child of its own. A caller that is gone gets no answer.
abbrev pub env_destroy_of : KernelState → ℕ → Option ℕ → Did
env_destroy_of s n None = refused s n BadEnv
env_destroy_of s n (Some target) =
    if target == n then record { state = without_environment s n; called = Ended; written = [] }
    else answered (without_environment s target) n 0

-- An environment is made: a slot of this parent's, and a space without pages. The slot is asked for before the
-- directory's frame.
abbrev pub made_of : KernelState → Option (ℕ × Environments) → Option (ℕ × SpacesState) → Result (ℕ × KernelState) Errno
made_of s None space = Err NoFreeEnv
made_of s (Some slot) None = Err NoMem
made_of s (Some slot) (Some space) = Ok (slot.0, with_directory (record s { environments = slot.1; spaces = space.1 }) slot.0 space.0)

unfoldable pub environment_made : KernelState → ℕ → Result (ℕ × KernelState) Errno
environment_made s parent = made_of s (allotted s.environments parent) (created s.spaces)

-- exofork(): an environment of the caller's, which may not run yet, with the caller's registers but for EAX
abbrev pub exofork_of : KernelState → ℕ → Result (ℕ × KernelState) Errno → Did
exofork_of s n (Err error) = refused (with_refusal s) n error
exofork_of s n (Ok made) =
    answered (with_registers made.1 made.0 (record (slot_at s n).registers { eax = 0 })) n (slot_at made.1 made.0).id

abbrev pub exofork : KernelState → ℕ → Did
exofork s n = exofork_of s n (environment_made s (slot_at s n).id)

-- env_set_status(id, status): the caller, or a child of its own
abbrev pub status_named : ℕ → Option Status
status_named number =
    if number == ENV_RUNNABLE then Some Runnable else if number == ENV_NOT_RUNNABLE then Some NotRunnable else None

abbrev pub env_set_status_of : KernelState → ℕ → Option ℕ → Option Status → Did
env_set_status_of s n None status = refused s n BadEnv
env_set_status_of s n (Some target) None = refused s n Invalid
env_set_status_of s n (Some target) (Some status) = answered (with_status s target status) n 0

-- ---- pages

-- the address of a page that a program may map
abbrev pub is_page_address : ℕ → Bool
is_page_address va = (va % PGSIZE == 0) && nat_lt va UTOP

-- P and U, and beside them no bits but W and those left to software
abbrev pub is_page_perm : ℕ → Bool
is_page_perm perm = (bit_and perm (PTE_P + PTE_U) == PTE_P + PTE_U) && (bit_and perm PTE_SYSCALL == perm)

abbrev pub has_write : ℕ → Bool
has_write perm = bit_and perm PTE_W == PTE_W

-- an entry that gives a page on with these bits; W is given on only where it was had
abbrev pub shared_entry : Option Entry → ℕ → Option Entry
shared_entry None perm = None
shared_entry (Some entry) perm =
    if not (is_page_perm perm) then None
    else if has_write perm && not (has_write entry.perm) then None
    else Some (record { frame = entry.frame; perm = perm })

abbrev pub entry_at : KernelState → ℕ → ℕ → Option Entry
entry_at s n va = s.spaces.entries (slot_at s n).directory (page_number va)

-- in the space of a slot a page is inserted by this entry; None where a table is wanted and no frame is free
abbrev pub inserted_at : KernelState → ℕ → ℕ → Entry → Option SpacesState
inserted_at s n va entry = inserted s.spaces (slot_at s n).directory (page_number va) entry

-- a call that asked for frames: with the spaces after it, or refused for want of one
abbrev pub answered_with : KernelState → ℕ → Option SpacesState → Did
answered_with s n None = refused (with_refusal s) n NoMem
answered_with s n (Some spaces) = answered (with_spaces s spaces) n 0

abbrev pub second_of : Option (ℕ × SpacesState) → Option SpacesState
second_of found = option_map (λ f. f.1) found

-- page_alloc(id, va, perm): a new page of zeros, in the place of what stood there. Its frame is taken before what stood
-- there is removed.
abbrev pub page_alloc_of : KernelState → ℕ → Option ℕ → ℕ → ℕ → Did
page_alloc_of s n None va perm = refused s n BadEnv
page_alloc_of s n (Some target) va perm =
    if not (is_page_address va) then refused s n Invalid
    else if not (is_page_perm perm) then refused s n Invalid
    else answered_with s n (second_of (allocated s.spaces (slot_at s target).directory (page_number va) perm))

-- page_map(source, source_va, target, target_va, perm): the page of one environment is another's too
abbrev pub page_map_by : KernelState → ℕ → ℕ → ℕ → Option Entry → Did
page_map_by s n target va None = refused s n Invalid
page_map_by s n target va (Some entry) = answered_with s n (inserted_at s target va entry)

abbrev pub page_map_of : KernelState → ℕ → Option ℕ → ℕ → Option ℕ → ℕ → ℕ → Did
page_map_of s n None source_va target target_va perm = refused s n BadEnv
page_map_of s n (Some source) source_va None target_va perm = refused s n BadEnv
page_map_of s n (Some source) source_va (Some target) target_va perm =
    if not (is_page_address source_va) then refused s n Invalid
    else if not (is_page_address target_va) then refused s n Invalid
    else page_map_by s n target target_va (shared_entry (entry_at s source source_va) perm)

-- page_unmap(id, va): nothing is done where no page is
abbrev pub page_unmap_of : KernelState → ℕ → Option ℕ → ℕ → Did
page_unmap_of s n None va = refused s n BadEnv
page_unmap_of s n (Some target) va =
    if not (is_page_address va) then refused s n Invalid
    else answered (with_spaces s (unmapped s.spaces (slot_at s target).directory (page_number va))) n 0

-- ---- traps of its own

-- the bytes of the record of all registers
abbrev pub record_size : ℕ
record_size = 4 * TRAPFRAME_WORDS

-- env_set_trapframe(id, va): the record is read in the caller's space. The caller's EAX is the answer, also where the
-- registers that are set are its own.
abbrev pub env_set_trapframe_by : KernelState → ℕ → ℕ → ℕ → Result (List ℕ) PageFault → Did
env_set_trapframe_by s n target va (Ok bytes) =
    answered (with_registers (with_bytes_reached s n va record_size) target (from_record (words_of_bytes bytes))) n 0
env_set_trapframe_by s n target va (Err fault) = killed s n (UserMemCheck fault.va)

abbrev pub env_set_trapframe_of : KernelState → ℕ → Option ℕ → ℕ → Did
env_set_trapframe_of s n None va = refused s n BadEnv
env_set_trapframe_of s n (Some target) va = env_set_trapframe_by s n target va (user_bytes s n va record_size)

-- env_set_pgfault_upcall(id, address)
abbrev pub env_set_pgfault_upcall_of : KernelState → ℕ → Option ℕ → ℕ → Did
env_set_pgfault_upcall_of s n None address = refused s n BadEnv
env_set_pgfault_upcall_of s n (Some target) address = answered (with_upcall s target address) n 0

-- ---- messages

-- the word has come to the target, which may run again, and is answered 0
abbrev pub message_taken : KernelState → ℕ → ℕ → ℕ → ℕ → KernelState
message_taken s n target value perm =
    let woken = with_rendezvous s target (delivered (slot_at s target).rendezvous (slot_at s n).id value perm) in
    with_slot_at woken target (with_answer (record (slot_at woken target) { status = Runnable }) 0)

-- what is to pass beside the word
pub data Passing : Type 0 where
  nothing : Passing
  -- a page by this entry
  a_page : Entry → Passing
  -- a page that may not pass
  invalid : Passing

abbrev pub passing_by : ℕ → Option Entry → Passing
passing_by destination None = invalid
passing_by destination (Some entry) = if nat_lt destination UTOP then a_page entry else nothing

-- A page passes only where both addresses lie below UTOP; the sender's is tested wherever it lies there.
abbrev pub passing_of : KernelState → ℕ → ℕ → ℕ → ℕ → Passing
passing_of s n destination va perm =
    if not (nat_lt va UTOP) then nothing
    else if not (va % PGSIZE == 0) then invalid
    else passing_by destination (shared_entry (entry_at s n va) perm)

abbrev pub sent_with : KernelState → ℕ → ℕ → ℕ → ℕ → Option SpacesState → Did
sent_with s n target value perm None = refused (with_refusal s) n NoMem
sent_with s n target value perm (Some spaces) = answered (message_taken (with_spaces s spaces) n target value perm) n 0

abbrev pub sent : KernelState → ℕ → ℕ → ℕ → Passing → Did
sent s n target value nothing = answered (message_taken s n target value 0) n 0
sent s n target value (a_page entry) =
    sent_with s n target value entry.perm (inserted_at s target (slot_at s target).rendezvous.destination entry)
sent s n target value invalid = refused s n Invalid

-- ipc_try_send(id, value, va, perm): any live environment may be named. Where something is refused, the target waits on.
abbrev pub ipc_try_send_of : KernelState → ℕ → Option ℕ → ℕ → ℕ → ℕ → Did
ipc_try_send_of s n None value va perm = refused s n BadEnv
ipc_try_send_of s n (Some target) value va perm =
    if not (accepts (slot_at s target).rendezvous (slot_at s n).id) then refused s n IpcNotRecv
    else sent s n target value (passing_of s n (slot_at s target).rendezvous.destination va perm)

-- ipc_recv(va, sender): the caller waits; EAX is set by the sender
abbrev pub ipc_recv : KernelState → ℕ → ℕ → ℕ → Did
ipc_recv s n va sender =
    if nat_lt va UTOP && not (va % PGSIZE == 0) then refused s n Invalid
    else record {
      state = with_status (with_rendezvous s n (wanting (slot_at s n).rendezvous va sender)) n NotRunnable;
      called = Blocked;
      written = [];
    }

-- ---- the table

-- The number names the call. yield() makes the caller wait for its next turn.
unfoldable pub call_of : KernelState → ℕ → Regs → Did
call_of s n regs =
    let e = s.environments in
    if regs.eax == SYS_CPUTS then cputs s n regs.edx regs.ecx
    else if regs.eax == SYS_CGETC then cgetc_from s n s.input
    else if regs.eax == SYS_GETENVID then answered s n (slot_at s n).id
    else if regs.eax == SYS_ENV_DESTROY then env_destroy_of s n (found e regs.edx n true)
    else if regs.eax == SYS_PAGE_ALLOC then page_alloc_of s n (found e regs.edx n true) regs.ecx regs.ebx
    else if regs.eax == SYS_PAGE_MAP then page_map_of s n (found e regs.edx n true) regs.ecx (found e regs.ebx n true) regs.edi regs.esi
    else if regs.eax == SYS_PAGE_UNMAP then page_unmap_of s n (found e regs.edx n true) regs.ecx
    else if regs.eax == SYS_EXOFORK then exofork s n
    else if regs.eax == SYS_ENV_SET_STATUS then env_set_status_of s n (found e regs.edx n true) (status_named regs.ecx)
    else if regs.eax == SYS_ENV_SET_TRAPFRAME then env_set_trapframe_of s n (found e regs.edx n true) regs.ecx
    else if regs.eax == SYS_ENV_SET_PGFAULT_UPCALL then env_set_pgfault_upcall_of s n (found e regs.edx n true) regs.ecx
    else if regs.eax == SYS_YIELD then answered (with_status s n Runnable) n 0
    else if regs.eax == SYS_IPC_TRY_SEND then ipc_try_send_of s n (found e regs.edx n false) regs.ecx regs.ebx regs.edi
    else if regs.eax == SYS_IPC_RECV then ipc_recv s n regs.edx regs.ecx
    else refused s n Invalid

-- the call that the caller's registers name
abbrev pub system_call : KernelState → ℕ → Did
system_call s n = call_of s n (slot_at s n).registers

-- the calls that print, with these numbers in EAX, so that the host may fail in them
abbrev pub may_print : ℕ → Bool
may_print number = (number == SYS_CPUTS) || (number == SYS_ENV_SET_TRAPFRAME)
