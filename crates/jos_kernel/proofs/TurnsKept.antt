-- What a step of an environment leaves as it was: which slot had the last turn, and how many were begun.
use Rattle.std.proofs.Common.{ℕ, ◌==◌, ◌%◌, ◌&&◌, Bool, true, false, not, List, [], ◌∷◌, Option, None, Some, Result, Ok, Err, IfSome, refl}
use Rattle.std.proofs.Common.{if◌then◌else◌}
use Rattle.std.specs.Prelude.{nat_lt}
use Rattle.jos_base.specs.declared.memory.PageFault.{PageFault}
use Rattle.jos_base.specs.declared.memory.Access.TheVariants.{Write}
use Rattle.jos_base.specs.declared.registers.Regs.{Regs}
use Rattle.jos_base.specs.declared.environment.Status.{Status}
use Rattle.jos_base.specs.declared.errno.Errno.{Errno}
use Rattle.jos_base.specs.declared.errno.Errno.TheVariants.{BadEnv, Invalid, IpcNotRecv}
use Rattle.jos_base.specs.declared.line.Line.{Line}
use Rattle.jos_base.specs.declared.line.Line.TheVariants as line
use Rattle.jos_base.specs.declared.numbers.TheConstants.{CPUTS_MAX, PGSIZE, UTOP, T_BRKPT, T_PGFLT, T_SYSCALL, SYS_CPUTS, SYS_CGETC}
use Rattle.jos_base.specs.declared.numbers.TheConstants.{SYS_GETENVID, SYS_ENV_DESTROY, SYS_PAGE_ALLOC, SYS_PAGE_MAP}
use Rattle.jos_base.specs.declared.numbers.TheConstants.{SYS_PAGE_UNMAP, SYS_EXOFORK, SYS_ENV_SET_STATUS, SYS_ENV_SET_TRAPFRAME}
use Rattle.jos_base.specs.declared.numbers.TheConstants.{SYS_ENV_SET_PGFAULT_UPCALL, SYS_YIELD, SYS_IPC_TRY_SEND, SYS_IPC_RECV}
use Rattle.jos_base.specs.Words.{page_number}
use Rattle.jos_base.specs.Reach.{Entry, FrameOffset}
use Rattle.jos_base.specs.Environments.{allotted, found}
use Rattle.jos_base.specs.SpacesState.{SpacesState, created, allocated}
use Rattle.jos_base.specs.UserMemory.{reach_in}
use Rattle.jos_base.specs.Messages.{accepts}
use Rattle.jos_base.specs.TrapFrames.{upcall_place}
use Rattle.jos_base.specs.KernelState.{KernelState, slot_at}
use Rattle.jos_base.specs.SystemCalls.{Did, answered, refused, killed, user_bytes, cputs_of, cputs, cgetc_from, env_destroy_of}
use Rattle.jos_base.specs.SystemCalls.{environment_made, exofork_of, exofork, status_named, env_set_status_of}
use Rattle.jos_base.specs.SystemCalls.{is_page_address, is_page_perm, shared_entry, entry_at, inserted_at, answered_with, second_of}
use Rattle.jos_base.specs.SystemCalls.{page_alloc_of, page_map_by, page_map_of, page_unmap_of, record_size, env_set_trapframe_by}
use Rattle.jos_base.specs.SystemCalls.{env_set_trapframe_of, env_set_pgfault_upcall_of, Passing, nothing, a_page, invalid, passing_of}
use Rattle.jos_base.specs.SystemCalls.{sent_with, sent, ipc_try_send_of, ipc_recv, call_of, Trapped, trapped_by, handler_entered}
use Rattle.jos_base.specs.SystemCalls.{handled_at, handled, delivered_to, deliver_fault}
use Rattle.jos_cpu.specs.declared.events.Event.{Event}
use Rattle.jos_cpu.specs.declared.events.Event.TheVariants.{Next, Soft, Raised}
use Rattle.jos_kernel.specs.Steps.{EnvStep, trapped, after_event}
use Rattle.jos_kernel.proofs.FirstStates.{SameTurns, Made, made_same}

abbrev Same : KernelState → Did → Type 0
Same s did = SameTurns s did.state

by_test : (s : KernelState) (c : Bool) (a b : Did) → Same s a → Same s b → Same s (if c then a else b)
by_test s true a b h k = h
by_test s false a b h k = k

module _ (s : KernelState) (n : ℕ) where
  answered_same : (answer : ℕ) → Same s (answered s n answer)
  answered_same answer = record { last = refl; turns = refl }

  refused_same : (error : Errno) → Same s (refused s n error)
  refused_same error = record { last = refl; turns = refl }

  killed_same : (l : Line) → Same s (killed s n l)
  unfolding killed
  killed_same l = record { last = refl; turns = refl }

  cputs_same_of : (va len : ℕ) (bytes : Result (List ℕ) PageFault) → Same s (cputs_of s n va len bytes)
  cputs_same_of va len (Ok bytes) = record { last = refl; turns = refl }
  cputs_same_of va len (Err fault) = killed_same (line.UserMemCheck fault.va)

  cputs_same : (va len : ℕ) → Same s (cputs s n va len)
  cputs_same va len = by_test s (nat_lt CPUTS_MAX len) _ _ (refused_same Invalid) (cputs_same_of va len (user_bytes s n va len))

  cgetc_same : (input : List ℕ) → Same s (cgetc_from s n input)
  cgetc_same [] = record { last = refl; turns = refl }
  cgetc_same (byte ∷ rest) = record { last = refl; turns = refl }

  destroy_same : (target : Option ℕ) → Same s (env_destroy_of s n target)
  destroy_same None = record { last = refl; turns = refl }
  destroy_same (Some target) = by_test s (target == n) _ _ (record { last = refl; turns = refl }) (record { last = refl; turns = refl })

  exofork_same_of : (made : Result (ℕ × KernelState) Errno) → Made s made → Same s (exofork_of s n made)
  exofork_same_of (Err error) h = record { last = refl; turns = refl }
  exofork_same_of (Ok made) h = record { last = h.last; turns = h.turns }

  exofork_same : Same s (exofork s n)
  unfolding environment_made
  exofork_same = exofork_same_of (environment_made s (slot_at s n).id) (made_same s (allotted s.environments (slot_at s n).id) (created s.spaces))

  status_same : (target : Option ℕ) (status : Option Status) → Same s (env_set_status_of s n target status)
  status_same None status = record { last = refl; turns = refl }
  status_same (Some target) None = record { last = refl; turns = refl }
  status_same (Some target) (Some status) = record { last = refl; turns = refl }

  with_same : (spaces : Option SpacesState) → Same s (answered_with s n spaces)
  with_same None = record { last = refl; turns = refl }
  with_same (Some spaces) = record { last = refl; turns = refl }

  page_alloc_same : (target : Option ℕ) (va perm : ℕ) → Same s (page_alloc_of s n target va perm)
  page_alloc_same None va perm = refused_same BadEnv
  page_alloc_same (Some target) va perm =
      by_test s (not (is_page_address va)) _ _ (refused_same Invalid)
      (by_test s (not (is_page_perm perm)) _ _ (refused_same Invalid)
      (with_same (second_of (allocated s.spaces (slot_at s target).directory (page_number va) perm))))

  page_map_same_by : (target va : ℕ) (entry : Option Entry) → Same s (page_map_by s n target va entry)
  page_map_same_by target va None = refused_same Invalid
  page_map_same_by target va (Some entry) = with_same (inserted_at s target va entry)

  page_map_same : (source : Option ℕ) (source_va : ℕ) (target : Option ℕ) (target_va perm : ℕ) →
      Same s (page_map_of s n source source_va target target_va perm)
  page_map_same None source_va target target_va perm = refused_same BadEnv
  page_map_same (Some source) source_va None target_va perm = refused_same BadEnv
  page_map_same (Some source) source_va (Some target) target_va perm =
      by_test s (not (is_page_address source_va)) _ _ (refused_same Invalid)
      (by_test s (not (is_page_address target_va)) _ _ (refused_same Invalid)
      (page_map_same_by target target_va (shared_entry (entry_at s source source_va) perm)))

  page_unmap_same : (target : Option ℕ) (va : ℕ) → Same s (page_unmap_of s n target va)
  page_unmap_same None va = refused_same BadEnv
  page_unmap_same (Some target) va =
      by_test s (not (is_page_address va)) _ _ (refused_same Invalid) (record { last = refl; turns = refl })

  trapframe_same_by : (target va : ℕ) (bytes : Result (List ℕ) PageFault) → Same s (env_set_trapframe_by s n target va bytes)
  trapframe_same_by target va (Ok bytes) = record { last = refl; turns = refl }
  trapframe_same_by target va (Err fault) = killed_same (line.UserMemCheck fault.va)

  trapframe_same : (target : Option ℕ) (va : ℕ) → Same s (env_set_trapframe_of s n target va)
  trapframe_same None va = refused_same BadEnv
  trapframe_same (Some target) va = trapframe_same_by target va (user_bytes s n va record_size)

  upcall_same : (target : Option ℕ) (address : ℕ) → Same s (env_set_pgfault_upcall_of s n target address)
  upcall_same None address = refused_same BadEnv
  upcall_same (Some target) address = record { last = refl; turns = refl }

  sent_same_with : (target value perm : ℕ) (spaces : Option SpacesState) → Same s (sent_with s n target value perm spaces)
  sent_same_with target value perm None = record { last = refl; turns = refl }
  sent_same_with target value perm (Some spaces) = record { last = refl; turns = refl }

  sent_same : (target value : ℕ) (passing : Passing) → Same s (sent s n target value passing)
  sent_same target value nothing = record { last = refl; turns = refl }
  sent_same target value (a_page entry) =
      sent_same_with target value entry.perm (inserted_at s target (slot_at s target).rendezvous.destination entry)
  sent_same target value invalid = refused_same Invalid

  send_same : (target : Option ℕ) (value va perm : ℕ) → Same s (ipc_try_send_of s n target value va perm)
  send_same None value va perm = refused_same BadEnv
  send_same (Some target) value va perm =
      by_test s (not (accepts (slot_at s target).rendezvous (slot_at s n).id)) _ _ (refused_same IpcNotRecv)
      (sent_same target value (passing_of s n (slot_at s target).rendezvous.destination va perm))

  recv_same : (va sender : ℕ) → Same s (ipc_recv s n va sender)
  recv_same va sender =
      by_test s (nat_lt va UTOP && not (va % PGSIZE == 0)) _ _ (refused_same Invalid) (record { last = refl; turns = refl })

  call_same : (regs : Regs) → Same s (call_of s n regs)
  unfolding call_of
  call_same regs =
      let named = found s.environments regs.edx n true in
      by_test s (regs.eax == SYS_CPUTS) _ _ (cputs_same regs.edx regs.ecx)
      (by_test s (regs.eax == SYS_CGETC) _ _ (cgetc_same s.input)
      (by_test s (regs.eax == SYS_GETENVID) _ _ (answered_same (slot_at s n).id)
      (by_test s (regs.eax == SYS_ENV_DESTROY) _ _ (destroy_same named)
      (by_test s (regs.eax == SYS_PAGE_ALLOC) _ _ (page_alloc_same named regs.ecx regs.ebx)
      (by_test s (regs.eax == SYS_PAGE_MAP) _ _ (page_map_same named regs.ecx (found s.environments regs.ebx n true) regs.edi regs.esi)
      (by_test s (regs.eax == SYS_PAGE_UNMAP) _ _ (page_unmap_same named regs.ecx)
      (by_test s (regs.eax == SYS_EXOFORK) _ _ exofork_same
      (by_test s (regs.eax == SYS_ENV_SET_STATUS) _ _ (status_same named (status_named regs.ecx))
      (by_test s (regs.eax == SYS_ENV_SET_TRAPFRAME) _ _ (trapframe_same named regs.ecx)
      (by_test s (regs.eax == SYS_ENV_SET_PGFAULT_UPCALL) _ _ (upcall_same named regs.ecx)
      (by_test s (regs.eax == SYS_YIELD) _ _ (record { last = refl; turns = refl })
      (by_test s (regs.eax == SYS_IPC_TRY_SEND) _ _ (send_same (found s.environments regs.edx n false) regs.ecx regs.ebx regs.edi)
      (by_test s (regs.eax == SYS_IPC_RECV) _ _ (recv_same regs.edx regs.ecx) (refused_same Invalid))))))))))))))

  entered_same : (fault : PageFault) (place : ℕ) (reached : Result FrameOffset PageFault) →
      IfSome (handler_entered s n fault place reached) (SameTurns s)
  entered_same fault place (Ok at) = record { last = refl; turns = refl }
  entered_same fault place (Err refusal) = tt

  handled_same : (fault : PageFault) → IfSome (handled s n fault) (SameTurns s)
  unfolding handled
  handled_same fault = by_upcall ((slot_at s n).upcall == 0) (upcall_place (slot_at s n).registers.esp)
    where
      by_upcall : (c : Bool) (place : Option ℕ) → IfSome (if c then None else handled_at s n fault place) (SameTurns s)
      by_upcall true place = tt
      by_upcall false None = tt
      by_upcall false (Some place) = entered_same fault place (reach_in s.spaces (slot_at s n).directory place Write)

  delivered_same : (fault : PageFault) (after : Option KernelState) → IfSome after (SameTurns s) → SameTurns s (delivered_to s n fault after).state
  delivered_same fault (Some after) h = h
  delivered_same fault None h = killed_same (line.UserFault fault.va (slot_at s n).registers.eip)

  trap_same : (trap error va ip : ℕ) → SameTurns s (trapped s n trap error va ip).state
  trap_same trap error va ip = by_number (trap == T_PGFLT)
    where
      by_number : (c : Bool) →
          SameTurns s (if◌then◌else◌ {A = Trapped} c (deliver_fault s n (record { va = va; error = error })) (trapped_by (killed s n (line.Trap trap error ip)))).state
      by_number true = delivered_same (record { va = va; error = error }) (handled s n (record { va = va; error = error })) (handled_same (record { va = va; error = error }))
      by_number false = killed_same (line.Trap trap error ip)

  step_by : (c : Bool) (a b : EnvStep) → SameTurns s a.state → SameTurns s b.state → SameTurns s (if◌then◌else◌ {A = EnvStep} c a b).state
  step_by true a b h k = h
  step_by false a b h k = k

  pub event_same : (event : Event) → SameTurns s (after_event s n event).state
  event_same Next = record { last = refl; turns = refl }
  event_same (Soft vector) = step_by (vector == T_SYSCALL) _ _ (call_same (slot_at s n).registers) (trap_same T_BRKPT 0 0 (slot_at s n).registers.eip)
  event_same (Raised trap error va) = trap_same trap error va (slot_at s n).registers.eip
