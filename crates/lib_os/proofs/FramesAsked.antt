-- How many frames of the list a call of the library takes, by what is called: none, but where it asks for a page, a table or a space.
use Rattle.std.proofs.Common.{◌≡◌, ◌∙◌, ◌==◌, ◌%◌, ◌&&◌, ◌+◌, ◌≤◌, ℕ, Bool, true, false, not, List, [], ◌∷◌, Option, Some, None}
use Rattle.std.proofs.Common.{Result, Ok, Err, IfSome, arith, refl, ap, subst, if◌then◌else◌}
use Rattle.std.specs.Prelude.{length, nat_lt}
use Rattle.std.specs.Int.{w32, to_le_bytes}
use Rattle.std.proofs.lemmas.Bool.Decides.{nat_tests}
use Rattle.jos_base.specs.declared.environment.Status.{Status}
use Rattle.jos_base.specs.declared.line.Line.{Line}
use Rattle.jos_base.specs.declared.line.Line.TheVariants.{UserFault, UserMemCheck}
use Rattle.jos_base.specs.declared.memory.Access.{Access}
use Rattle.jos_base.specs.declared.memory.Access.TheVariants.{Read, Write}
use Rattle.jos_base.specs.declared.memory.PageFault.{PageFault}
use Rattle.jos_base.specs.declared.numbers.TheConstants.{CPUTS_MAX, PGSIZE, UTOP, SYS_CPUTS, SYS_CGETC, SYS_GETENVID, SYS_ENV_DESTROY}
use Rattle.jos_base.specs.declared.numbers.TheConstants.{SYS_PAGE_ALLOC, SYS_PAGE_MAP, SYS_PAGE_UNMAP, SYS_EXOFORK, SYS_ENV_SET_STATUS}
use Rattle.jos_base.specs.declared.numbers.TheConstants.{SYS_ENV_SET_TRAPFRAME, SYS_ENV_SET_PGFAULT_UPCALL, SYS_YIELD}
use Rattle.jos_base.specs.declared.numbers.TheConstants.{SYS_IPC_TRY_SEND, SYS_IPC_RECV}
use Rattle.jos_base.specs.declared.registers.Regs.{Regs}
use Rattle.jos_base.specs.Environments.{Slot, is_live, found, Environments, allotted}
use Rattle.jos_base.specs.KernelState.{KernelState, slot_at, with_registers}
use Rattle.jos_base.specs.Messages.{accepts}
use Rattle.jos_base.specs.Reach.{Entry, FrameOffset}
use Rattle.jos_base.specs.SpacesState.{SpacesState, allocated, created}
use Rattle.jos_base.specs.SystemCalls.{Did, killed, user_bytes, cputs_of, cputs, cgetc_from, env_destroy_of, status_named, env_set_status_of}
use Rattle.jos_base.specs.SystemCalls.{is_page_address, is_page_perm, shared_entry, entry_at, inserted_at, answered_with, second_of}
use Rattle.jos_base.specs.SystemCalls.{page_alloc_of, page_map_by, page_map_of, page_unmap_of, record_size, env_set_trapframe_by, env_set_trapframe_of}
use Rattle.jos_base.specs.SystemCalls.{env_set_pgfault_upcall_of, Passing, nothing, a_page, invalid, passing_of, sent_with, sent, ipc_try_send_of}
use Rattle.jos_base.specs.SystemCalls.{ipc_recv, call_of, exofork, exofork_of, environment_made, made_of, handler_entered, handled_at, handled}
use Rattle.jos_base.specs.TrapFrames.{frame_size, upcall_place}
use Rattle.jos_base.specs.UserMemory.{reach_in}
use Rattle.jos_base.specs.Words.{page_number}
use Rattle.lib_os.specs.LibrarySteps.{TakesAtMost, frames_asked}
use Rattle.lib_os.specs.UserCalls.{CallStep, giving, accessing, by_access, faulting, user_byte, user_word, with_user_byte, with_user_word}
use Rattle.lib_os.specs.UserCalls.{got, with_bytes_put, load, load_byte, store, store_byte, exchange, restored, restore_frame, asking, sets_own, system}
use Rattle.lib_os.proofs.FreeFrames.{unmapped_more, destroyed_more, inserted_one, allocated_two, created_one, touched_free, all_touched_free, stored_free}
use Rattle.lib_os.proofs.Slots.{slot_put}

module _ (s : KernelState) (n : ℕ) where
  -- what is done takes so many, at most
  abbrev Takes : ℕ → Did → Type 0
  Takes k did = TakesAtMost k s.spaces did.state.spaces

  by_case : (k : ℕ) (test : Bool) (a b : Did) → (test ≡ true → Takes k a) → (test ≡ false → Takes k b) → Takes k (if test then a else b)
  by_case k true a b first second = first refl
  by_case k false a b first second = second refl

  -- none, and so no more than any
  none : (k : ℕ) → TakesAtMost k s.spaces s.spaces
  none k = omega arith

  same_free : (k : ℕ) (free : List ℕ) → free ≡ s.spaces.free → length s.spaces.free ≤ length free + k
  same_free k free same = let long = ap (λ (l : List ℕ). length l) same in omega (arith, long)

  gone_takes : (k target : ℕ) (line : Line) → Takes k (killed s target line)
  unfolding killed
  gone_takes k target line = let more = destroyed_more s.spaces (slot_at s target).directory in omega (arith, more)

  -- ---- the calls

  cputs_takes_of : (k va len : ℕ) (bytes : Result (List ℕ) PageFault) → Takes k (cputs_of s n va len bytes)
  cputs_takes_of k va len (Ok bytes) = same_free k _ (all_touched_free s.spaces (slot_at s n).directory va len)
  cputs_takes_of k va len (Err fault) = gone_takes k n (UserMemCheck fault.va)

  cputs_takes : (k va len : ℕ) → Takes k (cputs s n va len)
  cputs_takes k va len =
      by_case k (nat_lt CPUTS_MAX len) _ _ (λ e. none k) (λ e. cputs_takes_of k va len (user_bytes s n va len))

  cgetc_takes : (k : ℕ) (input : List ℕ) → Takes k (cgetc_from s n input)
  cgetc_takes k [] = none k
  cgetc_takes k (byte ∷ rest) = none k

  destroy_takes : (k : ℕ) (target : Option ℕ) → Takes k (env_destroy_of s n target)
  destroy_takes k None = none k
  destroy_takes k (Some target) =
      let more = destroyed_more s.spaces (slot_at s target).directory in
      by_case k (target == n) _ _
      (λ e. let own = destroyed_more s.spaces (slot_at s n).directory in omega (arith, own)) (λ e. omega (arith, more))

  status_takes : (k : ℕ) (target : Option ℕ) (status : Option Status) → Takes k (env_set_status_of s n target status)
  status_takes k None status = none k
  status_takes k (Some target) None = none k
  status_takes k (Some target) (Some status) = none k

  with_takes : (k : ℕ) (spaces : Option SpacesState) → IfSome spaces (TakesAtMost k s.spaces) → Takes k (answered_with s n spaces)
  with_takes k None takes = none k
  with_takes k (Some spaces) takes = takes

  page_alloc_takes : (target : Option ℕ) (va perm : ℕ) → Takes 2 (page_alloc_of s n target va perm)
  page_alloc_takes None va perm = none 2
  page_alloc_takes (Some target) va perm =
      by_case 2 (not (is_page_address va)) _ _ (λ e. none 2)
      (λ e. by_case 2 (not (is_page_perm perm)) _ _ (λ e. none 2)
      (λ e. with_takes 2 (second_of (allocated s.spaces (slot_at s target).directory (page_number va) perm))
      (allocated_two s.spaces (slot_at s target).directory (page_number va) perm)))

  page_map_takes_by : (target va : ℕ) (entry : Option Entry) → Takes 1 (page_map_by s n target va entry)
  page_map_takes_by target va None = none 1
  page_map_takes_by target va (Some entry) =
      with_takes 1 (inserted_at s target va entry) (inserted_one s.spaces (slot_at s target).directory (page_number va) entry)

  page_map_takes : (source : Option ℕ) (source_va : ℕ) (target : Option ℕ) (target_va perm : ℕ) →
      Takes 1 (page_map_of s n source source_va target target_va perm)
  page_map_takes None source_va target target_va perm = none 1
  page_map_takes (Some source) source_va None target_va perm = none 1
  page_map_takes (Some source) source_va (Some target) target_va perm =
      by_case 1 (not (is_page_address source_va)) _ _ (λ e. none 1)
      (λ e. by_case 1 (not (is_page_address target_va)) _ _ (λ e. none 1)
      (λ e. page_map_takes_by target target_va (shared_entry (entry_at s source source_va) perm)))

  page_unmap_takes : (k : ℕ) (target : Option ℕ) (va : ℕ) → Takes k (page_unmap_of s n target va)
  page_unmap_takes k None va = none k
  page_unmap_takes k (Some target) va =
      by_case k (not (is_page_address va)) _ _ (λ e. none k)
      (λ e. let more = unmapped_more s.spaces (slot_at s target).directory (page_number va) in omega (arith, more))

  trapframe_takes_by : (k target va : ℕ) (bytes : Result (List ℕ) PageFault) → Takes k (env_set_trapframe_by s n target va bytes)
  trapframe_takes_by k target va (Ok bytes) = same_free k _ (all_touched_free s.spaces (slot_at s n).directory va record_size)
  trapframe_takes_by k target va (Err fault) = gone_takes k n (UserMemCheck fault.va)

  trapframe_takes : (k : ℕ) (target : Option ℕ) (va : ℕ) → Takes k (env_set_trapframe_of s n target va)
  trapframe_takes k None va = none k
  trapframe_takes k (Some target) va = trapframe_takes_by k target va (user_bytes s n va record_size)

  upcall_takes : (k : ℕ) (target : Option ℕ) (address : ℕ) → Takes k (env_set_pgfault_upcall_of s n target address)
  upcall_takes k None address = none k
  upcall_takes k (Some target) address = none k

  recv_takes : (k va sender : ℕ) → Takes k (ipc_recv s n va sender)
  recv_takes k va sender = by_case k (nat_lt va UTOP && not (va % PGSIZE == 0)) _ _ (λ e. none k) (λ e. none k)

  sent_takes_with : (target value perm : ℕ) (spaces : Option SpacesState) → IfSome spaces (TakesAtMost 1 s.spaces) →
      Takes 1 (sent_with s n target value perm spaces)
  sent_takes_with target value perm None takes = none 1
  sent_takes_with target value perm (Some spaces) takes = takes

  sent_takes : (target value : ℕ) (passing : Passing) → Takes 1 (sent s n target value passing)
  sent_takes target value nothing = none 1
  sent_takes target value (a_page entry) =
      sent_takes_with target value entry.perm (inserted_at s target (slot_at s target).rendezvous.destination entry)
      (inserted_one s.spaces (slot_at s target).directory (page_number (slot_at s target).rendezvous.destination) entry)
  sent_takes target value invalid = none 1

  send_takes : (target : Option ℕ) (value va perm : ℕ) → Takes 1 (ipc_try_send_of s n target value va perm)
  send_takes None value va perm = none 1
  send_takes (Some target) value va perm =
      by_case 1 (not (accepts (slot_at s target).rendezvous (slot_at s n).id)) _ _ (λ e. none 1)
      (λ e. sent_takes target value (passing_of s n (slot_at s target).rendezvous.destination va perm))

  exofork_takes : Takes 1 (exofork s n)
  unfolding environment_made
  exofork_takes = by_slot (allotted s.environments (slot_at s n).id)
    where
      by_spaces : (e : ℕ × Environments) (made : Option (ℕ × SpacesState)) → IfSome made (λ f. TakesAtMost 1 s.spaces f.1) →
          Takes 1 (exofork_of s n (made_of s (Some e) made))
      by_spaces e None takes = none 1
      by_spaces e (Some f) takes = takes

      by_slot : (slot : Option (ℕ × Environments)) → Takes 1 (exofork_of s n (made_of s slot (created s.spaces)))
      by_slot None = none 1
      by_slot (Some e) = by_spaces e (created s.spaces) (created_one s.spaces)

  call_takes : (regs : Regs) → Takes (frames_asked regs.eax) (call_of s n regs)
  unfolding call_of
  call_takes regs =
      let named = found s.environments regs.edx n true in
      let k = frames_asked regs.eax in
      by_case k (regs.eax == SYS_CPUTS) _ _ (λ e. cputs_takes k regs.edx regs.ecx)
      (λ e. by_case k (regs.eax == SYS_CGETC) _ _ (λ e. cgetc_takes k s.input)
      (λ e. by_case k (regs.eax == SYS_GETENVID) _ _ (λ e. none k)
      (λ e. by_case k (regs.eax == SYS_ENV_DESTROY) _ _ (λ e. destroy_takes k named)
      (λ e. by_case k (regs.eax == SYS_PAGE_ALLOC) _ _
      (λ e. asked regs SYS_PAGE_ALLOC e _ (page_alloc_takes named regs.ecx regs.ebx))
      (λ e. by_case k (regs.eax == SYS_PAGE_MAP) _ _
      (λ e. asked regs SYS_PAGE_MAP e _ (page_map_takes named regs.ecx (found s.environments regs.ebx n true) regs.edi regs.esi))
      (λ e. by_case k (regs.eax == SYS_PAGE_UNMAP) _ _ (λ e. page_unmap_takes k named regs.ecx)
      (λ e. by_case k (regs.eax == SYS_EXOFORK) _ _ (λ e. asked regs SYS_EXOFORK e _ exofork_takes)
      (λ e. by_case k (regs.eax == SYS_ENV_SET_STATUS) _ _ (λ e. status_takes k named (status_named regs.ecx))
      (λ e. by_case k (regs.eax == SYS_ENV_SET_TRAPFRAME) _ _ (λ e. trapframe_takes k named regs.ecx)
      (λ e. by_case k (regs.eax == SYS_ENV_SET_PGFAULT_UPCALL) _ _ (λ e. upcall_takes k named regs.ecx)
      (λ e. by_case k (regs.eax == SYS_YIELD) _ _ (λ e. none k)
      (λ e. by_case k (regs.eax == SYS_IPC_TRY_SEND) _ _
      (λ e. asked regs SYS_IPC_TRY_SEND e _ (send_takes (found s.environments regs.edx n false) regs.ecx regs.ebx regs.edi))
      (λ e. by_case k (regs.eax == SYS_IPC_RECV) _ _ (λ e. recv_takes k regs.edx regs.ecx) (λ e. none k))))))))))))))
    where
      asked : (regs : Regs) (number : ℕ) → (regs.eax == number) ≡ true → (free : List ℕ) →
          length s.spaces.free ≤ length free + frames_asked number → length s.spaces.free ≤ length free + frames_asked regs.eax
      asked regs number e free takes =
          let same : number ≡ regs.eax = grind (arith, nat_tests) in
          subst (λ (m : ℕ). length s.spaces.free ≤ length free + frames_asked m) same takes

  -- ---- accesses

  entered_takes : (k : ℕ) (fault : PageFault) (place : ℕ) (reached : Result FrameOffset PageFault) →
      IfSome (handler_entered s n fault place reached) (λ t. TakesAtMost k s.spaces t.spaces)
  entered_takes k fault place (Err refusal) = tt
  entered_takes k fault place (Ok at) = same_free k _ (touched_free s.spaces (slot_at s n).directory place Write)

  handled_takes : (k : ℕ) (fault : PageFault) → IfSome (handled s n fault) (λ t. TakesAtMost k s.spaces t.spaces)
  unfolding handled
  handled_takes k fault = by_upcall ((slot_at s n).upcall == 0) (upcall_place (slot_at s n).registers.esp)
    where
      by_upcall : (test : Bool) (place : Option ℕ) → IfSome (if test then None else handled_at s n fault place) (λ t. TakesAtMost k s.spaces t.spaces)
      by_upcall true place = tt
      by_upcall false None = tt
      by_upcall false (Some place) = entered_takes k fault place (reach_in s.spaces (slot_at s n).directory place Write)

  fault_takes : (k : ℕ) (X : Type 0) (fault : PageFault) (after : Option KernelState) → IfSome after (λ t. TakesAtMost k s.spaces t.spaces) →
      TakesAtMost k s.spaces (faulting {X = X} s n fault after).state.spaces
  fault_takes k X fault (Some after) h = h
  fault_takes k X fault None h = gone_takes k n (UserFault fault.va (slot_at s n).registers.eip)

  -- an access, by what is done in the state in which it has set its bits
  access_takes : (k : ℕ) {X : Type 0} (va : ℕ) (a : Access) (done : KernelState → CallStep X) →
      ((t : KernelState) → t.spaces.free ≡ s.spaces.free → (done t).state.spaces.free ≡ s.spaces.free) →
      TakesAtMost k s.spaces (by_access s n va a done).state.spaces
  access_takes k {X = X} va a done keeps = by_reach (reach_in s.spaces (slot_at s n).directory va a)
    where
      by_reach : (reached : Result FrameOffset PageFault) → TakesAtMost k s.spaces (accessing s n va a done reached).state.spaces
      by_reach (Ok location) = same_free k _ (keeps _ (touched_free s.spaces (slot_at s n).directory va a))
      by_reach (Err fault) = fault_takes k _ fault (handled s n fault) (handled_takes k fault)

  put_free : (t : KernelState) (va : ℕ) (bytes : List ℕ) → t.spaces.free ≡ s.spaces.free → (with_bytes_put t n va bytes).spaces.free ≡ s.spaces.free
  put_free t va [] h = h
  put_free t va (byte ∷ rest) h = put_free (with_user_byte t n va byte) (va + 1) rest (stored_free t.spaces (slot_at t n).directory va byte ∙ h)

  pub load_takes : (k va : ℕ) → TakesAtMost k s.spaces (load s n va).state.spaces
  unfolding load
  load_takes k va = access_takes k va Read (λ after. giving after (user_word after n va)) (λ t h. h)

  pub load_byte_takes : (k va : ℕ) → TakesAtMost k s.spaces (load_byte s n va).state.spaces
  unfolding load_byte
  load_byte_takes k va = access_takes k va Read (λ after. giving after (user_byte after n va)) (λ t h. h)

  pub store_takes : (k va word : ℕ) → TakesAtMost k s.spaces (store s n va word).state.spaces
  unfolding store
  store_takes k va word =
      access_takes k va Write (λ after. giving (with_user_word after n va word) tt) (λ t h. put_free t va (to_le_bytes w32 word) h)

  pub store_byte_takes : (k va byte : ℕ) → TakesAtMost k s.spaces (store_byte s n va byte).state.spaces
  unfolding store_byte
  store_byte_takes k va byte =
      access_takes k va Write (λ after. giving (with_user_byte after n va byte) tt) (λ t h. put_free t va (byte ∷ []) h)

  pub exchange_takes : (k va word : ℕ) → TakesAtMost k s.spaces (exchange s n va word).state.spaces
  unfolding exchange
  exchange_takes k va word =
      access_takes k va Write (λ after. record { state = with_user_word after n va word; gives = got (user_word after n va); written = [] })
      (λ t h. put_free t va (to_le_bytes w32 word) h)

  pub restore_takes : (k : ℕ) → TakesAtMost k s.spaces (restore_frame s n).state.spaces
  unfolding restore_frame
  restore_takes k = by_bytes (user_bytes s n (slot_at s n).registers.esp frame_size)
    where
      by_bytes : (r : Result (List ℕ) PageFault) → TakesAtMost k s.spaces (restored s n r).state.spaces
      by_bytes (Ok bytes) = same_free k _ (all_touched_free s.spaces (slot_at s n).directory (slot_at s n).registers.esp frame_size)
      by_bytes (Err fault) = fault_takes k _ fault (handled s n fault) (handled_takes k fault)

-- ---- by the call

pub system_takes : (s : KernelState) (n number : ℕ) (args : List ℕ) → TakesAtMost (frames_asked number) s.spaces (system s n number args).state.spaces
unfolding system
system_takes s n number args =
    let q : Regs = asking (slot_at s n).registers number args in
    let k : KernelState = with_registers s n q in
    let same : (slot_at k n).registers.eax ≡ number = ap (λ (x : Slot). x.registers.eax) (slot_put s n (record (slot_at s n) { registers = q })) in
    let done : KernelState = (call_of k n (slot_at k n).registers).state in
    by_test done (is_live (slot_at done n) && not (sets_own s n number args))
    (subst (λ (m : ℕ). TakesAtMost (frames_asked m) s.spaces done.spaces) same (call_takes k n (slot_at k n).registers))
  where
    by_test : (t : KernelState) (test : Bool) → TakesAtMost (frames_asked number) s.spaces t.spaces →
        TakesAtMost (frames_asked number) s.spaces (if test then with_registers t n (slot_at s n).registers else t).spaces
    by_test t true h = h
    by_test t false h = h
