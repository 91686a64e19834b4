-- Each frame that is handed out goes on having a use behind every system call, a page fault and an access of an environment.
use Rattle.std.proofs.Common.{◌≡◌, ◌∙◌, ◌+◌, ◌%◌, ◌==◌, ◌&&◌, ◌<◌, ℕ, not, Bool, true, false, List, [], ◌∷◌, refl, sym, ap}
use Rattle.std.proofs.Common.{subst, arith}
use Rattle.std.specs.Prelude.{nat_lt, Option, Some, None, Result, Ok, Err, if◌then◌else◌}
use Rattle.std.specs.Int.{w32, to_le_bytes}
use Rattle.std.proofs.lemmas.Bool.Decides.{nat_tests}
use Rattle.std.proofs.lemmas.Option.{same_Some}
use Rattle.jos_base.specs.declared.environment.Status.{Status}
use Rattle.jos_base.specs.declared.errno.Errno.{Errno}
use Rattle.jos_base.specs.declared.line.Line.{Line}
use Rattle.jos_base.specs.declared.line.Line.TheVariants.{UserFault, UserMemCheck}
use Rattle.jos_base.specs.declared.memory.Access.{Access}
use Rattle.jos_base.specs.declared.memory.Access.TheVariants.{Read, Write}
use Rattle.jos_base.specs.declared.memory.PageFault.{PageFault}
use Rattle.jos_base.specs.declared.numbers.TheConstants.{CPUTS_MAX, NENV, PGSIZE, UTOP}
use Rattle.jos_base.specs.declared.numbers.TheConstants.{SYS_CPUTS, SYS_CGETC, SYS_GETENVID, SYS_ENV_DESTROY}
use Rattle.jos_base.specs.declared.numbers.TheConstants.{SYS_PAGE_ALLOC, SYS_PAGE_MAP, SYS_PAGE_UNMAP}
use Rattle.jos_base.specs.declared.numbers.TheConstants.{SYS_EXOFORK, SYS_ENV_SET_STATUS, SYS_ENV_SET_TRAPFRAME}
use Rattle.jos_base.specs.declared.numbers.TheConstants.{SYS_ENV_SET_PGFAULT_UPCALL, SYS_YIELD, SYS_IPC_TRY_SEND, SYS_IPC_RECV}
use Rattle.jos_base.specs.declared.registers.Regs.{Regs}
use Rattle.jos_base.specs.Counting.{page_limit}
use Rattle.jos_base.specs.Environments.{Environments, Slot, allotted, found, found_at, is_live, may_change}
use Rattle.jos_base.specs.KernelState.{KernelState, slot_at, with_registers}
use Rattle.jos_base.specs.Messages.{accepts}
use Rattle.jos_base.specs.Reach.{Entry, FrameOffset}
use Rattle.jos_base.specs.SpacesState.{SpacesState, directory, created, allocated, overlaid}
use Rattle.jos_base.specs.SystemCalls.{Did, Passing, a_page, invalid, nothing, killed, handler_entered}
use Rattle.jos_base.specs.SystemCalls.{handled_at, handled, cputs, cputs_of, cgetc_from, env_destroy_of, made_of}
use Rattle.jos_base.specs.SystemCalls.{environment_made, exofork_of}
use Rattle.jos_base.specs.SystemCalls.{exofork, status_named, env_set_status_of, is_page_address, is_page_perm, has_write}
use Rattle.jos_base.specs.SystemCalls.{shared_entry, entry_at}
use Rattle.jos_base.specs.SystemCalls.{inserted_at, answered_with, second_of, page_alloc_of, page_map_by, page_map_of}
use Rattle.jos_base.specs.SystemCalls.{page_unmap_of, record_size}
use Rattle.jos_base.specs.SystemCalls.{env_set_trapframe_by, env_set_trapframe_of, env_set_pgfault_upcall_of, passing_by}
use Rattle.jos_base.specs.SystemCalls.{passing_of, sent_with}
use Rattle.jos_base.specs.SystemCalls.{sent, ipc_try_send_of, ipc_recv, call_of, system_call, user_bytes}
use Rattle.jos_base.specs.TrapFrames.{frame_bytes, upcall_place, frame_size}
use Rattle.jos_base.specs.UserMemory.{reach_in, touched}
use Rattle.jos_base.specs.Words.{page_number}
use Rattle.lib_os.specs.InOrder.{HasOneUse, IsInOrder}
use Rattle.lib_os.specs.Need.{EachHasUse}
use Rattle.lib_os.specs.UserCalls.{CallStep, accessing, asking, exchange, faulting, load, load_byte, restored, restore_frame}
use Rattle.lib_os.specs.UserCalls.{sets_own, store}
use Rattle.lib_os.specs.UserCalls.{store_byte, system, taken_back, user_byte, user_word, giving, got, with_bytes_put}
use Rattle.lib_os.specs.UserCalls.{with_user_byte, with_user_word}
use Rattle.lib_os.proofs.Slots.{slots_alike}
use Rattle.lib_os.proofs.UsesFound.{all_touched_found, bytes_found, stored_found, touched_found}
use Rattle.lib_os.proofs.UsesPlaced.{allocated_found, created_found, inserted_found}
use Rattle.lib_os.proofs.UsesRemoved.{destroyed_found, unmapped_found}
use Rattle.jos_base.proofs.Uses.{directory_is}

-- ---- what a call may count on, and what it keeps

-- the caller is live, and each live slot has a directory
record MayCall (s : KernelState) (n : ℕ) : Type 0 where
  frames : HasOneUse s.spaces
  each : EachHasUse s.spaces
  live : is_live (slot_at s n) ≡ true
  homes : (m : ℕ) → is_live (slot_at s m) ≡ true → s.spaces.uses (slot_at s m).directory ≡ directory

record Keeps (did : Did) : Type 0 where
  each : EachHasUse did.state.spaces

choose : {a b : Did} (t : Bool) → (t ≡ true → Keeps a) → (t ≡ false → Keeps b) → Keeps (if t then a else b)
choose true one other = one refl
choose false one other = other refl

keeping : (did : Did) → EachHasUse did.state.spaces → Keeps did
keeping did all = record { each = all }

-- ---- numbers of pages

page_below : (va : ℕ) → nat_lt va UTOP ≡ true → page_number va < page_limit
unfolding page_limit
page_below va test = let lt : va < UTOP = grind (arith, nat_tests) in omega (arith, lt)

address_below : (va : ℕ) → not (is_page_address va) ≡ false → page_number va < page_limit
address_below va test = page_below va (by_tests (va % PGSIZE == 0) (nat_lt va UTOP) test)
  where
    by_tests : (t u : Bool) → not (t && u) ≡ false → u ≡ true
    by_tests true true is = refl
    by_tests true false is = absurd cc
    by_tests false u is = absurd cc

-- ---- who is found

pub found_lives : (e : Environments) (id caller m : ℕ) (control : Bool) → is_live (e.slots caller) ≡ true →
    found e id caller control ≡ Some m →
    is_live (e.slots m) ≡ true
unfolding found
found_lives e id caller m control live is = by_zero (id == 0) is
  where
    k : ℕ
    k = id % NENV

    by_tests : (l i r : Bool) → is_live (e.slots k) ≡ l → (if not (l && i) then None else if r then None else Some k) ≡ Some m →
        is_live (e.slots m) ≡ true
    by_tests false i r lives none = absurd cc
    by_tests true false r lives none = absurd cc
    by_tests true true true lives none = absurd cc
    by_tests true true false lives some = subst (λ (q : ℕ). is_live (e.slots q) ≡ true) (same_Some k m some) lives

    by_zero : (t : Bool) → (if t then Some caller else found_at e id k caller control) ≡ Some m → is_live (e.slots m) ≡ true
    by_zero true some = subst (λ (q : ℕ). is_live (e.slots q) ≡ true) (same_Some caller m some) live
    by_zero false some =
        by_tests (is_live (e.slots k)) ((e.slots k).id == id) (control && not (may_change e caller k)) refl some

-- ---- a page that is given on

shared_from : (o : Option Entry) (perm : ℕ) (e : Entry) → shared_entry o perm ≡ Some e →
    (x : Entry) × (o ≡ Some x) × (x.frame ≡ e.frame)
shared_from None perm e is = absurd cc
shared_from (Some x) perm e is = by_tests (not (is_page_perm perm)) (has_write perm && not (has_write x.perm)) is
  where
    by_tests : (t u : Bool) → (if t then None else if u then None else Some (record { frame = x.frame; perm = perm })) ≡ Some e →
        (y : Entry) × (Some x ≡ Some y) × (y.frame ≡ e.frame)
    by_tests true u none = absurd cc
    by_tests false true none = absurd cc
    by_tests false false some = (x, refl, ap (λ (z : Entry). z.frame) (same_Some (record { frame = x.frame; perm = perm }) e some))

abbrev page_in : Passing → Option Entry
page_in (a_page e) = Some e
page_in _ = None

-- a page that passes stands at the sender's, and is wanted below UTOP
passing_from : (s : KernelState) (n destination va perm : ℕ) (e : Entry) → passing_of s n destination va perm ≡ a_page e →
    (nat_lt destination UTOP ≡ true) × (shared_entry (entry_at s n va) perm ≡ Some e)
passing_from s n destination va perm e is =
    by_tests (not (nat_lt va UTOP)) (not (va % PGSIZE == 0)) (shared_entry (entry_at s n va) perm)
    (nat_lt destination UTOP) refl (ap page_in is)
  where
    by_tests : (t u : Bool) (o : Option Entry) (below : Bool) → nat_lt destination UTOP ≡ below →
        page_in (if t then nothing else if u then invalid else passing_by destination o) ≡ Some e → (below ≡ true) × (o ≡ Some e)
    by_tests true u o below test none = absurd cc
    by_tests false true o below test none = absurd cc
    by_tests false false None below test none = absurd cc
    by_tests false false (Some y) below test some = by_place below
        (sym (ap (λ (t : Bool). page_in (if t then a_page y else nothing)) test) ∙ some)
      where
        by_place : (t : Bool) → page_in (if t then a_page y else nothing) ≡ Some e → (t ≡ true) × (Some y ≡ Some e)
        by_place true same = (refl, same)
        by_place false none = absurd cc

-- ---- what is behind a result

abbrev made_spaces : KernelState → Result (ℕ × KernelState) Errno → SpacesState
made_spaces s (Ok made) = made.1.spaces
made_spaces s (Err error) = s.spaces

abbrev spaces_or : SpacesState → Option KernelState → SpacesState
spaces_or spaces None = spaces
spaces_or spaces (Some s) = s.spaces

-- ---- ends

pub killed_found : (s : KernelState) (n : ℕ) (line : Line) → HasOneUse s.spaces → EachHasUse s.spaces →
    EachHasUse (killed s n line).state.spaces
unfolding killed
killed_found s n line h all = destroyed_found s.spaces (slot_at s n).directory h all

-- ---- the calls

module _ (s : KernelState) (n : ℕ) (h : MayCall s n) where
  -- nothing becomes of the frames
  plain : (did : Did) → did.state.spaces ≡ s.spaces → Keeps did
  plain did same = record { each = subst (λ (sp : SpacesState). EachHasUse sp) (sym same) h.each }

  cputs_keeps : (va len : ℕ) → Keeps (cputs s n va len)
  cputs_keeps va len = choose (nat_lt CPUTS_MAX len) (λ is. plain _ refl) (λ is. by_bytes (user_bytes s n va len))
    where
      by_bytes : (r : Result (List ℕ) PageFault) → Keeps (cputs_of s n va len r)
      by_bytes (Ok bytes) = record { each = all_touched_found s.spaces (slot_at s n).directory va len h.each }
      by_bytes (Err fault) = record { each = killed_found s n (UserMemCheck fault.va) h.frames h.each }

  cgetc_keeps : (input : List ℕ) → Keeps (cgetc_from s n input)
  cgetc_keeps [] = plain _ refl
  cgetc_keeps (byte ∷ rest) = plain _ refl

  destroy_keeps : (o : Option ℕ) → Keeps (env_destroy_of s n o)
  destroy_keeps None = plain _ refl
  destroy_keeps (Some target) =
      let gone = destroyed_found s.spaces (slot_at s target).directory h.frames h.each in
      choose (target == n) (λ is. record { each = destroyed_found s.spaces (slot_at s n).directory h.frames h.each })
      (λ is. record { each = gone })

  -- a call that asked for frames
  answered_keeps : (o : Option SpacesState) → ((sp : SpacesState) → o ≡ Some sp → EachHasUse sp) → Keeps (answered_with s n o)
  answered_keeps None all = plain _ refl
  answered_keeps (Some sp) all = record { each = all sp refl }

  alloc_keeps : (o : Option ℕ) (va perm : ℕ) → ((m : ℕ) → o ≡ Some m → is_live (slot_at s m) ≡ true) →
      Keeps (page_alloc_of s n o va perm)
  alloc_keeps None va perm lives = plain _ refl
  alloc_keeps (Some target) va perm lives =
      choose (not (is_page_address va)) (λ is. plain _ refl)
      (λ inside. choose (not (is_page_perm perm)) (λ is. plain _ refl)
      (λ is. by_made (address_below va inside) (allocated s.spaces d (page_number va) perm) refl))
    where
      d : ℕ
      d = (slot_at s target).directory

      by_made : page_number va < page_limit → (o : Option (ℕ × SpacesState)) → allocated s.spaces d (page_number va) perm ≡ o →
          Keeps (answered_with s n (second_of o))
      by_made below None at = plain _ refl
      by_made below (Some made) at =
          record {
            each = allocated_found s.spaces d (page_number va) perm made h.frames
                (h.homes target (lives target refl)) below h.each at;
          }

  -- a page of an environment is inserted
  given : (source target source_va va perm : ℕ) (e : Entry) → is_live (slot_at s target) ≡ true → page_number va < page_limit →
      shared_entry (entry_at s source source_va) perm ≡ Some e → (sp : SpacesState) → inserted_at s target va e ≡ Some sp →
      EachHasUse sp
  given source target source_va va perm e lives below shares sp is =
      let x = shared_from (entry_at s source source_va) perm e shares in
      inserted_found s.spaces sp (slot_at s target).directory (page_number va) e (slot_at s source).directory
      (page_number source_va) x.0
      h.frames (h.homes target lives) below x.1 x.2 h.each is

  map_keeps : (from : Option ℕ) (source_va : ℕ) (to : Option ℕ) (va perm : ℕ) →
      ((m : ℕ) → to ≡ Some m → is_live (slot_at s m) ≡ true) →
      Keeps (page_map_of s n from source_va to va perm)
  map_keeps None source_va to va perm lives = plain _ refl
  map_keeps (Some source) source_va None va perm lives = plain _ refl
  map_keeps (Some source) source_va (Some target) va perm lives =
      choose (not (is_page_address source_va)) (λ is. plain _ refl)
      (λ is. choose (not (is_page_address va)) (λ is. plain _ refl)
      (λ inside. by_entry (address_below va inside) (shared_entry (entry_at s source source_va) perm) refl))
    where
      by_entry : page_number va < page_limit → (o : Option Entry) → shared_entry (entry_at s source source_va) perm ≡ o →
          Keeps (page_map_by s n target va o)
      by_entry below None at = plain _ refl
      by_entry below (Some e) at =
          answered_keeps (inserted_at s target va e) (given source target source_va va perm e (lives target refl) below at)

  unmap_keeps : (o : Option ℕ) (va : ℕ) → Keeps (page_unmap_of s n o va)
  unmap_keeps None va = plain _ refl
  unmap_keeps (Some target) va =
      let gone = unmapped_found s.spaces (slot_at s target).directory (page_number va) h.frames h.each in
      choose (not (is_page_address va)) (λ is. plain _ refl) (λ is. record { each = gone })

  exofork_keeps : Keeps (exofork s n)
  unfolding environment_made
  exofork_keeps = by_made (allotted s.environments (slot_at s n).id) (created s.spaces) refl
    where
      by_made : (o : Option (ℕ × Environments)) (c : Option (ℕ × SpacesState)) → created s.spaces ≡ c →
          Keeps (exofork_of s n (made_of s o c))
      by_made None c at = plain _ refl
      by_made (Some slot) None at = plain _ refl
      by_made (Some slot) (Some space) at = record { each = created_found s.spaces space h.each at }

  status_keeps : (o : Option ℕ) (status : Option Status) → Keeps (env_set_status_of s n o status)
  status_keeps None status = plain _ refl
  status_keeps (Some target) None = plain _ refl
  status_keeps (Some target) (Some status) = plain _ refl

  trapframe_keeps : (o : Option ℕ) (va : ℕ) → Keeps (env_set_trapframe_of s n o va)
  trapframe_keeps None va = plain _ refl
  trapframe_keeps (Some target) va = by_bytes (user_bytes s n va record_size)
    where
      by_bytes : (r : Result (List ℕ) PageFault) → Keeps (env_set_trapframe_by s n target va r)
      by_bytes (Ok bytes) = record { each = all_touched_found s.spaces (slot_at s n).directory va record_size h.each }
      by_bytes (Err fault) = record { each = killed_found s n (UserMemCheck fault.va) h.frames h.each }

  upcall_keeps : (o : Option ℕ) (address : ℕ) → Keeps (env_set_pgfault_upcall_of s n o address)
  upcall_keeps None address = plain _ refl
  upcall_keeps (Some target) address = plain _ refl

  send_keeps : (o : Option ℕ) (value va perm : ℕ) → ((m : ℕ) → o ≡ Some m → is_live (slot_at s m) ≡ true) →
      Keeps (ipc_try_send_of s n o value va perm)
  send_keeps None value va perm lives = plain _ refl
  send_keeps (Some target) value va perm lives =
      choose (not (accepts (slot_at s target).rendezvous (slot_at s n).id)) (λ is. plain _ refl)
      (λ is. by_page (passing_of s n destination va perm) refl)
    where
      destination : ℕ
      destination = (slot_at s target).rendezvous.destination

      by_spaces : (bits : ℕ) (o : Option SpacesState) → ((sp : SpacesState) → o ≡ Some sp → EachHasUse sp) →
          Keeps (sent_with s n target value bits o)
      by_spaces bits None all = plain _ refl
      by_spaces bits (Some sp) all = record { each = all sp refl }

      by_page : (p : Passing) → passing_of s n destination va perm ≡ p → Keeps (sent s n target value p)
      by_page nothing at = plain _ refl
      by_page invalid at = plain _ refl
      by_page (a_page e) at =
          let from = passing_from s n destination va perm e at in
          by_spaces e.perm (inserted_at s target destination e)
          (given n target va destination perm e (lives target refl) (page_below destination from.0) from.1)

  receive_keeps : (va sender : ℕ) → Keeps (ipc_recv s n va sender)
  receive_keeps va sender = choose (nat_lt va UTOP && not (va % PGSIZE == 0)) (λ is. plain _ refl) (λ is. plain _ refl)

  call_keeps : (regs : Regs) → Keeps (call_of s n regs)
  unfolding call_of
  call_keeps regs =
      choose (regs.eax == SYS_CPUTS) (λ is. cputs_keeps regs.edx regs.ecx) (λ is.
      choose (regs.eax == SYS_CGETC) (λ is. cgetc_keeps s.input) (λ is.
      choose (regs.eax == SYS_GETENVID) (λ is. plain _ refl) (λ is.
      choose (regs.eax == SYS_ENV_DESTROY) (λ is. destroy_keeps (found s.environments regs.edx n true)) (λ is.
      choose (regs.eax == SYS_PAGE_ALLOC)
      (λ is. alloc_keeps (found s.environments regs.edx n true) regs.ecx regs.ebx (λ m at. lives regs.edx m true at)) (λ is.
      choose (regs.eax == SYS_PAGE_MAP)
      (λ is. map_keeps (found s.environments regs.edx n true) regs.ecx (found s.environments regs.ebx n true) regs.edi regs.esi
      (λ m at. lives regs.ebx m true at)) (λ is.
      choose (regs.eax == SYS_PAGE_UNMAP) (λ is. unmap_keeps (found s.environments regs.edx n true) regs.ecx) (λ is.
      choose (regs.eax == SYS_EXOFORK) (λ is. exofork_keeps) (λ is.
      choose (regs.eax == SYS_ENV_SET_STATUS)
      (λ is. status_keeps (found s.environments regs.edx n true) (status_named regs.ecx)) (λ is.
      choose (regs.eax == SYS_ENV_SET_TRAPFRAME) (λ is. trapframe_keeps (found s.environments regs.edx n true) regs.ecx) (λ is.
      choose (regs.eax == SYS_ENV_SET_PGFAULT_UPCALL) (λ is. upcall_keeps (found s.environments regs.edx n true) regs.ecx) (λ is.
      choose (regs.eax == SYS_YIELD) (λ is. plain _ refl) (λ is.
      choose (regs.eax == SYS_IPC_TRY_SEND)
      (λ is. send_keeps (found s.environments regs.edx n false) regs.ecx regs.ebx regs.edi (λ m at. lives regs.edx m false at))
      (λ is.
      choose (regs.eax == SYS_IPC_RECV) (λ is. receive_keeps regs.edx regs.ecx) (λ is. plain _ refl))))))))))))))
    where
      lives : (id m : ℕ) (control : Bool) → found s.environments id n control ≡ Some m → is_live (slot_at s m) ≡ true
      lives id m control at = found_lives s.environments id n m control h.live at

-- ---- an environment is made

pub made_found : (s : KernelState) (parent : ℕ) (made : ℕ × KernelState) → EachHasUse s.spaces →
    environment_made s parent ≡ Ok made →
    EachHasUse made.1.spaces
unfolding environment_made
made_found s parent made all is = by_made (allotted s.environments parent) (created s.spaces) refl is
  where
    by_made : (o : Option (ℕ × Environments)) (c : Option (ℕ × SpacesState)) → created s.spaces ≡ c → made_of s o c ≡ Ok made →
        EachHasUse made.1.spaces
    by_made None c at none = absurd cc
    by_made (Some slot) None at none = absurd cc
    by_made (Some slot) (Some space) at some =
        subst (λ (sp : SpacesState). EachHasUse sp) (ap (made_spaces s) some) (created_found s.spaces space all at)

-- ---- any system call

-- the caller may have other registers
registers_may : (s : KernelState) (n : ℕ) (q : Regs) → IsInOrder s → is_live (slot_at s n) ≡ true → EachHasUse s.spaces →
    MayCall (with_registers s n q) n
registers_may s n q h live all = record {
  frames = h.frames;
  each = all;
  live = alike_live n ∙ live;
  homes = λ m lives.
      let home = directory_is (s.spaces.uses (slot_at s m).directory) (h.spaces.in_use m (sym (alike_live m) ∙ lives)) in
      ap s.spaces.uses (slots_alike s n (λ (k : Slot). k.directory) changed refl m) ∙ home;
}
  where
    changed : Slot
    changed = (record (slot_at s n) { registers = q })

    alike_live : (m : ℕ) → is_live (slot_at (with_registers s n q) m) ≡ is_live (slot_at s m)
    alike_live m = slots_alike s n is_live changed refl m

taken_spaces : (k : KernelState) (n : ℕ) (own : Bool) (regs : Regs) → (taken_back k n own regs).spaces ≡ k.spaces
taken_spaces k n own regs = by_test (is_live (slot_at k n) && not own)
  where
    by_test : (t : Bool) → (if t then with_registers k n regs else k).spaces ≡ k.spaces
    by_test true = refl
    by_test false = refl

pub system_found : (s : KernelState) (n number : ℕ) (args : List ℕ) → IsInOrder s → is_live (slot_at s n) ≡ true →
    EachHasUse s.spaces →
    EachHasUse (system s n number args).state.spaces
unfolding system
system_found s n number args h live all =
    let q = asking (slot_at s n).registers number args in
    let k = with_registers s n q in
    let did = call_keeps k n (registers_may s n q h live all) (slot_at k n).registers in
    subst (λ (sp : SpacesState). EachHasUse sp)
    (sym (taken_spaces (system_call k n).state n (sets_own s n number args) (slot_at s n).registers)) did.each

-- ---- page faults

pub handled_found : (s : KernelState) (n : ℕ) (fault : PageFault) (after : KernelState) → EachHasUse s.spaces →
    handled s n fault ≡ Some after →
    EachHasUse after.spaces
unfolding handled
handled_found s n fault after all is = by_test ((slot_at s n).upcall == 0) is
  where
    by_reach : (place : ℕ) (r : Result FrameOffset PageFault) → handler_entered s n fault place r ≡ Some after →
        EachHasUse after.spaces
    by_reach place (Err refusal) none = absurd cc
    by_reach place (Ok at) some =
        let slot = slot_at s n in
        let reached = touched s.spaces slot.directory place Write in
        subst (λ (sp : SpacesState). EachHasUse sp)
        (ap (λ (o : Option KernelState). spaces_or s.spaces o) some)
        (bytes_found reached at.frame (overlaid (reached.pages at.frame) at.offset (frame_bytes fault slot.registers))
        (touched_found s.spaces slot.directory place Write all))

    by_place : (o : Option ℕ) → handled_at s n fault o ≡ Some after → EachHasUse after.spaces
    by_place None none = absurd cc
    by_place (Some place) some = by_reach place (reach_in s.spaces (slot_at s n).directory place Write) some

    by_test : (t : Bool) → (if t then None else handled_at s n fault (upcall_place (slot_at s n).registers.esp)) ≡ Some after →
        EachHasUse after.spaces
    by_test true none = absurd cc
    by_test false some = by_place (upcall_place (slot_at s n).registers.esp) some

-- ---- accesses

record KeepsStep {X : Type 0} (step : CallStep X) : Type 0 where
  each : EachHasUse step.state.spaces

faulting_keeps : {X : Type 0} (s : KernelState) (n : ℕ) (fault : PageFault) → HasOneUse s.spaces → EachHasUse s.spaces →
    KeepsStep (faulting {X = X} s n fault (handled s n fault))
faulting_keeps {X = X} s n fault h all = by_handler (handled s n fault) refl
  where
    by_handler : (o : Option KernelState) → handled s n fault ≡ o → KeepsStep (faulting {X = X} s n fault o)
    by_handler (Some after) at = record { each = handled_found s n fault after all at }
    by_handler None at = record { each = killed_found s n (UserFault fault.va (slot_at s n).registers.eip) h all }

accessing_keeps : {X : Type 0} (s : KernelState) (n va : ℕ) (a : Access) (done : KernelState → CallStep X) → HasOneUse s.spaces →
    EachHasUse s.spaces →
    ((k : KernelState) → EachHasUse k.spaces → KeepsStep (done k)) → (r : Result FrameOffset PageFault) →
    KeepsStep (accessing s n va a done r)
accessing_keeps s n va a done h all keeps (Ok location) = keeps _ (touched_found s.spaces (slot_at s n).directory va a all)
accessing_keeps s n va a done h all keeps (Err fault) = faulting_keeps s n fault h all

put_found : (s : KernelState) (n va : ℕ) (bytes : List ℕ) → EachHasUse s.spaces → EachHasUse (with_bytes_put s n va bytes).spaces
put_found s n va [] all = all
put_found s n va (byte ∷ rest) all =
    put_found (with_user_byte s n va byte) n (va + 1) rest (stored_found s.spaces (slot_at s n).directory va byte all)

module _ (s : KernelState) (n : ℕ) (h : HasOneUse s.spaces) (all : EachHasUse s.spaces) where
  pub load_found : (va : ℕ) → EachHasUse (load s n va).state.spaces
  unfolding load
  load_found va =
      let kept = accessing_keeps s n va Read (λ k. giving k (user_word k n va)) h all (λ k each. record { each = each })
      (reach_in s.spaces (slot_at s n).directory va Read) in
      kept.each

  pub load_byte_found : (va : ℕ) → EachHasUse (load_byte s n va).state.spaces
  unfolding load_byte
  load_byte_found va =
      let kept = accessing_keeps s n va Read (λ k. giving k (user_byte k n va)) h all (λ k each. record { each = each })
      (reach_in s.spaces (slot_at s n).directory va Read) in
      kept.each

  pub store_found : (va word : ℕ) → EachHasUse (store s n va word).state.spaces
  unfolding store
  store_found va word =
      let kept = accessing_keeps s n va Write (λ k. giving (with_user_word k n va word) tt) h all
      (λ k each. record { each = put_found k n va (to_le_bytes w32 word) each })
      (reach_in s.spaces (slot_at s n).directory va Write) in
      kept.each

  pub store_byte_found : (va byte : ℕ) → EachHasUse (store_byte s n va byte).state.spaces
  unfolding store_byte
  store_byte_found va byte =
      let kept = accessing_keeps s n va Write (λ k. giving (with_user_byte k n va byte) tt) h all
      (λ k each. record { each = stored_found k.spaces (slot_at k n).directory va byte each })
      (reach_in s.spaces (slot_at s n).directory va Write) in
      kept.each

  pub exchange_found : (va word : ℕ) → EachHasUse (exchange s n va word).state.spaces
  unfolding exchange
  exchange_found va word =
      let kept = accessing_keeps s n va Write
      (λ k. record { state = with_user_word k n va word; gives = got (user_word k n va); written = [] }) h all
      (λ k each. record { each = put_found k n va (to_le_bytes w32 word) each })
      (reach_in s.spaces (slot_at s n).directory va Write) in
      kept.each

  pub restore_frame_found : EachHasUse (restore_frame s n).state.spaces
  unfolding restore_frame
  restore_frame_found = let kept = by_bytes (user_bytes s n (slot_at s n).registers.esp frame_size) in kept.each
    where
      by_bytes : (r : Result (List ℕ) PageFault) → KeepsStep (restored s n r)
      by_bytes (Ok bytes) =
          record { each = all_touched_found s.spaces (slot_at s n).directory (slot_at s n).registers.esp frame_size all }
      by_bytes (Err fault) = faulting_keeps s n fault h all
