-- What a step of the library leaves to the environments beside the one that makes it, by the call that it makes: each stands where it
-- stood, in the space that it had. Of another's registers a call changes EAX alone, where it gets a message; but one call sets the registers
-- of a child, which no service asks for.
use Rattle.std.proofs.Common.{◌≡◌, ◌≢◌, ◌∙◌, ◌==◌, ◌%◌, ◌&&◌, ◌||◌, ℕ, Bool, true, false, not, List, [], ◌∷◌, Option, Some, None}
use Rattle.std.proofs.Common.{Result, Ok, Err, IfSome, refl, sym, ap, if◌then◌else◌}
use Rattle.std.specs.Prelude.{nat_lt, ◌+◌}
use Rattle.std.specs.Int.{w32, to_le_bytes}
use Rattle.std.proofs.lemmas.Bool.{or_parts}
use Rattle.jos_base.specs.declared.environment.Status.{Status}
use Rattle.jos_base.specs.declared.environment.Status.TheVariants.{NotRunnable, Runnable}
use Rattle.jos_base.specs.declared.errno.Errno.{Errno}
use Rattle.jos_base.specs.declared.errno.Errno.TheVariants.{BadEnv, Invalid, IpcNotRecv}
use Rattle.jos_base.specs.declared.line.Line.{Line}
use Rattle.jos_base.specs.declared.line.Line.TheVariants.{UserFault, UserMemCheck}
use Rattle.jos_base.specs.declared.memory.Access.{Access}
use Rattle.jos_base.specs.declared.memory.Access.TheVariants.{Read, Write}
use Rattle.jos_base.specs.declared.memory.PageFault.{PageFault}
use Rattle.jos_base.specs.declared.numbers.TheConstants.{CPUTS_MAX, PGSIZE, UTOP, SYS_CPUTS, SYS_CGETC, SYS_GETENVID}
use Rattle.jos_base.specs.declared.numbers.TheConstants.{SYS_ENV_DESTROY}
use Rattle.jos_base.specs.declared.numbers.TheConstants.{SYS_PAGE_ALLOC, SYS_PAGE_MAP, SYS_PAGE_UNMAP, SYS_EXOFORK}
use Rattle.jos_base.specs.declared.numbers.TheConstants.{SYS_ENV_SET_STATUS}
use Rattle.jos_base.specs.declared.numbers.TheConstants.{SYS_ENV_SET_TRAPFRAME, SYS_ENV_SET_PGFAULT_UPCALL, SYS_YIELD}
use Rattle.jos_base.specs.declared.numbers.TheConstants.{SYS_IPC_TRY_SEND, SYS_IPC_RECV}
use Rattle.jos_base.specs.declared.registers.Regs.{Regs}
use Rattle.jos_base.specs.Environments.{Slot, is_live, found, free_slot, with_answer, new_slot, next_id, allotted, allotted_from}
use Rattle.jos_base.specs.KernelState.{KernelState, slot_at, with_slot_at, with_spaces, with_registers, with_status}
use Rattle.jos_base.specs.KernelState.{with_rendezvous, with_upcall, with_refusal, with_directory}
use Rattle.jos_base.specs.Messages.{Rendezvous, accepts, delivered, wanting}
use Rattle.jos_base.specs.Reach.{Entry, FrameOffset}
use Rattle.jos_base.specs.SpacesState.{SpacesState, allocated, created, created_from, directory, unmapped}
use Rattle.jos_base.specs.SystemCalls.{Did, answered as told, refused, without_environment, killed, user_bytes}
use Rattle.jos_base.specs.SystemCalls.{with_bytes_reached, cputs_of, cputs}
use Rattle.jos_base.specs.SystemCalls.{cgetc_from, env_destroy_of, status_named, env_set_status_of, is_page_address, is_page_perm}
use Rattle.jos_base.specs.SystemCalls.{shared_entry, entry_at, inserted_at, answered_with, second_of, page_alloc_of}
use Rattle.jos_base.specs.SystemCalls.{page_map_by, page_map_of}
use Rattle.jos_base.specs.SystemCalls.{page_unmap_of, env_set_pgfault_upcall_of}
use Rattle.jos_base.specs.SystemCalls.{message_taken, Passing, nothing, a_page, invalid, passing_of, sent_with, sent}
use Rattle.jos_base.specs.SystemCalls.{environment_made, exofork, exofork_of, made_of, ipc_try_send_of, ipc_recv, call_of}
use Rattle.jos_base.specs.SystemCalls.{handler_entered, handled_at, handled}
use Rattle.jos_base.specs.TrapFrames.{words_of_bytes, from_frame, frame_size, upcall_place}
use Rattle.jos_base.specs.UserMemory.{reach_in, touched}
use Rattle.jos_base.specs.Words.{page_number, upd}
use Rattle.lib_os.specs.InOrder.{IsInOrder}
use Rattle.lib_os.specs.Places.{place_of, place_in_words, handler_step_in}
use Rattle.lib_os.specs.UserCalls.{CallStep, giving, accessing, by_access, faulting, user_byte, user_word, with_user_byte, with_user_word}
use Rattle.lib_os.specs.UserCalls.{got, with_bytes_put, load, load_byte, store, store_byte, exchange, restored, restore_frame, asking, sets_own, system}
use Rattle.lib_os.proofs.Forked.{given, slot_was_free}
use Rattle.lib_os.proofs.Slots.{slot_kept, slots_alike}
use Rattle.jos_base.proofs.Maps.{upd-all, upd-at}

-- ---- what is kept of a slot

-- An environment stands where it stood, in its space.
pub record StaysThere (before after : Slot) : Type 0 where
  pub place : place_of after ≡ place_of before
  pub directory : after.directory ≡ before.directory

stays_itself : (k : Slot) → StaysThere k k
stays_itself k = record { place = refl; directory = refl }

stays_both : (k l m : Slot) → StaysThere k l → StaysThere l m → StaysThere k m
stays_both k l m one two = record { place = two.place ∙ one.place; directory = two.directory ∙ one.directory }

-- nothing is told by EAX
pub answer_stays : (k : Slot) (answer : ℕ) → StaysThere k (with_answer k answer)
unfolding place_in_words handler_step_in
answer_stays k answer = record { place = refl; directory = refl }

-- Each environment but that in slot n stays, if it is there before and after.
pub record OthersStay (s : KernelState) (n : ℕ) (after : KernelState) : Type 0 where
  pub stay : (m : ℕ) → m ≢ n → is_live (slot_at s m) ≡ true → is_live (slot_at after m) ≡ true →
      StaysThere (slot_at s m) (slot_at after m)

-- in the slot that is given next, nobody is
abbrev pub NextIsFree : KernelState → Type 0
NextIsFree s = (m : ℕ) (slots : List ℕ) (f : ℕ) (frames : List ℕ) → s.environments.free_slots ≡ m ∷ slots → s.spaces.free ≡ f ∷ frames →
    is_live (slot_at s m) ≡ false

module _ (s : KernelState) (n : ℕ) where
  -- the state that comes of what is done
  abbrev StayBy : Did → Type 0
  StayBy did = OthersStay s n did.state

  by_case : (test : Bool) (a b : Did) → (test ≡ true → StayBy a) → (test ≡ false → StayBy b) → StayBy (if test then a else b)
  by_case true a b first second = first refl
  by_case false a b first second = second refl

  -- ---- changes of the state

  -- no slot changes
  pub same_stay : OthersStay s n s
  same_stay = record { stay = λ m ne was lives. stays_itself (slot_at s m) }

  alike_stay : (t : KernelState) → t.environments.slots ≡ s.environments.slots → OthersStay s n t
  alike_stay t same = record { stay = λ m ne was lives. record { place = λ i. place_of (same i m); directory = λ i. (same i m).directory } }

  -- its own slot
  pub own_stay : (t : KernelState) → OthersStay s n t → (slot : Slot) → OthersStay s n (with_slot_at t n slot)
  own_stay t h slot = record {
    stay =
        upd-all (λ m (x : Slot). m ≢ n → is_live (slot_at s m) ≡ true → is_live x ≡ true → StaysThere (slot_at s m) x) t.environments.slots n slot
        (λ ne was lives. absurd (ne refl)) (λ q ne. h.stay q);
  }

  -- a slot whose environment stays
  put_stay : (t : KernelState) → OthersStay s n t → (k : ℕ) (slot : Slot) →
      (is_live (slot_at s k) ≡ true → is_live slot ≡ true → is_live (slot_at t k) ≡ true) → StaysThere (slot_at t k) slot →
      OthersStay s n (with_slot_at t k slot)
  put_stay t h k slot still same = record {
    stay =
        upd-all (λ m (x : Slot). m ≢ n → is_live (slot_at s m) ≡ true → is_live x ≡ true → StaysThere (slot_at s m) x) t.environments.slots k slot
        (λ ne was lives. stays_both (slot_at s k) (slot_at t k) slot (h.stay k ne was (still was lives)) same) (λ q ne. h.stay q);
  }

  gone_stay : (target : ℕ) → OthersStay s n (without_environment s target)
  gone_stay target = record {
    stay =
        upd-all (λ m (x : Slot). m ≢ n → is_live (slot_at s m) ≡ true → is_live x ≡ true → StaysThere (slot_at s m) x) s.environments.slots target
        (free_slot (slot_at s target).id) (λ ne was lives. absurd (let contradiction : false ≡ true = lives in cc))
        (λ q ne other was lives. stays_itself (slot_at s q));
  }

  told_stay : (t : KernelState) → OthersStay s n t → (answer : ℕ) → StayBy (told t n answer)
  told_stay t h answer = own_stay t h (with_answer (slot_at t n) answer)

  refused_stay : (error : Errno) → StayBy (refused s n error)
  refused_stay error = told_stay s same_stay _

  killed_stay : (line : Line) → StayBy (killed s n line)
  unfolding killed
  killed_stay line = gone_stay n

  -- ---- the calls

  cputs_stay_of : (va len : ℕ) (bytes : Result (List ℕ) PageFault) → StayBy (cputs_of s n va len bytes)
  cputs_stay_of va len (Ok bytes) = told_stay (with_bytes_reached s n va len) (alike_stay _ refl) 0
  cputs_stay_of va len (Err fault) = killed_stay (UserMemCheck fault.va)

  cputs_stay : (va len : ℕ) → StayBy (cputs s n va len)
  cputs_stay va len =
      by_case (nat_lt CPUTS_MAX len) _ _ (λ e. refused_stay Invalid) (λ e. cputs_stay_of va len (user_bytes s n va len))

  cgetc_stay : (input : List ℕ) → StayBy (cgetc_from s n input)
  cgetc_stay [] = told_stay s same_stay _
  cgetc_stay (byte ∷ rest) = told_stay (record s { input = rest }) (alike_stay _ refl) byte

  destroy_stay : (target : Option ℕ) → StayBy (env_destroy_of s n target)
  destroy_stay None = refused_stay BadEnv
  destroy_stay (Some target) =
      by_case (target == n) _ _ (λ e. gone_stay n) (λ e. told_stay (without_environment s target) (gone_stay target) 0)

  -- a child is made in a slot in which nobody was
  exofork_stay : NextIsFree s → StayBy (exofork s n)
  unfolding environment_made allotted created
  exofork_stay vacant = by_lists s.environments.free_slots refl s.spaces.free refl
    where
      by_lists : (slots : List ℕ) → s.environments.free_slots ≡ slots → (frames : List ℕ) → s.spaces.free ≡ frames →
          StayBy (exofork_of s n (made_of s (allotted_from s.environments (slot_at s n).id slots) (created_from s.spaces frames)))
      by_lists [] slots_are frames frames_are = told_stay (with_refusal s) (alike_stay _ refl) _
      by_lists (child ∷ others) slots_are [] frames_are = told_stay (with_refusal s) (alike_stay _ refl) _
      by_lists (child ∷ others) slots_are (frame ∷ rest) frames_are =
          let nobody : is_live (slot_at s child) ≡ true → ⊥ =
          λ was. let contradiction : true ≡ false = sym was ∙ vacant child others frame rest slots_are frames_are in absurd cc in
          let slot : Slot = new_slot (next_id (slot_at s child).id child) (slot_at s n).id in
          let t : KernelState = record s {
            environments = record { slots = upd s.environments.slots child slot; free_slots = others };
            spaces = record s.spaces { uses = upd s.spaces.uses frame directory; free = rest; pages = upd s.spaces.pages frame [] };
          } in
          let made : OthersStay s n t = record {
            stay =
                upd-all (λ m (x : Slot). m ≢ n → is_live (slot_at s m) ≡ true → is_live x ≡ true → StaysThere (slot_at s m) x) s.environments.slots
                child slot (λ ne was lives. absurd (nobody was)) (λ q ne other was lives. stays_itself (slot_at s q));
          } in
          let u : KernelState = with_directory t child frame in
          let homed : OthersStay s n u = child_put t made child (record (slot_at t child) { directory = frame }) nobody in
          let regs : Regs = record (slot_at s n).registers { eax = 0 } in
          told_stay (with_registers u child regs) (child_put u homed child (record (slot_at u child) { registers = regs }) nobody)
          (slot_at u child).id
        where
          child_put : (t : KernelState) → OthersStay s n t → (k : ℕ) (slot : Slot) → (is_live (slot_at s k) ≡ true → ⊥) →
              OthersStay s n (with_slot_at t k slot)
          child_put t h k slot nobody = record {
            stay =
                upd-all (λ m (x : Slot). m ≢ n → is_live (slot_at s m) ≡ true → is_live x ≡ true → StaysThere (slot_at s m) x) t.environments.slots
                k slot (λ ne was lives. absurd (nobody was)) (λ q ne. h.stay q);
          }

  status_stay : (target : Option ℕ) (status : Option Status) → StayBy (env_set_status_of s n target status)
  status_stay None status = refused_stay BadEnv
  status_stay (Some target) None = refused_stay Invalid
  status_stay (Some target) (Some status) =
      told_stay (with_status s target status)
      (put_stay s same_stay target (record (slot_at s target) { status = status }) (λ was lives. was) (record { place = refl; directory = refl })) 0

  with_stay : (spaces : Option SpacesState) → StayBy (answered_with s n spaces)
  with_stay None = told_stay (with_refusal s) (alike_stay _ refl) _
  with_stay (Some spaces) = told_stay (with_spaces s spaces) (alike_stay _ refl) 0

  page_alloc_stay : (target : Option ℕ) (va perm : ℕ) → StayBy (page_alloc_of s n target va perm)
  page_alloc_stay None va perm = refused_stay BadEnv
  page_alloc_stay (Some target) va perm =
      by_case (not (is_page_address va)) _ _ (λ e. refused_stay Invalid)
      (λ e. by_case (not (is_page_perm perm)) _ _ (λ e. refused_stay Invalid)
      (λ e. with_stay (second_of (allocated s.spaces (slot_at s target).directory (page_number va) perm))))

  page_map_stay_by : (target va : ℕ) (entry : Option Entry) → StayBy (page_map_by s n target va entry)
  page_map_stay_by target va None = refused_stay Invalid
  page_map_stay_by target va (Some entry) = with_stay (inserted_at s target va entry)

  page_map_stay : (source : Option ℕ) (source_va : ℕ) (target : Option ℕ) (target_va perm : ℕ) →
      StayBy (page_map_of s n source source_va target target_va perm)
  page_map_stay None source_va target target_va perm = refused_stay BadEnv
  page_map_stay (Some source) source_va None target_va perm = refused_stay BadEnv
  page_map_stay (Some source) source_va (Some target) target_va perm =
      by_case (not (is_page_address source_va)) _ _ (λ e. refused_stay Invalid)
      (λ e. by_case (not (is_page_address target_va)) _ _ (λ e. refused_stay Invalid)
      (λ e. page_map_stay_by target target_va (shared_entry (entry_at s source source_va) perm)))

  page_unmap_stay : (target : Option ℕ) (va : ℕ) → StayBy (page_unmap_of s n target va)
  page_unmap_stay None va = refused_stay BadEnv
  page_unmap_stay (Some target) va =
      by_case (not (is_page_address va)) _ _ (λ e. refused_stay Invalid)
      (λ e. told_stay (with_spaces s (unmapped s.spaces (slot_at s target).directory (page_number va))) (alike_stay _ refl) 0)

  upcall_stay : (target : Option ℕ) (address : ℕ) → StayBy (env_set_pgfault_upcall_of s n target address)
  upcall_stay None address = refused_stay BadEnv
  upcall_stay (Some target) address =
      told_stay (with_upcall s target address)
      (put_stay s same_stay target (record (slot_at s target) { upcall = address }) (λ was lives. was) (record { place = refl; directory = refl })) 0

  yield_stay : StayBy (told (with_status s n Runnable) n 0)
  yield_stay = told_stay (with_status s n Runnable) (own_stay s same_stay (record (slot_at s n) { status = Runnable })) 0

  recv_stay : (va sender : ℕ) → StayBy (ipc_recv s n va sender)
  recv_stay va sender =
      let t : KernelState = with_rendezvous s n (wanting (slot_at s n).rendezvous va sender) in
      by_case (nat_lt va UTOP && not (va % PGSIZE == 0)) _ _ (λ e. refused_stay Invalid)
      (λ e. own_stay t (own_stay s same_stay (record (slot_at s n) { rendezvous = wanting (slot_at s n).rendezvous va sender }))
      (record (slot_at t n) { status = NotRunnable }))

  -- whoever gets a message stands where it waited
  message_stay : (t : KernelState) → t.environments.slots ≡ s.environments.slots → (target value perm : ℕ) →
      OthersStay s n (message_taken t n target value perm)
  message_stay t same target value perm =
      let r : Rendezvous = delivered (slot_at t target).rendezvous (slot_at t n).id value perm in
      let woken : KernelState = with_rendezvous t target r in
      let there : is_live (slot_at s target) ≡ true → is_live (slot_at t target) ≡ true = λ was. (λ i. is_live (same i target)) ∙ was in
      put_stay woken
      (put_stay t (alike_stay t same) target (record (slot_at t target) { rendezvous = r }) (λ was lives. there was) (record { place = refl; directory = refl }))
      target (with_answer (record (slot_at woken target) { status = Runnable }) 0)
      (λ was lives. slots_alike t target (λ (x : Slot). is_live x) (record (slot_at t target) { rendezvous = r }) refl target ∙ there was)
      (stays_both (slot_at woken target) (record (slot_at woken target) { status = Runnable }) _ (record { place = refl; directory = refl })
      (answer_stays (record (slot_at woken target) { status = Runnable }) 0))

  sent_stay_with : (target value perm : ℕ) (spaces : Option SpacesState) → StayBy (sent_with s n target value perm spaces)
  sent_stay_with target value perm None = told_stay (with_refusal s) (alike_stay _ refl) _
  sent_stay_with target value perm (Some spaces) =
      told_stay (message_taken (with_spaces s spaces) n target value perm) (message_stay (with_spaces s spaces) refl target value perm) 0

  sent_stay : (target value : ℕ) (passing : Passing) → StayBy (sent s n target value passing)
  sent_stay target value nothing = told_stay (message_taken s n target value 0) (message_stay s refl target value 0) 0
  sent_stay target value (a_page entry) =
      sent_stay_with target value entry.perm (inserted_at s target (slot_at s target).rendezvous.destination entry)
  sent_stay target value invalid = refused_stay Invalid

  send_stay : (target : Option ℕ) (value va perm : ℕ) → StayBy (ipc_try_send_of s n target value va perm)
  send_stay None value va perm = refused_stay BadEnv
  send_stay (Some target) value va perm =
      by_case (not (accepts (slot_at s target).rendezvous (slot_at s n).id)) _ _ (λ e. refused_stay IpcNotRecv)
      (λ e. sent_stay target value (passing_of s n (slot_at s target).rendezvous.destination va perm))

  call_stay : (regs : Regs) → (regs.eax == SYS_ENV_SET_TRAPFRAME) ≡ false → ((regs.eax == SYS_EXOFORK) ≡ true → NextIsFree s) →
      StayBy (call_of s n regs)
  unfolding call_of
  call_stay regs no_frame vacant =
      let named = found s.environments regs.edx n true in
      by_case (regs.eax == SYS_CPUTS) _ _ (λ e. cputs_stay regs.edx regs.ecx)
      (λ e. by_case (regs.eax == SYS_CGETC) _ _ (λ e. cgetc_stay s.input)
      (λ e. by_case (regs.eax == SYS_GETENVID) _ _ (λ e. told_stay s same_stay (slot_at s n).id)
      (λ e. by_case (regs.eax == SYS_ENV_DESTROY) _ _ (λ e. destroy_stay named)
      (λ e. by_case (regs.eax == SYS_PAGE_ALLOC) _ _ (λ e. page_alloc_stay named regs.ecx regs.ebx)
      (λ e. by_case (regs.eax == SYS_PAGE_MAP) _ _
      (λ e. page_map_stay named regs.ecx (found s.environments regs.ebx n true) regs.edi regs.esi)
      (λ e. by_case (regs.eax == SYS_PAGE_UNMAP) _ _ (λ e. page_unmap_stay named regs.ecx)
      (λ e. by_case (regs.eax == SYS_EXOFORK) _ _ (λ e. exofork_stay (vacant e))
      (λ e. by_case (regs.eax == SYS_ENV_SET_STATUS) _ _ (λ e. status_stay named (status_named regs.ecx))
      (λ e. by_case (regs.eax == SYS_ENV_SET_TRAPFRAME) _ _
      (λ e. absurd (let contradiction : true ≡ false = sym e ∙ no_frame in cc))
      (λ e. by_case (regs.eax == SYS_ENV_SET_PGFAULT_UPCALL) _ _ (λ e. upcall_stay named regs.ecx)
      (λ e. by_case (regs.eax == SYS_YIELD) _ _ (λ e. yield_stay)
      (λ e. by_case (regs.eax == SYS_IPC_TRY_SEND) _ _
      (λ e. send_stay (found s.environments regs.edx n false) regs.ecx regs.ebx regs.edi)
      (λ e. by_case (regs.eax == SYS_IPC_RECV) _ _ (λ e. recv_stay regs.edx regs.ecx) (λ e. refused_stay Invalid))))))))))))))

  -- ---- accesses

  entered_stay : (fault : PageFault) (place : ℕ) (reached : Result FrameOffset PageFault) →
      IfSome (handler_entered s n fault place reached) (OthersStay s n)
  entered_stay fault place (Err refusal) = tt
  entered_stay fault place (Ok at) =
      let k = slot_at s n in
      let h = own_stay s same_stay (record k { registers = record k.registers { esp = place; eip = k.upcall } }) in record { stay = h.stay }

  handled_stay : (fault : PageFault) → IfSome (handled s n fault) (OthersStay s n)
  unfolding handled
  handled_stay fault = by_upcall ((slot_at s n).upcall == 0) (upcall_place (slot_at s n).registers.esp)
    where
      by_upcall : (test : Bool) (place : Option ℕ) → IfSome (if test then None else handled_at s n fault place) (OthersStay s n)
      by_upcall true place = tt
      by_upcall false None = tt
      by_upcall false (Some place) = entered_stay fault place (reach_in s.spaces (slot_at s n).directory place Write)

  fault_stay : (X : Type 0) (fault : PageFault) (after : Option KernelState) → IfSome after (OthersStay s n) →
      OthersStay s n (faulting {X = X} s n fault after).state
  fault_stay X fault (Some after) h = h
  fault_stay X fault None h = killed_stay (UserFault fault.va (slot_at s n).registers.eip)

  -- an access, by what is done in the state in which it has set its bits
  access_stay : {X : Type 0} (va : ℕ) (a : Access) (done : KernelState → CallStep X) →
      ((k : KernelState) → OthersStay s n k → OthersStay s n (done k).state) → OthersStay s n (by_access s n va a done).state
  access_stay {X = X} va a done stay = by_reach (reach_in s.spaces (slot_at s n).directory va a)
    where
      by_reach : (reached : Result FrameOffset PageFault) → OthersStay s n (accessing s n va a done reached).state
      by_reach (Ok location) = stay _ (alike_stay (with_spaces s (touched s.spaces (slot_at s n).directory va a)) refl)
      by_reach (Err fault) = fault_stay _ fault (handled s n fault) (handled_stay fault)

  put_stay_bytes : (k : KernelState) (va : ℕ) (bytes : List ℕ) → OthersStay s n k → OthersStay s n (with_bytes_put k n va bytes)
  put_stay_bytes k va [] h = h
  put_stay_bytes k va (byte ∷ rest) h = put_stay_bytes (with_user_byte k n va byte) (va + 1) rest (record { stay = h.stay })

  pub load_stay : (va : ℕ) → OthersStay s n (load s n va).state
  unfolding load
  load_stay va = access_stay va Read (λ after. giving after (user_word after n va)) (λ k h. h)

  pub load_byte_stay : (va : ℕ) → OthersStay s n (load_byte s n va).state
  unfolding load_byte
  load_byte_stay va = access_stay va Read (λ after. giving after (user_byte after n va)) (λ k h. h)

  pub store_stay : (va word : ℕ) → OthersStay s n (store s n va word).state
  unfolding store
  store_stay va word =
      access_stay va Write (λ after. giving (with_user_word after n va word) tt) (λ k h. put_stay_bytes k va (to_le_bytes w32 word) h)

  pub store_byte_stay : (va byte : ℕ) → OthersStay s n (store_byte s n va byte).state
  unfolding store_byte
  store_byte_stay va byte =
      access_stay va Write (λ after. giving (with_user_byte after n va byte) tt) (λ k h. put_stay_bytes k va (byte ∷ []) h)

  pub exchange_stay : (va word : ℕ) → OthersStay s n (exchange s n va word).state
  unfolding exchange
  exchange_stay va word =
      access_stay va Write (λ after. record { state = with_user_word after n va word; gives = got (user_word after n va); written = [] })
      (λ k h. put_stay_bytes k va (to_le_bytes w32 word) h)

  pub restore_stay : OthersStay s n (restore_frame s n).state
  unfolding restore_frame
  restore_stay = by_bytes (user_bytes s n (slot_at s n).registers.esp frame_size)
    where
      by_bytes : (r : Result (List ℕ) PageFault) → OthersStay s n (restored s n r).state
      by_bytes (Ok bytes) =
          let t : KernelState = with_bytes_reached s n (slot_at s n).registers.esp frame_size in
          own_stay t (alike_stay t refl) (record (slot_at t n) { registers = from_frame (words_of_bytes bytes) })
      by_bytes (Err fault) = fault_stay _ fault (handled s n fault) (handled_stay fault)

-- ---- by the call

-- what others are left is left them too where its own slot was another before
pub own_before : (s : KernelState) (n : ℕ) (slot : Slot) (after : KernelState) → OthersStay (with_slot_at s n slot) n after → OthersStay s n after
own_before s n slot after h = record {
  stay = λ m ne was lives.
      let kept = slot_kept s n slot m ne in
      let so = h.stay m ne (ap (λ (x : Slot). is_live x) kept ∙ was) lives in
      record { place = so.place ∙ ap (λ (x : Slot). place_of x) kept; directory = so.directory ∙ ap (λ (x : Slot). x.directory) kept };
}

-- the call that sets the registers of another, and the one that makes another
abbrev pub sets_others : ℕ → Bool
sets_others number = (number == SYS_ENV_SET_TRAPFRAME) || (number == SYS_EXOFORK)

module _ (s : KernelState) (n number : ℕ) (args : List ℕ) where
  stay_by : (number == SYS_ENV_SET_TRAPFRAME) ≡ false → ((number == SYS_EXOFORK) ≡ true → NextIsFree s) →
      OthersStay s n (system s n number args).state
  unfolding system
  stay_by no_frame vacant =
      let q : Regs = asking (slot_at s n).registers number args in
      let slot : Slot = record (slot_at s n) { registers = q } in
      let k : KernelState = with_registers s n q in
      let same : (slot_at k n).registers.eax ≡ number = ap (λ (x : Slot). x.registers.eax) (upd-here s slot) in
      let done : KernelState = (call_of k n (slot_at k n).registers).state in
      by_test done (is_live (slot_at done n) && not (sets_own s n number args))
      (own_before s n slot done
      (call_stay k n (slot_at k n).registers (ap (λ (m : ℕ). m == SYS_ENV_SET_TRAPFRAME) same ∙ no_frame)
      (λ is m slots f frames slots_are frames_are.
      slots_alike s n (λ (x : Slot). is_live x) slot refl m
      ∙ vacant (sym (ap (λ (m : ℕ). m == SYS_EXOFORK) same) ∙ is) m slots f frames slots_are frames_are)))
    where
      upd-here : (s : KernelState) (slot : Slot) → slot_at (with_slot_at s n slot) n ≡ slot
      upd-here s slot = upd-at s.environments.slots n slot

      by_test : (t : KernelState) (test : Bool) → OthersStay s n t →
          OthersStay s n (if test then with_registers t n (slot_at s n).registers else t)
      by_test t true h = own_stay s n t h (record (slot_at t n) { registers = (slot_at s n).registers })
      by_test t false h = h

  -- any call but these two
  pub system_stay : sets_others number ≡ false → OthersStay s n (system s n number args).state
  system_stay plain =
      let parts = or_parts (number == SYS_ENV_SET_TRAPFRAME) (number == SYS_EXOFORK) plain in
      stay_by parts.0 (λ is. absurd (let contradiction : true ≡ false = sym is ∙ parts.1 in cc))

-- a child that is made, in a state that is in order
pub exofork_stays : (s : KernelState) (n : ℕ) → IsInOrder s → is_live (slot_at s n) ≡ true →
    IsInOrder (system s n SYS_EXOFORK (given (slot_at s n).registers)).state →
    OthersStay s n (system s n SYS_EXOFORK (given (slot_at s n).registers)).state
exofork_stays s n order live then_so =
    stay_by s n SYS_EXOFORK (given (slot_at s n).registers) refl
    (λ is m slots f frames slots_are frames_are. slot_was_free s n live m slots slots_are f frames frames_are order then_so)
