-- What a step of the library leaves: the last turn and the number of turns, the frames, and the turn of the environment, by
-- the call that it makes.
use Rattle.std.proofs.Common.{◌≡◌, ◌≢◌, ◌∙◌, ◌==◌, ◌%◌, ◌&&◌, ◌||◌, ◌≤◌, ℕ, Bool, true, false, not, List, [], ◌∷◌, Option, Some}
use Rattle.std.proofs.Common.{None}
use Rattle.std.proofs.Common.{Result, Ok, Err, IfSome, arith, refl, sym, ap, subst, if◌then◌else◌}
use Rattle.std.specs.Prelude.{length, nat_lt, ◌+◌}
use Rattle.std.specs.Int.{w32, to_le_bytes}
use Rattle.jos_base.specs.declared.environment.Status.{Status}
use Rattle.jos_base.specs.declared.environment.Status.TheVariants.{NotRunnable, Runnable, Running}
use Rattle.jos_base.specs.declared.errno.Errno.{Errno}
use Rattle.jos_base.specs.declared.errno.Errno.TheVariants.{BadEnv, Invalid, IpcNotRecv}
use Rattle.jos_base.specs.declared.line.Line.{Line}
use Rattle.jos_base.specs.declared.line.Line.TheVariants.{UserFault, UserMemCheck}
use Rattle.jos_base.specs.declared.memory.Access.{Access}
use Rattle.jos_base.specs.declared.memory.Access.TheVariants.{Read, Write}
use Rattle.jos_base.specs.declared.memory.PageFault.{PageFault}
use Rattle.jos_base.specs.declared.numbers.TheConstants.{CPUTS_MAX, PGSIZE, UTOP, SYS_CPUTS, SYS_CGETC, SYS_GETENVID}
use Rattle.jos_base.specs.declared.numbers.TheConstants.{SYS_ENV_DESTROY}
use Rattle.jos_base.specs.declared.numbers.TheConstants.{SYS_PAGE_ALLOC, SYS_PAGE_MAP, SYS_PAGE_UNMAP, SYS_EXOFORK}
use Rattle.jos_base.specs.declared.numbers.TheConstants.{SYS_ENV_SET_STATUS}
use Rattle.jos_base.specs.declared.numbers.TheConstants.{SYS_ENV_SET_TRAPFRAME, SYS_ENV_SET_PGFAULT_UPCALL, SYS_YIELD}
use Rattle.jos_base.specs.declared.numbers.TheConstants.{SYS_IPC_TRY_SEND, SYS_IPC_RECV}
use Rattle.jos_base.specs.declared.registers.Regs.{Regs}
use Rattle.jos_base.specs.Environments.{Slot, is_live, is_runnable, is_running, found, free_slot, with_answer, new_slot, next_id, allotted, allotted_from}
use Rattle.jos_base.specs.KernelState.{KernelState, slot_at, with_slot_at, with_spaces, with_registers, with_status}
use Rattle.jos_base.specs.KernelState.{with_rendezvous, with_upcall, with_refusal, with_directory}
use Rattle.jos_base.specs.Messages.{Rendezvous, accepts, delivered, wanting}
use Rattle.jos_base.specs.Reach.{Entry, FrameOffset}
use Rattle.jos_base.specs.SpacesState.{SpacesState, allocated, created, created_from, directory, overlaid, unmapped, with_page_bytes}
use Rattle.jos_base.specs.SystemCalls.{Did, answered as told, refused, without_environment, killed, user_bytes}
use Rattle.jos_base.specs.SystemCalls.{with_bytes_reached, cputs_of, cputs}
use Rattle.jos_base.specs.SystemCalls.{cgetc_from, env_destroy_of, status_named, env_set_status_of, is_page_address, is_page_perm}
use Rattle.jos_base.specs.SystemCalls.{shared_entry, entry_at, inserted_at, answered_with, second_of, page_alloc_of}
use Rattle.jos_base.specs.SystemCalls.{page_map_by, page_map_of}
use Rattle.jos_base.specs.SystemCalls.{page_unmap_of, record_size, env_set_trapframe_by, env_set_trapframe_of}
use Rattle.jos_base.specs.SystemCalls.{env_set_pgfault_upcall_of}
use Rattle.jos_base.specs.SystemCalls.{message_taken, Passing, nothing, a_page, invalid, passing_of, sent_with, sent}
use Rattle.jos_base.specs.SystemCalls.{environment_made, exofork, exofork_of, made_of, ipc_try_send_of, ipc_recv, call_of}
use Rattle.jos_base.specs.SystemCalls.{handler_entered, handled_at, handled}
use Rattle.jos_base.specs.TrapFrames.{words_of_bytes, from_record, from_frame, frame_bytes, frame_size, upcall_place}
use Rattle.jos_base.specs.UserMemory.{reach_in, touched, stored_byte, with_byte_at}
use Rattle.jos_base.specs.Words.{page_number, upd}
use Rattle.lib_os.specs.LibrarySteps.{LeavesRest}
use Rattle.lib_os.specs.UserCalls.{CallStep, giving, accessing, by_access, faulting, user_byte, user_word, with_user_byte, with_user_word}
use Rattle.lib_os.specs.UserCalls.{got, with_bytes_put, load, load_byte, store, store_byte, exchange, restored, restore_frame, asking, sets_own, system}
use Rattle.lib_os.proofs.FramesKept.{Gets, unmapped_frames, destroyed_frames, inserted_gets, allocated_gets, touched_frames}
use Rattle.lib_os.proofs.FramesKept.{all_touched_frames}
use Rattle.lib_os.proofs.Slots.{slot_put, slot_kept, slots_alike}
use Rattle.std.proofs.lemmas.Bool.{or_parts}
use Rattle.jos_base.proofs.Maps.{upd-all}

-- ---- what is left

-- What every step leaves; and an environment that is not RUNNABLE is not so afterwards, where this holds.
pub record Left (P : Type 0) (s : KernelState) (n : ℕ) (after : KernelState) : Type 0 where
  pub rest : LeavesRest s after
  pub calm : P → is_runnable (slot_at s n).status ≡ false → is_runnable (slot_at after n).status ≡ false

stored_frames : (s : SpacesState) (d va byte : ℕ) → (stored_byte s d va byte).frames ≡ s.frames
unfolding stored_byte
stored_frames s d va byte = by_reach (reach_in s d va Write)
  where
    by_reach : (reached : Result FrameOffset PageFault) → (with_byte_at s byte reached).frames ≡ s.frames
    by_reach (Ok location) = refl
    by_reach (Err fault) = refl

calm_upd : (slots : ℕ → Slot) (n m : ℕ) (slot : Slot) → is_runnable slot.status ≡ false → is_runnable (slots n).status ≡ false →
    is_runnable (upd slots m slot n).status ≡ false
calm_upd slots n m slot new old =
    upd-all (λ q (x : Slot). q ≡ n → is_runnable x.status ≡ false) slots m slot (λ e. new)
    (λ q ne e. subst (λ r. is_runnable (slots r).status ≡ false) (sym e) old) n refl

module _ (P : Type 0) (s : KernelState) (n : ℕ) where
  -- the state that comes of what is done
  abbrev LeftBy : Did → Type 0
  LeftBy did = Left P s n did.state

  by_case : (test : Bool) (a b : Did) → (test ≡ true → LeftBy a) → (test ≡ false → LeftBy b) → LeftBy (if test then a else b)
  by_case true a b first second = first refl
  by_case false a b first second = second refl

  -- ---- changes of the state

  pub same_left : Left P s n s
  same_left = record { rest = record { last = refl; turns = refl; frames = refl; refused = λ two some. refl; told = λ some. some }; calm = λ p calm. calm }

  spaces_left : (spaces : SpacesState) → spaces.frames ≡ s.spaces.frames → Left P s n (with_spaces s spaces)
  spaces_left spaces same = record {
    rest = record { last = refl; turns = refl; frames = same; refused = λ two some. refl; told = λ some. some };
    calm = λ p calm. calm;
  }

  refusal_left : (2 ≤ length s.spaces.free → s.environments.free_slots ≢ [] → ⊥) → Left P s n (with_refusal s)
  refusal_left few = record {
    rest = record { last = refl; turns = refl; frames = refl; refused = λ two some. absurd (few two some); told = λ some. omega (arith, some) };
    calm = λ p calm. calm;
  }

  gone_left : (target : ℕ) → Left P s n (without_environment s target)
  gone_left target = record {
    rest = record {
      last = refl;
      turns = refl;
      frames = destroyed_frames s.spaces (slot_at s target).directory;
      refused = λ two some. refl;
      told = λ some. some;
    };
    calm = λ p calm. calm_upd s.environments.slots n target (free_slot (slot_at s target).id) refl calm;
  }

  -- a slot that keeps its status
  pub put_left : (t : KernelState) → Left P s n t → (m : ℕ) (slot : Slot) → slot.status ≡ (slot_at t m).status →
      Left P s n (with_slot_at t m slot)
  put_left t h m slot same = record {
    rest = record { last = h.rest.last; turns = h.rest.turns; frames = h.rest.frames; refused = h.rest.refused; told = h.rest.told };
    calm = λ p calm.
        ap (λ (status : Status). is_runnable status) (slots_alike t m (λ (x : Slot). x.status) slot same n) ∙ h.calm p calm;
  }

  told_left : (t : KernelState) → Left P s n t → (answer : ℕ) → LeftBy (told t n answer)
  told_left t h answer = put_left t h n (with_answer (slot_at t n) answer) refl

  refused_left : (error : Errno) → LeftBy (refused s n error)
  refused_left error = told_left s same_left _

  killed_left : (line : Line) → LeftBy (killed s n line)
  unfolding killed
  killed_left line = gone_left n

  -- ---- the calls

  cputs_left_of : (va len : ℕ) (bytes : Result (List ℕ) PageFault) → LeftBy (cputs_of s n va len bytes)
  cputs_left_of va len (Ok bytes) =
      told_left (with_bytes_reached s n va len) (spaces_left _ (all_touched_frames s.spaces (slot_at s n).directory va len)) 0
  cputs_left_of va len (Err fault) = killed_left (UserMemCheck fault.va)

  cputs_left : (va len : ℕ) → LeftBy (cputs s n va len)
  cputs_left va len =
      by_case (nat_lt CPUTS_MAX len) _ _ (λ e. refused_left Invalid) (λ e. cputs_left_of va len (user_bytes s n va len))

  cgetc_left : (input : List ℕ) → LeftBy (cgetc_from s n input)
  cgetc_left [] = told_left s same_left _
  cgetc_left (byte ∷ rest) =
      let t : KernelState = record s { input = rest } in
      told_left t (record {
        rest = record { last = refl; turns = refl; frames = refl; refused = λ two some. refl; told = λ some. some };
        calm = λ p calm. calm;
      }) byte

  destroy_left : (target : Option ℕ) → LeftBy (env_destroy_of s n target)
  destroy_left None = refused_left BadEnv
  destroy_left (Some target) =
      by_case (target == n) _ _ (λ e. gone_left n) (λ e. told_left (without_environment s target) (gone_left target) 0)

  -- where a frame and a slot are free, the child is made
  exofork_left : LeftBy (exofork s n)
  unfolding environment_made allotted created
  exofork_left = by_lists s.environments.free_slots refl s.spaces.free refl
    where
      by_lists : (slots : List ℕ) → s.environments.free_slots ≡ slots → (frames : List ℕ) → s.spaces.free ≡ frames →
          LeftBy (exofork_of s n (made_of s (allotted_from s.environments (slot_at s n).id slots) (created_from s.spaces frames)))
      by_lists [] slots_are frames frames_are = told_left (with_refusal s) (refusal_left (λ two some. some slots_are)) _
      by_lists (child ∷ others) slots_are [] frames_are =
          told_left (with_refusal s) (refusal_left (λ two some. let none : length s.spaces.free ≡ 0 = ap (λ (l : List ℕ). length l) frames_are in omega (arith, two))) _
      by_lists (child ∷ others) slots_are (frame ∷ rest) frames_are =
          let slot : Slot = new_slot (next_id (slot_at s child).id child) (slot_at s n).id in
          let t : KernelState = record s {
            environments = record { slots = upd s.environments.slots child slot; free_slots = others };
            spaces = record s.spaces { uses = upd s.spaces.uses frame directory; free = rest; pages = upd s.spaces.pages frame [] };
          } in
          let made : Left P s n t = record {
            rest = record { last = refl; turns = refl; frames = refl; refused = λ two some. refl; told = λ some. some };
            calm = λ p calm. calm_upd s.environments.slots n child slot refl calm;
          } in
          let u : KernelState = with_directory t child frame in
          let homed : Left P s n u = put_left t made child (record (slot_at t child) { directory = frame }) refl in
          let regs : Regs = record (slot_at s n).registers { eax = 0 } in
          told_left (with_registers u child regs) (put_left u homed child (record (slot_at u child) { registers = regs }) refl)
          (slot_at u child).id

  status_left : (P → ⊥) → (target : Option ℕ) (status : Option Status) → LeftBy (env_set_status_of s n target status)
  status_left never None status = refused_left BadEnv
  status_left never (Some target) None = refused_left Invalid
  status_left never (Some target) (Some status) =
      told_left (with_status s target status)
      (record {
        rest = record { last = refl; turns = refl; frames = refl; refused = λ two some. refl; told = λ some. some };
        calm = λ p calm. absurd (never p);
      }) 0

  with_left : (spaces : Option SpacesState) → Gets 2 s.spaces spaces → LeftBy (answered_with s n spaces)
  with_left None gets = told_left (with_refusal s) (refusal_left (λ two some. gets two)) _
  with_left (Some spaces) gets = told_left (with_spaces s spaces) (spaces_left spaces gets) 0

  -- who gets spaces where one frame is free, gets them where two are
  one_of_two : (spaces : Option SpacesState) → Gets 1 s.spaces spaces → Gets 2 s.spaces spaces
  one_of_two None gets = λ two. gets (omega (arith, two))
  one_of_two (Some spaces) gets = gets

  inserted_at_gets : (target va : ℕ) (entry : Entry) → Gets 2 s.spaces (inserted_at s target va entry)
  inserted_at_gets target va entry =
      one_of_two (inserted_at s target va entry) (inserted_gets s.spaces (slot_at s target).directory (page_number va) entry)

  page_alloc_left : (target : Option ℕ) (va perm : ℕ) → LeftBy (page_alloc_of s n target va perm)
  page_alloc_left None va perm = refused_left BadEnv
  page_alloc_left (Some target) va perm =
      by_case (not (is_page_address va)) _ _ (λ e. refused_left Invalid)
      (λ e. by_case (not (is_page_perm perm)) _ _ (λ e. refused_left Invalid)
      (λ e. with_left (second_of (allocated s.spaces (slot_at s target).directory (page_number va) perm))
      (allocated_gets s.spaces (slot_at s target).directory (page_number va) perm)))

  page_map_left_by : (target va : ℕ) (entry : Option Entry) → LeftBy (page_map_by s n target va entry)
  page_map_left_by target va None = refused_left Invalid
  page_map_left_by target va (Some entry) = with_left (inserted_at s target va entry) (inserted_at_gets target va entry)

  page_map_left : (source : Option ℕ) (source_va : ℕ) (target : Option ℕ) (target_va perm : ℕ) →
      LeftBy (page_map_of s n source source_va target target_va perm)
  page_map_left None source_va target target_va perm = refused_left BadEnv
  page_map_left (Some source) source_va None target_va perm = refused_left BadEnv
  page_map_left (Some source) source_va (Some target) target_va perm =
      by_case (not (is_page_address source_va)) _ _ (λ e. refused_left Invalid)
      (λ e. by_case (not (is_page_address target_va)) _ _ (λ e. refused_left Invalid)
      (λ e. page_map_left_by target target_va (shared_entry (entry_at s source source_va) perm)))

  page_unmap_left : (target : Option ℕ) (va : ℕ) → LeftBy (page_unmap_of s n target va)
  page_unmap_left None va = refused_left BadEnv
  page_unmap_left (Some target) va =
      by_case (not (is_page_address va)) _ _ (λ e. refused_left Invalid)
      (λ e. told_left (with_spaces s (unmapped s.spaces (slot_at s target).directory (page_number va)))
      (spaces_left _ (unmapped_frames s.spaces (slot_at s target).directory (page_number va))) 0)

  trapframe_left_by : (target va : ℕ) (bytes : Result (List ℕ) PageFault) → LeftBy (env_set_trapframe_by s n target va bytes)
  trapframe_left_by target va (Ok bytes) =
      let t : KernelState = with_bytes_reached s n va record_size in
      let regs : Regs = from_record (words_of_bytes bytes) in
      told_left (with_registers t target regs)
      (put_left t (spaces_left _ (all_touched_frames s.spaces (slot_at s n).directory va record_size)) target
      (record (slot_at t target) { registers = regs }) refl) 0
  trapframe_left_by target va (Err fault) = killed_left (UserMemCheck fault.va)

  trapframe_left : (target : Option ℕ) (va : ℕ) → LeftBy (env_set_trapframe_of s n target va)
  trapframe_left None va = refused_left BadEnv
  trapframe_left (Some target) va = trapframe_left_by target va (user_bytes s n va record_size)

  upcall_left : (target : Option ℕ) (address : ℕ) → LeftBy (env_set_pgfault_upcall_of s n target address)
  upcall_left None address = refused_left BadEnv
  upcall_left (Some target) address =
      told_left (with_upcall s target address)
      (put_left s same_left target (record (slot_at s target) { upcall = address }) refl) 0

  yield_left : (P → ⊥) → LeftBy (told (with_status s n Runnable) n 0)
  yield_left never =
      told_left (with_status s n Runnable)
      (record {
        rest = record { last = refl; turns = refl; frames = refl; refused = λ two some. refl; told = λ some. some };
        calm = λ p calm. absurd (never p);
      }) 0

  recv_left : (va sender : ℕ) → LeftBy (ipc_recv s n va sender)
  recv_left va sender =
      let t : KernelState = with_rendezvous s n (wanting (slot_at s n).rendezvous va sender) in
      by_case (nat_lt va UTOP && not (va % PGSIZE == 0)) _ _ (λ e. refused_left Invalid)
      (λ e. record {
        rest = record { last = refl; turns = refl; frames = refl; refused = λ two some. refl; told = λ some. some };
        calm = λ p calm. ap (λ (x : Slot). is_runnable x.status) (slot_put t n (record (slot_at t n) { status = NotRunnable }));
      })

  -- whoever gets a message is another
  message_left : (t : KernelState) → Left P s n t → (target value perm : ℕ) → (P → n ≢ target) →
      Left P s n (message_taken t n target value perm)
  message_left t h target value perm other =
      let r : Rendezvous = delivered (slot_at t target).rendezvous (slot_at t n).id value perm in
      let woken : KernelState = with_rendezvous t target r in
      let so : Left P s n woken = put_left t h target (record (slot_at t target) { rendezvous = r }) refl in
      record {
        rest = record { last = so.rest.last; turns = so.rest.turns; frames = so.rest.frames; refused = so.rest.refused; told = so.rest.told };
        calm = λ p calm.
            ap (λ (x : Slot). is_runnable x.status)
            (slot_kept woken target (with_answer (record (slot_at woken target) { status = Runnable }) 0) n (other p))
            ∙ so.calm p calm;
      }

  sent_left_with : (target value perm : ℕ) (spaces : Option SpacesState) → (P → n ≢ target) → Gets 2 s.spaces spaces →
      LeftBy (sent_with s n target value perm spaces)
  sent_left_with target value perm None other gets = told_left (with_refusal s) (refusal_left (λ two some. gets two)) _
  sent_left_with target value perm (Some spaces) other gets =
      told_left (message_taken (with_spaces s spaces) n target value perm)
      (message_left (with_spaces s spaces) (spaces_left spaces gets) target value perm other) 0

  sent_left : (target value : ℕ) (passing : Passing) → (P → n ≢ target) → LeftBy (sent s n target value passing)
  sent_left target value nothing other =
      told_left (message_taken s n target value 0) (message_left s same_left target value 0 other) 0
  sent_left target value (a_page entry) other =
      sent_left_with target value entry.perm (inserted_at s target (slot_at s target).rendezvous.destination entry) other
      (inserted_at_gets target (slot_at s target).rendezvous.destination entry)
  sent_left target value invalid other = refused_left Invalid

  -- who does not wait does not send to itself
  not_itself : (target : ℕ) → (slot_at s n).rendezvous.receiving ≡ false →
      not (accepts (slot_at s target).rendezvous (slot_at s n).id) ≡ false → n ≢ target
  not_itself target silent taken e = by_waiting (slot_at s target).rendezvous.receiving _ still taken
    where
      still : (slot_at s target).rendezvous.receiving ≡ false
      still = subst (λ (q : ℕ). (slot_at s q).rendezvous.receiving ≡ false) e silent

      by_waiting : (waits wanted : Bool) → waits ≡ false → not (waits && wanted) ≡ false → ⊥
      by_waiting false wanted none is = let contradiction : true ≡ false = is in cc
      by_waiting true wanted none is = let contradiction : true ≡ false = none in cc

  send_left : (P → (slot_at s n).rendezvous.receiving ≡ false) → (target : Option ℕ) (value va perm : ℕ) →
      LeftBy (ipc_try_send_of s n target value va perm)
  send_left silent None value va perm = refused_left BadEnv
  send_left silent (Some target) value va perm =
      by_case (not (accepts (slot_at s target).rendezvous (slot_at s n).id)) _ _ (λ e. refused_left IpcNotRecv)
      (λ e. sent_left target value (passing_of s n (slot_at s target).rendezvous.destination va perm)
      (λ p. not_itself target (silent p) e))

  call_left : (regs : Regs) → (P → (slot_at s n).rendezvous.receiving ≡ false) →
      (P → (regs.eax == SYS_YIELD) ≡ false) → (P → (regs.eax == SYS_ENV_SET_STATUS) ≡ false) → LeftBy (call_of s n regs)
  unfolding call_of
  call_left regs silent no_yield no_status =
      let named = found s.environments regs.edx n true in
      by_case (regs.eax == SYS_CPUTS) _ _ (λ e. cputs_left regs.edx regs.ecx)
      (λ e. by_case (regs.eax == SYS_CGETC) _ _ (λ e. cgetc_left s.input)
      (λ e. by_case (regs.eax == SYS_GETENVID) _ _ (λ e. told_left s same_left (slot_at s n).id)
      (λ e. by_case (regs.eax == SYS_ENV_DESTROY) _ _ (λ e. destroy_left named)
      (λ e. by_case (regs.eax == SYS_PAGE_ALLOC) _ _ (λ e. page_alloc_left named regs.ecx regs.ebx)
      (λ e. by_case (regs.eax == SYS_PAGE_MAP) _ _
      (λ e. page_map_left named regs.ecx (found s.environments regs.ebx n true) regs.edi regs.esi)
      (λ e. by_case (regs.eax == SYS_PAGE_UNMAP) _ _ (λ e. page_unmap_left named regs.ecx)
      (λ e. by_case (regs.eax == SYS_EXOFORK) _ _ (λ e. exofork_left)
      (λ e. by_case (regs.eax == SYS_ENV_SET_STATUS) _ _
      (λ e. status_left (λ p. different e (no_status p)) named (status_named regs.ecx))
      (λ e. by_case (regs.eax == SYS_ENV_SET_TRAPFRAME) _ _ (λ e. trapframe_left named regs.ecx)
      (λ e. by_case (regs.eax == SYS_ENV_SET_PGFAULT_UPCALL) _ _ (λ e. upcall_left named regs.ecx)
      (λ e. by_case (regs.eax == SYS_YIELD) _ _ (λ e. yield_left (λ p. different e (no_yield p)))
      (λ e. by_case (regs.eax == SYS_IPC_TRY_SEND) _ _
      (λ e. send_left silent (found s.environments regs.edx n false) regs.ecx regs.ebx regs.edi)
      (λ e. by_case (regs.eax == SYS_IPC_RECV) _ _ (λ e. recv_left regs.edx regs.ecx) (λ e. refused_left Invalid))))))))))))))
    where
      different : {test : Bool} → test ≡ true → test ≡ false → ⊥
      different yes_so not_so = let contradiction : true ≡ false = sym yes_so ∙ not_so in cc

  -- ---- accesses

  entered_left : (fault : PageFault) (place : ℕ) (reached : Result FrameOffset PageFault) →
      IfSome (handler_entered s n fault place reached) (Left P s n)
  entered_left fault place (Err refusal) = tt
  entered_left fault place (Ok at) =
      let k = slot_at s n in
      let t : KernelState =
      with_spaces s (with_page_bytes (touched s.spaces k.directory place Write) at.frame
      (overlaid ((touched s.spaces k.directory place Write).pages at.frame) at.offset (frame_bytes fault k.registers))) in
      let h = put_left t (spaces_left t.spaces (touched_frames s.spaces k.directory place Write)) n
      (record k { registers = record k.registers { esp = place; eip = k.upcall } }) refl in
      record {
        rest = record { last = h.rest.last; turns = h.rest.turns; frames = h.rest.frames; refused = h.rest.refused; told = h.rest.told };
        calm = h.calm;
      }

  handled_left : (fault : PageFault) → IfSome (handled s n fault) (Left P s n)
  unfolding handled
  handled_left fault = by_upcall ((slot_at s n).upcall == 0) (upcall_place (slot_at s n).registers.esp)
    where
      by_upcall : (test : Bool) (place : Option ℕ) → IfSome (if test then None else handled_at s n fault place) (Left P s n)
      by_upcall true place = tt
      by_upcall false None = tt
      by_upcall false (Some place) = entered_left fault place (reach_in s.spaces (slot_at s n).directory place Write)

  fault_left : (X : Type 0) (fault : PageFault) (after : Option KernelState) → IfSome after (Left P s n) →
      Left P s n (faulting {X = X} s n fault after).state
  fault_left X fault (Some after) h = h
  fault_left X fault None h = killed_left (UserFault fault.va (slot_at s n).registers.eip)

  -- an access, by what is done in the state in which it has set its bits
  access_left : {X : Type 0} (va : ℕ) (a : Access) (done : KernelState → CallStep X) →
      ((k : KernelState) → Left P s n k → Left P s n (done k).state) → Left P s n (by_access s n va a done).state
  access_left {X = X} va a done left = by_reach (reach_in s.spaces (slot_at s n).directory va a)
    where
      by_reach : (reached : Result FrameOffset PageFault) → Left P s n (accessing s n va a done reached).state
      by_reach (Ok location) = left _ (spaces_left _ (touched_frames s.spaces (slot_at s n).directory va a))
      by_reach (Err fault) = fault_left _ fault (handled s n fault) (handled_left fault)

  put_left_bytes : (k : KernelState) (va : ℕ) (bytes : List ℕ) → Left P s n k → Left P s n (with_bytes_put k n va bytes)
  put_left_bytes k va [] h = h
  put_left_bytes k va (byte ∷ rest) h =
      let t : KernelState = with_user_byte k n va byte in
      put_left_bytes t (va + 1) rest (record {
        rest = record {
          last = h.rest.last;
          turns = h.rest.turns;
          frames = stored_frames k.spaces (slot_at k n).directory va byte ∙ h.rest.frames;
          refused = h.rest.refused;
          told = h.rest.told;
        };
        calm = h.calm;
      })

  pub load_left : (va : ℕ) → Left P s n (load s n va).state
  unfolding load
  load_left va = access_left va Read (λ after. giving after (user_word after n va)) (λ k h. h)

  pub load_byte_left : (va : ℕ) → Left P s n (load_byte s n va).state
  unfolding load_byte
  load_byte_left va = access_left va Read (λ after. giving after (user_byte after n va)) (λ k h. h)

  pub store_left : (va word : ℕ) → Left P s n (store s n va word).state
  unfolding store
  store_left va word =
      access_left va Write (λ after. giving (with_user_word after n va word) tt) (λ k h. put_left_bytes k va (to_le_bytes w32 word) h)

  pub store_byte_left : (va byte : ℕ) → Left P s n (store_byte s n va byte).state
  unfolding store_byte
  store_byte_left va byte =
      access_left va Write (λ after. giving (with_user_byte after n va byte) tt) (λ k h. put_left_bytes k va (byte ∷ []) h)

  pub exchange_left : (va word : ℕ) → Left P s n (exchange s n va word).state
  unfolding exchange
  exchange_left va word =
      access_left va Write (λ after. record { state = with_user_word after n va word; gives = got (user_word after n va); written = [] })
      (λ k h. put_left_bytes k va (to_le_bytes w32 word) h)

  pub restore_left : Left P s n (restore_frame s n).state
  unfolding restore_frame
  restore_left = by_bytes (user_bytes s n (slot_at s n).registers.esp frame_size)
    where
      by_bytes : (r : Result (List ℕ) PageFault) → Left P s n (restored s n r).state
      by_bytes (Ok bytes) =
          let t : KernelState = with_bytes_reached s n (slot_at s n).registers.esp frame_size in
          put_left t (spaces_left _ (all_touched_frames s.spaces (slot_at s n).directory (slot_at s n).registers.esp frame_size)) n
          (record (slot_at t n) { registers = from_frame (words_of_bytes bytes) }) refl
      by_bytes (Err fault) = fault_left _ fault (handled s n fault) (handled_left fault)

-- ---- by the call

pub running_calm : (status : Status) → is_running status ≡ true → is_runnable status ≡ false
running_calm Running is = refl
running_calm Runnable is = absurd (let contradiction : false ≡ true = is in cc)
running_calm _ is = refl

-- the calls in which an environment may make itself RUNNABLE
abbrev pub wakes : ℕ → Bool
wakes number = (number == SYS_YIELD) || (number == SYS_ENV_SET_STATUS)

module _ (s : KernelState) (n number : ℕ) (args : List ℕ) where
  -- an environment that waits for nothing makes a call in which it does not wake itself
  abbrev pub StaysCalm : Type 0
  StaysCalm = ((slot_at s n).rendezvous.receiving ≡ false) × (wakes number ≡ false)

  -- what any call leaves
  pub system_left : Left StaysCalm s n (system s n number args).state
  unfolding system
  system_left =
      let regs = (slot_at s n).registers in
      let q : Regs = asking regs number args in
      let k : KernelState = with_registers s n q in
      let k_is : slot_at k n ≡ record (slot_at s n) { registers = q } = slot_put s n (record (slot_at s n) { registers = q }) in
      let same : (slot_at k n).registers.eax ≡ number = ap (λ (x : Slot). x.registers.eax) k_is in
      let h = call_left StaysCalm k n (slot_at k n).registers
      (λ p. ap (λ (x : Slot). x.rendezvous.receiving) k_is ∙ p.0)
      (λ p. ap (λ (m : ℕ). m == SYS_YIELD) same ∙ (or_parts _ _ p.1).0)
      (λ p. ap (λ (m : ℕ). m == SYS_ENV_SET_STATUS) same ∙ (or_parts _ _ p.1).1) in
      let done : KernelState = (call_of k n (slot_at k n).registers).state in
      by_test done (is_live (slot_at done n) && not (sets_own s n number args))
      (record {
        rest = record { last = h.rest.last; turns = h.rest.turns; frames = h.rest.frames; refused = h.rest.refused; told = h.rest.told };
        calm = λ p calm. h.calm p (ap (λ (x : Slot). is_runnable x.status) k_is ∙ calm);
      })
    where
      by_test : (t : KernelState) (test : Bool) → Left StaysCalm s n t →
          Left StaysCalm s n (if test then with_registers t n (slot_at s n).registers else t)
      by_test t true h = put_left StaysCalm s n t h n (record (slot_at t n) { registers = (slot_at s n).registers }) refl
      by_test t false h = h
