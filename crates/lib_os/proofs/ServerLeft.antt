-- What a step of the library leaves to the file server, by the call that it makes: its slot, the entries and regions of its space, and the
-- bytes of its pages which the caller has not, or has as pages of descriptors alone. No environment but itself may change it, and one writes
-- pages of its own alone, which are no descriptors'.
use Rattle.std.proofs.Common.{◌≡◌, ◌≢◌, ◌∙◌, ◌==◌, ◌%◌, ◌/◌, ◌+◌, ◌-◌, ◌<◌, ◌≤◌, ◌&&◌, ◌||◌, ◌⊎◌, inl, inr, ℕ, Bool, true, false, not, List, [], ◌∷◌, refl, sym, ap}
use Rattle.std.proofs.Common.{Option, Some, None, Result, Ok, Err, IfSome, subst, arith, if◌then◌else◌}
use Rattle.std.specs.Prelude.{nat_le, nat_lt, get_or, length}
use Rattle.std.specs.Int.{w32, to_le_bytes}
use Rattle.std.proofs.lemmas.Bool.{and_parts, or_parts, or_right}
use Rattle.std.proofs.lemmas.Bool.Decides.{nat_tests}
use Rattle.std.proofs.lemmas.Option.{same_Some}
use Rattle.jos_base.specs.declared.environment.Status.{Status}
use Rattle.jos_base.specs.declared.environment.Status.TheVariants.{NotRunnable, Runnable}
use Rattle.jos_base.specs.declared.errno.Errno.{Errno}
use Rattle.jos_base.specs.declared.errno.Errno.TheVariants.{BadEnv, Invalid, IpcNotRecv}
use Rattle.jos_base.specs.declared.line.Line.{Line}
use Rattle.jos_base.specs.declared.line.Line.TheVariants.{UserFault, UserMemCheck}
use Rattle.jos_base.specs.declared.memory.Access.{Access}
use Rattle.jos_base.specs.declared.memory.Access.TheVariants.{Read, Write}
use Rattle.jos_base.specs.declared.memory.PageFault.{PageFault}
use Rattle.jos_base.specs.declared.numbers.TheConstants.{CPUTS_MAX, FIRST_ENV_ID, NENV, PGSIZE, UTOP, UXSTACKTOP, SYS_CPUTS, SYS_CGETC, SYS_GETENVID}
use Rattle.jos_base.specs.declared.numbers.TheConstants.{SYS_ENV_DESTROY, SYS_PAGE_ALLOC, SYS_PAGE_MAP, SYS_PAGE_UNMAP, SYS_EXOFORK}
use Rattle.jos_base.specs.declared.numbers.TheConstants.{SYS_ENV_SET_STATUS, SYS_ENV_SET_TRAPFRAME, SYS_ENV_SET_PGFAULT_UPCALL, SYS_YIELD}
use Rattle.jos_base.specs.declared.numbers.TheConstants.{SYS_IPC_TRY_SEND, SYS_IPC_RECV}
use Rattle.jos_base.specs.declared.registers.Regs.{Regs}
use Rattle.jos_base.specs.Environments.{Slot, is_live, found, found_at, may_change, free_slot, with_answer, new_slot, next_id, allotted}
use Rattle.jos_base.specs.Environments.{allotted_from}
use Rattle.jos_base.specs.KernelState.{KernelState, slot_at, with_slot_at, with_spaces, with_registers, with_status, with_rendezvous}
use Rattle.jos_base.specs.KernelState.{with_upcall, with_refusal, with_directory}
use Rattle.jos_base.specs.Messages.{Rendezvous, accepts, delivered, wanting}
use Rattle.jos_base.specs.Reach.{Entry, FrameOffset}
use Rattle.jos_base.specs.SpacesState.{SpacesState, allocated, created, created_from, directory, overlaid, unmapped}
use Rattle.jos_base.specs.SystemCalls.{Did, answered as told, refused, without_environment, killed, user_bytes, with_bytes_reached, cputs_of, cputs}
use Rattle.jos_base.specs.SystemCalls.{cgetc_from, env_destroy_of, status_named, env_set_status_of, is_page_address, is_page_perm}
use Rattle.jos_base.specs.SystemCalls.{shared_entry, entry_at, inserted_at, answered_with, second_of, page_alloc_of, page_map_by, page_map_of}
use Rattle.jos_base.specs.SystemCalls.{page_unmap_of, record_size, env_set_trapframe_by, env_set_trapframe_of, env_set_pgfault_upcall_of}
use Rattle.jos_base.specs.SystemCalls.{message_taken, Passing, nothing, a_page, invalid, passing_by, passing_of, sent_with, sent}
use Rattle.jos_base.specs.SystemCalls.{environment_made, exofork, exofork_of, made_of, ipc_try_send_of, ipc_recv, call_of}
use Rattle.jos_base.specs.SystemCalls.{handler_entered, handled_at, handled}
use Rattle.jos_base.specs.TrapFrames.{words_of_bytes, from_frame, from_record, exception_stack, frame_bytes, frame_size, upcall_place}
use Rattle.jos_base.specs.UserMemory.{reach_in, touched, all_touched, stored_byte}
use Rattle.jos_base.specs.Words.{page_number, upd}
use Rattle.lib_os.specs.AbstractState.{AbstractState, AbstractSlot}
use Rattle.lib_os.specs.InOrder.{HasOneUse, IsInOrder, AreFree}
use Rattle.lib_os.specs.declared.service.Service.{Service}
use Rattle.lib_os.specs.declared.service.Service.TheVariants as service
use Rattle.lib_os.specs.LibrarySteps.{BringsRequest, Stands, KeepsServer, LeavesOrAsks, asked_it, left_alone, spawn_asked}
use Rattle.lib_os.specs.Rows.{Names, is_of_descriptor}
use Rattle.lib_os.specs.StandsFor.{StandsFor, StandsForSlot, StandsForServer}
use Rattle.lib_os.specs.UserCalls.{CallStep, giving, accessing, by_access, faulting, user_byte, user_word, with_user_byte, with_user_word}
use Rattle.lib_os.specs.UserCalls.{got, with_bytes_put, load, load_byte, store, store_byte, exchange, restored, restore_frame, asking, sets_own, system}
use Rattle.lib_os.proofs.Forked.{given, slot_was_free}
use Rattle.lib_os.proofs.OthersKept.{NextIsFree, sets_others}
use Rattle.lib_os.proofs.Slots.{slot_kept, slots_alike}
use Rattle.lib_os.proofs.SpacesLeft.{SpaceLeft, IsNoPage, IsBesidePages, begins_beside, free_is_none, same_left, bytes_left, unmapped_left}
use Rattle.lib_os.proofs.SpacesLeft.{inserted_left, allocated_left, touched_left, all_touched_left, destroyed_left, touched_beside, stored_left}
use Rattle.lib_os.proofs.SpacesLeft.{stored_beside, written_none}
use Rattle.lib_os.proofs.StatesStand.{slot_was_in_order}
use Rattle.lib_os.proofs.UsesCalled.{found_lives}
use Rattle.jos_base.proofs.Maps.{upd-at, upd-other}
use Rattle.jos_base.proofs.Uses.{directory_is}

-- ---- what is known of the one that calls

-- The caller is not the file server, whose space this is, and may not change it; each other environment has another space.
pub record IsAside (d : ℕ) (s : KernelState) (n : ℕ) : Type 0 where
  pub frames : HasOneUse s.spaces
  pub other : n ≢ 0
  pub live : is_live (slot_at s n) ≡ true
  pub first : is_live (slot_at s 0) ≡ true
  pub named : (slot_at s 0).id ≡ FIRST_ENV_ID
  pub no_child : (slot_at s 0).parent ≢ (slot_at s n).id
  pub homes : (m : ℕ) → m ≢ 0 → is_live (slot_at s m) ≡ true →
      ((slot_at s m).directory ≢ d) × (s.spaces.uses (slot_at s m).directory ≡ directory)

-- wherever the state stands for an abstract one
pub aside_where : {names : Names} {s : KernelState} {a : AbstractState} → StandsFor names s a → (n : ℕ) → n ≢ 0 → is_live (slot_at s n) ≡ true →
    IsAside (slot_at s 0).directory s n
aside_where {names = names} {s = s} {a = a} h n other live = record {
  frames = h.in_order.frames;
  other = other;
  live = live;
  first = k.lives;
  named = k.id_is;
  no_child = λ same.
      let id : (slot_at s n).id % NENV ≡ n = h.tabled.ids n live in
      let none : (slot_at s n).id ≡ 0 = sym same ∙ k.parent in
      other (sym id ∙ ap (λ (i : ℕ). i % NENV) none);
  homes = λ m ne lives. (
    apart m ne lives,
    directory_is (s.spaces.uses (slot_at s m).directory) (h.in_order.spaces.in_use m lives),
  );
}
  where
    k : StandsForServer (slot_at s 0) FIRST_ENV_ID
    k = subst (λ (z : AbstractSlot). StandsForSlot names s.spaces (slot_at s 0) z) h.first (h.slots 0)

    apart : (m : ℕ) → m ≢ 0 → is_live (slot_at s m) ≡ true → (slot_at s m).directory ≢ (slot_at s 0).directory
    apart m ne lives same = ne (h.in_order.spaces.apart m 0 lives k.lives same)

-- it has other registers
pub aside_asked : (d : ℕ) (s : KernelState) (n : ℕ) (q : Regs) → IsAside d s n → IsAside d (with_registers s n q) n
aside_asked d s n q h = record {
  frames = h.frames;
  other = h.other;
  live = slots_alike s n (λ (x : Slot). is_live x) slot refl n ∙ h.live;
  first = slots_alike s n (λ (x : Slot). is_live x) slot refl 0 ∙ h.first;
  named = slots_alike s n (λ (x : Slot). x.id) slot refl 0 ∙ h.named;
  no_child = λ same. h.no_child (sym (slots_alike s n (λ (x : Slot). x.parent) slot refl 0) ∙ same ∙ slots_alike s n (λ (x : Slot). x.id) slot refl n);
  homes = λ m ne lives.
      let it = h.homes m ne (sym (slots_alike s n (λ (x : Slot). is_live x) slot refl m) ∙ lives) in (
        λ same. it.0 (sym (slots_alike s n (λ (x : Slot). x.directory) slot refl m) ∙ same),
        ap s.spaces.uses (slots_alike s n (λ (x : Slot). x.directory) slot refl m) ∙ it.1,
      );
}
  where
    slot : Slot
    slot = record (slot_at s n) { registers = q }

-- ---- what is left

pub record ServerStays (d n : ℕ) (s t : KernelState) : Type 0 where
  pub slot : slot_at t 0 ≡ slot_at s 0
  pub space : SpaceLeft (slot_at s n).directory d s.spaces t.spaces

-- it is left wherever the state stands for an abstract one
pub keeps_server : (s t : KernelState) (n : ℕ) →
    (IsInOrder t → (a : AbstractState) → Stands s a → (d : ℕ) → IsAside d s n → ServerStays d n s t) → KeepsServer n s t
keeps_server s t n left then_so other live a h =
    let it = left then_so a h (slot_at s 0).directory (aside_where h.1 n other live) in
    left_alone (record { slot = it.slot; entries = it.space.entries; regions = it.space.regions; pages = it.space.pages })

-- a word that lies there lies in no page of a descriptor's
abbrev pub IsWordBeside : ℕ → Type 0
IsWordBeside va = (is_of_descriptor (page_number va) ≡ false) × (is_of_descriptor (page_number (va + 3)) ≡ false)

-- as it is where it lies at a multiple of four, in one page
pub aligned_beside : (va : ℕ) → va % 4 ≡ 0 → is_of_descriptor (page_number va) ≡ false → IsWordBeside va
aligned_beside va aligned other =
    let same : (va + 3) / PGSIZE ≡ va / PGSIZE = omega (arith, aligned) in
    (other, ap is_of_descriptor same ∙ other)

-- then each of its bytes does
word_byte : (va i : ℕ) → i ≤ 3 → IsWordBeside va → is_of_descriptor (page_number (va + i)) ≡ false
word_byte va i small it =
    let first = it.0 in
    let last = it.1 in
    grind (arith, nat_tests)

-- nor is the frame of a fault pushed in one
place_beside : (esp place : ℕ) → upcall_place esp ≡ Some place → is_of_descriptor (page_number place) ≡ false
unfolding upcall_place
place_beside esp place is = by_tests (nat_le exception_stack esp && nat_lt esp UXSTACKTOP) refl (nat_lt esp (exception_stack + frame_size + 4)) refl is
  where
    by_tests : (a : Bool) → (nat_le exception_stack esp && nat_lt esp UXSTACKTOP) ≡ a → (b : Bool) → nat_lt esp (exception_stack + frame_size + 4) ≡ b →
        (if a then (if b then None else Some (esp - (frame_size + 4))) else Some (UXSTACKTOP - frame_size)) ≡ Some place →
        is_of_descriptor (page_number place) ≡ false
    by_tests false ea b eb some = let same : UXSTACKTOP - frame_size ≡ place = same_Some _ place some in grind (arith, nat_tests)
    by_tests true ea true eb none = absurd cc
    by_tests true ea false eb some =
        let same : esp - (frame_size + 4) ≡ place = same_Some _ place some in
        let above : exception_stack + frame_size + 4 ≤ esp = grind (arith, nat_tests) in
        grind (arith, nat_tests)

-- a call that names no page that may pass
abbrev pub is_no_page : ℕ → Bool
is_no_page va = nat_lt va UTOP && not (va % PGSIZE == 0)

-- a call that sends nothing to the file server
abbrev pub sends_aside : ℕ → List ℕ → Bool
sends_aside number args = not (number == SYS_IPC_TRY_SEND) || (is_no_page (get_or args 2 0) || not (get_or args 0 0 == FIRST_ENV_ID))

-- one that names another
pub sent_aside : (args : List ℕ) → get_or args 0 0 ≢ FIRST_ENV_ID → sends_aside SYS_IPC_TRY_SEND args ≡ true
sent_aside args other =
    or_right (is_no_page (get_or args 2 0)) (not (get_or args 0 0 == FIRST_ENV_ID))
    (let off : (get_or args 0 0 == FIRST_ENV_ID) ≡ false = grind (arith, nat_tests) in ap not off)

module _ (d : ℕ) (s : KernelState) (n : ℕ) (h : IsAside d s n) where
  abbrev home : ℕ
  home = (slot_at s n).directory

  -- the state that comes of what is done
  abbrev Left : KernelState → Type 0
  Left t = ServerStays d n s t

  abbrev LeftBy : Did → Type 0
  LeftBy did = ServerStays d n s did.state

  by_case : (test : Bool) (a b : Did) → (test ≡ true → LeftBy a) → (test ≡ false → LeftBy b) → LeftBy (if test then a else b)
  by_case true a b first second = first refl
  by_case false a b first second = second refl

  home_apart : home ≢ d
  home_apart = let it = h.homes n h.other h.live in it.0

  beside : IsBesidePages home d s.spaces h.frames s.spaces
  beside = begins_beside home d s.spaces h.frames

  -- ---- changes of the state

  still : SpaceLeft home d s.spaces s.spaces
  still = same_left home d s.spaces h.frames

  stays_so : Left s
  stays_so = record { slot = refl; space = still }

  spaces_stay : (t : SpacesState) → SpaceLeft home d s.spaces t → Left (with_spaces s t)
  spaces_stay t k = record { slot = refl; space = k }

  put_stays : (t : KernelState) → Left t → (k : ℕ) (slot : Slot) → k ≢ 0 → Left (with_slot_at t k slot)
  put_stays t it k slot ne = record { slot = upd-other t.environments.slots k slot 0 (λ same. ne (sym same)) ∙ it.slot; space = it.space }

  told_stays : (t : KernelState) → Left t → (answer : ℕ) → LeftBy (told t n answer)
  told_stays t it answer = put_stays t it n (with_answer (slot_at t n) answer) h.other

  refused_stays : (error : Errno) → LeftBy (refused s n error)
  refused_stays error = told_stays s stays_so _

  refusal_stays : Left (with_refusal s)
  refusal_stays = record { slot = refl; space = still }

  gone_stays : (target : ℕ) → target ≢ 0 → is_live (slot_at s target) ≡ true → Left (without_environment s target)
  gone_stays target ne lives =
      let it = h.homes target ne lives in
      record {
        slot = upd-other s.environments.slots target (free_slot (slot_at s target).id) 0 (λ same. ne (sym same));
        space = destroyed_left home d s.spaces h.frames (slot_at s target).directory it.0 it.1;
      }

  killed_stays : (line : Line) → LeftBy (killed s n line)
  unfolding killed
  killed_stays line = let it = gone_stays n h.other h.live in record { slot = it.slot; space = it.space }

  -- ---- who is named

  -- the file server is no child of the caller's
  not_changed : may_change s.environments n 0 ≡ false
  not_changed =
      let other : (0 == n) ≡ false = (let ne = h.other in grind (arith, nat_tests)) in
      let no_child : ((slot_at s 0).parent == (slot_at s n).id) ≡ false = (let ne = h.no_child in grind (arith, nat_tests)) in
      (λ i. other i || no_child i)

  other_named : (id m : ℕ) → found s.environments id n true ≡ Some m → m ≢ 0
  unfolding found
  other_named id m is = by_zero (id == 0) is
    where
      k : ℕ
      k = id % NENV

      by_tests : (t r : Bool) → not (may_change s.environments n k) ≡ r → (if not t then None else if r then None else Some k) ≡ Some m → m ≢ 0
      by_tests false r may none zero = absurd cc
      by_tests true true may none zero = absurd cc
      by_tests true false may some zero =
          let same : k ≡ 0 = same_Some k m some ∙ zero in
          absurd (
          let contradiction : true ≡ false = ap not (sym not_changed) ∙ ap (λ (q : ℕ). not (may_change s.environments n q)) (sym same) ∙ may in cc
          )

      by_zero : (t : Bool) → (if t then Some n else found_at s.environments id k n true) ≡ Some m → m ≢ 0
      by_zero true some zero = h.other (same_Some n m some ∙ zero)
      by_zero false some zero =
          by_tests (is_live (s.environments.slots k) && ((s.environments.slots k).id == id)) (not (may_change s.environments n k)) refl some zero

  -- nor does another id name it
  other_sent : (id m : ℕ) → id ≢ FIRST_ENV_ID → found s.environments id n false ≡ Some m → m ≢ 0
  unfolding found
  other_sent id m differs is = by_zero (id == 0) is
    where
      k : ℕ
      k = id % NENV

      by_tests : (t u : Bool) → ((s.environments.slots k).id == id) ≡ u → (if not (t && u) then None else Some k) ≡ Some m → m ≢ 0
      by_tests false u test none zero = absurd cc
      by_tests true false test none zero = absurd cc
      by_tests true true test some zero =
          let same : (s.environments.slots k).id ≡ id = grind (arith, nat_tests) in
          let here : k ≡ 0 = same_Some k m some ∙ zero in
          differs (sym same ∙ ap (λ (q : ℕ). (s.environments.slots q).id) here ∙ h.named)

      by_zero : (t : Bool) → (if t then Some n else found_at s.environments id k n false) ≡ Some m → m ≢ 0
      by_zero true some zero = h.other (same_Some n m some ∙ zero)
      by_zero false some zero = by_tests (is_live (s.environments.slots k)) ((s.environments.slots k).id == id) refl some zero

  -- one that is named
  abbrev IsTarget : Option ℕ → Type 0
  IsTarget o = (m : ℕ) → o ≡ Some m → (m ≢ 0) × (is_live (slot_at s m) ≡ true)

  named_target : (id : ℕ) → IsTarget (found s.environments id n true)
  named_target id m is = (other_named id m is, found_lives s.environments id n m true h.live is)

  -- ---- the calls

  reached_stays : (va len : ℕ) → Left (with_bytes_reached s n va len)
  reached_stays va len =
      spaces_stay (all_touched s.spaces (slot_at s n).directory va len)
      (all_touched_left home d s.spaces h.frames home home_apart s.spaces va len still)

  cputs_stays_of : (va len : ℕ) (bytes : Result (List ℕ) PageFault) → LeftBy (cputs_of s n va len bytes)
  cputs_stays_of va len (Ok bytes) =
      let it = told_stays (with_bytes_reached s n va len) (reached_stays va len) 0 in record { slot = it.slot; space = it.space }
  cputs_stays_of va len (Err fault) = killed_stays (UserMemCheck fault.va)

  cputs_stays : (va len : ℕ) → LeftBy (cputs s n va len)
  cputs_stays va len =
      by_case (nat_lt CPUTS_MAX len) _ _ (λ e. refused_stays Invalid) (λ e. cputs_stays_of va len (user_bytes s n va len))

  cgetc_stays : (input : List ℕ) → LeftBy (cgetc_from s n input)
  cgetc_stays [] = told_stays s stays_so _
  cgetc_stays (byte ∷ rest) = told_stays (record s { input = rest }) (record { slot = refl; space = still }) byte

  destroy_stays : (target : Option ℕ) → IsTarget target → LeftBy (env_destroy_of s n target)
  destroy_stays None is = refused_stays BadEnv
  destroy_stays (Some target) is =
      let it = is target refl in
      by_case (target == n) _ _
      (λ e. let gone = gone_stays n h.other h.live in record { slot = gone.slot; space = gone.space })
      (λ e. told_stays (without_environment s target) (gone_stays target it.0 it.1) 0)

  exofork_stays_so : NextIsFree s → LeftBy (exofork s n)
  unfolding environment_made allotted created
  exofork_stays_so vacant = by_lists s.environments.free_slots refl s.spaces.free refl
    where
      by_lists : (slots : List ℕ) → s.environments.free_slots ≡ slots → (frames : List ℕ) → s.spaces.free ≡ frames →
          LeftBy (exofork_of s n (made_of s (allotted_from s.environments (slot_at s n).id slots) (created_from s.spaces frames)))
      by_lists [] slots_are frames frames_are = told_stays (with_refusal s) refusal_stays _
      by_lists (child ∷ others) slots_are [] frames_are = told_stays (with_refusal s) refusal_stays _
      by_lists (child ∷ others) slots_are (frame ∷ rest) frames_are =
          let other : child ≢ 0 =
          λ zero. absurd (
          let contradiction : true ≡ false = sym h.first ∙ ap (λ (m : ℕ). is_live (slot_at s m)) (sym zero)
          ∙ vacant child others frame rest slots_are frames_are in cc
          ) in
          let slot : Slot = new_slot (next_id (slot_at s child).id child) (slot_at s n).id in
          let t : KernelState = record s {
            environments = record { slots = upd s.environments.slots child slot; free_slots = others };
            spaces = record s.spaces { uses = upd s.spaces.uses frame directory; free = rest; pages = upd s.spaces.pages frame [] };
          } in
          let listed = subst (λ (l : List ℕ). AreFree s.spaces.uses l) frames_are h.frames.free_list in
          let space = bytes_left home d s.spaces h.frames s.spaces frame [] (free_is_none home d s.spaces h.frames frame listed.0) still in
          let made : Left t = record {
            slot = upd-other s.environments.slots child slot 0 (λ same. other (sym same));
            space = record { entries = space.entries; regions = space.regions; pages = space.pages };
          } in
          let u : KernelState = with_directory t child frame in
          let homed : Left u = put_stays t made child (record (slot_at t child) { directory = frame }) other in
          let regs : Regs = record (slot_at s n).registers { eax = 0 } in
          told_stays (with_registers u child regs) (put_stays u homed child (record (slot_at u child) { registers = regs }) other) (slot_at u child).id

  status_stays : (target : Option ℕ) (status : Option Status) → IsTarget target → LeftBy (env_set_status_of s n target status)
  status_stays None status is = refused_stays BadEnv
  status_stays (Some target) None is = refused_stays Invalid
  status_stays (Some target) (Some status) is =
      let it = is target refl in
      told_stays (with_status s target status) (put_stays s stays_so target (record (slot_at s target) { status = status }) it.0) 0

  with_stays : (o : Option SpacesState) → ((t : SpacesState) → o ≡ Some t → SpaceLeft home d s.spaces t) → LeftBy (answered_with s n o)
  with_stays None so = told_stays (with_refusal s) refusal_stays _
  with_stays (Some spaces) so = told_stays (with_spaces s spaces) (spaces_stay spaces (so spaces refl)) 0

  inserted_stays : (target va : ℕ) (e : Entry) (t : SpacesState) → target ≢ 0 → is_live (slot_at s target) ≡ true →
      inserted_at s target va e ≡ Some t → SpaceLeft home d s.spaces t
  inserted_stays target va e t ne lives is =
      let it = h.homes target ne lives in
      inserted_left home d s.spaces h.frames (slot_at s target).directory it.0 t (page_number va) e is

  page_alloc_stays : (o : Option ℕ) (va perm : ℕ) → IsTarget o → LeftBy (page_alloc_of s n o va perm)
  page_alloc_stays None va perm is = refused_stays BadEnv
  page_alloc_stays (Some target) va perm is =
      by_case (not (is_page_address va)) _ _ (λ e. refused_stays Invalid)
      (λ e. by_case (not (is_page_perm perm)) _ _ (λ e. refused_stays Invalid)
      (λ e. by_made (allocated s.spaces (slot_at s target).directory (page_number va) perm) refl))
    where
      by_made : (made : Option (ℕ × SpacesState)) → allocated s.spaces (slot_at s target).directory (page_number va) perm ≡ made →
          LeftBy (answered_with s n (second_of made))
      by_made None at = told_stays (with_refusal s) refusal_stays _
      by_made (Some made) at =
          let to = is target refl in
          let it = h.homes target to.0 to.1 in
          told_stays (with_spaces s made.1)
          (spaces_stay made.1 (allocated_left home d s.spaces h.frames (slot_at s target).directory it.0 (page_number va) perm made at)) 0

  page_map_stays : (source : Option ℕ) (source_va : ℕ) (o : Option ℕ) (va perm : ℕ) → IsTarget o →
      LeftBy (page_map_of s n source source_va o va perm)
  page_map_stays None source_va o va perm is = refused_stays BadEnv
  page_map_stays (Some source) source_va None va perm is = refused_stays BadEnv
  page_map_stays (Some source) source_va (Some target) va perm is =
      by_case (not (is_page_address source_va)) _ _ (λ e. refused_stays Invalid)
      (λ e. by_case (not (is_page_address va)) _ _ (λ e. refused_stays Invalid)
      (λ e. by_entry (shared_entry (entry_at s source source_va) perm)))
    where
      by_entry : (o : Option Entry) → LeftBy (page_map_by s n target va o)
      by_entry None = refused_stays Invalid
      by_entry (Some e) =
          let to = is target refl in with_stays (inserted_at s target va e) (λ t at. inserted_stays target va e t to.0 to.1 at)

  page_unmap_stays : (o : Option ℕ) (va : ℕ) → IsTarget o → LeftBy (page_unmap_of s n o va)
  page_unmap_stays None va is = refused_stays BadEnv
  page_unmap_stays (Some target) va is =
      let to = is target refl in
      let it = h.homes target to.0 to.1 in
      by_case (not (is_page_address va)) _ _ (λ e. refused_stays Invalid)
      (λ e. told_stays (with_spaces s (unmapped s.spaces (slot_at s target).directory (page_number va)))
      (spaces_stay _ (unmapped_left home d s.spaces h.frames (slot_at s target).directory it.0 s.spaces (page_number va) still)) 0)

  trapframe_stays : (o : Option ℕ) (va : ℕ) → IsTarget o → LeftBy (env_set_trapframe_of s n o va)
  trapframe_stays None va is = refused_stays BadEnv
  trapframe_stays (Some target) va is = by_bytes (user_bytes s n va record_size)
    where
      by_bytes : (bytes : Result (List ℕ) PageFault) → LeftBy (env_set_trapframe_by s n target va bytes)
      by_bytes (Ok bytes) =
          let to = is target refl in
          let t : KernelState = with_bytes_reached s n va record_size in
          let regs : Regs = from_record (words_of_bytes bytes) in
          told_stays (with_registers t target regs)
          (put_stays t (reached_stays va record_size) target (record (slot_at t target) { registers = regs }) to.0) 0
      by_bytes (Err fault) = killed_stays (UserMemCheck fault.va)

  upcall_stays : (o : Option ℕ) (address : ℕ) → IsTarget o → LeftBy (env_set_pgfault_upcall_of s n o address)
  upcall_stays None address is = refused_stays BadEnv
  upcall_stays (Some target) address is =
      let to = is target refl in
      told_stays (with_upcall s target address) (put_stays s stays_so target (record (slot_at s target) { upcall = address }) to.0) 0

  yield_stays : LeftBy (told (with_status s n Runnable) n 0)
  yield_stays = told_stays (with_status s n Runnable) (put_stays s stays_so n (record (slot_at s n) { status = Runnable }) h.other) 0

  recv_stays : (va sender : ℕ) → LeftBy (ipc_recv s n va sender)
  recv_stays va sender =
      let t : KernelState = with_rendezvous s n (wanting (slot_at s n).rendezvous va sender) in
      by_case (nat_lt va UTOP && not (va % PGSIZE == 0)) _ _ (λ e. refused_stays Invalid)
      (λ e. put_stays t (put_stays s stays_so n (record (slot_at s n) { rendezvous = wanting (slot_at s n).rendezvous va sender }) h.other) n
      (record (slot_at t n) { status = NotRunnable }) h.other)

  -- a message goes to another
  message_stays : (t : KernelState) → Left t → (target value perm : ℕ) → target ≢ 0 → Left (message_taken t n target value perm)
  message_stays t it target value perm ne =
      let r : Rendezvous = delivered (slot_at t target).rendezvous (slot_at t n).id value perm in
      let woken : KernelState = with_rendezvous t target r in
      put_stays woken (put_stays t it target (record (slot_at t target) { rendezvous = r }) ne) target
      (with_answer (record (slot_at woken target) { status = Runnable }) 0) ne

  sent_stays_with : (target value perm : ℕ) (o : Option SpacesState) → target ≢ 0 →
      ((t : SpacesState) → o ≡ Some t → SpaceLeft home d s.spaces t) → LeftBy (sent_with s n target value perm o)
  sent_stays_with target value perm None ne so = told_stays (with_refusal s) refusal_stays _
  sent_stays_with target value perm (Some spaces) ne so =
      told_stays (message_taken (with_spaces s spaces) n target value perm)
      (message_stays (with_spaces s spaces) (spaces_stay spaces (so spaces refl)) target value perm ne) 0

  sent_stays : (target value : ℕ) (passing : Passing) → target ≢ 0 → is_live (slot_at s target) ≡ true → LeftBy (sent s n target value passing)
  sent_stays target value nothing ne lives = told_stays (message_taken s n target value 0) (message_stays s stays_so target value 0 ne) 0
  sent_stays target value (a_page e) ne lives =
      let at = (slot_at s target).rendezvous.destination in
      sent_stays_with target value e.perm (inserted_at s target at e) ne (λ t is. inserted_stays target at e t ne lives is)
  sent_stays target value invalid ne lives = refused_stays Invalid

  -- or nothing passes, and it is refused
  none_passes : (destination va perm : ℕ) → is_no_page va ≡ true → passing_of s n destination va perm ≡ invalid
  none_passes destination va perm is =
      let parts = and_parts (nat_lt va UTOP) (not (va % PGSIZE == 0)) is in
      by_tests (nat_lt va UTOP) (not (va % PGSIZE == 0)) parts.0 parts.1
    where
      by_tests : (t u : Bool) → t ≡ true → u ≡ true →
          ◌≡◌ {A = Passing} (if not t then nothing else if u then invalid else passing_by destination (shared_entry (entry_at s n va) perm)) invalid
      by_tests true true low odd = refl
      by_tests true false low odd = absurd (let contradiction : false ≡ true = odd in cc)
      by_tests false u low odd = absurd (let contradiction : false ≡ true = low in cc)

  send_stays : (o : Option ℕ) (value va perm : ℕ) → (is_no_page va ≡ true) ⊎ IsTarget o → LeftBy (ipc_try_send_of s n o value va perm)
  send_stays None value va perm aside = refused_stays BadEnv
  send_stays (Some target) value va perm aside =
      by_case (not (accepts (slot_at s target).rendezvous (slot_at s n).id)) _ _ (λ e. refused_stays IpcNotRecv) (λ e. by_aside aside)
    where
      by_aside : (is_no_page va ≡ true) ⊎ IsTarget (Some target) →
          LeftBy (sent s n target value (passing_of s n (slot_at s target).rendezvous.destination va perm))
      by_aside (inl none) =
          subst (λ (p : Passing). LeftBy (sent s n target value p)) (sym (none_passes (slot_at s target).rendezvous.destination va perm none))
          (refused_stays Invalid)
      by_aside (inr is) =
          let to = is target refl in sent_stays target value (passing_of s n (slot_at s target).rendezvous.destination va perm) to.0 to.1

  sent_to : (id va : ℕ) → (is_no_page va || not (id == FIRST_ENV_ID)) ≡ true → (is_no_page va ≡ true) ⊎ IsTarget (found s.environments id n false)
  sent_to id va aside = by_tests (is_no_page va) (id == FIRST_ENV_ID) refl refl aside
    where
      by_tests : (t u : Bool) → is_no_page va ≡ t → (id == FIRST_ENV_ID) ≡ u → (t || not u) ≡ true →
          (is_no_page va ≡ true) ⊎ IsTarget (found s.environments id n false)
      by_tests true u none same is = inl none
      by_tests false true none same is = absurd (let contradiction : false ≡ true = is in cc)
      by_tests false false none same is =
          let differs : id ≢ FIRST_ENV_ID = grind (arith, nat_tests) in
          inr (λ m at. (other_sent id m differs at, found_lives s.environments id n m false h.live at))

  call_stays : (regs : Regs) → ((regs.eax == SYS_EXOFORK) ≡ true → NextIsFree s) →
      ((regs.eax == SYS_IPC_TRY_SEND) ≡ true → (is_no_page regs.ebx || not (regs.edx == FIRST_ENV_ID)) ≡ true) → LeftBy (call_of s n regs)
  unfolding call_of
  call_stays regs vacant aside =
      let named = found s.environments regs.edx n true in
      let to = named_target regs.edx in
      by_case (regs.eax == SYS_CPUTS) _ _ (λ e. cputs_stays regs.edx regs.ecx)
      (λ e. by_case (regs.eax == SYS_CGETC) _ _ (λ e. cgetc_stays s.input)
      (λ e. by_case (regs.eax == SYS_GETENVID) _ _ (λ e. told_stays s stays_so (slot_at s n).id)
      (λ e. by_case (regs.eax == SYS_ENV_DESTROY) _ _ (λ e. destroy_stays named to)
      (λ e. by_case (regs.eax == SYS_PAGE_ALLOC) _ _ (λ e. page_alloc_stays named regs.ecx regs.ebx to)
      (λ e. by_case (regs.eax == SYS_PAGE_MAP) _ _
      (λ e. page_map_stays named regs.ecx (found s.environments regs.ebx n true) regs.edi regs.esi (named_target regs.ebx))
      (λ e. by_case (regs.eax == SYS_PAGE_UNMAP) _ _ (λ e. page_unmap_stays named regs.ecx to)
      (λ e. by_case (regs.eax == SYS_EXOFORK) _ _ (λ e. exofork_stays_so (vacant e))
      (λ e. by_case (regs.eax == SYS_ENV_SET_STATUS) _ _ (λ e. status_stays named (status_named regs.ecx) to)
      (λ e. by_case (regs.eax == SYS_ENV_SET_TRAPFRAME) _ _ (λ e. trapframe_stays named regs.ecx to)
      (λ e. by_case (regs.eax == SYS_ENV_SET_PGFAULT_UPCALL) _ _ (λ e. upcall_stays named regs.ecx to)
      (λ e. by_case (regs.eax == SYS_YIELD) _ _ (λ e. yield_stays)
      (λ e. by_case (regs.eax == SYS_IPC_TRY_SEND) _ _
      (λ e. send_stays (found s.environments regs.edx n false) regs.ecx regs.ebx regs.edi (sent_to regs.edx regs.ebx (aside e)))
      (λ e. by_case (regs.eax == SYS_IPC_RECV) _ _ (λ e. recv_stays regs.edx regs.ecx) (λ e. refused_stays Invalid))))))))))))))

  -- ---- accesses

  entered_stays : (fault : PageFault) (place : ℕ) → is_of_descriptor (page_number place) ≡ false → (reached : Result FrameOffset PageFault) →
      reach_in s.spaces (slot_at s n).directory place Write ≡ reached → IfSome (handler_entered s n fault place reached) Left
  entered_stays fault place apart (Err refusal) is = tt
  entered_stays fault place apart (Ok at) is =
      let k = slot_at s n in
      let t = touched s.spaces k.directory place Write in
      let bytes = overlaid (t.pages at.frame) at.offset (frame_bytes fault k.registers) in
      let space = bytes_left home d s.spaces h.frames t at.frame bytes (written_none home d s.spaces h.frames s.spaces place at apart beside is)
      (touched_left home d s.spaces h.frames home home_apart s.spaces place Write still) in
      let moved = put_stays s stays_so n (record k { registers = record k.registers { esp = place; eip = k.upcall } }) h.other in
      record { slot = moved.slot; space = record { entries = space.entries; regions = space.regions; pages = space.pages } }

  pub handled_server : (fault : PageFault) → IfSome (handled s n fault) Left
  unfolding handled
  handled_server fault = by_upcall ((slot_at s n).upcall == 0) (upcall_place (slot_at s n).registers.esp) refl
    where
      by_upcall : (test : Bool) (place : Option ℕ) → upcall_place (slot_at s n).registers.esp ≡ place →
          IfSome (if test then None else handled_at s n fault place) Left
      by_upcall true place is = tt
      by_upcall false None is = tt
      by_upcall false (Some place) is =
          entered_stays fault place (place_beside (slot_at s n).registers.esp place is) (reach_in s.spaces (slot_at s n).directory place Write) refl

  fault_stays : (X : Type 0) (fault : PageFault) (after : Option KernelState) → IfSome after Left → Left (faulting {X = X} s n fault after).state
  fault_stays X fault (Some after) it = it
  fault_stays X fault None it = killed_stays (UserFault fault.va (slot_at s n).registers.eip)

  -- what is so while bytes are put
  record Writes (k : KernelState) : Type 0 where
    slot : slot_at k 0 ≡ slot_at s 0
    own : (slot_at k n).directory ≡ (slot_at s n).directory
    space : SpaceLeft home d s.spaces k.spaces
    pages : IsBesidePages home d s.spaces h.frames k.spaces

  -- an access, by what is done in the state in which it has set its bits
  access_stays : {X : Type 0} (va : ℕ) (a : Access) (done : KernelState → CallStep X) →
      ((k : KernelState) → Writes k → Left (done k).state) → Left (by_access s n va a done).state
  access_stays {X = X} va a done stays = by_reach (reach_in s.spaces (slot_at s n).directory va a)
    where
      by_reach : (reached : Result FrameOffset PageFault) → Left (accessing s n va a done reached).state
      by_reach (Ok location) =
          stays (with_spaces s (touched s.spaces (slot_at s n).directory va a)) (record {
            slot = refl;
            own = refl;
            space = touched_left home d s.spaces h.frames home home_apart s.spaces va a still;
            pages = touched_beside home d s.spaces h.frames s.spaces va a beside;
          })
      by_reach (Err fault) = fault_stays _ fault (handled s n fault) (handled_server fault)

  byte_put : (k : KernelState) (va byte : ℕ) → is_of_descriptor (page_number va) ≡ false → Writes k → Writes (with_user_byte k n va byte)
  byte_put k va byte apart w = record {
    slot = w.slot;
    own = w.own;
    space = subst (λ (q : ℕ). SpaceLeft home d s.spaces (stored_byte k.spaces q va byte)) (sym w.own)
        (stored_left home d s.spaces h.frames k.spaces va byte apart w.pages w.space);
    pages = subst (λ (q : ℕ). IsBesidePages home d s.spaces h.frames (stored_byte k.spaces q va byte)) (sym w.own)
        (stored_beside home d s.spaces h.frames k.spaces va byte w.pages);
  }

  bytes_put : (k : KernelState) (va : ℕ) (bytes : List ℕ) → ((i : ℕ) → i < length bytes → is_of_descriptor (page_number (va + i)) ≡ false) → Writes k →
      Left (with_bytes_put k n va bytes)
  bytes_put k va [] apart w = record { slot = w.slot; space = w.space }
  bytes_put k va (byte ∷ rest) apart w =
      bytes_put (with_user_byte k n va byte) (va + 1) rest
      (λ i less. ap (λ (q : ℕ). is_of_descriptor (page_number q)) (let same : va + 1 + i ≡ va + (i + 1) = omega arith in same)
      ∙ apart (i + 1) (omega (arith, less)))
      (byte_put k va byte (ap (λ (q : ℕ). is_of_descriptor (page_number q)) (let same : va ≡ va + 0 = omega arith in same) ∙ apart 0 (omega arith)) w)

  word_put : (k : KernelState) (va word : ℕ) → IsWordBeside va → Writes k → Left (with_user_word k n va word)
  word_put k va word apart w =
      bytes_put k va (to_le_bytes w32 word)
      (λ i less. word_byte va i (let most : i < 4 = less in omega (arith, most)) apart) w

  pub load_server : (va : ℕ) → Left (load s n va).state
  unfolding load
  load_server va = access_stays va Read (λ after. giving after (user_word after n va)) (λ k w. record { slot = w.slot; space = w.space })

  pub load_byte_server : (va : ℕ) → Left (load_byte s n va).state
  unfolding load_byte
  load_byte_server va = access_stays va Read (λ after. giving after (user_byte after n va)) (λ k w. record { slot = w.slot; space = w.space })

  pub store_server : (va word : ℕ) → IsWordBeside va → Left (store s n va word).state
  unfolding store
  store_server va word apart =
      access_stays va Write (λ after. giving (with_user_word after n va word) tt) (λ k w. word_put k va word apart w)

  pub store_byte_server : (va byte : ℕ) → is_of_descriptor (page_number va) ≡ false → Left (store_byte s n va byte).state
  unfolding store_byte
  store_byte_server va byte apart =
      access_stays va Write (λ after. giving (with_user_byte after n va byte) tt)
      (λ k w. let it = byte_put k va byte apart w in record { slot = it.slot; space = it.space })

  pub exchange_server : (va word : ℕ) → IsWordBeside va → Left (exchange s n va word).state
  unfolding exchange
  exchange_server va word apart =
      access_stays va Write (λ after. record { state = with_user_word after n va word; gives = got (user_word after n va); written = [] })
      (λ k w. word_put k va word apart w)

  pub restore_server : Left (restore_frame s n).state
  unfolding restore_frame
  restore_server = by_bytes (user_bytes s n (slot_at s n).registers.esp frame_size)
    where
      by_bytes : (r : Result (List ℕ) PageFault) → Left (restored s n r).state
      by_bytes (Ok bytes) =
          let t : KernelState = with_bytes_reached s n (slot_at s n).registers.esp frame_size in
          put_stays t (reached_stays (slot_at s n).registers.esp frame_size) n
          (record (slot_at t n) { registers = from_frame (words_of_bytes bytes) }) h.other
      by_bytes (Err fault) = fault_stays _ fault (handled s n fault) (handled_server fault)

-- ---- by the call

-- what is left where its own slot had other registers before
pub asked_before : (d : ℕ) (s : KernelState) (n : ℕ) (q : Regs) (after : KernelState) → n ≢ 0 → ServerStays d n (with_registers s n q) after →
    ServerStays d n s after
asked_before d s n q after ne h = record {
  slot = h.slot ∙ slot_kept s n (record (slot_at s n) { registers = q }) 0 (λ same. ne (sym same));
  space = record {
    entries = h.space.entries;
    regions = h.space.regions;
    pages = λ p e is lacks. h.space.pages p e is
        (subst (λ (home : ℕ). IsNoPage home s.spaces e.frame)
        (sym (slots_alike s n (λ (x : Slot). x.directory) (record (slot_at s n) { registers = q }) refl n)) lacks);
  };
}

-- its own slot is changed
pub own_server : (s : KernelState) (n : ℕ) (mid : KernelState) (slot : Slot) → slot.status ≡ (slot_at mid n).status →
    slot.directory ≡ (slot_at mid n).directory → KeepsServer n s mid → KeepsServer n s (with_slot_at mid n slot)
own_server s n mid slot status directory_is h then_so other live a stands =
    let it = h (slot_was_in_order mid n slot (λ i. is_live (record slot { status = status i })) directory_is then_so) other live a stands in
    by_way it
  where
    kept : slot_at (with_slot_at mid n slot) 0 ≡ slot_at mid 0
    kept = slot_kept mid n slot 0 (λ same. other (sym same))

    brought : (x : Service) → BringsRequest x n s mid → BringsRequest x n s (with_slot_at mid n slot)
    brought service.Sync it = (kept ∙ it.0, it.1)
    brought (service.OpenFile path mode) it = (kept ∙ it.0, record { entry = it.1.entry; stands = it.1.stands; spaces = it.1.spaces })
    brought (service.Remove path) it = (kept ∙ it.0, record { entry = it.1.entry; stands = it.1.stands; spaces = it.1.spaces })
    brought (service.Seek fd offset) it = (kept ∙ it.0, record { entry = it.1.entry; stands = it.1.stands; spaces = it.1.spaces })
    brought (service.SetSize fd size) it = (kept ∙ it.0, record { entry = it.1.entry; stands = it.1.stands; spaces = it.1.spaces })
    brought (service.Write fd va len) it = (kept ∙ it.0, record { entry = it.1.entry; stands = it.1.stands; spaces = it.1.spaces })
    brought (service.Read fd va len) it = (kept ∙ it.0, record { entry = it.1.entry; stands = it.1.stands; spaces = it.1.spaces })
    brought (service.Stat fd va) it = (kept ∙ it.0, record { entry = it.1.entry; stands = it.1.stands; spaces = it.1.spaces })
    brought _ it = absurd it

    by_way : LeavesOrAsks n s mid → LeavesOrAsks n s (with_slot_at mid n slot)
    by_way (left_alone it) = left_alone (record { slot = kept ∙ it.slot; entries = it.entries; regions = it.regions; pages = it.pages })
    by_way (asked_it it) =
        asked_it (record { by_service = it.by_service; id = it.id; fd = it.fd; at = it.at; waited = it.waited; brings = brought it.by_service it.brings })
    by_way (spawn_asked it) =
        spawn_asked (record {
          path = it.path;
          argv = it.argv;
          from = it.from;
          word = it.word;
          at = it.at;
          asks = it.asks;
          waited = it.waited;
          brings = (kept ∙ it.brings.0, record { entry = it.brings.1.entry; stands = it.brings.1.stands; spaces = it.brings.1.spaces });
        })

module _ (s : KernelState) (n number : ℕ) (args : List ℕ) where
  server_by : (d : ℕ) → IsAside d s n → ((number == SYS_EXOFORK) ≡ true → NextIsFree s) → sends_aside number args ≡ true →
      ServerStays d n s (system s n number args).state
  unfolding system
  server_by d h vacant aside =
      let q : Regs = asking (slot_at s n).registers number args in
      let slot : Slot = record (slot_at s n) { registers = q } in
      let k : KernelState = with_registers s n q in
      let regs_are : (slot_at k n).registers ≡ q = ap (λ (x : Slot). x.registers) (upd-at s.environments.slots n slot) in
      let done : KernelState = (call_of k n (slot_at k n).registers).state in
      by_test done (is_live (slot_at done n) && not (sets_own s n number args))
      (asked_before d s n q done h.other
      (subst (λ (r : Regs). ServerStays d n k (call_of k n r).state) (sym regs_are)
      (call_stays d k n (aside_asked d s n q h) q
      (λ is m slots f frames slots_are frames_are.
      slots_alike s n (λ (x : Slot). is_live x) slot refl m ∙ vacant is m slots f frames slots_are frames_are)
      (λ is. implied (number == SYS_IPC_TRY_SEND) _ aside is))))
    where
      implied : (t u : Bool) → (not t || u) ≡ true → t ≡ true → u ≡ true
      implied true u is on = is
      implied false u is on = absurd (let contradiction : false ≡ true = on in cc)

      by_test : (t : KernelState) (test : Bool) → ServerStays d n s t →
          ServerStays d n s (if test then with_registers t n (slot_at s n).registers else t)
      by_test t true it = put_stays d s n h t it n (record (slot_at t n) { registers = (slot_at s n).registers }) h.other
      by_test t false it = it

  -- any call that makes no environment
  pub system_server : sets_others number ≡ false → ((a : AbstractState) → Stands s a → sends_aside number args ≡ true) →
      KeepsServer n s (system s n number args).state
  system_server plain aside then_so other live a stands =
      let parts = or_parts (number == SYS_ENV_SET_TRAPFRAME) (number == SYS_EXOFORK) plain in
      keeps_server s (system s n number args).state n
      (λ order b stood d h. server_by d h (λ is. absurd (let contradiction : true ≡ false = sym is ∙ parts.1 in cc)) (aside a stands)) then_so other live a stands

-- the registers of one that it may change are set
pub trapframe_server : (s : KernelState) (n : ℕ) (args : List ℕ) → KeepsServer n s (system s n SYS_ENV_SET_TRAPFRAME args).state
trapframe_server s n args then_so other live a stands =
    keeps_server s (system s n SYS_ENV_SET_TRAPFRAME args).state n
    (λ order b stood d h. server_by s n SYS_ENV_SET_TRAPFRAME args d h (λ is. absurd (let contradiction : false ≡ true = is in cc)) refl)
    then_so other live a stands

-- a child that is made
pub exofork_server : (s : KernelState) (n : ℕ) → KeepsServer n s (system s n SYS_EXOFORK (given (slot_at s n).registers)).state
exofork_server s n then_so other live a stands =
    keeps_server s (system s n SYS_EXOFORK (given (slot_at s n).registers)).state n
    (λ order b stood d h. server_by s n SYS_EXOFORK (given (slot_at s n).registers) d h
    (λ is m slots f frames slots_are frames_are. slot_was_free s n live m slots slots_are f frames frames_are stands.1.in_order then_so) refl)
    then_so other live a stands
