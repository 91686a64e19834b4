-- What a step of the library does to the pages that wait to be copied in other spaces than its environment's own, by the call that it makes:
-- none waits that did not wait before; and to the page in which a service keeps what it moves: it stays. The step maps pages elsewhere only
-- into a child, and where a message passes one.
use Rattle.std.proofs.Common.{◌≡◌, ◌≢◌, ◌∙◌, ◌==◌, ◌%◌, ◌&&◌, ◌||◌, ◌⊎◌, inl, inr, ℕ, zero, suc, Bool, true, false, not, List, [], ◌∷◌}
use Rattle.std.proofs.Common.{Option, Some, None, Result, Ok, Err, IfSome, refl, sym, ap, subst, arith, if◌then◌else◌}
use Rattle.std.specs.Prelude.{nat_lt, bit_and, get_or, ◌+◌}
use Rattle.std.specs.Int.{w32, to_le_bytes}
use Rattle.std.specs.Option.{option_map}
use Rattle.std.proofs.lemmas.Bool.{and_parts}
use Rattle.std.proofs.lemmas.Bool.Decides.{nat_tests}
use Rattle.std.proofs.lemmas.Option.{same_Some}
use Rattle.jos_base.specs.declared.environment.Status.{Status}
use Rattle.jos_base.specs.declared.line.Line.{Line}
use Rattle.jos_base.specs.declared.line.Line.TheVariants.{UserFault, UserMemCheck}
use Rattle.jos_base.specs.declared.memory.Access.{Access}
use Rattle.jos_base.specs.declared.memory.Access.TheVariants.{Read, Write}
use Rattle.jos_base.specs.declared.memory.PageFault.{PageFault}
use Rattle.jos_base.specs.declared.numbers.TheConstants.{CPUTS_MAX, NENV, PGSIZE, PTE_SYSCALL, UTEMP, UTOP, SYS_CPUTS, SYS_CGETC, SYS_GETENVID}
use Rattle.jos_base.specs.declared.numbers.TheConstants.{SYS_ENV_DESTROY}
use Rattle.jos_base.specs.declared.numbers.TheConstants.{SYS_PAGE_ALLOC, SYS_PAGE_MAP, SYS_PAGE_UNMAP, SYS_EXOFORK}
use Rattle.jos_base.specs.declared.numbers.TheConstants.{SYS_ENV_SET_STATUS}
use Rattle.jos_base.specs.declared.numbers.TheConstants.{SYS_ENV_SET_TRAPFRAME, SYS_ENV_SET_PGFAULT_UPCALL, SYS_YIELD}
use Rattle.jos_base.specs.declared.numbers.TheConstants.{SYS_IPC_TRY_SEND, SYS_IPC_RECV}
use Rattle.jos_base.specs.declared.registers.Regs.{Regs}
use Rattle.jos_base.specs.Counting.{page_limit}
use Rattle.jos_base.specs.Environments.{Environments, Slot, is_live, found, found_at, may_change, allotted, allotted_from}
use Rattle.jos_base.specs.KernelState.{KernelState, slot_at, with_registers}
use Rattle.jos_base.specs.Messages.{accepts}
use Rattle.jos_base.specs.Reach.{Entry, FrameOffset}
use Rattle.jos_base.specs.SpacesState.{SpacesState, Region, put, allocated, created, created_from, unmapped, pages_removed}
use Rattle.jos_base.specs.SpacesState.{without_region, tables_freed, region_limit, destroyed, overlaid, with_page_bytes}
use Rattle.jos_base.specs.SystemCalls.{Did, killed, user_bytes, cputs_of, cputs}
use Rattle.jos_base.specs.SystemCalls.{cgetc_from, env_destroy_of, status_named, env_set_status_of, is_page_address, is_page_perm}
use Rattle.jos_base.specs.SystemCalls.{shared_entry, entry_at, inserted_at, answered_with, second_of, page_alloc_of}
use Rattle.jos_base.specs.SystemCalls.{page_map_by, page_map_of, page_unmap_of, record_size, env_set_trapframe_by, env_set_trapframe_of}
use Rattle.jos_base.specs.SystemCalls.{env_set_pgfault_upcall_of, Passing, nothing, a_page, invalid, passing_by, passing_of, sent_with, sent}
use Rattle.jos_base.specs.SystemCalls.{environment_made, exofork, exofork_of, made_of, ipc_try_send_of, ipc_recv, call_of}
use Rattle.jos_base.specs.SystemCalls.{handler_entered, handled_at, handled}
use Rattle.jos_base.specs.TrapFrames.{frame_bytes, frame_size, upcall_place}
use Rattle.jos_base.specs.UserMemory.{reach_in, touched, all_touched, stored_byte, with_byte_at}
use Rattle.jos_base.specs.Words.{page_number}
use Rattle.lib_os.specs.LibrarySteps.{is_to_copy}
use Rattle.lib_os.specs.Rows.{rows_of, lasting, is_cow}
use Rattle.lib_os.specs.UserCalls.{CallStep, giving, accessing, by_access, faulting, user_byte, user_word, with_user_byte, with_user_word}
use Rattle.lib_os.specs.UserCalls.{got, with_bytes_put, load, load_byte, store, store_byte, exchange, restored, restore_frame, asking, sets_own, system}
use Rattle.lib_os.proofs.CopiesLeft.{allocated_entries, inserted_entries, unmapped_entries}
use Rattle.lib_os.proofs.Sends.{shared_from}
use Rattle.lib_os.proofs.Slots.{slots_alike}
use Rattle.lib_os.proofs.Touching.{touched_quiet, all_touched_quiet}
use Rattle.jos_base.proofs.Maps.{upd-at}
use Rattle.jos_base.proofs.Puts.{put-holds}

-- ---- spaces

-- In the spaces of which this holds no page waits to be copied that did not wait before, and that in which a service keeps what it moves is
-- the same.
pub record NoMoreWait (Q : ℕ → Type 0) (s t : SpacesState) : Type 0 where
  pub waited : (d p : ℕ) → Q d → is_to_copy (rows_of t d p) ≡ true → is_to_copy (rows_of s d p) ≡ true
  pub working : (d : ℕ) → Q d → rows_of t d (page_number UTEMP) ≡ rows_of s d (page_number UTEMP)

-- a page with this number is not that one
abbrev pub IsNoWorking : ℕ → Type 0
IsNoWorking p = p ≢ page_number UTEMP

-- and what is put there does not wait
abbrev MayPut : ℕ → Option Entry → Type 0
MayPut p o = (is_to_copy (option_map lasting o) ≡ false) × IsNoWorking p

-- a page that is mapped with these bits does not wait
abbrev pub IsNoCopy : ℕ → Type 0
IsNoCopy perm = is_cow (bit_and perm PTE_SYSCALL) ≡ false

-- so may one be mapped at an address
abbrev pub MayMap : ℕ → ℕ → Type 0
MayMap va perm = IsNoCopy perm × IsNoWorking (page_number va)

module _ (Q : ℕ → Type 0) where
  pub same_wait : (s : SpacesState) → NoMoreWait Q s s
  same_wait s = record { waited = λ d p here waits. waits; working = λ d here. refl }

  pub both_wait : (s t u : SpacesState) → NoMoreWait Q s t → NoMoreWait Q t u → NoMoreWait Q s u
  both_wait s t u one two = record {
    waited = λ d p here waits. one.waited d p here (two.waited d p here waits);
    working = λ d here. two.working d here ∙ one.working d here;
  }

  rows_wait : (s t : SpacesState) → rows_of t ≡ rows_of s → NoMoreWait Q s t
  rows_wait s t same = record {
    waited = λ d p here waits. (λ i. is_to_copy (sym same i d p)) ∙ waits;
    working = λ d here. λ i. same i d (page_number UTEMP);
  }

  pub entries_wait : (s t : SpacesState) → t.entries ≡ s.entries → NoMoreWait Q s t
  unfolding rows_of
  entries_wait s t same = record {
    waited = λ d p here waits. (λ i. is_to_copy (option_map lasting (sym same i d p))) ∙ waits;
    working = λ d here. λ i. option_map lasting (same i d (page_number UTEMP));
  }

  -- an entry that does not wait is put in the place of another
  put_wait : (s t : SpacesState) (d p : ℕ) (o : Option Entry) → t.entries ≡ put s.entries d p o → (Q d → MayPut p o) → NoMoreWait Q s t
  unfolding rows_of
  put_wait s t d p o is ready = record {
    waited = λ q r here waits.
        put-holds s.entries d p o
        (λ a b (x : Option Entry). Q a → is_to_copy (option_map lasting x) ≡ true → is_to_copy (option_map lasting (s.entries a b)) ≡ true)
        (λ here_too waits_too. absurd (let contradiction : true ≡ false = sym waits_too ∙ (ready here_too).0 in cc))
        (λ a b off here_too waits_too. waits_too)
        q r here (sym (λ i. is_to_copy (option_map lasting (is i q r))) ∙ waits);
    working = λ q here.
        (λ i. option_map lasting (is i q (page_number UTEMP)))
        ∙ put-holds s.entries d p o
        (λ a b (x : Option Entry). Q a → b ≡ page_number UTEMP → option_map lasting x ≡ option_map lasting (s.entries a b))
        (λ here_too at. absurd ((ready here_too).1 at)) (λ a b off here_too at. refl) q (page_number UTEMP) here refl;
  }

  pub touched_wait : (s : SpacesState) (d va : ℕ) (a : Access) → NoMoreWait Q s (touched s d va a)
  touched_wait s d va a = let quiet = touched_quiet s d va a in rows_wait s (touched s d va a) quiet.rows

  all_touched_wait : (s : SpacesState) (d va n : ℕ) → NoMoreWait Q s (all_touched s d va n)
  all_touched_wait s d va n = let quiet = all_touched_quiet s d va n in rows_wait s (all_touched s d va n) quiet.rows

  pub stored_wait : (s : SpacesState) (d va byte : ℕ) → NoMoreWait Q s (stored_byte s d va byte)
  unfolding stored_byte
  stored_wait s d va byte = by_outcome (reach_in s d va Write)
    where
      by_outcome : (r : Result FrameOffset PageFault) → NoMoreWait Q s (with_byte_at s byte r)
      by_outcome (Ok location) = entries_wait s _ refl
      by_outcome (Err fault) = same_wait s

  unmapped_wait : (s : SpacesState) (d p : ℕ) → (Q d → IsNoWorking p) → NoMoreWait Q s (unmapped s d p)
  unmapped_wait s d p apart = put_wait s (unmapped s d p) d p None (unmapped_entries s d p) (λ here. (refl, apart here))

  pages_wait : (s : SpacesState) (d n : ℕ) → (Q d → ⊥) → NoMoreWait Q s (pages_removed s d n)
  unfolding pages_removed
  pages_wait s d zero other = same_wait s
  pages_wait s d (suc n) other =
      both_wait s (pages_removed s d n) (unmapped (pages_removed s d n) d n) (pages_wait s d n other)
      (unmapped_wait (pages_removed s d n) d n (λ here. absurd (other here)))

  region_entries : (s : SpacesState) (d r : ℕ) (o : Option Region) → (without_region s d r o).entries ≡ s.entries
  region_entries s d r None = refl
  region_entries s d r (Some region) = refl

  tables_entries : (s : SpacesState) (d n : ℕ) → (tables_freed s d n).entries ≡ s.entries
  unfolding tables_freed
  tables_entries s d zero = refl
  tables_entries s d (suc n) =
      region_entries (tables_freed s d n) d n ((tables_freed s d n).regions d n) ∙ tables_entries s d n

  pub destroyed_wait : (s : SpacesState) (d : ℕ) → (Q d → ⊥) → NoMoreWait Q s (destroyed s d)
  unfolding destroyed
  destroyed_wait s d other =
      let t = pages_removed s d page_limit in
      both_wait s t (destroyed s d) (pages_wait s d page_limit other) (entries_wait t (destroyed s d) (tables_entries t d region_limit))

-- ---- who is named

-- the caller by 0, and another by its id
abbrev pub Named : ℕ → ℕ → ℕ → Type 0
Named id n m = (m ≡ n) ⊎ (((id == 0) ≡ false) × (m ≡ id % NENV))

found_named : (e : Environments) (id n m : ℕ) (control : Bool) → found e id n control ≡ Some m → Named id n m
unfolding found
found_named e id n m control is = by_zero (id == 0) refl is
  where
    by_tests : (t u : Bool) → (id == 0) ≡ false → (if not t then None else if u then None else Some (id % NENV)) ≡ Some m → Named id n m
    by_tests false u other none = absurd cc
    by_tests true true other none = absurd cc
    by_tests true false other some = inr (other, sym (same_Some (id % NENV) m some))

    by_zero : (t : Bool) → (id == 0) ≡ t → (if t then Some n else found_at e id (id % NENV) n control) ≡ Some m → Named id n m
    by_zero true own some = inl (sym (same_Some n m some))
    by_zero false other some =
        by_tests (is_live (e.slots (id % NENV)) && ((e.slots (id % NENV)).id == id)) (control && not (may_change e n (id % NENV))) other some

-- who is named is there
found_there : (e : Environments) (id n m : ℕ) (control : Bool) → found e id n control ≡ Some m → (m ≡ n) ⊎ (is_live (e.slots m) ≡ true)
unfolding found
found_there e id n m control is = by_zero (id == 0) is
  where
    by_tests : (t u v : Bool) → is_live (e.slots (id % NENV)) ≡ t → (if not (t && u) then None else if v then None else Some (id % NENV)) ≡ Some m →
        (m ≡ n) ⊎ (is_live (e.slots m) ≡ true)
    by_tests false u v lives none = absurd cc
    by_tests true false v lives none = absurd cc
    by_tests true true true lives none = absurd cc
    by_tests true true false lives some =
        inr (subst (λ (q : ℕ). is_live (e.slots q) ≡ true) (same_Some (id % NENV) m some) lives)

    by_zero : (t : Bool) → (if t then Some n else found_at e id (id % NENV) n control) ≡ Some m → (m ≡ n) ⊎ (is_live (e.slots m) ≡ true)
    by_zero true some = inl (sym (same_Some n m some))
    by_zero false some =
        by_tests (is_live (e.slots (id % NENV))) ((e.slots (id % NENV)).id == id) (control && not (may_change e n (id % NENV))) refl some

-- ---- what passes

abbrev page_in : Passing → Option Entry
page_in (a_page e) = Some e
page_in _ = None

-- a page that passes has the bits that were asked for, and is wanted
passed_perm : (s : KernelState) (n destination va perm : ℕ) (e : Entry) → passing_of s n destination va perm ≡ a_page e →
    (nat_lt va UTOP ≡ true) × (e.perm ≡ perm) × (nat_lt destination UTOP ≡ true)
passed_perm s n destination va perm e is =
    by_tests (nat_lt va UTOP) (not (va % PGSIZE == 0)) (shared_entry (entry_at s n va) perm) refl refl (ap page_in is)
  where
    by_place : (y : Entry) → shared_entry (entry_at s n va) perm ≡ Some y → (t : Bool) → nat_lt destination UTOP ≡ t →
        page_in (if t then a_page y else nothing) ≡ Some e → (e.perm ≡ perm) × (nat_lt destination UTOP ≡ true)
    by_place y given true wanted same =
        let from = shared_from (entry_at s n va) perm y given in
        (ap (λ (z : Entry). z.perm) (sym (same_Some y e same)) ∙ ap (λ (z : Entry). z.perm) from.2, wanted)
    by_place y given false wanted none = absurd cc

    by_tests : (t u : Bool) (o : Option Entry) → nat_lt va UTOP ≡ t → shared_entry (entry_at s n va) perm ≡ o →
        page_in (if not t then nothing else if u then invalid else passing_by destination o) ≡ Some e →
        (nat_lt va UTOP ≡ true) × (e.perm ≡ perm) × (nat_lt destination UTOP ≡ true)
    by_tests false u o low given none = absurd cc
    by_tests true true o low given none = absurd cc
    by_tests true false None low given none = absurd cc
    by_tests true false (Some y) low given some = let it = by_place y given (nat_lt destination UTOP) refl some in (low, it.0, it.1)

-- ---- the calls

-- the environment in a slot is there, waits for a message of this one, and wants a page
pub record Receives (s : KernelState) (n m : ℕ) : Type 0 where
  pub lives : is_live (slot_at s m) ≡ true
  pub waits : accepts (slot_at s m).rendezvous (slot_at s n).id ≡ true
  pub wants : nat_lt (slot_at s m).rendezvous.destination UTOP ≡ true

-- Where a call may map a page into a space of which this holds, the page does not wait to be copied; it neither maps nor removes the one there
-- in which a service keeps what it moves, nor is the space destroyed.
pub record MapsNoCopies (Q : ℕ → Type 0) (s : KernelState) (n : ℕ) (regs : Regs) : Type 0 where
  pub alloc : (regs.eax == SYS_PAGE_ALLOC) ≡ true → (m : ℕ) → Named regs.edx n m → Q (slot_at s m).directory → MayMap regs.ecx regs.ebx
  pub map : (regs.eax == SYS_PAGE_MAP) ≡ true → (m : ℕ) → Named regs.ebx n m → Q (slot_at s m).directory → MayMap regs.edi regs.esi
  pub unmap : (regs.eax == SYS_PAGE_UNMAP) ≡ true → (m : ℕ) → Named regs.edx n m → Q (slot_at s m).directory → IsNoWorking (page_number regs.ecx)
  pub destroy : (regs.eax == SYS_ENV_DESTROY) ≡ true → (m : ℕ) → Named regs.edx n m → Q (slot_at s m).directory → ⊥
  pub send : (regs.eax == SYS_IPC_TRY_SEND) ≡ true → nat_lt regs.ebx UTOP ≡ true → (m : ℕ) → Receives s n m → Q (slot_at s m).directory →
      MayMap (slot_at s m).rendezvous.destination regs.edi

-- it does not hold of the space of the environment whose step it is
module _ (Q : ℕ → Type 0) (s : KernelState) (n : ℕ) (own : Q (slot_at s n).directory → ⊥) where
  -- the spaces that come of what is done
  abbrev WaitBy : Did → Type 0
  WaitBy did = NoMoreWait Q s.spaces did.state.spaces

  by_case : (test : Bool) (a b : Did) → (test ≡ true → WaitBy a) → (test ≡ false → WaitBy b) → WaitBy (if test then a else b)
  by_case true a b first second = first refl
  by_case false a b first second = second refl

  still : NoMoreWait Q s.spaces s.spaces
  still = same_wait Q s.spaces

  killed_wait : (line : Line) → WaitBy (killed s n line)
  unfolding killed
  killed_wait line = destroyed_wait Q s.spaces (slot_at s n).directory own

  cputs_wait_of : (va len : ℕ) (bytes : Result (List ℕ) PageFault) → WaitBy (cputs_of s n va len bytes)
  cputs_wait_of va len (Ok bytes) = all_touched_wait Q s.spaces (slot_at s n).directory va len
  cputs_wait_of va len (Err fault) = killed_wait (UserMemCheck fault.va)

  cputs_wait : (va len : ℕ) → WaitBy (cputs s n va len)
  cputs_wait va len = by_case (nat_lt CPUTS_MAX len) _ _ (λ e. still) (λ e. cputs_wait_of va len (user_bytes s n va len))

  cgetc_wait : (input : List ℕ) → WaitBy (cgetc_from s n input)
  cgetc_wait [] = still
  cgetc_wait (byte ∷ rest) = still

  destroy_wait : (target : Option ℕ) → ((m : ℕ) → target ≡ Some m → Q (slot_at s m).directory → ⊥) → WaitBy (env_destroy_of s n target)
  destroy_wait None none = still
  destroy_wait (Some target) none =
      by_case (target == n) _ _ (λ e. destroyed_wait Q s.spaces (slot_at s n).directory own)
      (λ e. destroyed_wait Q s.spaces (slot_at s target).directory (none target refl))

  exofork_wait : WaitBy (exofork s n)
  unfolding environment_made allotted created
  exofork_wait = by_lists s.environments.free_slots s.spaces.free
    where
      by_lists : (slots frames : List ℕ) →
          WaitBy (exofork_of s n (made_of s (allotted_from s.environments (slot_at s n).id slots) (created_from s.spaces frames)))
      by_lists [] frames = still
      by_lists (child ∷ others) [] = still
      by_lists (child ∷ others) (frame ∷ rest) = entries_wait Q s.spaces _ refl

  status_wait : (target : Option ℕ) (status : Option Status) → WaitBy (env_set_status_of s n target status)
  status_wait None status = still
  status_wait (Some target) None = still
  status_wait (Some target) (Some status) = still

  with_wait : (o : Option SpacesState) → ((t : SpacesState) → o ≡ Some t → NoMoreWait Q s.spaces t) → WaitBy (answered_with s n o)
  with_wait None so = still
  with_wait (Some spaces) so = so spaces refl

  inserted_wait : (target va : ℕ) (e : Entry) (t : SpacesState) → (Q (slot_at s target).directory → MayMap va e.perm) →
      inserted_at s target va e ≡ Some t → NoMoreWait Q s.spaces t
  inserted_wait target va e t ready is =
      put_wait Q s.spaces t (slot_at s target).directory (page_number va) (Some e)
      (inserted_entries s.spaces t (slot_at s target).directory (page_number va) e is) ready

  page_alloc_wait : (o : Option ℕ) (va perm : ℕ) → ((m : ℕ) → o ≡ Some m → Q (slot_at s m).directory → MayMap va perm) →
      WaitBy (page_alloc_of s n o va perm)
  page_alloc_wait None va perm ready = still
  page_alloc_wait (Some target) va perm ready =
      by_case (not (is_page_address va)) _ _ (λ e. still)
      (λ e. by_case (not (is_page_perm perm)) _ _ (λ e. still)
      (λ e. by_made (allocated s.spaces (slot_at s target).directory (page_number va) perm) refl))
    where
      by_made : (made : Option (ℕ × SpacesState)) → allocated s.spaces (slot_at s target).directory (page_number va) perm ≡ made →
          WaitBy (answered_with s n (second_of made))
      by_made None at = still
      by_made (Some made) at =
          let it = allocated_entries s.spaces made.1 (slot_at s target).directory (page_number va) perm made.0 at in
          put_wait Q s.spaces made.1 (slot_at s target).directory (page_number va) (Some it.0) it.2
          (λ here. let may = ready target refl here in (ap (λ (bits : ℕ). is_cow (bit_and bits PTE_SYSCALL)) it.1 ∙ may.0, may.1))

  page_map_wait : (source : Option ℕ) (source_va : ℕ) (o : Option ℕ) (va perm : ℕ) →
      ((m : ℕ) → o ≡ Some m → Q (slot_at s m).directory → MayMap va perm) → WaitBy (page_map_of s n source source_va o va perm)
  page_map_wait None source_va o va perm ready = still
  page_map_wait (Some source) source_va None va perm ready = still
  page_map_wait (Some source) source_va (Some target) va perm ready =
      by_case (not (is_page_address source_va)) _ _ (λ e. still)
      (λ e. by_case (not (is_page_address va)) _ _ (λ e. still) (λ e. by_entry (shared_entry (entry_at s source source_va) perm) refl))
    where
      by_entry : (o : Option Entry) → shared_entry (entry_at s source source_va) perm ≡ o → WaitBy (page_map_by s n target va o)
      by_entry None at = still
      by_entry (Some e) at =
          let from = shared_from (entry_at s source source_va) perm e at in
          with_wait (inserted_at s target va e)
          (λ t is. inserted_wait target va e t
          (λ here. let may = ready target refl here in (ap (λ (z : Entry). is_cow (bit_and z.perm PTE_SYSCALL)) from.2 ∙ may.0, may.1)) is)

  page_unmap_wait : (target : Option ℕ) (va : ℕ) → ((m : ℕ) → target ≡ Some m → Q (slot_at s m).directory → IsNoWorking (page_number va)) →
      WaitBy (page_unmap_of s n target va)
  page_unmap_wait None va apart = still
  page_unmap_wait (Some target) va apart =
      by_case (not (is_page_address va)) _ _ (λ e. still)
      (λ e. unmapped_wait Q s.spaces (slot_at s target).directory (page_number va) (apart target refl))

  trapframe_wait : (target : Option ℕ) (va : ℕ) → WaitBy (env_set_trapframe_of s n target va)
  trapframe_wait None va = still
  trapframe_wait (Some target) va = by_bytes (user_bytes s n va record_size)
    where
      by_bytes : (bytes : Result (List ℕ) PageFault) → WaitBy (env_set_trapframe_by s n target va bytes)
      by_bytes (Ok bytes) = all_touched_wait Q s.spaces (slot_at s n).directory va record_size
      by_bytes (Err fault) = killed_wait (UserMemCheck fault.va)

  upcall_wait : (target : Option ℕ) (address : ℕ) → WaitBy (env_set_pgfault_upcall_of s n target address)
  upcall_wait None address = still
  upcall_wait (Some target) address = still

  sent_wait_with : (target value perm : ℕ) (o : Option SpacesState) → ((t : SpacesState) → o ≡ Some t → NoMoreWait Q s.spaces t) →
      WaitBy (sent_with s n target value perm o)
  sent_wait_with target value perm None so = still
  sent_wait_with target value perm (Some spaces) so = so spaces refl

  sent_wait : (target value : ℕ) (passing : Passing) →
      ((e : Entry) → passing ≡ a_page e → Q (slot_at s target).directory → MayMap (slot_at s target).rendezvous.destination e.perm) →
      WaitBy (sent s n target value passing)
  sent_wait target value nothing ready = still
  sent_wait target value (a_page e) ready =
      sent_wait_with target value e.perm (inserted_at s target (slot_at s target).rendezvous.destination e)
      (λ t is. inserted_wait target (slot_at s target).rendezvous.destination e t (ready e refl) is)
  sent_wait target value invalid ready = still

  send_wait : (target : Option ℕ) (value va perm : ℕ) → ((m : ℕ) → target ≡ Some m → (m ≡ n) ⊎ (is_live (slot_at s m) ≡ true)) →
      (nat_lt va UTOP ≡ true → (m : ℕ) → Receives s n m → Q (slot_at s m).directory → MayMap (slot_at s m).rendezvous.destination perm) →
      WaitBy (ipc_try_send_of s n target value va perm)
  send_wait None value va perm there ready = still
  send_wait (Some target) value va perm there ready =
      by_case (not (accepts (slot_at s target).rendezvous (slot_at s n).id)) _ _ (λ e. still)
      (λ e. sent_wait target value (passing_of s n destination va perm) (λ x passes here. may (not_off _ e) x passes here (there target refl)))
    where
      not_off : (t : Bool) → not t ≡ false → t ≡ true
      not_off true is = refl
      not_off false is = absurd (let contradiction : true ≡ false = is in cc)

      destination : ℕ
      destination = (slot_at s target).rendezvous.destination

      may : accepts (slot_at s target).rendezvous (slot_at s n).id ≡ true → (x : Entry) → passing_of s n destination va perm ≡ a_page x →
          Q (slot_at s target).directory → (target ≡ n) ⊎ (is_live (slot_at s target) ≡ true) → MayMap destination x.perm
      may waits x is here (inl same) = absurd (own (subst (λ (m : ℕ). Q (slot_at s m).directory) same here))
      may waits x is here (inr lives) =
          let it = passed_perm s n destination va perm x is in
          let so = ready it.0 target (record { lives = lives; waits = waits; wants = it.2 }) here in
          (ap (λ (bits : ℕ). is_cow (bit_and bits PTE_SYSCALL)) it.1 ∙ so.0, so.1)

  recv_wait : (va sender : ℕ) → WaitBy (ipc_recv s n va sender)
  recv_wait va sender = by_case (nat_lt va UTOP && not (va % PGSIZE == 0)) _ _ (λ e. still) (λ e. still)

  call_wait : (regs : Regs) → MapsNoCopies Q s n regs → WaitBy (call_of s n regs)
  unfolding call_of
  call_wait regs ready =
      let named = found s.environments regs.edx n true in
      by_case (regs.eax == SYS_CPUTS) _ _ (λ e. cputs_wait regs.edx regs.ecx)
      (λ e. by_case (regs.eax == SYS_CGETC) _ _ (λ e. cgetc_wait s.input)
      (λ e. by_case (regs.eax == SYS_GETENVID) _ _ (λ e. still)
      (λ e. by_case (regs.eax == SYS_ENV_DESTROY) _ _
      (λ e. destroy_wait named (λ m is here. ready.destroy e m (found_named s.environments regs.edx n m true is) here))
      (λ e. by_case (regs.eax == SYS_PAGE_ALLOC) _ _
      (λ e. page_alloc_wait named regs.ecx regs.ebx (λ m is here. ready.alloc e m (found_named s.environments regs.edx n m true is) here))
      (λ e. by_case (regs.eax == SYS_PAGE_MAP) _ _
      (λ e. page_map_wait named regs.ecx (found s.environments regs.ebx n true) regs.edi regs.esi
      (λ m is here. ready.map e m (found_named s.environments regs.ebx n m true is) here))
      (λ e. by_case (regs.eax == SYS_PAGE_UNMAP) _ _
      (λ e. page_unmap_wait named regs.ecx (λ m is here. ready.unmap e m (found_named s.environments regs.edx n m true is) here))
      (λ e. by_case (regs.eax == SYS_EXOFORK) _ _ (λ e. exofork_wait)
      (λ e. by_case (regs.eax == SYS_ENV_SET_STATUS) _ _ (λ e. status_wait named (status_named regs.ecx))
      (λ e. by_case (regs.eax == SYS_ENV_SET_TRAPFRAME) _ _ (λ e. trapframe_wait named regs.ecx)
      (λ e. by_case (regs.eax == SYS_ENV_SET_PGFAULT_UPCALL) _ _ (λ e. upcall_wait named regs.ecx)
      (λ e. by_case (regs.eax == SYS_YIELD) _ _ (λ e. still)
      (λ e. by_case (regs.eax == SYS_IPC_TRY_SEND) _ _
      (λ e. send_wait (found s.environments regs.edx n false) regs.ecx regs.ebx regs.edi (λ m is. found_there s.environments regs.edx n m false is)
      (ready.send e))
      (λ e. by_case (regs.eax == SYS_IPC_RECV) _ _ (λ e. recv_wait regs.edx regs.ecx) (λ e. still))))))))))))))

  -- ---- accesses

  entered_wait : (fault : PageFault) (place : ℕ) (reached : Result FrameOffset PageFault) →
      IfSome (handler_entered s n fault place reached) (λ after. NoMoreWait Q s.spaces after.spaces)
  entered_wait fault place (Err refusal) = tt
  entered_wait fault place (Ok at) =
      let t = touched s.spaces (slot_at s n).directory place Write in
      both_wait Q s.spaces t _ (touched_wait Q s.spaces (slot_at s n).directory place Write)
      (entries_wait Q t (with_page_bytes t at.frame (overlaid (t.pages at.frame) at.offset (frame_bytes fault (slot_at s n).registers))) refl)

  pub handled_wait : (fault : PageFault) → IfSome (handled s n fault) (λ after. NoMoreWait Q s.spaces after.spaces)
  unfolding handled
  handled_wait fault = by_upcall ((slot_at s n).upcall == 0) (upcall_place (slot_at s n).registers.esp)
    where
      by_upcall : (test : Bool) (place : Option ℕ) →
          IfSome (if test then None else handled_at s n fault place) (λ after. NoMoreWait Q s.spaces after.spaces)
      by_upcall true place = tt
      by_upcall false None = tt
      by_upcall false (Some place) = entered_wait fault place (reach_in s.spaces (slot_at s n).directory place Write)

  fault_wait : (X : Type 0) (fault : PageFault) (after : Option KernelState) → IfSome after (λ t. NoMoreWait Q s.spaces t.spaces) →
      NoMoreWait Q s.spaces (faulting {X = X} s n fault after).state.spaces
  fault_wait X fault (Some after) h = h
  fault_wait X fault None h = killed_wait (UserFault fault.va (slot_at s n).registers.eip)

  -- an access, by what is done in the state in which it has set its bits
  access_wait : {X : Type 0} (va : ℕ) (a : Access) (done : KernelState → CallStep X) →
      ((k : KernelState) → NoMoreWait Q s.spaces k.spaces → NoMoreWait Q s.spaces (done k).state.spaces) →
      NoMoreWait Q s.spaces (by_access s n va a done).state.spaces
  access_wait {X = X} va a done wait = by_reach (reach_in s.spaces (slot_at s n).directory va a)
    where
      by_reach : (reached : Result FrameOffset PageFault) → NoMoreWait Q s.spaces (accessing s n va a done reached).state.spaces
      by_reach (Ok location) = wait _ (touched_wait Q s.spaces (slot_at s n).directory va a)
      by_reach (Err fault) = fault_wait _ fault (handled s n fault) (handled_wait fault)

  put_wait_bytes : (k : KernelState) (va : ℕ) (bytes : List ℕ) → NoMoreWait Q s.spaces k.spaces → NoMoreWait Q s.spaces (with_bytes_put k n va bytes).spaces
  put_wait_bytes k va [] h = h
  put_wait_bytes k va (byte ∷ rest) h =
      put_wait_bytes (with_user_byte k n va byte) (va + 1) rest
      (both_wait Q s.spaces k.spaces (stored_byte k.spaces (slot_at k n).directory va byte) h (stored_wait Q k.spaces (slot_at k n).directory va byte))

  pub load_wait : (va : ℕ) → NoMoreWait Q s.spaces (load s n va).state.spaces
  unfolding load
  load_wait va = access_wait va Read (λ after. giving after (user_word after n va)) (λ k h. h)

  pub load_byte_wait : (va : ℕ) → NoMoreWait Q s.spaces (load_byte s n va).state.spaces
  unfolding load_byte
  load_byte_wait va = access_wait va Read (λ after. giving after (user_byte after n va)) (λ k h. h)

  pub store_wait : (va word : ℕ) → NoMoreWait Q s.spaces (store s n va word).state.spaces
  unfolding store
  store_wait va word =
      access_wait va Write (λ after. giving (with_user_word after n va word) tt) (λ k h. put_wait_bytes k va (to_le_bytes w32 word) h)

  pub store_byte_wait : (va byte : ℕ) → NoMoreWait Q s.spaces (store_byte s n va byte).state.spaces
  unfolding store_byte
  store_byte_wait va byte =
      access_wait va Write (λ after. giving (with_user_byte after n va byte) tt) (λ k h. put_wait_bytes k va (byte ∷ []) h)

  pub exchange_wait : (va word : ℕ) → NoMoreWait Q s.spaces (exchange s n va word).state.spaces
  unfolding exchange
  exchange_wait va word =
      access_wait va Write (λ after. record { state = with_user_word after n va word; gives = got (user_word after n va); written = [] })
      (λ k h. put_wait_bytes k va (to_le_bytes w32 word) h)

  pub restore_wait : NoMoreWait Q s.spaces (restore_frame s n).state.spaces
  unfolding restore_frame
  restore_wait = by_bytes (user_bytes s n (slot_at s n).registers.esp frame_size)
    where
      by_bytes : (r : Result (List ℕ) PageFault) → NoMoreWait Q s.spaces (restored s n r).state.spaces
      by_bytes (Ok bytes) = all_touched_wait Q s.spaces (slot_at s n).directory (slot_at s n).registers.esp frame_size
      by_bytes (Err fault) = fault_wait _ fault (handled s n fault) (handled_wait fault)

-- ---- by the call

-- in other spaces than this
abbrev pub IsBeside : KernelState → ℕ → ℕ → Type 0
IsBeside s n d = d ≢ (slot_at s n).directory

abbrev copies_by : ℕ → Bool
copies_by perm = is_cow (bit_and perm PTE_SYSCALL)

-- A call that maps into no other space a page that waits to be copied, nor the one in which a service keeps what it moves; it removes none
-- there, and destroys no other space.
abbrev pub maps_no_copy : ℕ → List ℕ → Bool
maps_no_copy number args =
    (not (number == SYS_PAGE_ALLOC)
    || ((get_or args 0 0 == 0) || (not (copies_by (get_or args 2 0)) && not (page_number (get_or args 1 0) == page_number UTEMP))))
    && ((not (number == SYS_PAGE_MAP) || (get_or args 2 0 == 0))
    && ((not (number == SYS_PAGE_UNMAP) || (get_or args 0 0 == 0))
    && ((not (number == SYS_ENV_DESTROY) || (get_or args 0 0 == 0))
    && (not (number == SYS_IPC_TRY_SEND) || not (nat_lt (get_or args 2 0) UTOP)))))

implied : (t u : Bool) → (not t || u) ≡ true → t ≡ true → u ≡ true
implied true u is on = is
implied false u is on = absurd (let contradiction : false ≡ true = on in cc)

off : (t : Bool) → not t ≡ true → t ≡ false
off false is = refl
off true is = absurd (let contradiction : false ≡ true = is in cc)

-- another is not named by 0
own_only : (s : KernelState) (n id m : ℕ) → (id == 0) ≡ true → Named id n m → IsBeside s n (slot_at s m).directory → ⊥
own_only s n id m is (inl same) beside = beside (ap (λ (q : ℕ). (slot_at s q).directory) same)
own_only s n id m is (inr other) beside = let contradiction : true ≡ false = sym is ∙ other.0 in cc

beside_off : (s : KernelState) (n id va perm m : ℕ) →
    ((id == 0) || (not (copies_by perm) && not (page_number va == page_number UTEMP))) ≡ true → Named id n m → IsBeside s n (slot_at s m).directory →
    MayMap va perm
beside_off s n id va perm m is (inl same) beside = absurd (beside (ap (λ (q : ℕ). (slot_at s q).directory) same))
beside_off s n id va perm m is (inr other) beside =
    let parts = and_parts _ _ (subst (λ (t : Bool). (t || (not (copies_by perm) && not (page_number va == page_number UTEMP))) ≡ true) other.0 is) in
    (off (copies_by perm) parts.0, apart (off (page_number va == page_number UTEMP) parts.1))
  where
    apart : (page_number va == page_number UTEMP) ≡ false → IsNoWorking (page_number va)
    apart is = grind (arith, nat_tests)

-- it does not hold of the environment's own
pub not_beside : (s : KernelState) (n : ℕ) → IsBeside s n (slot_at s n).directory → ⊥
not_beside s n beside = beside refl

module _ (Q : ℕ → Type 0) (s : KernelState) (n number : ℕ) (args : List ℕ) (own : Q (slot_at s n).directory → ⊥) where
  abbrev q : Regs
  q = asking (slot_at s n).registers number args

  -- what any call does, by what it is asked
  pub system_wait : MapsNoCopies Q s n q → NoMoreWait Q s.spaces (system s n number args).state.spaces
  unfolding system
  system_wait ready =
      let slot : Slot = record (slot_at s n) { registers = q } in
      let k : KernelState = with_registers s n q in
      let regs_are : (slot_at k n).registers ≡ q = ap (λ (x : Slot). x.registers) (upd-at s.environments.slots n slot) in
      let homes : (m : ℕ) → (slot_at k m).directory ≡ (slot_at s m).directory = slots_alike s n (λ (x : Slot). x.directory) slot refl in
      let done : KernelState = (call_of k n (slot_at k n).registers).state in
      by_test done (is_live (slot_at done n) && not (sets_own s n number args))
      (subst (λ (r : Regs). NoMoreWait Q s.spaces (call_of k n r).state.spaces) (sym regs_are)
      (call_wait Q k n (λ here. own (subst Q (homes n) here)) q (record {
        alloc = λ is m named here. ready.alloc is m named (subst Q (homes m) here);
        map = λ is m named here. ready.map is m named (subst Q (homes m) here);
        unmap = λ is m named here. ready.unmap is m named (subst Q (homes m) here);
        destroy = λ is m named here. ready.destroy is m named (subst Q (homes m) here);
        send = λ is low m receives here.
            subst (λ (destination : ℕ). MayMap destination q.edi) (sym (destinations m))
            (ready.send is low m (receives_so m receives) (subst Q (homes m) here));
      })))
    where
      by_test : (t : KernelState) (test : Bool) → NoMoreWait Q s.spaces t.spaces →
          NoMoreWait Q s.spaces (if test then with_registers t n (slot_at s n).registers else t).spaces
      by_test t true h = h
      by_test t false h = h

      slot_with : Slot
      slot_with = record (slot_at s n) { registers = q }

      destinations : (m : ℕ) → (slot_at (with_registers s n q) m).rendezvous.destination ≡ (slot_at s m).rendezvous.destination
      destinations = slots_alike s n (λ (x : Slot). x.rendezvous.destination) slot_with refl

      receives_so : (m : ℕ) → Receives (with_registers s n q) n m → Receives s n m
      receives_so m h =
          let meets : (m : ℕ) → (slot_at (with_registers s n q) m).rendezvous ≡ (slot_at s m).rendezvous =
          slots_alike s n (λ (x : Slot). x.rendezvous) slot_with refl in
          let ids : (m : ℕ) → (slot_at (with_registers s n q) m).id ≡ (slot_at s m).id = slots_alike s n (λ (x : Slot). x.id) slot_with refl in
          record {
            lives = sym (slots_alike s n (λ (x : Slot). is_live x) slot_with refl m) ∙ h.lives;
            waits = sym (λ i. accepts (meets m i) (ids n i)) ∙ h.waits;
            wants = sym (λ i. nat_lt (destinations m i) UTOP) ∙ h.wants;
          }

-- one that maps no such page elsewhere
pub plain_wait : (s : KernelState) (n number : ℕ) (args : List ℕ) → maps_no_copy number args ≡ true →
    NoMoreWait (IsBeside s n) s.spaces (system s n number args).state.spaces
plain_wait s n number args plain =
    let first = and_parts _ _ plain in
    let second = and_parts _ _ first.1 in
    let third = and_parts _ _ second.1 in
    let fourth = and_parts _ _ third.1 in
    system_wait (IsBeside s n) s n number args (not_beside s n) (record {
      alloc = λ is m named here.
          beside_off s n (get_or args 0 0) (get_or args 1 0) (get_or args 2 0) m (implied (number == SYS_PAGE_ALLOC) _ first.0 is) named here;
      map = λ is m named here. absurd (own_only s n (get_or args 2 0) m (implied (number == SYS_PAGE_MAP) _ second.0 is) named here);
      unmap = λ is m named here. absurd (own_only s n (get_or args 0 0) m (implied (number == SYS_PAGE_UNMAP) _ third.0 is) named here);
      destroy = λ is m named here. own_only s n (get_or args 0 0) m (implied (number == SYS_ENV_DESTROY) _ fourth.0 is) named here;
      send = λ is low m receives here.
          let none = off (nat_lt (get_or args 2 0) UTOP) (implied (number == SYS_IPC_TRY_SEND) _ fourth.1 is) in
          absurd (let contradiction : false ≡ true = sym none ∙ low in cc);
    })
