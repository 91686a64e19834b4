-- What the system calls that the library makes come to. The caller's registers are as before, so that a call changes
-- nothing but what it is for.
use Rattle.std.proofs.Common.{◌≡◌, ◌∙◌, ◌==◌, ◌%◌, ◌&&◌, ◌<◌, ◌≤◌, ℕ, Bool, true, false, not, List, [], ◌∷◌, Option, Some, None}
use Rattle.std.proofs.Common.{◌⊎◌, inl, inr, Result, Ok, Err, refl, sym, ap, subst, arith, if◌then◌else◌}
use Rattle.std.specs.Prelude.{◌+◌, ◌-◌, ◌^◌, min, nat_lt}
use Rattle.std.proofs.lemmas.Bool.Decides.{nat_tests}
use Rattle.jos_base.specs.declared.called.Called.{Called}
use Rattle.jos_base.specs.declared.called.Called.TheVariants.{Answered, Ended, Blocked}
use Rattle.jos_base.specs.declared.environment.Status.{Status}
use Rattle.jos_base.specs.declared.environment.Status.TheVariants.{NotRunnable, Runnable}
use Rattle.jos_base.specs.declared.line.Line.{Line}
use Rattle.jos_base.specs.declared.line.Line.TheVariants.{UserMemCheck}
use Rattle.jos_base.specs.declared.memory.PageFault.{PageFault}
use Rattle.jos_base.specs.declared.numbers.TheConstants.{SYS_CPUTS, SYS_GETENVID, SYS_ENV_DESTROY, SYS_PAGE_ALLOC, SYS_PAGE_UNMAP, SYS_YIELD}
use Rattle.jos_base.specs.declared.numbers.TheConstants.{SYS_IPC_RECV, SYS_ENV_SET_TRAPFRAME, PGSIZE, UTOP, NENV}
use Rattle.jos_base.specs.declared.numbers.TheConstants.{E_NO_MEM, CPUTS_MAX}
use Rattle.jos_base.specs.declared.registers.Regs.{Regs}
use Rattle.jos_base.specs.Environments.{Environments, Slot, is_live, found, free_slot, records_of, record_words, with_answer, with_slot}
use Rattle.jos_base.specs.KernelState.{KernelState, slot_at, with_slot_at, with_spaces, with_registers, with_status, with_rendezvous, with_refusal}
use Rattle.jos_base.specs.Lines.{line_text}
use Rattle.jos_base.specs.Messages.{Rendezvous, wanting}
use Rattle.jos_base.specs.Reach.{bytes_read}
use Rattle.jos_base.specs.SpacesState.{SpacesState, allocated, unmapped, destroyed}
use Rattle.jos_base.specs.SystemCalls.{Did, call_of, answered, answered_with, is_page_address, is_page_perm, second_of, killed, without_environment}
use Rattle.jos_base.specs.SystemCalls.{user_bytes, with_bytes_reached, cputs_of}
use Rattle.jos_base.specs.UserMemory.{read_byte, all_touched}
use Rattle.jos_base.specs.Words.{negated, page_number, upd}
use Rattle.lib_os.specs.LibrarySteps.{NothingRefused}
use Rattle.lib_os.specs.UserCalls.{CallStep, IsCallStep, got, giving, asking, taken_back, called_by, system, Output, Prints}
use Rattle.lib_os.proofs.SlotsSet.{set_twice}
use Rattle.lib_os.proofs.Slots.{slot_put, slots_alike, registers_put, registers_back}
use Rattle.jos_base.proofs.Maps.{upd-at, upd-twice}

-- ---- the cases of a call that asks for frames, and of one that writes

-- by the spaces after it, or None where no frame was free
abbrev pub made_step : KernelState → Option SpacesState → CallStep Called
made_step s None = giving (with_refusal s) (Answered (negated E_NO_MEM))
made_step s (Some spaces) = giving (with_spaces s spaces) (Answered 0)

-- the caller is gone, and this is written
abbrev pub gone_step : KernelState → ℕ → List ℕ → CallStep Called
gone_step s n written = record { state = without_environment s n; gives = got Ended; written = written }

-- by the bytes that were read, or the fault
abbrev pub cputs_step : KernelState → ℕ → ℕ → ℕ → Result (List ℕ) PageFault → CallStep Called
cputs_step s n va len (Ok bytes) = record { state = with_bytes_reached s n va len; gives = got (Answered 0); written = bytes }
cputs_step s n va len (Err fault) = gone_step s n (killed s n (UserMemCheck fault.va)).written

-- ---- what a call gave

-- what it gave, the state after it and what was written are those that the call comes to
pub comes_to : (step : CallStep Called) (what called : Called) (after state : KernelState) (written : List ℕ) (output : Output) →
    step ≡ record { state = after; gives = got what; written = written } → IsCallStep step (Ok called) state output →
    (called ≡ what) × (state ≡ after) × Prints output written
comes_to step what called after state written output is came =
    let gives : got what ≡ got called = sym (ap (λ (z : CallStep Called). z.gives) is) ∙ came.0 in
    let same : ◌≡◌ {A = Called} what called = cc in
    (sym same, came.1 ∙ ap (λ (z : CallStep Called). z.state) is, subst (λ (z : CallStep Called). Prints output z.written) is came.2)

-- a caller that is killed
pub killed_state : (s : KernelState) (n : ℕ) (line : Line) → (killed s n line).state ≡ without_environment s n
unfolding killed
killed_state s n line = refl

pub killed_written : (s : KernelState) (n : ℕ) (line : Line) → (killed s n line).written ≡ line_text (slot_at s n).id line
unfolding killed
killed_written s n line = refl

-- ---- what is behind any call

-- a live caller has its registers back
pub given_back : (k : KernelState) (n : ℕ) (regs : Regs) → is_live (slot_at k n) ≡ true → taken_back k n false regs ≡ with_registers k n regs
given_back k n regs live = rw live refl

-- a call that answers in a state in which the caller is live
pub answer_is : (k : KernelState) (n : ℕ) (regs : Regs) (answer : ℕ) → is_live (slot_at k n) ≡ true →
    called_by n false regs (answered k n answer) ≡ giving (with_registers k n regs) (Answered answer)
answer_is k n regs answer live =
    let told : Slot = with_answer (slot_at k n) answer in
    let there : slot_at (with_slot_at k n told) n ≡ told = slot_put k n told in
    let state : taken_back (with_slot_at k n told) n false regs ≡ with_registers k n regs =
    given_back (with_slot_at k n told) n regs (ap is_live there ∙ live) ∙ registers_put k n told regs in
    ap (λ after. giving after (Answered answer)) state

-- a page's address below UTOP, and any from there on, is a place at which a message may be waited for
pub receives_at : (va : ℕ) → va % PGSIZE ≡ 0 → (nat_lt va UTOP && not (va % PGSIZE == 0)) ≡ false
receives_at va at_start =
    let test : (va % PGSIZE == 0) ≡ true = grind (arith, nat_tests) in rw test (by_test (nat_lt va UTOP))
  where
    by_test : (t : Bool) → (t && not true) ≡ false
    by_test true = refl
    by_test false = refl

pub receives_above : (va : ℕ) → UTOP ≤ va → (nat_lt va UTOP && not (va % PGSIZE == 0)) ≡ false
receives_above va above = let test : nat_lt va UTOP ≡ false = grind (arith, nat_tests) in rw test refl

-- an environment that waits is changed once
pub waits_is : (s : KernelState) (n : ℕ) (r : Rendezvous) (status : Status) →
    with_status (with_rendezvous s n r) n status ≡ with_slot_at s n (record (slot_at s n) { rendezvous = r; status = status })
waits_is s n r status =
    ap (λ (x : Slot). with_slot_at (with_rendezvous s n r) n (record x { status = status })) (slot_put s n (record (slot_at s n) { rendezvous = r }))
    ∙ set_twice s n (record (slot_at s n) { rendezvous = r }) (record (slot_at s n) { rendezvous = r; status = status })

module _ (s : KernelState) (n : ℕ) where
  -- the state in which the call is done
  abbrev pub calling : ℕ → List ℕ → KernelState
  calling number args = with_registers s n (asking (slot_at s n).registers number args)

  pub caller_is : (q : Regs) → slot_at (with_registers s n q) n ≡ record (slot_at s n) { registers = q }
  caller_is q = slot_put s n (record (slot_at s n) { registers = q })

  -- what the call of a number is in that state, and the registers taken back
  pub system_is : (number : ℕ) (args : List ℕ) (did : Did) → (number == SYS_ENV_SET_TRAPFRAME) ≡ false →
      call_of (calling number args) n (asking (slot_at s n).registers number args) ≡ did →
      system s n number args ≡ called_by n false (slot_at s n).registers did
  unfolding system
  system_is number args did other e =
      rw other
      (ap (λ (slot : Slot). called_by n false (slot_at s n).registers (call_of (calling number args) n slot.registers)) (caller_is (asking (slot_at s n).registers number args))
      ∙ ap (called_by n false (slot_at s n).registers) e)

  -- the bytes that a user reads are the same, whatever its registers are
  records_alike : (q : Regs) → records_of (with_registers s n q).environments ≡ records_of s.environments
  unfolding records_of record_words
  records_alike q = λ i m. if nat_lt m NENV then slots_alike s n record_words (record (slot_at s n) { registers = q }) refl m i else []

  pub bytes_alike : (q : Regs) (va len : ℕ) → user_bytes (with_registers s n q) n va len ≡ user_bytes s n va len
  bytes_alike q va len = λ i. bytes_read (read_byte (records_alike q i) s.spaces (caller_is q i).directory) va len

  -- a caller that is gone has no registers
  gone_is : (q regs : Regs) (written : List ℕ) →
      called_by n false regs (record { state = without_environment (with_registers s n q) n; called = Ended; written = written }) ≡ gone_step s n written
  gone_is q regs written =
      let k : KernelState = with_registers s n q in
      let free : is_live (slot_at (without_environment k n) n) ≡ false = ap is_live (upd-at k.environments.slots n (free_slot (slot_at k n).id)) in
      let same : without_environment k n ≡ without_environment s n =
      λ i. record s {
        spaces = destroyed s.spaces (caller_is q i).directory;
        environments = record s.environments {
          slots = (upd-twice s.environments.slots n (record (slot_at s n) { registers = q }) (free_slot (slot_at k n).id)
              ∙ (λ j. upd s.environments.slots n (free_slot (caller_is q j).id))) i;
          free_slots = n ∷ s.environments.free_slots;
        };
      } in
      rw free (λ i. record { state = same i; gives = got Ended; written = written })

  -- a call that changes the caller's slot
  pub own_is : (q regs : Regs) (slot : Slot) (what : Called) (written : List ℕ) → is_live slot ≡ true →
      called_by n false regs (record { state = with_slot_at (with_registers s n q) n slot; called = what; written = written })
      ≡ record { state = with_slot_at s n (record slot { registers = regs }); gives = got what; written = written }
  own_is q regs slot what written lives =
      let k : KernelState = with_registers s n q in
      let there : slot_at (with_slot_at k n slot) n ≡ slot = slot_put k n slot in
      let state : taken_back (with_slot_at k n slot) n false regs ≡ with_slot_at s n (record slot { registers = regs }) =
      given_back (with_slot_at k n slot) n regs (ap is_live there ∙ lives)
      ∙ registers_put k n slot regs
      ∙ set_twice s n (record (slot_at s n) { registers = q }) (record slot { registers = regs }) in
      λ i. record { state = state i; gives = got what; written = written }

  module _ (live : is_live (slot_at s n) ≡ true) where
    pub live_still : (q : Regs) → is_live (slot_at (with_registers s n q) n) ≡ true
    live_still q = ap is_live (caller_is q) ∙ live

    -- a call that leaves the table as it was
    pub quiet_is : (q : Regs) (k : KernelState) (answer : ℕ) → k.environments ≡ (with_registers s n q).environments →
        called_by n false (slot_at s n).registers (answered k n answer) ≡ giving (record k { environments = s.environments }) (Answered answer)
    quiet_is q k answer e =
        answer_is k n (slot_at s n).registers answer (ap (λ (t : Environments). is_live (t.slots n)) e ∙ live_still q)
        ∙ ap (λ (t : Environments). giving (record k { environments = with_slot t n (record (t.slots n) { registers = (slot_at s n).registers }) }) (Answered answer)) e
        ∙ ap (λ (j : KernelState). giving (record k { environments = j.environments }) (Answered answer)) (registers_back s n q)

    pub getenvid_is : (args : List ℕ) → system s n SYS_GETENVID args ≡ giving s (Answered (slot_at s n).id)
    unfolding call_of
    getenvid_is args =
        let q : Regs = asking (slot_at s n).registers SYS_GETENVID args in
        let k : KernelState = with_registers s n q in
        system_is SYS_GETENVID args (answered k n (slot_at k n).id) refl refl
        ∙ quiet_is q k (slot_at k n).id refl
        ∙ (λ i. giving s (Answered (caller_is q i).id))

    pub yield_is : (args : List ℕ) → system s n SYS_YIELD args ≡ giving (with_status s n Runnable) (Answered 0)
    unfolding call_of
    yield_is args =
        let q : Regs = asking (slot_at s n).registers SYS_YIELD args in
        let k : KernelState = with_registers s n q in
        let ran : Slot = record (slot_at k n) { status = Runnable } in
        let told : answered (with_status k n Runnable) n 0 ≡ record { state = with_slot_at k n (with_answer ran 0); called = Answered 0; written = [] } =
        λ i. record {
          state = (ap (λ (x : Slot). with_slot_at (with_slot_at k n ran) n (with_answer x 0)) (slot_put k n ran) ∙ set_twice k n ran (with_answer ran 0)) i;
          called = Answered 0;
          written = [];
        } in
        system_is SYS_YIELD args (record { state = with_slot_at k n (with_answer ran 0); called = Answered 0; written = [] }) refl told
        ∙ own_is q (slot_at s n).registers (with_answer ran 0) (Answered 0) [] refl
        ∙ (λ i. giving (with_slot_at s n (record (caller_is q i) { status = Runnable; registers = (slot_at s n).registers })) (Answered 0))

    pub made_is : (q : Regs) (spaces : Option SpacesState) →
        called_by n false (slot_at s n).registers (answered_with (with_registers s n q) n spaces) ≡ made_step s spaces
    made_is q None = quiet_is q (with_refusal (with_registers s n q)) (negated E_NO_MEM) refl
    made_is q (Some spaces) = quiet_is q (with_spaces (with_registers s n q) spaces) 0 refl

    -- page_alloc(0, va, perm)
    pub page_alloc_is : (va perm : ℕ) (rest : List ℕ) → is_page_address va ≡ true → is_page_perm perm ≡ true →
        system s n SYS_PAGE_ALLOC (0 ∷ va ∷ perm ∷ rest)
        ≡ made_step s (second_of (allocated s.spaces (slot_at s n).directory (page_number va) perm))
    unfolding call_of found
    page_alloc_is va perm rest address permitted =
        let q : Regs = asking (slot_at s n).registers SYS_PAGE_ALLOC (0 ∷ va ∷ perm ∷ rest) in
        let k : KernelState = with_registers s n q in
        system_is SYS_PAGE_ALLOC (0 ∷ va ∷ perm ∷ rest) (answered_with k n (second_of (allocated k.spaces (slot_at k n).directory (page_number va) perm))) refl
        (rw (address, permitted) refl)
        ∙ made_is q (second_of (allocated k.spaces (slot_at k n).directory (page_number va) perm))
        ∙ (λ i. made_step s (second_of (allocated s.spaces (caller_is q i).directory (page_number va) perm)))

    module _ (va perm : ℕ) (rest : List ℕ) (address : is_page_address va ≡ true) (permitted : is_page_perm perm ≡ true) where
      pub page_alloc_some : (frame : ℕ) (spaces : SpacesState) → allocated s.spaces (slot_at s n).directory (page_number va) perm ≡ Some (frame, spaces) →
          system s n SYS_PAGE_ALLOC (0 ∷ va ∷ perm ∷ rest) ≡ giving (with_spaces s spaces) (Answered 0)
      page_alloc_some frame spaces is = page_alloc_is va perm rest address permitted ∙ ap (λ f. made_step s (second_of f)) is

      pub page_alloc_none : allocated s.spaces (slot_at s n).directory (page_number va) perm ≡ None →
          system s n SYS_PAGE_ALLOC (0 ∷ va ∷ perm ∷ rest) ≡ giving (with_refusal s) (Answered (negated E_NO_MEM))
      page_alloc_none none = page_alloc_is va perm rest address permitted ∙ ap (λ f. made_step s (second_of f)) none

    -- page_unmap(0, va)
    pub page_unmap_is : (va : ℕ) (rest : List ℕ) → is_page_address va ≡ true →
        system s n SYS_PAGE_UNMAP (0 ∷ va ∷ rest) ≡ giving (with_spaces s (unmapped s.spaces (slot_at s n).directory (page_number va))) (Answered 0)
    unfolding call_of found
    page_unmap_is va rest address =
        let q : Regs = asking (slot_at s n).registers SYS_PAGE_UNMAP (0 ∷ va ∷ rest) in
        let k : KernelState = with_registers s n q in
        system_is SYS_PAGE_UNMAP (0 ∷ va ∷ rest) (answered (with_spaces k (unmapped k.spaces (slot_at k n).directory (page_number va))) n 0) refl
        (rw address refl)
        ∙ quiet_is q (with_spaces k (unmapped k.spaces (slot_at k n).directory (page_number va))) 0 refl
        ∙ (λ i. giving (with_spaces s (unmapped s.spaces (caller_is q i).directory (page_number va))) (Answered 0))

    read_is : (q : Regs) (va len : ℕ) (read : Result (List ℕ) PageFault) →
        called_by n false (slot_at s n).registers (cputs_of (with_registers s n q) n va len read) ≡ cputs_step s n va len read
    unfolding killed
    read_is q va len (Ok bytes) =
        let k : KernelState = with_registers s n q in
        ap (λ (step : CallStep Called). record step { written = bytes }) (quiet_is q (with_bytes_reached k n va len) 0 refl)
        ∙ (λ i. record { state = with_spaces s (all_touched s.spaces (caller_is q i).directory va len); gives = got (Answered 0); written = bytes })
    read_is q va len (Err fault) =
        gone_is q (slot_at s n).registers (line_text (slot_at (with_registers s n q) n).id (UserMemCheck fault.va))
        ∙ (λ i. gone_step s n (line_text (caller_is q i).id (UserMemCheck fault.va)))

    -- cputs(va, len)
    pub cputs_is : (va len : ℕ) (rest : List ℕ) → len ≤ CPUTS_MAX →
        system s n SYS_CPUTS (va ∷ len ∷ rest) ≡ cputs_step s n va len (user_bytes s n va len)
    unfolding call_of
    cputs_is va len rest few =
        let q : Regs = asking (slot_at s n).registers SYS_CPUTS (va ∷ len ∷ rest) in
        let k : KernelState = with_registers s n q in
        let test : nat_lt CPUTS_MAX len ≡ false = grind (arith, nat_tests) in
        system_is SYS_CPUTS (va ∷ len ∷ rest) (cputs_of k n va len (user_bytes k n va len)) refl (rw test refl)
        ∙ read_is q va len (user_bytes k n va len)
        ∙ ap (cputs_step s n va len) (bytes_alike q va len)

    module _ (va len : ℕ) (rest : List ℕ) (few : len ≤ CPUTS_MAX) where
      pub cputs_writes : (bytes : List ℕ) → user_bytes s n va len ≡ Ok bytes →
          system s n SYS_CPUTS (va ∷ len ∷ rest) ≡ record { state = with_bytes_reached s n va len; gives = got (Answered 0); written = bytes }
      cputs_writes bytes is = cputs_is va len rest few ∙ ap (cputs_step s n va len) is

      pub cputs_ends : (fault : PageFault) → user_bytes s n va len ≡ Err fault →
          system s n SYS_CPUTS (va ∷ len ∷ rest)
          ≡ record { state = without_environment s n; gives = got Ended; written = line_text (slot_at s n).id (UserMemCheck fault.va) }
      cputs_ends fault is =
          cputs_is va len rest few ∙ ap (cputs_step s n va len) is ∙ ap (gone_step s n) (killed_written s n (UserMemCheck fault.va))

    -- env_destroy(0)
    pub env_destroy_is : (rest : List ℕ) → system s n SYS_ENV_DESTROY (0 ∷ rest) ≡ gone_step s n []
    unfolding call_of found
    env_destroy_is rest =
        let q : Regs = asking (slot_at s n).registers SYS_ENV_DESTROY (0 ∷ rest) in
        let k : KernelState = with_registers s n q in
        let own : (n == n) ≡ true = grind (arith, nat_tests) in
        system_is SYS_ENV_DESTROY (0 ∷ rest) (record { state = without_environment k n; called = Ended; written = [] }) refl (rw own refl)
        ∙ gone_is q (slot_at s n).registers []

    -- ipc_recv(va, sender)
    pub ipc_recv_is : (va sender : ℕ) (rest : List ℕ) → (nat_lt va UTOP && not (va % PGSIZE == 0)) ≡ false →
        system s n SYS_IPC_RECV (va ∷ sender ∷ rest)
        ≡ record { state = with_status (with_rendezvous s n (wanting (slot_at s n).rendezvous va sender)) n NotRunnable; gives = got Blocked; written = [] }
    unfolding call_of
    ipc_recv_is va sender rest place =
        let q : Regs = asking (slot_at s n).registers SYS_IPC_RECV (va ∷ sender ∷ rest) in
        let k : KernelState = with_registers s n q in
        let waiting : Slot = record (slot_at k n) { rendezvous = wanting (slot_at k n).rendezvous va sender; status = NotRunnable } in
        system_is SYS_IPC_RECV (va ∷ sender ∷ rest) (record { state = with_slot_at k n waiting; called = Blocked; written = [] }) refl
        (rw place (λ i. record { state = waits_is k n (wanting (slot_at k n).rendezvous va sender) NotRunnable i; called = Blocked; written = [] }))
        ∙ own_is q (slot_at s n).registers waiting Blocked [] refl
        ∙ (λ i. record {
          state = with_slot_at s n (record (caller_is q i) {
            rendezvous = wanting (caller_is q i).rendezvous va sender;
            status = NotRunnable;
            registers = (slot_at s n).registers;
          });
          gives = got Blocked;
          written = [];
        })
        ∙ (λ i. record { state = sym (waits_is s n (wanting (slot_at s n).rendezvous va sender) NotRunnable) i; gives = got Blocked; written = [] })

-- ---- what a caller learns of a page that it asked for

-- a refusal is seen in the count, but where that stands still at the end of its type
pub refusal_is_seen : (s : KernelState) → NothingRefused s (with_refusal s) → ⊥
refusal_is_seen s quiet =
    let stays : min (s.refusals + 1) (2 ^ 64 - 1) ≡ s.refusals = quiet.stays in
    let could : s.refusals < 2 ^ 64 - 1 = quiet.could in
    omega arith

-- the page was made: its frame, and the spaces with it
pub record PageMade (s : KernelState) (n va perm : ℕ) (asked : CallStep Called) : Type 0 where
  pub frame : ℕ
  pub spaces : SpacesState
  pub is : allocated s.spaces (slot_at s n).directory (page_number va) perm ≡ Some (frame, spaces)
  pub step : asked ≡ giving (with_spaces s spaces) (Answered 0)

-- no frame was free
pub record PageRefused (s : KernelState) (n va perm : ℕ) (asked : CallStep Called) : Type 0 where
  pub is : allocated s.spaces (slot_at s n).directory (page_number va) perm ≡ None
  pub step : asked ≡ giving (with_refusal s) (Answered (negated E_NO_MEM))

module _ (s : KernelState) (n va perm : ℕ) (rest : List ℕ) (live : is_live (slot_at s n) ≡ true) (address : is_page_address va ≡ true)
    (permitted : is_page_perm perm ≡ true) where
  -- the call, and what it asks the spaces for
  abbrev pub page_asked : CallStep Called
  page_asked = system s n SYS_PAGE_ALLOC (0 ∷ va ∷ perm ∷ rest)

  pub page_made_or_refused : PageMade s n va perm page_asked ⊎ PageRefused s n va perm page_asked
  page_made_or_refused = by_found (allocated s.spaces (slot_at s n).directory (page_number va) perm) refl
    where
      by_found : (found : Option (ℕ × SpacesState)) → allocated s.spaces (slot_at s n).directory (page_number va) perm ≡ found →
          PageMade s n va perm page_asked ⊎ PageRefused s n va perm page_asked
      by_found None e = inr (record { is = e; step = page_alloc_is s n live va perm rest address permitted ∙ ap (λ f. made_step s (second_of f)) e })
      by_found (Some f) e = inl (record {
        frame = f.0;
        spaces = f.1;
        is = e;
        step = page_alloc_is s n live va perm rest address permitted ∙ ap (λ f. made_step s (second_of f)) e;
      })

  -- The answer tells which it was: 0 where the page was made, and the error's number where not.
  pub made_where_0 : page_asked.gives ≡ got (Answered 0) → PageMade s n va perm page_asked
  made_where_0 gives = elim page_made_or_refused [
    | inl made ↦ made
    | inr none ↦
        let told : got (Answered (negated E_NO_MEM)) ≡ got (Answered 0) = sym (ap (λ (step : CallStep Called). step.gives) none.step) ∙ gives in
        absurd (different told)
  ]
    where
      different : got (Answered (negated E_NO_MEM)) ≡ got (Answered 0) → ⊥
      different e = cc

  -- so does the count of refusals, but where it stood at the end of its type before
  pub made_where_not_refused : NothingRefused s page_asked.state → PageMade s n va perm page_asked
  made_where_not_refused quiet = elim page_made_or_refused [
    | inl made ↦ made
    | inr none ↦ absurd (refusal_is_seen s (subst (λ (step : CallStep Called). NothingRefused s step.state) none.step quiet))
  ]
