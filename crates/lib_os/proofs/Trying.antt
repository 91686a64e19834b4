-- A message that is tried is answered, whoever is named, and its sender lives on.
use Rattle.std.proofs.Common.{◌≡◌, ◌∙◌, ◌==◌, ◌%◌, ◌&&◌, ℕ, Bool, true, false, not, List, [], ◌∷◌, Option, Some, None, refl, sym, ap, subst, if◌then◌else◌}
use Rattle.std.specs.Prelude.{nat_lt}
use Rattle.jos_base.specs.declared.called.Called.{Called}
use Rattle.jos_base.specs.declared.called.Called.TheVariants.{Answered}
use Rattle.jos_base.specs.declared.environment.Status.TheVariants.{NotRunnable}
use Rattle.jos_base.specs.declared.numbers.TheConstants.{SYS_IPC_TRY_SEND, SYS_IPC_RECV, E_INVAL, NENV, PGSIZE, UTOP}
use Rattle.jos_base.specs.declared.registers.Regs.{Regs}
use Rattle.jos_base.specs.Environments.{Slot, is_live, found, with_answer}
use Rattle.jos_base.specs.KernelState.{KernelState, slot_at, with_slot_at, with_registers, with_rendezvous, with_spaces, with_status, with_refusal}
use Rattle.jos_base.specs.Messages.{Rendezvous, accepts, wanting}
use Rattle.jos_base.specs.SpacesState.{SpacesState}
use Rattle.jos_base.specs.SystemCalls.{Passing, nothing, a_page, invalid, call_of, answered, message_taken, sent, sent_with, passing_of, inserted_at, ipc_try_send_of}
use Rattle.jos_base.specs.Words.{negated}
use Rattle.lib_os.specs.UserCalls.{CallStep, got, asking, called_by, system}
use Rattle.lib_os.specs.AbstractState.{AbstractState}
use Rattle.lib_os.specs.MemoryServices.{lives}
use Rattle.lib_os.specs.Rows.{Names}
use Rattle.lib_os.specs.StandsFor.{StandsFor}
use Rattle.lib_os.proofs.Slots.{slot_put}
use Rattle.lib_os.proofs.Calls.{system_is, live_still, waits_is, ipc_recv_is}
use Rattle.lib_os.proofs.Sends.{message_taken_is, received_in}
use Rattle.lib_os.proofs.SlotsStand.{live_stands, ids_stand}
use Rattle.jos_base.proofs.Maps.{upd-all}

-- the caller has an answer, and lives on with its registers; nothing is written
pub record IsAnswered (call : CallStep Called) (n : ℕ) (regs : Regs) : Type 0 where
  pub answer : ℕ
  pub gives : call.gives ≡ got (Answered answer)
  pub live : is_live (slot_at call.state n) ≡ true
  pub registers : (slot_at call.state n).registers ≡ regs
  pub written : call.written ≡ []

pub live_after : (k : KernelState) (n m : ℕ) (slot : Slot) → is_live slot ≡ true → is_live (slot_at k m) ≡ true → is_live (slot_at (with_slot_at k n slot) m) ≡ true
live_after k n m slot lives before =
    upd-all (λ q (x : Slot). q ≡ m → is_live x ≡ true) k.environments.slots n slot (λ e. lives)
    (λ q ne e. subst (λ r. is_live (slot_at k r) ≡ true) (sym e) before) m refl

pub answer_called : (k : KernelState) (n : ℕ) (regs : Regs) (x : ℕ) → is_live (slot_at k n) ≡ true → IsAnswered (called_by n false regs (answered k n x)) n regs
answer_called k n regs x live =
    let told : Slot = with_answer (slot_at k n) x in
    let lives : is_live (slot_at (with_slot_at k n told) n) ≡ true = live_after k n n told live live in
    record {
      answer = x;
      gives = refl;
      live = subst (λ t. is_live (slot_at (if t && true then with_registers (with_slot_at k n told) n regs else with_slot_at k n told) n) ≡ true) (sym lives)
          (live_after (with_slot_at k n told) n n (record (slot_at (with_slot_at k n told) n) { registers = regs }) lives lives);
      registers = subst (λ t. (slot_at (if t && true then with_registers (with_slot_at k n told) n regs else with_slot_at k n told) n).registers ≡ regs) (sym lives)
          (ap (λ (z : Slot). z.registers) (slot_put (with_slot_at k n told) n (record (slot_at (with_slot_at k n told) n) { registers = regs })));
      written = refl;
    }

message_live : (k : KernelState) (n target value perm : ℕ) → is_live (slot_at k n) ≡ true → is_live (slot_at (message_taken k n target value perm) n) ≡ true
message_live k n target value perm live =
    subst (λ (j : KernelState). is_live (slot_at j n) ≡ true) (sym (message_taken_is k n target value perm))
    (live_after k target n (received_in (slot_at k target) (slot_at k n).id value perm) refl live)

spaces_answered : (k : KernelState) (n target value perm : ℕ) (regs : Regs) → is_live (slot_at k n) ≡ true → (spaces : Option SpacesState) →
    IsAnswered (called_by n false regs (sent_with k n target value perm spaces)) n regs
spaces_answered k n target value perm regs live None = answer_called (with_refusal k) n regs _ live
spaces_answered k n target value perm regs live (Some spaces) =
    answer_called (message_taken (with_spaces k spaces) n target value perm) n regs 0 (message_live (with_spaces k spaces) n target value perm live)

passed_answered : (k : KernelState) (n target value : ℕ) (regs : Regs) → is_live (slot_at k n) ≡ true → (p : Passing) →
    IsAnswered (called_by n false regs (sent k n target value p)) n regs
passed_answered k n target value regs live nothing =
    answer_called (message_taken k n target value 0) n regs 0 (message_live k n target value 0 live)
passed_answered k n target value regs live (a_page entry) =
    spaces_answered k n target value entry.perm regs live (inserted_at k target (slot_at k target).rendezvous.destination entry)
passed_answered k n target value regs live invalid = answer_called k n regs _ live

found_answered : (k : KernelState) (n value va perm : ℕ) (regs : Regs) → is_live (slot_at k n) ≡ true → (target : Option ℕ) →
    IsAnswered (called_by n false regs (ipc_try_send_of k n target value va perm)) n regs
found_answered k n value va perm regs live None = answer_called k n regs _ live
found_answered k n value va perm regs live (Some target) = by_waiting (accepts (slot_at k target).rendezvous (slot_at k n).id) refl
  where
    by_waiting : (t : Bool) → accepts (slot_at k target).rendezvous (slot_at k n).id ≡ t →
        IsAnswered (called_by n false regs (ipc_try_send_of k n (Some target) value va perm)) n regs
    by_waiting false is = rw is (answer_called k n regs _ live)
    by_waiting true is =
        rw is (passed_answered k n target value regs live (passing_of k n (slot_at k target).rendezvous.destination va perm))

pub try_send_answered : (s : KernelState) (n id value va perm : ℕ) (rest : List ℕ) → is_live (slot_at s n) ≡ true →
    IsAnswered (system s n SYS_IPC_TRY_SEND (id ∷ value ∷ va ∷ perm ∷ rest)) n (slot_at s n).registers
unfolding call_of
try_send_answered s n id value va perm rest live =
    let q : Regs = asking (slot_at s n).registers SYS_IPC_TRY_SEND (id ∷ value ∷ va ∷ perm ∷ rest) in
    let k : KernelState = with_registers s n q in
    subst (λ (call : CallStep Called). IsAnswered call n (slot_at s n).registers)
    (sym (system_is s n SYS_IPC_TRY_SEND (id ∷ value ∷ va ∷ perm ∷ rest) (ipc_try_send_of k n (found k.environments id n false) value va perm) refl refl))
    (found_answered k n value va perm (slot_at s n).registers (live_still s n live q) (found k.environments id n false))

-- ---- one that waits for a message

-- the caller lives on with its registers; nothing is written
pub record LivesOn (call : CallStep Called) (n : ℕ) (regs : Regs) : Type 0 where
  pub live : is_live (slot_at call.state n) ≡ true
  pub registers : (slot_at call.state n).registers ≡ regs
  pub written : call.written ≡ []

pub recv_lives : (s : KernelState) (n va sender : ℕ) (rest : List ℕ) → is_live (slot_at s n) ≡ true →
    LivesOn (system s n SYS_IPC_RECV (va ∷ sender ∷ rest)) n (slot_at s n).registers
unfolding call_of
recv_lives s n va sender rest live = by_test (nat_lt va UTOP && not (va % PGSIZE == 0)) refl
  where
    by_test : (t : Bool) → (nat_lt va UTOP && not (va % PGSIZE == 0)) ≡ t → LivesOn (system s n SYS_IPC_RECV (va ∷ sender ∷ rest)) n (slot_at s n).registers
    by_test false is =
        let r : Rendezvous = wanting (slot_at s n).rendezvous va sender in
        let waiting : Slot = record (slot_at s n) { rendezvous = r; status = NotRunnable } in
        let there : slot_at (with_status (with_rendezvous s n r) n NotRunnable) n ≡ waiting =
        ap (λ (k : KernelState). slot_at k n) (waits_is s n r NotRunnable) ∙ slot_put s n waiting in
        subst (λ (call : CallStep Called). LivesOn call n (slot_at s n).registers) (sym (ipc_recv_is s n live va sender rest is))
        (record { live = ap (λ (x : Slot). is_live x) there; registers = ap (λ (x : Slot). x.registers) there; written = refl })
    by_test true is =
        let q : Regs = asking (slot_at s n).registers SYS_IPC_RECV (va ∷ sender ∷ rest) in
        let k : KernelState = with_registers s n q in
        let told = answer_called k n (slot_at s n).registers (negated E_INVAL) (live_still s n live q) in
        subst (λ (call : CallStep Called). LivesOn call n (slot_at s n).registers)
        (sym (system_is s n SYS_IPC_RECV (va ∷ sender ∷ rest) (answered k n (negated E_INVAL)) refl (rw is refl)))
        (record { live = told.live; registers = told.registers; written = told.written })

-- ---- who is there

-- the live environment of an id is there in both systems, or in neither
pub there_stands : {names : Names} {s : KernelState} {a : AbstractState} → StandsFor names s a → (id : ℕ) →
    (is_live (slot_at s (id % NENV)) && ((slot_at s (id % NENV)).id == id)) ≡ lives a id
there_stands h id = λ i. live_stands h (id % NENV) i && (ids_stand h (id % NENV) i == id)
