-- Messages, over states alone.
use Rattle.std.proofs.Common.{◌≡◌, ◌∙◌, ℕ, ◌<◌, ◌≤◌, ◌%◌, ◌==◌, ◌&&◌, Bool, true, false, not, Option, Some, None, refl, ap, subst, arith}
use Rattle.std.specs.Prelude.{nat_lt}
use Rattle.std.proofs.lemmas.Bool.Decides.{nat_tests}
use Rattle.jos_base.specs.declared.registers.Regs.{Regs}
use Rattle.jos_base.specs.declared.environment.Status.TheVariants.{Runnable, NotRunnable}
use Rattle.jos_base.specs.declared.errno.Errno.TheVariants.{BadEnv, Invalid, NoMem, IpcNotRecv}
use Rattle.jos_base.specs.declared.numbers.TheConstants.{PGSIZE, UTOP}
use Rattle.jos_base.specs.declared.called.Called.TheVariants.{Blocked}
use Rattle.jos_base.specs.Reach.{Entry}
use Rattle.jos_base.specs.SpacesState.{SpacesState}
use Rattle.jos_base.specs.Messages.{Rendezvous, accepts, delivered, offered, wanting}
use Rattle.jos_base.specs.Environments.{Slot, with_answer}
use Rattle.jos_base.specs.KernelState.{KernelState, slot_at, with_slot_at, with_status, with_registers, with_rendezvous, with_spaces, with_refusal}
use Rattle.jos_base.specs.SystemCalls.{Passing, nothing, a_page, invalid, answered, refused, shared_entry, entry_at, inserted_at}
use Rattle.jos_base.specs.SystemCalls.{passing_of, message_taken, sent, ipc_try_send_of, ipc_recv}
use Rattle.jos_sys.specs.declared.system.CallAnswer.{CallAnswer}
use Rattle.jos_sys.specs.System.{IsDone}
use Rattle.jos_base.proofs.Maps.{upd-at, upd-twice}

-- ---- what passes

module _ (k : KernelState) (n destination va perm : ℕ) (below : va < UTOP) (at_start : va % PGSIZE ≡ 0) where
  pub page_passes : (e : Entry) → Some e ≡ shared_entry (entry_at k n va) perm → destination < UTOP → a_page e ≡ passing_of k n destination va perm
  page_passes e is lower =
      let a : nat_lt va UTOP ≡ true = grind (arith, nat_tests) in
      let b : (va % PGSIZE == 0) ≡ true = grind (arith, nat_tests) in
      let d : nat_lt destination UTOP ≡ true = grind (arith, nat_tests) in
      rw (a, b, ← is, d) refl

  pub no_page_wanted : (e : Entry) → Some e ≡ shared_entry (entry_at k n va) perm → UTOP ≤ destination → nothing ≡ passing_of k n destination va perm
  no_page_wanted e is above =
      let a : nat_lt va UTOP ≡ true = grind (arith, nat_tests) in
      let b : (va % PGSIZE == 0) ≡ true = grind (arith, nat_tests) in
      let d : nat_lt destination UTOP ≡ false = grind (arith, nat_tests) in
      rw (a, b, ← is, d) refl

  pub page_invalid : None ≡ shared_entry (entry_at k n va) perm → invalid ≡ passing_of k n destination va perm
  page_invalid is =
      let a : nat_lt va UTOP ≡ true = grind (arith, nat_tests) in
      let b : (va % PGSIZE == 0) ≡ true = grind (arith, nat_tests) in
      rw (a, b, ← is) refl

-- ---- the word

-- a word that is waited for is taken
pub offer_taken : (r : Rendezvous) (sender value perm : ℕ) → accepts r sender ≡ true → offered r sender value perm ≡ Some (delivered r sender value perm)
unfolding offered
offer_taken r sender value perm waits = rw waits refl

pub some_same : {X : Type 0} {x y : X} → Some x ≡ Some y → x ≡ y
some_same {X = X} {x = x} {y = y} e = (let same : ◌≡◌ {A = X} x y = cc in same)

-- the target may run again, and has its answer
pub woken_is : (m v j : KernelState) (target : ℕ) (regs : Regs) → v ≡ with_status m target Runnable → regs ≡ (slot_at v target).registers
    → j ≡ with_registers v target (record regs { eax = 0 }) → j ≡ with_slot_at m target (with_answer (record (slot_at m target) { status = Runnable }) 0)
woken_is m v j target regs runs same now =
    let ran : Slot = record (slot_at m target) { status = Runnable } in
    let here : slot_at (with_slot_at m target ran) target ≡ ran = upd-at m.environments.slots target ran in
    now
    ∙ ap (λ (r : Regs). with_registers v target (record r { eax = 0 })) same
    ∙ ap (λ s. with_slot_at s target (with_answer (slot_at s target) 0)) runs
    ∙ ap (λ (s : Slot). with_slot_at (with_slot_at m target ran) target (with_answer s 0)) here
    ∙ (λ i. record m { environments = record m.environments { slots = upd-twice m.environments.slots target ran (with_answer ran 0) i } })

-- ---- answers

module _ (k j : KernelState) (n : ℕ) (answer : CallAnswer) where
  module _ (f : Option ℕ) (value va perm : ℕ) where
    pub no_receiver : None ≡ f → IsDone answer (refused k n BadEnv) j → IsDone answer (ipc_try_send_of k n f value va perm) j
    no_receiver none done = subst (λ z. IsDone answer (ipc_try_send_of k n z value va perm) j) none done

    module _ (target : ℕ) (found : Some target ≡ f) where
      pub not_accepted : accepts (slot_at k target).rendezvous (slot_at k n).id ≡ false → IsDone answer (refused k n IpcNotRecv) j
          → IsDone answer (ipc_try_send_of k n f value va perm) j
      not_accepted off done = subst (λ z. IsDone answer (ipc_try_send_of k n z value va perm) j) found (rw off done)

      pub sends : accepts (slot_at k target).rendezvous (slot_at k n).id ≡ true → (p : Passing)
          → p ≡ passing_of k n (slot_at k target).rendezvous.destination va perm → IsDone answer (sent k n target value p) j
          → IsDone answer (ipc_try_send_of k n f value va perm) j
      sends on p is done =
          subst (λ z. IsDone answer (ipc_try_send_of k n z value va perm) j) found
          (rw on (subst (λ z. IsDone answer (sent k n target value z) j) is done))

  module _ (target value : ℕ) (entry : Entry) where
    pub page_sent : (t : SpacesState) (m : KernelState) → inserted_at k target (slot_at k target).rendezvous.destination entry ≡ Some t
        → m ≡ with_spaces k t → IsDone answer (answered (message_taken m n target value entry.perm) n 0) j
        → IsDone answer (sent k n target value (a_page entry)) j
    page_sent t m made now done =
        rw made (subst (λ z. IsDone answer (answered (message_taken z n target value entry.perm) n 0) j) now done)

    pub page_unsent : inserted_at k target (slot_at k target).rendezvous.destination entry ≡ None
        → IsDone answer (refused (with_refusal k) n NoMem) j → IsDone answer (sent k n target value (a_page entry)) j
    page_unsent none done = rw none done

  pub receive_refused : (va sender : ℕ) → not (nat_lt va UTOP && not (va % PGSIZE == 0)) ≡ false → IsDone answer (refused k n Invalid) j
      → IsDone answer (ipc_recv k n va sender) j
  receive_refused va sender off done =
      let test : (nat_lt va UTOP && not (va % PGSIZE == 0)) ≡ true = negation _ off in rw test done
    where
      negation : (b : Bool) → not b ≡ false → b ≡ true
      negation true e = refl
      negation false e = let absurd_is : ⊥ = cc in absurd absurd_is

-- the caller waits
pub received : (k m j : KernelState) (n va sender : ℕ) (r : Rendezvous) → not (nat_lt va UTOP && not (va % PGSIZE == 0)) ≡ true
    → r ≡ wanting (slot_at k n).rendezvous va sender → m ≡ with_rendezvous k n r → j ≡ with_status m n NotRunnable
    → IsDone (record { called = Blocked; written = 0 }) (ipc_recv k n va sender) j
received k m j n va sender r on is was now =
    let test : (nat_lt va UTOP && not (va % PGSIZE == 0)) ≡ false = negation _ on in
    rw test (now ∙ ap (λ s. with_status s n NotRunnable) (was ∙ ap (with_rendezvous k n) is), refl, refl, refl)
  where
    negation : (b : Bool) → not b ≡ true → b ≡ false
    negation false e = refl
    negation true e = let absurd_is : ⊥ = cc in absurd absurd_is
