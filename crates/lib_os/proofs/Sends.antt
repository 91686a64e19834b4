-- What a message comes to, by whether the receiver is there, whether it waits for this sender, and what is to pass with the
-- word. The sender itself does not wait, so that it is not the receiver.
use Rattle.std.proofs.Common.{◌≡◌, ◌≢◌, ◌∙◌, ◌==◌, ◌%◌, ◌&&◌, ◌<◌, ◌≤◌, ℕ, Bool, true, false, not, List, ◌∷◌, Option, Some, None}
use Rattle.std.proofs.Common.{refl, sym, ap, subst, arith, if◌then◌else◌}
use Rattle.std.specs.Prelude.{nat_lt}
use Rattle.std.proofs.lemmas.Bool.Decides.{nat_tests}
use Rattle.jos_base.specs.declared.called.Called.{Called}
use Rattle.jos_base.specs.declared.called.Called.TheVariants.{Answered}
use Rattle.jos_base.specs.declared.environment.Status.TheVariants.{Runnable}
use Rattle.jos_base.specs.declared.errno.Errno.TheVariants.{IpcNotRecv}
use Rattle.jos_base.specs.declared.numbers.TheConstants.{SYS_IPC_TRY_SEND, PGSIZE, UTOP, NENV}
use Rattle.jos_base.specs.declared.numbers.TheConstants.{E_BAD_ENV, E_INVAL, E_NO_MEM, E_IPC_NOT_RECV}
use Rattle.jos_base.specs.declared.registers.Regs.{Regs}
use Rattle.jos_base.specs.Environments.{Environments, Slot, is_live, found, with_answer}
use Rattle.jos_base.specs.KernelState.{KernelState, slot_at, with_slot_at, with_spaces, with_registers, with_refusal}
use Rattle.jos_base.specs.Messages.{accepts, delivered}
use Rattle.jos_base.specs.Reach.{Entry}
use Rattle.jos_base.specs.SpacesState.{SpacesState, inserted}
use Rattle.jos_base.specs.SystemCalls.{Passing, nothing, a_page, invalid, passing_by, passing_of, shared_entry, entry_at, inserted_at, is_page_perm, has_write}
use Rattle.jos_base.specs.SystemCalls.{call_of, answered, refused, message_taken, sent, sent_with, ipc_try_send_of}
use Rattle.jos_base.specs.Words.{negated, page_number}
use Rattle.lib_os.specs.LibrarySteps.{NothingRefused}
use Rattle.lib_os.specs.UserCalls.{CallStep, giving, asking, called_by, system}
use Rattle.lib_os.proofs.SlotsSet.{set_twice}
use Rattle.lib_os.proofs.Slots.{slot_put, slot_kept, slot_back, slots_swap, slots_alike}
use Rattle.lib_os.proofs.Calls.{caller_is, system_is, answer_is, live_still, quiet_is, refusal_is_seen}

-- ---- the cases

-- the slot of one to whom the word has come: it may run again, and is answered 0
abbrev pub received_in : Slot → ℕ → ℕ → ℕ → Slot
received_in slot sender value perm = record slot {
  rendezvous = delivered slot.rendezvous sender value perm;
  status = Runnable;
  registers = record slot.registers { eax = 0 };
}

-- the state in which the word of n has come to another
abbrev pub with_message : KernelState → ℕ → ℕ → ℕ → ℕ → KernelState
with_message s n target value perm = with_slot_at s target (received_in (slot_at s target) (slot_at s n).id value perm)

-- by the spaces with the page, or None where no frame was free for a table
abbrev pub page_step : KernelState → ℕ → ℕ → ℕ → ℕ → Option SpacesState → CallStep Called
page_step s n target value perm None = giving (with_refusal s) (Answered (negated E_NO_MEM))
page_step s n target value perm (Some spaces) = giving (with_message (with_spaces s spaces) n target value perm) (Answered 0)

-- by what is to pass with the word
abbrev pub passing_step : KernelState → ℕ → ℕ → ℕ → Passing → CallStep Called
passing_step s n target value nothing = giving (with_message s n target value 0) (Answered 0)
passing_step s n target value (a_page entry) =
    page_step s n target value entry.perm (inserted_at s target (slot_at s target).rendezvous.destination entry)
passing_step s n target value invalid = giving s (Answered (negated E_INVAL))

-- by whether it is waited for
abbrev pub waited_step : KernelState → ℕ → ℕ → ℕ → ℕ → ℕ → Bool → CallStep Called
waited_step s n target value va perm true =
    passing_step s n target value (passing_of s n (slot_at s target).rendezvous.destination va perm)
waited_step s n target value va perm false = giving s (Answered (negated E_IPC_NOT_RECV))

-- by who is named
abbrev pub sending_step : KernelState → ℕ → Option ℕ → ℕ → ℕ → ℕ → CallStep Called
sending_step s n None value va perm = giving s (Answered (negated E_BAD_ENV))
sending_step s n (Some target) value va perm =
    waited_step s n target value va perm (accepts (slot_at s target).rendezvous (slot_at s n).id)

-- ---- who is named

module _ (e : Environments) (id caller : ℕ) (other : id ≢ 0) where
  -- the slot of an id has a live environment of this id
  abbrev pub is_there : Bool
  is_there = is_live (e.slots (id % NENV)) && ((e.slots (id % NENV)).id == id)

  pub found_is : found e id caller false ≡ (if is_there then Some (id % NENV) else None)
  unfolding found
  found_is = let test : (id == 0) ≡ false = grind (arith, nat_tests) in rw test (by_test is_there)
    where
      by_test : (t : Bool) → (if not t then None else Some (id % NENV)) ≡ (if t then Some (id % NENV) else None)
      by_test true = refl
      by_test false = refl

  pub found_some : (target : ℕ) → found e id caller false ≡ Some target →
      (target ≡ id % NENV) × (is_live (e.slots (id % NENV)) ≡ true) × ((e.slots (id % NENV)).id ≡ id)
  found_some target is = by_test (is_live (e.slots (id % NENV))) ((e.slots (id % NENV)).id == id) refl refl (sym found_is ∙ is)
    where
      by_test : (t u : Bool) → is_live (e.slots (id % NENV)) ≡ t → ((e.slots (id % NENV)).id == id) ≡ u →
          (if t && u then Some (id % NENV) else None) ≡ Some target →
          (target ≡ id % NENV) × (is_live (e.slots (id % NENV)) ≡ true) × ((e.slots (id % NENV)).id ≡ id)
      by_test true true lives same it = (cc, lives, grind (arith, nat_tests))
      by_test true false lives same it = let never : ⊥ = cc in absurd never
      by_test false u lives same it = let never : ⊥ = cc in absurd never

  pub found_where : is_live (e.slots (id % NENV)) ≡ true → (e.slots (id % NENV)).id ≡ id → found e id caller false ≡ Some (id % NENV)
  found_where lives same =
      let test : ((e.slots (id % NENV)).id == id) ≡ true = grind (arith, nat_tests) in
      found_is ∙ rw (lives, test) refl

  pub found_none : found e id caller false ≡ None → is_there ≡ false
  found_none is = by_test is_there (sym found_is ∙ is)
    where
      by_test : (t : Bool) → (if t then Some (id % NENV) else None) ≡ None → t ≡ false
      by_test true it = let never : ⊥ = cc in absurd never
      by_test false it = refl

  pub found_nowhere : is_there ≡ false → found e id caller false ≡ None
  found_nowhere off = found_is ∙ ap (λ t. if t then Some (id % NENV) else None) off

-- ---- what passes

-- the entry by which a page is given on: its frame, with the bits that were asked for
pub shared_from : (page : Option Entry) (perm : ℕ) (entry : Entry) → shared_entry page perm ≡ Some entry →
    (from : Entry) × (page ≡ Some from) × (entry ≡ record { frame = from.frame; perm = perm }) × (is_page_perm perm ≡ true)
shared_from None perm entry is = let never : ⊥ = cc in absurd never
shared_from (Some from) perm entry is = by_test (is_page_perm perm) (has_write perm && not (has_write from.perm)) refl is
  where
    by_test : (t u : Bool) → is_page_perm perm ≡ t →
        (if not t then None else if u then None else Some (record { frame = from.frame; perm = perm })) ≡ Some entry →
        (x : Entry) × (Some from ≡ Some x) × (entry ≡ record { frame = x.frame; perm = perm }) × (is_page_perm perm ≡ true)
    by_test false u test it = let never : ⊥ = cc in absurd never
    by_test true true test it = let never : ⊥ = cc in absurd never
    by_test true false test it =
        let same : ◌≡◌ {A = Entry} (record { frame = from.frame; perm = perm }) entry = cc in
        (from, refl, sym same, test)

-- the receiver is changed once
pub message_taken_is : (s : KernelState) (n target value perm : ℕ) → message_taken s n target value perm ≡ with_message s n target value perm
message_taken_is s n target value perm =
    let told : Slot = record (slot_at s target) { rendezvous = delivered (slot_at s target).rendezvous (slot_at s n).id value perm } in
    ap (λ (x : Slot). with_slot_at (with_slot_at s target told) target (with_answer (record x { status = Runnable }) 0)) (slot_put s target told)
    ∙ set_twice s target told (with_answer (record told { status = Runnable }) 0)

-- ---- the call

-- a sender that does not wait is not the one that waits for it
pub waits_for_other : (s : KernelState) (n target : ℕ) → (slot_at s n).rendezvous.receiving ≡ false →
    accepts (slot_at s target).rendezvous (slot_at s n).id ≡ true → n ≢ target
waits_for_other s n target idle waits same =
    let waiting : (slot_at s target).rendezvous.receiving ≡ true = both_left _ _ waits in
    true≢false (sym waiting ∙ ap (λ m. (slot_at s m).rendezvous.receiving) (sym same) ∙ idle)
  where
    both_left : (a b : Bool) → (a && b) ≡ true → a ≡ true
    both_left true b e = refl
    both_left false b e = e

    true≢false : true ≡ false → ⊥
    true≢false e = cc

module _ (s : KernelState) (n : ℕ) where
  -- who is named is the same, whatever the caller's registers are
  found_alike : (q : Regs) (id : ℕ) → found (with_registers s n q).environments id n false ≡ found s.environments id n false
  unfolding found
  found_alike q id =
      let asked : Slot = record (slot_at s n) { registers = q } in
      λ i. if id == 0 then Some n
      else if not (slots_alike s n is_live asked refl (id % NENV) i && (slots_alike s n (λ (x : Slot). x.id) asked refl (id % NENV) i == id)) then None
      else Some (id % NENV)

  passing_alike : (q : Regs) (destination va perm : ℕ) → passing_of (with_registers s n q) n destination va perm ≡ passing_of s n destination va perm
  passing_alike q destination va perm =
      λ i. if not (nat_lt va UTOP) then nothing
      else if not (va % PGSIZE == 0) then invalid
      else passing_by destination (shared_entry (s.spaces.entries (caller_is s n q i).directory (page_number va)) perm)

  module _ (live : is_live (slot_at s n) ≡ true) where
    -- a call that changes another's slot
    pub other_is : (q : Regs) (target : ℕ) (slot : Slot) (answer : ℕ) → n ≢ target →
        called_by n false (slot_at s n).registers (answered (with_slot_at (with_registers s n q) target slot) n answer)
        ≡ giving (with_slot_at s target slot) (Answered answer)
    other_is q target slot answer ne =
        let k : KernelState = with_registers s n q in
        let mine : Slot = record (slot_at s n) { registers = q } in
        let kept : slot_at (with_slot_at k target slot) n ≡ slot_at k n = slot_kept k target slot n ne in
        let back : Slot = record (slot_at k n) { registers = (slot_at s n).registers } in
        let was : back ≡ slot_at s n = λ i. record (caller_is s n q i) { registers = (slot_at s n).registers } in
        answer_is (with_slot_at k target slot) n (slot_at s n).registers answer (ap is_live kept ∙ live_still s n live q)
        ∙ ap (λ (x : Slot). giving (with_slot_at (with_slot_at k target slot) n (record x { registers = (slot_at s n).registers })) (Answered answer)) kept
        ∙ ap (λ (j : KernelState). giving (with_slot_at j n back) (Answered answer)) (slots_swap s n target mine slot ne)
        ∙ ap (λ (j : KernelState). giving j (Answered answer))
        (set_twice (with_slot_at s target slot) n mine back
        ∙ slot_back (with_slot_at s target slot) n back (was ∙ sym (slot_kept s target slot n ne)))

    message_is : (q : Regs) (target value perm : ℕ) → n ≢ target →
        called_by n false (slot_at s n).registers (answered (message_taken (with_registers s n q) n target value perm) n 0)
        ≡ giving (with_message s n target value perm) (Answered 0)
    message_is q target value perm ne =
        let k : KernelState = with_registers s n q in
        let there : slot_at k target ≡ slot_at s target = slot_kept s n (record (slot_at s n) { registers = q }) target (λ e. ne (sym e)) in
        ap (λ (j : KernelState). called_by n false (slot_at s n).registers (answered j n 0)) (message_taken_is k n target value perm)
        ∙ other_is q target (received_in (slot_at k target) (slot_at k n).id value perm) 0 ne
        ∙ (λ i. giving (with_slot_at s target (received_in (there i) (caller_is s n q i).id value perm)) (Answered 0))

module _ (s : KernelState) (n : ℕ) (live : is_live (slot_at s n) ≡ true) where
  by_spaces : (q : Regs) (target value perm : ℕ) → n ≢ target → (spaces : Option SpacesState) →
      called_by n false (slot_at s n).registers (sent_with (with_registers s n q) n target value perm spaces) ≡ page_step s n target value perm spaces
  by_spaces q target value perm ne None = quiet_is s n live q (with_refusal (with_registers s n q)) (negated E_NO_MEM) refl
  by_spaces q target value perm ne (Some spaces) = message_is (with_spaces s spaces) n live q target value perm ne

  passed_is : (q : Regs) (target value : ℕ) → n ≢ target → (p : Passing) →
      called_by n false (slot_at s n).registers (sent (with_registers s n q) n target value p) ≡ passing_step s n target value p
  passed_is q target value ne nothing = message_is s n live q target value 0 ne
  passed_is q target value ne invalid = quiet_is s n live q (with_registers s n q) (negated E_INVAL) refl
  passed_is q target value ne (a_page entry) =
      ap (λ (x : Slot). called_by n false (slot_at s n).registers (sent_with (with_registers s n q) n target value entry.perm
      (inserted s.spaces x.directory (page_number x.rendezvous.destination) entry)))
      (slot_kept s n (record (slot_at s n) { registers = q }) target (λ e. ne (sym e)))
      ∙ by_spaces q target value entry.perm ne (inserted_at s target (slot_at s target).rendezvous.destination entry)

  waited_is : (q : Regs) (target value va perm : ℕ) → (slot_at s n).rendezvous.receiving ≡ false →
      called_by n false (slot_at s n).registers (ipc_try_send_of (with_registers s n q) n (Some target) value va perm)
      ≡ sending_step s n (Some target) value va perm
  waited_is q target value va perm idle =
      let k : KernelState = with_registers s n q in
      let asked : Slot = record (slot_at s n) { registers = q } in
      let waits : accepts (slot_at k target).rendezvous (slot_at k n).id ≡ accepts (slot_at s target).rendezvous (slot_at s n).id =
      λ i. accepts (slots_alike s n (λ (x : Slot). x.rendezvous) asked refl target i) (caller_is s n q i).id in
      let page : passing_of k n (slot_at k target).rendezvous.destination va perm ≡ passing_of s n (slot_at s target).rendezvous.destination va perm =
      (λ i. passing_of k n (slots_alike s n (λ (x : Slot). x.rendezvous) asked refl target i).destination va perm)
      ∙ passing_alike s n q (slot_at s target).rendezvous.destination va perm in
      ap (λ (w : Bool). called_by n false (slot_at s n).registers
      (if not w then refused k n IpcNotRecv else sent k n target value (passing_of k n (slot_at k target).rendezvous.destination va perm))) waits
      ∙ ap (λ (p : Passing). called_by n false (slot_at s n).registers
      (if not (accepts (slot_at s target).rendezvous (slot_at s n).id) then refused k n IpcNotRecv else sent k n target value p)) page
      ∙ by_test (accepts (slot_at s target).rendezvous (slot_at s n).id) refl
    where
      by_test : (w : Bool) → accepts (slot_at s target).rendezvous (slot_at s n).id ≡ w →
          called_by n false (slot_at s n).registers
          (if not w then refused (with_registers s n q) n IpcNotRecv
          else sent (with_registers s n q) n target value (passing_of s n (slot_at s target).rendezvous.destination va perm))
          ≡ waited_step s n target value va perm w
      by_test false e = quiet_is s n live q (with_registers s n q) (negated E_IPC_NOT_RECV) refl
      by_test true e = passed_is q target value (waits_for_other s n target idle e) (passing_of s n (slot_at s target).rendezvous.destination va perm)

  by_name : (q : Regs) (value va perm : ℕ) → (slot_at s n).rendezvous.receiving ≡ false → (f : Option ℕ) →
      called_by n false (slot_at s n).registers (ipc_try_send_of (with_registers s n q) n f value va perm) ≡ sending_step s n f value va perm
  by_name q value va perm idle None = quiet_is s n live q (with_registers s n q) (negated E_BAD_ENV) refl
  by_name q value va perm idle (Some target) = waited_is q target value va perm idle

  -- ipc_try_send(id, value, va, perm)
  pub try_send_is : (id value va perm : ℕ) (rest : List ℕ) → (slot_at s n).rendezvous.receiving ≡ false →
      system s n SYS_IPC_TRY_SEND (id ∷ value ∷ va ∷ perm ∷ rest) ≡ sending_step s n (found s.environments id n false) value va perm
  unfolding call_of
  try_send_is id value va perm rest idle =
      let q : Regs = asking (slot_at s n).registers SYS_IPC_TRY_SEND (id ∷ value ∷ va ∷ perm ∷ rest) in
      let k : KernelState = with_registers s n q in
      system_is s n SYS_IPC_TRY_SEND (id ∷ value ∷ va ∷ perm ∷ rest) (ipc_try_send_of k n (found k.environments id n false) value va perm) refl refl
      ∙ ap (λ f. called_by n false (slot_at s n).registers (ipc_try_send_of k n f value va perm)) (found_alike s n q id)
      ∙ by_name q value va perm idle (found s.environments id n false)

-- ---- the call, case by case

module _ (s : KernelState) (n id value va perm : ℕ) (rest : List ℕ) (live : is_live (slot_at s n) ≡ true)
    (idle : (slot_at s n).rendezvous.receiving ≡ false) where
  -- the call
  abbrev pub send_asked : CallStep Called
  send_asked = system s n SYS_IPC_TRY_SEND (id ∷ value ∷ va ∷ perm ∷ rest)

  pub nobody_named : found s.environments id n false ≡ None → send_asked ≡ giving s (Answered (negated E_BAD_ENV))
  nobody_named none = try_send_is s n live id value va perm rest idle ∙ ap (λ f. sending_step s n f value va perm) none

  module _ (target : ℕ) (named : found s.environments id n false ≡ Some target) where
    by_waiting : (w : Bool) → accepts (slot_at s target).rendezvous (slot_at s n).id ≡ w → send_asked ≡ waited_step s n target value va perm w
    by_waiting w waits =
        try_send_is s n live id value va perm rest idle
        ∙ ap (λ f. sending_step s n f value va perm) named
        ∙ ap (waited_step s n target value va perm) waits

    pub not_waited_for : accepts (slot_at s target).rendezvous (slot_at s n).id ≡ false → send_asked ≡ giving s (Answered (negated E_IPC_NOT_RECV))
    not_waited_for off = by_waiting false off

    -- with an address that is none of a page nothing is taken, whoever waits
    pub never_taken : nat_lt va UTOP ≡ true → (va % PGSIZE == 0) ≡ false →
        send_asked ≡ giving s (Answered (if accepts (slot_at s target).rendezvous (slot_at s n).id then negated E_INVAL else negated E_IPC_NOT_RECV))
    never_taken below between = by_waiting _ refl ∙ by_test (accepts (slot_at s target).rendezvous (slot_at s n).id)
      where
        by_test : (w : Bool) → waited_step s n target value va perm w ≡ giving s (Answered (if w then negated E_INVAL else negated E_IPC_NOT_RECV))
        by_test true = rw (below, between) refl
        by_test false = refl

    module _ (waits : accepts (slot_at s target).rendezvous (slot_at s n).id ≡ true) where
      passes : (p : Passing) → passing_of s n (slot_at s target).rendezvous.destination va perm ≡ p → send_asked ≡ passing_step s n target value p
      passes p is = by_waiting true waits ∙ ap (passing_step s n target value) is

      -- a word alone
      pub word_comes : UTOP ≤ va → send_asked ≡ giving (with_message s n target value 0) (Answered 0)
      word_comes above =
          let test : nat_lt va UTOP ≡ false = grind (arith, nat_tests) in
          passes nothing (rw test refl)

      module _ (below : va < UTOP) (at_start : va % PGSIZE ≡ 0) where
        by_page : (page : Option Entry) → shared_entry (entry_at s n va) perm ≡ page →
            passing_of s n (slot_at s target).rendezvous.destination va perm ≡ passing_by (slot_at s target).rendezvous.destination page
        by_page page is =
            let lower : nat_lt va UTOP ≡ true = grind (arith, nat_tests) in
            let start : (va % PGSIZE == 0) ≡ true = grind (arith, nat_tests) in
            rw (lower, start) (ap (passing_by (slot_at s target).rendezvous.destination) is)

        -- a page that may not be given on so
        pub page_not_given : shared_entry (entry_at s n va) perm ≡ None → send_asked ≡ giving s (Answered (negated E_INVAL))
        page_not_given none = passes invalid (by_page None none)

        module _ (entry : Entry) (given : shared_entry (entry_at s n va) perm ≡ Some entry) where
          pub page_not_wanted : UTOP ≤ (slot_at s target).rendezvous.destination → send_asked ≡ giving (with_message s n target value 0) (Answered 0)
          page_not_wanted above =
              let test : nat_lt (slot_at s target).rendezvous.destination UTOP ≡ false = grind (arith, nat_tests) in
              passes nothing (by_page (Some entry) given ∙ rw test refl)

          module _ (wanted : (slot_at s target).rendezvous.destination < UTOP) where
            by_insertion : (spaces : Option SpacesState) → inserted_at s target (slot_at s target).rendezvous.destination entry ≡ spaces →
                send_asked ≡ page_step s n target value perm spaces
            by_insertion spaces is =
                let test : nat_lt (slot_at s target).rendezvous.destination UTOP ≡ true = grind (arith, nat_tests) in
                let from = shared_from (entry_at s n va) perm entry given in
                passes (a_page entry) (by_page (Some entry) given ∙ rw test refl)
                ∙ ap (page_step s n target value entry.perm) is
                ∙ ap (λ (x : Entry). page_step s n target value x.perm spaces) from.2

            pub page_comes : (spaces : SpacesState) → inserted_at s target (slot_at s target).rendezvous.destination entry ≡ Some spaces →
                send_asked ≡ giving (with_message (with_spaces s spaces) n target value perm) (Answered 0)
            page_comes spaces is = by_insertion (Some spaces) is

            pub page_has_no_table : inserted_at s target (slot_at s target).rendezvous.destination entry ≡ None →
                send_asked ≡ giving (with_refusal s) (Answered (negated E_NO_MEM))
            page_has_no_table none = by_insertion None none

            -- where nothing was refused, the page came
            pub page_comes_where_not_refused : NothingRefused s send_asked.state →
                (spaces : SpacesState) × (inserted_at s target (slot_at s target).rendezvous.destination entry ≡ Some spaces)
                × (send_asked ≡ giving (with_message (with_spaces s spaces) n target value perm) (Answered 0))
            page_comes_where_not_refused quiet = by_found (inserted_at s target (slot_at s target).rendezvous.destination entry) refl
              where
                by_found : (found : Option SpacesState) → inserted_at s target (slot_at s target).rendezvous.destination entry ≡ found →
                    (spaces : SpacesState) × (inserted_at s target (slot_at s target).rendezvous.destination entry ≡ Some spaces)
                    × (send_asked ≡ giving (with_message (with_spaces s spaces) n target value perm) (Answered 0))
                by_found None is =
                    absurd (refusal_is_seen s (subst (λ (step : CallStep Called). NothingRefused s step.state) (page_has_no_table is) quiet))
                by_found (Some spaces) is = (spaces, is, page_comes spaces is)
