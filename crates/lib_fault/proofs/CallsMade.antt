-- What the system calls come to by which the handler maps a page of its environment elsewhere, and by which it is unset. The
-- registers are as before, so that a call changes nothing but what it is for.
use Rattle.std.proofs.Common.{◌≡◌, ◌∙◌, ℕ, true, false, List, [], ◌∷◌, Option, Some, None, refl, ap}
use Rattle.jos_base.specs.declared.called.Called.{Called}
use Rattle.jos_base.specs.declared.called.Called.TheVariants.{Answered}
use Rattle.jos_base.specs.declared.numbers.TheConstants.{E_INVAL, SYS_ENV_SET_PGFAULT_UPCALL, SYS_PAGE_MAP}
use Rattle.jos_base.specs.declared.registers.Regs.{Regs}
use Rattle.jos_base.specs.Environments.{Slot, found, is_live, with_answer}
use Rattle.jos_base.specs.KernelState.{KernelState, slot_at, with_slot_at, with_registers, with_upcall}
use Rattle.jos_base.specs.Reach.{Entry}
use Rattle.jos_base.specs.SpacesState.{inserted}
use Rattle.jos_base.specs.SystemCalls.{answered, call_of, is_page_address, page_map_by, shared_entry}
use Rattle.jos_base.specs.Words.{negated, page_number}
use Rattle.lib_os.specs.UserCalls.{CallStep, giving, asking, called_by, system}
use Rattle.lib_os.proofs.Calls.{made_step, system_is, caller_is, quiet_is, made_is, own_is}
use Rattle.lib_os.proofs.Slots.{slot_put}
use Rattle.lib_os.proofs.SlotsSet.{set_twice}

module _ (s : KernelState) (n : ℕ) (live : is_live (slot_at s n) ≡ true) where
  -- page_map(0, source, 0, va, perm), by the entry that is given on
  abbrev pub map_step : ℕ → Option Entry → CallStep Called
  map_step va None = giving s (Answered (negated E_INVAL))
  map_step va (Some e) = made_step s (inserted s.spaces (slot_at s n).directory (page_number va) e)

  map_is : (q : Regs) (va : ℕ) (o : Option Entry) →
      called_by n false (slot_at s n).registers (page_map_by (with_registers s n q) n n va o) ≡ map_step va o
  map_is q va None = quiet_is s n live q (with_registers s n q) (negated E_INVAL) refl
  map_is q va (Some e) =
      let k : KernelState = with_registers s n q in
      made_is s n live q (inserted k.spaces (slot_at k n).directory (page_number va) e)
      ∙ (λ i. made_step s (inserted s.spaces (caller_is s n q i).directory (page_number va) e))

  module _ (source va perm : ℕ) (from_page : is_page_address source ≡ true) where
    abbrev map_args : List ℕ
    map_args = 0 ∷ source ∷ 0 ∷ va ∷ perm ∷ []

    pub page_map_is : is_page_address va ≡ true →
        system s n SYS_PAGE_MAP map_args ≡ map_step va (shared_entry (s.spaces.entries (slot_at s n).directory (page_number source)) perm)
    unfolding call_of found
    page_map_is to_page =
        let q : Regs = asking (slot_at s n).registers SYS_PAGE_MAP map_args in
        let k : KernelState = with_registers s n q in
        system_is s n SYS_PAGE_MAP map_args
        (page_map_by k n n va (shared_entry (k.spaces.entries (slot_at k n).directory (page_number source)) perm)) refl
        (rw (from_page, to_page) refl)
        ∙ map_is q va (shared_entry (k.spaces.entries (slot_at k n).directory (page_number source)) perm)
        ∙ (λ i. map_step va (shared_entry (s.spaces.entries (caller_is s n q i).directory (page_number source)) perm))

    pub page_map_not : is_page_address va ≡ false → system s n SYS_PAGE_MAP map_args ≡ giving s (Answered (negated E_INVAL))
    unfolding call_of found
    page_map_not none =
        let q : Regs = asking (slot_at s n).registers SYS_PAGE_MAP map_args in
        let k : KernelState = with_registers s n q in
        system_is s n SYS_PAGE_MAP map_args (answered k n (negated E_INVAL)) refl (rw (from_page, none) refl)
        ∙ quiet_is s n live q k (negated E_INVAL) refl

  -- env_set_pgfault_upcall(0, address)
  pub set_upcall_is : (address : ℕ) (rest : List ℕ) →
      system s n SYS_ENV_SET_PGFAULT_UPCALL (0 ∷ address ∷ rest) ≡ giving (with_upcall s n address) (Answered 0)
  unfolding call_of found
  set_upcall_is address rest =
      let q : Regs = asking (slot_at s n).registers SYS_ENV_SET_PGFAULT_UPCALL (0 ∷ address ∷ rest) in
      let k : KernelState = with_registers s n q in
      let set : Slot = record (slot_at k n) { upcall = address } in
      let told : answered (with_upcall k n address) n 0 ≡ record { state = with_slot_at k n (with_answer set 0); called = Answered 0; written = [] } =
      λ i. record {
        state = (ap (λ (x : Slot). with_slot_at (with_slot_at k n set) n (with_answer x 0)) (slot_put k n set) ∙ set_twice k n set (with_answer set 0)) i;
        called = Answered 0;
        written = [];
      } in
      system_is s n SYS_ENV_SET_PGFAULT_UPCALL (0 ∷ address ∷ rest)
      (record { state = with_slot_at k n (with_answer set 0); called = Answered 0; written = [] }) refl told
      ∙ own_is s n q (slot_at s n).registers (with_answer set 0) (Answered 0) [] (ap is_live (caller_is s n q) ∙ live)
      ∙ (λ i. giving (with_slot_at s n (record (caller_is s n q i) { upcall = address; registers = (slot_at s n).registers })) (Answered 0))
