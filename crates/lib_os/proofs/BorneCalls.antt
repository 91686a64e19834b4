-- What the calls come to that an environment makes for the child that it bears: it finds the child by its id, and only the child's slot is another after it, or
-- the child is gone; or a page is made for it, or mapped there.
use Rattle.std.proofs.Common.{◌≡◌, ◌≢◌, ◌∙◌, ◌==◌, ◌%◌, ◌⊎◌, inl, inr, ℕ, true, false, List, [], ◌∷◌, Option, Some, None, refl, sym, ap, arith}
use Rattle.std.proofs.lemmas.Bool.Decides.{nat_tests}
use Rattle.jos_base.specs.declared.called.Called.{Called}
use Rattle.jos_base.specs.declared.called.Called.TheVariants.{Answered}
use Rattle.jos_base.specs.declared.environment.Status.TheVariants.{Runnable}
use Rattle.jos_base.specs.declared.numbers.TheConstants.{ENV_RUNNABLE, FIRST_ENV_ID, NENV, SYS_ENV_DESTROY, SYS_ENV_SET_PGFAULT_UPCALL, SYS_ENV_SET_STATUS}
use Rattle.jos_base.specs.declared.numbers.TheConstants.{SYS_PAGE_ALLOC, SYS_PAGE_MAP}
use Rattle.jos_base.specs.declared.registers.Regs.{Regs}
use Rattle.jos_base.specs.Environments.{Slot, found, free_slot, is_live}
use Rattle.jos_base.specs.KernelState.{KernelState, slot_at, with_registers, with_slot_at, with_status, with_upcall}
use Rattle.jos_base.specs.Reach.{Entry}
use Rattle.jos_base.specs.SpacesState.{SpacesState, allocated, destroyed, inserted}
use Rattle.jos_base.specs.SystemCalls.{answered, answered_with, call_of, entry_at, inserted_at, is_page_address, is_page_perm, second_of, shared_entry}
use Rattle.jos_base.specs.SystemCalls.{without_environment}
use Rattle.jos_base.specs.Words.{page_number}
use Rattle.lib_os.specs.AbstractState.{AbstractState, Born, born, serving, unborn}
use Rattle.lib_os.specs.Places.{place_of}
use Rattle.lib_os.specs.Rows.{Names}
use Rattle.lib_os.specs.StandsFor.{StandsFor, borne_in}
use Rattle.lib_os.specs.UserCalls.{CallStep, asking, called_by, giving, system}
use Rattle.lib_os.proofs.BearsOn.{borne_apart, borne_is, borne_lives, borne_own}
use Rattle.lib_os.proofs.Calls.{PageMade, PageRefused, made_is, made_step, system_is}
use Rattle.lib_os.proofs.ChildCalls.{found_child}
use Rattle.lib_os.proofs.ChildRuns.{child_runs_is}
use Rattle.lib_os.proofs.PassedOn.{page_map_to_child}
use Rattle.lib_os.proofs.Sends.{other_is}
use Rattle.lib_os.proofs.Slots.{slot_kept, slots_alike}
use Rattle.lib_os.proofs.SlotsStand.{born_at, born_live}

module _ {names : Names} {s : KernelState} {a : AbstractState} (h : StandsFor names s a) (n id : ℕ) (b : Born) (is : a.slots n ≡ born b)
    (bears : borne_in (place_of (slot_at s n)) ≡ Some id) where
  abbrev m : ℕ
  m = id % NENV

  live : is_live (slot_at s n) ≡ true
  live = born_live (born_at h n b is)

  -- its slot is not the first, where the server stands
  pub borne_some : id ≢ 0
  borne_some none =
      let contradiction : serving FIRST_ENV_ID ≡ unborn id b.id = sym h.first ∙ ap (λ (i : ℕ). a.slots (i % NENV)) (sym none) ∙ borne_is h n id b is bears in cc

  pub borne_owned : (slot_at s (id % NENV)).parent ≡ (slot_at s n).id
  borne_owned = (borne_own h n id b is bears).parent_is ∙ sym (born_at h n b is).id

  -- whatever the caller's registers are
  pub borne_found : (q : Regs) → found (with_registers s n q).environments id n true ≡ Some (id % NENV)
  borne_found q =
      let asked : Slot = record (slot_at s n) { registers = q } in
      found_child (with_registers s n q).environments id n borne_some
      (slots_alike s n (λ (x : Slot). is_live x) asked refl m ∙ borne_lives h n id b is bears)
      (slots_alike s n (λ (x : Slot). x.id) asked refl m ∙ (borne_own h n id b is bears).id_is)
      (slots_alike s n (λ (x : Slot). x.parent) asked refl m ∙ borne_owned
      ∙ sym (slots_alike s n (λ (x : Slot). x.id) asked refl n))

  kept : (q : Regs) → slot_at (with_registers s n q) m ≡ slot_at s m
  kept q = slot_kept s n (record (slot_at s n) { registers = q }) m (borne_apart h n id b is bears)

  -- env_set_pgfault_upcall(id, address)
  pub borne_upcall_is : (address : ℕ) (rest : List ℕ) →
      system s n SYS_ENV_SET_PGFAULT_UPCALL (id ∷ address ∷ rest) ≡ giving (with_upcall s (id % NENV) address) (Answered 0)
  unfolding call_of
  borne_upcall_is address rest =
      let q : Regs = asking (slot_at s n).registers SYS_ENV_SET_PGFAULT_UPCALL (id ∷ address ∷ rest) in
      let k : KernelState = with_registers s n q in
      system_is s n SYS_ENV_SET_PGFAULT_UPCALL (id ∷ address ∷ rest) (answered (with_upcall k m address) n 0) refl (rw (borne_found q) refl)
      ∙ other_is s n live q m (record (slot_at k m) { upcall = address }) 0 (λ e. borne_apart h n id b is bears (sym e))
      ∙ ap (λ (x : Slot). giving (with_slot_at s m (record x { upcall = address })) (Answered 0)) (kept q)

  -- env_set_status(id, RUNNABLE)
  pub borne_runs_is : (rest : List ℕ) →
      system s n SYS_ENV_SET_STATUS (id ∷ ENV_RUNNABLE ∷ rest) ≡ giving (with_status s (id % NENV) Runnable) (Answered 0)
  borne_runs_is rest =
      child_runs_is s n id live borne_some (borne_apart h n id b is bears) (borne_lives h n id b is bears) (borne_own h n id b is bears).id_is
      borne_owned rest

  -- page_alloc(id, va, perm)
  module _ (va perm : ℕ) (rest : List ℕ) (address : is_page_address va ≡ true) (permitted : is_page_perm perm ≡ true) where
    abbrev page_asked : CallStep Called
    page_asked = system s n SYS_PAGE_ALLOC (id ∷ va ∷ perm ∷ rest)

    page_is : page_asked ≡ made_step s (second_of (allocated s.spaces (slot_at s m).directory (page_number va) perm))
    unfolding call_of
    page_is =
        let q : Regs = asking (slot_at s n).registers SYS_PAGE_ALLOC (id ∷ va ∷ perm ∷ rest) in
        let k : KernelState = with_registers s n q in
        system_is s n SYS_PAGE_ALLOC (id ∷ va ∷ perm ∷ rest)
        (answered_with k n (second_of (allocated k.spaces (slot_at k m).directory (page_number va) perm))) refl
        (rw (borne_found q, address, permitted) refl)
        ∙ made_is s n live q (second_of (allocated k.spaces (slot_at k m).directory (page_number va) perm))
        ∙ ap (λ (x : Slot). made_step s (second_of (allocated s.spaces x.directory (page_number va) perm))) (kept q)

    pub borne_page_made_or_refused : PageMade s (id % NENV) va perm (system s n SYS_PAGE_ALLOC (id ∷ va ∷ perm ∷ rest))
        ⊎ PageRefused s (id % NENV) va perm (system s n SYS_PAGE_ALLOC (id ∷ va ∷ perm ∷ rest))
    borne_page_made_or_refused = by_found (allocated s.spaces (slot_at s m).directory (page_number va) perm) refl
      where
        by_found : (o : Option (ℕ × SpacesState)) → allocated s.spaces (slot_at s m).directory (page_number va) perm ≡ o →
            PageMade s m va perm page_asked ⊎ PageRefused s m va perm page_asked
        by_found None e = inr (record { is = e; step = page_is ∙ ap (λ f. made_step s (second_of f)) e })
        by_found (Some f) e = inl (record {
          frame = f.0;
          spaces = f.1;
          is = e;
          step = page_is ∙ ap (λ f. made_step s (second_of f)) e;
        })

  -- page_map(0, from, id, to, perm), by the entry that is given on
  module _ (from to perm : ℕ) (e : Entry) (from_address : is_page_address from ≡ true) (to_address : is_page_address to ≡ true) where
    pub borne_map_is : shared_entry (entry_at s n from) perm ≡ Some e →
        system s n SYS_PAGE_MAP (0 ∷ from ∷ id ∷ to ∷ perm ∷ []) ≡ made_step s (inserted_at s (id % NENV) to e)
    borne_map_is given =
        page_map_to_child s n id live (borne_apart h n id b is bears) borne_some (borne_lives h n id b is bears) (borne_own h n id b is bears).id_is
        borne_owned from to perm e from_address to_address given

    -- and page_map(id, from, id, to, perm)
    pub borne_map_own_is : shared_entry (entry_at s (id % NENV) from) perm ≡ Some e →
        system s n SYS_PAGE_MAP (id ∷ from ∷ id ∷ to ∷ perm ∷ []) ≡ made_step s (inserted_at s (id % NENV) to e)
    unfolding call_of
    borne_map_own_is given =
        let args : List ℕ = id ∷ from ∷ id ∷ to ∷ perm ∷ [] in
        let q : Regs = asking (slot_at s n).registers SYS_PAGE_MAP args in
        let k : KernelState = with_registers s n q in
        let gives : shared_entry (entry_at k m from) perm ≡ Some e =
        (λ i. shared_entry (s.spaces.entries (kept q i).directory (page_number from)) perm) ∙ given in
        system_is s n SYS_PAGE_MAP args (answered_with k n (inserted_at k m to e)) refl (rw (borne_found q, from_address, to_address, gives) refl)
        ∙ made_is s n live q (inserted_at k m to e)
        ∙ (λ i. made_step s (inserted s.spaces (kept q i).directory (page_number to) e))

  -- env_destroy(id)
  module _ (rest : List ℕ) where
    -- all but the slots is as behind it
    abbrev emptied : KernelState
    emptied = record s {
      spaces = destroyed s.spaces (slot_at s m).directory;
      environments = record s.environments { free_slots = m ∷ s.environments.free_slots };
    }

    gone_is : (q : Regs) → without_environment (with_registers s n q) m ≡ with_slot_at (with_registers emptied n q) m (free_slot (slot_at s m).id)
    gone_is q = λ i. record (with_slot_at (with_registers emptied n q) m (free_slot (kept q i).id)) { spaces = destroyed s.spaces (kept q i).directory }

    pub borne_destroyed_is : system s n SYS_ENV_DESTROY (id ∷ rest) ≡ giving (without_environment s (id % NENV)) (Answered 0)
    unfolding call_of
    borne_destroyed_is =
        let q : Regs = asking (slot_at s n).registers SYS_ENV_DESTROY (id ∷ rest) in
        let k : KernelState = with_registers s n q in
        let ne = borne_apart h n id b is bears in
        let other : (m == n) ≡ false = grind (arith, nat_tests, ne) in
        system_is s n SYS_ENV_DESTROY (id ∷ rest) (answered (without_environment k m) n 0) refl (rw (borne_found q, other) refl)
        ∙ ap (λ (t : KernelState). called_by n false (slot_at s n).registers (answered t n 0)) (gone_is q)
        ∙ other_is emptied n live q m (free_slot (slot_at s m).id) 0 (λ e. borne_apart h n id b is bears (sym e))
