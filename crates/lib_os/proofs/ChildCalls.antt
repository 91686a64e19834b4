-- What the calls come to that a parent makes for the child that it bears: it finds the child by its id, and only the child's slot, or its
-- space, is another after it.
use Rattle.std.proofs.Common.{◌≡◌, ◌≢◌, ◌∙◌, ◌==◌, ◌%◌, ◌&&◌, ◌||◌, ◌⊎◌, inl, inr, ℕ, Bool, true, false, not, List, ◌∷◌, Option, Some, None}
use Rattle.std.proofs.Common.{refl, sym, ap, arith, if◌then◌else◌}
use Rattle.std.proofs.lemmas.Bool.Decides.{nat_tests}
use Rattle.jos_base.specs.declared.called.Called.{Called}
use Rattle.jos_base.specs.declared.called.Called.TheVariants.{Answered}
use Rattle.jos_base.specs.declared.numbers.TheConstants.{FIRST_ENV_ID, NENV, SYS_ENV_SET_PGFAULT_UPCALL, SYS_PAGE_ALLOC}
use Rattle.jos_base.specs.declared.registers.Regs.{Regs}
use Rattle.jos_base.specs.Environments.{Environments, Slot, found, is_live}
use Rattle.jos_base.specs.KernelState.{KernelState, slot_at, with_slot_at, with_registers, with_upcall}
use Rattle.jos_base.specs.SpacesState.{SpacesState, allocated}
use Rattle.jos_base.specs.SystemCalls.{answered, answered_with, call_of, is_page_address, is_page_perm, second_of}
use Rattle.jos_base.specs.Words.{page_number}
use Rattle.lib_os.specs.declared.place.Step.{Step}
use Rattle.lib_os.specs.AbstractState.{AbstractState, serving, unborn}
use Rattle.lib_os.specs.Rows.{Names}
use Rattle.lib_os.specs.StandsFor.{StandsFor}
use Rattle.lib_os.specs.UserCalls.{CallStep, asking, giving, system}
use Rattle.lib_os.proofs.Bearing.{IsBearer}
use Rattle.lib_os.proofs.BearingCounts.{child_lives}
use Rattle.lib_os.proofs.Calls.{PageMade, PageRefused, made_is, made_step, system_is}
use Rattle.lib_os.proofs.Sends.{other_is}
use Rattle.lib_os.proofs.Slots.{slot_kept, slots_alike}
use Rattle.lib_os.proofs.SlotsStand.{born_live}

-- ---- who is found

-- a live environment is found by its id, where the caller is its parent
pub found_child : (e : Environments) (id caller : ℕ) → id ≢ 0 → is_live (e.slots (id % NENV)) ≡ true → (e.slots (id % NENV)).id ≡ id →
    (e.slots (id % NENV)).parent ≡ (e.slots caller).id → found e id caller true ≡ Some (id % NENV)
unfolding found
found_child e id caller some lives same child =
    let none : (id == 0) ≡ false = grind (arith, nat_tests) in
    let named : ((e.slots (id % NENV)).id == id) ≡ true = grind (arith, nat_tests) in
    let may : ((e.slots (id % NENV)).parent == (e.slots caller).id) ≡ true = grind (arith, nat_tests) in
    rw (none, lives, named, may) (by_test (id % NENV == caller))
  where
    by_test : (c : Bool) → (if true && not (c || true) then None else Some (id % NENV)) ≡ Some (id % NENV)
    by_test true = refl
    by_test false = refl

module _ {names : Names} {s : KernelState} {a : AbstractState} (h : StandsFor names s a) (n id : ℕ) (at : Step) (v : IsBearer names s a n at id) where
  abbrev m : ℕ
  m = id % NENV

  -- its slot is not the first, where the server stands
  pub child_named : id ≢ 0
  child_named none =
      let contradiction : serving FIRST_ENV_ID ≡ unborn id v.b.id = sym h.first ∙ ap (λ (i : ℕ). a.slots (i % NENV)) (sym none) ∙ v.child_is in cc

  -- whatever the caller's registers are
  pub child_found : (q : Regs) → found (with_registers s n q).environments id n true ≡ Some m
  child_found q =
      let asked : Slot = record (slot_at s n) { registers = q } in
      found_child (with_registers s n q).environments id n child_named
      (slots_alike s n (λ (x : Slot). is_live x) asked refl m ∙ child_lives h n id at v)
      (slots_alike s n (λ (x : Slot). x.id) asked refl m ∙ v.child_own.id_is)
      (slots_alike s n (λ (x : Slot). x.parent) asked refl m ∙ v.child_own.parent_is ∙ sym v.own.id
      ∙ sym (slots_alike s n (λ (x : Slot). x.id) asked refl n))

  -- ---- the calls

  -- env_set_pgfault_upcall(id, address)
  pub child_upcall_is : (address : ℕ) (rest : List ℕ) →
      system s n SYS_ENV_SET_PGFAULT_UPCALL (id ∷ address ∷ rest) ≡ giving (with_upcall s m address) (Answered 0)
  unfolding call_of
  child_upcall_is address rest =
      let q : Regs = asking (slot_at s n).registers SYS_ENV_SET_PGFAULT_UPCALL (id ∷ address ∷ rest) in
      let k : KernelState = with_registers s n q in
      let kept : slot_at k m ≡ slot_at s m = slot_kept s n (record (slot_at s n) { registers = q }) m v.apart in
      system_is s n SYS_ENV_SET_PGFAULT_UPCALL (id ∷ address ∷ rest) (answered (with_upcall k m address) n 0) refl (rw (child_found q) refl)
      ∙ other_is s n (born_live v.own) q m (record (slot_at k m) { upcall = address }) 0 (λ e. v.apart (sym e))
      ∙ ap (λ (x : Slot). giving (with_slot_at s m (record x { upcall = address })) (Answered 0)) kept

  module _ (va perm : ℕ) (rest : List ℕ) (address : is_page_address va ≡ true) (permitted : is_page_perm perm ≡ true) where
    abbrev child_asked : CallStep Called
    child_asked = system s n SYS_PAGE_ALLOC (id ∷ va ∷ perm ∷ rest)

    -- page_alloc(id, va, perm)
    child_page_is : child_asked ≡ made_step s (second_of (allocated s.spaces (slot_at s m).directory (page_number va) perm))
    unfolding call_of
    child_page_is =
        let q : Regs = asking (slot_at s n).registers SYS_PAGE_ALLOC (id ∷ va ∷ perm ∷ rest) in
        let k : KernelState = with_registers s n q in
        let kept : slot_at k m ≡ slot_at s m = slot_kept s n (record (slot_at s n) { registers = q }) m v.apart in
        system_is s n SYS_PAGE_ALLOC (id ∷ va ∷ perm ∷ rest)
        (answered_with k n (second_of (allocated k.spaces (slot_at k m).directory (page_number va) perm))) refl
        (rw (child_found q, address, permitted) refl)
        ∙ made_is s n (born_live v.own) q (second_of (allocated k.spaces (slot_at k m).directory (page_number va) perm))
        ∙ ap (λ (x : Slot). made_step s (second_of (allocated s.spaces x.directory (page_number va) perm))) kept

    pub child_page_made_or_refused : PageMade s m va perm child_asked ⊎ PageRefused s m va perm child_asked
    child_page_made_or_refused = by_found (allocated s.spaces (slot_at s m).directory (page_number va) perm) refl
      where
        by_found : (o : Option (ℕ × SpacesState)) → allocated s.spaces (slot_at s m).directory (page_number va) perm ≡ o →
            PageMade s m va perm child_asked ⊎ PageRefused s m va perm child_asked
        by_found None e = inr (record { is = e; step = child_page_is ∙ ap (λ f. made_step s (second_of f)) e })
        by_found (Some f) e = inl (record {
          frame = f.0;
          spaces = f.1;
          is = e;
          step = child_page_is ∙ ap (λ f. made_step s (second_of f)) e;
        })
