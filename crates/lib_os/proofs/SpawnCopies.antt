-- A call by which spawn makes a page for the child that it bears, or maps one into it, or destroys that, leaves no more pages to be copied to any other
-- environment, and leaves each the
-- page in which its services keep what they move.
use Rattle.std.proofs.Common.{◌≡◌, ◌≢◌, ◌∙◌, ◌%◌, inl, inr, ℕ, true, false, List, [], ◌∷◌, Some, refl, sym, ap}
use Rattle.jos_base.specs.declared.numbers.TheConstants.{NENV, SYS_ENV_DESTROY, SYS_PAGE_ALLOC, SYS_PAGE_MAP}
use Rattle.jos_base.specs.Environments.{is_live}
use Rattle.jos_base.specs.KernelState.{KernelState, slot_at}
use Rattle.lib_os.specs.declared.spawn_steps.SpawnStep.{SpawnStep}
use Rattle.lib_os.specs.AbstractState.{AbstractState, Born, born, unborn}
use Rattle.lib_os.specs.LibrarySteps.{Stands}
use Rattle.lib_os.specs.Places.{place_of}
use Rattle.lib_os.specs.SpawnedChild.{spawning_child}
use Rattle.lib_os.specs.StandsFor.{borne_in}
use Rattle.lib_os.specs.UserCalls.{system}
use Rattle.lib_os.proofs.BearsOn.{borne_is, borne_lives}
use Rattle.lib_os.proofs.NumbersKept.{KeepsCopies, kept_in}
use Rattle.lib_os.proofs.OthersCopies.{Named, system_wait}
use Rattle.lib_os.proofs.SlotsStand.{born_at, born_live}
use Rattle.lib_os.proofs.SpawnOwnPages.{spawn_there, spawns_at}

-- in other spaces than the environment's own and its child's
abbrev IsApart : KernelState → ℕ → ℕ → ℕ → Type 0
IsApart s n child d = (d ≢ (slot_at s n).directory) × (d ≢ (slot_at s child).directory)

module _ (s : KernelState) (n path argv id : ℕ) (at : SpawnStep) (stands : place_of (slot_at s n) ≡ spawns_at path argv at)
    (bears : spawning_child at ≡ Some id) where
  -- another's space is apart
  apart_so : (a : AbstractState) → Stands s a → (m : ℕ) (b : Born) → m ≢ n → a.slots m ≡ born b → IsApart s n (id % NENV) (slot_at s m).directory
  apart_so a h m b ne is =
      let it = spawn_there h.1 n path argv at stands in
      let borne : borne_in (place_of (slot_at s n)) ≡ Some id = ap borne_in stands ∙ bears in
      let there : is_live (slot_at s m) ≡ true = born_live (born_at h.1 m b is) in
      let other : m ≢ id % NENV = λ same.
      let contradiction : born b ≡ unborn id it.b.id = sym is ∙ ap a.slots same ∙ borne_is h.1 n id it.b it.is borne in absurd cc in (
        (λ same. ne (h.1.in_order.spaces.apart m n there (born_live it.own) same)),
        (λ same. other (h.1.in_order.spaces.apart m (id % NENV) there (borne_lives h.1 n id it.b it.is borne) same)),
      )

  nowhere : (q : ℕ) → Named id n q → IsApart s n (id % NENV) (slot_at s q).directory → ⊥
  nowhere q (inl same) here = here.0 (ap (λ (r : ℕ). (slot_at s r).directory) same)
  nowhere q (inr other) here = here.1 (ap (λ (r : ℕ). (slot_at s r).directory) other.1)

  -- page_map(from, .., the child, ..)
  pub spawn_maps_copies : (source from to bits : ℕ) → KeepsCopies n s (system s n SYS_PAGE_MAP (source ∷ from ∷ id ∷ to ∷ bits ∷ [])).state
  spawn_maps_copies source from to bits live a h m b ne is =
      let args : List ℕ = source ∷ from ∷ id ∷ to ∷ bits ∷ [] in
      kept_in (IsApart s n (id % NENV)) s.spaces (system s n SYS_PAGE_MAP args).state.spaces (slot_at s m).directory (apart_so a h m b ne is)
      (system_wait (IsApart s n (id % NENV)) s n SYS_PAGE_MAP args (λ here. here.0 refl) (record {
        alloc = λ it q named here. absurd (let contradiction : false ≡ true = it in cc);
        map = λ it q named here. absurd (nowhere q named here);
        unmap = λ it q named here. absurd (let contradiction : false ≡ true = it in cc);
        destroy = λ it q named here. absurd (let contradiction : false ≡ true = it in cc);
        send = λ it low q receives here. absurd (let contradiction : false ≡ true = it in cc);
      }))

  -- page_alloc(the child, ..)
  pub spawn_allocs_copies : (va bits : ℕ) → KeepsCopies n s (system s n SYS_PAGE_ALLOC (id ∷ va ∷ bits ∷ 0 ∷ 0 ∷ [])).state
  spawn_allocs_copies va bits live a h m b ne is =
      let args : List ℕ = id ∷ va ∷ bits ∷ 0 ∷ 0 ∷ [] in
      kept_in (IsApart s n (id % NENV)) s.spaces (system s n SYS_PAGE_ALLOC args).state.spaces (slot_at s m).directory (apart_so a h m b ne is)
      (system_wait (IsApart s n (id % NENV)) s n SYS_PAGE_ALLOC args (λ here. here.0 refl) (record {
        alloc = λ it q named here. absurd (nowhere q named here);
        map = λ it q named here. absurd (let contradiction : false ≡ true = it in cc);
        unmap = λ it q named here. absurd (let contradiction : false ≡ true = it in cc);
        destroy = λ it q named here. absurd (let contradiction : false ≡ true = it in cc);
        send = λ it low q receives here. absurd (let contradiction : false ≡ true = it in cc);
      }))

  -- env_destroy(the child)
  pub spawn_destroys_copies : KeepsCopies n s (system s n SYS_ENV_DESTROY (id ∷ 0 ∷ 0 ∷ 0 ∷ 0 ∷ [])).state
  spawn_destroys_copies live a h m b ne is =
      let args : List ℕ = id ∷ 0 ∷ 0 ∷ 0 ∷ 0 ∷ [] in
      kept_in (IsApart s n (id % NENV)) s.spaces (system s n SYS_ENV_DESTROY args).state.spaces (slot_at s m).directory (apart_so a h m b ne is)
      (system_wait (IsApart s n (id % NENV)) s n SYS_ENV_DESTROY args (λ here. here.0 refl) (record {
        alloc = λ it q named here. absurd (let contradiction : false ≡ true = it in cc);
        map = λ it q named here. absurd (let contradiction : false ≡ true = it in cc);
        unmap = λ it q named here. absurd (let contradiction : false ≡ true = it in cc);
        destroy = λ it q named here. nowhere q named here;
        send = λ it low q receives here. absurd (let contradiction : false ≡ true = it in cc);
      }))
