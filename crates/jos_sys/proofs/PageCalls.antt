-- The system calls on pages, over states alone.
use Rattle.std.proofs.Common.{◌≡◌, ℕ, ◌+◌, ◌*◌, ◌/◌, ◌==◌, true, false, Option, Some, None, sym, subst, arith}
use Rattle.std.specs.Prelude.{bit_and}
use Rattle.std.proofs.lemmas.Bool.Decides.{nat_tests}
use Rattle.jos_base.specs.declared.errno.Errno.TheVariants.{BadEnv, Invalid, NoMem}
use Rattle.jos_base.specs.declared.numbers.TheConstants.{PGSIZE, PTE_P, PTE_U, PTE_SYSCALL}
use Rattle.jos_base.specs.Words.{page_number}
use Rattle.jos_base.specs.Reach.{Entry}
use Rattle.jos_base.specs.SpacesState.{SpacesState, allocated, unmapped}
use Rattle.jos_base.specs.KernelState.{KernelState, slot_at, with_spaces, with_refusal}
use Rattle.jos_base.specs.SystemCalls.{answered, answered_with, refused, is_page_address, is_page_perm, shared_entry, entry_at}
use Rattle.jos_base.specs.SystemCalls.{page_alloc_of, page_map_of, page_map_by, page_unmap_of}
use Rattle.jos_sys.specs.declared.system.CallAnswer.{CallAnswer}
use Rattle.jos_sys.specs.System.{IsDone}
use Rattle.std.proofs.lemmas.Bool.{and_parts}

-- ---- good bits

eq_of : (a b : ℕ) → (a == b) ≡ true → a ≡ b
eq_of a b e = grind (arith, nat_tests)

pub perm_user : (perm : ℕ) → is_page_perm perm ≡ true → bit_and perm (PTE_P + PTE_U) ≡ PTE_P + PTE_U
perm_user perm good = eq_of _ _ (and_parts _ _ good).0

pub perm_only : (perm : ℕ) → is_page_perm perm ≡ true → bit_and perm PTE_SYSCALL ≡ perm
perm_only perm good = eq_of _ _ (and_parts _ _ good).1

-- the number of the page that begins at a multiple of its size
pub page_of_number : (number : ℕ) → number * PGSIZE / PGSIZE ≡ number
page_of_number number = omega arith

-- ---- answers

module _ (k j : KernelState) (n : ℕ) (answer : CallAnswer) where
  module _ (f : Option ℕ) (va perm : ℕ) where
    pub none_allocated : None ≡ f → IsDone answer (refused k n BadEnv) j → IsDone answer (page_alloc_of k n f va perm) j
    none_allocated none done = subst (λ z. IsDone answer (page_alloc_of k n z va perm) j) none done

    module _ (target : ℕ) (found : Some target ≡ f) where
      pub alloc_address : is_page_address va ≡ false → IsDone answer (refused k n Invalid) j → IsDone answer (page_alloc_of k n f va perm) j
      alloc_address off done = subst (λ z. IsDone answer (page_alloc_of k n z va perm) j) found (rw off done)

      module _ (here : is_page_address va ≡ true) where
        pub alloc_perm : is_page_perm perm ≡ false → IsDone answer (refused k n Invalid) j → IsDone answer (page_alloc_of k n f va perm) j
        alloc_perm off done = subst (λ z. IsDone answer (page_alloc_of k n z va perm) j) found (rw (here, off) done)

        module _ (good : is_page_perm perm ≡ true) where
          pub alloc_made : (frame : ℕ) (t : SpacesState) (m : KernelState) → allocated k.spaces (slot_at k target).directory (page_number va) perm ≡ Some (frame, t)
              → m ≡ with_spaces k t → IsDone answer (answered m n 0) j → IsDone answer (page_alloc_of k n f va perm) j
          alloc_made frame t m made now done =
              subst (λ z. IsDone answer (page_alloc_of k n z va perm) j) found
              (rw (here, good, made) (subst (λ z. IsDone answer (answered z n 0) j) now done))

          pub alloc_full : allocated k.spaces (slot_at k target).directory (page_number va) perm ≡ None
              → IsDone answer (refused (with_refusal k) n NoMem) j → IsDone answer (page_alloc_of k n f va perm) j
          alloc_full none done = subst (λ z. IsDone answer (page_alloc_of k n z va perm) j) found (rw (here, good, none) done)

  module _ (f : Option ℕ) (va : ℕ) where
    pub none_unmapped : None ≡ f → IsDone answer (refused k n BadEnv) j → IsDone answer (page_unmap_of k n f va) j
    none_unmapped none done = subst (λ z. IsDone answer (page_unmap_of k n z va) j) none done

    module _ (target : ℕ) (found : Some target ≡ f) where
      pub unmap_address : is_page_address va ≡ false → IsDone answer (refused k n Invalid) j → IsDone answer (page_unmap_of k n f va) j
      unmap_address off done = subst (λ z. IsDone answer (page_unmap_of k n z va) j) found (rw off done)

      pub unmap_made : is_page_address va ≡ true → (m : KernelState)
          → m ≡ with_spaces k (unmapped k.spaces (slot_at k target).directory (page_number va)) → IsDone answer (answered m n 0) j
          → IsDone answer (page_unmap_of k n f va) j
      unmap_made here m now done =
          subst (λ z. IsDone answer (page_unmap_of k n z va) j) found (rw here (subst (λ z. IsDone answer (answered z n 0) j) now done))

  -- a page that is inserted, or for which a table is wanting
  pub with_page : (t : Option SpacesState) (s : SpacesState) (m : KernelState) → t ≡ Some s → m ≡ with_spaces k s
      → IsDone answer (answered m n 0) j → IsDone answer (answered_with k n t) j
  with_page t s m made now done =
      subst (λ z. IsDone answer (answered_with k n z) j) (sym made) (subst (λ z. IsDone answer (answered z n 0) j) now done)

  pub without_page : (t : Option SpacesState) → t ≡ None → IsDone answer (refused (with_refusal k) n NoMem) j → IsDone answer (answered_with k n t) j
  without_page t none done = subst (λ z. IsDone answer (answered_with k n z) j) (sym none) done

  module _ (f g : Option ℕ) (from to perm : ℕ) where
    pub no_source : None ≡ f → IsDone answer (refused k n BadEnv) j → IsDone answer (page_map_of k n f from g to perm) j
    no_source none done = subst (λ z. IsDone answer (page_map_of k n z from g to perm) j) none done

    module _ (source : ℕ) (found : Some source ≡ f) where
      pub no_target : None ≡ g → IsDone answer (refused k n BadEnv) j → IsDone answer (page_map_of k n f from g to perm) j
      no_target none done =
          subst (λ z. IsDone answer (page_map_of k n z from g to perm) j) found
          (subst (λ z. IsDone answer (page_map_of k n (Some source) from z to perm) j) none done)

      module _ (target : ℕ) (found_too : Some target ≡ g) where
        both_found : IsDone answer (page_map_of k n (Some source) from (Some target) to perm) j → IsDone answer (page_map_of k n f from g to perm) j
        both_found done =
            subst (λ z. IsDone answer (page_map_of k n z from g to perm) j) found
            (subst (λ z. IsDone answer (page_map_of k n (Some source) from z to perm) j) found_too done)

        pub map_from : is_page_address from ≡ false → IsDone answer (refused k n Invalid) j → IsDone answer (page_map_of k n f from g to perm) j
        map_from off done = both_found (rw off done)

        module _ (here : is_page_address from ≡ true) where
          pub map_to : is_page_address to ≡ false → IsDone answer (refused k n Invalid) j → IsDone answer (page_map_of k n f from g to perm) j
          map_to off done = both_found (rw (here, off) done)

          module _ (there : is_page_address to ≡ true) where
            pub map_entry : (e : Option Entry) → e ≡ shared_entry (entry_at k source from) perm → IsDone answer (page_map_by k n target to e) j
                → IsDone answer (page_map_of k n f from g to perm) j
            map_entry e is done =
                both_found (rw (here, there) (subst (λ z. IsDone answer (page_map_by k n target to z) j) is done))
