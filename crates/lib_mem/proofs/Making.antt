-- page_new: a page of zeros stands in the environment's space, its own or under a new name.
use Rattle.std.proofs.Common.{◌≡◌, ◌∙◌, ℕ, ◌+◌, Bool, true, false, List, [], ◌∷◌, Option, Some, None, refl, sym, ap, subst, arith, ◌≤◌, if◌then◌else◌}
use Rattle.std.specs.Prelude.{nat_lt}
use Rattle.std.proofs.lemmas.Bool.Decides.{nat_tests}
use Rattle.jos_base.specs.declared.called.Called.{Called}
use Rattle.jos_base.specs.declared.called.Called.TheVariants.{Answered}
use Rattle.jos_base.specs.declared.numbers.TheConstants.{SYS_PAGE_ALLOC, E_NO_MEM}
use Rattle.jos_base.specs.declared.registers.Regs.{Regs}
use Rattle.jos_base.specs.Environments.{is_live}
use Rattle.jos_base.specs.KernelState.{KernelState, slot_at, with_spaces, with_refusal}
use Rattle.jos_base.specs.SpacesState.{SpacesState, allocated, zero_page}
use Rattle.jos_base.specs.SystemCalls.{is_page_perm, has_write}
use Rattle.jos_base.specs.Words.{negated, page_number, upd, has_bit}
use Rattle.lib_os.specs.declared.place.Place.{Place}
use Rattle.lib_os.specs.declared.place.Place.TheVariants as place
use Rattle.lib_os.specs.declared.place.Step.{Step}
use Rattle.lib_os.specs.declared.service.Service.TheVariants as service
use Rattle.lib_os.specs.AbstractMemory.{with_page}
use Rattle.lib_os.specs.AbstractState.{AbstractState, Born, own, named, entered, with_born}
use Rattle.lib_os.specs.Answers.{answered}
use Rattle.lib_os.specs.Fence.{is_page_inside}
use Rattle.lib_os.specs.InOrder.{IsInOrder}
use Rattle.lib_os.specs.LibraryCall.{library_step}
use Rattle.lib_os.specs.LibrarySteps.{Stands, service_answered}
use Rattle.lib_os.specs.MemoryServices.{page_made}
use Rattle.lib_os.specs.Places.{place_of}
use Rattle.lib_os.specs.Rows.{Names, IsUsers, is_cow, is_shared}
use Rattle.lib_os.specs.StandsFor.{StandsFor}
use Rattle.lib_os.specs.UserCalls.{system, giving, CallStep}
use Rattle.lib_os.proofs.Calls.{page_alloc_some, page_alloc_none, refusal_is_seen}
use Rattle.lib_os.proofs.Effects.{Made}
use Rattle.lib_os.proofs.Fences.{page_inside_address}
use Rattle.lib_os.proofs.Logical.{page_inside_programs}
use Rattle.lib_os.proofs.PagesStand.{made_own_stands, made_shared_stands}
use Rattle.lib_os.proofs.Placing.{allocated_made}
use Rattle.lib_os.proofs.Serving.{printed_nothing}
use Rattle.lib_os.proofs.SlotsStand.{minds_page}
use Rattle.lib_mem.specs.MemoryPlans.{perm_of_flags}
use Rattle.lib_mem.specs.declared.services.MemoryService.TheVariants as memory
use Rattle.lib_mem.proofs.Passing.{IsHere, here, Leads, changed_stands}

-- ---- the bits of its entry

bits_by : (write share : Bool) →
    let perm = (5 + (if write then 2 else 0)) + (if share then 0x400 else 0) in
    (is_page_perm perm ≡ true) × (has_write perm ≡ write) × (is_shared perm ≡ share) × (is_cow perm ≡ false)
bits_by true true = (refl, refl, refl, refl)
bits_by true false = (refl, refl, refl, refl)
bits_by false true = (refl, refl, refl, refl)
bits_by false false = (refl, refl, refl, refl)

perm_is : (flags : ℕ) → (is_page_perm (perm_of_flags flags) ≡ true) × (has_write (perm_of_flags flags) ≡ has_bit flags 1)
    × (is_shared (perm_of_flags flags) ≡ has_bit flags 2) × (is_cow (perm_of_flags flags) ≡ false)
perm_is flags = bits_by (has_bit flags 1) (has_bit flags 2)

-- ---- its step in the abstract system

page_new_step : (a : AbstractState) (n : ℕ) (b : Born) (regs : Regs) (va flags : ℕ) → flags ≤ 3 → is_page_inside va ≡ true →
    library_step a n b regs (service.PageNew va flags) entered ≡ Some (page_made a n b regs va flags)
unfolding library_step
page_new_step a n b regs va flags few inside =
    let test : nat_lt 3 flags ≡ false = grind (arith, nat_tests) in rw (test, inside) refl

-- a page of zeros has the next name
abbrev with_name : AbstractState → AbstractState
with_name a = record a { shared = upd a.shared a.next_name zero_page; next_name = a.next_name + 1 }

nothing_printed : (a : AbstractState) (n : ℕ) (b : Born) (regs : Regs) (va flags : ℕ) → (page_made a n b regs va flags).console ≡ a.console
nothing_printed a n b regs va flags = by_flag (has_bit flags 2)
  where
    by_flag : (share : Bool) →
        (if share
        then answered (with_name a) n (with_page b va (named a.next_name (has_bit flags 1))) regs 0
        else answered a n (with_page b va (own zero_page (has_bit flags 1))) regs 0).console ≡ a.console
    by_flag true = refl
    by_flag false = refl

-- ---- its step

module _ (s : KernelState) (n va flags perm : ℕ) (step : Step) (rest : List ℕ) (live : is_live (slot_at s n) ≡ true)
    (at : place_of (slot_at s n) ≡ place.InService (service.PageNew va flags) step)
    (few : flags ≤ 3) (inside : is_page_inside va ≡ true) (bits : perm ≡ perm_of_flags flags) where
  entry_bits : (is_page_perm perm ≡ true) × (has_write perm ≡ has_bit flags 1) × (is_shared perm ≡ has_bit flags 2) × (is_cow perm ≡ false)
  entry_bits =
      subst (λ (p : ℕ). (is_page_perm p ≡ true) × (has_write p ≡ has_bit flags 1) × (is_shared p ≡ has_bit flags 2) × (is_cow p ≡ false))
      (sym bits) (perm_is flags)

  abbrev pub asked : CallStep Called
  asked = system s n SYS_PAGE_ALLOC (0 ∷ va ∷ perm ∷ rest)

  abbrev pub found : Option (ℕ × SpacesState)
  found = allocated s.spaces (slot_at s n).directory (page_number va) perm

  permitted : is_page_perm perm ≡ true
  permitted = entry_bits.0

  -- where a frame was free
  module _ (f : ℕ) (t : SpacesState) (is : found ≡ Some (f, t)) where
    pub some_is : asked ≡ giving (with_spaces s t) (Answered 0)
    some_is = page_alloc_some s n live va perm rest (page_inside_address va inside) permitted f t is

    page_stands : {names : Names} {a : AbstractState} → StandsFor names s a → IsInOrder (with_spaces s t) → s.last ≡ Some n →
        (i : IsHere names s a n (service.PageNew va flags)) →
        Stands (service_answered (with_spaces s t) n 0) (page_made a n i.b (slot_at s n).registers va flags)
    page_stands {names = names} {a = a} h in_order last i = by_flag (has_bit flags 2) entry_bits.2
      where
        made : Made s.spaces t (slot_at s n).directory (page_number va) perm
        made = allocated_made s.spaces t (slot_at s n).directory (page_number va) perm f h.in_order.frames in_order.frames permitted is

        user : IsUsers perm
        user = record {
          page = permitted;
          copied = λ is. absurd (let contradiction : true ≡ false = sym is ∙ entry_bits.3 in cc);
        }

        unminded : minds_page (place_of (slot_at s n)) ≡ false
        unminded = ap (λ (p : Place). minds_page p) at

        by_flag : (share : Bool) → is_shared perm ≡ share →
            Stands (service_answered (with_spaces s t) n 0)
            (if share
            then answered (with_name a) n (with_page i.b va (named a.next_name (has_bit flags 1))) (slot_at s n).registers 0
            else answered a n (with_page i.b va (own zero_page (has_bit flags 1))) (slot_at s n).registers 0)
        by_flag true share =
            let after = made_shared_stands h n i.b i.is va perm (page_inside_programs va inside) made user unminded in_order last share in (
              after.0,
              changed_stands (with_name a) n (with_page i.b va (named a.next_name (has_bit flags 1)))
                  (subst (λ (w : Bool). StandsFor after.0 (with_spaces s t) (with_born (with_name a) n (with_page i.b va (named a.next_name w))))
                  entry_bits.1 after.1)
                  i.unborne i.holds i.calm i.at.silent i.at.awake i.outside 0,
            )
        by_flag false share = (
          names,
          changed_stands a n (with_page i.b va (own zero_page (has_bit flags 1)))
              (subst (λ (w : Bool). StandsFor names (with_spaces s t) (with_born a n (with_page i.b va (own zero_page w))))
              entry_bits.1 (made_own_stands h n i.b i.is va perm (page_inside_programs va inside) made user unminded in_order last share entry_bits.3))
              i.unborne i.holds i.calm i.at.silent i.at.awake i.outside 0,
        )

    pub some_leads : (names : Names) (a : AbstractState) → StandsFor names s a → Leads s n [] (with_spaces s t) (service_answered (with_spaces s t) n 0) a
    some_leads names a h =
        let i = here h n (memory.PageNew va flags) step at in (
          page_made a n i.b (slot_at s n).registers va flags,
          i.goes ∙ page_new_step a n i.b (slot_at s n).registers va flags few inside,
          nothing_printed a n i.b (slot_at s n).registers va flags ∙ printed_nothing a,
          λ in_order last quiet. page_stands h in_order last i,
        )

  -- where none was
  module _ (none : found ≡ None) where
    pub none_is : asked ≡ giving (with_refusal s) (Answered (negated E_NO_MEM))
    none_is = page_alloc_none s n live va perm rest (page_inside_address va inside) permitted none

    pub none_leads : (names : Names) (a : AbstractState) → StandsFor names s a → Leads s n [] (with_refusal s) (service_answered (with_refusal s) n (negated E_NO_MEM)) a
    none_leads names a h =
        let i = here h n (memory.PageNew va flags) step at in (
          page_made a n i.b (slot_at s n).registers va flags,
          i.goes ∙ page_new_step a n i.b (slot_at s n).registers va flags few inside,
          nothing_printed a n i.b (slot_at s n).registers va flags ∙ printed_nothing a,
          λ in_order last quiet. absurd (refusal_is_seen s (record { stays = quiet.stays; could = quiet.could })),
        )
