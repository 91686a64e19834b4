-- page_drop: the page is gone from the environment's space.
use Rattle.std.proofs.Common.{◌≡◌, ◌∙◌, ℕ, true, List, [], ◌∷◌, Some, refl, ap}
use Rattle.jos_base.specs.declared.called.Called.{Called}
use Rattle.jos_base.specs.declared.called.Called.TheVariants.{Answered}
use Rattle.jos_base.specs.declared.numbers.TheConstants.{SYS_PAGE_UNMAP}
use Rattle.jos_base.specs.declared.registers.Regs.{Regs}
use Rattle.jos_base.specs.Environments.{is_live}
use Rattle.jos_base.specs.KernelState.{KernelState, slot_at, with_spaces}
use Rattle.jos_base.specs.SpacesState.{SpacesState, unmapped}
use Rattle.jos_base.specs.Words.{page_number}
use Rattle.lib_os.specs.declared.place.Place.{Place}
use Rattle.lib_os.specs.declared.place.Place.TheVariants as place
use Rattle.lib_os.specs.declared.place.Step.{Step}
use Rattle.lib_os.specs.declared.service.Service.TheVariants as service
use Rattle.lib_os.specs.AbstractMemory.{without_page}
use Rattle.lib_os.specs.AbstractState.{AbstractState, Born, entered}
use Rattle.lib_os.specs.Answers.{back_with}
use Rattle.lib_os.specs.Fence.{is_page_inside}
use Rattle.lib_os.specs.LibraryCall.{library_step}
use Rattle.lib_os.specs.LibrarySteps.{service_answered}
use Rattle.lib_os.specs.Places.{place_of}
use Rattle.lib_os.specs.Rows.{Names}
use Rattle.lib_os.specs.StandsFor.{StandsFor}
use Rattle.lib_os.specs.UserCalls.{system, giving, CallStep}
use Rattle.lib_os.proofs.Calls.{page_unmap_is}
use Rattle.lib_os.proofs.Fences.{page_inside_address}
use Rattle.lib_os.proofs.Logical.{page_inside_programs}
use Rattle.lib_os.proofs.PagesStand.{removed_stands}
use Rattle.lib_os.proofs.Removing.{unmapped_removed}
use Rattle.lib_os.proofs.Serving.{printed_nothing}
use Rattle.lib_os.proofs.SlotsStand.{minds_page}
use Rattle.lib_mem.specs.declared.services.MemoryService.TheVariants as memory
use Rattle.lib_mem.proofs.Passing.{here, Leads, changed_stands}

drop_step : (a : AbstractState) (n : ℕ) (b : Born) (regs : Regs) (va : ℕ) → is_page_inside va ≡ true →
    library_step a n b regs (service.PageDrop va) entered ≡ Some (back_with a n (without_page b va) (record regs { eax = 0 }))
unfolding library_step
drop_step a n b regs va inside = rw inside refl

module _ (s : KernelState) (n va : ℕ) (step : Step) (rest : List ℕ) (live : is_live (slot_at s n) ≡ true)
    (at : place_of (slot_at s n) ≡ place.InService (service.PageDrop va) step) (inside : is_page_inside va ≡ true) where
  abbrev pub spaces : SpacesState
  spaces = unmapped s.spaces (slot_at s n).directory (page_number va)

  abbrev pub asked : CallStep Called
  asked = system s n SYS_PAGE_UNMAP (0 ∷ va ∷ rest)

  pub asked_is : asked ≡ giving (with_spaces s spaces) (Answered 0)
  asked_is = page_unmap_is s n live va rest (page_inside_address va inside)

  pub drop_leads : (names : Names) (a : AbstractState) → StandsFor names s a → Leads s n [] (with_spaces s spaces) (service_answered (with_spaces s spaces) n 0) a
  drop_leads names a h =
      let i = here h n (memory.PageDrop va) step at in (
        back_with a n (without_page i.b va) (record (slot_at s n).registers { eax = 0 }),
        i.goes ∙ drop_step a n i.b (slot_at s n).registers va inside,
        printed_nothing a,
        λ in_order last quiet. (
          names,
          changed_stands a n (without_page i.b va)
              (removed_stands h n i.b i.is va (page_inside_programs va inside) (unmapped_removed s.spaces (slot_at s n).directory (page_number va) h.in_order.frames)
              (ap (λ (p : Place). minds_page p) at) in_order last)
              i.unborne i.holds i.calm i.at.silent i.at.awake i.outside 0,
        ),
      )
