-- getid and yield: the state is as before, or the environment may run on and has given up its turn.
use Rattle.std.proofs.Common.{◌≡◌, ◌∙◌, ℕ, [], Some, refl, sym, ap}
use Rattle.jos_base.specs.declared.environment.Status.TheVariants.{Runnable}
use Rattle.jos_base.specs.declared.registers.Regs.{Regs}
use Rattle.jos_base.specs.Environments.{Slot}
use Rattle.jos_base.specs.KernelState.{KernelState, slot_at, with_status}
use Rattle.lib_os.specs.declared.place.Place.TheVariants as place
use Rattle.lib_os.specs.declared.place.Step.{Step}
use Rattle.lib_os.specs.declared.service.Service.TheVariants as service
use Rattle.lib_os.specs.AbstractState.{AbstractState, Born, entered}
use Rattle.lib_os.specs.Answers.{back_with}
use Rattle.lib_os.specs.LibraryCall.{library_step}
use Rattle.lib_os.specs.LibrarySteps.{service_answered}
use Rattle.lib_os.specs.Places.{place_of, is_handlers}
use Rattle.lib_os.specs.Rows.{Names}
use Rattle.lib_os.specs.StandsFor.{StandsFor, borne_in}
use Rattle.lib_os.proofs.PipesStand.{is_calm}
use Rattle.lib_os.proofs.Serving.{holds_page, printed_nothing}
use Rattle.lib_os.proofs.Slots.{slot_put}
use Rattle.lib_os.proofs.StatesStand.{status_stands}
use Rattle.lib_mem.specs.declared.services.MemoryService.TheVariants as memory
use Rattle.lib_mem.proofs.Passing.{here, Leads, answer_stands}

-- ---- getid

getid_step : (a : AbstractState) (n : ℕ) (b : Born) (regs : Regs) →
    library_step a n b regs service.GetId entered ≡ Some (back_with a n b (record regs { eax = b.id }))
unfolding library_step
getid_step a n b regs = refl

module _ (s : KernelState) (n : ℕ) (step : Step)
    (at : place_of (slot_at s n) ≡ place.InService service.GetId step) where
  pub getid_leads : (names : Names) (a : AbstractState) → StandsFor names s a → Leads s n [] s (service_answered s n (slot_at s n).id) a
  getid_leads names a h =
      let i = here h n memory.GetId step at in
      let id_is : (slot_at s n).id ≡ i.b.id = i.own.id in
      let regs = (slot_at s n).registers in (
        back_with a n i.b (record regs { eax = (slot_at s n).id }),
        i.goes ∙ getid_step a n i.b regs ∙ ap (λ (word : ℕ). Some (back_with a n i.b (record regs { eax = word }))) (sym id_is),
        printed_nothing a,
        λ in_order last quiet. (names, answer_stands h n i.b i.is i.unborne i.holds i.calm i.at.silent i.at.awake i.outside (slot_at s n).id),
      )

-- ---- yield

yield_step : (a : AbstractState) (n : ℕ) (b : Born) (regs : Regs) →
    library_step a n b regs service.Yield entered ≡ Some (back_with a n b (record regs { eax = 0 }))
unfolding library_step
yield_step a n b regs = refl

module _ (s : KernelState) (n : ℕ) (step : Step)
    (at : place_of (slot_at s n) ≡ place.InService service.Yield step) where
  pub yield_leads : (names : Names) (a : AbstractState) → StandsFor names s a → Leads s n [] (with_status s n Runnable) (service_answered (with_status s n Runnable) n 0) a
  yield_leads names a h =
      let i = here h n memory.Yield step at in
      let put : slot_at (with_status s n Runnable) n ≡ record (slot_at s n) { status = Runnable } =
      slot_put s n (record (slot_at s n) { status = Runnable }) in (
        back_with a n i.b (record (slot_at (with_status s n Runnable) n).registers { eax = 0 }),
        i.goes ∙ yield_step a n i.b (slot_at s n).registers
            ∙ ap (λ (k : Slot). Some (back_with a n i.b (record k.registers { eax = 0 }))) (sym put),
        printed_nothing a,
        λ in_order last quiet. (
          names,
          answer_stands (status_stands h n i.b i.is i.at.awake) n i.b i.is
              (ap (λ (k : Slot). borne_in (place_of k)) put ∙ i.unborne) (ap (λ (k : Slot). holds_page (place_of k)) put ∙ i.holds)
              (ap (λ (k : Slot). is_calm (place_of k)) put ∙ i.calm)
              (ap (λ (k : Slot). k.rendezvous.receiving) put ∙ i.at.silent) i.at.awake
              (ap (λ (k : Slot). is_handlers k.registers.esp) put ∙ i.outside) 0,
        ),
      )
