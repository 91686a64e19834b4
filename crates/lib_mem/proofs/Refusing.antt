-- What is refused for what stands in the registers: the state is as before, and the answer is E_INVAL's number, negated.
use Rattle.std.proofs.Common.{◌≡◌, ◌∙◌, ℕ, Bool, true, false, ◌||◌, not, [], Some, refl, ap, if◌then◌else◌}
use Rattle.std.specs.Prelude.{nat_lt}
use Rattle.jos_base.specs.declared.numbers.TheConstants.{E_INVAL, CPUTS_MAX}
use Rattle.jos_base.specs.declared.registers.Regs.{Regs}
use Rattle.jos_base.specs.KernelState.{KernelState, slot_at}
use Rattle.jos_base.specs.Words.{negated}
use Rattle.lib_os.specs.declared.place.Place.TheVariants as place
use Rattle.lib_os.specs.declared.place.Step.{Step}
use Rattle.lib_os.specs.declared.service.Service.TheVariants as service
use Rattle.lib_os.specs.AbstractState.{AbstractState, Born, entered}
use Rattle.lib_os.specs.Answers.{refused}
use Rattle.lib_os.specs.Fence.{is_buffer, is_page_inside}
use Rattle.lib_os.specs.LibraryCall.{library_step}
use Rattle.lib_os.specs.LibrarySteps.{service_answered}
use Rattle.lib_os.specs.Places.{place_of}
use Rattle.lib_os.specs.Rows.{Names}
use Rattle.lib_os.specs.StandsFor.{StandsFor}
use Rattle.lib_os.proofs.Serving.{printed_nothing}
use Rattle.lib_mem.specs.declared.services.MemoryService.{MemoryService}
use Rattle.lib_mem.specs.declared.services.MemoryService.TheVariants as memory
use Rattle.lib_mem.specs.MemoryPlans.{is_refused}
use Rattle.lib_mem.proofs.Passing.{here, Leads, answer_stands, service_in}

-- ---- its step in the abstract system

-- of two tests the first that holds refuses
either : {X : Type 0} (p q : Bool) (x y : X) → (p || q) ≡ true → (if p then x else if q then x else y) ≡ x
either true q x y is = refl
either false true x y is = refl
either false false x y is = absurd (let no_test : false ≡ true = is in cc)

module _ (a : AbstractState) (n : ℕ) (b : Born) (regs : Regs) where
  cputs_refused : (va len : ℕ) → is_refused (memory.Cputs va len) ≡ true →
      library_step a n b regs (service.Cputs va len) entered ≡ Some (refused a n b regs E_INVAL)
  unfolding library_step
  cputs_refused va len is = ap Some (either (nat_lt CPUTS_MAX len) (not (is_buffer va len)) _ _ is)

  page_new_refused : (va flags : ℕ) → is_refused (memory.PageNew va flags) ≡ true →
      library_step a n b regs (service.PageNew va flags) entered ≡ Some (refused a n b regs E_INVAL)
  unfolding library_step
  page_new_refused va flags is = ap Some (either (nat_lt 3 flags) (not (is_page_inside va)) _ _ is)

  page_drop_refused : (va : ℕ) → is_refused (memory.PageDrop va) ≡ true →
      library_step a n b regs (service.PageDrop va) entered ≡ Some (refused a n b regs E_INVAL)
  unfolding library_step
  page_drop_refused va is = rw is refl

  unknown_refused : library_step a n b regs service.Unknown entered ≡ Some (refused a n b regs E_INVAL)
  unfolding library_step
  unknown_refused = refl

  refused_step : (m : MemoryService) → is_refused m ≡ true → library_step a n b regs (service_in m) entered ≡ Some (refused a n b regs E_INVAL)
  refused_step (memory.Cputs va len) is = cputs_refused va len is
  refused_step (memory.PageNew va flags) is = page_new_refused va flags is
  refused_step (memory.PageDrop va) is = page_drop_refused va is
  refused_step memory.Unknown is = unknown_refused
  refused_step memory.GetId is = absurd (let no_test : false ≡ true = is in cc)
  refused_step memory.Yield is = absurd (let no_test : false ≡ true = is in cc)

-- ---- its step

module _ (s : KernelState) (n : ℕ) (m : MemoryService) (step : Step)
    (at : place_of (slot_at s n) ≡ place.InService (service_in m) step) (is : is_refused m ≡ true) where
  pub refused_leads : (names : Names) (a : AbstractState) → StandsFor names s a → Leads s n [] s (service_answered s n (negated E_INVAL)) a
  refused_leads names a h =
      let i = here h n m step at in (
        refused a n i.b (slot_at s n).registers E_INVAL,
        i.goes ∙ refused_step a n i.b (slot_at s n).registers m is,
        printed_nothing a,
        λ in_order last quiet. (names, answer_stands h n i.b i.is i.unborne i.holds i.calm i.at.silent i.at.awake i.outside (negated E_INVAL)),
      )
