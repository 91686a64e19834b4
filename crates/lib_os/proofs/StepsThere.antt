-- An environment that is in its handler of page faults is at a step that there is.
use Rattle.std.proofs.Common.{◌≡◌, ◌∙◌, ◌<◌, ◌%◌, ◌==◌, ℕ, Bool, true, false, refl, sym, ap, subst, arith, if◌then◌else◌}
use Rattle.jos_base.specs.declared.registers.Regs.{Regs}
use Rattle.jos_base.specs.Environments.{Slot}
use Rattle.lib_os.specs.declared.numbers.TheConstants.{HANDLER_READING_ERROR, HANDLER_LOOKING, HANDLER_TAKING}
use Rattle.lib_os.specs.declared.numbers.TheConstants.{HANDLER_LOADING, HANDLER_STORING, HANDLER_MAPPING_OVER}
use Rattle.lib_os.specs.declared.numbers.TheConstants.{HANDLER_UNMAPPING, HANDLER_RESTORING, HANDLER_READING_IP}
use Rattle.lib_os.specs.declared.numbers.TheConstants.{HANDLER_UNSETTING, PAGE_WORDS, PGFAULT_UPCALL}
use Rattle.lib_os.specs.declared.place.HandlerStep.{HandlerStep}
use Rattle.lib_os.specs.declared.place.HandlerStep.TheVariants as handler
use Rattle.lib_os.specs.declared.place.Place.{Place}
use Rattle.lib_os.specs.declared.place.Place.TheVariants as place
use Rattle.lib_os.specs.Places.{place_of, place_in_words, handler_step_in, is_handlers}
use Rattle.lib_os.specs.StandingLaws.{IsHandlerStep}
use Rattle.lib_os.proofs.WordsTell.{handler_runs, is_in_handler}

record IsThere (at : HandlerStep) : Type 0 where
  there : IsHandlerStep at

one_of : (t : Bool) (x : HandlerStep) {y : HandlerStep} → IsHandlerStep x → IsThere y → IsThere (if t then x else y)
one_of true x one other = record { there = one }
one_of false x one other = other

small_index : (index : ℕ) → index % PAGE_WORDS < PAGE_WORDS
small_index index = omega arith

-- Whatever the registers hold, the step that they tell is one that there is.
step_told : (regs : Regs) → IsThere (handler_step_in regs)
unfolding handler_step_in
step_told regs =
    one_of (regs.eip == PGFAULT_UPCALL) (handler.Entered) tt
    (one_of (regs.eip == HANDLER_READING_ERROR) (handler.ReadingError regs.ebx) tt
    (one_of (regs.eip == HANDLER_LOOKING) (handler.Looking regs.ebx) tt
    (one_of (regs.eip == HANDLER_TAKING) (handler.Taking regs.ebx) tt
    (one_of (regs.eip == HANDLER_LOADING) (handler.Loading regs.ebx (regs.ecx % PAGE_WORDS)) (small_index regs.ecx)
    (one_of (regs.eip == HANDLER_STORING) (handler.Storing regs.ebx (regs.ecx % PAGE_WORDS) regs.edx) (small_index regs.ecx)
    (one_of (regs.eip == HANDLER_MAPPING_OVER) (handler.MappingOver regs.ebx) tt
    (one_of (regs.eip == HANDLER_UNMAPPING) (handler.Unmapping regs.ebx) tt
    (one_of (regs.eip == HANDLER_RESTORING) (handler.Restoring) tt
    (one_of (regs.eip == HANDLER_READING_IP) (handler.ReadingIp regs.ebx regs.ecx) tt
    (one_of (regs.eip == HANDLER_UNSETTING) (handler.Unsetting regs.ebx regs.ecx regs.edx) tt
    (record { there = tt })))))))))))

abbrev step_in_place : Place → HandlerStep
step_in_place (place.InHandler at) = at
step_in_place _ = handler.Entered

pub step_is_there : (k : Slot) (at : HandlerStep) → place_of k ≡ place.InHandler at → IsHandlerStep at
unfolding place_in_words
step_is_there k at is =
    let inside : is_handlers k.registers.esp ≡ true = sym (handler_runs k.registers k.extra) ∙ ap is_in_handler is in
    let there : place_of k ≡ place.InHandler (handler_step_in k.registers) = rw inside refl in
    let told = step_told k.registers in
    subst (λ (h : HandlerStep). IsHandlerStep h) (ap step_in_place (sym there ∙ is)) told.there
