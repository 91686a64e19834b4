-- The handler of page faults comes to an end: at each of its steps less is left than at the one before.
use Rattle.std.proofs.Common.{◌≡◌, ◌<◌, ◌+◌, ◌-◌, ◌==◌, ℕ, Bool, true, false, not, refl, arith, if◌then◌else◌}
use Rattle.std.specs.Prelude.{nat_lt}
use Rattle.std.proofs.lemmas.Bool.Decides.{nat_tests}
use Rattle.lib_os.specs.declared.numbers.TheConstants.{PAGE_WORDS}
use Rattle.lib_os.specs.declared.place.HandlerStep.{HandlerStep}
use Rattle.lib_os.specs.declared.place.HandlerStep.TheVariants as handler
use Rattle.lib_os.specs.LibrarySteps.{handler_steps_left}
use Rattle.lib_os.specs.StandingLaws.{IsHandlerStep}
use Rattle.lib_stage.specs.declared.ask.Next.{Next}
use Rattle.lib_stage.specs.declared.ask.Next.TheVariants as next
use Rattle.lib_fault.specs.HandlerStages.{next_of, refused_write, waits_to_be_copied}

-- Where the handler goes on, less is left, and the step is one that there is. It never goes on as a service does.
abbrev pub HandlerFalls : HandlerStep → Next → Type 0
HandlerFalls from (next.Handle to) = (handler_steps_left to < handler_steps_left from) × IsHandlerStep to
HandlerFalls from next.Leave = 0 < handler_steps_left from
HandlerFalls from next.Gone = Unit {0}
HandlerFalls from _ = ⊥

pub handler_falls : (from : HandlerStep) → IsHandlerStep from → (word : ℕ) → HandlerFalls from (next_of from word)
handler_falls handler.Entered there word = (omega arith, tt)
handler_falls (handler.ReadingError va) there word = by_test (not (word == refused_write))
  where
    by_test : (t : Bool) →
        HandlerFalls (handler.ReadingError va) (if t then next.Handle (handler.ReadingIp va word) else next.Handle (handler.Looking va))
    by_test true = (omega arith, tt)
    by_test false = (omega arith, tt)
handler_falls (handler.Looking va) there word = by_test (not (waits_to_be_copied word))
  where
    by_test : (t : Bool) →
        HandlerFalls (handler.Looking va) (if t then next.Handle (handler.ReadingIp va refused_write) else next.Handle (handler.Taking va))
    by_test true = (omega arith, tt)
    by_test false = (omega arith, tt)
handler_falls (handler.Taking va) there word = by_test (not (word == 0))
  where
    by_test : (t : Bool) →
        HandlerFalls (handler.Taking va) (if t then next.Handle (handler.ReadingIp va refused_write) else next.Handle (handler.Loading va 0))
    by_test true = (omega arith, tt)
    by_test false = (omega arith, omega arith)
handler_falls (handler.Loading va index) there word = (omega (arith, there), there)
handler_falls (handler.Storing va index stored) there word = by_test (nat_lt index (PAGE_WORDS - 1)) refl
  where
    by_test : (t : Bool) → nat_lt index (PAGE_WORDS - 1) ≡ t →
        HandlerFalls (handler.Storing va index stored) (if t then next.Handle (handler.Loading va (index + 1)) else next.Handle (handler.MappingOver va))
    by_test true is = let more : index < PAGE_WORDS - 1 = grind (arith, nat_tests) in (omega (arith, more), omega (arith, more))
    by_test false is = (omega (arith, there), tt)
handler_falls (handler.MappingOver va) there word = (omega arith, tt)
handler_falls (handler.Unmapping va) there word = (omega arith, tt)
handler_falls handler.Restoring there word = omega arith
handler_falls (handler.ReadingIp va error) there word = (omega arith, tt)
handler_falls (handler.Unsetting va error ip) there word = (omega arith, tt)
handler_falls (handler.Touching va error ip) there word = tt
