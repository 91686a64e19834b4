-- The law of the step in which read or stat of a file gives its page back and goes back to the program, all bytes being put: nobody sees it.
use Rattle.std.proofs.Common.{◌≡◌, ℕ, true, false, Ok, refl, sym, subst, arith}
use Rattle.jos_base.specs.declared.called.Called.{Called}
use Rattle.jos_base.specs.Environments.{is_live}
use Rattle.jos_base.specs.KernelState.{KernelState, slot_at}
use Rattle.lib_os.specs.declared.place.Place.TheVariants as place
use Rattle.lib_os.specs.declared.place.Step.TheVariants as step
use Rattle.lib_os.specs.declared.service.Service.{Service}
use Rattle.lib_os.specs.InOrder.{IsInOrder}
use Rattle.lib_os.specs.LibrarySteps.{Lowers}
use Rattle.lib_os.specs.Places.{place_of}
use Rattle.lib_os.specs.StandsInHandler.{hands_back}
use Rattle.lib_os.specs.UserCalls.{CallStep}
use Rattle.lib_os.proofs.FileReturned.{returning_keeps, returning_lowers}
use Rattle.lib_os.proofs.PageGiven.{give_asked, give_is, give_lives}
use Rattle.lib_stage.specs.declared.ask.Next.TheVariants as next
use Rattle.lib_stage.specs.Asks.{performed}
use Rattle.lib_stage.specs.ServiceSteps.{Plan, ServiceHolds, upshot_by}
use Rattle.lib_stage.proofs.Laws.{KeepsBy, StandsThere, law_with, plainly}
use Rattle.lib_file.proofs.Finds.{staged}
use Rattle.lib_request.specs.PageRequests.{clearing_asked}
use Rattle.lib_bytes.proofs.Handing.{handing_steady}

module _ (s : KernelState) (n : ℕ) (call : Service) (hands : hands_back call ≡ true) (live : is_live (slot_at s n) ≡ true) (answer : ℕ)
    (stands : place_of (slot_at s n) ≡ place.InService call (step.Returning answer)) where
  abbrev returning : Plan
  returning = staged call clearing_asked (λ word. next.GoBack answer)

  there : StandsThere s n returning call (step.Returning answer)
  there = record {
    stands = stands;
    plain = plainly refl;
    goes_on = handing_steady call hands (step.Returning answer) refl;
    few = omega arith;
  }

  given_keeps : IsInOrder (give_asked s n).state → KeepsBy s n returning (give_asked s n)
  given_keeps =
      subst (λ (z : CallStep Called). IsInOrder z.state → KeepsBy s n returning z) (sym (give_is s n live))
      (λ order. returning_keeps s n answer call stands order)

  given_lowers : let did = upshot_by returning n (give_asked s n) (give_asked s n).gives in Lowers (Ok did.progress) n s did.state
  given_lowers =
      subst (λ (z : CallStep Called). let did = upshot_by returning n z z.gives in Lowers (Ok did.progress) n s did.state)
      (sym (give_is s n live)) (returning_lowers s n answer call stands)

  pub returning_holds : ServiceHolds s n (staged call clearing_asked (λ word. next.GoBack answer))
  unfolding performed
  returning_holds =
      law_with s n returning call (step.Returning answer) there (λ called is stays. (give_lives s n live).live) given_keeps
      (λ may a h turn. absurd (let contradiction : false ≡ true = may.0 in cc)) given_lowers
