-- The law of remove as it begins: a path that lies outside of the fence is refused.
use Rattle.std.proofs.Common.{◌≡◌, ℕ, Bool, true, false, not, [], ◌∷◌, refl, sym, subst, arith, if◌then◌else◌}
use Rattle.jos_base.specs.declared.called.Called.{Called}
use Rattle.jos_base.specs.declared.called.Called.TheVariants.{Answered}
use Rattle.jos_base.specs.declared.numbers.TheConstants.{E_INVAL, SYS_GETENVID}
use Rattle.jos_base.specs.Environments.{is_live}
use Rattle.jos_base.specs.KernelState.{KernelState, slot_at}
use Rattle.jos_base.specs.Words.{negated}
use Rattle.lib_os.specs.declared.numbers.TheConstants.{SERVICE_REMOVE}
use Rattle.lib_os.specs.declared.place.Place.TheVariants as place
use Rattle.lib_os.specs.declared.place.Step.TheVariants as step
use Rattle.lib_os.specs.declared.service.Service.{Service}
use Rattle.lib_os.specs.declared.service.Service.TheVariants as service
use Rattle.lib_os.specs.Fence.{is_inside}
use Rattle.lib_os.specs.LibrarySteps.{KeepsStanding}
use Rattle.lib_os.specs.Places.{place_of}
use Rattle.lib_os.specs.StandsInHandler.{AreSmall}
use Rattle.lib_os.specs.UserCalls.{CallStep, giving}
use Rattle.lib_os.proofs.Calls.{getenvid_is}
use Rattle.lib_os.proofs.PathRefused.{path_enters, path_enters_not}
use Rattle.lib_os.proofs.Trying.{LivesOn}
use Rattle.lib_stage.specs.declared.ask.Next.TheVariants as next
use Rattle.lib_stage.specs.Nexts.{seen_as, settled}
use Rattle.lib_stage.specs.ServiceSteps.{Plan, ServiceHolds}
use Rattle.lib_stage.proofs.Laws.{Falls, IsAt, KeepsBy, law_of_call, plainly}
use Rattle.lib_request.specs.declared.remove.RemoveStage.TheVariants as stage
use Rattle.lib_request.specs.RemoveStages.{removing}

module _ (s : KernelState) (n path : ℕ) (live : is_live (slot_at s n) ≡ true) where
  abbrev remove : Service
  remove = service.Remove path

  -- ---- whether its path lies in the fence

  module _ (small : AreSmall (slot_at s n).registers) (stands : place_of (slot_at s n) ≡ place.InService (service.Remove path) step.Entered) where
    abbrev entering : Plan
    entering = removing (record { path = path; at = stage.Entered })

    entering_falls : (t : Bool) → Falls remove step.Entered (if not t then next.Answer (negated E_INVAL) else next.GoOn step.TakingPage)
    entering_falls true = omega arith
    entering_falls false = tt

    entering_at : IsAt s n entering remove step.Entered
    entering_at = record {
      stands = stands;
      live = live;
      numbered = refl;
      plain = plainly refl;
      goes_on = refl;
      falls = λ called. entering_falls (is_inside path);
      few = omega arith;
    }

    entering_keeps : KeepsBy s n entering (giving s (Answered (slot_at s n).id))
    entering_keeps = by_test (is_inside path) refl
      where
        by_test : (t : Bool) → is_inside path ≡ t →
            let x = if not t then next.Answer (negated E_INVAL) else next.GoOn step.TakingPage in
            KeepsStanding (seen_as x) n s (settled SERVICE_REMOVE x s n) []
        by_test true inside = path_enters s n remove refl stands inside
        by_test false outside = path_enters_not s n remove refl stands small outside

    pub entering_holds : ServiceHolds s n (removing (record { path = path; at = stage.Entered }))
    entering_holds =
        let args = 0 ∷ 0 ∷ 0 ∷ 0 ∷ 0 ∷ [] in
        law_of_call s n entering remove step.Entered entering_at SYS_GETENVID args refl refl
        (subst (λ (z : CallStep Called). LivesOn z n (slot_at s n).registers) (sym (getenvid_is s n live args))
        (record { live = live; registers = refl; written = refl }))
        (λ order. subst (λ (z : CallStep Called). KeepsBy s n entering z) (sym (getenvid_is s n live args)) entering_keeps)
