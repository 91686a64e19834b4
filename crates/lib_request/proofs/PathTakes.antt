-- The law of a service that is given a path as it takes a page for the bytes of that, and as it raises the fault of a byte that its page refuses.
use Rattle.std.proofs.Common.{◌≡◌, ◌+◌, ◌%◌, ◌^◌, ◌==◌, ℕ, Bool, true, false, not, [], ◌∷◌, refl, ap, arith, if◌then◌else◌}
use Rattle.jos_base.specs.declared.called.Called.{Called}
use Rattle.jos_base.specs.declared.numbers.TheConstants.{SYS_PAGE_ALLOC, UTEMP}
use Rattle.jos_base.specs.Environments.{is_live}
use Rattle.jos_base.specs.KernelState.{KernelState, slot_at}
use Rattle.lib_os.specs.declared.place.Place.TheVariants as place
use Rattle.lib_os.specs.declared.place.Step.TheVariants as step
use Rattle.lib_os.specs.declared.service.Service.{Service}
use Rattle.lib_os.specs.AbstractState.{AbstractState}
use Rattle.lib_os.specs.InOrder.{IsInOrder}
use Rattle.lib_os.specs.Places.{place_of}
use Rattle.lib_os.specs.Rows.{Names}
use Rattle.lib_os.specs.StandsFor.{StandsFor}
use Rattle.lib_os.specs.StandsInHandler.{AreSmall, buffer_of}
use Rattle.lib_os.proofs.PathServices.{has_path}
use Rattle.lib_os.specs.UserCalls.{CallStep, answer_of}
use Rattle.lib_os.proofs.PageTaken.{take_holds, take_lives, working_perm}
use Rattle.lib_os.proofs.PathStopped.{path_stopped, path_stopped_after, path_stopped_lowers, path_stopped_stands}
use Rattle.lib_os.proofs.PathTaken.{path_taking_keeps, path_untaken_keeps}
use Rattle.lib_os.proofs.Serving.{served}
use Rattle.lib_stage.specs.declared.ask.Ask.TheVariants as ask
use Rattle.lib_stage.specs.declared.ask.Next.TheVariants as next
use Rattle.lib_stage.specs.Asks.{performed, told_as}
use Rattle.lib_stage.specs.ServiceSteps.{Plan, ServiceHolds}
use Rattle.lib_stage.proofs.Laws.{Falls, IsAt, KeepsBy, law_of_call, plainly}
use Rattle.lib_file.proofs.FaultingLaw.{IsHandedOver, handed_holds}
use Rattle.lib_file.proofs.Finds.{staged}
use Rattle.lib_request.proofs.PathFollows.{path_frames, path_steady}

module _ (s : KernelState) (n : ℕ) (call : Service) (takes : has_path call ≡ true) (live : is_live (slot_at s n) ≡ true) where
  module _ (stands : place_of (slot_at s n) ≡ place.InService call step.TakingPage) where
    abbrev taking : Plan
    taking = staged call (ask.System SYS_PAGE_ALLOC (0 ∷ UTEMP ∷ working_perm ∷ 0 ∷ 0 ∷ []))
        (λ word. if not (word == 0) then next.Answer word else next.GoOn (step.BufferRegion 0 0))

    taking_falls : (called : Called) → Falls call step.TakingPage (taking.next called)
    taking_falls called = by_test (answer_of called == 0)
      where
        by_test : (t : Bool) →
            Falls call step.TakingPage (if not t then next.Answer (answer_of called) else next.GoOn (step.BufferRegion 0 0))
        by_test true = omega arith
        by_test false = tt

    taking_at : IsAt s n taking call step.TakingPage
    taking_at = record {
      stands = stands;
      live = live;
      numbered = refl;
      plain = plainly refl;
      goes_on = path_steady call takes step.TakingPage refl;
      falls = taking_falls;
      few = let frames = path_frames call takes in omega (arith, frames);
    }

    pub taking_holds : ServiceHolds s n (staged call (ask.System SYS_PAGE_ALLOC (0 ∷ UTEMP ∷ working_perm ∷ 0 ∷ 0 ∷ []))
        (λ word. if not (word == 0) then next.Answer word else next.GoOn (step.BufferRegion 0 0)))
    taking_holds =
        law_of_call s n taking call step.TakingPage taking_at SYS_PAGE_ALLOC (0 ∷ UTEMP ∷ working_perm ∷ 0 ∷ 0 ∷ []) refl refl
        (take_lives s n live)
        (take_holds s n live (λ (z : CallStep Called). IsInOrder z.state → KeepsBy s n taking z)
        (λ made order. path_taking_keeps s n call takes stands made order) (λ order. path_untaken_keeps s n _))

-- ---- a byte that its page refuses

module _ (s : KernelState) (n : ℕ) (call : Service) (takes : has_path call ≡ true) (small : AreSmall (slot_at s n).registers) (done word : ℕ)
    (stands : place_of (slot_at s n) ≡ place.InService call (step.Faulting done word)) where
  path_handed : (names : Names) (a : AbstractState) → StandsFor names s a →
      IsHandedOver s n names a (performed s n (ask.LoadByte ((buffer_of call + done) % 2 ^ 32)))
  unfolding performed
  path_handed names a h =
      let v = served h n call (step.Faulting done word) stands in
      record {
        after = path_stopped_after h n call takes done word v;
        is = ap (λ (z : CallStep ℕ). told_as (λ byte. byte) z) (path_stopped h n call takes done word v);
        stands = path_stopped_stands h n call takes done word v small;
        lower = path_stopped_lowers h n call takes done word v;
      }

  pub path_faulting_holds : ServiceHolds s n (staged call (ask.LoadByte ((buffer_of call + done) % 2 ^ 32)) (λ w. next.Gone))
  path_faulting_holds =
      handed_holds s n call (step.Faulting done word) stands (path_steady call takes (step.Faulting done word) refl)
      (ask.LoadByte ((buffer_of call + done) % 2 ^ 32)) (plainly refl) (omega arith) (λ may. may) path_handed
