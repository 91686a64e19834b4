-- The handler has copied the page, and takes the registers back from the frame: the program stands at its instruction again, or a service
-- where it puts its bytes, and nothing is seen of it.
use Rattle.std.proofs.Common.{inl, ◌≡◌, ◌∙◌, ◌<◌, ℕ, true, Ok, refl, sym, ap, subst}
use Rattle.jos_base.specs.declared.called.Called.{Called}
use Rattle.jos_base.specs.declared.called.Called.TheVariants.{Answered}
use Rattle.jos_base.specs.Environments.{is_live}
use Rattle.jos_base.specs.KernelState.{KernelState, slot_at}
use Rattle.lib_os.specs.declared.place.HandlerStep.TheVariants as handler
use Rattle.lib_os.specs.declared.place.Place.TheVariants as place
use Rattle.lib_os.specs.AbstractState.{AbstractState}
use Rattle.lib_os.specs.InOrder.{IsInOrder}
use Rattle.lib_os.specs.LibrarySteps.{Lowers, hidden_left}
use Rattle.lib_os.specs.Places.{place_of}
use Rattle.lib_os.specs.Rows.{Names}
use Rattle.lib_os.specs.StandsFor.{StandsFor}
use Rattle.lib_os.specs.UserCalls.{CallStep, Got, got, to_handler, gone, giving}
use Rattle.lib_os.proofs.FrameRead.{regs_before, restored_is, restored_lowers, restored_stands, taken_from_frame}
use Rattle.lib_stage.specs.Asks.{performed, told_as}
use Rattle.lib_stage.specs.ServiceSteps.{upshot_by}
use Rattle.lib_stage.proofs.Laws.{FailsBy, FollowsBy, KeepsBy}
use Rattle.lib_fault.specs.HandlerStages.{ask_of, handling}

module _ (s : KernelState) (n : ℕ) (stands : place_of (slot_at s n) ≡ place.InHandler handler.Restoring) where
  abbrev step : CallStep Called
  step = performed s n (ask_of handler.Restoring)

  module _ {names : Names} {a : AbstractState} (h : StandsFor names s a) where
    -- the state after
    abbrev after : KernelState
    after = taken_from_frame s n (regs_before h n stands)

    step_is : step ≡ giving after (Answered 0)
    unfolding performed
    step_is = ap (λ (z : CallStep (Unit {0})). told_as (λ done. 0) z) (restored_is h n stands)

    follows : IsInOrder step.state → FollowsBy s n (handling handler.Restoring) a step
    follows order =
        subst (λ (z : CallStep Called). FollowsBy s n (handling handler.Restoring) a z) (sym step_is)
        (refl, (names, restored_stands h n stands (subst (λ (z : CallStep Called). IsInOrder z.state) step_is order)))

    falls : hidden_left step.state n < hidden_left s n
    falls =
        subst (λ (z : CallStep Called). hidden_left z.state n < hidden_left s n) (sym step_is) (restored_lowers h n stands)

  keeps : IsInOrder step.state → KeepsBy s n (handling handler.Restoring) step
  keeps order a h turn quiet = follows h.1 order

  -- it always gives something, so that the host can't fail
  fails : FailsBy s n (handling handler.Restoring) step
  fails may a h turn =
      let given : got (Answered 0) ≡ gone = ap (λ (z : CallStep Called). z.gives) (sym (step_is h.1)) ∙ may in
      absurd (let contradiction : ◌≡◌ {A = Got Called} (got (Answered 0)) gone = given in cc)

  lowers : let did = upshot_by (handling handler.Restoring) n step step.gives in Lowers (Ok did.progress) n s did.state
  lowers = by_got step.gives
    where
      by_got : (g : Got Called) → let did = upshot_by (handling handler.Restoring) n step g in Lowers (Ok did.progress) n s did.state
      by_got (got called) = λ a h turn quiet. inl (falls h.1)
      by_got to_handler = λ a h turn quiet. inl (falls h.1)
      by_got gone = tt

pub restoring_keeps : (s : KernelState) (n : ℕ) → is_live (slot_at s n) ≡ true → place_of (slot_at s n) ≡ place.InHandler handler.Restoring →
    IsInOrder (performed s n (ask_of handler.Restoring)).state →
    KeepsBy s n (handling handler.Restoring) (performed s n (ask_of handler.Restoring))
restoring_keeps s n live stands = keeps s n stands

pub restoring_fails : (s : KernelState) (n : ℕ) → is_live (slot_at s n) ≡ true → place_of (slot_at s n) ≡ place.InHandler handler.Restoring →
    FailsBy s n (handling handler.Restoring) (performed s n (ask_of handler.Restoring))
restoring_fails s n live stands = fails s n stands

-- and a step less is left
pub restoring_lowers : (s : KernelState) (n : ℕ) → place_of (slot_at s n) ≡ place.InHandler handler.Restoring →
    let step = performed s n (ask_of handler.Restoring) in
    let did = upshot_by (handling handler.Restoring) n step step.gives in Lowers (Ok did.progress) n s did.state
restoring_lowers s n stands = lowers s n stands
