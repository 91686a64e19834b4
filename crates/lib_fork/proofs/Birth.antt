-- The last step of fork, which is seen: the child may run, and its parent is answered its id. And a step that no environment stands at.
use Rattle.std.proofs.Common.{◌≡◌, ◌%◌, ℕ, true, false, [], ◌∷◌, refl, sym, subst}
use Rattle.jos_base.specs.declared.called.Called.{Called}
use Rattle.jos_base.specs.declared.called.Called.TheVariants.{Answered}
use Rattle.jos_base.specs.declared.environment.Status.TheVariants.{Runnable}
use Rattle.jos_base.specs.declared.numbers.TheConstants.{NENV}
use Rattle.jos_base.specs.Environments.{is_live}
use Rattle.jos_base.specs.KernelState.{KernelState, slot_at, with_status}
use Rattle.lib_os.specs.declared.place.Place.TheVariants as place
use Rattle.lib_os.specs.declared.place.Step.TheVariants as step
use Rattle.lib_os.specs.declared.service.Service.TheVariants as service
use Rattle.lib_os.specs.AbstractFork.{bear}
use Rattle.lib_os.specs.AbstractState.{AbstractState}
use Rattle.lib_os.specs.InOrder.{IsInOrder}
use Rattle.lib_os.specs.LibrarySteps.{Stands}
use Rattle.lib_os.specs.Places.{place_of}
use Rattle.lib_os.specs.UserCalls.{CallStep, giving}
use Rattle.lib_os.proofs.Bearing.{bearer}
use Rattle.lib_os.proofs.Births.{birth_stands, birth_step, child_lives, child_owned, some_id}
use Rattle.lib_os.proofs.ChildRuns.{child_runs_is}
use Rattle.lib_os.proofs.Serving.{printed_nothing, served}
use Rattle.lib_stage.specs.Asks.{performed}
use Rattle.lib_stage.specs.ServiceSteps.{Plan}
use Rattle.lib_stage.proofs.Laws.{FailsBy, FollowsBy, KeepsBy}
use Rattle.lib_fork.specs.declared.fork.ForkStage.{ForkStage}
use Rattle.lib_fork.specs.declared.fork.ForkStage.TheVariants as stage
use Rattle.lib_fork.specs.ForkStages.{ask_of, forking}

-- ---- the child may run

module _ (s : KernelState) (n id : ℕ) (live : is_live (slot_at s n) ≡ true)
    (stands : place_of (slot_at s n) ≡ place.InService service.Fork (step.ChildRuns id)) where
  abbrev running : ForkStage
  running = stage.ChildRuns id

  abbrev plan : Plan
  plan = forking (record { at = running })

  -- what the call comes to, wherever the state stands for an abstract one
  pub runs_is : (a : AbstractState) → Stands s a → performed s n (ask_of running) ≡ giving (with_status s (id % NENV) Runnable) (Answered 0)
  unfolding performed
  runs_is a h =
      let v = bearer h.1 n (step.ChildRuns id) id stands refl in
      child_runs_is s n id live (some_id h.1 n id v) v.apart (child_lives h.1 n id v) v.child_own.id_is (child_owned h.1 n id v) (0 ∷ 0 ∷ 0 ∷ [])

  pub child_runs_keeps : IsInOrder (performed s n (ask_of running)).state → KeepsBy s n plan (performed s n (ask_of running))
  child_runs_keeps order a h turn quiet =
      let v = bearer h.1 n (step.ChildRuns id) id stands refl in
      subst (λ (z : CallStep Called). FollowsBy s n plan a z) (sym (runs_is a h)) (
        bear a n v.b (slot_at s n).registers (id % NENV),
        birth_step h.1 n id v,
        printed_nothing a,
        (h.0, birth_stands h.1 n id v),
      )

  pub child_runs_fails : FailsBy s n plan (performed s n (ask_of running))
  child_runs_fails may a h turn = absurd (let contradiction : false ≡ true = may.0 in cc)

-- ---- a child that was refused something is destroyed, which is nowhere

module _ (s : KernelState) (n id error : ℕ)
    (stands : place_of (slot_at s n) ≡ place.InService service.Fork (step.Undoing id error)) where
  abbrev undoing : ForkStage
  undoing = stage.Undoing id error

  -- no state stands for an abstract one
  pub undoing_nowhere : (a : AbstractState) → Stands s a → ⊥
  undoing_nowhere a h = let v = served h.1 n service.Fork (step.Undoing id error) stands in v.at

  pub undoing_keeps : IsInOrder (performed s n (ask_of undoing)).state →
      KeepsBy s n (forking (record { at = undoing })) (performed s n (ask_of undoing))
  undoing_keeps order a h turn quiet = absurd (undoing_nowhere a h)

  pub undoing_fails : FailsBy s n (forking (record { at = undoing })) (performed s n (ask_of undoing))
  undoing_fails may a h turn = absurd (undoing_nowhere a h)
