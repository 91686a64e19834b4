-- The law of spawn, where it is refused, as it gives back the page of the stack, that of what it was given, and, with its answer, that of its path.
use Rattle.std.proofs.Common.{◌≡◌, ℕ, [], ◌∷◌, refl, sym, subst, arith}
use Rattle.jos_base.specs.declared.called.Called.{Called}
use Rattle.jos_base.specs.declared.numbers.TheConstants.{SYS_PAGE_UNMAP, UTEMP}
use Rattle.std.specs.Prelude.{true}
use Rattle.jos_base.specs.Environments.{is_live}
use Rattle.jos_base.specs.KernelState.{KernelState, slot_at}
use Rattle.jos_base.specs.SystemCalls.{is_page_address}
use Rattle.lib_os.specs.declared.numbers.TheConstants.{SPAWN_GIVEN, SPAWN_STACK}
use Rattle.lib_os.specs.declared.place.Step.TheVariants as step
use Rattle.lib_os.specs.declared.service.Service.TheVariants as service
use Rattle.lib_os.specs.declared.spawn_steps.SpawnStep.TheVariants as spawn
use Rattle.lib_os.specs.declared.spawn_steps.UndoingStep.{UndoingStep}
use Rattle.lib_os.specs.declared.spawn_steps.UndoingStep.TheVariants as undoing
use Rattle.lib_os.specs.InOrder.{IsInOrder}
use Rattle.lib_os.specs.Places.{place_of}
use Rattle.lib_os.specs.UserCalls.{CallStep, system}
use Rattle.lib_os.proofs.PageGiven.{give_is, give_lives}
use Rattle.lib_os.proofs.SpawnGivesBack.{gives_given_back, gives_stack_back}
use Rattle.lib_os.proofs.SpawnOwnPages.{spawns_at}
use Rattle.lib_os.proofs.SpawnPagesTaken.{page_given_is}
use Rattle.lib_os.proofs.SpawnRefuses.{gives_path_back}
use Rattle.lib_os.proofs.Trying.{LivesOn}
use Rattle.lib_stage.specs.ServiceSteps.{Plan, ServiceHolds}
use Rattle.lib_stage.proofs.Laws.{KeepsBy, law_of_call, plainly}
use Rattle.lib_birth.specs.declared.stage.BirthStage.TheVariants as stage
use Rattle.lib_birth.specs.BirthStages.{births}
use Rattle.lib_birth.proofs.BirthFalls.{undoing_falls}

-- whoever gives back a page lives on
pub gives_lives : (s : KernelState) (n va : ℕ) (address : is_page_address va ≡ true) → is_live (slot_at s n) ≡ true →
    LivesOn (system s n SYS_PAGE_UNMAP (0 ∷ va ∷ 0 ∷ 0 ∷ 0 ∷ [])) n (slot_at s n).registers
gives_lives s n va address live =
    subst (λ (z : CallStep Called). LivesOn z n (slot_at s n).registers) (sym (page_given_is s n va address live))
    (record { live = live; registers = refl; written = refl })

module _ (s : KernelState) (n path argv : ℕ) (live : is_live (slot_at s n) ≡ true) where
  abbrev plan : UndoingStep → Plan
  plan at = births (stage.Undoing at)

  module _ (error : ℕ) where
    pub undoing_stack_holds : place_of (slot_at s n) ≡ spawns_at path argv (spawn.Undoing (undoing.UndoingStack error)) →
        ServiceHolds s n (births (stage.Undoing (undoing.UndoingStack error)))
    undoing_stack_holds stands =
        law_of_call s n (plan (undoing.UndoingStack error)) (service.Spawn path argv) (step.Spawning (spawn.Undoing (undoing.UndoingStack error)))
        (record {
          stands = stands;
          live = live;
          numbered = refl;
          plain = plainly refl;
          goes_on = refl;
          falls = undoing_falls path argv (undoing.UndoingStack error);
          few = omega arith;
        })
        SYS_PAGE_UNMAP (0 ∷ SPAWN_STACK ∷ 0 ∷ 0 ∷ 0 ∷ []) refl refl (gives_lives s n SPAWN_STACK refl live)
        (subst (λ (z : CallStep Called). IsInOrder z.state → KeepsBy s n (plan (undoing.UndoingStack error)) z)
        (sym (page_given_is s n SPAWN_STACK refl live)) (gives_stack_back s n path argv error stands))

    pub undoing_given_holds : place_of (slot_at s n) ≡ spawns_at path argv (spawn.Undoing (undoing.UndoingGiven error)) →
        ServiceHolds s n (births (stage.Undoing (undoing.UndoingGiven error)))
    undoing_given_holds stands =
        law_of_call s n (plan (undoing.UndoingGiven error)) (service.Spawn path argv) (step.Spawning (spawn.Undoing (undoing.UndoingGiven error)))
        (record {
          stands = stands;
          live = live;
          numbered = refl;
          plain = plainly refl;
          goes_on = refl;
          falls = undoing_falls path argv (undoing.UndoingGiven error);
          few = omega arith;
        })
        SYS_PAGE_UNMAP (0 ∷ SPAWN_GIVEN ∷ 0 ∷ 0 ∷ 0 ∷ []) refl refl (gives_lives s n SPAWN_GIVEN refl live)
        (subst (λ (z : CallStep Called). IsInOrder z.state → KeepsBy s n (plan (undoing.UndoingGiven error)) z)
        (sym (page_given_is s n SPAWN_GIVEN refl live)) (gives_given_back s n path argv error stands))

    pub undoing_path_holds : place_of (slot_at s n) ≡ spawns_at path argv (spawn.Undoing (undoing.UndoingPath error)) →
        ServiceHolds s n (births (stage.Undoing (undoing.UndoingPath error)))
    undoing_path_holds stands =
        law_of_call s n (plan (undoing.UndoingPath error)) (service.Spawn path argv) (step.Spawning (spawn.Undoing (undoing.UndoingPath error)))
        (record {
          stands = stands;
          live = live;
          numbered = refl;
          plain = plainly refl;
          goes_on = refl;
          falls = undoing_falls path argv (undoing.UndoingPath error);
          few = omega arith;
        })
        SYS_PAGE_UNMAP (0 ∷ UTEMP ∷ 0 ∷ 0 ∷ 0 ∷ []) refl refl (give_lives s n live)
        (subst (λ (z : CallStep Called). IsInOrder z.state → KeepsBy s n (plan (undoing.UndoingPath error)) z) (sym (give_is s n live))
        (gives_path_back s n path argv error stands))
