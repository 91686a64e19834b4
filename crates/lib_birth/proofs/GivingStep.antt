-- The law of spawn as it gives its child the page of the child's stack.
use Rattle.std.proofs.Common.{◌≡◌, ◌∙◌, ◌-◌, ◌%◌, ℕ, true, [], ◌∷◌, Option, Some, None, refl, sym, ap, subst, arith}
use Rattle.jos_base.specs.declared.called.Called.{Called}
use Rattle.jos_base.specs.declared.called.Called.TheVariants.{Answered}
use Rattle.jos_base.specs.declared.numbers.TheConstants.{E_NO_MEM, NENV, PGSIZE, SYS_PAGE_MAP, USTACKTOP}
use Rattle.jos_base.specs.Environments.{is_live}
use Rattle.jos_base.specs.KernelState.{KernelState, slot_at, with_refusal, with_spaces}
use Rattle.jos_base.specs.SpacesState.{SpacesState, inserted}
use Rattle.jos_base.specs.Words.{negated}
use Rattle.jos_elf.specs.Pages.{stack_page}
use Rattle.lib_os.specs.declared.numbers.TheConstants.{SPAWN_STACK}
use Rattle.lib_os.specs.declared.place.Step.TheVariants as step
use Rattle.lib_os.specs.declared.service.Service.TheVariants as service
use Rattle.lib_os.specs.declared.spawn_steps.FinishingStep.TheVariants as finishing
use Rattle.lib_os.specs.declared.spawn_steps.SpawnStep.{SpawnStep}
use Rattle.lib_os.specs.declared.spawn_steps.SpawnStep.TheVariants as spawn
use Rattle.lib_os.specs.InOrder.{IsInOrder}
use Rattle.lib_os.specs.LibrarySteps.{NothingRefused}
use Rattle.lib_os.specs.Places.{place_of}
use Rattle.lib_os.specs.UserCalls.{CallStep, answer_of, giving, system}
use Rattle.lib_os.proofs.Calls.{made_step, refusal_is_seen}
use Rattle.lib_os.proofs.CallersStay.{map_answers}
use Rattle.lib_os.proofs.PageTaken.{working_perm}
use Rattle.lib_os.proofs.SpawnCopies.{spawn_maps_copies}
use Rattle.lib_os.proofs.SpawnGivesStack.{given_entry, gives_is, stack_given_stands}
use Rattle.lib_os.proofs.SpawnOwnPages.{spawns_at}
use Rattle.lib_stage.specs.Asks.{performed}
use Rattle.lib_stage.specs.ServiceSteps.{Plan, ServiceHolds, upshot_by}
use Rattle.lib_stage.proofs.Laws.{FollowsBy, KeepsBy, knowingly, law_of_call}
use Rattle.lib_birth.specs.declared.stage.BirthStage.TheVariants as stage
use Rattle.lib_birth.specs.BirthStages.{births}
use Rattle.lib_birth.proofs.BirthFalls.{giving_falls}
use Rattle.lib_birth.proofs.ReadyingSteps.{lives_answered}

module _ (s : KernelState) (n path argv : ℕ) (live : is_live (slot_at s n) ≡ true) (fd child : ℕ)
    (stands : place_of (slot_at s n) ≡ spawns_at path argv (spawn.Finishing (finishing.GivingStack fd child))) where
  abbrev from : SpawnStep
  from = spawn.Finishing (finishing.GivingStack fd child)

  abbrev plan : Plan
  plan = births (stage.Finishing (finishing.GivingStack fd child))

  abbrev asked : CallStep Called
  asked = system s n SYS_PAGE_MAP (0 ∷ SPAWN_STACK ∷ child ∷ (USTACKTOP - PGSIZE) ∷ working_perm ∷ [])

  keeps : IsInOrder asked.state → KeepsBy s n plan asked
  keeps order a h turn quiet =
      by_spaces (inserted s.spaces (slot_at s (child % NENV)).directory stack_page (given_entry h.1 n path argv fd child stands)) refl
    where
      by_spaces : (o : Option SpacesState) →
          inserted s.spaces (slot_at s (child % NENV)).directory stack_page (given_entry h.1 n path argv fd child stands) ≡ o → FollowsBy s n plan a asked
      by_spaces None none =
          let call : asked ≡ giving (with_refusal s) (Answered (negated E_NO_MEM)) =
          gives_is h.1 n path argv fd child stands ∙ ap (made_step s) none in
          let told = subst (λ (z : CallStep Called). NothingRefused s (upshot_by plan n z z.gives).state) call quiet in
          absurd (refusal_is_seen s (record { stays = told.stays; could = told.could }))
      by_spaces (Some sp) is =
          let call : asked ≡ giving (with_spaces s sp) (Answered 0) = gives_is h.1 n path argv fd child stands ∙ ap (made_step s) is in
          subst (λ (z : CallStep Called). IsInOrder z.state → FollowsBy s n plan a z) (sym call)
          (λ in_order. (refl, (h.0, stack_given_stands h.1 n path argv fd child stands in_order is turn.last))) order

  pub giving_stack_holds : ServiceHolds s n (births (stage.Finishing (finishing.GivingStack fd child)))
  unfolding performed
  giving_stack_holds =
      law_of_call s n plan (service.Spawn path argv) (step.Spawning from)
      (record {
        stands = stands;
        live = live;
        numbered = refl;
        plain = knowingly refl (spawn_maps_copies s n path argv child from stands refl 0 SPAWN_STACK (USTACKTOP - PGSIZE) working_perm) (λ a h. refl);
        goes_on = refl;
        falls = λ called. giving_falls path argv fd child (answer_of called);
        few = omega arith;
      })
      SYS_PAGE_MAP (0 ∷ SPAWN_STACK ∷ child ∷ (USTACKTOP - PGSIZE) ∷ working_perm ∷ []) refl refl
      (lives_answered (map_answers s n live 0 SPAWN_STACK child (USTACKTOP - PGSIZE) working_perm)) keeps
