-- The law of spawn, where it is refused, as it destroys its child, and as it drops the descriptor of its file.
use Rattle.std.proofs.Common.{◌≡◌, ◌∙◌, ◌⊎◌, inl, inr, ◌%◌, ℕ, Bool, true, false, [], ◌∷◌, refl, sym, ap, subst, arith, if◌then◌else◌}
use Rattle.std.specs.Prelude.{nat_lt}
use Rattle.std.proofs.lemmas.Bool.Decides.{nat_tests}
use Rattle.jos_base.specs.declared.called.Called.{Called}
use Rattle.jos_base.specs.declared.called.Called.TheVariants.{Ended}
use Rattle.jos_base.specs.declared.numbers.TheConstants.{NENV, SYS_ENV_DESTROY, SYS_PAGE_UNMAP}
use Rattle.jos_base.specs.Environments.{is_live}
use Rattle.jos_base.specs.KernelState.{KernelState, slot_at, with_extra}
use Rattle.jos_base.specs.SystemCalls.{without_environment}
use Rattle.lib_os.specs.declared.numbers.TheConstants.{DESCRIPTORS, SERVICE_SPAWN}
use Rattle.lib_os.specs.declared.place.Step.TheVariants as step
use Rattle.lib_os.specs.declared.service.Service.TheVariants as service
use Rattle.lib_os.specs.declared.spawn_steps.SpawnStep.TheVariants as spawn
use Rattle.lib_os.specs.declared.spawn_steps.UndoingStep.TheVariants as undoing
use Rattle.lib_os.specs.InOrder.{IsInOrder}
use Rattle.lib_os.specs.LibrarySteps.{GoesOn}
use Rattle.lib_os.specs.Places.{place_of, words_at}
use Rattle.lib_os.specs.UserCalls.{CallStep, got, system}
use Rattle.lib_os.proofs.CallersStay.{destroy_answers}
use Rattle.lib_os.proofs.DescriptorLooks.{descriptor_va}
use Rattle.lib_os.proofs.DescriptorsStand.{drop_is, drop_lives}
use Rattle.lib_os.proofs.SpawnCopies.{spawn_destroys_copies}
use Rattle.lib_os.proofs.SpawnOwnPages.{spawns_at}
use Rattle.lib_os.proofs.SpawnUndoes.{closing_keeps, destroying_below, destroying_goes, destroying_is}
use Rattle.lib_os.proofs.Trying.{IsAnswered}
use Rattle.lib_stage.specs.Asks.{performed}
use Rattle.lib_stage.specs.Nexts.{is_gone}
use Rattle.lib_stage.specs.ServiceSteps.{Plan, ServiceHolds}
use Rattle.lib_stage.proofs.Laws.{FollowsBy, GoesOn as LivesBy, KeepsBy, knowingly, law_of, law_of_call, plainly, system_never}
use Rattle.lib_birth.specs.declared.stage.BirthStage.TheVariants as stage
use Rattle.lib_birth.specs.BirthStages.{births}
use Rattle.lib_birth.proofs.BirthFalls.{undoing_falls}

module _ (s : KernelState) (n path argv : ℕ) (live : is_live (slot_at s n) ≡ true) where
  -- ---- the child is destroyed

  module _ (fd child error : ℕ) (stands : place_of (slot_at s n) ≡ spawns_at path argv (spawn.Undoing (undoing.DestroyingChild fd child error))) where
    abbrev destroying : Plan
    destroying = births (stage.Undoing (undoing.DestroyingChild fd child error))

    abbrev asked : CallStep Called
    asked = system s n SYS_ENV_DESTROY (child ∷ 0 ∷ 0 ∷ 0 ∷ 0 ∷ [])

    -- whoever has destroyed itself does not go on
    goes : LivesBy s n destroying asked
    goes = by_end (destroy_answers s n live child 0 0 0 0)
      where
        gone_by : asked.gives ≡ got Ended → (called : Called) → asked.gives ≡ got called → is_gone (destroying.next called) ≡ false → ⊥
        gone_by ended called is stays =
            let told : got Ended ≡ got called = sym ended ∙ is in
            let same : Ended ≡ called = cc in
            let contradiction : true ≡ false = ap (λ (c : Called). is_gone (destroying.next c)) same ∙ stays in absurd cc

        by_end : (asked.gives ≡ got Ended) ⊎ IsAnswered asked n (slot_at s n).registers → LivesBy s n destroying asked
        by_end (inl ended) = record {
          live = λ called is stays. absurd (gone_by ended called is stays);
          registers = λ called is stays. absurd (gone_by ended called is stays);
        }
        by_end (inr it) = record { live = λ called is stays. it.live; registers = λ called is stays. it.registers }

    keeps : IsInOrder asked.state → KeepsBy s n destroying asked
    keeps order a h turn quiet =
        subst (λ (z : CallStep Called). IsInOrder z.state → FollowsBy s n destroying a z) (sym (destroying_is s n path argv fd child error stands h.1))
        (λ in_order.
        subst (λ (c : Bool). GoesOn n
        (with_closed c) a [])
        (sym below) (destroying_goes s n path argv fd child error stands h.1 in_order turn.last)) order
      where
        with_closed : Bool → KernelState
        with_closed c =
            with_extra (without_environment s (child % NENV)) n
            (words_at SERVICE_SPAWN (step.Spawning (if c then spawn.Undoing (undoing.ClosingFile fd error) else spawn.Undoing (undoing.UndoingStack error))))

        below : nat_lt fd DESCRIPTORS ≡ true
        below = let less = destroying_below s n path argv fd child error stands h.1 in grind (arith, nat_tests, less)

    pub destroying_child_holds : ServiceHolds s n (births (stage.Undoing (undoing.DestroyingChild fd child error)))
    unfolding performed
    destroying_child_holds =
        law_of s n destroying (service.Spawn path argv) (step.Spawning (spawn.Undoing (undoing.DestroyingChild fd child error)))
        (record {
          stands = stands;
          live = live;
          numbered = refl;
          plain = knowingly refl (spawn_destroys_copies s n path argv child (spawn.Undoing (undoing.DestroyingChild fd child error)) stands refl) (λ a h. refl);
          goes_on = refl;
          falls = undoing_falls path argv (undoing.DestroyingChild fd child error);
          few = omega arith;
        })
        goes (system_never s n SYS_ENV_DESTROY (child ∷ 0 ∷ 0 ∷ 0 ∷ 0 ∷ [])) keeps
        (λ may a h turn. absurd (let contradiction : false ≡ true = may.0 in cc))

  -- ---- the descriptor is dropped

  module _ (fd error : ℕ) (stands : place_of (slot_at s n) ≡ spawns_at path argv (spawn.Undoing (undoing.ClosingFile fd error))) where
    abbrev closing : Plan
    closing = births (stage.Undoing (undoing.ClosingFile fd error))

    pub closing_file_holds : ServiceHolds s n (births (stage.Undoing (undoing.ClosingFile fd error)))
    closing_file_holds =
        law_of_call s n closing (service.Spawn path argv) (step.Spawning (spawn.Undoing (undoing.ClosingFile fd error)))
        (record {
          stands = stands;
          live = live;
          numbered = refl;
          plain = plainly refl;
          goes_on = refl;
          falls = undoing_falls path argv (undoing.ClosingFile fd error);
          few = omega arith;
        })
        SYS_PAGE_UNMAP (0 ∷ descriptor_va fd ∷ 0 ∷ 0 ∷ 0 ∷ []) refl refl (drop_lives s n fd live)
        (subst (λ (z : CallStep Called). IsInOrder z.state → KeepsBy s n closing z) (sym (drop_is s n fd live))
        (λ order. closing_keeps s n path argv fd error stands order))
