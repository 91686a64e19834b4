-- The law of spawn as it sets the rights of a page of its child's.
use Rattle.std.proofs.Common.{◌≡◌, ◌∙◌, ◌*◌, ◌%◌, ◌<◌, ℕ, true, [], ◌∷◌, Option, Some, None, refl, sym, ap, subst, arith}
use Rattle.std.proofs.lemmas.Bool.Decides.{nat_tests}
use Rattle.jos_base.specs.declared.called.Called.{Called}
use Rattle.jos_base.specs.declared.called.Called.TheVariants.{Answered}
use Rattle.jos_base.specs.declared.numbers.TheConstants.{E_NO_MEM, FDTABLE, NENV, PGSIZE, SYS_PAGE_MAP}
use Rattle.jos_base.specs.Environments.{is_live}
use Rattle.jos_base.specs.KernelState.{KernelState, slot_at, with_refusal, with_spaces}
use Rattle.jos_base.specs.SpacesState.{SpacesState, inserted}
use Rattle.jos_base.specs.SystemCalls.{is_page_address}
use Rattle.jos_base.specs.Words.{negated, page_number}
use Rattle.lib_os.specs.declared.place.Step.TheVariants as step
use Rattle.lib_os.specs.declared.service.Service.TheVariants as service
use Rattle.lib_os.specs.declared.spawn_steps.FinishingStep.TheVariants as finishing
use Rattle.lib_os.specs.declared.spawn_steps.SpawnStep.{SpawnStep}
use Rattle.lib_os.specs.declared.spawn_steps.SpawnStep.TheVariants as spawn
use Rattle.lib_os.specs.InOrder.{IsInOrder}
use Rattle.lib_os.specs.LibrarySteps.{NothingRefused}
use Rattle.lib_os.specs.Places.{place_of}
use Rattle.lib_os.specs.UserCalls.{CallStep, answer_of, giving, system}
use Rattle.lib_os.proofs.Calls.{made_step, refusal_is_seen}
use Rattle.lib_os.proofs.CallersStay.{map_answers}
use Rattle.lib_os.proofs.SpawnCopies.{spawn_maps_copies}
use Rattle.lib_os.proofs.SpawnOwnPages.{spawns_at}
use Rattle.lib_stage.specs.Asks.{performed}
use Rattle.lib_stage.specs.ServiceSteps.{Plan, ServiceHolds, upshot_by}
use Rattle.lib_stage.proofs.Laws.{FollowsBy, KeepsBy, knowingly, law_of_call}
use Rattle.lib_fork.specs.ForkStages.{page_va}
use Rattle.lib_child.specs.ChildSegments.{readable_perm}
use Rattle.lib_birth.specs.declared.stage.BirthStage.TheVariants as stage
use Rattle.lib_birth.specs.BirthStages.{births}
use Rattle.lib_birth.proofs.BirthFalls.{rights_page_falls}
use Rattle.lib_birth.proofs.ReadyingSteps.{lives_answered}
use Rattle.lib_birth.proofs.RightsPuts.{over, page_low, rights_set, sets_is}

-- the address of a page that a segment may have
segment_address : (page : ℕ) → page < page_number FDTABLE → (is_page_address (page_va page) ≡ true) × (page_number (page_va page) ≡ page)
segment_address page lower =
    let number : page_number (page_va page) ≡ page = omega (arith, lower) in
    let begins : page_va page % PGSIZE ≡ 0 = omega arith in
    let same : page_va page ≡ page * PGSIZE = omega (arith, lower) in
    (grind (arith, nat_tests), number)

module _ (s : KernelState) (n path argv : ℕ) (live : is_live (slot_at s n) ≡ true) (fd headers child header page end : ℕ)
    (stands : place_of (slot_at s n) ≡ spawns_at path argv (spawn.Finishing (finishing.RightsPage fd headers child header page end))) where
  abbrev from : SpawnStep
  from = spawn.Finishing (finishing.RightsPage fd headers child header page end)

  abbrev plan : Plan
  plan = births (stage.Finishing (finishing.RightsPage fd headers child header page end))

  abbrev asked : CallStep Called
  asked = system s n SYS_PAGE_MAP (child ∷ page_va page ∷ child ∷ page_va page ∷ readable_perm ∷ [])

  keeps : IsInOrder asked.state → KeepsBy s n plan asked
  keeps order a h turn quiet =
      by_spaces (inserted s.spaces (slot_at s (child % NENV)).directory page (over h.1 n path argv fd headers child header page end stands)) refl
    where
      call_is : asked ≡ made_step s (inserted s.spaces (slot_at s (child % NENV)).directory page
          (over h.1 n path argv fd headers child header page end stands))
      call_is =
          let address = segment_address page (page_low h.1 n path argv fd headers child header page end stands) in
          sets_is h.1 n path argv fd headers child header page end stands (page_va page) address.0 address.1

      by_spaces : (o : Option SpacesState) → inserted s.spaces (slot_at s (child % NENV)).directory page
          (over h.1 n path argv fd headers child header page end stands) ≡ o → FollowsBy s n plan a asked
      by_spaces None none =
          let call : asked ≡ giving (with_refusal s) (Answered (negated E_NO_MEM)) = call_is ∙ ap (made_step s) none in
          let told = subst (λ (z : CallStep Called). NothingRefused s (upshot_by plan n z z.gives).state) call quiet in
          absurd (refusal_is_seen s (record { stays = told.stays; could = told.could }))
      by_spaces (Some sp) is =
          let call : asked ≡ giving (with_spaces s sp) (Answered 0) = call_is ∙ ap (made_step s) is in
          subst (λ (z : CallStep Called). IsInOrder z.state → FollowsBy s n plan a z) (sym call)
          (λ in_order. (refl, (h.0, rights_set h.1 n path argv fd headers child header page end stands in_order is turn.last))) order

  pub rights_page_holds : ServiceHolds s n (births (stage.Finishing (finishing.RightsPage fd headers child header page end)))
  unfolding performed
  rights_page_holds =
      law_of_call s n plan (service.Spawn path argv) (step.Spawning from)
      (record {
        stands = stands;
        live = live;
        numbered = refl;
        plain = knowingly refl (spawn_maps_copies s n path argv child from stands refl child (page_va page) (page_va page) readable_perm) (λ a h. refl);
        goes_on = refl;
        falls = λ called. rights_page_falls path argv fd headers child header page end (answer_of called);
        few = omega arith;
      })
      SYS_PAGE_MAP (child ∷ page_va page ∷ child ∷ page_va page ∷ readable_perm ∷ []) refl refl
      (lives_answered (map_answers s n live child (page_va page) child (page_va page) readable_perm)) keeps
