-- The law of spawn as it hands on a page that it shares to its child.
use Rattle.std.proofs.Common.{◌≡◌, ◌≢◌, ◌∙◌, ◌==◌, ◌+◌, ◌-◌, ◌*◌, ◌/◌, ◌%◌, ◌<◌, ℕ, Bool, true, false, not, [], ◌∷◌, Option, Some, None, refl, sym, ap, subst, arith, is_some}
use Rattle.std.proofs.Common.{if◌then◌else◌}
use Rattle.std.proofs.lemmas.Bool.{eqb-true, eqb-false}
use Rattle.jos_base.specs.declared.called.Called.{Called}
use Rattle.jos_base.specs.declared.called.Called.TheVariants.{Answered}
use Rattle.jos_base.specs.declared.numbers.TheConstants.{E_NO_MEM, NENV, NPTENTRIES, SYS_PAGE_MAP}
use Rattle.jos_base.specs.Environments.{is_live}
use Rattle.jos_base.specs.KernelState.{KernelState, slot_at, with_extra, with_refusal, with_spaces}
use Rattle.jos_base.specs.SpacesState.{SpacesState, inserted}
use Rattle.jos_base.specs.Words.{negated}
use Rattle.lib_os.specs.declared.place.Step.TheVariants as step
use Rattle.lib_os.specs.declared.service.Service.TheVariants as service
use Rattle.lib_os.specs.declared.spawn_steps.FinishingStep.{FinishingStep}
use Rattle.lib_os.specs.declared.spawn_steps.FinishingStep.TheVariants as finishing
use Rattle.lib_os.specs.declared.spawn_steps.SpawnStep.{SpawnStep}
use Rattle.lib_os.specs.declared.spawn_steps.SpawnStep.TheVariants as spawn
use Rattle.lib_os.specs.AbstractState.{AbstractState}
use Rattle.lib_os.specs.InOrder.{IsInOrder}
use Rattle.lib_os.specs.LibrarySteps.{NothingRefused}
use Rattle.lib_os.specs.Places.{place_of}
use Rattle.lib_os.specs.Rows.{Names}
use Rattle.lib_os.specs.SpawnedChild.{passing}
use Rattle.lib_os.specs.StandsFor.{StandsFor, top_page}
use Rattle.lib_os.specs.UserCalls.{CallStep, answer_of, giving, system}
use Rattle.lib_os.proofs.Calls.{made_step, refusal_is_seen}
use Rattle.lib_os.proofs.CallersStay.{map_answers}
use Rattle.lib_os.proofs.Serving.{IsServed}
use Rattle.lib_os.proofs.SpawnCopies.{spawn_maps_copies}
use Rattle.lib_os.proofs.SpawnHandsOn.{hander_stands, hander_tables, hands_is, hands_on}
use Rattle.lib_os.proofs.SpawnOwnPages.{spawn_there, spawn_words, spawns_at}
use Rattle.lib_os.proofs.SpawnPasses.{closed_with}
use Rattle.lib_stage.specs.Asks.{performed}
use Rattle.lib_stage.specs.ServiceSteps.{Plan, ServiceHolds, upshot_by}
use Rattle.lib_stage.proofs.Laws.{FollowsBy, KeepsBy, knowingly, law_of_call}
use Rattle.lib_fork.specs.ForkStages.{page_va}
use Rattle.lib_fork.proofs.Mapping.{passed_address}
use Rattle.lib_birth.specs.declared.stage.BirthStage.TheVariants as stage
use Rattle.lib_birth.specs.BirthStages.{births}
use Rattle.lib_birth.specs.FinishingStages.{passed_below}
use Rattle.lib_birth.proofs.BirthFalls.{page_falls}
use Rattle.lib_birth.proofs.PassingSteps.{none_given}
use Rattle.lib_birth.proofs.ReadyingSteps.{lives_answered}

module _ (s : KernelState) (n path argv : ℕ) (live : is_live (slot_at s n) ≡ true) (child page perm : ℕ)
    (stands : place_of (slot_at s n) ≡ spawns_at path argv (spawn.Finishing (finishing.PassingPage child page perm))) where
  abbrev at : FinishingStep
  at = finishing.PassingPage child page perm

  abbrev from : SpawnStep
  from = spawn.Finishing (finishing.PassingPage child page perm)

  abbrev plan : Plan
  plan = births (stage.Finishing (finishing.PassingPage child page perm))

  abbrev asked : CallStep Called
  asked = system s n SYS_PAGE_MAP (0 ∷ page_va page ∷ child ∷ page_va page ∷ perm ∷ [])

  module _ (names : Names) (a : AbstractState) (h : StandsFor names s a) (last : s.last ≡ Some n) (sp : SpacesState) (in_order : IsInOrder (with_spaces s sp))
      (is : inserted s.spaces (slot_at s (child % NENV)).directory page (spawn_there h n path argv from stands).at.2.entry ≡ Some sp) where
    abbrev After : SpawnStep → Type 0
    After to = StandsFor names (with_extra (with_spaces s sp) n (spawn_words to)) a

    lower : page < top_page
    lower = (spawn_there h n path argv from stands).at.1

    at_page : page % NPTENTRIES ≢ 0 → After (spawn.Finishing (finishing.PassingEntry child (page - 1)))
    at_page inside =
        let here : page ≡ page - 1 + 1 = omega (arith, inside) in
        let same : page / NPTENTRIES ≡ (page - 1) / NPTENTRIES = omega (arith, inside) in
        let low = lower in
        hands_on h n path argv child page perm stands in_order is last (spawn.Finishing (finishing.PassingEntry child (page - 1))) refl refl
        (none_given (finishing.PassingEntry child (page - 1)) (λ p. refl)) (λ count. ap (passing count) here) (
          closed_with (spawn_words (spawn.Finishing (finishing.PassingEntry child (page - 1)))) (hander_stands h n path argv child page perm stands in_order is last),
          omega (arith, low),
          subst (λ (r : ℕ). is_some (sp.regions (slot_at s n).directory r) ≡ true) same (hander_tables h n path argv child page perm stands in_order is last),
        )

    at_region : page % NPTENTRIES ≡ 0 → page / NPTENTRIES ≢ 0 → After (spawn.Finishing (finishing.PassingRegion child (page / NPTENTRIES - 1)))
    at_region begins above =
        let here : page ≡ (page / NPTENTRIES - 1 + 1) * NPTENTRIES = omega (arith, begins, above) in
        let low = lower in
        hands_on h n path argv child page perm stands in_order is last (spawn.Finishing (finishing.PassingRegion child (page / NPTENTRIES - 1))) refl refl
        (none_given (finishing.PassingRegion child (page / NPTENTRIES - 1)) (λ p. refl)) (λ count. ap (passing count) here) (
          closed_with (spawn_words (spawn.Finishing (finishing.PassingRegion child (page / NPTENTRIES - 1))))
              (hander_stands h n path argv child page perm stands in_order is last),
          omega (arith, low),
        )

    at_end : page % NPTENTRIES ≡ 0 → page / NPTENTRIES ≡ 0 → After (spawn.Finishing (finishing.ChildRuns child))
    at_end begins least =
        let here : page ≡ 0 = omega (arith, begins, least) in
        hands_on h n path argv child page perm stands in_order is last (spawn.Finishing (finishing.ChildRuns child)) refl refl
        (none_given (finishing.ChildRuns child) (λ p. refl)) (λ count. ap (passing count) here)
        (closed_with (spawn_words (spawn.Finishing (finishing.ChildRuns child))) (hander_stands h n path argv child page perm stands in_order is last))

    handed : After (passed_below child page)
    handed = by_tests (page % NPTENTRIES == 0) (page / NPTENTRIES == 0) refl refl
      where
        by_tests : (first least : Bool) → (page % NPTENTRIES == 0) ≡ first → (page / NPTENTRIES == 0) ≡ least →
            After (if not first then spawn.Finishing (finishing.PassingEntry child (page - 1))
            else if not least then spawn.Finishing (finishing.PassingRegion child (page / NPTENTRIES - 1))
            else spawn.Finishing (finishing.ChildRuns child))
        by_tests false least at some = at_page (eqb-false (page % NPTENTRIES) 0 at)
        by_tests true false at some = at_region (eqb-true (page % NPTENTRIES) 0 at) (eqb-false (page / NPTENTRIES) 0 some)
        by_tests true true at some = at_end (eqb-true (page % NPTENTRIES) 0 at) (eqb-true (page / NPTENTRIES) 0 some)

  keeps : IsInOrder asked.state → KeepsBy s n plan asked
  keeps order a h turn quiet = by_spaces (inserted s.spaces (slot_at s (child % NENV)).directory page it.at.2.entry) refl
    where
      it : IsServed h.0 s a n (service.Spawn path argv) (step.Spawning from)
      it = spawn_there h.1 n path argv from stands

      call_is : asked ≡ made_step s (inserted s.spaces (slot_at s (child % NENV)).directory page it.at.2.entry)
      call_is =
          let address = passed_address page it.at.1 in hands_is h.1 n path argv child page perm stands (page_va page) address.0 address.1

      by_spaces : (o : Option SpacesState) → inserted s.spaces (slot_at s (child % NENV)).directory page it.at.2.entry ≡ o → FollowsBy s n plan a asked
      by_spaces None none =
          let call : asked ≡ giving (with_refusal s) (Answered (negated E_NO_MEM)) = call_is ∙ ap (made_step s) none in
          let told = subst (λ (z : CallStep Called). NothingRefused s (upshot_by plan n z z.gives).state) call quiet in
          absurd (refusal_is_seen s (record { stays = told.stays; could = told.could }))
      by_spaces (Some sp) is =
          let call : asked ≡ giving (with_spaces s sp) (Answered 0) = call_is ∙ ap (made_step s) is in
          subst (λ (z : CallStep Called). IsInOrder z.state → FollowsBy s n plan a z) (sym call)
          (λ in_order. (refl, (h.0, handed h.0 a h.1 turn.last sp in_order is))) order

  pub passing_page_holds : ServiceHolds s n (births (stage.Finishing (finishing.PassingPage child page perm)))
  unfolding performed
  passing_page_holds =
      law_of_call s n plan (service.Spawn path argv) (step.Spawning from)
      (record {
        stands = stands;
        live = live;
        numbered = refl;
        plain = knowingly refl (spawn_maps_copies s n path argv child from stands refl 0 (page_va page) (page_va page) perm) (λ a h. refl);
        goes_on = refl;
        falls = λ called. page_falls path argv child page perm (answer_of called);
        few = omega arith;
      })
      SYS_PAGE_MAP (0 ∷ page_va page ∷ child ∷ page_va page ∷ perm ∷ []) refl refl
      (lives_answered (map_answers s n live 0 (page_va page) child (page_va page) perm)) keeps
