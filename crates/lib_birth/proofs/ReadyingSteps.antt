-- The law of spawn, whose child has its segments, as it gives the child the stack of its handler of page faults, and then the handler; and, when the child has its
-- own stack, as it drops the descriptor of its file.
use Rattle.std.proofs.Common.{◌≡◌, ◌⊎◌, inl, inr, ◌%◌, ◌==◌, ◌&&◌, ℕ, Bool, true, [], ◌∷◌, refl, sym, ap, subst, arith}
use Rattle.std.proofs.Math.Bool.{or-true}
use Rattle.jos_base.specs.declared.called.Called.{Called}
use Rattle.jos_base.specs.declared.numbers.TheConstants.{NENV, SYS_ENV_SET_PGFAULT_UPCALL, SYS_PAGE_ALLOC, SYS_PAGE_UNMAP}
use Rattle.jos_base.specs.declared.registers.Regs.{Regs}
use Rattle.jos_base.specs.Environments.{is_live}
use Rattle.jos_base.specs.KernelState.{KernelState, slot_at}
use Rattle.jos_base.specs.Words.{page_number}
use Rattle.lib_os.specs.declared.numbers.TheConstants.{PGFAULT_UPCALL, UXSTACK}
use Rattle.lib_os.specs.declared.place.Step.TheVariants as step
use Rattle.lib_os.specs.declared.service.Service.TheVariants as service
use Rattle.lib_os.specs.declared.spawn_steps.FinishingStep.TheVariants as finishing
use Rattle.lib_os.specs.declared.spawn_steps.SpawnStep.TheVariants as spawn
use Rattle.lib_os.specs.InOrder.{IsInOrder}
use Rattle.lib_os.specs.LibrarySteps.{NothingRefused}
use Rattle.lib_os.specs.Places.{place_of}
use Rattle.lib_os.specs.StandsFor.{borne_in}
use Rattle.lib_os.specs.UserCalls.{CallStep, answer_of, system}
use Rattle.lib_os.proofs.BorneCalls.{borne_page_made_or_refused, borne_upcall_is}
use Rattle.lib_os.proofs.Calls.{PageMade, PageRefused, refusal_is_seen}
use Rattle.lib_os.proofs.CallersStay.{alloc_answers, upcall_answers}
use Rattle.lib_os.proofs.DescriptorLooks.{descriptor_va}
use Rattle.lib_os.proofs.DescriptorsStand.{drop_is, drop_lives}
use Rattle.lib_os.proofs.PageTaken.{working_perm}
use Rattle.lib_os.proofs.Placing.{allocated_made}
use Rattle.lib_os.proofs.SpawnCloses.{dropping_keeps}
use Rattle.lib_os.proofs.SpawnOwnPages.{spawn_there, spawns_at}
use Rattle.lib_os.proofs.SpawnReadies.{handler_given_stands, handlers_stack_stands}
use Rattle.lib_os.proofs.Trying.{IsAnswered, LivesOn}
use Rattle.lib_stage.specs.ServiceSteps.{Plan, ServiceHolds, upshot_by}
use Rattle.lib_stage.proofs.Laws.{FollowsBy, KeepsBy, law_of_call, plainly}
use Rattle.lib_birth.specs.declared.stage.BirthStage.TheVariants as stage
use Rattle.lib_birth.specs.BirthStages.{births}
use Rattle.lib_birth.proofs.BirthFalls.{stack_falls, upcall_falls}

-- whoever is answered lives on
pub lives_answered : {n : ℕ} {call : CallStep Called} {regs : Regs} → IsAnswered call n regs → LivesOn call n regs
lives_answered it = record { live = it.live; registers = it.registers; written = it.written }

module _ (s : KernelState) (n path argv : ℕ) (live : is_live (slot_at s n) ≡ true) (fd child : ℕ) where
  -- ---- the stack of the handler

  module _ (stands : place_of (slot_at s n) ≡ spawns_at path argv (spawn.Finishing (finishing.ChildStack fd child))) where
    abbrev stack_plan : Plan
    stack_plan = births (stage.Finishing (finishing.ChildStack fd child))

    abbrev stack_asked : CallStep Called
    stack_asked = system s n SYS_PAGE_ALLOC (child ∷ UXSTACK ∷ working_perm ∷ 0 ∷ 0 ∷ [])

    stack_keeps : IsInOrder stack_asked.state → KeepsBy s n stack_plan stack_asked
    stack_keeps order a h turn quiet =
        let it = spawn_there h.1 n path argv (spawn.Finishing (finishing.ChildStack fd child)) stands in
        by_call (borne_page_made_or_refused h.1 n child it.b it.is (ap borne_in stands) UXSTACK working_perm (0 ∷ 0 ∷ []) refl refl)
      where
        by_call : PageMade s (child % NENV) UXSTACK working_perm stack_asked ⊎ PageRefused s (child % NENV) UXSTACK working_perm stack_asked →
            FollowsBy s n stack_plan a stack_asked
        by_call (inl made) =
            subst (λ (z : CallStep Called). IsInOrder z.state → FollowsBy s n stack_plan a z) (sym made.step)
            (λ in_order. (
              refl,
              (
                h.0,
                handlers_stack_stands h.1 n path argv fd child stands
                    (allocated_made s.spaces made.spaces (slot_at s (child % NENV)).directory (page_number UXSTACK) working_perm made.frame
                    h.1.in_order.frames in_order.frames refl made.is) in_order turn.last,
              ),
            )) order
        by_call (inr none) =
            let told = subst (λ (z : CallStep Called). NothingRefused s (upshot_by stack_plan n z z.gives).state) none.step quiet in
            absurd (refusal_is_seen s (record { stays = told.stays; could = told.could }))

    pub child_stack_holds : ServiceHolds s n (births (stage.Finishing (finishing.ChildStack fd child)))
    child_stack_holds =
        law_of_call s n stack_plan (service.Spawn path argv) (step.Spawning (spawn.Finishing (finishing.ChildStack fd child)))
        (record {
          stands = stands;
          live = live;
          numbered = refl;
          plain = plainly (ap (λ (c : Bool). c && true) (or-true (child == 0)));
          goes_on = refl;
          falls = λ called. stack_falls path argv fd child (answer_of called);
          few = omega arith;
        })
        SYS_PAGE_ALLOC (child ∷ UXSTACK ∷ working_perm ∷ 0 ∷ 0 ∷ []) refl refl
        (lives_answered (alloc_answers s n live child UXSTACK working_perm 0 0)) stack_keeps

  -- ---- the handler

  module _ (stands : place_of (slot_at s n) ≡ spawns_at path argv (spawn.Finishing (finishing.ChildUpcall fd child))) where
    abbrev upcall_plan : Plan
    upcall_plan = births (stage.Finishing (finishing.ChildUpcall fd child))

    abbrev upcall_asked : CallStep Called
    upcall_asked = system s n SYS_ENV_SET_PGFAULT_UPCALL (child ∷ PGFAULT_UPCALL ∷ 0 ∷ 0 ∷ 0 ∷ [])

    upcall_keeps : IsInOrder upcall_asked.state → KeepsBy s n upcall_plan upcall_asked
    upcall_keeps order a h turn quiet =
        let it = spawn_there h.1 n path argv (spawn.Finishing (finishing.ChildUpcall fd child)) stands in
        subst (λ (z : CallStep Called). FollowsBy s n upcall_plan a z)
        (sym (borne_upcall_is h.1 n child it.b it.is (ap borne_in stands) PGFAULT_UPCALL (0 ∷ 0 ∷ 0 ∷ [])))
        (refl, (h.0, handler_given_stands h.1 n path argv fd child stands))

    pub child_upcall_holds : ServiceHolds s n (births (stage.Finishing (finishing.ChildUpcall fd child)))
    child_upcall_holds =
        law_of_call s n upcall_plan (service.Spawn path argv) (step.Spawning (spawn.Finishing (finishing.ChildUpcall fd child)))
        (record {
          stands = stands;
          live = live;
          numbered = refl;
          plain = plainly refl;
          goes_on = refl;
          falls = λ called. upcall_falls path argv fd child (answer_of called);
          few = omega arith;
        })
        SYS_ENV_SET_PGFAULT_UPCALL (child ∷ PGFAULT_UPCALL ∷ 0 ∷ 0 ∷ 0 ∷ []) refl refl
        (lives_answered (upcall_answers s n live child PGFAULT_UPCALL 0 0 0)) upcall_keeps

  -- ---- the descriptor is dropped

  module _ (stands : place_of (slot_at s n) ≡ spawns_at path argv (spawn.Finishing (finishing.DroppingFile fd child))) where
    abbrev file_plan : Plan
    file_plan = births (stage.Finishing (finishing.DroppingFile fd child))

    pub dropping_file_holds : ServiceHolds s n (births (stage.Finishing (finishing.DroppingFile fd child)))
    dropping_file_holds =
        law_of_call s n file_plan (service.Spawn path argv) (step.Spawning (spawn.Finishing (finishing.DroppingFile fd child)))
        (record {
          stands = stands;
          live = live;
          numbered = refl;
          plain = plainly refl;
          goes_on = refl;
          falls = λ called. tt;
          few = omega arith;
        })
        SYS_PAGE_UNMAP (0 ∷ descriptor_va fd ∷ 0 ∷ 0 ∷ 0 ∷ []) refl refl (drop_lives s n fd live)
        (subst (λ (z : CallStep Called). IsInOrder z.state → KeepsBy s n file_plan z) (sym (drop_is s n fd live))
        (λ order. dropping_keeps s n path argv fd child stands order))
