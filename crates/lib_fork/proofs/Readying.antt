-- Fork gives its child the stack of its handler of page faults, and then the handler. Nothing of it is seen: the state stands for the same
-- abstract one as before.
use Rattle.std.proofs.Common.{◌≡◌, ◌⊎◌, inl, inr, ◌%◌, ℕ, true, false, List, [], ◌∷◌, refl, sym, subst}
use Rattle.jos_base.specs.declared.called.Called.{Called}
use Rattle.jos_base.specs.declared.numbers.TheConstants.{NENV, SYS_ENV_SET_PGFAULT_UPCALL, SYS_PAGE_ALLOC}
use Rattle.jos_base.specs.Environments.{is_live}
use Rattle.jos_base.specs.KernelState.{KernelState, slot_at}
use Rattle.jos_base.specs.Words.{page_number}
use Rattle.lib_os.specs.declared.numbers.TheConstants.{PGFAULT_UPCALL, SERVICE_FORK, UXSTACK}
use Rattle.lib_os.specs.declared.place.Place.TheVariants as place
use Rattle.lib_os.specs.declared.place.Step.TheVariants as step
use Rattle.lib_os.specs.declared.progress.Progress.TheVariants as progress
use Rattle.lib_os.specs.declared.service.Service.TheVariants as service
use Rattle.lib_os.specs.InOrder.{IsInOrder}
use Rattle.lib_os.specs.LibrarySteps.{KeepsStanding, NothingRefused, Stays}
use Rattle.lib_os.specs.Places.{place_of}
use Rattle.lib_os.specs.UserCalls.{CallStep, Got, system}
use Rattle.lib_os.proofs.Bearing.{bearer}
use Rattle.lib_os.proofs.Calls.{PageMade, PageRefused, refusal_is_seen}
use Rattle.lib_os.proofs.ChildCalls.{child_page_made_or_refused, child_upcall_is}
use Rattle.lib_os.proofs.ChildReady.{handler_set_stands, stack_made_stands}
use Rattle.lib_os.proofs.Placing.{allocated_made}
use Rattle.lib_stage.specs.declared.ask.Next.TheVariants as next
use Rattle.lib_stage.specs.Asks.{performed}
use Rattle.lib_stage.specs.Nexts.{settled}
use Rattle.lib_stage.specs.ServiceSteps.{Plan, upshot_by}
use Rattle.lib_stage.proofs.Laws.{FailsBy, FollowsBy, KeepsBy, system_gives}
use Rattle.lib_fork.specs.declared.fork.ForkStage.TheVariants as stage
use Rattle.lib_fork.specs.ForkStages.{ask_of, forking, stack_perm}

-- ---- the stack

module _ (s : KernelState) (n id : ℕ) (live : is_live (slot_at s n) ≡ true)
    (stands : place_of (slot_at s n) ≡ place.InService service.Fork (step.ChildStack id)) where
  abbrev stack_plan : Plan
  stack_plan = forking (record { at = stage.ChildStack id })

  abbrev stack_asked : CallStep Called
  stack_asked = system s n SYS_PAGE_ALLOC (id ∷ UXSTACK ∷ stack_perm ∷ 0 ∷ 0 ∷ [])

  stack_keeps : IsInOrder stack_asked.state → KeepsBy s n stack_plan stack_asked
  stack_keeps order a h turn quiet =
      by_call (child_page_made_or_refused h.1 n id (step.ChildStack id) (bearer h.1 n (step.ChildStack id) id stands refl) UXSTACK stack_perm
      (0 ∷ 0 ∷ []) refl refl)
    where
      by_call : PageMade s (id % NENV) UXSTACK stack_perm stack_asked ⊎ PageRefused s (id % NENV) UXSTACK stack_perm stack_asked →
          FollowsBy s n stack_plan a stack_asked
      by_call (inl made) =
          subst (λ (z : CallStep Called). IsInOrder z.state → FollowsBy s n stack_plan a z) (sym made.step)
          (λ in_order. (
            refl,
            (
              h.0,
              stack_made_stands h.1 n id stands
                  (allocated_made s.spaces made.spaces (slot_at s (id % NENV)).directory (page_number UXSTACK) stack_perm made.frame
                  h.1.in_order.frames in_order.frames refl made.is) in_order turn.last,
            ),
          )) order
      by_call (inr none) =
          let told = subst (λ (z : CallStep Called). NothingRefused s (upshot_by stack_plan n z z.gives).state) none.step quiet in
          absurd (refusal_is_seen s (record { stays = told.stays; could = told.could }))

  pub child_stack_keeps : IsInOrder (performed s n (ask_of (stage.ChildStack id))).state →
      KeepsBy s n (forking (record { at = stage.ChildStack id })) (performed s n (ask_of (stage.ChildStack id)))
  unfolding performed
  child_stack_keeps order = stack_keeps order

  pub child_stack_fails : FailsBy s n (forking (record { at = stage.ChildStack id })) (performed s n (ask_of (stage.ChildStack id)))
  child_stack_fails may a h turn = absurd (let contradiction : false ≡ true = may.0 in cc)

-- ---- the handler

module _ (s : KernelState) (n id : ℕ) (live : is_live (slot_at s n) ≡ true)
    (stands : place_of (slot_at s n) ≡ place.InService service.Fork (step.ChildUpcall id)) where
  abbrev args : List ℕ
  args = id ∷ PGFAULT_UPCALL ∷ 0 ∷ 0 ∷ 0 ∷ []

  abbrev asked : CallStep Called
  asked = system s n SYS_ENV_SET_PGFAULT_UPCALL args

  -- the state in which it goes on
  abbrev on : KernelState → KernelState
  on mid = settled SERVICE_FORK (next.GoOn (step.ChildRuns id)) mid n

  upcall_keeps : KeepsStanding progress.Hidden n s (on asked.state) asked.written
  upcall_keeps a h turn quiet =
      subst (λ (z : CallStep Called). Stays (on z.state) a z.written)
      (sym (child_upcall_is h.1 n id (step.ChildUpcall id) (bearer h.1 n (step.ChildUpcall id) id stands refl) PGFAULT_UPCALL (0 ∷ 0 ∷ 0 ∷ [])))
      (refl, (h.0, handler_set_stands h.1 n id stands))

  pub child_upcall_keeps : IsInOrder (performed s n (ask_of (stage.ChildUpcall id))).state →
      KeepsBy s n (forking (record { at = stage.ChildUpcall id })) (performed s n (ask_of (stage.ChildUpcall id)))
  unfolding performed
  child_upcall_keeps order =
      let plan : Plan = forking (record { at = stage.ChildUpcall id }) in
      let gives = system_gives s n SYS_ENV_SET_PGFAULT_UPCALL args in
      subst (λ (g : Got Called). let did = upshot_by plan n asked g in KeepsStanding did.progress n s did.state did.written)
      (sym gives.1) upcall_keeps

  pub child_upcall_fails : FailsBy s n (forking (record { at = stage.ChildUpcall id })) (performed s n (ask_of (stage.ChildUpcall id)))
  child_upcall_fails may a h turn = absurd (let contradiction : false ≡ true = may.0 in cc)
