-- Fork maps a page that the child has been given onto itself, as one that is copied when it is written, and goes on below it. Nothing of it
-- is seen: the state stands for the same abstract one as before.
use Rattle.std.proofs.Common.{◌≡◌, ℕ, true, false, List, [], ◌∷◌, refl, sym, subst}
use Rattle.jos_base.specs.declared.called.Called.{Called}
use Rattle.jos_base.specs.declared.numbers.TheConstants.{SYS_PAGE_MAP}
use Rattle.jos_base.specs.Environments.{is_live}
use Rattle.jos_base.specs.KernelState.{KernelState, slot_at}
use Rattle.lib_os.specs.declared.numbers.TheConstants.{SERVICE_FORK}
use Rattle.lib_os.specs.declared.place.Place.TheVariants as place
use Rattle.lib_os.specs.declared.place.Step.TheVariants as step
use Rattle.lib_os.specs.declared.progress.Progress.TheVariants as progress
use Rattle.lib_os.specs.declared.service.Service.TheVariants as service
use Rattle.lib_os.specs.InOrder.{IsInOrder}
use Rattle.lib_os.specs.LibrarySteps.{KeepsStanding, Stays, TakesAtMost, TakesByPlace}
use Rattle.lib_os.specs.Places.{place_of}
use Rattle.lib_os.specs.Rows.{cow_perm}
use Rattle.lib_os.specs.UserCalls.{CallStep, Got, system}
use Rattle.lib_os.proofs.Placing.{inserted_given}
use Rattle.lib_os.proofs.Remapped.{maps_onto, remapped_stands}
use Rattle.lib_stage.specs.declared.ask.Next.TheVariants as next
use Rattle.lib_stage.specs.Asks.{performed}
use Rattle.lib_stage.specs.Nexts.{settled}
use Rattle.lib_stage.specs.ServiceSteps.{Plan, upshot_by}
use Rattle.lib_stage.proofs.FramesTaken.{takes_at}
use Rattle.lib_stage.proofs.Laws.{FailsBy, KeepsBy, system_gives}
use Rattle.lib_fork.specs.declared.fork.ForkStage.TheVariants as stage
use Rattle.lib_fork.specs.ForkStages.{ask_of, below, forking, page_va}

-- where the call stands for nothing it is not known what it comes to, but that fork goes on
module _ (s : KernelState) (n id page : ℕ) (live : is_live (slot_at s n) ≡ true)
    (stands : place_of (slot_at s n) ≡ place.InService service.Fork (step.Remap id page)) where
  abbrev args : List ℕ
  args = 0 ∷ page_va page ∷ 0 ∷ page_va page ∷ cow_perm ∷ []

  abbrev asked : CallStep Called
  asked = system s n SYS_PAGE_MAP args

  -- the state in which it goes on
  abbrev on : KernelState → KernelState
  on mid = settled SERVICE_FORK (next.GoOn (below id page)) mid n

  onto_keeps : IsInOrder asked.state → KeepsStanding progress.Hidden n s (on asked.state) asked.written
  onto_keeps order a h turn quiet =
      let call = maps_onto h.1 n id page stands in
      let d : ℕ = (slot_at s n).directory in
      subst (λ (z : CallStep Called). IsInOrder z.state → Stays (on z.state) a z.written) (sym call.step)
      (λ in_order. (
        refl,
        (
          h.0,
          remapped_stands h.1 n id page stands call.old call.stands
              (inserted_given s.spaces call.spaces d page (record { frame = call.old.frame; perm = cow_perm }) d page call.entry
              h.1.in_order.frames in_order.frames refl call.there call.frame call.is) in_order turn.last,
        ),
      )) order

  pub remap_keeps : IsInOrder (performed s n (ask_of (stage.Remap id page))).state →
      KeepsBy s n (forking (record { at = stage.Remap id page })) (performed s n (ask_of (stage.Remap id page)))
  unfolding performed
  remap_keeps order =
      let plan : Plan = forking (record { at = stage.Remap id page }) in
      let gives = system_gives s n SYS_PAGE_MAP args in
      subst (λ (g : Got Called). let did = upshot_by plan n asked g in KeepsStanding did.progress n s did.state did.written)
      (sym gives.1) (onto_keeps order)

  pub remap_fails : FailsBy s n (forking (record { at = stage.Remap id page })) (performed s n (ask_of (stage.Remap id page)))
  remap_fails may a h turn = absurd (let contradiction : false ≡ true = may.0 in cc)

  -- the table is there, so that no frame is taken
  pub remap_takes :
      let step = performed s n (ask_of (stage.Remap id page)) in
      TakesByPlace n s (upshot_by (forking (record { at = stage.Remap id page })) n step step.gives).state
  unfolding performed
  remap_takes =
      takes_at s n (forking (record { at = stage.Remap id page })) asked (place.InService service.Fork (step.Remap id page)) stands
      (λ a h. let call = maps_onto h.1 n id page stands in
      subst (λ (z : CallStep Called). TakesAtMost 0 s.spaces z.state.spaces) (sym call.step) call.takes)
