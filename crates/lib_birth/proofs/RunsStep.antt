-- The law of spawn's last step, which is seen: its child may run, and it answers the child's id.
use Rattle.std.proofs.Common.{◌≡◌, ◌≢◌, ◌∙◌, ◌%◌, ℕ, true, false, List, [], ◌∷◌, Ok, refl, sym, ap, subst, arith}
use Rattle.jos_base.specs.declared.called.Called.{Called}
use Rattle.jos_base.specs.declared.called.Called.TheVariants.{Answered}
use Rattle.jos_base.specs.declared.environment.Status.{Status}
use Rattle.jos_base.specs.declared.environment.Status.TheVariants.{Runnable}
use Rattle.jos_base.specs.declared.numbers.TheConstants.{ENV_RUNNABLE, NENV, SYS_ENV_SET_STATUS}
use Rattle.jos_base.specs.Environments.{Slot, is_live, is_runnable, no_extra}
use Rattle.jos_base.specs.KernelState.{KernelState, slot_at, with_status}
use Rattle.lib_os.specs.declared.place.Step.TheVariants as step
use Rattle.lib_os.specs.declared.progress.Progress.TheVariants as progress
use Rattle.lib_os.specs.declared.service.Service.TheVariants as service
use Rattle.lib_os.specs.declared.spawn_steps.FinishingStep.TheVariants as finishing
use Rattle.lib_os.specs.declared.spawn_steps.SpawnStep.{SpawnStep}
use Rattle.lib_os.specs.declared.spawn_steps.SpawnStep.TheVariants as spawn
use Rattle.lib_os.specs.AbstractSpawn.{child_born}
use Rattle.lib_os.specs.AbstractState.{AbstractState}
use Rattle.lib_os.specs.LibrarySteps.{Leaves, Stands, is_pausing, service_answered}
use Rattle.lib_os.specs.Places.{place_of}
use Rattle.lib_os.specs.StandsFor.{borne_in}
use Rattle.lib_os.specs.UserCalls.{CallStep, Got, giving, system}
use Rattle.lib_os.proofs.BearsOn.{borne_apart}
use Rattle.lib_os.proofs.BorneCalls.{borne_runs_is}
use Rattle.lib_os.proofs.CallersStay.{runs_answers}
use Rattle.lib_os.proofs.GoingOn.{gives_nothing_up}
use Rattle.lib_os.proofs.Leaving.{running_calm, system_left}
use Rattle.lib_os.proofs.NumbersKept.{copies_kept, numbers_kept, places_kept, working_kept}
use Rattle.lib_os.proofs.OthersCopies.{plain_wait}
use Rattle.lib_os.proofs.OthersKept.{own_stay, system_stay}
use Rattle.lib_os.proofs.ServerLeft.{own_server, system_server}
use Rattle.lib_os.proofs.Serving.{printed_nothing}
use Rattle.lib_os.proofs.Slots.{slot_kept, slot_put}
use Rattle.lib_os.proofs.SpawnBirths.{birth_stands, birth_step}
use Rattle.lib_os.proofs.SpawnOwnPages.{spawn_there, spawns_at}
use Rattle.lib_os.proofs.UsesCalled.{system_found}
use Rattle.lib_stage.specs.Asks.{performed}
use Rattle.lib_stage.specs.ServiceSteps.{Plan, ServiceHolds, upshot_by}
use Rattle.lib_stage.proofs.FramesTaken.{asks_few}
use Rattle.lib_stage.proofs.Laws.{FollowsBy, GoesOn as LivesBy, KeepsBy, falling_lowers, giving_goes, system_gives, system_never}
use Rattle.lib_birth.specs.declared.stage.BirthStage.TheVariants as stage
use Rattle.lib_birth.specs.BirthStages.{births}
use Rattle.lib_birth.proofs.ReadyingSteps.{lives_answered}

module _ (s : KernelState) (n path argv : ℕ) (live : is_live (slot_at s n) ≡ true) (child : ℕ)
    (stands : place_of (slot_at s n) ≡ spawns_at path argv (spawn.Finishing (finishing.ChildRuns child))) where
  abbrev from : SpawnStep
  from = spawn.Finishing (finishing.ChildRuns child)

  abbrev plan : Plan
  plan = births (stage.Finishing (finishing.ChildRuns child))

  abbrev args : List ℕ
  args = child ∷ ENV_RUNNABLE ∷ 0 ∷ 0 ∷ 0 ∷ []

  abbrev call : CallStep Called
  call = system s n SYS_ENV_SET_STATUS args

  abbrev after : KernelState → KernelState
  after t = service_answered t n child

  -- what the call comes to, wherever the state stands for an abstract one
  runs_is : (a : AbstractState) → Stands s a → call ≡ giving (with_status s (child % NENV) Runnable) (Answered 0)
  runs_is a h =
      let it = spawn_there h.1 n path argv from stands in
      borne_runs_is h.1 n child it.b it.is (ap borne_in stands) (0 ∷ 0 ∷ 0 ∷ [])

  apart : (a : AbstractState) → Stands s a → child % NENV ≢ n
  apart a h = let it = spawn_there h.1 n path argv from stands in borne_apart h.1 n child it.b it.is (ap borne_in stands)

  goes : LivesBy s n plan call
  goes = giving_goes s n plan call (lives_answered (runs_answers s n live child 0 0 0))

  keeps : KeepsBy s n plan call
  keeps a h turn quiet =
      let it = spawn_there h.1 n path argv from stands in
      subst (λ (z : CallStep Called). FollowsBy s n plan a z) (sym (runs_is a h)) (
        child_born a n it.b it.at.found.is_in.regs it.at.image (child % NENV) it.at.pieces,
        birth_step h.1 n path argv child stands,
        printed_nothing a,
        (h.0, birth_stands h.1 n path argv child stands),
      )

  -- ---- its parent is not woken by it, since it is another

  parent_still : (a : AbstractState) → Stands s a → (slot_at (after call.state) n).status ≡ (slot_at s n).status
  parent_still a h =
      let m = child % NENV in
      let kid : Slot = record (slot_at s m) { status = Runnable } in
      let t : KernelState = with_status s m Runnable in
      (λ i. (slot_at (after (runs_is a h i).state) n).status)
      ∙ ap (λ (x : Slot). x.status)
      (slot_put t n (record (slot_at t n) { registers = record (slot_at t n).registers { eax = child }; extra = no_extra }))
      ∙ ap (λ (x : Slot). x.status) (slot_kept s m kid n (λ same. apart a h (sym same)))

  leaves_so : Leaves (Ok progress.Finished) n s (after call.state)
  leaves_so =
      let rest = (system_left s n SYS_ENV_SET_STATUS args).rest in
      let t : KernelState = call.state in
      let others = own_stay s n t (system_stay s n SYS_ENV_SET_STATUS args refl)
      (record (slot_at t n) { registers = record (slot_at t n).registers { eax = child }; extra = no_extra }) in
      record {
        rest = record { last = rest.last; turns = rest.turns; frames = rest.frames; refused = rest.refused; told = rest.told };
        turn = λ a h running silent ready.
            let was : is_runnable (slot_at s n).status ≡ true = ap (λ (x : Status). is_runnable x) (sym (parent_still a h)) ∙ ready in
            absurd (let contradiction : false ≡ true = sym (running_calm (slot_at s n).status running) ∙ was in cc);
        uses = λ in_order lives each. system_found s n SYS_ENV_SET_STATUS args in_order lives each;
        places = places_kept s (after t) n (λ before then_so lives b stood. others);
        numbers = numbers_kept s (after t) n (λ before then_so lives b stood. others)
            (copies_kept s (after t) n (plain_wait s n SYS_ENV_SET_STATUS args refl));
        working = working_kept s (after t) n (λ before then_so lives b stood. others) (copies_kept s (after t) n (plain_wait s n SYS_ENV_SET_STATUS args refl));
        server = own_server s n t (record (slot_at t n) { registers = record (slot_at t n).registers { eax = child }; extra = no_extra }) refl refl
            (system_server s n SYS_ENV_SET_STATUS args refl (λ a h. refl));
      }

  pub child_runs_holds : ServiceHolds s n (births (stage.Finishing (finishing.ChildRuns child)))
  unfolding performed
  child_runs_holds =
      let gives = system_gives s n SYS_ENV_SET_STATUS args in
      let did = upshot_by plan n call call.gives in
      record {
        lives = goes.live;
        keeps = λ order. keeps;
        fails = λ may a h turn. absurd (let contradiction : false ≡ true = may.0 in cc);
        leaves = subst (λ (g : Got Called). let did = upshot_by plan n call g in Leaves (Ok did.progress) n s did.state) (sym gives.1) leaves_so;
        lowers = falling_lowers s n plan call (service.Spawn path argv) (step.Spawning from) stands refl goes (system_never s n SYS_ENV_SET_STATUS args) (λ called. tt);
        gives_up = gives_nothing_up (Ok did.progress) (slot_at s n) (slot_at did.state n) (ap is_pausing stands);
        takes = asks_few s n plan (spawns_at path argv (spawn.Finishing (finishing.ChildRuns child))) stands (omega arith);
      }
