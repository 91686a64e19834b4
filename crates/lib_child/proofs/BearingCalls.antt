-- The law of spawn as it makes a system call for its child: the environment lives on, and goes on lower.
use Rattle.std.proofs.Common.{◌≡◌, ◌≢◌, ◌∙◌, ◌≤◌, ◌&&◌, ◌++◌, ℕ, List, true, false, refl, sym, if◌then◌else◌}
use Rattle.jos_base.specs.declared.called.Called.{Called}
use Rattle.jos_base.specs.Environments.{is_live}
use Rattle.jos_base.specs.KernelState.{KernelState, slot_at}
use Rattle.jos_base.specs.SystemCalls.{may_print}
use Rattle.lib_os.specs.declared.place.Place.TheVariants as place
use Rattle.lib_os.specs.declared.place.Step.TheVariants as step
use Rattle.lib_os.specs.declared.service.Service.TheVariants as service
use Rattle.lib_os.specs.declared.spawn_steps.BearingStep.{BearingStep}
use Rattle.lib_os.specs.declared.spawn_steps.SpawnStep.TheVariants as spawn
use Rattle.lib_os.specs.InOrder.{IsInOrder}
use Rattle.lib_os.specs.LibrarySteps.{frames_at}
use Rattle.lib_os.specs.Places.{place_of}
use Rattle.lib_os.specs.UserCalls.{answer_of, got, system}
use Rattle.lib_os.proofs.SpawnOwnPages.{spawns_at}
use Rattle.lib_os.proofs.Trying.{IsAnswered}
use Rattle.lib_stage.specs.declared.ask.Ask.TheVariants as ask
use Rattle.lib_stage.specs.Asks.{frames_of, performed}
use Rattle.lib_stage.specs.ServiceSteps.{Plan, ServiceHolds}
use Rattle.lib_stage.proofs.Laws.{FallsOrAsks, GoesOn, IsPlain, KeepsBy, asking_lowers, law_with, system_never}
use Rattle.lib_file.proofs.Finds.{staged}
use Rattle.lib_child.specs.BearingStages.{next_of}
use Rattle.lib_child.proofs.BearingFalls.{bearing_known}

module _ (s : KernelState) (n path argv : ℕ) (live : is_live (slot_at s n) ≡ true) (at : BearingStep)
    (stands : place_of (slot_at s n) ≡ spawns_at path argv (spawn.Bearing at)) (number : ℕ) (args : List ℕ)
    (plain : IsPlain s n (ask.System number args)) (few : frames_of (ask.System number args) ≤ frames_at (spawns_at path argv (spawn.Bearing at)))
    (silent : may_print number ≡ false) where
  abbrev pub calling : Plan
  calling = staged (service.Spawn path argv) (ask.System number args) (next_of at)

  goes : IsAnswered (system s n number args) n (slot_at s n).registers → GoesOn s n calling (system s n number args)
  goes it = record { live = λ called is stays. it.live; registers = λ called is stays. it.registers }

  known : (called : Called) → (system s n number args).gives ≡ got called →
      FallsOrAsks s n (service.Spawn path argv) (step.Spawning (spawn.Bearing at)) (next_of at (answer_of called))
  known called given = bearing_known s n path argv at stands (answer_of called)

  pub call_holds : IsAnswered (system s n number args) n (slot_at s n).registers →
      (IsInOrder (system s n number args).state → KeepsBy s n calling (system s n number args)) → ServiceHolds s n calling
  unfolding performed
  call_holds it keeps =
      law_with s n calling (service.Spawn path argv) (step.Spawning (spawn.Bearing at))
      (record { stands = stands; plain = plain; goes_on = refl; few = few }) (goes it).live keeps
      (λ may a h turn. absurd (let contradiction : true ≡ false = sym may.0 ∙ silent in cc))
      (asking_lowers s n calling (system s n number args) (service.Spawn path argv) (step.Spawning (spawn.Bearing at)) stands refl (goes it)
      (system_never s n number args) known)
