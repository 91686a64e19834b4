-- The law of spawn: what it is at each of its steps in the abstract system, by the law of the part in which it is.
use Rattle.std.proofs.Common.{◌≡◌, ◌||◌, ℕ, true, refl}
use Rattle.jos_base.specs.Environments.{is_live, is_runnable, is_running}
use Rattle.jos_base.specs.KernelState.{KernelState, slot_at}
use Rattle.lib_os.specs.declared.place.Place.TheVariants as place
use Rattle.lib_os.specs.declared.place.Step.{Step}
use Rattle.lib_os.specs.declared.place.Step.TheVariants as step
use Rattle.lib_os.specs.declared.service.Service.TheVariants as service
use Rattle.lib_os.specs.declared.spawn_steps.SpawnStep.{SpawnStep}
use Rattle.lib_os.specs.declared.spawn_steps.SpawnStep.TheVariants as spawn
use Rattle.lib_os.specs.Places.{place_of}
use Rattle.lib_os.specs.StandsInHandler.{AreSmall}
use Rattle.lib_os.proofs.SpawnOwnPages.{spawns_at}
use Rattle.lib_stage.specs.ServiceSteps.{ServiceHolds, or_nowhere}
use Rattle.lib_given.proofs.GivenLaw.{given_holds}
use Rattle.lib_given.proofs.PathLaw.{path_holds}
use Rattle.lib_image.proofs.OpeningLaw.{opening_holds}
use Rattle.lib_image.proofs.ReadingLaw.{reading_holds}
use Rattle.lib_image.proofs.TestingLaw.{testing_holds}
use Rattle.lib_child.proofs.BearingLaw.{bearing_holds}
use Rattle.lib_birth.proofs.FinishingLaw.{finishing_holds}
use Rattle.lib_birth.proofs.UndoingLaw.{undoing_holds}
use Rattle.lib_spawn.specs.SpawnParts.{spawn_at, spawning}

module _ (s : KernelState) (n path argv : ℕ) (live : is_live (slot_at s n) ≡ true) (small : AreSmall (slot_at s n).registers)
    (awake : (is_runnable (slot_at s n).status || is_running (slot_at s n).status) ≡ true) where
  -- behind its path
  behind_holds : (to : SpawnStep) → place_of (slot_at s n) ≡ spawns_at path argv to → ServiceHolds s n (or_nowhere spawning (spawn_at path argv (step.Spawning to)))
  behind_holds (spawn.Given at) stands = given_holds s n path argv live small at stands
  behind_holds (spawn.Opening at) stands = opening_holds s n path argv live at awake stands
  behind_holds (spawn.Reading wanted at) stands = reading_holds s n path argv live awake wanted at stands
  behind_holds (spawn.Testing at) stands = testing_holds s n path argv live at stands
  behind_holds (spawn.Bearing at) stands = bearing_holds s n path argv live at stands
  behind_holds (spawn.Finishing at) stands = finishing_holds s n path argv live at stands
  behind_holds (spawn.Undoing at) stands = undoing_holds s n path argv live at stands

  pub spawn_holds : (at : Step) → place_of (slot_at s n) ≡ place.InService (service.Spawn path argv) at →
      ServiceHolds s n (or_nowhere spawning (spawn_at path argv at))
  spawn_holds (step.Spawning to) stands = behind_holds to stands
  spawn_holds at stands = path_holds s n path argv live small at refl stands
