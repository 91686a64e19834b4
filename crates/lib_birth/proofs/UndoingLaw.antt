-- The law of spawn where it is refused: each of its steps there.
use Rattle.std.proofs.Common.{◌≡◌, ℕ, true}
use Rattle.jos_base.specs.Environments.{is_live}
use Rattle.jos_base.specs.KernelState.{KernelState, slot_at}
use Rattle.lib_os.specs.declared.spawn_steps.SpawnStep.TheVariants as spawn
use Rattle.lib_os.specs.declared.spawn_steps.UndoingStep.{UndoingStep}
use Rattle.lib_os.specs.declared.spawn_steps.UndoingStep.TheVariants as undoing
use Rattle.lib_os.specs.Places.{place_of}
use Rattle.lib_os.proofs.SpawnOwnPages.{spawns_at}
use Rattle.lib_stage.specs.ServiceSteps.{ServiceHolds}
use Rattle.lib_birth.specs.declared.stage.BirthStage.TheVariants as stage
use Rattle.lib_birth.specs.BirthStages.{births}
use Rattle.lib_birth.proofs.DroppingSteps.{closing_file_holds, destroying_child_holds}
use Rattle.lib_birth.proofs.UndoingSteps.{undoing_given_holds, undoing_path_holds, undoing_stack_holds}

pub undoing_holds : (s : KernelState) (n path argv : ℕ) → is_live (slot_at s n) ≡ true → (at : UndoingStep) →
    place_of (slot_at s n) ≡ spawns_at path argv (spawn.Undoing at) → ServiceHolds s n (births (stage.Undoing at))
undoing_holds s n path argv live (undoing.DestroyingChild fd child error) stands = destroying_child_holds s n path argv live fd child error stands
undoing_holds s n path argv live (undoing.ClosingFile fd error) stands = closing_file_holds s n path argv live fd error stands
undoing_holds s n path argv live (undoing.UndoingStack error) stands = undoing_stack_holds s n path argv live error stands
undoing_holds s n path argv live (undoing.UndoingGiven error) stands = undoing_given_holds s n path argv live error stands
undoing_holds s n path argv live (undoing.UndoingPath error) stands = undoing_path_holds s n path argv live error stands
