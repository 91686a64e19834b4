-- The law of spawn behind the bytes of its child's segments: each of its steps there.
use Rattle.std.proofs.Common.{◌≡◌, ℕ, true, refl}
use Rattle.jos_base.specs.Environments.{is_live}
use Rattle.jos_base.specs.KernelState.{KernelState, slot_at}
use Rattle.lib_os.specs.declared.spawn_steps.FinishingStep.{FinishingStep}
use Rattle.lib_os.specs.declared.spawn_steps.FinishingStep.TheVariants as finishing
use Rattle.lib_os.specs.declared.spawn_steps.SpawnStep.TheVariants as spawn
use Rattle.lib_os.specs.Places.{place_of}
use Rattle.lib_os.proofs.SpawnOwnPages.{spawns_at}
use Rattle.lib_stage.specs.ServiceSteps.{ServiceHolds}
use Rattle.lib_birth.specs.declared.stage.BirthStage.TheVariants as stage
use Rattle.lib_birth.specs.BirthStages.{births}
use Rattle.lib_birth.proofs.GivingStep.{giving_stack_holds}
use Rattle.lib_birth.proofs.HandingSteps.{passing_page_holds}
use Rattle.lib_birth.proofs.PassingSteps.{passing_entry_holds, passing_region_holds}
use Rattle.lib_birth.proofs.ReadyingSteps.{child_stack_holds, child_upcall_holds, dropping_file_holds}
use Rattle.lib_birth.proofs.ReleasingSteps.{releasing_given_holds, releasing_path_holds, releasing_stack_holds}
use Rattle.lib_birth.proofs.RightsLaw.{rights_holds}
use Rattle.lib_birth.proofs.RunsStep.{child_runs_holds}

pub finishing_holds : (s : KernelState) (n path argv : ℕ) → is_live (slot_at s n) ≡ true → (at : FinishingStep) →
    place_of (slot_at s n) ≡ spawns_at path argv (spawn.Finishing at) → ServiceHolds s n (births (stage.Finishing at))
finishing_holds s n path argv live (finishing.RightsKind fd headers child header) stands =
    rights_holds s n path argv live (finishing.RightsKind fd headers child header) refl stands
finishing_holds s n path argv live (finishing.RightsFlags fd headers child header) stands =
    rights_holds s n path argv live (finishing.RightsFlags fd headers child header) refl stands
finishing_holds s n path argv live (finishing.RightsMemory fd headers child header) stands =
    rights_holds s n path argv live (finishing.RightsMemory fd headers child header) refl stands
finishing_holds s n path argv live (finishing.RightsAddress fd headers child header memory) stands =
    rights_holds s n path argv live (finishing.RightsAddress fd headers child header memory) refl stands
finishing_holds s n path argv live (finishing.SharedKind fd headers child header page end other) stands =
    rights_holds s n path argv live (finishing.SharedKind fd headers child header page end other) refl stands
finishing_holds s n path argv live (finishing.SharedFlags fd headers child header page end other) stands =
    rights_holds s n path argv live (finishing.SharedFlags fd headers child header page end other) refl stands
finishing_holds s n path argv live (finishing.SharedMemory fd headers child header page end other) stands =
    rights_holds s n path argv live (finishing.SharedMemory fd headers child header page end other) refl stands
finishing_holds s n path argv live (finishing.SharedAddress fd headers child header page end other other_memory) stands =
    rights_holds s n path argv live (finishing.SharedAddress fd headers child header page end other other_memory) refl stands
finishing_holds s n path argv live (finishing.RightsPage fd headers child header page end) stands =
    rights_holds s n path argv live (finishing.RightsPage fd headers child header page end) refl stands
finishing_holds s n path argv live (finishing.ChildStack fd child) stands = child_stack_holds s n path argv live fd child stands
finishing_holds s n path argv live (finishing.ChildUpcall fd child) stands = child_upcall_holds s n path argv live fd child stands
finishing_holds s n path argv live (finishing.GivingStack fd child) stands = giving_stack_holds s n path argv live fd child stands
finishing_holds s n path argv live (finishing.ReleasingStack fd child) stands = releasing_stack_holds s n path argv live fd child stands
finishing_holds s n path argv live (finishing.ReleasingGiven fd child) stands = releasing_given_holds s n path argv live fd child stands
finishing_holds s n path argv live (finishing.ReleasingPath fd child) stands = releasing_path_holds s n path argv live fd child stands
finishing_holds s n path argv live (finishing.DroppingFile fd child) stands = dropping_file_holds s n path argv live fd child stands
finishing_holds s n path argv live (finishing.PassingRegion child region) stands = passing_region_holds s n path argv child region stands live
finishing_holds s n path argv live (finishing.PassingEntry child page) stands = passing_entry_holds s n path argv child page stands live
finishing_holds s n path argv live (finishing.PassingPage child page perm) stands = passing_page_holds s n path argv live child page perm stands
finishing_holds s n path argv live (finishing.ChildRuns child) stands = child_runs_holds s n path argv live child stands
