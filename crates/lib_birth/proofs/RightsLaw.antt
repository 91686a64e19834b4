-- The law of spawn as it sets the rights of its child's pages.
use Rattle.std.proofs.Common.{◌≡◌, ℕ, Bool, true, false}
use Rattle.jos_base.specs.Environments.{is_live}
use Rattle.jos_base.specs.KernelState.{KernelState, slot_at}
use Rattle.lib_os.specs.declared.spawn_steps.FinishingStep.{FinishingStep}
use Rattle.lib_os.specs.declared.spawn_steps.FinishingStep.TheVariants as finishing
use Rattle.lib_os.specs.declared.spawn_steps.SpawnStep.TheVariants as spawn
use Rattle.lib_os.specs.Places.{place_of}
use Rattle.lib_os.proofs.SpawnOwnPages.{spawns_at}
use Rattle.lib_stage.specs.ServiceSteps.{ServiceHolds}
use Rattle.lib_birth.specs.declared.stage.BirthStage.TheVariants as stage
use Rattle.lib_birth.specs.BirthStages.{births}
use Rattle.lib_birth.proofs.RightsLoads.{rights_address_holds, rights_flags_holds, rights_kind_holds, rights_memory_holds}
use Rattle.lib_birth.proofs.RightsPages.{rights_page_holds}
use Rattle.lib_birth.proofs.SharedLoads.{shared_address_holds, shared_flags_holds, shared_kind_holds, shared_memory_holds}

-- one of the steps at which rights are set
abbrev pub is_rights : FinishingStep → Bool
is_rights (finishing.RightsKind fd headers child header) = true
is_rights (finishing.RightsFlags fd headers child header) = true
is_rights (finishing.RightsMemory fd headers child header) = true
is_rights (finishing.RightsAddress fd headers child header memory) = true
is_rights (finishing.SharedKind fd headers child header page end other) = true
is_rights (finishing.SharedFlags fd headers child header page end other) = true
is_rights (finishing.SharedMemory fd headers child header page end other) = true
is_rights (finishing.SharedAddress fd headers child header page end other other_memory) = true
is_rights (finishing.RightsPage fd headers child header page end) = true
is_rights _ = false

module _ (s : KernelState) (n path argv : ℕ) (live : is_live (slot_at s n) ≡ true) where
  pub rights_holds : (at : FinishingStep) → is_rights at ≡ true → place_of (slot_at s n) ≡ spawns_at path argv (spawn.Finishing at) →
      ServiceHolds s n (births (stage.Finishing at))
  rights_holds (finishing.RightsKind fd headers child header) is stands = rights_kind_holds s n path argv live fd headers child header stands
  rights_holds (finishing.RightsFlags fd headers child header) is stands = rights_flags_holds s n path argv live fd headers child header stands
  rights_holds (finishing.RightsMemory fd headers child header) is stands = rights_memory_holds s n path argv live fd headers child header stands
  rights_holds (finishing.RightsAddress fd headers child header memory) is stands =
      rights_address_holds s n path argv live fd headers child header memory stands
  rights_holds (finishing.SharedKind fd headers child header page end other) is stands =
      shared_kind_holds s n path argv live fd headers child header page end other stands
  rights_holds (finishing.SharedFlags fd headers child header page end other) is stands =
      shared_flags_holds s n path argv live fd headers child header page end other stands
  rights_holds (finishing.SharedMemory fd headers child header page end other) is stands =
      shared_memory_holds s n path argv live fd headers child header page end other stands
  rights_holds (finishing.SharedAddress fd headers child header page end other other_memory) is stands =
      shared_address_holds s n path argv live fd headers child header page end other other_memory stands
  rights_holds (finishing.RightsPage fd headers child header page end) is stands =
      rights_page_holds s n path argv live fd headers child header page end stands
  rights_holds _ is stands = absurd (let contradiction : false ≡ true = is in cc)
