-- The law of spawn with what the program gives: what it is at each of its steps in the abstract system.
use Rattle.std.proofs.Common.{◌≡◌, ℕ, true}
use Rattle.jos_base.specs.Environments.{is_live}
use Rattle.jos_base.specs.KernelState.{KernelState, slot_at}
use Rattle.lib_os.specs.declared.spawn_steps.GivenStep.{GivenStep}
use Rattle.lib_os.specs.declared.spawn_steps.GivenStep.TheVariants as given
use Rattle.lib_os.specs.declared.spawn_steps.SpawnStep.TheVariants as spawn
use Rattle.lib_os.specs.Places.{place_of}
use Rattle.lib_os.specs.StandsInHandler.{AreSmall}
use Rattle.lib_os.proofs.SpawnOwnPages.{spawns_at}
use Rattle.lib_stage.specs.ServiceSteps.{ServiceHolds}
use Rattle.lib_given.specs.GivenPlan.{giving}
use Rattle.lib_given.proofs.GivenFaults.{address_faulting_holds, string_faulting_holds}
use Rattle.lib_given.proofs.GivenLoads.{address_loading_holds}
use Rattle.lib_given.proofs.GivenSteps.{address_entry_holds, address_keeping_holds, address_region_holds, string_address_holds, string_entry_holds}
use Rattle.lib_given.proofs.GivenSteps.{string_keeping_holds, string_region_holds}
use Rattle.lib_given.proofs.GivenTakes.{taking_given_holds, taking_stack_holds}
use Rattle.lib_given.proofs.StackGoes.{string_copying_holds}
use Rattle.lib_given.proofs.StackPuts.{storing_argc_holds, storing_argv_holds, string_first_holds, string_putting_holds}
use Rattle.lib_given.proofs.StringLoads.{string_loading_holds}

pub given_holds : (s : KernelState) (n path argv : ℕ) → is_live (slot_at s n) ≡ true → AreSmall (slot_at s n).registers → (at : GivenStep) →
    place_of (slot_at s n) ≡ spawns_at path argv (spawn.Given at) → ServiceHolds s n (giving (record { argv = argv; at = at }))
given_holds s n path argv live small given.TakingGiven stands = taking_given_holds s n path argv live stands
given_holds s n path argv live small (given.AddressRegion index done word) stands = address_region_holds s n path argv live index done word stands
given_holds s n path argv live small (given.AddressEntry index done word) stands = address_entry_holds s n path argv live index done word stands
given_holds s n path argv live small (given.AddressLoading index done word) stands = address_loading_holds s n path argv live index done word stands
given_holds s n path argv live small (given.AddressFaulting index done) stands = address_faulting_holds s n path argv small index done stands
given_holds s n path argv live small (given.AddressKeeping index word) stands = address_keeping_holds s n path argv live index word stands
given_holds s n path argv live small (given.StringAddress index used) stands = string_address_holds s n path argv live index used stands
given_holds s n path argv live small (given.StringRegion index address used done) stands =
    string_region_holds s n path argv live index address used done stands
given_holds s n path argv live small (given.StringEntry index address used done) stands =
    string_entry_holds s n path argv live index address used done stands
given_holds s n path argv live small (given.StringLoading index address used done) stands =
    string_loading_holds s n path argv live index address used done stands
given_holds s n path argv live small (given.StringFaulting address done) stands = string_faulting_holds s n path argv small address done stands
given_holds s n path argv live small (given.StringKeeping index address used done word left) stands =
    string_keeping_holds s n path argv live index address used done word left stands
given_holds s n path argv live small (given.TakingStack count size) stands = taking_stack_holds s n path argv live count size stands
given_holds s n path argv live small (given.StringFirst count size index copied) stands =
    string_first_holds s n path argv count size live index copied stands
given_holds s n path argv live small (given.StringCopying count size index copied) stands =
    string_copying_holds s n path argv live count size index copied stands
given_holds s n path argv live small (given.StringPutting count size index copied byte) stands =
    string_putting_holds s n path argv count size live index copied byte stands
given_holds s n path argv live small (given.StoringArgv count size) stands = storing_argv_holds s n path argv count size live stands
given_holds s n path argv live small (given.StoringArgc count size) stands = storing_argc_holds s n path argv count size live stands
