-- The law of spawn as it makes its child, at each of its steps.
use Rattle.std.proofs.Common.{◌≡◌, ℕ, true}
use Rattle.jos_base.specs.Environments.{is_live}
use Rattle.jos_base.specs.KernelState.{KernelState, slot_at}
use Rattle.lib_os.specs.declared.spawn_steps.BearingStep.{BearingStep}
use Rattle.lib_os.specs.declared.spawn_steps.BearingStep.TheVariants as bearing
use Rattle.lib_os.specs.declared.spawn_steps.SpawnStep.TheVariants as spawn
use Rattle.lib_os.specs.Places.{place_of}
use Rattle.lib_os.proofs.SpawnOwnPages.{spawns_at}
use Rattle.lib_stage.specs.ServiceSteps.{ServiceHolds}
use Rattle.lib_child.specs.BearingStages.{bears}
use Rattle.lib_child.proofs.HereSteps.{mapping_here_holds, unmapping_here_holds}
use Rattle.lib_child.proofs.MakingChild.{making_child_holds}
use Rattle.lib_child.proofs.PieceGoes.{piece_address_holds, piece_kind_holds, piece_length_holds, piece_memory_holds, piece_offset_holds}
use Rattle.lib_child.proofs.PieceLoads.{piece_loading_holds, piece_rest_holds}
use Rattle.lib_child.proofs.PiecePuts.{piece_putting_holds}
use Rattle.lib_child.proofs.PlacingGoes.{placing_address_holds, placing_kind_holds, placing_memory_holds}
use Rattle.lib_child.proofs.PlacingPage.{placing_page_holds}
use Rattle.lib_child.proofs.RegisterGoes.{storing_register_holds}
use Rattle.lib_child.proofs.SettingRegisters.{setting_registers_holds}

pub bearing_holds : (s : KernelState) (n path argv : ℕ) → is_live (slot_at s n) ≡ true → (at : BearingStep) →
    place_of (slot_at s n) ≡ spawns_at path argv (spawn.Bearing at) → ServiceHolds s n (bears (record { at = at }))
bearing_holds s n path argv live (bearing.MakingChild esp fd entry_point headers) stands =
    making_child_holds s n path argv live esp fd entry_point headers stands
bearing_holds s n path argv live (bearing.StoringRegister esp fd entry_point headers child index) stands =
    storing_register_holds s n path argv live esp fd entry_point headers child index stands
bearing_holds s n path argv live (bearing.SettingRegisters fd headers child) stands = setting_registers_holds s n path argv live fd headers child stands
bearing_holds s n path argv live (bearing.PlacingKind fd headers child header) stands = placing_kind_holds s n path argv live fd headers child header stands
bearing_holds s n path argv live (bearing.PlacingMemory fd headers child header) stands = placing_memory_holds s n path argv live fd headers child header stands
bearing_holds s n path argv live (bearing.PlacingAddress fd headers child header memory) stands =
    placing_address_holds s n path argv live fd headers child header memory stands
bearing_holds s n path argv live (bearing.PlacingPage fd headers child header page last) stands =
    placing_page_holds s n path argv live fd headers child header page last stands
bearing_holds s n path argv live (bearing.PieceKind fd headers child header) stands = piece_kind_holds s n path argv live fd headers child header stands
bearing_holds s n path argv live (bearing.PieceMemory fd headers child header) stands = piece_memory_holds s n path argv live fd headers child header stands
bearing_holds s n path argv live (bearing.PieceLength fd headers child header done) stands =
    piece_length_holds s n path argv live fd headers child header done stands
bearing_holds s n path argv live (bearing.PieceOffset fd headers child header done end) stands =
    piece_offset_holds s n path argv live fd headers child header done end stands
bearing_holds s n path argv live (bearing.PieceAddress fd headers child header done end) stands =
    piece_address_holds s n path argv live fd headers child header done end stands
bearing_holds s n path argv live (bearing.MappingHere fd headers child header va done end) stands =
    mapping_here_holds s n path argv live fd headers child header va done end stands
bearing_holds s n path argv live (bearing.PieceLoading fd headers child header va done end) stands =
    piece_loading_holds s n path argv live fd headers child header va done end stands
bearing_holds s n path argv live (bearing.PieceRest fd headers child header va done end first) stands =
    piece_rest_holds s n path argv live fd headers child header va done end first stands
bearing_holds s n path argv live (bearing.PiecePutting fd headers child header va done end word) stands =
    piece_putting_holds s n path argv live fd headers child header va done end word stands
bearing_holds s n path argv live (bearing.UnmappingHere fd headers child header end) stands =
    unmapping_here_holds s n path argv live fd headers child header end stands
