-- The law of all services: each has that of its own crate.
use Rattle.std.proofs.Common.{◌≡◌, ◌||◌, ℕ, true}
use Rattle.jos_base.specs.Environments.{is_live, is_runnable, is_running}
use Rattle.jos_base.specs.KernelState.{KernelState, slot_at}
use Rattle.lib_os.specs.declared.place.Place.TheVariants as place
use Rattle.lib_os.specs.declared.place.Step.{Step}
use Rattle.lib_os.specs.declared.service.Service.{Service}
use Rattle.lib_os.specs.declared.service.Service.TheVariants as service
use Rattle.lib_os.specs.Places.{place_of}
use Rattle.lib_stage.specs.ServiceSteps.{ServiceHolds}
use Rattle.lib_fd.proofs.CloseLaw.{close_holds}
use Rattle.lib_fd.proofs.DupLaw.{dup_holds}
use Rattle.lib_fd.proofs.ExitLaw.{exit_holds}
use Rattle.lib_fork.proofs.ForkLaw.{fork_holds}
use Rattle.lib_mem.specs.declared.services.MemoryService.TheVariants as memory
use Rattle.lib_mem.proofs.MemoryLaw.{memory_holds}
use Rattle.lib_msg.proofs.ReceiveLaw.{receive_holds}
use Rattle.lib_msg.proofs.SendLaw.{send_holds}
use Rattle.lib_offset.proofs.OffsetLaw.{seek_holds, set_size_holds}
use Rattle.lib_os.specs.StandsInHandler.{AreSmall}
use Rattle.lib_pipe.proofs.MakingLaw.{pipe_holds}
use Rattle.lib_read.proofs.ReadLaw.{read_holds}
use Rattle.lib_read.proofs.StatLaw.{stat_holds}
use Rattle.lib_request.proofs.OpenLaw.{open_holds}
use Rattle.lib_request.proofs.RemoveLaw.{remove_holds}
use Rattle.lib_request.proofs.SyncLaw.{sync_holds}
use Rattle.lib_spawn.proofs.SpawnLaw.{spawn_holds}
use Rattle.lib_spawn.proofs.WaitLaw.{wait_holds}
use Rattle.lib_write.proofs.WriteLaw.{write_holds}
use Rattle.jos_run.specs.Plans.{plan_at}

module _ (s : KernelState) (n : ℕ) (live : is_live (slot_at s n) ≡ true)
    (awake : (is_runnable (slot_at s n).status || is_running (slot_at s n).status) ≡ true) (small : AreSmall (slot_at s n).registers)
    (at : Step) where
  pub services_hold : (of : Service) → place_of (slot_at s n) ≡ place.InService of at → ServiceHolds s n (plan_at of at)
  services_hold service.Exit stands = exit_holds s n live at stands
  services_hold (service.Cputs va len) stands = memory_holds s n at live (memory.Cputs va len) stands
  services_hold service.GetId stands = memory_holds s n at live memory.GetId stands
  services_hold service.Yield stands = memory_holds s n at live memory.Yield stands
  services_hold service.Fork stands = fork_holds s n live at stands
  services_hold (service.Wait id) stands = wait_holds s n id live at stands
  services_hold (service.PageNew va flags) stands = memory_holds s n at live (memory.PageNew va flags) stands
  services_hold (service.PageDrop va) stands = memory_holds s n at live (memory.PageDrop va) stands
  services_hold (service.Send id value va) stands = send_holds s n id value va live small.ecx at stands
  services_hold (service.Receive va from) stands = receive_holds s n va from live awake at stands
  services_hold (service.OpenFile path mode) stands = open_holds s n path mode live small awake at stands
  services_hold (service.Close fd) stands = close_holds s n fd live at stands
  services_hold (service.Read fd va len) stands = read_holds s n fd va len live small awake at stands
  services_hold (service.Write fd va len) stands = write_holds s n fd va len live small awake at stands
  services_hold (service.Seek fd offset) stands = seek_holds s n fd live small awake offset at stands
  services_hold (service.Stat fd va) stands = stat_holds s n fd va live small awake at stands
  services_hold (service.SetSize fd size) stands = set_size_holds s n fd live small awake size at stands
  services_hold (service.Remove path) stands = remove_holds s n path live small awake at stands
  services_hold service.Sync stands = sync_holds s n live awake at stands
  services_hold (service.Dup old new) stands = dup_holds s n old new live at stands
  services_hold service.Pipe stands = pipe_holds s n live at stands
  services_hold (service.Spawn path argv) stands = spawn_holds s n path argv live small awake at stands
  services_hold service.Unknown stands = memory_holds s n at live memory.Unknown stands
