-- What the services ask, and what they do next by the reply, each as its own crate says.
use Rattle.lib_os.specs.declared.place.Step.{Step}
use Rattle.lib_os.specs.declared.service.Service.{Service}
use Rattle.lib_os.specs.declared.service.Service.TheVariants as service
use Rattle.lib_stage.specs.ServiceSteps.{Plan, nowhere, or_nowhere}
use Rattle.lib_fd.specs.DescriptorStages.{close_at, closing, dup_at, duplicating, exit_at, exiting}
use Rattle.lib_fork.specs.ForkStages.{fork_at, forking}
use Rattle.lib_mem.specs.MemoryPlans.{memory_plan, memory_service}
use Rattle.lib_msg.specs.ReceiveStages.{receive_at, receiving}
use Rattle.lib_msg.specs.SendStages.{send_at, sending}
use Rattle.lib_offset.specs.declared.offset.OffsetService.TheVariants as of
use Rattle.lib_offset.specs.OffsetStages.{offset_at, offsetting}
use Rattle.lib_pipe.specs.MakingStages.{making, pipe_at}
use Rattle.lib_read.specs.ReadStages.{read_at, reading}
use Rattle.lib_read.specs.StatStages.{stat_at, telling}
use Rattle.lib_request.specs.OpenStages.{open_at, opening}
use Rattle.lib_request.specs.RemoveStages.{remove_at, removing}
use Rattle.lib_request.specs.SyncStages.{sync_at, syncing}
use Rattle.lib_spawn.specs.SpawnParts.{spawn_at, spawning}
use Rattle.lib_spawn.specs.WaitStages.{wait_at, waiting}
use Rattle.lib_write.specs.WriteStages.{write_at, writing}
use Rattle.jos_run.specs.declared.services.ServiceStage.{ServiceStage}
use Rattle.jos_run.specs.declared.services.ServiceStage.TheVariants as stage

abbrev pub plan_of : ServiceStage → Plan
plan_of (stage.Exit it) = exiting it
plan_of (stage.Fork it) = forking it
plan_of (stage.Wait it) = waiting it
plan_of (stage.Send it) = sending it
plan_of (stage.Receive it) = receiving it
plan_of (stage.Memory it) = memory_plan it
plan_of (stage.Close it) = closing it
plan_of (stage.Dup it) = duplicating it
plan_of (stage.Pipe it) = making it
plan_of (stage.Read it) = reading it
plan_of (stage.Write it) = writing it
plan_of (stage.Offset it) = offsetting it
plan_of (stage.Stat it) = telling it
plan_of (stage.Sync it) = syncing it
plan_of (stage.Remove it) = removing it
plan_of (stage.Open it) = opening it
plan_of (stage.Spawn it) = spawning it
plan_of (stage.Nowhere it) = nowhere

-- a service at a step
abbrev pub plan_at : Service → Step → Plan
plan_at service.Exit step = or_nowhere exiting (exit_at step)
plan_at service.Fork step = or_nowhere forking (fork_at step)
plan_at (service.Wait id) step = or_nowhere waiting (wait_at id step)
plan_at (service.Send id value va) step = or_nowhere sending (send_at id value va step)
plan_at (service.Receive va from) step = or_nowhere receiving (receive_at va from step)
plan_at (service.Close fd) step = or_nowhere closing (close_at fd step)
plan_at (service.Dup old new) step = or_nowhere duplicating (dup_at old new step)
plan_at service.Pipe step = or_nowhere making (pipe_at step)
plan_at (service.Read fd va len) step = or_nowhere reading (read_at fd va len step)
plan_at (service.Write fd va len) step = or_nowhere writing (write_at fd va len step)
plan_at (service.Seek fd offset) step = or_nowhere offsetting (offset_at (of.Seek offset) fd step)
plan_at (service.Stat fd va) step = or_nowhere telling (stat_at fd va step)
plan_at (service.SetSize fd size) step = or_nowhere offsetting (offset_at (of.SetSize size) fd step)
plan_at service.Sync step = or_nowhere syncing (sync_at step)
plan_at (service.Remove path) step = or_nowhere removing (remove_at path step)
plan_at (service.OpenFile path mode) step = or_nowhere opening (open_at path mode step)
plan_at (service.Spawn path argv) step = or_nowhere spawning (spawn_at path argv step)
plan_at other step = or_nowhere memory_plan (memory_service other)
