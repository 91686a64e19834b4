-- The steps of a service, from the one behind INT 0x40 to the one that answers. A program is told an error by its
-- number, negated; of several refusals the one that stands first in the service's definition is told.
use Rattle.std.specs.Prelude.{ℕ, Option, Some, None}
use Rattle.jos_base.specs.declared.registers.Regs.{Regs}
use Rattle.jos_base.specs.declared.numbers.TheConstants.{E_INVAL}
use Rattle.lib_os.specs.declared.service.Service.{Service}
use Rattle.lib_os.specs.declared.service.Service.TheVariants as service
use Rattle.lib_os.specs.AbstractState.{AbstractState, Born, Stage, entered, bearing, received}
use Rattle.lib_os.specs.Answers.{answered, refused}
use Rattle.lib_os.specs.MemoryServices.{cputs, wait, page_new, page_drop}
use Rattle.lib_os.specs.AbstractMessages.{receive, received_answer, send}
use Rattle.lib_os.specs.AbstractFork.{fork, bear}
use Rattle.lib_os.specs.Descriptors.{close, dup, pipe, exit}
use Rattle.lib_os.specs.FileServices.{open_step, read_step, write_step, seek_step, stat_step, set_size_step, remove_step, sync_step}
use Rattle.lib_os.specs.AbstractSpawn.{spawn_step}

-- a service that is one step
abbrev pub at_once : Stage → AbstractState → Option AbstractState
at_once entered after = Some after
at_once _ after = None

abbrev pub only_at_once : Stage → Option AbstractState → Option AbstractState
only_at_once entered after = after
only_at_once _ after = None

abbrev pub fork_step : AbstractState → ℕ → Born → Regs → Stage → Option AbstractState
fork_step a n b regs entered = Some (fork a n b regs)
fork_step a n b regs (bearing child) = Some (bear a n b regs child)
fork_step a n b regs _ = None

abbrev pub receive_step : AbstractState → ℕ → Born → Regs → ℕ → ℕ → Stage → Option AbstractState
receive_step a n b regs va from entered = Some (receive a n b regs va from)
receive_step a n b regs va from (received message) = Some (received_answer a n b regs message)
receive_step a n b regs va from _ = None

-- The next step of a service at a stage; None where there is none yet, since it waits for another environment.
unfoldable pub library_step : AbstractState → ℕ → Born → Regs → Service → Stage → Option AbstractState
library_step a n b regs service.Exit stage = Some (exit a n b)
library_step a n b regs (service.Cputs va len) stage = at_once stage (cputs a n b regs va len)
library_step a n b regs service.GetId stage = at_once stage (answered a n b regs b.id)
library_step a n b regs service.Yield stage = at_once stage (answered a n b regs 0)
library_step a n b regs service.Fork stage = fork_step a n b regs stage
library_step a n b regs (service.Wait id) stage = only_at_once stage (wait a n b regs id)
library_step a n b regs (service.PageNew va flags) stage = at_once stage (page_new a n b regs va flags)
library_step a n b regs (service.PageDrop va) stage = at_once stage (page_drop a n b regs va)
library_step a n b regs (service.Send id value va) stage = only_at_once stage (send a n b regs id value va)
library_step a n b regs (service.Receive va from) stage = receive_step a n b regs va from stage
library_step a n b regs (service.OpenFile path mode) stage = open_step a n b regs (service.OpenFile path mode) path mode stage
library_step a n b regs (service.Close fd) stage = at_once stage (close a n b regs fd)
library_step a n b regs (service.Read fd va len) stage = read_step a n b regs (service.Read fd va len) fd va len stage
library_step a n b regs (service.Write fd va len) stage = write_step a n b regs (service.Write fd va len) fd va len stage
library_step a n b regs (service.Seek fd offset) stage = seek_step a n b regs (service.Seek fd offset) fd offset stage
library_step a n b regs (service.Stat fd va) stage = stat_step a n b regs (service.Stat fd va) fd va stage
library_step a n b regs (service.SetSize fd size) stage = set_size_step a n b regs (service.SetSize fd size) fd size stage
library_step a n b regs (service.Remove path) stage = remove_step a n b regs (service.Remove path) path stage
library_step a n b regs service.Sync stage = sync_step a n b regs service.Sync stage
library_step a n b regs (service.Dup old new) stage = at_once stage (dup a n b regs old new)
library_step a n b regs service.Pipe stage = at_once stage (pipe a n b regs)
library_step a n b regs (service.Spawn path argv) stage = spawn_step a n b regs path argv stage b.spawning
library_step a n b regs service.Unknown stage = at_once stage (refused a n b regs E_INVAL)
