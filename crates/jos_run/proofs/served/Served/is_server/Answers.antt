use Rattle.std.proofs.Common.{ap, sym, ◌∙◌}
use Rattle.jos_base.specs.Environments.{Slot}
use Rattle.lib_os.specs.UserCalls.{is_file_server}
use Rattle.jos_run.proofs.ProgramSteps.{not_server}
use Rattle.jos_run.proofs.Looked.{slot_looked}
use Rattle.jos_run.proofs.served.Served.is_server.Goals as goal

pub returns-in-FileServer : goal.returns-in-FileServer
returns-in-FileServer c =
    rw (← c.self.view_is)
    (ap is_file_server (sym c.in-FileServer.is)
    ∙ ap (λ (slot : Slot). is_file_server slot.env_type) (slot_looked c.self.inside.machine c.system.ensures.system _ c.environment.ensures))

pub returns-in_default : goal.returns-in_default
returns-in_default c =
    rw (← c.self.view_is)
    (not_server _ c.in_default.not-FileServer
    ∙ ap (λ (slot : Slot). is_file_server slot.env_type) (slot_looked c.self.inside.machine c.system.ensures.system _ c.environment.ensures))
