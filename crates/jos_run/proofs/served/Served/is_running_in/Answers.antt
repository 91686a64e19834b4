use Rattle.std.proofs.Common.{ap, sym, ◌∙◌}
use Rattle.jos_base.specs.Environments.{Slot, is_running}
use Rattle.jos_kernel.proofs.Machines.{not_running}
use Rattle.jos_run.proofs.Looked.{slot_looked}
use Rattle.jos_run.proofs.served.Served.is_running_in.Goals as goal

pub returns-in-Running : goal.returns-in-Running
returns-in-Running c =
    rw (← c.self.view_is)
    (ap is_running (sym c.in-Running.is)
    ∙ ap (λ (slot : Slot). is_running slot.status) (slot_looked c.self.inside.machine c.system.ensures.system _ c.environment.ensures))

pub returns-in_default : goal.returns-in_default
returns-in_default c =
    rw (← c.self.view_is)
    (not_running _ c.in_default.not-Running
    ∙ ap (λ (slot : Slot). is_running slot.status) (slot_looked c.self.inside.machine c.system.ensures.system _ c.environment.ensures))
