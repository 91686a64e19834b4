use Rattle.std.proofs.Common.{ap, sym, [], ◌∙◌}
use Rattle.jos_base.specs.Environments.{Slot, is_running}
use Rattle.jos_kernel.proofs.Machines.{not_running}
use Rattle.jos_kernel.proofs.machine.Machine.is_running.Goals as goal

pub returns-in-Running : goal.returns-in-Running
returns-in-Running g c =
    rw (← c.self.view_is)
    (ap is_running (sym c.in-Running.is) ∙ ap (λ (slot : Slot). is_running slot.status) (c.environment.ensures []))

pub returns-in_default : goal.returns-in_default
returns-in_default g c =
    rw (← c.self.view_is)
    (not_running _ c.in_default.not-Running ∙ ap (λ (slot : Slot). is_running slot.status) (c.environment.ensures []))
