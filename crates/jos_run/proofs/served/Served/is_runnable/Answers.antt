use Rattle.std.proofs.Common.{ap, sym, ◌∙◌}
use Rattle.jos_base.specs.Environments.{Slot, is_runnable}
use Rattle.jos_run.proofs.ProgramSteps.{not_runnable}
use Rattle.jos_run.proofs.Looked.{slot_looked}
use Rattle.jos_run.proofs.served.Served.is_runnable.Goals as goal

pub returns-in-Runnable : goal.returns-in-Runnable
returns-in-Runnable c =
    rw (← c.self.view_is)
    (ap is_runnable (sym c.in-Runnable.is)
    ∙ ap (λ (slot : Slot). is_runnable slot.status) (slot_looked c.self.inside.machine c.system.ensures.system _ c.environment.ensures))

pub returns-in_default : goal.returns-in_default
returns-in_default c =
    rw (← c.self.view_is)
    (not_runnable _ c.in_default.not-Runnable
    ∙ ap (λ (slot : Slot). is_runnable slot.status) (slot_looked c.self.inside.machine c.system.ensures.system _ c.environment.ensures))
