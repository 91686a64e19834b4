use Rattle.std.proofs.Common.{ap}
use Rattle.jos_base.specs.Environments.{Slot}
use Rattle.jos_run.proofs.Looked.{slot_looked}
use Rattle.jos_run.proofs.served.ServedUserOs.extra.Goals as goal

pub returns : goal.returns
returns c = rw (← c.self.view_is) (ap (λ (slot : Slot). slot.extra) (slot_looked c.self.inside.machine c.system.ensures.system _ c.environment.ensures))
