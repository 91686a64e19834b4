use Rattle.std.proofs.Common.{ap}
use Rattle.std.specs.Prelude.{Some}
use Rattle.jos_base.specs.Environments.{Slot}
use Rattle.jos_base.specs.declared.numbers.TheConstants.{T_PGFLT}
use Rattle.jos_run.proofs.Looked.{slot_looked}
use Rattle.jos_run.proofs.served.Served.raised_again.Goals as goal

pub returns-in-Touching : goal.returns-in-Touching
returns-in-Touching c =
    rw (c.in-Touching.is, ← c.self.view_is)
    (ap (λ (slot : Slot). Some (record {
      id = slot.id;
      trap = T_PGFLT;
      error = c.in-Touching.error;
      va = c.in-Touching.va;
      ip = c.in-Touching.ip;
    })) (slot_looked c.self.inside.machine c.system.ensures.system _ c.environment.ensures))
