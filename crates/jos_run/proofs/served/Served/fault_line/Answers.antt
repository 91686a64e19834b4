use Rattle.std.proofs.Common.{◌≡◌, ap}
use Rattle.jos_base.specs.declared.numbers.TheConstants.{T_PGFLT}
use Rattle.jos_base.specs.Environments.{Slot}
use Rattle.jos_base.specs.KernelState.{slot_at}
use Rattle.jos_run.specs.Served.{kernel_state}
use Rattle.jos_run.proofs.Looked.{slot_looked}
use Rattle.jos_run.proofs.served.Served.fault_line.Goals as goal

pub returns : goal.returns
returns c =
    let id_is : c.environment.result.id.0 ≡ (slot_at (kernel_state c.args.self.now) c.args.self.now.slot).id =
    rw (← c.self.view_is) (ap (λ (slot : Slot). slot.id) (slot_looked c.self.inside.machine c.system.ensures.system _ c.environment.ensures)) in
    λ i. record { id = id_is i; trap = T_PGFLT; error = c.args.error; va = c.args.va; ip = (c.registers.ensures i).eip }
