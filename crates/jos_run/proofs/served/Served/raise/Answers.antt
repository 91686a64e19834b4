use Rattle.std.proofs.Common.{ap, sym, subst, ◌∙◌}
use Rattle.jos_host.specs.Frames.{around}
use Rattle.jos_base.specs.declared.line.Line.TheVariants.{UserFault}
use Rattle.jos_base.specs.declared.registers.Regs.{Regs}
use Rattle.jos_base.specs.KernelState.{KernelState, slot_at}
use Rattle.jos_kernel.specs.Machine.{kernel_state}
use Rattle.lib_os.specs.declared.user_os.Stop.TheVariants.{Ended}
use Rattle.jos_run.specs.Served.{IsRaised}
use Rattle.jos_run.proofs.Accesses.{ended_raised, failed_raised}
use Rattle.jos_run.proofs.Printed.{printed}
use Rattle.jos_run.proofs.served.Served.raise.Goals as goal

pub returns-in-Ok-clause-raised : goal.returns-in-Ok-clause-raised
returns-in-Ok-clause-raised g c =
    let n = c.self.inside.slot in
    let s = kernel_state c.self.inside.machine in
    let now = kernel_state c.kill.new.self in
    let told = c.in-Killed.ensures.told in
    let line_is = ap (λ (regs : Regs). UserFault c.args.fault.va regs.eip) c.registers-ip.ensures
    ∙ ap (λ (k : KernelState). UserFault c.args.fault.va (slot_at k n).registers.eip) told.1 in
    let console = around g.H.Host.console c.args.host.now c.kill.new.host in
    let count = c.count.new.self.written in
    rw (← c.self.view_is)
    (subst (λ (k : KernelState). IsRaised s n c.args.fault Ended k (printed console c.self.inside.written count)) (sym c.count.ensures.state)
    (ended_raised s now n c.args.fault console c.self.inside.written count told.0 _ _ told.1 line_is _ c.in-Ok.ensures.told c.count.ensures.written))

pub returns-in-Err-clause-raised : goal.returns-in-Err-clause-raised
returns-in-Err-clause-raised g c =
    let n = c.self.inside.slot in
    let s = kernel_state c.self.inside.machine in
    let now = kernel_state c.kill.new.self in
    let told = c.in-Killed.ensures.told in
    let line_is = ap (λ (regs : Regs). UserFault c.args.fault.va regs.eip) c.registers-ip.ensures
    ∙ ap (λ (k : KernelState). UserFault c.args.fault.va (slot_at k n).registers.eip) told.1 in
    let console = around g.H.Host.console c.args.host.now c.kill.new.host in
    rw (← c.self.view_is)
    (failed_raised s now n c.args.fault console c.self.inside.written c.self.inside.written told.0 _ _ told.1 line_is _ c.in-Err.ensures.told)
