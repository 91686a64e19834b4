use Rattle.std.proofs.Common.{Ok, sym, subst}
use Rattle.jos_host.specs.Frames.{around}
use Rattle.jos_base.specs.KernelState.{KernelState}
use Rattle.jos_kernel.specs.Machine.{kernel_state}
use Rattle.jos_kernel.specs.Steps.{after_trap}
use Rattle.jos_run.specs.Guest.{Follows}
use Rattle.jos_run.proofs.Guests.{trap_follows, trap_fails}
use Rattle.jos_run.proofs.Printed.{printed}
use Rattle.jos_run.proofs.served.Served.follow_trap.Goals as goal

pub returns-in-Ok-clause-told : goal.returns-in-Ok-clause-told
returns-in-Ok-clause-told g c =
    let step = after_trap (kernel_state c.self.inside.machine) c.self.inside.slot c.args.trap c.args.error c.args.va c.args.ip in
    let console = around g.H.Host.console c.args.host.now c.follow_trap.new.host in
    let before = c.self.inside.written in
    let count = c.count.new.self.written in
    rw (← c.self.view_is)
    (subst (λ (k : KernelState). Follows (Ok c.in-Ok.followed.trap) step k (printed console before count)) (sym c.count.ensures.state)
    (trap_follows step (kernel_state c.follow_trap.new.self) console before count c.in-Ok.followed c.in-Ok.ensures.told c.count.ensures.written))

pub returns-in-Err-clause-told : goal.returns-in-Err-clause-told
returns-in-Err-clause-told g c =
    let step = after_trap (kernel_state c.self.inside.machine) c.self.inside.slot c.args.trap c.args.error c.args.va c.args.ip in
    let console = around g.H.Host.console c.args.host.now c.follow_trap.new.host in
    rw (← c.self.view_is)
    (trap_fails step (kernel_state c.follow_trap.new.self) console c.self.inside.written c.self.inside.written c.in-Err.failed c.in-Err.ensures.told)
