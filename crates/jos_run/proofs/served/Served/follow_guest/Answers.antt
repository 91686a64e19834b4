use Rattle.std.proofs.Common.{◌≡◌, ◌∙◌, ◌<◌, [], ap, subst}
use Rattle.std.specs.Prelude.{◌^◌}
use Rattle.jos_host.specs.Frames.{around}
use Rattle.jos_base.specs.KernelState.{with_extra}
use Rattle.jos_base.specs.declared.registers.Regs.{Regs}
use Rattle.jos_kernel.specs.Machine as kernel
use Rattle.lib_os.specs.Places.{words_entered}
use Rattle.jos_run.specs.Served.{Parts, kernel_state}
use Rattle.jos_run.proofs.Guests.{service_follows}
use Rattle.jos_run.proofs.Printed.{printed, prints_nothing, prints_on}
use Rattle.jos_run.proofs.served.Served.follow_guest.Goals as goal

pub returns-else-vector-ne-T_SERVICE-clause-told :
    goal.returns-else-vector-ne-T_SERVICE-clause-told
returns-else-vector-ne-T_SERVICE-clause-told g c =
    let p = c.args.self.now in
    let after = kernel.kernel_state c.set_extra.new.self in
    let words = c.words_entered.result.0 in
    let after_is = subst (λ (m : Parts). after ≡ with_extra (kernel_state m) m.slot words) c.self.view_is c.set_extra.ensures in
    service_follows (kernel_state p) after p.slot c.args.ip c.in-Soft.vector c.args.event words (printed (around g.H.Host.console c.args.host.now c.args.host.now) c.args.self.now.written c.self.inside.written)
    c.in-Soft.is c.if-vector-ne-T_SERVICE.false (c.words_entered.ensures ∙ ap (λ (regs : Regs). words_entered regs) c.registers-registers.ensures) after_is
    (prints_on _ _ _ _ [] (ap (λ (m : Parts). m.written) c.self.view_is)
    (prints_nothing _ _ (subst (λ (m : Parts). m.written < 2 ^ 64) c.self.view_is c.self.invariant.written)))
