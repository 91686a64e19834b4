use Rattle.std.proofs.Common.{◌≡◌, ◌∙◌, true, ap, sym, subst}
use Rattle.jos_host.specs.Frames.{around}
use Rattle.jos_base.specs.Environments.{is_live}
use Rattle.jos_base.specs.KernelState.{slot_at}
use Rattle.jos_kernel.specs.Machine as kernel
use Rattle.lib_os.specs.UserCalls.{sets_own, taken_back}
use Rattle.lib_os.proofs.Slots.{slot_put}
use Rattle.jos_run.specs.Served.{Parts, kernel_state}
use Rattle.jos_run.proofs.Answers.{answered_step, failed_step, failed_prints, failed_ended}
use Rattle.jos_run.proofs.served.ServedUserOs.system.Goals as goal

pub call-requires : goal.call-requires
call-requires g c =
    let before = kernel.kernel_state c.self.inside.machine in
    let n = c.self.inside.slot in
    (λ i. is_live (slot_at (c.set_registers.ensures i) n))
    ∙ ap is_live (slot_put before n (record (slot_at before n) { registers = c.asking.result }))
    ∙ subst (λ (m : Parts). is_live (slot_at (kernel_state m) m.slot) ≡ true) (sym c.self.view_is) c.requires.live

pub returns-in-Ok-clause-step : goal.returns-in-Ok-clause-step
returns-in-Ok-clause-step g c =
    let before = kernel.kernel_state c.self.inside.machine in
    let mid = kernel.kernel_state c.call.new.self in
    let kept_is = subst (λ (m : Parts). c.registers-registers.result ≡ (slot_at (kernel_state m) m.slot).registers) (sym c.self.view_is) c.registers-registers.ensures in
    let own_is = subst (λ (m : Parts). c.sets_own-own.result ≡ sets_own (kernel_state m) m.slot c.args.number c.args.args) (sym c.self.view_is) c.sets_own-own.ensures in
    let back = c.take_back.ensures.state
    ∙ (λ i. taken_back (c.count.ensures.state i) (c.count.ensures.slot i) c.sets_own-own.result c.registers-registers.result) in
    rw (← c.self.view_is)
    (answered_step before _ mid (kernel_state c.take_back.new.self) c.self.inside.slot c.args.number c.args.args
    (around g.H.Host.console c.args.host.now c.call.new.host) c.self.inside.written c.take_back.new.self.written _ _ kept_is c.asking.ensures c.set_registers.ensures
    c.in-Ok.answer _ own_is back (c.take_back.ensures.written ∙ c.count.ensures.written) c.in-Ok.ensures.told)

pub returns-in-Err-clause-step : goal.returns-in-Err-clause-step
returns-in-Err-clause-step g c =
    let before = kernel.kernel_state c.self.inside.machine in
    let mid = kernel.kernel_state c.call.new.self in
    let kept_is = subst (λ (m : Parts). c.registers-registers.result ≡ (slot_at (kernel_state m) m.slot).registers) (sym c.self.view_is) c.registers-registers.ensures in
    rw (← c.self.view_is)
    (failed_step before _ mid mid c.self.inside.slot c.args.number c.args.args (around g.H.Host.console c.args.host.now c.call.new.host)
    c.self.inside.written c.self.inside.written _ _ kept_is c.asking.ensures c.set_registers.ensures c.in-Err.failed c.in-Err.ensures.told)

pub returns-in-Err-clause-fails : goal.returns-in-Err-clause-fails
returns-in-Err-clause-fails g c =
    let before = kernel.kernel_state c.self.inside.machine in
    let mid = kernel.kernel_state c.call.new.self in
    let kept_is = subst (λ (m : Parts). c.registers-registers.result ≡ (slot_at (kernel_state m) m.slot).registers) (sym c.self.view_is) c.registers-registers.ensures in
    failed_prints before (kernel.kernel_state c.set_registers.new.self) mid mid c.self.inside.slot c.args.number c.args.args (around g.H.Host.console c.args.host.now c.call.new.host)
    0 0 _ _ kept_is c.asking.ensures c.set_registers.ensures c.in-Err.ensures.fails

pub returns-in-Err-clause-ended : goal.returns-in-Err-clause-ended
returns-in-Err-clause-ended g c =
    let before = kernel.kernel_state c.self.inside.machine in
    let mid = kernel.kernel_state c.call.new.self in
    let kept_is = subst (λ (m : Parts). c.registers-registers.result ≡ (slot_at (kernel_state m) m.slot).registers) (sym c.self.view_is) c.registers-registers.ensures in
    rw (← c.self.view_is)
    (failed_ended before (kernel.kernel_state c.set_registers.new.self) mid mid c.self.inside.slot c.args.number c.args.args (around g.H.Host.console c.args.host.now c.call.new.host)
    0 0 _ _ kept_is c.asking.ensures c.set_registers.ensures c.in-Err.ensures.ended)
