use Rattle.std.proofs.Common.{◌≡◌, Err, ◌∙◌, ap, sym, subst}
use Rattle.jos_host.specs.Frames.{around}
use Rattle.jos_base.specs.KernelState.{KernelState, slot_at, with_registers}
use Rattle.jos_base.specs.declared.registers.Regs.{Regs}
use Rattle.jos_base.specs.TrapFrames.{words_of_bytes}
use Rattle.jos_kernel.specs.Machine as kernel
use Rattle.lib_os.specs.UserCalls.{IsStep, restore_frame}
use Rattle.jos_run.specs.Served.{Parts, kernel_state, IsRaised}
use Rattle.jos_run.proofs.Answers.{unread_step, restored_step}
use Rattle.jos_run.proofs.Printed.{printed, prints_nothing}
use Rattle.jos_run.proofs.served.ServedUserOs.restore_frame.Goals as goal

pub returns-in-Ok-clause-step : goal.returns-in-Ok-clause-step
returns-in-Ok-clause-step g c =
    let n = c.self.inside.slot in
    let esp_is = ap (λ (regs : Regs). regs.esp) (subst (λ (m : Parts). c.registers-esp.result ≡ (slot_at (kernel_state m) m.slot).registers) (sym c.self.view_is) c.registers-esp.ensures) in
    let mid = kernel.kernel_state c.read_user.new.self in
    rw (← c.self.view_is)
    (restored_step (kernel.kernel_state c.self.inside.machine) n _ esp_is mid
    (kernel.kernel_state c.set_registers.new.self) c.in-Ok.bytes.items _ (printed (around g.H.Host.console c.args.host.now c.args.host.now) c.self.inside.written c.self.inside.written) (prints_nothing _ _ c.self.invariant.written) c.in-Ok.ensures.ok c.in-Ok.ensures.reached
    (c.words_of_frame-words.ensures ∙ ap words_of_bytes c.as_slice.ensures.value)
    (c.set_registers.ensures ∙ ap (with_registers mid n) c.from_frame.ensures))

pub returns-in-Err-clause-step : goal.returns-in-Err-clause-step
returns-in-Err-clause-step g c =
    let n = c.self.inside.slot in
    let esp_is = ap (λ (regs : Regs). regs.esp) (subst (λ (m : Parts). c.registers-esp.result ≡ (slot_at (kernel_state m) m.slot).registers) (sym c.self.view_is) c.registers-esp.ensures) in
    let after = kernel_state c.raise-stop.new.self in
    let console = around g.H.Host.console c.args.host.now c.raise-stop.new.host in
    let output = printed console c.self.inside.written c.raise-stop.new.self.written in
    subst (λ (m : Parts). IsStep (restore_frame (kernel_state m) m.slot) (Err c.raise-stop.result) after (printed console m.written c.raise-stop.new.self.written)) c.self.view_is
    (unread_step (kernel.kernel_state c.self.inside.machine) n _ esp_is after output c.in-Err.fault c.raise-stop.result
    c.in-Err.ensures.err
    (subst (λ (k : KernelState). IsRaised k n c.in-Err.fault c.raise-stop.result after output) c.in-Err.ensures.stays c.raise-stop.ensures.raised))
