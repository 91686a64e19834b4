use Rattle.std.proofs.Common.{refl, sym}
use Rattle.jos_base.specs.KernelState.{slot_at}
use Rattle.jos_kernel.specs.Machine as kernel
use Rattle.jos_run.proofs.Accesses.{still_allowed, refused_state}
use Rattle.jos_run.proofs.served.Served.reach_page.Goals as goal

pub returns-in-Ok-clause-allowed : goal.returns-in-Ok-clause-allowed
returns-in-Ok-clause-allowed c = λ yes.
    let n = c.self.inside.slot in
    still_allowed (kernel.kernel_state c.self.inside.machine) (kernel.kernel_state c.reach-reached.new.self) n n c.args.va c.args.access
    (sym c.in-Ok.ensures.allowed) c.reach-reached.ensures.state refl

pub returns-in-Err-clause-refused : goal.returns-in-Err-clause-refused
returns-in-Err-clause-refused c = λ off.
    let before = kernel.kernel_state c.self.inside.machine in
    rw (← c.self.view_is)
    (refused_state before (kernel.kernel_state c.reach-reached.new.self) (slot_at before c.self.inside.slot).directory c.args.va c.args.access
    (sym c.in-Err.ensures.allowed) c.reach-reached.ensures.state)
