use Rattle.std.proofs.Common.{◌≡◌, ◌∙◌, true, refl, ap, sym, subst}
use Rattle.jos_host.specs.Frames.{around}
use Rattle.jos_base.specs.declared.memory.PageFault.{PageFault}
use Rattle.jos_base.specs.Environments.{is_live}
use Rattle.jos_base.specs.KernelState.{KernelState, slot_at}
use Rattle.jos_kernel.specs.Machine as kernel
use Rattle.jos_run.specs.Served.{Parts, kernel_state, IsRaised}
use Rattle.jos_run.proofs.Accesses.{still_allowed, refused_state}
use Rattle.jos_run.proofs.Printed.{printed}
use Rattle.jos_run.proofs.served.Served.reach.Goals as goal

pub raise-stop-requires : goal.raise-stop-requires
raise-stop-requires g c =
    ap (λ (k : KernelState). is_live (slot_at k c.self.inside.slot)) c.reach.ensures.state
    ∙ subst (λ (m : Parts). is_live (slot_at (kernel_state m) m.slot) ≡ true) (sym c.self.view_is) c.requires.live

pub returns-in-Ok-clause-still : goal.returns-in-Ok-clause-still
returns-in-Ok-clause-still g c =
    let n = c.self.inside.slot in
    still_allowed (kernel.kernel_state c.self.inside.machine) (kernel.kernel_state c.reach.new.self) n n c.args.va c.args.access
    (sym c.in-Ok.ensures.allowed) c.reach.ensures.state refl

pub returns-in-Err-clause-raised : goal.returns-in-Err-clause-raised
returns-in-Err-clause-raised g c =
    let before = kernel.kernel_state c.self.inside.machine in
    let n = c.self.inside.slot in
    let after = kernel_state c.raise-stop.new.self in
    let console = around g.H.Host.console c.args.host.now c.raise-stop.new.host in
    let output = printed console c.self.inside.written c.raise-stop.new.self.written in
    let state_is = refused_state before (kernel.kernel_state c.reach.new.self) (slot_at before n).directory c.args.va c.args.access
    (sym c.in-Err.ensures.allowed) c.reach.ensures.state in
    rw (← c.self.view_is)
    (subst (λ (fault : PageFault). IsRaised before n fault c.raise-stop.result after output) c.in-Err.ensures.fault
    (subst (λ (k : KernelState). IsRaised k n c.in-Err.fault c.raise-stop.result after output) state_is c.raise-stop.ensures.raised))
