use Rattle.std.proofs.Common.{ap, []}
use Rattle.jos_base.specs.KernelState.{KernelState}
use Rattle.jos_sys.specs.System.{left_of}
use Rattle.jos_kernel.proofs.Machines.{spaces_lawful}
use Rattle.jos_kernel.proofs.machine.Machine.set_registers.Goals as goal

pub invariant_of-self : goal.invariant_of-self
invariant_of-self g c =
    spaces_lawful _ _ _ _ _ c.set_registers.ensures.spaces c.self.invariant (ap (λ (s : KernelState). s.spaces) (c.set_registers.ensures.state []))

pub returns : goal.returns
returns g c = rw (← c.self.view_is) (c.set_registers.ensures.state (left_of c.self.inside.input))
