use Rattle.jos_sys.specs.System.{left_of}
use Rattle.jos_kernel.proofs.machine.Machine.registers.Goals as goal

pub returns : goal.returns
returns g c = rw (← c.self.view_is) (c.registers.ensures (left_of c.self.inside.input))
