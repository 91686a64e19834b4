use Rattle.std.proofs.Common.{[]}
use Rattle.jos_kernel.proofs.machine.Machine.refused.Goals as goal

pub returns : goal.returns
returns g c = rw (← c.self.view_is) (c.refused.ensures [])
