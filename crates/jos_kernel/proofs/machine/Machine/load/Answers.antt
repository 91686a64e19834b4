use Rattle.std.proofs.Common.{ap, Some}
use Rattle.jos_sys.specs.System.{left_of}
use Rattle.jos_kernel.proofs.machine.Machine.load.Goals as goal

pub returns-clause-loaded : goal.returns-clause-loaded
returns-clause-loaded g c = rw (← c.self.view_is) (ap Some (c.space-space.ensures.directory (left_of c.self.inside.input)))
