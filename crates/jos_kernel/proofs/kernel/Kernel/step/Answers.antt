use Rattle.jos_kernel.proofs.Runs.{stepped}
use Rattle.jos_kernel.proofs.kernel.Kernel.step.Goals as goal

pub returns-in-Ok-advance-clause-told : goal.returns-in-Ok-advance-clause-told
returns-in-Ok-advance-clause-told g c =
    stepped c.in-Ok-advance.ensures.told.2 c.in-Ok-advance.ensures.told.0 c.in-Ok-advance.ensures.told.1 c.requires.goes_on
