use Rattle.jos_run.proofs.StartStands.{programs_begin}
use Rattle.jos_run.proofs.EnoughFrames.{programs_boot}
use Rattle.jos_run.proofs.boot.programs_begin.Goals as goal

pub returns-clause-alike : goal.returns-clause-alike
returns-clause-alike c = programs_begin

pub returns-clause-always : goal.returns-clause-always
returns-clause-always c = programs_boot
