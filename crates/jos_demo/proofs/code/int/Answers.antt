use Rattle.jos_demo.proofs.Instructions.{lawful_int}
use Rattle.jos_demo.proofs.code.int.Goals as goal

pub returns-clause-lawful : goal.returns-clause-lawful
returns-clause-lawful c = lawful_int c.args.vector c.ranges.vector.fits
