use Rattle.jos_demo.proofs.Instructions.{lawful_add_byte}
use Rattle.jos_demo.proofs.code.add_byte.Goals as goal

pub returns-clause-lawful : goal.returns-clause-lawful
returns-clause-lawful c = lawful_add_byte c.args.reg c.args.byte c.requires c.ranges.byte.fits
