use Rattle.jos_demo.proofs.Instructions.{lawful_store_byte}
use Rattle.jos_demo.proofs.code.store_byte.Goals as goal

pub returns-clause-lawful : goal.returns-clause-lawful
returns-clause-lawful c = lawful_store_byte c.args.va c.args.byte c.ranges.byte.fits
