use Rattle.jos_demo.proofs.Instructions.{lawful_mov_byte}
use Rattle.jos_demo.proofs.code.mov_byte.Goals as goal

pub returns-clause-lawful : goal.returns-clause-lawful
returns-clause-lawful c = lawful_mov_byte c.args.reg c.args.byte c.requires c.ranges.byte.fits
