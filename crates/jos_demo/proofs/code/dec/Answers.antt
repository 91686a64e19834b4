use Rattle.jos_demo.proofs.Instructions.{lawful_dec}
use Rattle.jos_demo.proofs.code.dec.Goals as goal

pub returns-clause-lawful : goal.returns-clause-lawful
returns-clause-lawful c = lawful_dec c.args.reg c.requires
