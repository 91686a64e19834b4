use Rattle.jos_demo.proofs.Instructions.{lawful_inc}
use Rattle.jos_demo.proofs.code.inc.Goals as goal

pub returns-clause-lawful : goal.returns-clause-lawful
returns-clause-lawful c = lawful_inc c.args.reg c.requires
