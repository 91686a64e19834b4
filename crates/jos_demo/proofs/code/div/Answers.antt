use Rattle.jos_demo.proofs.Instructions.{lawful_div}
use Rattle.jos_demo.proofs.code.div.Goals as goal

pub returns-clause-lawful : goal.returns-clause-lawful
returns-clause-lawful c = lawful_div c.args.reg c.requires
