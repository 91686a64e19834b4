use Rattle.jos_demo.proofs.Instructions.{lawful_pop}
use Rattle.jos_demo.proofs.code.pop.Goals as goal

pub returns-clause-lawful : goal.returns-clause-lawful
returns-clause-lawful c = lawful_pop c.args.reg c.requires
