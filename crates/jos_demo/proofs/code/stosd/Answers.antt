use Rattle.jos_demo.proofs.Instructions.{lawful_stosd}
use Rattle.jos_demo.proofs.code.stosd.Goals as goal

pub returns-clause-lawful : goal.returns-clause-lawful
returns-clause-lawful c = lawful_stosd
