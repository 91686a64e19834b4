use Rattle.jos_demo.proofs.Instructions.{lawful_lodsb}
use Rattle.jos_demo.proofs.code.lodsb.Goals as goal

pub returns-clause-lawful : goal.returns-clause-lawful
returns-clause-lawful c = lawful_lodsb
