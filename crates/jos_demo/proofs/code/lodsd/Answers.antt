use Rattle.jos_demo.proofs.Instructions.{lawful_lodsd}
use Rattle.jos_demo.proofs.code.lodsd.Goals as goal

pub returns-clause-lawful : goal.returns-clause-lawful
returns-clause-lawful c = lawful_lodsd
