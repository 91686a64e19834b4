use Rattle.jos_demo.proofs.Instructions.{lawful_rep_stosb}
use Rattle.jos_demo.proofs.code.rep_stosb.Goals as goal

pub returns-clause-lawful : goal.returns-clause-lawful
returns-clause-lawful c = lawful_rep_stosb
