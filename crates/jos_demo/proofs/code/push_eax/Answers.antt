use Rattle.jos_demo.proofs.Instructions.{lawful_push_eax}
use Rattle.jos_demo.proofs.code.push_eax.Goals as goal

pub returns-clause-lawful : goal.returns-clause-lawful
returns-clause-lawful c = lawful_push_eax
