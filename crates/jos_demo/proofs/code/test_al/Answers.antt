use Rattle.jos_demo.proofs.Instructions.{lawful_test_al}
use Rattle.jos_demo.proofs.code.test_al.Goals as goal

pub returns-clause-lawful : goal.returns-clause-lawful
returns-clause-lawful c = lawful_test_al
