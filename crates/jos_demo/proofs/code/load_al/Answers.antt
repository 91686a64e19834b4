use Rattle.jos_demo.proofs.Instructions.{lawful_load_al}
use Rattle.jos_demo.proofs.code.load_al.Goals as goal

pub returns-clause-lawful : goal.returns-clause-lawful
returns-clause-lawful c = lawful_load_al c.args.va
