use Rattle.jos_demo.proofs.Instructions.{lawful_inc_word}
use Rattle.jos_demo.proofs.code.inc_word.Goals as goal

pub returns-clause-lawful : goal.returns-clause-lawful
returns-clause-lawful c = lawful_inc_word c.args.va
