use Rattle.jos_demo.proofs.Instructions.{lawful_sub_register}
use Rattle.jos_demo.proofs.code.sub_register.Goals as goal

pub returns-clause-lawful : goal.returns-clause-lawful
returns-clause-lawful c = lawful_sub_register c.args.to c.args.from c.requires.to c.requires.from
