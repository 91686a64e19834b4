use Rattle.jos_demo.proofs.Instructions.{lawful_mov_register}
use Rattle.jos_demo.proofs.code.mov_register.Goals as goal

pub returns-clause-lawful : goal.returns-clause-lawful
returns-clause-lawful c = lawful_mov_register c.args.to c.args.from c.requires.to c.requires.from
