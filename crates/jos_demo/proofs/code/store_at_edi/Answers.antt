use Rattle.jos_demo.proofs.Instructions.{lawful_store_at_edi}
use Rattle.jos_demo.proofs.code.store_at_edi.Goals as goal

pub returns-clause-lawful : goal.returns-clause-lawful
returns-clause-lawful c = lawful_store_at_edi c.args.reg c.requires
