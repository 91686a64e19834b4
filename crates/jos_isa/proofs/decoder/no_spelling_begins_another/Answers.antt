use Rattle.jos_isa.proofs.Instructions.{alone}
use Rattle.jos_isa.proofs.decoder.no_spelling_begins_another.Goals as goal

pub returns : goal.returns
returns c = alone
