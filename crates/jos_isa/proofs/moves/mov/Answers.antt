use Rattle.jos_isa.proofs.LawfulMoves.{lawful_mov}
use Rattle.jos_isa.proofs.moves.mov.Goals as goal

pub returns-clause-lawful : goal.returns-clause-lawful
returns-clause-lawful c = lawful_mov c.args.reg c.args.value c.requires
