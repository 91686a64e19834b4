use Rattle.jos_alu.proofs.Rotations.{rotates_back}
use Rattle.jos_alu.proofs.laws.rotations_go_back.Goals as goal

pub returns : goal.returns
returns c = rotates_back
