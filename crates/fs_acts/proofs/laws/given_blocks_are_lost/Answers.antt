use Rattle.fs_acts.proofs.Given.{given-blocks}
use Rattle.fs_acts.proofs.laws.given_blocks_are_lost.Goals as goal

pub returns : goal.returns
returns c = given-blocks
