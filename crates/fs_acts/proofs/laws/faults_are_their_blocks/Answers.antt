use Rattle.fs_acts.proofs.Faults.{faults-blocks}
use Rattle.fs_acts.proofs.laws.faults_are_their_blocks.Goals as goal

pub returns : goal.returns
returns c = faults-blocks
