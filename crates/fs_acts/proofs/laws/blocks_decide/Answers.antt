use Rattle.fs_acts.proofs.Disks.{blocks-decide}
use Rattle.fs_acts.proofs.laws.blocks_decide.Goals as goal

pub returns : goal.returns
returns c = blocks-decide
