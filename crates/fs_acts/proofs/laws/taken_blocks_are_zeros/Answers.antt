use Rattle.fs_acts.proofs.MoreFiles.{taken-zeros}
use Rattle.fs_acts.proofs.laws.taken_blocks_are_zeros.Goals as goal

pub returns : goal.returns
returns c = taken-zeros
