use Rattle.fs_acts.proofs.ComposedLaws.{block-acts}
use Rattle.fs_acts.proofs.laws.block_acts_are_acts.Goals as goal

pub returns : goal.returns
returns c = block-acts
