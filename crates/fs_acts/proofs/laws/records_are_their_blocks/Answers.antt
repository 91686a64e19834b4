use Rattle.fs_acts.proofs.Records.{records-blocks}
use Rattle.fs_acts.proofs.laws.records_are_their_blocks.Goals as goal

pub returns : goal.returns
returns c = records-blocks
