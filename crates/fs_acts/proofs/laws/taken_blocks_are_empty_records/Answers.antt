use Rattle.fs_acts.proofs.MoreSlots.{taken-empty}
use Rattle.fs_acts.proofs.laws.taken_blocks_are_empty_records.Goals as goal

pub returns : goal.returns
returns c = taken-empty
