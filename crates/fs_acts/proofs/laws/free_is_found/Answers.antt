use Rattle.fs_acts.proofs.FreeBlocks.{free-found}
use Rattle.fs_acts.proofs.laws.free_is_found.Goals as goal

pub returns : goal.returns
returns c = free-found
