use Rattle.lib_os.proofs.ClosedTold.{counts_tell_closed}
use Rattle.lib_os.proofs.laws.counts_tell_closed.Goals as goal

pub returns : goal.returns
returns c = counts_tell_closed
