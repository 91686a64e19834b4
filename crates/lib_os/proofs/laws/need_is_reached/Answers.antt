use Rattle.lib_os.proofs.NeedReached as reached
use Rattle.lib_os.proofs.laws.need_is_reached.Goals as goal

pub returns : goal.returns
returns c = reached.need_is_reached
