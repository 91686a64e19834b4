use Rattle.lib_os.proofs.Apart.{pipes_are_bounded}
use Rattle.lib_os.proofs.laws.pipes_are_bounded.Goals as goal

pub returns : goal.returns
returns c = pipes_are_bounded
