use Rattle.lib_os.proofs.Others.{steps_leave_others}
use Rattle.lib_os.proofs.laws.steps_leave_others.Goals as goal

pub returns : goal.returns
returns c = steps_leave_others
