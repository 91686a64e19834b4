use Rattle.fs_seen.proofs.FewStay.{others_leave_few}
use Rattle.fs_seen.proofs.laws.server_calls_stay_few.Goals as goal

pub returns : goal.returns
returns c = others_leave_few
