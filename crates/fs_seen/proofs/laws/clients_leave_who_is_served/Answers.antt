use Rattle.fs_seen.proofs.ClientSteps.{clients_leave_served}
use Rattle.fs_seen.proofs.laws.clients_leave_who_is_served.Goals as goal

pub returns : goal.returns
returns c = clients_leave_served
