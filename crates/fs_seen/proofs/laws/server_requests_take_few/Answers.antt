use Rattle.fs_seen.proofs.FewCalls.{requests_take_few}
use Rattle.fs_seen.proofs.laws.server_requests_take_few.Goals as goal

pub returns : goal.returns
returns c = requests_take_few
