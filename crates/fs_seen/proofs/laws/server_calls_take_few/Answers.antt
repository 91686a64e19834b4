use Rattle.fs_seen.proofs.FewCalls.{calls_take_few}
use Rattle.fs_seen.proofs.laws.server_calls_take_few.Goals as goal

pub returns : goal.returns
returns c = calls_take_few
