use Rattle.fs_seen.proofs.FewCalls.{flushes_take_few}
use Rattle.fs_seen.proofs.laws.server_flushes_take_few.Goals as goal

pub returns : goal.returns
returns c = flushes_take_few
