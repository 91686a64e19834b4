use Rattle.fs_seen.proofs.FewCalls.{jobs_take_few}
use Rattle.fs_seen.proofs.laws.server_jobs_take_few.Goals as goal

pub returns : goal.returns
returns c = jobs_take_few
