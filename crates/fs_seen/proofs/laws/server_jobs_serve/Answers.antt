use Rattle.fs_seen.proofs.JobsServed.{jobs_serve}
use Rattle.fs_seen.proofs.laws.server_jobs_serve.Goals as goal

pub returns : goal.returns
returns c = jobs_serve
