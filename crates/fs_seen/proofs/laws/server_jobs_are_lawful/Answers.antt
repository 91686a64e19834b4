use Rattle.fs_seen.proofs.JobsServed.{jobs_are_lawful}
use Rattle.fs_seen.proofs.laws.server_jobs_are_lawful.Goals as goal

pub returns : goal.returns
returns c = jobs_are_lawful
