use Rattle.fs_seen.proofs.ActsSoon.{jobs_act_soon}
use Rattle.fs_seen.proofs.laws.server_jobs_act_soon.Goals as goal

pub returns : goal.returns
returns c = jobs_act_soon
