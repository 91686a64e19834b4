use Rattle.fs_seen.proofs.ActsSoon.{flushes_act_soon}
use Rattle.fs_seen.proofs.laws.server_flushes_act_soon.Goals as goal

pub returns : goal.returns
returns c = flushes_act_soon
