use Rattle.fs_seen.proofs.ActsSoon.{calls_act_soon}
use Rattle.fs_seen.proofs.laws.server_calls_act_soon.Goals as goal

pub returns : goal.returns
returns c = calls_act_soon
