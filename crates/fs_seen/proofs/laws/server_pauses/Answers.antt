use Rattle.fs_seen.proofs.RepliesNow.{pauses_serve}
use Rattle.fs_seen.proofs.laws.server_pauses.Goals as goal

pub returns : goal.returns
returns c = pauses_serve
