use Rattle.fs_seen.proofs.RepliesNow.{waits_serve}
use Rattle.fs_seen.proofs.laws.server_waits_to_reply.Goals as goal

pub returns : goal.returns
returns c = waits_serve
