use Rattle.fs_seen.proofs.RepliesNow.{replies_serve}
use Rattle.fs_seen.proofs.laws.server_replies.Goals as goal

pub returns : goal.returns
returns c = replies_serve
