use Rattle.fs_seen.proofs.RepliesGiven.{replies_giving}
use Rattle.fs_seen.proofs.laws.server_replies_giving.Goals as goal

pub returns : goal.returns
returns c = replies_giving
