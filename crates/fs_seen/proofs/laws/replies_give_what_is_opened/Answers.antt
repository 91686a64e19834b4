use Rattle.fs_seen.proofs.RepliesGiven.{replies_give}
use Rattle.fs_seen.proofs.laws.replies_give_what_is_opened.Goals as goal

pub returns : goal.returns
returns c = replies_give
