use Rattle.fs_seen.proofs.RepliesGiven.{replies_with_page}
use Rattle.fs_seen.proofs.laws.server_replies_with_a_page.Goals as goal

pub returns : goal.returns
returns c = replies_with_page
