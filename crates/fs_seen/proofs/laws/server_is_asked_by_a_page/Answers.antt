use Rattle.fs_seen.proofs.AskedByPages.{asked_by_page}
use Rattle.fs_seen.proofs.laws.server_is_asked_by_a_page.Goals as goal

pub returns : goal.returns
returns c = asked_by_page
