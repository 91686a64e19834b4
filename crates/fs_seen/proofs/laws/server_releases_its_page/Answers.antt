use Rattle.fs_seen.proofs.BetweenRequests.{releases_serve}
use Rattle.fs_seen.proofs.laws.server_releases_its_page.Goals as goal

pub returns : goal.returns
returns c = releases_serve
