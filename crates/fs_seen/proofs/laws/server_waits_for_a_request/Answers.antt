use Rattle.fs_seen.proofs.BetweenRequests.{receives_serve}
use Rattle.fs_seen.proofs.laws.server_waits_for_a_request.Goals as goal

pub returns : goal.returns
returns c = receives_serve
