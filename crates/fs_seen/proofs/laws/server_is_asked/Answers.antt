use Rattle.fs_seen.proofs.AskedNow.{asked_serves}
use Rattle.fs_seen.proofs.laws.server_is_asked.Goals as goal

pub returns : goal.returns
returns c = asked_serves
