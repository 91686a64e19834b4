use Rattle.fs_seen.proofs.CallsSeen.{calls_are_seen}
use Rattle.fs_seen.proofs.laws.server_calls_are_seen.Goals as goal

pub returns : goal.returns
returns c = calls_are_seen
