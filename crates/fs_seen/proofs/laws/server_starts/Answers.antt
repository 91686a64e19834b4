use Rattle.fs_seen.proofs.FirstServes.{starts_serve}
use Rattle.fs_seen.proofs.laws.server_starts.Goals as goal

pub returns : goal.returns
returns c = starts_serve
