use Rattle.fs_seen.proofs.FlushesServed.{flushes_serve}
use Rattle.fs_seen.proofs.laws.server_flushes_serve.Goals as goal

pub returns : goal.returns
returns c = flushes_serve
