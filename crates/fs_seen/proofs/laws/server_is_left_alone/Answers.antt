use Rattle.fs_seen.proofs.OthersNow.{others_serve}
use Rattle.fs_seen.proofs.laws.server_is_left_alone.Goals as goal

pub returns : goal.returns
returns c = others_serve
