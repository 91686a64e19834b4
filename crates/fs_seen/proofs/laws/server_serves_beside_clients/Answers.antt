use Rattle.fs_seen.proofs.OthersNow.{clients_serve}
use Rattle.fs_seen.proofs.laws.server_serves_beside_clients.Goals as goal

pub returns : goal.returns
returns c = clients_serve
