use Rattle.lib_os.proofs.ServedStay.{served_clients_stay}
use Rattle.lib_os.proofs.laws.served_clients_stay.Goals as goal

pub returns : goal.returns
returns c = served_clients_stay
