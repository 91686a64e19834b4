use Rattle.lib_os.proofs.Apart.{own_stores}
use Rattle.lib_os.proofs.laws.pages_are_own_or_shared.Goals as goal

pub returns-clause-own : goal.returns-clause-own
returns-clause-own c = own_stores
