use Rattle.fs_runs.proofs.OpensFound.{opens_are_found}
use Rattle.fs_runs.proofs.laws.opens_are_found.Goals as goal

pub returns : goal.returns
returns c = opens_are_found
