use Rattle.fs_runs.proofs.Ways.{runs_go_on}
use Rattle.fs_runs.proofs.laws.runs_go_on.Goals as goal

pub returns : goal.returns
returns c = runs_go_on
