use Rattle.fs_runs.proofs.Ways.{ways_go_on}
use Rattle.fs_runs.proofs.laws.ways_go_on.Goals as goal

pub returns : goal.returns
returns c = ways_go_on
