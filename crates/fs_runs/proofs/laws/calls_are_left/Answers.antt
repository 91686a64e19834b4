use Rattle.fs_runs.proofs.CallsLeft.{calls_are_left}
use Rattle.fs_runs.proofs.laws.calls_are_left.Goals as goal

pub returns : goal.returns
returns c = calls_are_left
