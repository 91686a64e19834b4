use Rattle.fs_acts.proofs.ComposedLaws.{puts-within}
use Rattle.fs_acts.proofs.laws.puts_stay_within.Goals as goal

pub returns : goal.returns
returns c = puts-within
