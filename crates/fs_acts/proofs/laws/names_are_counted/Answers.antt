use Rattle.fs_acts.proofs.DiskCounts.{names-counted}
use Rattle.fs_acts.proofs.laws.names_are_counted.Goals as goal

pub returns : goal.returns
returns c = names-counted
