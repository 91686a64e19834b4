use Rattle.fs_acts.proofs.DiskCounts.{disks-counted}
use Rattle.fs_acts.proofs.laws.disks_are_counted.Goals as goal

pub returns : goal.returns
returns c = disks-counted
