use Rattle.fs_acts.proofs.Undamaged.{disks-undamaged}
use Rattle.fs_acts.proofs.laws.disks_are_undamaged.Goals as goal

pub returns : goal.returns
returns c = disks-undamaged
