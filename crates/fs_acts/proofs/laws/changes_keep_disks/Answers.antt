use Rattle.fs_acts.proofs.ComposedLaws.{disks-kept}
use Rattle.fs_acts.proofs.laws.changes_keep_disks.Goals as goal

pub returns : goal.returns
returns c = disks-kept
