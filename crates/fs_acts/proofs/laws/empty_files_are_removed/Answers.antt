use Rattle.fs_acts.proofs.Removed.{empties-removed}
use Rattle.fs_acts.proofs.laws.empty_files_are_removed.Goals as goal

pub returns : goal.returns
returns c = empties-removed
