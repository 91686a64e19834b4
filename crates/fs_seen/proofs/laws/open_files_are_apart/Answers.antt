use Rattle.fs_seen.proofs.TablesLeft.{files_are_apart}
use Rattle.fs_seen.proofs.laws.open_files_are_apart.Goals as goal

pub returns : goal.returns
returns c = files_are_apart
