use Rattle.fs_seen.proofs.CountsTold.{standing_counts_tell}
use Rattle.fs_seen.proofs.laws.open_files_are_counted.Goals as goal

pub returns : goal.returns
returns c = standing_counts_tell
