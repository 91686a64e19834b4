use Rattle.fs_acts.proofs.Trees.{put-again}
use Rattle.fs_acts.proofs.laws.putting_again_changes_nothing.Goals as goal

pub returns : goal.returns
returns c = put-again
