use Rattle.fs_layout.proofs.DiskDepth.{depth-suffices}
use Rattle.fs_layout.proofs.laws.depth_suffices.Goals as goal

pub returns : goal.returns
returns c = depth-suffices
