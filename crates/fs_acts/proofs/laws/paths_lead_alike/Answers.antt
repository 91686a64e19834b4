use Rattle.fs_acts.proofs.Paths.{paths-lead}
use Rattle.fs_acts.proofs.laws.paths_lead_alike.Goals as goal

pub returns : goal.returns
returns c = paths-lead
