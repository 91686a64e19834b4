use Rattle.fs_acts.proofs.WayNames.{ways-names}
use Rattle.fs_acts.proofs.laws.ways_lead_to_names.Goals as goal

pub returns : goal.returns
returns c = ways-names
