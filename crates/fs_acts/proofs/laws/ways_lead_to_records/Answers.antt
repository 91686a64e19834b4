use Rattle.fs_acts.proofs.Ways.{ways-lead}
use Rattle.fs_acts.proofs.laws.ways_lead_to_records.Goals as goal

pub returns : goal.returns
returns c = ways-lead
