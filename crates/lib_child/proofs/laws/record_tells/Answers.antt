use Rattle.lib_child.proofs.RecordTold.{record_told}
use Rattle.lib_child.proofs.laws.record_tells.Goals as goal

pub returns : goal.returns
returns c = record_told
