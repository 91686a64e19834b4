-- The words that spawn puts into the record of its child's registers tell those with which a program begins, with ESP at its words.
use Rattle.std.proofs.Common.{refl}
use Rattle.jos_base.specs.SpacesState.{rising}
use Rattle.jos_base.specs.TrapFrames.{from_record}
use Rattle.lib_child.specs.RecordLaws.{RecordTells}

pub record_told : RecordTells
unfolding from_record rising
record_told esp entry_point = refl
