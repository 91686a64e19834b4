use Rattle.fs_acts.proofs.IndirectTaken.{taken-indirect}
use Rattle.fs_acts.proofs.laws.taken_indirect_is_marked.Goals as goal

pub returns : goal.returns
returns c = taken-indirect
