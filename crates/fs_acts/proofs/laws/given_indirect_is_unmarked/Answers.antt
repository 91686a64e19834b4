use Rattle.fs_acts.proofs.Indirects.{given-indirect}
use Rattle.fs_acts.proofs.laws.given_indirect_is_unmarked.Goals as goal

pub returns : goal.returns
returns c = given-indirect
