use Rattle.fs_acts.proofs.ComposedLaws.{go-on}
use Rattle.fs_acts.proofs.laws.acts_go_on.Goals as goal

pub returns : goal.returns
returns c = go-on
