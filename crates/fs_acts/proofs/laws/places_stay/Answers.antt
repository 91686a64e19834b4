use Rattle.fs_acts.proofs.ComposedLaws.{all-stay}
use Rattle.fs_acts.proofs.laws.places_stay.Goals as goal

pub returns : goal.returns
returns c = all-stay
