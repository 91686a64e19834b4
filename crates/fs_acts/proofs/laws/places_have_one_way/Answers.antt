use Rattle.fs_acts.proofs.OneWay.{places-one_way}
use Rattle.fs_acts.proofs.laws.places_have_one_way.Goals as goal

pub returns : goal.returns
returns c = places-one_way
