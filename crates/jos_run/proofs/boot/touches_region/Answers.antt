use Rattle.jos_run.proofs.Touched.{region-touched, region-untouched}
use Rattle.jos_run.proofs.boot.touches_region.Goals as goal

pub returns-in-Some : goal.returns-in-Some
returns-in-Some c = region-touched c.args.segments.now c.args.region c.in-Some.number c.in-Some.ensures

pub returns-in-None : goal.returns-in-None
returns-in-None c = region-untouched c.args.segments.now c.args.region c.in-None.ensures
