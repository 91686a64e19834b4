use Rattle.std.proofs.Common.{◌≡◌}
use Rattle.jos_run.specs.Boot.{touches_region}
use Rattle.jos_run.proofs.Touched.{counted}
use Rattle.jos_run.proofs.boot.regions_touched.Given as goal

abbrev pub invariant-loop-region : goal.invariant-loop-region
invariant-loop-region l = record { count : l.count ≡ counted (touches_region l.segments) l.region }
