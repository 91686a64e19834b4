use Rattle.std.proofs.Common.{◌≡◌, ◌-◌, ◌≤◌}
use Rattle.jos_elf.specs.Pages.{any_touches}
use Rattle.jos_run.proofs.Touched.{counted}
use Rattle.jos_run.proofs.boot.pages_touched.Given as goal

abbrev pub invariant-loop-number : goal.invariant-loop-number
invariant-loop-number l = record {
  count : l.count ≡ counted (λ number. any_touches number l.segments) l.from;
  within : l.from ≤ 851968;
}

abbrev pub decreases-loop-number : goal.decreases-loop-number
decreases-loop-number l = 851968 - l.from
