use Rattle.std.proofs.Common.{length, ◌-◌, ◌≤◌}
use Rattle.jos_sched.proofs.Reading.{AreRead}
use Rattle.jos_sched.proofs.parser.read_numbers.Given as goal

abbrev pub invariant-loop-at : goal.invariant-loop-at
invariant-loop-at l = record {
  within : l.at ≤ length l.text;
  read : AreRead l.text l.at l.numbers.items;
}

abbrev pub decreases-loop-at : goal.decreases-loop-at
decreases-loop-at l = length l.text - l.at
