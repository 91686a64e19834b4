use Rattle.std.proofs.Common.{length, ◌-◌, ◌≤◌}
use Rattle.jos_sched.proofs.Reading.{IsBegun}
use Rattle.jos_sched.proofs.parser.read_number.Given as goal

abbrev pub invariant-loop-end : goal.invariant-loop-end
invariant-loop-end l = record {
  least : l.from ≤ l.end;
  most : l.end ≤ length l.text;
  begun : IsBegun l.text l.from l.end l.value;
}

abbrev pub decreases-loop-end : goal.decreases-loop-end
decreases-loop-end l = length l.text - l.end
