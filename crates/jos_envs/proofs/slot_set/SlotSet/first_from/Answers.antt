use Rattle.std.proofs.Common.{arith}
use Rattle.jos_envs.proofs.Sets.{first_is, none_further}
use Rattle.jos_envs.proofs.slot_set.SlotSet.first_from.Goals as goal

pub returns-in-Some : goal.returns-in-Some
returns-in-Some c = first_is _ c.args.from c.loop-slot.slot c.loop-slot.invariant.least (omega arith) c.loop-slot.invariant.none c.in-Some.place c.in-Some.ensures

pub loop-slot-preserved : goal.loop-slot-preserved
loop-slot-preserved c = record {
  least = omega arith;
  most = omega arith;
  none = none_further _ c.args.from c.loop-slot.slot c.loop-slot.invariant.least (omega arith) c.loop-slot.invariant.none c.in_default.ensures;
}
