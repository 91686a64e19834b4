use Rattle.std.proofs.Common.{◌≡◌, ℕ, ◌<◌, ◌≤◌, ◌-◌, false}
use Rattle.jos_envs.specs.SlotSets.{contains}
use Rattle.jos_envs.proofs.slot_set.SlotSet.first_from.Given as goal

abbrev pub decreases-loop-slot : goal.decreases-loop-slot
decreases-loop-slot l = 1024 - l.slot

abbrev pub invariant-loop-slot : goal.invariant-loop-slot
invariant-loop-slot l = record {
  least : l.from ≤ l.slot;
  most : l.slot ≤ 1024;
  none : (slot : ℕ) → l.from ≤ slot → slot < l.slot → contains l.self.words slot ≡ false;
}
