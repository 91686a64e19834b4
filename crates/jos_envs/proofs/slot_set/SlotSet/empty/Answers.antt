use Rattle.jos_envs.proofs.Sets.{contains_none}
use Rattle.jos_envs.proofs.slot_set.SlotSet.empty.Goals as goal

pub returns : goal.returns
returns c = contains_none
