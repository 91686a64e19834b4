use Rattle.std.proofs.Common.{subst}
use Rattle.jos_envs.specs.SlotSets.{IsFirstSlot}
use Rattle.jos_envs.specs.Table.{Kept, environments, may_run}
use Rattle.jos_envs.proofs.Kept.{runnable_is}
use Rattle.jos_envs.proofs.table.Table.first_runnable.Goals as goal

pub returns : goal.returns
returns c =
    subst (λ (k : Kept). IsFirstSlot (may_run (environments k)) c.args.from c.first_from.result) c.self.view_is
    (runnable_is _ c.args.from c.first_from.result c.self.invariant c.first_from.ensures)
