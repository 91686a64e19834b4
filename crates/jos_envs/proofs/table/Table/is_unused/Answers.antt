use Rattle.std.proofs.Common.{◌∙◌, ap, not}
use Rattle.jos_envs.specs.Table.{Kept, environments, any_live}
use Rattle.jos_envs.proofs.Kept.{unused_is}
use Rattle.jos_envs.proofs.table.Table.is_unused.Goals as goal

pub returns : goal.returns
returns c = unused_is _ c.self.invariant ∙ ap (λ (k : Kept). not (any_live (environments k))) c.self.view_is
