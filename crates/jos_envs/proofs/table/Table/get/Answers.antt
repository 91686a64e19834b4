use Rattle.std.proofs.Common.{◌∙◌, ap}
use Rattle.jos_envs.specs.Table.{Kept, environments}
use Rattle.jos_envs.proofs.Kept.{read_is}
use Rattle.jos_envs.proofs.table.Table.get.Goals as goal

pub returns : goal.returns
returns c =
    read_is _ c.args.slot c.index.result.now c.self.invariant c.requires c.index.ensures
    ∙ ap (λ (k : Kept). (environments k).slots c.args.slot) c.self.view_is
