use Rattle.jos_envs.proofs.Kept.{live_within}
use Rattle.jos_envs.proofs.table.Table.set_extra.Goals as goal

pub get-old-requires : goal.get-old-requires
get-old-requires c = live_within c.args.self.now c.args.slot c.requires
