use Rattle.jos_envs.proofs.Kept.{live_within}
use Rattle.jos_envs.proofs.table.Table.registers.Goals as goal

pub get-requires : goal.get-requires
get-requires c = live_within c.args.self.now c.args.slot c.requires
