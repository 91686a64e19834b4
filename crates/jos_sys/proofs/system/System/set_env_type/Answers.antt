use Rattle.std.proofs.Common.{refl}
use Rattle.jos_envs.proofs.Kept.{live_within}
use Rattle.jos_sys.proofs.Keeping.{keeps_slot, keeps_seen}
use Rattle.jos_sys.proofs.Showing.{others_shown}
use Rattle.jos_sys.proofs.system.System.set_env_type.Goals as goal

pub show-requires : goal.show-requires
show-requires c = live_within c.args.self.now.table c.args.slot c.requires

pub returns-clause-spaces : goal.returns-clause-spaces
returns-clause-spaces c = λ keeps. record {
  spaces = keeps_seen _ _ _ c.show.ensures.state (keeps_slot _ _ _ c.args.slot _ c.set_env_type.ensures.set refl refl keeps.spaces);
  records = c.show.ensures.records (others_shown _ _ c.args.slot _ c.set_env_type.ensures.set _ keeps.records);
}
