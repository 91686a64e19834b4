use Rattle.std.proofs.Common.{◌∙◌, ap}
use Rattle.jos_base.specs.Environments.{Slot}
use Rattle.jos_base.specs.SpacesState.{directories}
use Rattle.jos_space.specs.Frames.{state}
use Rattle.jos_envs.proofs.Kept.{live_within}
use Rattle.jos_sys.proofs.system.System.space.Goals as goal

pub get-requires : goal.get-requires
get-requires c = live_within c.args.self.now.table c.args.slot c.requires

pub returns-clause-in_use : goal.returns-clause-in_use
returns-clause-in_use c = λ keeps.
    ap (λ (z : Slot). directories (state c.args.self.now.spaces) z.directory) c.get.ensures ∙ keeps.spaces.in_use c.args.slot c.requires
