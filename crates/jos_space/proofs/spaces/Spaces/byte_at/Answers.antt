use Rattle.std.proofs.Common.{◌∙◌, ap}
use Rattle.jos_base.specs.UserMemory.{byte_at, byte_or_zero}
use Rattle.jos_space.specs.Frames.{state, records}
use Rattle.jos_space.proofs.spaces.Spaces.byte_at.Goals as goal

pub returns-in-Err : goal.returns-in-Err
unfolding byte_at
returns-in-Err c = ap (byte_or_zero (records c.args.self.now) (state c.args.self.now) c.args.space.directory.0 c.args.va) c.in-Err.ensures.result

pub returns-in-Ok : goal.returns-in-Ok
unfolding byte_at
returns-in-Ok c =
    c.byte_of.ensures
    ∙ ap (byte_or_zero (records c.args.self.now) (state c.args.self.now) c.args.space.directory.0 c.args.va) c.in-Ok.ensures.result
