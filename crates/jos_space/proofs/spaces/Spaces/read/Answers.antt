use Rattle.std.proofs.Common.{Ok, ◌∙◌, ap}
use Rattle.jos_base.specs.UserMemory.{byte_or_fault, read_byte}
use Rattle.jos_space.specs.Frames.{state, records}
use Rattle.jos_space.proofs.spaces.Spaces.read.Goals as goal

pub returns-in-Ok : goal.returns-in-Ok
unfolding read_byte
returns-in-Ok c =
    ap (λ b. Ok b) c.byte_of.ensures
    ∙ ap (byte_or_fault (records c.args.self.now) (state c.args.self.now) c.args.space.directory.0 c.args.va) c.in-Ok.ensures.result

pub returns-in-Err : goal.returns-in-Err
unfolding read_byte
returns-in-Err c = ap (byte_or_fault (records c.args.self.now) (state c.args.self.now) c.args.space.directory.0 c.args.va) c.in-Err.ensures.result
