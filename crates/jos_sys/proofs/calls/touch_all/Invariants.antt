use Rattle.std.proofs.Common.{◌≡◌}
use Rattle.jos_space.specs.Frames.{state, records}
use Rattle.jos_sys.proofs.Buffers.{IsTouching}
use Rattle.jos_sys.proofs.calls.touch_all.Given as goal

abbrev pub invariant-loop : goal.invariant-loop
invariant-loop l =
    IsTouching (state l.initial.spaces) (state l.spaces) l.space.directory.0 l.va l.len l.counter l.at
    × (records l.spaces ≡ records l.initial.spaces)
