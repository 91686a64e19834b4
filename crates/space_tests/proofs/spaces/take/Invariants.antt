use Rattle.jos_space.specs.Calls.{KeepsDirectories}
use Rattle.jos_space.specs.Frames.{state}
use Rattle.space_tests.proofs.spaces.take.Given as goal

abbrev pub invariant-loop : goal.invariant-loop
invariant-loop l = KeepsDirectories (state l.fn.spaces) (state l.spaces)
