use Rattle.std.proofs.Common.{◌≡◌, ◌≤◌, ◌-◌, length}
use Rattle.jos_host.specs.Frames.{Unchanged}
use Rattle.jos_cli.specs.InputTaken.{HasTaken}
use Rattle.jos_cli.proofs.input.take_input.Given as goal

abbrev pub invariant-loop-filled : goal.invariant-loop-filled
invariant-loop-filled g l = record {
  taken : HasTaken (g.H.Host.input l.fn.host) (g.H.Host.input l.host) l.buf l.filled;
  within : l.filled ≤ length l.buf;
  rest : Unchanged g.H.Host.files g.H.Host.asked g.H.Host.console g.H.Host.notes l.fn.host l.host;
  faults : g.H.Host.faults l.host ≡ g.H.Host.faults l.fn.host;
}

abbrev pub decreases-loop-filled : goal.decreases-loop-filled
decreases-loop-filled g l = length l.buf - l.filled
