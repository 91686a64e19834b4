use Rattle.std.proofs.Common.{Ok}
use Rattle.jos_host.specs.declared.host.Failed.{Failed}
use Rattle.jos_cli.specs.Outside.{outside}
use Rattle.jos_cli.specs.Effects.{WritesNotes}
use Rattle.jos_cli.proofs.NotesWritten.{HasTraced}
use Rattle.jos_cli.proofs.notes.write_trace.Given as goal

abbrev pub invariant-loop-place : goal.invariant-loop-place
invariant-loop-place g l = record {
  traced : HasTraced l.trace.items l.place (g.H.Host.notes l.fn.host) (g.H.Host.notes l.host);
  did : WritesNotes {T = Unit {0}} {E = Failed} (Ok tt) (outside g.H.Host l.fn.host l.host);
}
