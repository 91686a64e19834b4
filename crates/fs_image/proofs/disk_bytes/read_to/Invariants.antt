use Rattle.std.proofs.Common.{◌≡◌, ◌-◌, length}
use Rattle.jos_host.specs.Frames.{Unchanged, around}
use Rattle.fs_image.specs.Pieces.{IsReading, ReachesTo, Grows}
use Rattle.fs_image.proofs.disk_bytes.read_to.Given as goal

abbrev pub invariant-loop-alloc : goal.invariant-loop-alloc
invariant-loop-alloc g l = record {
  told : ReachesTo (g.H.Host.files l.initial.host) l.name (length l.bytes.items) l.initial.bytes.items l.bytes.items;
  grows : Grows l.end l.initial.bytes.items l.bytes.items;
  rest : Unchanged g.H.Host.files g.H.Host.input g.H.Host.console g.H.Host.notes l.initial.host l.host;
  asked : IsReading l.name (around g.H.Host.asked l.initial.host l.host);
  faults : g.H.Host.faults l.host ≡ g.H.Host.faults l.initial.host;
}

abbrev pub decreases-loop-alloc : goal.decreases-loop-alloc
decreases-loop-alloc g l = l.end - length l.bytes.items
