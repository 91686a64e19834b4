use Rattle.std.proofs.Common.{◌≡◌}
use Rattle.jos_host.specs.Frames.{from_to}
use Rattle.jos_run.specs.Closing.{HasClosedSo}
use Rattle.jos_run.specs.DiskTouches.{TouchesDiskOnly}
use Rattle.jos_run.specs.Worlds.{told_disk}
use Rattle.jos_run.proofs.served.Served.finish_request.Given as goal

abbrev pub invariant-loop-steps : goal.invariant-loop-steps
invariant-loop-steps g l = record {
  closed : HasClosedSo l.steps l.fn.turn l.fn.first_refused l.first_refused (from_to l.fn.self l.self)
      (from_to (told_disk (g.H.Host.files l.fn.host) l.fn.self.disk) (told_disk (g.H.Host.files l.host) l.self.disk))
      (from_to (g.H.Host.console l.fn.host) (g.H.Host.console l.host));
  slot : l.self.slot ≡ 0;
  disk : l.self.disk ≡ l.fn.self.disk;
  disk_only : TouchesDiskOnly l.fn.self.disk (from_to (g.H.Host.files l.fn.host) (g.H.Host.files l.host))
      (from_to (g.H.Host.asked l.fn.host) (g.H.Host.asked l.host));
  input : g.H.Host.input l.host ≡ g.H.Host.input l.fn.host;
  notes : g.H.Host.notes l.host ≡ g.H.Host.notes l.fn.host;
  faults : g.H.Host.faults l.host ≡ g.H.Host.faults l.fn.host;
}
