use Rattle.std.proofs.Common.{◌≡◌, ◌≤◌, ◌-◌}
use Rattle.jos_host.specs.Frames.{from_to}
use Rattle.jos_run.specs.DiskTouches.{TouchesDiskOnly}
use Rattle.jos_run.specs.Running.{Holds, Went, disks_of}
use Rattle.jos_run.proofs.library_run.LibraryRun.go.Given as goal

abbrev pub invariant-loop-left : goal.invariant-loop-left
invariant-loop-left g l = record {
  went : Went (l.budget - l.left) (from_to l.fn.self l.self)
      (disks_of (from_to (g.H.Host.files l.fn.host) (g.H.Host.files l.host)) (from_to l.fn.self l.self))
      (from_to (g.H.Host.console l.fn.host) (g.H.Host.console l.host));
  within : l.left ≤ l.budget;
  holds : Holds l.self;
  disk : l.self.served.disk ≡ l.fn.self.served.disk;
  disk_only : TouchesDiskOnly l.fn.self.served.disk (from_to (g.H.Host.files l.fn.host) (g.H.Host.files l.host))
      (from_to (g.H.Host.asked l.fn.host) (g.H.Host.asked l.host));
  input : g.H.Host.input l.host ≡ g.H.Host.input l.fn.host;
  notes : g.H.Host.notes l.host ≡ g.H.Host.notes l.fn.host;
  faults : g.H.Host.faults l.host ≡ g.H.Host.faults l.fn.host;
}

abbrev pub decreases-loop-left : goal.decreases-loop-left
decreases-loop-left g l = l.left
