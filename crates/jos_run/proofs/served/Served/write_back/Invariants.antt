use Rattle.std.proofs.Common.{◌≡◌, ◌≤◌, [], true}
use Rattle.jos_host.specs.Frames.{from_to}
use Rattle.jos_host.specs.Gains.{Gains}
use Rattle.jos_base.specs.Environments.{is_live}
use Rattle.jos_base.specs.KernelState.{slot_at}
use Rattle.jos_run.specs.DiskTouches.{TouchesDiskOnly}
use Rattle.jos_run.specs.Served.{kernel_state}
use Rattle.jos_run.specs.Worlds.{beside, told_disk}
use Rattle.jos_run.proofs.WrittenBack.{IsWrittenSoFar}
use Rattle.jos_run.proofs.served.Served.write_back.Given as goal

abbrev pub invariant-loop-block : goal.invariant-loop-block
invariant-loop-block g l = record {
  written : IsWrittenSoFar l.block (beside (kernel_state l.fn.self) (told_disk (g.H.Host.files l.fn.host) l.fn.self.disk))
      (beside (kernel_state l.self) (told_disk (g.H.Host.files l.host) l.fn.self.disk));
  slot : l.self.slot ≡ 0;
  live : is_live (slot_at (kernel_state l.self) 0) ≡ true;
  calls : l.self.calls ≤ l.block;
  quiet : Gains (from_to (g.H.Host.console l.fn.host) (g.H.Host.console l.host)) [];
  disk : l.self.disk ≡ l.fn.self.disk;
  disk_only : TouchesDiskOnly l.fn.self.disk (from_to (g.H.Host.files l.fn.host) (g.H.Host.files l.host))
      (from_to (g.H.Host.asked l.fn.host) (g.H.Host.asked l.host));
  input : g.H.Host.input l.host ≡ g.H.Host.input l.fn.host;
  notes : g.H.Host.notes l.host ≡ g.H.Host.notes l.fn.host;
  faults : g.H.Host.faults l.host ≡ g.H.Host.faults l.fn.host;
}
