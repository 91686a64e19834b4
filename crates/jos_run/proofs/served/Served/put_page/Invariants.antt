use Rattle.std.proofs.Common.{◌≡◌}
use Rattle.jos_run.specs.Served.{kernel_state}
use Rattle.jos_run.proofs.BlockMoves.{IsPutting}
use Rattle.jos_run.proofs.served.Served.put_page.Given as goal

abbrev pub invariant-loop-place : goal.invariant-loop-place
invariant-loop-place l = record {
  putting : IsPutting (kernel_state l.fn.self) (kernel_state l.self) l.fn.self.slot l.va l.place l.bytes;
  slot : l.self.slot ≡ l.fn.self.slot;
  calls : l.self.calls ≡ l.fn.self.calls;
  written : l.self.written ≡ l.fn.self.written;
  disk : l.self.disk ≡ l.fn.self.disk;
}
