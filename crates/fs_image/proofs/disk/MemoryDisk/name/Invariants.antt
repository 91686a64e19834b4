use Rattle.std.proofs.Common.{◌≤◌, ◌+◌, ◌<◌, length}
use Rattle.fs_image.proofs.NameBytes.{IsNamedBy}
use Rattle.fs_image.proofs.disk.MemoryDisk.name.Given as goal

abbrev pub invariant-loop-len : goal.invariant-loop-len
invariant-loop-len l = record {
  named : IsNamedBy l.self.bytes.now l.place l.len;
  within : 0 < l.len → l.place + l.len ≤ length l.self.bytes.now;
}
