use Rattle.std.proofs.Common.{◌≡◌, ◌+◌, ◌<◌, ℕ, length}
use Rattle.std.specs.Prelude.{slice_index}
use Rattle.fs_layout.specs.declared.numbers.TheConstants.{BLKSIZE}
use Rattle.lib_os.specs.UserCalls.{user_byte}
use Rattle.jos_run.specs.Served.{kernel_state}
use Rattle.jos_run.proofs.served.Served.page.Given as goal

-- what is read so far
abbrev pub invariant-loop-place : goal.invariant-loop-place
invariant-loop-place l = record {
  read : (k : ℕ) → k < l.place → slice_index l.bytes k ≡ user_byte (kernel_state l.fn.self) l.fn.self.slot (l.va + k);
  whole : length l.bytes ≡ BLKSIZE;
}
