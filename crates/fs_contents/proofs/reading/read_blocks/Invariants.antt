use Rattle.std.proofs.Common.{◌≡◌}
use Rattle.std.specs.Prelude.{slice_index}
use Rattle.jos_base.specs.Below.{values_below}
use Rattle.fs_layout.specs.DiskFiles.{file_byte}
use Rattle.fs_contents.proofs.Blocks.{in_blocks}
use Rattle.fs_contents.proofs.reading.read_blocks.Given as goal

abbrev pub invariant-loop-i : goal.invariant-loop-i
invariant-loop-i l = l.bytes.items ≡ values_below (in_blocks l.size l.i) (file_byte (slice_index l.image) l.place)
