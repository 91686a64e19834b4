use Rattle.std.specs.Prelude.{slice_index}
use Rattle.std.proofs.Common.{◌≡◌, ◌≤◌}
use Rattle.jos_base.specs.Counting.{total}
use Rattle.jos_base.specs.Environments.{bit_of}
use Rattle.fs_layout.specs.DiskImage.{is_marked_free}
use Rattle.fs_image.proofs.blocks.free_blocks.Given as goal

abbrev pub invariant-loop-block : goal.invariant-loop-block
invariant-loop-block l = record {
  counted : l.free ≡ total l.block (λ block. bit_of (is_marked_free (slice_index l.disk.bytes.now) block));
  few : l.free ≤ l.block;
}
