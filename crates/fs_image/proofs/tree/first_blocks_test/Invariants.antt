use Rattle.std.specs.Prelude.{slice_index}
use Rattle.std.proofs.Common.{◌≡◌, Ok}
use Rattle.fs_layout.specs.DiskImage.{Blocks, for_each_below}
use Rattle.fs_image.proofs.Image.{in_use}
use Rattle.fs_image.proofs.tree.first_blocks_test.Given as goal

abbrev pub invariant-loop-block : goal.invariant-loop-block
invariant-loop-block l = (n : Blocks) → for_each_below l.block (in_use (slice_index l.disk.bytes.now)) n ≡ Ok n
