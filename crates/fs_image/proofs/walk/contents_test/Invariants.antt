use Rattle.std.specs.Prelude.{slice_index}
use Rattle.std.proofs.Common.{◌≡◌, ◌≤◌, length}
use Rattle.fs_layout.specs.DiskImage as image
use Rattle.fs_image.specs.Answers.{blocks_in}
use Rattle.fs_image.specs.Walk.{rest_of_way, AreFrames, steps_left}
use Rattle.fs_image.proofs.walk.contents_test.Given as goal

abbrev pub invariant-loop-frame : goal.invariant-loop-frame
invariant-loop-frame l = record {
  exact :
      image.contents_test l.depth (slice_index l.disk.bytes.now) l.directory (blocks_in l.fn.named)
      ≡ rest_of_way (slice_index l.disk.bytes.now) l.depth l.way.items (blocks_in l.named);
  deep : length l.way.items ≤ l.depth;
  frames : AreFrames (slice_index l.disk.bytes.now) l.way.items;
}

abbrev pub decreases-loop-frame : goal.decreases-loop-frame
decreases-loop-frame l = steps_left l.depth l.way.items
