use Rattle.std.specs.Prelude.{slice_index}
use Rattle.std.proofs.Common.{◌≡◌, Ok}
use Rattle.fs_layout.specs.DiskImage.{for_each_below, number_test, number_in_indirect}
use Rattle.fs_image.specs.Answers.{blocks_in}
use Rattle.fs_image.proofs.records.others_test.Given as goal

abbrev pub invariant-loop-i : goal.invariant-loop-i
invariant-loop-i l =
    for_each_below l.i (λ i. number_test (slice_index l.disk.bytes.now) l.place (number_in_indirect (slice_index l.disk.bytes.now) l.place i)) (blocks_in l.fn.named)
    ≡ Ok (blocks_in l.named)
