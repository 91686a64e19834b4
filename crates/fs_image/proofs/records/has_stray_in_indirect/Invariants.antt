use Rattle.std.proofs.Common.{◌≡◌, ◌+◌, false}
use Rattle.std.specs.Prelude.{◌&&◌, ◌==◌, not, nat_le, slice_index}
use Rattle.fs_layout.specs.declared.numbers.TheConstants.{NDIRECT}
use Rattle.jos_base.specs.Below.{some_below}
use Rattle.fs_layout.specs.DiskImage.{blocks_needed, number_in_indirect}
use Rattle.fs_image.proofs.records.has_stray_in_indirect.Given as goal

abbrev pub invariant-loop-i : goal.invariant-loop-i
invariant-loop-i l =
    some_below l.i (λ i. nat_le (blocks_needed (slice_index l.disk.bytes.now) l.place) (NDIRECT + i) && not (number_in_indirect (slice_index l.disk.bytes.now) l.place i == 0)) ≡ false
