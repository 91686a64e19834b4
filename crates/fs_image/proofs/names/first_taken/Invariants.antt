use Rattle.std.specs.Prelude.{slice_index}
use Rattle.std.proofs.Common.{◌≡◌, ◌≢◌, ◌<◌, ℕ, List, [], false, Bor}
use Rattle.std.specs.BTreeSet.{contains}
use Rattle.std.specs.Cmp.Lexicographic.{slice_cmp}
use Rattle.std.specs.Ordering.{nat_cmp}
use Rattle.fs_layout.specs.DiskImage.{slot_place, has_taken_name}
use Rattle.fs_image.proofs.Taken.{is_name_below}
use Rattle.fs_image.proofs.names.first_taken.Given as goal

abbrev pub invariant-loop-i : goal.invariant-loop-i
invariant-loop-i l = record {
  known : (name : Bor (List ℕ)) → (name.now ≢ []) → contains (λ x y. slice_cmp nat_cmp x.now y.now) l.names name ≡ is_name_below (slice_index l.disk.bytes.now) l.directory l.i name.now;
  free : (j : ℕ) → j < l.i → slice_index l.disk.bytes.now (slot_place (slice_index l.disk.bytes.now) l.directory j) ≢ 0 → has_taken_name (slice_index l.disk.bytes.now) l.directory j ≡ false;
}
