use Rattle.std.proofs.Common.{◌≡◌}
use Rattle.std.specs.Prelude.{slice_index}
use Rattle.fs_contents.specs.Walks.{entries_below}
use Rattle.fs_contents.proofs.reading.read_entries.Given as goal

abbrev pub invariant-loop-i : goal.invariant-loop-i
invariant-loop-i l = l.entries.items ≡ entries_below (slice_index l.image) l.directory l.i
