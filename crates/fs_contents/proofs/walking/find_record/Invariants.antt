use Rattle.std.specs.Prelude.{slice_index}
use Rattle.fs_contents.proofs.Ways.{NoneBefore}
use Rattle.fs_contents.proofs.walking.find_record.Given as goal

abbrev pub invariant-loop-i : goal.invariant-loop-i
invariant-loop-i l = NoneBefore (slice_index l.disk.bytes.now) l.directory l.name l.i
