use Rattle.std.proofs.Common.{◌≡◌, ◌≤◌}
use Rattle.fs_changes.proofs.Bits.{free_below}
use Rattle.fs_changes.proofs.changing.free_in_word.Given as goal

abbrev pub invariant-loop-k : goal.invariant-loop-k
invariant-loop-k l = record { free : l.free ≡ free_below l.count l.word l.bits l.k; few : l.free ≤ l.k }
