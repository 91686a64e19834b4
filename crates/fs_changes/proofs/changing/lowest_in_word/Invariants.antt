use Rattle.std.proofs.Common.{◌≡◌}
use Rattle.fs_changes.specs.ChangePlans.{lowest_in_word}
use Rattle.fs_changes.proofs.Bits.{lowest_from}
use Rattle.fs_changes.proofs.changing.lowest_in_word.Given as goal

abbrev pub invariant-loop-k : goal.invariant-loop-k
invariant-loop-k l = lowest_in_word l.count l.word l.bits ≡ lowest_from l.count l.word l.bits l.k
