use Rattle.fs_make.proofs.NamesSeen.{Seen}
use Rattle.fs_make.proofs.names.first_taken.Given as goal

abbrev pub invariant-loop-place : goal.invariant-loop-place
invariant-loop-place l = Seen l.files l.place l.before.keys
