use Rattle.jos_asm.proofs.Passes.{Before}
use Rattle.jos_asm.proofs.labels.check_labels.Given as goal

abbrev pub invariant-loop-place : goal.invariant-loop-place
invariant-loop-place l = Before l.items l.place
