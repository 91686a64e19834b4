use Rattle.jos_asm.proofs.Passes.{Counted}
use Rattle.jos_asm.proofs.lengths.length_of_all.Given as goal

abbrev pub invariant-loop-item : goal.invariant-loop-item
invariant-loop-item l = Counted l.items l.item-index l.len
