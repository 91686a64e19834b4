use Rattle.jos_asm.proofs.Passes.{Sought}
use Rattle.jos_asm.proofs.labels.place_in.Given as goal

abbrev pub invariant-loop-item : goal.invariant-loop-item
invariant-loop-item l = Sought l.name l.items l.item-index l.at
