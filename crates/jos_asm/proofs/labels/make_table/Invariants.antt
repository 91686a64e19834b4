use Rattle.jos_asm.specs.Labels.{labelled}
use Rattle.jos_asm.proofs.Passes.{Placed}
use Rattle.jos_asm.proofs.labels.make_table.Given as goal

abbrev pub invariant-loop-item : goal.invariant-loop-item
invariant-loop-item l = Placed (labelled l.labels) l.items l.item-index l.at
