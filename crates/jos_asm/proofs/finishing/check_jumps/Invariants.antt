use Rattle.jos_asm.specs.Program.{known_place}
use Rattle.jos_asm.proofs.Passes.{Reached}
use Rattle.jos_asm.proofs.finishing.check_jumps.Given as goal

abbrev pub invariant-loop-item : goal.invariant-loop-item
invariant-loop-item l = Reached (known_place l.labels) l.labels l.item-index l.at
