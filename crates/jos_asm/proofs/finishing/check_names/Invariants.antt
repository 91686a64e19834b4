use Rattle.std.proofs.Common.{◌≡◌, drop}
use Rattle.jos_asm.specs.Program.{place_in, first_unknown}
use Rattle.jos_asm.proofs.finishing.check_names.Given as goal

-- the first unknown name is among those to come
abbrev pub invariant-loop-item : goal.invariant-loop-item
invariant-loop-item l = first_unknown (place_in l.labels) (drop l.item-index l.labels) ≡ first_unknown (place_in l.labels) l.labels
