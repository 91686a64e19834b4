use Rattle.std.proofs.Common.{◌≤◌, vec_capacity}
use Rattle.jos_asm.specs.Program.{length_of_all, known_place}
use Rattle.jos_asm.proofs.Passes.{Written}
use Rattle.jos_asm.proofs.finishing.spell.Given as goal

abbrev pub invariant-loop-item : goal.invariant-loop-item
invariant-loop-item l = record {
  encoded : Written l.base (known_place l.labels) l.labels l.item-index l.code.items;
  room : length_of_all l.labels ≤ vec_capacity l.code;
}
