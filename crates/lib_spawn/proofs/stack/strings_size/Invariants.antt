use Rattle.std.proofs.Common.{◌≡◌, ◌+◌, ◌≤◌, drop, min, map}
use Rattle.jos_elf.specs.StackPage.{strings_size}
use Rattle.lib_spawn.proofs.stack.strings_size.Given as goal

abbrev pub invariant-loop-word : goal.invariant-loop-word
invariant-loop-word l = record {
  sum : min (l.size + strings_size (map (λ w. w.now) (drop l.word-index l.words))) 4097 ≡ min (strings_size (map (λ w. w.now) l.words)) 4097;
  most : l.size ≤ 4097;
}
