use Rattle.std.proofs.Common.{◌≡◌, ◌++◌, drop, map}
use Rattle.jos_elf.specs.StackPage.{strings_of}
use Rattle.lib_spawn.proofs.stack.push_strings.Given as goal

abbrev pub invariant-loop-word : goal.invariant-loop-word
invariant-loop-word l = record {
  bytes : l.page.items ++ strings_of (map (λ w. w.now) (drop l.word-index l.words)) ≡ l.fn.page.items ++ strings_of (map (λ w. w.now) l.words);
}
