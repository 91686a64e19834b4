use Rattle.std.proofs.Common.{◌≡◌, ◌+◌, ◌*◌, ◌++◌, drop, length, map}
use Rattle.jos_base.specs.TrapFrames.{bytes_of_words}
use Rattle.jos_elf.specs.StackPage.{strings_size, addresses_from}
use Rattle.lib_spawn.proofs.stack.push_addresses.Given as goal

abbrev pub invariant-loop-word : goal.invariant-loop-word
invariant-loop-word l = record {
  bytes : l.page.items ++ bytes_of_words (addresses_from l.at (map (λ w. w.now) (drop l.word-index l.words)))
      ≡ l.fn.page.items ++ bytes_of_words (addresses_from l.first (map (λ w. w.now) l.words));
  below : l.at + strings_size (map (λ w. w.now) (drop l.word-index l.words)) ≡ l.first + strings_size (map (λ w. w.now) l.words);
  room : length l.page.items ≡ length l.fn.page.items + 4 * l.word-index;
}
