use Rattle.std.proofs.Common.{◌≡◌, ◌∙◌, ◌+◌, ◌++◌, ℕ, List, drop, sym, ap, arith, length, length-append, map}
use Rattle.std.specs.Int.{w32, to_le_bytes}
use Rattle.jos_base.specs.TrapFrames.{bytes_of_words}
use Rattle.jos_elf.specs.StackPage.{addresses_from}
use Rattle.lib_spawn.proofs.StackPages.{text, size-next, addresses-next, texts-end, addresses-none, more}
use Rattle.lib_spawn.proofs.stack.push_addresses.Goals as goal

pub overflow_cast-at : goal.overflow_cast-at
overflow_cast-at c =
    let next = size-next c.args.words.now c.loop-word.word-index c.loop-word-test.true in
    omega (arith, next)

pub overflow_add-at : goal.overflow_add-at
overflow_add-at c =
    let next = size-next c.args.words.now c.loop-word.word-index c.loop-word-test.true in
    omega (arith, next)

pub overflow_add-at-in-loop-word : goal.overflow_add-at-in-loop-word
overflow_add-at-in-loop-word c =
    let next = size-next c.args.words.now c.loop-word.word-index c.loop-word-test.true in
    omega (arith, next)

pub loop-word-preserved : goal.loop-word-preserved
loop-word-preserved c =
    let next = size-next c.args.words.now c.loop-word.word-index c.loop-word-test.true in
    let word = text c.args.words.now c.loop-word.word-index c.loop-word-test.true in
    let four : length c.push_word.new.page.items ≡ length c.loop-word.page.items + 4 =
    ap length c.push_word.ensures ∙ length-append c.loop-word.page.items (to_le_bytes w32 c.loop-word.at) in
    let further : c.loop-word.at + (length word + 1) ≡ c.loop-word.at + length word + 1 = omega arith in
    record {
      bytes = more c.loop-word.page.items (to_le_bytes w32 c.loop-word.at) _ c.push_word.new.page.items _ c.push_word.ensures
          (addresses-next c.args.words.now c.loop-word.word-index c.loop-word-test.true c.loop-word.at
          ∙ ap (λ (at : ℕ). to_le_bytes w32 c.loop-word.at ++ bytes_of_words
          (addresses_from at (map (λ w. w.now) (drop (c.loop-word.word-index + 1) c.args.words.now)))) (sym further))
          ∙ c.loop-word.invariant.bytes;
      below = omega (arith, next);
      room = omega arith;
    }

pub returns : goal.returns
returns c =
    let none = texts-end c.args.words.now c.loop-word.word-index c.loop-word-test.false in
    c.push_word-2.ensures
    ∙ sym (ap (λ (list : List (List ℕ)). c.loop-word.page.items ++ bytes_of_words (addresses_from c.loop-word.at list)) none
    ∙ ap (λ (bytes : List ℕ). c.loop-word.page.items ++ bytes) (addresses-none c.loop-word.at))
    ∙ c.loop-word.invariant.bytes
