use Rattle.std.proofs.Common.{ap, arith}
use Rattle.jos_elf.specs.StackPage.{strings_size}
use Rattle.lib_spawn.proofs.StackPages.{size-next, texts-end, none-size}
use Rattle.lib_spawn.proofs.stack.strings_size.Goals as goal

pub loop-word-preserved : goal.loop-word-preserved
loop-word-preserved c =
    let next = size-next c.args.words.now c.loop-word.word-index c.loop-word-test.true in
    record { sum = omega (arith, next); most = omega arith }

pub returns : goal.returns
returns c =
    let none = ap strings_size (texts-end c.args.words.now c.loop-word.word-index c.loop-word-test.false) in
    omega (arith, none, none-size)
