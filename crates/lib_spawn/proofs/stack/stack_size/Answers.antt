use Rattle.std.proofs.Common.{arith, map}
use Rattle.jos_elf.specs.StackPage.{stack_size}
use Rattle.lib_spawn.proofs.StackPages.{length-texts, fits}
use Rattle.lib_spawn.proofs.stack.stack_size.Goals as goal

pub overflow_cast-result : goal.overflow_cast-result
overflow_cast-result c =
    let h = fits (map (λ w. w.now) c.args.words.now) c.requires in omega (arith, h.few, length-texts c.args.words.now)

pub overflow_add-result-2 : goal.overflow_add-result-2
overflow_add-result-2 c =
    let h = fits (map (λ w. w.now) c.args.words.now) c.requires in omega (arith, h.few, length-texts c.args.words.now)

pub overflow_mul-result-2 : goal.overflow_mul-result-2
overflow_mul-result-2 c =
    let h = fits (map (λ w. w.now) c.args.words.now) c.requires in omega (arith, h.few, length-texts c.args.words.now)

pub overflow_add-result-3 : goal.overflow_add-result-3
overflow_add-result-3 c =
    let h = fits (map (λ w. w.now) c.args.words.now) c.requires in omega (arith, h.few, length-texts c.args.words.now)

pub overflow_add-result-4 : goal.overflow_add-result-4
overflow_add-result-4 c =
    let h = fits (map (λ w. w.now) c.args.words.now) c.requires in omega (arith, h.few, length-texts c.args.words.now)

pub returns-clause-size : goal.returns-clause-size
unfolding stack_size
returns-clause-size c =
    let h = fits (map (λ w. w.now) c.args.words.now) c.requires in omega (arith, h.strings, length-texts c.args.words.now)

pub returns-clause-most : goal.returns-clause-most
unfolding stack_size
returns-clause-most c =
    let h = fits (map (λ w. w.now) c.args.words.now) c.requires in omega (arith, h.size, h.strings, length-texts c.args.words.now)
