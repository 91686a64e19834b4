use Rattle.std.proofs.Common.{◌≡◌, ◌∙◌, ◌+◌, ◌*◌, ◌/◌, ℕ, sym, ap, arith, length, nat_le, map}
use Rattle.jos_elf.specs.StackPage.{strings_size, stack_size}
use Rattle.lib_spawn.proofs.StackPages.{length-texts, unfit-none, unfit-many, unfit-size, strings-within, fit-by_size}
use Rattle.lib_spawn.proofs.stack.fits_stack.Goals as goal
use Rattle.lib_spawn.proofs.stack.fits_stack.Goals.{then-count-eq0-via-then-count-eq0}
use Rattle.lib_spawn.proofs.stack.fits_stack.Goals.{then-count-eq0-via-else-count-eq0+then-count-gt-ARGS_MAX}
use Rattle.lib_spawn.proofs.stack.fits_stack.Goals.{then-count-eq0-via-else-count-eq0+else-count-gt-ARGS_MAX+then-size}

pub returns-then-count-eq0 : goal.returns-then-count-eq0
returns-then-count-eq0 c =
    let same = length-texts c.args.words.now in
    elim c.then-count-eq0.branch [
      | then-count-eq0-via-then-count-eq0 w ↦ sym (unfit-none (map (λ w. w.now) c.args.words.now) (omega (arith, same)))
      | then-count-eq0-via-else-count-eq0+then-count-gt-ARGS_MAX w ↦ sym (unfit-many (map (λ w. w.now) c.args.words.now) (omega (arith, same)))
      | then-count-eq0-via-else-count-eq0+else-count-gt-ARGS_MAX+then-size w ↦
          sym (unfit-size (map (λ w. w.now) c.args.words.now) (omega (arith, strings-within (map (λ w. w.now) c.args.words.now), c.strings_size-size.ensures)))
    ]

pub returns : goal.returns
unfolding stack_size
returns c =
    let same = length-texts c.args.words.now in
    let exact : c.strings_size-size.result ≡ strings_size (map (λ w. w.now) c.args.words.now) = omega arith in
    let size : (c.strings_size-size.result + 3) / 4 * 4 + 4 * (length c.args.words.now + 1) + 8 ≡ stack_size
    (map (λ w. w.now) c.args.words.now) = omega (arith, same) in
    ap (λ (n : ℕ). nat_le n 4096) size ∙ fit-by_size (map (λ w. w.now) c.args.words.now) (omega (arith, same)) (omega (arith, same))
