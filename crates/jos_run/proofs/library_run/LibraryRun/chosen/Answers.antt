use Rattle.std.proofs.Common.{◌≡◌, ◌∙◌, ◌<◌, false, sym, arith, vec_len}
use Rattle.std.specs.Prelude.{nat_le}
use Rattle.std.proofs.lemmas.Bool.Decides.{nat_tests}
use Rattle.jos_base.specs.declared.numbers.TheConstants.{TURN_MAX}
use Rattle.jos_kernel.specs.Books.{made}
use Rattle.jos_run.proofs.RunEnds.{chosen_next}
use Rattle.jos_run.proofs.library_run.LibraryRun.chosen.Goals as goal

pub returns-else-is_full-clause-slot : goal.returns-else-is_full-clause-slot
returns-else-is_full-clause-slot c =
    let none : made c.args.self.now.book ≡ 0 = omega (arith, c.made.ensures, c.if-made-gt0.false) in
    let full : nat_le TURN_MAX (vec_len c.args.self.now.book.turns) ≡ false = sym c.is_full.ensures ∙ c.if-is_full.false in
    let room : vec_len c.args.self.now.book.turns < TURN_MAX = grind (arith, nat_tests) in
    chosen_next c.args.self.now c.in-Some.slot none (sym c.next_slot-next.ensures ∙ c.in-Some.is)
    (sym c.is_used.ensures ∙ c.if-not-is_used.false) room
