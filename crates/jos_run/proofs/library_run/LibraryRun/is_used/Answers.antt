use Rattle.std.proofs.Common.{sym, arith, true, ◌≡◌, ◌∙◌, ◌==◌}
use Rattle.std.specs.Prelude.{not}
use Rattle.std.proofs.lemmas.Bool.Decides.{nat_tests}
use Rattle.jos_run.specs.Running.{state_of}
use Rattle.jos_run.proofs.RunEnds.{next_other}
use Rattle.jos_run.proofs.library_run.LibraryRun.is_used.Goals as goal

pub returns-then-slot-ne0 : goal.returns-then-slot-ne0
returns-then-slot-ne0 c =
    let test : not (c.in-Some.slot == 0) ≡ true = grind (arith, nat_tests, c.if-slot-ne0.true) in
    test ∙ sym (next_other (state_of c.args.self.now) c.in-Some.slot (sym c.requires ∙ c.in-Some.is) c.if-slot-ne0.true)
