use Rattle.std.proofs.Common.{◌∙◌, sym, Some, None, arith}
use Rattle.jos_script.specs.ShellScript.{new_job}
use Rattle.jos_script.proofs.Commands.{passes, passes-piped, passes-last, behind-last}
use Rattle.jos_script.proofs.job.next_job.Goals as goal

pub loop-piped-init : goal.loop-piped-init
loop-piped-init c = record { passed = λ last. passes c.args.line.now last c.args.number; behind = omega arith; within = omega arith }

pub returns-then-not-piped-clause-next : goal.returns-then-not-piped-clause-next
returns-then-not-piped-clause-next c = λ last.
    passes-last c.args.line.now last c.loop-piped.next c.in-Some.ensures.there (sym c.in-Some.ensures.told ∙ c.if-not-piped.true)
    ∙ sym (c.loop-piped.invariant.passed last)

pub loop-piped-preserved : goal.loop-piped-preserved
loop-piped-preserved c = record {
  passed = λ last. c.loop-piped.invariant.passed last
      ∙ passes-piped c.args.line.now last c.loop-piped.next c.in-Some.ensures.there (sym c.in-Some.ensures.told ∙ c.if-not-piped.false);
  behind = omega arith;
  within = omega (arith, c.in-Some.ensures.few);
}

pub returns-clause-next : goal.returns-clause-next
returns-clause-next c = λ last.
    behind-last c.args.line.now last c.loop-piped.next (Some new_job) c.in_default.ensures.behind
    ∙ sym (c.loop-piped.invariant.passed last ∙ behind-last c.args.line.now last c.loop-piped.next None c.in_default.ensures.behind)
