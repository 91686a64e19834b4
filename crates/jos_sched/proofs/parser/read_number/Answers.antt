use Rattle.std.proofs.Common.{◌∙◌, sym, arith}
use Rattle.jos_sched.proofs.Reading.{begun_step, ended_by_other, ended_by_end}
use Rattle.jos_sched.proofs.parser.read_number.Goals as goal

pub loop-end-preserved : goal.loop-end-preserved
loop-end-preserved c = record {
  least = omega arith;
  most = omega arith;
  begun =
      begun_step _ c.args.from c.loop-end.end c.loop-end.value c.saturating_mul.result c.saturating_add-value.result c.loop-end-test.true
      (sym c.is_digit.ensures ∙ c.if-is_digit.true) c.loop-end.invariant.begun c.saturating_mul.ensures c.saturating_add-value.ensures;
}

pub returns-else-is_digit-clause-value : goal.returns-else-is_digit-clause-value
returns-else-is_digit-clause-value c =
    (ended_by_other _ c.args.from c.loop-end.end c.loop-end.value c.loop-end-test.true (sym c.is_digit.ensures ∙ c.if-is_digit.false) c.loop-end.invariant.begun).value_is

pub returns-else-is_digit-clause-end : goal.returns-else-is_digit-clause-end
returns-else-is_digit-clause-end c =
    (ended_by_other _ c.args.from c.loop-end.end c.loop-end.value c.loop-end-test.true (sym c.is_digit.ensures ∙ c.if-is_digit.false) c.loop-end.invariant.begun).passed

pub returns-after-loop-end-clause-value : goal.returns-after-loop-end-clause-value
returns-after-loop-end-clause-value c = (ended_by_end _ c.args.from c.loop-end.end c.loop-end.value c.loop-end-test.false c.loop-end.invariant.begun).value_is

pub returns-after-loop-end-clause-end : goal.returns-after-loop-end-clause-end
returns-after-loop-end-clause-end c = (ended_by_end _ c.args.from c.loop-end.end c.loop-end.value c.loop-end-test.false c.loop-end.invariant.begun).passed
