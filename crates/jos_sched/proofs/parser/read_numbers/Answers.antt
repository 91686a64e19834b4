use Rattle.std.proofs.Common.{◌≡◌, ◌∙◌, ℕ, List, length, sym, ap, subst, arith}
use Rattle.jos_sched.specs.Schedule.{number_fault}
use Rattle.jos_sched.proofs.Reading.{AreRead, read_blank, read_other, read_all, number_faults, number_read}
use Rattle.jos_sched.proofs.parser.read_numbers.Goals as goal

pub returns-in-Some-clause-fault : goal.returns-in-Some-clause-fault
returns-in-Some-clause-fault c =
    let len : length c.loop-at.numbers.items ≡ c.len.result = omega (arith, c.len.ensures, c.loop-at.numbers.ok) in
    λ _. number_faults c.args.text.now c.loop-at.at c.loop-at.numbers.items c.read_number-number.result.0 c.read_number-number.result.1 c.loop-at-test.true
    (sym c.is_digit.ensures ∙ c.if-is_digit.true) c.loop-at.invariant.read c.read_number-number.ensures.value c.read_number-number.ensures.end c.in-Some.fault
    (ap (λ n. number_fault n c.loop-at.at c.read_number-number.result.0) len ∙ sym c.number_fault.ensures ∙ c.in-Some.is)

pub loop-at-preserved-in-Ok : goal.loop-at-preserved-in-Ok
loop-at-preserved-in-Ok c =
    let len : length c.loop-at.numbers.items ≡ c.len.result = omega (arith, c.len.ensures, c.loop-at.numbers.ok) in
    record {
      within = c.read_number-number.ensures.within;
      read = subst (λ (numbers : List ℕ). AreRead c.args.text.now c.read_number-number.result.1 numbers) (sym c.in-Ok.ensures.items)
          (number_read c.args.text.now c.loop-at.at c.loop-at.numbers.items c.read_number-number.result.0 c.read_number-number.result.1 c.loop-at-test.true
          (sym c.is_digit.ensures ∙ c.if-is_digit.true) c.loop-at.invariant.read c.read_number-number.ensures.value c.read_number-number.ensures.end
          (ap (λ n. number_fault n c.loop-at.at c.read_number-number.result.0) len ∙ sym c.number_fault.ensures ∙ c.in_default.is));
    }

pub loop-at-preserved : goal.loop-at-preserved
loop-at-preserved c = record {
  within = omega arith;
  read =
      read_blank c.args.text.now c.loop-at.at c.loop-at.numbers.items c.loop-at-test.true (sym c.is_digit.ensures ∙ c.if-is_digit.false)
      (sym c.is_blank.ensures ∙ c.if-is_blank.true) c.loop-at.invariant.read;
}

pub returns-else-is_blank-clause-fault : goal.returns-else-is_blank-clause-fault
returns-else-is_blank-clause-fault c =
    λ _. read_other c.args.text.now c.loop-at.at c.loop-at.numbers.items c.loop-at-test.true (sym c.is_digit.ensures ∙ c.if-is_digit.false)
    (sym c.is_blank.ensures ∙ c.if-is_blank.false) c.loop-at.invariant.read

pub returns-clause-read : goal.returns-clause-read
returns-clause-read c = read_all c.args.text.now c.loop-at.at c.loop-at.numbers.items c.loop-at-test.false c.loop-at.invariant.read
