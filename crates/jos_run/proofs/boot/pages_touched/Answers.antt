use Rattle.std.proofs.Common.{◌∙◌, ◌+◌, ℕ, ap, sym, arith}
use Rattle.jos_elf.specs.Pages.{any_touches}
use Rattle.jos_run.proofs.Touched.{counted-none, counted-first, counted-over, counted-most}
use Rattle.jos_run.proofs.boot.pages_touched.Goals as goal

pub loop-number-init : goal.loop-number-init
loop-number-init c = record { count = sym (counted-none (λ number. any_touches number c.args.segments.now)); within = omega arith }

pub returns-then-number-clause-count : goal.returns-then-number-clause-count
returns-then-number-clause-count c =
    c.loop-number.invariant.count
    ∙ sym (counted-over (λ number. any_touches number c.args.segments.now) c.loop-number.from 851968 c.loop-number.invariant.within
    (λ k le lt. c.in-Some.ensures.others k le (let high = c.if-number.true in omega (arith, high))))

pub returns-then-number-clause-most : goal.returns-then-number-clause-most
returns-then-number-clause-most c =
    let most = counted-most (λ number. any_touches number c.args.segments.now) c.loop-number.from in
    let count = c.loop-number.invariant.count in
    let within = c.loop-number.invariant.within in
    omega (arith, most, count, within)

pub overflow_add-count : goal.overflow_add-count
overflow_add-count c =
    let most = counted-most (λ number. any_touches number c.args.segments.now) c.loop-number.from in
    let count = c.loop-number.invariant.count in
    let within = c.loop-number.invariant.within in
    omega (arith, most, count, within)

pub loop-number-preserved : goal.loop-number-preserved
loop-number-preserved c = record {
  count = ap (λ (n : ℕ). n + 1) c.loop-number.invariant.count
      ∙ sym (counted-first (λ number. any_touches number c.args.segments.now) c.loop-number.from c.in-Some.number c.in-Some.ensures);
  within = let low = c.if-number.false in omega (arith, low);
}

pub returns-clause-count : goal.returns-clause-count
returns-clause-count c =
    c.loop-number.invariant.count
    ∙ sym (counted-over (λ number. any_touches number c.args.segments.now) c.loop-number.from 851968 c.loop-number.invariant.within
    (λ k le lt. c.in_default.ensures k le))

pub returns-clause-most : goal.returns-clause-most
returns-clause-most c =
    let most = counted-most (λ number. any_touches number c.args.segments.now) c.loop-number.from in
    let count = c.loop-number.invariant.count in
    let within = c.loop-number.invariant.within in
    omega (arith, most, count, within)
