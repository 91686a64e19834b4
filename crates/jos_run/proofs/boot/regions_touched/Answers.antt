use Rattle.std.proofs.Common.{◌≡◌, ◌∙◌, ap, sym, arith}
use Rattle.jos_base.specs.Environments.{bit_of}
use Rattle.jos_run.specs.Boot.{touches_region}
use Rattle.jos_run.proofs.Touched.{counted-none, counted-next, counted-most}
use Rattle.jos_run.proofs.boot.regions_touched.Goals as goal
use Rattle.jos_run.proofs.boot.regions_touched.Goals.{then-touches_region, else-touches_region}

pub loop-region-init : goal.loop-region-init
loop-region-init c = record { count = sym (counted-none (touches_region c.args.segments.now)) }

pub overflow_add-count : goal.overflow_add-count
overflow_add-count c =
    let most = counted-most (touches_region c.args.segments.now) c.loop-region.region in
    omega (arith, most, c.loop-region.invariant.count)

pub loop-region-preserved : goal.loop-region-preserved
loop-region-preserved c =
    let next = counted-next (touches_region c.args.segments.now) c.loop-region.region in
    elim c.if-touches_region.branch [
      | then-touches_region w ↦
          let one : bit_of (touches_region c.args.segments.now c.loop-region.region) ≡ 1 = ap bit_of (sym c.touches_region.ensures
          ∙ w.if-touches_region.true) in
          record { count = omega (arith, one, next, w.count-is, c.loop-region.invariant.count) }
      | else-touches_region w ↦
          let none : bit_of (touches_region c.args.segments.now c.loop-region.region) ≡ 0 = ap bit_of (sym c.touches_region.ensures
          ∙ w.if-touches_region.false) in
          record { count = omega (arith, none, next, w.count-is, c.loop-region.invariant.count) }
    ]

pub returns-clause-most : goal.returns-clause-most
returns-clause-most c =
    let most = counted-most (touches_region c.args.segments.now) c.loop-region.region in
    omega (arith, most, c.loop-region.invariant.count)
