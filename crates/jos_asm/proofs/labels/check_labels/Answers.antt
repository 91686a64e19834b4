use Rattle.std.proofs.lemmas.Result.{err_from_is_err_and}
use Rattle.std.proofs.Common.{take}
use Rattle.jos_asm.specs.Program.{length_of_all, place_in}
use Rattle.jos_asm.proofs.Passes.{before_start, before_more, placed_told, once_end}
use Rattle.jos_asm.proofs.labels.check_labels.Goals as goal

pub loop-place-init : goal.loop-place-init
loop-place-init c = before_start c.args.items.now

pub returns-in_err-check_label-clause-fault : goal.returns-in_err-check_label-clause-fault
returns-in_err-check_label-clause-fault c =
    let p = err_from_is_err_and c.from_residual.result c.from_residual.ensures.1 in
    rw (p.1, p.2) (placed_told (place_in (take c.loop-place.place c.args.items.now)) c.args.items.now c.loop-place.place (length_of_all (take c.loop-place.place c.args.items.now)) c.loop-place.invariant c.loop-place-test.true _ c.index-items-place.result c.index-items-place.is c.in_err-check_label.ensures.fault)

pub loop-place-preserved : goal.loop-place-preserved
loop-place-preserved c = before_more c.args.items.now c.loop-place.place c.index-items-place.result c.index-items-place.is c.loop-place-test.true c.loop-place.invariant c.in_ok-check_label.ensures.once

pub returns-clause-once : goal.returns-clause-once
returns-clause-once c =
    once_end c.args.items.now c.loop-place.place (place_in (take c.loop-place.place c.args.items.now)) (length_of_all (take c.loop-place.place c.args.items.now)) c.loop-place-test.false c.loop-place.invariant
