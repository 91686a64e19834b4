use Rattle.std.proofs.Common.{◌≤◌, ◌+◌, arith}
use Rattle.std.proofs.lemmas.Result.{err_from_is_err_and}
use Rattle.jos_asm.specs.declared.limits.TheConstants.{CODE_MAX}
use Rattle.jos_asm.specs.Items.{length_of}
use Rattle.jos_asm.specs.Labels.{labelled}
use Rattle.jos_asm.proofs.Passes.{placed_more, placed_fault, placed_room, placed_end, once_end}
use Rattle.jos_asm.proofs.labels.make_table.Goals as goal

pub returns-in_err-add_label-clause-fault : goal.returns-in_err-add_label-clause-fault
returns-in_err-add_label-clause-fault c =
    let p = err_from_is_err_and c.from_residual.result c.from_residual.ensures.1 in
    rw (p.1, p.2) (placed_fault (labelled c.loop-item.labels) c.args.items.now c.loop-item.item-index c.loop-item.at c.loop-item.invariant c.loop-item-test.true _ c.item-item.result c.item-item.is c.in_err-add_label.ensures.fault)

pub overflow_cast-at : goal.overflow_cast-at
overflow_cast-at c =
    let room : c.loop-item.at + length_of c.item-item.result ≤ CODE_MAX = placed_room (labelled c.loop-item.labels) c.args.items.now c.loop-item.item-index c.loop-item.at c.loop-item.invariant c.loop-item-test.true c.item-item.result c.item-item.is c.requires.small in
    let len = c.length_of.ensures.len in
    omega (arith, room, len)

pub overflow_add-at : goal.overflow_add-at
overflow_add-at c =
    let room : c.loop-item.at + length_of c.item-item.result ≤ CODE_MAX = placed_room (labelled c.loop-item.labels) c.args.items.now c.loop-item.item-index c.loop-item.at c.loop-item.invariant c.loop-item-test.true c.item-item.result c.item-item.is c.requires.small in
    let len = c.length_of.ensures.len in
    omega (arith, room, len)

pub loop-item-preserved : goal.loop-item-preserved
loop-item-preserved c = rw c.length_of.ensures.len
    (placed_more (labelled c.loop-item.labels) c.args.items.now c.loop-item.item-index c.loop-item.at c.loop-item.invariant c.loop-item-test.true
    (labelled c.add_label.new.labels) c.item-item.result c.item-item.is c.in_ok-add_label.ensures.found.0 c.in_ok-add_label.ensures.found.1)

pub returns-clause-labels : goal.returns-clause-labels
returns-clause-labels c = placed_end c.args.items.now c.loop-item.item-index (labelled c.loop-item.labels) c.loop-item.at c.loop-item-test.false c.loop-item.invariant

pub returns-clause-once : goal.returns-clause-once
returns-clause-once c = once_end c.args.items.now c.loop-item.item-index (labelled c.loop-item.labels) c.loop-item.at c.loop-item-test.false c.loop-item.invariant
