use Rattle.std.proofs.Common.{◌≤◌, ◌+◌, arith}
use Rattle.jos_asm.specs.declared.limits.TheConstants.{CODE_MAX}
use Rattle.jos_asm.specs.Items.{length_of}
use Rattle.jos_asm.proofs.Passes.{sought_room, sought_here, sought_more, sought_end}
use Rattle.jos_asm.proofs.labels.place_in.Goals as goal

pub returns-then-is_label : goal.returns-then-is_label
returns-then-is_label c =
    sought_here c.args.items.now c.loop-item.item-index c.item-item.result c.item-item.is c.loop-item-test.true c.args.name.now c.loop-item.at c.loop-item.invariant
    (rw (← c.is_label.ensures) c.if-is_label.true)

pub overflow_cast-at : goal.overflow_cast-at
overflow_cast-at c =
    let room : c.loop-item.at + length_of c.item-item.result ≤ CODE_MAX = sought_room c.args.items.now c.loop-item.item-index c.item-item.result c.item-item.is c.loop-item-test.true c.args.name.now c.loop-item.at c.loop-item.invariant c.requires.small in
    let len = c.length_of.ensures.len in
    omega (arith, room, len)

pub overflow_add-at : goal.overflow_add-at
overflow_add-at c =
    let room : c.loop-item.at + length_of c.item-item.result ≤ CODE_MAX = sought_room c.args.items.now c.loop-item.item-index c.item-item.result c.item-item.is c.loop-item-test.true c.args.name.now c.loop-item.at c.loop-item.invariant c.requires.small in
    let len = c.length_of.ensures.len in
    omega (arith, room, len)

pub loop-item-preserved : goal.loop-item-preserved
loop-item-preserved c = rw c.length_of.ensures.len
    (sought_more c.args.items.now c.loop-item.item-index c.item-item.result c.item-item.is c.loop-item-test.true c.args.name.now c.loop-item.at c.loop-item.invariant
    (rw (← c.is_label.ensures) c.if-is_label.false))

pub returns : goal.returns
returns c = sought_end c.args.items.now c.loop-item.item-index c.args.name.now c.loop-item.at c.loop-item-test.false c.loop-item.invariant
