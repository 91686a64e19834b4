use Rattle.std.proofs.Common.{◌<◌, ◌+◌, refl}
use Rattle.jos_asm.specs.declared.limits.TheConstants.{CODE_MAX}
use Rattle.jos_asm.specs.Items.{length_of}
use Rattle.jos_asm.proofs.Passes.{counted_over, counted_more, counted_end}
use Rattle.jos_asm.proofs.lengths.length_of_all.Goals as goal

pub returns-then-len-gt-CODE_MAX : goal.returns-then-len-gt-CODE_MAX
returns-then-len-gt-CODE_MAX c =
    let over : CODE_MAX < c.loop-item.len + length_of c.item-item.result = rw (← c.length_of-len.ensures.len) c.if-len-gt-CODE_MAX.true in
    (refl, counted_over c.args.items.now c.loop-item.item-index c.item-item.result c.item-item.is c.loop-item-test.true c.loop-item.len c.loop-item.invariant over)

pub loop-item-preserved : goal.loop-item-preserved
loop-item-preserved c = rw c.length_of-len.ensures.len
    (counted_more c.args.items.now c.loop-item.item-index c.item-item.result c.item-item.is c.loop-item-test.true c.loop-item.len c.loop-item.invariant
    (rw (← c.length_of-len.ensures.len) c.if-len-gt-CODE_MAX.false))

pub returns : goal.returns
returns c = counted_end c.args.items.now c.loop-item.item-index c.loop-item.len c.loop-item-test.false c.loop-item.invariant
