use Rattle.std.proofs.Common.{◌≤◌, ◌+◌, arith}
use Rattle.std.proofs.lemmas.Result.{err_from_is_err_and}
use Rattle.jos_asm.specs.declared.limits.TheConstants.{CODE_MAX}
use Rattle.jos_asm.specs.Items.{length_of}
use Rattle.jos_asm.specs.Program.{known_place}
use Rattle.jos_asm.proofs.Passes.{reached_room, reached_fault, reached_more, near_end}
use Rattle.jos_asm.proofs.finishing.check_jumps.Goals as goal

pub returns-in_err-check_jump-clause-fault : goal.returns-in_err-check_jump-clause-fault
returns-in_err-check_jump-clause-fault c =
    let p = err_from_is_err_and c.from_residual.result c.from_residual.ensures.1 in
    let same = c.items-item-items.ensures.items in
    rw (p.1, p.2) (reached_fault c.args.labels.now c.loop-item.item-index c.item-item.result (rw (← same) c.item-item.is) (rw (← same) c.loop-item-test.true)
    (known_place c.args.labels.now) c.loop-item.at c.loop-item.invariant _ c.in_err-check_jump.ensures.fault)

pub overflow_cast-at : goal.overflow_cast-at
overflow_cast-at c =
    let same = c.items-item-items.ensures.items in
    let room : c.loop-item.at + length_of c.item-item.result ≤ CODE_MAX = reached_room c.args.labels.now c.loop-item.item-index c.item-item.result (rw (← same) c.item-item.is) (rw (← same) c.loop-item-test.true)
    (known_place c.args.labels.now) c.loop-item.at c.loop-item.invariant c.items-item-items.ensures.small in
    let len = c.length_of.ensures.len in
    omega (arith, room, len)

pub overflow_add-at : goal.overflow_add-at
overflow_add-at c =
    let same = c.items-item-items.ensures.items in
    let room : c.loop-item.at + length_of c.item-item.result ≤ CODE_MAX = reached_room c.args.labels.now c.loop-item.item-index c.item-item.result (rw (← same) c.item-item.is) (rw (← same) c.loop-item-test.true)
    (known_place c.args.labels.now) c.loop-item.at c.loop-item.invariant c.items-item-items.ensures.small in
    let len = c.length_of.ensures.len in
    omega (arith, room, len)

pub loop-item-preserved : goal.loop-item-preserved
loop-item-preserved c =
    let same = c.items-item-items.ensures.items in
    rw c.length_of.ensures.len
    (reached_more c.args.labels.now c.loop-item.item-index c.item-item.result (rw (← same) c.item-item.is) (rw (← same) c.loop-item-test.true)
    (known_place c.args.labels.now) c.loop-item.at c.loop-item.invariant c.in_ok-check_jump.ensures.near)

pub returns-clause-near : goal.returns-clause-near
returns-clause-near c =
    near_end c.args.labels.now c.loop-item.item-index (known_place c.args.labels.now) c.loop-item.at (rw (← c.items-item-items.ensures.items) c.loop-item-test.false) c.loop-item.invariant
