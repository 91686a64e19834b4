use Rattle.std.proofs.lemmas.Result.{err_from_is_err_and}
use Rattle.jos_asm.specs.Program.{place_in}
use Rattle.jos_asm.proofs.Passes.{known_more, known_end, unknown_fault}
use Rattle.jos_asm.proofs.finishing.check_names.Goals as goal

pub returns-in_err-check_name-clause-fault : goal.returns-in_err-check_name-clause-fault
returns-in_err-check_name-clause-fault c =
    let p = err_from_is_err_and c.from_residual.result c.from_residual.ensures.1 in
    let same = c.items-item-items.ensures.items in
    rw (p.1, p.2) (unknown_fault c.args.labels.now c.loop-item.item-index c.item-item.result (rw (← same) c.item-item.is) (rw (← same) c.loop-item-test.true)
    (place_in c.args.labels.now) _ c.loop-item.invariant c.in_err-check_name.ensures.fault)

pub loop-item-preserved : goal.loop-item-preserved
loop-item-preserved c =
    let same = c.items-item-items.ensures.items in
    known_more c.args.labels.now c.loop-item.item-index c.item-item.result (rw (← same) c.item-item.is) (rw (← same) c.loop-item-test.true)
    (place_in c.args.labels.now) c.loop-item.invariant c.in_ok-check_name.ensures.known

pub returns-clause-known : goal.returns-clause-known
returns-clause-known c =
    known_end c.args.labels.now c.loop-item.item-index (place_in c.args.labels.now) (rw (← c.items-item-items.ensures.items) c.loop-item-test.false) c.loop-item.invariant
