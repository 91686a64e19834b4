use Rattle.std.proofs.lemmas.Result.{err_from_is_err_and}
use Rattle.jos_asm.proofs.Finished.{program, is_long, is_twice, is_unknown_name, is_far_name, has_bytes, is_spelled}
use Rattle.jos_asm.proofs.Finished.{is_laid, code_small}
use Rattle.jos_asm.proofs.finishing.finish.Goals as goal

pub returns-in_err-len-clause-fault : goal.returns-in_err-len-clause-fault
returns-in_err-len-clause-fault c =
    let p = err_from_is_err_and c.from_residual.result c.from_residual.ensures.1 in
    rw (p.1, p.2) (is_long (program c.args.base c.args.items.now) _ c.in_err-len.ensures.0 c.in_err-len.ensures.1)

pub returns-in-Err-clause-fault : goal.returns-in-Err-clause-fault
returns-in-Err-clause-fault c = is_twice (program c.args.base c.args.items.now) c.in_ok-len.ensures.1 _ c.in-Err.ensures.fault

pub returns-in_err-check_names-in-Ok-clause-fault : goal.returns-in_err-check_names-in-Ok-clause-fault
returns-in_err-check_names-in-Ok-clause-fault c =
    let p = err_from_is_err_and c.from_residual-in_err-check_names-in-Ok.result c.from_residual-in_err-check_names-in-Ok.ensures.1 in
    let same = c.in-Ok.ensures.items in
    rw (p.1, p.2) (is_unknown_name (program c.args.base c.args.items.now) c.in_ok-len.ensures.1 c.in-Ok.ensures.once _ (rw same at c.in_err-check_names-in-Ok.ensures.fault))

pub returns-in_err-check_jumps-in-Ok-clause-fault : goal.returns-in_err-check_jumps-in-Ok-clause-fault
returns-in_err-check_jumps-in-Ok-clause-fault c =
    let p = err_from_is_err_and c.from_residual-in_err-check_jumps-in-Ok.result c.from_residual-in_err-check_jumps-in-Ok.ensures.1 in
    let same = c.in-Ok.ensures.items in
    rw (p.1, p.2) (is_far_name (program c.args.base c.args.items.now) c.in_ok-len.ensures.1 c.in-Ok.ensures.once (rw same at c.in_ok-check_names-in-Ok.ensures.known) _ (rw same at c.in_err-check_jumps-in-Ok.ensures.fault))

pub returns-in-Ok-spell-clause-exact : goal.returns-in-Ok-spell-clause-exact
returns-in-Ok-spell-clause-exact c =
    let same = c.in-Ok.ensures.items in
    is_spelled (program c.args.base c.args.items.now) c.in_ok-len.ensures.1 c.in-Ok.ensures.once (rw same at c.in_ok-check_names-in-Ok.ensures.known) (rw same at c.in_ok-check_jumps-in-Ok.ensures.near) c.requires
    c.in-Ok-spell.code.items (rw same at c.in-Ok-spell.ensures.bytes)

pub returns-in-Ok-spell-clause-laid : goal.returns-in-Ok-spell-clause-laid
returns-in-Ok-spell-clause-laid c =
    let same = c.in-Ok.ensures.items in
    is_laid (program c.args.base c.args.items.now) c.in_ok-len.ensures.1 c.in-Ok.ensures.once (rw same at c.in_ok-check_names-in-Ok.ensures.known) (rw same at c.in_ok-check_jumps-in-Ok.ensures.near) c.requires
    c.in-Ok-spell.code.items (rw same at c.in-Ok-spell.ensures.bytes)

pub returns-in-Ok-spell-clause-small : goal.returns-in-Ok-spell-clause-small
returns-in-Ok-spell-clause-small c =
    let same = c.in-Ok.ensures.items in
    code_small (program c.args.base c.args.items.now) c.in_ok-len.ensures.1 c.in-Ok.ensures.once (rw same at c.in_ok-check_names-in-Ok.ensures.known) (rw same at c.in_ok-check_jumps-in-Ok.ensures.near) c.requires
    c.in-Ok-spell.code.items (rw same at c.in-Ok-spell.ensures.bytes)

pub returns-clause-memory : goal.returns-clause-memory
returns-clause-memory c memory =
    let same = c.in-Ok.ensures.items in
    has_bytes (program c.args.base c.args.items.now) c.in_ok-len.ensures.1 c.in-Ok.ensures.once (rw same at c.in_ok-check_names-in-Ok.ensures.known) (rw same at c.in_ok-check_jumps-in-Ok.ensures.near) c.requires
    (rw (← c.in_ok-len.ensures.0) c.in-Err-spell.ensures.memory)
