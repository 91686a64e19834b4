use Rattle.std.proofs.Common.{◌≡◌, ◌+◌, arith}
use Rattle.jos_alu.proofs.ShiftsUp.{advanced, many_up, room}
use Rattle.jos_alu.proofs.shifts.shift_up.Goals as goal

pub overflow_add-moved : goal.overflow_add-moved
overflow_add-moved c =
    let e : c.move_up.result + c.above.result ≡ advanced c.args.width c.args.count c.args.value c.args.other = cc in
    let enough = room c.args.width c.args.count c.args.value c.args.other c.requires.few c.ranges.value.fits c.ranges.other.fits in
    omega arith

pub returns : goal.returns
returns c = let e = many_up c.args.width c.args.count c.args.value c.args.other c.requires.some in cc
