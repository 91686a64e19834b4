use Rattle.std.proofs.Common.{◌≡◌, suc, ◌-◌, arith}
use Rattle.jos_alu.proofs.ShiftsDown.{many_down}
use Rattle.jos_alu.proofs.shifts.shift_down.Goals as goal

pub returns : goal.returns
returns c =
    let some : c.args.count ≡ suc (c.args.count - 1) = omega arith in
    let e = many_down c.args.width (c.args.count - 1) c.args.value c.args.other c.requires.small in
    cc
