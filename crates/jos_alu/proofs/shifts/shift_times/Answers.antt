use Rattle.std.proofs.Common.{false}
use Rattle.jos_alu.proofs.ShiftsUp.{alone_up}
use Rattle.jos_alu.proofs.ShiftsDown.{alone_down, signed_down}
use Rattle.jos_alu.proofs.TurnsBack.{many_left, many_right}
use Rattle.jos_alu.proofs.shifts.shift_times.Goals as goal

pub returns-in-Rol : goal.returns-in-Rol
returns-in-Rol c = let e = many_left c.args.width c.args.count c.args.value c.args.other c.requires.some in cc

pub returns-in-Ror : goal.returns-in-Ror
returns-in-Ror c = let e = many_right c.args.width c.args.count c.args.value c.args.other c.requires.some c.requires.few c.requires.small in cc

pub returns-in-Shl : goal.returns-in-Shl
returns-in-Shl c = let e = alone_up c.args.width c.args.count c.args.value c.args.other false in cc

pub returns-in-Shr : goal.returns-in-Shr
returns-in-Shr c = let e = alone_down c.args.width c.args.count c.args.value c.args.other false in cc

pub returns-in-Sar : goal.returns-in-Sar
returns-in-Sar c = let e = signed_down c.args.width c.args.count c.args.value c.args.other c.requires.few c.requires.small in cc
