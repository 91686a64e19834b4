use Rattle.jos_alu.proofs.ShiftLaws.{shifts_up, shifts_down}
use Rattle.jos_alu.proofs.SignedShifts.{shifts_signed}
use Rattle.jos_alu.proofs.laws.shifts_are_products.Goals as goal

pub returns-clause-up : goal.returns-clause-up
returns-clause-up c = shifts_up

pub returns-clause-down : goal.returns-clause-down
returns-clause-down c = shifts_down

pub returns-clause-signed : goal.returns-clause-signed
returns-clause-signed c = shifts_signed
