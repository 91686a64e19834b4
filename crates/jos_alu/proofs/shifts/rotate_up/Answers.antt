use Rattle.std.proofs.Common.{◌∙◌}
use Rattle.jos_alu.specs.declared.width.Width.TheVariants.{Bits8, Bits16, Bits32}
use Rattle.jos_alu.proofs.Turns.{turned_left}
use Rattle.jos_alu.proofs.shifts.rotate_up.Goals as goal

pub returns-in-Bits8 : goal.returns-in-Bits8
returns-in-Bits8 c =
    rw c.in-Bits8.is (c.from.ensures ∙ c.rotate_left.ensures ∙ turned_left Bits8 c.args.count c.args.value (rw c.in-Bits8.is at c.requires))

pub returns-in-Bits16 : goal.returns-in-Bits16
returns-in-Bits16 c =
    rw c.in-Bits16.is (c.from-in-Bits16.ensures ∙ c.rotate_left-in-Bits16.ensures ∙ turned_left Bits16 c.args.count c.args.value (rw c.in-Bits16.is at c.requires))

pub returns-in-Bits32 : goal.returns-in-Bits32
returns-in-Bits32 c =
    rw c.in-Bits32.is (c.rotate_left-in-Bits32.ensures ∙ turned_left Bits32 c.args.count c.args.value (rw c.in-Bits32.is at c.requires))
