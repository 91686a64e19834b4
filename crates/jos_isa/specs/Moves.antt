-- A move of a number into a register.
-- (Intel 80386 Programmer's Reference Manual, 1986, chapter 17: MOV.)
use Rattle.std.specs.Prelude.{ℕ}
use Rattle.jos_isa.specs.declared.instruction.Insn.{Insn}
use Rattle.jos_isa.specs.declared.instruction.Row.TheVariants.{MovR32Imm32}
use Rattle.jos_isa.specs.declared.instruction.Repeat.TheVariants.{Once}
use Rattle.jos_isa.specs.declared.instruction.Operand.TheVariants.{Absent}

-- mov reg, value
abbrev pub mov : ℕ → ℕ → Insn
mov reg value = record { row = MovR32Imm32; repeat = Once; operand = Absent; reg = reg; imm = value }
