-- Which instructions have a spelling, as a test.
-- (Intel 80386 Programmer's Reference Manual, 1986, section 17.2.1, tables 17-3 and 17-4, and appendix A.)
use Rattle.std.specs.Prelude.{ℕ, ◌==◌, ◌&&◌, ◌||◌, not, nat_lt, nat_le, Bool, true, false, Option, Some, None}
use Rattle.jos_isa.specs.declared.instruction.Insn.{Insn}
use Rattle.jos_isa.specs.declared.instruction.Row.{Row}
use Rattle.jos_isa.specs.declared.instruction.Row.TheVariants as row
use Rattle.jos_isa.specs.declared.instruction.Repeat.{Repeat}
use Rattle.jos_isa.specs.declared.instruction.Repeat.TheVariants.{Once, WhileEqual, WhileNot}
use Rattle.jos_isa.specs.declared.instruction.Operand.{Operand}
use Rattle.jos_isa.specs.declared.instruction.Operand.TheVariants.{Absent, Reg, Mem}
use Rattle.jos_isa.specs.declared.instruction.MemArg.{MemArg}
use Rattle.jos_isa.specs.declared.instruction.Disp.{Disp}
use Rattle.jos_isa.specs.declared.instruction.Disp.TheVariants as disp
use Rattle.jos_isa.specs.declared.opcode_map.Format.{Format}
use Rattle.jos_isa.specs.declared.opcode_map.Format.TheVariants.{Plain, ModRm}
use Rattle.jos_isa.specs.declared.opcode_map.Choice.{Choice}
use Rattle.jos_isa.specs.declared.opcode_map.Immediate.{Immediate}
use Rattle.jos_isa.specs.declared.opcode_map.Immediate.TheVariants.{Nothing, Imm8, SignedImm8, Imm16, Imm32}
use Rattle.jos_isa.specs.OpcodeMap.{is_shift, choice_of}
use Rattle.jos_isa.specs.RowOpcodes.{opcode_of, format_in, field_of}

-- an operation 0 to 7, a condition 0 to 15, a shift that the map has
unfoldable pub is_numbered : Row → Bool
is_numbered (row.AluRm8R8 k) = nat_lt k 8
is_numbered (row.AluRm32R32 k) = nat_lt k 8
is_numbered (row.AluR8Rm8 k) = nat_lt k 8
is_numbered (row.AluR32Rm32 k) = nat_lt k 8
is_numbered (row.AluAlImm8 k) = nat_lt k 8
is_numbered (row.AluEaxImm32 k) = nat_lt k 8
is_numbered (row.AluRm8Imm8 k) = nat_lt k 8
is_numbered (row.AluRm32Imm32 k) = nat_lt k 8
is_numbered (row.AluRm32Imm8 k) = nat_lt k 8
is_numbered (row.JccRel8 c) = nat_lt c 16
is_numbered (row.JccRel32 c) = nat_lt c 16
is_numbered (row.SetccRm8 c) = nat_lt c 16
is_numbered (row.ShiftRm8Imm8 k) = is_shift k
is_numbered (row.ShiftRm32Imm8 k) = is_shift k
is_numbered (row.ShiftRm8One k) = is_shift k
is_numbered (row.ShiftRm32One k) = is_shift k
is_numbered (row.ShiftRm8Cl k) = is_shift k
is_numbered (row.ShiftRm32Cl k) = is_shift k
is_numbered _ = true

-- A register is below 8, and EAX is not exchanged with itself.
unfoldable pub is_named : Row → ℕ → Bool
is_named row.XchgEaxR32 reg = nat_lt reg 8 && not (reg == 0)
is_named _ reg = nat_lt reg 8

-- An immediate that is extended is held extended.
unfoldable pub is_immediate : Immediate → ℕ → Bool
is_immediate Nothing value = value == 0
is_immediate Imm8 value = nat_lt value 0x100
is_immediate SignedImm8 value = nat_lt value 0x80 || nat_le 0xffff_ff80 value
is_immediate Imm16 value = nat_lt value 0x1_0000
is_immediate Imm32 value = true

-- Without base there is a displacement word, and with the base EBP a byte or a word.
unfoldable pub is_base : Option ℕ → Disp → Bool
is_base None (disp.Word _) = true
is_base None (disp.Byte _) = false
is_base None disp.Zero = false
is_base (Some base) disp.Zero = nat_lt base 8 && not (base == 5)
is_base (Some base) (disp.Byte _) = nat_lt base 8
is_base (Some base) (disp.Word _) = nat_lt base 8

-- ESP is no index, and without index the scale is 0.
unfoldable pub is_index : Option ℕ → ℕ → Bool
is_index None scale = scale == 0
is_index (Some index) scale = nat_lt index 8 && not (index == 4) && nat_lt scale 4

abbrev pub is_mem_arg : MemArg → Bool
is_mem_arg arg = is_base arg.base arg.disp && is_index arg.index arg.scale

-- an operand that a ModRM byte can name
unfoldable pub is_operand : Operand → Bool
is_operand Absent = false
is_operand (Reg register) = nat_lt register 8
is_operand (Mem arg) = is_mem_arg arg

abbrev pub is_absent : Operand → Bool
is_absent Absent = true
is_absent (Reg register) = false
is_absent (Mem arg) = false

abbrev pub is_register : Operand → Bool
is_register Absent = false
is_register (Reg register) = true
is_register (Mem arg) = false

abbrev pub is_same_repeat : Repeat → Repeat → Bool
is_same_repeat Once Once = true
is_same_repeat WhileEqual WhileEqual = true
is_same_repeat WhileNot WhileNot = true
is_same_repeat _ _ = false

-- the register and the immediate of what the ModRM byte chooses
unfoldable pub fits_choice : Insn → Option Choice → Bool
fits_choice insn None = false
fits_choice insn (Some choice) = choice.reg == insn.reg && is_immediate choice.immediate insn.imm

-- the fields of the format that the map has for the instruction
unfoldable pub fits_format : Insn → Option Format → Bool
fits_format insn None = false
fits_format insn (Some (Plain _ repeat register immediate)) =
    is_same_repeat repeat insn.repeat && is_absent insn.operand && register == insn.reg && is_immediate immediate insn.imm
fits_format insn (Some (ModRm fields)) =
    is_same_repeat Once insn.repeat && is_operand insn.operand
    && fits_choice insn (choice_of fields (is_register insn.operand) (field_of fields insn.row insn.reg))

unfoldable pub format_for : Insn → Option Format
format_for insn = format_in insn.repeat (opcode_of insn.row insn.reg)

unfoldable pub is_lawful : Insn → Bool
is_lawful insn = is_numbered insn.row && is_named insn.row insn.reg && fits_format insn (format_for insn)
