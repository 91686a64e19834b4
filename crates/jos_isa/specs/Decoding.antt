-- What a decoder answers for bytes, part by part from the first byte on. The clauses of `decode` tie it to
-- the spellings. (The order of the parts is that of the Intel 80386 Programmer's Reference Manual, 1986, section 17.2.)
use Rattle.std.specs.Prelude.{ℕ, ◌-◌, ◌/◌, ◌%◌, ◌==◌, List, [], ◌∷◌, length, Option, Some, None, Result, Ok, Err}
use Rattle.std.specs.Prelude.{if◌then◌else◌}
use Rattle.std.specs.Int.{w8, w16, w32, from_le_bytes, cast_signed}
use Rattle.jos_base.specs.Words.{◌>>=◌}
use Rattle.jos_isa.specs.declared.instruction.Insn.{Insn}
use Rattle.jos_isa.specs.declared.instruction.Repeat.TheVariants.{Once}
use Rattle.jos_isa.specs.declared.instruction.Operand.{Operand}
use Rattle.jos_isa.specs.declared.instruction.Operand.TheVariants.{Absent, Reg, Mem}
use Rattle.jos_isa.specs.declared.instruction.MemArg.{MemArg}
use Rattle.jos_isa.specs.declared.instruction.Disp.{Disp}
use Rattle.jos_isa.specs.declared.instruction.Disp.TheVariants as disp
use Rattle.jos_isa.specs.declared.opcode_map.Format.{Format}
use Rattle.jos_isa.specs.declared.opcode_map.Format.TheVariants.{Plain, ModRm}
use Rattle.jos_isa.specs.declared.opcode_map.Fields.{Fields}
use Rattle.jos_isa.specs.declared.opcode_map.Choice.{Choice}
use Rattle.jos_isa.specs.declared.opcode_map.Immediate.{Immediate}
use Rattle.jos_isa.specs.declared.opcode_map.Immediate.TheVariants.{Nothing, Imm8, SignedImm8, Imm16, Imm32}
use Rattle.jos_isa.specs.declared.opcode_map.OpcodeEntry.{OpcodeEntry}
use Rattle.jos_isa.specs.declared.opcode_map.OpcodeEntry.TheVariants.{Unassigned, Complete, Behind}
use Rattle.jos_isa.specs.declared.behind_opcode.PartFault.{PartFault}
use Rattle.jos_isa.specs.declared.behind_opcode.PartFault.TheVariants as fault
use Rattle.jos_isa.specs.declared.behind_opcode.DispKind.{DispKind}
use Rattle.jos_isa.specs.declared.behind_opcode.DispKind.TheVariants as disp_kind
use Rattle.jos_isa.specs.declared.behind_opcode.Sib.{Sib}
use Rattle.jos_isa.specs.declared.behind_opcode.Chosen.{Chosen}
use Rattle.jos_isa.specs.declared.decoder.Decoded.{Decoded}
use Rattle.jos_isa.specs.declared.decoder.Decoded.TheVariants.{Found, Short, Illegal}
use Rattle.jos_isa.specs.OpcodeMap.{opcode_entry, format_behind, choice_of}
use Rattle.jos_isa.specs.Spelling.{sign_extended_byte, disp_kind_of, base_of, sib_of}

-- A part is a value and the bytes after it.
abbrev pub next_byte : List ℕ → Result (ℕ × List ℕ) PartFault
next_byte [] = Err fault.Short
next_byte (byte ∷ rest) = Ok (byte, rest)

abbrev pub u16_at : List ℕ → Result (ℕ × List ℕ) PartFault
u16_at (a ∷ b ∷ rest) = Ok (from_le_bytes w16 (a ∷ b ∷ []), rest)
u16_at _ = Err fault.Short

abbrev pub u32_at : List ℕ → Result (ℕ × List ℕ) PartFault
u32_at (a ∷ b ∷ c ∷ d ∷ rest) = Ok (from_le_bytes w32 (a ∷ b ∷ c ∷ d ∷ []), rest)
u32_at _ = Err fault.Short

unfoldable pub immediate_at : Immediate → List ℕ → Result (ℕ × List ℕ) PartFault
immediate_at Nothing bytes = Ok (0, bytes)
immediate_at Imm8 bytes = next_byte bytes
immediate_at SignedImm8 bytes = do
  byte ← next_byte bytes
  Ok (sign_extended_byte byte.0, byte.1)
immediate_at Imm16 bytes = u16_at bytes
immediate_at Imm32 bytes = u32_at bytes

-- ---- operands

unfoldable pub disp_at : DispKind → List ℕ → Result (Disp × List ℕ) PartFault
disp_at disp_kind.Nothing bytes = Ok (disp.Zero, bytes)
disp_at disp_kind.Disp8 bytes = do
  byte ← next_byte bytes
  Ok (disp.Byte (cast_signed w8 byte.0), byte.1)
disp_at disp_kind.Disp32 bytes = do
  word ← u32_at bytes
  Ok (disp.Word word.0, word.1)

unfoldable pub sib_byte_at : List ℕ → Result (Sib × List ℕ) PartFault
sib_byte_at bytes = do
  sib ← next_byte bytes
  Ok (sib_of (sib.0 / 64) (sib.0 / 8 % 8) (sib.0 % 8), sib.1)

unfoldable pub sib_at : ℕ → List ℕ → Result (Sib × List ℕ) PartFault
sib_at rm bytes = if rm == 4 then sib_byte_at bytes else Ok (record { base = rm; index = None; scale = 0 }, bytes)

unfoldable pub memory_at : ℕ → ℕ → List ℕ → Result (MemArg × List ℕ) PartFault
memory_at mode rm bytes = do
  sib ← sib_at rm bytes
  away ← disp_at (disp_kind_of mode sib.0.base) sib.1
  Ok (record { base = base_of mode sib.0.base; index = sib.0.index; scale = sib.0.scale; disp = away.0 }, away.1)

abbrev pub in_memory : Result (MemArg × List ℕ) PartFault → Result (Operand × List ℕ) PartFault
in_memory read = read >>= λ arg. Ok (Mem arg.0, arg.1)

unfoldable pub operand_at : ℕ → ℕ → List ℕ → Result (Operand × List ℕ) PartFault
operand_at mode rm bytes = if mode == 3 then Ok (Reg rm, bytes) else in_memory (memory_at mode rm bytes)

-- ---- instructions

abbrev pub chosen_of : Option Choice → ℕ → ℕ → List ℕ → Result (Chosen × List ℕ) PartFault
chosen_of None mode rm rest = Err fault.Illegal
chosen_of (Some choice) mode rm rest = Ok (record { choice = choice; mode = mode; rm = rm }, rest)

unfoldable pub modrm_at : Fields → List ℕ → Result (Chosen × List ℕ) PartFault
modrm_at fields bytes = do
  byte ← next_byte bytes
  chosen_of (choice_of fields (byte.0 / 64 == 3) (byte.0 / 8 % 8)) (byte.0 / 64) (byte.0 % 8) byte.1

unfoldable pub rest_at : Chosen → List ℕ → Result (Insn × List ℕ) PartFault
rest_at chosen bytes = do
  operand ← operand_at chosen.mode chosen.rm bytes
  value ← immediate_at chosen.choice.immediate operand.1
  Ok (record { row = chosen.choice.row; repeat = Once; operand = operand.0; reg = chosen.choice.reg; imm = value.0 }, value.1)

unfoldable pub insn_in_format : Format → List ℕ → Result (Insn × List ℕ) PartFault
insn_in_format (Plain row repeat register immediate) bytes = do
  value ← immediate_at immediate bytes
  Ok (record { row = row; repeat = repeat; operand = Absent; reg = register; imm = value.0 }, value.1)
insn_in_format (ModRm fields) bytes = do
  chosen ← modrm_at fields bytes
  rest_at chosen.0 chosen.1

abbrev pub format_or_illegal : Option Format → List ℕ → Result (Format × List ℕ) PartFault
format_or_illegal (Some format) rest = Ok (format, rest)
format_or_illegal None rest = Err fault.Illegal

unfoldable pub format_in_entry : OpcodeEntry → List ℕ → Result (Format × List ℕ) PartFault
format_in_entry Unassigned bytes = Err fault.Illegal
format_in_entry (Complete format) bytes = Ok (format, bytes)
format_in_entry (Behind map) bytes = do
  second ← next_byte bytes
  format_or_illegal (format_behind map second.0) second.1

unfoldable pub opcode_at : List ℕ → Result (Format × List ℕ) PartFault
opcode_at bytes = do
  byte ← next_byte bytes
  format_in_entry (opcode_entry byte.0) byte.1

unfoldable pub instruction_at : List ℕ → Result (Insn × List ℕ) PartFault
instruction_at bytes = do
  format ← opcode_at bytes
  insn_in_format format.0 format.1

-- of so many bytes an instruction and a rest, or why there is none
abbrev pub decoded_from : ℕ → Result (Insn × List ℕ) PartFault → Decoded
decoded_from total (Ok read) = Found read.0 (total - length read.1)
decoded_from total (Err fault.Short) = Short
decoded_from total (Err fault.Illegal) = Illegal

unfoldable pub decoded : List ℕ → Decoded
decoded bytes = decoded_from (length bytes) (instruction_at bytes)
