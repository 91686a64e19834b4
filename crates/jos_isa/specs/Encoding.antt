-- The bytes that `encode` writes: of the spellings of an instruction one. Its clauses tie it to the spellings.
-- (Intel 80386 Programmer's Reference Manual, 1986, section 17.2.1, tables 17-3 and 17-4.)
use Rattle.std.specs.Prelude.{ℕ, ◌+◌, ◌*◌, ◌%◌, ◌==◌, ◌||◌, is_some, Bool, List, [], ◌∷◌, ◌++◌, Option, Some, None}
use Rattle.std.specs.Prelude.{if◌then◌else◌}
use Rattle.std.specs.Int.{w8, w16, w32, to_le_bytes, cast_unsigned}
use Rattle.jos_isa.specs.declared.instruction.Insn.{Insn}
use Rattle.jos_isa.specs.declared.instruction.Repeat.{Repeat}
use Rattle.jos_isa.specs.declared.instruction.Repeat.TheVariants.{Once, WhileEqual, WhileNot}
use Rattle.jos_isa.specs.declared.instruction.Operand.{Operand}
use Rattle.jos_isa.specs.declared.instruction.Operand.TheVariants.{Absent, Reg, Mem}
use Rattle.jos_isa.specs.declared.instruction.MemArg.{MemArg}
use Rattle.jos_isa.specs.declared.instruction.Disp.{Disp}
use Rattle.jos_isa.specs.declared.instruction.Disp.TheVariants as disp
use Rattle.jos_isa.specs.declared.opcode_map.Format.{Format}
use Rattle.jos_isa.specs.declared.opcode_map.Format.TheVariants.{Plain, ModRm}
use Rattle.jos_isa.specs.declared.opcode_map.Choice.{Choice}
use Rattle.jos_isa.specs.declared.opcode_map.Immediate.{Immediate}
use Rattle.jos_isa.specs.declared.opcode_map.Immediate.TheVariants.{Nothing, Imm8, SignedImm8, Imm16, Imm32}
use Rattle.jos_isa.specs.declared.row_opcodes.Opcode.{Opcode}
use Rattle.jos_isa.specs.declared.row_opcodes.Opcode.TheVariants.{One, Two}
use Rattle.jos_isa.specs.OpcodeMap.{choice_of}
use Rattle.jos_isa.specs.RowOpcodes.{opcode_of, field_of}
use Rattle.jos_isa.specs.Lawful.{is_register, format_for}

unfoldable pub opcode_bytes : Repeat → Opcode → List ℕ
opcode_bytes Once (One opcode) = opcode ∷ []
opcode_bytes WhileEqual (One opcode) = 0xf3 ∷ opcode ∷ []
opcode_bytes WhileNot (One opcode) = 0xf2 ∷ opcode ∷ []
opcode_bytes _ (Two opcode) = 0x0f ∷ opcode ∷ []

-- the lowest byte first
unfoldable pub immediate_bytes : Immediate → ℕ → List ℕ
immediate_bytes Nothing value = []
immediate_bytes Imm8 value = (value % 0x100) ∷ []
immediate_bytes SignedImm8 value = (value % 0x100) ∷ []
immediate_bytes Imm16 value = to_le_bytes w16 (value % 0x1_0000)
immediate_bytes Imm32 value = to_le_bytes w32 value

-- ---- operands

unfoldable pub disp_bytes : Disp → List ℕ
disp_bytes disp.Zero = []
disp_bytes (disp.Byte value) = cast_unsigned w8 value ∷ []
disp_bytes (disp.Word value) = to_le_bytes w32 value

-- A base is written by its number, and no base as 5.
abbrev pub base_number : Option ℕ → ℕ
base_number None = 5
base_number (Some base) = base

-- no index is written as 4
abbrev pub index_number : Option ℕ → ℕ
index_number None = 4
index_number (Some index) = index

-- mod: 0 without base or displacement, 1 with a byte, 2 with a word
abbrev pub mode_of : Option ℕ → Disp → ℕ
mode_of None _ = 0
mode_of (Some base) disp.Zero = 0
mode_of (Some base) (disp.Byte _) = 1
mode_of (Some base) (disp.Word _) = 2

-- A SIB byte is written only where there is an index or the base is ESP.
abbrev pub has_sib : MemArg → Bool
has_sib arg = is_some arg.index || base_number arg.base == 4

abbrev pub rm_of : MemArg → ℕ
rm_of arg = if has_sib arg then 4 else base_number arg.base

abbrev pub sib_byte : MemArg → ℕ
sib_byte arg = 64 * arg.scale + 8 * index_number arg.index + base_number arg.base

abbrev pub sib_bytes : MemArg → List ℕ
sib_bytes arg = if has_sib arg then sib_byte arg ∷ [] else []

-- a ModRM byte with this reg, and what it asks for
unfoldable pub operand_bytes : Operand → ℕ → List ℕ
operand_bytes Absent reg = []
operand_bytes (Reg register) reg = (64 * 3 + 8 * reg + register) ∷ []
operand_bytes (Mem arg) reg = (64 * mode_of arg.base arg.disp + 8 * reg + rm_of arg) ∷ sib_bytes arg ++ disp_bytes arg.disp

-- ---- instructions

unfoldable pub chosen_bytes : Option Choice → ℕ → List ℕ
chosen_bytes None value = []
chosen_bytes (Some choice) value = immediate_bytes choice.immediate value

unfoldable pub format_bytes : Option Format → Insn → List ℕ
format_bytes None insn = []
format_bytes (Some (Plain _ _ _ immediate)) insn = immediate_bytes immediate insn.imm
format_bytes (Some (ModRm fields)) insn =
    operand_bytes insn.operand (field_of fields insn.row insn.reg)
    ++ chosen_bytes (choice_of fields (is_register insn.operand) (field_of fields insn.row insn.reg)) insn.imm

unfoldable pub encoded : Insn → List ℕ
encoded insn = opcode_bytes insn.repeat (opcode_of insn.row insn.reg) ++ format_bytes (format_for insn) insn
