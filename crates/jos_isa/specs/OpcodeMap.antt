-- The opcode map: what stands behind each byte with which an instruction can begin, in the order of the bytes.
-- (Intel 80386 Programmer's Reference Manual, 1986, appendix A, "One-Byte Opcode Map", "Two-Byte Opcode Map"
-- and "Opcodes determined by bits 5,4,3 of modR/M byte"; of them the instructions of the profile.)
use Rattle.std.specs.Prelude.{ℕ, ◌-◌, ◌/◌, ◌%◌, ◌==◌, nat_le, ◌&&◌, ◌||◌, Bool, true, false, Option, Some, None}
use Rattle.std.specs.Prelude.{if◌then◌else◌}
use Rattle.jos_isa.specs.declared.instruction.Row.{Row}
use Rattle.jos_isa.specs.declared.instruction.Row.TheVariants as row
use Rattle.jos_isa.specs.declared.instruction.Repeat.TheVariants.{Once, WhileEqual, WhileNot}
use Rattle.jos_isa.specs.declared.opcode_map.Format.{Format}
use Rattle.jos_isa.specs.declared.opcode_map.Format.TheVariants.{Plain, ModRm}
use Rattle.jos_isa.specs.declared.opcode_map.Fields.{Fields}
use Rattle.jos_isa.specs.declared.opcode_map.Fields.TheVariants.{Register, MemoryOnly, NoRegister, Group}
use Rattle.jos_isa.specs.declared.opcode_map.OpcodeGroup.{OpcodeGroup}
use Rattle.jos_isa.specs.declared.opcode_map.OpcodeGroup.TheVariants as opcode_group
use Rattle.jos_isa.specs.declared.opcode_map.Choice.{Choice}
use Rattle.jos_isa.specs.declared.opcode_map.Immediate.{Immediate}
use Rattle.jos_isa.specs.declared.opcode_map.Immediate.TheVariants.{Nothing, Imm8, SignedImm8, Imm16, Imm32}
use Rattle.jos_isa.specs.declared.opcode_map.Map.{Map}
use Rattle.jos_isa.specs.declared.opcode_map.Map.TheVariants.{TwoByte, OperandSize, Repne, Rep}
use Rattle.jos_isa.specs.declared.opcode_map.OpcodeEntry.{OpcodeEntry}
use Rattle.jos_isa.specs.declared.opcode_map.OpcodeEntry.TheVariants.{Unassigned, Complete, Behind}

-- low ≤ opcode ≤ high
abbrev pub is_among : ℕ → ℕ → ℕ → Bool
is_among low high opcode = nat_le low opcode && nat_le opcode high

-- ---- the one-byte map

-- 00 to 3F: eight operations, each in six forms
unfoldable pub from_00 : ℕ → Option Format
from_00 opcode =
    if opcode % 8 == 0 then Some (ModRm (Register (row.AluRm8R8 (opcode / 8)) Nothing))
    else if opcode % 8 == 1 then Some (ModRm (Register (row.AluRm32R32 (opcode / 8)) Nothing))
    else if opcode % 8 == 2 then Some (ModRm (Register (row.AluR8Rm8 (opcode / 8)) Nothing))
    else if opcode % 8 == 3 then Some (ModRm (Register (row.AluR32Rm32 (opcode / 8)) Nothing))
    else if opcode % 8 == 4 then Some (Plain (row.AluAlImm8 (opcode / 8)) Once 0 Imm8)
    else if opcode % 8 == 5 then Some (Plain (row.AluEaxImm32 (opcode / 8)) Once 0 Imm32)
    else None

-- 40 to 6F
unfoldable pub from_40 : ℕ → Option Format
from_40 opcode =
    if is_among 0x40 0x47 opcode then Some (Plain row.IncR32 Once (opcode - 0x40) Nothing)
    else if is_among 0x48 0x4f opcode then Some (Plain row.DecR32 Once (opcode - 0x48) Nothing)
    else if is_among 0x50 0x57 opcode then Some (Plain row.PushR32 Once (opcode - 0x50) Nothing)
    else if is_among 0x58 0x5f opcode then Some (Plain row.PopR32 Once (opcode - 0x58) Nothing)
    else if opcode == 0x60 then Some (Plain row.Pusha Once 0 Nothing)
    else if opcode == 0x61 then Some (Plain row.Popa Once 0 Nothing)
    else if opcode == 0x68 then Some (Plain row.PushImm32 Once 0 Imm32)
    else if opcode == 0x69 then Some (ModRm (Register row.ImulR32Rm32Imm32 Imm32))
    else if opcode == 0x6a then Some (Plain row.PushImm8 Once 0 SignedImm8)
    else if opcode == 0x6b then Some (ModRm (Register row.ImulR32Rm32Imm8 SignedImm8))
    else None

-- 70 to 8F
unfoldable pub from_70 : ℕ → Option Format
from_70 opcode =
    if is_among 0x70 0x7f opcode then Some (Plain (row.JccRel8 (opcode - 0x70)) Once 0 SignedImm8)
    else if opcode == 0x80 then Some (ModRm (Group opcode_group.Alu80))
    else if opcode == 0x81 then Some (ModRm (Group opcode_group.Alu81))
    else if opcode == 0x83 then Some (ModRm (Group opcode_group.Alu83))
    else if opcode == 0x84 then Some (ModRm (Register row.TestRm8R8 Nothing))
    else if opcode == 0x85 then Some (ModRm (Register row.TestRm32R32 Nothing))
    else if opcode == 0x86 then Some (ModRm (Register row.XchgRm8R8 Nothing))
    else if opcode == 0x87 then Some (ModRm (Register row.XchgRm32R32 Nothing))
    else if opcode == 0x88 then Some (ModRm (Register row.MovRm8R8 Nothing))
    else if opcode == 0x89 then Some (ModRm (Register row.MovRm32R32 Nothing))
    else if opcode == 0x8a then Some (ModRm (Register row.MovR8Rm8 Nothing))
    else if opcode == 0x8b then Some (ModRm (Register row.MovR32Rm32 Nothing))
    else if opcode == 0x8d then Some (ModRm (MemoryOnly row.LeaR32Mem))
    else if opcode == 0x8f then Some (ModRm (Group opcode_group.Pop8f))
    else None

-- 90 to 9F
unfoldable pub from_90 : ℕ → Option Format
from_90 opcode =
    if opcode == 0x90 then Some (Plain row.Nop Once 0 Nothing)
    else if is_among 0x91 0x97 opcode then Some (Plain row.XchgEaxR32 Once (opcode - 0x90) Nothing)
    else if opcode == 0x98 then Some (Plain row.Cwde Once 0 Nothing)
    else if opcode == 0x99 then Some (Plain row.Cdq Once 0 Nothing)
    else if opcode == 0x9c then Some (Plain row.Pushf Once 0 Nothing)
    else if opcode == 0x9d then Some (Plain row.Popf Once 0 Nothing)
    else None

-- A0 to AF
unfoldable pub from_a0 : ℕ → Option Format
from_a0 opcode =
    if opcode == 0xa0 then Some (Plain row.MovAlAddr Once 0 Imm32)
    else if opcode == 0xa1 then Some (Plain row.MovEaxAddr Once 0 Imm32)
    else if opcode == 0xa2 then Some (Plain row.MovAddrAl Once 0 Imm32)
    else if opcode == 0xa3 then Some (Plain row.MovAddrEax Once 0 Imm32)
    else if opcode == 0xa4 then Some (Plain row.Movsb Once 0 Nothing)
    else if opcode == 0xa5 then Some (Plain row.Movsd Once 0 Nothing)
    else if opcode == 0xa6 then Some (Plain row.Cmpsb Once 0 Nothing)
    else if opcode == 0xa7 then Some (Plain row.Cmpsd Once 0 Nothing)
    else if opcode == 0xa8 then Some (Plain row.TestAlImm8 Once 0 Imm8)
    else if opcode == 0xa9 then Some (Plain row.TestEaxImm32 Once 0 Imm32)
    else if opcode == 0xaa then Some (Plain row.Stosb Once 0 Nothing)
    else if opcode == 0xab then Some (Plain row.Stosd Once 0 Nothing)
    else if opcode == 0xac then Some (Plain row.Lodsb Once 0 Nothing)
    else if opcode == 0xad then Some (Plain row.Lodsd Once 0 Nothing)
    else if opcode == 0xae then Some (Plain row.Scasb Once 0 Nothing)
    else if opcode == 0xaf then Some (Plain row.Scasd Once 0 Nothing)
    else None

-- B0 to CF
unfoldable pub from_b0 : ℕ → Option Format
from_b0 opcode =
    if is_among 0xb0 0xb7 opcode then Some (Plain row.MovR8Imm8 Once (opcode - 0xb0) Imm8)
    else if is_among 0xb8 0xbf opcode then Some (Plain row.MovR32Imm32 Once (opcode - 0xb8) Imm32)
    else if opcode == 0xc0 then Some (ModRm (Group opcode_group.ShiftC0))
    else if opcode == 0xc1 then Some (ModRm (Group opcode_group.ShiftC1))
    else if opcode == 0xc2 then Some (Plain row.RetImm16 Once 0 Imm16)
    else if opcode == 0xc3 then Some (Plain row.Ret Once 0 Nothing)
    else if opcode == 0xc6 then Some (ModRm (Group opcode_group.MovC6))
    else if opcode == 0xc7 then Some (ModRm (Group opcode_group.MovC7))
    else if opcode == 0xc9 then Some (Plain row.Leave Once 0 Nothing)
    else if opcode == 0xcc then Some (Plain row.Int3 Once 0 Nothing)
    else if opcode == 0xcd then Some (Plain row.IntImm8 Once 0 Imm8)
    else None

-- D0 to EF
unfoldable pub from_d0 : ℕ → Option Format
from_d0 opcode =
    if opcode == 0xd0 then Some (ModRm (Group opcode_group.ShiftD0))
    else if opcode == 0xd1 then Some (ModRm (Group opcode_group.ShiftD1))
    else if opcode == 0xd2 then Some (ModRm (Group opcode_group.ShiftD2))
    else if opcode == 0xd3 then Some (ModRm (Group opcode_group.ShiftD3))
    else if opcode == 0xe4 then Some (Plain row.InAlImm8 Once 0 Imm8)
    else if opcode == 0xe5 then Some (Plain row.InEaxImm8 Once 0 Imm8)
    else if opcode == 0xe6 then Some (Plain row.OutImm8Al Once 0 Imm8)
    else if opcode == 0xe7 then Some (Plain row.OutImm8Eax Once 0 Imm8)
    else if opcode == 0xe8 then Some (Plain row.CallRel32 Once 0 Imm32)
    else if opcode == 0xe9 then Some (Plain row.JmpRel32 Once 0 Imm32)
    else if opcode == 0xeb then Some (Plain row.JmpRel8 Once 0 SignedImm8)
    else if opcode == 0xec then Some (Plain row.InAlDx Once 0 Nothing)
    else if opcode == 0xed then Some (Plain row.InEaxDx Once 0 Nothing)
    else if opcode == 0xee then Some (Plain row.OutDxAl Once 0 Nothing)
    else if opcode == 0xef then Some (Plain row.OutDxEax Once 0 Nothing)
    else None

-- F0 to FF
unfoldable pub from_f0 : ℕ → Option Format
from_f0 opcode =
    if opcode == 0xf4 then Some (Plain row.Hlt Once 0 Nothing)
    else if opcode == 0xf5 then Some (Plain row.Cmc Once 0 Nothing)
    else if opcode == 0xf6 then Some (ModRm (Group opcode_group.UnaryF6))
    else if opcode == 0xf7 then Some (ModRm (Group opcode_group.UnaryF7))
    else if opcode == 0xf8 then Some (Plain row.Clc Once 0 Nothing)
    else if opcode == 0xf9 then Some (Plain row.Stc Once 0 Nothing)
    else if opcode == 0xfa then Some (Plain row.Cli Once 0 Nothing)
    else if opcode == 0xfb then Some (Plain row.Sti Once 0 Nothing)
    else if opcode == 0xfc then Some (Plain row.Cld Once 0 Nothing)
    else if opcode == 0xfd then Some (Plain row.Std Once 0 Nothing)
    else if opcode == 0xfe then Some (ModRm (Group opcode_group.StepFe))
    else if opcode == 0xff then Some (ModRm (Group opcode_group.StepFf))
    else None

-- an instruction whose opcode is one byte
unfoldable pub format_at : ℕ → Option Format
format_at opcode =
    if is_among 0x00 0x3f opcode then from_00 opcode
    else if is_among 0x40 0x6f opcode then from_40 opcode
    else if is_among 0x70 0x8f opcode then from_70 opcode
    else if is_among 0x90 0x9f opcode then from_90 opcode
    else if is_among 0xa0 0xaf opcode then from_a0 opcode
    else if is_among 0xb0 0xcf opcode then from_b0 opcode
    else if is_among 0xd0 0xef opcode then from_d0 opcode
    else from_f0 opcode

abbrev pub complete : Option Format → OpcodeEntry
complete (Some format) = Complete format
complete None = Unassigned

-- The first byte: of four the second byte decides.
unfoldable pub opcode_entry : ℕ → OpcodeEntry
opcode_entry byte =
    if byte == 0x0f then Behind TwoByte
    else if byte == 0x66 then Behind OperandSize
    else if byte == 0xf2 then Behind Repne
    else if byte == 0xf3 then Behind Rep
    else complete (format_at byte)

-- ---- the maps of the second byte

-- behind 0F
unfoldable pub two_byte_at : ℕ → Option Format
two_byte_at opcode =
    if is_among 0x80 0x8f opcode then Some (Plain (row.JccRel32 (opcode - 0x80)) Once 0 Imm32)
    else if is_among 0x90 0x9f opcode then Some (ModRm (NoRegister (row.SetccRm8 (opcode - 0x90))))
    else if opcode == 0xa4 then Some (ModRm (Register row.ShldRm32R32Imm8 Imm8))
    else if opcode == 0xa5 then Some (ModRm (Register row.ShldRm32R32Cl Nothing))
    else if opcode == 0xac then Some (ModRm (Register row.ShrdRm32R32Imm8 Imm8))
    else if opcode == 0xad then Some (ModRm (Register row.ShrdRm32R32Cl Nothing))
    else if opcode == 0xaf then Some (ModRm (Register row.ImulR32Rm32 Nothing))
    else if opcode == 0xb6 then Some (ModRm (Register row.MovzxR32Rm8 Nothing))
    else if opcode == 0xb7 then Some (ModRm (Register row.MovzxR32Rm16 Nothing))
    else if opcode == 0xbe then Some (ModRm (Register row.MovsxR32Rm8 Nothing))
    else if opcode == 0xbf then Some (ModRm (Register row.MovsxR32Rm16 Nothing))
    else None

-- behind 66, which changes nothing here
unfoldable pub operand_size_at : ℕ → Option Format
operand_size_at opcode = if opcode == 0x90 then Some (Plain row.Nop Once 0 Nothing) else None

-- behind F2
unfoldable pub repne_at : ℕ → Option Format
repne_at opcode =
    if opcode == 0xa6 then Some (Plain row.Cmpsb WhileNot 0 Nothing)
    else if opcode == 0xa7 then Some (Plain row.Cmpsd WhileNot 0 Nothing)
    else if opcode == 0xae then Some (Plain row.Scasb WhileNot 0 Nothing)
    else if opcode == 0xaf then Some (Plain row.Scasd WhileNot 0 Nothing)
    else None

-- behind F3, which changes nothing at 90 and C3
unfoldable pub rep_at : ℕ → Option Format
rep_at opcode =
    if opcode == 0x90 then Some (Plain row.Nop Once 0 Nothing)
    else if opcode == 0xa4 then Some (Plain row.Movsb WhileEqual 0 Nothing)
    else if opcode == 0xa5 then Some (Plain row.Movsd WhileEqual 0 Nothing)
    else if opcode == 0xa6 then Some (Plain row.Cmpsb WhileEqual 0 Nothing)
    else if opcode == 0xa7 then Some (Plain row.Cmpsd WhileEqual 0 Nothing)
    else if opcode == 0xaa then Some (Plain row.Stosb WhileEqual 0 Nothing)
    else if opcode == 0xab then Some (Plain row.Stosd WhileEqual 0 Nothing)
    else if opcode == 0xac then Some (Plain row.Lodsb WhileEqual 0 Nothing)
    else if opcode == 0xad then Some (Plain row.Lodsd WhileEqual 0 Nothing)
    else if opcode == 0xae then Some (Plain row.Scasb WhileEqual 0 Nothing)
    else if opcode == 0xaf then Some (Plain row.Scasd WhileEqual 0 Nothing)
    else if opcode == 0xc3 then Some (Plain row.Ret Once 0 Nothing)
    else None

unfoldable pub format_behind : Map → ℕ → Option Format
format_behind TwoByte opcode = two_byte_at opcode
format_behind OperandSize opcode = operand_size_at opcode
format_behind Repne opcode = repne_at opcode
format_behind Rep opcode = rep_at opcode

-- ---- the fields of a ModRM byte

-- an instruction that ModRM chooses and that names no register in reg
abbrev pub one_of : Row → Immediate → Option Choice
one_of chosen immediate = Some (record { row = chosen; reg = 0; immediate = immediate })

-- ROL, ROR, SHL, SHR, SAR
abbrev pub is_shift : ℕ → Bool
is_shift k = k == 0 || k == 1 || k == 4 || k == 5 || k == 7

abbrev pub shift_choice : Row → Immediate → ℕ → Option Choice
shift_choice chosen immediate k = if is_shift k then one_of chosen immediate else None

abbrev pub only_first : Row → Immediate → ℕ → Option Choice
only_first chosen immediate reg = if reg == 0 then one_of chosen immediate else None

-- F6
unfoldable pub unary_f6 : ℕ → Option Choice
unary_f6 reg =
    if reg == 0 then one_of row.TestRm8Imm8 Imm8
    else if reg == 2 then one_of row.NotRm8 Nothing
    else if reg == 3 then one_of row.NegRm8 Nothing
    else if reg == 4 then one_of row.MulRm8 Nothing
    else if reg == 5 then one_of row.ImulRm8 Nothing
    else if reg == 6 then one_of row.DivRm8 Nothing
    else if reg == 7 then one_of row.IdivRm8 Nothing
    else None

-- F7
unfoldable pub unary_f7 : ℕ → Option Choice
unary_f7 reg =
    if reg == 0 then one_of row.TestRm32Imm32 Imm32
    else if reg == 2 then one_of row.NotRm32 Nothing
    else if reg == 3 then one_of row.NegRm32 Nothing
    else if reg == 4 then one_of row.MulRm32 Nothing
    else if reg == 5 then one_of row.ImulRm32 Nothing
    else if reg == 6 then one_of row.DivRm32 Nothing
    else if reg == 7 then one_of row.IdivRm32 Nothing
    else None

-- FE
unfoldable pub step_fe : ℕ → Option Choice
step_fe reg =
    if reg == 0 then one_of row.IncRm8 Nothing
    else if reg == 1 then one_of row.DecRm8 Nothing
    else None

-- FF
unfoldable pub step_ff : ℕ → Option Choice
step_ff reg =
    if reg == 0 then one_of row.IncRm32 Nothing
    else if reg == 1 then one_of row.DecRm32 Nothing
    else if reg == 2 then one_of row.CallRm32 Nothing
    else if reg == 4 then one_of row.JmpRm32 Nothing
    else if reg == 6 then one_of row.PushRm32 Nothing
    else None

-- Of a group reg chooses the instruction.
unfoldable pub of_group : OpcodeGroup → ℕ → Option Choice
of_group opcode_group.Alu80 reg = one_of (row.AluRm8Imm8 reg) Imm8
of_group opcode_group.Alu81 reg = one_of (row.AluRm32Imm32 reg) Imm32
of_group opcode_group.Alu83 reg = one_of (row.AluRm32Imm8 reg) SignedImm8
of_group opcode_group.Pop8f reg = only_first row.PopRm32 Nothing reg
of_group opcode_group.ShiftC0 reg = shift_choice (row.ShiftRm8Imm8 reg) Imm8 reg
of_group opcode_group.ShiftC1 reg = shift_choice (row.ShiftRm32Imm8 reg) Imm8 reg
of_group opcode_group.ShiftD0 reg = shift_choice (row.ShiftRm8One reg) Nothing reg
of_group opcode_group.ShiftD1 reg = shift_choice (row.ShiftRm32One reg) Nothing reg
of_group opcode_group.ShiftD2 reg = shift_choice (row.ShiftRm8Cl reg) Nothing reg
of_group opcode_group.ShiftD3 reg = shift_choice (row.ShiftRm32Cl reg) Nothing reg
of_group opcode_group.MovC6 reg = only_first row.MovRm8Imm8 Imm8 reg
of_group opcode_group.MovC7 reg = only_first row.MovRm32Imm32 Imm32 reg
of_group opcode_group.UnaryF6 reg = unary_f6 reg
of_group opcode_group.UnaryF7 reg = unary_f7 reg
of_group opcode_group.StepFe reg = step_fe reg
of_group opcode_group.StepFf reg = step_ff reg

-- What a ModRM byte chooses whose operand is a register or not, and whose reg this is. LEA takes no register,
-- and a SETcc does not read reg.
unfoldable pub choice_of : Fields → Bool → ℕ → Option Choice
choice_of (Register chosen immediate) is_register reg = Some (record { row = chosen; reg = reg; immediate = immediate })
choice_of (MemoryOnly chosen) true reg = None
choice_of (MemoryOnly chosen) false reg = Some (record { row = chosen; reg = reg; immediate = Nothing })
choice_of (NoRegister chosen) is_register reg = one_of chosen Nothing
choice_of (Group group) is_register reg = of_group group reg
