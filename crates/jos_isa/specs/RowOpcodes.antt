-- Where the opcode map has each instruction: the way back, from the instruction to its bytes.
-- (Intel 80386 Programmer's Reference Manual, 1986, chapter 17, the column "Opcode" of the instructions' pages, which
-- section 17.2.2.1 explains.)
use Rattle.std.specs.Prelude.{ℕ, ◌+◌, ◌*◌, ◌%◌, Option, Some, None}
use Rattle.jos_isa.specs.declared.instruction.Row.{Row}
use Rattle.jos_isa.specs.declared.instruction.Row.TheVariants as row
use Rattle.jos_isa.specs.declared.instruction.Repeat.{Repeat}
use Rattle.jos_isa.specs.declared.instruction.Repeat.TheVariants.{Once, WhileEqual, WhileNot}
use Rattle.jos_isa.specs.declared.opcode_map.Format.{Format}
use Rattle.jos_isa.specs.declared.opcode_map.Fields.{Fields}
use Rattle.jos_isa.specs.declared.opcode_map.Fields.TheVariants.{Register, MemoryOnly, NoRegister, Group}
use Rattle.jos_isa.specs.declared.opcode_map.Map.TheVariants.{TwoByte, Repne, Rep}
use Rattle.jos_isa.specs.declared.opcode_map.OpcodeEntry.{OpcodeEntry}
use Rattle.jos_isa.specs.declared.opcode_map.OpcodeEntry.TheVariants.{Unassigned, Complete, Behind}
use Rattle.jos_isa.specs.declared.row_opcodes.Opcode.{Opcode}
use Rattle.jos_isa.specs.declared.row_opcodes.Opcode.TheVariants.{One, Two}
use Rattle.jos_isa.specs.OpcodeMap.{opcode_entry, format_behind}

-- The opcode: one byte, or one behind 0F. Where it names a register, that is reg.
unfoldable pub opcode_of : Row → ℕ → Opcode
-- operations: k is in the opcode, or in reg
opcode_of (row.AluRm8R8 k) reg = One (8 * (k % 8))
opcode_of (row.AluRm32R32 k) reg = One (8 * (k % 8) + 1)
opcode_of (row.AluR8Rm8 k) reg = One (8 * (k % 8) + 2)
opcode_of (row.AluR32Rm32 k) reg = One (8 * (k % 8) + 3)
opcode_of (row.AluAlImm8 k) reg = One (8 * (k % 8) + 4)
opcode_of (row.AluEaxImm32 k) reg = One (8 * (k % 8) + 5)
opcode_of (row.AluRm8Imm8 _) reg = One 0x80
opcode_of (row.AluRm32Imm32 _) reg = One 0x81
opcode_of (row.AluRm32Imm8 _) reg = One 0x83
-- one more or one less, and the stack
opcode_of row.IncR32 reg = One (0x40 + reg % 8)
opcode_of row.DecR32 reg = One (0x48 + reg % 8)
opcode_of row.IncRm8 reg = One 0xfe
opcode_of row.DecRm8 reg = One 0xfe
opcode_of row.IncRm32 reg = One 0xff
opcode_of row.DecRm32 reg = One 0xff
opcode_of row.PushR32 reg = One (0x50 + reg % 8)
opcode_of row.PopR32 reg = One (0x58 + reg % 8)
opcode_of row.PushImm32 reg = One 0x68
opcode_of row.PushImm8 reg = One 0x6a
opcode_of row.PushRm32 reg = One 0xff
opcode_of row.PopRm32 reg = One 0x8f
opcode_of row.Pusha reg = One 0x60
opcode_of row.Popa reg = One 0x61
opcode_of row.Pushf reg = One 0x9c
opcode_of row.Popf reg = One 0x9d
-- products and quotients
opcode_of row.ImulR32Rm32Imm32 reg = One 0x69
opcode_of row.ImulR32Rm32Imm8 reg = One 0x6b
opcode_of row.ImulR32Rm32 reg = Two 0xaf
opcode_of row.MulRm8 reg = One 0xf6
opcode_of row.MulRm32 reg = One 0xf7
opcode_of row.ImulRm8 reg = One 0xf6
opcode_of row.ImulRm32 reg = One 0xf7
opcode_of row.DivRm8 reg = One 0xf6
opcode_of row.DivRm32 reg = One 0xf7
opcode_of row.IdivRm8 reg = One 0xf6
opcode_of row.IdivRm32 reg = One 0xf7
opcode_of row.Cwde reg = One 0x98
opcode_of row.Cdq reg = One 0x99
-- conditions
opcode_of (row.JccRel8 c) reg = One (0x70 + c % 16)
opcode_of (row.JccRel32 c) reg = Two (0x80 + c % 16)
opcode_of (row.SetccRm8 c) reg = Two (0x90 + c % 16)
-- tests, negations and exchanges
opcode_of row.TestRm8R8 reg = One 0x84
opcode_of row.TestRm32R32 reg = One 0x85
opcode_of row.TestAlImm8 reg = One 0xa8
opcode_of row.TestEaxImm32 reg = One 0xa9
opcode_of row.TestRm8Imm8 reg = One 0xf6
opcode_of row.TestRm32Imm32 reg = One 0xf7
opcode_of row.NotRm8 reg = One 0xf6
opcode_of row.NotRm32 reg = One 0xf7
opcode_of row.NegRm8 reg = One 0xf6
opcode_of row.NegRm32 reg = One 0xf7
opcode_of row.XchgRm8R8 reg = One 0x86
opcode_of row.XchgRm32R32 reg = One 0x87
opcode_of row.XchgEaxR32 reg = One (0x90 + reg % 8)
-- moves
opcode_of row.MovRm8R8 reg = One 0x88
opcode_of row.MovRm32R32 reg = One 0x89
opcode_of row.MovR8Rm8 reg = One 0x8a
opcode_of row.MovR32Rm32 reg = One 0x8b
opcode_of row.MovAlAddr reg = One 0xa0
opcode_of row.MovEaxAddr reg = One 0xa1
opcode_of row.MovAddrAl reg = One 0xa2
opcode_of row.MovAddrEax reg = One 0xa3
opcode_of row.MovR8Imm8 reg = One (0xb0 + reg % 8)
opcode_of row.MovR32Imm32 reg = One (0xb8 + reg % 8)
opcode_of row.MovRm8Imm8 reg = One 0xc6
opcode_of row.MovRm32Imm32 reg = One 0xc7
opcode_of row.MovzxR32Rm8 reg = Two 0xb6
opcode_of row.MovzxR32Rm16 reg = Two 0xb7
opcode_of row.MovsxR32Rm8 reg = Two 0xbe
opcode_of row.MovsxR32Rm16 reg = Two 0xbf
opcode_of row.LeaR32Mem reg = One 0x8d
-- strings
opcode_of row.Movsb reg = One 0xa4
opcode_of row.Movsd reg = One 0xa5
opcode_of row.Cmpsb reg = One 0xa6
opcode_of row.Cmpsd reg = One 0xa7
opcode_of row.Stosb reg = One 0xaa
opcode_of row.Stosd reg = One 0xab
opcode_of row.Lodsb reg = One 0xac
opcode_of row.Lodsd reg = One 0xad
opcode_of row.Scasb reg = One 0xae
opcode_of row.Scasd reg = One 0xaf
-- shifts
opcode_of (row.ShiftRm8Imm8 _) reg = One 0xc0
opcode_of (row.ShiftRm32Imm8 _) reg = One 0xc1
opcode_of (row.ShiftRm8One _) reg = One 0xd0
opcode_of (row.ShiftRm32One _) reg = One 0xd1
opcode_of (row.ShiftRm8Cl _) reg = One 0xd2
opcode_of (row.ShiftRm32Cl _) reg = One 0xd3
opcode_of row.ShldRm32R32Imm8 reg = Two 0xa4
opcode_of row.ShldRm32R32Cl reg = Two 0xa5
opcode_of row.ShrdRm32R32Imm8 reg = Two 0xac
opcode_of row.ShrdRm32R32Cl reg = Two 0xad
-- calls, jumps and returns
opcode_of row.CallRel32 reg = One 0xe8
opcode_of row.CallRm32 reg = One 0xff
opcode_of row.JmpRel32 reg = One 0xe9
opcode_of row.JmpRel8 reg = One 0xeb
opcode_of row.JmpRm32 reg = One 0xff
opcode_of row.RetImm16 reg = One 0xc2
opcode_of row.Ret reg = One 0xc3
opcode_of row.Leave reg = One 0xc9
opcode_of row.Int3 reg = One 0xcc
opcode_of row.IntImm8 reg = One 0xcd
-- flags, ports and halts
opcode_of row.Cmc reg = One 0xf5
opcode_of row.Clc reg = One 0xf8
opcode_of row.Stc reg = One 0xf9
opcode_of row.Cld reg = One 0xfc
opcode_of row.Std reg = One 0xfd
opcode_of row.InAlImm8 reg = One 0xe4
opcode_of row.InEaxImm8 reg = One 0xe5
opcode_of row.OutImm8Al reg = One 0xe6
opcode_of row.OutImm8Eax reg = One 0xe7
opcode_of row.InAlDx reg = One 0xec
opcode_of row.InEaxDx reg = One 0xed
opcode_of row.OutDxAl reg = One 0xee
opcode_of row.OutDxEax reg = One 0xef
opcode_of row.Hlt reg = One 0xf4
opcode_of row.Cli reg = One 0xfa
opcode_of row.Sti reg = One 0xfb
opcode_of row.Nop reg = One 0x90

-- what reg of the ModRM byte holds where it chooses the instruction; else 0
unfoldable pub digit_of : Row → ℕ
digit_of (row.AluRm8Imm8 k) = k
digit_of (row.AluRm32Imm32 k) = k
digit_of (row.AluRm32Imm8 k) = k
digit_of (row.ShiftRm8Imm8 k) = k
digit_of (row.ShiftRm32Imm8 k) = k
digit_of (row.ShiftRm8One k) = k
digit_of (row.ShiftRm32One k) = k
digit_of (row.ShiftRm8Cl k) = k
digit_of (row.ShiftRm32Cl k) = k
digit_of row.NotRm8 = 2
digit_of row.NotRm32 = 2
digit_of row.NegRm8 = 3
digit_of row.NegRm32 = 3
digit_of row.MulRm8 = 4
digit_of row.MulRm32 = 4
digit_of row.ImulRm8 = 5
digit_of row.ImulRm32 = 5
digit_of row.DivRm8 = 6
digit_of row.DivRm32 = 6
digit_of row.IdivRm8 = 7
digit_of row.IdivRm32 = 7
digit_of row.DecRm8 = 1
digit_of row.DecRm32 = 1
digit_of row.CallRm32 = 2
digit_of row.JmpRm32 = 4
digit_of row.PushRm32 = 6
digit_of _ = 0

abbrev pub whole_format : OpcodeEntry → Option Format
whole_format (Complete format) = Some format
whole_format Unassigned = None
whole_format (Behind map) = None

-- the format that stands at an opcode, behind the prefix of a repetition where there is one
unfoldable pub format_in : Repeat → Opcode → Option Format
format_in Once (One opcode) = whole_format (opcode_entry opcode)
format_in Once (Two opcode) = format_behind TwoByte opcode
format_in WhileEqual (One opcode) = format_behind Rep opcode
format_in WhileEqual (Two opcode) = None
format_in WhileNot (One opcode) = format_behind Repne opcode
format_in WhileNot (Two opcode) = None

-- what reg of the ModRM byte holds
unfoldable pub field_of : Fields → Row → ℕ → ℕ
field_of (Register _ _) row reg = reg
field_of (MemoryOnly _) row reg = reg
field_of (NoRegister _) row reg = 0
field_of (Group _) row reg = digit_of row
