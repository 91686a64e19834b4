-- The items of a program.
-- (Intel 80386 Programmer's Reference Manual, 1986, chapter 17: CALL, Jcc, JMP and MOV.)
use Rattle.std.specs.Prelude.{ℕ, ◌+◌, ◌-◌, ◌*◌, ◌/◌, Bool, true, false, nat_lt, List, length, Option, Some, None}
use Rattle.jos_isa.specs.declared.instruction.Insn.{Insn}
use Rattle.jos_isa.specs.declared.instruction.Row.{Row}
use Rattle.jos_isa.specs.declared.instruction.Row.TheVariants as row
use Rattle.jos_isa.specs.declared.instruction.Repeat.TheVariants.{Once}
use Rattle.jos_isa.specs.declared.instruction.Operand.TheVariants.{Absent}
use Rattle.jos_isa.specs.Lawful.{is_lawful}
use Rattle.jos_isa.specs.Encoding.{encoded}
use Rattle.jos_asm.specs.declared.limits.TheConstants.{BLOCK}
use Rattle.jos_asm.specs.declared.item.Item.{Item}
use Rattle.jos_asm.specs.declared.item.Item.TheVariants as item

-- the relative jumps and the relative call
abbrev pub is_relative : Row → Bool
is_relative (row.JccRel8 c) = nat_lt c 16
is_relative (row.JccRel32 c) = nat_lt c 16
is_relative row.JmpRel8 = true
is_relative row.JmpRel32 = true
is_relative row.CallRel32 = true
is_relative _ = false

-- those with a distance of one byte
abbrev pub is_byte_jump : Row → Bool
is_byte_jump (row.JccRel8 c) = true
is_byte_jump row.JmpRel8 = true
is_byte_jump _ = false

-- an item that can be spelled
abbrev pub is_item : Item → Bool
is_item (item.Label name) = true
is_item (item.Insn insn) = is_lawful insn
is_item (item.Jump row name) = is_relative row
is_item (item.Address reg name) = nat_lt reg 8
is_item (item.Bytes bytes) = true

-- a jump or call over this distance, counted from the next instruction
abbrev pub relative : Row → ℕ → Insn
relative row distance = record { row = row; repeat = Once; operand = Absent; reg = 0; imm = distance }

-- how many bytes a jump or call has: an opcode of one byte or two, and a distance of one byte or four
abbrev pub relative_length : Row → ℕ
relative_length (row.JccRel8 c) = 2
relative_length (row.JccRel32 c) = 6
relative_length row.JmpRel8 = 2
relative_length row.JmpRel32 = 5
relative_length row.CallRel32 = 5
relative_length _ = 0

-- how many bytes an item takes
abbrev pub length_of : Item → ℕ
length_of (item.Label name) = 0
length_of (item.Insn insn) = length (encoded insn)
length_of (item.Jump row name) = relative_length row
length_of (item.Address reg name) = 5
length_of (item.Bytes bytes) = length bytes

-- for how many items there is room in the blocks that so many take
abbrev pub room_of_blocks : ℕ → ℕ
room_of_blocks n = BLOCK * ((n + (BLOCK - 1)) / BLOCK)

-- the label that an item names, if it is not one itself
abbrev pub target_of : Item → Option (List ℕ)
target_of (item.Label name) = None
target_of (item.Insn insn) = None
target_of (item.Jump row name) = Some name
target_of (item.Address reg name) = Some name
target_of (item.Bytes bytes) = None
