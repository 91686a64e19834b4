-- Which bytes spell which instruction. Nothing is said of how they are read.
-- (Intel 80386 Programmer's Reference Manual, 1986, section 17.2, "Instruction Format": 17.2.1, "ModR/M and SIB
-- Bytes", with its tables 17-3 and 17-4.)
use Rattle.std.specs.Prelude.{◌≡◌, ◌≢◌, ℕ, ◌+◌, ◌*◌, ◌<◌, ◌==◌, ◌&&◌, List, [], ◌∷◌, ◌++◌, Option, Some, None, nat_lt}
use Rattle.std.specs.Prelude.{if◌then◌else◌, ◌⊎◌}
use Rattle.std.specs.Int.{w8, w16, w32, from_le_bytes, cast_signed}
use Rattle.jos_isa.specs.declared.instruction.Insn.{Insn}
use Rattle.jos_isa.specs.declared.instruction.Repeat.TheVariants.{Once}
use Rattle.jos_isa.specs.declared.instruction.Operand.{Operand}
use Rattle.jos_isa.specs.declared.instruction.Operand.TheVariants.{Absent, Reg, Mem}
use Rattle.jos_isa.specs.declared.instruction.MemArg.{MemArg}
use Rattle.jos_isa.specs.declared.instruction.Disp.{Disp}
use Rattle.jos_isa.specs.declared.instruction.Disp.TheVariants as disp
use Rattle.jos_isa.specs.declared.opcode_map.Format.{Format}
use Rattle.jos_isa.specs.declared.opcode_map.Format.TheVariants.{Plain, ModRm}
use Rattle.jos_isa.specs.declared.opcode_map.Fields.{Fields}
use Rattle.jos_isa.specs.declared.opcode_map.Immediate.{Immediate}
use Rattle.jos_isa.specs.declared.opcode_map.Immediate.TheVariants.{Nothing, Imm8, SignedImm8, Imm16, Imm32}
use Rattle.jos_isa.specs.declared.opcode_map.Map.{Map}
use Rattle.jos_isa.specs.declared.opcode_map.OpcodeEntry.TheVariants.{Complete, Behind}
use Rattle.jos_isa.specs.declared.behind_opcode.DispKind.{DispKind}
use Rattle.jos_isa.specs.declared.behind_opcode.DispKind.TheVariants as disp_kind
use Rattle.jos_isa.specs.declared.behind_opcode.Sib.{Sib}
use Rattle.jos_isa.specs.declared.behind_opcode.Chosen.{Chosen}
use Rattle.jos_isa.specs.OpcodeMap.{opcode_entry, format_behind, choice_of}

-- ---- immediates

-- a byte as a word of the same signed value
abbrev pub sign_extended_byte : ℕ → ℕ
sign_extended_byte byte = if nat_lt byte 128 then byte else byte + 0xffff_ff00

-- no byte; a byte; a byte that is extended with its sign; two bytes or four, the lowest first
abbrev pub SpellsImmediate : Immediate → ℕ → List ℕ → Type 0
SpellsImmediate Nothing value bytes = (value ≡ 0) × (bytes ≡ [])
SpellsImmediate Imm8 value bytes = bytes ≡ value ∷ []
SpellsImmediate SignedImm8 value bytes = (byte : ℕ) × (value ≡ sign_extended_byte byte) × (bytes ≡ byte ∷ [])
SpellsImmediate Imm16 value bytes = (a b : ℕ) × (value ≡ from_le_bytes w16 (a ∷ b ∷ [])) × (bytes ≡ a ∷ b ∷ [])
SpellsImmediate Imm32 value bytes =
    (a b c d : ℕ) × (value ≡ from_le_bytes w32 (a ∷ b ∷ c ∷ d ∷ [])) × (bytes ≡ a ∷ b ∷ c ∷ d ∷ [])

-- ---- operands

-- no byte; a signed byte; four bytes, the lowest first
abbrev pub SpellsDisp : DispKind → Disp → List ℕ → Type 0
SpellsDisp disp_kind.Nothing value bytes = (value ≡ disp.Zero) × (bytes ≡ [])
SpellsDisp disp_kind.Disp8 value bytes = (byte : ℕ) × (value ≡ disp.Byte (cast_signed w8 byte)) × (bytes ≡ byte ∷ [])
SpellsDisp disp_kind.Disp32 value bytes =
    (a b c d : ℕ) × (value ≡ disp.Word (from_le_bytes w32 (a ∷ b ∷ c ∷ d ∷ []))) × (bytes ≡ a ∷ b ∷ c ∷ d ∷ [])

-- Here and below mod is called mode.

-- How mod and the number of the base say what displacement follows: none with mod 0, a byte with mod 1 and a
-- word with mod 2. But with mod 0 the number 5 is a word without base.
abbrev pub disp_kind_of : ℕ → ℕ → DispKind
disp_kind_of mode number =
    if mode == 0 then (if number == 5 then disp_kind.Disp32 else disp_kind.Nothing)
    else if mode == 1 then disp_kind.Disp8
    else disp_kind.Disp32

abbrev pub base_of : ℕ → ℕ → Option ℕ
base_of mode number = if mode == 0 && number == 5 then None else Some number

-- An index field of 4 means that there is none; its scale says nothing.
abbrev pub sib_of : ℕ → ℕ → ℕ → Sib
sib_of scale index base =
    if index == 4 then record { base = base; index = None; scale = 0 }
    else record { base = base; index = Some index; scale = scale }

-- A SIB byte has scale in its bits 6 and 7, index in 3 to 5 and base in 0 to 2. It stands where rm is 4; any
-- other rm is itself the number of the base.
abbrev pub SpellsSib : ℕ → Sib → List ℕ → Type 0
SpellsSib rm sib bytes =
    ((rm ≢ 4) × (sib ≡ record { base = rm; index = None; scale = 0 }) × (bytes ≡ []))
    ⊎ ((scale index base : ℕ) × (rm ≡ 4) × (index < 8) × (base < 8)
    × (sib ≡ sib_of scale index base) × (bytes ≡ (64 * scale + 8 * index + base) ∷ []))

-- base, index and scale, and then the displacement
abbrev pub SpellsMemory : ℕ → ℕ → MemArg → List ℕ → Type 0
SpellsMemory mode rm arg bytes =
    (sib : Sib) × (front back : List ℕ) × (bytes ≡ front ++ back)
    × SpellsSib rm sib front
    × SpellsDisp (disp_kind_of mode sib.base) arg.disp back
    × (arg ≡ record { base = base_of mode sib.base; index = sib.index; scale = sib.scale; disp = arg.disp })

-- With mod 3 the operand is the register rm, else memory.
abbrev pub SpellsOperand : ℕ → ℕ → Operand → List ℕ → Type 0
SpellsOperand mode rm (Reg register) bytes = (mode ≡ 3) × (register ≡ rm) × (bytes ≡ [])
SpellsOperand mode rm (Mem arg) bytes = (mode ≢ 3) × SpellsMemory mode rm arg bytes
SpellsOperand mode rm Absent bytes = ⊥

-- ---- instructions

-- A ModRM byte has mod in its bits 6 and 7, reg in 3 to 5 and rm in 0 to 2.
abbrev pub SpellsModRm : Fields → Chosen → List ℕ → Type 0
SpellsModRm fields chosen bytes =
    (reg : ℕ) × (reg < 8) × (chosen.rm < 8)
    × (choice_of fields (chosen.mode == 3) reg ≡ Some chosen.choice)
    × (bytes ≡ (64 * chosen.mode + 8 * reg + chosen.rm) ∷ [])

-- the operand and the immediate, behind the ModRM byte
abbrev pub SpellsRest : Chosen → Insn → List ℕ → Type 0
SpellsRest chosen insn bytes =
    (front back : List ℕ) × (bytes ≡ front ++ back)
    × SpellsOperand chosen.mode chosen.rm insn.operand front
    × SpellsImmediate chosen.choice.immediate insn.imm back
    × (insn ≡ record { row = chosen.choice.row; repeat = Once; operand = insn.operand; reg = chosen.choice.reg; imm = insn.imm })

-- what stands behind the opcode
abbrev pub SpellsFormat : Format → Insn → List ℕ → Type 0
SpellsFormat (Plain row repeat register immediate) insn bytes =
    SpellsImmediate immediate insn.imm bytes
    × (insn ≡ record { row = row; repeat = repeat; operand = Absent; reg = register; imm = insn.imm })
SpellsFormat (ModRm fields) insn bytes =
    (chosen : Chosen) × (front back : List ℕ) × (bytes ≡ front ++ back)
    × SpellsModRm fields chosen front
    × SpellsRest chosen insn back

-- an opcode of one byte, or of one that leads to a map and one of that map
abbrev pub SpellsOpcode : Format → List ℕ → Type 0
SpellsOpcode format (byte ∷ []) = opcode_entry byte ≡ Complete format
SpellsOpcode format (byte ∷ second ∷ []) = (map : Map) × (opcode_entry byte ≡ Behind map) × (format_behind map second ≡ Some format)
SpellsOpcode format _ = ⊥

abbrev pub Spells : Insn → List ℕ → Type 0
Spells insn bytes =
    (format : Format) × (front back : List ℕ) × (bytes ≡ front ++ back)
    × SpellsOpcode format front
    × SpellsFormat format insn back
