-- Words in which the clauses of this crate are written. What an instruction is stands in the other files, and a law
-- nowhere but in a clause.
use Rattle.std.specs.Prelude.{◌≡◌, ℕ, ◌<◌, ◌^◌, List, [], ◌∷◌, Result, Ok, Err, FitsSigned}
use Rattle.std.specs.Int.{w8}
use Rattle.jos_isa.specs.declared.instruction.Insn.{Insn}
use Rattle.jos_isa.specs.declared.instruction.Operand.{Operand}
use Rattle.jos_isa.specs.declared.instruction.Operand.TheVariants.{Absent, Reg, Mem}
use Rattle.jos_isa.specs.declared.instruction.Disp.{Disp}
use Rattle.jos_isa.specs.declared.instruction.Disp.TheVariants.{Zero, Byte, Word}
use Rattle.jos_isa.specs.declared.behind_opcode.PartFault.{PartFault}
use Rattle.jos_isa.specs.declared.decoder.Decoded.{Decoded}
use Rattle.jos_isa.specs.declared.decoder.Decoded.TheVariants.{Found, Short, Illegal}

-- What a function returned, seen by view, is what the definition gives.
abbrev pub Gives : {X Y : Type 0} → (X → Y) → Result X PartFault → Result Y PartFault → Type 0
Gives view (Ok x) read = read ≡ Ok (view x)
Gives view (Err e) read = read ≡ Err e

-- each number is that of a byte
abbrev pub AreBytes : List ℕ → Type 0
AreBytes [] = Unit {0}
AreBytes (byte ∷ bytes) = (byte < 256) × AreBytes bytes

-- P of the instruction and its length, if there is one
abbrev pub IfFound : Decoded → (Insn → ℕ → Type 0) → Type 0
IfFound (Found insn len) P = P insn len
IfFound Short P = Unit {0}
IfFound Illegal P = Unit {0}

-- An instruction's numbers fit their types.
abbrev pub DispFits : Disp → Type 0
DispFits Zero = Unit {0}
DispFits (Byte value) = FitsSigned w8 value
DispFits (Word value) = value < 2 ^ 32

abbrev pub OperandFits : Operand → Type 0
OperandFits Absent = Unit {0}
OperandFits (Reg register) = Unit {0}
OperandFits (Mem arg) = DispFits arg.disp

pub record NumbersFit (insn : Insn) : Type 0 where
  pub imm : insn.imm < 2 ^ 32
  pub operand : OperandFits insn.operand
