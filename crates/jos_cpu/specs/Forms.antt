-- What each row of the instruction table does, in common terms: `Compute act width target left right` gives the
-- target what the act makes of the left and the right number. NEG, for one, is SUB of the operand from 0.
-- (Intel 80386 Programmer's Reference Manual, 1986, section 17.2.2, each instruction under its name.)
use Rattle.std.specs.Prelude.{ℕ, ◌==◌, Bool, true, false, if◌then◌else◌}
use Rattle.jos_isa.specs.declared.instruction.Row.{Row}
use Rattle.jos_isa.specs.declared.instruction.Row.TheVariants as row
use Rattle.jos_isa.specs.declared.instruction.Row.TheVariants.{AluRm8R8, AluRm32R32, AluR8Rm8, AluR32Rm32, AluAlImm8}
use Rattle.jos_isa.specs.declared.instruction.Row.TheVariants.{AluEaxImm32, AluRm8Imm8, AluRm32Imm32, AluRm32Imm8}
use Rattle.jos_isa.specs.declared.instruction.Row.TheVariants.{IncR32, DecR32, IncRm8, DecRm8, IncRm32, DecRm32}
use Rattle.jos_isa.specs.declared.instruction.Row.TheVariants.{PushR32, PopR32, PushImm32, PushImm8, PushRm32}
use Rattle.jos_isa.specs.declared.instruction.Row.TheVariants.{PopRm32, Pusha, Popa, Pushf, Popf, ImulR32Rm32Imm32}
use Rattle.jos_isa.specs.declared.instruction.Row.TheVariants.{ImulR32Rm32Imm8, ImulR32Rm32, MulRm8, MulRm32, ImulRm8}
use Rattle.jos_isa.specs.declared.instruction.Row.TheVariants.{ImulRm32, DivRm8, DivRm32, IdivRm8, IdivRm32, Cwde}
use Rattle.jos_isa.specs.declared.instruction.Row.TheVariants.{Cdq, JccRel8, JccRel32, SetccRm8, TestRm8R8}
use Rattle.jos_isa.specs.declared.instruction.Row.TheVariants.{TestRm32R32, TestAlImm8, TestEaxImm32, TestRm8Imm8}
use Rattle.jos_isa.specs.declared.instruction.Row.TheVariants.{TestRm32Imm32, NotRm8, NotRm32, NegRm8, NegRm32}
use Rattle.jos_isa.specs.declared.instruction.Row.TheVariants.{XchgRm8R8, XchgRm32R32, XchgEaxR32, MovRm8R8}
use Rattle.jos_isa.specs.declared.instruction.Row.TheVariants.{MovRm32R32, MovR8Rm8, MovR32Rm32, MovAlAddr}
use Rattle.jos_isa.specs.declared.instruction.Row.TheVariants.{MovEaxAddr, MovAddrAl, MovAddrEax, MovR8Imm8}
use Rattle.jos_isa.specs.declared.instruction.Row.TheVariants.{MovR32Imm32, MovRm8Imm8, MovRm32Imm32, MovzxR32Rm8}
use Rattle.jos_isa.specs.declared.instruction.Row.TheVariants.{MovzxR32Rm16, MovsxR32Rm8, MovsxR32Rm16, LeaR32Mem}
use Rattle.jos_isa.specs.declared.instruction.Row.TheVariants.{Movsb, Movsd, Cmpsb, Cmpsd, Stosb, Stosd, Lodsb, Lodsd}
use Rattle.jos_isa.specs.declared.instruction.Row.TheVariants.{Scasb, Scasd, ShiftRm8Imm8, ShiftRm32Imm8, ShiftRm8One}
use Rattle.jos_isa.specs.declared.instruction.Row.TheVariants.{ShiftRm32One, ShiftRm8Cl, ShiftRm32Cl, ShldRm32R32Imm8}
use Rattle.jos_isa.specs.declared.instruction.Row.TheVariants.{ShldRm32R32Cl, ShrdRm32R32Imm8, ShrdRm32R32Cl}
use Rattle.jos_isa.specs.declared.instruction.Row.TheVariants.{CallRel32, CallRm32, JmpRel32, JmpRel8, JmpRm32}
use Rattle.jos_isa.specs.declared.instruction.Row.TheVariants.{RetImm16, Ret, Int3, IntImm8, Cmc, Clc, Stc, Cld, Std}
use Rattle.jos_isa.specs.declared.instruction.Row.TheVariants.{InAlImm8, InEaxImm8, OutImm8Al, OutImm8Eax, InAlDx}
use Rattle.jos_isa.specs.declared.instruction.Row.TheVariants.{InEaxDx, OutDxAl, OutDxEax, Hlt, Cli, Sti, Nop}
use Rattle.jos_alu.specs.declared.width.Width.{Width}
use Rattle.jos_alu.specs.declared.width.Width.TheVariants.{Bits8, Bits16, Bits32}
use Rattle.jos_cpu.specs.declared.forms.Site.{Site}
use Rattle.jos_cpu.specs.declared.forms.Site.TheVariants.{Nowhere, Operand, Named, Accumulator, Immediate, One, Cl}
use Rattle.jos_alu.specs.declared.shifts.Shift.{Shift}
use Rattle.jos_alu.specs.declared.shifts.Shift.TheVariants.{Rol, Ror, Shl, Shr, Sar, Shld, Shrd}
use Rattle.jos_alu.specs.declared.operation.Operation.{Operation}
use Rattle.jos_alu.specs.declared.operation.Operation.TheVariants.{Add, Or, Adc, Sbb, And, Sub, Xor, Cmp}
use Rattle.jos_alu.specs.declared.condition.Condition.{Condition}
use Rattle.jos_alu.specs.declared.condition.Condition.TheVariants as condition
use Rattle.jos_cpu.specs.declared.forms.Act.TheVariants.{Move, Operate, Test, Increase, Decrease, Complement, ShiftBy}
use Rattle.jos_cpu.specs.declared.forms.Act.TheVariants.{SetIf, Multiply}
use Rattle.jos_alu.specs.declared.products.Sign.TheVariants.{Unsigned, Signed}
use Rattle.jos_cpu.specs.declared.forms.StringOperation.TheVariants.{Movs, Cmps, Stos, Lods, Scas}
use Rattle.jos_cpu.specs.declared.forms.FlagChange.TheVariants.{ComplementCarry, ClearCarry, SetCarry, ClearDirection}
use Rattle.jos_cpu.specs.declared.forms.FlagChange.TheVariants.{SetDirection}
use Rattle.jos_cpu.specs.declared.forms.Form.{Form}
use Rattle.jos_cpu.specs.declared.forms.Form.TheVariants.{Compute, Exchange, Extend, LoadAddress, LoadFrom, StoreTo}
use Rattle.jos_cpu.specs.declared.forms.Form.TheVariants.{ShiftTwo, Product, Quotient, ExtendAccumulator}
use Rattle.jos_cpu.specs.declared.forms.Form.TheVariants.{ExtendDouble, Push, Pop, PushAll, PopAll, PushFlags}
use Rattle.jos_cpu.specs.declared.forms.Form.TheVariants.{PopFlags, Leave, Branch, Jump, JumpTo, Call, CallTo, Return}
use Rattle.jos_cpu.specs.declared.forms.Form.TheVariants.{Breakpoint, Interrupt, Strings, Flag, Privileged, Nothing}

-- ---- the numbers that a row carries

-- an operation by bits 5, 4 and 3 of its opcode, or reg of its ModRM byte
unfoldable pub operation_of : ℕ → Operation
operation_of k =
    if k == 0 then Add else if k == 1 then Or else if k == 2 then Adc else if k == 3 then Sbb
    else if k == 4 then And else if k == 5 then Sub else if k == 6 then Xor else Cmp

-- a condition by the low four bits of its opcode
unfoldable pub condition_of : ℕ → Condition
condition_of c =
    if c == 0 then condition.Overflow else if c == 1 then condition.NotOverflow
    else if c == 2 then condition.Below else if c == 3 then condition.AboveOrEqual
    else if c == 4 then condition.Equal else if c == 5 then condition.NotEqual
    else if c == 6 then condition.BelowOrEqual else if c == 7 then condition.Above
    else if c == 8 then condition.Sign else if c == 9 then condition.NotSign
    else if c == 10 then condition.ParityEven else if c == 11 then condition.ParityOdd
    else if c == 12 then condition.Less else if c == 13 then condition.GreaterOrEqual
    else if c == 14 then condition.LessOrEqual else condition.Greater

-- a shift by reg of its ModRM byte
abbrev pub shift_of : ℕ → Shift
shift_of k = if k == 0 then Rol else if k == 1 then Ror else if k == 4 then Shl else if k == 5 then Shr else Sar

-- ---- forms that families share

-- CMP alone sets flags and keeps the left number.
abbrev pub drops_result : Operation → Bool
drops_result Cmp = true
drops_result _ = false

abbrev pub operation_form : ℕ → Width → Site → Site → Form
operation_form k width left right =
    Compute (Operate (operation_of k)) width (if drops_result (operation_of k) then Nowhere else left) left right

abbrev pub shift_form : ℕ → Width → Site → Form
shift_form k width count = Compute (ShiftBy (shift_of k)) width Operand Operand count

unfoldable pub form_of : Row → Form
-- arithmetic and logic: CMP alone drops its result
form_of (AluRm8R8 k) = operation_form k Bits8 Operand Named
form_of (AluRm32R32 k) = operation_form k Bits32 Operand Named
form_of (AluR8Rm8 k) = operation_form k Bits8 Named Operand
form_of (AluR32Rm32 k) = operation_form k Bits32 Named Operand
form_of (AluAlImm8 k) = operation_form k Bits8 Accumulator Immediate
form_of (AluEaxImm32 k) = operation_form k Bits32 Accumulator Immediate
form_of (AluRm8Imm8 k) = operation_form k Bits8 Operand Immediate
form_of (AluRm32Imm32 k) = operation_form k Bits32 Operand Immediate
form_of (AluRm32Imm8 k) = operation_form k Bits32 Operand Immediate
-- one more or one less, and the stack
form_of IncR32 = Compute Increase Bits32 Named Named One
form_of DecR32 = Compute Decrease Bits32 Named Named One
form_of IncRm8 = Compute Increase Bits8 Operand Operand One
form_of DecRm8 = Compute Decrease Bits8 Operand Operand One
form_of IncRm32 = Compute Increase Bits32 Operand Operand One
form_of DecRm32 = Compute Decrease Bits32 Operand Operand One
form_of PushR32 = Push Named
form_of PopR32 = Pop Named
form_of PushImm32 = Push Immediate
form_of PushImm8 = Push Immediate
form_of PushRm32 = Push Operand
form_of PopRm32 = Pop Operand
form_of Pusha = PushAll
form_of Popa = PopAll
form_of Pushf = PushFlags
form_of Popf = PopFlags
-- products and quotients
form_of ImulR32Rm32Imm32 = Compute Multiply Bits32 Named Operand Immediate
form_of ImulR32Rm32Imm8 = Compute Multiply Bits32 Named Operand Immediate
form_of ImulR32Rm32 = Compute Multiply Bits32 Named Named Operand
form_of MulRm8 = Product Unsigned Bits8
form_of MulRm32 = Product Unsigned Bits32
form_of ImulRm8 = Product Signed Bits8
form_of ImulRm32 = Product Signed Bits32
form_of DivRm8 = Quotient Unsigned Bits8
form_of DivRm32 = Quotient Unsigned Bits32
form_of IdivRm8 = Quotient Signed Bits8
form_of IdivRm32 = Quotient Signed Bits32
form_of Cwde = ExtendAccumulator
form_of Cdq = ExtendDouble
-- by condition
form_of (JccRel8 c) = Branch (condition_of c)
form_of (JccRel32 c) = Branch (condition_of c)
form_of (SetccRm8 c) = Compute (SetIf (condition_of c)) Bits8 Operand Nowhere Nowhere
-- tests, negations and exchanges; NEG is 0 less the operand
form_of TestRm8R8 = Compute Test Bits8 Nowhere Operand Named
form_of TestRm32R32 = Compute Test Bits32 Nowhere Operand Named
form_of TestAlImm8 = Compute Test Bits8 Nowhere Accumulator Immediate
form_of TestEaxImm32 = Compute Test Bits32 Nowhere Accumulator Immediate
form_of TestRm8Imm8 = Compute Test Bits8 Nowhere Operand Immediate
form_of TestRm32Imm32 = Compute Test Bits32 Nowhere Operand Immediate
form_of NotRm8 = Compute Complement Bits8 Operand Operand Nowhere
form_of NotRm32 = Compute Complement Bits32 Operand Operand Nowhere
form_of NegRm8 = Compute (Operate Sub) Bits8 Operand Nowhere Operand
form_of NegRm32 = Compute (Operate Sub) Bits32 Operand Nowhere Operand
form_of XchgRm8R8 = Exchange Bits8 Operand
form_of XchgRm32R32 = Exchange Bits32 Operand
form_of XchgEaxR32 = Exchange Bits32 Accumulator
-- moves
form_of MovRm8R8 = Compute Move Bits8 Operand Nowhere Named
form_of MovRm32R32 = Compute Move Bits32 Operand Nowhere Named
form_of MovR8Rm8 = Compute Move Bits8 Named Nowhere Operand
form_of MovR32Rm32 = Compute Move Bits32 Named Nowhere Operand
form_of MovAlAddr = LoadFrom Bits8
form_of MovEaxAddr = LoadFrom Bits32
form_of MovAddrAl = StoreTo Bits8
form_of MovAddrEax = StoreTo Bits32
form_of MovR8Imm8 = Compute Move Bits8 Named Nowhere Immediate
form_of MovR32Imm32 = Compute Move Bits32 Named Nowhere Immediate
form_of MovRm8Imm8 = Compute Move Bits8 Operand Nowhere Immediate
form_of MovRm32Imm32 = Compute Move Bits32 Operand Nowhere Immediate
form_of MovzxR32Rm8 = Extend Unsigned Bits8
form_of MovzxR32Rm16 = Extend Unsigned Bits16
form_of MovsxR32Rm8 = Extend Signed Bits8
form_of MovsxR32Rm16 = Extend Signed Bits16
form_of LeaR32Mem = LoadAddress
-- strings
form_of Movsb = Strings Movs Bits8
form_of Movsd = Strings Movs Bits32
form_of Cmpsb = Strings Cmps Bits8
form_of Cmpsd = Strings Cmps Bits32
form_of Stosb = Strings Stos Bits8
form_of Stosd = Strings Stos Bits32
form_of Lodsb = Strings Lods Bits8
form_of Lodsd = Strings Lods Bits32
form_of Scasb = Strings Scas Bits8
form_of Scasd = Strings Scas Bits32
-- shifts
form_of (ShiftRm8Imm8 k) = shift_form k Bits8 Immediate
form_of (ShiftRm32Imm8 k) = shift_form k Bits32 Immediate
form_of (ShiftRm8One k) = shift_form k Bits8 One
form_of (ShiftRm32One k) = shift_form k Bits32 One
form_of (ShiftRm8Cl k) = shift_form k Bits8 Cl
form_of (ShiftRm32Cl k) = shift_form k Bits32 Cl
form_of ShldRm32R32Imm8 = ShiftTwo Shld Immediate
form_of ShldRm32R32Cl = ShiftTwo Shld Cl
form_of ShrdRm32R32Imm8 = ShiftTwo Shrd Immediate
form_of ShrdRm32R32Cl = ShiftTwo Shrd Cl
-- calls, jumps and returns
form_of CallRel32 = Call
form_of CallRm32 = CallTo
form_of JmpRel32 = Jump
form_of JmpRel8 = Jump
form_of JmpRm32 = JumpTo
form_of RetImm16 = Return
form_of Ret = Return
form_of row.Leave = Leave
form_of Int3 = Breakpoint
form_of IntImm8 = Interrupt
-- flags
form_of Cmc = Flag ComplementCarry
form_of Clc = Flag ClearCarry
form_of Stc = Flag SetCarry
form_of Cld = Flag ClearDirection
form_of Std = Flag SetDirection
-- what a user program may not do
form_of InAlImm8 = Privileged
form_of InEaxImm8 = Privileged
form_of OutImm8Al = Privileged
form_of OutImm8Eax = Privileged
form_of InAlDx = Privileged
form_of InEaxDx = Privileged
form_of OutDxAl = Privileged
form_of OutDxEax = Privileged
form_of Hlt = Privileged
form_of Cli = Privileged
form_of Sti = Privileged
form_of Nop = Nothing
