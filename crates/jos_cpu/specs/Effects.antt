-- What each form does with the registers, the number that it writes, and what comes of it.
-- (Intel 80386 Programmer's Reference Manual, 1986, section 17.2.2, the operation of each instruction.)
use Rattle.std.specs.Prelude.{ℕ, ◌+◌, ◌-◌, ◌*◌, ◌%◌, ◌^◌, ◌==◌, ◌&&◌, ◌||◌, not, Bool, true, false, bit_and, bit_or}
use Rattle.std.specs.Prelude.{bit_xor, Option, Some, None, if◌then◌else◌}
use Rattle.jos_base.specs.declared.registers.Regs.{Regs}
use Rattle.jos_base.specs.declared.numbers.TheConstants.{FL_CF, FL_ZF, FL_DF}
use Rattle.jos_base.specs.declared.numbers.TheConstants.{T_DIVIDE, T_BRKPT, T_GPFLT, T_SYSCALL, T_SERVICE}
use Rattle.jos_base.specs.TrapFrames.{flags_taken}
use Rattle.jos_base.specs.Environments.{bit_of}
use Rattle.jos_isa.specs.declared.instruction.Insn.{Insn}
use Rattle.jos_isa.specs.declared.instruction.Operand.{Operand}
use Rattle.jos_isa.specs.declared.instruction.Operand.TheVariants as operand
use Rattle.jos_isa.specs.declared.instruction.Repeat.{Repeat}
use Rattle.jos_isa.specs.declared.instruction.Repeat.TheVariants.{Once, WhileEqual, WhileNot}
use Rattle.jos_cpu.specs.declared.events.Event.{Event}
use Rattle.jos_cpu.specs.declared.events.Event.TheVariants.{Next, Soft, Raised}
use Rattle.jos_cpu.specs.declared.events.Gates.{Gates}
use Rattle.jos_cpu.specs.declared.events.Gates.TheVariants.{Exo, Run}
use Rattle.jos_alu.specs.declared.width.Width.{Width}
use Rattle.jos_alu.specs.declared.width.Width.TheVariants.{Bits8, Bits16, Bits32}
use Rattle.jos_cpu.specs.declared.forms.Site.{Site}
use Rattle.jos_cpu.specs.declared.forms.Site.TheVariants as place
use Rattle.jos_alu.specs.declared.shifts.Shift.{Shift}
use Rattle.jos_alu.specs.declared.products.Sign.{Sign}
use Rattle.jos_cpu.specs.declared.forms.Act.{Act}
use Rattle.jos_cpu.specs.declared.forms.Act.TheVariants.{Move, Operate, Test, Increase, Decrease, Complement, ShiftBy}
use Rattle.jos_cpu.specs.declared.forms.Act.TheVariants.{SetIf, Multiply}
use Rattle.jos_cpu.specs.declared.forms.StringOperation.{StringOperation}
use Rattle.jos_cpu.specs.declared.forms.StringOperation.TheVariants.{Movs, Cmps, Stos, Lods, Scas}
use Rattle.jos_cpu.specs.declared.forms.FlagChange.{FlagChange}
use Rattle.jos_cpu.specs.declared.forms.FlagChange.TheVariants.{ComplementCarry, ClearCarry, SetCarry, ClearDirection}
use Rattle.jos_cpu.specs.declared.forms.FlagChange.TheVariants.{SetDirection}
use Rattle.jos_cpu.specs.declared.forms.Form.{Form}
use Rattle.jos_cpu.specs.declared.forms.Form.TheVariants.{Compute, Exchange, Extend, LoadAddress, LoadFrom, StoreTo}
use Rattle.jos_cpu.specs.declared.forms.Form.TheVariants.{ShiftTwo, Product, Quotient, ExtendAccumulator}
use Rattle.jos_cpu.specs.declared.forms.Form.TheVariants.{ExtendDouble, Push, Pop, PushAll, PopAll, PushFlags}
use Rattle.jos_cpu.specs.declared.forms.Form.TheVariants.{PopFlags, Leave, Branch, Jump, JumpTo, Call, CallTo, Return}
use Rattle.jos_cpu.specs.declared.forms.Form.TheVariants.{Breakpoint, Interrupt, Strings, Flag, Privileged, Nothing}
use Rattle.jos_alu.specs.declared.flags.Computed.{Computed}
use Rattle.jos_alu.specs.declared.products.Halves.{Halves}
use Rattle.jos_cpu.specs.declared.transfers.Inputs.{Inputs}
use Rattle.jos_cpu.specs.declared.transfers.Inputs.TheVariants.{Numbers, Popped}
use Rattle.jos_alu.specs.Registers.{register, with_register, register_at, with_register_at, advanced}
use Rattle.jos_cpu.specs.Addresses.{address_of}
use Rattle.jos_alu.specs.Flags.{modulus, is_negative, is_set, operated, combined, increased, decreased}
use Rattle.jos_alu.specs.Flags.{subtracted, condition_holds}
use Rattle.jos_alu.specs.Shifts.{shifted}
use Rattle.jos_alu.specs.Products.{sign_extended, extended, double_register, with_halves, product_of, is_too_long}
use Rattle.jos_alu.specs.Products.{halves_of, product_flags, multiplied, quotient_of}
use Rattle.jos_cpu.specs.Accesses.{below_stack, bytes_in_width, is_repeated, is_over}

-- the registers after an instruction, the number for the access that it writes, if it has one, and what comes of it
pub record Done : Type 0 where
  pub registers : Regs
  pub value : ℕ
  pub event : Event

abbrev pub gives : Regs → ℕ → Done
gives regs value = record { registers = regs; value = value; event = Next }

abbrev pub raised : Regs → ℕ → ℕ → Done
raised old trap error = record { registers = old; value = 0; event = Raised trap error 0 }

-- a fact for a step that raises a trap
abbrev pub IfRaised : Event → Type 0 → Type 0
IfRaised Next P = Unit {0}
IfRaised (Soft n) P = Unit {0}
IfRaised (Raised trap error va) P = P

-- ---- places

abbrev pub first_input : Inputs → ℕ
first_input (Numbers a b) = a
first_input (Popped words) = 0

abbrev pub second_input : Inputs → ℕ
second_input (Numbers a b) = b
second_input (Popped words) = 0

-- the r/m operand, which is a register or what was read
abbrev pub operand_value : Width → Operand → Regs → Inputs → ℕ
operand_value width (operand.Reg n) regs inputs = register_at width regs n
operand_value width (operand.Mem arg) regs inputs = first_input inputs
operand_value width operand.Absent regs inputs = 0

abbrev pub with_operand : Width → Operand → ℕ → Regs → Regs
with_operand width (operand.Reg n) value regs = with_register_at width regs n value
with_operand width (operand.Mem arg) value regs = regs
with_operand width operand.Absent value regs = regs

unfoldable pub value_at : Site → Width → Insn → Regs → Inputs → ℕ
value_at place.Nowhere width insn regs inputs = 0
value_at place.Operand width insn regs inputs = operand_value width insn.operand regs inputs
value_at place.Named width insn regs inputs = register_at width regs insn.reg
value_at place.Accumulator width insn regs inputs = register_at width regs 0
value_at place.Immediate width insn regs inputs = insn.imm % modulus width
value_at place.One width insn regs inputs = 1
value_at place.Cl width insn regs inputs = regs.ecx % 256

unfoldable pub with_value_at : Site → Width → Insn → ℕ → Regs → Regs
with_value_at place.Nowhere width insn value regs = regs
with_value_at place.Operand width insn value regs = with_operand width insn.operand value regs
with_value_at place.Named width insn value regs = with_register_at width regs insn.reg value
with_value_at place.Accumulator width insn value regs = with_register_at width regs 0 value
with_value_at place.Immediate width insn value regs = regs
with_value_at place.One width insn value regs = regs
with_value_at place.Cl width insn value regs = regs

-- ---- what is computed

unfoldable pub computed : Act → Width → ℕ → ℕ → ℕ → Computed
computed Move width a b eflags = record { value = b; eflags = eflags }
computed (Operate operation) width a b eflags = operated operation width a b eflags
computed Test width a b eflags = combined width (bit_and a b) eflags
computed Increase width a b eflags = increased width a b eflags
computed Decrease width a b eflags = decreased width a b eflags
computed Complement width a b eflags = record { value = (0xffff_ffff - a) % modulus width; eflags = eflags }
computed (ShiftBy shift) width a b eflags = shifted shift width a 0 b eflags
computed (SetIf condition) width a b eflags = record { value = bit_of (condition_holds eflags condition); eflags = eflags }
computed Multiply width a b eflags = multiplied width a b eflags

abbrev pub with_flags : Regs → ℕ → Regs
with_flags regs eflags = record regs { eflags = eflags }

abbrev pub with_computed : Site → Width → Insn → Computed → Regs → Done
with_computed target width insn c regs = gives (with_value_at target width insn c.value (with_flags regs c.eflags)) c.value

abbrev pub compute_effect : Act → Width → Site → Site → Site → Insn → Regs → Inputs → Done
compute_effect act width target left right insn regs inputs =
    with_computed target width insn
    (computed act width (value_at left width insn regs inputs) (value_at right width insn regs inputs) regs.eflags) regs

abbrev pub shift_two_effect : Shift → Site → Insn → Regs → Inputs → Done
shift_two_effect shift count insn regs inputs =
    with_computed place.Operand Bits32 insn
    (shifted shift Bits32 (value_at place.Operand Bits32 insn regs inputs) (register regs insn.reg) (value_at count Bits8 insn regs inputs) regs.eflags)
    regs

-- The named register gets the other's number, and the other, which may be in memory, the register's.
abbrev pub exchange_effect : Width → Site → Insn → Regs → Inputs → Done
exchange_effect width other insn regs inputs =
    let a = value_at other width insn regs inputs in
    let b = register_at width regs insn.reg in
    gives (with_register_at width (with_value_at other width insn b regs) insn.reg a) b

abbrev pub load_address_effect : Operand → Insn → Regs → Done
load_address_effect (operand.Mem arg) insn regs = gives (with_register regs insn.reg (address_of arg regs)) 0
load_address_effect (operand.Reg n) insn regs = gives regs 0
load_address_effect operand.Absent insn regs = gives regs 0

-- ---- products and quotients of the accumulator and the operand

abbrev pub product_effect : Sign → Width → Insn → Regs → Inputs → Done
product_effect sign width insn regs inputs =
    let product = product_of sign width (register_at width regs 0) (value_at place.Operand width insn regs inputs) in
    gives (with_halves width (with_flags regs (product_flags regs.eflags (is_too_long sign width product))) (halves_of width product)) 0

-- Where there is no quotient, that is a divide error.
abbrev pub with_quotient : Option Halves → Width → Regs → Regs → Done
with_quotient None width old regs = raised old T_DIVIDE 0
with_quotient (Some halves) width old regs = gives (with_halves width regs halves) 0

abbrev pub quotient_effect : Sign → Width → Insn → Regs → Regs → Inputs → Done
quotient_effect sign width insn old regs inputs =
    with_quotient (quotient_of sign width (double_register width regs) (value_at place.Operand width insn regs inputs)) width old regs

-- ---- the stack

abbrev pub with_esp : Regs → ℕ → Regs
with_esp regs value = record regs { esp = value }

abbrev pub push_effect : Regs → ℕ → Done
push_effect regs value = gives (with_esp regs (below_stack regs 4)) value

abbrev pub with_esp_up : Regs → ℕ → Regs
with_esp_up regs n = with_esp regs ((regs.esp + n) % 2 ^ 32)

abbrev pub pop_effect : Site → Insn → Regs → ℕ → Done
pop_effect target insn regs value = gives (with_value_at target Bits32 insn value (with_esp_up regs 4)) value

-- ESP is raised past the eight words
abbrev pub pop_all_effect : Inputs → Regs → Done
pop_all_effect (Popped w) regs = gives (record regs {
  edi = w.edi;
  esi = w.esi;
  ebp = w.ebp;
  esp = (regs.esp + 32) % 2 ^ 32;
  ebx = w.ebx;
  edx = w.edx;
  ecx = w.ecx;
  eax = w.eax;
}) 0
pop_all_effect (Numbers a b) regs = gives regs 0

-- of the word the flags that a program sets; all else is kept
abbrev pub popped_flags : ℕ → ℕ → ℕ
popped_flags eflags value = bit_or (bit_and eflags (0xffff_ffff - flags_taken)) (bit_and value flags_taken)

-- ESP is EBP, and then EBP is popped
abbrev pub leave_effect : Regs → ℕ → Done
leave_effect regs value = gives (record regs { esp = (regs.ebp + 4) % 2 ^ 32; ebp = value }) 0

-- ---- control

abbrev pub with_eip : Regs → ℕ → Regs
with_eip regs value = record regs { eip = value }

abbrev pub call_effect : Regs → ℕ → Done
call_effect regs target = gives (with_eip (with_esp regs (below_stack regs 4)) target) regs.eip

-- the word on the stack, and as many further bytes as the immediate says
abbrev pub return_effect : Insn → Regs → ℕ → Done
return_effect insn regs value = gives (with_eip (with_esp regs ((regs.esp + 4 + insn.imm) % 2 ^ 32)) value) 0

abbrev pub gate_of : Gates → ℕ
gate_of Exo = T_SYSCALL
gate_of Run = T_SERVICE

-- One gate is open beside the breakpoint's. Any other number is a general protection fault, whose error code names
-- the number.
abbrev pub interrupt_effect : Gates → ℕ → Regs → Regs → Done
interrupt_effect gates n old regs =
    if (n == T_BRKPT) || (n == gate_of gates) then record { registers = regs; value = 0; event = Soft n }
    else raised old T_GPFLT (8 * n + 2)

abbrev pub changed_flags : FlagChange → ℕ → ℕ
changed_flags ComplementCarry eflags = bit_xor eflags FL_CF
changed_flags ClearCarry eflags = bit_and eflags (0xffff_ffff - FL_CF)
changed_flags SetCarry eflags = bit_or eflags FL_CF
changed_flags ClearDirection eflags = bit_and eflags (0xffff_ffff - FL_DF)
changed_flags SetDirection eflags = bit_or eflags FL_DF

-- ---- strings

-- up by the width, or down where DF is set
abbrev pub string_step : Width → ℕ → ℕ
string_step width eflags = if is_set eflags FL_DF then 2 ^ 32 - bytes_in_width width else bytes_in_width width

abbrev pub with_esi : Width → Regs → Regs
with_esi width regs = record regs { esi = (regs.esi + string_step width regs.eflags) % 2 ^ 32 }

abbrev pub with_edi : Width → Regs → Regs
with_edi width regs = record regs { edi = (regs.edi + string_step width regs.eflags) % 2 ^ 32 }

abbrev pub compared : Width → ℕ → ℕ → Regs → Regs
compared width a b regs = with_flags regs (subtracted width a b 0 regs.eflags).eflags

-- One repetition. CMPS takes the number at EDI from that at ESI, and SCAS that at EDI from the accumulator.
unfoldable pub repetition_effect : StringOperation → Width → Regs → Inputs → Done
repetition_effect Movs width regs inputs = gives (with_edi width (with_esi width regs)) (first_input inputs)
repetition_effect Cmps width regs inputs = gives (with_edi width (with_esi width (compared width (first_input inputs) (second_input inputs) regs))) 0
repetition_effect Stos width regs inputs = gives (with_edi width regs) (register_at width regs 0)
repetition_effect Lods width regs inputs = gives (with_esi width (with_register_at width regs 0 (first_input inputs))) 0
repetition_effect Scas width regs inputs = gives (with_edi width (compared width (register_at width regs 0) (first_input inputs) regs)) 0

abbrev pub compares : StringOperation → Bool
compares Movs = false
compares Cmps = true
compares Stos = false
compares Lods = false
compares Scas = true

-- whether a comparison ends the repetition
abbrev pub breaks : Repeat → ℕ → Bool
breaks Once eflags = false
breaks WhileEqual eflags = not (is_set eflags FL_ZF)
breaks WhileNot eflags = is_set eflags FL_ZF

-- ECX is lowered. EIP stays at the instruction, unless this was the last repetition.
abbrev pub counted_down : Regs → Regs
counted_down regs = record regs { ecx = (regs.ecx + 2 ^ 32 - 1) % 2 ^ 32 }

abbrev pub repeated_at : StringOperation → Repeat → ℕ → Regs → Regs
repeated_at operation repeat ip regs =
    if (regs.ecx == 0) || (compares operation && breaks repeat regs.eflags) then regs else with_eip regs ip

abbrev pub after_repetition : StringOperation → Repeat → ℕ → Done → Done
after_repetition operation repeat ip e =
    if is_repeated repeat then gives (repeated_at operation repeat ip (counted_down e.registers)) e.value else e

abbrev pub strings_effect : StringOperation → Width → Insn → Regs → Regs → Inputs → Done
strings_effect operation width insn old regs inputs =
    if is_over insn.repeat old then gives regs 0
    else after_repetition operation insn.repeat old.eip (repetition_effect operation width regs inputs)

-- ---- each form; `old` are the registers before the instruction, and `regs` those with EIP past it

unfoldable pub form_effect : Form → Insn → Regs → Regs → Inputs → Gates → Done
form_effect (Compute act width target left right) insn old regs inputs gates = compute_effect act width target left right insn regs inputs
form_effect (Exchange width other) insn old regs inputs gates = exchange_effect width other insn regs inputs
form_effect (Extend sign width) insn old regs inputs gates =
    gives (with_register regs insn.reg (extended sign width (value_at place.Operand width insn regs inputs))) 0
form_effect LoadAddress insn old regs inputs gates = load_address_effect insn.operand insn regs
form_effect (LoadFrom width) insn old regs inputs gates = gives (with_register_at width regs 0 (first_input inputs)) 0
form_effect (StoreTo width) insn old regs inputs gates = gives regs (register_at width regs 0)
form_effect (ShiftTwo shift count) insn old regs inputs gates = shift_two_effect shift count insn regs inputs
form_effect (Product sign width) insn old regs inputs gates = product_effect sign width insn regs inputs
form_effect (Quotient sign width) insn old regs inputs gates = quotient_effect sign width insn old regs inputs
form_effect ExtendAccumulator insn old regs inputs gates = gives (record regs { eax = sign_extended Bits16 regs.eax }) 0
form_effect ExtendDouble insn old regs inputs gates =
    gives (record regs { edx = if is_negative Bits32 regs.eax then 0xffff_ffff else 0 }) 0
form_effect (Push source) insn old regs inputs gates = push_effect regs (value_at source Bits32 insn regs inputs)
form_effect (Pop target) insn old regs inputs gates = pop_effect target insn regs (first_input inputs)
form_effect PushAll insn old regs inputs gates = gives (with_esp regs (below_stack regs 32)) 0
form_effect PopAll insn old regs inputs gates = pop_all_effect inputs regs
form_effect PushFlags insn old regs inputs gates = push_effect regs regs.eflags
form_effect PopFlags insn old regs inputs gates =
    gives (with_flags (with_esp_up regs 4) (popped_flags regs.eflags (first_input inputs))) 0
form_effect Leave insn old regs inputs gates = leave_effect regs (first_input inputs)
form_effect (Branch condition) insn old regs inputs gates = gives (if condition_holds regs.eflags condition then advanced regs insn.imm else regs) 0
form_effect Jump insn old regs inputs gates = gives (advanced regs insn.imm) 0
form_effect JumpTo insn old regs inputs gates = gives (with_eip regs (value_at place.Operand Bits32 insn regs inputs)) 0
form_effect Call insn old regs inputs gates = call_effect regs ((regs.eip + insn.imm) % 2 ^ 32)
form_effect CallTo insn old regs inputs gates = call_effect regs (value_at place.Operand Bits32 insn regs inputs)
form_effect Return insn old regs inputs gates = return_effect insn regs (first_input inputs)
form_effect Breakpoint insn old regs inputs gates = record { registers = regs; value = 0; event = Soft T_BRKPT }
form_effect Interrupt insn old regs inputs gates = interrupt_effect gates (insn.imm % 256) old regs
form_effect (Strings operation width) insn old regs inputs gates = strings_effect operation width insn old regs inputs
form_effect (Flag change) insn old regs inputs gates = gives (with_flags regs (changed_flags change regs.eflags)) 0
form_effect Privileged insn old regs inputs gates = raised old T_GPFLT 0
form_effect Nothing insn old regs inputs gates = gives regs 0
