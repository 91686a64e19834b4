-- A step keeps EFLAGS lawful: of its bits a program sets those alone that it may set, and the others are as they always are.
use Rattle.std.proofs.Common.{◌≡◌, ◌+◌, ◌-◌, ◌%◌, ◌^◌, ◌<◌, ◌==◌, ℕ, Bool, true, false, Option, None, Some, refl, sym, ap, ◌∙◌, subst, arith}
use Rattle.std.proofs.Common.{if◌then◌else◌}
use Rattle.std.specs.Prelude.{◌||◌, ◌&&◌, nat_lt, bit_and, bit_or, bit_xor}
use Rattle.std.specs.Int.Bits.{and_zero_r}
use Rattle.std.proofs.lemmas.Nat.{and_le_l, and_le_r, and_comm, and_assoc, and-not, or_disjoint, or_of_32, xor_of_32, and_or_apart, and_xor_apart}
use Rattle.jos_base.specs.declared.registers.Regs.{Regs}
use Rattle.jos_base.specs.declared.numbers.TheConstants.{T_BRKPT, FL_1, FL_IF, FL_CF, FL_PF, FL_AF, FL_ZF, FL_SF, FL_DF, FL_OF}
use Rattle.jos_base.specs.TrapFrames.{flags_taken, user_flags}
use Rattle.jos_isa.specs.declared.instruction.Insn.{Insn}
use Rattle.jos_isa.specs.declared.instruction.Operand.{Operand}
use Rattle.jos_isa.specs.declared.instruction.Operand.TheVariants as operand
use Rattle.jos_alu.specs.declared.width.Width.{Width}
use Rattle.jos_alu.specs.declared.width.Width.TheVariants.{Bits8, Bits16, Bits32}
use Rattle.jos_alu.specs.declared.operation.Operation.{Operation}
use Rattle.jos_alu.specs.declared.operation.Operation.TheVariants.{Add, Or, Adc, Sbb, And, Sub, Xor, Cmp}
use Rattle.jos_alu.specs.declared.flags.Computed.{Computed}
use Rattle.jos_alu.specs.declared.shifts.Shift.{Shift}
use Rattle.jos_alu.specs.declared.products.Halves.{Halves}
use Rattle.jos_alu.specs.Registers.{with_register, with_register_at, advanced}
use Rattle.jos_alu.specs.Flags.{flag, with_status_flags, operated, condition_holds}
use Rattle.jos_alu.specs.Shifts.{shifted}
use Rattle.jos_alu.specs.Products.{with_halves, quotient_of, double_register}
use Rattle.jos_cpu.specs.declared.memory.MemFault.{MemFault}
use Rattle.jos_cpu.specs.declared.events.Gates.{Gates}
use Rattle.jos_cpu.specs.declared.forms.Act.{Act}
use Rattle.jos_cpu.specs.declared.forms.Act.TheVariants.{Move, Operate, Test, Increase, Decrease, Complement, ShiftBy}
use Rattle.jos_cpu.specs.declared.forms.Act.TheVariants.{SetIf, Multiply}
use Rattle.jos_cpu.specs.declared.forms.FlagChange.{FlagChange}
use Rattle.jos_cpu.specs.declared.forms.FlagChange.TheVariants.{ComplementCarry, ClearCarry, SetCarry, ClearDirection}
use Rattle.jos_cpu.specs.declared.forms.FlagChange.TheVariants.{SetDirection}
use Rattle.jos_cpu.specs.declared.forms.Site.{Site}
use Rattle.jos_cpu.specs.declared.forms.Site.TheVariants as place
use Rattle.jos_cpu.specs.declared.forms.StringOperation.{StringOperation}
use Rattle.jos_cpu.specs.declared.forms.StringOperation.TheVariants.{Movs, Cmps, Stos, Lods, Scas}
use Rattle.jos_cpu.specs.declared.forms.Form.{Form}
use Rattle.jos_cpu.specs.declared.forms.Form.TheVariants.{Compute, Exchange, Extend, LoadAddress, LoadFrom, StoreTo}
use Rattle.jos_cpu.specs.declared.forms.Form.TheVariants.{ShiftTwo, Product, Quotient, ExtendAccumulator}
use Rattle.jos_cpu.specs.declared.forms.Form.TheVariants.{ExtendDouble, Push, Pop, PushAll, PopAll, PushFlags}
use Rattle.jos_cpu.specs.declared.forms.Form.TheVariants.{PopFlags, Leave, Branch, Jump, JumpTo, Call, CallTo, Return}
use Rattle.jos_cpu.specs.declared.forms.Form.TheVariants.{Breakpoint, Interrupt, Strings, Flag, Privileged, Nothing}
use Rattle.jos_cpu.specs.declared.transfers.Inputs.{Inputs}
use Rattle.jos_cpu.specs.declared.transfers.Inputs.TheVariants.{Numbers, Popped}
use Rattle.jos_cpu.specs.declared.fetching.Fetched.{Fetched}
use Rattle.jos_cpu.specs.declared.fetching.Fetched.TheVariants.{Instruction, Fault, Unknown}
use Rattle.jos_cpu.specs.Memory.{Memory}
use Rattle.jos_cpu.specs.Accesses.{is_repeated, is_over}
use Rattle.jos_cpu.specs.Probes.{probed_all}
use Rattle.jos_cpu.specs.Forms.{form_of}
use Rattle.jos_cpu.specs.Effects.{Done, gives, value_at, with_operand, with_value_at, computed, with_quotient, gate_of, popped_flags, changed_flags}
use Rattle.jos_cpu.specs.Effects.{repetition_effect, after_repetition, counted_down, compares, breaks, with_eip}
use Rattle.jos_cpu.specs.Effects.{repeated_at, strings_effect, form_effect}
use Rattle.jos_cpu.specs.Fetch.{fetched_at}
use Rattle.jos_cpu.specs.Steps.{Stepped, probes, done_by, after_probes, executed, after_fetch, step_of}

-- ---- the flags that are lawful

-- the bits that a program does not set
abbrev others : ℕ
others = 0xffff_ffff - flags_taken

-- the other bits are as they always are, and there is no bit beyond a word
record Lawful (eflags : ℕ) : Type 0 where
  fixed : bit_and eflags others ≡ FL_1 + FL_IF
  small : eflags < 2 ^ 32

user_flags_of : (eflags : ℕ) → Lawful eflags → eflags ≡ user_flags eflags
user_flags_of eflags h =
    let taken = bit_and eflags flags_taken in
    let whole : bit_and others eflags + bit_and flags_taken eflags ≡ eflags = and-not 32 flags_taken eflags (omega arith) h.small in
    let none : bit_and (FL_1 + FL_IF) taken ≡ 0 = and_comm (FL_1 + FL_IF) taken ∙ and_assoc (FL_1 + FL_IF) eflags flags_taken ∙ and_zero_r eflags in
    sym whole ∙ ap (λ (n : ℕ). n + bit_and flags_taken eflags) (and_comm others eflags ∙ h.fixed)
    ∙ ap (λ (n : ℕ). FL_1 + FL_IF + n) (and_comm flags_taken eflags) ∙ sym (or_disjoint (FL_1 + FL_IF) taken none)

-- ---- what is done with flags

-- Bits that a program may set are set or turned.
sets : (eflags bits : ℕ) → bit_and bits others ≡ 0 → bits < 2 ^ 32 → Lawful eflags → Lawful (bit_or eflags bits)
sets eflags bits none small h = record {
  fixed = and_or_apart others eflags bits none ∙ h.fixed;
  small = or_of_32 eflags bits h.small small;
}

turns : (eflags bits : ℕ) → bit_and bits others ≡ 0 → bits < 2 ^ 32 → Lawful eflags → Lawful (bit_xor eflags bits)
turns eflags bits none small h = record {
  fixed = and_xor_apart others eflags bits none ∙ h.fixed;
  small = xor_of_32 eflags bits h.small small;
}

-- Such bits alone are cleared.
clears : (eflags kept : ℕ) → bit_and kept others ≡ others → Lawful eflags → Lawful (bit_and eflags kept)
clears eflags kept all h = record {
  fixed = and_assoc others eflags kept ∙ ap (bit_and eflags) all ∙ h.fixed;
  small = omega (arith, and_le_l eflags kept, h.small);
}

sets_if : (set : Bool) (eflags bits : ℕ) → bit_and bits others ≡ 0 → bits < 2 ^ 32 → Lawful eflags → Lawful (bit_or eflags (flag set bits))
sets_if true eflags bits none small h = sets eflags bits none small h
sets_if false eflags bits none small h = sets eflags 0 refl (omega arith) h

status : (eflags : ℕ) (f : _) → Lawful eflags → Lawful (with_status_flags eflags f)
unfolding with_status_flags
status eflags f h =
    sets_if f.overflow _ FL_OF refl (omega arith) (sets_if f.sign _ FL_SF refl (omega arith) (sets_if f.zero _ FL_ZF refl (omega arith)
    (sets_if f.auxiliary _ FL_AF refl (omega arith) (sets_if f.parity _ FL_PF refl (omega arith) (sets_if f.carry _ FL_CF refl (omega arith)
    (clears eflags 0xffff_f72a refl h))))))

taken : (word : ℕ) → Lawful (user_flags word)
taken word =
    sets (FL_1 + FL_IF) (bit_and word flags_taken) (and_assoc others word flags_taken ∙ and_zero_r word)
    (omega (arith, and_le_r word flags_taken)) (record { fixed = refl; small = omega arith })

lawful : (eflags : ℕ) → eflags ≡ user_flags eflags → Lawful eflags
lawful eflags is = subst Lawful (sym is) (taken eflags)

popped : (eflags value : ℕ) → Lawful eflags → Lawful (popped_flags eflags value)
popped eflags value h =
    sets _ (bit_and value flags_taken) (and_assoc others value flags_taken ∙ and_zero_r value) (omega (arith, and_le_r value flags_taken))
    (clears eflags others refl h)

changed : (change : FlagChange) (eflags : ℕ) → Lawful eflags → Lawful (changed_flags change eflags)
changed ComplementCarry eflags h = turns eflags FL_CF refl (omega arith) h
changed ClearCarry eflags h = clears eflags (0xffff_ffff - FL_CF) refl h
changed SetCarry eflags h = sets eflags FL_CF refl (omega arith) h
changed ClearDirection eflags h = clears eflags (0xffff_ffff - FL_DF) refl h
changed SetDirection eflags h = sets eflags FL_DF refl (omega arith) h

either : {A : Type 0} (P : A → Type 0) (test : Bool) (a b : A) → P a → P b → P (if test then a else b)
either P true a b x y = x
either P false a b x y = y

-- ---- what is computed

operation_keeps : (operation : Operation) (width : Width) (a b eflags : ℕ) → Lawful eflags → Lawful (operated operation width a b eflags).eflags
unfolding operated
operation_keeps Add width a b eflags h = status eflags _ h
operation_keeps Or width a b eflags h = status eflags _ h
operation_keeps Adc width a b eflags h = status eflags _ h
operation_keeps Sbb width a b eflags h = status eflags _ h
operation_keeps And width a b eflags h = status eflags _ h
operation_keeps Sub width a b eflags h = status eflags _ h
operation_keeps Xor width a b eflags h = status eflags _ h
operation_keeps Cmp width a b eflags h = status eflags _ h

shift_keeps : (shift : Shift) (width : Width) (value other count eflags : ℕ) → Lawful eflags →
    Lawful (shifted shift width value other count eflags).eflags
unfolding shifted
shift_keeps shift width value other count eflags h = either (λ (c : Computed). Lawful c.eflags) (count % 32 == 0) _ _ h (status eflags _ h)

act_keeps : (act : Act) (width : Width) (a b eflags : ℕ) → Lawful eflags → Lawful (computed act width a b eflags).eflags
unfolding computed
act_keeps Move width a b eflags h = h
act_keeps (Operate operation) width a b eflags h = operation_keeps operation width a b eflags h
act_keeps Test width a b eflags h = status eflags _ h
act_keeps Increase width a b eflags h = status eflags _ h
act_keeps Decrease width a b eflags h = status eflags _ h
act_keeps Complement width a b eflags h = h
act_keeps (ShiftBy shift) width a b eflags h = shift_keeps shift width a 0 b eflags h
act_keeps (SetIf condition) width a b eflags h = h
act_keeps Multiply width a b eflags h = status eflags _ h

-- ---- registers that are written

abbrev Keeps : Regs → Type 0
Keeps regs = Lawful regs.eflags

register_keeps : (regs : Regs) (n value : ℕ) → Keeps regs → Keeps (with_register regs n value)
unfolding with_register
register_keeps regs n value h =
    either Keeps (n == 0) _ _ h (either Keeps (n == 1) _ _ h (either Keeps (n == 2) _ _ h (either Keeps (n == 3) _ _ h
    (either Keeps (n == 4) _ _ h (either Keeps (n == 5) _ _ h (either Keeps (n == 6) _ _ h h))))))

register_at_keeps : (width : Width) (regs : Regs) (n value : ℕ) → Keeps regs → Keeps (with_register_at width regs n value)
unfolding with_register_at
register_at_keeps Bits8 regs n value h =
    either Keeps (nat_lt n 4) _ _ (register_keeps regs n _ h) (register_keeps regs (n - 4) _ h)
register_at_keeps Bits16 regs n value h = register_keeps regs n _ h
register_at_keeps Bits32 regs n value h = register_keeps regs n value h

operand_keeps : (width : Width) (op : Operand) (value : ℕ) (regs : Regs) → Keeps regs → Keeps (with_operand width op value regs)
operand_keeps width (operand.Reg n) value regs h = register_at_keeps width regs n value h
operand_keeps width (operand.Mem arg) value regs h = h
operand_keeps width operand.Absent value regs h = h

site_keeps : (site : Site) (width : Width) (insn : Insn) (value : ℕ) (regs : Regs) → Keeps regs → Keeps (with_value_at site width insn value regs)
unfolding with_value_at
site_keeps place.Nowhere width insn value regs h = h
site_keeps place.Operand width insn value regs h = operand_keeps width insn.operand value regs h
site_keeps place.Named width insn value regs h = register_at_keeps width regs insn.reg value h
site_keeps place.Accumulator width insn value regs h = register_at_keeps width regs 0 value h
site_keeps place.Immediate width insn value regs h = h
site_keeps place.One width insn value regs h = h
site_keeps place.Cl width insn value regs h = h

halves_keep : (width : Width) (regs : Regs) (halves : Halves) → Keeps regs → Keeps (with_halves width regs halves)
unfolding with_halves
halves_keep Bits8 regs halves h = register_at_keeps Bits16 regs 0 _ h
halves_keep Bits16 regs halves h = register_at_keeps Bits16 _ 2 halves.high (register_at_keeps Bits16 regs 0 halves.low h)
halves_keep Bits32 regs halves h = h

-- ---- an instruction

abbrev DoneKeeps : Done → Type 0
DoneKeeps done = Keeps done.registers

repetition : (operation : StringOperation) (width : Width) (regs : Regs) (inputs : Inputs) → Keeps regs →
    DoneKeeps (repetition_effect operation width regs inputs)
unfolding repetition_effect
repetition Movs width regs inputs h = h
repetition Cmps width regs inputs h = status regs.eflags _ h
repetition Stos width regs inputs h = h
repetition Lods width regs inputs h = register_at_keeps width regs 0 _ h
repetition Scas width regs inputs h = status regs.eflags _ h

strings : (operation : StringOperation) (width : Width) (insn : Insn) (old regs : Regs) (inputs : Inputs) → Keeps regs →
    DoneKeeps (strings_effect operation width insn old regs inputs)
strings operation width insn old regs inputs h =
    let e = repetition_effect operation width regs inputs in
    let kept : DoneKeeps e = repetition operation width regs inputs h in
    let down = counted_down e.registers in
    either DoneKeeps (is_over insn.repeat old) (gives regs 0) (after_repetition operation insn.repeat old.eip e) h
    (either DoneKeeps (is_repeated insn.repeat) (gives (repeated_at operation insn.repeat old.eip down) e.value) e
    (either Keeps ((down.ecx == 0) || (compares operation && breaks insn.repeat down.eflags)) down (with_eip down old.eip) kept kept) kept)

quotient : (halves : Option Halves) (width : Width) (old regs : Regs) → Keeps old → Keeps regs → DoneKeeps (with_quotient halves width old regs)
quotient None width old regs h k = h
quotient (Some halves) width old regs h k = halves_keep width regs halves k

module _ (insn : Insn) (len : ℕ) (old : Regs) (gates : Gates) (h : Keeps old) where
  abbrev passed : Regs
  passed = advanced old len

  load_address : (op : Operand) → insn.operand ≡ op → (inputs : Inputs) → DoneKeeps (form_effect LoadAddress insn old passed inputs gates)
  unfolding form_effect
  load_address (operand.Mem arg) e inputs = rw e (register_keeps passed insn.reg _ h)
  load_address (operand.Reg n) e inputs = rw e h
  load_address operand.Absent e inputs = rw e h

  pop_all : (inputs : Inputs) → DoneKeeps (form_effect PopAll insn old passed inputs gates)
  unfolding form_effect
  pop_all (Numbers a b) = h
  pop_all (Popped words) = h

  by_form : (form : Form) (inputs : Inputs) → DoneKeeps (form_effect form insn old passed inputs gates)
  unfolding form_effect
  by_form (Compute act width target left right) inputs = site_keeps target width insn _ _ (act_keeps act width _ _ old.eflags h)
  by_form (Exchange width other) inputs = register_at_keeps width _ insn.reg _ (site_keeps other width insn _ passed h)
  by_form (Extend sign width) inputs = register_keeps passed insn.reg _ h
  by_form LoadAddress inputs = load_address insn.operand refl inputs
  by_form (LoadFrom width) inputs = register_at_keeps width passed 0 _ h
  by_form (StoreTo width) inputs = h
  by_form (ShiftTwo shift count) inputs = site_keeps place.Operand Bits32 insn _ _ (shift_keeps shift Bits32 _ _ _ old.eflags h)
  by_form (Product sign width) inputs = halves_keep width _ _ (status old.eflags _ h)
  by_form (Quotient sign width) inputs =
      quotient (quotient_of sign width (double_register width passed) (value_at place.Operand width insn passed inputs)) width old passed h h
  by_form ExtendAccumulator inputs = h
  by_form ExtendDouble inputs = h
  by_form (Push source) inputs = h
  by_form (Pop target) inputs = site_keeps target Bits32 insn _ _ h
  by_form PushAll inputs = h
  by_form PopAll inputs = pop_all inputs
  by_form PushFlags inputs = h
  by_form PopFlags inputs = popped old.eflags _ h
  by_form Leave inputs = h
  by_form (Branch condition) inputs = either Keeps (condition_holds old.eflags condition) (advanced passed insn.imm) passed h h
  by_form Jump inputs = h
  by_form JumpTo inputs = h
  by_form Call inputs = h
  by_form CallTo inputs = h
  by_form Return inputs = h
  by_form Breakpoint inputs = h
  by_form Interrupt inputs = either DoneKeeps ((insn.imm % 256 == T_BRKPT) || (insn.imm % 256 == gate_of gates)) _ _ h h
  by_form (Strings operation width) inputs = strings operation width insn old passed inputs h
  by_form (Flag change) inputs = changed change old.eflags h
  by_form Privileged inputs = h
  by_form Nothing inputs = h

-- ---- a step

module _ {M : Type 0} (t : Memory M) (gates : Gates) (regs : Regs) (h : Keeps regs) where
  abbrev StepKeeps : Stepped M → Type 0
  StepKeeps s = Keeps s.regs

  after_its_probes : (insn : Insn) (len : ℕ) (refusal : Option MemFault) (m : M) → StepKeeps (after_probes t insn len regs gates refusal m)
  unfolding done_by
  after_its_probes insn len (Some stop) m = h
  after_its_probes insn len None m = by_form insn len regs gates h (form_of insn.row) _

  after_its_fetch : (fetched : Fetched) (m : M) → StepKeeps (after_fetch t regs gates fetched m)
  unfolding executed
  after_its_fetch (Instruction insn len) m = let p = probed_all t m (probes insn regs) in after_its_probes insn len p.refusal p.memory
  after_its_fetch (Fault stop) m = h
  after_its_fetch Unknown m = h

  by_step : (m : M) → StepKeeps (step_of t regs m gates)
  unfolding step_of
  by_step m = let f = fetched_at t m regs.eip in after_its_fetch f.fetched f.memory

pub step_keeps_flags : {M : Type 0} (t : Memory M) (regs : Regs) (m : M) (gates : Gates) → regs.eflags ≡ user_flags regs.eflags →
    (step_of t regs m gates).regs.eflags ≡ user_flags (step_of t regs m gates).regs.eflags
step_keeps_flags t regs m gates is = user_flags_of _ (by_step t gates regs (lawful regs.eflags is) m)
