-- What a step leaves of the registers where it goes no further: a trap leaves them all, and an interrupt the stack pointer.
use Rattle.std.proofs.Common.{◌≡◌, ◌==◌, ℕ, Bool, true, false, Option, None, Some, refl, if◌then◌else◌}
use Rattle.std.specs.Prelude.{◌||◌, ◌%◌}
use Rattle.jos_base.specs.declared.registers.Regs.{Regs}
use Rattle.jos_base.specs.declared.numbers.TheConstants.{T_BRKPT}
use Rattle.jos_isa.specs.declared.instruction.Insn.{Insn}
use Rattle.jos_isa.specs.declared.instruction.Operand.{Operand}
use Rattle.jos_isa.specs.declared.instruction.Operand.TheVariants as operand
use Rattle.jos_alu.specs.declared.width.Width.{Width}
use Rattle.jos_alu.specs.declared.products.Halves.{Halves}
use Rattle.jos_alu.specs.Registers.{advanced}
use Rattle.jos_alu.specs.Products.{quotient_of, double_register}
use Rattle.jos_cpu.specs.declared.memory.MemFault.{MemFault}
use Rattle.jos_cpu.specs.declared.memory.MemFault.TheVariants.{Page, Fence}
use Rattle.jos_cpu.specs.declared.events.Event.{Event}
use Rattle.jos_cpu.specs.declared.events.Event.TheVariants.{Next, Soft, Raised}
use Rattle.jos_cpu.specs.declared.events.Gates.{Gates}
use Rattle.jos_cpu.specs.declared.forms.Site.TheVariants as place
use Rattle.jos_cpu.specs.declared.forms.StringOperation.{StringOperation}
use Rattle.jos_cpu.specs.declared.forms.StringOperation.TheVariants.{Movs, Cmps, Stos, Lods, Scas}
use Rattle.jos_cpu.specs.declared.forms.Form.{Form}
use Rattle.jos_cpu.specs.declared.forms.Form.TheVariants.{Compute, Exchange, Extend, LoadAddress, LoadFrom, StoreTo}
use Rattle.jos_cpu.specs.declared.forms.Form.TheVariants.{ShiftTwo, Product, Quotient, ExtendAccumulator}
use Rattle.jos_cpu.specs.declared.forms.Form.TheVariants.{ExtendDouble, Push, Pop, PushAll, PopAll, PushFlags}
use Rattle.jos_cpu.specs.declared.forms.Form.TheVariants.{PopFlags, Leave, Branch, Jump, JumpTo, Call, CallTo, Return}
use Rattle.jos_cpu.specs.declared.forms.Form.TheVariants.{Breakpoint, Interrupt, Strings, Flag, Privileged, Nothing}
use Rattle.jos_cpu.specs.declared.transfers.Inputs.{Inputs}
use Rattle.jos_cpu.specs.declared.transfers.Inputs.TheVariants.{Numbers, Popped}
use Rattle.jos_cpu.specs.declared.fetching.Fetched.{Fetched}
use Rattle.jos_cpu.specs.declared.fetching.Fetched.TheVariants.{Instruction, Fault, Unknown}
use Rattle.jos_cpu.specs.Memory.{Memory}
use Rattle.jos_cpu.specs.Accesses.{is_repeated, is_over}
use Rattle.jos_cpu.specs.Probes.{probed_all}
use Rattle.jos_cpu.specs.Forms.{form_of}
use Rattle.jos_cpu.specs.Effects.{Done, gives, value_at, with_quotient, gate_of, repetition_effect, after_repetition}
use Rattle.jos_cpu.specs.Effects.{counted_down, repeated_at, strings_effect, form_effect}
use Rattle.jos_cpu.specs.Fetch.{fetched_at}
use Rattle.jos_cpu.specs.Steps.{Stepped, probes, done_by, fault_event, after_probes, executed, after_fetch, step_of}

-- what such an event has left of the registers
abbrev pub Leaves : Event → Regs → Regs → Type 0
Leaves Next old new = Unit {0}
Leaves (Soft vector) old new = new.esp ≡ old.esp
Leaves (Raised trap error va) old new = new ≡ old

-- ---- an instruction

abbrev DoneLeaves : Regs → Done → Type 0
DoneLeaves old done = Leaves done.event old done.registers

either : (test : Bool) (old : Regs) (a b : Done) → DoneLeaves old a → DoneLeaves old b → DoneLeaves old (if test then a else b)
either true old a b x y = x
either false old a b x y = y

repetition : (operation : StringOperation) (width : Width) (old regs : Regs) (inputs : Inputs) →
    DoneLeaves old (repetition_effect operation width regs inputs)
unfolding repetition_effect
repetition Movs width old regs inputs = tt
repetition Cmps width old regs inputs = tt
repetition Stos width old regs inputs = tt
repetition Lods width old regs inputs = tt
repetition Scas width old regs inputs = tt

strings : (operation : StringOperation) (width : Width) (insn : Insn) (old regs : Regs) (inputs : Inputs) →
    DoneLeaves old (strings_effect operation width insn old regs inputs)
strings operation width insn old regs inputs =
    let e = repetition_effect operation width regs inputs in
    either (is_over insn.repeat old) old (gives regs 0) (after_repetition operation insn.repeat old.eip e) tt
    (either (is_repeated insn.repeat) old (gives (repeated_at operation insn.repeat old.eip (counted_down e.registers)) e.value) e tt
    (repetition operation width old regs inputs))

quotient : (halves : Option Halves) (width : Width) (old regs : Regs) → DoneLeaves old (with_quotient halves width old regs)
quotient None width old regs = refl
quotient (Some halves) width old regs = tt

module _ (insn : Insn) (len : ℕ) (old : Regs) (gates : Gates) where
  abbrev passed : Regs
  passed = advanced old len

  load_address : (op : Operand) → insn.operand ≡ op → (inputs : Inputs) → DoneLeaves old (form_effect LoadAddress insn old passed inputs gates)
  unfolding form_effect
  load_address (operand.Mem arg) e inputs = rw e tt
  load_address (operand.Reg n) e inputs = rw e tt
  load_address operand.Absent e inputs = rw e tt

  pop_all : (inputs : Inputs) → DoneLeaves old (form_effect PopAll insn old passed inputs gates)
  unfolding form_effect
  pop_all (Numbers a b) = tt
  pop_all (Popped words) = tt

  by_form : (form : Form) (inputs : Inputs) → DoneLeaves old (form_effect form insn old passed inputs gates)
  unfolding form_effect
  by_form (Compute act width target left right) inputs = tt
  by_form (Exchange width other) inputs = tt
  by_form (Extend sign width) inputs = tt
  by_form LoadAddress inputs = load_address insn.operand refl inputs
  by_form (LoadFrom width) inputs = tt
  by_form (StoreTo width) inputs = tt
  by_form (ShiftTwo shift count) inputs = tt
  by_form (Product sign width) inputs = tt
  by_form (Quotient sign width) inputs =
      quotient (quotient_of sign width (double_register width passed) (value_at place.Operand width insn passed inputs)) width old passed
  by_form ExtendAccumulator inputs = tt
  by_form ExtendDouble inputs = tt
  by_form (Push source) inputs = tt
  by_form (Pop target) inputs = tt
  by_form PushAll inputs = tt
  by_form PopAll inputs = pop_all inputs
  by_form PushFlags inputs = tt
  by_form PopFlags inputs = tt
  by_form Leave inputs = tt
  by_form (Branch condition) inputs = tt
  by_form Jump inputs = tt
  by_form JumpTo inputs = tt
  by_form Call inputs = tt
  by_form CallTo inputs = tt
  by_form Return inputs = tt
  by_form Breakpoint inputs = refl
  by_form Interrupt inputs =
      either ((insn.imm % 256 == T_BRKPT) || (insn.imm % 256 == gate_of gates)) old _ _ refl refl
  by_form (Strings operation width) inputs = strings operation width insn old passed inputs
  by_form (Flag change) inputs = tt
  by_form Privileged inputs = refl
  by_form Nothing inputs = tt

-- ---- a step

fault : (stop : MemFault) (old : Regs) → Leaves (fault_event stop) old old
fault (Page stop) old = refl
fault Fence old = refl

module _ {M : Type 0} (t : Memory M) (gates : Gates) (regs : Regs) where
  abbrev StepLeaves : Stepped M → Type 0
  StepLeaves s = Leaves s.event regs s.regs

  after_its_probes : (insn : Insn) (len : ℕ) (refusal : Option MemFault) (m : M) → StepLeaves (after_probes t insn len regs gates refusal m)
  unfolding done_by
  after_its_probes insn len (Some stop) m = fault stop regs
  after_its_probes insn len None m = by_form insn len regs gates (form_of insn.row) _

  after_its_fetch : (fetched : Fetched) (m : M) → StepLeaves (after_fetch t regs gates fetched m)
  unfolding executed
  after_its_fetch (Instruction insn len) m = let p = probed_all t m (probes insn regs) in after_its_probes insn len p.refusal p.memory
  after_its_fetch (Fault stop) m = fault stop regs
  after_its_fetch Unknown m = refl

  pub step_leaves : (m : M) → StepLeaves (step_of t regs m gates)
  unfolding step_of
  step_leaves m = let f = fetched_at t m regs.eip in after_its_fetch f.fetched f.memory
