-- A step that raises a trap writes nothing: its memory is as its probes leave it.
use Rattle.std.proofs.Common.{◌≡◌, ℕ, Bool, true, false, List, [], Option, None, Some, refl, ap, sym, subst, ◌∙◌}
use Rattle.std.proofs.Common.{if◌then◌else◌}
use Rattle.jos_base.specs.declared.registers.Regs.{Regs}
use Rattle.jos_isa.specs.declared.instruction.Insn.{Insn}
use Rattle.jos_isa.specs.declared.instruction.Operand.{Operand}
use Rattle.jos_isa.specs.declared.instruction.Operand.TheVariants as operand
use Rattle.jos_alu.specs.declared.width.Width.{Width}
use Rattle.jos_cpu.specs.declared.memory.MemFault.{MemFault}
use Rattle.jos_cpu.specs.declared.events.Event.{Event}
use Rattle.jos_cpu.specs.declared.events.Event.TheVariants.{Next, Soft, Raised}
use Rattle.jos_cpu.specs.declared.events.Gates.{Gates}
use Rattle.jos_cpu.specs.declared.forms.StringOperation.{StringOperation}
use Rattle.jos_cpu.specs.declared.forms.StringOperation.TheVariants.{Movs, Cmps, Stos, Lods, Scas}
use Rattle.jos_cpu.specs.declared.forms.Form.{Form}
use Rattle.jos_cpu.specs.declared.forms.Form.TheVariants.{Compute, Exchange, Extend, LoadAddress, LoadFrom, StoreTo}
use Rattle.jos_cpu.specs.declared.forms.Form.TheVariants.{ShiftTwo, Product, Quotient, ExtendAccumulator}
use Rattle.jos_cpu.specs.declared.forms.Form.TheVariants.{ExtendDouble, Push, Pop, PushAll, PopAll, PushFlags}
use Rattle.jos_cpu.specs.declared.forms.Form.TheVariants.{PopFlags, Leave, Branch, Jump, JumpTo, Call, CallTo, Return}
use Rattle.jos_cpu.specs.declared.forms.Form.TheVariants.{Breakpoint, Interrupt, Strings, Flag, Privileged, Nothing}
use Rattle.jos_cpu.specs.declared.accesses.Usage.TheVariants.{Reads}
use Rattle.jos_cpu.specs.declared.accesses.Accesses.{Accesses}
use Rattle.jos_cpu.specs.declared.transfers.Inputs.{Inputs}
use Rattle.jos_cpu.specs.declared.fetching.Fetched.{Fetched}
use Rattle.jos_cpu.specs.declared.fetching.Fetched.TheVariants.{Instruction, Fault, Unknown}
use Rattle.jos_cpu.specs.Memory.{Memory, Probed}
use Rattle.jos_cpu.specs.Accesses.{operand_access, is_repeated, is_over, accesses_of}
use Rattle.jos_cpu.specs.Probes.{probes_of, probed_all}
use Rattle.jos_cpu.specs.Transfers.{Number, writes_of, stored_all}
use Rattle.jos_cpu.specs.Forms.{form_of}
use Rattle.jos_cpu.specs.Effects.{Done, IfRaised, gives, repetition_effect, counted_down, repeated_at, after_repetition}
use Rattle.jos_cpu.specs.Effects.{strings_effect, form_effect}
use Rattle.jos_cpu.specs.Fetch.{fetched_at}
use Rattle.jos_cpu.specs.Steps.{Stepped, accesses, probes, done_by, fault_event, after_probes, executed, after_fetch}
use Rattle.jos_cpu.specs.Steps.{step_of, accesses_left, left_after_fetch, probes_left}

if_raised : {P : Type 0} (event : Event) → P → IfRaised event P
if_raised Next p = tt
if_raised (Soft n) p = tt
if_raised (Raised trap error va) p = p

if_raised-map : {P Q : Type 0} (event : Event) → (P → Q) → IfRaised event P → IfRaised event Q
if_raised-map Next f p = tt
if_raised-map (Soft n) f p = tt
if_raised-map (Raised trap error va) f p = f p

-- ---- an instruction on strings raises nothing by itself

either_next : (test : Bool) (a b : Done) → a.event ≡ Next → b.event ≡ Next → (if test then a else b).event ≡ Next
either_next true a b ea eb = ea
either_next false a b ea eb = eb

repetition_next : (operation : StringOperation) (width : Width) (regs : Regs) (inputs : Inputs) →
    (repetition_effect operation width regs inputs).event ≡ Next
unfolding repetition_effect
repetition_next Movs width regs inputs = refl
repetition_next Cmps width regs inputs = refl
repetition_next Stos width regs inputs = refl
repetition_next Lods width regs inputs = refl
repetition_next Scas width regs inputs = refl

strings_next : (operation : StringOperation) (width : Width) (insn : Insn) (old regs : Regs) (inputs : Inputs) →
    (strings_effect operation width insn old regs inputs).event ≡ Next
strings_next operation width insn old regs inputs =
    let e = repetition_effect operation width regs inputs in
    either_next (is_over insn.repeat old) (gives regs 0) (after_repetition operation insn.repeat old.eip e) refl
    (either_next (is_repeated insn.repeat) (gives (repeated_at operation insn.repeat old.eip (counted_down e.registers)) e.value) e refl
    (repetition_next operation width regs inputs))

-- ---- a form that raises a trap by itself writes nothing

unwritten_read : (width : Width) (op : Operand) (regs old : Regs) (value : ℕ) → writes_of (operand_access width Reads op regs) old value ≡ []
unfolding writes_of
unwritten_read width (operand.Reg n) regs old value = refl
unwritten_read width (operand.Mem arg) regs old value = refl
unwritten_read width operand.Absent regs old value = refl

unwritten : (form : Form) (insn : Insn) (old regs : Regs) (inputs : Inputs) (gates : Gates) (value : ℕ) →
    IfRaised (form_effect form insn old regs inputs gates).event (writes_of (accesses_of form insn old) old value ≡ [])
unfolding form_effect accesses_of writes_of
unwritten (Compute act width target left right) insn old regs inputs gates value = tt
unwritten (Exchange width other) insn old regs inputs gates value = tt
unwritten (Extend sign width) insn old regs inputs gates value = tt
unwritten LoadAddress insn old regs inputs gates value = if_raised _ refl
unwritten (LoadFrom width) insn old regs inputs gates value = tt
unwritten (StoreTo width) insn old regs inputs gates value = tt
unwritten (ShiftTwo shift count) insn old regs inputs gates value = tt
unwritten (Product sign width) insn old regs inputs gates value = tt
unwritten (Quotient sign width) insn old regs inputs gates value = if_raised _ (unwritten_read width insn.operand old old value)
unwritten ExtendAccumulator insn old regs inputs gates value = tt
unwritten ExtendDouble insn old regs inputs gates value = tt
unwritten (Push source) insn old regs inputs gates value = tt
unwritten (Pop target) insn old regs inputs gates value = tt
unwritten PushAll insn old regs inputs gates value = tt
unwritten PopAll insn old regs inputs gates value = if_raised _ refl
unwritten PushFlags insn old regs inputs gates value = tt
unwritten PopFlags insn old regs inputs gates value = tt
unwritten Leave insn old regs inputs gates value = tt
unwritten (Branch condition) insn old regs inputs gates value = tt
unwritten Jump insn old regs inputs gates value = tt
unwritten JumpTo insn old regs inputs gates value = tt
unwritten Call insn old regs inputs gates value = tt
unwritten CallTo insn old regs inputs gates value = tt
unwritten Return insn old regs inputs gates value = tt
unwritten Breakpoint insn old regs inputs gates value = tt
unwritten Interrupt insn old regs inputs gates value = if_raised _ refl
unwritten (Strings operation width) insn old regs inputs gates value =
    subst (λ (e : Event). IfRaised e (writes_of (accesses_of (Strings operation width) insn old) old value ≡ []))
    (sym (strings_next operation width insn old regs inputs)) tt
unwritten (Flag change) insn old regs inputs gates value = tt
unwritten Privileged insn old regs inputs gates value = refl
unwritten Nothing insn old regs inputs gates value = tt

module _ {M : Type 0} (t : Memory M) (gates : Gates) (regs : Regs) where
  stored_none : (m : M) (numbers : List Number) → numbers ≡ [] → stored_all t m numbers ≡ m
  unfolding stored_all
  stored_none m numbers e = rw e refl

  after_probes_left : (insn : Insn) (len : ℕ) (refusal : Option MemFault) (m : M) →
      IfRaised (after_probes t insn len regs gates refusal m).event ((after_probes t insn len regs gates refusal m).memory ≡ m)
  unfolding done_by accesses
  after_probes_left insn len (Some fault) m = if_raised (fault_event fault) refl
  after_probes_left insn len None m =
      if_raised-map _ (stored_none m _) (unwritten (form_of insn.row) insn regs _ _ gates _)

  executed_left : (insn : Insn) (len : ℕ) (m : M) →
      IfRaised (executed t insn len regs m gates).event ((executed t insn len regs m gates).memory ≡ accesses_left t insn regs m)
  unfolding executed
  executed_left insn len m =
      let p = probed_all t m (probes insn regs) in after_probes_left insn len p.refusal p.memory

  after_fetch_left : (fetched : Fetched) (m : M) →
      IfRaised (after_fetch t regs gates fetched m).event ((after_fetch t regs gates fetched m).memory ≡ left_after_fetch t regs fetched m)
  after_fetch_left (Instruction insn len) m = executed_left insn len m
  after_fetch_left (Fault fault) m = if_raised (fault_event fault) refl
  after_fetch_left Unknown m = refl

  step_left : (m : M) → IfRaised (step_of t regs m gates).event ((step_of t regs m gates).memory ≡ probes_left t regs m)
  unfolding step_of probes_left
  step_left m = let f = fetched_at t m regs.eip in after_fetch_left f.fetched f.memory

  -- what an instruction leaves, by the calls that execute it
  pub execute_untouched : (form : Form) (insn : Insn) (reached : Accesses) (inputs : Inputs) (passed : Regs) (m p next : M)
      {new : Regs} {value : ℕ} {event : Event} → form ≡ form_of insn.row → reached ≡ accesses_of form insn regs →
      probed_all t m (probes_of reached) ≡ record { memory = p; refusal = None } →
      form_effect form insn regs passed inputs gates ≡ record { registers = new; value = value; event = event } →
      next ≡ stored_all t p (writes_of reached regs value) →
      IfRaised event (next ≡ accesses_left t insn regs m)
  unfolding accesses
  execute_untouched form insn reached inputs passed m p next {new} {value} {event} f r probed done put =
      let a : accesses insn regs ≡ reached = (λ i. accesses_of (sym f i) insn regs) ∙ sym r in
      let left : accesses_left t insn regs m ≡ p =
      ap (λ (x : Accesses). (probed_all t m (probes_of x)).memory) a ∙ ap (λ (q : Probed M). q.memory) probed in
      let nothing : IfRaised event (writes_of (accesses_of form insn regs) regs value ≡ []) =
      subst (λ (d : Done). IfRaised d.event (writes_of (accesses_of form insn regs) regs value ≡ [])) done (unwritten form insn regs passed inputs gates value) in
      if_raised-map event (λ none. put ∙ stored_none p _ (ap (λ (a : Accesses). writes_of a regs value) r ∙ none) ∙ sym left) nothing

  -- what a step that raises a trap leaves
  pub step_untouched : (m : M) {new : Regs} {next : M} {event : Event} →
      step_of t regs m gates ≡ record { regs = new; memory = next; event = event } →
      IfRaised event (next ≡ probes_left t regs m)
  step_untouched m e = subst (λ (s : Stepped M). IfRaised s.event (s.memory ≡ probes_left t regs m)) e (step_left m)
