-- A page fault that a step raises is one of its memory: the step was refused a byte, and has left memory as it was then. No
-- instruction raises one of its own.
use Rattle.std.proofs.Common.{◌≡◌, ◌==◌, ◌∙◌, ℕ, zero, suc, Bool, true, false, List, [], ◌∷◌, Option, None, Some, refl, sym}
use Rattle.std.proofs.Common.{if◌then◌else◌}
use Rattle.std.specs.Prelude.{◌||◌, ◌%◌}
use Rattle.jos_base.specs.declared.memory.Access.{Access}
use Rattle.jos_base.specs.declared.memory.Access.TheVariants.{Read}
use Rattle.jos_base.specs.declared.numbers.TheConstants.{INSTRUCTION_MAX, T_BRKPT, T_PGFLT}
use Rattle.jos_base.specs.declared.registers.Regs.{Regs}
use Rattle.jos_isa.specs.declared.decoder.Decoded.{Decoded}
use Rattle.jos_isa.specs.declared.decoder.Decoded.TheVariants.{Found, Short, Illegal}
use Rattle.jos_isa.specs.declared.instruction.Insn.{Insn}
use Rattle.jos_isa.specs.declared.instruction.Operand.{Operand}
use Rattle.jos_isa.specs.declared.instruction.Operand.TheVariants as operand
use Rattle.jos_isa.specs.Decoding.{decoded}
use Rattle.jos_alu.specs.declared.width.Width.{Width}
use Rattle.jos_alu.specs.declared.products.Halves.{Halves}
use Rattle.jos_alu.specs.Registers.{advanced}
use Rattle.jos_alu.specs.Products.{quotient_of, double_register}
use Rattle.jos_cpu.specs.declared.memory.MemFault.{MemFault}
use Rattle.jos_cpu.specs.declared.memory.MemFault.TheVariants.{Page, Fence}
use Rattle.jos_cpu.specs.declared.events.Event.{Event}
use Rattle.jos_cpu.specs.declared.events.Event.TheVariants.{Next, Soft, Raised}
use Rattle.jos_cpu.specs.declared.events.Gates.{Gates}
use Rattle.jos_cpu.specs.declared.forms.Site.TheVariants as place
use Rattle.jos_cpu.specs.declared.forms.StringOperation.{StringOperation}
use Rattle.jos_cpu.specs.declared.forms.StringOperation.TheVariants.{Movs, Cmps, Stos, Lods, Scas}
use Rattle.jos_cpu.specs.declared.forms.Form.{Form}
use Rattle.jos_cpu.specs.declared.forms.Form.TheVariants.{Compute, Exchange, Extend, LoadAddress, LoadFrom, StoreTo}
use Rattle.jos_cpu.specs.declared.forms.Form.TheVariants.{ShiftTwo, Product, Quotient, ExtendAccumulator}
use Rattle.jos_cpu.specs.declared.forms.Form.TheVariants.{ExtendDouble, Push, Pop, PushAll, PopAll, PushFlags}
use Rattle.jos_cpu.specs.declared.forms.Form.TheVariants.{PopFlags, Leave, Branch, Jump, JumpTo, Call, CallTo, Return}
use Rattle.jos_cpu.specs.declared.forms.Form.TheVariants.{Breakpoint, Interrupt, Strings, Flag, Privileged, Nothing}
use Rattle.jos_cpu.specs.declared.transfers.Inputs.{Inputs}
use Rattle.jos_cpu.specs.declared.transfers.Inputs.TheVariants.{Numbers, Popped}
use Rattle.jos_cpu.specs.declared.fetching.Fetched.{Fetched}
use Rattle.jos_cpu.specs.declared.fetching.Fetched.TheVariants.{Instruction, Fault, Unknown}
use Rattle.jos_cpu.specs.Accesses.{is_repeated, is_over}
use Rattle.jos_cpu.specs.Effects.{Done, gives, value_at, with_quotient, gate_of, repetition_effect, after_repetition}
use Rattle.jos_cpu.specs.Effects.{counted_down, repeated_at, strings_effect, form_effect}
use Rattle.jos_cpu.specs.Fetch.{FetchedFrom, byte_reached, read_after, fetched_as, with_byte, on_byte, next_address, fetched_from, fetched_at}
use Rattle.jos_cpu.specs.Forms.{form_of}
use Rattle.jos_cpu.specs.Memory.{Memory, Probed, after, probed}
use Rattle.jos_cpu.specs.Probes.{Probe, probed_all, on_refusal}
use Rattle.jos_cpu.specs.Steps.{Stepped, probes, done_by, fault_event, after_probes, executed, after_fetch, step_of}

-- ---- an instruction

-- what comes of it is no page fault
abbrev NoFault : Event → Type 0
NoFault Next = Unit {0}
NoFault (Soft vector) = Unit {0}
NoFault (Raised trap error va) = (trap == T_PGFLT) ≡ false

abbrev Faultless : Done → Type 0
Faultless done = NoFault done.event

either : (test : Bool) (a b : Done) → Faultless a → Faultless b → Faultless (if test then a else b)
either true a b x y = x
either false a b x y = y

repetition : (operation : StringOperation) (width : Width) (regs : Regs) (inputs : Inputs) → Faultless (repetition_effect operation width regs inputs)
unfolding repetition_effect
repetition Movs width regs inputs = tt
repetition Cmps width regs inputs = tt
repetition Stos width regs inputs = tt
repetition Lods width regs inputs = tt
repetition Scas width regs inputs = tt

strings : (operation : StringOperation) (width : Width) (insn : Insn) (old regs : Regs) (inputs : Inputs) →
    Faultless (strings_effect operation width insn old regs inputs)
strings operation width insn old regs inputs =
    let e = repetition_effect operation width regs inputs in
    either (is_over insn.repeat old) (gives regs 0) (after_repetition operation insn.repeat old.eip e) tt
    (either (is_repeated insn.repeat) (gives (repeated_at operation insn.repeat old.eip (counted_down e.registers)) e.value) e tt
    (repetition operation width regs inputs))

quotient : (halves : Option Halves) (width : Width) (old regs : Regs) → Faultless (with_quotient halves width old regs)
quotient None width old regs = refl
quotient (Some halves) width old regs = tt

module _ (insn : Insn) (len : ℕ) (old : Regs) (gates : Gates) where
  abbrev passed : Regs
  passed = advanced old len

  load_address : (op : Operand) → insn.operand ≡ op → (inputs : Inputs) → Faultless (form_effect LoadAddress insn old passed inputs gates)
  unfolding form_effect
  load_address (operand.Mem arg) e inputs = rw e tt
  load_address (operand.Reg n) e inputs = rw e tt
  load_address operand.Absent e inputs = rw e tt

  pop_all : (inputs : Inputs) → Faultless (form_effect PopAll insn old passed inputs gates)
  unfolding form_effect
  pop_all (Numbers a b) = tt
  pop_all (Popped words) = tt

  by_form : (form : Form) (inputs : Inputs) → Faultless (form_effect form insn old passed inputs gates)
  unfolding form_effect
  by_form (Compute act width target left right) inputs = tt
  by_form (Exchange width other) inputs = tt
  by_form (Extend sign width) inputs = tt
  by_form LoadAddress inputs = load_address insn.operand refl inputs
  by_form (LoadFrom width) inputs = tt
  by_form (StoreTo width) inputs = tt
  by_form (ShiftTwo shift count) inputs = tt
  by_form (Product sign width) inputs = tt
  by_form (Quotient sign width) inputs =
      quotient (quotient_of sign width (double_register width passed) (value_at place.Operand width insn passed inputs)) width old passed
  by_form ExtendAccumulator inputs = tt
  by_form ExtendDouble inputs = tt
  by_form (Push source) inputs = tt
  by_form (Pop target) inputs = tt
  by_form PushAll inputs = tt
  by_form PopAll inputs = pop_all inputs
  by_form PushFlags inputs = tt
  by_form PopFlags inputs = tt
  by_form Leave inputs = tt
  by_form (Branch condition) inputs = tt
  by_form Jump inputs = tt
  by_form JumpTo inputs = tt
  by_form Call inputs = tt
  by_form CallTo inputs = tt
  by_form Return inputs = tt
  by_form Breakpoint inputs = tt
  by_form Interrupt inputs = either ((insn.imm % 256 == T_BRKPT) || (insn.imm % 256 == gate_of gates)) _ _ tt refl
  by_form (Strings operation width) inputs = strings operation width insn old passed inputs
  by_form (Flag change) inputs = tt
  by_form Privileged inputs = refl
  by_form Nothing inputs = tt

-- ---- a memory

-- A byte may not be reached, and this is its fault.
pub record IsRefused {M : Type 0} (t : Memory M) (m : M) (fault : MemFault) : Type 0 where
  pub at : ℕ
  pub access : Access
  pub refused : t.allowed m at access ≡ false
  pub fault_is : t.fault m at access ≡ fault

-- if it is a page fault that comes of a step, its memory has refused a byte with it
abbrev pub IsOfMemory : {M : Type 0} → Memory M → Event → M → Type 0
IsOfMemory t (Raised trap error va) m = (trap == T_PGFLT) ≡ true → IsRefused t m (Page (record { va = va; error = error }))
IsOfMemory t _ m = Unit {0}

module _ {M : Type 0} (t : Memory M) where
  abbrev Refuses : Option MemFault → M → Type 0
  Refuses None m = Unit {0}
  Refuses (Some fault) m = IsRefused t m fault

  abbrev FetchRefuses : Fetched → M → Type 0
  FetchRefuses (Fault fault) m = IsRefused t m fault
  FetchRefuses _ m = Unit {0}

  -- ---- probes

  abbrev by_test : Bool → M → ℕ → ℕ → Access → Probed M
  by_test right m va len access =
      if right then probed t (t.reached m va access) (after va) len access else record { memory = m; refusal = Some (t.fault m va access) }

  abbrev ProbeRefuses : Probed M → Type 0
  ProbeRefuses p = Refuses p.refusal p.memory

  probe : (len : ℕ) (m : M) (va : ℕ) (access : Access) → ProbeRefuses (probed t m va len access)
  unfolding probed
  probe zero m va access = tt
  probe (suc len) m va access = by_right (probe len (t.reached m va access) (after va) access) (t.allowed m va access) refl
    where
      by_right : ProbeRefuses (probed t (t.reached m va access) (after va) len access) → (right : Bool) → t.allowed m va access ≡ right →
          ProbeRefuses (by_test right m va len access)
      by_right rest true is = rest
      by_right rest false is = record { at = va; access = access; refused = is; fault_is = refl }

  probe_all : (ps : List Probe) (m : M) → ProbeRefuses (probed_all t m ps)
  unfolding probed_all
  probe_all [] m = tt
  probe_all (p ∷ rest) m =
      let q = probed t m p.va p.len p.access in by_first (λ next. probe_all rest next) q.refusal q.memory (probe p.len m p.va p.access)
    where
      by_first : ((next : M) → ProbeRefuses (probed_all t next rest)) → (first : Option MemFault) (m : M) → Refuses first m →
          ProbeRefuses (on_refusal first m (λ next. probed_all t next rest))
      by_first more None m h = more m
      by_first more (Some fault) m h = h

  -- ---- the fetch

  abbrev BytesRefuse : FetchedFrom M → Type 0
  BytesRefuse f = FetchRefuses f.fetched f.memory

  fetch_from : (ip room : ℕ) (m : M) (bytes : List ℕ) → BytesRefuse (fetched_from t ip room m bytes)
  unfolding fetched_from byte_reached
  fetch_from ip zero m bytes = tt
  fetch_from ip (suc room) m bytes =
      let va = next_address ip bytes in
      let q = probed t m va 1 Read in
      by_byte (λ next longer. fetch_from ip room next longer) va q.refusal q.memory (probe 1 m va Read)
    where
      by_bytes : (d : Decoded) (m : M) (more : FetchedFrom M) → BytesRefuse more → BytesRefuse (fetched_as d m more)
      by_bytes (Found insn len) m more h = tt
      by_bytes Illegal m more h = tt
      by_bytes Short m more h = h

      by_byte : ((next : M) (longer : List ℕ) → BytesRefuse (fetched_from t ip room next longer)) →
          (va : ℕ) (first : Option MemFault) (m : M) → Refuses first m →
          BytesRefuse (on_byte (read_after t va first m) m bytes (λ longer. fetched_from t ip room m longer))
      by_byte more va None m h =
          let longer = with_byte bytes (t.byte m va) in by_bytes (decoded longer) m (fetched_from t ip room m longer) (more m longer)
      by_byte more va (Some fault) m h = h

  -- ---- the step

  abbrev Told : Stepped M → Type 0
  Told s = IsOfMemory t s.event s.memory

  -- what is no page fault tells of none
  none_told : (event : Event) (m : M) → NoFault event → IsOfMemory t event m
  none_told Next m none = tt
  none_told (Soft vector) m none = tt
  none_told (Raised trap error va) m none = λ is. absurd (let contradiction : true ≡ false = sym is ∙ none in cc)

  fault_told : (fault : MemFault) (m : M) → IsRefused t m fault → IsOfMemory t (fault_event fault) m
  fault_told (Page fault) m h = λ is. h
  fault_told Fence m h = λ is. absurd (let contradiction : false ≡ true = is in cc)

  module _ (regs : Regs) (gates : Gates) where
    after_its_probes : (insn : Insn) (len : ℕ) (refusal : Option MemFault) (m : M) → Refuses refusal m →
        Told (after_probes t insn len regs gates refusal m)
    unfolding done_by
    after_its_probes insn len (Some fault) m h = fault_told fault m h
    after_its_probes insn len None m h = none_told _ _ (by_form insn len regs gates (form_of insn.row) _)

    after_its_fetch : (fetched : Fetched) (m : M) → FetchRefuses fetched m → Told (after_fetch t regs gates fetched m)
    unfolding executed
    after_its_fetch (Instruction insn len) m h =
        let p = probed_all t m (probes insn regs) in after_its_probes insn len p.refusal p.memory (probe_all (probes insn regs) m)
    after_its_fetch (Fault fault) m h = fault_told fault m h
    after_its_fetch Unknown m h = λ is. absurd (let contradiction : false ≡ true = is in cc)

    -- The page fault of a step is the fault of a byte that its memory refuses.
    pub step_told : (m : M) → IsOfMemory t (step_of t regs m gates).event (step_of t regs m gates).memory
    unfolding step_of fetched_at
    step_told m =
        let f = fetched_at t m regs.eip in after_its_fetch f.fetched f.memory (fetch_from regs.eip INSTRUCTION_MAX m [])
