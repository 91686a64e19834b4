-- A fence around some addresses of a memory: a step with the fence is stopped by it, or is the step without it.
use Rattle.std.proofs.Common.{◌≡◌, ℕ, ◌+◌, ◌%◌, ◌^◌, ◌<◌, zero, suc, Bool, true, false, List, [], ◌∷◌, length, Option, None, Some}
use Rattle.std.proofs.Common.{refl, sym, ap, subst, ◌∙◌, arith}
use Rattle.std.proofs.Common.{◌⊎◌, inl, inr, if◌then◌else◌}
use Rattle.std.specs.Prelude.{◌&&◌, slice_index}
use Rattle.jos_base.specs.declared.registers.Regs.{Regs}
use Rattle.jos_base.specs.declared.memory.Access.{Access}
use Rattle.jos_base.specs.declared.memory.Access.TheVariants.{Read, Write}
use Rattle.jos_base.specs.declared.numbers.TheConstants.{INSTRUCTION_MAX}
use Rattle.jos_isa.specs.declared.instruction.Insn.{Insn}
use Rattle.jos_isa.specs.declared.decoder.Decoded.{Decoded}
use Rattle.jos_isa.specs.declared.decoder.Decoded.TheVariants.{Found, Short, Illegal}
use Rattle.jos_isa.specs.Decoding.{decoded}
use Rattle.jos_alu.specs.declared.width.Width.{Width}
use Rattle.jos_alu.specs.declared.width.Width.TheVariants.{Bits8, Bits16, Bits32}
use Rattle.jos_cpu.specs.declared.memory.MemFault.{MemFault}
use Rattle.jos_cpu.specs.declared.events.Gates.{Gates}
use Rattle.jos_cpu.specs.declared.accesses.AccessAt.{AccessAt}
use Rattle.jos_cpu.specs.declared.accesses.Accesses.{Accesses}
use Rattle.jos_cpu.specs.declared.accesses.Accesses.TheVariants as reach
use Rattle.jos_cpu.specs.declared.fetching.Fetched.{Fetched}
use Rattle.jos_cpu.specs.declared.fetching.Fetched.TheVariants.{Instruction, Fault, Unknown}
use Rattle.jos_cpu.specs.Memory.{Memory, Probed, IsStill, StandAt, fenced, after, probed}
use Rattle.jos_cpu.specs.AtHand.{IsPut}
use Rattle.jos_cpu.specs.Accesses.{is_read, bytes_in_width}
use Rattle.jos_cpu.specs.Probes.{Probe, probed_all, on_refusal}
use Rattle.jos_cpu.specs.Transfers.{Number, number_at, input_of, popped_words, inputs_of, stored_number, stored_all}
use Rattle.jos_cpu.specs.Fetch.{FetchedFrom, byte_reached, read_after, fetched_as, with_byte, on_byte, next_address}
use Rattle.jos_cpu.specs.Fetch.{fetched_from, fetched_at}
use Rattle.jos_cpu.proofs.Agreement.{Agrees}
use Rattle.std.proofs.lemmas.Bool.{and_parts}
use Rattle.jos_cpu.specs.Steps.{Stepped, probes, accesses, fault_event, after_probes, executed, after_fetch, step_of}

-- A step stays within some addresses: a fence around them does not stop it. The fault of the fence has to be one that
-- the step has for no other cause, as that of a page at address 2^32.
abbrev pub StaysWithin : {M : Type 0} → (ℕ → Bool) → MemFault → Memory M → Regs → M → Gates → Type 0
StaysWithin within stop t regs m gates = (step_of (fenced within stop t) regs m gates).event ≡ fault_event stop → ⊥

module _ {M : Type 0} (within : ℕ → Bool) (stop : MemFault) (t : Memory M) where
  -- with the fence and without it: stopped by the fence, or the same
  abbrev Probes : Probed M → Probed M → Type 0
  Probes p q = (p.refusal ≡ Some stop) ⊎ (p ≡ q)

  abbrev Fetches : FetchedFrom M → FetchedFrom M → Type 0
  Fetches p q = (p.fetched ≡ Fault stop) ⊎ (p ≡ q)

  abbrev Steps : Stepped M → Stepped M → Type 0
  Steps s r = (s.event ≡ fault_event stop) ⊎ (s ≡ r)

  -- ---- probes

  choose : (inside on : Bool) (m : M) (fault : MemFault) {p q : Probed M} → Probes p q →
      Probes (if inside && on then p else record { memory = m; refusal = Some (if inside then fault else stop) })
      (if on then q else record { memory = m; refusal = Some fault })
  choose false on m fault s = inl refl
  choose true true m fault s = s
  choose true false m fault s = inr refl

  probe : (len : ℕ) (m : M) (va : ℕ) (access : Access) → Probes (probed (fenced within stop t) m va len access) (probed t m va len access)
  unfolding probed
  probe zero m va access = inr refl
  probe (suc len) m va access =
      choose (within va) (t.allowed m va access) m (t.fault m va access) (probe len (t.reached m va access) (after va) access)

  onward : (p q : Probed M) → Probes p q → (k l : M → Probed M) → ((m : M) → Probes (k m) (l m)) →
      Probes (on_refusal p.refusal p.memory k) (on_refusal q.refusal q.memory l)
  onward p q (inl e) k l more = rw e (inl refl)
  onward p q (inr e) k l more = rw e (go q.refusal q.memory)
    where
      go : (a : Option MemFault) (m : M) → Probes (on_refusal a m k) (on_refusal a m l)
      go None m = more m
      go (Some fault) m = inr refl

  probe_all : (ps : List Probe) (m : M) → Probes (probed_all (fenced within stop t) m ps) (probed_all t m ps)
  unfolding probed_all
  probe_all [] m = inr refl
  probe_all (p ∷ rest) m = onward _ _ (probe p.len m p.va p.access) _ _ (λ next. probe_all rest next)

  -- ---- the fetch

  judge : (d : Decoded) (m : M) {p q : FetchedFrom M} → Fetches p q → Fetches (fetched_as d m p) (fetched_as d m q)
  judge (Found insn len) m s = inr refl
  judge Illegal m s = inr refl
  judge Short m s = s

  take_byte : (p q : Probed M) → Probes p q → (va : ℕ) (bytes : List ℕ) (k l : M → List ℕ → FetchedFrom M) →
      ((m : M) (longer : List ℕ) → Fetches (k m longer) (l m longer)) →
      Fetches (on_byte (read_after (fenced within stop t) va p.refusal p.memory) p.memory bytes (k p.memory))
      (on_byte (read_after t va q.refusal q.memory) q.memory bytes (l q.memory))
  take_byte p q (inl e) va bytes k l more = rw e (inl refl)
  take_byte p q (inr e) va bytes k l more = rw e (go q.refusal q.memory)
    where
      go : (a : Option MemFault) (m : M) →
          Fetches (on_byte (read_after (fenced within stop t) va a m) m bytes (k m)) (on_byte (read_after t va a m) m bytes (l m))
      go None m = judge (decoded (with_byte bytes (t.byte m va))) m (more m (with_byte bytes (t.byte m va)))
      go (Some fault) m = inr refl

  fetch_from : (ip room : ℕ) (m : M) (bytes : List ℕ) → Fetches (fetched_from (fenced within stop t) ip room m bytes) (fetched_from t ip room m bytes)
  unfolding fetched_from byte_reached
  fetch_from ip zero m bytes = inr refl
  fetch_from ip (suc room) m bytes =
      take_byte _ _ (probe 1 m (next_address ip bytes) Read) (next_address ip bytes) bytes _ _ (λ next longer. fetch_from ip room next longer)

  -- ---- numbers, which no fence changes

  number : (m : M) (va : ℕ) (width : Width) → number_at (fenced within stop t) m va width ≡ number_at t m va width
  unfolding number_at
  number m va Bits8 = refl
  number m va Bits16 = refl
  number m va Bits32 = refl

  input : (m : M) (a : AccessAt) → input_of (fenced within stop t) m a ≡ input_of t m a
  input m a = ap (λ x. if is_read a.usage then x else 0) (number m a.va a.width)

  inputs : (m : M) (a : Accesses) → inputs_of (fenced within stop t) m a ≡ inputs_of t m a
  unfolding inputs_of popped_words number_at
  inputs m reach.None = refl
  inputs m (reach.One a) = rw (input m a) refl
  inputs m (reach.Two a b) = rw (input m a, input m b) refl
  inputs m (reach.PushAll va) = refl
  inputs m (reach.PopAll va) = refl

  store : (m : M) (width : Width) (va value : ℕ) → stored_number (fenced within stop t) m width va value ≡ stored_number t m width va value
  unfolding stored_number
  store m Bits8 va value = refl
  store m Bits16 va value = refl
  store m Bits32 va value = refl

  store_all : (numbers : List Number) (m : M) → stored_all (fenced within stop t) m numbers ≡ stored_all t m numbers
  unfolding stored_all
  store_all [] m = refl
  store_all (a ∷ rest) m = store_all rest _ ∙ ap (λ n. stored_all t n rest) (store m a.width a.va a.value)

  -- ---- the step

  act : (insn : Insn) (len : ℕ) (regs : Regs) (gates : Gates) (p q : Probed M) → Probes p q →
      Steps (after_probes (fenced within stop t) insn len regs gates p.refusal p.memory) (after_probes t insn len regs gates q.refusal q.memory)
  act insn len regs gates p q (inl e) = rw e (inl refl)
  act insn len regs gates p q (inr e) = rw e (go q.refusal q.memory)
    where
      go : (a : Option MemFault) (m : M) → Steps (after_probes (fenced within stop t) insn len regs gates a m) (after_probes t insn len regs gates a m)
      go None m = rw (inputs m (accesses insn regs), store_all _ m) (inr refl)
      go (Some fault) m = inr refl

  execute : (insn : Insn) (len : ℕ) (regs : Regs) (m : M) (gates : Gates) →
      Steps (executed (fenced within stop t) insn len regs m gates) (executed t insn len regs m gates)
  unfolding executed
  execute insn len regs m gates = act insn len regs gates _ _ (probe_all (probes insn regs) m)

  go_on : (regs : Regs) (gates : Gates) (p q : FetchedFrom M) → Fetches p q →
      Steps (after_fetch (fenced within stop t) regs gates p.fetched p.memory) (after_fetch t regs gates q.fetched q.memory)
  go_on regs gates p q (inl e) = rw e (inl refl)
  go_on regs gates p q (inr e) = rw e (go q.fetched q.memory)
    where
      go : (a : Fetched) (m : M) → Steps (after_fetch (fenced within stop t) regs gates a m) (after_fetch t regs gates a m)
      go (Instruction insn len) m = execute insn len regs m gates
      go (Fault fault) m = inr refl
      go Unknown m = inr refl

  pub step_fenced : (regs : Regs) (m : M) (gates : Gates) → Steps (step_of (fenced within stop t) regs m gates) (step_of t regs m gates)
  unfolding step_of fetched_at
  step_fenced regs m gates = go_on regs gates _ _ (fetch_from regs.eip INSTRUCTION_MAX m [])

  pub step_within : (regs : Regs) (m : M) (gates : Gates) → StaysWithin within stop t regs m gates →
      step_of (fenced within stop t) regs m gates ≡ step_of t regs m gates
  step_within regs m gates stays = elim (step_fenced regs m gates) [
    | inl e ↦ absurd (stays e)
    | inr e ↦ e
  ]

  -- ---- what is at hand inside the fence

  pub stand_within : (m : M) (va : ℕ) (bytes : List ℕ) → ((i : ℕ) → i < length bytes → within ((va + i) % 2 ^ 32) ≡ true) →
      StandAt t m va bytes → StandAt (fenced within stop t) m va bytes
  stand_within m va bytes inside stand i below =
      let s : IsStill t m ((va + i) % 2 ^ 32) (slice_index bytes i) = stand i below in
      record { allowed = rw (inside i below, s.allowed) refl; reached = s.reached; byte_is = s.byte_is }

  probe_within : (len : ℕ) (m : M) (va : ℕ) (access : Access) → va < 2 ^ 32 → ((i : ℕ) → i < len → within ((va + i) % 2 ^ 32) ≡ true) →
      probed (fenced within stop t) m va len access ≡ probed t m va len access
  unfolding probed
  probe_within zero m va access small inside = refl
  probe_within (suc len) m va access small inside =
      let here : (va + 0) % 2 ^ 32 ≡ va = omega (arith, small) in
      let at : within va ≡ true = subst (λ (q : ℕ). within q ≡ true) here (inside 0 (omega arith)) in
      rw at (λ j. if t.allowed m va access then probe_within len (t.reached m va access) (after va) access (omega arith) (onward_within len va inside) j
      else record { memory = m; refusal = Some (t.fault m va access) })
    where
      onward_within : (len va : ℕ) → ((i : ℕ) → i < suc len → within ((va + i) % 2 ^ 32) ≡ true) →
          (i : ℕ) → i < len → within ((after va + i) % 2 ^ 32) ≡ true
      onward_within len va inside i below =
          let e : (va + suc i) % 2 ^ 32 ≡ (after va + i) % 2 ^ 32 = omega arith in
          subst (λ (q : ℕ). within q ≡ true) e (inside (suc i) (omega (arith, below)))

  pub put_within : (width : Width) (old new : M) (va value : ℕ) → va < 2 ^ 32 →
      ((i : ℕ) → i < bytes_in_width width → within ((va + i) % 2 ^ 32) ≡ true) →
      IsPut t old width va value new → IsPut (fenced within stop t) old width va value new
  put_within width old new va value small inside put = record {
    reached = probe_within (bytes_in_width width) old va Write small inside ∙ put.reached;
    stored = put.stored ∙ sym (store old width va value);
  }

-- Tables whose words agree through a map agree inside a fence.
module _ {M N : Type 0} (within : ℕ → Bool) (stop : MemFault) {t : Memory M} {u : Memory N} {f : M → N} {Holds : M → Type 0} (a : Agrees t u f Holds) where
  fault_within : (m : M) → Holds m → (va : ℕ) (access : Access) (inside : Bool) → (inside && t.allowed m va access) ≡ false →
      (if inside then u.fault (f m) va access else stop) ≡ (if inside then t.fault m va access else stop)
  fault_within m h va access true off = a.fault m h va access off
  fault_within m h va access false off = refl

  pub agrees_within : Agrees (fenced within stop t) (fenced within stop u) f Holds
  agrees_within = record {
    byte = a.byte;
    allowed = λ m h va access. ap (λ (on : Bool). within va && on) (a.allowed m h va access);
    fault = λ m h va access off. fault_within m h va access (within va) off;
    reached = λ m h va access on. a.reached m h va access (and_parts (within va) (t.allowed m va access) on).1;
    stored = a.stored;
  }
