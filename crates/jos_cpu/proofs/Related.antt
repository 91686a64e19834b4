-- A step in two related memories: the same comes of it, with the same registers, and its memories are related; or, where
-- the first table may refuse what the second allows, such a refusal has stopped it. It is shown for whatever is fetched,
-- by the table's five words alone, so that no instruction has a part in it.
use Rattle.std.proofs.Common.{◌≡◌, ℕ, zero, suc, ◌/◌, ◌%◌, Bool, true, false, List, [], ◌∷◌, Option, None, Some}
use Rattle.std.proofs.Common.{◌<◌, ◌⊎◌, inl, inr, refl, sym, ap, subst, ◌∙◌, arith, if◌then◌else◌}
use Rattle.jos_base.specs.declared.registers.Regs.{Regs}
use Rattle.jos_base.specs.declared.memory.Access.{Access}
use Rattle.jos_base.specs.declared.memory.Access.TheVariants.{Read, Write}
use Rattle.jos_base.specs.declared.numbers.TheConstants.{INSTRUCTION_MAX}
use Rattle.jos_isa.specs.declared.instruction.Insn.{Insn}
use Rattle.jos_isa.specs.declared.decoder.Decoded.{Decoded}
use Rattle.jos_isa.specs.declared.decoder.Decoded.TheVariants.{Found, Short, Illegal}
use Rattle.jos_isa.specs.Decoding.{decoded}
use Rattle.jos_alu.specs.declared.width.Width.{Width}
use Rattle.jos_alu.specs.declared.width.Width.TheVariants.{Bits8, Bits16, Bits32}
use Rattle.jos_cpu.specs.declared.memory.MemFault.{MemFault}
use Rattle.jos_cpu.specs.declared.events.Gates.{Gates}
use Rattle.jos_cpu.specs.declared.accesses.AccessAt.{AccessAt}
use Rattle.jos_cpu.specs.declared.accesses.Accesses.{Accesses}
use Rattle.jos_cpu.specs.declared.accesses.Accesses.TheVariants as reach
use Rattle.jos_cpu.specs.declared.fetching.Fetched.{Fetched}
use Rattle.jos_cpu.specs.declared.fetching.Fetched.TheVariants.{Instruction, Fault, Unknown}
use Rattle.jos_cpu.specs.Memory.{Memory, Probed, after, probed, all_allowed}
use Rattle.jos_cpu.specs.Accesses.{bytes_in_width, access_of, is_read}
use Rattle.jos_cpu.specs.Probes.{Probe, probes_of, probed_all, on_refusal}
use Rattle.jos_cpu.specs.Transfers.{Number, number_at, input_of, popped_words, inputs_of, stored_number, stored_all}
use Rattle.jos_cpu.specs.Fetch.{FetchedFrom, byte_reached, read_after, fetched_as, with_byte, on_byte, next_address}
use Rattle.jos_cpu.specs.Fetch.{fetched_from, fetched_at}
use Rattle.jos_cpu.specs.Steps.{Stepped, probes, accesses, fault_event, after_probes, executed, after_fetch, step_of}
use Rattle.jos_cpu.specs.Steps.{accesses_left, left_after_fetch, probes_left}
use Rattle.jos_cpu.proofs.Agreement.{Rights, AgreesReading, AllowsFewer, AgreesWriting, SameStep}
use Rattle.jos_cpu.proofs.Agreement.{IsAmong, IsProbed, ReachesFor, IsDenied, IsStopped}
use Rattle.jos_cpu.proofs.Allowed.{one, two, four, all_words, AllProbed, AllWritable, all_writable}
use Rattle.std.proofs.lemmas.Bool.{and_from}

module _ {M N : Type 0} {t : Memory M} {u : Memory N} {R : M → N → Type 0} {rights : M → Rights} (h : AllowsFewer t u R rights) where
  -- two probes, before which the rights were these, and what the rights allow if the probes are not refused
  record SameProbe (before : Rights) (Passed : Type 0) (p : Probed M) (q : Probed N) : Type 0 where
    memory : R p.memory q.memory
    refusal : q.refusal ≡ p.refusal
    stays : rights p.memory ≡ before
    passed : p.refusal ≡ None → Passed

  record SameFetch (p : FetchedFrom M) (q : FetchedFrom N) : Type 0 where
    memory : R p.memory q.memory
    fetched : q.fetched ≡ p.fetched

  -- ---- either the same, or denied

  abbrev Places : Type 1
  Places = ℕ → Access → Type 0

  abbrev Denied : Places → (MemFault → Type 0) → M → Type 0
  Denied Place Told m = IsDenied t u R Place Told m

  -- with another place and another outcome
  moved : {P Q : Places} {A B : MemFault → Type 0} {m : M} (d : Denied P A m) → ((va : ℕ) (access : Access) → P va access → Q va access) →
      B (t.fault m d.va d.access) → Denied Q B m
  moved d place told = record {
    second = d.second;
    va = d.va;
    access = d.access;
    related = d.related;
    refused = d.refused;
    allowed = d.allowed;
    place = place d.va d.access d.place;
    told = told;
  }

  -- two probes are the same, or the first alone was refused
  abbrev Probes : Rights → Type 0 → Places → Probed M → Probed N → Type 0
  Probes before Passed Place p q = SameProbe before Passed p q ⊎ Denied Place (λ fault. p.refusal ≡ Some fault) p.memory

  -- the same is fetched, or a byte of the instruction was refused by the first alone
  abbrev Fetches : FetchedFrom M → FetchedFrom N → Type 0
  Fetches p q = SameFetch p q ⊎ Denied (λ va access. access ≡ Read) (λ fault. p.fetched ≡ Fault fault) p.memory

  -- ---- probes

  choose : (a b : Bool) → (a ≡ true → b ≡ true) → {before : Rights} {Passed : Type 0} {Place : Places} {p p' : Probed M} {q q' : Probed N} →
      (a ≡ true → Probes before Passed Place p q) → (a ≡ false → b ≡ false → Probes before Passed Place p' q') →
      (a ≡ false → b ≡ true → Probes before Passed Place p' q) →
      Probes before Passed Place (if a then p else p') (if b then q else q')
  choose true b e on off lost = rw (e refl) (on refl)
  choose false true e on off lost = lost refl refl
  choose false false e on off lost = off refl refl

  -- an address is among those of a probe
  abbrev InProbe : ℕ → ℕ → Access → Places
  InProbe va len access q a = (a ≡ access) × IsAmong va len q

  -- the first byte before the rest
  with_first : {before now : Rights} → now ≡ before → (va len : ℕ) (access : Access) → before va access ≡ true → {p : Probed M} {q : Probed N} →
      Probes now (all_allowed now (after va) len access ≡ true) (InProbe (after va) len access) p q →
      Probes before (all_allowed before va (suc len) access ≡ true) (InProbe va (suc len) access) p q
  unfolding all_allowed
  with_first {before} e va len access first (inl s) = inl (record {
    memory = s.memory;
    refusal = s.refusal;
    stays = s.stays ∙ e;
    passed = λ none. and_from (before va access) _ first (ap (λ g. all_allowed g (after va) len access) (sym e) ∙ s.passed none);
  })
  with_first e va len access first (inr d) = inr (moved d (λ q a k. (k.0, inr k.1)) d.told)

  probe : (len : ℕ) {m : M} {n : N} → R m n → (va : ℕ) (access : Access) →
      Probes (rights m) (all_allowed (rights m) va len access ≡ true) (InProbe va len access) (probed t m va len access) (probed u n va len access)
  unfolding probed all_allowed
  probe zero r va access = inl (record { memory = r; refusal = refl; stays = refl; passed = λ none. refl })
  probe (suc len) {m} {n} r va access =
      choose _ _ (h.allowed r va access)
      (λ on. with_first (h.stays r va access on) va len access (h.enough r va access on) (probe len (h.reached r va access on) (after va) access))
      (λ off other. inl (record { memory = r; refusal = ap Some (h.fault r va access off other); stays = refl; passed = λ none. absurd cc }))
      (λ off other. inr (record {
        second = n;
        va = va;
        access = access;
        related = r;
        refused = off;
        allowed = other;
        place = (refl, inl refl);
        told = refl;
      }))

  onward : (Rest : Rights → Type 0) {before : Rights} {First : Type 0} {P Q : Places} {p : Probed M} {q : Probed N} → Probes before First P p q →
      {k : M → Probed M} {l : N → Probed N} →
      ((x : M) (y : N) → R x y → Probes (rights x) (Rest (rights x)) Q (k x) (l y)) →
      Probes before (First × Rest before) (λ va access. P va access ⊎ Q va access) (on_refusal p.refusal p.memory k) (on_refusal q.refusal q.memory l)
  onward Rest {before} {First} {P} {Q} {p} {q} (inl s) {k} {l} more = go p.refusal q.refusal s.refusal s.memory s.stays s.passed
    where
      go : (a : Option MemFault) (b : Option MemFault) → b ≡ a → {m : M} {n : N} → R m n → rights m ≡ before → (a ≡ None → First) →
          Probes before (First × Rest before) (λ va access. P va access ⊎ Q va access) (on_refusal a m k) (on_refusal b n l)
      go None b e {m} {n} r same first = rw e (by_rest (more m n r))
        where
          by_rest : {p : Probed M} {q : Probed N} → Probes (rights m) (Rest (rights m)) Q p q →
              Probes before (First × Rest before) (λ va access. P va access ⊎ Q va access) p q
          by_rest (inl s) = inl (record {
            memory = s.memory;
            refusal = s.refusal;
            stays = s.stays ∙ same;
            passed = λ none. (first refl, subst Rest same (s.passed none));
          })
          by_rest (inr d) = inr (moved d (λ va access place. inr place) d.told)
      go (Some fault) b e r same first = rw e (inl (record { memory = r; refusal = refl; stays = same; passed = λ none. absurd cc }))
  onward Rest (inr d) more = rw d.told (inr (moved d (λ va access place. inl place) refl))

  probe_all : (ps : List Probe) {m : M} {n : N} → R m n →
      Probes (rights m) (AllProbed (rights m) ps) (IsProbed ps) (probed_all t m ps) (probed_all u n ps)
  unfolding probed_all
  probe_all [] r = inl (record { memory = r; refusal = refl; stays = refl; passed = λ none. tt })
  probe_all (p ∷ rest) r = onward (λ g. AllProbed g rest) (probe p.len r p.va p.access) (λ x y s. probe_all rest s)

  -- ---- the fetch

  judge : (d : Decoded) {m : M} {n : N} → R m n → {p : FetchedFrom M} {q : FetchedFrom N} → Fetches p q →
      Fetches (fetched_as d m p) (fetched_as d n q)
  judge (Found insn len) r same = inl (record { memory = r; fetched = refl })
  judge Illegal r same = inl (record { memory = r; fetched = refl })
  judge Short r same = same

  take_byte : {m : M} {p : Probed M} {q : Probed N} (va : ℕ) (bytes : List ℕ) →
      Probes (rights m) (all_allowed (rights m) va 1 Read ≡ true) (InProbe va 1 Read) p q →
      {k : M → List ℕ → FetchedFrom M} {l : N → List ℕ → FetchedFrom N} →
      ((x : M) (y : N) (longer : List ℕ) → R x y → Fetches (k x longer) (l y longer)) →
      Fetches (on_byte (read_after t va p.refusal p.memory) p.memory bytes (k p.memory))
      (on_byte (read_after u va q.refusal q.memory) q.memory bytes (l q.memory))
  take_byte {m} {p} {q} va bytes (inl s) {k} {l} more =
      go p.refusal q.refusal s.refusal s.memory (λ none. ap (λ g. g va Read) s.stays ∙ one _ va Read (s.passed none))
    where
      go : (a b : Option MemFault) → b ≡ a → {m : M} {n : N} → R m n → (a ≡ None → rights m va Read ≡ true) →
          Fetches (on_byte (read_after t va a m) m bytes (k m)) (on_byte (read_after u va b n) n bytes (l n))
      go None b e {m} {n} r passed =
          rw (e, h.byte r va Read (passed refl))
          (judge (decoded (with_byte bytes (t.byte m va))) r (more m n (with_byte bytes (t.byte m va)) r))
      go (Some fault) b e r passed = rw e (inl (record { memory = r; fetched = refl }))
  take_byte va bytes (inr d) more = rw d.told (inr (moved d (λ va access place. place.0) refl))

  fetch_from : (ip room : ℕ) {m : M} {n : N} → R m n → (bytes : List ℕ) → Fetches (fetched_from t ip room m bytes) (fetched_from u ip room n bytes)
  unfolding fetched_from byte_reached
  fetch_from ip zero r bytes = inl (record { memory = r; fetched = refl })
  fetch_from ip (suc room) r bytes =
      let va = next_address ip bytes in
      take_byte va bytes (probe 1 r va Read) (λ x y longer s. fetch_from ip room s longer)

  -- ---- what is read

  number : {m : M} {n : N} → R m n → (va : ℕ) (width : Width) (access : Access) → all_allowed (rights m) va (bytes_in_width width) access ≡ true →
      number_at u n va width ≡ number_at t m va width
  unfolding number_at
  number r va Bits8 access passed = h.byte r va access (one _ va access passed)
  number r va Bits16 access passed =
      let k = two _ va access passed in rw (h.byte r va access k.0, h.byte r (after va) access k.1) refl
  number r va Bits32 access passed =
      let k = four _ va access passed in
      rw (h.byte r va access k.0, h.byte r (after va) access k.1, h.byte r (after (after va)) access k.2, h.byte r (after (after (after va))) access k.3) refl

  input : {m : M} {n : N} → R m n → (a : AccessAt) → all_allowed (rights m) a.va (bytes_in_width a.width) (access_of a.usage) ≡ true → input_of u n a ≡ input_of t m a
  input r a passed = ap (λ x. if is_read a.usage then x else 0) (number r a.va a.width (access_of a.usage) passed)

  inputs : {m : M} {n : N} → R m n → (a : Accesses) → AllProbed (rights m) (probes_of a) → inputs_of u n a ≡ inputs_of t m a
  unfolding inputs_of popped_words
  inputs r reach.None k = refl
  inputs r (reach.One a) k = rw (input r a k.0) refl
  inputs r (reach.Two a b) k = rw (input r a k.0, input r b k.1.0) refl
  inputs r (reach.PushAll va) k = refl
  inputs r (reach.PopAll va) k =
      let w = all_words _ 8 va Read k.0 in
      rw (
        number r _ Bits32 Read w.0,
        number r _ Bits32 Read w.1.0,
        number r _ Bits32 Read w.1.1.0,
        number r _ Bits32 Read w.1.1.1.1.0,
        number r _ Bits32 Read w.1.1.1.1.1.0,
        number r _ Bits32 Read w.1.1.1.1.1.1.0,
        number r _ Bits32 Read w.1.1.1.1.1.1.1.0,
      ) refl

  -- ---- the step

  -- The same numbers are put into memories that are related.
  pub record SameNumbers (s : Stepped M) (r : Stepped N) : Type 0 where
    pub first : M
    pub second : N
    pub numbers : List Number
    pub related : R first second
    pub writable : AllWritable (rights first) numbers
    pub regs : r.regs ≡ s.regs
    pub event : r.event ≡ s.event
    pub first_new : s.memory ≡ stored_all t first numbers
    pub second_new : r.memory ≡ stored_all u second numbers

  -- a step that writes nothing
  still : {s : Stepped M} {r : Stepped N} {m : M} {n : N} → R m n → r.regs ≡ s.regs → r.event ≡ s.event → s.memory ≡ m → r.memory ≡ n → SameNumbers s r
  unfolding stored_all
  still {m = m} {n = n} r a b c d = record {
    first = m;
    second = n;
    numbers = [];
    related = r;
    writable = tt;
    regs = a;
    event = b;
    first_new = c;
    second_new = d;
  }

  -- stopped, with this left by the probes
  record Stopped (old : Regs) (left : M) (Place : Places) (s : Stepped M) : Type 0 where
    regs_kept : s.regs ≡ old
    untouched : s.memory ≡ left
    denied : Denied Place (λ fault. s.event ≡ fault_event fault) s.memory

  -- the same numbers are put, or a refusal of the first alone has stopped the step
  abbrev Steps : Regs → M → Places → Stepped M → Stepped N → Type 0
  Steps old left Place s r = SameNumbers s r ⊎ Stopped old left Place s

  act : (insn : Insn) (len : ℕ) (regs : Regs) (gates : Gates) {m : M} {p : Probed M} {q : Probed N} →
      Probes (rights m) (AllProbed (rights m) (probes insn regs)) (IsProbed (probes insn regs)) p q →
      Steps regs p.memory (IsProbed (probes insn regs))
      (after_probes t insn len regs gates p.refusal p.memory) (after_probes u insn len regs gates q.refusal q.memory)
  act insn len regs gates {p = p} {q} (inl s) =
      inl (go p.refusal q.refusal s.refusal s.memory (λ none. subst (λ g. AllProbed g (probes insn regs)) (sym s.stays) (s.passed none)))
    where
      go : (a b : Option MemFault) → b ≡ a → {m : M} {n : N} → R m n → (a ≡ None → AllProbed (rights m) (probes insn regs)) →
          SameNumbers (after_probes t insn len regs gates a m) (after_probes u insn len regs gates b n)
      go None b e {m} {n} r passed =
          let k = passed refl in
          rw (e, inputs r (accesses insn regs) k) (record {
            first = m;
            second = n;
            numbers = _;
            related = r;
            writable = all_writable (rights m) (accesses insn regs) regs _ k;
            regs = refl;
            event = refl;
            first_new = refl;
            second_new = refl;
          })
      go (Some fault) b e r passed = rw e (still r refl refl refl refl)
  act insn len regs gates (inr d) = rw d.told (inr (record {
    regs_kept = refl;
    untouched = refl;
    denied = moved d (λ va access place. place) refl;
  }))

  execute : (insn : Insn) (len : ℕ) (regs : Regs) (gates : Gates) {m : M} {n : N} → R m n →
      Steps regs (accesses_left t insn regs m) (IsProbed (probes insn regs)) (executed t insn len regs m gates) (executed u insn len regs n gates)
  unfolding executed
  execute insn len regs gates r = act insn len regs gates (probe_all (probes insn regs) r)

  go_on : (regs : Regs) (gates : Gates) {p : FetchedFrom M} {q : FetchedFrom N} → Fetches p q →
      Steps regs (left_after_fetch t regs p.fetched p.memory) (ReachesFor regs p.fetched)
      (after_fetch t regs gates p.fetched p.memory) (after_fetch u regs gates q.fetched q.memory)
  go_on regs gates {p} {q} (inl s) = go p.fetched q.fetched s.fetched s.memory
    where
      go : (a b : Fetched) → b ≡ a → {m : M} {n : N} → R m n →
          Steps regs (left_after_fetch t regs a m) (ReachesFor regs a) (after_fetch t regs gates a m) (after_fetch u regs gates b n)
      go (Instruction insn len) b e r = rw e (execute insn len regs gates r)
      go (Fault fault) b e r = rw e (inl (still r refl refl refl refl))
      go Unknown b e r = rw e (inl (still r refl refl refl refl))
  go_on regs gates (inr d) = rw d.told (inr (record {
    regs_kept = refl;
    untouched = refl;
    denied = moved d (λ va access place. place) refl;
  }))

  -- The same numbers are put into related memories, or a refusal of the first alone has stopped the step.
  pub fewer_numbers : (regs : Regs) (gates : Gates) {m : M} {n : N} → R m n →
      SameNumbers (step_of t regs m gates) (step_of u regs n gates) ⊎ IsStopped t u R regs m (step_of t regs m gates)
  unfolding step_of fetched_at probes_left
  fewer_numbers regs gates {m} r = by_step (go_on regs gates (fetch_from regs.eip INSTRUCTION_MAX r []))
    where
      by_step : {s : Stepped M} {r : Stepped N} →
          Steps regs (probes_left t regs m) (ReachesFor regs (fetched_at t m regs.eip).fetched) s r → SameNumbers s r ⊎ IsStopped t u R regs m s
      by_step (inl same) = inl same
      by_step (inr stop) = inr (record { regs_kept = stop.regs_kept; untouched = stop.untouched; denied = stop.denied })

-- Where both tables allow the same, nothing is refused by the first alone.
module _ {M N : Type 0} {t : Memory M} {u : Memory N} {R : M → N → Type 0} {rights : M → Rights} (h : AgreesReading t u R rights) where
  pub no_fewer : AllowsFewer t u R rights
  no_fewer = record {
    allowed = λ {m} {n} r va access on. h.allowed r va access ∙ on;
    fault = λ {m} {n} r va access off other. h.fault r va access off;
    byte = λ {m} {n} r va access on. h.byte r va access on;
    reached = λ {m} {n} r va access on. h.reached r va access on;
    enough = λ {m} {n} r va access on. h.enough r va access on;
    stays = λ {m} {n} r va access on. h.stays r va access on;
  }

  pub same_numbers : (regs : Regs) (gates : Gates) {m : M} {n : N} → R m n → SameNumbers no_fewer (step_of t regs m gates) (step_of u regs n gates)
  same_numbers regs gates r = elim (fewer_numbers no_fewer regs gates r) [
    | inl same ↦ same
    | inr stop ↦ let d = stop.denied in let e : true ≡ false = sym d.allowed ∙ h.allowed d.related d.va d.access ∙ d.refused in absurd cc
  ]

-- ---- what is written

module _ {M N : Type 0} {t : Memory M} {u : Memory N} {R : M → N → Type 0} {rights : M → Rights} (h : AgreesWriting t u R rights) where
  record SameStore (before : Rights) (m : M) (n : N) : Type 0 where
    memory : R m n
    stays : rights m ≡ before

  put : {before : Rights} {m : M} {n : N} → SameStore before m n → (va byte : ℕ) → byte < 256 → before va Write ≡ true →
      SameStore before (t.stored m va byte) (u.stored n va byte)
  put s va byte small passed =
      let now = ap (λ g. g va Write) s.stays ∙ passed in
      record { memory = h.stored s.memory va byte small now; stays = h.stays s.memory va byte small now ∙ s.stays }

  store : {before : Rights} {m : M} {n : N} → SameStore before m n → (width : Width) (va value : ℕ) → all_allowed before va (bytes_in_width width) Write ≡ true →
      SameStore before (stored_number t m width va value) (stored_number u n width va value)
  unfolding stored_number
  store s Bits8 va value k = put s va (value % 256) (omega arith) (one _ va Write k)
  store s Bits16 va value k =
      let l = two _ va Write k in
      put (put s va (value % 256) (omega arith) l.0) (after va) (value / 256 % 256) (omega arith) l.1
  store s Bits32 va value k =
      let l = four _ va Write k in
      put (put (put (put s va (value % 256) (omega arith) l.0) (after va) (value / 256 % 256) (omega arith) l.1)
      (after (after va)) (value / 65536 % 256) (omega arith) l.2) (after (after (after va))) (value / 16777216 % 256) (omega arith) l.3

  store_all : (numbers : List Number) {before : Rights} {m : M} {n : N} → SameStore before m n → AllWritable before numbers →
      SameStore before (stored_all t m numbers) (stored_all u n numbers)
  unfolding stored_all
  store_all [] s k = s
  store_all (a ∷ rest) s k = store_all rest (store s a.width a.va a.value k.0) k.1

  pub same_step : AgreesReading t u R rights → (regs : Regs) (gates : Gates) {m : M} {n : N} → R m n →
      SameStep R (step_of t regs m gates) (step_of u regs n gates)
  same_step reading regs gates r =
      let s = same_numbers reading regs gates r in
      let w = store_all s.numbers (record { memory = s.related; stays = refl }) s.writable in
      record { regs = s.regs; memory = rw (s.first_new, s.second_new) w.memory; event = s.event }

-- What is asked of reading may be asked of fewer memories than what is asked of writing.
module _ {M N : Type 0} {t : Memory M} {u : Memory N} {R S : M → N → Type 0} {rights : M → Rights} (reading : AllowsFewer t u R rights)
    (writing : AgreesWriting t u S rights) (both : (m : M) (n : N) → R m n → S m n) where
  -- A step over a table that may refuse what another allows: the same comes of it as over the other, with the same registers
  -- and related memories, or it is stopped by such a refusal.
  pub fewer_step : (regs : Regs) (gates : Gates) {m : M} {n : N} → R m n →
      SameStep S (step_of t regs m gates) (step_of u regs n gates) ⊎ IsStopped t u R regs m (step_of t regs m gates)
  fewer_step regs gates r = elim (fewer_numbers reading regs gates r) [
    | inl s ↦
        let w = store_all writing s.numbers (record { memory = both s.first s.second s.related; stays = refl }) s.writable in
        inl (record { regs = s.regs; memory = rw (s.first_new, s.second_new) w.memory; event = s.event })
    | inr stop ↦ inr stop
  ]
