-- What a step depends on: the bytes that it reaches, and no others. Registers and what comes of it are the same in two
-- memories that are the same within some addresses, if in one of them it stays within.
use Rattle.std.proofs.Common.{◌≡◌, ℕ, Bool, true, false, refl, sym, ap, ◌∙◌, if◌then◌else◌}
use Rattle.std.specs.Prelude.{◌&&◌}
use Rattle.jos_base.specs.declared.registers.Regs.{Regs}
use Rattle.jos_base.specs.declared.memory.Access.{Access}
use Rattle.jos_cpu.specs.declared.memory.MemFault.{MemFault}
use Rattle.jos_cpu.specs.declared.memory.MemFault.TheVariants.{Fence}
use Rattle.jos_cpu.specs.declared.events.Gates.{Gates}
use Rattle.jos_cpu.specs.Memory.{Memory, IsLawful, IsSteady, fenced}
use Rattle.jos_cpu.specs.Steps.{step_of}
use Rattle.jos_cpu.proofs.Agreement.{Rights, AgreesReading, AgreesWriting, SameStep}
use Rattle.jos_cpu.proofs.Related.{same_numbers, same_step}
use Rattle.jos_cpu.proofs.Fenced.{StaysWithin, step_within}
use Rattle.std.proofs.lemmas.Bool.{and_parts}

-- Two memories are the same within some addresses: what may be reached there, the bytes that may be, and the faults
-- of those that may not.
pub record SameWithin {M : Type 0} (within : ℕ → Bool) (t : Memory M) (m n : M) : Type 0 where
  pub allowed : (va : ℕ) (access : Access) → within va ≡ true → t.allowed n va access ≡ t.allowed m va access
  pub byte : (va : ℕ) (access : Access) → within va ≡ true → t.allowed m va access ≡ true → t.byte n va ≡ t.byte m va
  pub fault : (va : ℕ) (access : Access) → within va ≡ true → t.allowed m va access ≡ false →
      t.fault n va access ≡ t.fault m va access

module _ {M : Type 0} (within : ℕ → Bool) (stop : MemFault) (t : Memory M) (lawful : IsLawful t) (steady : IsSteady within t) where
  abbrev within_rights : M → Rights
  within_rights m va access = within va && t.allowed m va access

  reading : AgreesReading (fenced within stop t) (fenced within stop t) (SameWithin within t) within_rights
  reading = record {
    allowed = λ {m} {n} r va access. allows (within va) (r.allowed va access);
    fault = λ {m} {n} r va access off. faults (within va) (r.fault va access) off;
    byte = λ {m} {n} r va access on. let k = and_parts _ _ on in r.byte va access k.0 k.1;
    reached = λ {m} {n} r va access on. record {
      allowed = λ q a i. rw (lawful.reached_rights m va access, lawful.reached_rights n va access) (r.allowed q a i);
      byte = λ q a i o.
          steady n va q access i ∙ r.byte q a i (rw (lawful.reached_rights m va access) at o) ∙ sym (steady m va q access i);
      fault = λ q a i o.
          rw (lawful.reached_faults m va access, lawful.reached_faults n va access) (r.fault q a i (rw (lawful.reached_rights m va access) at o));
    };
    enough = λ {m} {n} r va access on. on;
    stays = λ {m} {n} r va access on. ap (λ (g : Rights). λ (q : ℕ) (a : Access). within q && g q a) (lawful.reached_rights m va access);
  }
    where
      allows : (inside : Bool) {a b : Bool} → (inside ≡ true → b ≡ a) → (inside && b) ≡ (inside && a)
      allows true e = e refl
      allows false e = refl

      faults : (inside : Bool) {a b : MemFault} {on : Bool} → (inside ≡ true → on ≡ false → b ≡ a) → (inside && on) ≡ false →
          (if inside then b else stop) ≡ (if inside then a else stop)
      faults true e off = e refl off
      faults false e off = refl

  pub step_local : (regs : Regs) (m n : M) (gates : Gates) → SameWithin within t m n → StaysWithin within stop t regs m gates →
      ((step_of t regs n gates).regs ≡ (step_of t regs m gates).regs) × ((step_of t regs n gates).event ≡ (step_of t regs m gates).event)
  step_local regs m n gates same stays =
      let s = same_numbers reading regs gates same in
      let a = step_within within stop t regs m gates stays in
      let b = step_within within stop t regs n gates (λ e. stays (sym s.event ∙ e)) in
      (ap (λ x. x.regs) (sym b) ∙ s.regs ∙ ap (λ x. x.regs) a, ap (λ x. x.event) (sym b) ∙ s.event ∙ ap (λ x. x.event) a)

-- With no fence: memories that are the same everywhere.
pub step_same : {M : Type 0} (t : Memory M) → IsLawful t → IsSteady (λ va. true) t → (regs : Regs) (m n : M) (gates : Gates) → SameWithin (λ va. true) t m n →
    ((step_of t regs n gates).regs ≡ (step_of t regs m gates).regs) × ((step_of t regs n gates).event ≡ (step_of t regs m gates).event)
step_same t lawful steady regs m n gates same =
    let whole : AgreesReading t t (SameWithin (λ va. true) t) t.allowed = reading (λ va. true) Fence t lawful steady in
    let s = same_numbers whole regs gates same in
    (s.regs, s.event)

-- Two tables, by a relation behind the fence: it goes on to what the step leaves, and so from step to step.
module _ {M N : Type 0} (within : ℕ → Bool) (stop : MemFault) (t : Memory M) (u : Memory N) {R : M → N → Type 0} {rights : M → Rights}
    (reads : AgreesReading (fenced within stop t) (fenced within stop u) R rights)
    (writes : AgreesWriting (fenced within stop t) (fenced within stop u) R rights) where
  pub step_related : (regs : Regs) (gates : Gates) {m : M} {n : N} → R m n → StaysWithin within stop t regs m gates →
      SameStep R (step_of t regs m gates) (step_of u regs n gates)
  step_related regs gates {m} {n} r stays =
      let s = same_step writes reads regs gates r in
      let a = step_within within stop t regs m gates stays in
      let b = step_within within stop u regs n gates (λ e. stays (sym s.event ∙ e)) in
      rw (← a, ← b) s
