-- A step over a memory that may refuse writes that another allows, as that of page tables in which a page waits to be
-- copied when it is written. It is the step over the other, or it is a page fault at a byte that the other lets it write.
use Rattle.std.proofs.Common.{◌≡◌, ℕ, ◌+◌, true, false, ◌⊎◌, inl, inr, refl, sym, ap, subst, ◌∙◌}
use Rattle.jos_base.specs.declared.memory.Access.{Access}
use Rattle.jos_base.specs.declared.memory.Access.TheVariants.{Read, Write}
use Rattle.jos_base.specs.declared.numbers.TheConstants.{T_PGFLT, FEC_PR, FEC_U, FEC_WR}
use Rattle.jos_base.specs.declared.registers.Regs.{Regs}
use Rattle.jos_isa.specs.declared.instruction.Insn.{Insn}
use Rattle.jos_cpu.specs.declared.events.Event.TheVariants.{Raised}
use Rattle.jos_cpu.specs.declared.events.Gates.{Gates}
use Rattle.jos_cpu.specs.declared.fetching.Fetched.{Fetched}
use Rattle.jos_cpu.specs.declared.fetching.Fetched.TheVariants.{Instruction, Fault, Unknown}
use Rattle.jos_cpu.specs.declared.memory.MemFault.{MemFault}
use Rattle.jos_cpu.specs.declared.memory.MemFault.TheVariants.{Page}
use Rattle.jos_cpu.specs.Fetch.{fetched_at}
use Rattle.jos_cpu.specs.Memory.{Memory}
use Rattle.jos_cpu.specs.Steps.{Stepped, probes, fault_event, probes_left, step_of}
use Rattle.jos_cpu.proofs.Agreement.{Rights, AllowsFewer, AgreesWriting, SameStep, IsProbed, ReachesFor, IsDenied, IsStopped}
use Rattle.jos_cpu.proofs.Related.{fewer_step}

-- ---- what is asked of the two memories

-- the fault of a write to a page that is there and may be read
abbrev pub read_only : ℕ → MemFault
read_only va = Page (record { va = va; error = FEC_U + FEC_PR + FEC_WR })

-- Of related memories the first refuses no read that the second allows, and a write that it alone refuses is the page
-- fault of a page that may be read.
pub record RefusesWrites {M N : Type 0} (t : Memory M) (u : Memory N) (Related : M → N → Type 0) : Type 0 where
  pub reads : {m : M} {n : N} → Related m n → (va : ℕ) → t.allowed m va Read ≡ false → u.allowed n va Read ≡ false
  pub writes : {m : M} {n : N} → Related m n → (va : ℕ) → t.allowed m va Write ≡ false → u.allowed n va Write ≡ true →
      t.fault m va Write ≡ read_only va

-- Reaching a byte changes nothing: this memory has no accessed and dirty bits.
abbrev pub IsQuiet : {N : Type 0} → Memory N → Type 0
IsQuiet {N = N} u = (n : N) (va : ℕ) (access : Access) → u.reached n va access ≡ n

-- ---- what is concluded

-- The step was stopped by a write that the second memory allows: one of the instruction at EIP. Registers are kept, memory
-- is as the probes leave it, and is related to the second memory as that was before.
pub record IsWriteStopped {M N : Type 0} (t : Memory M) (u : Memory N) (Related : M → N → Type 0) (regs : Regs) (m : M) (n : N)
    (s : Stepped M) : Type 0 where
  pub va : ℕ
  pub event : s.event ≡ Raised T_PGFLT (FEC_U + FEC_PR + FEC_WR) va
  pub regs_kept : s.regs ≡ regs
  pub untouched : s.memory ≡ probes_left t regs m
  pub related : Related s.memory n
  pub refused : t.allowed s.memory va Write ≡ false
  pub allowed : u.allowed n va Write ≡ true
  pub insn : Insn
  pub len : ℕ
  pub fetched : (fetched_at t m regs.eip).fetched ≡ Instruction insn len
  pub place : IsProbed (probes insn regs) va Write

-- ---- the law

module _ {M N : Type 0} {t : Memory M} {u : Memory N} {R : M → N → Type 0} {rights : M → Rights} (reads : AllowsFewer t u R rights)
    (writes : AgreesWriting t u R rights) (refuses : RefusesWrites t u R) (quiet : IsQuiet u) where
  -- related to a memory that is still this one
  abbrev Still : N → M → N → Type 0
  Still n m x = R m x × (x ≡ n)

  still_reads : (n : N) → AllowsFewer t u (Still n) rights
  still_reads n = record {
    allowed = λ {m} {n = x} r va access on. reads.allowed r.0 va access on;
    fault = λ {m} {n = x} r va access off other. reads.fault r.0 va access off other;
    byte = λ {m} {n = x} r va access on. reads.byte r.0 va access on;
    reached = λ {m} {n = x} r va access on. (reads.reached r.0 va access on, quiet x va access ∙ r.1);
    enough = λ {m} {n = x} r va access on. reads.enough r.0 va access on;
    stays = λ {m} {n = x} r va access on. reads.stays r.0 va access on;
  }

  -- it was no read, so that the instruction was fetched
  writes_alone : (regs : Regs) (m : M) (n : N) (s : Stepped M) → IsStopped t u (Still n) regs m s → IsWriteStopped t u R regs m n s
  writes_alone regs m n s stop = by_access d.access refl d.refused d.allowed d.place d.told
    where
      d : IsDenied t u (Still n) (ReachesFor regs (fetched_at t m regs.eip).fetched) (λ fault. s.event ≡ fault_event fault) s.memory
      d = stop.denied

      by_access : (access : Access) → d.access ≡ access → t.allowed s.memory d.va access ≡ false → u.allowed d.second d.va access ≡ true →
          ReachesFor regs (fetched_at t m regs.eip).fetched d.va access → s.event ≡ fault_event (t.fault s.memory d.va access) →
          IsWriteStopped t u R regs m n s
      by_access Read is off on place told =
          let e : true ≡ false = sym on ∙ refuses.reads d.related.0 d.va off in absurd cc
      by_access Write is off on place told = by_fetched (fetched_at t m regs.eip).fetched refl place
        where
          by_fetched : (f : Fetched) → (fetched_at t m regs.eip).fetched ≡ f → ReachesFor regs f d.va Write → IsWriteStopped t u R regs m n s
          by_fetched (Instruction insn len) is place = record {
            va = d.va;
            event = told ∙ ap fault_event (refuses.writes d.related.0 d.va off on);
            regs_kept = stop.regs_kept;
            untouched = stop.untouched;
            related = subst (λ (x : N). R s.memory x) d.related.1 d.related.0;
            refused = off;
            allowed = subst (λ (x : N). u.allowed x d.va Write ≡ true) d.related.1 on;
            insn = insn;
            len = len;
            fetched = is;
            place = place;
          }
          by_fetched (Fault fault) is place = absurd cc
          by_fetched Unknown is place = absurd place

  -- The step over the first memory is the step over the second, with the same registers and related memories. Or it is a
  -- page fault, at a byte that the instruction at EIP writes and that the second lets it write: then registers are kept, and
  -- the first memory, with what the probes set in it, is related to the second as it stands.
  pub step_or_stopped : (regs : Regs) (gates : Gates) {m : M} {n : N} → R m n →
      SameStep R (step_of t regs m gates) (step_of u regs n gates) ⊎ IsWriteStopped t u R regs m n (step_of t regs m gates)
  step_or_stopped regs gates {m} {n} r = elim (fewer_step (still_reads n) writes (λ m x k. k.0) regs gates {m = m} {n = n} (r, refl)) [
    | inl same ↦ inl same
    | inr stop ↦ inr (writes_alone regs m n (step_of t regs m gates) stop)
  ]
