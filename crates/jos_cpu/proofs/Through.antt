-- A step through a map of memories: where the words of two tables agree through the map, the step is the same, with
-- the map of its memory. So a memory that is a part of a state, or is kept in another way, has the step of either.
use Rattle.std.proofs.Common.{◌≡◌, true, refl, ap, ◌∙◌}
use Rattle.jos_base.specs.declared.registers.Regs.{Regs}
use Rattle.jos_cpu.specs.declared.events.Event.{Event}
use Rattle.jos_cpu.specs.declared.events.Gates.{Gates}
use Rattle.jos_cpu.specs.Memory.{Memory}
use Rattle.jos_cpu.specs.Steps.{Stepped, step_of}
use Rattle.jos_cpu.proofs.Agreement.{Agrees, through, AgreesReading, AgreesWriting}
use Rattle.jos_cpu.proofs.Related.{same_step}

module _ {M N : Type 0} {t : Memory M} {u : Memory N} {f : M → N} {Holds : M → Type 0} (h : Agrees t u f Holds) where
  abbrev IsImage : M → N → Type 0
  IsImage m n = Holds m × (n ≡ f m)

  reading : AgreesReading t u IsImage (λ m va access. true)
  reading = record {
    allowed = λ {m} {n} r va access. rw r.1 (h.allowed m r.0 va access);
    fault = λ {m} {n} r va access off. rw r.1 (h.fault m r.0 va access off);
    byte = λ {m} {n} r va access on. rw r.1 (h.byte m r.0 va);
    reached = λ {m} {n} r va access on. let k = h.reached m r.0 va access on in (k.0, rw r.1 k.1);
    enough = λ {m} {n} r va access on. refl;
    stays = λ {m} {n} r va access on. refl;
  }

  writing : AgreesWriting t u IsImage (λ m va access. true)
  writing = record {
    stored = λ {m} {n} r va byte small on. let k = h.stored m r.0 va byte small in (k.0, rw r.1 k.1);
    stays = λ {m} {n} r va byte small on. refl;
  }

  parts : (s : Stepped N) {regs : Regs} {n : N} {event : Event} → s.regs ≡ regs → s.memory ≡ n → s.event ≡ event →
      s ≡ record { regs = regs; memory = n; event = event }
  parts s a b c = rw (← a, ← b, ← c) refl

  pub step_through : (regs : Regs) (m : M) (gates : Gates) → Holds m →
      Holds (step_of t regs m gates).memory × (step_of u regs (f m) gates ≡ through f (step_of t regs m gates))
  step_through regs m gates holds =
      let s = same_step writing reading regs gates {m = m} {n = f m} (holds, refl) in
      (s.memory.0, parts _ s.regs s.memory.1 s.event)

  -- the same of a step whose outcome is known, as a clause of `step` tells it
  pub stepped_through : (regs : Regs) (m : M) (gates : Gates) {next : Regs} {left : M} {event : Event} → Holds m →
      step_of t regs m gates ≡ record { regs = next; memory = left; event = event } →
      Holds left × (step_of u regs (f m) gates ≡ record { regs = next; memory = f left; event = event })
  stepped_through regs m gates holds e =
      let s = step_through regs m gates holds in
      (rw (ap (λ x. x.memory) e) at s.0, s.1 ∙ ap (through f) e)
