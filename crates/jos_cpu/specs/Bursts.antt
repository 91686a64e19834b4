-- Steps one after another, and what is done at once of an instruction.
use Rattle.std.specs.Prelude.{◌≡◌, ℕ, ◌+◌, ◌≤◌, zero, suc, Bool, true, false}
use Rattle.jos_base.specs.declared.registers.Regs.{Regs}
use Rattle.jos_isa.specs.declared.instruction.Insn.{Insn}
use Rattle.jos_cpu.specs.declared.events.Event.{Event}
use Rattle.jos_cpu.specs.declared.events.Event.TheVariants.{Next}
use Rattle.jos_cpu.specs.declared.events.Gates.{Gates}
use Rattle.jos_cpu.specs.Memory.{Memory}
use Rattle.jos_cpu.specs.Effects.{IfRaised}
use Rattle.jos_cpu.specs.Steps.{executed, step_of, probes_left}

-- the registers and the memory between two steps
pub record ProcessorState (M : Type 0) : Type 0 where
  pub regs : Regs
  pub memory : M

-- An instruction is executed and the program goes on, or nothing is changed.
abbrev pub IsQuick : {M : Type 0} → Memory M → Insn → ℕ → Gates → Bool → ProcessorState M → ProcessorState M → Type 0
IsQuick t insn len gates true before after =
    executed t insn len before.regs before.memory gates ≡ record { regs = after.regs; memory = after.memory; event = Next }
IsQuick t insn len gates false before after = (after.regs ≡ before.regs) × (after.memory ≡ before.memory)

-- One step, and what comes of it.
abbrev pub StepsTo : {M : Type 0} → Memory M → Gates → ProcessorState M → Event → ProcessorState M → Type 0
StepsTo t gates before event after =
    step_of t before.regs before.memory gates ≡ record { regs = after.regs; memory = after.memory; event = event }

-- So many steps, after each of which the program goes on, with its stack pointer where it may stand.
abbrev pub StepsOn : {M : Type 0} → Memory M → (ℕ → Bool) → Gates → ℕ → ProcessorState M → ProcessorState M → Type 0
StepsOn t stands gates zero before after = after ≡ before
StepsOn {M} t stands gates (suc n) before after =
    (next : ProcessorState M) × StepsTo t gates before Next next × (stands next.regs.esp ≡ true) × StepsOn t stands gates n next after

-- A burst: steps up to the first that raises or calls something, or leaves the stack pointer where it may not stand, and no
-- more than a limit says. All but the last go on; the last has this event. Where the program could go on behind it, as many
-- steps are made as the limit says; else the last instruction stands at this address.
pub record IsBurst {M : Type 0} (t : Memory M) (stands : ℕ → Bool) (gates : Gates) (limit steps ip : ℕ) (event : Event) (before after : ProcessorState M) : Type 0 where
  -- the steps that go on, and where the last begins
  pub going : ℕ
  pub count : steps ≡ going + 1
  pub reached : ProcessorState M
  pub went : StepsOn t stands gates going before reached
  pub last : StepsTo t gates reached event after
  -- a trap changes no register, and of memory only what probes set
  pub kept : IfRaised event (after.regs ≡ reached.regs)
  pub untouched : IfRaised event (after.memory ≡ probes_left t reached.regs reached.memory)
  pub within : steps ≤ limit
  pub whole : event ≡ Next → stands after.regs.esp ≡ true → steps ≡ limit
  pub at : (event ≡ Next → stands after.regs.esp ≡ true → ⊥) → ip ≡ reached.regs.eip
