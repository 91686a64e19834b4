-- One step: an instruction is fetched, its accesses are probed in their order, what it reads is read, its effect
-- is taken, and what it writes is written.
-- (Intel 80386 Programmer's Reference Manual, 1986, sections 9.2 and 9.8: faults leave the registers as they
-- were. Of two causes the one that comes first here is told.)
use Rattle.std.specs.Prelude.{ℕ, List, Option, Some, None}
use Rattle.jos_base.specs.declared.registers.Regs.{Regs}
use Rattle.jos_base.specs.declared.numbers.TheConstants.{T_ILLOP, T_GPFLT, T_PGFLT}
use Rattle.jos_isa.specs.declared.instruction.Insn.{Insn}
use Rattle.jos_cpu.specs.declared.memory.MemFault.{MemFault}
use Rattle.jos_cpu.specs.declared.memory.MemFault.TheVariants.{Page, Fence}
use Rattle.jos_cpu.specs.declared.events.Event.{Event}
use Rattle.jos_cpu.specs.declared.events.Event.TheVariants.{Raised}
use Rattle.jos_cpu.specs.declared.events.Gates.{Gates}
use Rattle.jos_cpu.specs.declared.accesses.Accesses.{Accesses}
use Rattle.jos_cpu.specs.declared.transfers.Inputs.{Inputs}
use Rattle.jos_cpu.specs.declared.fetching.Fetched.{Fetched}
use Rattle.jos_cpu.specs.declared.fetching.Fetched.TheVariants.{Instruction, Fault, Unknown}
use Rattle.jos_cpu.specs.Memory.{Memory}
use Rattle.jos_alu.specs.Registers.{advanced}
use Rattle.jos_cpu.specs.Forms.{form_of}
use Rattle.jos_cpu.specs.Accesses.{accesses_of}
use Rattle.jos_cpu.specs.Probes.{Probe, probes_of, probed_all}
use Rattle.jos_cpu.specs.Transfers.{Number, inputs_of, writes_of, stored_all}
use Rattle.jos_cpu.specs.Effects.{Done, form_effect}
use Rattle.jos_cpu.specs.Fetch.{fetched_at}

-- what a step leaves, and what comes of it
pub record Stepped (M : Type 0) : Type 0 where
  pub regs : Regs
  pub memory : M
  pub event : Event

-- what an instruction reaches for, and in which order that is probed
unfoldable pub accesses : Insn → Regs → Accesses
accesses insn regs = accesses_of (form_of insn.row) insn regs

abbrev pub probes : Insn → Regs → List Probe
probes insn regs = probes_of (accesses insn regs)

-- the registers after an instruction, the numbers that it puts into memory, and what comes of it
pub record Effect : Type 0 where
  pub registers : Regs
  pub writes : List Number
  pub event : Event

unfoldable pub done_by : Insn → ℕ → Regs → Inputs → Gates → Done
done_by insn len regs inputs gates = form_effect (form_of insn.row) insn regs (advanced regs len) inputs gates

-- what an instruction that so many bytes spell does, when it has read its inputs
abbrev pub effect : Insn → ℕ → Regs → Inputs → Gates → Effect
effect insn len regs inputs gates =
    let done = done_by insn len regs inputs gates in
    record { registers = done.registers; writes = writes_of (accesses insn regs) regs done.value; event = done.event }

-- An access outside of the fence is a general protection fault.
abbrev pub fault_event : MemFault → Event
fault_event (Page fault) = Raised T_PGFLT fault.error fault.va
fault_event Fence = Raised T_GPFLT 0 0

abbrev pub stopped : {M : Type 0} → Regs → M → Event → Stepped M
stopped regs m event = record { regs = regs; memory = m; event = event }

abbrev pub with_effect : {M : Type 0} → Memory M → M → Effect → Stepped M
with_effect t m e = record { regs = e.registers; memory = stored_all t m e.writes; event = e.event }

-- When all is reached, it is read, and then written.
abbrev pub after_probes : {M : Type 0} → Memory M → Insn → ℕ → Regs → Gates → Option MemFault → M → Stepped M
after_probes t insn len regs gates (Some fault) m = stopped regs m (fault_event fault)
after_probes t insn len regs gates None m = with_effect t m (effect insn len regs (inputs_of t m (accesses insn regs)) gates)

unfoldable pub executed : {M : Type 0} → Memory M → Insn → ℕ → Regs → M → Gates → Stepped M
executed t insn len regs m gates =
    let p = probed_all t m (probes insn regs) in after_probes t insn len regs gates p.refusal p.memory

-- Bytes that begin no instruction are an illegal opcode.
abbrev pub after_fetch : {M : Type 0} → Memory M → Regs → Gates → Fetched → M → Stepped M
after_fetch t regs gates (Instruction insn len) m = executed t insn len regs m gates
after_fetch t regs gates (Fault fault) m = stopped regs m (fault_event fault)
after_fetch t regs gates Unknown m = stopped regs m (Raised T_ILLOP 0 0)

unfoldable pub step_of : {M : Type 0} → Memory M → Regs → M → Gates → Stepped M
step_of t regs m gates = let f = fetched_at t m regs.eip in after_fetch t regs gates f.fetched f.memory

-- what the probes of an instruction's accesses leave
abbrev pub accesses_left : {M : Type 0} → Memory M → Insn → Regs → M → M
accesses_left t insn regs m = (probed_all t m (probes insn regs)).memory

abbrev pub left_after_fetch : {M : Type 0} → Memory M → Regs → Fetched → M → M
left_after_fetch t regs (Instruction insn len) m = accesses_left t insn regs m
left_after_fetch t regs (Fault fault) m = m
left_after_fetch t regs Unknown m = m

-- What the probes of a step leave: those of its own bytes and, where they are an instruction, those of its accesses.
unfoldable pub probes_left : {M : Type 0} → Memory M → Regs → M → M
probes_left t regs m = let f = fetched_at t m regs.eip in left_after_fetch t regs f.fetched f.memory
