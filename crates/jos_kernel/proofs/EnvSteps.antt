-- A step of the processor is the same whatever registers stand in the slots of environments. So it is what an
-- environment's step is made of, while its registers are not yet put back into its slot.
use Rattle.std.proofs.Common.{◌≡◌, ℕ, ◌==◌, Bool, true, false, List, [], Option, Some, None, refl, sym, ap, ◌∙◌, arith, if◌then◌else◌}
use Rattle.std.specs.Prelude.{nat_lt}
use Rattle.std.proofs.lemmas.Bool.Decides.{nat_tests}
use Rattle.jos_base.specs.declared.memory.Access.{Access}
use Rattle.jos_base.specs.declared.registers.Regs.{Regs}
use Rattle.jos_base.specs.Words.{upd}
use Rattle.jos_base.specs.declared.numbers.TheConstants.{NENV}
use Rattle.jos_base.specs.Environments.{Slot, record_words, records_of}
use Rattle.jos_base.specs.KernelState.{KernelState, slot_at, with_registers}
use Rattle.jos_base.specs.UserMemory.{byte_at}
use Rattle.jos_cpu.specs.declared.events.Event.{Event}
use Rattle.jos_cpu.specs.declared.events.Gates.{Gates}
use Rattle.jos_cpu.specs.declared.events.Gates.TheVariants.{Exo}
use Rattle.jos_cpu.specs.declared.memory.MemFault.TheVariants.{Page, Fence}
use Rattle.jos_cpu.specs.Memory.{anywhere}
use Rattle.jos_cpu.specs.Steps.{step_of}
use Rattle.jos_cpu.specs.Bursts.{ProcessorState, StepsTo}
use Rattle.jos_cpu.proofs.Agreement.{Agrees, through}
use Rattle.jos_cpu.proofs.Fenced.{agrees_within}
use Rattle.jos_cpu.proofs.Through.{step_through}
use Rattle.jos_kernel.specs.Running.{Running, user_memory, memory_inside, byte_in_space, allowed_in, fault_in_space, touched_in, stored_in_space}
use Rattle.jos_kernel.specs.Steps.{after_event, after_instruction, env_step}
use Rattle.jos_base.proofs.Maps.{upd-at, upd-twice}

-- the memory with other registers in a slot
abbrev pub with_registers_in : ℕ → Regs → Running → Running
with_registers_in n regs m = record { state = with_registers m.state n regs; directory = m.directory }

-- what a user reads of the slots tells of no registers
words_same : (slots : ℕ → Slot) (n k : ℕ) (regs : Regs) → record_words (upd slots n (record (slots n) { registers = regs }) k) ≡ record_words (slots k)
unfolding upd record_words
words_same slots n k regs = by_slot (k == n) refl
  where
    by_slot : (c : Bool) → (k == n) ≡ c → record_words (if c then record (slots n) { registers = regs } else slots k) ≡ record_words (slots k)
    by_slot true e = let same : k ≡ n = grind (arith, nat_tests) in rw same refl
    by_slot false e = refl

records_same : (s : KernelState) (n : ℕ) (regs : Regs) → records_of (with_registers s n regs).environments ≡ records_of s.environments
unfolding records_of
records_same s n regs = λ i k. if nat_lt k NENV then words_same s.environments.slots n k regs i else []

module _ (n : ℕ) (regs : Regs) (s : KernelState) where
  same_byte : (d : Option ℕ) (va : ℕ) → byte_in_space (with_registers s n regs) d va ≡ byte_in_space s d va
  same_byte None va = refl
  same_byte (Some d) va = ap (λ (records : ℕ → List ℕ). byte_at records s.spaces d va) (records_same s n regs)

  same_right : (d : Option ℕ) (va : ℕ) (access : Access) → allowed_in (with_registers s n regs) d va access ≡ allowed_in s d va access
  same_right None va access = refl
  same_right (Some d) va access = refl

  same_fault : (d : Option ℕ) (va : ℕ) (access : Access) → fault_in_space (with_registers s n regs) d va access ≡ fault_in_space s d va access
  same_fault None va access = refl
  same_fault (Some d) va access = refl

  same_reached : (d : Option ℕ) (va : ℕ) (access : Access) → touched_in (with_registers s n regs) d va access ≡ with_registers (touched_in s d va access) n regs
  same_reached None va access = refl
  same_reached (Some d) va access = refl

  same_stored : (d : Option ℕ) (va byte : ℕ) → stored_in_space (with_registers s n regs) d va byte ≡ with_registers (stored_in_space s d va byte) n regs
  same_stored None va byte = refl
  same_stored (Some d) va byte = refl

module _ (n : ℕ) (regs : Regs) where
  agrees : Agrees user_memory user_memory (with_registers_in n regs) (λ m. Unit {0})
  unfolding user_memory
  agrees = record {
    byte = λ m h va. same_byte n regs m.state m.directory va;
    allowed = λ m h va access. same_right n regs m.state m.directory va access;
    fault = λ m h va access off. λ i. Page (same_fault n regs m.state m.directory va access i);
    reached = λ m h va access on. (tt, λ i. record { state = same_reached n regs m.state m.directory va access i; directory = m.directory });
    stored = λ m h va byte small. (tt, λ i. record { state = same_stored n regs m.state m.directory va byte i; directory = m.directory });
  }

  pub step_with_registers : (inside : ℕ → Bool) (now : Regs) (m : Running) (gates : Gates) →
      step_of (memory_inside inside) now (with_registers_in n regs m) gates
      ≡ through (with_registers_in n regs) (step_of (memory_inside inside) now m gates)
  step_with_registers inside now m gates = (step_through (agrees_within inside Fence agrees) now m gates tt).1

-- registers that are set twice
pub registers_twice : (s : KernelState) (n : ℕ) (regs new : Regs) → with_registers (with_registers s n regs) n new ≡ with_registers s n new
registers_twice s n regs new =
    let slots = s.environments.slots in
    let first : Slot = record (slots n) { registers = regs } in
    (λ i. record s { environments = record s.environments { slots = upd (upd slots n first) n (record (upd-at slots n first i) { registers = new }) } })
    ∙ (λ i. record s { environments = record s.environments { slots = upd-twice slots n first (record (slots n) { registers = new }) i } })

-- A step of the processor in an environment's space, with what comes of it, is a step of the environment.
pub env_step_is : (n : ℕ) {event : Event} (before after : ProcessorState Running) → StepsTo user_memory Exo before event after →
    before.memory.directory ≡ Some (slot_at before.memory.state n).directory →
    env_step (with_registers before.memory.state n before.regs) n ≡ after_event (with_registers after.memory.state n after.regs) n event
unfolding env_step
env_step_is n {event} before after step loaded =
    let s = before.memory.state in
    let entered = with_registers s n before.regs in
    let slot_is : slot_at entered n ≡ record (slot_at s n) { registers = before.regs } =
    upd-at s.environments.slots n (record (slot_at s n) { registers = before.regs }) in
    (λ i. after_instruction n (step_of user_memory (slot_is i).registers (record { state = entered; directory = Some (slot_is i).directory }) Exo))
    ∙ (λ i. after_instruction n (step_of user_memory before.regs (record { state = entered; directory = sym loaded i }) Exo))
    ∙ ap (after_instruction n) (step_with_registers n before.regs anywhere before.regs before.memory Exo)
    ∙ (λ i. after_instruction n (through (with_registers_in n before.regs) (step i)))
    ∙ (λ i. after_event (registers_twice after.memory.state n before.regs after.regs i) n event)
