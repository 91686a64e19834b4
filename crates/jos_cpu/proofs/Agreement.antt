-- What two tables have in common when a step cannot tell their memories apart, or tells them apart by what the first alone
-- refuses. The laws in Related, Through, Locality and FewerWrites are about this.
use Rattle.std.proofs.Common.{◌≡◌, ◌⊎◌, ℕ, zero, suc, ◌<◌, Bool, true, false, List, [], ◌∷◌}
use Rattle.jos_base.specs.declared.memory.Access.{Access}
use Rattle.jos_base.specs.declared.memory.Access.TheVariants.{Read, Write}
use Rattle.jos_base.specs.declared.registers.Regs.{Regs}
use Rattle.jos_cpu.specs.declared.fetching.Fetched.{Fetched}
use Rattle.jos_cpu.specs.declared.fetching.Fetched.TheVariants.{Instruction, Fault, Unknown}
use Rattle.jos_cpu.specs.declared.memory.MemFault.{MemFault}
use Rattle.jos_cpu.specs.Fetch.{fetched_at}
use Rattle.jos_cpu.specs.Memory.{Memory, after}
use Rattle.jos_cpu.specs.Probes.{Probe}
use Rattle.jos_cpu.specs.Steps.{Stepped, probes, fault_event, probes_left}

-- ---- by a map

-- The words of two tables agree through a map of memories, wherever a property holds, which stays. It is what the map
-- needs, as that a list is long enough where it becomes a map from numbers; `λ m. Unit {0}` where it needs nothing.
pub record Agrees {M N : Type 0} (t : Memory M) (u : Memory N) (f : M → N) (Holds : M → Type 0) : Type 0 where
  pub byte : (m : M) → Holds m → (va : ℕ) → u.byte (f m) va ≡ t.byte m va
  pub allowed : (m : M) → Holds m → (va : ℕ) (access : Access) → u.allowed (f m) va access ≡ t.allowed m va access
  pub fault : (m : M) → Holds m → (va : ℕ) (access : Access) → t.allowed m va access ≡ false →
      u.fault (f m) va access ≡ t.fault m va access
  pub reached : (m : M) → Holds m → (va : ℕ) (access : Access) → t.allowed m va access ≡ true →
      Holds (t.reached m va access) × (u.reached (f m) va access ≡ f (t.reached m va access))
  pub stored : (m : M) → Holds m → (va byte : ℕ) → byte < 256 →
      Holds (t.stored m va byte) × (u.stored (f m) va byte ≡ f (t.stored m va byte))

-- a step, with a map of its memory
abbrev pub through : {M N : Type 0} → (M → N) → Stepped M → Stepped N
through f s = record { regs = s.regs; memory = f s.memory; event = s.event }

-- ---- by a relation

-- whether an access to an address is allowed
abbrev pub Rights : Type 0
Rights = ℕ → Access → Bool

-- In related memories the same bytes may be reached, and those are the same to which `rights` allows any access. It
-- allows each that the table allows, and stays when a byte is reached. What is reached leads to related memories.
pub record AgreesReading {M N : Type 0} (t : Memory M) (u : Memory N) (Related : M → N → Type 0) (rights : M → Rights) : Type 0 where
  pub allowed : {m : M} {n : N} → Related m n → (va : ℕ) (access : Access) → u.allowed n va access ≡ t.allowed m va access
  pub fault : {m : M} {n : N} → Related m n → (va : ℕ) (access : Access) → t.allowed m va access ≡ false →
      u.fault n va access ≡ t.fault m va access
  pub byte : {m : M} {n : N} → Related m n → (va : ℕ) (access : Access) → rights m va access ≡ true →
      u.byte n va ≡ t.byte m va
  pub reached : {m : M} {n : N} → Related m n → (va : ℕ) (access : Access) → t.allowed m va access ≡ true →
      Related (t.reached m va access) (u.reached n va access)
  pub enough : {m : M} {n : N} → Related m n → (va : ℕ) (access : Access) → t.allowed m va access ≡ true →
      rights m va access ≡ true
  pub stays : {m : M} {n : N} → Related m n → (va : ℕ) (access : Access) → t.allowed m va access ≡ true →
      rights (t.reached m va access) ≡ rights m

-- The same, but that the first table may refuse what the second allows. It allows nothing that the second refuses, and
-- what neither allows has one fault.
pub record AllowsFewer {M N : Type 0} (t : Memory M) (u : Memory N) (Related : M → N → Type 0) (rights : M → Rights) : Type 0 where
  pub allowed : {m : M} {n : N} → Related m n → (va : ℕ) (access : Access) → t.allowed m va access ≡ true →
      u.allowed n va access ≡ true
  pub fault : {m : M} {n : N} → Related m n → (va : ℕ) (access : Access) → t.allowed m va access ≡ false →
      u.allowed n va access ≡ false → u.fault n va access ≡ t.fault m va access
  pub byte : {m : M} {n : N} → Related m n → (va : ℕ) (access : Access) → rights m va access ≡ true →
      u.byte n va ≡ t.byte m va
  pub reached : {m : M} {n : N} → Related m n → (va : ℕ) (access : Access) → t.allowed m va access ≡ true →
      Related (t.reached m va access) (u.reached n va access)
  pub enough : {m : M} {n : N} → Related m n → (va : ℕ) (access : Access) → t.allowed m va access ≡ true →
      rights m va access ≡ true
  pub stays : {m : M} {n : N} → Related m n → (va : ℕ) (access : Access) → t.allowed m va access ≡ true →
      rights (t.reached m va access) ≡ rights m

-- A byte that is put where `rights` allows it leads to related memories too.
pub record AgreesWriting {M N : Type 0} (t : Memory M) (u : Memory N) (Related : M → N → Type 0) (rights : M → Rights) : Type 0 where
  pub stored : {m : M} {n : N} → Related m n → (va byte : ℕ) → byte < 256 → rights m va Write ≡ true →
      Related (t.stored m va byte) (u.stored n va byte)
  pub stays : {m : M} {n : N} → Related m n → (va byte : ℕ) → byte < 256 → rights m va Write ≡ true →
      rights (t.stored m va byte) ≡ rights m

-- Registers and what comes of two steps are the same, and their memories are related.
pub record SameStep {M N : Type 0} (Related : M → N → Type 0) (s : Stepped M) (r : Stepped N) : Type 0 where
  pub regs : r.regs ≡ s.regs
  pub memory : Related s.memory r.memory
  pub event : r.event ≡ s.event

-- ---- what the first table refuses and the second allows

-- an address is among so many from another upwards
abbrev pub IsAmong : ℕ → ℕ → ℕ → Type 0
IsAmong va zero q = ⊥
IsAmong va (suc n) q = (q ≡ va) ⊎ IsAmong (after va) n q

-- an address is among those that the probes test for this access
abbrev pub IsProbed : List Probe → ℕ → Access → Type 0
IsProbed [] q access = ⊥
IsProbed (p ∷ rest) q access = ((access ≡ p.access) × IsAmong p.va p.len q) ⊎ IsProbed rest q access

-- The instruction that was fetched reaches for an address with this access. Where it could not be fetched, it was its own
-- bytes that were reached for.
abbrev pub ReachesFor : Regs → Fetched → ℕ → Access → Type 0
ReachesFor regs (Instruction insn len) q access = IsProbed (probes insn regs) q access
ReachesFor regs (Fault fault) q access = access ≡ Read
ReachesFor regs Unknown q access = ⊥

-- In memories that are related, the first table refuses an access to a byte, and the second allows it. `Place` says where
-- that is, and `Told` what the refusal's fault has become.
pub record IsDenied {M N : Type 0} (t : Memory M) (u : Memory N) (Related : M → N → Type 0) (Place : ℕ → Access → Type 0)
    (Told : MemFault → Type 0) (first : M) : Type 0 where
  pub second : N
  pub va : ℕ
  pub access : Access
  pub related : Related first second
  pub refused : t.allowed first va access ≡ false
  pub allowed : u.allowed second va access ≡ true
  pub place : Place va access
  pub told : Told (t.fault first va access)

-- A step that such a refusal stopped: registers are kept, and memory is as the probes leave it.
pub record IsStopped {M N : Type 0} (t : Memory M) (u : Memory N) (Related : M → N → Type 0) (regs : Regs) (m : M) (s : Stepped M) : Type 0 where
  pub regs_kept : s.regs ≡ regs
  pub untouched : s.memory ≡ probes_left t regs m
  pub denied : IsDenied t u Related (ReachesFor regs (fetched_at t m regs.eip).fetched) (λ fault. s.event ≡ fault_event fault) s.memory
