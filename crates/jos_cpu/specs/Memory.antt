-- Memory as an instruction sees it. Addresses are counted modulo 2^32.
-- (Intel 80386 Programmer's Reference Manual, 1986, sections 5.2 and 9.8.14: an access sets the accessed and
-- dirty bits of the entries that it uses, and is refused by the first entry that does not allow it.)
use Rattle.std.specs.Prelude.{◌≡◌, ◌⊎◌, ℕ, ◌+◌, ◌%◌, ◌^◌, ◌<◌, ◌&&◌, zero, suc, Bool, true, List, length, slice_index}
use Rattle.std.specs.Prelude.{Option, Some, None, if◌then◌else◌}
use Rattle.jos_base.specs.declared.memory.Access.{Access}
use Rattle.jos_base.specs.declared.memory.Access.TheVariants.{Read}
use Rattle.jos_cpu.specs.declared.memory.MemFault.{MemFault}

pub record Memory (M : Type 0) : Type 0 where
  -- the byte at an address
  pub byte : M → ℕ → ℕ
  -- whether a byte may be reached
  pub allowed : M → ℕ → Access → Bool
  -- the fault of a byte that may not be reached
  pub fault : M → ℕ → Access → MemFault
  -- the memory after a byte was reached
  pub reached : M → ℕ → Access → M
  -- the memory with this byte at an address
  pub stored : M → ℕ → ℕ → M

-- What holds of every memory. Reaching a byte changes no right, and of bytes only those that tell of accessed and dirty
-- bits. Putting one changes no right. Where several addresses lead to it, each of them may come to have the byte that is
-- put; no address comes to have another.
pub record IsLawful {M : Type 0} (t : Memory M) : Type 0 where
  pub reached_rights : (m : M) (va : ℕ) (access : Access) → t.allowed (t.reached m va access) ≡ t.allowed m
  pub reached_faults : (m : M) (va : ℕ) (access : Access) → t.fault (t.reached m va access) ≡ t.fault m
  pub stored_bytes : (m : M) (va byte q : ℕ) →
      (t.byte (t.stored m va byte) q ≡ t.byte m q) ⊎ (t.byte (t.stored m va byte) q ≡ byte)
  pub stored_rights : (m : M) (va byte : ℕ) → t.allowed (t.stored m va byte) ≡ t.allowed m
  pub stored_faults : (m : M) (va byte : ℕ) → t.fault (t.stored m va byte) ≡ t.fault m

-- Reaching any byte leaves the bytes at these addresses: none of them tells of accessed and dirty bits.
abbrev pub IsSteady : {M : Type 0} → (ℕ → Bool) → Memory M → Type 0
IsSteady {M = M} within t =
    (m : M) (va q : ℕ) (access : Access) → within q ≡ true → t.byte (t.reached m va access) q ≡ t.byte m q

-- the same memory, of which these addresses alone may be reached; the others have one fault
abbrev pub fenced : {M : Type 0} → (ℕ → Bool) → MemFault → Memory M → Memory M
fenced within stop t = record {
  byte = t.byte;
  allowed = λ m va access. within va && t.allowed m va access;
  fault = λ m va access. if within va then t.fault m va access else stop;
  reached = t.reached;
  stored = t.stored;
}

abbrev pub after : ℕ → ℕ
after va = (va + 1) % 2 ^ 32

-- what a probe leaves, and the fault if it was refused
pub record Probed (M : Type 0) : Type 0 where
  pub memory : M
  pub refusal : Option MemFault

-- A probe tests so many bytes from an address upwards. It ends at the first that may not be reached, and keeps
-- what the bytes before it set.
unfoldable pub probed : {M : Type 0} → Memory M → M → ℕ → ℕ → Access → Probed M
probed t m va zero access = record { memory = m; refusal = None }
probed t m va (suc n) access =
    if t.allowed m va access then probed t (t.reached m va access) (after va) n access
    else record { memory = m; refusal = Some (t.fault m va access) }

-- Each of the bytes may be reached.
unfoldable pub all_allowed : (ℕ → Access → Bool) → ℕ → ℕ → Access → Bool
all_allowed allowed va zero access = true
all_allowed allowed va (suc n) access = allowed va access && all_allowed allowed (after va) n access

-- A stack pointer lets the program go on wherever it points.
abbrev pub anywhere : ℕ → Bool
anywhere esp = true

-- A byte that may be read, and that nothing changes when it is reached.
pub record IsStill {M : Type 0} (t : Memory M) (m : M) (va : ℕ) (byte : ℕ) : Type 0 where
  pub allowed : t.allowed m va Read ≡ true
  pub reached : t.reached m va Read ≡ m
  pub byte_is : t.byte m va ≡ byte

-- These bytes stand from an address upwards, each of them still.
abbrev pub StandAt : {M : Type 0} → Memory M → M → ℕ → List ℕ → Type 0
StandAt t m va bytes = (i : ℕ) → i < length bytes → IsStill t m ((va + i) % 2 ^ 32) (slice_index bytes i)
