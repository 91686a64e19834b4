-- Facts from which a memory shows that it is lawful. They are proofs and no definitions, to be passed over when reading: a
-- memory cites them in its `lawful`, which can import them from here alone.
use Rattle.std.specs.Prelude.{◌≡◌, ◌⊎◌, ℕ, ◌&&◌, zero, suc, Bool, List, [], ◌∷◌, slice_index, slice_set, refl, if◌then◌else◌}
use mathlib.Core.Logic.{inl, inr}
use Rattle.jos_cpu.specs.declared.memory.MemFault.{MemFault}
use Rattle.jos_cpu.specs.Memory.{Memory, IsLawful, fenced}

-- a place of a list has what it had, or what was put into the list
pub set_or_same : (xs : List ℕ) (i value j : ℕ) →
    (slice_index (slice_set xs i value) j ≡ slice_index xs j) ⊎ (slice_index (slice_set xs i value) j ≡ value)
set_or_same [] i value j = inl refl
set_or_same (x ∷ xs) zero value zero = inr refl
set_or_same (x ∷ xs) zero value (suc j) = inl refl
set_or_same (x ∷ xs) (suc i) value zero = inl refl
set_or_same (x ∷ xs) (suc i) value (suc j) = set_or_same xs i value j

-- a memory with a fence is lawful, as it is without
pub fenced_is_lawful : {M : Type 0} {t : Memory M} (within : ℕ → Bool) (stop : MemFault) → IsLawful t → IsLawful (fenced within stop t)
fenced_is_lawful within stop u = record {
  reached_rights = λ m va access. λ i q a. within q && u.reached_rights m va access i q a;
  reached_faults = λ m va access. λ i q a. if within q then u.reached_faults m va access i q a else stop;
  stored_bytes = u.stored_bytes;
  stored_rights = λ m va byte. λ i q a. within q && u.stored_rights m va byte i q a;
  stored_faults = λ m va byte. λ i q a. if within q then u.stored_faults m va byte i q a else stop;
}
