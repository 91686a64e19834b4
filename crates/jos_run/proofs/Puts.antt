-- What is put into an environment's memory, where it may be put.
use Rattle.std.proofs.Common.{◌≡◌, ◌∙◌, ℕ, ◌+◌, ◌%◌, ◌<◌, ◌≤◌, Bool, true, false, Option, Some, None}
use Rattle.std.proofs.Common.{refl, ap, arith, if◌then◌else◌}
use Rattle.std.specs.Prelude.{Result, is_ok}
use Rattle.jos_base.specs.declared.memory.Access.{Access}
use Rattle.jos_base.specs.declared.memory.Access.TheVariants.{Write}
use Rattle.jos_base.specs.declared.memory.PageFault.{PageFault}
use Rattle.jos_base.specs.declared.numbers.TheConstants.{PGSIZE}
use Rattle.jos_base.specs.KernelState.{KernelState, slot_at}
use Rattle.jos_base.specs.Reach.{Entry, FrameOffset, reach_entry, allows}
use Rattle.jos_base.specs.UserMemory.{is_allowed}
use Rattle.jos_base.specs.Windows.{walked}
use Rattle.jos_base.specs.Words.{page_number}
use Rattle.jos_kernel.specs.MemoryProofs.{reach_stored}
use Rattle.lib_os.specs.UserCalls.{with_user_byte}

-- a right hangs on the page's entry alone
entry_allows : (entry : Option Entry) (va q : ℕ) (access : Access) → is_ok (reach_entry entry va access) ≡ is_ok (reach_entry entry q access)
entry_allows None va q access = refl
entry_allows (Some entry) va q access = by_right (allows entry.perm access) _ _ _ _ refl refl
  where
    by_right : (right : Bool) (a b f g : Result FrameOffset PageFault) → is_ok a ≡ is_ok b → is_ok f ≡ is_ok g →
        is_ok (if right then a else f) ≡ is_ok (if right then b else g)
    by_right true a b f g e h = e
    by_right false a b f g e h = h

-- the environment may write so many bytes from an address on
pub record MayWrite (s : KernelState) (n va len : ℕ) : Type 0 where
  pub each : (k : ℕ) → k < len → is_allowed s.spaces (slot_at s n).directory (va + k) Write ≡ true

-- it may where they lie in one page, and it may write the first
bytes_allowed : (s : KernelState) (n va len : ℕ) → va % PGSIZE + len ≤ PGSIZE → is_allowed s.spaces (slot_at s n).directory va Write ≡ true → MayWrite s n va len
bytes_allowed s n va len fits allowed = record {
  each = λ k small. (
      let d = (slot_at s n).directory in
      let same : page_number (va + k) ≡ page_number va = omega (arith, fits, small) in
      ap (λ (page : ℕ). is_ok (reach_entry (walked s.spaces d page) (va + k) Write)) same
      ∙ entry_allows (walked s.spaces d (page_number va)) (va + k) va Write ∙ allowed);
}

-- the four of an aligned word
pub word_allowed : (s : KernelState) (n va : ℕ) → va % 4 ≡ 0 → is_allowed s.spaces (slot_at s n).directory va Write ≡ true → MayWrite s n va 4
word_allowed s n va aligned allowed = bytes_allowed s n va 4 (omega (arith, aligned)) allowed

-- those of a page
pub page_allowed : (s : KernelState) (n va : ℕ) → va % PGSIZE ≡ 0 → is_allowed s.spaces (slot_at s n).directory va Write ≡ true → MayWrite s n va PGSIZE
page_allowed s n va aligned allowed = bytes_allowed s n va PGSIZE (omega (arith, aligned)) allowed

-- a byte that is put changes no right
pub put_allowed : (s t : KernelState) (n m va at byte : ℕ) {len : ℕ} → t ≡ with_user_byte s n at byte → m ≡ n → MayWrite s n va len → MayWrite t m va len
put_allowed s t n m va at byte e same may =
    rw (e, same) (record { each = λ k small. ap is_ok (reach_stored s.spaces (slot_at s n).directory at byte (va + k) Write) ∙ may.each k small })
