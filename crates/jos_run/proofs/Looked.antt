-- What is looked at in the machine's system is so in the kernel's state.
use Rattle.std.proofs.Common.{◌≡◌, ◌∙◌, ◌/◌, ℕ, Bool, false, List, refl, ap}
use Rattle.std.specs.Prelude.{Option, Some, None, is_some, nat_eq, bit_and}
use Rattle.std.specs.Option.{option_map}
use Rattle.jos_base.specs.declared.numbers.TheConstants.{PGSIZE, PTE_D}
use Rattle.jos_base.specs.Reach.{Entry}
use Rattle.jos_base.specs.Words.{has_bit, page_number}
use Rattle.lib_os.specs.BlockCache.{is_dirty}
use Rattle.lib_os.specs.LibrarySteps.{is_to_copy}
use Rattle.lib_os.specs.Rows.{lasting, rows_of}
use Rattle.jos_base.specs.Environments.{Environments, Slot}
use Rattle.jos_base.specs.UserMemory.{byte_at}
use Rattle.jos_base.specs.KernelState.{slot_at}
use Rattle.jos_sys.specs.declared.system.System.{System}
use Rattle.jos_space.specs.Frames.{records}
use Rattle.jos_sys.specs.System.{state_of, spaces_of, left_of, Keeps}
use Rattle.jos_kernel.specs.Machine.{Parts, kernel_state}
use Rattle.lib_os.specs.UserCalls.{user_byte}

module _ (machine : Parts) {system : System} (is : system ≡ machine.system) where
  pub slot_looked : (n : ℕ) {slot : Slot} → ((input : List ℕ) → slot ≡ slot_at (state_of system input) n) → slot ≡ slot_at (kernel_state machine) n
  slot_looked n there = there (left_of machine.input) ∙ (λ i. slot_at (state_of (is i) (left_of machine.input)) n)

  pub table_looked : {table : Environments} → ((input : List ℕ) → table ≡ (state_of system input).environments) → table ≡ (kernel_state machine).environments
  table_looked there = there (left_of machine.input) ∙ (λ i. (state_of (is i) (left_of machine.input)).environments)

  pub byte_looked : (n va : ℕ) {directory byte : ℕ} → Keeps system → byte ≡ byte_at (records system.spaces) (spaces_of system) directory va →
      ((input : List ℕ) → directory ≡ (slot_at (state_of system input) n).directory) → byte ≡ user_byte (kernel_state machine) n va
  byte_looked n va keeps told there =
      told ∙ (λ i. byte_at (keeps.records i) (spaces_of system) (there (left_of machine.input) i) va)
      ∙ (λ i. user_byte (state_of (is i) (left_of machine.input)) n va)

-- whether a page waits to be copied, by the bits of its entry
abbrev pub copied_by : Option ℕ → Bool
copied_by None = false
copied_by (Some perm) = nat_eq (bit_and (bit_and perm 0xe07) 0x800) 0x800

entry_copied : (o : Option Entry) → copied_by (option_map (λ (e : Entry). e.perm) o) ≡ is_to_copy (option_map lasting o)
entry_copied None = refl
entry_copied (Some e) = refl

-- whether a page is dirty
abbrev pub dirty_by : Option ℕ → Bool
dirty_by None = false
dirty_by (Some perm) = has_bit perm PTE_D

entry_dirty : (o : Option Entry) → dirty_by (option_map (λ (e : Entry). e.perm) o) ≡ is_dirty o
entry_dirty None = refl
entry_dirty (Some e) = refl

entry_there : (o : Option Entry) → is_some (option_map (λ (e : Entry). e.perm) o) ≡ is_some (option_map lasting o)
entry_there None = refl
entry_there (Some e) = refl

module _ (machine : Parts) {system : System} (is : system ≡ machine.system) where
  pub present_looked : (n va : ℕ) {directory : ℕ} (found : Option ℕ) →
      found ≡ option_map (λ (e : Entry). e.perm) ((spaces_of system).entries directory (va / PGSIZE)) →
      ((input : List ℕ) → directory ≡ (slot_at (state_of system input) n).directory) →
      is_some found ≡ is_some (rows_of (kernel_state machine).spaces (slot_at (kernel_state machine) n).directory (page_number va))
  unfolding rows_of
  present_looked n va found told there =
      ap (λ (o : Option ℕ). is_some o) told ∙ entry_there ((spaces_of system).entries _ (va / PGSIZE))
      ∙ (λ i. is_some (rows_of (spaces_of system) (there (left_of machine.input) i) (page_number va)))
      ∙ (λ i. let s = state_of (is i) (left_of machine.input) in is_some (rows_of s.spaces (slot_at s n).directory (page_number va)))

  pub copied_looked : (n va : ℕ) {directory : ℕ} (found : Option ℕ) →
      found ≡ option_map (λ (e : Entry). e.perm) ((spaces_of system).entries directory (va / PGSIZE)) →
      ((input : List ℕ) → directory ≡ (slot_at (state_of system input) n).directory) →
      copied_by found ≡ is_to_copy (rows_of (kernel_state machine).spaces (slot_at (kernel_state machine) n).directory (page_number va))
  unfolding rows_of
  copied_looked n va found told there =
      ap copied_by told ∙ entry_copied ((spaces_of system).entries _ (va / PGSIZE))
      ∙ (λ i. is_to_copy (rows_of (spaces_of system) (there (left_of machine.input) i) (page_number va)))
      ∙ (λ i. let s = state_of (is i) (left_of machine.input) in is_to_copy (rows_of s.spaces (slot_at s n).directory (page_number va)))

  pub dirty_looked : (n va : ℕ) {directory : ℕ} (found : Option ℕ) →
      found ≡ option_map (λ (e : Entry). e.perm) ((spaces_of system).entries directory (va / PGSIZE)) →
      ((input : List ℕ) → directory ≡ (slot_at (state_of system input) n).directory) →
      dirty_by found ≡ is_dirty ((kernel_state machine).spaces.entries (slot_at (kernel_state machine) n).directory (page_number va))
  dirty_looked n va found told there =
      ap dirty_by told ∙ entry_dirty ((spaces_of system).entries _ (va / PGSIZE))
      ∙ (λ i. is_dirty ((spaces_of system).entries (there (left_of machine.input) i) (page_number va)))
      ∙ (λ i. let s = state_of (is i) (left_of machine.input) in is_dirty (s.spaces.entries (slot_at s n).directory (page_number va)))
