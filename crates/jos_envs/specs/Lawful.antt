-- What holds of a table at every moment.
use Rattle.std.specs.Prelude.{◌≡◌, ℕ, ◌<◌, Bool, true, List, length, get_or, Option, Some, None, if◌then◌else◌}
use Rattle.jos_base.specs.declared.numbers.TheConstants.{NENV}
use Rattle.jos_base.specs.Counting.{total}
use Rattle.jos_base.specs.Environments.{Slot, is_free, is_live, is_runnable, free_slot}
use Rattle.jos_envs.specs.declared.recent.Recent.{Recent}
use Rattle.jos_envs.specs.SlotSets.{contains}
use Rattle.jos_envs.specs.Table.{Kept, slots_of}

-- 1 for a free slot
abbrev pub free_count : Slot → ℕ
free_count slot = if is_free slot.status then 1 else 0

-- of the slots, the stack of the free ones with its length, and the set of the runnable ones
pub record Good (slots : ℕ → Slot) (place : ℕ → ℕ) (free_len : ℕ) (runnable : ℕ → Bool) : Type 0 where
  -- a free slot has the last id alone
  pub cleared : (n : ℕ) → is_free (slots n).status ≡ true → slots n ≡ free_slot (slots n).id
  -- the stack has slots of the table that are free, each once
  pub within : (p : ℕ) → p < free_len → place p < NENV
  pub listed : (p : ℕ) → p < free_len → is_free (slots (place p)).status ≡ true
  pub once : (p q : ℕ) → p < free_len → q < free_len → place p ≡ place q → p ≡ q
  -- and no free slot is missing
  pub count : total NENV (λ n. free_count (slots n)) ≡ free_len
  pub marked : (n : ℕ) → n < NENV → runnable n ≡ is_runnable (slots n).status

abbrev pub slot_at_place : List ℕ → ℕ → ℕ
slot_at_place order p = get_or order p 0

-- the slot that may be taken back is live
abbrev pub IsLiveIn : (ℕ → Slot) → Option Recent → Type 0
IsLiveIn slots None = Unit {0}
IsLiveIn slots (Some recent) = is_live (slots recent.slot) ≡ true

pub record Lawful (kept : Kept) : Type 0 where
  pub slots : length kept.slots ≡ NENV
  pub order : length kept.order ≡ NENV
  pub good : Good (slots_of kept.slots) (slot_at_place kept.order) kept.free_len (contains kept.runnable)
  pub recent : IsLiveIn (slots_of kept.slots) kept.recent
