-- What a table keeps, and the environments that it holds.
use Rattle.std.specs.Prelude.{◌≡◌, ◌≢◌, ℕ, zero, suc, nat_lt, ◌||◌, Bool, true, false, List, [], ◌∷◌, get_or}
use Rattle.std.specs.Prelude.{Option, Some, None, if◌then◌else◌}
use Rattle.jos_base.specs.declared.environment.EnvType.TheVariants.{User}
use Rattle.jos_base.specs.declared.environment.Status.TheVariants.{Free}
use Rattle.jos_base.specs.declared.numbers.TheConstants.{NENV}
use Rattle.jos_base.specs.Environments.{Environments, Slot, free_slot, slot_freed, is_live, is_runnable, zero_registers, no_extra}
use Rattle.jos_envs.specs.declared.environment.Environment.{Environment}
use Rattle.jos_envs.specs.declared.recent.Recent.{Recent}
use Rattle.jos_envs.specs.Slots.{slot_of}

pub record Kept : Type 0 where
  -- of every slot
  pub slots : List Environment
  -- the free slots, the next to be given last; what stands behind the first `free_len` is no part of it
  pub order : List ℕ
  pub free_len : ℕ
  -- the set of the slots that are runnable
  pub runnable : List ℕ
  -- the slot that was given last, where none was given or freed since
  pub recent : Option Recent

-- what a look-up past the end of a list gives
abbrev pub unused : Environment
unused = record {
  id = record { 0 = 0 };
  parent = record { 0 = 0 };
  env_type = User;
  status = Free;
  runs = 0;
  registers = zero_registers;
  extra = record { 0 = no_extra };
  directory = record { 0 = 0 };
  upcall = 0;
  rendezvous = record {
    receiving = false;
    wanted = record { 0 = 0 };
    destination = 0;
    value = 0;
    sender = record { 0 = 0 };
    perm = 0;
  };
}

-- the numbers at the places below this one, the last first
unfoldable pub from_last : List ℕ → ℕ → List ℕ
from_last numbers zero = []
from_last numbers (suc n) = get_or numbers n 0 ∷ from_last numbers n

abbrev pub slots_of : List Environment → ℕ → Slot
slots_of slots n = if nat_lt n NENV then slot_of (get_or slots n unused) else free_slot 0

-- the environments that the table holds
unfoldable pub environments : Kept → Environments
environments kept = record { slots = slots_of kept.slots; free_slots = from_last kept.order kept.free_len }

-- ---- taking back

abbrev pub slot_in : Option Recent → Option ℕ
slot_in None = None
slot_in (Some recent) = Some recent.slot

-- the slot that may be taken back
abbrev pub recent_slot : Kept → Option ℕ
recent_slot kept = slot_in kept.recent

abbrev pub undone_by : Environments → Option Recent → Environments
undone_by e None = e
undone_by e (Some recent) = slot_freed e recent.slot recent.id.0

-- the environments when the slot that was given last is taken back
unfoldable pub undone : Kept → Environments
undone kept = undone_by (environments kept) kept.recent

-- ---- live slots

unfoldable pub any_live_below : (ℕ → Slot) → ℕ → Bool
any_live_below slots zero = false
any_live_below slots (suc n) = any_live_below slots n || is_live (slots n)

-- does any slot have an environment?
unfoldable pub any_live : Environments → Bool
any_live e = any_live_below e.slots NENV

-- whoever was live is live
abbrev pub KeepsLive : Environments → Environments → Type 0
KeepsLive old new = (n : ℕ) → is_live (old.slots n) ≡ true → is_live (new.slots n) ≡ true

-- whoever else was live is live
abbrev pub KeepsOthersLive : ℕ → Environments → Environments → Type 0
KeepsOthersLive slot old new = (n : ℕ) → n ≢ slot → is_live (old.slots n) ≡ true → is_live (new.slots n) ≡ true

-- ---- runnable slots

-- does the slot's environment wait for a turn?
abbrev pub may_run : Environments → ℕ → Bool
may_run e n = is_runnable (e.slots n).status
