-- The exokernel's state: the address spaces, the table of environments, the console's input, the turns so far, and how
-- often something was refused for want of a frame or a slot. The bytes written stand beside it, in what a step answers.
-- (MIT 6.828, inc/env.h, kern/env.c and kern/pmap.c.)
use Rattle.std.specs.Prelude.{◌≡◌, ℕ, ◌+◌, ◌-◌, ◌%◌, ◌^◌, min, true, List, Option, None, Some, if◌then◌else◌}
use Rattle.jos_base.specs.declared.registers.Regs.{Regs}
use Rattle.jos_base.specs.declared.environment.EnvType.{EnvType}
use Rattle.jos_base.specs.declared.environment.Status.{Status}
use Rattle.jos_base.specs.declared.environment.Status.TheVariants.{Runnable, Running}
use Rattle.jos_base.specs.Messages.{Rendezvous}
use Rattle.jos_base.specs.Environments.{Environments, Slot, with_slot, is_live, is_running, first_environments}
use Rattle.jos_base.specs.SpacesState.{SpacesState, directories, first_spaces}

pub record KernelState : Type 0 where
  pub spaces : SpacesState
  pub environments : Environments
  -- the bytes that the console still has to give
  pub input : List ℕ
  -- the slot that had the last turn
  pub last : Option ℕ
  -- how many turns were begun
  pub turns : ℕ
  -- how often the list of frames or the table of environments was asked and empty
  pub refusals : ℕ
  -- how many page faults were handed to the handlers of those that raised them
  pub upcalls : ℕ

abbrev pub slot_at : KernelState → ℕ → Slot
slot_at s n = s.environments.slots n

-- the state with another slot
abbrev pub with_slot_at : KernelState → ℕ → Slot → KernelState
with_slot_at s n slot = record s { environments = with_slot s.environments n slot }

abbrev pub with_status : KernelState → ℕ → Status → KernelState
with_status s n status = with_slot_at s n (record (slot_at s n) { status = status })

abbrev pub with_registers : KernelState → ℕ → Regs → KernelState
with_registers s n registers = with_slot_at s n (record (slot_at s n) { registers = registers })

abbrev pub with_extra : KernelState → ℕ → List ℕ → KernelState
with_extra s n words = with_slot_at s n (record (slot_at s n) { extra = words })

abbrev pub with_env_type : KernelState → ℕ → EnvType → KernelState
with_env_type s n env_type = with_slot_at s n (record (slot_at s n) { env_type = env_type })

abbrev pub with_directory : KernelState → ℕ → ℕ → KernelState
with_directory s n frame = with_slot_at s n (record (slot_at s n) { directory = frame })

abbrev pub with_upcall : KernelState → ℕ → ℕ → KernelState
with_upcall s n address = with_slot_at s n (record (slot_at s n) { upcall = address })

abbrev pub with_rendezvous : KernelState → ℕ → Rendezvous → KernelState
with_rendezvous s n rendezvous = with_slot_at s n (record (slot_at s n) { rendezvous = rendezvous })

abbrev pub with_spaces : KernelState → SpacesState → KernelState
with_spaces s spaces = record s { spaces = spaces }

-- the state after something was refused for want of a frame or a slot; the count stands still at the end of its type
abbrev pub with_refusal : KernelState → KernelState
with_refusal s = record s { refusals = min (s.refusals + 1) (2 ^ 64 - 1) }

-- the state after one more page fault was handed to a handler; the count stands still at the end of its type
abbrev pub with_upcall_counted : KernelState → KernelState
with_upcall_counted s = record s { upcalls = min (s.upcalls + 1) (2 ^ 64 - 1) }

-- so many frames and the console's input, and nothing done yet
abbrev pub first_state : ℕ → List ℕ → KernelState
first_state frames input = record {
  spaces = first_spaces frames;
  environments = first_environments;
  input = input;
  last = None;
  turns = 0;
  refusals = 0;
  upcalls = 0;
}

-- ---- turns

-- at the start of a turn its environment is RUNNING
abbrev pub turn_begun : KernelState → ℕ → KernelState
turn_begun s n =
    record (with_slot_at s n (record (slot_at s n) { status = Running; runs = ((slot_at s n).runs + 1) % 2 ^ 32 })) {
      last = Some n;
      turns = s.turns + 1;
    }

-- at the end of a turn an environment that is RUNNING is RUNNABLE again
abbrev pub turn_ended : KernelState → ℕ → KernelState
turn_ended s n = if is_running (slot_at s n).status then with_status s n Runnable else s

-- ---- what holds at every moment

-- Each live environment has a space in use, no two have the same, and each space in use is a live environment's.
pub record HasSpaces (s : SpacesState) (e : Environments) : Type 0 where
  pub in_use : (n : ℕ) → is_live (e.slots n) ≡ true → directories s (e.slots n).directory ≡ true
  pub apart : (n m : ℕ) → is_live (e.slots n) ≡ true → is_live (e.slots m) ≡ true →
      (e.slots n).directory ≡ (e.slots m).directory → n ≡ m
  pub owned : (d : ℕ) → directories s d ≡ true → (n : ℕ) × (is_live (e.slots n) ≡ true) × ((e.slots n).directory ≡ d)
