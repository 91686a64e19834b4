-- The memory of the environment that runs, as the processor sees it: the kernel's state, through a directory.
-- (Intel 80386 Programmer's Reference Manual, 1986, section 5.2: CR3 names the directory.)
use Rattle.std.specs.Prelude.{ℕ, Bool, false, Option, None, Some}
use Rattle.jos_base.specs.declared.memory.Access.{Access}
use Rattle.jos_base.specs.declared.memory.PageFault.{PageFault}
use Rattle.jos_base.specs.Reach.{reach_entry}
use Rattle.jos_base.specs.Environments.{records_of}
use Rattle.jos_base.specs.KernelState.{KernelState, with_spaces}
use Rattle.jos_base.specs.UserMemory.{is_allowed, fault_at, fault_or, touched, byte_at, stored_byte}
use Rattle.jos_cpu.specs.declared.memory.MemFault.TheVariants.{Page, Fence}
use Rattle.jos_cpu.specs.Memory.{Memory, fenced}

pub record Running : Type 0 where
  pub state : KernelState
  -- the frame of the directory that the processor uses, where one is loaded
  pub directory : Option ℕ

abbrev pub with_state : Running → KernelState → Running
with_state m state = record m { state = state }

-- in the space of a directory, and in none
abbrev pub loaded_in : KernelState → ℕ → Running
loaded_in s d = record { state = s; directory = Some d }

abbrev pub unloaded : KernelState → Running
unloaded s = record { state = s; directory = None }

-- where no directory is loaded, no page is there

abbrev pub byte_in_space : KernelState → Option ℕ → ℕ → ℕ
byte_in_space s None va = 0
byte_in_space s (Some d) va = byte_at (records_of s.environments) s.spaces d va

abbrev pub allowed_in : KernelState → Option ℕ → ℕ → Access → Bool
allowed_in s None va access = false
allowed_in s (Some d) va access = is_allowed s.spaces d va access

abbrev pub fault_in_space : KernelState → Option ℕ → ℕ → Access → PageFault
fault_in_space s None va access = fault_or (record { va = va; error = 0 }) (reach_entry None va access)
fault_in_space s (Some d) va access = fault_at s.spaces d va access

abbrev pub touched_in : KernelState → Option ℕ → ℕ → Access → KernelState
touched_in s None va access = s
touched_in s (Some d) va access = with_spaces s (touched s.spaces d va access)

abbrev pub stored_in_space : KernelState → Option ℕ → ℕ → ℕ → KernelState
stored_in_space s None va byte = s
stored_in_space s (Some d) va byte = with_spaces s (stored_byte s.spaces d va byte)

unfoldable pub user_memory : Memory Running
user_memory = record {
  byte = λ m va. byte_in_space m.state m.directory va;
  allowed = λ m va access. allowed_in m.state m.directory va access;
  fault = λ m va access. Page (fault_in_space m.state m.directory va access);
  reached = λ m va access. with_state m (touched_in m.state m.directory va access);
  stored = λ m va byte. with_state m (stored_in_space m.state m.directory va byte);
}

-- the same inside a fence, which is looked at before the page
abbrev pub memory_inside : (ℕ → Bool) → Memory Running
memory_inside inside = fenced inside Fence user_memory
