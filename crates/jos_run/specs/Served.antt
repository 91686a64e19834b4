-- What an environment that is served means: the kernel's state, and what an access that is refused has done to it.
use Rattle.std.specs.Prelude.{◌≡◌, ℕ, ◌<◌, ◌^◌, nat_lt, Bool, ◌&&◌, [], Option, Some, None}
use Rattle.jos_base.specs.declared.line.Line.TheVariants.{UserFault}
use Rattle.jos_base.specs.declared.memory.PageFault.{PageFault}
use Rattle.jos_base.specs.declared.numbers.TheConstants.{NENV}
use Rattle.jos_base.specs.KernelState.{KernelState, slot_at}
use Rattle.jos_base.specs.SystemCalls.{handled, killed}
use Rattle.jos_kernel.specs.Machine as kernel
use Rattle.lib_os.specs.Disk.{DiskFile, no_disk}
use Rattle.lib_os.specs.declared.user_os.Stop.{Stop}
use Rattle.lib_os.specs.declared.user_os.Stop.TheVariants.{Upcall, Ended, Failed}
use Rattle.lib_os.specs.UserCalls.{is_file_server, Output, Prints, PrintsPart}

-- what is kept of it
pub record Parts : Type 0 where
  pub machine : kernel.Parts
  pub slot : ℕ
  pub calls : ℕ
  pub written : ℕ
  pub disk : DiskFile

-- the disk, if there is one
abbrev pub disk_of : Option DiskFile → DiskFile
disk_of None = no_disk
disk_of (Some disk) = disk

abbrev pub kernel_state : Parts → KernelState
kernel_state s = kernel.kernel_state s.machine

-- the environment is the file server, and the disk has the block
abbrev pub serves_block : KernelState → ℕ → DiskFile → ℕ → Bool
serves_block s n disk block = is_file_server (slot_at s n).env_type && nat_lt block disk.blocks

pub record Lawful (s : Parts) : Type 0 where
  pub slot : s.slot < NENV
  pub written : s.written < 2 ^ 64

-- A page fault was handed to its handler; or there is none, and the environment is destroyed with the line of the fault.
abbrev pub IsRaised : KernelState → ℕ → PageFault → Stop → KernelState → Output → Type 0
IsRaised s n fault Upcall state output = (handled s n fault ≡ Some state) × Prints output []
IsRaised s n fault Ended state output =
    let did = killed s n (UserFault fault.va (slot_at s n).registers.eip) in
    (handled s n fault ≡ None) × (state ≡ did.state) × Prints output did.written
IsRaised s n fault Failed state output =
    (handled s n fault ≡ None) × PrintsPart output (killed s n (UserFault fault.va (slot_at s n).registers.eip)).written
