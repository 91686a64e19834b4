-- The kernel's state beside the disk of the file server, as the host tells it.
use Rattle.std.specs.Prelude.{Option}
use Rattle.std.specs.Option.{option_map}
use Rattle.jos_host.specs.Files.{Files}
use Rattle.jos_base.specs.KernelState.{KernelState}
use Rattle.lib_os.specs.Disk.{Disk, DiskFile, disk_in}

-- The kernel's state, and the disk that the host tells, if it tells one.
pub record World : Type 0 where
  pub state : KernelState
  pub disk : Option Disk

abbrev pub beside : KernelState → Option Disk → World
beside s disk = record { state = s; disk = disk }

-- the disk that is told
abbrev pub told_disk : Option Files → DiskFile → Option Disk
told_disk files disk = option_map (λ f. disk_in f disk) files

abbrev pub world_of : KernelState → Option Files → DiskFile → World
world_of s files disk = beside s (told_disk files disk)

-- another state beside the same disk
abbrev pub with_state : World → KernelState → World
with_state w s = beside s w.disk
