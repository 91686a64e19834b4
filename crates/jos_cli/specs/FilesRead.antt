-- What reading a file gives: its bytes, or the first fault that it has. (This system's own.)
use Rattle.std.specs.Prelude.{◌≡◌, ℕ, ◌<◌, ◌≤◌, List, length, Option, Some, None}
use Rattle.jos_host.specs.Told.{Rose}
use Rattle.jos_host.specs.Frames.{Around}
use Rattle.jos_cli.specs.declared.files.FileFault.{FileFault}
use Rattle.jos_cli.specs.declared.files.FileFault.TheVariants.{Absent, TooLong, Host, NoMemory}

-- the file has these bytes, as many as may be
abbrev pub IsFile : ℕ → Option (List ℕ) → List ℕ → Type 0
IsFile most (Some file) bytes = (bytes ≡ file) × (length file ≤ most)
IsFile most None bytes = ⊥

-- the file has this fault; that of the host and want of memory come with any
abbrev pub IsFileFault : ℕ → Option (List ℕ) → FileFault → Type 0
IsFileFault most None Absent = Unit {0}
IsFileFault most (Some file) Absent = ⊥
IsFileFault most (Some file) TooLong = most < length file
IsFileFault most None TooLong = ⊥
IsFileFault most file Host = Unit {0}
IsFileFault most file NoMemory = Unit {0}

-- The host fails only where the count rose, and every other fault leaves it.
abbrev pub HasFileCause : Around ℕ → FileFault → Type 0
HasFileCause faults Host = Rose faults.before faults.after
HasFileCause faults Absent = faults.after ≡ faults.before
HasFileCause faults TooLong = faults.after ≡ faults.before
HasFileCause faults NoMemory = faults.after ≡ faults.before
