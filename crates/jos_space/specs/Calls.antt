-- What the calls ask and answer, as the definitions of the kernel's state have it.
use Rattle.std.specs.Prelude.{◌≡◌, ℕ, Bool, true, false, Option, Some, None, Result, Ok, Err}
use Rattle.jos_base.specs.declared.memory.Frame.{Frame}
use Rattle.jos_base.specs.declared.memory.PageFault.{PageFault}
use Rattle.jos_base.specs.declared.memory.Location.{Location}
use Rattle.jos_base.specs.declared.perm.Perm.{Perm}
use Rattle.jos_base.specs.Reach.{Entry, FrameOffset}
use Rattle.jos_base.specs.SpacesState.{Use, fresh, page, directory, SpacesState}

-- a frame has bytes while it is fresh or a page
abbrev pub has_bytes : Use → Bool
has_bytes fresh = true
has_bytes page = true
has_bytes _ = false

-- where an access leads
abbrev pub located : Result Location PageFault → Result FrameOffset PageFault
located (Ok location) = Ok (record { frame = location.frame.0; offset = location.offset })
located (Err fault) = Err fault

-- what stands for a page
abbrev pub entry_looked : Option (Frame × Perm) → Option Entry
entry_looked None = None
entry_looked (Some found) = Some (record { frame = found.0.0; perm = found.1.0 })

-- each directory is one still
abbrev pub KeepsDirectories : SpacesState → SpacesState → Type 0
KeepsDirectories old new = (f : ℕ) → old.uses f ≡ directory → new.uses f ≡ directory
