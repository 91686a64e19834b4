-- What is held of a file as a disk, and what is told of it, is what the whole file tells.
use Rattle.std.specs.Prelude.{◌≡◌, ℕ, List, length, slice_index, None}
use Rattle.fs_layout.specs.DiskFiles.{file_system_of}
use Rattle.fs_layout.specs.DiskImage.{image_fault}
use Rattle.fs_image.specs.DiskHeld.{fault_in, held_of}

-- the first fault
abbrev pub HeldFaultsAreTheFiles : Type 0
HeldFaultsAreTheFiles = (file : List ℕ) → fault_in (held_of file) ≡ image_fault (length file) (slice_index file)

-- the tree of files, where there is no fault
abbrev pub HeldTreesAreTheFiles : Type 0
HeldTreesAreTheFiles = (file : List ℕ) → image_fault (length file) (slice_index file) ≡ None →
    file_system_of (slice_index (held_of file).bytes) ≡ file_system_of (slice_index file)
