-- What of a host's file is looked at as a disk, and what comes of reading it. (This system's own.)
use Rattle.std.specs.Prelude.{◌≡◌, ℕ, ◌*◌, ◌≤◌, ◌++◌, List, ◌∷◌, length, take, replicate, slice_index, min, max, Option, Some, None}
use Rattle.std.specs.Prelude.{Result, Ok, Err}
use Rattle.std.specs.Option.{option_map}
use Rattle.jos_host.specs.Files.{Files}
use Rattle.jos_host.specs.Told.{Rose}
use Rattle.jos_host.specs.Asked.{Asked}
use Rattle.jos_host.specs.Frames.{Around}
use Rattle.jos_host.specs.declared.host.HostCall.TheVariants.{Size, Read}
use Rattle.fs_layout.specs.declared.numbers.TheConstants.{BLKSIZE, MAXBLOCKS}
use Rattle.fs_layout.specs.DiskImage as disk
use Rattle.fs_image.specs.declared.disk_bytes.DiskFault.{DiskFault}
use Rattle.fs_image.specs.declared.disk_bytes.DiskFault.TheVariants.{Absent, Host, NoMemory}
use Rattle.fs_image.specs.declared.checking.CheckFault.{CheckFault}
use Rattle.fs_image.specs.declared.checking.CheckFault.TheVariants as check
use Rattle.fs_image.specs.Answers.{fault_of}

-- how many bytes the file has, and those that are looked at
pub record HeldDisk : Type 0 where
  pub total : ℕ
  pub bytes : List ℕ

-- how many blocks are looked at: those that the super block counts, with the super block itself, and no more than a disk has
abbrev pub blocks_held : List ℕ → ℕ
blocks_held file = max 2 (min (disk.block_count (slice_index file)) MAXBLOCKS)

unfoldable pub held_of : List ℕ → HeldDisk
held_of file = record { total = length file; bytes = take (BLKSIZE * blocks_held file) file }

-- the bytes reach as far as they are looked at
unfoldable pub IsLongEnough : ℕ → List ℕ → Type 0
IsLongEnough total bytes = min total (BLKSIZE * blocks_held bytes) ≤ length bytes

-- why it is no disk
abbrev pub fault_in : HeldDisk → Option disk.ImageFault
fault_in held = disk.image_fault held.total (slice_index held.bytes)

-- ---- reading

-- This stands under the name, where the host tells its files. Where it does not, anything may.
abbrev pub IsUnder : Option Files → List ℕ → Option (List ℕ) → Type 0
IsUnder (Some files) name file = file ≡ files name
IsUnder None name file = Unit {0}

abbrev pub IsHeld : Option (List ℕ) → HeldDisk → Type 0
IsHeld (Some bytes) held = held ≡ held_of bytes
IsHeld None held = ⊥

abbrev pub IsDiskFault : Option (List ℕ) → DiskFault → Type 0
IsDiskFault file Absent = file ≡ None
IsDiskFault file Host = Unit {0}
IsDiskFault file NoMemory = Unit {0}

-- A call of the host failed only where the count of its faults rose, and nothing else comes with that.
abbrev pub HasDiskCause : {X : Type 0} → Around ℕ → Result X DiskFault → Type 0
HasDiskCause faults (Err Host) = Rose faults.before faults.after
HasDiskCause faults (Err Absent) = faults.after ≡ faults.before
HasDiskCause faults (Err NoMemory) = faults.after ≡ faults.before
HasDiskCause faults (Ok _) = faults.after ≡ faults.before

-- The host was asked for the file's size, and then to read it, piece by piece; it may end before any of these calls.
abbrev pub IsReadInPieces : List ℕ → Around (Option (List Asked)) → Type 0
IsReadInPieces name log =
    (calls : ℕ) × (log.after ≡ option_map
    (λ asked. asked ++ take calls (record { call = Size; name = name } ∷ replicate calls (record { call = Read; name = name })))
    log.before)

-- ---- checking

-- the fault is the first; want of memory says nothing
abbrev pub IsCheckFault : HeldDisk → CheckFault → Type 0
IsCheckFault held (check.Bad fault) = fault_in held ≡ Some (fault_of fault)
IsCheckFault held check.NoMemory = Unit {0}
