-- What a run does to the files of the host: it moves blocks of the disk.
use Rattle.std.specs.Prelude.{◌≡◌, ℕ, List, [], ◌∷◌, ◌++◌, length, Option, Some, None}
use Rattle.std.specs.Option.{option_map}
use Rattle.jos_host.specs.declared.host.HostCall.TheVariants.{Read, Write}
use Rattle.jos_host.specs.Asked.{Asked}
use Rattle.jos_host.specs.Files.{Files, SameElsewhere, bytes_of}
use Rattle.jos_host.specs.Frames.{Around}
use Rattle.lib_os.specs.Disk.{DiskFile}

-- a call that reads or writes the file of this name
pub data IsDiskCall (name : List ℕ) (asked : Asked) : Type 0 where
  reads : asked ≡ record { call = Read; name = name } → IsDiskCall name asked
  writes : asked ≡ record { call = Write; name = name } → IsDiskCall name asked

unfoldable pub AreDiskCalls : List ℕ → List Asked → Type 0
AreDiskCalls name [] = Unit {0}
AreDiskCalls name (asked ∷ rest) = IsDiskCall name asked × AreDiskCalls name rest

-- What is told stays told: every other name keeps its bytes, and the file of this name its length.
abbrev pub KeepsFiles : List ℕ → Option Files → Option Files → Type 0
KeepsFiles name None after = after ≡ None
KeepsFiles name (Some old) after =
    (new : Files) × (after ≡ Some new) × SameElsewhere old name new × (length (bytes_of new name) ≡ length (bytes_of old name))

-- So many calls were made that read and write the disk's file, and no others of those on files.
pub record TouchesDiskOnly (disk : DiskFile) (files : Around (Option Files)) (asked : Around (Option (List Asked))) : Type 0 where
  pub keeps : KeepsFiles disk.name files.before files.after
  pub calls : List Asked
  pub of_disk : AreDiskCalls disk.name calls
  pub asked_are : asked.after ≡ option_map (λ told. told ++ calls) asked.before
