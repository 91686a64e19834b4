-- How a host's file is read piece by piece. (This system's own.)
use Rattle.std.specs.Prelude.{◌≡◌, ℕ, ◌-◌, ◌≤◌, ◌++◌, List, length, take, drop, replicate, min, Option, Some, None}
use Rattle.std.specs.Option.{option_map}
use Rattle.jos_host.specs.Files.{Files, bytes_of}
use Rattle.jos_host.specs.Asked.{Asked}
use Rattle.jos_host.specs.Frames.{Around}
use Rattle.jos_host.specs.declared.host.HostCall.TheVariants.{Read}

-- calls that read the file
unfoldable pub reads : List ℕ → ℕ → List Asked
reads name calls = replicate calls (record { call = Read; name = name })

-- The host was asked to read the file, so many times, and for nothing else.
abbrev pub IsReading : List ℕ → Around (Option (List Asked)) → Type 0
IsReading name log = (calls : ℕ) × (log.after ≡ option_map (λ asked. asked ++ reads name calls) log.before)

-- The bytes that came stand behind those that were there: so many of the file, and fewer than were asked for only at its end.
abbrev pub Comes : Option Files → List ℕ → ℕ → List ℕ → ℕ → List ℕ → Type 0
Comes None name count old came new = Unit {0}
Comes (Some files) name count old came new =
    (came ≡ min count (length (bytes_of files name) - length old))
    × (new ≡ old ++ take came (drop (length old) (bytes_of files name)))

-- Where the bytes that were there are the file's first, they are now the first of it up to this place.
abbrev pub ReachesTo : Option Files → List ℕ → ℕ → List ℕ → List ℕ → Type 0
ReachesTo None name end old new = Unit {0}
ReachesTo (Some files) name end old new =
    old ≡ take (length old) (bytes_of files name) → new ≡ take end (bytes_of files name)

-- more bytes, behind those that were there, and no more than up to this place
pub record Grows (end : ℕ) (old new : List ℕ) : Type 0 where
  pub front : take (length old) new ≡ old
  pub longer : length old ≤ length new
  pub within : length new ≤ end

-- the file has this size, where it is told
abbrev pub HasSize : Option Files → List ℕ → ℕ → Type 0
HasSize None name size = Unit {0}
HasSize (Some files) name size = files name ≡ Some (bytes_of files name) × (length (bytes_of files name) ≡ size)
