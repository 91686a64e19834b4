-- What a call of a host says of the host before it and after it. A host may tell a meaning or not: of what
-- is not told nothing is claimed, and it stays untold.
use Rattle.std.specs.Prelude.{◌≡◌, ℕ, ◌-◌, ◌≤◌, ◌<◌, ◌⊎◌, List, [], ◌++◌, length, take, drop, min, Option, None}
use Rattle.std.specs.Prelude.{Some, Result, Ok, Err, OnOk, OnErr}
use Rattle.std.specs.Option.{option_map}
use Rattle.jos_host.specs.Count.{most}
use Rattle.jos_host.specs.Files.{Files, with_bytes, bytes_of, overwritten, SameElsewhere, Torn}

-- The count of faults rose, or stands at the end of its type, where it cannot rise.
abbrev pub Rose : ℕ → ℕ → Type 0
Rose before now = (before < now) ⊎ (now ≡ most)

-- A call fails only where the count of faults rose in it, and leaves the count where it succeeds.
pub record HasCause {T E : Type 0} (before now : ℕ) (result : Result T E) : Type 0 where
  pub later : before ≤ now
  pub rose : OnErr result (Rose before now)
  pub stayed : OnOk result (now ≡ before)

-- the length of the file, or None exactly where the name is absent
abbrev pub ReadsSize : Option Files → List ℕ → Option ℕ → Type 0
ReadsSize None name size = Unit {0}
ReadsSize (Some files) name size = size ≡ option_map length (files name)

-- The buffer has the bytes from the place on, as many as it holds, and fewer only where the list ends.
abbrev pub ReadsAt : Option Files → List ℕ → ℕ → List ℕ → List ℕ → ℕ → Type 0
ReadsAt None name at old new n = Unit {0}
ReadsAt (Some files) name at old new n =
    (n ≡ min (length old) (length (bytes_of files name) - at)) × (new ≡ take n (drop at (bytes_of files name)) ++ drop n old)

-- `at` is not past the end of the file
abbrev pub IsWithin : Option Files → List ℕ → ℕ → Type 0
IsWithin None name at = Unit {0}
IsWithin (Some files) name at = at ≤ length (bytes_of files name)

-- The name is an empty list; where the call fails, every other name keeps its bytes.
abbrev pub Creates : {E : Type 0} → Option Files → List ℕ → Result (Unit {0}) E → Option Files → Type 0
Creates None name result new = new ≡ None
Creates (Some old) name (Ok _) new = new ≡ Some (with_bytes old name [])
Creates (Some old) name (Err _) new = (files : Files) × (new ≡ Some files) × SameElsewhere old name files

-- The bytes replace and extend; where the call fails, what stands in the range is unknown, and all else stays.
abbrev pub WritesAt : {E : Type 0} → Option Files → List ℕ → ℕ → List ℕ → Result (Unit {0}) E → Option Files → Type 0
WritesAt None name at bytes result new = new ≡ None
WritesAt (Some old) name at bytes (Ok _) new = new ≡ Some (with_bytes old name (overwritten (bytes_of old name) at bytes))
WritesAt (Some old) name at bytes (Err _) new =
    (files : Files) × (new ≡ Some files) × SameElsewhere old name files × Torn at (length bytes) (bytes_of old name) (bytes_of files name)

-- The first of the input's bytes are taken into the buffer: none only at the end, where the buffer has room.
pub record TakesInput (old new buffer_old buffer_new : List ℕ) (n : ℕ) : Type 0 where
  pub front : n ≤ length old
  pub taken : buffer_new ≡ take n old ++ drop n buffer_old
  pub left : new ≡ drop n old
  pub end : 0 < length buffer_old → n ≡ 0 → old ≡ []

abbrev pub ReadsInput : {E : Type 0} → Option (List ℕ) → Option (List ℕ) → List ℕ → List ℕ → Result ℕ E → Type 0
ReadsInput None new buffer_old buffer_new result = new ≡ None
ReadsInput (Some old) new buffer_old buffer_new (Ok n) =
    (rest : List ℕ) × (new ≡ Some rest) × TakesInput old rest buffer_old buffer_new n
ReadsInput (Some old) new buffer_old buffer_new (Err _) = new ≡ Some old

-- The bytes come at the end; where the call fails, a prefix of them does.
abbrev pub Appends : {E : Type 0} → Option (List ℕ) → List ℕ → Result (Unit {0}) E → Option (List ℕ) → Type 0
Appends old bytes (Ok _) new = new ≡ option_map (λ told. told ++ bytes) old
Appends old bytes (Err _) new = (n : ℕ) × (n ≤ length bytes) × (new ≡ option_map (λ told. told ++ take n bytes) old)
