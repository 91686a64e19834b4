-- A host in memory, as clauses see it.
use Rattle.std.specs.Prelude.{ℕ, ◌-◌, ◌↔◌, List, [], ◌∷◌, ◌++◌, None, Result, IsErr, Contains}
use Rattle.std.specs.Prelude.{vec_len, vec_capacity}
use Rattle.std.specs.declared.vec.Vec.{Vec}
use Rattle.jos_host.specs.Asked.{Asked}
use Rattle.jos_host.specs.Count.{risen}
use Rattle.jos_host.specs.Files.{Files, with_bytes}
use Rattle.jos_host.specs.declared.host.HostCall.{HostCall}

-- bytes under a name
pub record Named : Type 0 where
  pub name : List ℕ
  pub bytes : List ℕ

pub record HostState : Type 0 where
  -- the names with their bytes; of a name that stands twice the first counts
  pub named : List Named
  -- the console input that is left
  pub input : List ℕ
  pub console : List ℕ
  pub notes : List ℕ
  -- how many more bytes go to the console, and to the notes, with no memory taken
  pub console_room : ℕ
  pub notes_room : ℕ
  -- the calls on files that were made, and those that write notes
  pub asked : List Asked
  -- the numbers of the calls that fail, where the first call has the number 0
  pub fails : List ℕ
  -- the number of the next call
  pub calls : ℕ
  pub faults : ℕ

-- the bytes under each name: those of the first in the list that has it
abbrev pub files_of : List Named → Files
files_of [] = λ _. None
files_of (file ∷ rest) = with_bytes (files_of rest) file.name file.bytes

-- the host that has noted this call
abbrev pub with_asked : HostState → HostCall → List ℕ → HostState
with_asked h call name = record h { asked = h.asked ++ record { call = call; name = name } ∷ [] }

-- the host after a call that succeeded and changed nothing
abbrev pub called : HostState → HostState
called h = record h { calls = risen h.calls }

-- the host after a call that failed
abbrev pub call_failed : HostState → HostState
call_failed h = record h { calls = risen h.calls; faults = risen h.faults }

-- a call fails exactly where its number is listed
abbrev pub FailsAsListed : {T E : Type 0} → HostState → Result T E → Type 0
FailsAsListed host result = IsErr result ↔ Contains host.fails host.calls

-- how many more bytes go into the list with no memory taken
abbrev pub room_of : {A : Type 0} → Vec ℕ A → ℕ
room_of bytes = vec_capacity bytes - vec_len bytes
