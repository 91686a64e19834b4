-- The calls that a host was asked, in order: those on files, and those that write notes.
use Rattle.std.specs.Prelude.{ℕ, List, [], ◌∷◌, ◌++◌, Option}
use Rattle.std.specs.Option.{option_map}
use Rattle.jos_host.specs.declared.host.HostCall.{HostCall}
use Rattle.jos_host.specs.declared.host.HostCall.TheVariants.{NoteWrite}

-- a call, with the name of the file; that which writes notes has the empty name
pub record Asked : Type 0 where
  pub call : HostCall
  pub name : List ℕ

-- the calls, where they are told, and this one after them
abbrev pub and_asked : Option (List Asked) → HostCall → List ℕ → Option (List Asked)
and_asked told call name = option_map (λ calls. calls ++ record { call = call; name = name } ∷ []) told

-- the calls, where they are told, and after them one that writes notes
abbrev pub and_noted : Option (List Asked) → Option (List Asked)
and_noted told = and_asked told NoteWrite []
