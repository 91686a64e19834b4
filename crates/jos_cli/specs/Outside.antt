-- What is seen of a host before a call and after it.
use Rattle.std.specs.Prelude.{◌≡◌, ℕ, List, Option}
use Rattle.jos_host.specs.Asked.{Asked}
use Rattle.jos_host.specs.Files.{Files}
use Rattle.jos_host.specs.Frames.{Around, around}
use Rattle.jos_host.specs.declared.host.Host.{Ghosts}

pub record Outside : Type 0 where
  pub files : Around (Option Files)
  pub input : Around (Option (List ℕ))
  pub console : Around (Option (List ℕ))
  pub notes : Around (Option (List ℕ))
  pub asked : Around (Option (List Asked))
  pub faults : Around ℕ

abbrev pub outside : {H : Type 0} → Ghosts H → H → H → Outside
outside host old new = record {
  files = around host.files old new;
  input = around host.input old new;
  console = around host.console old new;
  notes = around host.notes old new;
  asked = around host.asked old new;
  faults = around host.faults old new;
}

-- it is after the call what it was before
abbrev pub IsKept : {X : Type 0} → Around X → Type 0
IsKept thing = thing.after ≡ thing.before
