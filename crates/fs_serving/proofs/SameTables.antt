-- The table of open files is told by what is opened and by the pages of its places: neither by the server and the files, nor by the memory that
-- is seen beside it.
use Rattle.std.proofs.Common.{ℕ}
use Rattle.fs_layout.specs.FileTree.{FileSystem}
use Rattle.fs_runs.specs.TreeRuns.{Memory}
use Rattle.lib_os.specs.AbstractState.{AbstractState, Server}
use Rattle.fs_serving.specs.ServerRuns.{HasFile, PlaceStands, TableStands}
use Rattle.fs_serving.specs.ServerViews.{View}

module _ (disk : ℕ → ℕ) (a : AbstractState) (v : View) where
  -- ---- beside another memory
  file-over : (m : Memory) (number name : ℕ) → HasFile disk a v number name → HasFile disk a (record v { memory = m }) number name
  file-over m number name has = record {
    f = has.f;
    is = has.is;
    home = has.home;
    regular = has.regular;
    there = has.there;
    device = has.device;
    offset = has.offset;
    mode = has.mode;
    size = has.size;
    number_is = has.number_is;
    small = has.small;
    sized = has.sized;
  }

  place-over : (m : Memory) (number : ℕ) → PlaceStands disk a v number → PlaceStands disk a (record v { memory = m }) number
  place-over m number place = record {
    unused = place.unused;
    there = place.there;
    used = place.used;
    counts = place.counts;
    holds = λ name is held. file-over m number name (place.holds name is held);
  }

  pub table-over : (m : Memory) → TableStands disk a v → TableStands disk a (record v { memory = m })
  table-over m table = record {
    places = λ number below. place-over m number (table.places number below);
    held = table.held;
    alone = table.alone;
    old = table.old;
    old_held = table.old_held;
  }

  -- ---- behind a step of the server
  file-behind : (files : FileSystem) (server : Server) (number name : ℕ) → HasFile disk a v number name →
      HasFile disk (record a { files = files; server = server }) v number name
  file-behind files server number name has = record {
    f = has.f;
    is = has.is;
    home = has.home;
    regular = has.regular;
    there = has.there;
    device = has.device;
    offset = has.offset;
    mode = has.mode;
    size = has.size;
    number_is = has.number_is;
    small = has.small;
    sized = has.sized;
  }

  place-behind : (files : FileSystem) (server : Server) (number : ℕ) → PlaceStands disk a v number →
      PlaceStands disk (record a { files = files; server = server }) v number
  place-behind files server number place = record {
    unused = place.unused;
    there = place.there;
    used = place.used;
    counts = place.counts;
    holds = λ name is held. file-behind files server number name (place.holds name is held);
  }

  pub table-behind : (files : FileSystem) (server : Server) → TableStands disk a v → TableStands disk (record a { files = files; server = server }) v
  table-behind files server table = record {
    places = λ number below. place-behind files server number (table.places number below);
    held = table.held;
    alone = table.alone;
    old = table.old;
    old_held = table.old_held;
  }
