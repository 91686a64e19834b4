-- The names of a path and the places where they stand.
use Rattle.std.specs.Prelude.{◌≡◌, ℕ, List, map, is_some}
use Rattle.fs_layout.specs.FileActs.{names_in, is_good_path}
use Rattle.fs_layout.specs.Paths.{name_in_path, name_spans, parts_of}

-- What stands in these places are the names.
abbrev pub NamesStandInSpans : Type 0
NamesStandInSpans = (path : List ℕ) → map (name_in_path path) (name_spans path) ≡ names_in path

-- A path has parts where it is a good one.
abbrev pub GoodPathsHaveParts : Type 0
GoodPathsHaveParts = (path : List ℕ) → is_some (parts_of path) ≡ is_good_path path
