use Rattle.std.proofs.Common.{◌≡◌, ◌≤◌, ◌*◌, ◌++◌, length, drop, true}
use Rattle.std.specs.List.{list_all}
use Rattle.fs_layout.specs.Paths.{spans_from, name_spans, is_short}
use Rattle.fs_layout.proofs.paths.parts.Given as goal

-- the names so far, and those that are still to come
abbrev pub invariant-loop-at : goal.invariant-loop-at
invariant-loop-at l = record {
  names : l.names.items ++ spans_from l.from l.at (drop l.at l.path) ≡ name_spans l.path;
  short : list_all is_short l.names.items ≡ true;
  room : 2 * length l.names.items ≤ l.from;
  order : l.from ≤ l.at;
}
