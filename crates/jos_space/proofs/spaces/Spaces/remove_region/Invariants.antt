use Rattle.std.proofs.Common.{◌≡◌, ◌+◌, ◌*◌, Some}
use Rattle.std.specs.Option.{option_map}
use Rattle.jos_base.specs.SpacesState.{SpacesState, Region, pages_removed}
use Rattle.jos_space.specs.Calls.{KeepsDirectories}
use Rattle.jos_space.specs.Frames.{state, records}
use Rattle.jos_space.proofs.spaces.Spaces.remove_region.Given as goal

abbrev pub invariant-loop-i : goal.invariant-loop-i
invariant-loop-i l = record {
  records : records l.self ≡ records l.fn.self;
  directories : KeepsDirectories (state l.fn.self) (state l.self);
  region : option_map (λ (r : Region). r.table) ((state l.self).regions l.space l.index) ≡ Some l.table;
  pages : (s : SpacesState) → state l.fn.self ≡ pages_removed s l.space (l.index * 1024) → state l.self ≡ pages_removed s l.space (l.index * 1024 + l.i);
}
