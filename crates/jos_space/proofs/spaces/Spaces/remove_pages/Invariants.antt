use Rattle.std.proofs.Common.{◌≡◌, ◌*◌}
use Rattle.jos_base.specs.SpacesState.{directory, pages_removed}
use Rattle.jos_space.specs.Calls.{KeepsDirectories}
use Rattle.jos_space.specs.Frames.{state, records}
use Rattle.jos_space.proofs.spaces.Spaces.remove_pages.Given as goal

abbrev pub invariant-loop-index : goal.invariant-loop-index
invariant-loop-index l = record {
  records : records l.self ≡ records l.fn.self;
  directories : KeepsDirectories (state l.fn.self) (state l.self);
  space : (state l.self).uses l.space ≡ directory;
  pages : state l.self ≡ pages_removed (state l.fn.self) l.space (l.index * 1024);
}
