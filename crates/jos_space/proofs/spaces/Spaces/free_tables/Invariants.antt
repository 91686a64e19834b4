use Rattle.std.proofs.Common.{◌≡◌, ℕ, None}
use Rattle.jos_base.specs.SpacesState.{directory, tables_freed}
use Rattle.jos_space.specs.Calls.{KeepsDirectories}
use Rattle.jos_space.specs.Frames.{state, records}
use Rattle.jos_space.proofs.spaces.Spaces.free_tables.Given as goal

abbrev pub invariant-loop-index : goal.invariant-loop-index
invariant-loop-index l = record {
  records : records l.self ≡ records l.fn.self;
  directories : KeepsDirectories (state l.fn.self) (state l.self);
  space : (state l.self).uses l.space ≡ directory;
  empty : (number : ℕ) → (state l.self).entries l.space number ≡ None;
  tables : state l.self ≡ tables_freed (state l.fn.self) l.space l.index;
}
