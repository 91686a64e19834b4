use Rattle.std.proofs.Common.{◌≡◌, ◌∙◌, ◌+◌, suc, refl, ap, arith}
use Rattle.jos_base.specs.SpacesState.{SpacesState, tables_freed}
use Rattle.jos_space.specs.Frames.{state}
use Rattle.jos_space.proofs.Keeping.{keeps_both}
use Rattle.jos_space.proofs.Destroying.{tables_zero, tables_one, without_entries}
use Rattle.jos_space.proofs.spaces.Spaces.free_tables.Goals as goal

pub loop-index-init : goal.loop-index-init
loop-index-init c = record { records = refl; directories = λ f is. is; space = c.requires.space; empty = c.requires.empty; tables = tables_zero (state c.args.self.now) c.args.space }

pub loop-index-preserved : goal.loop-index-preserved
loop-index-preserved c = record {
  records = c.free_table.ensures.records ∙ c.loop-index.invariant.records;
  directories = keeps_both (state c.args.self.now) (state c.loop-index.self) (state c.free_table.new.self) c.loop-index.invariant.directories c.free_table.ensures.kept;
  space = c.free_table.ensures.kept c.args.space c.loop-index.invariant.space;
  empty = λ number.
      ap (λ (s : SpacesState). s.entries c.args.space number) c.free_table.ensures.state
      ∙ (λ i. without_entries (state c.loop-index.self) c.args.space c.loop-index.index ((state c.loop-index.self).regions c.args.space c.loop-index.index) i c.args.space number)
      ∙ c.loop-index.invariant.empty number;
  tables =
      c.free_table.ensures.state ∙ tables_one (state c.args.self.now) (state c.loop-index.self) c.args.space c.loop-index.index c.loop-index.invariant.tables
      ∙ ap (tables_freed (state c.args.self.now) c.args.space) (let one : suc c.loop-index.index ≡ c.loop-index.index + 1 = omega arith in one);
}
