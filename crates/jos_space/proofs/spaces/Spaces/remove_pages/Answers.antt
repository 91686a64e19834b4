use Rattle.std.proofs.Common.{◌∙◌, refl, ap, arith}
use Rattle.jos_base.specs.Counting.{page_limit}
use Rattle.jos_base.specs.SpacesState.{pages_removed}
use Rattle.jos_space.specs.Frames.{Lists, state, records}
use Rattle.jos_space.proofs.TableLists.{not_there}
use Rattle.jos_space.proofs.Removing.{removed_none, removed_zero}
use Rattle.jos_space.proofs.spaces.Spaces.remove_pages.Goals.{in_default, in-Some}
use Rattle.jos_space.proofs.spaces.Spaces.remove_pages.Goals as goal

pub loop-index-init : goal.loop-index-init
loop-index-init c = record { records = refl; directories = λ f is. is; space = c.requires; pages = removed_zero (state c.args.self.now) c.args.space }

pub loop-index-preserved : goal.loop-index-preserved
loop-index-preserved c = elim c.match-table.branch [
  | in_default w ↦
      let none = not_there (state c.loop-index.self) c.args.space c.loop-index.index w.in_default.ensures in
      record {
        records = ap records w.self-is ∙ c.loop-index.invariant.records;
        directories = λ f is. ap (λ (l : Lists). (state l).uses f) w.self-is ∙ c.loop-index.invariant.directories f is;
        space = ap (λ (l : Lists). (state l).uses c.args.space) w.self-is ∙ c.loop-index.invariant.space;
        pages = ap state w.self-is ∙ removed_none c.loop-index.self (state c.args.self.now) c.args.space c.loop-index.index 1024 none (omega arith) c.loop-index.invariant.pages ∙ ap (pages_removed (state c.args.self.now) c.args.space) (omega arith);
      }
  | in-Some w ↦
      record {
        records = ap records w.self-is ∙ w.remove_region.ensures.records ∙ c.loop-index.invariant.records;
        directories = λ f is. ap (λ (l : Lists). (state l).uses f) w.self-is ∙ w.remove_region.ensures.kept f (c.loop-index.invariant.directories f is);
        space = ap (λ (l : Lists). (state l).uses c.args.space) w.self-is ∙ w.remove_region.ensures.kept c.args.space c.loop-index.invariant.space;
        pages = ap state w.self-is ∙ w.remove_region.ensures.pages (state c.args.self.now) c.loop-index.invariant.pages;
      }
]

pub returns-clause-pages : goal.returns-clause-pages
unfolding page_limit
returns-clause-pages c =
    c.loop-index.invariant.pages ∙ ap (pages_removed (state c.args.self.now) c.args.space) (omega (arith, c.loop-index-test.false, c.loop-index.auto.index-end))
