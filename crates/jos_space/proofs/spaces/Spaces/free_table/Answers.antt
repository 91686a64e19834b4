use Rattle.std.proofs.Common.{◌∙◌, sym, ap}
use Rattle.jos_base.specs.SpacesState.{SpacesState, free, freed}
use Rattle.jos_space.specs.Frames.{state}
use Rattle.jos_space.proofs.Keeping.{keeps_same, keeps_other, keeps_both, table_apart}
use Rattle.jos_space.proofs.Destroying.{without_none, without_some}
use Rattle.jos_space.proofs.TableLists.{not_there}
use Rattle.jos_space.proofs.spaces.Spaces.free_table.Goals as goal

pub free-requires : goal.free-requires
free-requires c = c.clear_region.ensures.idle c.in-Some.table (sym c.in-Some.ensures)

pub returns-in-Some-clause-state : goal.returns-in-Some-clause-state
returns-in-Some-clause-state c =
    c.free.ensures.after ∙ ap (λ (s : SpacesState). freed s c.in-Some.table) c.clear_region.ensures.state
    ∙ without_some (state c.args.self.now) c.args.space c.args.index c.in-Some.table (sym c.in-Some.ensures)

pub returns-in-Some-clause-kept : goal.returns-in-Some-clause-kept
returns-in-Some-clause-kept c =
    keeps_both (state c.args.self.now) (state c.clear_region.new.self) (state c.free.new.self)
    (keeps_same (state c.args.self.now) (state c.clear_region.new.self) (ap (λ (s : SpacesState). s.uses) c.clear_region.ensures.state))
    (keeps_other (state c.clear_region.new.self) (state c.free.new.self) c.in-Some.table free (ap (λ (s : SpacesState). s.uses) c.free.ensures.after)
    (table_apart ((state c.clear_region.new.self).uses c.in-Some.table) (c.clear_region.ensures.table c.in-Some.table (sym c.in-Some.ensures))))

pub returns-in_default-clause-state : goal.returns-in_default-clause-state
returns-in_default-clause-state c =
    without_none (state c.args.self.now) c.args.space c.args.index (not_there (state c.args.self.now) c.args.space c.args.index c.in_default.ensures)
