use Rattle.std.proofs.Common.{◌∙◌, Some, refl, sym, ap}
use Rattle.std.specs.Option.{option_map}
use Rattle.jos_base.specs.SpacesState.{SpacesState, Region, table}
use Rattle.jos_space.specs.Frames.{held_in, state}
use Rattle.jos_space.proofs.Keeping.{free_apart}
use Rattle.jos_space.proofs.TableLists.{tabled_there, not_there, tabled_empty, tabled_made, regions_of_taken}
use Rattle.jos_space.proofs.TableLists.{table_found}
use Rattle.jos_space.proofs.spaces.Spaces.table_for.Goals as goal
use Rattle.jos_base.proofs.Maps.{upd-other}

pub set_table-requires-clause-space : goal.set_table-requires-clause-space
set_table-requires-clause-space c = c.in-Some-take.ensures.keeps c.args.space (λ none. free_apart ((state c.args.self.now).uses c.args.space) none c.requires.space) ∙ c.requires.space

pub set_table-requires-clause-region : goal.set_table-requires-clause-region
set_table-requires-clause-region c = regions_of_taken _ _ (held_in c.args.self.now) c.args.space c.args.index c.in-Some-take.frame c.in-Some-take.ensures.some ∙ not_there (state c.args.self.now) c.args.space c.args.index c.in-None.ensures

pub returns-in-Some-clause-some : goal.returns-in-Some-clause-some
returns-in-Some-clause-some c = tabled_there (state c.args.self.now) c.args.space c.args.index c.in-Some.table c.in-Some.ensures

pub returns-in-None-take-clause-none : goal.returns-in-None-take-clause-none
returns-in-None-take-clause-none c = λ _. tabled_empty (state c.args.self.now) c.args.space c.args.index (not_there (state c.args.self.now) c.args.space c.args.index c.in-None.ensures) (c.in-None-take.ensures.none refl)

pub returns-in-Some-take-clause-some : goal.returns-in-Some-take-clause-some
returns-in-Some-take-clause-some c =
    tabled_made (state c.args.self.now) (state c.take.new.self) (held_in c.args.self.now) c.args.space c.args.index c.in-Some-take.frame (not_there (state c.args.self.now) c.args.space c.args.index c.in-None.ensures) c.in-Some-take.ensures.some
    ∙ ap (λ (s : SpacesState). Some s) (sym c.set_table.ensures.after)

pub returns-in-Some-take-clause-found : goal.returns-in-Some-take-clause-found
returns-in-Some-take-clause-found c =
    ap (λ (s : SpacesState). option_map (λ (r : Region). r.table) (s.regions c.args.space c.args.index)) c.set_table.ensures.after ∙ table_found (state c.take.new.self) c.args.space c.args.index c.in-Some-take.frame

pub returns-in-Some-take-clause-keeps : goal.returns-in-Some-take-clause-keeps
returns-in-Some-take-clause-keeps c f used =
    (λ i. (c.set_table.ensures.after i).uses f)
    ∙ upd-other (state c.take.new.self).uses c.in-Some-take.frame table f (λ same. used (ap (state c.args.self.now).uses same ∙ c.in-Some-take.ensures.was))
    ∙ c.in-Some-take.ensures.keeps f used
