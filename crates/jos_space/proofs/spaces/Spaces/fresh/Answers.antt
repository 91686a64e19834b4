use Rattle.std.proofs.Common.{◌∙◌, Some, refl, sym, ap}
use Rattle.jos_base.specs.SpacesState.{SpacesState}
use Rattle.jos_space.specs.Frames.{held_in, state}
use Rattle.jos_space.specs.Calls.{has_bytes}
use Rattle.jos_space.proofs.Keeping.{free_apart}
use Rattle.jos_space.proofs.PageBytes.{fresh_is, empty_fresh}
use Rattle.jos_base.specs.SpacesState.{zero_page}
use Rattle.jos_space.proofs.Directories.{fresh_directories}
use Rattle.jos_space.proofs.spaces.Spaces.fresh.Goals as goal
use Rattle.jos_base.proofs.Maps.{upd-at}

pub returns-in-None-clause-none : goal.returns-in-None-clause-none
returns-in-None-clause-none c =
    λ _. empty_fresh (state c.args.self.now) (c.in-None.ensures.none refl)

pub returns-in-Some-clause-some : goal.returns-in-Some-clause-some
returns-in-Some-clause-some c =
    fresh_is (state c.args.self.now) (state c.take.new.self) (held_in c.args.self.now) c.in-Some.frame c.in-Some.ensures.some ∙ ap (λ (s : SpacesState). Some (c.in-Some.frame, s)) (sym c.clear_page.ensures.state)

pub returns-in-Some-clause-kept : goal.returns-in-Some-clause-kept
returns-in-Some-clause-kept c f is =
    (λ i. (c.clear_page.ensures.state i).uses f) ∙ c.in-Some.ensures.keeps f (λ none. free_apart ((state c.args.self.now).uses f) none is) ∙ is

pub returns-in-Some-clause-fresh : goal.returns-in-Some-clause-fresh
returns-in-Some-clause-fresh c = (λ i. (c.clear_page.ensures.state i).uses c.in-Some.frame) ∙ c.in-Some.ensures.fresh

pub clear_page-requires : goal.clear_page-requires
clear_page-requires c = ap has_bytes c.in-Some.ensures.fresh

pub returns-in-Some-clause-directories : goal.returns-in-Some-clause-directories
returns-in-Some-clause-directories c =
    fresh_directories (state c.args.self.now) (state c.clear_page.new.self) c.in-Some.frame (returns-in-Some-clause-kept c) (returns-in-Some-clause-some c)

pub returns-in-Some-clause-zero : goal.returns-in-Some-clause-zero
returns-in-Some-clause-zero c =
    (λ i. (c.clear_page.ensures.state i).pages c.in-Some.frame) ∙ upd-at (state c.take.new.self).pages c.in-Some.frame zero_page
