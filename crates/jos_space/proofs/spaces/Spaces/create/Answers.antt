use Rattle.std.proofs.Common.{inl, inr, ◌∙◌, Some, refl, sym, ap}
use Rattle.jos_base.specs.SpacesState.{SpacesState, directory}
use Rattle.jos_space.specs.Frames.{held_in, state}
use Rattle.jos_base.specs.Words.{upd}
use Rattle.jos_space.proofs.Keeping.{free_apart}
use Rattle.jos_space.proofs.PageBytes.{created_is, empty_created}
use Rattle.jos_space.proofs.Directories.{created_directories}
use Rattle.jos_space.proofs.spaces.Spaces.create.Goals as goal
use Rattle.std.proofs.lemmas.Bool.{cases_eq}
use Rattle.jos_base.proofs.Maps.{upd-at, upd-other}

pub returns-in-None-clause-none : goal.returns-in-None-clause-none
returns-in-None-clause-none c =
    λ _. empty_created (state c.args.self.now) (c.in-None.ensures.none refl)

pub returns-in-Some-clause-some : goal.returns-in-Some-clause-some
returns-in-Some-clause-some c =
    created_is (state c.args.self.now) (state c.take.new.self) (held_in c.args.self.now) c.in-Some.frame c.in-Some.ensures.some ∙ ap (λ (s : SpacesState). Some (c.in-Some.frame, s)) (sym c.set_directory.ensures.state)

pub returns-in-Some-clause-kept : goal.returns-in-Some-clause-kept
returns-in-Some-clause-kept c f is = elim (cases_eq f c.in-Some.frame) [
  | inl same ↦ (λ i. (c.set_directory.ensures.state i).uses f) ∙ ap (upd (state c.take.new.self).uses c.in-Some.frame directory) same ∙ upd-at (state c.take.new.self).uses c.in-Some.frame directory
  | inr ne ↦
      (λ i. (c.set_directory.ensures.state i).uses f) ∙ upd-other (state c.take.new.self).uses c.in-Some.frame directory f ne
      ∙ c.in-Some.ensures.keeps f (λ none. free_apart ((state c.args.self.now).uses f) none is) ∙ is
]

pub returns-in-Some-clause-made : goal.returns-in-Some-clause-made
returns-in-Some-clause-made c =
    (λ i. (c.set_directory.ensures.state i).uses c.in-Some.frame) ∙ upd-at (state c.take.new.self).uses c.in-Some.frame directory

pub returns-in-Some-clause-directories : goal.returns-in-Some-clause-directories
returns-in-Some-clause-directories c =
    created_directories (state c.args.self.now) (state c.set_directory.new.self) c.in-Some.frame (returns-in-Some-clause-some c)
