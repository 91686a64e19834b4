use Rattle.std.proofs.Common.{◌∙◌, Some, refl, sym, ap}
use Rattle.jos_base.specs.SpacesState.{SpacesState}
use Rattle.jos_sys.specs.System.{state_of}
use Rattle.jos_sys.proofs.Making.{no_slot, no_space, made_is, made_keeps, elsewhere}
use Rattle.jos_sys.proofs.Keeping.{keeps_seen}
use Rattle.jos_sys.proofs.Showing.{others_by}
use Rattle.jos_sys.proofs.system.System.make_environment.Goals as goal

pub returns-in-None-clause-err : goal.returns-in-None-clause-err
returns-in-None-clause-err c = λ input. no_slot (state_of c.args.self.now input) c.args.parent.0 c.in-None.ensures.exact

pub returns-in-Some-create-clause-ok : goal.returns-in-Some-create-clause-ok
returns-in-Some-create-clause-ok c = λ input.
    made_is (state_of c.args.self.now input) c.args.parent.0 _ _ c.in-Some.ensures.exact _ _ _
    (c.in-Some-create.ensures.some ∙ ap (λ (s : SpacesState). Some (c.in-Some-create.space.directory.0, s)) (sym c.show.ensures.state)) c.set_directory.ensures.set

pub returns-in-Some-create-clause-spaces : goal.returns-in-Some-create-clause-spaces
returns-in-Some-create-clause-spaces c = record {
  spaces = keeps_seen _ _ _ c.show.ensures.state
      (made_keeps _ _ _ _ c.in-Some.ensures.exact _ _ c.set_directory.ensures.set _ _ c.requires.spaces.spaces c.in-Some.ensures.was_free
      c.in-Some-create.ensures.apart c.in-Some-create.ensures.directories);
  records = c.show.ensures.records
      (others_by _ _ c.in-Some.slot (elsewhere _ _ _ _ c.in-Some.ensures.exact _ _ c.set_directory.ensures.set) _
      (c.in-Some-create.ensures.records ∙ c.requires.spaces.records));
}

pub returns-in-None-create-clause-err : goal.returns-in-None-create-clause-err
returns-in-None-create-clause-err c = λ input.
    no_space (state_of c.args.self.now input) c.args.parent.0 _ _ c.in-Some.ensures.exact (c.in-None-create.ensures.none refl)
