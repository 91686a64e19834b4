use Rattle.std.proofs.Common.{◌∙◌, List, ℕ, [], get_or, sym, ap, subst}
use Rattle.std.specs.Prelude.{slice_set}
use Rattle.jos_base.specs.Words.{upd}
use Rattle.jos_space.specs.Frames.{Lists, AreSound, state, records}
use Rattle.jos_space.specs.contracts.spaces.Spaces.{the_view}
use Rattle.jos_space.proofs.Records.{slot_below, record_sound, record_set, record_apart}
use Rattle.jos_space.proofs.spaces.Spaces.set_env_word.Goals as goal

pub set_record_word-requires-clause-slot : goal.set_record_word-requires-clause-slot
set_record_word-requires-clause-slot c = slot_below (the_view c.self.inside) c.self.invariant c.args.slot c.requires.slot

pub invariant_of-self : goal.invariant_of-self
invariant_of-self c =
    let l : Lists = the_view c.self.inside in
    subst (λ (all : List (List ℕ)). AreSound (record l { records = all })) (sym c.set_record_word.ensures) (record_sound l c.self.invariant c.args.slot c.requires.slot (slice_set (get_or l.records c.args.slot []) c.args.index c.args.word))

pub returns-clause-state : goal.returns-clause-state
returns-clause-state c = record_apart (the_view c.self.inside) c.set_record_word.new.records.items ∙ ap state c.self.view_is

pub returns-clause-records : goal.returns-clause-records
returns-clause-records c =
    let l : Lists = the_view c.self.inside in
    ap (λ (all : List (List ℕ)). records (record l { records = all })) c.set_record_word.ensures
    ∙ record_set l c.self.invariant c.args.slot c.requires.slot (slice_set (get_or l.records c.args.slot []) c.args.index c.args.word)
    ∙ ap (λ (l : Lists). upd (records l) c.args.slot (slice_set (get_or l.records c.args.slot []) c.args.index c.args.word)) c.self.view_is
