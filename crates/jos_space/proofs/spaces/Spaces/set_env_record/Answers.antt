use Rattle.std.proofs.Common.{◌∙◌, List, ℕ, sym, ap, subst}
use Rattle.jos_base.specs.Words.{upd}
use Rattle.jos_space.specs.Frames.{Lists, AreSound, state, records}
use Rattle.jos_space.specs.contracts.spaces.Spaces.{the_view}
use Rattle.jos_space.proofs.Records.{slot_below, record_sound, record_set, record_apart}
use Rattle.jos_space.proofs.spaces.Spaces.set_env_record.Goals as goal

pub set_record-requires : goal.set_record-requires
set_record-requires c = slot_below (the_view c.self.inside) c.self.invariant c.args.slot c.requires

pub invariant_of-self : goal.invariant_of-self
invariant_of-self c =
    let l : Lists = the_view c.self.inside in
    subst (λ (all : List (List ℕ)). AreSound (record l { records = all })) (sym c.set_record.ensures) (record_sound l c.self.invariant c.args.slot c.requires c.args.words)

pub returns-clause-state : goal.returns-clause-state
returns-clause-state c = record_apart (the_view c.self.inside) c.set_record.new.records.items ∙ ap state c.self.view_is

pub returns-clause-records : goal.returns-clause-records
returns-clause-records c =
    let l : Lists = the_view c.self.inside in
    ap (λ (all : List (List ℕ)). records (record l { records = all })) c.set_record.ensures
    ∙ record_set l c.self.invariant c.args.slot c.requires c.args.words
    ∙ ap (λ (l : Lists). upd (records l) c.args.slot c.args.words) c.self.view_is
