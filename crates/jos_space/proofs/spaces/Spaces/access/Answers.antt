use Rattle.std.proofs.Common.{◌∙◌, ◌/◌, sym, ap, Option}
use Rattle.jos_base.specs.Reach.{Entry, reach_entry}
use Rattle.jos_base.specs.SpacesState.{SpacesState, is_directory}
use Rattle.jos_space.specs.Frames.{state}
use Rattle.jos_space.proofs.AtHand.{low_page}
use Rattle.jos_space.proofs.Keeping.{keeps_same, bits_uses}
use Rattle.jos_space.proofs.Marking.{touched_fault, touched_ok, reached_some}
use Rattle.jos_space.proofs.spaces.Spaces.access.Goals as goal
use Rattle.jos_base.proofs.Walks.{walked_below}

pub mark-requires-clause-entry : goal.mark-requires-clause-entry
mark-requires-clause-entry c below =
    reached_some ((state c.args.self.now).entries c.args.space.directory.0 (c.args.va / 4096)) c.args.va c.args.access _
    (ap (λ (o : Option Entry). reach_entry o c.args.va c.args.access) (sym (walked_below (state c.args.self.now) c.args.space.directory.0 (c.args.va / 4096) (low_page c.args.va below)))
    ∙ sym c.in-Ok.ensures.result)

pub returns-in-Err-clause-after : goal.returns-in-Err-clause-after
returns-in-Err-clause-after c = touched_fault (state c.args.self.now) c.args.space.directory.0 c.args.va c.args.access _ (sym c.in-Err.ensures.result)

pub returns-in-Ok-clause-after : goal.returns-in-Ok-clause-after
returns-in-Ok-clause-after c =
    c.mark.ensures.state ∙ touched_ok (state c.args.self.now) c.args.space.directory.0 c.args.va c.args.access _ (sym c.in-Ok.ensures.result)

pub returns-in-Ok-clause-page : goal.returns-in-Ok-clause-page
returns-in-Ok-clause-page c below =
    ap (λ (s : SpacesState). s.uses c.in-Ok.location.frame.0) c.mark.ensures.state
    ∙ (λ i. bits_uses (state c.args.self.now) c.args.space.directory.0 (c.args.va / 4096) c.args.access i c.in-Ok.location.frame.0)
    ∙ c.in-Ok.ensures.page below

pub returns-in-Ok-clause-kept : goal.returns-in-Ok-clause-kept
returns-in-Ok-clause-kept c =
    keeps_same (state c.args.self.now) (state c.mark.new.self)
    (ap (λ (s : SpacesState). s.uses) c.mark.ensures.state ∙ bits_uses (state c.args.self.now) c.args.space.directory.0 (c.args.va / 4096) c.args.access)

pub returns-in-Ok-clause-directories : goal.returns-in-Ok-clause-directories
returns-in-Ok-clause-directories c =
    (λ i. λ f. is_directory ((c.mark.ensures.state i).uses f))
    ∙ (λ i. λ f. is_directory (bits_uses (state c.args.self.now) c.args.space.directory.0 (c.args.va / 4096) c.args.access i f))
