use Rattle.std.proofs.Common.{◌∙◌, ◌/◌, sym, ap}
use Rattle.std.specs.Option.{option_map, is_some}
use Rattle.jos_base.specs.SpacesState.{SpacesState, Region}
use Rattle.jos_space.specs.Frames.{state}
use Rattle.jos_space.proofs.Marking.{marked_table}
use Rattle.jos_space.proofs.TableLists.{not_there}
use Rattle.jos_space.proofs.Walks.{entry_place}
use Rattle.jos_space.proofs.spaces.Spaces.mark_page.Goals as goal

pub table-requires-clause-index : goal.table-requires-clause-index
table-requires-clause-index c = (entry_place c.args.self.now c.args.space c.args.number c.requires.entry).0

pub mark_entry-requires-clause-region : goal.mark_entry-requires-clause-region
mark_entry-requires-clause-region c =
    ap (λ (s : SpacesState). option_map (λ (r : Region). r.table) (s.regions c.args.space (c.args.number / 1024))) c.mark_region.ensures.state
    ∙ marked_table (state c.args.self.now) c.args.space (c.args.number / 1024) c.in-Some.table (sym c.in-Some.ensures)

pub returns-in_default-clause-state : goal.returns-in_default-clause-state
returns-in_default-clause-state c =
    let there = (entry_place c.args.self.now c.args.space c.args.number c.requires.entry).1 in
    let none = not_there (state c.args.self.now) c.args.space (c.args.number / 1024) c.in_default.ensures in
    let lost = ap (is_some {T = Region}) none in
    absurd cc
