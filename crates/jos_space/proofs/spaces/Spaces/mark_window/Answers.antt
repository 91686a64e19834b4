use Rattle.std.proofs.Common.{◌∙◌, ◌%◌, sym, arith}
use Rattle.jos_space.specs.Frames.{state}
use Rattle.jos_space.proofs.Marking.{not_some, nothing_marked, window_marked, regions_past}
use Rattle.jos_space.proofs.TableLists.{not_there}
use Rattle.jos_space.proofs.spaces.Spaces.mark_window.Goals as goal

pub returns-then-index-ge-REGION_LIMIT-clause-state : goal.returns-then-index-ge-REGION_LIMIT-clause-state
returns-then-index-ge-REGION_LIMIT-clause-state c =
    nothing_marked (state c.args.self.now) c.args.space (c.args.number % 1024) (regions_past c.args.self.now c.args.space (c.args.number % 1024) (omega arith))
    ∙ window_marked (state c.args.self.now) c.args.space c.args.number (omega arith)

pub returns-else-is_some-clause-state : goal.returns-else-is_some-clause-state
returns-else-is_some-clause-state c =
    let none = not_some c.table.result (sym c.is_some.ensures ∙ c.if-is_some.false) ∙ c.table.ensures in
    nothing_marked (state c.args.self.now) c.args.space (c.args.number % 1024) (not_there (state c.args.self.now) c.args.space (c.args.number % 1024) none)
    ∙ window_marked (state c.args.self.now) c.args.space c.args.number (omega arith)
