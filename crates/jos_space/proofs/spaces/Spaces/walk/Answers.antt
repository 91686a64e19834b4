use Rattle.std.proofs.Common.{◌∙◌, ◌/◌, sym, arith}
use Rattle.jos_space.specs.Frames.{state}
use Rattle.jos_space.proofs.AtHand.{low_page}
use Rattle.jos_space.proofs.spaces.Spaces.walk.Goals as goal
use Rattle.jos_base.proofs.Walks.{walked_below}

pub returns-then-va-lt-UTOP-clause-entry : goal.returns-then-va-lt-UTOP-clause-entry
returns-then-va-lt-UTOP-clause-entry c =
    c.entry.ensures.entry ∙ sym (walked_below (state c.args.self.now) c.args.space (c.args.va / 4096) (low_page c.args.va (omega arith)))
