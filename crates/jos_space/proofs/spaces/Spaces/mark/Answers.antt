use Rattle.std.proofs.Common.{◌∙◌, ◌/◌, sym, arith}
use Rattle.jos_space.specs.Frames.{state}
use Rattle.jos_space.proofs.AtHand.{low_page, high_page, bits_below, bits_above}
use Rattle.jos_space.proofs.spaces.Spaces.mark.Goals as goal

pub returns-then-va-lt-UTOP-clause-state : goal.returns-then-va-lt-UTOP-clause-state
returns-then-va-lt-UTOP-clause-state c =
    c.mark_page.ensures.state
    ∙ sym (bits_below (state c.args.self.now) c.args.space (c.args.va / 4096) c.args.access (low_page c.args.va (omega arith)))

pub returns-else-va-lt-UTOP-clause-state : goal.returns-else-va-lt-UTOP-clause-state
returns-else-va-lt-UTOP-clause-state c =
    c.mark_window.ensures.state
    ∙ sym (bits_above (state c.args.self.now) c.args.space (c.args.va / 4096) c.args.access (high_page (c.args.va / 4096) (omega arith)))
