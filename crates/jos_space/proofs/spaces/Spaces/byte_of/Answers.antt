use Rattle.std.proofs.Common.{◌∙◌, ◌/◌, sym, arith}
use Rattle.jos_space.specs.Frames.{state, records}
use Rattle.jos_space.proofs.AtHand.{low_page, high_page, byte_below, byte_above}
use Rattle.jos_space.proofs.spaces.Spaces.byte_of.Goals as goal

pub returns-then-va-lt-UTOP : goal.returns-then-va-lt-UTOP
returns-then-va-lt-UTOP c =
    c.byte.ensures ∙ sym (byte_below (records c.args.self.now) (state c.args.self.now) c.args.space c.args.va _ (low_page c.args.va (omega arith)))

pub returns-else-va-lt-UTOP : goal.returns-else-va-lt-UTOP
returns-else-va-lt-UTOP c =
    c.window_byte.ensures
    ∙ sym (byte_above (records c.args.self.now) (state c.args.self.now) c.args.space c.args.va (record { frame = c.args.location.frame.0; offset = c.args.location.offset }) (high_page (c.args.va / 4096) (omega arith)))
