use Rattle.std.proofs.Common.{◌∙◌, sym, arith}
use Rattle.jos_space.specs.Frames.{state}
use Rattle.jos_space.proofs.AtHand.{low_number, high_page, entry_of_low, entry_of_high}
use Rattle.jos_space.proofs.spaces.Spaces.page_entry.Goals as goal

pub returns-then-number : goal.returns-then-number
returns-then-number c = c.entry.ensures.entry ∙ sym (entry_of_low (state c.args.self.now) c.args.space c.args.number (low_number c.args.number (omega arith)))

pub returns-else-number : goal.returns-else-number
returns-else-number c = c.entry_above.ensures ∙ sym (entry_of_high (state c.args.self.now) c.args.space c.args.number (high_page c.args.number (omega arith)))
