use Rattle.std.proofs.Common.{◌∙◌, ◌-◌, ℕ, List, ap, slice_index}
use Rattle.lib_read.proofs.PipeBytes.{pipe_kind, pipe_letter, pipe_size, pipe_zero}
use Rattle.lib_read.proofs.stat.pipe_byte.Goals as goal

pub returns-then-at-lt6 : goal.returns-then-at-lt6
returns-then-at-lt6 c = pipe_letter c.args.held c.args.at c.if-at-lt6.true

pub returns-then-at-lt-SIZE_AT : goal.returns-then-at-lt-SIZE_AT
returns-then-at-lt-SIZE_AT c = pipe_zero c.args.held c.args.at c.if-at-lt6.false c.if-at-lt-SIZE_AT.true

pub returns-then-at : goal.returns-then-at
returns-then-at c =
    ap (λ (l : List ℕ). slice_index l (c.args.at - 128)) c.to_le_bytes-size.ensures
    ∙ pipe_size c.args.held c.args.at c.if-at-lt-SIZE_AT.false c.if-at.true

pub returns-else-at : goal.returns-else-at
returns-else-at c = pipe_kind c.args.held c.args.at c.if-at.false
