use Rattle.std.proofs.Common.{arith}
use Rattle.jos_run.specs.Served.{kernel_state}
use Rattle.jos_run.proofs.Puts.{word_allowed, put_allowed}
use Rattle.jos_run.proofs.served.Served.put_word.Goals as goal

pub put_byte-requires-2-clause-allowed : goal.put_byte-requires-2-clause-allowed
put_byte-requires-2-clause-allowed c =
    let whole = word_allowed (kernel_state c.args.self.now) c.args.self.now.slot c.args.va c.requires.aligned c.requires.allowed in
    let first = put_allowed _ (kernel_state c.put_byte.new.self) _ _ c.args.va _ _ c.put_byte.ensures.state c.put_byte.ensures.slot whole in
    first.each 1 (omega arith)

pub put_byte-requires-3-clause-allowed : goal.put_byte-requires-3-clause-allowed
put_byte-requires-3-clause-allowed c =
    let whole = word_allowed (kernel_state c.args.self.now) c.args.self.now.slot c.args.va c.requires.aligned c.requires.allowed in
    let first = put_allowed _ (kernel_state c.put_byte.new.self) _ _ c.args.va _ _ c.put_byte.ensures.state c.put_byte.ensures.slot whole in
    let second = put_allowed _ (kernel_state c.put_byte-2.new.self) _ _ c.args.va _ _ c.put_byte-2.ensures.state c.put_byte-2.ensures.slot first in
    second.each 2 (omega arith)

pub put_byte-requires-4-clause-allowed : goal.put_byte-requires-4-clause-allowed
put_byte-requires-4-clause-allowed c =
    let whole = word_allowed (kernel_state c.args.self.now) c.args.self.now.slot c.args.va c.requires.aligned c.requires.allowed in
    let first = put_allowed _ (kernel_state c.put_byte.new.self) _ _ c.args.va _ _ c.put_byte.ensures.state c.put_byte.ensures.slot whole in
    let second = put_allowed _ (kernel_state c.put_byte-2.new.self) _ _ c.args.va _ _ c.put_byte-2.ensures.state c.put_byte-2.ensures.slot first in
    let third = put_allowed _ (kernel_state c.put_byte-3.new.self) _ _ c.args.va _ _ c.put_byte-3.ensures.state c.put_byte-3.ensures.slot second in
    third.each 3 (omega arith)
