use Rattle.lib_read.proofs.TerminalBytes.{terminal_letter, terminal_zero}
use Rattle.lib_read.proofs.stat.terminal_byte.Goals as goal

pub returns-then-at-lt6 : goal.returns-then-at-lt6
returns-then-at-lt6 c = terminal_letter c.args.at c.if-at-lt6.true

pub returns-else-at-lt6 : goal.returns-else-at-lt6
returns-else-at-lt6 c = terminal_zero c.args.at c.if-at-lt6.false
