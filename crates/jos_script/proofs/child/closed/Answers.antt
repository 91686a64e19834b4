use Rattle.std.proofs.Common.{arith}
use Rattle.jos_script.proofs.Closing.{one-closed}
use Rattle.jos_script.proofs.child.closed.Goals as goal

pub returns-then-fd-lt-DESCRIPTORS : goal.returns-then-fd-lt-DESCRIPTORS
returns-then-fd-lt-DESCRIPTORS c = λ line number answer. one-closed c.args.fd c.args.id answer (omega arith)
