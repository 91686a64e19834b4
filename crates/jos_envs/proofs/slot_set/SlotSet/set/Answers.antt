use Rattle.std.proofs.Common.{arith}
use Rattle.jos_envs.proofs.Sets.{contains-put, contains-removed}
use Rattle.jos_envs.proofs.slot_set.SlotSet.set.Goals as goal

pub returns-then-member : goal.returns-then-member
returns-then-member c = rw c.if-member.true (λ i. λ other. contains-put c.args.self.now.words c.args.slot (omega arith) other i)

pub returns-else-member : goal.returns-else-member
returns-else-member c = rw c.if-member.false (λ i. λ other. contains-removed c.args.self.now.words c.args.slot (omega arith) other i)
