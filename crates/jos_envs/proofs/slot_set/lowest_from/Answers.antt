use Rattle.std.proofs.Common.{arith}
use Rattle.jos_envs.proofs.Sets.{none_from, lowest_is}
use Rattle.jos_envs.proofs.slot_set.lowest_from.Goals as goal

pub returns-then-rest-eq0 : goal.returns-then-rest-eq0
returns-then-rest-eq0 c = none_from c.args.word c.args.place c.if-rest-eq0.true

pub returns-else-rest-eq0 : goal.returns-else-rest-eq0
returns-else-rest-eq0 c = lowest_is c.args.word c.args.place (omega arith) (omega arith)
