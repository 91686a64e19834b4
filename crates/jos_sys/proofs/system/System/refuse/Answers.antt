use Rattle.std.proofs.Common.{subst}
use Rattle.jos_base.specs.SystemCalls.{answered}
use Rattle.jos_sys.specs.System.{state_of, IsDone}
use Rattle.jos_sys.proofs.Answering.{negated_is}
use Rattle.jos_sys.proofs.system.System.refuse.Goals as goal

pub returns-clause-state : goal.returns-clause-state
returns-clause-state c = λ input.
    subst (λ answer. IsDone c.answer.result (answered (state_of c.args.self.now input) c.args.current answer) (state_of c.answer.new.self input))
    (negated_is c.args.error c.code.result c.code.ensures) (c.answer.ensures.state input)
