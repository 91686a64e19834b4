use Rattle.std.proofs.Common.{true, sym}
use Rattle.jos_sys.specs.System.{state_of}
use Rattle.jos_sys.proofs.Answering.{found_live, self_destroyed, other_destroyed, none_destroyed}
use Rattle.jos_sys.proofs.system.System.env_destroy.Goals as goal

pub destroy-requires-clause-live : goal.destroy-requires-clause-live
destroy-requires-clause-live c = found_live _ c.args.id.0 c.args.current true c.in-Some.target c.in-Some.ensures c.requires.live

pub answer-requires-clause-live : goal.answer-requires-clause-live
answer-requires-clause-live c =
    c.destroy.ensures.live c.args.current (λ e. c.if-target-current.false (sym e)) c.requires.live

pub returns-then-target-current-clause-state : goal.returns-then-target-current-clause-state
returns-then-target-current-clause-state c = λ input.
    self_destroyed (state_of c.args.self.now input) _ c.args.current c.in-Some.target _ c.in-Some.ensures c.if-target-current.true (c.destroy.ensures.state input)

pub returns-else-target-current-clause-state : goal.returns-else-target-current-clause-state
returns-else-target-current-clause-state c = λ input.
    other_destroyed (state_of c.args.self.now input) _ c.args.current _ _ c.in-Some.target (state_of c.destroy.new.self input)
    c.in-Some.ensures c.if-target-current.false (c.destroy.ensures.state input) (c.answer.ensures.state input)

pub returns-in-None-clause-state : goal.returns-in-None-clause-state
returns-in-None-clause-state c = λ input.
    none_destroyed (state_of c.args.self.now input) _ c.args.current _ _ c.in-None.ensures (c.refuse.ensures.state input)
