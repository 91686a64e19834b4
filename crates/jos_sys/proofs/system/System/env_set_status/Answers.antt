use Rattle.std.proofs.Common.{◌∙◌, true, sym}
use Rattle.jos_sys.specs.System.{state_of}
use Rattle.jos_sys.proofs.Answering.{found_live, status_set, wrong_set, none_set}
use Rattle.jos_sys.proofs.system.System.env_set_status.Goals as goal

pub set_status-requires-clause-live : goal.set_status-requires-clause-live
set_status-requires-clause-live c =
    found_live _ c.args.id.0 c.args.current true c.in-Some-Some.target c.in-Some-Some.ensures c.requires.live

pub answer-requires-clause-live : goal.answer-requires-clause-live
answer-requires-clause-live c = c.set_status.ensures.live c.args.current c.requires.live

pub answer-requires-clause-spaces : goal.answer-requires-clause-spaces
answer-requires-clause-spaces c = c.set_status.ensures.spaces c.requires.spaces

pub returns-in-Some-Some-clause-state : goal.returns-in-Some-Some-clause-state
returns-in-Some-Some-clause-state c = λ input.
    status_set (state_of c.args.self.now input) _ c.args.current _ _ c.in-Some-Some.target c.args.status c.in-Some-Some.status (state_of c.set_status.new.self input)
    c.in-Some-Some.ensures c.in-Some-Some.is-1 (c.set_status.ensures.state input) (c.answer.ensures.state input)

pub returns-in-Some-None-clause-state : goal.returns-in-Some-None-clause-state
returns-in-Some-None-clause-state c = λ input.
    wrong_set (state_of c.args.self.now input) _ c.args.current _ _ _ c.args.status c.in-Some-None.ensures c.in-Some-None.is-1 (c.refuse.ensures.state input)

pub returns-in-None-default-clause-state : goal.returns-in-None-default-clause-state
returns-in-None-default-clause-state c = λ input.
    none_set (state_of c.args.self.now input) _ c.args.current _ _ c.args.status (sym c.in-None-default.is-0 ∙ c.find.ensures)
    (c.refuse-in-None-default.ensures.state input)
