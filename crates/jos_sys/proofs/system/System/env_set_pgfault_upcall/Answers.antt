use Rattle.std.proofs.Common.{true}
use Rattle.jos_sys.specs.System.{state_of}
use Rattle.jos_sys.proofs.Answering.{found_live}
use Rattle.jos_sys.proofs.Faulting.{no_upcall, upcall_set}
use Rattle.jos_sys.proofs.system.System.env_set_pgfault_upcall.Goals as goal

pub set_upcall-requires : goal.set_upcall-requires
set_upcall-requires c = record { live = found_live _ c.args.id.0 c.args.current true c.in-Some.target c.in-Some.ensures c.requires.live }

pub returns-in-Some-clause-state : goal.returns-in-Some-clause-state
returns-in-Some-clause-state c = λ input.
    upcall_set (state_of c.args.self.now input) _ c.args.current c.answer.result _ c.in-Some.target c.args.address c.in-Some.ensures _
    (c.set_upcall.ensures.state input) (c.answer.ensures.state input)

pub returns-in-None-clause-state : goal.returns-in-None-clause-state
returns-in-None-clause-state c = λ input.
    no_upcall (state_of c.args.self.now input) _ c.args.current c.refuse.result _ c.args.address c.in-None.ensures (c.refuse.ensures.state input)
