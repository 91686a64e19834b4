use Rattle.std.proofs.Common.{◌∙◌, sym, ap}
use Rattle.jos_envs.proofs.Kept.{live_within}
use Rattle.jos_sys.specs.System.{state_of}
use Rattle.jos_base.specs.Messages.{wanting}
use Rattle.jos_base.specs.Environments.{Slot}
use Rattle.jos_sys.proofs.Sending.{receive_refused, received}
use Rattle.jos_sys.proofs.system.System.ipc_recv.Goals as goal

pub returns-then-not-is_destination-clause-state : goal.returns-then-not-is_destination-clause-state
returns-then-not-is_destination-clause-state c = λ input.
    receive_refused (state_of c.args.self.now input) _ c.args.current c.refuse.result c.args.va c.args.sender.0
    (sym c.is_destination.ensures ∙ c.if-not-is_destination.true) (c.refuse.ensures.state input)

pub environment-requires : goal.environment-requires
environment-requires c = live_within c.args.self.now.table c.args.current c.requires.live

pub returns-clause-state : goal.returns-clause-state
returns-clause-state c = λ input.
    received (state_of c.args.self.now input) _ _ c.args.current c.args.va c.args.sender.0 _ (sym c.is_destination.ensures ∙ c.if-not-is_destination.false)
    (c.want.ensures ∙ ap (λ (z : Slot). wanting z.rendezvous c.args.va c.args.sender.0) (c.environment.ensures input))
    (c.set_rendezvous.ensures.state input) (c.set_status.ensures.state input)
