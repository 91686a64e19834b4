use Rattle.std.proofs.Common.{◌∙◌, [], sym, ap, subst}
use Rattle.jos_base.specs.declared.environment.Status.TheVariants.{Runnable}
use Rattle.jos_base.specs.Messages.{accepts, delivered}
use Rattle.jos_base.specs.Environments.{with_answer}
use Rattle.jos_base.specs.KernelState.{slot_at, with_slot_at, with_rendezvous}
use Rattle.jos_base.specs.SystemCalls.{answered}
use Rattle.jos_envs.proofs.Kept.{live_within}
use Rattle.jos_sys.specs.System.{state_of, IsDone}
use Rattle.jos_sys.proofs.Sending.{offer_taken, some_same, woken_is}
use Rattle.jos_sys.proofs.system.System.send.Goals as goal

pub environment-requires : goal.environment-requires
environment-requires c = live_within c.args.self.now.table c.args.current c.requires.live

pub environment-requires-2 : goal.environment-requires-2
environment-requires-2 c = live_within c.args.self.now.table c.args.target c.requires.target

pub unreachable-requires : goal.unreachable-requires
unreachable-requires c =
    let waits = (λ i. accepts ((c.environment-2.ensures []) i).rendezvous ((c.environment.ensures []) i).id) ∙ c.requires.accepts [] in
    let both = sym (offer_taken _ _ c.args.value c.args.perm waits) ∙ c.in-NotReceiving.ensures.taken in
    cc

pub returns-clause-state : goal.returns-clause-state
returns-clause-state c = λ input.
    let k = state_of c.args.self.now input in
    let waits = (λ i. accepts ((c.environment-2.ensures input) i).rendezvous ((c.environment.ensures input) i).id) ∙ c.requires.accepts input in
    let is = some_same (sym c.in-Taken.ensures.taken ∙ offer_taken _ _ c.args.value c.args.perm waits)
    ∙ (λ i. delivered ((c.environment-2.ensures input) i).rendezvous ((c.environment.ensures input) i).id c.args.value c.args.perm) in
    let was = c.set_rendezvous.ensures.state input ∙ ap (with_rendezvous k c.args.target) is in
    let woken = woken_is (state_of c.set_rendezvous.new.self input) (state_of c.set_status.new.self input) (state_of c.set_registers.new.self input) c.args.target
    c.registers-registers.result (c.set_status.ensures.state input) (c.registers-registers.ensures input) (c.set_registers.ensures.state input)
    ∙ ap (λ s. with_slot_at s c.args.target (with_answer (record (slot_at s c.args.target) { status = Runnable }) 0)) was in
    subst (λ s. IsDone c.answer.result (answered s c.args.current 0) (state_of c.answer.new.self input)) woken (c.answer.ensures.state input)
