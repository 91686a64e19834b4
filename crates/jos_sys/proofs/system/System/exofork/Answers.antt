use Rattle.std.proofs.Common.{◌∙◌, sym, ap}
use Rattle.jos_base.specs.Environments.{Slot}
use Rattle.jos_base.specs.KernelState.{with_refusal}
use Rattle.jos_base.specs.SystemCalls.{environment_made}
use Rattle.jos_envs.proofs.Kept.{live_within}
use Rattle.jos_sys.specs.System.{state_of}
use Rattle.jos_sys.proofs.Answering.{forked, unforked}
use Rattle.jos_sys.proofs.system.System.exofork.Goals as goal

pub environment-parent-requires : goal.environment-parent-requires
environment-parent-requires c = live_within c.args.self.now.table c.args.current c.requires.live

pub set_registers-requires : goal.set_registers-requires
set_registers-requires c = c.in-Ok.ensures.is_live

pub environment-requires : goal.environment-requires
environment-requires c = live_within c.make_environment.new.self.table c.in-Ok.child c.in-Ok.ensures.is_live

pub answer-requires-clause-live : goal.answer-requires-clause-live
answer-requires-clause-live c =
    c.set_registers.ensures.live c.args.current (c.in-Ok.ensures.live c.args.current c.requires.live)

pub answer-requires-clause-spaces : goal.answer-requires-clause-spaces
answer-requires-clause-spaces c = c.set_registers.ensures.spaces c.in-Ok.ensures.spaces

pub refuse-requires-clause-live : goal.refuse-requires-clause-live
refuse-requires-clause-live c = c.in-Err.ensures.live c.args.current c.requires.live

pub returns-in-Ok-clause-state : goal.returns-in-Ok-clause-state
returns-in-Ok-clause-state c = λ input.
    forked (state_of c.args.self.now input) _ c.args.current _ c.in-Ok.child c.environment.result.id.0 c.environment-parent.result.registers
    (state_of c.make_environment.new.self input) (state_of c.set_registers.new.self input)
    (ap (environment_made (state_of c.args.self.now input)) (sym (ap (λ (z : Slot). z.id) (c.environment-parent.ensures input))) ∙ c.in-Ok.ensures.ok input)
    (ap (λ (z : Slot). z.registers) (c.environment-parent.ensures input)) (c.set_registers.ensures.state input)
    (ap (λ (z : Slot). z.id) (c.environment.ensures input)) (c.answer.ensures.state input)

pub returns-in-Err-clause-state : goal.returns-in-Err-clause-state
returns-in-Err-clause-state c = λ input.
    unforked (state_of c.args.self.now input) _ c.args.current _ c.in-Err.error _
    (ap (environment_made (state_of c.args.self.now input)) (sym (ap (λ (z : Slot). z.id) (c.environment-parent.ensures input))) ∙ c.in-Err.ensures.err input)
    (ap (λ r. record (state_of c.make_environment.new.self input) { refusals = r }) c.saturating_add-self.ensures ∙ ap with_refusal (c.in-Err.ensures.stays input))
    (c.refuse.ensures.state input)
