use Rattle.std.proofs.Common.{◌∙◌, [], true, sym, ap, subst}
use Rattle.jos_base.specs.Environments.{is_live}
use Rattle.jos_base.specs.declared.line.Line.TheVariants.{UserMemCheck}
use Rattle.jos_base.specs.SystemCalls.{killed}
use Rattle.jos_base.specs.TrapFrames.{from_record, words_of_bytes}
use Rattle.jos_host.specs.Frames.{around}
use Rattle.jos_sys.specs.System.{state_of, Does}
use Rattle.jos_sys.proofs.Answering.{found_live, done_does, none_is_few}
use Rattle.jos_sys.proofs.Faulting.{no_trapframe, trapframe_set, trapframe_unread, unread_ended}
use Rattle.jos_sys.proofs.system.System.env_set_trapframe.Goals as goal

pub set_registers-requires : goal.set_registers-requires
set_registers-requires g c =
    ap (λ e. is_live (e.slots c.in-Some.target)) c.in-Ok.ensures.live
    ∙ found_live _ c.args.id.0 c.args.current true c.in-Some.target c.in-Some.ensures c.requires.live

pub returns-in-Ok-clause-told : goal.returns-in-Ok-clause-told
returns-in-Ok-clause-told g c = λ input.
    done_does _ _ _ _
    (trapframe_set (state_of c.args.self.now input) _ c.args.current c.answer.result _ c.in-Some.target c.args.va c.in-Some.ensures _
    (c.in-Ok.ensures.ok input) _
    (c.from_record-registers.ensures ∙ ap from_record (c.words_of_record.ensures ∙ ap words_of_bytes c.as_slice.ensures.value)) _ _ (c.in-Ok.ensures.reached input) (c.set_registers.ensures.state input) (c.answer.ensures.state input))

pub returns-in-Ok-clause-small : goal.returns-in-Ok-clause-small
returns-in-Ok-clause-small g c = none_is_few (c.answer.ensures.state []).2

pub returns-in-Err-clause-told : goal.returns-in-Err-clause-told
returns-in-Err-clause-told g c = λ input.
    subst (λ did. Does c.kill.result did (state_of c.kill.new.self input) (around g.H.Host.console c.args.host.now c.kill.new.host))
    ((λ i. killed (state_of (c.in-Err.ensures.stays i) input) c.args.current (UserMemCheck c.in-Err.fault.va))
    ∙ sym (trapframe_unread (state_of c.args.self.now input) c.args.current _ c.in-Some.target c.args.va c.in-Some.ensures c.in-Err.fault (c.in-Err.ensures.err input)))
    (c.kill.ensures.told input)

pub returns-in-None-clause-told : goal.returns-in-None-clause-told
returns-in-None-clause-told g c = λ input.
    done_does _ _ _ _ (no_trapframe (state_of c.args.self.now input) _ c.args.current c.refuse.result _ c.args.va c.in-None.ensures (c.refuse.ensures.state input))

pub returns-in-None-clause-small : goal.returns-in-None-clause-small
returns-in-None-clause-small g c = none_is_few (c.refuse.ensures.state []).2

pub returns-in-Err-clause-ended : goal.returns-in-Err-clause-ended
returns-in-Err-clause-ended g c =
    unread_ended c.kill.result (λ input. state_of c.args.self.now input) c.args.current c.args.id.0 c.in-Some.target c.args.va c.in-Err.fault
    (λ input. c.in-Some.ensures) c.in-Err.ensures.err
