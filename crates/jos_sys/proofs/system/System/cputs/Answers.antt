use Rattle.std.proofs.Common.{◌∙◌, [], length, Ok, Err, sym, ap, subst, arith}
use Rattle.jos_base.specs.declared.line.Line.TheVariants.{UserMemCheck}
use Rattle.jos_base.specs.Environments.{is_live}
use Rattle.jos_base.specs.SystemCalls.{killed}
use Rattle.jos_host.specs.Frames.{around}
use Rattle.jos_host.specs.Gains.{Gains, GainsPart}
use Rattle.jos_sys.specs.System.{state_of, Does}
use Rattle.jos_sys.proofs.Answering.{done_does, cputs_refused, cputs_reads, cputs_answered}
use Rattle.jos_sys.proofs.system.System.cputs.Goals as goal

pub returns-then-len-gt-CPUTS_MAX-clause-told : goal.returns-then-len-gt-CPUTS_MAX-clause-told
returns-then-len-gt-CPUTS_MAX-clause-told g c = λ input.
    subst (λ did. Does (Ok c.refuse.result) did (state_of c.refuse.new.self input) (around g.H.Host.console c.args.host.now c.args.host.now))
    (sym (cputs_refused (state_of c.args.self.now input) c.args.current c.args.va c.args.len c.if-len-gt-CPUTS_MAX.true))
    (done_does _ _ _ _ (c.refuse.ensures.state input))

pub returns-then-len-gt-CPUTS_MAX-clause-small : goal.returns-then-len-gt-CPUTS_MAX-clause-small
returns-then-len-gt-CPUTS_MAX-clause-small g c = let none = (c.refuse.ensures.state []).2 in omega arith

pub answer-answer-requires-clause-live : goal.answer-answer-requires-clause-live
answer-answer-requires-clause-live g c = ap (λ e. is_live (e.slots c.args.current)) c.in-Ok.ensures.live ∙ c.requires.live

pub returns-in-Ok-console_write-clause-told : goal.returns-in-Ok-console_write-clause-told
returns-in-Ok-console_write-clause-told g c = λ input.
    let does = cputs_answered (state_of c.args.self.now input) c.args.current c.args.va c.args.len (state_of c.answer-answer.new.self input)
    _ c.in-Ok.bytes.items c.answer-answer.result c.if-len-gt-CPUTS_MAX.false
    (c.in-Ok.ensures.ok input) (c.in-Ok.ensures.reached input) (c.answer-answer.ensures.state input) in (
      does.0,
      does.1,
      c.len.ensures.value ∙ ap length does.2,
      subst (Gains (around g.H.Host.console c.args.host.now c.console_write.new.self)) (c.as_slice.ensures.value ∙ does.2) c.in-Ok-console_write.ensures.told,
    )

pub returns-in-Err-console_write-clause-told : goal.returns-in-Err-console_write-clause-told
returns-in-Err-console_write-clause-told g c = λ input.
    let does = cputs_answered (state_of c.args.self.now input) c.args.current c.args.va c.args.len (state_of c.answer-answer.new.self input)
    _ c.in-Ok.bytes.items c.answer-answer.result c.if-len-gt-CPUTS_MAX.false
    (c.in-Ok.ensures.ok input) (c.in-Ok.ensures.reached input) (c.answer-answer.ensures.state input) in
    subst (GainsPart (around g.H.Host.console c.args.host.now c.console_write.new.self)) (c.as_slice.ensures.value ∙ does.2) c.in-Err-console_write.ensures.told

pub returns-in-Err-clause-told : goal.returns-in-Err-clause-told
returns-in-Err-clause-told g c = λ input.
    subst (λ did. Does c.kill.result did (state_of c.kill.new.self input) (around g.H.Host.console c.args.host.now c.kill.new.host))
    ((λ i. killed (state_of (c.in-Err.ensures.stays i) input) c.args.current (UserMemCheck c.in-Err.fault.va))
    ∙ sym (cputs_reads (state_of c.args.self.now input) c.args.current c.args.va c.args.len (Err c.in-Err.fault) c.if-len-gt-CPUTS_MAX.false (c.in-Err.ensures.err input)))
    (c.kill.ensures.told input)
