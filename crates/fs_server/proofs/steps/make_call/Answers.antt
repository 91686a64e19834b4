use Rattle.std.proofs.Common.{◌≡◌, ◌∙◌, Ok, ap, subst, sym}
use Rattle.jos_host.specs.Frames.{around, from_to}
use Rattle.lib_os.specs.declared.progress.Progress.{Progress}
use Rattle.lib_os.specs.UserCalls.{Output, output}
use Rattle.fs_requests.specs.declared.plan.ServerNext.{ServerNext}
use Rattle.fs_requests.specs.ServerPlans.{next_at}
use Rattle.fs_server.specs.ServerSteps.{HasCalled, IsReply, by_word, gone_on}
use Rattle.fs_server.proofs.Stopped.{stopped_calls, stopped_fails}
use Rattle.fs_server.proofs.steps.make_call.Goals as goal

pub returns-in-Ok-clause-made : goal.returns-in-Ok-clause-made
returns-in-Ok-clause-made g c =
    let s = g.O.UserOs.state c.args.os.now in
    let n = g.O.UserOs.slot c.args.os.now in
    let mid = g.O.UserOs.state c.reply.new.os in
    let after = g.O.UserOs.state c.go_on.new.os in
    let printed = output g.H.Host.console g.O.UserOs.written (from_to c.args.host.now c.reply.new.host) (from_to c.args.os.now c.reply.new.os) in
    let behind = output g.H.Host.console g.O.UserOs.written (from_to c.args.host.now c.reply.new.host) (from_to c.args.os.now c.go_on.new.os) in
    let same : printed ≡ behind = λ i. record {
      console = around g.H.Host.console c.args.host.now c.reply.new.host;
      count = from_to (g.O.UserOs.written c.args.os.now) (sym c.go_on.ensures.written i);
    } in
    let is : after ≡ gone_on mid n (next_at c.args.state c.in-Ok.word) =
    c.go_on.ensures.state ∙ (λ i. gone_on mid (c.reply.ensures.slot i) (c.next_at.ensures i)) in
    subst (λ (done : Progress). HasCalled c.args.call c.args.state s after n behind done)
    (sym (c.go_on.ensures.seen ∙ ap (λ (next : ServerNext). next.seen) c.next_at.ensures))
    (by_word c.in-Ok.word mid (subst (λ (o : Output). IsReply c.args.call s n (Ok c.in-Ok.word) mid o) same c.in-Ok.ensures.step) is)

pub returns-in-Err-clause-made : goal.returns-in-Err-clause-made
returns-in-Err-clause-made g c =
    stopped_calls c.args.call c.args.state (g.O.UserOs.slot c.args.os.now) (g.O.UserOs.state c.args.os.now) (g.O.UserOs.state c.reply.new.os)
    (output g.H.Host.console g.O.UserOs.written (from_to c.args.host.now c.reply.new.host) (from_to c.args.os.now c.reply.new.os)) c.in-Err.stop c.stopped.result
    c.in-Err.ensures.step c.stopped.ensures

pub returns-in-Err-clause-failed : goal.returns-in-Err-clause-failed
returns-in-Err-clause-failed g c =
    stopped_fails c.args.call (g.O.UserOs.slot c.args.os.now) (g.O.UserOs.state c.args.os.now) (g.O.UserOs.state c.reply.new.os)
    (output g.H.Host.console g.O.UserOs.written (from_to c.args.host.now c.reply.new.host) (from_to c.args.os.now c.reply.new.os)) c.in-Err.stop c.stopped.result
    c.in-Err.ensures.step c.stopped.ensures
