use Rattle.std.proofs.Common.{◌≡◌, ◌∙◌, ℕ, Ok, true, ap, subst, sym}
use Rattle.jos_host.specs.Frames.{around, from_to}
use Rattle.jos_base.specs.Environments.{is_live}
use Rattle.jos_base.specs.KernelState.{slot_at}
use Rattle.lib_os.specs.declared.progress.Progress.{Progress}
use Rattle.lib_os.specs.UserCalls.{Output, output}
use Rattle.fs_cache.specs.declared.steps.Flushed.{Flushed}
use Rattle.fs_cache.specs.CacheSteps.{FlushTold, IsFlushStep, KeepsCacheWhereDone, caller}
use Rattle.fs_requests.specs.declared.plan.ServerNext.{ServerNext}
use Rattle.fs_requests.specs.ServerPlans.{next_at}
use Rattle.fs_server.specs.ServerSteps.{IsFlushed, gone_on}
use Rattle.fs_server.proofs.Flushed.{clean_live, flush_ends, flush_going}
use Rattle.fs_server.proofs.steps.flush.Goals as goal

pub go_on-requires : goal.go_on-requires
go_on-requires g c =
    let s = g.O.UserOs.state c.args.os.now in
    let n = g.O.UserOs.slot c.args.os.now in
    let disk = g.O.UserOs.disk c.args.os.now in
    let files = around g.H.Host.files c.args.host.now c.flush_step.new.host in
    let mid = g.O.UserOs.state c.flush_step.new.os in
    let printed = output g.H.Host.console g.O.UserOs.written (from_to c.args.host.now c.flush_step.new.host) (from_to c.args.os.now c.flush_step.new.os) in
    record {
      live = subst (λ (m : ℕ). is_live (slot_at mid m) ≡ true) (sym c.flush_step.ensures.slot)
          (clean_live disk n s mid files printed c.requires.live
          (subst (λ (x : Flushed). IsFlushStep (caller s n disk) (Ok x) files mid printed) c.in-Ok-Clean.field-0-is c.in-Ok-Clean.ensures.made));
    }

pub returns-in-Ok-Going-clause-made : goal.returns-in-Ok-Going-clause-made
returns-in-Ok-Going-clause-made g c =
    let s = g.O.UserOs.state c.args.os.now in
    let n = g.O.UserOs.slot c.args.os.now in
    let disk = g.O.UserOs.disk c.args.os.now in
    let files = around g.H.Host.files c.args.host.now c.flush_step.new.host in
    let mid = g.O.UserOs.state c.flush_step.new.os in
    let printed = output g.H.Host.console g.O.UserOs.written (from_to c.args.host.now c.flush_step.new.host) (from_to c.args.os.now c.flush_step.new.os) in
    flush_going c.args.state disk n s mid files printed
    (subst (λ (x : Flushed). IsFlushStep (caller s n disk) (Ok x) files mid printed) c.in-Ok-Going.field-0-is c.in-Ok-Going.ensures.made)
    (subst (λ (x : Flushed). KeepsCacheWhereDone (Ok x) disk n (from_to s mid) files) c.in-Ok-Going.field-0-is c.in-Ok-Going.ensures.cache)
    (subst (λ (x : Flushed). FlushTold (Ok x) disk n (from_to s mid) files.before) c.in-Ok-Going.field-0-is c.in-Ok-Going.ensures.tells)

pub returns-in-Ok-Clean-clause-made : goal.returns-in-Ok-Clean-clause-made
returns-in-Ok-Clean-clause-made g c =
    let s = g.O.UserOs.state c.args.os.now in
    let n = g.O.UserOs.slot c.args.os.now in
    let disk = g.O.UserOs.disk c.args.os.now in
    let files = around g.H.Host.files c.args.host.now c.flush_step.new.host in
    let mid = g.O.UserOs.state c.flush_step.new.os in
    let after = g.O.UserOs.state c.go_on.new.os in
    let printed = output g.H.Host.console g.O.UserOs.written (from_to c.args.host.now c.flush_step.new.host) (from_to c.args.os.now c.flush_step.new.os) in
    let behind = output g.H.Host.console g.O.UserOs.written (from_to c.args.host.now c.flush_step.new.host) (from_to c.args.os.now c.go_on.new.os) in
    let same : printed ≡ behind = λ i. record {
      console = around g.H.Host.console c.args.host.now c.flush_step.new.host;
      count = from_to (g.O.UserOs.written c.args.os.now) (sym c.go_on.ensures.written i);
    } in
    let is : after ≡ gone_on mid n (next_at c.args.state 0) =
    c.go_on.ensures.state ∙ (λ i. gone_on mid (c.flush_step.ensures.slot i) (c.next_at.ensures i)) in
    subst (λ (done : Progress). IsFlushed c.args.state (Ok done) disk n (from_to s after) files behind)
    (sym (c.go_on.ensures.seen ∙ ap (λ (next : ServerNext). next.seen) c.next_at.ensures))
    (flush_ends c.args.state disk n s mid after files behind
    (subst (λ (x : Flushed). IsFlushStep (caller s n disk) (Ok x) files mid behind) c.in-Ok-Clean.field-0-is
    (subst (λ (o : Output). IsFlushStep (caller s n disk) (Ok c.in-Ok-Clean.field-0) files mid o) same c.in-Ok-Clean.ensures.made))
    (subst (λ (x : Flushed). KeepsCacheWhereDone (Ok x) disk n (from_to s mid) files) c.in-Ok-Clean.field-0-is c.in-Ok-Clean.ensures.cache)
    (subst (λ (x : Flushed). FlushTold (Ok x) disk n (from_to s mid) files.before) c.in-Ok-Clean.field-0-is c.in-Ok-Clean.ensures.tells) is)
