use Rattle.std.proofs.Common.{◌≡◌, ◌∙◌, ℕ, Ok, true, ap, subst, sym}
use Rattle.jos_host.specs.Frames.{around, from_to}
use Rattle.jos_base.specs.Environments.{is_live}
use Rattle.jos_base.specs.KernelState.{slot_at}
use Rattle.lib_os.specs.declared.progress.Progress.{Progress}
use Rattle.lib_os.specs.MadeCalls.{MakesServersCall}
use Rattle.lib_os.specs.UserCalls.{Output, output}
use Rattle.lib_os.proofs.CallsMade.{then_set}
use Rattle.fs_requests.specs.declared.plan.ServerNext.{ServerNext}
use Rattle.fs_requests.specs.ServerPlans.{next_at}
use Rattle.fs_tree.specs.declared.steps.Acted.{Acted}
use Rattle.fs_tree.specs.TreeMakes.{CallsWhereTold}
use Rattle.fs_tree.specs.TreeSteps.{LivesWhereAnswered, StepsWhereTold}
use Rattle.fs_tree.proofs.TiesLaw.{quiet_still}
use Rattle.fs_server.specs.ServerSteps.{WorksWhereTold, gone_on}
use Rattle.fs_server.proofs.JobsWorked.{works_answers, works_going}
use Rattle.fs_server.proofs.ServerMade.{server_sets}
use Rattle.fs_server.proofs.steps.work.Goals as goal

pub go_on-requires : goal.go_on-requires
go_on-requires g c =
    let mid = g.O.UserOs.state c.tree_step.new.os in
    let lives = subst (λ (x : Acted). LivesWhereAnswered (Ok x) (slot_at mid (g.O.UserOs.slot c.args.os.now))) c.in-Ok-Answer.field-0-is c.in-Ok-Answer.ensures.lives in
    record { live = subst (λ (m : ℕ). is_live (slot_at mid m) ≡ true) (sym c.tree_step.ensures.slot) lives }

pub returns-in-Ok-Going-clause-told : goal.returns-in-Ok-Going-clause-told
returns-in-Ok-Going-clause-told g c =
    let s = g.O.UserOs.state c.args.os.now in
    let files = around g.H.Host.files c.args.host.now c.tree_step.new.host in
    works_going c.args.state (g.O.UserOs.disk c.args.os.now) (g.O.UserOs.slot c.args.os.now) s (g.O.UserOs.state c.tree_step.new.os) files
    (subst (λ (x : Acted). StepsWhereTold (Ok x) (g.O.UserOs.disk c.args.os.now) (g.O.UserOs.slot c.args.os.now) (from_to s (g.O.UserOs.state c.tree_step.new.os)) files)
    c.in-Ok-Going.field-0-is c.in-Ok-Going.ensures.told)
    (subst (λ (x : Acted). CallsWhereTold (Ok x) (g.O.UserOs.disk c.args.os.now) (g.O.UserOs.slot c.args.os.now) (from_to s (g.O.UserOs.state c.tree_step.new.os)) files)
    c.in-Ok-Going.field-0-is c.in-Ok-Going.ensures.call)

pub returns-in-Ok-Answer-clause-told : goal.returns-in-Ok-Answer-clause-told
returns-in-Ok-Answer-clause-told g c =
    let s = g.O.UserOs.state c.args.os.now in
    let n = g.O.UserOs.slot c.args.os.now in
    let disk = g.O.UserOs.disk c.args.os.now in
    let files = around g.H.Host.files c.args.host.now c.tree_step.new.host in
    let mid = g.O.UserOs.state c.tree_step.new.os in
    let after = g.O.UserOs.state c.go_on.new.os in
    let told = subst (λ (x : Acted). StepsWhereTold (Ok x) disk n (from_to s mid) files) c.in-Ok-Answer.field-0-is c.in-Ok-Answer.ensures.told in
    let calls = subst (λ (x : Acted). CallsWhereTold (Ok x) disk n (from_to s mid) files) c.in-Ok-Answer.field-0-is c.in-Ok-Answer.ensures.call in
    let is : after ≡ gone_on mid n (next_at c.args.state c.in-Ok-Answer.word) =
    c.go_on.ensures.state ∙ (λ i. gone_on mid (c.tree_step.ensures.slot i) (c.next_at.ensures i)) in
    subst (λ (done : Progress). WorksWhereTold c.args.state (Ok done) disk n (from_to s after) files)
    (sym (c.go_on.ensures.seen ∙ ap (λ (next : ServerNext). next.seen) c.next_at.ensures))
    (works_answers c.args.state disk n c.in-Ok-Answer.word s mid after files told calls is)

pub returns-in-Ok-Going-clause-quiet : goal.returns-in-Ok-Going-clause-quiet
returns-in-Ok-Going-clause-quiet g c = c.in-Ok-Going.ensures.quiet

pub returns-in-Ok-Answer-clause-quiet : goal.returns-in-Ok-Answer-clause-quiet
returns-in-Ok-Answer-clause-quiet g c =
    let printed = output g.H.Host.console g.O.UserOs.written (from_to c.args.host.now c.tree_step.new.host) (from_to c.args.os.now c.tree_step.new.os) in
    λ before is h lawful. quiet_still printed (g.O.UserOs.written c.go_on.new.os) c.go_on.ensures.written (c.in-Ok-Answer.ensures.quiet before is h lawful)

pub returns-in-Err-clause-quiet : goal.returns-in-Err-clause-quiet
returns-in-Err-clause-quiet g c = c.in-Err.ensures.quiet

pub returns-in-Ok-Going-clause-made : goal.returns-in-Ok-Going-clause-made
returns-in-Ok-Going-clause-made g c = c.in-Ok-Going.ensures.made

pub returns-in-Ok-Answer-clause-made : goal.returns-in-Ok-Answer-clause-made
returns-in-Ok-Answer-clause-made g c =
    let s = g.O.UserOs.state c.args.os.now in
    let n = g.O.UserOs.slot c.args.os.now in
    let disk = g.O.UserOs.disk c.args.os.now in
    let files = around g.H.Host.files c.args.host.now c.tree_step.new.host in
    let mid = g.O.UserOs.state c.tree_step.new.os in
    let after = g.O.UserOs.state c.go_on.new.os in
    let printed = output g.H.Host.console g.O.UserOs.written (from_to c.args.host.now c.tree_step.new.host) (from_to c.args.os.now c.tree_step.new.os) in
    let behind = output g.H.Host.console g.O.UserOs.written (from_to c.args.host.now c.tree_step.new.host) (from_to c.args.os.now c.go_on.new.os) in
    let same : printed ≡ behind = λ i. record {
      console = around g.H.Host.console c.args.host.now c.tree_step.new.host;
      count = from_to (g.O.UserOs.written c.args.os.now) (sym c.go_on.ensures.written i);
    } in
    let is : after ≡ gone_on mid n (next_at c.args.state c.in-Ok-Answer.word) =
    c.go_on.ensures.state ∙ (λ i. gone_on mid (c.tree_step.ensures.slot i) (c.next_at.ensures i)) in
    then_set s mid after n disk files behind
    (subst (λ (o : Output). MakesServersCall (from_to s mid) n disk files o) same c.in-Ok-Answer.ensures.made)
    (server_sets mid after n (next_at c.args.state c.in-Ok-Answer.word) is)
