use Rattle.std.proofs.Common.{◌≡◌, ◌∙◌, ℕ, Ok, ap, subst, sym}
use Rattle.jos_host.specs.Frames.{around, from_to}
use Rattle.jos_base.specs.KernelState.{slot_at, with_extra, with_registers}
use Rattle.lib_os.specs.MadeCalls.{MakesServersCall}
use Rattle.lib_os.specs.UserCalls.{Output, output}
use Rattle.lib_os.proofs.CallsMade.{then_set}
use Rattle.fs_jobs.specs.declared.place.TreeState.{TreeState}
use Rattle.fs_tree.specs.declared.steps.Acted.TheVariants.{Answer, Going}
use Rattle.fs_tree.specs.declared.steps.Done.{Done}
use Rattle.fs_tree.specs.declared.steps.Done.TheVariants as done
use Rattle.fs_tree.specs.TreeMakes.{CallsWhereInside, DoesWhereTold}
use Rattle.fs_places.specs.TreePlaces.{registers_with, words_with}
use Rattle.fs_runs.specs.TreePlans.{ask_at, next_at}
use Rattle.fs_tree.specs.TreeSteps.{StepsWhereTold, job_in}
use Rattle.fs_tree.proofs.AccessMade.{job_sets}
use Rattle.fs_tree.proofs.TiesLaw.{known_state, quiet_still, set_calls, set_leaves_rest, step_answers, step_calls, step_failed_quietly, step_goes_on, step_going, step_lacks, step_leaves_rest}
use Rattle.fs_tree.proofs.TiesLaw.{step_prints}
use Rattle.fs_tree.proofs.steps.tree_step.Goals as goal

pub returns-in-Answer-clause-told : goal.returns-in-Answer-clause-told
returns-in-Answer-clause-told g c =
    let s = g.O.UserOs.state c.args.os.now in
    let n = g.O.UserOs.slot c.args.os.now in
    let disk = g.O.UserOs.disk c.args.os.now in
    let files = around g.H.Host.files c.args.host.now c.make.new.host in
    let mid = g.O.UserOs.state c.make.new.os in
    let known : c.find_state-state.result ≡ job_in s n =
    known_state s n c.find_state-state.result c.registers-registers.result c.extra-extra.result.0 c.find_state-state.ensures
    c.registers-registers.ensures c.extra-extra.ensures in
    let asks : c.ask_at.result ≡ ask_at (job_in s n) = c.ask_at.ensures ∙ ap (λ (t : TreeState). ask_at t) known in
    let does = subst (λ (x : Done). DoesWhereTold c.ask_at.result (Ok x) disk n (from_to s mid) files) c.in-Ok-Word.field-0-is c.in-Ok-Word.ensures.told in
    step_answers disk n s mid files c.ask_at.result asks c.in-Ok-Word.word does c.in-Answer.answer
    (ap (λ (t : TreeState). next_at t c.in-Ok-Word.word) (sym known) ∙ sym c.in-Answer.ensures)

pub returns-in-GoOn-clause-told : goal.returns-in-GoOn-clause-told
returns-in-GoOn-clause-told g c =
    let s = g.O.UserOs.state c.args.os.now in
    let n = g.O.UserOs.slot c.args.os.now in
    let disk = g.O.UserOs.disk c.args.os.now in
    let files = around g.H.Host.files c.args.host.now c.make.new.host in
    let mid = g.O.UserOs.state c.make.new.os in
    let known : c.find_state-state.result ≡ job_in s n =
    known_state s n c.find_state-state.result c.registers-registers.result c.extra-extra.result.0 c.find_state-state.ensures
    c.registers-registers.ensures c.extra-extra.ensures in
    let asks : c.ask_at.result ≡ ask_at (job_in s n) = c.ask_at.ensures ∙ ap (λ (t : TreeState). ask_at t) known in
    let does = subst (λ (x : Done). DoesWhereTold c.ask_at.result (Ok x) disk n (from_to s mid) files) c.in-Ok-Word.field-0-is c.in-Ok-Word.ensures.told in
    let next = c.in-GoOn.next in
    let after = g.O.UserOs.state c.go_on.new.os in
    step_goes_on disk n s mid files c.ask_at.result asks c.in-Ok-Word.word does next after
    (ap (λ (t : TreeState). next_at t c.in-Ok-Word.word) (sym known) ∙ sym c.in-GoOn.ensures) c.go_on.ensures.in_order
    (subst (λ (m : ℕ). after ≡ with_extra (with_registers mid m (registers_with (slot_at mid m).registers next)) m (words_with (slot_at mid m).extra next))
    c.make.ensures.slot c.go_on.ensures.state)

pub returns-in-Ok-Going-clause-told : goal.returns-in-Ok-Going-clause-told
returns-in-Ok-Going-clause-told g c =
    let s = g.O.UserOs.state c.args.os.now in
    let n = g.O.UserOs.slot c.args.os.now in
    let disk = g.O.UserOs.disk c.args.os.now in
    let files = around g.H.Host.files c.args.host.now c.make.new.host in
    let mid = g.O.UserOs.state c.make.new.os in
    let known : c.find_state-state.result ≡ job_in s n =
    known_state s n c.find_state-state.result c.registers-registers.result c.extra-extra.result.0 c.find_state-state.ensures
    c.registers-registers.ensures c.extra-extra.ensures in
    let asks : c.ask_at.result ≡ ask_at (job_in s n) = c.ask_at.ensures ∙ ap (λ (t : TreeState). ask_at t) known in
    let does = subst (λ (x : Done). DoesWhereTold c.ask_at.result (Ok x) disk n (from_to s mid) files) c.in-Ok-Going.field-0-is c.in-Ok-Going.ensures.told in
    step_going disk n s mid files c.ask_at.result asks does

pub returns-in-Ok-NoPage-clause-told : goal.returns-in-Ok-NoPage-clause-told
returns-in-Ok-NoPage-clause-told g c =
    let s = g.O.UserOs.state c.args.os.now in
    let n = g.O.UserOs.slot c.args.os.now in
    let disk = g.O.UserOs.disk c.args.os.now in
    let files = around g.H.Host.files c.args.host.now c.make.new.host in
    let mid = g.O.UserOs.state c.make.new.os in
    let known : c.find_state-state.result ≡ job_in s n =
    known_state s n c.find_state-state.result c.registers-registers.result c.extra-extra.result.0 c.find_state-state.ensures
    c.registers-registers.ensures c.extra-extra.ensures in
    let asks : c.ask_at.result ≡ ask_at (job_in s n) = c.ask_at.ensures ∙ ap (λ (t : TreeState). ask_at t) known in
    let does = subst (λ (x : Done). DoesWhereTold c.ask_at.result (Ok x) disk n (from_to s mid) files) c.in-Ok-NoPage.field-0-is c.in-Ok-NoPage.ensures.told in
    subst (λ (w : ℕ). StepsWhereTold (Ok (Answer w)) disk n (from_to s mid) files) (sym c.negated.ensures)
    (step_lacks disk n s mid files c.ask_at.result asks does)

-- ---- nothing is printed

pub returns-in-Answer-clause-quiet : goal.returns-in-Answer-clause-quiet
returns-in-Answer-clause-quiet g c =
    let s = g.O.UserOs.state c.args.os.now in
    let n = g.O.UserOs.slot c.args.os.now in
    let disk = g.O.UserOs.disk c.args.os.now in
    let files = around g.H.Host.files c.args.host.now c.make.new.host in
    let mid = g.O.UserOs.state c.make.new.os in
    let known : c.find_state-state.result ≡ job_in s n =
    known_state s n c.find_state-state.result c.registers-registers.result c.extra-extra.result.0 c.find_state-state.ensures
    c.registers-registers.ensures c.extra-extra.ensures in
    let asks : c.ask_at.result ≡ ask_at (job_in s n) = c.ask_at.ensures ∙ ap (λ (t : TreeState). ask_at t) known in
    let told = output g.H.Host.console g.O.UserOs.written (from_to c.args.host.now c.make.new.host) (from_to c.args.os.now c.make.new.os) in
    step_prints disk n s mid files c.ask_at.result asks (done.Word c.in-Ok-Word.word) told c.in-Ok-Word.ensures.leaves (Answer c.in-Answer.answer) mid

pub returns-in-Ok-Going-clause-quiet : goal.returns-in-Ok-Going-clause-quiet
returns-in-Ok-Going-clause-quiet g c =
    let s = g.O.UserOs.state c.args.os.now in
    let n = g.O.UserOs.slot c.args.os.now in
    let disk = g.O.UserOs.disk c.args.os.now in
    let files = around g.H.Host.files c.args.host.now c.make.new.host in
    let mid = g.O.UserOs.state c.make.new.os in
    let known : c.find_state-state.result ≡ job_in s n =
    known_state s n c.find_state-state.result c.registers-registers.result c.extra-extra.result.0 c.find_state-state.ensures
    c.registers-registers.ensures c.extra-extra.ensures in
    let asks : c.ask_at.result ≡ ask_at (job_in s n) = c.ask_at.ensures ∙ ap (λ (t : TreeState). ask_at t) known in
    let told = output g.H.Host.console g.O.UserOs.written (from_to c.args.host.now c.make.new.host) (from_to c.args.os.now c.make.new.os) in
    step_prints disk n s mid files c.ask_at.result asks done.Going told c.in-Ok-Going.ensures.leaves Going mid

pub returns-in-Ok-NoPage-clause-quiet : goal.returns-in-Ok-NoPage-clause-quiet
returns-in-Ok-NoPage-clause-quiet g c =
    let s = g.O.UserOs.state c.args.os.now in
    let n = g.O.UserOs.slot c.args.os.now in
    let disk = g.O.UserOs.disk c.args.os.now in
    let files = around g.H.Host.files c.args.host.now c.make.new.host in
    let mid = g.O.UserOs.state c.make.new.os in
    let known : c.find_state-state.result ≡ job_in s n =
    known_state s n c.find_state-state.result c.registers-registers.result c.extra-extra.result.0 c.find_state-state.ensures
    c.registers-registers.ensures c.extra-extra.ensures in
    let asks : c.ask_at.result ≡ ask_at (job_in s n) = c.ask_at.ensures ∙ ap (λ (t : TreeState). ask_at t) known in
    let told = output g.H.Host.console g.O.UserOs.written (from_to c.args.host.now c.make.new.host) (from_to c.args.os.now c.make.new.os) in
    step_prints disk n s mid files c.ask_at.result asks done.NoPage told c.in-Ok-NoPage.ensures.leaves (Answer c.negated.result) mid

pub returns-in-GoOn-clause-quiet : goal.returns-in-GoOn-clause-quiet
returns-in-GoOn-clause-quiet g c =
    let s = g.O.UserOs.state c.args.os.now in
    let n = g.O.UserOs.slot c.args.os.now in
    let disk = g.O.UserOs.disk c.args.os.now in
    let files = around g.H.Host.files c.args.host.now c.make.new.host in
    let mid = g.O.UserOs.state c.make.new.os in
    let known : c.find_state-state.result ≡ job_in s n =
    known_state s n c.find_state-state.result c.registers-registers.result c.extra-extra.result.0 c.find_state-state.ensures
    c.registers-registers.ensures c.extra-extra.ensures in
    let asks : c.ask_at.result ≡ ask_at (job_in s n) = c.ask_at.ensures ∙ ap (λ (t : TreeState). ask_at t) known in
    let told = output g.H.Host.console g.O.UserOs.written (from_to c.args.host.now c.make.new.host) (from_to c.args.os.now c.make.new.os) in
    λ before is h lawful.
    quiet_still told (g.O.UserOs.written c.go_on.new.os) c.go_on.ensures.written
    (step_prints disk n s mid files c.ask_at.result asks (done.Word c.in-Ok-Word.word) told c.in-Ok-Word.ensures.leaves Going mid before is h lawful)

pub returns-in-Err-clause-quiet : goal.returns-in-Err-clause-quiet
returns-in-Err-clause-quiet g c =
    let s = g.O.UserOs.state c.args.os.now in
    let n = g.O.UserOs.slot c.args.os.now in
    let disk = g.O.UserOs.disk c.args.os.now in
    let files = around g.H.Host.files c.args.host.now c.make.new.host in
    let mid = g.O.UserOs.state c.make.new.os in
    let known : c.find_state-state.result ≡ job_in s n =
    known_state s n c.find_state-state.result c.registers-registers.result c.extra-extra.result.0 c.find_state-state.ensures
    c.registers-registers.ensures c.extra-extra.ensures in
    let asks : c.ask_at.result ≡ ask_at (job_in s n) = c.ask_at.ensures ∙ ap (λ (t : TreeState). ask_at t) known in
    let told = output g.H.Host.console g.O.UserOs.written (from_to c.args.host.now c.make.new.host) (from_to c.args.os.now c.make.new.os) in
    step_failed_quietly disk n s mid files c.ask_at.result asks told c.in-Err.failed c.in-Err.ensures.leaves

-- ---- the rest of the slots stays

pub returns-in-Answer-clause-rest : goal.returns-in-Answer-clause-rest
returns-in-Answer-clause-rest g c =
    let s = g.O.UserOs.state c.args.os.now in
    let n = g.O.UserOs.slot c.args.os.now in
    let disk = g.O.UserOs.disk c.args.os.now in
    let files = around g.H.Host.files c.args.host.now c.make.new.host in
    let mid = g.O.UserOs.state c.make.new.os in
    let known : c.find_state-state.result ≡ job_in s n =
    known_state s n c.find_state-state.result c.registers-registers.result c.extra-extra.result.0 c.find_state-state.ensures
    c.registers-registers.ensures c.extra-extra.ensures in
    let asks : c.ask_at.result ≡ ask_at (job_in s n) = c.ask_at.ensures ∙ ap (λ (t : TreeState). ask_at t) known in
    let told = output g.H.Host.console g.O.UserOs.written (from_to c.args.host.now c.make.new.host) (from_to c.args.os.now c.make.new.os) in
    step_leaves_rest disk n s mid files c.ask_at.result asks (done.Word c.in-Ok-Word.word) told c.in-Ok-Word.ensures.leaves (Answer c.in-Answer.answer)

pub returns-in-Ok-Going-clause-rest : goal.returns-in-Ok-Going-clause-rest
returns-in-Ok-Going-clause-rest g c =
    let s = g.O.UserOs.state c.args.os.now in
    let n = g.O.UserOs.slot c.args.os.now in
    let disk = g.O.UserOs.disk c.args.os.now in
    let files = around g.H.Host.files c.args.host.now c.make.new.host in
    let mid = g.O.UserOs.state c.make.new.os in
    let known : c.find_state-state.result ≡ job_in s n =
    known_state s n c.find_state-state.result c.registers-registers.result c.extra-extra.result.0 c.find_state-state.ensures
    c.registers-registers.ensures c.extra-extra.ensures in
    let asks : c.ask_at.result ≡ ask_at (job_in s n) = c.ask_at.ensures ∙ ap (λ (t : TreeState). ask_at t) known in
    let told = output g.H.Host.console g.O.UserOs.written (from_to c.args.host.now c.make.new.host) (from_to c.args.os.now c.make.new.os) in
    step_leaves_rest disk n s mid files c.ask_at.result asks done.Going told c.in-Ok-Going.ensures.leaves Going

pub returns-in-Ok-NoPage-clause-rest : goal.returns-in-Ok-NoPage-clause-rest
returns-in-Ok-NoPage-clause-rest g c =
    let s = g.O.UserOs.state c.args.os.now in
    let n = g.O.UserOs.slot c.args.os.now in
    let disk = g.O.UserOs.disk c.args.os.now in
    let files = around g.H.Host.files c.args.host.now c.make.new.host in
    let mid = g.O.UserOs.state c.make.new.os in
    let known : c.find_state-state.result ≡ job_in s n =
    known_state s n c.find_state-state.result c.registers-registers.result c.extra-extra.result.0 c.find_state-state.ensures
    c.registers-registers.ensures c.extra-extra.ensures in
    let asks : c.ask_at.result ≡ ask_at (job_in s n) = c.ask_at.ensures ∙ ap (λ (t : TreeState). ask_at t) known in
    let told = output g.H.Host.console g.O.UserOs.written (from_to c.args.host.now c.make.new.host) (from_to c.args.os.now c.make.new.os) in
    step_leaves_rest disk n s mid files c.ask_at.result asks done.NoPage told c.in-Ok-NoPage.ensures.leaves (Answer c.negated.result)

pub returns-in-GoOn-clause-rest : goal.returns-in-GoOn-clause-rest
returns-in-GoOn-clause-rest g c =
    let s = g.O.UserOs.state c.args.os.now in
    let n = g.O.UserOs.slot c.args.os.now in
    let disk = g.O.UserOs.disk c.args.os.now in
    let files = around g.H.Host.files c.args.host.now c.make.new.host in
    let mid = g.O.UserOs.state c.make.new.os in
    let known : c.find_state-state.result ≡ job_in s n =
    known_state s n c.find_state-state.result c.registers-registers.result c.extra-extra.result.0 c.find_state-state.ensures
    c.registers-registers.ensures c.extra-extra.ensures in
    let asks : c.ask_at.result ≡ ask_at (job_in s n) = c.ask_at.ensures ∙ ap (λ (t : TreeState). ask_at t) known in
    let told = output g.H.Host.console g.O.UserOs.written (from_to c.args.host.now c.make.new.host) (from_to c.args.os.now c.make.new.os) in
    let next = c.in-GoOn.next in
    let after = g.O.UserOs.state c.go_on.new.os in
    set_leaves_rest disk n s mid files c.ask_at.result asks (done.Word c.in-Ok-Word.word) told c.in-Ok-Word.ensures.leaves Going next after
    (subst (λ (m : ℕ). after ≡ with_extra (with_registers mid m (registers_with (slot_at mid m).registers next)) m (words_with (slot_at mid m).extra next))
    c.make.ensures.slot c.go_on.ensures.state)

-- ---- the call

pub returns-in-Answer-clause-call : goal.returns-in-Answer-clause-call
returns-in-Answer-clause-call g c =
    let s = g.O.UserOs.state c.args.os.now in
    let n = g.O.UserOs.slot c.args.os.now in
    let disk = g.O.UserOs.disk c.args.os.now in
    let files = around g.H.Host.files c.args.host.now c.make.new.host in
    let mid = g.O.UserOs.state c.make.new.os in
    let known : c.find_state-state.result ≡ job_in s n =
    known_state s n c.find_state-state.result c.registers-registers.result c.extra-extra.result.0 c.find_state-state.ensures
    c.registers-registers.ensures c.extra-extra.ensures in
    let asks : c.ask_at.result ≡ ask_at (job_in s n) = c.ask_at.ensures ∙ ap (λ (t : TreeState). ask_at t) known in
    let calls = subst (λ (x : Done). CallsWhereInside c.ask_at.result (Ok x) disk n (from_to s mid) files) c.in-Ok-Word.field-0-is c.in-Ok-Word.ensures.call in
    step_calls disk n s mid files c.ask_at.result asks (done.Word c.in-Ok-Word.word) calls (Answer c.in-Answer.answer)

pub returns-in-Ok-Going-clause-call : goal.returns-in-Ok-Going-clause-call
returns-in-Ok-Going-clause-call g c =
    let s = g.O.UserOs.state c.args.os.now in
    let n = g.O.UserOs.slot c.args.os.now in
    let disk = g.O.UserOs.disk c.args.os.now in
    let files = around g.H.Host.files c.args.host.now c.make.new.host in
    let mid = g.O.UserOs.state c.make.new.os in
    let known : c.find_state-state.result ≡ job_in s n =
    known_state s n c.find_state-state.result c.registers-registers.result c.extra-extra.result.0 c.find_state-state.ensures
    c.registers-registers.ensures c.extra-extra.ensures in
    let asks : c.ask_at.result ≡ ask_at (job_in s n) = c.ask_at.ensures ∙ ap (λ (t : TreeState). ask_at t) known in
    let calls = subst (λ (x : Done). CallsWhereInside c.ask_at.result (Ok x) disk n (from_to s mid) files) c.in-Ok-Going.field-0-is c.in-Ok-Going.ensures.call in
    step_calls disk n s mid files c.ask_at.result asks done.Going calls Going

pub returns-in-Ok-NoPage-clause-call : goal.returns-in-Ok-NoPage-clause-call
returns-in-Ok-NoPage-clause-call g c =
    let s = g.O.UserOs.state c.args.os.now in
    let n = g.O.UserOs.slot c.args.os.now in
    let disk = g.O.UserOs.disk c.args.os.now in
    let files = around g.H.Host.files c.args.host.now c.make.new.host in
    let mid = g.O.UserOs.state c.make.new.os in
    let known : c.find_state-state.result ≡ job_in s n =
    known_state s n c.find_state-state.result c.registers-registers.result c.extra-extra.result.0 c.find_state-state.ensures
    c.registers-registers.ensures c.extra-extra.ensures in
    let asks : c.ask_at.result ≡ ask_at (job_in s n) = c.ask_at.ensures ∙ ap (λ (t : TreeState). ask_at t) known in
    let calls = subst (λ (x : Done). CallsWhereInside c.ask_at.result (Ok x) disk n (from_to s mid) files) c.in-Ok-NoPage.field-0-is c.in-Ok-NoPage.ensures.call in
    step_calls disk n s mid files c.ask_at.result asks done.NoPage calls (Answer c.negated.result)

pub returns-in-GoOn-clause-call : goal.returns-in-GoOn-clause-call
returns-in-GoOn-clause-call g c =
    let s = g.O.UserOs.state c.args.os.now in
    let n = g.O.UserOs.slot c.args.os.now in
    let disk = g.O.UserOs.disk c.args.os.now in
    let files = around g.H.Host.files c.args.host.now c.make.new.host in
    let mid = g.O.UserOs.state c.make.new.os in
    let known : c.find_state-state.result ≡ job_in s n =
    known_state s n c.find_state-state.result c.registers-registers.result c.extra-extra.result.0 c.find_state-state.ensures
    c.registers-registers.ensures c.extra-extra.ensures in
    let asks : c.ask_at.result ≡ ask_at (job_in s n) = c.ask_at.ensures ∙ ap (λ (t : TreeState). ask_at t) known in
    let calls = subst (λ (x : Done). CallsWhereInside c.ask_at.result (Ok x) disk n (from_to s mid) files) c.in-Ok-Word.field-0-is c.in-Ok-Word.ensures.call in
    let next = c.in-GoOn.next in
    let after = g.O.UserOs.state c.go_on.new.os in
    set_calls disk n s mid files c.ask_at.result asks (done.Word c.in-Ok-Word.word) calls Going next after
    (subst (λ (m : ℕ). after ≡ with_extra (with_registers mid m (registers_with (slot_at mid m).registers next)) m (words_with (slot_at mid m).extra next))
    c.make.ensures.slot c.go_on.ensures.state)

pub returns-in-GoOn-clause-made : goal.returns-in-GoOn-clause-made
returns-in-GoOn-clause-made g c =
    let s = g.O.UserOs.state c.args.os.now in
    let n = g.O.UserOs.slot c.args.os.now in
    let files = around g.H.Host.files c.args.host.now c.make.new.host in
    let mid = g.O.UserOs.state c.make.new.os in
    let next = c.in-GoOn.next in
    let after = g.O.UserOs.state c.go_on.new.os in
    let told = output g.H.Host.console g.O.UserOs.written (from_to c.args.host.now c.make.new.host) (from_to c.args.os.now c.make.new.os) in
    let whole = output g.H.Host.console g.O.UserOs.written (from_to c.args.host.now c.make.new.host) (from_to c.args.os.now c.go_on.new.os) in
    let same : told ≡ whole = λ i. record {
      console = around g.H.Host.console c.args.host.now c.make.new.host;
      count = from_to (g.O.UserOs.written c.args.os.now) (sym c.go_on.ensures.written i);
    } in
    then_set s mid after n (g.O.UserOs.disk c.args.os.now) files whole
    (subst (λ (o : Output). MakesServersCall (from_to s mid) n (g.O.UserOs.disk c.args.os.now) files o) same c.in-Ok-Word.ensures.made)
    (job_sets mid after n next
    (subst (λ (m : ℕ). after ≡ with_extra (with_registers mid m (registers_with (slot_at mid m).registers next)) m (words_with (slot_at mid m).extra next))
    c.make.ensures.slot c.go_on.ensures.state))

pub returns-in-Answer-clause-made : goal.returns-in-Answer-clause-made
returns-in-Answer-clause-made g c = c.in-Ok-Word.ensures.made

pub returns-in-Ok-Going-clause-made : goal.returns-in-Ok-Going-clause-made
returns-in-Ok-Going-clause-made g c = c.in-Ok-Going.ensures.made

pub returns-in-Ok-NoPage-clause-made : goal.returns-in-Ok-NoPage-clause-made
returns-in-Ok-NoPage-clause-made g c = c.in-Ok-NoPage.ensures.made
