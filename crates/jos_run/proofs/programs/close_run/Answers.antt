use Rattle.std.proofs.Common.{◌∙◌, refl}
use Rattle.jos_run.proofs.ClosingSteps.{run_closed, run_cut}
use Rattle.jos_run.proofs.DiskKept.{touched_further}
use Rattle.jos_run.proofs.programs.close_run.Goals as goal

pub returns-in-Ok-write_back-clause-closed : goal.returns-in-Ok-write_back-clause-closed
returns-in-Ok-write_back-clause-closed g c =
    let close = c.finish_request-closing in
    let back = c.in-Ok-write_back.ensures in
    let it = run_closed c.len.result c.args.report _ close.result c.args.served close.new.self c.write_back.new.self (g.H.Host.files c.args.host.now)
    (g.H.Host.files close.new.host) (g.H.Host.files c.write_back.new.host) (g.H.Host.console c.args.host.now) (g.H.Host.console close.new.host)
    (g.H.Host.console c.write_back.new.host) c.report.view_is (c.len.ensures ∙ c.report.inside.turns.ok.0) c.in-Ok.field-0 c.in-Ok.is close.ensures.told
    back.quiet _ c.min.result c.min.ensures close.ensures.disk back.disk back.told
    (λ i. record {
      end = c.report.inside.end;
      steps = c.report.inside.steps;
      turns = c.report.inside.turns.items;
      closing = c.min.result;
      refused = c.refused-refused.ensures i;
      first_refused = close.result.first_refused;
      upcalls = c.upcalls-upcalls.ensures i;
    }) in
    (it.0, it.1, refl)

pub returns-in-Ok-write_back-clause-disk_only : goal.returns-in-Ok-write_back-clause-disk_only
returns-in-Ok-write_back-clause-disk_only g c =
    touched_further c.finish_request-closing.ensures.disk c.finish_request-closing.ensures.disk_only c.in-Ok-write_back.ensures.disk_only

pub returns-clause-closed : goal.returns-clause-closed
returns-clause-closed g c =
    let close = c.finish_request-closing in
    run_cut c.len.result c.args.report _ close.result c.args.served close.new.self c.write_back.new.self (g.H.Host.files c.args.host.now)
    (g.H.Host.files close.new.host) (g.H.Host.files c.write_back.new.host) (g.H.Host.console c.args.host.now) (g.H.Host.console close.new.host)
    (g.H.Host.console c.write_back.new.host) c.report.view_is (c.len.ensures ∙ c.report.inside.turns.ok.0) c.in-Ok.field-0 c.in-Ok.is close.ensures.told
    c.in-Err-write_back.ensures.quiet _ refl refl

pub returns-clause-disk_only : goal.returns-clause-disk_only
returns-clause-disk_only g c =
    touched_further c.finish_request-closing.ensures.disk c.finish_request-closing.ensures.disk_only c.in-Err-write_back.ensures.disk_only
