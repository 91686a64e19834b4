use Rattle.jos_cli.proofs.Runs.{on_ended, on_failed}
use Rattle.jos_cli.proofs.answer.run_kernel.Goals as goal

pub returns-in-Ended-clause-told : goal.returns-in-Ended-clause-told
returns-in-Ended-clause-told g c =
    on_ended c.args.kernel c.exo_run.new.kernel c.args.settings.steps c.args.settings.trace c.requires.counts c.requires.first c.in-Ended.end c.finish-report.result.0 c.finish-report.result.1.items
    (g.H.Host.console c.args.host.now) (g.H.Host.console c.exo_run.new.host) c.in-Ended.ensures.told c.finish-report.ensures.report c.finish-report.ensures.trace

pub returns-in-HostFault-clause-told : goal.returns-in-HostFault-clause-told
returns-in-HostFault-clause-told g c =
    on_failed c.args.kernel c.exo_run.new.kernel c.args.settings.steps c.args.settings.trace c.requires.counts c.requires.first (record {}) c.cut_off.result
    (g.H.Host.console c.args.host.now) (g.H.Host.console c.exo_run.new.host) c.in-HostFault.ensures.told
