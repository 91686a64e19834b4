use Rattle.std.proofs.Common.{sym, subst}
use Rattle.std.specs.Prelude.{Option}
use Rattle.jos_kernel.specs.ExoRun.{Ran}
use Rattle.jos_cli.specs.Answer.{expected_of_run}
use Rattle.jos_cli.specs.Kinds.{Answers}
use Rattle.jos_cli.specs.Stages.{outcome_of_end}
use Rattle.jos_host.specs.Frames.{around}
use Rattle.jos_cli.proofs.Runs.{run_booted, on_unbooted}
use Rattle.jos_cli.proofs.answer.run_loaded.Goals as goal

pub returns-in-Ok-clause-told : goal.returns-in-Ok-clause-told
returns-in-Ok-clause-told g c =
    rw (c.deref.ensures.value, c.deref-2.ensures.value, c.settings_of-settings.ensures.settings) at (subst (λ (r : Option Ran). Answers (expected_of_run c.settings_of-settings.result.trace r) (outcome_of_end c.run_kernel.result) (around g.H.Host.console c.args.host.now c.run_kernel.new.host))
    (sym (run_booted _ c.args.read.input.items c.args.read.schedule c.settings_of-settings.result.frames c.settings_of-settings.result.steps _ _ _ c.in-Ok.ensures.booted c.in-Ok.ensures.schedule c.in-Ok.ensures.first))
    c.run_kernel.ensures.told)

pub returns-clause-told : goal.returns-clause-told
returns-clause-told g c =
    rw (c.deref.ensures.value, c.deref-2.ensures.value, c.settings_of-settings.ensures.settings) at (on_unbooted c.settings_of-settings.result.trace _ c.args.read.input.items c.args.read.schedule c.settings_of-settings.result.frames c.settings_of-settings.result.steps
    c.in-Err.fault (g.H.Host.console c.args.host.now) c.in-Err.ensures.pool)
