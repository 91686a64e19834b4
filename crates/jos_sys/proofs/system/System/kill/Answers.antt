use Rattle.std.proofs.Common.{◌∙◌, length, refl, ap, subst}
use Rattle.jos_host.specs.Frames.{around}
use Rattle.jos_host.specs.Gains.{Gains, GainsPart}
use Rattle.jos_base.specs.Environments.{Slot}
use Rattle.jos_base.specs.Lines.{line_text}
use Rattle.jos_base.specs.SystemCalls.{killed}
use Rattle.jos_envs.proofs.Kept.{live_within}
use Rattle.jos_sys.proofs.system.System.kill.Goals as goal

pub environment-requires : goal.environment-requires
environment-requires g c = live_within c.args.self.now.table c.args.current c.requires.live

pub returns-in-Ok-clause-told : goal.returns-in-Ok-clause-told
unfolding killed
returns-in-Ok-clause-told g c = λ input.
    let text = c.line_text-text.ensures ∙ ap (λ (z : Slot). line_text z.id c.args.line) (c.environment.ensures input) in (
      c.destroy.ensures.state input,
      refl,
      c.len.ensures.value ∙ ap length text,
      subst (Gains (around g.H.Host.console c.args.host.now c.console_write.new.self)) (c.as_slice.ensures.value ∙ text) c.in-Ok.ensures.told,
    )

pub returns-in-Err-clause-told : goal.returns-in-Err-clause-told
unfolding killed
returns-in-Err-clause-told g c = λ input.
    let text = c.line_text-text.ensures ∙ ap (λ (z : Slot). line_text z.id c.args.line) (c.environment.ensures input) in
    subst (GainsPart (around g.H.Host.console c.args.host.now c.console_write.new.self)) (c.as_slice.ensures.value ∙ text) c.in-Err.ensures.told
