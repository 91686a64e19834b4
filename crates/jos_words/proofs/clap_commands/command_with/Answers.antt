use Rattle.std.proofs.Common.{◌∙◌, ap}
use Rattle.clap.specs.Words.{app_of, with_rule}
use Rattle.jos_words.proofs.Adding.{one_more}
use Rattle.jos_words.proofs.clap_commands.command_with.Goals as goal

pub loop-known-preserved : goal.loop-known-preserved
loop-known-preserved c =
    c.in_ok-command.ensures.shape c.option.ensures.local ∙ ap (with_rule (app_of c.loop-known.command)) c.option.ensures.rule
    ∙ one_more (app_of c.loop-known.command) c.args.name.now c.args.options.now c.loop-known.known-index _ c.loop-known-test.true c.loop-known.invariant
