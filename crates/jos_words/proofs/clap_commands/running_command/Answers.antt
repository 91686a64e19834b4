use Rattle.std.proofs.Common.{◌∙◌, ap₂}
use Rattle.std.proofs.lemmas.Result.{IfOk-weaker}
use Rattle.clap.specs.Words.{with_rule}
use Rattle.jos_words.proofs.clap_commands.running_command.Goals as goal

pub returns : goal.returns
returns c = IfOk-weaker c.arg.result _ _ (λ command adds. adds.shape c.repeated.ensures.local ∙ ap₂ with_rule c.in_ok-command_with.ensures c.repeated.ensures.rule) c.arg.ensures
