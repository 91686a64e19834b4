use Rattle.std.proofs.Common.{◌∙◌, ap₂}
use Rattle.std.proofs.lemmas.Result.{IfOk-weaker}
use Rattle.clap.specs.Words.{with_rule}
use Rattle.jos_words.proofs.clap_commands.gen_command.Goals as goal

pub returns : goal.returns
returns c = IfOk-weaker c.arg-2.result _ _ (λ command adds. adds.shape c.required-2.ensures.local
    ∙ ap₂ with_rule (c.in_ok-arg.ensures.shape c.required.ensures.local ∙ ap₂ with_rule c.in_ok-command_with.ensures c.required.ensures.rule) c.required-2.ensures.rule) c.arg-2.ensures
