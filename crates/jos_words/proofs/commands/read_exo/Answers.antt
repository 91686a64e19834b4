use Rattle.std.proofs.Common.{subst}
use Rattle.std.specs.Prelude.{codes}
use Rattle.std.proofs.lemmas.List.{length-map}
use Rattle.clap.specs.Words.{App}
use Rattle.clap.proofs.TakesLemmas.{passed_up}
use Rattle.jos_words.specs.Arguments.{texts}
use Rattle.jos_words.specs.ClapCommands.{running_app, AreRefused}
use Rattle.jos_words.specs.Commands.{exo_of, exo_words, exo_in_bytes, running_options}
use Rattle.jos_words.proofs.RunningForm.{exo_refused}
use Rattle.jos_words.proofs.Refused.{refused_either, read_ok, read_usage}
use Rattle.jos_words.proofs.commands.read_exo.Goals as goal

pub returns-in_err-arguments-clause-usage : goal.returns-in_err-arguments-clause-usage
unfolding exo_words
returns-in_err-arguments-clause-usage c =
    let words = texts c.args.words.now in
    passed_up c.from_residual-in_err-arguments.result c.in_err-arguments.field-0.0 _ c.from_residual-in_err-arguments.ensures.1
    (λ e. refused_either exo_of (running_app (codes "exo")) running_options words (exo_refused words (rw length-map c.requires))
    (subst (λ (a : App). AreRefused a running_options words) c.in_ok-command.ensures (c.in_err-arguments.ensures.usage e)))

pub returns-clause-ok : goal.returns-clause-ok
unfolding exo_words
returns-clause-ok c = read_ok exo_in_bytes exo_of _ _ _ _ c.in_ok-arguments.ensures.ok c.exo_of.ensures c.ok_or.ensures.value

pub returns-clause-usage : goal.returns-clause-usage
unfolding exo_words
returns-clause-usage c = read_usage exo_in_bytes exo_of _ _ _ _ c.in_ok-arguments.ensures.ok c.exo_of.ensures c.ok_or.ensures.value
