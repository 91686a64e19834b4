use Rattle.std.proofs.Common.{subst}
use Rattle.std.specs.Prelude.{codes}
use Rattle.std.proofs.lemmas.List.{length-map}
use Rattle.clap.specs.Words.{App}
use Rattle.clap.proofs.TakesLemmas.{passed_up}
use Rattle.jos_words.specs.Arguments.{texts}
use Rattle.jos_words.specs.ClapCommands.{running_app, AreRefused}
use Rattle.jos_words.specs.Commands.{run_of, run_words, run_in_bytes, running_options}
use Rattle.jos_words.proofs.RunningForm.{run_refused}
use Rattle.jos_words.proofs.Refused.{refused_either, read_ok, read_usage}
use Rattle.jos_words.proofs.commands.read_run.Goals as goal

pub returns-in_err-arguments-clause-usage : goal.returns-in_err-arguments-clause-usage
unfolding run_words
returns-in_err-arguments-clause-usage c =
    let words = texts c.args.words.now in
    passed_up c.from_residual-in_err-arguments.result c.in_err-arguments.field-0.0 _ c.from_residual-in_err-arguments.ensures.1
    (λ e. refused_either run_of (running_app (codes "run")) running_options words (run_refused words (rw length-map c.requires))
    (subst (λ (a : App). AreRefused a running_options words) c.in_ok-command.ensures (c.in_err-arguments.ensures.usage e)))

pub returns-clause-ok : goal.returns-clause-ok
unfolding run_words
returns-clause-ok c = read_ok run_in_bytes run_of _ _ _ _ c.in_ok-arguments.ensures.ok c.run_of.ensures c.ok_or.ensures.value

pub returns-clause-usage : goal.returns-clause-usage
unfolding run_words
returns-clause-usage c = read_usage run_in_bytes run_of _ _ _ _ c.in_ok-arguments.ensures.ok c.run_of.ensures c.ok_or.ensures.value
