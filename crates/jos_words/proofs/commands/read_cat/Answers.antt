use Rattle.std.proofs.Common.{subst}
use Rattle.std.specs.Prelude.{[]}
use Rattle.std.proofs.lemmas.List.{length-map}
use Rattle.clap.specs.Words.{App}
use Rattle.clap.proofs.TakesLemmas.{passed_up}
use Rattle.jos_words.specs.Arguments.{texts}
use Rattle.jos_words.specs.ClapCommands.{cat_app, AreRefused}
use Rattle.jos_words.specs.Commands.{cat_of, cat_words, cat_in_bytes}
use Rattle.jos_words.proofs.CatForm.{cat_refused}
use Rattle.jos_words.proofs.Refused.{refused_either, read_ok, read_usage}
use Rattle.jos_words.proofs.commands.read_cat.Goals as goal

pub returns-in_err-arguments-clause-usage : goal.returns-in_err-arguments-clause-usage
unfolding cat_words
returns-in_err-arguments-clause-usage c =
    let words = texts c.args.words.now in
    passed_up c.from_residual-in_err-arguments.result c.in_err-arguments.field-0.0 _ c.from_residual-in_err-arguments.ensures.1
    (λ e. refused_either cat_of cat_app [] words (cat_refused words (rw length-map c.requires))
    (subst (λ (a : App). AreRefused a [] words) c.in_ok-command.ensures (c.in_err-arguments.ensures.usage e)))

pub returns-clause-ok : goal.returns-clause-ok
unfolding cat_words
returns-clause-ok c = read_ok cat_in_bytes cat_of _ _ _ _ c.in_ok-arguments.ensures.ok c.cat_of.ensures c.ok_or.ensures.value

pub returns-clause-usage : goal.returns-clause-usage
unfolding cat_words
returns-clause-usage c = read_usage cat_in_bytes cat_of _ _ _ _ c.in_ok-arguments.ensures.ok c.cat_of.ensures c.ok_or.ensures.value
