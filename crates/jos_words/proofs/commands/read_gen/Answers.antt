use Rattle.std.proofs.Common.{subst}
use Rattle.std.specs.Prelude.{[]}
use Rattle.std.proofs.lemmas.List.{length-map}
use Rattle.clap.specs.Words.{App}
use Rattle.clap.proofs.TakesLemmas.{passed_up}
use Rattle.jos_words.specs.Arguments.{texts}
use Rattle.jos_words.specs.ClapCommands.{gen_app, AreRefused}
use Rattle.jos_words.specs.Commands.{gen_of, gen_words, gen_in_bytes}
use Rattle.jos_words.proofs.GenForm.{gen_refused}
use Rattle.jos_words.proofs.Refused.{refused_either, read_ok, read_usage}
use Rattle.jos_words.proofs.commands.read_gen.Goals as goal

pub returns-in_err-arguments-clause-usage : goal.returns-in_err-arguments-clause-usage
unfolding gen_words
returns-in_err-arguments-clause-usage c =
    let words = texts c.args.words.now in
    passed_up c.from_residual-in_err-arguments.result c.in_err-arguments.field-0.0 _ c.from_residual-in_err-arguments.ensures.1
    (λ e. refused_either gen_of gen_app [] words (gen_refused words (rw length-map c.requires))
    (subst (λ (a : App). AreRefused a [] words) c.in_ok-command.ensures (c.in_err-arguments.ensures.usage e)))

pub returns-clause-ok : goal.returns-clause-ok
unfolding gen_words
returns-clause-ok c = read_ok gen_in_bytes gen_of _ _ _ _ c.in_ok-arguments.ensures.ok c.gen_of.ensures c.ok_or.ensures.value

pub returns-clause-usage : goal.returns-clause-usage
unfolding gen_words
returns-clause-usage c = read_usage gen_in_bytes gen_of _ _ _ _ c.in_ok-arguments.ensures.ok c.gen_of.ensures c.ok_or.ensures.value
