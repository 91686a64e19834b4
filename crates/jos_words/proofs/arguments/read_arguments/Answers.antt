use Rattle.std.proofs.Common.{Option, ◌∙◌, refl, sym, ap, arith}
use Rattle.std.proofs.lemmas.Result.{IfErr-weaker, IfOk-weaker}
use Rattle.clap.proofs.TakesLemmas.{passed_up}
use Rattle.jos_words.specs.Arguments.{◌>>=◌, Reading, texts, words_read, nothing_read, ended}
use Rattle.jos_words.proofs.ReadOn.{read_on, read_stops, read_ends, behind_first}
use Rattle.jos_words.proofs.arguments.read_arguments.Goals as goal

pub returns-in_err-waiting-clause-usage : goal.returns-in_err-waiting-clause-usage
returns-in_err-waiting-clause-usage c = passed_up c.from_residual.result c.in_err-waiting.field-0.0 _ c.from_residual.ensures.1
    (λ e. ap (λ (read : Option Reading). read >>= ended) (sym c.loop-text.invariant.rest ∙ read_stops _ _ _ _ _ _ c.loop-text-test.true (c.in_err-waiting.ensures.usage e)))

pub loop-text-init : goal.loop-text-init
loop-text-init c = record {
  rest = rw (c.new.ensures.items, c.new-2.ensures.items) (ap (words_read (texts c.args.names.now) nothing_read 1) (behind_first c.args.words.now));
  place = refl;
}

pub loop-text-preserved : goal.loop-text-preserved
loop-text-preserved c = record {
  rest = sym (read_on _ _ _ _ _ _ c.loop-text-test.true _ c.in_ok-waiting.ensures.ok) ∙ c.loop-text.invariant.rest;
  place = omega arith;
}

pub returns-clause-ok : goal.returns-clause-ok
returns-clause-ok c = IfOk-weaker c.end.result _ _ (λ read h. ap (λ (read : Option Reading). read >>= ended) (sym c.loop-text.invariant.rest ∙ read_ends _ _ _ _ _ c.loop-text-test.false) ∙ h) c.end.ensures.ok

pub returns-clause-usage : goal.returns-clause-usage
returns-clause-usage c = IfErr-weaker c.end.result _ _ (λ e h t. ap (λ (read : Option Reading). read >>= ended) (sym c.loop-text.invariant.rest ∙ read_ends _ _ _ _ _ c.loop-text-test.false) ∙ h) c.end.ensures.usage
