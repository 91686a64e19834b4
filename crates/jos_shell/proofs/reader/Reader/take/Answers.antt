use Rattle.std.proofs.Common.{◌∙◌, ap, arith}
use Rattle.jos_shell.specs.declared.tokens.Symbol.{Symbol}
use Rattle.jos_shell.specs.declared.tokens.Token.TheVariants.{Sign}
use Rattle.jos_shell.specs.Reading.{begun_by}
use Rattle.jos_shell.proofs.Reading.{on-ok, on-err, on-err-always}
use Rattle.jos_shell.proofs.Taking.{take-word, take-many-words, take-from, take-no-from, take-second-from, take-to, take-no-to, take-second-to, take-pipe, take-pipe-refused}
use Rattle.jos_shell.proofs.reader.Reader.take.Goals as goal

pub returns-in-Ok-clause-ok : goal.returns-in-Ok-clause-ok
returns-in-Ok-clause-ok c = take-word (begun_by c.args.self.now) c.args.token c.in-Word.word c.try_push.new.self.items _ c.in-Word.is c.in-Ok.ensures.ok

pub returns-in-Err-clause-err : goal.returns-in-Err-clause-err
returns-in-Err-clause-err c = take-many-words (begun_by c.args.self.now) c.args.token c.in-Word.word _ c.in-Word.is (omega (arith, c.in-Err.ensures.full))

pub returns-in_err-next_word-in-Input-clause-err : goal.returns-in_err-next_word-in-Input-clause-err
returns-in_err-next_word-in-Input-clause-err c =
    on-err-always c.from_residual.result
    (take-no-from (begun_by c.args.self.now) c.args.token _ (c.in-Sign.is ∙ ap (λ (s : Symbol). Sign s) c.in-Input.is) c.in_err-next_word-in-Input.ensures.err)

pub returns-in_ok-next_word-in-Input-clause-ok : goal.returns-in_ok-next_word-in-Input-clause-ok
returns-in_ok-next_word-in-Input-clause-ok c =
    on-ok c.redirect.result c.redirect.ensures.ok c.redirect.ensures.ok
    (λ first same. take-from (begun_by c.args.self.now) c.args.token c.redirect.new.file c.in_ok-next_word-in-Input.field-0 _ _
    (c.in-Sign.is ∙ ap (λ (s : Symbol). Sign s) c.in-Input.is) c.in_ok-next_word-in-Input.ensures.ok first c.redirect.ensures.after)

pub returns-in_ok-next_word-in-Input-clause-err : goal.returns-in_ok-next_word-in-Input-clause-err
returns-in_ok-next_word-in-Input-clause-err c =
    on-err c.redirect.result c.redirect.ensures.err
    (λ twice. take-second-from (begun_by c.args.self.now) c.args.token c.in_ok-next_word-in-Input.field-0 _ _
    (c.in-Sign.is ∙ ap (λ (s : Symbol). Sign s) c.in-Input.is) c.in_ok-next_word-in-Input.ensures.ok twice)

pub returns-in_err-next_word-in-Output-clause-err : goal.returns-in_err-next_word-in-Output-clause-err
returns-in_err-next_word-in-Output-clause-err c =
    on-err-always c.from_residual-in_err-next_word-in-Output.result
    (take-no-to (begun_by c.args.self.now) c.args.token _ (c.in-Sign.is ∙ ap (λ (s : Symbol). Sign s) c.in-Output.is) c.in_err-next_word-in-Output.ensures.err)

pub returns-in_ok-next_word-in-Output-clause-ok : goal.returns-in_ok-next_word-in-Output-clause-ok
returns-in_ok-next_word-in-Output-clause-ok c =
    on-ok c.redirect-in-Output.result c.redirect-in-Output.ensures.ok c.redirect-in-Output.ensures.ok
    (λ first same. take-to (begun_by c.args.self.now) c.args.token c.redirect-in-Output.new.file c.in_ok-next_word-in-Output.field-0 _ _
    (c.in-Sign.is ∙ ap (λ (s : Symbol). Sign s) c.in-Output.is) c.in_ok-next_word-in-Output.ensures.ok first c.redirect-in-Output.ensures.after)

pub returns-in_ok-next_word-in-Output-clause-err : goal.returns-in_ok-next_word-in-Output-clause-err
returns-in_ok-next_word-in-Output-clause-err c =
    on-err c.redirect-in-Output.result c.redirect-in-Output.ensures.err
    (λ twice. take-second-to (begun_by c.args.self.now) c.args.token c.in_ok-next_word-in-Output.field-0 _ _
    (c.in-Sign.is ∙ ap (λ (s : Symbol). Sign s) c.in-Output.is) c.in_ok-next_word-in-Output.ensures.ok twice)

pub returns-in-Pipe-clause-ok : goal.returns-in-Pipe-clause-ok
returns-in-Pipe-clause-ok c =
    on-ok c.end_command.result c.end_command.ensures.can c.end_command.ensures.ok
    (λ can after. take-pipe (begun_by c.args.self.now) (begun_by c.end_command.new.self) c.args.token _ (c.in-Sign.is ∙ ap (λ (s : Symbol). Sign s) c.in-Pipe.is) can after)

pub returns-in-Pipe-clause-err : goal.returns-in-Pipe-clause-err
returns-in-Pipe-clause-err c =
    on-err c.end_command.result c.end_command.ensures.err
    (λ cannot. take-pipe-refused (begun_by c.args.self.now) c.args.token _ (c.in-Sign.is ∙ ap (λ (s : Symbol). Sign s) c.in-Pipe.is) cannot)
