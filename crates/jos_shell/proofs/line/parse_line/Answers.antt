use Rattle.std.proofs.Common.{◌≡◌, ◌≤◌, sym, ap, ◌∙◌, arith, length, map, false, Some, List, ℕ, subst}
use Rattle.std.proofs.lemmas.List.{length-map}
use Rattle.std.specs.List.{list_any}
use Rattle.jos_shell.specs.declared.numbers.TheConstants.{LINE_MAX, COMMANDS_MAX}
use Rattle.jos_shell.specs.declared.tokens.Token.{Token}
use Rattle.jos_shell.specs.Tokens.{is_reserved, spoken, tokens_from}
use Rattle.jos_shell.specs.Grammar.{asked_by, commands_in}
use Rattle.jos_shell.specs.Reading.{Begun, begun_by, nothing_begun, line_behind}
use Rattle.jos_shell.proofs.Reading.{on-err-always}
use Rattle.jos_shell.proofs.Places.{line-lies}
use Rattle.jos_shell.proofs.Whole.{long-line, reserved-byte, at-start, at-end, at-end-refused}
use Rattle.jos_shell.proofs.line.parse_line.Goals as goal

pub returns-then-line-gt-LINE_MAX-clause-err : goal.returns-then-line-gt-LINE_MAX-clause-err
returns-then-line-gt-LINE_MAX-clause-err c = long-line c.args.line.now (omega arith)

pub returns-then-has_reserved-clause-err : goal.returns-then-has_reserved-clause-err
returns-then-has_reserved-clause-err c =
    reserved-byte c.args.line.now (ap (list_any is_reserved) (sym c.spoken-spoken.ensures.exact) ∙ sym c.has_reserved.ensures ∙ c.if-has_reserved.true)

pub loop-token-init : goal.loop-token-init
loop-token-init c =
    let plain : list_any is_reserved (spoken c.args.line.now) ≡ false = ap (list_any is_reserved) (sym c.spoken-spoken.ensures.exact) ∙ sym c.has_reserved.ensures ∙ c.if-has_reserved.false in
    let short : length c.args.line.now ≤ LINE_MAX = omega arith in
    let tokens : tokens_from c.of-tokens.result.at c.of-tokens.result.rest.now ≡ tokens_from 0 (spoken c.args.line.now) =
    ap (λ (n : ℕ). tokens_from n c.of-tokens.result.rest.now) c.of-tokens.ensures.at ∙ ap (λ (l : List ℕ). tokens_from 0 l) (c.of-tokens.ensures.rest ∙ c.spoken-spoken.ensures.exact) in
    record {
      told = ap (λ (b : Begun). line_behind b (tokens_from c.of-tokens.result.at c.of-tokens.result.rest.now)) c.new-reader.ensures.nothing ∙ ap (λ (l : List Token). line_behind nothing_begun l) tokens ∙ at-start c.args.line.now short plain;
      few = let e : length c.new-reader.result.commands.items ≡ 0 = ap length c.new-reader.ensures.none in omega arith;
      small = let e : length c.of-tokens.result.rest.now ≡ length c.spoken-spoken.result.now = ap length c.of-tokens.ensures.rest in omega arith;
    }

pub returns-in_err-end_job-clause-err : goal.returns-in_err-end_job-clause-err
returns-in_err-end_job-clause-err c =
    on-err-always c.from_residual-in_err-end_job.result
    (at-end-refused (begun_by c.loop-token.reader) (tokens_from c.loop-token.tokens.at c.loop-token.tokens.rest.now) (commands_in c.args.line.now) c.in_default.ensures.told c.loop-token.invariant.told c.in_err-end_job.ensures.err)

-- the commands of the whole line
commands_are : (c : goal.In_ok-end_job) → commands_in c.args.line.now ≡ Some (map asked_by c.end_job.new.self.commands.items)
commands_are c =
    at-end (begun_by c.loop-token.reader) (begun_by c.end_job.new.self) (tokens_from c.loop-token.tokens.at c.loop-token.tokens.rest.now) (commands_in c.args.line.now) c.in_default.ensures.told
    c.loop-token.invariant.told c.in_ok-end_job.ensures.ok c.in_ok-end_job.ensures.no_job (subst (λ (n : ℕ). n ≤ COMMANDS_MAX) (sym (length-map c.end_job.new.self.commands.items asked_by)) c.in_ok-end_job.ensures.few)

pub returns-clause-ok : goal.returns-clause-ok
returns-clause-ok c = commands_are c

pub returns-clause-lie : goal.returns-clause-lie
returns-clause-lie c = line-lies c.args.line.now c.end_job.new.self.commands.items (commands_are c)
