use Rattle.std.proofs.Common.{◌≡◌, ◌≤◌, ◌∙◌, sym, arith, length, get_or}
use Rattle.std.specs.Prelude.{Some, None}
use Rattle.jos_shell.specs.Reading.{symbol_of}
use Rattle.jos_shell.proofs.Bytes.{after-blanks, no-blank-behind, next-none, next-symbol, next-word}
use Rattle.jos_shell.proofs.tokens.Tokens.next_token.Goals as goal

pub returns-in_default-clause-told : goal.returns-in_default-clause-told
returns-in_default-clause-told c =
    after-blanks c.args.self.now.at c.pass.new.self.at c.args.self.now.rest.now c.pass.new.self.rest.now c.end_of_blanks.result c.end_of_blanks.ensures c.pass.ensures.rest c.pass.ensures.at
    ∙ next-none c.pass.new.self.at c.pass.new.self.rest.now (omega arith)

pub returns-in-Some-clause-told : goal.returns-in-Some-clause-told
returns-in-Some-clause-told c =
    let some : 1 ≤ length c.pass.new.self.rest.now = omega arith in
    let sign : symbol_of (get_or c.pass.new.self.rest.now 0 0) ≡ Some c.in-Some.symbol = sym c.symbol_of.ensures ∙ c.in-Some.is in
    after-blanks c.args.self.now.at c.pass.new.self.at c.args.self.now.rest.now c.pass.new.self.rest.now c.end_of_blanks.result c.end_of_blanks.ensures c.pass.ensures.rest c.pass.ensures.at
    ∙ next-symbol c.pass.new.self.at c.pass-in-Some.new.self.at c.pass.new.self.rest.now c.pass-in-Some.new.self.rest.now c.in-Some.symbol some sign c.pass-in-Some.ensures.rest c.pass-in-Some.ensures.at

pub returns-clause-told : goal.returns-clause-told
returns-clause-told c =
    let some : 1 ≤ length c.pass.new.self.rest.now = omega arith in
    let sign : symbol_of (get_or c.pass.new.self.rest.now 0 0) ≡ None = sym c.symbol_of.ensures ∙ c.in_default-symbol_of.is in
    after-blanks c.args.self.now.at c.pass.new.self.at c.args.self.now.rest.now c.pass.new.self.rest.now c.end_of_blanks.result c.end_of_blanks.ensures c.pass.ensures.rest c.pass.ensures.at
    ∙ next-word c.pass.new.self.at c.pass-2.new.self.at c.pass.new.self.rest.now c.pass-2.new.self.rest.now c.end_of_word.result some sign
    (no-blank-behind c.args.self.now.rest.now c.pass.new.self.rest.now c.end_of_blanks.result c.end_of_blanks.ensures c.pass.ensures.rest some) c.end_of_word.ensures c.pass-2.ensures.rest c.pass-2.ensures.at
