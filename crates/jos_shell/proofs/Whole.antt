-- A whole line, from its first symbol or word to its end.
use Rattle.std.proofs.Common.{◌≡◌, ℕ, ◌≤◌, ◌<◌, List, [], ◌∷◌, length, Bool, true, false, Some, None, sym, ap, ◌∙◌, refl}
use Rattle.std.specs.Prelude.{Option, nat_lt, if◌then◌else◌}
use Rattle.std.specs.List.{list_any}
use Rattle.std.proofs.lemmas.Bool.{lt-ltb, le-ltb}
use Rattle.jos_shell.specs.declared.numbers.TheConstants.{LINE_MAX, COMMANDS_MAX}
use Rattle.jos_shell.specs.declared.tokens.Symbol.TheVariants.{Next}
use Rattle.jos_shell.specs.declared.tokens.Token.{Token}
use Rattle.jos_shell.specs.declared.tokens.Token.TheVariants.{Sign}
use Rattle.jos_shell.specs.Tokens.{is_reserved, spoken, tokens_from}
use Rattle.jos_shell.specs.Grammar.{Asked, commands_in}
use Rattle.jos_shell.specs.Reading.{Begun, nothing_begun, has_no_job, line_behind}
use Rattle.jos_shell.proofs.Reading.{line-start, line-end, line-done}

pub long-line : (line : List ℕ) → LINE_MAX < length line → commands_in line ≡ None
unfolding commands_in
long-line line long = rw (lt-ltb LINE_MAX (length line) long) refl

none-either : (b : Bool) → ◌≡◌ {A = Option (List Asked)} (if b then None else None) None
none-either true = refl
none-either false = refl

pub reserved-byte : (line : List ℕ) → list_any is_reserved (spoken line) ≡ true → commands_in line ≡ None
unfolding commands_in
reserved-byte line reserved = rw reserved (none-either (nat_lt LINE_MAX (length line)))

pub at-start : (line : List ℕ) → length line ≤ LINE_MAX → list_any is_reserved (spoken line) ≡ false → line_behind nothing_begun (tokens_from 0 (spoken line)) ≡ commands_in line
unfolding commands_in
at-start line short plain = rw (le-ltb LINE_MAX (length line) short, plain) (line-start (tokens_from 0 (spoken line)))

-- at the end of the line
pub at-end : (begun now : Begun) (whole : List Token) (commands : Option (List Asked)) → whole ≡ [] → line_behind begun whole ≡ commands →
    ((rest : List Token) → line_behind now rest ≡ line_behind begun (Sign Next ∷ rest)) → has_no_job now ≡ true → length now.done ≤ COMMANDS_MAX → commands ≡ Some now.done
at-end begun now whole commands over told ended no_job few =
    sym told ∙ ap (line_behind begun) over ∙ line-end begun ∙ sym (ended []) ∙ line-done now no_job few

pub at-end-refused : (begun : Begun) (whole : List Token) (commands : Option (List Asked)) → whole ≡ [] → line_behind begun whole ≡ commands →
    ((rest : List Token) → line_behind begun (Sign Next ∷ rest) ≡ None) → commands ≡ None
at-end-refused begun whole commands over told refused = sym told ∙ ap (line_behind begun) over ∙ line-end begun ∙ refused []
