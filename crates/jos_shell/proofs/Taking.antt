-- What one more symbol or word does to what was read, as the reader takes it.
use Rattle.std.proofs.Common.{◌≡◌, ◌≤◌, List, [], ◌∷◌, ◌++◌, length, true, false, Some, None, sym}
use Rattle.std.specs.Prelude.{Option, is_some}
use Rattle.fs_layout.specs.declared.paths.Span.{Span}
use Rattle.jos_shell.specs.declared.numbers.TheConstants.{WORDS_MAX}
use Rattle.jos_shell.specs.declared.tokens.Symbol.TheVariants.{Input, Output, Pipe}
use Rattle.jos_shell.specs.declared.tokens.Token.{Token}
use Rattle.jos_shell.specs.declared.tokens.Token.TheVariants.{Sign, Word}
use Rattle.jos_shell.specs.Reading.{Begun, can_end, ended, has_word_first, line_behind}
use Rattle.jos_shell.proofs.Reading.{line-word, line-many-words, line-from, line-no-from, line-second-from, line-to, line-no-to, line-second-to, line-pipe, line-pipe-refused}

pub take-word : (begun : Begun) (token : Token) (word : Span) (words : List Span) (rest : List Token) → token ≡ Word word → words ≡ begun.command.words ++ word ∷ [] →
    line_behind (record begun { command = record begun.command { words = words } }) rest ≡ line_behind begun (token ∷ rest)
take-word begun token word words rest is more = rw (is, more) (sym (line-word begun word rest))

pub take-many-words : (begun : Begun) (token : Token) (word : Span) (rest : List Token) → token ≡ Word word → WORDS_MAX ≤ length begun.command.words →
    line_behind begun (token ∷ rest) ≡ None
take-many-words begun token word rest is many = rw is (line-many-words begun word rest many)

pub take-from : (begun : Begun) (token : Token) (file : Option Span) (word : Span) (rest behind : List Token) → token ≡ Sign Input → rest ≡ Word word ∷ behind →
    begun.command.from ≡ None → file ≡ Some word →
    line_behind (record begun { command = record begun.command { from = file } }) behind ≡ line_behind begun (token ∷ rest)
take-from begun token file word rest behind is next first after = rw (is, next, after) (sym (line-from begun word behind first))

pub take-no-from : (begun : Begun) (token : Token) (rest : List Token) → token ≡ Sign Input → has_word_first rest ≡ false → line_behind begun (token ∷ rest) ≡ None
take-no-from begun token rest is other = rw is (line-no-from begun rest other)

pub take-second-from : (begun : Begun) (token : Token) (word : Span) (rest behind : List Token) → token ≡ Sign Input → rest ≡ Word word ∷ behind →
    is_some begun.command.from ≡ true → line_behind begun (token ∷ rest) ≡ None
take-second-from begun token word rest behind is next twice = rw (is, next) (line-second-from begun word behind twice)

pub take-to : (begun : Begun) (token : Token) (file : Option Span) (word : Span) (rest behind : List Token) → token ≡ Sign Output → rest ≡ Word word ∷ behind →
    begun.command.to ≡ None → file ≡ Some word →
    line_behind (record begun { command = record begun.command { to = file } }) behind ≡ line_behind begun (token ∷ rest)
take-to begun token file word rest behind is next first after = rw (is, next, after) (sym (line-to begun word behind first))

pub take-no-to : (begun : Begun) (token : Token) (rest : List Token) → token ≡ Sign Output → has_word_first rest ≡ false → line_behind begun (token ∷ rest) ≡ None
take-no-to begun token rest is other = rw is (line-no-to begun rest other)

pub take-second-to : (begun : Begun) (token : Token) (word : Span) (rest behind : List Token) → token ≡ Sign Output → rest ≡ Word word ∷ behind →
    is_some begun.command.to ≡ true → line_behind begun (token ∷ rest) ≡ None
take-second-to begun token word rest behind is next twice = rw (is, next) (line-second-to begun word behind twice)

pub take-pipe : (begun now : Begun) (token : Token) (rest : List Token) → token ≡ Sign Pipe → can_end begun ≡ true → now ≡ ended begun true →
    line_behind now rest ≡ line_behind begun (token ∷ rest)
take-pipe begun now token rest is can after = rw (is, after) (sym (line-pipe begun rest can))

pub take-pipe-refused : (begun : Begun) (token : Token) (rest : List Token) → token ≡ Sign Pipe → can_end begun ≡ false → line_behind begun (token ∷ rest) ≡ None
take-pipe-refused begun token rest is cannot = rw is (line-pipe-refused begun rest cannot)
