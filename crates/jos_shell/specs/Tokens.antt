-- The symbols and words of a line of the shell, without its newline. A comment begins with `#`, wherever it stands. (This system's
-- own, after MIT 6.828, user/sh.c, `_gettoken`)
use Rattle.std.specs.Prelude.{ℕ, ◌+◌, ◌==◌, ◌||◌, Bool, List, [], ◌∷◌, if◌then◌else◌}
use Rattle.std.specs.List.{before_first}
use Rattle.jos_shell.specs.declared.tokens.Symbol.TheVariants.{Input, Output, Pipe, Next}
use Rattle.jos_shell.specs.declared.tokens.Token.{Token}
use Rattle.jos_shell.specs.declared.tokens.Token.TheVariants.{Sign, Word}

-- a space, a tab or a carriage return
abbrev pub is_blank : ℕ → Bool
is_blank byte = byte == 32 || byte == 9 || byte == 13

abbrev pub is_hash : ℕ → Bool
is_hash byte = byte == 35

-- `&`, `(` and `)` stand in no word
abbrev pub is_reserved : ℕ → Bool
is_reserved byte = byte == 38 || byte == 40 || byte == 41

-- what stands in front of the comment
abbrev pub spoken : List ℕ → List ℕ
spoken line = before_first is_hash line

-- the word of one byte at a place
abbrev pub word_at : ℕ → Token
word_at at = Word (record { from = at; to = at + 1 })

-- A byte of a word, in front of what stands behind it: the word goes on where one begins at the next place.
abbrev pub byte_at : ℕ → List Token → List Token
byte_at at (Word span ∷ rest) =
    if span.from == at + 1 then Word (record { from = at; to = span.to }) ∷ rest else word_at at ∷ Word span ∷ rest
byte_at at rest = word_at at ∷ rest

-- a byte at a place, in front of the symbols and words behind it: `<`, `>`, `|`, `;`, a blank, or a byte of a word
abbrev pub token_at : ℕ → ℕ → List Token → List Token
token_at at byte rest =
    if byte == 60 then Sign Input ∷ rest
    else if byte == 62 then Sign Output ∷ rest
    else if byte == 124 then Sign Pipe ∷ rest
    else if byte == 59 then Sign Next ∷ rest
    else if is_blank byte then rest
    else byte_at at rest

-- the symbols and words of the bytes that stand from a place on
unfoldable pub tokens_from : ℕ → List ℕ → List Token
tokens_from at [] = []
tokens_from at (byte ∷ rest) = token_at at byte (tokens_from (at + 1) rest)
