-- What the bytes at the front of a line tell of its symbols and words.
use Rattle.std.proofs.Common.{◌≡◌, ℕ, ◌+◌, ◌<◌, ◌≤◌, List, [], ◌∷◌, length, get_or, drop, Bool, true, false, Some, None}
use Rattle.std.proofs.Common.{refl, sym, ap, subst, ◌∙◌, arith, suc}
use Rattle.std.proofs.Common.{length-drop}
use Rattle.std.proofs.lemmas.List.Sums.{prefix_len-le-length, passes_at_first}
use Rattle.std.proofs.lemmas.Grind.{common_steps}
use Rattle.std.proofs.lemmas.Bool.{ne_eqb, eq-eqb}
use Rattle.std.specs.Prelude.{◌==◌, not, Option, unwrap_or, if◌then◌else◌}
use Rattle.std.specs.List.{position, position_or_len}
use Rattle.jos_shell.specs.declared.tokens.Symbol.{Symbol}
use Rattle.jos_shell.specs.declared.tokens.Token.{Token}
use Rattle.jos_shell.specs.declared.tokens.Token.TheVariants.{Sign, Word}
use Rattle.jos_shell.specs.Tokens.{is_blank, token_at, byte_at, word_at, tokens_from}
use Rattle.jos_shell.specs.Reading.{symbol_of, is_no_blank, ends_word}

-- ---- one byte

pub token_at-symbol : (at byte : ℕ) (rest : List Token) (symbol : Symbol) → symbol_of byte ≡ Some symbol → token_at at byte rest ≡ Sign symbol ∷ rest
token_at-symbol at byte rest symbol h = grind arith

pub token_at-blank : (at byte : ℕ) (rest : List Token) → is_blank byte ≡ true → token_at at byte rest ≡ rest
token_at-blank at byte rest h = grind arith

pub token_at-word : (at byte : ℕ) (rest : List Token) → ends_word byte ≡ false → token_at at byte rest ≡ byte_at at rest
token_at-word at byte rest h = grind arith

not-true : (b : Bool) → not b ≡ true → b ≡ false
not-true true h = sym h
not-true false h = refl

-- ---- the first that passes, or the end

pub first_or_end : (test : ℕ → Bool) (bytes : List ℕ) → unwrap_or (position test bytes) (length bytes) ≡ position_or_len test bytes
first_or_end test bytes = grind (arith, prefix_len-le-length (λ byte. not (test byte)) bytes)

position-other : (test : ℕ → Bool) (byte : ℕ) (rest : List ℕ) → test byte ≡ false → position_or_len test (byte ∷ rest) ≡ suc (position_or_len test rest)
position-other test byte rest other = rw other (omega arith)

position-here : (test : ℕ → Bool) (byte : ℕ) (rest : List ℕ) → test byte ≡ true → position_or_len test (byte ∷ rest) ≡ 0
position-here test byte rest here = rw here refl

-- ---- blanks

blanks-step : (at byte : ℕ) (rest : List ℕ) (b : Bool) → is_blank byte ≡ b →
    tokens_from ((at + 1) + position_or_len is_no_blank rest) (drop (position_or_len is_no_blank rest) rest) ≡ tokens_from (at + 1) rest →
    tokens_from (at + position_or_len is_no_blank (byte ∷ rest)) (drop (position_or_len is_no_blank (byte ∷ rest)) (byte ∷ rest)) ≡ tokens_from at (byte ∷ rest)
unfolding tokens_from
blanks-step at byte rest true blank behind =
    let here : position_or_len is_no_blank (byte ∷ rest) ≡ suc (position_or_len is_no_blank rest) = position-other is_no_blank byte rest (rw blank refl) in
    let place : at + suc (position_or_len is_no_blank rest) ≡ (at + 1) + position_or_len is_no_blank rest = omega arith in
    rw (here, place) (behind ∙ sym (token_at-blank at byte (tokens_from (at + 1) rest) blank))
blanks-step at byte rest false other behind =
    let here : position_or_len is_no_blank (byte ∷ rest) ≡ 0 = position-here is_no_blank byte rest (rw other refl) in
    rw here (ap (λ n. tokens_from n (byte ∷ rest)) (omega arith))

-- they are no part of it
pub blanks-passed : (at : ℕ) (bytes : List ℕ) →
    tokens_from (at + position_or_len is_no_blank bytes) (drop (position_or_len is_no_blank bytes) bytes) ≡ tokens_from at bytes
unfolding tokens_from
blanks-passed at [] = refl
blanks-passed at (byte ∷ rest) = blanks-step at byte rest (is_blank byte) refl (blanks-passed (at + 1) rest)

-- ---- words

-- a word at the front begins at a place, or behind it
abbrev BeginsFrom : ℕ → List Token → Type 0
BeginsFrom at (Word span ∷ rest) = at ≤ span.from
BeginsFrom at rest = Unit {0}

begins-earlier : (at : ℕ) (tokens : List Token) → BeginsFrom (at + 1) tokens → BeginsFrom at tokens
begins-earlier at [] h = tt
begins-earlier at (Sign symbol ∷ rest) h = tt
begins-earlier at (Word span ∷ rest) h = omega arith

begins-byte : (at : ℕ) (tokens : List Token) → BeginsFrom at (byte_at at tokens)
begins-byte at [] = omega arith
begins-byte at (Sign symbol ∷ rest) = omega arith
begins-byte at (Word span ∷ rest) =
    elim (span.from == at + 1) as (λ (b : Bool). BeginsFrom at (if b then Word (record { from = at; to = span.to }) ∷ rest else word_at at ∷ Word span ∷ rest))
    [ true ↦ omega arith | false ↦ omega arith ]

-- what ends a word begins none
begins-behind : (at byte : ℕ) (rest : List Token) → ends_word byte ≡ true → BeginsFrom (at + 1) rest → BeginsFrom (at + 1) (token_at at byte rest)
begins-behind at byte rest ends behind =
    (elim (symbol_of byte) as (λ (o : Option Symbol). symbol_of byte ≡ o → BeginsFrom (at + 1) (token_at at byte rest)) [
      | Some symbol ↦ (λ h. subst (λ (l : List Token). BeginsFrom (at + 1) l) (sym (token_at-symbol at byte rest symbol h)) tt)
      | None ↦ (λ h. let blank : is_blank byte ≡ true = rw h at ends in subst (λ (l : List Token). BeginsFrom (at + 1) l) (sym (token_at-blank at byte rest blank)) behind)
    ]) refl

begins-from : (at : ℕ) (bytes : List ℕ) → BeginsFrom at (tokens_from at bytes)
unfolding tokens_from
begins-from at [] = tt
begins-from at (byte ∷ rest) =
    (elim (ends_word byte) as (λ (b : Bool). ends_word byte ≡ b → BeginsFrom at (token_at at byte (tokens_from (at + 1) rest))) [
      | true ↦ (λ ends. begins-earlier at (token_at at byte (tokens_from (at + 1) rest)) (begins-behind at byte (tokens_from (at + 1) rest) ends (begins-from (at + 1) rest)))
      | false ↦ (λ goes. subst (λ (l : List Token). BeginsFrom at l) (sym (token_at-word at byte (tokens_from (at + 1) rest) goes)) (begins-byte at (tokens_from (at + 1) rest)))
    ]) refl

-- a byte of a word, in front of what does not begin with the word's next byte
byte-alone : (at : ℕ) (tokens : List Token) → BeginsFrom ((at + 1) + 1) tokens → byte_at at tokens ≡ word_at at ∷ tokens
byte-alone at [] h = refl
byte-alone at (Sign symbol ∷ rest) h = refl
byte-alone at (Word span ∷ rest) h =
    let apart : (span.from == at + 1) ≡ false = ne_eqb span.from (at + 1) (λ e. absurd (omega arith)) in
    rw apart refl

-- a byte of a word, in front of its next
byte-more : (at to : ℕ) (tokens : List Token) → byte_at at (Word (record { from = at + 1; to = to }) ∷ tokens) ≡ Word (record { from = at; to = to }) ∷ tokens
byte-more at to tokens = rw (eq-eqb (at + 1) (at + 1) refl) refl

-- the first word of the bytes, which begin with one of its
word-passed : (at byte : ℕ) (rest : List ℕ) → ends_word byte ≡ false →
    tokens_from at (byte ∷ rest) ≡ Word (record { from = at; to = at + suc (position_or_len ends_word rest) }) ∷ tokens_from (at + suc (position_or_len ends_word rest)) (drop (position_or_len ends_word rest) rest)
unfolding tokens_from
word-passed at byte [] goes = token_at-word at byte [] goes
word-passed at byte (next ∷ rest) goes =
    token_at-word at byte (tokens_from (at + 1) (next ∷ rest)) goes ∙
    (elim (ends_word next) as (λ (b : Bool). ends_word next ≡ b → byte_at at (tokens_from (at + 1) (next ∷ rest)) ≡ Word (record { from = at; to = at + suc (position_or_len ends_word (next ∷ rest)) })
    ∷ tokens_from (at + suc (position_or_len ends_word (next ∷ rest))) (drop (position_or_len ends_word (next ∷ rest)) (next ∷ rest))) [
      | true ↦ (λ ends.
          rw (position-here ends_word next rest ends)
          (byte-alone at (tokens_from (at + 1) (next ∷ rest)) (begins-behind (at + 1) next (tokens_from ((at + 1) + 1) rest) ends (begins-from ((at + 1) + 1) rest))))
      | false ↦ (λ more.
          let place : (at + 1) + suc (position_or_len ends_word rest) ≡ at + suc (suc (position_or_len ends_word rest)) = omega arith in
          rw (position-other ends_word next rest more)
          (ap (byte_at at) (word-passed (at + 1) next rest more) ∙ byte-more at ((at + 1) + suc (position_or_len ends_word rest)) (tokens_from ((at + 1) + suc (position_or_len ends_word rest)) (drop (position_or_len ends_word rest) rest))
          ∙ ap (λ (n : ℕ). Word (record { from = at; to = n }) ∷ tokens_from n (drop (position_or_len ends_word rest) rest)) place))
    ]) refl

-- ---- the next symbol or word

-- the blanks are passed
pub after-blanks : (at next : ℕ) (bytes rest : List ℕ) (place : Option ℕ) → place ≡ position is_no_blank bytes →
    rest ≡ drop (unwrap_or place (length bytes)) bytes → next ≡ at + unwrap_or place (length bytes) → tokens_from at bytes ≡ tokens_from next rest
after-blanks at next bytes rest place found rest_is next_is =
    rw (rest_is, next_is, found, first_or_end is_no_blank bytes) (sym (blanks-passed at bytes))

-- and what goes on is no blank
pub no-blank-behind : (bytes rest : List ℕ) (place : Option ℕ) → place ≡ position is_no_blank bytes →
    rest ≡ drop (unwrap_or place (length bytes)) bytes → 1 ≤ length rest → is_blank (get_or rest 0 0) ≡ false
no-blank-behind bytes rest place found rest_is some =
    let e : rest ≡ drop (position_or_len is_no_blank bytes) bytes = rest_is ∙ ap (λ n. drop n bytes) (ap (λ o. unwrap_or o (length bytes)) found ∙ first_or_end is_no_blank bytes) in
    let within : position_or_len is_no_blank bytes < length bytes = omega (arith, ap length e, length-drop (position_or_len is_no_blank bytes) bytes) in
    let here : is_no_blank (get_or bytes (position_or_len is_no_blank bytes) 0) ≡ true = passes_at_first is_no_blank bytes 0 within in
    let first : get_or rest 0 0 ≡ get_or bytes (position_or_len is_no_blank bytes) 0 = grind (arith, common_steps) in
    rw first (not-true _ here)

pub next-none : (at : ℕ) (bytes : List ℕ) → length bytes < 1 → tokens_from at bytes ≡ []
unfolding tokens_from
next-none at [] few = refl
next-none at (byte ∷ rest) few = absurd (omega arith)

pub next-symbol : (at next : ℕ) (bytes rest : List ℕ) (symbol : Symbol) → 1 ≤ length bytes → symbol_of (get_or bytes 0 0) ≡ Some symbol →
    rest ≡ drop 1 bytes → next ≡ at + 1 → tokens_from at bytes ≡ Sign symbol ∷ tokens_from next rest
unfolding tokens_from
next-symbol at next [] rest symbol some h rest_is next_is = absurd (omega arith)
next-symbol at next (byte ∷ more) rest symbol some h rest_is next_is = rw (rest_is, next_is) (token_at-symbol at byte (tokens_from (at + 1) more) symbol h)

pub next-word : (at next : ℕ) (bytes rest : List ℕ) (place : Option ℕ) → 1 ≤ length bytes → symbol_of (get_or bytes 0 0) ≡ None → is_blank (get_or bytes 0 0) ≡ false →
    place ≡ position ends_word bytes → rest ≡ drop (unwrap_or place (length bytes)) bytes → next ≡ at + unwrap_or place (length bytes) →
    tokens_from at bytes ≡ Word (record { from = at; to = next }) ∷ tokens_from next rest
next-word at next [] rest place some sign blank found rest_is next_is = absurd (omega arith)
next-word at next (byte ∷ more) rest place some sign blank found rest_is next_is =
    let goes : ends_word byte ≡ false = rw (sign, blank) refl in
    rw (rest_is, next_is, found, first_or_end ends_word (byte ∷ more), position-other ends_word byte more goes) (word-passed at byte more goes)
