-- What is found in a line lies in it.
use Rattle.std.proofs.Common.{◌≡◌, ℕ, ◌+◌, ◌<◌, ◌≤◌, List, [], ◌∷◌, ◌++◌, length, Bool, true, false, Some, None, map}
use Rattle.std.proofs.Common.{refl, sym, subst, arith, length-take}
use Rattle.std.specs.Prelude.{◌==◌, nat_lt, nat_le, ◌&&◌, is_some, Option, IfSome, if◌then◌else◌}
use Rattle.std.specs.List.{All, slice_split, onto_first, list_any, position_or_len}
use Rattle.std.proofs.lemmas.Bool.{eqb-true}
use Rattle.std.proofs.lemmas.List.Elements.{All-nil, All-cons}
use Rattle.jos_shell.specs.declared.numbers.TheConstants.{LINE_MAX, WORDS_MAX, COMMANDS_MAX}
use Rattle.jos_shell.specs.declared.tokens.Symbol.{Symbol}
use Rattle.jos_shell.specs.declared.tokens.Symbol.TheVariants.{Input, Output, Pipe, Next}
use Rattle.jos_shell.specs.declared.tokens.Token.{Token}
use Rattle.jos_shell.specs.declared.tokens.Token.TheVariants.{Sign, Word}
use Rattle.jos_shell.specs.declared.line.Command.{Command}
use Rattle.jos_shell.specs.Tokens.{is_blank, is_hash, is_reserved, spoken, word_at, byte_at, token_at, tokens_from}
use Rattle.jos_shell.specs.Grammar.{Asked, asked_word, asked_from, asked_to, words_asked, if_it_has_words, command_asked, is_pipe}
use Rattle.jos_shell.specs.Grammar.{in_front_of, commands_asked, job_asked, is_next, jobs_asked, if_not_too_many, commands_in, asked_by, IsInLine, CommandIsInLine, ◌>>=◌}
use Rattle.jos_shell.specs.Reading.{symbol_of, ends_word}
use Rattle.jos_shell.proofs.Bytes.{token_at-symbol, token_at-blank, token_at-word}

-- ---- of each of a list

abbrev Each : {A : Type 0} → (A → Type 0) → List A → Type 0
Each P [] = Unit {0}
Each P (x ∷ xs) = P x × Each P xs

each-append : {A : Type 0} (P : A → Type 0) (xs ys : List A) → Each P xs → Each P ys → Each P (xs ++ ys)
each-append P [] ys h k = k
each-append P (x ∷ xs) ys h k = (h.0, each-append P xs ys h.1 k)

all-of-each : {A : Type 0} (P : A → Type 0) (xs : List A) → Each P xs → All P xs
all-of-each P [] h = All-nil P
all-of-each P (x ∷ xs) h = All-cons P x xs h.0 (all-of-each P xs h.1)

each-onto : {A : Type 0} (P : A → Type 0) (x : A) (parts : List (List A)) → P x → Each (Each P) parts → Each (Each P) (onto_first x parts)
each-onto P x [] h k = ((h, tt), tt)
each-onto P x (part ∷ parts) h k = ((h, k.0), k.1)

each-split : {A : Type 0} (P : A → Type 0) (test : A → Bool) (xs : List A) → Each P xs → Each (Each P) (slice_split test xs)
each-split P test [] h = (tt, tt)
each-split P test (x ∷ xs) h =
    elim (test x) as (λ (b : Bool). Each (Each P) (if b then [] ∷ slice_split test xs else onto_first x (slice_split test xs)))
    [ true ↦ (tt, each-split P test xs h.1) | false ↦ each-onto P x (slice_split test xs) h.0 (each-split P test xs h.1) ]

if-bind : {A B : Type 0} (P : A → Type 0) (Q : B → Type 0) (o : Option A) (next : A → Option B) → IfSome o P → ((x : A) → P x → IfSome (next x) Q) → IfSome (o >>= next) Q
if-bind P Q None next h f = tt
if-bind P Q (Some x) next h f = f x h

if-test : {A : Type 0} (P : A → Type 0) (b : Bool) (x : A) → P x → IfSome (if b then Some x else None) P
if-test P true x h = h
if-test P false x h = tt

if-not : {A : Type 0} (P : A → Type 0) (b : Bool) (o : Option A) → IfSome o P → IfSome (if b then None else o) P
if-not P true o h = tt
if-not P false o h = h

-- ---- symbols and words

abbrev TokenIsIn : ℕ → Token → Type 0
TokenIsIn total (Word span) = IsInLine total span
TokenIsIn total (Sign symbol) = Unit {0}

byte-is-in : (total at : ℕ) (tokens : List Token) → at + 1 ≤ total → Each (TokenIsIn total) tokens → Each (TokenIsIn total) (byte_at at tokens)
byte-is-in total at [] within h = (record { some = omega arith; within = omega arith }, tt)
byte-is-in total at (Sign symbol ∷ rest) within h = (record { some = omega arith; within = omega arith }, h)
byte-is-in total at (Word span ∷ rest) within h =
    (elim (span.from == at + 1) as (λ (b : Bool). (span.from == at + 1) ≡ b → Each (TokenIsIn total) (if b then Word (record { from = at; to = span.to }) ∷ rest else word_at at ∷ Word span ∷ rest)) [
      | true ↦ (λ next. let more : span.from ≡ at + 1 = eqb-true span.from (at + 1) next in let some : span.from < span.to = h.0.some in (record { some = omega arith; within = h.0.within }, h.1))
      | false ↦ (λ apart. (record { some = omega arith; within = omega arith }, h))
    ]) refl

token-is-in : (total at byte : ℕ) (tokens : List Token) → at + 1 ≤ total → Each (TokenIsIn total) tokens → Each (TokenIsIn total) (token_at at byte tokens)
token-is-in total at byte tokens within h =
    (elim (symbol_of byte) as (λ (o : Option Symbol). symbol_of byte ≡ o → Each (TokenIsIn total) (token_at at byte tokens)) [
      | Some symbol ↦ (λ e. subst (λ (l : List Token). Each (TokenIsIn total) l) (sym (token_at-symbol at byte tokens symbol e)) (tt, h))
      | None ↦ (λ e. (elim (is_blank byte) as (λ (b : Bool). is_blank byte ≡ b → Each (TokenIsIn total) (token_at at byte tokens)) [
        | true ↦ (λ blank. subst (λ (l : List Token). Each (TokenIsIn total) l) (sym (token_at-blank at byte tokens blank)) h)
        | false ↦ (λ other.
            let goes : ends_word byte ≡ false = rw (e, other) refl in
            subst (λ (l : List Token). Each (TokenIsIn total) l) (sym (token_at-word at byte tokens goes)) (byte-is-in total at tokens within h))
      ]) refl)
    ]) refl

tokens-are-in : (total at : ℕ) (bytes : List ℕ) → at + length bytes ≤ total → Each (TokenIsIn total) (tokens_from at bytes)
unfolding tokens_from
tokens-are-in total at [] within = tt
tokens-are-in total at (byte ∷ rest) within =
    token-is-in total at byte (tokens_from (at + 1) rest) (omega arith) (tokens-are-in total (at + 1) rest (omega arith))

-- ---- commands

record AskedIsIn (total : ℕ) (command : Asked) : Type 0 where
  words : Each (IsInLine total) command.words
  from : IfSome command.from (IsInLine total)
  to : IfSome command.to (IsInLine total)

words-are-in : (total : ℕ) (tokens : List Token) → Each (TokenIsIn total) tokens → IfSome (words_asked tokens) (AskedIsIn total)
unfolding words_asked
words-are-in total [] h = record { words = tt; from = tt; to = tt }
words-are-in total (Word word ∷ rest) h =
    if-bind (AskedIsIn total) (AskedIsIn total) (words_asked rest) (asked_word word) (words-are-in total rest h.1)
    (λ c k. record { words = (h.0, k.words); from = k.from; to = k.to })
words-are-in total (Sign Input ∷ []) h = tt
words-are-in total (Sign Input ∷ Sign symbol ∷ rest) h = tt
words-are-in total (Sign Input ∷ Word file ∷ rest) h =
    if-bind (AskedIsIn total) (AskedIsIn total) (words_asked rest) (asked_from file) (words-are-in total rest h.1.1)
    (λ c k. if-not (AskedIsIn total) (is_some c.from) (Some (record c { from = Some file })) (record { words = k.words; from = h.1.0; to = k.to }))
words-are-in total (Sign Output ∷ []) h = tt
words-are-in total (Sign Output ∷ Sign symbol ∷ rest) h = tt
words-are-in total (Sign Output ∷ Word file ∷ rest) h =
    if-bind (AskedIsIn total) (AskedIsIn total) (words_asked rest) (asked_to file) (words-are-in total rest h.1.1)
    (λ c k. if-not (AskedIsIn total) (is_some c.to) (Some (record c { to = Some file })) (record { words = k.words; from = k.from; to = h.1.0 }))
words-are-in total (Sign Pipe ∷ rest) h = tt
words-are-in total (Sign Next ∷ rest) h = tt

command-is-in : (total : ℕ) (tokens : List Token) → Each (TokenIsIn total) tokens → IfSome (command_asked tokens) (AskedIsIn total)
command-is-in total tokens h =
    if-bind (AskedIsIn total) (AskedIsIn total) (words_asked tokens) if_it_has_words (words-are-in total tokens h)
    (λ c k. if-test (AskedIsIn total) (nat_lt 0 (length c.words) && nat_le (length c.words) WORDS_MAX) c k)

in-front : (total : ℕ) (command : Asked) (others : List Asked) → AskedIsIn total command → Each (AskedIsIn total) others → Each (AskedIsIn total) (in_front_of command others)
in-front total command [] h k = (record { words = h.words; from = h.from; to = h.to }, tt)
in-front total command (other ∷ others) h k = (record { words = h.words; from = h.from; to = h.to }, k)

commands-are-in : (total : ℕ) (parts : List (List Token)) → Each (Each (TokenIsIn total)) parts → IfSome (commands_asked parts) (Each (AskedIsIn total))
unfolding commands_asked
commands-are-in total [] h = tt
commands-are-in total (tokens ∷ parts) h =
    if-bind (AskedIsIn total) (Each (AskedIsIn total)) (command_asked tokens) (λ command. commands_asked parts >>= λ others. Some (in_front_of command others)) (command-is-in total tokens h.0)
    (λ c k. if-bind (Each (AskedIsIn total)) (Each (AskedIsIn total)) (commands_asked parts) (λ others. Some (in_front_of c others)) (commands-are-in total parts h.1)
    (λ others l. in-front total c others k l))

job-is-in : (total : ℕ) (tokens : List Token) → Each (TokenIsIn total) tokens → IfSome (job_asked tokens) (Each (AskedIsIn total))
job-is-in total [] h = tt
job-is-in total (token ∷ tokens) h = commands-are-in total (slice_split is_pipe (token ∷ tokens)) (each-split (TokenIsIn total) is_pipe (token ∷ tokens) h)

jobs-are-in : (total : ℕ) (parts : List (List Token)) → Each (Each (TokenIsIn total)) parts → IfSome (jobs_asked parts) (Each (AskedIsIn total))
unfolding jobs_asked
jobs-are-in total [] h = tt
jobs-are-in total (tokens ∷ parts) h =
    if-bind (Each (AskedIsIn total)) (Each (AskedIsIn total)) (job_asked tokens) (λ job. jobs_asked parts >>= λ others. Some (job ++ others)) (job-is-in total tokens h.0)
    (λ job k. if-bind (Each (AskedIsIn total)) (Each (AskedIsIn total)) (jobs_asked parts) (λ others. Some (job ++ others)) (jobs-are-in total parts h.1)
    (λ others l. each-append (AskedIsIn total) job others k l))

line-is-in : (line : List ℕ) → IfSome (commands_in line) (Each (AskedIsIn (length line)))
unfolding commands_in
line-is-in line =
    if-not (Each (AskedIsIn (length line))) (nat_lt LINE_MAX (length line)) _
    (if-not (Each (AskedIsIn (length line))) (list_any is_reserved (spoken line)) _
    (if-bind (Each (AskedIsIn (length line))) (Each (AskedIsIn (length line))) (jobs_asked (slice_split is_next (tokens_from 0 (spoken line)))) if_not_too_many
    (jobs-are-in (length line) (slice_split is_next (tokens_from 0 (spoken line)))
    (each-split (TokenIsIn (length line)) is_next (tokens_from 0 (spoken line)) (tokens-are-in (length line) 0 (spoken line) (omega (arith, length-take (position_or_len is_hash line) line)))))
    (λ commands k. if-test (Each (AskedIsIn (length line))) (nat_le (length commands) COMMANDS_MAX) commands k)))

-- ---- as the code has them

commands-lie : (total : ℕ) (commands : List Command) → Each (AskedIsIn total) (map asked_by commands) → All (CommandIsInLine total) commands
commands-lie total [] h = All-nil (CommandIsInLine total)
commands-lie total (command ∷ commands) h =
    All-cons (CommandIsInLine total) command commands
    (record { words = all-of-each (IsInLine total) command.words.items h.0.words; from = h.0.from; to = h.0.to }) (commands-lie total commands h.1)

pub line-lies : (line : List ℕ) (commands : List Command) → commands_in line ≡ Some (map asked_by commands) → All (CommandIsInLine (length line)) commands
line-lies line commands e = commands-lie (length line) commands (subst (λ (o : Option (List Asked)). IfSome o (Each (AskedIsIn (length line)))) e (line-is-in line))
