-- One symbol or word more is read of a line.
use Rattle.std.proofs.Common.{◌≡◌, ◌<◌, ◌≤◌, List, [], ◌∷◌, ◌++◌, length, Bool, true, false, Some, None}
use Rattle.std.proofs.Common.{refl, sym, ap, ◌∙◌, arith, append_assoc, length-append}
use Rattle.std.specs.Prelude.{◌&&◌, not, nat_lt, nat_le, is_some, Option, Result, Ok, Err, OnOk, OnErr, if◌then◌else◌}
use Rattle.std.specs.List.{slice_split, onto_first}
use Rattle.std.proofs.Math.Bool.{and-false}
use Rattle.std.proofs.lemmas.Bool.{lt-leb, le-leb, ltb-false}
use Rattle.std.proofs.lemmas.List.{append-nil}
use Rattle.fs_layout.specs.declared.paths.Span.{Span}
use Rattle.jos_shell.specs.declared.numbers.TheConstants.{WORDS_MAX, COMMANDS_MAX}
use Rattle.jos_shell.specs.declared.tokens.Symbol.TheVariants.{Input, Output, Pipe, Next}
use Rattle.jos_shell.specs.declared.tokens.Token.{Token}
use Rattle.jos_shell.specs.declared.tokens.Token.TheVariants.{Sign, Word}
use Rattle.jos_shell.specs.Grammar.{Asked, nothing_asked, asked_word, asked_from, asked_to, words_asked, if_it_has_words, command_asked, is_pipe}
use Rattle.jos_shell.specs.Grammar.{in_front_of, commands_asked, job_asked, is_next, jobs_asked, if_not_too_many, ◌>>=◌}
use Rattle.jos_shell.specs.Reading.{Begun, nothing_begun, is_nil, is_nothing, has_no_job, can_end, ended, has_word_first, first_part, other_parts}
use Rattle.jos_shell.specs.Reading.{one_file, joined, command_behind, commands_behind, job_behind, jobs_behind, line_behind}

-- ---- parts

onto : {A : Type 0} (x : A) (parts : List (List A)) → onto_first x parts ≡ (x ∷ first_part parts) ∷ other_parts parts
onto x [] = refl
onto x (part ∷ parts) = refl

cut-by : {A : Type 0} (b : Bool) (x : A) (parts : List (List A)) →
    (if b then [] ∷ parts else onto_first x parts) ≡ first_part (if b then [] ∷ parts else onto_first x parts) ∷ other_parts (if b then [] ∷ parts else onto_first x parts)
cut-by true x parts = refl
cut-by false x [] = refl
cut-by false x (part ∷ parts) = refl

-- there is always a first
cut : {A : Type 0} (test : A → Bool) (xs : List A) → slice_split test xs ≡ first_part (slice_split test xs) ∷ other_parts (slice_split test xs)
cut test [] = refl
cut test (x ∷ xs) = cut-by (test x) x (slice_split test xs)

-- ---- a command

none-behind : {A B : Type 0} (o : Option A) → ◌≡◌ {A = Option B} (o >>= (λ (x : A). None)) None
none-behind (Some x) = refl
none-behind None = refl

abbrev with_word : Asked → Span → Asked
with_word command word = record command { words = command.words ++ word ∷ [] }

abbrev with_from : Asked → Span → Asked
with_from command file = record command { from = Some file }

abbrev with_to : Asked → Span → Asked
with_to command file = record command { to = Some file }

join-word : (before : Asked) (word : Span) (behind : Option Asked) → (behind >>= asked_word word) >>= joined before ≡ behind >>= joined (with_word before word)
join-word before word None = refl
join-word before word (Some c) =
    ap (λ (words : List Span). one_file before.from c.from >>= λ from. one_file before.to c.to >>= λ to. Some (record { words = words; from = from; to = to; piped = c.piped }))
    (sym (append_assoc before.words (word ∷ []) c.words))

join-from : (words : List Span) (to : Option Span) (piped : Bool) (file : Span) (behind : Option Asked) →
    (behind >>= asked_from file) >>= joined (record { words = words; from = None; to = to; piped = piped }) ≡ behind >>= joined (record { words = words; from = Some file; to = to; piped = piped })
join-from words to piped file None = refl
join-from words to piped file (Some c) =
    elim c.from as (λ (o : Option Span). (if is_some o then None else Some (record c { from = Some file })) >>= joined (record { words = words; from = None; to = to; piped = piped })
    ≡ joined (record { words = words; from = Some file; to = to; piped = piped }) (record c { from = o })) [ Some other ↦ refl | None ↦ refl ]

join-to : (words : List Span) (from : Option Span) (piped : Bool) (file : Span) (behind : Option Asked) →
    (behind >>= asked_to file) >>= joined (record { words = words; from = from; to = None; piped = piped }) ≡ behind >>= joined (record { words = words; from = from; to = Some file; piped = piped })
join-to words from piped file None = refl
join-to words from piped file (Some c) =
    elim c.to as (λ (o : Option Span). (if is_some o then None else Some (record c { to = Some file })) >>= joined (record { words = words; from = from; to = None; piped = piped })
    ≡ joined (record { words = words; from = from; to = Some file; piped = piped }) (record c { to = o })) [
      | Some other ↦ sym (none-behind {B = Asked} (one_file from c.from))
      | None ↦ refl
    ]

command-word : (before : Asked) (word : Span) (rest : List Token) → command_behind before (Word word ∷ rest) ≡ command_behind (with_word before word) rest
unfolding words_asked
command-word before word rest = ap (λ (o : Option Asked). o >>= if_it_has_words) (join-word before word (words_asked rest))

command-from : (before : Asked) (file : Span) (rest : List Token) → before.from ≡ None → command_behind before (Sign Input ∷ Word file ∷ rest) ≡ command_behind (with_from before file) rest
unfolding words_asked
command-from before file rest first =
    ap (λ (o : Option Asked). o >>= if_it_has_words)
    (ap (λ (from : Option Span). (words_asked rest >>= asked_from file) >>= joined (record before { from = from })) first
    ∙ join-from before.words before.to before.piped file (words_asked rest))

command-to : (before : Asked) (file : Span) (rest : List Token) → before.to ≡ None → command_behind before (Sign Output ∷ Word file ∷ rest) ≡ command_behind (with_to before file) rest
unfolding words_asked
command-to before file rest first =
    ap (λ (o : Option Asked). o >>= if_it_has_words)
    (ap (λ (to : Option Span). (words_asked rest >>= asked_to file) >>= joined (record before { to = to })) first
    ∙ join-to before.words before.from before.piped file (words_asked rest))

-- what stands behind can't be read with it
abbrev NotBehind : Asked → List Token → Type 0
NotBehind before rest = command_behind before rest ≡ None

refused-one : (file : Option Span) (other : Span) (next : Option Span → Option Asked) → is_some file ≡ true → one_file file (Some other) >>= next ≡ None
refused-one (Some x) other next twice = refl
refused-one None other next twice = absurd cc

refused-other : (first : Option (Option Span)) (file : Option Span) (other : Span) (next : Option Span → Option Span → Option Asked) → is_some file ≡ true →
    first >>= (λ (from : Option Span). one_file file (Some other) >>= next from) ≡ None
refused-other None file other next twice = refl
refused-other (Some from) file other next twice = refused-one file other (next from) twice

refused-from : (before : Asked) (file : Span) (behind : Option Asked) → is_some before.from ≡ true → (behind >>= asked_from file) >>= joined before ≡ None
refused-from before file None twice = refl
refused-from before file (Some c) twice =
    elim c.from as (λ (o : Option Span). (if is_some o then None else Some (record c { from = Some file })) >>= joined before ≡ None)
    [ Some other ↦ refl | None ↦ refused-one before.from file _ twice ]

refused-to : (before : Asked) (file : Span) (behind : Option Asked) → is_some before.to ≡ true → (behind >>= asked_to file) >>= joined before ≡ None
refused-to before file None twice = refl
refused-to before file (Some c) twice =
    elim c.to as (λ (o : Option Span). (if is_some o then None else Some (record c { to = Some file })) >>= joined before ≡ None)
    [ Some other ↦ refl | None ↦ refused-other (one_file before.from c.from) before.to file _ twice ]

second-from : (before : Asked) (file : Span) (rest : List Token) → is_some before.from ≡ true → NotBehind before (Sign Input ∷ Word file ∷ rest)
unfolding words_asked
second-from before file rest twice = ap (λ (o : Option Asked). o >>= if_it_has_words) (refused-from before file (words_asked rest) twice)

second-to : (before : Asked) (file : Span) (rest : List Token) → is_some before.to ≡ true → NotBehind before (Sign Output ∷ Word file ∷ rest)
unfolding words_asked
second-to before file rest twice = ap (λ (o : Option Asked). o >>= if_it_has_words) (refused-to before file (words_asked rest) twice)

no-file-from : (before : Asked) (rest : List Token) → has_word_first rest ≡ false → NotBehind before (Sign Input ∷ rest)
unfolding words_asked
no-file-from before [] h = refl
no-file-from before (Sign symbol ∷ rest) h = refl
no-file-from before (Word word ∷ rest) h = absurd cc

no-file-to : (before : Asked) (rest : List Token) → has_word_first rest ≡ false → NotBehind before (Sign Output ∷ rest)
unfolding words_asked
no-file-to before [] h = refl
no-file-to before (Sign symbol ∷ rest) h = refl
no-file-to before (Word word ∷ rest) h = absurd cc

many-words : (words : List Span) (command : Asked) → WORDS_MAX < length words → command.words ≡ words → if_it_has_words command ≡ None
many-words words command many are =
    let no : nat_le (length command.words) WORDS_MAX ≡ false = rw are (lt-leb (length words) WORDS_MAX many) in
    rw (no, and-false (nat_lt 0 (length command.words))) refl

-- more words than there may be stay too many
too-many-words : (before : Asked) (behind : Option Asked) → WORDS_MAX < length before.words → (behind >>= joined before) >>= if_it_has_words ≡ None
too-many-words before None many = refl
too-many-words before (Some c) many =
    elim (one_file before.from c.from) as (λ (o : Option (Option Span)). (o >>= λ (from : Option Span). one_file before.to c.to >>= λ (to : Option Span). Some (record { words = before.words ++ c.words; from = from; to = to; piped = c.piped })) >>= if_it_has_words ≡ None) [
      | None ↦ refl
      | Some from ↦ elim (one_file before.to c.to) as (λ (o : Option (Option Span)). (o >>= λ (to : Option Span). Some (record { words = before.words ++ c.words; from = from; to = to; piped = c.piped })) >>= if_it_has_words ≡ None) [
        | None ↦ refl
        | Some to ↦ many-words (before.words ++ c.words) (record { words = before.words ++ c.words; from = from; to = to; piped = c.piped }) (omega (arith, length-append before.words c.words)) refl
      ]
    ]

-- nothing stands behind
abbrev whole : Asked → Asked
whole command = record command { piped = false }

one-last : (file : Option Span) → one_file file None ≡ Some file
one-last None = refl
one-last (Some x) = refl

command-end : (before : Asked) → command_behind before [] ≡ if_it_has_words (whole before)
unfolding words_asked
command-end before =
    rw (one-last before.from, one-last before.to) (ap (λ (words : List Span). if_it_has_words (record before { words = words; piped = false })) (append-nil before.words))

-- nothing stands before
abbrev IsNothing : Asked → Type 0
IsNothing command = (command.words ≡ []) × (command.from ≡ None) × (command.to ≡ None)

nothing-is : (words : List Span) (from to : Option Span) (piped : Bool) → is_nothing (record { words = words; from = from; to = to; piped = piped }) ≡ true →
    IsNothing (record { words = words; from = from; to = to; piped = piped })
nothing-is [] None None piped h = (refl, refl, refl)
nothing-is [] None (Some x) piped h = absurd cc
nothing-is [] (Some x) to piped h = absurd cc
nothing-is (word ∷ words) from to piped h = absurd cc

join-nothing : (before : Asked) (behind : Option Asked) → IsNothing before → behind >>= joined before ≡ behind
join-nothing before None h = refl
join-nothing before (Some c) h = rw (h.0, h.1, h.2) refl

command-start : (before : Asked) (rest : List Token) → IsNothing before → command_behind before rest ≡ command_asked rest
command-start before rest h = ap (λ (o : Option Asked). o >>= if_it_has_words) (join-nothing before (words_asked rest) h)

-- ---- a job

going : (begun : Begun) (tokens : List Token) → has_no_job begun ≡ false → job_behind begun tokens ≡ commands_behind begun.command (slice_split is_pipe tokens)
going begun tokens h = rw (h, and-false (is_nil tokens)) refl

some-word : (words : List Span) (word : Span) (a b c : Bool) → a && (is_nil (words ++ word ∷ []) && b && c) ≡ false
some-word [] word a b c = and-false a
some-word (x ∷ words) word a b c = and-false a

some-from : (a b c : Bool) → a && (b && false && c) ≡ false
some-from true true c = refl
some-from true false c = refl
some-from false b c = refl

some-to : (a b c : Bool) → a && (b && c && false) ≡ false
some-to true true true = refl
some-to true true false = refl
some-to true false c = refl
some-to false b c = refl

-- the commands that a command begins, in front of which the tokens of `front` stand
abbrev begins : Option Asked → List (List Token) → Option (List Asked)
begins first others = first >>= λ command. commands_asked others >>= λ behind. Some (in_front_of command behind)

job-word : (begun : Begun) (word : Span) (tokens : List Token) →
    job_behind begun (Word word ∷ tokens) ≡ job_behind (record begun { command = with_word begun.command word }) tokens
job-word begun word tokens =
    ap (commands_behind begun.command) (onto (Word word) (slice_split is_pipe tokens))
    ∙ ap (λ (o : Option Asked). begins o (other_parts (slice_split is_pipe tokens))) (command-word begun.command word (first_part (slice_split is_pipe tokens)))
    ∙ sym (going (record begun { command = with_word begun.command word }) tokens (some-word begun.command.words word (not begun.after_pipe) (not (is_some begun.command.from)) (not (is_some begun.command.to))))

job-from : (begun : Begun) (file : Span) (tokens : List Token) → begun.command.from ≡ None →
    job_behind begun (Sign Input ∷ Word file ∷ tokens) ≡ job_behind (record begun { command = with_from begun.command file }) tokens
job-from begun file tokens first =
    ap (λ (parts : List (List Token)). commands_behind begun.command (onto_first (Sign Input) parts)) (onto (Word file) (slice_split is_pipe tokens))
    ∙ ap (λ (o : Option Asked). begins o (other_parts (slice_split is_pipe tokens))) (command-from begun.command file (first_part (slice_split is_pipe tokens)) first)
    ∙ sym (going (record begun { command = with_from begun.command file }) tokens (some-from (not begun.after_pipe) (is_nil begun.command.words) (not (is_some begun.command.to))))

job-to : (begun : Begun) (file : Span) (tokens : List Token) → begun.command.to ≡ None →
    job_behind begun (Sign Output ∷ Word file ∷ tokens) ≡ job_behind (record begun { command = with_to begun.command file }) tokens
job-to begun file tokens first =
    ap (λ (parts : List (List Token)). commands_behind begun.command (onto_first (Sign Output) parts)) (onto (Word file) (slice_split is_pipe tokens))
    ∙ ap (λ (o : Option Asked). begins o (other_parts (slice_split is_pipe tokens))) (command-to begun.command file (first_part (slice_split is_pipe tokens)) first)
    ∙ sym (going (record begun { command = with_to begun.command file }) tokens (some-to (not begun.after_pipe) (is_nil begun.command.words) (not (is_some begun.command.from))))

-- ---- a line

-- the whole line, by its job
abbrev with_job : List Asked → List (List Token) → Option (List Asked) → Option (List Asked)
with_job done others job = (job >>= λ first. jobs_asked others >>= λ behind. Some (done ++ (first ++ behind))) >>= if_not_too_many

pub line-word : (begun : Begun) (word : Span) (tokens : List Token) →
    line_behind begun (Word word ∷ tokens) ≡ line_behind (record begun { command = with_word begun.command word }) tokens
unfolding line_behind
line-word begun word tokens =
    ap (λ (parts : List (List Token)). jobs_behind begun parts >>= if_not_too_many) (onto (Word word) (slice_split is_next tokens))
    ∙ ap (with_job begun.done (other_parts (slice_split is_next tokens))) (job-word begun word (first_part (slice_split is_next tokens)))

pub line-from : (begun : Begun) (file : Span) (tokens : List Token) → begun.command.from ≡ None →
    line_behind begun (Sign Input ∷ Word file ∷ tokens) ≡ line_behind (record begun { command = with_from begun.command file }) tokens
unfolding line_behind
line-from begun file tokens first =
    ap (λ (parts : List (List Token)). jobs_behind begun (onto_first (Sign Input) parts) >>= if_not_too_many) (onto (Word file) (slice_split is_next tokens))
    ∙ ap (with_job begun.done (other_parts (slice_split is_next tokens))) (job-from begun file (first_part (slice_split is_next tokens)) first)

pub line-to : (begun : Begun) (file : Span) (tokens : List Token) → begun.command.to ≡ None →
    line_behind begun (Sign Output ∷ Word file ∷ tokens) ≡ line_behind (record begun { command = with_to begun.command file }) tokens
unfolding line_behind
line-to begun file tokens first =
    ap (λ (parts : List (List Token)). jobs_behind begun (onto_first (Sign Output) parts) >>= if_not_too_many) (onto (Word file) (slice_split is_next tokens))
    ∙ ap (with_job begun.done (other_parts (slice_split is_next tokens))) (job-to begun file (first_part (slice_split is_next tokens)) first)

-- ---- refused

not-word-first : (test : Token → Bool) (tokens : List Token) → has_word_first tokens ≡ false → has_word_first (first_part (slice_split test tokens)) ≡ false
not-word-first test [] h = refl
not-word-first test (Word word ∷ tokens) h = absurd cc
not-word-first test (Sign symbol ∷ tokens) h =
    elim (test (Sign symbol)) as (λ (b : Bool). has_word_first (first_part (if b then [] ∷ slice_split test tokens else onto_first (Sign symbol) (slice_split test tokens))) ≡ false)
    [ true ↦ refl | false ↦ ap (λ (parts : List (List Token)). has_word_first (first_part parts)) (onto (Sign symbol) (slice_split test tokens)) ]

job-second-from : (begun : Begun) (file : Span) (tokens : List Token) → is_some begun.command.from ≡ true → job_behind begun (Sign Input ∷ Word file ∷ tokens) ≡ None
job-second-from begun file tokens twice =
    ap (λ (parts : List (List Token)). commands_behind begun.command (onto_first (Sign Input) parts)) (onto (Word file) (slice_split is_pipe tokens))
    ∙ ap (λ (o : Option Asked). begins o (other_parts (slice_split is_pipe tokens))) (second-from begun.command file (first_part (slice_split is_pipe tokens)) twice)

pub line-second-from : (begun : Begun) (file : Span) (tokens : List Token) → is_some begun.command.from ≡ true → line_behind begun (Sign Input ∷ Word file ∷ tokens) ≡ None
unfolding line_behind
line-second-from begun file tokens twice =
    ap (λ (parts : List (List Token)). jobs_behind begun (onto_first (Sign Input) parts) >>= if_not_too_many) (onto (Word file) (slice_split is_next tokens))
    ∙ ap (with_job begun.done (other_parts (slice_split is_next tokens))) (job-second-from begun file (first_part (slice_split is_next tokens)) twice)

job-second-to : (begun : Begun) (file : Span) (tokens : List Token) → is_some begun.command.to ≡ true → job_behind begun (Sign Output ∷ Word file ∷ tokens) ≡ None
job-second-to begun file tokens twice =
    ap (λ (parts : List (List Token)). commands_behind begun.command (onto_first (Sign Output) parts)) (onto (Word file) (slice_split is_pipe tokens))
    ∙ ap (λ (o : Option Asked). begins o (other_parts (slice_split is_pipe tokens))) (second-to begun.command file (first_part (slice_split is_pipe tokens)) twice)

pub line-second-to : (begun : Begun) (file : Span) (tokens : List Token) → is_some begun.command.to ≡ true → line_behind begun (Sign Output ∷ Word file ∷ tokens) ≡ None
unfolding line_behind
line-second-to begun file tokens twice =
    ap (λ (parts : List (List Token)). jobs_behind begun (onto_first (Sign Output) parts) >>= if_not_too_many) (onto (Word file) (slice_split is_next tokens))
    ∙ ap (with_job begun.done (other_parts (slice_split is_next tokens))) (job-second-to begun file (first_part (slice_split is_next tokens)) twice)

job-no-from : (begun : Begun) (tokens : List Token) → has_word_first tokens ≡ false → job_behind begun (Sign Input ∷ tokens) ≡ None
job-no-from begun tokens h =
    ap (commands_behind begun.command) (onto (Sign Input) (slice_split is_pipe tokens))
    ∙ ap (λ (o : Option Asked). begins o (other_parts (slice_split is_pipe tokens))) (no-file-from begun.command (first_part (slice_split is_pipe tokens)) (not-word-first is_pipe tokens h))

pub line-no-from : (begun : Begun) (tokens : List Token) → has_word_first tokens ≡ false → line_behind begun (Sign Input ∷ tokens) ≡ None
unfolding line_behind
line-no-from begun tokens h =
    ap (λ (parts : List (List Token)). jobs_behind begun parts >>= if_not_too_many) (onto (Sign Input) (slice_split is_next tokens))
    ∙ ap (with_job begun.done (other_parts (slice_split is_next tokens))) (job-no-from begun (first_part (slice_split is_next tokens)) (not-word-first is_next tokens h))

job-no-to : (begun : Begun) (tokens : List Token) → has_word_first tokens ≡ false → job_behind begun (Sign Output ∷ tokens) ≡ None
job-no-to begun tokens h =
    ap (commands_behind begun.command) (onto (Sign Output) (slice_split is_pipe tokens))
    ∙ ap (λ (o : Option Asked). begins o (other_parts (slice_split is_pipe tokens))) (no-file-to begun.command (first_part (slice_split is_pipe tokens)) (not-word-first is_pipe tokens h))

pub line-no-to : (begun : Begun) (tokens : List Token) → has_word_first tokens ≡ false → line_behind begun (Sign Output ∷ tokens) ≡ None
unfolding line_behind
line-no-to begun tokens h =
    ap (λ (parts : List (List Token)). jobs_behind begun parts >>= if_not_too_many) (onto (Sign Output) (slice_split is_next tokens))
    ∙ ap (with_job begun.done (other_parts (slice_split is_next tokens))) (job-no-to begun (first_part (slice_split is_next tokens)) (not-word-first is_next tokens h))

job-begun : (words : List Span) (a b c : Bool) → 0 < length words → a && (is_nil words && b && c) ≡ false
job-begun [] a b c some = absurd (omega arith)
job-begun (x ∷ words) a b c some = and-false a

pub line-many-words : (begun : Begun) (word : Span) (tokens : List Token) → WORDS_MAX ≤ length begun.command.words → line_behind begun (Word word ∷ tokens) ≡ None
unfolding line_behind
line-many-words begun word tokens many =
    ap (λ (parts : List (List Token)). jobs_behind begun parts >>= if_not_too_many) (onto (Word word) (slice_split is_next tokens))
    ∙ ap (with_job begun.done (other_parts (slice_split is_next tokens)))
    (ap (commands_behind begun.command) (onto (Word word) (slice_split is_pipe (first_part (slice_split is_next tokens))))
    ∙ ap (λ (o : Option Asked). begins o (other_parts (slice_split is_pipe (first_part (slice_split is_next tokens)))))
    (command-word begun.command word (first_part (slice_split is_pipe (first_part (slice_split is_next tokens))))
    ∙ too-many-words (with_word begun.command word) (words_asked (first_part (slice_split is_pipe (first_part (slice_split is_next tokens)))))
    (omega (arith, length-append begun.command.words (word ∷ [])))))

-- ---- a command ends

-- as many commands as there may be are done, and one more
too-many-commands : (done : List Asked) (others : List (List Token)) (job : Option (List Asked)) → COMMANDS_MAX < length done → with_job done others job ≡ None
too-many-commands done others None many = refl
too-many-commands done others (Some first) many =
    elim (jobs_asked others) as (λ (o : Option (List Asked)). (o >>= λ behind. Some (done ++ (first ++ behind))) >>= if_not_too_many ≡ None) [
      | None ↦ refl
      | Some behind ↦ rw (lt-leb (length (done ++ (first ++ behind))) COMMANDS_MAX (omega (arith, length-append done (first ++ behind)))) refl
    ]

line-full : (begun : Begun) (tokens : List Token) → COMMANDS_MAX < length begun.done → line_behind begun tokens ≡ None
unfolding line_behind
line-full begun tokens many = too-many-commands begun.done (other_parts (slice_split is_next tokens)) (job_behind begun (first_part (slice_split is_next tokens))) many

-- behind a `|`, the commands of the rest of the job
job-after-pipe : (done : List Asked) (tokens : List Token) →
    job_behind (record { done = done; command = nothing_asked; after_pipe = true }) tokens ≡ commands_asked (slice_split is_pipe tokens)
unfolding commands_asked
job-after-pipe done tokens =
    going (record { done = done; command = nothing_asked; after_pipe = true }) tokens refl
    ∙ ap (λ (o : Option Asked). begins o (other_parts (slice_split is_pipe tokens))) (command-start nothing_asked (first_part (slice_split is_pipe tokens)) (refl, refl, refl))
    ∙ sym (ap commands_asked (cut is_pipe tokens))

-- a command of which the output is piped
abbrev piped : Asked → Asked
piped command = record command { piped = true }

pipe-joins : (done : List Asked) (command : Asked) (first : Option Asked) (others : Option (List Asked)) (behind : Option (List Asked)) →
    (((first >>= λ c. others >>= λ o. Some (in_front_of c o)) >>= λ commands. Some (in_front_of command commands)) >>= λ job. behind >>= λ b. Some (done ++ (job ++ b)))
    ≡ ((first >>= λ c. others >>= λ o. Some (in_front_of c o)) >>= λ job. behind >>= λ b. Some ((done ++ piped command ∷ []) ++ (job ++ b)))
pipe-joins done command None others behind = refl
pipe-joins done command (Some c) None behind = refl
pipe-joins done command (Some c) (Some []) None = refl
pipe-joins done command (Some c) (Some []) (Some b) = ap (λ (l : List Asked). Some l) (sym (append_assoc done (piped command ∷ []) (in_front_of c [] ++ b)))
pipe-joins done command (Some c) (Some (x ∷ o)) None = refl
pipe-joins done command (Some c) (Some (x ∷ o)) (Some b) = ap (λ (l : List Asked). Some l) (sym (append_assoc done (piped command ∷ []) (in_front_of c (x ∷ o) ++ b)))

pipe-law : (begun : Begun) (tokens : List Token) → if_it_has_words (whole begun.command) ≡ Some (whole begun.command) →
    line_behind begun (Sign Pipe ∷ tokens) ≡ line_behind (ended begun true) tokens
unfolding line_behind commands_asked
pipe-law begun tokens fine =
    let goes : List Token = first_part (slice_split is_next tokens) in
    let others : List (List Token) = other_parts (slice_split is_next tokens) in
    ap (λ (parts : List (List Token)). jobs_behind begun parts >>= if_not_too_many) (onto (Sign Pipe) (slice_split is_next tokens))
    ∙ ap (with_job begun.done others)
    (ap (λ (o : Option Asked). begins o (slice_split is_pipe goes)) (command-end begun.command ∙ fine)
    ∙ ap (λ (parts : List (List Token)). commands_asked parts >>= λ commands. Some (in_front_of (whole begun.command) commands)) (cut is_pipe goes))
    ∙ ap (λ (o : Option (List Asked)). o >>= if_not_too_many)
    (pipe-joins begun.done (whole begun.command) (command_asked (first_part (slice_split is_pipe goes))) (commands_asked (other_parts (slice_split is_pipe goes))) (jobs_asked others))
    ∙ ap (with_job (begun.done ++ piped begun.command ∷ []) others)
    (sym (ap commands_asked (cut is_pipe goes)) ∙ sym (job-after-pipe (begun.done ++ piped begun.command ∷ []) goes))

pipe-refused : (begun : Begun) (tokens : List Token) → if_it_has_words (whole begun.command) ≡ None → line_behind begun (Sign Pipe ∷ tokens) ≡ None
unfolding line_behind
pipe-refused begun tokens no_words =
    ap (λ (parts : List (List Token)). jobs_behind begun parts >>= if_not_too_many) (onto (Sign Pipe) (slice_split is_next tokens))
    ∙ ap (with_job begun.done (other_parts (slice_split is_next tokens)))
    (ap (λ (o : Option Asked). begins o (slice_split is_pipe (first_part (slice_split is_next tokens)))) (command-end begun.command ∙ no_words))

-- ---- a job ends

first-of : (a b : Bool) → a && b ≡ true → a ≡ true
first-of true b h = refl
first-of false b h = absurd cc

second-of : (a b : Bool) → a && b ≡ true → b ≡ true
second-of true b h = h
second-of false b h = absurd cc

rest-of : (a b : Bool) → a ≡ true → a && b ≡ false → b ≡ false
rest-of true b has h = h
rest-of false b has h = absurd cc

nothing-begun : (begun : Begun) → has_no_job begun ≡ true → IsNothing begun.command
nothing-begun begun h = nothing-is begun.command.words begun.command.from begun.command.to begun.command.piped (second-of (not begun.after_pipe) (is_nothing begun.command) h)

-- where nothing was read of the job, it is what stands behind
job-begins : (begun : Begun) (tokens : List Token) → has_no_job begun ≡ true → job_behind begun tokens ≡ job_asked tokens
unfolding commands_asked
job-begins begun [] h = rw h refl
job-begins begun (x ∷ tokens) h =
    ap (λ (o : Option Asked). begins o (other_parts (slice_split is_pipe (x ∷ tokens)))) (command-start begun.command (first_part (slice_split is_pipe (x ∷ tokens))) (nothing-begun begun h))
    ∙ sym (ap commands_asked (cut is_pipe (x ∷ tokens)))

-- the commands of jobs, behind those that are done
abbrev behind_done : List Asked → Option (List Asked) → Option (List Asked)
behind_done done jobs = (jobs >>= λ commands. Some (done ++ commands)) >>= if_not_too_many

jobs-join : (done : List Asked) (job others : Option (List Asked)) →
    (job >>= λ first. others >>= λ behind. Some (done ++ (first ++ behind))) ≡ ((job >>= λ first. others >>= λ behind. Some (first ++ behind)) >>= λ commands. Some (done ++ commands))
jobs-join done None others = refl
jobs-join done (Some first) None = refl
jobs-join done (Some first) (Some behind) = refl

line-begins : (begun : Begun) (tokens : List Token) → has_no_job begun ≡ true →
    line_behind begun tokens ≡ behind_done begun.done (jobs_asked (slice_split is_next tokens))
unfolding line_behind jobs_asked
line-begins begun tokens h =
    ap (with_job begun.done (other_parts (slice_split is_next tokens))) (job-begins begun (first_part (slice_split is_next tokens)) h)
    ∙ ap (λ (o : Option (List Asked)). o >>= if_not_too_many) (jobs-join begun.done (job_asked (first_part (slice_split is_next tokens))) (jobs_asked (other_parts (slice_split is_next tokens))))
    ∙ ap (λ (parts : List (List Token)). behind_done begun.done (jobs_asked parts)) (sym (cut is_next tokens))

empty-joins : (done : List Asked) (others : Option (List Asked)) →
    ((others >>= λ behind. Some (done ++ ([] ++ behind))) >>= if_not_too_many) ≡ behind_done done others
empty-joins done others = refl

next-joins : (done : List Asked) (command : Asked) (others : Option (List Asked)) →
    (others >>= λ behind. Some (done ++ ((record command { piped = false } ∷ []) ++ behind))) ≡ (others >>= λ commands. Some ((done ++ record command { piped = false } ∷ []) ++ commands))
next-joins done command None = refl
next-joins done command (Some behind) = ap (λ (l : List Asked). Some l) (sym (append_assoc done (record command { piped = false } ∷ []) behind))

same-option : (o : Option (List Asked)) → o >>= (λ commands. Some ([] ++ commands)) ≡ o
same-option None = refl
same-option (Some commands) = refl

-- an empty job ends
pub line-empty : (begun : Begun) (tokens : List Token) → has_no_job begun ≡ true → line_behind begun tokens ≡ line_behind begun (Sign Next ∷ tokens)
unfolding line_behind
line-empty begun tokens h =
    line-begins begun tokens h ∙ sym (ap (with_job begun.done (slice_split is_next tokens)) (job-begins begun [] h) ∙ empty-joins begun.done (jobs_asked (slice_split is_next tokens)))

next-law : (begun : Begun) (tokens : List Token) → has_no_job begun ≡ false → if_it_has_words (whole begun.command) ≡ Some (whole begun.command) →
    line_behind begun (Sign Next ∷ tokens) ≡ line_behind (ended begun false) tokens
unfolding line_behind commands_asked
next-law begun tokens job fine =
    ap (with_job begun.done (slice_split is_next tokens)) (going begun [] job ∙ ap (λ (o : Option Asked). begins o []) (command-end begun.command ∙ fine))
    ∙ ap (λ (o : Option (List Asked)). o >>= if_not_too_many) (next-joins begun.done (whole begun.command) (jobs_asked (slice_split is_next tokens)))
    ∙ sym (line-begins (ended begun false) tokens refl)

next-refused : (begun : Begun) (tokens : List Token) → has_no_job begun ≡ false → if_it_has_words (whole begun.command) ≡ None → line_behind begun (Sign Next ∷ tokens) ≡ None
unfolding line_behind
next-refused begun tokens job no_words =
    ap (with_job begun.done (slice_split is_next tokens)) (going begun [] job ∙ ap (λ (o : Option Asked). begins o []) (command-end begun.command ∙ no_words))

-- ---- whether a command may end

has-words : (b : Bool) (command : Asked) → is_some (if b then Some command else None) ≡ true → (if b then Some (whole command) else None) ≡ Some (whole command)
has-words true command h = refl
has-words false command h = absurd cc

has-no-words : (b : Bool) (command : Asked) → is_some (if b then Some command else None) ≡ false → ◌≡◌ {A = Option Asked} (if b then Some (whole command) else None) None
has-no-words true command h = absurd cc
has-no-words false command h = refl

abbrev may_have : Asked → Bool
may_have command = nat_lt 0 (length command.words) && nat_le (length command.words) WORDS_MAX

can-words : (begun : Begun) → can_end begun ≡ true → if_it_has_words (whole begun.command) ≡ Some (whole begun.command)
can-words begun can = has-words (may_have begun.command) begun.command (first-of (is_some (if_it_has_words begun.command)) (nat_lt (length begun.done) COMMANDS_MAX) can)

pub line-pipe : (begun : Begun) (tokens : List Token) → can_end begun ≡ true → line_behind begun (Sign Pipe ∷ tokens) ≡ line_behind (ended begun true) tokens
line-pipe begun tokens can = pipe-law begun tokens (can-words begun can)

pub line-next : (begun : Begun) (tokens : List Token) → has_no_job begun ≡ false → can_end begun ≡ true →
    line_behind begun (Sign Next ∷ tokens) ≡ line_behind (ended begun false) tokens
line-next begun tokens job can = next-law begun tokens job (can-words begun can)

one-more : (begun : Begun) (piped : Bool) → nat_lt (length begun.done) COMMANDS_MAX ≡ false → COMMANDS_MAX < length (ended begun piped).done
one-more begun piped full =
    let many : COMMANDS_MAX ≤ length begun.done = ltb-false (length begun.done) COMMANDS_MAX full in
    omega (arith, length-append begun.done (record begun.command { piped = piped } ∷ []))

pub line-pipe-refused : (begun : Begun) (tokens : List Token) → can_end begun ≡ false → line_behind begun (Sign Pipe ∷ tokens) ≡ None
line-pipe-refused begun tokens cannot =
    (elim (is_some (if_it_has_words begun.command)) as (λ (b : Bool). is_some (if_it_has_words begun.command) ≡ b → line_behind begun (Sign Pipe ∷ tokens) ≡ None) [
      | true ↦ (λ has. pipe-law begun tokens (has-words (may_have begun.command) begun.command has)
          ∙ line-full (ended begun true) tokens (one-more begun true (rest-of (is_some (if_it_has_words begun.command)) (nat_lt (length begun.done) COMMANDS_MAX) has cannot)))
      | false ↦ (λ none. pipe-refused begun tokens (has-no-words (may_have begun.command) begun.command none))
    ]) refl

pub line-next-refused : (begun : Begun) (tokens : List Token) → has_no_job begun ≡ false → can_end begun ≡ false → line_behind begun (Sign Next ∷ tokens) ≡ None
line-next-refused begun tokens job cannot =
    (elim (is_some (if_it_has_words begun.command)) as (λ (b : Bool). is_some (if_it_has_words begun.command) ≡ b → line_behind begun (Sign Next ∷ tokens) ≡ None) [
      | true ↦ (λ has. next-law begun tokens job (has-words (may_have begun.command) begun.command has)
          ∙ line-full (ended begun false) tokens (one-more begun false (rest-of (is_some (if_it_has_words begun.command)) (nat_lt (length begun.done) COMMANDS_MAX) has cannot)))
      | false ↦ (λ none. next-refused begun tokens job (has-no-words (may_have begun.command) begun.command none))
    ]) refl

-- ---- a whole line

-- nothing was read
pub line-start : (tokens : List Token) → line_behind nothing_begun tokens ≡ jobs_asked (slice_split is_next tokens) >>= if_not_too_many
line-start tokens = line-begins nothing_begun tokens refl ∙ ap (λ (o : Option (List Asked)). o >>= if_not_too_many) (same-option (jobs_asked (slice_split is_next tokens)))

-- nothing is left to read: the end of the line is as a `;`
pub line-end : (begun : Begun) → line_behind begun [] ≡ line_behind begun (Sign Next ∷ [])
unfolding line_behind jobs_asked
line-end begun = refl

pub line-done : (begun : Begun) → has_no_job begun ≡ true → length begun.done ≤ COMMANDS_MAX → line_behind begun [] ≡ Some begun.done
unfolding jobs_asked
line-done begun h few =
    line-begins begun [] h ∙ rw (append-nil begun.done, le-leb (length begun.done) COMMANDS_MAX few) refl

-- ---- what is known of an answer

pub on-ok : {T E P Q R : Type 0} (answer : Result T E) → OnOk answer P → OnOk answer Q → (P → Q → R) → OnOk answer R
on-ok (Ok x) p q f = f p q
on-ok (Err e) p q f = tt

pub on-err : {T E P Q : Type 0} (answer : Result T E) → OnErr answer P → (P → Q) → OnErr answer Q
on-err (Ok x) p f = tt
on-err (Err e) p f = f p

pub on-err-always : {T E P : Type 0} (answer : Result T E) → P → OnErr answer P
on-err-always (Ok x) p = tt
on-err-always (Err e) p = p
