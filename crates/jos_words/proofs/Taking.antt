-- What a word that is read leaves behind.
use Rattle.std.proofs.Common.{◌≡◌, ◌∙◌, ◌≤◌, ℕ, ◌+◌, ◌&&◌, ◌||◌, not, Bool, true, false, cond, List, [], ◌∷◌, ◌++◌, length, Option, Some, None, is_some, refl, sym, ap, subst, arith, true≢false}
use Rattle.std.specs.Prelude.{option_map, find}
use Rattle.std.specs.Str.{bytes_eq}
use Rattle.std.proofs.lemmas.List.{length-append}
use Rattle.clap.proofs.WalkLemmas.{both}
use Rattle.jos_words.specs.Values.{is_value}
use Rattle.jos_words.specs.Arguments.{◌>>=◌, Word, Given, Arguments, Reading, Waiting, any_word, value_for, positional_word, is_option, is_end, option_parts, value_of, has_option, with_option, with_positional, then_any, option_read, word_read_by, word_read, words_read}

pub not_true : (b : Bool) → not b ≡ true → b ≡ false
not_true true e = absurd (true≢false (sym e))
not_true false e = refl

pub chosen : {A : Type 0} (b : Bool) (x : Option A) (r : A) → cond b x None ≡ Some r → (b ≡ true) × (x ≡ Some r)
chosen true x r e = (refl, e)
chosen false x r e = absurd cc

-- ---- an option with its value

abbrev pub one_more : Arguments → List ℕ → Word → Arguments
one_more arguments name value = record arguments { options = arguments.options ++ record { name = name; value = value } ∷ [] }

pub record Taken (names : List (List ℕ)) (arguments : Arguments) (name : List ℕ) (value : Word) (after : Arguments) : Type 0 where
  pub known : has_option names name ≡ true
  pub new : is_some (value_of name arguments.options) ≡ false
  pub value_is : is_value value.text ≡ true
  pub after_is : one_more arguments name value ≡ after

pub taken : (names : List (List ℕ)) (arguments after : Arguments) (name : List ℕ) (value : Word) → with_option names arguments name value ≡ Some after → Taken names arguments name value after
taken names arguments after name value e =
    let known = has_option names name in
    let given = is_some (value_of name arguments.options) in
    let c = chosen (known && not given && is_value value.text) (Some (one_more arguments name value)) after e in
    let last = both (known && not given) (is_value value.text) c.0 in
    let first = both known (not given) last.0 in
    record { known = first.0; new = not_true given first.1; value_is = last.1; after_is = cc }

pub value_of-append : (id : List ℕ) (options : List Given) (g : Given) → is_some (value_of id (options ++ g ∷ [])) ≡ (bytes_eq g.name id || is_some (value_of id options))
value_of-append id [] g = by_test (bytes_eq g.name id)
  where
    by_test : (t : Bool) → is_some (option_map (λ (o : Given). o.value) (cond t (Some g) None)) ≡ (t || false)
    by_test true = refl
    by_test false = refl
value_of-append id (x ∷ rest) g = by_test (bytes_eq x.name id) (value_of-append id rest g)
  where
    or_true : (t : Bool) → true ≡ (t || true)
    or_true true = refl
    or_true false = refl

    by_test : (t : Bool) → is_some (value_of id (rest ++ g ∷ [])) ≡ (bytes_eq g.name id || is_some (value_of id rest))
        → is_some (option_map (λ (o : Given). o.value) (cond t (Some x) (find (λ (o : Given). bytes_eq o.name id) (rest ++ g ∷ []))))
        ≡ (bytes_eq g.name id || is_some (option_map (λ (o : Given). o.value) (cond t (Some x) (find (λ (o : Given). bytes_eq o.name id) rest))))
    by_test true later = or_true (bytes_eq g.name id)
    by_test false later = later

-- ---- the reading after a word

pub then_some : (o : Option Arguments) (r : Reading) → then_any o ≡ Some r → (after : Arguments) × (o ≡ Some after) × (◌≡◌ {A = Reading} (record { arguments = after; waiting = any_word }) r)
then_some None r e = absurd cc
then_some (Some after) r e = (after, refl, cc)

pub both_some : {A B : Type 0} (o : Option A) (next : A → Option B) (r : B) → o >>= next ≡ Some r → (x : A) × (o ≡ Some x) × (next x ≡ Some r)
both_some None next r e = absurd cc
both_some (Some x) next r e = (x, refl, e)

-- ---- no word takes a positional word away

unfoldable count : Reading → ℕ
count r = length r.arguments.positionals

option_keeps : (names : List (List ℕ)) (arguments : Arguments) (waiting : Waiting) (name : List ℕ) (value : Word) (r : Reading) → then_any (with_option names arguments name value) ≡ Some r → count (record { arguments = arguments; waiting = waiting }) ≤ count r
unfolding count
option_keeps names arguments waiting name value r e =
    let went = then_some (with_option names arguments name value) r e in
    let t = taken names arguments went.0 name value went.1 in
    let same : length went.0.positionals ≡ length arguments.positionals = ap (λ (a : Arguments). length a.positionals) (sym t.after_is) in
    let there : length went.0.positionals ≡ length r.arguments.positionals = ap (λ (s : Reading). length s.arguments.positionals) went.2 in
    omega arith

read_keeps : (names : List (List ℕ)) (arguments : Arguments) (place : ℕ) (parts : Option (List ℕ × Option (List ℕ))) (r : Reading) → option_read names arguments place parts ≡ Some r → count (record { arguments = arguments; waiting = any_word }) ≤ count r
unfolding count
read_keeps names arguments place None r e = absurd cc
read_keeps names arguments place (Some (name, None)) r e =
    let c = chosen (has_option names name) (Some (record { arguments = arguments; waiting = value_for name })) r e in
    let is : ◌≡◌ {A = Reading} (record { arguments = arguments; waiting = value_for name }) r = cc in
    let there : length arguments.positionals ≡ length r.arguments.positionals = ap (λ (s : Reading). length s.arguments.positionals) is in
    omega arith
read_keeps names arguments place (Some (name, Some value)) r e = option_keeps names arguments any_word name (record { place = place; text = value }) r e

positional_keeps : (arguments : Arguments) (before after : Waiting) (word : Word) (r : Reading) → ◌≡◌ {A = Option Reading} (Some (record { arguments = with_positional arguments word; waiting = after })) (Some r) → count (record { arguments = arguments; waiting = before }) ≤ count r
unfolding count
positional_keeps arguments before after word r e =
    let is : ◌≡◌ {A = Reading} (record { arguments = with_positional arguments word; waiting = after }) r = cc in
    let there : length (arguments.positionals ++ word ∷ []) ≡ length r.arguments.positionals = ap (λ (s : Reading). length s.arguments.positionals) is in
    omega (arith, length-append arguments.positionals (word ∷ []))

stays : (arguments : Arguments) → count (record { arguments = arguments; waiting = any_word }) ≤ count (record { arguments = arguments; waiting = positional_word })
unfolding count
stays arguments = omega arith

word_keeps : (names : List (List ℕ)) (arguments : Arguments) (waiting : Waiting) (word : Word) (r : Reading) → word_read_by names arguments waiting word ≡ Some r → count (record { arguments = arguments; waiting = waiting }) ≤ count r
word_keeps names arguments (value_for name) word r e = option_keeps names arguments (value_for name) name word r e
word_keeps names arguments positional_word word r e = positional_keeps arguments positional_word positional_word word r e
word_keeps names arguments any_word word r e = by_test (is_end word.text) (is_option word.text) e
  where
    by_test : (a b : Bool) → cond a (Some (record { arguments = arguments; waiting = positional_word })) (cond b (option_read names arguments word.place (option_parts word.text)) (Some (record { arguments = with_positional arguments word; waiting = any_word }))) ≡ Some r
        → count (record { arguments = arguments; waiting = any_word }) ≤ count r
    by_test true b e =
        let is : ◌≡◌ {A = Reading} (record { arguments = arguments; waiting = positional_word }) r = cc in
        subst (λ (s : Reading). count (record { arguments = arguments; waiting = any_word }) ≤ count s) is (stays arguments)
    by_test false true e = read_keeps names arguments word.place (option_parts word.text) r e
    by_test false false e = positional_keeps arguments any_word any_word word r e

pub words_keep : (names : List (List ℕ)) (words : List (List ℕ)) (r : Reading) (place : ℕ) (last : Reading) → words_read names r place words ≡ Some last → length r.arguments.positionals ≤ length last.arguments.positionals
unfolding words_read word_read count
words_keep names [] r place last e =
    let is : r ≡ last = cc in
    let there : count r ≡ count last = ap count is in
    omega arith
words_keep names (text ∷ rest) r place last e =
    let t = both_some (word_read names r (record { place = place; text = text })) (λ s. words_read names s (place + 1) rest) last e in
    let here : count r ≤ count t.0 = word_keeps names r.arguments r.waiting (record { place = place; text = text }) t.0 t.1 in
    let later : count t.0 ≤ count last = words_keep names rest t.0 (place + 1) last t.2 in
    omega arith

-- ---- a command that is read

pub none_if : {A : Type 0} (o : Option A) (taken : Bool) → ((x : A) → o ≡ Some x → taken ≡ true) → taken ≡ false → o ≡ None
none_if None taken takes e = refl
none_if (Some x) taken takes e = absurd (true≢false (sym (takes x refl) ∙ e))
