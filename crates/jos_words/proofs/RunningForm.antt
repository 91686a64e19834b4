-- `exo` and `run` as clap is told of them.
use Rattle.std.proofs.Common.{◌≡◌, ◌<◌, ℕ, true, false, List, [], ◌∷◌, length, drop, Option, Some, None, codes, refl, arith, true≢false}
use Rattle.clap.specs.Walk.{Rule, Text}
use Rattle.clap.proofs.OnLiterals.{clap_on_literals}
use Rattle.jos_words.specs.Arguments.{◌>>=◌, Word, Arguments, value_of, arguments_of}
use Rattle.jos_words.specs.Commands.{Exo, Run, running_options, number_in, at_least_one, exo_of, exo_words, run_of, run_words}
use Rattle.jos_words.specs.ClapCommands.{repeated_rule, running_app, clap_takes}
use Rattle.jos_words.proofs.Rules.{words_rule, words_are, apart_from, apart_to}
use Rattle.jos_words.proofs.Taking.{both_some, none_if}
use Rattle.jos_words.proofs.ClapWalk.{Form, Slot, Fits, rules_of, words_taken}

abbrev words : Rule
words = words_rule true 1 (codes "word")

abbrev running_form : Text → Form
running_form name = record { name = name; options = running_options; positionals = repeated_rule (codes "word") ∷ []; slot = λ k. words; number = λ k. 1 }

running_slot : (name : Text) (k : ℕ) → Slot (running_form name) k
unfolding rules_of
running_slot name k = record {
  argument = words_are (rules_of (running_form name)) true 1 (codes "word") refl;
  at = refl;
  next = refl;
  one = refl;
  trailing = refl;
  apart = λ option known. (apart_from running_options (codes "word") option refl known, apart_to running_options (codes "word") option refl known);
}

running_fits : (name : Text) (n : ℕ) → 0 < n → Fits (running_form name) n
unfolding rules_of clap_on_literals
running_fits name n some = record {
  slots = λ k below. running_slot name k;
  distinct = λ j k earlier below once. absurd (true≢false once);
  first = refl;
  plain = refl;
  valid = λ rows given. rw (given 0 some) refl;
  simple = refl;
  built_is = refl;
}

-- what is read only where there is a word
running_refused : {A : Type 0} (name command : Text) (of : Arguments → Option A) → ((arguments : Arguments) (read : A) → of arguments ≡ Some read → 0 < length arguments.positionals)
    → (rest : List Text) → clap_takes (running_app name) (command ∷ rest) ≡ false → (arguments_of running_options rest >>= of) ≡ None
running_refused name command of some rest refused = none_if (arguments_of running_options rest >>= of) (clap_takes (running_app name) (command ∷ rest)) (λ x e.
    let read = both_some (arguments_of running_options rest) of x e in
    let n = length read.0.positionals in
    words_taken (running_form name) n (running_fits name n (some read.0 x read.2)) command rest read.0 read.1 refl) refused

-- there is a word
some_words : (words some : List Word) → at_least_one words ≡ Some some → 0 < length words
some_words [] some e = absurd cc
some_words (word ∷ words) some e = omega arith

exo_has_words : (arguments : Arguments) (exo : Exo) → exo_of arguments ≡ Some exo → 0 < length arguments.positionals
unfolding exo_of
exo_has_words arguments exo e =
    let frames = both_some (number_in (value_of (codes "frames") arguments.options)) _ exo e in
    let steps = both_some (number_in (value_of (codes "steps") arguments.options)) _ exo frames.2 in
    let trace = both_some (number_in (value_of (codes "trace") arguments.options)) _ exo steps.2 in
    let images = both_some (at_least_one arguments.positionals) _ exo trace.2 in
    some_words arguments.positionals images.0 images.1

run_has_words : (arguments : Arguments) (run : Run) → run_of arguments ≡ Some run → 0 < length arguments.positionals
unfolding run_of
run_has_words arguments run e = let exo = both_some (exo_of arguments) _ run e in exo_has_words arguments exo.0 exo.1

pub exo_refused : (words : List Text) → 0 < length words → clap_takes (running_app (codes "exo")) words ≡ false → exo_words (drop 1 words) ≡ None
unfolding exo_words
exo_refused [] some refused = absurd (omega arith)
exo_refused (command ∷ rest) some refused = running_refused (codes "exo") command exo_of exo_has_words rest refused

pub run_refused : (words : List Text) → 0 < length words → clap_takes (running_app (codes "run")) words ≡ false → run_words (drop 1 words) ≡ None
unfolding run_words
run_refused [] some refused = absurd (omega arith)
run_refused (command ∷ rest) some refused = running_refused (codes "run") command run_of run_has_words rest refused
