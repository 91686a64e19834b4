-- `ls` as clap is told of it.
use Rattle.std.proofs.Common.{◌≡◌, ◌<◌, ◌≤◌, ℕ, ◌+◌, zero, suc, true, false, List, [], ◌∷◌, length, drop, Option, Some, None, codes, refl, sym, arith, true≢false}
use Rattle.std.specs.Str.{bytes_eq}
use Rattle.clap.specs.Walk.{Rule, Text}
use Rattle.clap.proofs.OnLiterals.{clap_on_literals}
use Rattle.jos_words.specs.Arguments.{◌>>=◌, Word, Arguments, arguments_of}
use Rattle.jos_words.specs.Commands.{Ls, one_or_two, ls_of, ls_words}
use Rattle.jos_words.specs.ClapCommands.{required_rule, optional_rule, ls_app, clap_takes}
use Rattle.jos_words.proofs.Rules.{word_rule, word_is}
use Rattle.jos_words.proofs.Taking.{both_some, none_if}
use Rattle.jos_words.proofs.ClapWalk.{Form, Slot, Fits, rules_of, words_taken}

abbrev ls_rule : ℕ → Rule
ls_rule zero = word_rule true 1 (codes "disk")
ls_rule (suc k) = word_rule false 2 (codes "path")

abbrev ls_form : Form
ls_form = record { name = codes "ls"; options = []; positionals = required_rule (codes "disk") ∷ optional_rule (codes "path") ∷ []; slot = ls_rule; number = λ k. k + 1 }

ls_slot : (k : ℕ) → k < 2 → Slot ls_form k
unfolding rules_of
ls_slot zero below = record {
  argument = word_is (rules_of ls_form) true 1 (codes "disk") refl;
  at = refl;
  next = refl;
  one = refl;
  trailing = refl;
  apart = λ name known. absurd (true≢false (sym known));
}
ls_slot (suc zero) below = record {
  argument = word_is (rules_of ls_form) false 2 (codes "path") refl;
  at = refl;
  next = refl;
  one = refl;
  trailing = refl;
  apart = λ name known. absurd (true≢false (sym known));
}
ls_slot (suc (suc k)) below = absurd (omega arith)

distinct : (j k : ℕ) → j < k → k < 2 → bytes_eq (ls_rule j).id (ls_rule k).id ≡ false
distinct zero zero earlier below = absurd (omega arith)
distinct zero (suc k) earlier below = refl
distinct (suc j) k earlier below = absurd (omega arith)

ls_fits : (n : ℕ) → 0 < n → n ≤ 2 → Fits ls_form n
unfolding rules_of clap_on_literals
ls_fits n some few = record {
  slots = λ k below. ls_slot k (omega arith);
  distinct = λ j k earlier below once. distinct j k earlier (omega arith);
  first = refl;
  plain = refl;
  valid = λ rows given. rw (given 0 some) refl;
  simple = refl;
  built_is = refl;
}

-- there are one or two words
few_words : (words : List Word) (read : Word × Option Word) → one_or_two words ≡ Some read → (0 < length words) × (length words ≤ 2)
few_words [] read e = absurd cc
few_words (first ∷ []) read e = (omega arith, omega arith)
few_words (first ∷ second ∷ []) read e = (omega arith, omega arith)
few_words (first ∷ second ∷ third ∷ rest) read e = absurd cc

has_few : (arguments : Arguments) (ls : Ls) → ls_of arguments ≡ Some ls → (0 < length arguments.positionals) × (length arguments.positionals ≤ 2)
unfolding ls_of
has_few arguments ls e = let words = both_some (one_or_two arguments.positionals) _ ls e in few_words arguments.positionals words.0 words.1

pub ls_refused : (words : List Text) → 0 < length words → clap_takes ls_app words ≡ false → ls_words (drop 1 words) ≡ None
unfolding ls_words
ls_refused [] some refused = absurd (omega arith)
ls_refused (command ∷ rest) some refused = none_if (arguments_of [] rest >>= ls_of) (clap_takes ls_app (command ∷ rest)) (λ ls e.
    let read = both_some (arguments_of [] rest) ls_of ls e in
    let few = has_few read.0 ls read.2 in
    words_taken ls_form (length read.0.positionals) (ls_fits (length read.0.positionals) few.0 few.1) command rest read.0 read.1 refl) refused
