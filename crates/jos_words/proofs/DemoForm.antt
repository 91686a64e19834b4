-- `demo` as clap is told of it.
use Rattle.std.proofs.Common.{◌≡◌, ◌<◌, ℕ, ◌+◌, zero, suc, true, false, List, [], ◌∷◌, length, drop, Some, None, codes, refl, sym, arith, true≢false}
use Rattle.std.specs.Str.{bytes_eq}
use Rattle.clap.specs.Walk.{Rule, Text}
use Rattle.clap.proofs.OnLiterals.{clap_on_literals}
use Rattle.jos_words.specs.Arguments.{◌>>=◌, Word, Arguments, arguments_of}
use Rattle.jos_words.specs.Commands.{Demo, two_of, demo_of, demo_words}
use Rattle.jos_words.specs.ClapCommands.{required_rule, demo_app, clap_takes}
use Rattle.jos_words.proofs.Rules.{word_rule, word_is}
use Rattle.jos_words.proofs.Taking.{both_some, none_if}
use Rattle.jos_words.proofs.ClapWalk.{Form, Slot, Fits, rules_of, words_taken}

abbrev demo_rule : ℕ → Rule
demo_rule zero = word_rule true 1 (codes "name")
demo_rule (suc k) = word_rule true 2 (codes "file")

abbrev demo_form : Form
demo_form = record { name = codes "demo"; options = []; positionals = required_rule (codes "name") ∷ required_rule (codes "file") ∷ []; slot = demo_rule; number = λ k. k + 1 }

demo_slot : (k : ℕ) → k < 2 → Slot demo_form k
unfolding rules_of
demo_slot zero below = record {
  argument = word_is (rules_of demo_form) true 1 (codes "name") refl;
  at = refl;
  next = refl;
  one = refl;
  trailing = refl;
  apart = λ name known. absurd (true≢false (sym known));
}
demo_slot (suc zero) below = record {
  argument = word_is (rules_of demo_form) true 2 (codes "file") refl;
  at = refl;
  next = refl;
  one = refl;
  trailing = refl;
  apart = λ name known. absurd (true≢false (sym known));
}
demo_slot (suc (suc k)) below = absurd (omega arith)

distinct : (j k : ℕ) → j < k → k < 2 → bytes_eq (demo_rule j).id (demo_rule k).id ≡ false
distinct zero zero earlier below = absurd (omega arith)
distinct zero (suc k) earlier below = refl
distinct (suc j) k earlier below = absurd (omega arith)

demo_fits : Fits demo_form 2
unfolding rules_of clap_on_literals
demo_fits = record {
  slots = demo_slot;
  distinct = λ j k earlier below once. distinct j k earlier below;
  first = refl;
  plain = refl;
  valid = λ rows given. rw (given 0 (omega arith), given 1 (omega arith)) refl;
  simple = refl;
  built_is = refl;
}

-- there are two words
pub two_words : (words : List Word) (two : Word × Word) → two_of words ≡ Some two → length words ≡ 2
two_words [] two e = absurd cc
two_words (first ∷ []) two e = absurd cc
two_words (first ∷ second ∷ []) two e = refl
two_words (first ∷ second ∷ third ∷ rest) two e = absurd cc

has_two : (arguments : Arguments) (demo : Demo) → demo_of arguments ≡ Some demo → length arguments.positionals ≡ 2
unfolding demo_of
has_two arguments demo e = let two = both_some (two_of arguments.positionals) _ demo e in two_words arguments.positionals two.0 two.1

pub demo_refused : (words : List Text) → 0 < length words → clap_takes demo_app words ≡ false → demo_words (drop 1 words) ≡ None
unfolding demo_words
demo_refused [] some refused = absurd (omega arith)
demo_refused (command ∷ rest) some refused = none_if (arguments_of [] rest >>= demo_of) (clap_takes demo_app (command ∷ rest)) (λ demo e.
    let read = both_some (arguments_of [] rest) demo_of demo e in
    words_taken demo_form 2 demo_fits command rest read.0 read.1 (has_two read.0 demo read.2)) refused
