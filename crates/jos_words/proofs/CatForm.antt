-- `cat` as clap is told of it.
use Rattle.std.proofs.Common.{◌≡◌, ◌<◌, ℕ, ◌+◌, zero, suc, true, false, List, [], ◌∷◌, length, drop, Some, None, codes, refl, sym, arith, true≢false}
use Rattle.std.specs.Str.{bytes_eq}
use Rattle.clap.specs.Walk.{Rule, Text}
use Rattle.clap.proofs.OnLiterals.{clap_on_literals}
use Rattle.jos_words.specs.Arguments.{◌>>=◌, Arguments, arguments_of}
use Rattle.jos_words.specs.Commands.{Cat, two_of, cat_of, cat_words}
use Rattle.jos_words.specs.ClapCommands.{required_rule, cat_app, clap_takes}
use Rattle.jos_words.proofs.Rules.{word_rule, word_is}
use Rattle.jos_words.proofs.Taking.{both_some, none_if}
use Rattle.jos_words.proofs.DemoForm.{two_words}
use Rattle.jos_words.proofs.ClapWalk.{Form, Slot, Fits, rules_of, words_taken}

abbrev cat_rule : ℕ → Rule
cat_rule zero = word_rule true 1 (codes "disk")
cat_rule (suc k) = word_rule true 2 (codes "path")

abbrev cat_form : Form
cat_form = record { name = codes "cat"; options = []; positionals = required_rule (codes "disk") ∷ required_rule (codes "path") ∷ []; slot = cat_rule; number = λ k. k + 1 }

cat_slot : (k : ℕ) → k < 2 → Slot cat_form k
unfolding rules_of
cat_slot zero below = record {
  argument = word_is (rules_of cat_form) true 1 (codes "disk") refl;
  at = refl;
  next = refl;
  one = refl;
  trailing = refl;
  apart = λ name known. absurd (true≢false (sym known));
}
cat_slot (suc zero) below = record {
  argument = word_is (rules_of cat_form) true 2 (codes "path") refl;
  at = refl;
  next = refl;
  one = refl;
  trailing = refl;
  apart = λ name known. absurd (true≢false (sym known));
}
cat_slot (suc (suc k)) below = absurd (omega arith)

distinct : (j k : ℕ) → j < k → k < 2 → bytes_eq (cat_rule j).id (cat_rule k).id ≡ false
distinct zero zero earlier below = absurd (omega arith)
distinct zero (suc k) earlier below = refl
distinct (suc j) k earlier below = absurd (omega arith)

cat_fits : Fits cat_form 2
unfolding rules_of clap_on_literals
cat_fits = record {
  slots = cat_slot;
  distinct = λ j k earlier below once. distinct j k earlier below;
  first = refl;
  plain = refl;
  valid = λ rows given. rw (given 0 (omega arith), given 1 (omega arith)) refl;
  simple = refl;
  built_is = refl;
}

-- there are two words
has_two : (arguments : Arguments) (cat : Cat) → cat_of arguments ≡ Some cat → length arguments.positionals ≡ 2
unfolding cat_of
has_two arguments cat e = let two = both_some (two_of arguments.positionals) _ cat e in two_words arguments.positionals two.0 two.1

pub cat_refused : (words : List Text) → 0 < length words → clap_takes cat_app words ≡ false → cat_words (drop 1 words) ≡ None
unfolding cat_words
cat_refused [] some refused = absurd (omega arith)
cat_refused (command ∷ rest) some refused = none_if (arguments_of [] rest >>= cat_of) (clap_takes cat_app (command ∷ rest)) (λ cat e.
    let read = both_some (arguments_of [] rest) cat_of cat e in
    words_taken cat_form 2 cat_fits command rest read.0 read.1 (has_two read.0 cat read.2)) refused
