-- `gen` as clap is told of it.
use Rattle.std.proofs.Common.{◌≡◌, ◌<◌, ℕ, ◌+◌, zero, suc, true, false, List, [], ◌∷◌, length, drop, Some, None, codes, refl, sym, arith, true≢false}
use Rattle.std.specs.Str.{bytes_eq}
use Rattle.clap.specs.Walk.{Rule, Text}
use Rattle.clap.proofs.OnLiterals.{clap_on_literals}
use Rattle.jos_words.specs.Arguments.{◌>>=◌, Arguments, arguments_of}
use Rattle.jos_words.specs.Commands.{Gen, two_of, gen_of, gen_words}
use Rattle.jos_words.specs.ClapCommands.{required_rule, gen_app, clap_takes}
use Rattle.jos_words.proofs.Rules.{word_rule, word_is}
use Rattle.jos_words.proofs.Taking.{both_some, none_if}
use Rattle.jos_words.proofs.DemoForm.{two_words}
use Rattle.jos_words.proofs.ClapWalk.{Form, Slot, Fits, rules_of, words_taken}

abbrev gen_rule : ℕ → Rule
gen_rule zero = word_rule true 1 (codes "seed")
gen_rule (suc k) = word_rule true 2 (codes "disk")

abbrev gen_form : Form
gen_form = record { name = codes "gen"; options = []; positionals = required_rule (codes "seed") ∷ required_rule (codes "disk") ∷ []; slot = gen_rule; number = λ k. k + 1 }

gen_slot : (k : ℕ) → k < 2 → Slot gen_form k
unfolding rules_of
gen_slot zero below = record {
  argument = word_is (rules_of gen_form) true 1 (codes "seed") refl;
  at = refl;
  next = refl;
  one = refl;
  trailing = refl;
  apart = λ name known. absurd (true≢false (sym known));
}
gen_slot (suc zero) below = record {
  argument = word_is (rules_of gen_form) true 2 (codes "disk") refl;
  at = refl;
  next = refl;
  one = refl;
  trailing = refl;
  apart = λ name known. absurd (true≢false (sym known));
}
gen_slot (suc (suc k)) below = absurd (omega arith)

distinct : (j k : ℕ) → j < k → k < 2 → bytes_eq (gen_rule j).id (gen_rule k).id ≡ false
distinct zero zero earlier below = absurd (omega arith)
distinct zero (suc k) earlier below = refl
distinct (suc j) k earlier below = absurd (omega arith)

gen_fits : Fits gen_form 2
unfolding rules_of clap_on_literals
gen_fits = record {
  slots = gen_slot;
  distinct = λ j k earlier below once. distinct j k earlier below;
  first = refl;
  plain = refl;
  valid = λ rows given. rw (given 0 (omega arith), given 1 (omega arith)) refl;
  simple = refl;
  built_is = refl;
}

-- there are two words
has_two : (arguments : Arguments) (gen : Gen) → gen_of arguments ≡ Some gen → length arguments.positionals ≡ 2
unfolding gen_of
has_two arguments gen e = let two = both_some (two_of arguments.positionals) _ gen e in two_words arguments.positionals two.0 two.1

pub gen_refused : (words : List Text) → 0 < length words → clap_takes gen_app words ≡ false → gen_words (drop 1 words) ≡ None
unfolding gen_words
gen_refused [] some refused = absurd (omega arith)
gen_refused (command ∷ rest) some refused = none_if (arguments_of [] rest >>= gen_of) (clap_takes gen_app (command ∷ rest)) (λ gen e.
    let read = both_some (arguments_of [] rest) gen_of gen e in
    words_taken gen_form 2 gen_fits command rest read.0 read.1 (has_two read.0 gen read.2)) refused
