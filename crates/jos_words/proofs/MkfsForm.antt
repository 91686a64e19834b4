-- `mkfs` as clap is told of it.
use Rattle.std.proofs.Common.{◌≡◌, ◌<◌, ◌≤◌, ℕ, zero, suc, true, false, List, [], ◌∷◌, length, drop, Some, None, codes, refl, sym, ap, arith, add-one, true≢false}
use Rattle.std.specs.Str.{bytes_eq}
use Rattle.clap.specs.Walk as clap
use Rattle.clap.specs.Walk.{Rule, Text}
use Rattle.clap.proofs.OnLiterals.{clap_on_literals}
use Rattle.jos_words.specs.Arguments.{◌>>=◌, Word, Arguments, arguments_of}
use Rattle.jos_words.specs.Commands.{Mkfs, two_and_more, mkfs_of, mkfs_words}
use Rattle.jos_words.specs.ClapCommands.{required_rule, optional_repeated_rule, mkfs_app, clap_takes}
use Rattle.jos_words.proofs.Rules.{word_rule, words_rule, word_is, words_are}
use Rattle.jos_words.proofs.Taking.{both_some, none_if}
use Rattle.jos_words.proofs.ClapWalk.{Form, Slot, Fits, rules_of, words_taken}

abbrev mkfs_rule : ℕ → Rule
mkfs_rule zero = word_rule true 1 (codes "disk")
mkfs_rule (suc zero) = word_rule true 2 (codes "blocks")
mkfs_rule (suc (suc k)) = words_rule false 3 (codes "file")

-- all words behind the second are files
abbrev mkfs_number : ℕ → ℕ
mkfs_number zero = 1
mkfs_number (suc zero) = 2
mkfs_number (suc (suc k)) = 3

abbrev mkfs_form : Form
mkfs_form = record {
  name = codes "mkfs";
  options = [];
  positionals = required_rule (codes "disk") ∷ required_rule (codes "blocks") ∷ optional_repeated_rule (codes "file") ∷ [];
  slot = mkfs_rule;
  number = mkfs_number;
}

mkfs_slot : (k : ℕ) → Slot mkfs_form k
unfolding rules_of
mkfs_slot zero = record {
  argument = word_is (rules_of mkfs_form) true 1 (codes "disk") refl;
  at = refl;
  next = refl;
  one = refl;
  trailing = refl;
  apart = λ name known. absurd (true≢false (sym known));
}
mkfs_slot (suc zero) = record {
  argument = word_is (rules_of mkfs_form) true 2 (codes "blocks") refl;
  at = refl;
  next = refl;
  one = refl;
  trailing = refl;
  apart = λ name known. absurd (true≢false (sym known));
}
mkfs_slot (suc (suc k)) = record {
  argument = words_are (rules_of mkfs_form) false 3 (codes "file") refl;
  at = refl;
  next = ap mkfs_number (sym (add-one (suc (suc k))));
  one = refl;
  trailing = refl;
  apart = λ name known. absurd (true≢false (sym known));
}

distinct : (j k : ℕ) → j < k → clap.is_multiple (mkfs_rule k) ≡ false → bytes_eq (mkfs_rule j).id (mkfs_rule k).id ≡ false
distinct j zero earlier once = absurd (omega arith)
distinct zero (suc zero) earlier once = refl
distinct (suc j) (suc zero) earlier once = absurd (omega arith)
distinct j (suc (suc k)) earlier once = absurd (true≢false once)

mkfs_fits : (n : ℕ) → 2 ≤ n → Fits mkfs_form n
unfolding rules_of clap_on_literals
mkfs_fits n enough = record {
  slots = λ k below. mkfs_slot k;
  distinct = λ j k earlier below once. distinct j k earlier once;
  first = refl;
  plain = refl;
  valid = λ rows given. rw (given 0 (omega arith), given 1 (omega arith)) refl;
  simple = refl;
  built_is = refl;
}

-- there are two words at least
enough_words : (words : List Word) (read : Word × Word × List Word) → two_and_more words ≡ Some read → 2 ≤ length words
enough_words [] read e = absurd cc
enough_words (first ∷ []) read e = absurd cc
enough_words (first ∷ second ∷ more) read e = omega arith

has_enough : (arguments : Arguments) (mkfs : Mkfs) → mkfs_of arguments ≡ Some mkfs → 2 ≤ length arguments.positionals
unfolding mkfs_of
has_enough arguments mkfs e = let words = both_some (two_and_more arguments.positionals) _ mkfs e in enough_words arguments.positionals words.0 words.1

pub mkfs_refused : (words : List Text) → 0 < length words → clap_takes mkfs_app words ≡ false → mkfs_words (drop 1 words) ≡ None
unfolding mkfs_words
mkfs_refused [] some refused = absurd (omega arith)
mkfs_refused (command ∷ rest) some refused = none_if (arguments_of [] rest >>= mkfs_of) (clap_takes mkfs_app (command ∷ rest)) (λ mkfs e.
    let read = both_some (arguments_of [] rest) mkfs_of mkfs e in
    words_taken mkfs_form (length read.0.positionals) (mkfs_fits (length read.0.positionals) (has_enough read.0 mkfs read.2)) command rest read.0 read.1 refl) refused
