-- The words behind a command's name that are no words of it, by clap, as arguments or by what is read of these.
use Rattle.std.proofs.Common.{◌≡◌, ◌∙◌, inl, inr, false, List, Option, Some, None, Result, IfOk, IfErr, sym, ap, subst}
use Rattle.std.specs.Prelude.{drop, option_map}
use Rattle.std.specs.Option.{ok_or}
use Rattle.clap.specs.Words.{App, Text}
use Rattle.jos_words.specs.declared.words.WordsFault.{WordsFault}
use Rattle.jos_words.specs.declared.words.WordsFault.TheVariants.{Usage}
use Rattle.jos_words.specs.Arguments.{◌>>=◌, Arguments, arguments_of}
use Rattle.jos_words.specs.ClapCommands.{clap_takes, AreRefused}

-- What clap refuses, is no command; and what are no arguments, is none.
pub refused_either : {B : Type 0} (of : Arguments → Option B) (app : App) (names words : List Text) →
    (clap_takes app words ≡ false → (arguments_of names (drop 1 words) >>= of) ≡ None) → AreRefused app names words →
    (arguments_of names (drop 1 words) >>= of) ≡ None
refused_either of app names words by_clap (inl refused) = by_clap refused
refused_either of app names words by_clap (inr none) = ap (λ (read : Option Arguments). read >>= of) none

-- What is read of arguments.
module _ {A B : Type 0} (in_bytes : A → B) (of : Arguments → Option B) (read : Option Arguments) (arguments : Arguments) (o : Option A)
    (r : Result A WordsFault) (read_is : read ≡ Some arguments) (of_is : option_map in_bytes o ≡ of arguments)
    (is : r ≡ ok_or o Usage) where
  all_is : (read >>= of) ≡ option_map in_bytes o
  all_is = ap (λ (x : Option Arguments). x >>= of) read_is ∙ sym of_is

  pub read_ok : IfOk r (λ x. (read >>= of) ≡ Some (in_bytes x))
  read_ok = subst (λ (q : Result A WordsFault). IfOk q (λ x. (read >>= of) ≡ Some (in_bytes x))) (sym is) (by_option o all_is)
    where
      by_option : (p : Option A) → (read >>= of) ≡ option_map in_bytes p → IfOk (ok_or p Usage) (λ x. (read >>= of) ≡ Some (in_bytes x))
      by_option None e = tt
      by_option (Some x) e = e

  pub read_usage : IfErr r (λ fault. fault ≡ Usage → (read >>= of) ≡ None)
  read_usage = subst (λ (q : Result A WordsFault). IfErr q (λ fault. fault ≡ Usage → (read >>= of) ≡ None)) (sym is) (by_option o all_is)
    where
      by_option : (p : Option A) → (read >>= of) ≡ option_map in_bytes p → IfErr (ok_or p Usage) (λ fault. fault ≡ Usage → (read >>= of) ≡ None)
      by_option None e = λ same. e
      by_option (Some x) e = tt
