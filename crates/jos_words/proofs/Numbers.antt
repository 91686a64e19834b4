-- The number that digits write is parsed.
use Rattle.std.proofs.Common.{◌≡◌, ◌∙◌, ◌≤◌, ◌&&◌, ℕ, true, List, length, nat_le, Some, Result, Ok, refl, sym, arith, rules}
use Rattle.std.specs.Result.{IsOk}
use Rattle.std.specs.Str.{all_ascii_digits}
use Rattle.std.specs.Str.Parse.{digits_value, ParsesUnsigned}
use Rattle.std.proofs.lemmas.Str.Parse.{IsNumeralModel, numerals_by_value, tells_all_ascii_digits, digits_value_short, parse_gives}
use Rattle.clap.proofs.WalkLemmas.{both}
use Rattle.jos_words.specs.Values.{is_number, number_of}

digits_model : IsNumeralModel (λ ds. all_ascii_digits ds ≡ true) (digits_value 10)
digits_model = numerals_by_value (λ ds. all_ascii_digits ds ≡ true) tells_all_ascii_digits

pub parsed : {E : Type 0} (text : List ℕ) (r : Result ℕ E) → is_number text ≡ true → ParsesUnsigned 128 10 text r → r ≡ Ok (digits_value 10 text)
parsed text r number h =
    let parts = both (nat_le 1 (length text) && nat_le (length text) 20) (all_ascii_digits text) number in
    let sizes = both (nat_le 1 (length text)) (nat_le (length text) 20) parts.0 in
    let some : 1 ≤ length text = search rules in
    let few : length text ≤ 20 = search rules in
    parse_gives digits_model 128 text r h parts.1 (omega arith) (omega (arith, digits_value_short digits_model text 20 parts.1 few))

pub is_parsed : {E : Type 0} (text : List ℕ) (r : Result ℕ E) → is_number text ≡ true → ParsesUnsigned 128 10 text r → IsOk r
is_parsed text r number h = rw (parsed text r number h) refl

pub number_parsed : {E : Type 0} (text : List ℕ) (r : Result ℕ E) (value : ℕ) → is_number text ≡ true → ParsesUnsigned 128 10 text r → r ≡ Ok value → Some value ≡ number_of text
unfolding number_of
number_parsed text r value number h is =
    let same : ◌≡◌ {A = Result ℕ _} (Ok value) (Ok (digits_value 10 text)) = sym is ∙ parsed text r number h in
    rw number (cc)
