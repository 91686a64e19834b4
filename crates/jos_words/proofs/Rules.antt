-- What clap's walk knows of a command: its options and its positional words.
use Rattle.std.proofs.Common.{◌≡◌, ◌∙◌, ℕ, ◌&&◌, ◌||◌, not, Bool, true, false, cond, List, [], ◌∷◌, ◌++◌, Some, map, refl, sym, ap, true≢false}
use Rattle.std.specs.List.{list_any}
use Rattle.std.specs.Str.{bytes_eq}
use Rattle.clap.specs.declared.parser.matches.ValueSource.TheVariants.{CommandLine}
use Rattle.clap.specs.declared.builder.action.ArgAction.TheVariants.{Append}
use Rattle.clap.specs.Simple.{filled, filled_from, new_rule, with_index}
use Rattle.clap.specs.Takes.{use_passes, is_given}
use Rattle.clap.specs.Walk as clap
use Rattle.clap.specs.Walk.{Rule, Row, Text, has_row, arg_by_id, arg_by_long, arg_by_index, with_values, without}
use Rattle.jos_words.specs.Arguments.{has_option}
use Rattle.jos_words.specs.ClapCommands.{option_rule}
use Rattle.jos_words.proofs.Rows.{same_text, bytes_eq-sym, has_row-with, has_row-without, given-with, given-with_other, given-without}

-- ---- an argument whose uses have one value each

pub record IsArgument (rules : List Rule) (a : Rule) : Type 0 where
  pub by_id : arg_by_id rules a.id ≡ Some a
  -- it may be used again, or was not used before
  pub passes : (value : Text) (rows : List Row) → (clap.is_multiple a ≡ false → has_row a.id rows ≡ false) → use_passes false a (value ∷ []) rows ≡ true
  pub row : (value id : Text) (rows : List Row) → has_row id (clap.used a (value ∷ []) rows) ≡ (bytes_eq a.id id || has_row id rows)
  pub given : (value : Text) (rows : List Row) → is_given a.id (clap.used a (value ∷ []) rows) ≡ true
  pub given_other : (value id : Text) (rows : List Row) → bytes_eq a.id id ≡ false → is_given id (clap.used a (value ∷ []) rows) ≡ is_given id rows

-- the rows with one use of an argument that is used once
abbrev pub once_used : Rule → Text → List Row → List Row
once_used a value rows = with_values a.id (clap.reading_by a) CommandLine (value ∷ []) (without a.id rows)

passes_once : (b : Bool) → b ≡ false → (not b || false) && true ≡ true
passes_once b e = rw e refl

module _ (a : Rule) (value id : Text) (rows : List Row) where
  once-row : has_row id (once_used a value rows) ≡ (bytes_eq a.id id || has_row id rows)
  once-row = has_row-with a.id id (clap.reading_by a) (value ∷ []) (without a.id rows) ∙ by_test (bytes_eq a.id id) refl
    where
      by_test : (t : Bool) → bytes_eq a.id id ≡ t → (t || has_row id (without a.id rows)) ≡ (t || has_row id rows)
      by_test true e = refl
      by_test false e = has_row-without a.id id e rows

  once-given_other : bytes_eq a.id id ≡ false → is_given id (once_used a value rows) ≡ is_given id rows
  once-given_other other = given-with_other a.id id (clap.reading_by a) (value ∷ []) (without a.id rows) other ∙ given-without a.id id other rows

-- what clap makes of an option
abbrev pub option_named : Text → Rule
option_named name = filled (option_rule name)

pub option_is : (rules : List Rule) (name : Text) → arg_by_id rules name ≡ Some (option_named name) → IsArgument rules (option_named name)
option_is rules name by_id = record {
  by_id = by_id;
  passes = λ value rows free. passes_once (has_row name rows) (free refl);
  row = once-row (option_named name);
  given = λ value rows. given-with name _ (value ∷ []) (without name rows);
  given_other = once-given_other (option_named name);
}

-- what clap makes of a positional word, and of positional words, that have to be there or not
abbrev pub word_rule : Bool → ℕ → Text → Rule
word_rule required i name = with_index i (filled (record (new_rule name) { required = required }))

abbrev pub words_rule : Bool → ℕ → Text → Rule
words_rule required i name = with_index i (filled (record (new_rule name) { action = Some Append; required = required }))

pub word_is : (rules : List Rule) (required : Bool) (i : ℕ) (name : Text) → arg_by_id rules name ≡ Some (word_rule required i name) → IsArgument rules (word_rule required i name)
word_is rules required i name by_id = record {
  by_id = by_id;
  passes = λ value rows free. passes_once (has_row name rows) (free refl);
  row = once-row (word_rule required i name);
  given = λ value rows. given-with name _ (value ∷ []) (without name rows);
  given_other = once-given_other (word_rule required i name);
}

pub words_are : (rules : List Rule) (required : Bool) (i : ℕ) (name : Text) → arg_by_id rules name ≡ Some (words_rule required i name) → IsArgument rules (words_rule required i name)
words_are rules required i name by_id = record {
  by_id = by_id;
  passes = λ value rows free. refl;
  row = λ value id rows. has_row-with name id _ (value ∷ []) rows;
  given = λ value rows. given-with name _ (value ∷ []) rows;
  given_other = λ value id rows other. given-with_other name id _ (value ∷ []) rows other;
}

-- ---- the options among the rules

pub lookup_long : (i : ℕ) (options : List Text) (others : List Rule) (name : Text) → has_option options name ≡ true
    → arg_by_long (filled_from i (map option_rule options ++ others)) name ≡ Some (option_named name)
lookup_long i [] others name known = absurd (true≢false (sym known))
lookup_long i (first ∷ rest) others name known = by_test (bytes_eq first name) refl known (lookup_long i rest others name)
  where
    by_test : (t : Bool) → bytes_eq first name ≡ t → (t || has_option rest name) ≡ true
        → (has_option rest name ≡ true → arg_by_long (filled_from i (map option_rule rest ++ others)) name ≡ Some (option_named name))
        → cond (t || false) (Some (option_named first)) (arg_by_long (filled_from i (map option_rule rest ++ others)) name) ≡ Some (option_named name)
    by_test true e known later = ap (λ (n : Text). Some (option_named n)) (same_text first name e)
    by_test false e known later = later known

pub lookup_id : (i : ℕ) (options : List Text) (others : List Rule) (name : Text) → has_option options name ≡ true
    → arg_by_id (filled_from i (map option_rule options ++ others)) name ≡ Some (option_named name)
lookup_id i [] others name known = absurd (true≢false (sym known))
lookup_id i (first ∷ rest) others name known = by_test (bytes_eq first name) refl known (lookup_id i rest others name)
  where
    by_test : (t : Bool) → bytes_eq first name ≡ t → (t || has_option rest name) ≡ true
        → (has_option rest name ≡ true → arg_by_id (filled_from i (map option_rule rest ++ others)) name ≡ Some (option_named name))
        → cond t (Some (option_named first)) (arg_by_id (filled_from i (map option_rule rest ++ others)) name) ≡ Some (option_named name)
    by_test true e known later = ap (λ (n : Text). Some (option_named n)) (same_text first name e)
    by_test false e known later = later known

-- ---- a name that no option has

pub apart_from : (options : List Text) (id name : Text) → list_any (λ known. bytes_eq known id) options ≡ false → has_option options name ≡ true → bytes_eq name id ≡ false
apart_from [] id name none known = absurd (true≢false (sym known))
apart_from (first ∷ rest) id name none known = by_test (bytes_eq first id) (bytes_eq first name) refl refl none known (apart_from rest id name)
  where
    by_test : (a b : Bool) → bytes_eq first id ≡ a → bytes_eq first name ≡ b → (a || list_any (λ known. bytes_eq known id) rest) ≡ false → (b || has_option rest name) ≡ true
        → (list_any (λ known. bytes_eq known id) rest ≡ false → has_option rest name ≡ true → bytes_eq name id ≡ false) → bytes_eq name id ≡ false
    by_test true b e f none known later = absurd (true≢false none)
    by_test false true e f none known later = ap (λ (n : Text). bytes_eq n id) (sym (same_text first name f)) ∙ e
    by_test false false e f none known later = later none known

pub apart_to : (options : List Text) (id name : Text) → list_any (λ known. bytes_eq known id) options ≡ false → has_option options name ≡ true → bytes_eq id name ≡ false
apart_to options id name none known = bytes_eq-sym id name ∙ apart_from options id name none known
