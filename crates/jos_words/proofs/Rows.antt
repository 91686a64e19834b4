-- What a use of an argument does to the rows that clap found.
use Rattle.std.proofs.Common.{◌≡◌, ◌∙◌, ◌||◌, Bool, true, false, cond, List, [], ◌∷◌, ◌++◌, Option, Some, None, refl, sym, ap, true≢false}
use Rattle.std.specs.List.{find}
use Rattle.std.specs.Option.{option_map_or}
use Rattle.std.specs.Str.{bytes_eq}
use Rattle.std.proofs.lemmas.Slice.Eq.{bytes_eq-Decides}
use Rattle.std.specs.Bool.{Decides}
use Rattle.clap.specs.Facts.{explicit_source}
use Rattle.clap.specs.Takes.{is_given}
use Rattle.clap.specs.Walk.{Row, Text, has_row, with_values, without, more_values, stronger}
use Rattle.clap.specs.declared.builder.value_parser.Reading.{Reading}
use Rattle.clap.specs.declared.parser.matches.ValueSource.{ValueSource}
use Rattle.clap.specs.declared.parser.matches.ValueSource.TheVariants.{DefaultValue, CommandLine}

pub same_text : (a b : Text) → bytes_eq a b ≡ true → a ≡ b
same_text a b e = by_test (bytes_eq a b) e (bytes_eq-Decides a b)
  where
    by_test : (t : Bool) → t ≡ true → Decides t (a ≡ b) → a ≡ b
    by_test true e d = d.0 refl
    by_test false e d = absurd (true≢false (sym e))

pub bytes_eq-refl : (a : Text) → bytes_eq a a ≡ true
bytes_eq-refl a = by_test (bytes_eq a a) refl (bytes_eq-Decides a a)
  where
    by_test : (t : Bool) → bytes_eq a a ≡ t → Decides t (a ≡ a) → bytes_eq a a ≡ true
    by_test true e d = e
    by_test false e d = absurd (true≢false (sym (d.1 refl)))

pub bytes_eq-sym : (a b : Text) → bytes_eq a b ≡ bytes_eq b a
bytes_eq-sym a b = by_test (bytes_eq a b) (bytes_eq b a) refl refl
  where
    by_test : (s t : Bool) → bytes_eq a b ≡ s → bytes_eq b a ≡ t → s ≡ t
    by_test true true e f = refl
    by_test true false e f = absurd (true≢false (sym (bytes_eq-refl b) ∙ ap (bytes_eq b) (sym (same_text a b e)) ∙ f))
    by_test false true e f = absurd (true≢false (sym (bytes_eq-refl a) ∙ ap (bytes_eq a) (sym (same_text b a f)) ∙ e))
    by_test false false e f = refl

or_twice : (b x : Bool) → (b || x) ≡ (b || (b || x))
or_twice true x = refl
or_twice false x = refl

or_swap : (a b x y : Bool) → x ≡ (b || y) → (a || x) ≡ (b || (a || y))
or_swap true true x y e = refl
or_swap true false x y e = refl
or_swap false b x y e = e

module _ (id q : Text) (how : Reading) (values : List Text) where
  pub has_row-with : (rows : List Row) → has_row q (with_values id how CommandLine values rows) ≡ (bytes_eq id q || has_row q rows)
  has_row-with [] = refl
  has_row-with (r ∷ rs) = by_test (has_row-with rs) (bytes_eq r.id id) refl
    where
      by_test : has_row q (with_values id how CommandLine values rs) ≡ (bytes_eq id q || has_row q rs) → (t : Bool) → bytes_eq r.id id ≡ t →
          has_row q (cond t (more_values CommandLine values r ++ rs) (r ∷ with_values id how CommandLine values rs)) ≡ (bytes_eq id q || (bytes_eq r.id q || has_row q rs))
      by_test rest true e =
          let same : r.id ≡ id = same_text r.id id e in
          ap (λ (t : Text). bytes_eq t q || has_row q rs) same ∙ or_twice (bytes_eq id q) (has_row q rs) ∙ ap (λ (t : Text). bytes_eq id q || (bytes_eq t q || has_row q rs)) (sym same)
      by_test rest false e = or_swap (bytes_eq r.id q) (bytes_eq id q) _ (has_row q rs) rest

  pub given-with_other : (rows : List Row) → bytes_eq id q ≡ false → is_given q (with_values id how CommandLine values rows) ≡ is_given q rows
  given-with_other [] other = rw other refl
  given-with_other (r ∷ rs) other = by_test (given-with_other rs other) (bytes_eq r.id id) refl
    where
      by_test : is_given q (with_values id how CommandLine values rs) ≡ is_given q rs → (t : Bool) → bytes_eq r.id id ≡ t →
          is_given q (cond t (more_values CommandLine values r ++ rs) (r ∷ with_values id how CommandLine values rs)) ≡ is_given q (r ∷ rs)
      by_test rest true e =
          let no : bytes_eq r.id q ≡ false = ap (λ (t : Text). bytes_eq t q) (same_text r.id id e) ∙ other in
          rw no refl
      by_test rest false e = go rest (bytes_eq r.id q)
        where
          go : is_given q (with_values id how CommandLine values rs) ≡ is_given q rs → (b : Bool) → option_map_or (λ (x : Row). explicit_source x.source) (cond b (Some r) (find (λ (x : Row). bytes_eq x.id q) (with_values id how CommandLine values rs))) false
              ≡ option_map_or (λ (x : Row). explicit_source x.source) (cond b (Some r) (find (λ (x : Row). bytes_eq x.id q) rs)) false
          go rest true = refl
          go rest false = rest

module _ (id q : Text) (other : bytes_eq id q ≡ false) where
  other_row : (r : Row) → bytes_eq r.id id ≡ true → bytes_eq r.id q ≡ false
  other_row r e = ap (λ (t : Text). bytes_eq t q) (same_text r.id id e) ∙ other

  pub has_row-without : (rows : List Row) → has_row q (without id rows) ≡ has_row q rows
  has_row-without [] = refl
  has_row-without (r ∷ rs) = by_test (has_row-without rs) (bytes_eq r.id id) refl
    where
      by_test : has_row q (without id rs) ≡ has_row q rs → (t : Bool) → bytes_eq r.id id ≡ t → has_row q (cond t ([] ++ rs) (r ∷ without id rs)) ≡ (bytes_eq r.id q || has_row q rs)
      by_test rest true e = ap (λ b. b || has_row q rs) (sym (other_row r e))
      by_test rest false e = ap (λ b. bytes_eq r.id q || b) rest

  pub given-without : (rows : List Row) → is_given q (without id rows) ≡ is_given q rows
  given-without [] = refl
  given-without (r ∷ rs) = by_test (given-without rs) (bytes_eq r.id id) refl
    where
      by_test : is_given q (without id rs) ≡ is_given q rs → (t : Bool) → bytes_eq r.id id ≡ t → is_given q (cond t ([] ++ rs) (r ∷ without id rs)) ≡ is_given q (r ∷ rs)
      by_test rest true e = rw (other_row r e) refl
      by_test rest false e = go rest (bytes_eq r.id q)
        where
          go : is_given q (without id rs) ≡ is_given q rs → (b : Bool) → option_map_or (λ (x : Row). explicit_source x.source) (cond b (Some r) (find (λ (x : Row). bytes_eq x.id q) (without id rs))) false
              ≡ option_map_or (λ (x : Row). explicit_source x.source) (cond b (Some r) (find (λ (x : Row). bytes_eq x.id q) rs)) false
          go rest true = refl
          go rest false = rest

explicit : (s : Option ValueSource) → explicit_source (Some (stronger s CommandLine)) ≡ true
explicit None = refl
explicit (Some DefaultValue) = refl
explicit (Some CommandLine) = refl

pub given-with : (id : Text) (how : Reading) (values : List Text) (rows : List Row) → is_given id (with_values id how CommandLine values rows) ≡ true
given-with id how values [] = rw (bytes_eq-refl id) refl
given-with id how values (r ∷ rs) = by_test (given-with id how values rs) (bytes_eq r.id id) refl
  where
    by_test : is_given id (with_values id how CommandLine values rs) ≡ true → (t : Bool) → bytes_eq r.id id ≡ t → is_given id (cond t (more_values CommandLine values r ++ rs) (r ∷ with_values id how CommandLine values rs)) ≡ true
    by_test rest true e = rw e (explicit r.source)
    by_test rest false e = rw e rest
