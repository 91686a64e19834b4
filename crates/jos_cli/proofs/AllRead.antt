-- Files that are read one after another.
use Rattle.std.proofs.Common.{◌≡◌, List, [], ◌∷◌, ◌++◌, length, map, Option, Ok, Err, refl, sym, ap, subst, ◌∙◌, arith}
use Rattle.std.proofs.lemmas.List.{length-append, map-append}
use Rattle.jos_base.specs.Words.{◌>>=◌}
use Rattle.jos_host.specs.Files.{Files}
use Rattle.jos_words.specs.Arguments.{Word}
use Rattle.jos_cli.specs.Found.{FileAt, IsFileAt}
use Rattle.jos_cli.specs.Answer.{Judged, all_judged}
use Rattle.jos_cli.specs.Kinds.{Kind}
use Rattle.jos_cli.specs.Stages.{AreFilesAt, RefusesBy}
use Rattle.jos_cli.proofs.Finding.{some_files}
use Rattle.jos_cli.proofs.Reading.{refused_then}

-- ---- one list behind another

pub are_more : (told : Option Files) (words more : List Word) (files others : List FileAt) → AreFilesAt told words files → AreFilesAt told more others →
    AreFilesAt told (words ++ more) (files ++ others)
unfolding AreFilesAt
are_more told [] more [] others h k = k
are_more told [] more (file ∷ files) others h k = absurd h
are_more told (word ∷ words) more [] others h k = absurd h
are_more told (word ∷ words) more (file ∷ files) others h k = (h.0, are_more told words more files others h.1 k)

-- two lists, the first of which is judged before the second
unfoldable joined : {X : Type 0} → Judged (List X) → Judged (List X) → Judged (List X)
joined first second = first >>= (λ l. second >>= (λ more. Ok (l ++ more)))

joined_none : {X : Type 0} (m : Judged (List X)) → m ≡ joined (Ok []) m
unfolding joined
joined_none (Ok l) = refl
joined_none (Err answer) = refl

joined_more : {X : Type 0} (a : Judged X) (b m : Judged (List X)) →
    a >>= (λ first. joined b m >>= (λ l. Ok (first ∷ l))) ≡ joined (a >>= (λ first. b >>= (λ l. Ok (first ∷ l)))) m
unfolding joined
joined_more (Err answer) b m = refl
joined_more (Ok x) (Err answer) m = refl
joined_more (Ok x) (Ok l) (Err answer) = refl
joined_more (Ok x) (Ok l) (Ok more) = refl

all_judged-append : {X : Type 0} (judged others : List (Judged X)) → all_judged (judged ++ others) ≡ joined (all_judged judged) (all_judged others)
unfolding all_judged
all_judged-append [] others = joined_none (all_judged others)
all_judged-append {X = X} (first ∷ judged) others =
    ap (λ (j : Judged (List X)). first >>= (λ x. j >>= (λ l. Ok (x ∷ l)))) (all_judged-append judged others)
    ∙ joined_more first (all_judged judged) (all_judged others)

-- ---- what is read so far

-- each file as it is judged
pub record HasRead {X : Type 0} (judge : FileAt → Judged X) (told : Option Files) (words : List Word) (xs : List X) : Type 0 where
  pub found : List FileAt
  pub are : AreFilesAt told words found
  pub judged : all_judged (map judge found) ≡ Ok xs
  pub count : length xs ≡ length words

pub nothing_read : {X : Type 0} (judge : FileAt → Judged X) (told : Option Files) → HasRead judge told [] []
unfolding AreFilesAt all_judged
nothing_read judge told = record { found = []; are = tt; judged = refl; count = refl }

module _ {X : Type 0} {judge : FileAt → Judged X} {told : Option Files} {words : List Word} {xs : List X} (h : HasRead judge told words xs) where
  behind : (others : List FileAt) → all_judged (map judge (h.found ++ others)) ≡ all_judged (map judge others) >>= (λ more. Ok (xs ++ more))
  unfolding joined
  behind others =
      ap all_judged (map-append judge h.found others) ∙ all_judged-append (map judge h.found) (map judge others)
      ∙ ap (λ (j : Judged (List X)). joined j (all_judged (map judge others))) h.judged

  pub on_read : (word : Word) (at : FileAt) (x : X) → IsFileAt told word at → judge at ≡ Ok x → HasRead judge told (words ++ word ∷ []) (xs ++ x ∷ [])
  unfolding AreFilesAt all_judged
  on_read word at x is judged = record {
    found = h.found ++ at ∷ [];
    are = are_more told words (word ∷ []) h.found (at ∷ []) h.are (is, tt);
    judged = behind (at ∷ []) ∙ ap (λ (j : Judged X). (j >>= (λ first. Ok (first ∷ []))) >>= (λ more. Ok (xs ++ more))) judged;
    count = omega (arith, h.count, length-append xs (x ∷ []), length-append words (word ∷ []));
  }

  -- the next one is refused
  pub on_refused : (word : Word) (rest : List Word) (at : FileAt) (kind : Kind) → IsFileAt told word at → RefusesBy (judge at) kind →
      (found : List FileAt) × AreFilesAt told (words ++ word ∷ rest) found × RefusesBy (all_judged (map judge found)) kind
  unfolding AreFilesAt all_judged
  on_refused word rest at kind is refusal =
      let more = some_files told rest in
      let others : Judged (List X) = all_judged (map judge more.0) in (
        h.found ++ at ∷ more.0,
        are_more told words (word ∷ rest) h.found (at ∷ more.0) h.are (is, more.1),
        subst (λ (j : Judged (List X)). RefusesBy j kind) (sym (behind (at ∷ more.0)))
            (refused_then (all_judged (map judge (at ∷ more.0))) (λ l. Ok (xs ++ l)) kind
            (refused_then (judge at) (λ first. others >>= (λ l. Ok (first ∷ l))) kind refusal)),
      )
