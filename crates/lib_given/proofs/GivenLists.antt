-- Lists to which one more is put: the addresses of the strings, their words in a page, and the strings one behind another.
use Rattle.std.proofs.Common.{◌≡◌, ◌∙◌, ◌<◌, ◌≤◌, ◌++◌, ℕ, Bool, true, false, List, [], ◌∷◌, length, refl, sym, ap, subst, arith}
use Rattle.std.specs.Int.{w32, to_le_bytes}
use Rattle.std.specs.Prelude.{All, drop, nat_lt, slice_index, slice_index_or, take}
use Rattle.std.proofs.lemmas.Bool.Decides.{nat_tests}
use Rattle.std.proofs.lemmas.List.{append_assoc, append-nil, get_or_append_left, get_or_at, length-append}
use Rattle.jos_base.specs.TrapFrames.{bytes_of_words}
use Rattle.jos_elf.specs.StackPage.{strings_of}

-- ---- one more

-- the same lists have the same last
pub last_same : (first second : List ℕ) (x y : ℕ) → first ++ x ∷ [] ≡ second ++ y ∷ [] → (first ≡ second) × (x ≡ y)
last_same [] [] x y same = (refl, ap (λ (l : List ℕ). slice_index l 0) same)
last_same [] (b ∷ second) x y same =
    let many = length-append second (y ∷ []) in
    let long : length (x ∷ []) ≡ length ((b ∷ second) ++ y ∷ []) = ap (λ (l : List ℕ). length l) same in
    absurd (omega (arith, many, long))
last_same (a ∷ first) [] x y same =
    let many = length-append first (x ∷ []) in
    let long : length ((a ∷ first) ++ x ∷ []) ≡ length (y ∷ []) = ap (λ (l : List ℕ). length l) same in
    absurd (omega (arith, many, long))
last_same (a ∷ first) (b ∷ second) x y same =
    let rest = last_same first second x y (ap (λ (l : List ℕ). drop 1 l) same) in
    let head : a ≡ b = ap (λ (l : List ℕ). slice_index l 0) same in
    ((λ i. head i ∷ rest.0 i), rest.1)

-- what holds of each, and of it
pub all_more : {A : Type 0} (P : A → Type 0) (all : List A) (x : A) → All P all → P x → All P (all ++ x ∷ [])
all_more {A = A} P all x each it k d lt = by_place (nat_lt k (length all)) refl
  where
    by_place : (c : Bool) → nat_lt k (length all) ≡ c → P (slice_index_or (all ++ x ∷ []) k d)
    by_place true test =
        let low : k < length all = grind (arith, nat_tests, test) in
        subst P (sym (get_or_append_left all (x ∷ []) d k low)) (each k d low)
    by_place false test =
        let past : length all ≤ k = grind (arith, nat_tests, test) in
        let many = length-append all (x ∷ []) in
        let here : k ≡ length all = omega (arith, past, lt, many) in
        subst P (sym (get_or_at all x [] d k (sym here))) it

-- ---- words in a page

pub words_more : (words : List ℕ) (word : ℕ) → bytes_of_words (words ++ word ∷ []) ≡ bytes_of_words words ++ to_le_bytes w32 word
unfolding bytes_of_words
words_more [] word = append-nil (to_le_bytes w32 word)
words_more (first ∷ rest) word =
    ap (λ (l : List ℕ). to_le_bytes w32 first ++ l) (words_more rest word)
    ∙ sym (append_assoc (to_le_bytes w32 first) (bytes_of_words rest) (to_le_bytes w32 word))

-- ---- strings

pub strings_none : strings_of [] ≡ []
unfolding strings_of
strings_none = refl

pub strings_more : (words : List (List ℕ)) (word : List ℕ) → strings_of (words ++ word ∷ []) ≡ strings_of words ++ (word ++ 0 ∷ [])
unfolding strings_of
strings_more [] word = refl
strings_more (first ∷ rest) word =
    ap (λ (l : List ℕ). first ++ (0 ∷ l)) (strings_more rest word) ∙ sym (append_assoc first (0 ∷ strings_of rest) (word ++ 0 ∷ []))

-- ---- the front of a list

pub take_front : (first second : List ℕ) → take (length first) (first ++ second) ≡ first
take_front [] second = refl
take_front (x ∷ first) second = ap (λ (l : List ℕ). x ∷ l) (take_front first second)
