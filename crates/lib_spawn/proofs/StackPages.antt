-- What stands on the first page of a stack, string by string.
use Rattle.std.proofs.Common.{◌≡◌, ◌∙◌, ℕ, suc, ◌+◌, ◌-◌, ◌*◌, ◌<◌, ◌≤◌, ◌&&◌, nat_le, Bool, true, false, List, [], ◌∷◌, ◌++◌, map}
use Rattle.std.proofs.Common.{length, get_or}
use Rattle.std.proofs.Common.{drop, replicate, refl, sym, ap, arith, length-append, add-one, drop-cons, append_assoc}
use Rattle.std.specs.Borrow.{Bor}
use Rattle.std.specs.Int.{w32, to_le_bytes}
use Rattle.std.proofs.lemmas.List.{length-replicate, drop_all}
use Rattle.std.proofs.lemmas.Bool.Decides.{nat_tests}
use Rattle.jos_base.specs.declared.numbers.TheConstants.{USTACKTOP}
use Rattle.jos_base.specs.TrapFrames.{bytes_of_words}
use Rattle.jos_elf.specs.StackPage.{strings_of, addresses_from, in_words, strings_size, stack_size, stack_pointer}
use Rattle.jos_elf.specs.StackPage.{stack_contents, fits_stack}
use Rattle.jos_base.proofs.WordBytes.{length-bytes_of_words}

-- ---- from one word on

abbrev pub no_text : Bor (List ℕ)
no_text = record { ref_ptr = (0, 0); now = [] }

module _ (words : List (Bor (List ℕ))) (i : ℕ) (within : i < length words) where
  -- the word at hand
  abbrev pub text : List ℕ
  text = (get_or words i no_text).now

  pub texts-next : map (λ w. w.now) (drop i words) ≡ text ∷ map (λ w. w.now) (drop (i + 1) words)
  texts-next = let next : drop i words ≡ get_or words i no_text ∷ drop (i + 1) words = rw (add-one, drop-cons words i no_text)
      refl in ap (map (λ w. w.now)) next

  pub strings-next : strings_of (map (λ w. w.now) (drop i words)) ≡ text ++ (0 ∷ strings_of (map (λ w. w.now) (drop (i + 1) words)))
  unfolding strings_of
  strings-next = ap strings_of texts-next

  pub size-next : strings_size (map (λ w. w.now) (drop i words)) ≡ length text + 1 + strings_size (map (λ w. w.now) (drop (i + 1) words))
  size-next =
      let whole : strings_size (map (λ w. w.now) (drop i words)) ≡ length text + suc (strings_size (map (λ w. w.now) (drop (i + 1) words))) =
      ap length strings-next ∙ length-append text (0 ∷ strings_of (map (λ w. w.now) (drop (i + 1) words))) in
      omega (arith, whole)

  pub addresses-next : (at : ℕ) → bytes_of_words (addresses_from at (map (λ w. w.now) (drop i words)))
      ≡ to_le_bytes w32 at ++ bytes_of_words (addresses_from (at + length text + 1) (map (λ w. w.now) (drop (i + 1) words)))
  unfolding addresses_from bytes_of_words
  addresses-next at = ap (λ (list : List (List ℕ)). bytes_of_words (addresses_from at list)) texts-next

pub texts-end : (words : List (Bor (List ℕ))) (i : ℕ) → length words ≤ i → map (λ w. w.now) (drop i words) ≡ []
texts-end words i le = ap (map (λ w. w.now)) (drop_all i words le)

pub strings-none : strings_of [] ≡ []
unfolding strings_of
strings-none = refl

pub addresses-none : (at : ℕ) → bytes_of_words (addresses_from at []) ≡ to_le_bytes w32 0
unfolding addresses_from bytes_of_words
addresses-none at = refl

-- ---- how many bytes

pub length-texts : (words : List (Bor (List ℕ))) → length (map (λ w. w.now) words) ≡ length words
length-texts [] = refl
length-texts (word ∷ rest) = ap suc (length-texts rest)

pub length-addresses : (at : ℕ) (words : List (List ℕ)) → length (addresses_from at words) ≡ length words + 1
unfolding addresses_from
length-addresses at [] = refl
length-addresses at (word ∷ rest) = ap suc (length-addresses (at + length word + 1) rest) ∙ omega arith

pub stack-has_size : (words : List (List ℕ)) → length (stack_contents words) ≡ stack_size words
unfolding stack_contents stack_size
stack-has_size words =
    let addresses = addresses_from (USTACKTOP - strings_size words) words in
    let argv : List ℕ = length words ∷ (stack_pointer words + 8) ∷ addresses in
    let padding : ℕ = in_words (strings_size words) - strings_size words in
    let all : length argv ≡ length addresses + 2 = omega arith in
    let first : length (bytes_of_words argv) ≡ 4 * length argv = length-bytes_of_words argv in
    let more : length addresses ≡ length words + 1 = length-addresses (USTACKTOP - strings_size words) words in
    let zeros : length {A = ℕ} (replicate padding 0) ≡ padding = length-replicate padding 0 in
    length-append (bytes_of_words argv) (replicate padding 0 ++ strings_of words)
    ∙ ap (λ (n : ℕ). length (bytes_of_words argv) + n) (length-append (replicate padding 0) (strings_of words))
    ∙ omega arith

-- ---- words that fit

pub record Fits (words : List (List ℕ)) : Type 0 where
  pub some : 1 ≤ length words
  pub few : length words ≤ 16
  pub size : stack_size words ≤ 4096
  -- and so the strings have at most a page
  pub strings : strings_size words ≤ 4096

pub fits : (words : List (List ℕ)) → fits_stack words ≡ true → Fits words
unfolding fits_stack stack_size
fits words is =
    let facts = by_tests (nat_le 1 (length words)) (nat_le (length words) 16)
    (nat_le (in_words (strings_size words) + 4 * (length words + 1) + 8) 4096) refl refl refl is in
    record { some = facts.0; few = facts.1; size = facts.2; strings = omega (arith, facts.2) }
  where
    by_tests : (a b c : Bool) → nat_le 1 (length words) ≡ a → nat_le (length words) 16 ≡ b
        → nat_le (in_words (strings_size words) + 4 * (length words + 1) + 8) 4096 ≡ c → (a && b && c) ≡ true
        → (1 ≤ length words) × (length words ≤ 16) × (in_words (strings_size words) + 4 * (length words + 1) + 8 ≤ 4096)
    by_tests true true true a b c e = (grind (arith, nat_tests), grind (arith, nat_tests), grind (arith, nat_tests))
    by_tests true true false a b c e = absurd cc
    by_tests true false c a b d e = absurd cc
    by_tests false b c a d f e = absurd cc

module _ (words : List (List ℕ)) where
  abbrev tested : Bool → Bool → Bool → Bool
  tested a b c = a && b && c

  pub unfit-none : length words < 1 → fits_stack words ≡ false
  unfolding fits_stack
  unfit-none lt = let test : nat_le 1 (length words) ≡ false = grind (arith, nat_tests) in
      ap (λ (b : Bool). tested b (nat_le (length words) 16) (nat_le (stack_size words) 4096)) test

  pub unfit-many : 16 < length words → fits_stack words ≡ false
  unfolding fits_stack
  unfit-many lt = let test : nat_le (length words) 16 ≡ false = grind (arith, nat_tests) in
      ap (λ (b : Bool). tested (nat_le 1 (length words)) b (nat_le (stack_size words) 4096)) test ∙ none (nat_le 1 (length words))
    where
      none : (b : Bool) → (b && false && nat_le (stack_size words) 4096) ≡ false
      none true = refl
      none false = refl

  pub unfit-size : 4096 < stack_size words → fits_stack words ≡ false
  unfolding fits_stack
  unfit-size lt = let test : nat_le (stack_size words) 4096 ≡ false = grind (arith, nat_tests) in
      ap (λ (b : Bool). tested (nat_le 1 (length words)) (nat_le (length words) 16) b) test
      ∙ none (nat_le 1 (length words)) (nat_le (length words) 16)
    where
      none : (a b : Bool) → (a && b && false) ≡ false
      none true true = refl
      none true false = refl
      none false b = refl

  pub strings-within : strings_size words ≤ stack_size words
  unfolding stack_size
  strings-within = omega arith

  pub fit-by_size : 1 ≤ length words → length words ≤ 16 → nat_le (stack_size words) 4096 ≡ fits_stack words
  unfolding fits_stack
  fit-by_size some few =
      let first : nat_le 1 (length words) ≡ true = grind (arith, nat_tests) in
      let second : nat_le (length words) 16 ≡ true = grind (arith, nat_tests) in
      sym (ap (λ (b : Bool). tested b (nat_le (length words) 16) (nat_le (stack_size words) 4096)) first
      ∙ ap (λ (b : Bool). b && nat_le (stack_size words) 4096) second)

-- ---- bytes that are added

pub none-size : strings_size [] ≡ 0
unfolding strings_of
none-size = refl

-- what stands, with one piece of what is still to come
pub more : (stands piece rest after whole : List ℕ) → after ≡ stands ++ piece → whole ≡ piece ++ rest → after ++ rest ≡ stands ++ whole
more stands piece rest after whole is parts = ap (λ (bytes : List ℕ). bytes ++ rest) is ∙ append_assoc stands piece rest
    ∙ ap (λ (bytes : List ℕ). stands ++ bytes) (sym parts)

-- the pieces make what stands there
pub stack-built : (words : List (List ℕ)) (count esp first padding : ℕ) (one two three four all : List ℕ) →
    count ≡ length words → esp ≡ stack_pointer words + 8 → first ≡ USTACKTOP - strings_size words →
    padding ≡ in_words (strings_size words) - strings_size words →
    one ≡ [] ++ to_le_bytes w32 count → two ≡ one ++ to_le_bytes w32 esp → three ≡ two ++ bytes_of_words (addresses_from first words) →
    four ≡ three ++ replicate padding 0 → all ≡ four ++ strings_of words → all ≡ stack_contents words
unfolding stack_contents bytes_of_words
stack-built words count esp first padding one two three four all count_is esp_is first_is padding_is a b c d e =
    let words_bytes : bytes_of_words (count ∷ esp ∷ addresses_from first words)
    ≡ bytes_of_words (length words ∷ (stack_pointer words + 8) ∷ addresses_from (USTACKTOP - strings_size words) words) =
    λ i. bytes_of_words (count_is i ∷ esp_is i ∷ addresses_from (first_is i) words) in
    let zeros : replicate padding 0 ≡ replicate (in_words (strings_size words) - strings_size words) 0 = ap
    (λ (n : ℕ). replicate n 0) padding_is in
    let pieces : all ≡ bytes_of_words (count ∷ esp ∷ addresses_from first words) ++ (replicate padding 0 ++ strings_of words) =
    rw (e, d, c, b, a) (simp append_assoc) in
    pieces ∙ (λ i. words_bytes i ++ (zeros i ++ strings_of words))
