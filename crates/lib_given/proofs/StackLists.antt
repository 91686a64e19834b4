-- The strings of a program's words one behind another: where each begins and ends, and which address tells it.
use Rattle.std.proofs.Common.{◌≡◌, ◌≢◌, ◌∙◌, ◌+◌, ◌-◌, ◌<◌, ◌≤◌, ℕ, zero, suc, Bool, true, false, List, [], ◌∷◌, length, refl, sym, ap, arith}
use Rattle.std.specs.Prelude.{All, nat_lt, slice_index, take}
use Rattle.std.proofs.lemmas.Bool.Decides.{nat_tests}
use Rattle.std.proofs.lemmas.List.{get_or-append_right, get_or_append_left, get_or_at, length-append, take_all}
use Rattle.std.proofs.lemmas.List.Sums.{fails_before_first}
use Rattle.jos_elf.specs.StackPage.{addresses_from, strings_of, strings_size}
use Rattle.lib_os.specs.FileServices.{is_nul}
use Rattle.lib_os.specs.Rows.{AreBytes}
use Rattle.lib_os.specs.StandsAtSpawn.{LiesIn}
use Rattle.lib_os.specs.StandsInHandler.{HasNoEnd}
use Rattle.lib_os.proofs.PageBytes.{bytes_append, bytes_more, bytes_none}

-- ---- addresses

pub addresses_long : (at : ℕ) (words : List (List ℕ)) → length (addresses_from at words) ≡ length words + 1
unfolding addresses_from
addresses_long at [] = refl
addresses_long at (word ∷ rest) = let more = addresses_long (at + length word + 1) rest in omega (arith, more)

-- The address of each string is where it begins.
pub address_is : (at : ℕ) (words : List (List ℕ)) (index : ℕ) → index < length words →
    slice_index (addresses_from at words) index ≡ at + strings_size (take index words)
unfolding addresses_from strings_of
address_is at [] index lt = absurd (omega (arith, lt))
address_is at (word ∷ rest) zero lt = omega arith
address_is at (word ∷ rest) (suc index) lt =
    let more = address_is (at + length word + 1) rest index (omega (arith, lt)) in
    let long = length-append word (0 ∷ strings_of (take index rest)) in
    omega (arith, more, long)

-- ---- strings

-- Behind the end of a string of this number, so many bytes are those of one string more.
module _ (word : List ℕ) (rest : List (List ℕ)) where
  pub first_long : strings_size (word ∷ rest) ≡ length word + 1 + strings_size rest
  unfolding strings_of
  first_long = let all = length-append word (0 ∷ strings_of rest) in omega (arith, all)

  -- a byte of the first
  pub first_byte : (i : ℕ) → i < length word → slice_index (strings_of (word ∷ rest)) i ≡ slice_index word i
  unfolding strings_of
  first_byte i lt = get_or_append_left word (0 ∷ strings_of rest) 0 i lt

  -- its end
  pub first_end : slice_index (strings_of (word ∷ rest)) (length word) ≡ 0
  unfolding strings_of
  first_end = get_or_at word 0 (strings_of rest) 0 (length word) refl

  -- a byte of the others
  pub later_byte : (i : ℕ) → slice_index (strings_of (word ∷ rest)) (length word + 1 + i) ≡ slice_index (strings_of rest) i
  unfolding strings_of
  later_byte i =
      let place : length word + 1 + i - length word ≡ suc i = omega arith in
      get_or-append_right word (0 ∷ strings_of rest) (length word) (length word + 1 + i) 0 refl (omega arith)
      ∙ ap (slice_index (0 ∷ strings_of rest)) place

  -- no byte of the first is its end
  pub first_goes_on : HasNoEnd word → (i : ℕ) → i < length word → slice_index (strings_of (word ∷ rest)) i ≢ 0
  first_goes_on none i lt zero_is =
      let fails : is_nul (slice_index word i) ≡ false = fails_before_first is_nul word i 0 (omega (arith, none, lt)) in
      let same : slice_index word i ≡ 0 = sym (first_byte i lt) ∙ zero_is in
      let contradiction : true ≡ false = sym (ap is_nul same) ∙ fails in cc

-- the first byte of all lies in the first
pub first_lies : (words : List (List ℕ)) → 0 < length words → LiesIn words 0 0
unfolding strings_of
first_lies [] some = absurd (omega (arith, some))
first_lies (word ∷ rest) some =
    record { below = some; from = omega arith; to = let all = first_long word [] in omega (arith, all) }

-- At a string's last byte there is a 0, and only there.
pub ends_where : (words : List (List ℕ)) → All HasNoEnd words → (index copied : ℕ) → LiesIn words index copied →
    slice_index (strings_of words) copied ≡ 0 → copied + 1 ≡ strings_size (take (index + 1) words)
unfolding strings_of
ends_where [] none index copied lies zero_is = absurd (let below = lies.below in omega (arith, below))
ends_where (word ∷ rest) none zero copied lies zero_is = by_place (nat_lt copied (length word)) refl
  where
    by_place : (c : Bool) → nat_lt copied (length word) ≡ c → copied + 1 ≡ strings_size (word ∷ [])
    by_place true test =
        let low : copied < length word = grind (arith, nat_tests, test) in absurd (first_goes_on word rest (none 0 [] (omega arith)) copied low zero_is)
    by_place false test =
        let past : length word ≤ copied = grind (arith, nat_tests, test) in
        let all = first_long word [] in
        let last = lies.to in
        omega (arith, past, all, last)
ends_where (word ∷ rest) none (suc index) copied lies zero_is =
    let before = first_long word (take index rest) in
    let behind = first_long word (take (index + 1) rest) in
    let one_more : suc index + 1 ≡ suc (index + 1) = omega arith in
    let same = ap (λ (k : ℕ). strings_size (take k (word ∷ rest))) one_more in
    let low = lies.from in
    let high = lies.to in
    let below = lies.below in
    let place : copied ≡ length word + 1 + (copied - (length word + 1)) = omega (arith, before, low) in
    let later : slice_index (strings_of rest) (copied - (length word + 1)) ≡ 0 =
    sym (later_byte word rest (copied - (length word + 1))) ∙ ap (slice_index (strings_of (word ∷ rest))) (sym place) ∙ zero_is in
    let found = ends_where rest (λ k d lt. none (suc k) d (omega (arith, lt))) index (copied - (length word + 1))
    (record { below = omega (arith, below); from = omega (arith, before, low); to = omega (arith, same, behind, high, before, low) }) later in
    omega (arith, found, same, behind, place)

-- ---- how many bytes the first strings have

-- They are more with each string.
pub size_rises : (words : List (List ℕ)) (index : ℕ) → index < length words → strings_size (take index words) < strings_size (take (index + 1) words)
unfolding strings_of
size_rises [] index below = absurd (omega (arith, below))
size_rises (word ∷ rest) zero below = let all = first_long word [] in omega (arith, all)
size_rises (word ∷ rest) (suc index) below =
    let more = size_rises rest index (omega (arith, below)) in
    let before = first_long word (take index rest) in
    let behind = first_long word (take (index + 1) rest) in
    let one_more : suc index + 1 ≡ suc (index + 1) = omega arith in
    let same = ap (λ (k : ℕ). strings_size (take k (word ∷ rest))) one_more in
    omega (arith, more, before, behind, same)

-- none have more than all
size_most : (words : List (List ℕ)) (index : ℕ) → strings_size (take index words) ≤ strings_size words
unfolding strings_of
size_most words zero = omega arith
size_most [] (suc index) = omega arith
size_most (word ∷ rest) (suc index) =
    let more = size_most rest index in
    let some = first_long word (take index rest) in
    let all = first_long word rest in
    omega (arith, more, some, all)

-- the byte in front of the next string is a 0
pub ends_zero : (words : List (List ℕ)) (index copied : ℕ) → index < length words → copied + 1 ≡ strings_size (take (index + 1) words) →
    slice_index (strings_of words) copied ≡ 0
unfolding strings_of
ends_zero [] index copied below end = absurd (omega (arith, below))
ends_zero (word ∷ rest) zero copied below end =
    let all = first_long word [] in
    let place : copied ≡ length word = omega (arith, all, end) in ap (slice_index (strings_of (word ∷ rest))) place ∙ first_end word rest
ends_zero (word ∷ rest) (suc index) copied below end =
    let behind = first_long word (take (index + 1) rest) in
    let some = size_rises rest index (omega (arith, below)) in
    let one_more : suc index + 1 ≡ suc (index + 1) = omega arith in
    let same = ap (λ (k : ℕ). strings_size (take k (word ∷ rest))) one_more in
    let place : copied ≡ length word + 1 + (copied - (length word + 1)) = omega (arith, behind, some, same, end) in
    ap (slice_index (strings_of (word ∷ rest))) place
    ∙ later_byte word rest (copied - (length word + 1))
    ∙ ends_zero rest index (copied - (length word + 1)) (omega (arith, below)) (omega (arith, behind, some, same, end))

-- Where words are bytes, their strings are.
pub strings_small : (words : List (List ℕ)) → All AreBytes words → AreBytes (strings_of words)
unfolding strings_of
strings_small [] each = bytes_none
strings_small (word ∷ rest) each =
    bytes_append word (0 ∷ strings_of rest) (each 0 [] (omega arith))
    (bytes_more 0 (strings_of rest) (omega arith) (strings_small rest (λ k d lt. each (suc k) d (omega (arith, lt)))))

-- ---- one byte is copied

-- behind the end of a string the next begins, unless it is the last
module _ (words : List (List ℕ)) (index copied : ℕ) (lies : LiesIn words index copied) where
  abbrev ends : ℕ
  ends = strings_size (take (index + 1) words)

  -- where all are copied, this is the last string
  pub last_string : copied + 1 ≡ strings_size words → index + 1 ≡ length words
  last_string all = by_place (nat_lt (index + 1) (length words)) refl
    where
      below : index < length words
      below = lies.below

      by_place : (c : Bool) → nat_lt (index + 1) (length words) ≡ c → index + 1 ≡ length words
      by_place false test = let low = below in let past : length words ≤ index + 1 = grind (arith, nat_tests, test) in omega (arith, low, past)
      by_place true test =
          let more : index + 1 < length words = grind (arith, nat_tests, test) in
          let rises = size_rises words (index + 1) more in
          let most = size_most words (index + 1 + 1) in
          let low = lies.to in
          absurd (omega (arith, rises, most, low, all))

  -- and else the next string follows
  pub next_string_lies : copied + 1 < strings_size words → copied + 1 ≡ strings_size (take (index + 1) words) → LiesIn words (index + 1) (copied + 1)
  next_string_lies some end = by_place (nat_lt (index + 1) (length words)) refl
    where
      by_place : (c : Bool) → nat_lt (index + 1) (length words) ≡ c → LiesIn words (index + 1) (copied + 1)
      by_place true test =
          let more : index + 1 < length words = grind (arith, nat_tests, test) in
          let rises = size_rises words (index + 1) more in record { below = more; from = omega (arith, end); to = omega (arith, end, rises) }
      by_place false test =
          let past : length words ≤ index + 1 = grind (arith, nat_tests, test) in
          let whole : strings_size (take (index + 1) words) ≡ strings_size words = ap (λ (l : List (List ℕ)). strings_size l) (take_all (index + 1) words past) in
          absurd (omega (arith, whole, end, some))

  -- or the next byte of this one
  pub next_byte_lies : slice_index (strings_of words) copied ≢ 0 → LiesIn words index (copied + 1)
  next_byte_lies some =
      let from = lies.from in
      let to = lies.to in
      record { below = lies.below; from = omega (arith, from); to = by_place (nat_lt (copied + 1) ends) refl }
    where
      by_place : (c : Bool) → nat_lt (copied + 1) ends ≡ c → copied + 1 < ends
      by_place true test = grind (arith, nat_tests, test)
      by_place false test =
          let past : ends ≤ copied + 1 = grind (arith, nat_tests, test) in
          let low = lies.to in absurd (some (ends_zero words index copied lies.below (omega (arith, past, low))))
