-- The page of the stack as it is made: where in it stand the addresses of the strings, their place and their number, and the strings; and what it has behind each of
-- them. When all are put it has what a program's first page of its stack has.
use Rattle.std.proofs.Common.{◌≡◌, ◌∙◌, ◌+◌, ◌-◌, ◌*◌, ◌%◌, ◌<◌, ◌≤◌, ◌++◌, ℕ, Bool, true, List, [], ◌∷◌, length, replicate, refl, sym, ap, arith, if◌then◌else◌}
use Rattle.std.specs.Int.{w32, to_le_bytes}
use Rattle.std.specs.Prelude.{drop, max, min, nat_lt, slice_index, take}
use Rattle.std.proofs.Math.Nat.{max-eq_left, min-eq_left}
use Rattle.std.proofs.lemmas.Bool.Decides.{nat_tests}
use Rattle.std.proofs.lemmas.List.{append_assoc, length-append, length-replicate, length-take-le, take_all, take_more}
use Rattle.jos_base.specs.declared.numbers.TheConstants.{PGSIZE, USTACKTOP}
use Rattle.jos_base.specs.SpacesState.{overlaid, zero_page}
use Rattle.jos_base.specs.TrapFrames.{bytes_of_words}
use Rattle.jos_base.proofs.WordBytes.{length-bytes_of_words}
use Rattle.jos_elf.specs.declared.image.Segment.{Segment}
use Rattle.jos_elf.specs.Pages.{file_part, laid_all, laid_between, page_bytes, stack_page}
use Rattle.jos_elf.specs.StackPage.{addresses_from, fits_stack, in_words, stack_contents, stack_pointer, stack_size, strings_of, strings_size}
use Rattle.jos_elf.specs.Started.{stack_segment}
use Rattle.lib_os.specs.StandsAtSpawn.{stack_so_far, with_argv, with_strings}
use Rattle.lib_os.proofs.PagesPut.{overlaid_length}
use Rattle.lib_given.specs.StackWords.{addresses_place, byte_place}
use Rattle.lib_given.proofs.GivenLists.{words_more}
use Rattle.lib_given.proofs.StackBytes.{overlaid_apart, overlaid_joined, overlaid_more, zero_long, zeros_before}
use Rattle.lib_given.proofs.StackLists.{address_is, addresses_long}

-- ---- words that fit

pub record HaveRoom (words : List (List ℕ)) : Type 0 where
  pub some : 1 ≤ length words
  pub few : length words ≤ 16
  pub strings : strings_size words ≤ PGSIZE
  pub room : in_words (strings_size words) + 4 * (length words + 1) + 8 ≤ PGSIZE
  pub size : stack_size words ≡ in_words (strings_size words) + 4 * (length words + 1) + 8

pub have_room : (words : List (List ℕ)) → fits_stack words ≡ true → HaveRoom words
unfolding fits_stack stack_size
have_room words fits = record {
  some = grind (arith, nat_tests, fits);
  few = grind (arith, nat_tests, fits);
  strings = grind (arith, nat_tests, fits);
  room = grind (arith, nat_tests, fits);
  size = refl;
}

-- ---- places

module _ (words : List (List ℕ)) (fits : HaveRoom words) where
  abbrev count : ℕ
  count = length words

  abbrev size : ℕ
  size = strings_size words

  abbrev strings : List ℕ
  strings = strings_of words

  abbrev addresses : List ℕ
  addresses = addresses_from (USTACKTOP - size) words

  -- where the addresses begin
  abbrev begin : ℕ
  begin = stack_pointer words + 8 - (USTACKTOP - PGSIZE)

  pub begin_is : begin ≡ PGSIZE - (in_words size + 4 * (count + 1))
  begin_is = let room = fits.room in let all = fits.size in omega (arith, room, all)

  pub addresses_so : addresses_place count size ≡ begin
  addresses_so =
      let least : min size PGSIZE ≡ size = min-eq_left fits.strings in
      let few : min count 16 ≡ count = min-eq_left fits.few in
      (λ i. PGSIZE - (in_words (least i) + 4 * (few i + 1))) ∙ sym begin_is

  pub byte_so : (copied : ℕ) → copied < size → byte_place size copied ≡ PGSIZE - size + copied
  byte_so copied lt =
      let least : min size PGSIZE ≡ size = min-eq_left fits.strings in
      let most = fits.strings in
      (λ i. (PGSIZE - least i + copied % PGSIZE) % PGSIZE) ∙ omega (arith, lt, most)

  -- ---- what has been put

  abbrev laid : ℕ → List ℕ
  laid copied = overlaid zero_page (PGSIZE - size) (take copied strings)

  some_long : (copied : ℕ) → copied ≤ size → length (take copied strings) ≡ copied
  some_long copied few = length-take-le copied strings few

  laid_long : (copied : ℕ) → copied ≤ size → length (laid copied) ≡ PGSIZE
  laid_long copied few =
      let long = some_long copied few in
      let page = zero_long in
      let most = fits.strings in
      overlaid_length zero_page (PGSIZE - size) (take copied strings) (omega (arith, long, page, most, few)) ∙ zero_long

  words_long : (index : ℕ) → index ≤ count + 1 → length (bytes_of_words (take index addresses)) ≡ 4 * index
  words_long index few =
      let all = addresses_long (USTACKTOP - size) words in
      let long : length (take index addresses) ≡ index = length-take-le index addresses (omega (arith, all, few)) in
      length-bytes_of_words (take index addresses) ∙ ap (λ (m : ℕ). 4 * m) long

  -- it is a page
  pub so_far_long : (copied index : ℕ) → copied ≤ size → index ≤ count + 1 → length (stack_so_far words copied index) ≡ PGSIZE
  so_far_long copied index few below =
      let page = laid_long copied few in
      let long = words_long index below in
      let place = begin_is in
      let room = fits.room in
      overlaid_length (laid copied) begin (bytes_of_words (take index addresses)) (omega (arith, page, long, place, room, below)) ∙ page

  -- one more address
  pub address_put : (copied index place word : ℕ) → copied ≤ size → index < count → place ≡ begin + 4 * index →
      word ≡ USTACKTOP - size + strings_size (take index words) →
      overlaid (stack_so_far words copied index) place (to_le_bytes w32 word) ≡ stack_so_far words copied (index + 1)
  address_put copied index place word few below place_is word_is =
      let page = laid_long copied few in
      let long = words_long index (omega (arith, below)) in
      let there = begin_is in
      let room = fits.room in
      let all = addresses_long (USTACKTOP - size) words in
      let last : take (index + 1) addresses ≡ take index addresses ++ slice_index addresses index ∷ [] =
      take_more addresses index 0 (omega (arith, all, below)) in
      let here : slice_index addresses index ≡ word = address_is (USTACKTOP - size) words index below ∙ sym word_is in
      overlaid_more (laid copied) (bytes_of_words (take index addresses)) (to_le_bytes w32 word) begin place (omega (arith, place_is, long))
      (omega (arith, page, there, room, below, place_is))
      ∙ ap (λ (l : List ℕ). overlaid (laid copied) begin l)
      (sym (words_more (take index addresses) word)
      ∙ ap (λ (last_word : ℕ). bytes_of_words (take index addresses ++ last_word ∷ [])) (sym here)
      ∙ ap bytes_of_words (sym last))

  -- one more byte
  pub byte_put : (copied index place byte : ℕ) → copied < size → index ≤ count → place ≡ PGSIZE - size + copied → byte ≡ slice_index strings copied →
      overlaid (stack_so_far words copied index) place (byte ∷ []) ≡ stack_so_far words (copied + 1) index
  byte_put copied index place byte below few place_is byte_is =
      let page = laid_long copied (omega (arith, below)) in
      let long = words_long index (omega (arith, few)) in
      let had = some_long copied (omega (arith, below)) in
      let there = begin_is in
      let room = fits.room in
      let most = fits.strings in
      let zeros = zero_long in
      let last : take (copied + 1) strings ≡ take copied strings ++ byte ∷ [] =
      take_more strings copied 0 below ∙ ap (λ (x : ℕ). take copied strings ++ x ∷ []) (sym byte_is) in
      overlaid_apart (laid copied) (bytes_of_words (take index addresses)) (byte ∷ []) begin place
      (omega (arith, long, there, room, most, few, place_is)) (omega (arith, page, place_is, below, most))
      ∙ ap (λ (l : List ℕ). overlaid l begin (bytes_of_words (take index addresses)))
      (overlaid_more zero_page (take copied strings) (byte ∷ []) (PGSIZE - size) place (omega (arith, place_is, had))
      (omega (arith, zeros, place_is, below, most))
      ∙ ap (λ (l : List ℕ). overlaid zero_page (PGSIZE - size) l) (sym last))

  -- ---- all are put

  -- The 0 behind the addresses stands there already.
  module _ (index : ℕ) (last : index ≡ count) where
    all_but_zero : addresses ≡ take index addresses ++ 0 ∷ []
    unfolding addresses_from
    all_but_zero =
        let all = addresses_long (USTACKTOP - size) words in
        sym (take_all (index + 1) addresses (omega (arith, all, last))) ∙ take_more addresses index 0 (omega (arith, all, last))
        ∙ ap (λ (x : ℕ). take index addresses ++ x ∷ []) (ap (slice_index addresses) last ∙ last_zero (USTACKTOP - size) words)
      where
        last_zero : (at : ℕ) (some : List (List ℕ)) → slice_index (addresses_from at some) (length some) ≡ 0
        last_zero at [] = refl
        last_zero at (word ∷ rest) = last_zero (at + length word + 1) rest

    pub all_put : stack_so_far words size index ≡ with_strings words
    all_put =
        let long = words_long index (omega (arith, last)) in
        let there = begin_is in
        let room = fits.room in
        let page = laid_long size (omega arith) in
        let had = some_long size (omega arith) in
        let most = fits.strings in
        let all = addresses_long (USTACKTOP - size) words in
        let bytes : bytes_of_words (take index addresses) ++ to_le_bytes w32 0 ≡ bytes_of_words (take (count + 1) addresses) =
        sym (words_more (take index addresses) 0) ∙ ap bytes_of_words (sym all_but_zero)
        ∙ ap bytes_of_words (sym (take_all (count + 1) addresses (omega (arith, all)))) in
        ap (λ (l : List ℕ). overlaid l begin (bytes_of_words (take index addresses)))
        (sym (zeros_before (take size strings) 4 (begin + 4 * index) (PGSIZE - size) (omega (arith, there, room, last, most)) (omega (arith, had, most))))
        ∙ overlaid_joined (laid size) (bytes_of_words (take index addresses)) (to_le_bytes w32 0) begin (begin + 4 * index) (omega (arith, long))
        (omega (arith, page, there, room, last))
        ∙ ap (λ (l : List ℕ). overlaid (laid size) begin l) bytes

  pub with_strings_long : length (with_strings words) ≡ PGSIZE
  with_strings_long = so_far_long size (count + 1) (omega arith) (omega arith)

  pub with_argv_long : length (with_argv words) ≡ PGSIZE
  with_argv_long =
      let page = with_strings_long in
      let room = fits.room in
      let all = fits.size in
      overlaid_length (with_strings words) (stack_pointer words + 4 - (USTACKTOP - PGSIZE)) (to_le_bytes w32 (stack_pointer words + 8))
      (omega (arith, page, room, all))
      ∙ page

  -- ---- a program's first page of its stack

  abbrev bottom : ℕ
  bottom = stack_pointer words - (USTACKTOP - PGSIZE)

  abbrev padding : ℕ
  padding = in_words size - size

  abbrev padded : List ℕ
  padded = replicate padding 0 ++ strings

  zeros_long : length {A = ℕ} (replicate padding 0) ≡ padding
  zeros_long = length-replicate padding 0

  padded_long : length padded ≡ in_words size
  padded_long = let long = zeros_long in let all = length-append (replicate padding 0) strings in omega (arith, long, all)

  contents_are : stack_contents words
      ≡ to_le_bytes w32 count ++ (to_le_bytes w32 (stack_pointer words + 8) ++ (bytes_of_words addresses ++ padded))
  unfolding stack_contents bytes_of_words
  contents_are =
      append_assoc (to_le_bytes w32 count) (to_le_bytes w32 (stack_pointer words + 8) ++ bytes_of_words addresses) padded
      ∙ ap (λ (l : List ℕ). to_le_bytes w32 count ++ l) (append_assoc (to_le_bytes w32 (stack_pointer words + 8)) (bytes_of_words addresses) padded)

  all_words_long : length (bytes_of_words addresses) ≡ 4 * (count + 1)
  all_words_long =
      length-bytes_of_words addresses ∙ ap (λ (m : ℕ). 4 * m) (addresses_long (USTACKTOP - size) words)

  rest_long : length (bytes_of_words addresses ++ padded) ≡ 4 * (count + 1) + in_words size
  rest_long = let first = all_words_long in let last = padded_long in let all = length-append (bytes_of_words addresses) padded in omega (arith, first, last, all)

  more_long : length (to_le_bytes w32 (stack_pointer words + 8) ++ (bytes_of_words addresses ++ padded)) ≡ 4 + 4 * (count + 1) + in_words size
  more_long =
      let rest = rest_long in
      let all = length-append (to_le_bytes w32 (stack_pointer words + 8)) (bytes_of_words addresses ++ padded) in omega (arith, rest, all)

  -- the strings, with the zeros in front of them
  strings_laid : overlaid zero_page (PGSIZE - size) strings ≡ overlaid zero_page (PGSIZE - in_words size) padded
  strings_laid =
      let room = fits.room in
      let most = fits.strings in
      let zeros = zeros_long in
      let page = zero_long in
      sym (zeros_before strings padding (PGSIZE - in_words size) (PGSIZE - size) (omega (arith, room, most)) (omega (arith, most)))
      ∙ overlaid_joined zero_page (replicate padding 0) strings (PGSIZE - in_words size) (PGSIZE - size) (omega (arith, zeros, room, most))
      (omega (arith, page, most))

  -- and the addresses in front of these
  words_laid : with_strings words ≡ overlaid zero_page begin (bytes_of_words addresses ++ padded)
  words_laid =
      let there = begin_is in
      let room = fits.room in
      let page = zero_long in
      let first = all_words_long in
      let last = padded_long in
      let all = addresses_long (USTACKTOP - size) words in
      let every : take (count + 1) addresses ≡ addresses = take_all (count + 1) addresses (omega (arith, all)) in
      let each : take size strings ≡ strings = take_all size strings (omega arith) in
      (λ i. overlaid (overlaid zero_page (PGSIZE - size) (each i)) begin (bytes_of_words (every i)))
      ∙ ap (λ (l : List ℕ). overlaid l begin (bytes_of_words addresses)) strings_laid
      ∙ overlaid_joined zero_page (bytes_of_words addresses) padded begin (PGSIZE - in_words size) (omega (arith, there, room, first))
      (omega (arith, page, last, room))

  -- their place, and their number
  argv_laid : with_argv words ≡ overlaid zero_page (bottom + 4) (to_le_bytes w32 (stack_pointer words + 8) ++ (bytes_of_words addresses ++ padded))
  argv_laid =
      let room = fits.room in
      let all = fits.size in
      let page = zero_long in
      let rest = rest_long in
      let place : stack_pointer words + 4 - (USTACKTOP - PGSIZE) ≡ bottom + 4 = omega (arith, room, all) in
      (λ i. overlaid (words_laid i) (place i) (to_le_bytes w32 (stack_pointer words + 8)))
      ∙ overlaid_joined zero_page (to_le_bytes w32 (stack_pointer words + 8)) (bytes_of_words addresses ++ padded) (bottom + 4) begin
      (omega (arith, room, all)) (omega (arith, page, rest, room, all))

  argc_laid : overlaid (with_argv words) bottom (to_le_bytes w32 count) ≡ overlaid zero_page bottom (stack_contents words)
  argc_laid =
      let room = fits.room in
      let all = fits.size in
      let page = zero_long in
      let more = more_long in
      ap (λ (l : List ℕ). overlaid l bottom (to_le_bytes w32 count)) argv_laid
      ∙ overlaid_joined zero_page (to_le_bytes w32 count) (to_le_bytes w32 (stack_pointer words + 8) ++ (bytes_of_words addresses ++ padded)) bottom
      (bottom + 4) (omega arith) (omega (arith, page, more, room, all))
      ∙ ap (λ (l : List ℕ). overlaid zero_page bottom l) (sym contents_are)

  -- ---- as the image's page of the stack

  contents_long : length (stack_contents words) ≡ stack_size words
  contents_long =
      let more = more_long in
      let all = fits.size in
      let whole = length-append (to_le_bytes w32 count) (to_le_bytes w32 (stack_pointer words + 8) ++ (bytes_of_words addresses ++ padded)) in
      ap (λ (l : List ℕ). length l) contents_are ∙ omega (arith, more, all, whole)

  abbrev segment : Segment
  segment = stack_segment words

  page_laid : page_bytes (stack_segment words ∷ []) (stack_contents words) stack_page ≡ overlaid zero_page bottom (stack_contents words)
  unfolding laid_all
  page_laid =
      let room = fits.room in
      let all = fits.size in
      let long = contents_long in
      let from : max (stack_pointer words) (stack_page * PGSIZE) ≡ stack_pointer words = max-eq_left (omega (arith, room, all)) in
      let to : min (stack_pointer words + stack_size words) ((stack_page + 1) * PGSIZE) ≡ stack_pointer words + stack_size words =
      min-eq_left (omega (arith, room, all)) in
      let some : nat_lt (stack_pointer words) (stack_pointer words + stack_size words) ≡ true = grind (arith, nat_tests, all) in
      let many : stack_pointer words + stack_size words - stack_pointer words ≡ stack_size words = omega arith in
      let none : 0 + (stack_pointer words - stack_pointer words) ≡ 0 = omega arith in
      (λ i. laid_between segment (stack_contents words) zero_page (stack_page * PGSIZE) (from i) (to i))
      ∙ ap (λ (c : Bool). if c
      then overlaid zero_page (stack_pointer words - stack_page * PGSIZE)
      (file_part segment (stack_contents words) (stack_pointer words) (stack_pointer words + stack_size words))
      else zero_page) some
      ∙ (λ i. overlaid zero_page (stack_pointer words - stack_page * PGSIZE) (take (many i) (drop (none i) (stack_contents words))))
      ∙ ap (λ (l : List ℕ). overlaid zero_page bottom l) (take_all (stack_size words) (stack_contents words) (omega (arith, long)))

  pub stack_made : overlaid (with_argv words) bottom (to_le_bytes w32 count) ≡ page_bytes (stack_segment words ∷ []) (stack_contents words) stack_page
  stack_made = argc_laid ∙ sym page_laid
