-- What the pages of spawn's child have as more bytes of a segment are put: those bytes at their place in one page, and all else as it was.
use Rattle.std.proofs.Common.{◌≡◌, ◌≢◌, ◌∙◌, ◌+◌, ◌-◌, ◌*◌, ◌/◌, ◌%◌, ◌<◌, ◌≤◌, ◌==◌, ◌&&◌, ◌||◌, ◌++◌, ℕ, zero, suc, Bool, true, false, not, List, [], ◌∷◌}
use Rattle.std.proofs.Common.{Option, Some, None, length, refl, sym, ap, subst, arith, if◌then◌else◌}
use Rattle.std.specs.Prelude.{drop, max, min, nat_le, nat_lt, take}
use Rattle.std.proofs.lemmas.Bool.{eqb-false, eqb-true, ltb-false, ltb-true}
use Rattle.std.proofs.lemmas.Bool.Decides.{nat_tests}
use Rattle.std.proofs.lemmas.List.{append_assoc, drop-drop, ext_get_or, length-drop, length-take, length-take-le, places, same_lists, take-append-drop}
use Rattle.std.proofs.Math.Nat.{max-eq_left, max-eq_right, min-eq_left, min-eq_right, min-le_left, min-le_right}
use Rattle.jos_base.specs.declared.numbers.TheConstants.{PGSIZE}
use Rattle.jos_base.specs.Below.{some_below}
use Rattle.jos_base.specs.SpacesState.{overlaid, zero_page}
use Rattle.jos_elf.specs.declared.header.ProgramHeader.{ProgramHeader}
use Rattle.jos_elf.specs.declared.image.Segment.{Segment}
use Rattle.jos_elf.specs.Pages.{any_writes, file_part, laid, laid_all, laid_between, page_bytes, stack_page}
use Rattle.jos_elf.specs.Parsed.{segment_of, segments_of}
use Rattle.jos_elf.specs.Tests.{is_loaded}
use Rattle.lib_os.specs.AbstractSpawn.{headers_in, packed, under_shared}
use Rattle.lib_os.specs.AbstractState.{Born, ImageRead, Page, own}
use Rattle.lib_os.specs.SpawnedChild.{child_page, filling, header_touches, headers_filled, is_placed_page, is_settled_page, no_page_passed, segments_filled}
use Rattle.lib_os.proofs.BytesPut.{bytes_put, put_length}
use Rattle.lib_os.proofs.PageBytes.{zero_page_whole}
use Rattle.lib_os.proofs.PagesPut.{overlaid_length, put_overlaid}
use Rattle.lib_child.proofs.PagesPlaced.{NoneFilled, all_none, none_append}
use Rattle.lib_child.proofs.PiecesLeft.{count_of}

-- ---- bytes behind others

pub put_is_overlaid : (page : List ℕ) (at : ℕ) (bytes : List ℕ) → at + length bytes ≤ length page → bytes_put page at bytes ≡ overlaid page at bytes
put_is_overlaid page at bytes fits =
    ext_get_or 0 (bytes_put page at bytes) (overlaid page at bytes) (put_length page at bytes ∙ sym (overlaid_length page at bytes fits))
    (λ i lt. put_overlaid page at bytes fits i)

module _ (page first second : List ℕ) (at next : ℕ) (joined : next ≡ at + length first) (fits : next + length second ≤ length page) where
  overlaid_more : overlaid (overlaid page at first) next second ≡ overlaid page at (first ++ second)
  overlaid_more = same_lists _ _ (grind (arith, places, joined, fits)) (λ k d lt. grind (arith, places, joined, fits, lt))

taken_more : (list : List ℕ) (k m : ℕ) → take k list ++ take m (drop k list) ≡ take (k + m) list
taken_more list k m = same_lists _ _ (grind (arith, places)) (λ i d lt. grind (arith, places, lt))

-- more of a list behind some of it
overlaid_next : (page list : List ℕ) (at k m : ℕ) → k + m ≤ length list → at + (k + m) ≤ length page →
    overlaid (overlaid page at (take k list)) (at + k) (take m (drop k list)) ≡ overlaid page at (take (k + m) list)
overlaid_next page list at k m many fits =
    let first : length (take k list) ≡ k = length-take-le k list (omega (arith, many)) in
    let rest = length-drop k list in
    let second : length (take m (drop k list)) ≡ m = length-take-le m (drop k list) (omega (arith, rest, many)) in
    overlaid_more page (take k list) (take m (drop k list)) at (at + k) (omega (arith, first)) (omega (arith, second, fits))
    ∙ ap (overlaid page at) (taken_more list k m)

overlaid_none : (page list : List ℕ) (at : ℕ) → overlaid page at (take 0 list) ≡ page
overlaid_none page list at =
    let none : at + 0 ≡ at = omega arith in ap (λ (m : ℕ). take at page ++ drop m page) none ∙ take-append-drop at page

-- ---- a segment's bytes in a page

abbrev pub upto : Segment → ℕ → Segment
upto segment len = record segment { file_len = len }

-- a page keeps its length
laid_long : (segment : Segment) (file : List ℕ) (p : ℕ) (page : List ℕ) → length page ≡ PGSIZE → length (laid segment file p page) ≡ PGSIZE
laid_long segment file p page long = by_test (nat_lt from to) refl
  where
    from : ℕ
    from = max segment.va (p * PGSIZE)

    to : ℕ
    to = min (segment.va + segment.file_len) ((p + 1) * PGSIZE)

    most : to ≤ (p + 1) * PGSIZE
    most = min-le_right (segment.va + segment.file_len) ((p + 1) * PGSIZE)

    by_test : (c : Bool) → nat_lt from to ≡ c →
        length (if c then overlaid page (from - p * PGSIZE) (file_part segment file from to) else page) ≡ PGSIZE
    by_test true test =
        let less : from < to = ltb-true from to test in
        let few = length-take (to - from) (drop (segment.file_at + (from - segment.va)) file) in
        let cut = min-le_left (to - from) (length (drop (segment.file_at + (from - segment.va)) file)) in
        let end = most in
        overlaid_length page (from - p * PGSIZE) (file_part segment file from to) (omega (arith, less, few, cut, end, long)) ∙ long
    by_test false test = long

all_long : (segments : List Segment) (file : List ℕ) (p : ℕ) (page : List ℕ) → length page ≡ PGSIZE → length (laid_all segments file p page) ≡ PGSIZE
unfolding laid_all
all_long [] file p page long = long
all_long (segment ∷ rest) file p page long = all_long rest file p (laid segment file p page) (laid_long segment file p page long)

module _ (segment : Segment) (file : List ℕ) (p done m : ℕ) (page : List ℕ) (long : length page ≡ PGSIZE) where
  abbrev begin : ℕ
  begin = p * PGSIZE

  abbrev start : ℕ
  start = max segment.va begin

  -- where more of them lie in this page
  module _ (from : p * PGSIZE ≤ segment.va + done) (to : segment.va + (done + m) ≤ (p + 1) * PGSIZE) (some : 0 < m)
      (has : segment.file_at + (done + m) ≤ length file) where
    abbrev list : List ℕ
    list = drop (segment.file_at + (start - segment.va)) file

    abbrev at : ℕ
    at = start - begin

    abbrev k : ℕ
    k = segment.va + done - start

    bounds : (segment.va ≤ start) × (begin ≤ start) × (start ≤ segment.va + done)
    bounds = by_order (nat_lt begin segment.va) refl
      where
        by_order : (c : Bool) → nat_lt begin segment.va ≡ c → (segment.va ≤ start) × (begin ≤ start) × (start ≤ segment.va + done)
        by_order true test =
            let less = ltb-true begin segment.va test in
            let is : start ≡ segment.va = max-eq_left (omega (arith, less)) in
            (omega (arith, is), omega (arith, is, less), omega (arith, is))
        by_order false test =
            let more = ltb-false begin segment.va test in
            let is : start ≡ begin = max-eq_right more in
            (omega (arith, is, more), omega (arith, is), omega (arith, is, from))

    few_is : min (segment.va + done) ((p + 1) * PGSIZE) ≡ segment.va + done
    few_is = min-eq_left (omega (arith, to))

    many_is : min (segment.va + (done + m)) ((p + 1) * PGSIZE) ≡ segment.va + (done + m)
    many_is = min-eq_left to

    laid_few : laid (upto segment done) file p page ≡ overlaid page at (take k list)
    laid_few = ap (λ (end : ℕ). laid_between (upto segment done) file page begin start end) few_is ∙ by_test (nat_lt start (segment.va + done)) refl
      where
        by_test : (c : Bool) → nat_lt start (segment.va + done) ≡ c →
            (if c then overlaid page at (take k list) else page) ≡ overlaid page at (take k list)
        by_test true test = refl
        by_test false test =
            let past = ltb-false start (segment.va + done) test in
            let none : k ≡ 0 = omega (arith, past) in
            sym (ap (λ (count : ℕ). overlaid page at (take count list)) none ∙ overlaid_none page list at)

    laid_many : laid (upto segment (done + m)) file p page ≡ overlaid page at (take (k + m) list)
    laid_many =
        let low = bounds.2 in
        let less : start < segment.va + (done + m) = omega (arith, low, some) in
        let test : nat_lt start (segment.va + (done + m)) ≡ true = grind (arith, nat_tests, less) in
        let count : segment.va + (done + m) - start ≡ k + m = omega (arith, low) in
        ap (λ (end : ℕ). laid_between (upto segment (done + m)) file page begin start end) many_is
        ∙ ap (λ (c : Bool). if c then overlaid page at (take (segment.va + (done + m) - start) list) else page) test
        ∙ ap (λ (n : ℕ). overlaid page at (take n list)) count

    -- they lie behind those that did
    pub laid_put : laid (upto segment (done + m)) file p page
        ≡ overlaid (laid (upto segment done) file p page) (segment.va + done - p * PGSIZE) (take m (drop (segment.file_at + done) file))
    laid_put =
        let first = bounds.0 in
        let second = bounds.1 in
        let low = bounds.2 in
        let rest = length-drop (segment.file_at + (start - segment.va)) file in
        let place : at + k ≡ segment.va + done - begin = omega (arith, first, second, low) in
        let skipped : segment.file_at + (start - segment.va) + k ≡ segment.file_at + done = omega (arith, first, low) in
        laid_many
        ∙ sym (overlaid_next page list at k m (omega (arith, rest, first, low, has)) (omega (arith, second, low, to, long)))
        ∙ ap (λ (l : List ℕ). overlaid l (at + k) (take m (drop k list))) (sym laid_few)
        ∙ (λ i. overlaid (laid (upto segment done) file p page) (place i) (take m ((drop-drop k (segment.file_at + (start - segment.va)) file
        ∙ ap (λ (n : ℕ). drop n file) skipped) i)))

  -- or none lies here
  pub laid_before : (p + 1) * PGSIZE ≤ segment.va + done → laid (upto segment (done + m)) file p page ≡ laid (upto segment done) file p page
  laid_before behind =
      let one : min (segment.va + (done + m)) ((p + 1) * PGSIZE) ≡ (p + 1) * PGSIZE = min-eq_right (omega (arith, behind)) in
      let other : min (segment.va + done) ((p + 1) * PGSIZE) ≡ (p + 1) * PGSIZE = min-eq_right behind in
      ap (λ (end : ℕ). laid_between (upto segment (done + m)) file page begin start end) one
      ∙ sym (ap (λ (end : ℕ). laid_between (upto segment done) file page begin start end) other)

  pub laid_past : segment.va + (done + m) ≤ p * PGSIZE → laid (upto segment (done + m)) file p page ≡ laid (upto segment done) file p page
  laid_past front = nothing (done + m) front ∙ sym (nothing done (omega (arith, front)))
    where
      nothing : (len : ℕ) → segment.va + len ≤ p * PGSIZE → laid (upto segment len) file p page ≡ page
      nothing len before =
          let end : min (segment.va + len) ((p + 1) * PGSIZE) ≡ segment.va + len = min-eq_left (omega (arith, before)) in
          let start_is : start ≡ begin = max-eq_right (omega (arith, before)) in
          let past : nat_lt start (segment.va + len) ≡ false = (λ i. nat_lt (start_is i) (segment.va + len)) ∙ grind (arith, nat_tests, before) in
          ap (λ (to : ℕ). laid_between (upto segment len) file page begin start to) end
          ∙ ap (λ (c : Bool). if c then overlaid page (start - begin) (file_part (upto segment len) file start (segment.va + len)) else page) past

-- ---- the segment among all

-- the segments of the program headers, with that of one of them, and behind it none that has bytes
record Split (f : ℕ → ProgramHeader) (header n : ℕ) : Type 0 where
  after : List Segment
  is : segments_of f n ≡ segments_of f header ++ (segment_of (f header) ∷ after)
  none : NoneFilled after

split : (f : ℕ → ProgramHeader) (header n : ℕ) → header < n → is_loaded (f header) ≡ true → ((m : ℕ) → header < m → (f m).file_len ≡ 0) → Split f header n
unfolding segments_of
split f header zero below loaded none = absurd (omega (arith, below))
split f header (suc n) below loaded none = by_last (n == header) refl (λ more. split f header n more loaded none)
  where
    by_loaded : header < n → (c : Bool) → NoneFilled (if c then segment_of (f n) ∷ [] else [])
    by_loaded more true = (none n more, tt)
    by_loaded more false = tt

    last : List Segment
    last = if is_loaded (f n) then segment_of (f n) ∷ [] else []

    by_last : (c : Bool) → (n == header) ≡ c → (header < n → Split f header n) → Split f header (suc n)
    by_last true test before =
        let same : header ≡ n = sym (eqb-true n header test) in
        record {
          after = [];
          is = subst (λ (q : ℕ). segments_of f n ++ (if is_loaded (f n) then segment_of (f n) ∷ [] else [])
              ≡ segments_of f q ++ (segment_of (f q) ∷ [])) (sym same)
              (ap (λ (c : Bool). segments_of f n ++ (if c then segment_of (f n) ∷ [] else [])) (ap (λ (q : ℕ). is_loaded (f q)) (sym same) ∙ loaded));
          none = tt;
        }
    by_last false test before =
        let more : header < n = (let ne = eqb-false n header test in omega (arith, below, ne)) in
        let it = before more in
        record {
          after = it.after ++ last;
          is = ap (λ (l : List Segment). l ++ last) it.is ∙ append_assoc (segments_of f header) (segment_of (f header) ∷ it.after) last;
          none = none_append it.after last it.none (by_loaded more (is_loaded (f n)));
        }

all_append : (first second : List Segment) (file : List ℕ) (p : ℕ) (page : List ℕ) →
    laid_all (first ++ second) file p page ≡ laid_all second file p (laid_all first file p page)
unfolding laid_all
all_append [] second file p page = refl
all_append (segment ∷ rest) second file p page = all_append rest second file p (laid segment file p page)

one_laid : (segment : Segment) (after : List Segment) (file : List ℕ) (p : ℕ) (page : List ℕ) → NoneFilled after →
    laid_all (segment ∷ after) file p page ≡ laid segment file p page
unfolding laid_all
one_laid segment after file p page none = all_none after file p (laid segment file p page) none

same_below : (f g : ℕ → ProgramHeader) (n : ℕ) → ((m : ℕ) → m < n → f m ≡ g m) → segments_of f n ≡ segments_of g n
unfolding segments_of
same_below f g zero same = refl
same_below f g (suc n) same =
    λ i. same_below f g n (λ m lt. same m (omega (arith, lt))) i
    ++ (if is_loaded (same n (omega arith) i) then segment_of (same n (omega arith) i) ∷ [] else [])

-- ---- what the child has

module _ (image : ImageRead) (headers header : ℕ) (below : header < count_of image) (loaded : is_loaded (packed (headers_in image.table) header) ≡ true) where
  abbrev one : ℕ → ProgramHeader
  one = packed (headers_in image.table)

  abbrev pub its_segment : Segment
  its_segment = segment_of (packed (headers_in image.table) header)

  abbrev filled : ℕ → ℕ → ProgramHeader
  filled done = headers_filled image (filling headers header done)

  here_is : (done : ℕ) → filled done header ≡ record (one header) { file_len = done }
  here_is done =
      let front : nat_lt header header ≡ false = grind (arith, nat_tests) in
      let itself : (header == header) ≡ true = grind (arith, nat_tests) in
      (λ i. if front i then one header else record (one header) { file_len = if itself i then done else 0 })

  front_is : (done m : ℕ) → m < header → filled done m ≡ one m
  front_is done m lt =
      let front : nat_lt m header ≡ true = grind (arith, nat_tests, lt) in
      ap (λ (c : Bool). if c then one m else record (one m) { file_len = if m == header then done else 0 }) front

  rest_is : (done m : ℕ) → header < m → (filled done m).file_len ≡ 0
  rest_is done m lt =
      let front : nat_lt m header ≡ false = grind (arith, nat_tests, lt) in
      let other : (m == header) ≡ false = grind (arith, nat_tests, lt) in
      (λ i. (if front i then one m else record (one m) { file_len = if other i then done else 0 }).file_len)

  loaded_there : (done : ℕ) → is_loaded (filled done header) ≡ true
  unfolding is_loaded
  loaded_there done = ap (λ (h : ProgramHeader). is_loaded h) (here_is done) ∙ loaded

  abbrev pub front_page : List ℕ → ℕ → List ℕ
  front_page file p = laid_all (segments_of (packed (headers_in image.table)) header) file p zero_page

  front_long : (file : List ℕ) (p : ℕ) → length (front_page file p) ≡ PGSIZE
  front_long file p = all_long (segments_of one header) file p zero_page zero_page_whole.long

  filled_is : (done : ℕ) (file : List ℕ) (p : ℕ) →
      page_bytes (segments_filled image (filling headers header done)) file p ≡ laid (upto its_segment done) file p (front_page file p)
  filled_is done file p =
      let it = split (filled done) header (count_of image) below (loaded_there done) (rest_is done) in
      ap (λ (l : List Segment). laid_all l file p zero_page) it.is
      ∙ all_append (segments_of (filled done) header) (segment_of (filled done header) ∷ it.after) file p zero_page
      ∙ one_laid (segment_of (filled done header)) it.after file p (laid_all (segments_of (filled done) header) file p zero_page) it.none
      ∙ (λ i. laid (segment_of (here_is done i)) file p (laid_all (same_below (filled done) one header (front_is done) i) file p zero_page))

  -- more of the bytes, in the page in which they lie
  module _ (file : List ℕ) (p done m : ℕ) (some : 0 < m) (from : p * PGSIZE ≤ its_segment.va + done)
      (to : its_segment.va + (done + m) ≤ (p + 1) * PGSIZE) (has : its_segment.file_at + (done + m) ≤ length file) where
    pub filled_more : page_bytes (segments_filled image (filling headers header (done + m))) file p
        ≡ bytes_put (page_bytes (segments_filled image (filling headers header done)) file p) (its_segment.va + done - p * PGSIZE)
        (take m (drop (its_segment.file_at + done) file))
    filled_more =
        let long = laid_long (upto its_segment done) file p (front_page file p) (front_long file p) in
        let rest = length-drop (its_segment.file_at + done) file in
        let many : length (take m (drop (its_segment.file_at + done) file)) ≡ m =
        length-take-le m (drop (its_segment.file_at + done) file) (omega (arith, rest, has)) in
        filled_is (done + m) file p
        ∙ laid_put its_segment file p done m (front_page file p) (front_long file p) from to some has
        ∙ sym (put_is_overlaid (laid (upto its_segment done) file p (front_page file p)) (its_segment.va + done - p * PGSIZE)
        (take m (drop (its_segment.file_at + done) file)) (omega (arith, long, many, from, to)))
        ∙ ap (λ (l : List ℕ). bytes_put l (its_segment.va + done - p * PGSIZE) (take m (drop (its_segment.file_at + done) file)))
        (sym (filled_is done file p))

    -- and no other page
    pub filled_beside : (q : ℕ) → q ≢ p → page_bytes (segments_filled image (filling headers header done)) file q
        ≡ page_bytes (segments_filled image (filling headers header (done + m))) file q
    filled_beside q ne =
        filled_is done file q ∙ sym (by_order (nat_lt q p) refl) ∙ sym (filled_is (done + m) file q)
      where
        by_order : (c : Bool) → nat_lt q p ≡ c →
            laid (upto its_segment (done + m)) file q (front_page file q) ≡ laid (upto its_segment done) file q (front_page file q)
        by_order true test =
            let less = ltb-true q p test in
            laid_before its_segment file q done m (front_page file q) (front_long file q) (omega (arith, less, from))
        by_order false test =
            let most = ltb-false q p test in
            laid_past its_segment file q done m (front_page file q) (front_long file q) (omega (arith, most, ne, to))

-- ---- its pages, by their bytes

abbrev page_by : Born → ImageRead → ℕ → ℕ → List ℕ → Option Page
page_by b image headers p bytes =
    let page : Option Page = (if p == stack_page then None else (if is_placed_page image (filling headers 0 0) p then Some (own bytes true) else None)) in
    if nat_le no_page_passed p then under_shared (b.memory p) page else page

filled_by : (b : Born) (image : ImageRead) (file : List ℕ) (headers header done p : ℕ) →
    child_page b image (filling headers header done) file p
    ≡ page_by b image headers p (page_bytes (segments_filled image (filling headers header done)) file p)
unfolding some_below
filled_by b image file headers header done p =
    ap (λ (writes : Bool). let page : Option Page = (if p == stack_page then None else (if is_placed_page image (filling headers 0 0) p
    then Some (own bytes writes) else None)) in if nat_le no_page_passed p then under_shared (b.memory p) page else page) writable
  where
    bytes : List ℕ
    bytes = page_bytes (segments_filled image (filling headers header done)) file p

    or_true : (c : Bool) → (c || true) ≡ true
    or_true true = refl
    or_true false = refl

    and_none : (c : Bool) → (c && false) ≡ false
    and_none true = refl
    and_none false = refl

    unsettled : is_settled_page image (filling headers header done) p ≡ false
    unsettled =
        let none : nat_lt p 0 ≡ false = grind (arith, nat_tests) in
        ap (λ (c : Bool). header_touches image p 0 && c) none ∙ and_none (header_touches image p 0)

    writable : (any_writes p (segments_filled image (filling headers header done)) || not (is_settled_page image (filling headers header done) p)) ≡ true
    writable =
        ap (λ (c : Bool). any_writes p (segments_filled image (filling headers header done)) || not c) unsettled
        ∙ or_true (any_writes p (segments_filled image (filling headers header done)))

pub page_alike : (b : Born) (image : ImageRead) (file : List ℕ) (headers header done other p : ℕ) →
    page_bytes (segments_filled image (filling headers header done)) file p ≡ page_bytes (segments_filled image (filling headers header other)) file p →
    child_page b image (filling headers header done) file p ≡ child_page b image (filling headers header other) file p
page_alike b image file headers header done other p same =
    filled_by b image file headers header done p ∙ ap (page_by b image headers p) same ∙ sym (filled_by b image file headers header other p)
