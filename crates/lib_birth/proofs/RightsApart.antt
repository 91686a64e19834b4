-- The segments of an image lie apart, so that another one has a part of the first page of one, and of the last, at most; and which pages are left of it where
-- one more of those that may be written is looked at.
use Rattle.std.proofs.Common.{◌≡◌, ◌≢◌, ◌∙◌, ◌⊎◌, inl, inr, ◌+◌, ◌-◌, ◌*◌, ◌/◌, ◌%◌, ◌^◌, ◌<◌, ◌≤◌, ◌==◌, ◌&&◌, ℕ, zero, suc, Bool, true, false, not}
use Rattle.std.proofs.Common.{[], ◌∷◌, None, refl, sym, ap, subst, arith, if◌then◌else◌}
use Rattle.std.specs.Prelude.{nat_le, nat_lt}
use Rattle.std.proofs.lemmas.Bool.{and_parts}
use Rattle.std.proofs.lemmas.Bool.Decides.{nat_tests}
use Rattle.jos_base.specs.declared.numbers.TheConstants.{FDTABLE, PGSIZE}
use Rattle.jos_base.specs.Words.{page_number}
use Rattle.jos_elf.specs.declared.fault.ElfFault.TheVariants.{Overlap, SegmentRange, Truncated}
use Rattle.jos_elf.specs.declared.header.ProgramHeader.{ProgramHeader}
use Rattle.jos_elf.specs.declared.image.Segment.{Segment}
use Rattle.jos_elf.specs.Pages.{touches}
use Rattle.jos_elf.specs.Parsed.{Apart, segment_of}
use Rattle.jos_elf.specs.Tests.{first_failed, is_loaded, is_placed, leaves_free, overlap_tests, segment_tests, table_tests}
use Rattle.jos_elf.proofs.Facts.{free}
use Rattle.jos_elf.proofs.Tests.{append-passed, cons-passed}
use Rattle.lib_os.specs.AbstractSpawn.{headers_in}
use Rattle.lib_os.specs.AbstractState.{ImageRead}
use Rattle.lib_os.specs.LibraryPages.{View}
use Rattle.lib_os.specs.StandsAtSpawn.{HasImage}
use Rattle.lib_child.specs.ChildSegments.{last_page}
use Rattle.lib_birth.specs.FinishingStages.{touches as has_part}

-- ---- they lie apart

-- of those in front of one
earlier_apart : (headers : ℕ → ProgramHeader) (place n : ℕ) → first_failed (overlap_tests headers place n) ≡ None → (m : ℕ) → m < n →
    is_loaded (headers m) ≡ true → Apart (segment_of (headers m)) (segment_of (headers place))
unfolding overlap_tests
earlier_apart headers place zero passed m below loaded = absurd (omega (arith, below))
earlier_apart headers place (suc n) passed m below loaded =
    let parts = append-passed (overlap_tests headers place n) ((leaves_free (headers n) (headers place), Overlap place n) ∷ []) passed in
    by_last (m == n) refl (cons-passed (leaves_free (headers n) (headers place)) (Overlap place n) [] parts.1).0
    (λ less. earlier_apart headers place n parts.0 m less loaded)
  where
    by_last : (c : Bool) → (m == n) ≡ c → leaves_free (headers n) (headers place) ≡ true →
        (m < n → Apart (segment_of (headers m)) (segment_of (headers place))) → Apart (segment_of (headers m)) (segment_of (headers place))
    by_last true test last before =
        let here : n ≡ m = grind (arith, nat_tests, test) in
        free (headers m) (headers place) (ap (λ (q : ℕ). leaves_free (headers q) (headers place)) (sym here) ∙ last) loaded
    by_last false test last before = before (let other : m ≢ n = grind (arith, nat_tests, test) in omega (arith, below, other))

segment_apart : (total : ℕ) (headers : ℕ → ProgramHeader) (n : ℕ) → first_failed (segment_tests total headers n) ≡ None →
    first_failed (overlap_tests headers n n) ≡ None
unfolding segment_tests
segment_apart total headers n passed =
    let one = cons-passed (nat_le ((headers n).file_at + (headers n).file_len) total) (Truncated total)
    ((is_placed (headers n), SegmentRange n) ∷ overlap_tests headers n n) passed in
    (cons-passed (is_placed (headers n)) (SegmentRange n) (overlap_tests headers n n) one.1).1

later_apart : (total : ℕ) (headers : ℕ → ProgramHeader) (n : ℕ) → first_failed (table_tests total headers n) ≡ None → (m q : ℕ) → m < q → q < n →
    is_loaded (headers m) ≡ true → is_loaded (headers q) ≡ true → Apart (segment_of (headers m)) (segment_of (headers q))
unfolding table_tests
later_apart total headers zero passed m q less below first second = absurd (omega (arith, below))
later_apart total headers (suc n) passed m q less below first second =
    let parts = append-passed (table_tests total headers n) (if is_loaded (headers n) then segment_tests total headers n else []) passed in
    by_last (q == n) refl parts.1 (λ lower. later_apart total headers n parts.0 m q less lower first second)
  where
    by_last : (c : Bool) → (q == n) ≡ c → first_failed (if is_loaded (headers n) then segment_tests total headers n else []) ≡ None →
        (q < n → Apart (segment_of (headers m)) (segment_of (headers q))) → Apart (segment_of (headers m)) (segment_of (headers q))
    by_last true test last before =
        let here : n ≡ q = grind (arith, nat_tests, test) in
        let loaded_here : is_loaded (headers n) ≡ true = ap (λ (o : ℕ). is_loaded (headers o)) here ∙ second in
        subst (λ (o : ℕ). Apart (segment_of (headers m)) (segment_of (headers o))) here
        (earlier_apart headers n n
        (segment_apart total headers n (ap (λ (c : Bool). first_failed (if c then segment_tests total headers n else [])) (sym loaded_here) ∙ last)) m
        (omega (arith, less, here)) first)
    by_last false test last before = before (let other : q ≢ n = grind (arith, nat_tests, test) in omega (arith, below, other))

turned : (a b : Segment) → Apart a b → Apart b a
turned a b (inl before) = inr before
turned a b (inr behind) = inl behind

-- two segments of an image whose tests pass
pub image_apart : {v : View} {image : ImageRead} {headers : ℕ} (whole : HasImage v image headers) (header other : ℕ) → header < headers → other < headers →
    header ≢ other → is_loaded (headers_in image.table header) ≡ true → is_loaded (headers_in image.table other) ≡ true →
    Apart (segment_of (headers_in image.table header)) (segment_of (headers_in image.table other))
image_apart {image = image} {headers = headers} whole header other below lower ne loaded other_loaded = by_order (nat_lt header other) refl
  where
    by_order : (c : Bool) → nat_lt header other ≡ c → Apart (segment_of (headers_in image.table header)) (segment_of (headers_in image.table other))
    by_order true test =
        let less : header < other = grind (arith, nat_tests, test) in
        later_apart whole.size (headers_in image.table) headers whole.passed header other less lower loaded other_loaded
    by_order false test =
        let most : other ≤ header = grind (arith, nat_tests, test) in
        turned (segment_of (headers_in image.table other)) (segment_of (headers_in image.table header))
        (later_apart whole.size (headers_in image.table) headers whole.passed other header (omega (arith, most, ne)) below other_loaded loaded)

-- ---- the pages of a segment

same_tests : (c d : Bool) → (c ≡ true → d ≡ true) → (d ≡ true → c ≡ true) → c ≡ d
same_tests true d first second = sym (first refl)
same_tests false true first second = second refl
same_tests false false first second = refl

-- the number of its last page, where addresses do not wrap
pub last_is : (va memory : ℕ) → 0 < memory → va + memory ≤ FDTABLE → last_page va memory ≡ (va + memory - 1) / PGSIZE
last_is va memory some low =
    let same : (va + (memory - 1)) % 2 ^ 32 ≡ va + memory - 1 = omega (arith, some, low) in ap page_number same

-- it has a part of those from its first up to its last
pub pages_are : (segment : Segment) (p : ℕ) → 0 < segment.mem_len → segment.va + segment.mem_len ≤ FDTABLE →
    touches p segment ≡ has_part p segment.va segment.mem_len
pages_are segment p some low =
    (λ i. begins i && ends i) ∙ ap (λ (q : ℕ). nat_le (page_number segment.va) p && nat_le p q) (sym (last_is segment.va segment.mem_len some low))
  where
    begins : nat_lt segment.va ((p + 1) * PGSIZE) ≡ nat_le (segment.va / PGSIZE) p
    begins =
        same_tests (nat_lt segment.va ((p + 1) * PGSIZE)) (nat_le (segment.va / PGSIZE) p)
        (λ is. let less : segment.va < (p + 1) * PGSIZE = grind (arith, nat_tests, is) in
        let most : segment.va / PGSIZE ≤ p = omega (arith, less) in grind (arith, nat_tests, most))
        (λ is. let most : segment.va / PGSIZE ≤ p = grind (arith, nat_tests, is) in
        let less : segment.va < (p + 1) * PGSIZE = omega (arith, most) in grind (arith, nat_tests, less))

    ends : nat_lt (p * PGSIZE) (segment.va + segment.mem_len) ≡ nat_le p ((segment.va + segment.mem_len - 1) / PGSIZE)
    ends =
        same_tests (nat_lt (p * PGSIZE) (segment.va + segment.mem_len)) (nat_le p ((segment.va + segment.mem_len - 1) / PGSIZE))
        (λ is. let less : p * PGSIZE < segment.va + segment.mem_len = grind (arith, nat_tests, is) in
        let most : p ≤ (segment.va + segment.mem_len - 1) / PGSIZE = omega (arith, less) in grind (arith, nat_tests, most))
        (λ is. let most : p ≤ (segment.va + segment.mem_len - 1) / PGSIZE = grind (arith, nat_tests, is) in
        let less : p * PGSIZE < segment.va + segment.mem_len = omega (arith, most, some) in grind (arith, nat_tests, less))

-- ---- which are left

abbrev pub between : ℕ → ℕ → ℕ → Bool
between page end p = nat_le page p && nat_lt p end

-- The pages from the first to the last of one, and those of another that lies in front of it, or behind; from one to another some of the former are left.
module _ (first last other_first other_last page end : ℕ) (apart : (last ≤ other_first) ⊎ (other_last ≤ first))
    (inside : (q : ℕ) → between page end q ≡ true → (first ≤ q) × (q ≤ last)) where
  abbrev has : ℕ → Bool
  has q = nat_le other_first q && nat_le q other_last

  abbrev left_from : Bool → ℕ
  left_from begins = if begins then page + 1 else page

  abbrev left_to : Bool → ℕ
  left_to ends = if ends then end - 1 else end

  has_so : (q : ℕ) → has q ≡ true → (other_first ≤ q) × (q ≤ other_last)
  has_so q is =
      let parts = and_parts (nat_le other_first q) (nat_le q other_last) is in
      let low = parts.0 in
      let high = parts.1 in
      (grind (arith, nat_tests, low), grind (arith, nat_tests, high))

  between_is : (q : ℕ) → page ≤ q → q < end → between page end q ≡ true
  between_is q from to =
      let low : nat_le page q ≡ true = grind (arith, nat_tests, from) in
      let high : nat_lt q end ≡ true = grind (arith, nat_tests, to) in
      (λ i. low i && high i)

  between_so : (q : ℕ) → between page end q ≡ true → (page ≤ q) × (q < end)
  between_so q is =
      let parts = and_parts (nat_le page q) (nat_lt q end) is in
      let low = parts.0 in
      let high = parts.1 in
      (grind (arith, nat_tests, low), grind (arith, nat_tests, high))

  and_off : (c d : Bool) → (c ≡ true → d ≡ true → ⊥) → (c && d) ≡ false
  and_off true true none = absurd (none refl refl)
  and_off true false none = refl
  and_off false d none = refl

  -- one that is left is one from the page to the end, so that none is where none was
  left_so : (q : ℕ) (begins ends : Bool) → nat_le (left_from begins) q ≡ true → nat_lt q (left_to ends) ≡ true → (page ≤ q) × (q < end)
  left_so q true true low high = (grind (arith, nat_tests, low), grind (arith, nat_tests, high))
  left_so q true false low high = (grind (arith, nat_tests, low), grind (arith, nat_tests, high))
  left_so q false true low high = (grind (arith, nat_tests, low), grind (arith, nat_tests, high))
  left_so q false false low high = (grind (arith, nat_tests, low), grind (arith, nat_tests, high))

  -- the other has none of those that are left
  none_of_other : (q : ℕ) → between page end q ≡ true → has q ≡ true → between (left_from (has page)) (left_to (has (end - 1))) q ≡ false
  none_of_other q among part = by_apart apart
    where
      ends_here : Type 0
      ends_here = between (left_from (has page)) (left_to (has (end - 1))) q ≡ false

      at_page : q ≡ page → ends_here
      at_page same =
          let begins : has page ≡ true = ap has (sym same) ∙ part in
          let past : nat_le (page + 1) q ≡ false = grind (arith, nat_tests, same) in
          ap (λ (c : Bool). between (left_from c) (left_to (has (end - 1))) q) begins ∙ ap (λ (c : Bool). c && nat_lt q (left_to (has (end - 1)))) past

      at_end : q ≡ end - 1 → ends_here
      at_end same =
          let ends : has (end - 1) ≡ true = ap has (sym same) ∙ part in
          let past : nat_lt q (end - 1) ≡ false = grind (arith, nat_tests, same) in
          ap (λ (c : Bool). between (left_from (has page)) (left_to c) q) ends ∙ ap (λ (c : Bool). nat_le (left_from (has page)) q && c) past ∙ and_none (nat_le (left_from (has page)) q)
        where
          and_none : (c : Bool) → (c && false) ≡ false
          and_none true = refl
          and_none false = refl

      by_apart : (last ≤ other_first) ⊎ (other_last ≤ first) → ends_here
      by_apart (inl behind) =
          let range = between_so q among in
          let low = range.0 in
          let high = range.1 in
          let own = inside q among in
          let own_last = own.1 in
          let last_in = inside (end - 1) (between_is (end - 1) (omega (arith, low, high)) (omega (arith, high))) in
          let top = last_in.1 in
          let its = has_so q part in
          let begins = its.0 in
          at_end (omega (arith, behind, low, high, own_last, top, begins))
      by_apart (inr before) =
          let range = between_so q among in
          let low = range.0 in
          let high = range.1 in
          let first_in = inside page (between_is page (omega arith) (omega (arith, low, high))) in
          let bottom = first_in.0 in
          let its = has_so q part in
          let ends = its.1 in
          at_page (omega (arith, before, low, bottom, ends))

  -- and all others are left
  others_left : (q : ℕ) → between page end q ≡ true → has q ≡ false → between (left_from (has page)) (left_to (has (end - 1))) q ≡ true
  others_left q among part = (λ i. from (has page) refl i && to (has (end - 1)) refl i)
    where
      from : (c : Bool) → has page ≡ c → nat_le (left_from c) q ≡ true
      from true is =
          let range = between_so q among in
          let low = range.0 in
          let other : (q ≡ page → ⊥) = λ same. let contradiction : true ≡ false = sym is ∙ ap has (sym same) ∙ part in cc in
          let more : page + 1 ≤ q = omega (arith, low, other) in
          grind (arith, nat_tests, more)
      from false is =
          let range = between_so q among in
          let low = range.0 in
          grind (arith, nat_tests, low)

      to : (c : Bool) → has (end - 1) ≡ c → nat_lt q (left_to c) ≡ true
      to true is =
          let range = between_so q among in
          let high = range.1 in
          let other : (q ≡ end - 1 → ⊥) = λ same. let contradiction : true ≡ false = sym is ∙ ap has (sym same) ∙ part in cc in
          let less : q < end - 1 = omega (arith, high, other) in
          grind (arith, nat_tests, less)
      to false is =
          let range = between_so q among in
          let high = range.1 in
          grind (arith, nat_tests, high)

  pub left_are : (q : ℕ) →
      between (if nat_le other_first page && nat_le page other_last then page + 1 else page)
      (if nat_le other_first (end - 1) && nat_le (end - 1) other_last then end - 1 else end) q
      ≡ (between page end q && not (nat_le other_first q && nat_le q other_last))
  left_are q = by_tests (between page end q) refl (has q) refl
    where
      by_tests : (c : Bool) → between page end q ≡ c → (d : Bool) → has q ≡ d →
          between (left_from (has page)) (left_to (has (end - 1))) q ≡ (c && not d)
      by_tests true among true part = none_of_other q among part
      by_tests true among false part = others_left q among part
      by_tests false out d part =
          and_off (nat_le (left_from (has page)) q) (nat_lt q (left_to (has (end - 1))))
          (λ low high. let range = left_so q (has page) (has (end - 1)) low high in
          let contradiction : true ≡ false = sym (between_is q range.0 range.1) ∙ out in cc)
