-- What the child has of its image behind one more page of a segment: the page, of zeros, and all that it had.
use Rattle.std.proofs.Common.{◌≡◌, ◌≢◌, ◌∙◌, ◌+◌, ◌-◌, ◌*◌, ◌/◌, ◌<◌, ◌≤◌, ◌==◌, ◌&&◌, ◌||◌, ◌++◌, ◌⊎◌, inl, inr, ℕ, zero, suc, Bool, true, false, not}
use Rattle.std.proofs.Common.{List, [], ◌∷◌, Option, Some, None, refl, sym, ap, arith, if◌then◌else◌}
use Rattle.std.specs.Prelude.{is_some, max, min, nat_le, nat_lt, slice_index}
use Rattle.std.proofs.lemmas.Bool.{and_parts, false≢true}
use Rattle.std.proofs.lemmas.Bool.Decides.{nat_tests}
use Rattle.std.proofs.Math.Nat.{le-max_left, min-le_left}
use Rattle.jos_base.specs.declared.numbers.TheConstants.{FDTABLE, PGSIZE, USTABDATA, UTEMP, UTEXT}
use Rattle.jos_base.specs.Below.{some_below}
use Rattle.jos_base.specs.SpacesState.{overlaid, zero_page}
use Rattle.jos_base.proofs.Below.{some_below-at}
use Rattle.jos_elf.specs.declared.header.ProgramHeader.{ProgramHeader}
use Rattle.jos_elf.specs.declared.image.Segment.{Segment}
use Rattle.jos_elf.specs.Headers.{entry_count_of}
use Rattle.jos_elf.specs.Pages.{any_writes, file_part, laid, laid_all, page_bytes, stack_page, touches}
use Rattle.jos_elf.specs.Parsed.{Lies, segment_of, segments_of}
use Rattle.jos_elf.specs.Tests.{is_loaded}
use Rattle.lib_os.specs.AbstractSpawn.{headers_in, packed, under_shared}
use Rattle.lib_os.specs.AbstractState.{Born, ImageRead, Page, named, own}
use Rattle.lib_os.specs.Fence.{in_fence}
use Rattle.lib_os.specs.ProgramMemory.{stack_of}
use Rattle.lib_os.specs.Rows.{is_programs}
use Rattle.lib_os.specs.SpawnedChild.{IsProgress, Progress, child_page, header_touches, headers_filled, image_page, is_placed_page, is_settled_page}
use Rattle.lib_os.specs.SpawnedChild.{no_page_passed, own_page}
use Rattle.lib_os.specs.SpawnedChild.{passing, placing, segments_filled}
use Rattle.lib_os.specs.declared.spawn_steps.SpawnStep.{SpawnStep}
use Rattle.lib_os.proofs.ChildPlaced.{PlacesPage}
use Rattle.lib_os.proofs.SpawnedProgress.{page_same, placed_behind}

-- ---- no bytes

none_laid : (segment : Segment) (file : List ℕ) (number : ℕ) (bytes : List ℕ) → segment.file_len ≡ 0 → laid segment file number bytes ≡ bytes
none_laid segment file number bytes none =
    ap (λ (c : Bool). if c then overlaid bytes (from - number * PGSIZE) (file_part segment file from to) else bytes) test
  where
    from : ℕ
    from = max segment.va (number * PGSIZE)

    to : ℕ
    to = min (segment.va + segment.file_len) ((number + 1) * PGSIZE)

    test : nat_lt from to ≡ false
    test =
        let first = le-max_left segment.va (number * PGSIZE) in
        let last = min-le_left (segment.va + segment.file_len) ((number + 1) * PGSIZE) in
        let past : to ≤ from = omega (arith, first, last, none) in
        grind (arith, nat_tests, past)

abbrev pub NoneFilled : List Segment → Type 0
NoneFilled [] = Unit {0}
NoneFilled (segment ∷ rest) = (segment.file_len ≡ 0) × NoneFilled rest

pub all_none : (segments : List Segment) (file : List ℕ) (number : ℕ) (bytes : List ℕ) → NoneFilled segments → laid_all segments file number bytes ≡ bytes
unfolding laid_all
all_none [] file number bytes each = refl
all_none (segment ∷ rest) file number bytes each =
    ap (λ (page : List ℕ). laid_all rest file number page) (none_laid segment file number bytes each.0) ∙ all_none rest file number bytes each.1

pub none_append : (first second : List Segment) → NoneFilled first → NoneFilled second → NoneFilled (first ++ second)
none_append [] second each more = more
none_append (segment ∷ rest) second each more = (each.0, none_append rest second each.1 more)

none_segments : (headers : ℕ → ProgramHeader) (n : ℕ) → ((m : ℕ) → (headers m).file_len ≡ 0) → NoneFilled (segments_of headers n)
unfolding segments_of
none_segments headers zero each = tt
none_segments headers (suc n) each =
    none_append (segments_of headers n) (if is_loaded (headers n) then segment_of (headers n) ∷ [] else []) (none_segments headers n each)
    (by_loaded (is_loaded (headers n)))
  where
    by_loaded : (c : Bool) → NoneFilled (if c then segment_of (headers n) ∷ [] else [])
    by_loaded true = (each n, tt)
    by_loaded false = tt

-- the pages of its segments have zeros as long as none of their bytes is there
pub zeros_there : (image : ImageRead) (header page : ℕ) (file : List ℕ) (p : ℕ) → page_bytes (segments_filled image (placing header page)) file p ≡ zero_page
zeros_there image header page file p =
    all_none (segments_filled image (placing header page)) file p zero_page
    (none_segments (headers_filled image (placing header page)) (entry_count_of (slice_index image.header)) each)
  where
    each : (m : ℕ) → (headers_filled image (placing header page) m).file_len ≡ 0
    each m = by_tests (nat_lt m 0) (below_none m) (m == 0)
      where
        below_none : (m : ℕ) → nat_lt m 0 ≡ false
        below_none m = grind (arith, nat_tests)

        by_tests : (c : Bool) → c ≡ false → (d : Bool) →
            (if c then packed (headers_in image.table) m else record (packed (headers_in image.table) m) { file_len = if d then 0 else 0 }).file_len ≡ 0
        by_tests true is d = absurd (false≢true (sym is))
        by_tests false is true = refl
        by_tests false is false = refl

-- ---- a page that is its own

-- no page is one of its parent's before that
pub own_unnamed : (b : Born) (image : ImageRead) (progress : Progress) (file : List ℕ) (p name : ℕ) (writable : Bool) → nat_le progress.passed p ≡ false →
    child_page b image progress file p ≢ Some (named name writable)
own_unnamed b image progress file p name writable off is =
    by_tests (p == stack_page) progress.stack (is_placed_page image progress p)
    (sym (ap (λ (c : Bool). if c then under_shared (b.memory p) (own_page image progress file p) else own_page image progress file p) off) ∙ is)
  where
    by_tests : (c d e : Bool) →
        (if c then (if d then Some (stack_of image.words) else None) else (if e
        then Some (own (page_bytes (segments_filled image progress) file p)
        (any_writes p (segments_filled image progress) || not (is_settled_page image progress p)))
        else None)) ≢ Some (named name writable)
    by_tests true true e same = let contradiction : ◌≡◌ {A = Option Page} (Some (stack_of image.words)) (Some (named name writable)) = same in absurd cc
    by_tests true false e same = let contradiction : ◌≡◌ {A = Option Page} None (Some (named name writable)) = same in absurd cc
    by_tests false d true same =
        let contradiction : ◌≡◌ {A = Option Page} (Some (own (page_bytes (segments_filled image progress) file p)
        (any_writes p (segments_filled image progress) || not (is_settled_page image progress p)))) (Some (named name writable)) = same in
        absurd cc
    by_tests false d false same = let contradiction : ◌≡◌ {A = Option Page} None (Some (named name writable)) = same in absurd cc

-- ---- a page of a segment

-- a program header says of a segment that touches it
pub record IsPageOf (image : ImageRead) (header page : ℕ) : Type 0 where
  pub below : header < entry_count_of (slice_index image.header)
  pub loaded : is_loaded (headers_in image.table header) ≡ true
  pub total : ℕ
  pub lies : Lies total (segment_of (headers_in image.table header))
  pub from : (headers_in image.table header).va / PGSIZE ≤ page
  pub to : page ≤ ((headers_in image.table header).va + (headers_in image.table header).mem_len - 1) / PGSIZE

module _ {image : ImageRead} {header page : ℕ} (it : IsPageOf image header page) where
  abbrev one : ProgramHeader
  one = headers_in image.table header

  range : (page * PGSIZE < one.va + one.mem_len) × (one.va < (page + 1) * PGSIZE)
  range = let from = it.from in let to = it.to in let some = it.lies.some in (omega (arith, to, some), omega (arith, from))

  pub page_touched : header_touches image page header ≡ true
  page_touched =
      let at = range.0 in
      let behind = range.1 in
      let below = it.below in
      let first : nat_lt header (entry_count_of (slice_index image.header)) ≡ true = grind (arith, nat_tests, below) in
      let second : nat_lt one.va ((page + 1) * PGSIZE) ≡ true = grind (arith, nat_tests, behind) in
      let third : nat_lt (page * PGSIZE) (one.va + one.mem_len) ≡ true = grind (arith, nat_tests, at) in
      (λ i. first i && it.loaded i && (second i && third i))

  pub page_inside : is_programs page ≡ true
  unfolding in_fence
  page_inside = by_range it.lies.range
    where
      by_range : ((USTABDATA ≤ one.va) × (one.va + one.mem_len ≤ UTEMP)) ⊎ ((UTEXT ≤ one.va) × (one.va + one.mem_len ≤ FDTABLE)) →
          in_fence (page * PGSIZE) PGSIZE ≡ true
      by_range (inl low) =
          let start = low.0 in
          let end = low.1 in
          let from = it.from in
          let to = it.to in
          let some = it.lies.some in
          let first : USTABDATA ≤ page * PGSIZE = omega (arith, start, from) in
          let last : page * PGSIZE + PGSIZE ≤ UTEMP = omega (arith, end, to, some) in
          grind (arith, nat_tests, first, last)
      by_range (inr high) =
          let start = high.0 in
          let end = high.1 in
          let from = it.from in
          let to = it.to in
          let some = it.lies.some in
          let first : UTEXT ≤ page * PGSIZE = omega (arith, start, from) in
          let last : page * PGSIZE + PGSIZE ≤ FDTABLE = omega (arith, end, to, some) in
          grind (arith, nat_tests, first, last)

  pub page_low : page < FDTABLE / PGSIZE
  page_low = by_range it.lies.range
    where
      by_range : ((USTABDATA ≤ one.va) × (one.va + one.mem_len ≤ UTEMP)) ⊎ ((UTEXT ≤ one.va) × (one.va + one.mem_len ≤ FDTABLE)) → page < FDTABLE / PGSIZE
      by_range (inl low) = let end = low.1 in let to = it.to in let some = it.lies.some in omega (arith, end, to, some)
      by_range (inr high) = let end = high.1 in let to = it.to in let some = it.lies.some in omega (arith, end, to, some)

  pub no_stack : (page == stack_page) ≡ false
  no_stack = let low = page_low in let ne : page ≢ stack_page = λ same. omega (arith, low, same) in grind (arith, nat_tests, ne)

  pub page_unpassed : nat_le no_page_passed page ≡ false
  page_unpassed = let low = page_low in let lower : page < no_page_passed = omega (arith, low) in grind (arith, nat_tests, lower)

  -- one that is placed while none of the bytes is there
  pub placed_zero : (b : Born) (file : List ℕ) (header_to to : ℕ) → is_placed_page image (placing header_to to) page ≡ true →
      child_page b image (placing header_to to) file page ≡ Some (own zero_page true)
  unfolding some_below
  placed_zero b file header_to to placed =
      ap (λ (c : Bool). if c then under_shared (b.memory page) (own_page image (placing header_to to) file page)
      else own_page image (placing header_to to) file page) page_unpassed
      ∙ ap (λ (c : Bool). if c then None else image_page image (placing header_to to) file page) no_stack
      ∙ ap (λ (c : Bool). if c then Some (own (page_bytes (segments_filled image (placing header_to to)) file page)
      (any_writes page (segments_filled image (placing header_to to)) || not (is_settled_page image (placing header_to to) page))) else None) placed
      ∙ (λ i. Some (own (zeros_there image header_to to file page i)
      (any_writes page (segments_filled image (placing header_to to)) || not (unsettled i))))
      ∙ ap (λ (c : Bool). Some (own zero_page c)) (or_true (any_writes page (segments_filled image (placing header_to to))))
    where
      or_true : (c : Bool) → (c || true) ≡ true
      or_true true = refl
      or_true false = refl

      unsettled : is_settled_page image (placing header_to to) page ≡ false
      unsettled = let none : nat_lt page 0 ≡ false = grind (arith, nat_tests) in
          ap (λ (c : Bool). header_touches image page 0 && c) none ∙ and_none (header_touches image page 0)
        where
          and_none : (c : Bool) → (c && false) ≡ false
          and_none true = refl
          and_none false = refl

  -- it is one of those that the image has
  pub page_among : (b : Born) (file : List ℕ) → is_some (child_page b image (passing (entry_count_of (slice_index image.header)) 0) file page) ≡ true
  page_among b file =
      ap (λ (c : Bool). is_some (if c then under_shared (b.memory page) (own_page image all file page) else own_page image all file page)) from_first
      ∙ ap (λ (c : Bool). is_some (under_shared (b.memory page) (if c then Some (stack_of image.words)
      else (if placed then Some filled_page else None)))) no_stack
      ∙ ap (λ (c : Bool). is_some (under_shared (b.memory page) (if c then Some filled_page else None))) placed_there
      ∙ by_shared (b.memory page)
    where
      all : Progress
      all = passing (entry_count_of (slice_index image.header)) 0

      from_first : nat_le 0 page ≡ true
      from_first = grind (arith, nat_tests)

      placed : Bool
      placed = is_placed_page image all page

      filled_page : Page
      filled_page = own (page_bytes (segments_filled image all) file page) (any_writes page (segments_filled image all) || not (is_settled_page image all page))

      or_first : (c d : Bool) → c ≡ true → (c || d) ≡ true
      or_first true d is = refl
      or_first false d is = absurd (false≢true is)

      placed_there : placed ≡ true
      placed_there =
          or_first (some_below (entry_count_of (slice_index image.header)) (header_touches image page))
          (header_touches image page (entry_count_of (slice_index image.header)) && nat_lt page 0)
          (some_below-at (header_touches image page) (entry_count_of (slice_index image.header)) header it.below page_touched)

      by_shared : (o : Option Page) → is_some (under_shared o (Some filled_page)) ≡ true
      by_shared (Some (named name writes)) = refl
      by_shared (Some (own bytes writes)) = refl
      by_shared None = refl

-- ---- one more page is there

module _ {image : ImageRead} {header page : ℕ} (it : IsPageOf image header page) (b : Born) (file : List ℕ) where
  or_last : (c d : Bool) → d ≡ true → (c || d) ≡ true
  or_last true d is = refl
  or_last false d is = is

  next_placed : is_placed_page image (placing header (page + 1)) page ≡ true
  next_placed =
      let more : nat_lt page (page + 1) ≡ true = grind (arith, nat_tests) in
      or_last (some_below header (header_touches image page)) (header_touches image page header && nat_lt page (page + 1)) (λ i. page_touched it i && more i)

  -- others are there as they were
  others_placed : (p : ℕ) → p ≢ page → is_placed_page image (placing header page) p ≡ is_placed_page image (placing header (page + 1)) p
  others_placed p ne =
      ap (λ (c : Bool). some_below header (header_touches image p) || (header_touches image p header && c)) (by_place (nat_lt p page) refl)
    where
      by_place : (c : Bool) → nat_lt p page ≡ c → nat_lt p page ≡ nat_lt p (page + 1)
      by_place true test =
          let lower : p < page = grind (arith, nat_tests, test) in
          let too : nat_lt p (page + 1) ≡ true = grind (arith, nat_tests, lower) in test ∙ sym too
      by_place false test =
          let past : page ≤ p = grind (arith, nat_tests, test) in
          let beyond : page + 1 ≤ p = omega (arith, past, ne) in
          let off : nat_lt p (page + 1) ≡ false = grind (arith, nat_tests, beyond) in test ∙ sym off

  pub places_next : (to : SpawnStep) → IsProgress (entry_count_of (slice_index image.header)) to (placing header (page + 1)) →
      PlacesPage b image file (placing header page) to page
  places_next to is_so = record {
    progress = placing header (page + 1);
    is_so = is_so;
    registers = refl;
    handler = refl;
    handler_stack = refl;
    passed = refl;
    own_before = λ name writable. own_unnamed b image (placing header page) file page name writable (page_unpassed it);
    here = placed_zero it b file header (page + 1) next_placed;
    others = λ p inside ne. page_same b image file (placing header page) (placing header (page + 1)) p refl refl (others_placed p ne) refl refl;
    among = page_among it b file;
  }

  -- behind its last all are there
  module _ (last : page ≡ ((headers_in image.table header).va + (headers_in image.table header).mem_len - 1) / PGSIZE) where
    all_below : (p : ℕ) → (header_touches image p header && nat_lt p (page + 1)) ≡ header_touches image p header
    all_below p = by_touch (header_touches image p header) refl
      where
        by_touch : (c : Bool) → header_touches image p header ≡ c → (c && nat_lt p (page + 1)) ≡ c
        by_touch false is = refl
        by_touch true is =
            let touched = (and_parts (nat_lt header (entry_count_of (slice_index image.header)) && is_loaded (one it))
            (touches p (segment_of (one it))) is).1 in
            let test = (and_parts (nat_lt (one it).va ((p + 1) * PGSIZE)) (nat_lt (p * PGSIZE) ((one it).va + (one it).mem_len)) touched).1 in
            let low : p * PGSIZE < (one it).va + (one it).mem_len = grind (arith, nat_tests, test) in
            let lower : p < page + 1 = omega (arith, low, last) in
            grind (arith, nat_tests, lower)

    same_placed : (p : ℕ) → is_placed_page image (placing header (page + 1)) p ≡ is_placed_page image (placing (header + 1) 0) p
    same_placed p = placed_behind image header (page + 1) p (all_below p)

    pub places_last : (to : SpawnStep) → IsProgress (entry_count_of (slice_index image.header)) to (placing (header + 1) 0) →
        PlacesPage b image file (placing header page) to page
    places_last to is_so = record {
      progress = placing (header + 1) 0;
      is_so = is_so;
      registers = refl;
      handler = refl;
      handler_stack = refl;
      passed = refl;
      own_before = λ name writable. own_unnamed b image (placing header page) file page name writable (page_unpassed it);
      here = placed_zero it b file (header + 1) 0 (sym (same_placed page) ∙ next_placed);
      others = λ p inside ne. page_same b image file (placing header page) (placing (header + 1) 0) p refl refl (others_placed p ne ∙ same_placed p) refl refl;
      among = page_among it b file;
    }
