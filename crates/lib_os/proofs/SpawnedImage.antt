-- The child that has all of its image, and the page of its stack, has the pages with which a program of that image begins; and none of those lies where a program may
-- have none.
use Rattle.std.proofs.Common.{◌≡◌, ◌∙◌, ◌⊎◌, inl, inr, ◌+◌, ◌-◌, ◌*◌, ◌<◌, ◌≤◌, ◌==◌, ◌&&◌, ◌||◌, ◌++◌, ℕ, zero, suc, Bool, true, false, not, List, [], ◌∷◌}
use Rattle.std.proofs.Common.{Option, Some, None, refl, sym, ap, arith, if◌then◌else◌}
use Rattle.std.specs.Prelude.{get_or, nat_lt, slice_index}
use Rattle.std.proofs.lemmas.Bool.{eqb-true}
use Rattle.std.proofs.Math.Bool.{and-false, or-false}
use Rattle.std.proofs.lemmas.Bool.Decides.{nat_tests}
use Rattle.std.proofs.lemmas.List.Folds.{list_any-append, list_any_none}
use Rattle.jos_base.specs.declared.numbers.TheConstants.{FDTABLE, PGSIZE, USTABDATA, UTEMP, UTEXT}
use Rattle.jos_base.specs.Below.{some_below}
use Rattle.jos_base.proofs.Below.{some_below-same}
use Rattle.jos_elf.specs.declared.header.ProgramHeader.{ProgramHeader}
use Rattle.jos_elf.specs.declared.image.Segment.{Segment}
use Rattle.jos_elf.specs.Headers.{entry_count_of}
use Rattle.jos_elf.specs.Pages.{any_touches, any_writes, page_bytes, stack_page, touches}
use Rattle.jos_elf.specs.Parsed.{Lies, segment_of, segments_of}
use Rattle.jos_elf.specs.Tests.{first_failed, is_loaded, table_tests}
use Rattle.jos_elf.proofs.Parsed.{segments-lie}
use Rattle.lib_os.specs.AbstractSpawn.{headers_in, packed}
use Rattle.lib_os.specs.AbstractState.{ImageRead, Page, own}
use Rattle.lib_os.specs.Fence.{in_fence}
use Rattle.lib_os.specs.ProgramMemory.{page_of, program_memory, stack_of}
use Rattle.lib_os.specs.Rows.{is_programs}
use Rattle.lib_os.specs.SpawnedChild.{Progress, headers_filled, header_touches, is_placed_page, is_settled_page, own_page, passing, segments_filled}

-- ---- segments of program headers

-- the same program headers up to a number say of the same segments
same_segments : (f g : ℕ → ProgramHeader) (n : ℕ) → ((m : ℕ) → m < n → f m ≡ g m) → segments_of f n ≡ segments_of g n
unfolding segments_of
same_segments f g zero same = refl
same_segments f g (suc n) same =
    (λ i. same_segments f g n (λ m below. same m (omega (arith, below))) i ++ (if is_loaded (same n (omega arith) i) then segment_of (same n (omega arith) i) ∷ [] else []))

touches_one : (f : ℕ → ProgramHeader) (p n : ℕ) (c : Bool) → any_touches p (if c then segment_of (f n) ∷ [] else []) ≡ (c && touches p (segment_of (f n)))
touches_one f p n true = or-false (touches p (segment_of (f n)))
touches_one f p n false = refl

-- whether one of them touches a page
touched_below : (f : ℕ → ProgramHeader) (p n : ℕ) →
    any_touches p (segments_of f n) ≡ some_below n (λ m. is_loaded (f m) && touches p (segment_of (f m)))
unfolding segments_of some_below
touched_below f p zero = refl
touched_below f p (suc n) =
    list_any-append (touches p) (segments_of f n) (if is_loaded (f n) then segment_of (f n) ∷ [] else [])
    ∙ (λ i. touched_below f p n i || touches_one f p n (is_loaded (f n)) i)

-- ---- the image

module _ (image : ImageRead) (file : List ℕ) where
  abbrev n : ℕ
  n = entry_count_of (slice_index image.header)

  abbrev headers : ℕ → ProgramHeader
  headers = headers_in image.table

  abbrev segments : List Segment
  segments = segments_of (packed headers) n

  -- where the bytes of a segment stand in the file is nothing to where it lies
  packed_loaded : (m : ℕ) → is_loaded (packed headers m) ≡ is_loaded (headers m)
  unfolding is_loaded
  packed_loaded m = refl

  touched_packed : (p : ℕ) → any_touches p segments ≡ any_touches p (segments_of headers n)
  touched_packed p =
      touched_below (packed headers) p n
      ∙ some_below-same n (λ m. is_loaded (packed headers m) && touches p (segment_of (packed headers m)))
      (λ m. is_loaded (headers m) && touches p (segment_of (headers m)))
      (λ m below. ap (λ (c : Bool). c && touches p (segment_of (headers m))) (packed_loaded m))
      ∙ sym (touched_below headers p n)

  -- all of its pages are there
  all_below : (p : ℕ) → some_below n (header_touches image p) ≡ any_touches p segments
  all_below p =
      some_below-same n (header_touches image p) (λ m. is_loaded (headers m) && touches p (segment_of (headers m)))
      (λ m below. let on : nat_lt m n ≡ true = grind (arith, nat_tests, below) in
      ap (λ (c : Bool). c && is_loaded (headers m) && touches p (segment_of (headers m))) on)
      ∙ sym (touched_below headers p n) ∙ sym (touched_packed p)

  none_behind : (p : ℕ) → (header_touches image p n && nat_lt p 0) ≡ false
  none_behind p =
      let none : nat_lt p 0 ≡ false = grind (arith, nat_tests) in
      ap (λ (c : Bool). header_touches image p n && c) none ∙ and-false (header_touches image p n)

  placed_all : (p : ℕ) → is_placed_page image (passing n 0) p ≡ any_touches p segments
  placed_all p =
      ap (λ (c : Bool). some_below n (header_touches image p) || c) (none_behind p) ∙ or-false (some_below n (header_touches image p)) ∙ all_below p

  settled_all : (p : ℕ) → is_settled_page image (passing n 0) p ≡ any_touches p segments
  settled_all p =
      ap (λ (c : Bool). some_below n (header_touches image p) || c) (none_behind p) ∙ or-false (some_below n (header_touches image p)) ∙ all_below p

  -- all bytes are there
  pub filled_whole : (progress : Progress) → progress.filled ≡ entry_count_of (slice_index image.header) →
      segments_filled image progress ≡ segments_of (packed (headers_in image.table)) (entry_count_of (slice_index image.header))
  filled_whole progress all =
      same_segments (headers_filled image progress) (packed headers) n
      (λ m below. let on : nat_lt m progress.filled ≡ true = grind (arith, nat_tests, below, all) in
      ap (λ (c : Bool). if c then packed headers m else record (packed headers m) { file_len = if m == progress.filled then progress.bytes else 0 }) on)

  filled_all : segments_filled image (passing n 0) ≡ segments
  filled_all = filled_whole (passing n 0) refl

  -- so the child's own are those of the program
  pub whole_page : (p : ℕ) → own_page image (passing (entry_count_of (slice_index image.header)) 0) file p
      ≡ program_memory (segments_of (packed (headers_in image.table)) (entry_count_of (slice_index image.header))) file image.words p
  whole_page p =
      (λ i. if p == stack_page then Some (stack_of image.words)
      else (if placed_all p i then Some (own (page_bytes (filled_all i) file p) (any_writes p (filled_all i) || not (settled_all p i))) else None))
      ∙ ap (λ (o : Option Page). if p == stack_page then Some (stack_of image.words) else o) (by_touch (any_touches p segments))
    where
      by_touch : (c : Bool) → (if c then Some (own (page_bytes segments file p) (any_writes p segments || not c)) else None)
          ≡ (if c then Some (own (page_bytes segments file p) (any_writes p segments)) else None)
      by_touch true = ap (λ (w : Bool). Some (own (page_bytes segments file p) w)) (or-false (any_writes p segments))
      by_touch false = refl

  -- ---- which lies where a program may have pages

  module _ (size : ℕ) (passed : first_failed (table_tests size (headers_in image.table) (entry_count_of (slice_index image.header))) ≡ None) where
    outside_untouched : (p : ℕ) → is_programs p ≡ false → (segment : Segment) → Lies size segment → touches p segment ≡ false
    unfolding in_fence
    outside_untouched p outside segment lies = by_range lies.range
      where
        by_test : (c : Bool) → touches p segment ≡ c → (touches p segment ≡ true → ⊥) → touches p segment ≡ false
        by_test true is none = absurd (none is)
        by_test false is none = is

        two : (c d : Bool) → (c && d) ≡ true → (c ≡ true) × (d ≡ true)
        two true true on = (refl, refl)
        two true false on = absurd (let contradiction : false ≡ true = on in cc)
        two false d on = absurd (let contradiction : false ≡ true = on in cc)

        by_range : ((USTABDATA ≤ segment.va) × (segment.va + segment.mem_len ≤ UTEMP)) ⊎ ((UTEXT ≤ segment.va) × (segment.va + segment.mem_len ≤ FDTABLE)) →
            touches p segment ≡ false
        by_range (inl low) =
            by_test (touches p segment) refl
            (λ on. let both = two (nat_lt segment.va ((p + 1) * PGSIZE)) (nat_lt (p * PGSIZE) (segment.va + segment.mem_len)) on in
            let first = both.0 in
            let second = both.1 in
            let begin = low.0 in
            let end = low.1 in
            let from : segment.va < (p + 1) * PGSIZE = grind (arith, nat_tests, first) in
            let to : p * PGSIZE < segment.va + segment.mem_len = grind (arith, nat_tests, second) in
            let least : USTABDATA ≤ p * PGSIZE = omega (arith, begin, from) in
            let most : p * PGSIZE + PGSIZE ≤ UTEMP = omega (arith, end, to) in
            let inside : in_fence (p * PGSIZE) PGSIZE ≡ true = grind (arith, nat_tests, least, most) in
            let contradiction : false ≡ true = sym outside ∙ inside in cc)
        by_range (inr high) =
            by_test (touches p segment) refl
            (λ on. let both = two (nat_lt segment.va ((p + 1) * PGSIZE)) (nat_lt (p * PGSIZE) (segment.va + segment.mem_len)) on in
            let first = both.0 in
            let second = both.1 in
            let begin = high.0 in
            let end = high.1 in
            let from : segment.va < (p + 1) * PGSIZE = grind (arith, nat_tests, first) in
            let to : p * PGSIZE < segment.va + segment.mem_len = grind (arith, nat_tests, second) in
            let least : UTEXT ≤ p * PGSIZE = omega (arith, begin, from) in
            let most : p * PGSIZE + PGSIZE ≤ FDTABLE = omega (arith, end, to) in
            let inside : in_fence (p * PGSIZE) PGSIZE ≡ true = grind (arith, nat_tests, least, most) in
            let contradiction : false ≡ true = sym outside ∙ inside in cc)

    pub none_outside : (p : ℕ) → is_programs p ≡ false →
        program_memory (segments_of (packed (headers_in image.table)) (entry_count_of (slice_index image.header))) file image.words p ≡ None
    unfolding in_fence
    none_outside p outside = by_stack (p == stack_page) refl
      where
        none_touch : any_touches p segments ≡ false
        none_touch =
            touched_packed p
            ∙ list_any_none (touches p) (segments_of headers n)
            (λ k d below. outside_untouched p outside (get_or (segments_of headers n) k d) (segments-lie size headers n passed k d below))

        stack_is : is_programs stack_page ≡ true
        stack_is = refl

        by_stack : (c : Bool) → (p == stack_page) ≡ c → (if c then Some (stack_of image.words) else page_of segments file p) ≡ None
        by_stack true same =
            let contradiction : true ≡ false = sym stack_is ∙ ap is_programs (sym (eqb-true p stack_page same)) ∙ outside in cc
        by_stack false other = ap (λ (c : Bool). if c then Some (own (page_bytes segments file p) (any_writes p segments)) else None) none_touch
