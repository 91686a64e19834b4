-- How far the rights of the pages of spawn's child are set, from one step to another: the child has the same pages where a program header says of no segment that is
-- only read, and where all pages of such a one are set that no segment has that may be written.
use Rattle.std.proofs.Common.{◌≡◌, ◌∙◌, ◌+◌, ◌<◌, ◌≤◌, ◌==◌, ◌&&◌, ◌||◌, ℕ, Bool, true, false, not, List, Option, Some, None, refl, sym, ap, arith, if◌then◌else◌}
use Rattle.std.specs.Prelude.{nat_le, nat_lt, slice_index}
use Rattle.std.proofs.lemmas.Bool.{and_parts}
use Rattle.std.proofs.lemmas.Bool.Decides.{nat_tests}
use Rattle.jos_base.specs.Below.{some_below}
use Rattle.jos_elf.specs.Headers.{entry_count_of}
use Rattle.jos_elf.specs.Pages.{any_writes, page_bytes, stack_page, touches}
use Rattle.jos_elf.specs.Parsed.{segment_of}
use Rattle.jos_elf.specs.Tests.{is_loaded}
use Rattle.lib_os.specs.AbstractSpawn.{headers_in, image_segments, under_shared}
use Rattle.lib_os.specs.AbstractState.{Born, ImageRead, Page, own}
use Rattle.lib_os.specs.SpawnedChild.{header_touches, is_placed_page, is_settled_page, no_page_passed, segments_filled, settling}
use Rattle.lib_os.proofs.SpawnedProgress.{Alike, not_loaded_touches, placed_behind}
use Rattle.lib_birth.proofs.RightsWrites.{image_writes, writes_found}

-- ---- the same pages

-- the rights of those are set alike that no segment has which may be written
pub rights_alike : (b : Born) (image : ImageRead) (file : List ℕ) (headers header page other to : ℕ) →
    ((p : ℕ) → any_writes p (image_segments image) ≡ false →
    is_settled_page image (settling headers header page) p ≡ is_settled_page image (settling headers other to) p) →
    Alike b image file (settling headers header page) (settling headers other to)
rights_alike b image file headers header page other to same = record {
  registers = refl;
  handler = refl;
  handler_stack = refl;
  passed = refl;
  pages = λ p i.
      if nat_le no_page_passed p then under_shared (b.memory p) (own_by p (rights p i)) else own_by p (rights p i);
}
  where
    own_by : ℕ → Bool → Option Page
    own_by p writes =
        if p == stack_page then None
        else (if is_placed_page image (settling headers header page) p
        then Some (own (page_bytes (segments_filled image (settling headers header page)) file p) writes) else None)

    rights : (p : ℕ) → (any_writes p (segments_filled image (settling headers header page)) || not (is_settled_page image (settling headers header page) p))
        ≡ (any_writes p (segments_filled image (settling headers other to)) || not (is_settled_page image (settling headers other to) p))
    rights p = by_writes (any_writes p (image_segments image)) refl
      where
        by_writes : (c : Bool) → any_writes p (image_segments image) ≡ c →
            (any_writes p (segments_filled image (settling headers header page)) || not (is_settled_page image (settling headers header page) p))
            ≡ (any_writes p (segments_filled image (settling headers other to)) || not (is_settled_page image (settling headers other to) p))
        by_writes true is =
            ap (λ (c : Bool). c || not (is_settled_page image (settling headers header page) p)) (image_writes image (settling headers header page) p ∙ is)
            ∙ sym (ap (λ (c : Bool). c || not (is_settled_page image (settling headers other to) p)) (image_writes image (settling headers other to) p ∙ is))
        by_writes false is =
            (λ i. any_writes p (segments_filled image (settling headers header page)) || not (same p is i))

-- ---- behind a program header

-- where all of its pages are set that no segment has which may be written
pub rights_behind_alike : (b : Born) (image : ImageRead) (file : List ℕ) (headers header page : ℕ) →
    ((p : ℕ) → any_writes p (image_segments image) ≡ false → (header_touches image p header && nat_lt p page) ≡ header_touches image p header) →
    Alike b image file (settling headers header page) (settling headers (header + 1) 0)
rights_behind_alike b image file headers header page all =
    rights_alike b image file headers header page (header + 1) 0 (λ p none. placed_behind image header page p (all p none))

-- it says of no segment
pub rights_over : (b : Born) (image : ImageRead) (file : List ℕ) (headers header : ℕ) → is_loaded (headers_in image.table header) ≡ false →
    Alike b image file (settling headers header 0) (settling headers (header + 1) 0)
rights_over b image file headers header none =
    rights_behind_alike b image file headers header 0
    (λ p unwritten. let off = not_loaded_touches image p header none in ap (λ (c : Bool). c && nat_lt p 0) off ∙ sym off)

-- it says of a segment in this page
pub touched_so : (image : ImageRead) (p header : ℕ) → header_touches image p header ≡ true →
    (header < entry_count_of (slice_index image.header)) × (is_loaded (headers_in image.table header) ≡ true)
    × (touches p (segment_of (headers_in image.table header)) ≡ true)
touched_so image p header is =
    let parts = and_parts (nat_lt header (entry_count_of (slice_index image.header)) && is_loaded (headers_in image.table header))
    (touches p (segment_of (headers_in image.table header))) is in
    let first = and_parts (nat_lt header (entry_count_of (slice_index image.header))) (is_loaded (headers_in image.table header)) parts.0 in
    let test = first.0 in
    (grind (arith, nat_tests, test), first.1, parts.1)

pub touched_is : (image : ImageRead) (p header : ℕ) → header < entry_count_of (slice_index image.header) → is_loaded (headers_in image.table header) ≡ true →
    touches p (segment_of (headers_in image.table header)) ≡ true → header_touches image p header ≡ true
touched_is image p header below loaded part =
    let test : nat_lt header (entry_count_of (slice_index image.header)) ≡ true = grind (arith, nat_tests, below) in
    (λ i. test i && loaded i && part i)

-- it may be written
pub rights_kept : (b : Born) (image : ImageRead) (file : List ℕ) (headers header : ℕ) →
    (segment_of (headers_in image.table header)).writable ≡ true →
    Alike b image file (settling headers header 0) (settling headers (header + 1) 0)
rights_kept b image file headers header writable =
    rights_behind_alike b image file headers header 0 (λ p none. by_touch p none (header_touches image p header) refl)
  where
    by_touch : (p : ℕ) → any_writes p (image_segments image) ≡ false → (c : Bool) → header_touches image p header ≡ c → (c && nat_lt p 0) ≡ c
    by_touch p none false is = refl
    by_touch p none true is =
        let it = touched_so image p header is in
        let loaded = it.1 in
        let part = it.2 in
        absurd (let contradiction : true ≡ false = sym (writes_found (headers_in image.table) p (entry_count_of (slice_index image.header)) header it.0
        (λ i. loaded i && (part i && writable i))) ∙ none in cc)

-- ---- the pages of a segment that is only read

-- none of those in front of a page is one of its, but for such as may be written
pub rights_from_page : (b : Born) (image : ImageRead) (file : List ℕ) (headers header page : ℕ) →
    ((p : ℕ) → header_touches image p header ≡ true → any_writes p (image_segments image) ≡ false → page ≤ p) →
    Alike b image file (settling headers header 0) (settling headers header page)
rights_from_page b image file headers header page first =
    rights_alike b image file headers header 0 header page
    (λ p none. ap (λ (c : Bool). some_below header (header_touches image p) || c) (by_touch p none (header_touches image p header) refl))
  where
    by_touch : (p : ℕ) → any_writes p (image_segments image) ≡ false → (c : Bool) → header_touches image p header ≡ c →
        (c && nat_lt p 0) ≡ (c && nat_lt p page)
    by_touch p none false is = refl
    by_touch p none true is =
        let most = first p is none in
        let past : nat_lt p page ≡ false = grind (arith, nat_tests, most) in
        let never : nat_lt p 0 ≡ false = grind (arith, nat_tests) in
        never ∙ sym past

-- and all of those that are, in front of another one
pub rights_up_to : (b : Born) (image : ImageRead) (file : List ℕ) (headers header page : ℕ) →
    ((p : ℕ) → header_touches image p header ≡ true → any_writes p (image_segments image) ≡ false → p < page) →
    Alike b image file (settling headers header page) (settling headers (header + 1) 0)
rights_up_to b image file headers header page last =
    rights_behind_alike b image file headers header page (λ p none. by_touch p none (header_touches image p header) refl)
  where
    by_touch : (p : ℕ) → any_writes p (image_segments image) ≡ false → (c : Bool) → header_touches image p header ≡ c → (c && nat_lt p page) ≡ c
    by_touch p none false is = refl
    by_touch p none true is =
        let less = last p is none in grind (arith, nat_tests, less)
