-- What the tests show of the segments that a file says of.
use Rattle.std.proofs.Common.{◌≡◌, ℕ, zero, suc, ◌+◌, Bool, true, false, List, [], ◌∷◌, ◌++◌, All, AllPairs, Result}
use Rattle.std.proofs.Common.{Ok, Err, Option, Some, None, refl, ◌∙◌, sym, arith}
use Rattle.std.proofs.lemmas.List.{append-nil}
use Rattle.std.proofs.lemmas.List.Elements.{All-push}
use Rattle.std.proofs.lemmas.List.Quantifiers.{all_pairs_push}
use Rattle.std.specs.Prelude.{if◌then◌else◌, nat_le}
use Rattle.std.proofs.lemmas.Bool.{leb-true}
use Rattle.jos_elf.specs.declared.fault.ElfFault.{ElfFault}
use Rattle.jos_elf.specs.declared.fault.ElfFault.TheVariants.{Truncated, SegmentRange, Overlap}
use Rattle.jos_elf.specs.declared.header.ProgramHeader.{ProgramHeader}
use Rattle.jos_elf.specs.declared.image.Segment.{Segment}
use Rattle.jos_elf.specs.Headers.{entry_point_of, entry_count_of, header_of}
use Rattle.jos_elf.specs.Tests.{first_failed, is_loaded, is_placed, leaves_free, header_tests, overlap_tests}
use Rattle.jos_elf.specs.Tests.{segment_tests, table_tests, tests}
use Rattle.jos_elf.specs.Parsed.{Layout, segment_of, segments_of, parsed_bytes, Lies, Apart}
use Rattle.jos_elf.proofs.Tests.{passed-append, failed-append, append-passed, cons-passed}
use Rattle.jos_elf.proofs.Facts.{loaded, placed, free}

abbrev none : Option ElfFault
none = None

abbrev failed : ElfFault → Result Layout ElfFault
failed f = Err f

-- ---- the answer

pub parsed-header_failed : (total : ℕ) (byte : ℕ → ℕ) (f : ElfFault) → first_failed (header_tests total byte) ≡ Some f → failed f ≡ parsed_bytes total byte
unfolding parsed_bytes tests
parsed-header_failed total byte f e = rw (failed-append (header_tests total byte) (table_tests total (header_of byte) (entry_count_of byte)) f e) refl

pub parsed-table_failed : (total : ℕ) (byte : ℕ → ℕ) (f : ElfFault) → first_failed (header_tests total byte) ≡ none → first_failed (table_tests total (header_of byte) (entry_count_of byte)) ≡ Some f → failed f ≡ parsed_bytes total byte
unfolding parsed_bytes tests
parsed-table_failed total byte f e t = rw (passed-append (header_tests total byte) (table_tests total (header_of byte) (entry_count_of byte)) e, t) refl

pub parsed-passed : (total : ℕ) (byte : ℕ → ℕ) (entry : ℕ) (segments : List Segment) → first_failed (header_tests total byte) ≡ none → first_failed (table_tests total (header_of byte) (entry_count_of byte)) ≡ none
    → entry ≡ entry_point_of byte → segments ≡ segments_of (header_of byte) (entry_count_of byte) → Ok (record { entry = entry; segments = segments }) ≡ parsed_bytes total byte
unfolding parsed_bytes tests
parsed-passed total byte entry segments e t p q = rw (passed-append (header_tests total byte) (table_tests total (header_of byte) (entry_count_of byte)) e, t, p, q) refl

-- ---- the segments

pub segments-none : (headers : ℕ → ProgramHeader) → segments_of headers 0 ≡ []
unfolding segments_of
segments-none headers = refl

pub segments-passed_over : (headers : ℕ → ProgramHeader) (n : ℕ) (segments : List Segment) → segments ≡ segments_of headers n → is_loaded (headers n) ≡ false → segments ≡ segments_of headers (n + 1)
unfolding segments_of
segments-passed_over headers n segments e h =
    let q : n + 1 ≡ suc n = omega arith in
    rw (q, h) (e ∙ sym (append-nil (segments_of headers n)))

pub segments-more : (headers : ℕ → ProgramHeader) (n : ℕ) (segments : List Segment) → segments ≡ segments_of headers n → is_loaded (headers n) ≡ true
    → segments ++ segment_of (headers n) ∷ [] ≡ segments_of headers (n + 1)
unfolding segments_of
segments-more headers n segments e h =
    let q : n + 1 ≡ suc n = omega arith in
    rw (q, h, e) refl

-- ---- where they lie

pub tests-lie : (total : ℕ) (headers : ℕ → ProgramHeader) (n : ℕ) → is_loaded (headers n) ≡ true → first_failed (segment_tests total headers n) ≡ none → Lies total (segment_of (headers n))
unfolding segment_tests
tests-lie total headers n h e =
    let header = headers n in
    let one = cons-passed (nat_le (header.file_at + header.file_len) total) (Truncated total) ((is_placed header, SegmentRange n) ∷ overlap_tests headers n n) e in
    let two = cons-passed (is_placed header) (SegmentRange n) (overlap_tests headers n n) one.1 in
    let place = (placed header).0 two.0 in
    record { file = leb-true _ _ one.0; room = place.0; some = ((loaded header).0 h).1; range = place.1 }

lie-step : (total : ℕ) (headers : ℕ → ProgramHeader) (n : ℕ) (b : Bool) → is_loaded (headers n) ≡ b → first_failed (if b then segment_tests total headers n else []) ≡ none
    → All (Lies total) (segments_of headers n) → All (Lies total) (segments_of headers n ++ (if b then segment_of (headers n) ∷ [] else []))
lie-step total headers n true h e all = All-push (Lies total) (segments_of headers n) (segment_of (headers n)) all (tests-lie total headers n h e)
lie-step total headers n false h e all = rw (append-nil (segments_of headers n)) all

pub segments-lie : (total : ℕ) (headers : ℕ → ProgramHeader) (n : ℕ) → first_failed (table_tests total headers n) ≡ none → All (Lies total) (segments_of headers n)
unfolding table_tests segments_of
segments-lie total headers zero e = λ k d lt. absurd (omega arith)
segments-lie total headers (suc n) e =
    let both = append-passed (table_tests total headers n) (if is_loaded (headers n) then segment_tests total headers n else []) e in
    lie-step total headers n (is_loaded (headers n)) refl both.1 (segments-lie total headers n both.0)

-- ---- no two share a byte

free-step : (headers : ℕ → ProgramHeader) (place n : ℕ) (b : Bool) → is_loaded (headers n) ≡ b → leaves_free (headers n) (headers place) ≡ true
    → All (λ s. Apart s (segment_of (headers place))) (segments_of headers n)
    → All (λ s. Apart s (segment_of (headers place))) (segments_of headers n ++ (if b then segment_of (headers n) ∷ [] else []))
free-step headers place n true h e all = All-push (λ s. Apart s (segment_of (headers place))) (segments_of headers n) (segment_of (headers n)) all (free (headers n) (headers place) e h)
free-step headers place n false h e all = rw (append-nil (segments_of headers n)) all

earlier-apart : (headers : ℕ → ProgramHeader) (place n : ℕ) → first_failed (overlap_tests headers place n) ≡ none → All (λ s. Apart s (segment_of (headers place))) (segments_of headers n)
unfolding overlap_tests segments_of
earlier-apart headers place zero e = λ k d lt. absurd (omega arith)
earlier-apart headers place (suc n) e =
    let both = append-passed (overlap_tests headers place n) ((leaves_free (headers n) (headers place), Overlap place n) ∷ []) e in
    free-step headers place n (is_loaded (headers n)) refl (cons-passed _ (Overlap place n) [] both.1).0 (earlier-apart headers place n both.0)

tests-apart : (total : ℕ) (headers : ℕ → ProgramHeader) (n : ℕ) → first_failed (segment_tests total headers n) ≡ none → All (λ s. Apart s (segment_of (headers n))) (segments_of headers n)
unfolding segment_tests
tests-apart total headers n e =
    let header = headers n in
    let one = cons-passed (nat_le (header.file_at + header.file_len) total) (Truncated total) ((is_placed header, SegmentRange n) ∷ overlap_tests headers n n) e in
    let two = cons-passed (is_placed header) (SegmentRange n) (overlap_tests headers n n) one.1 in
    earlier-apart headers n n two.1

apart-step : (total : ℕ) (headers : ℕ → ProgramHeader) (n : ℕ) (b : Bool) → first_failed (if b then segment_tests total headers n else []) ≡ none
    → AllPairs Apart (segments_of headers n) → AllPairs Apart (segments_of headers n ++ (if b then segment_of (headers n) ∷ [] else []))
apart-step total headers n true e all = all_pairs_push Apart (segments_of headers n) (segment_of (headers n)) all (tests-apart total headers n e)
apart-step total headers n false e all = rw (append-nil (segments_of headers n)) all

pub segments-apart : (total : ℕ) (headers : ℕ → ProgramHeader) (n : ℕ) → first_failed (table_tests total headers n) ≡ none → AllPairs Apart (segments_of headers n)
unfolding table_tests segments_of
segments-apart total headers zero e = λ i j d lt within. absurd (omega arith)
segments-apart total headers (suc n) e =
    let both = append-passed (table_tests total headers n) (if is_loaded (headers n) then segment_tests total headers n else []) e in
    apart-step total headers n (is_loaded (headers n)) both.1 (segments-apart total headers n both.0)
