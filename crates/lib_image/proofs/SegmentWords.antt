-- The words of program headers tell what the tests of these tell.
use Rattle.std.proofs.Common.{◌≡◌, ◌∙◌, ◌+◌, ◌-◌, ◌*◌, ◌%◌, ◌<◌, ◌≤◌, ◌==◌, ◌&&◌, ◌||◌, ℕ, zero, suc, not, Bool, true, false, List, [], ◌∷◌, if◌then◌else◌, refl, sym, ap, subst, true≢false, arith}
use Rattle.std.specs.Prelude.{nat_le, nat_lt}
use Rattle.std.proofs.lemmas.Bool.{and_from, and_left, and_right, eqb-false, eqb-true, le-ltb, lt-ltb}
use Rattle.jos_base.specs.declared.numbers.TheConstants.{SEGMENT_MAX}
use Rattle.jos_elf.specs.declared.fault.ElfFault.TheVariants.{Overlap, SegmentRange, Truncated}
use Rattle.jos_elf.specs.declared.header.ProgramHeader.{ProgramHeader}
use Rattle.jos_elf.specs.declared.numbers.TheConstants.{P_FILESZ, P_MEMSZ, P_OFFSET, P_TYPE, P_VADDR, PHDR_LEN, PT_LOAD}
use Rattle.jos_elf.specs.Tests.{FaultTest, is_loaded, is_placed, leaves_free, overlap_tests, segment_tests, table_tests}
use Rattle.lib_os.specs.declared.numbers.TheConstants.{SPAWN_GIVEN}
use Rattle.lib_os.specs.declared.spawn_steps.BearingStep.TheVariants as bearing
use Rattle.lib_os.specs.declared.spawn_steps.SpawnStep.{SpawnStep}
use Rattle.lib_os.specs.declared.spawn_steps.SpawnStep.TheVariants as spawn
use Rattle.lib_os.specs.declared.spawn_steps.TestingStep.TheVariants as testing
use Rattle.lib_image.specs.SpawnNexts.{no_image}
use Rattle.lib_image.specs.TestingStages.{others_from, segments_from, where_holds}
use Rattle.lib_image.specs.WordTests.{are_apart, bytes_fit, lies_in_range}
use Rattle.lib_image.specs.WordLaws.{all_pass, Comes, HasSegment, segment_word, SegmentWordsTell, table_end}
use Rattle.lib_image.proofs.Passing.{at-end, branch, fails-cons, fails-rest, gate, onto, passes-append, passes-cons, passes-one}

-- ---- program headers

pub other-kind : (h : ProgramHeader) → (h.kind == PT_LOAD) ≡ false → is_loaded h ≡ false
unfolding is_loaded
other-kind h e = and_left (h.kind == PT_LOAD) (nat_lt 0 h.mem_len) e

pub no-memory : (h : ProgramHeader) → (h.mem_len == 0) ≡ true → is_loaded h ≡ false
unfolding is_loaded
no-memory h e = let none = eqb-true h.mem_len 0 e in and_right (h.kind == PT_LOAD) (nat_lt 0 h.mem_len) (le-ltb 0 h.mem_len (omega (arith, none)))

pub has-segment : (h : ProgramHeader) → (h.kind == PT_LOAD) ≡ true → (h.mem_len == 0) ≡ false → is_loaded h ≡ true
unfolding is_loaded
has-segment h e f =
    let some = eqb-false h.mem_len 0 f in and_from (h.kind == PT_LOAD) (nat_lt 0 h.mem_len) e (lt-ltb 0 h.mem_len (omega (arith, some)))

pub placed : (h : ProgramHeader) → nat_le h.file_len h.mem_len ≡ true → lies_in_range h.va h.mem_len ≡ true → is_placed h ≡ true
unfolding is_placed
placed h e f = and_from (nat_le h.file_len h.mem_len) (lies_in_range h.va h.mem_len) e f

pub long : (h : ProgramHeader) → nat_le h.file_len h.mem_len ≡ false → is_placed h ≡ false
unfolding is_placed
long h e = and_left (nat_le h.file_len h.mem_len) (lies_in_range h.va h.mem_len) e

pub misplaced : (h : ProgramHeader) → lies_in_range h.va h.mem_len ≡ false → is_placed h ≡ false
unfolding is_placed
misplaced h e = and_right (nat_le h.file_len h.mem_len) (lies_in_range h.va h.mem_len) e

not-there : (x y : Bool) → x ≡ false → (not x || y) ≡ true
not-there true y e = absurd (true≢false e)
not-there false y e = refl

there-so : (x y : Bool) → x ≡ true → (not x || y) ≡ y
there-so true y e = refl
there-so false y e = absurd (true≢false (sym e))

pub free-of-none : (a b : ProgramHeader) → is_loaded a ≡ false → leaves_free a b ≡ true
unfolding leaves_free
free-of-none a b e = not-there (is_loaded a) (are_apart b.va b.mem_len a.va a.mem_len) e

pub free-of-one : (a b : ProgramHeader) → is_loaded a ≡ true → leaves_free a b ≡ are_apart b.va b.mem_len a.va a.mem_len
unfolding leaves_free
free-of-one a b e = there-so (is_loaded a) (are_apart b.va b.mem_len a.va a.mem_len) e

module _ (size : ℕ) (headers : ℕ → ProgramHeader) where
  -- ---- lists of tests

  overlap-none : (p : ℕ) → all_pass (overlap_tests headers p 0) ≡ true
  unfolding overlap_tests
  overlap-none p = refl

  overlap-more : (p k : ℕ) → all_pass (overlap_tests headers p (k + 1)) ≡ (all_pass (overlap_tests headers p k) && leaves_free (headers k) (headers p))
  unfolding overlap_tests
  overlap-more p k =
      let q : k + 1 ≡ suc k = omega arith in
      rw q (passes-append (overlap_tests headers p k) ((leaves_free (headers k) (headers p), Overlap p k) ∷ [])
      ∙ ap (λ (b : Bool). all_pass (overlap_tests headers p k) && b) (passes-one (leaves_free (headers k) (headers p)) (Overlap p k)))

  overlap-fails : (p k d : ℕ) → all_pass (overlap_tests headers p k) ≡ false → all_pass (overlap_tests headers p (d + k)) ≡ false
  overlap-fails p k zero e = let q : 0 + k ≡ k = omega arith in rw q e
  overlap-fails p k (suc d) e =
      let q : suc d + k ≡ (d + k) + 1 = omega arith in
      rw q (overlap-more p (d + k) ∙ and_left _ _ (overlap-fails p k d e))

  -- of a segment: that its bytes stand in the file, and then these
  abbrev later_tests : ℕ → List FaultTest
  later_tests p = (is_placed (headers p), SegmentRange p) ∷ overlap_tests headers p p

  abbrev in_file : ℕ → Bool
  in_file p = bytes_fit size (headers p).file_at (headers p).file_len

  segment-passes : (p : ℕ) → in_file p ≡ true → is_placed (headers p) ≡ true → all_pass (overlap_tests headers p p) ≡ true
      → all_pass (segment_tests size headers p) ≡ true
  unfolding segment_tests
  segment-passes p e f g =
      passes-cons (in_file p) (Truncated size) (later_tests p) e
      (passes-cons (is_placed (headers p)) (SegmentRange p) (overlap_tests headers p p) f g)

  pub segment-short : (p : ℕ) → in_file p ≡ false → all_pass (segment_tests size headers p) ≡ false
  unfolding segment_tests
  segment-short p e = fails-cons (in_file p) (Truncated size) (later_tests p) e

  pub segment-misplaced : (p : ℕ) → is_placed (headers p) ≡ false → all_pass (segment_tests size headers p) ≡ false
  unfolding segment_tests
  segment-misplaced p e =
      fails-rest (in_file p) (Truncated size) (later_tests p)
      (fails-cons (is_placed (headers p)) (SegmentRange p) (overlap_tests headers p p) e)

  pub segment-overlaps : (p : ℕ) → all_pass (overlap_tests headers p p) ≡ false → all_pass (segment_tests size headers p) ≡ false
  unfolding segment_tests
  segment-overlaps p e =
      fails-rest (in_file p) (Truncated size) (later_tests p)
      (fails-rest (is_placed (headers p)) (SegmentRange p) (overlap_tests headers p p) e)

  table-none : all_pass (table_tests size headers 0) ≡ true
  unfolding table_tests
  table-none = refl

  table-more : (k : ℕ) → all_pass (table_tests size headers (k + 1))
      ≡ (all_pass (table_tests size headers k) && all_pass (if is_loaded (headers k) then segment_tests size headers k else []))
  unfolding table_tests
  table-more k =
      let q : k + 1 ≡ suc k = omega arith in
      rw q (passes-append (table_tests size headers k) (if is_loaded (headers k) then segment_tests size headers k else []))

  table-fails : (k d : ℕ) → all_pass (table_tests size headers k) ≡ false → all_pass (table_tests size headers (d + k)) ≡ false
  table-fails k zero e = let q : 0 + k ≡ k = omega arith in rw q e
  table-fails k (suc d) e =
      let q : suc d + k ≡ (d + k) + 1 = omega arith in rw q (table-more (d + k) ∙ and_left _ _ (table-fails k d e))

  table-skips : (k : ℕ) → all_pass (table_tests size headers k) ≡ true → is_loaded (headers k) ≡ false → all_pass (table_tests size headers (k + 1)) ≡ true
  table-skips k e f =
      table-more k ∙ and_from _ _ e (ap (λ (b : Bool). all_pass (if b then segment_tests size headers k else [])) f)

  table-goes : (k : ℕ) → all_pass (table_tests size headers k) ≡ true → is_loaded (headers k) ≡ true → all_pass (segment_tests size headers k) ≡ true
      → all_pass (table_tests size headers (k + 1)) ≡ true
  table-goes k e f g =
      table-more k ∙ and_from _ _ e (ap (λ (b : Bool). all_pass (if b then segment_tests size headers k else [])) f ∙ g)

  pub table-stops : (k n : ℕ) → k < n → is_loaded (headers k) ≡ true → all_pass (segment_tests size headers k) ≡ false → all_pass (table_tests size headers n) ≡ false
  table-stops k n lt f g =
      let more : all_pass (table_tests size headers (k + 1)) ≡ false =
      table-more k ∙ and_right _ _ (ap (λ (b : Bool). all_pass (if b then segment_tests size headers k else [])) f ∙ g) in
      let q : (n - (k + 1)) + (k + 1) ≡ n = omega (arith, lt) in
      subst (λ (m : ℕ). all_pass (table_tests size headers m) ≡ false) q (table-fails (k + 1) (n - (k + 1)) more)

-- ---- going through them

module _ (words : ℕ → ℕ) (headers : ℕ → ProgramHeader) (esp fd size entry_point n : ℕ) (few : n ≤ SEGMENT_MAX)
    (has : (header : ℕ) → header < n → HasSegment words header (headers header)) where
  abbrev comes_to : SpawnStep
  comes_to = table_end esp fd size entry_point n headers

  abbrev Reaches : SpawnStep → Type 0
  Reaches at = Comes words comes_to at

  -- the word of a program header, whose number is small
  word-of : (k place value : ℕ) → k < n → segment_word words k place ≡ value → words (SPAWN_GIVEN + PHDR_LEN * (k % SEGMENT_MAX) + place) ≡ value
  word-of k place value lt is =
      let small : k % SEGMENT_MAX ≡ k = omega (arith, lt, few) in ap (λ (h : ℕ). words (SPAWN_GIVEN + PHDR_LEN * h + place)) small ∙ is

  refused : (p : ℕ) → p < n → is_loaded (headers p) ≡ true → all_pass (segment_tests size headers p) ≡ false → comes_to ≡ no_image fd
  refused p lt f g =
      ap (λ (b : Bool). where_holds b fd (spawn.Bearing (bearing.MakingChild esp fd entry_point n))) (table-stops size headers p n lt f g)

  module _ (p : ℕ) (within : p < n) (passed : all_pass (table_tests size headers p) ≡ true)
      (onward : all_pass (table_tests size headers (p + 1)) ≡ true → Reaches (segments_from esp fd size entry_point n (p + 1))) where
    abbrev it : ProgramHeader
    it = headers p

    skipped : is_loaded it ≡ false → Reaches (segments_from esp fd size entry_point n (p + 1))
    skipped f = onward (table-skips size headers p passed f)

    module _ (is : is_loaded it ≡ true) (ranged : lies_in_range it.va it.mem_len ≡ true) (fits : nat_le it.file_len it.mem_len ≡ true)
        (fully : bytes_fit size it.file_at it.file_len ≡ true) where
      overlapped : (k : ℕ) → k < p → leaves_free (headers k) it ≡ false → comes_to ≡ no_image fd
      overlapped k lt e =
          let more : all_pass (overlap_tests headers p (k + 1)) ≡ false = overlap-more size headers p k ∙ and_right _ _ e in
          let q : (p - (k + 1)) + (k + 1) ≡ p = omega (arith, lt) in
          let all : all_pass (overlap_tests headers p p) ≡ false =
          subst (λ (m : ℕ). all_pass (overlap_tests headers p m) ≡ false) q (overlap-fails size headers p (k + 1) (p - (k + 1)) more) in
          refused p within is (segment-overlaps size headers p all)

      -- of one before it
      module _ (k : ℕ) (lt : k < p) (free : all_pass (overlap_tests headers p k) ≡ true)
          (go_on : leaves_free (headers k) it ≡ true → Reaches (others_from esp fd size entry_point n p it.va it.mem_len (k + 1))) where
        abbrev other : ProgramHeader
        other = headers k

        below : k < n
        below = omega (arith, lt, within)

        other-address-comes : is_loaded other ≡ true → Reaches (spawn.Testing (testing.OtherAddress esp fd size entry_point n p it.va it.mem_len k other.mem_len))
        other-address-comes one =
            onto words comes_to (testing.OtherAddress esp fd size entry_point n p it.va it.mem_len k other.mem_len) other.va
            (word-of k P_VADDR other.va below (has k below).va)
            (gate words comes_to (are_apart it.va it.mem_len other.va other.mem_len) fd (others_from esp fd size entry_point n p it.va it.mem_len (k + 1))
            (λ f. overlapped k lt (free-of-one other it one ∙ f))
            (λ f. go_on (free-of-one other it one ∙ f)))

        other-memory-comes : (other.kind == PT_LOAD) ≡ true → Reaches (spawn.Testing (testing.OtherMemory esp fd size entry_point n p it.va it.mem_len k))
        other-memory-comes loads =
            onto words comes_to (testing.OtherMemory esp fd size entry_point n p it.va it.mem_len k) other.mem_len
            (word-of k P_MEMSZ other.mem_len below (has k below).mem_len)
            (branch words comes_to (other.mem_len == 0) (others_from esp fd size entry_point n p it.va it.mem_len (k + 1))
            (spawn.Testing (testing.OtherAddress esp fd size entry_point n p it.va it.mem_len k other.mem_len))
            (λ empty. go_on (free-of-none other it (no-memory other empty)))
            (λ filled. other-address-comes (has-segment other loads filled)))

        other-comes : Reaches (spawn.Testing (testing.OtherKind esp fd size entry_point n p it.va it.mem_len k))
        other-comes =
            onto words comes_to (testing.OtherKind esp fd size entry_point n p it.va it.mem_len k) other.kind
            (word-of k P_TYPE other.kind below (has k below).kind)
            (branch words comes_to (other.kind == PT_LOAD) (spawn.Testing (testing.OtherMemory esp fd size entry_point n p it.va it.mem_len k))
            (others_from esp fd size entry_point n p it.va it.mem_len (k + 1))
            (λ loads. other-memory-comes loads)
            (λ differs. go_on (free-of-none other it (other-kind other differs))))

      others-come : (left k : ℕ) → left + k ≡ p → all_pass (overlap_tests headers p k) ≡ true
          → Reaches (others_from esp fd size entry_point n p it.va it.mem_len k)
      others-come zero k e free =
          let same : k ≡ p = omega (arith, e) in
          let all : all_pass (overlap_tests headers p p) ≡ true = subst (λ (m : ℕ). all_pass (overlap_tests headers p m) ≡ true) same free in
          let passes = segment-passes size headers p fully (placed it fits ranged) all in
          branch words comes_to (nat_lt k p) (spawn.Testing (testing.OtherKind esp fd size entry_point n p it.va it.mem_len k))
          (segments_from esp fd size entry_point n (p + 1))
          (λ h. absurd (true≢false (sym h ∙ le-ltb k p (omega (arith, same)))))
          (λ h. onward (table-goes size headers p passed is passes))
      others-come (suc left) k e free =
          let lt : k < p = omega (arith, e) in
          let rest : left + (k + 1) ≡ p = omega (arith, e) in
          branch words comes_to (nat_lt k p) (spawn.Testing (testing.OtherKind esp fd size entry_point n p it.va it.mem_len k))
          (segments_from esp fd size entry_point n (p + 1))
          (λ h. other-comes k lt free (λ f. others-come left (k + 1) rest (overlap-more size headers p k ∙ and_from _ _ free f)))
          (λ h. absurd (true≢false (sym (lt-ltb k p lt) ∙ h)))

    offset-comes : is_loaded it ≡ true → lies_in_range it.va it.mem_len ≡ true → nat_le it.file_len it.mem_len ≡ true
        → Reaches (spawn.Testing (testing.SegmentOffset esp fd size entry_point n p it.va it.mem_len it.file_len))
    offset-comes is ranged fits =
        onto words comes_to (testing.SegmentOffset esp fd size entry_point n p it.va it.mem_len it.file_len) it.file_at
        (word-of p P_OFFSET it.file_at within (has p within).file_at)
        (gate words comes_to (bytes_fit size it.file_at it.file_len) fd (others_from esp fd size entry_point n p it.va it.mem_len 0)
        (λ f. refused p within is (segment-short size headers p f))
        (λ fully. others-come is ranged fits fully p 0 (omega arith) (overlap-none size headers p)))

    length-comes : is_loaded it ≡ true → lies_in_range it.va it.mem_len ≡ true
        → Reaches (spawn.Testing (testing.SegmentLength esp fd size entry_point n p it.va it.mem_len))
    length-comes is ranged =
        onto words comes_to (testing.SegmentLength esp fd size entry_point n p it.va it.mem_len) it.file_len
        (word-of p P_FILESZ it.file_len within (has p within).file_len)
        (gate words comes_to (nat_le it.file_len it.mem_len) fd (spawn.Testing (testing.SegmentOffset esp fd size entry_point n p it.va it.mem_len it.file_len))
        (λ f. refused p within is (segment-misplaced size headers p (long it f)))
        (λ fits. offset-comes is ranged fits))

    address-comes : is_loaded it ≡ true → Reaches (spawn.Testing (testing.SegmentAddress esp fd size entry_point n p it.mem_len))
    address-comes is =
        onto words comes_to (testing.SegmentAddress esp fd size entry_point n p it.mem_len) it.va
        (word-of p P_VADDR it.va within (has p within).va)
        (gate words comes_to (lies_in_range it.va it.mem_len) fd (spawn.Testing (testing.SegmentLength esp fd size entry_point n p it.va it.mem_len))
        (λ f. refused p within is (segment-misplaced size headers p (misplaced it f)))
        (λ ranged. length-comes is ranged))

    memory-comes : (it.kind == PT_LOAD) ≡ true → Reaches (spawn.Testing (testing.SegmentMemory esp fd size entry_point n p))
    memory-comes loads =
        onto words comes_to (testing.SegmentMemory esp fd size entry_point n p) it.mem_len
        (word-of p P_MEMSZ it.mem_len within (has p within).mem_len)
        (branch words comes_to (it.mem_len == 0) (segments_from esp fd size entry_point n (p + 1))
        (spawn.Testing (testing.SegmentAddress esp fd size entry_point n p it.mem_len))
        (λ empty. skipped (no-memory it empty))
        (λ filled. address-comes (has-segment it loads filled)))

    segment-comes : Reaches (spawn.Testing (testing.SegmentKind esp fd size entry_point n p))
    segment-comes =
        onto words comes_to (testing.SegmentKind esp fd size entry_point n p) it.kind
        (word-of p P_TYPE it.kind within (has p within).kind)
        (branch words comes_to (it.kind == PT_LOAD) (spawn.Testing (testing.SegmentMemory esp fd size entry_point n p))
        (segments_from esp fd size entry_point n (p + 1))
        (λ loads. memory-comes loads)
        (λ differs. skipped (other-kind it differs)))

  segments-come : (left p : ℕ) → left + p ≡ n → all_pass (table_tests size headers p) ≡ true → Reaches (segments_from esp fd size entry_point n p)
  segments-come zero p e passed =
      let same : p ≡ n = omega (arith, e) in
      branch words comes_to (nat_lt p n) (spawn.Testing (testing.SegmentKind esp fd size entry_point n p))
      (spawn.Bearing (bearing.MakingChild esp fd entry_point n))
      (λ h. absurd (true≢false (sym h ∙ le-ltb p n (omega (arith, same)))))
      (λ h. at-end words comes_to (spawn.Bearing (bearing.MakingChild esp fd entry_point n))
      (ap (λ (b : Bool). where_holds b fd (spawn.Bearing (bearing.MakingChild esp fd entry_point n)))
      (subst (λ (m : ℕ). all_pass (table_tests size headers m) ≡ true) same passed)))
  segments-come (suc left) p e passed =
      let lt : p < n = omega (arith, e) in
      let rest : left + (p + 1) ≡ n = omega (arith, e) in
      branch words comes_to (nat_lt p n) (spawn.Testing (testing.SegmentKind esp fd size entry_point n p))
      (spawn.Bearing (bearing.MakingChild esp fd entry_point n))
      (λ h. segment-comes p lt passed (λ more. segments-come left (p + 1) rest more))
      (λ h. absurd (true≢false (sym (lt-ltb p n lt) ∙ h)))

pub segment_words_tell : SegmentWordsTell
segment_words_tell words headers esp fd size entry_point n few has =
    segments-come words headers esp fd size entry_point n few has n 0 (omega arith) (table-none size headers)
