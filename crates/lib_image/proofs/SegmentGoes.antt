-- Where spawn goes on by each word of a program header: its segment passes its tests, and those of the segments before it, or the file is no image.
use Rattle.std.proofs.Common.{◌≡◌, ◌∙◌, ◌+◌, ◌<◌, ◌≤◌, ◌==◌, ◌∷◌, ℕ, Bool, true, false, [], if◌then◌else◌, None, Option, refl, ap, subst, arith}
use Rattle.std.specs.Prelude.{is_none, nat_le, nat_lt, take}
use Rattle.std.proofs.lemmas.Bool.{eq-eqb, eqb-true, le-leb, leb-true, ltb-false, ltb-true}
use Rattle.jos_base.specs.Environments.{Slot}
use Rattle.jos_elf.specs.declared.fault.ElfFault.{ElfFault}
use Rattle.jos_elf.specs.declared.fault.ElfFault.TheVariants.{SegmentRange, Truncated}
use Rattle.jos_elf.specs.declared.header.ProgramHeader.{ProgramHeader}
use Rattle.jos_elf.specs.declared.numbers.TheConstants.{PT_LOAD}
use Rattle.jos_elf.specs.Tests.{first_failed, is_loaded, is_placed, leaves_free, overlap_tests, segment_tests, table_tests}
use Rattle.jos_elf.proofs.Tests.{overlap-failed, overlap-none, overlap-passed, passed-append, passed-cons, table-passed, table-passed_over}
use Rattle.lib_os.specs.declared.spawn_steps.BearingStep.TheVariants as bearing
use Rattle.lib_os.specs.declared.spawn_steps.SpawnStep.{SpawnStep}
use Rattle.lib_os.specs.declared.spawn_steps.SpawnStep.TheVariants as spawn
use Rattle.lib_os.specs.declared.spawn_steps.TestingStep.{TestingStep}
use Rattle.lib_os.specs.declared.spawn_steps.TestingStep.TheVariants as testing
use Rattle.lib_os.specs.AbstractSpawn.{headers_in}
use Rattle.lib_os.specs.AbstractState.{Born}
use Rattle.lib_os.specs.LibraryPages.{View}
use Rattle.lib_os.specs.StandsAtSpawn.{GivenHas, HasHeaders, HasLength, HasMemory, IsComparing, IsComparingWith, IsOfKind, IsTesting, IsTestingSegment}
use Rattle.lib_os.specs.StandsAtSpawn.{LiesAt}
use Rattle.lib_os.proofs.SpawnOwnPages.{spawn_words}
use Rattle.lib_image.specs.SpawnNexts.{no_image}
use Rattle.lib_image.specs.TestingStages.{others_from, segments_from, tested}
use Rattle.lib_image.specs.WordLaws.{all_pass}
use Rattle.lib_image.specs.WordTests.{are_apart, bytes_fit, lies_in_range}
use Rattle.lib_image.proofs.SegmentWords.{free-of-none, free-of-one, has-segment, long, misplaced, no-memory, other-kind, placed}
use Rattle.lib_image.proofs.SegmentWords.{segment-misplaced, segment-overlaps, segment-short, table-stops}
use Rattle.lib_image.proofs.TestingGoes.{TestGoes, by_choice_goes, by_test_goes, no_table_goes, test_goes}
use Rattle.lib_image.proofs.TestingStays.{comparing_told, headers_told, testing_told}

-- ---- the tests of a segment

module _ (size : ℕ) (all : ℕ → ProgramHeader) (header : ℕ) where
  abbrev in_file : Bool
  in_file = bytes_fit size (all header).file_at (all header).file_len

  -- its own two
  alone_passes : in_file ≡ true → is_placed (all header) ≡ true → first_failed (take 2 (segment_tests size all header)) ≡ None
  unfolding segment_tests
  alone_passes fits lies =
      passed-cons in_file (Truncated size) ((is_placed (all header), SegmentRange header) ∷ []) fits
      (passed-cons (is_placed (all header)) (SegmentRange header) [] lies refl)

  -- and those with each before it
  segment_passes : first_failed (take 2 (segment_tests size all header)) ≡ None → first_failed (overlap_tests all header header) ≡ None →
      first_failed (segment_tests size all header) ≡ None
  unfolding segment_tests
  segment_passes alone apart =
      passed-append ((in_file, Truncated size) ∷ (is_placed (all header), SegmentRange header) ∷ []) (overlap_tests all header header) alone ∙ apart

  -- where it shares a byte with one of those
  segment_shares : (other : ℕ) → other < header → first_failed (overlap_tests all header other) ≡ None → leaves_free (all other) (all header) ≡ false →
      all_pass (segment_tests size all header) ≡ false
  segment_shares other below apart shares =
      segment-overlaps size all header (ap (λ (o : Option ElfFault). is_none o) (overlap-failed all header other header below apart shares))

module _ (v : View) (k : Slot) (b : Born) (path argv esp fd size entry_point headers : ℕ) where
  -- ---- the next program header

  pub segments_go : (from : TestingStep) (so : HasHeaders v k b path argv esp fd size entry_point headers) → GivenHas v so.table → (header : ℕ) →
      header ≤ headers → first_failed (table_tests size (headers_in so.table) header) ≡ None →
      TestGoes v k b path argv from (segments_from esp fd size entry_point headers header)
  segments_go from so kept header most passed = by_more (nat_lt header headers) refl
    where
      by_more : (more : Bool) → nat_lt header headers ≡ more → TestGoes v k b path argv from
          (if more then spawn.Testing (testing.SegmentKind esp fd size entry_point headers header)
          else spawn.Bearing (bearing.MakingChild esp fd entry_point headers))
      by_more true is =
          test_goes from (testing.SegmentKind esp fd size entry_point headers header) (record {
            so = headers_told (spawn_words (spawn.Testing (testing.SegmentKind esp fd size entry_point headers header))) so;
            kept = kept;
            below = ltb-true header headers is;
            passed = passed;
          })
      by_more false is =
          let past = ltb-false header headers is in
          let last : header ≡ headers = omega (arith, most, past) in
          record {
            at = spawn.Bearing (bearing.MakingChild esp fd entry_point headers);
            is = refl;
            held = refl;
            unborne = refl;
            stands = record {
              size = size;
              so = headers_told (spawn_words (spawn.Bearing (bearing.MakingChild esp fd entry_point headers))) so;
              kept = kept;
              passed = subst (λ (n : ℕ). first_failed (table_tests size (headers_in so.table) n) ≡ None) last passed;
            };
          }

  module _ (header : ℕ) where
    abbrev Testing : Type 0
    Testing = IsTesting v k b path argv esp fd size entry_point headers header

    abbrev TestingIts : (ProgramHeader → Type 0) → Type 0
    TestingIts known = IsTestingSegment v k b path argv esp fd size entry_point headers header known

    abbrev it_of : Testing → ProgramHeader
    it_of h = headers_in h.so.table header

    abbrev Goes : TestingStep → SpawnStep → Type 0
    Goes from to = TestGoes v k b path argv from to

    -- this one has no segment
    passed_over : (from : TestingStep) (h : Testing) → is_loaded (it_of h) ≡ false → Goes from (segments_from esp fd size entry_point headers (header + 1))
    passed_over from h none =
        let below = h.below in
        segments_go from h.so h.kept (header + 1) (omega (arith, below)) (table-passed_over size (headers_in h.so.table) header h.passed none)

    -- its segment fails a test
    refused : (from : TestingStep) (h : Testing) → is_loaded (it_of h) ≡ true → all_pass (segment_tests size (headers_in h.so.table) header) ≡ false →
        Goes from (no_image fd)
    refused from h loaded fails =
        no_table_goes from h.so (table-stops size (headers_in h.so.table) header headers h.below loaded fails)

    pub kind_goes : (h : Testing) → Goes (testing.SegmentKind esp fd size entry_point headers header)
        (tested (testing.SegmentKind esp fd size entry_point headers header) (it_of h).kind)
    kind_goes h =
        by_choice_goes (testing.SegmentKind esp fd size entry_point headers header) ((it_of h).kind == PT_LOAD)
        (spawn.Testing (testing.SegmentMemory esp fd size entry_point headers header)) (segments_from esp fd size entry_point headers (header + 1))
        (λ e. test_goes (testing.SegmentKind esp fd size entry_point headers header) (testing.SegmentMemory esp fd size entry_point headers header) (record {
          testing_it = testing_told (spawn_words (spawn.Testing (testing.SegmentMemory esp fd size entry_point headers header))) h;
          so = eqb-true (it_of h).kind PT_LOAD e;
        }))
        (λ e. passed_over (testing.SegmentKind esp fd size entry_point headers header) h (other-kind (it_of h) e))

    pub memory_goes : (h : TestingIts IsOfKind) → Goes (testing.SegmentMemory esp fd size entry_point headers header)
        (tested (testing.SegmentMemory esp fd size entry_point headers header) (it_of h.testing_it).mem_len)
    memory_goes h =
        let from : TestingStep = testing.SegmentMemory esp fd size entry_point headers header in
        let it : ProgramHeader = it_of h.testing_it in
        let to : TestingStep = testing.SegmentAddress esp fd size entry_point headers header it.mem_len in
        by_choice_goes from (it.mem_len == 0) (segments_from esp fd size entry_point headers (header + 1)) (spawn.Testing to)
        (λ e. passed_over from h.testing_it (no-memory it e))
        (λ e. test_goes from to (record {
          testing_it = testing_told (spawn_words (spawn.Testing to)) h.testing_it;
          so = (has-segment it (eq-eqb it.kind PT_LOAD h.so) e, refl);
        }))

    module _ (memory : ℕ) where
      pub address_goes : (h : TestingIts (HasMemory memory)) → Goes (testing.SegmentAddress esp fd size entry_point headers header memory)
          (tested (testing.SegmentAddress esp fd size entry_point headers header memory) (it_of h.testing_it).va)
      address_goes h =
          let from : TestingStep = testing.SegmentAddress esp fd size entry_point headers header memory in
          let it : ProgramHeader = it_of h.testing_it in
          let to : TestingStep = testing.SegmentLength esp fd size entry_point headers header it.va memory in
          let same : lies_in_range it.va it.mem_len ≡ lies_in_range it.va memory = ap (λ (m : ℕ). lies_in_range it.va m) h.so.1 in
          by_test_goes from (lies_in_range it.va memory) fd (spawn.Testing to)
          (λ e. test_goes from to
          (record { testing_it = testing_told (spawn_words (spawn.Testing to)) h.testing_it; so = (h.so, refl, same ∙ e) }))
          (λ e. refused from h.testing_it h.so.0 (segment-misplaced size (headers_in h.testing_it.so.table) header (misplaced it (same ∙ e))))

      module _ (va : ℕ) where
        pub length_goes : (h : TestingIts (LiesAt va memory)) → Goes (testing.SegmentLength esp fd size entry_point headers header va memory)
            (tested (testing.SegmentLength esp fd size entry_point headers header va memory) (it_of h.testing_it).file_len)
        length_goes h =
            let from : TestingStep = testing.SegmentLength esp fd size entry_point headers header va memory in
            let it : ProgramHeader = it_of h.testing_it in
            let to : TestingStep = testing.SegmentOffset esp fd size entry_point headers header va memory it.file_len in
            let same : nat_le it.file_len it.mem_len ≡ nat_le it.file_len memory = ap (λ (m : ℕ). nat_le it.file_len m) h.so.0.1 in
            by_test_goes from (nat_le it.file_len memory) fd (spawn.Testing to)
            (λ e. test_goes from to (record {
              testing_it = testing_told (spawn_words (spawn.Testing to)) h.testing_it;
              so = (h.so, refl, leb-true it.file_len memory e);
            }))
            (λ e. refused from h.testing_it h.so.0.0 (segment-misplaced size (headers_in h.testing_it.so.table) header (long it (same ∙ e))))

        -- ---- the segments before it

        -- the next of them
        others_go : (from : TestingStep) (h : Testing) → HasMemory memory (it_of h) × ((it_of h).va ≡ va) →
            first_failed (take 2 (segment_tests size (headers_in h.so.table) header)) ≡ None → (other : ℕ) → other ≤ header →
            first_failed (overlap_tests (headers_in h.so.table) header other) ≡ None →
            Goes from (others_from esp fd size entry_point headers header va memory other)
        others_go from h lies alone other most apart = by_more (nat_lt other header) refl
          where
            by_more : (more : Bool) → nat_lt other header ≡ more → Goes from
                (if more then spawn.Testing (testing.OtherKind esp fd size entry_point headers header va memory other)
                else segments_from esp fd size entry_point headers (header + 1))
            by_more true is =
                test_goes from (testing.OtherKind esp fd size entry_point headers header va memory other) (record {
                  testing_it = testing_told (spawn_words (spawn.Testing (testing.OtherKind esp fd size entry_point headers header va memory other))) h;
                  lies = lies;
                  alone = alone;
                  other_below = ltb-true other header is;
                  apart = apart;
                })
            by_more false is =
                let past = ltb-false other header is in
                let last : other ≡ header = omega (arith, most, past) in
                let below = h.below in
                segments_go from h.so h.kept (header + 1) (omega (arith, below))
                (table-passed size (headers_in h.so.table) header h.passed lies.0.0
                (segment_passes size (headers_in h.so.table) header alone
                (subst (λ (n : ℕ). first_failed (overlap_tests (headers_in h.so.table) header n) ≡ None) last apart)))

        module _ (length : ℕ) where
          pub offset_goes : (h : TestingIts (HasLength va memory length)) → Goes (testing.SegmentOffset esp fd size entry_point headers header va memory length)
              (tested (testing.SegmentOffset esp fd size entry_point headers header va memory length) (it_of h.testing_it).file_at)
          offset_goes h =
              let from : TestingStep = testing.SegmentOffset esp fd size entry_point headers header va memory length in
              let it : ProgramHeader = it_of h.testing_it in
              let same : bytes_fit size it.file_at it.file_len ≡ bytes_fit size it.file_at length = ap (λ (n : ℕ). bytes_fit size it.file_at n) h.so.1 in
              let room : nat_le it.file_len it.mem_len ≡ true =
              (λ i. nat_le (h.so.1 i) (h.so.0.0.1 i)) ∙ le-leb length memory h.so.2 in
              by_test_goes from (bytes_fit size it.file_at length) fd (others_from esp fd size entry_point headers header va memory 0)
              (λ e. others_go from h.testing_it (h.so.0.0, h.so.0.1)
              (alone_passes size (headers_in h.testing_it.so.table) header (same ∙ e) (placed it room h.so.0.2)) 0 (omega arith)
              (overlap-none (headers_in h.testing_it.so.table) header))
              (λ e. refused from h.testing_it h.so.0.0.0 (segment-short size (headers_in h.testing_it.so.table) header (same ∙ e)))

        module _ (other : ℕ) where
          abbrev Comparing : Type 0
          Comparing = IsComparing v k b path argv esp fd size entry_point headers header va memory other

          abbrev ComparingIts : (ProgramHeader → Type 0) → Type 0
          ComparingIts known = IsComparingWith v k b path argv esp fd size entry_point headers header va memory other known

          abbrev other_of : Comparing → ProgramHeader
          other_of h = headers_in h.testing_it.so.table other

          -- it lies elsewhere than the other one
          apart_goes : (from : TestingStep) (h : Comparing) → leaves_free (other_of h) (it_of h.testing_it) ≡ true →
              Goes from (others_from esp fd size entry_point headers header va memory (other + 1))
          apart_goes from h free =
              let below = h.other_below in
              others_go from h.testing_it h.lies h.alone (other + 1) (omega (arith, below))
              (overlap-passed (headers_in h.testing_it.so.table) header other h.apart free)

          pub other_kind_goes : (h : Comparing) → Goes (testing.OtherKind esp fd size entry_point headers header va memory other)
              (tested (testing.OtherKind esp fd size entry_point headers header va memory other) (other_of h).kind)
          other_kind_goes h =
              let from : TestingStep = testing.OtherKind esp fd size entry_point headers header va memory other in
              let to : TestingStep = testing.OtherMemory esp fd size entry_point headers header va memory other in
              by_choice_goes from ((other_of h).kind == PT_LOAD) (spawn.Testing to)
              (others_from esp fd size entry_point headers header va memory (other + 1))
              (λ e. test_goes from to
              (record { comparing = comparing_told (spawn_words (spawn.Testing to)) h; so = eqb-true (other_of h).kind PT_LOAD e }))
              (λ e. apart_goes from h (free-of-none (other_of h) (it_of h.testing_it) (other-kind (other_of h) e)))

          pub other_memory_goes : (h : ComparingIts IsOfKind) → Goes (testing.OtherMemory esp fd size entry_point headers header va memory other)
              (tested (testing.OtherMemory esp fd size entry_point headers header va memory other) (other_of h.comparing).mem_len)
          other_memory_goes h =
              let from : TestingStep = testing.OtherMemory esp fd size entry_point headers header va memory other in
              let one : ProgramHeader = other_of h.comparing in
              let to : TestingStep = testing.OtherAddress esp fd size entry_point headers header va memory other one.mem_len in
              by_choice_goes from (one.mem_len == 0) (others_from esp fd size entry_point headers header va memory (other + 1)) (spawn.Testing to)
              (λ e. apart_goes from h.comparing (free-of-none one (it_of h.comparing.testing_it) (no-memory one e)))
              (λ e. test_goes from to (record {
                comparing = comparing_told (spawn_words (spawn.Testing to)) h.comparing;
                so = (has-segment one (eq-eqb one.kind PT_LOAD h.so) e, refl);
              }))

          pub other_address_goes : (other_memory : ℕ) (h : ComparingIts (HasMemory other_memory)) →
              Goes (testing.OtherAddress esp fd size entry_point headers header va memory other other_memory)
              (tested (testing.OtherAddress esp fd size entry_point headers header va memory other other_memory) (other_of h.comparing).va)
          other_address_goes other_memory h =
              let from : TestingStep = testing.OtherAddress esp fd size entry_point headers header va memory other other_memory in
              let one : ProgramHeader = other_of h.comparing in
              let it : ProgramHeader = it_of h.comparing.testing_it in
              let lies = h.comparing.lies in
              let same : leaves_free one it ≡ are_apart va memory one.va other_memory =
              free-of-one one it h.so.0 ∙ (λ i. are_apart (lies.1 i) (lies.0.1 i) one.va (h.so.1 i)) in
              by_test_goes from (are_apart va memory one.va other_memory) fd (others_from esp fd size entry_point headers header va memory (other + 1))
              (λ e. apart_goes from h.comparing (same ∙ e))
              (λ e. refused from h.comparing.testing_it lies.0.0
              (segment_shares size (headers_in h.comparing.testing_it.so.table) header other h.comparing.other_below h.comparing.apart (same ∙ e)))
