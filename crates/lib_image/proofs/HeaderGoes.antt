-- Where spawn goes on by each word of its file's header: where that is as it should be more tests pass, and behind the last it reads the program headers.
use Rattle.std.proofs.Common.{◌≡◌, ◌∙◌, ◌+◌, ◌*◌, ◌^◌, ◌<◌, ℕ, true, refl, sym, ap, subst}
use Rattle.std.specs.Prelude.{nat_le, slice_index}
use Rattle.std.proofs.lemmas.Bool.{and_parts, leb-true}
use Rattle.jos_base.specs.declared.numbers.TheConstants.{SEGMENT_MAX}
use Rattle.jos_base.specs.Environments.{Slot}
use Rattle.jos_base.specs.Words.{word_at}
use Rattle.jos_elf.specs.declared.numbers.TheConstants.{E_ENTRY, E_PHNUM, E_PHOFF, E_TYPE, EI_CLASS, PHDR_LEN}
use Rattle.jos_elf.specs.Headers.{table_of}
use Rattle.lib_os.specs.declared.spawn_steps.FilePart.TheVariants as part
use Rattle.lib_os.specs.declared.spawn_steps.ReadStep.TheVariants as read
use Rattle.lib_os.specs.declared.spawn_steps.SpawnStep.{SpawnStep}
use Rattle.lib_os.specs.declared.spawn_steps.SpawnStep.TheVariants as spawn
use Rattle.lib_os.specs.declared.spawn_steps.TestingStep.{TestingStep}
use Rattle.lib_os.specs.declared.spawn_steps.TestingStep.TheVariants as testing
use Rattle.lib_os.specs.AbstractState.{Born}
use Rattle.lib_os.specs.LibraryPages.{View}
use Rattle.lib_os.specs.StandsAtSpawn.{HasTested, IsEntryPoint, IsTablePlace, before_table}
use Rattle.lib_os.proofs.PipeBytes.{word_under}
use Rattle.lib_os.proofs.SpawnOwnPages.{spawn_words}
use Rattle.lib_image.specs.TestingStages.{tested}
use Rattle.lib_image.specs.WordTests.{count_in, is_class, is_kind, is_length, is_magic, table_fits}
use Rattle.lib_image.proofs.HeaderTests.{class-fails, class-passes, count-fails, count-passes, kind-fails, kind-passes}
use Rattle.lib_image.proofs.HeaderTests.{length-fails, length-passes, magic-fails, magic-passes}
use Rattle.lib_image.proofs.HeaderWords.{count-tells}
use Rattle.lib_image.proofs.TestingGoes.{TestGoes, by_test_goes, no_header_goes, test_goes}
use Rattle.lib_image.proofs.TestingStays.{found_told, header_told}

module _ {v : View} {k : Slot} {b : Born} {path argv esp fd size : ℕ} where
  abbrev byte_of : {tests : ℕ} → HasTested v k b path argv esp fd size tests → ℕ → ℕ
  byte_of h = slice_index h.has.header

  pub magic_goes : (h : HasTested v k b path argv esp fd size 1) →
      TestGoes v k b path argv (testing.HeaderMagic esp fd size) (tested (testing.HeaderMagic esp fd size) (word_at (slice_index h.has.header) 0))
  magic_goes h =
      by_test_goes (testing.HeaderMagic esp fd size) (is_magic (word_at (byte_of h) 0)) fd (spawn.Testing (testing.HeaderClass esp fd size))
      (λ e. test_goes (testing.HeaderMagic esp fd size) (testing.HeaderClass esp fd size) (record {
        has = header_told (spawn_words (spawn.Testing (testing.HeaderClass esp fd size))) h.has;
        passed = magic-passes (byte_of h) size h.has.small h.passed e;
      }))
      (λ e. no_header_goes (testing.HeaderMagic esp fd size) h.has (magic-fails (byte_of h) size h.has.small e))

  pub class_goes : (h : HasTested v k b path argv esp fd size 2) →
      TestGoes v k b path argv (testing.HeaderClass esp fd size) (tested (testing.HeaderClass esp fd size) (word_at (slice_index h.has.header) EI_CLASS))
  class_goes h =
      by_test_goes (testing.HeaderClass esp fd size) (is_class (word_at (byte_of h) EI_CLASS)) fd (spawn.Testing (testing.HeaderKind esp fd size))
      (λ e. test_goes (testing.HeaderClass esp fd size) (testing.HeaderKind esp fd size) (record {
        has = header_told (spawn_words (spawn.Testing (testing.HeaderKind esp fd size))) h.has;
        passed = class-passes (byte_of h) size h.has.small h.passed e;
      }))
      (λ e. no_header_goes (testing.HeaderClass esp fd size) h.has (class-fails (byte_of h) size h.has.small e))

  pub kind_goes : (h : HasTested v k b path argv esp fd size 3) →
      TestGoes v k b path argv (testing.HeaderKind esp fd size) (tested (testing.HeaderKind esp fd size) (word_at (slice_index h.has.header) E_TYPE))
  kind_goes h =
      by_test_goes (testing.HeaderKind esp fd size) (is_kind (word_at (byte_of h) E_TYPE)) fd (spawn.Testing (testing.HeaderEntryPoint esp fd size))
      (λ e. test_goes (testing.HeaderKind esp fd size) (testing.HeaderEntryPoint esp fd size) (record {
        has = header_told (spawn_words (spawn.Testing (testing.HeaderEntryPoint esp fd size))) h.has;
        passed = kind-passes (byte_of h) size h.has.small h.passed e;
      }))
      (λ e. no_header_goes (testing.HeaderKind esp fd size) h.has (kind-fails (byte_of h) size h.has.small e))

  pub entry_point_goes : (h : HasTested v k b path argv esp fd size 5) →
      TestGoes v k b path argv (testing.HeaderEntryPoint esp fd size)
      (tested (testing.HeaderEntryPoint esp fd size) (word_at (slice_index h.has.header) E_ENTRY))
  entry_point_goes h =
      let to : TestingStep = testing.HeaderTable esp fd size (word_at (byte_of h) E_ENTRY) in
      test_goes (testing.HeaderEntryPoint esp fd size) to
      (record { has = header_told (spawn_words (spawn.Testing to)) h.has; passed = h.passed }, refl)

  module _ (entry_point : ℕ) where
    pub table_goes : (h : HasTested v k b path argv esp fd size 5) → IsEntryPoint h entry_point →
        TestGoes v k b path argv (testing.HeaderTable esp fd size entry_point)
        (tested (testing.HeaderTable esp fd size entry_point) (word_at (slice_index h.has.header) E_PHOFF))
    table_goes h entry =
        let to : TestingStep = testing.HeaderLength esp fd size entry_point (word_at (byte_of h) E_PHOFF) in
        test_goes (testing.HeaderTable esp fd size entry_point) to
        (record { has = header_told (spawn_words (spawn.Testing to)) h.has; passed = h.passed }, entry, refl)

    module _ (place : ℕ) where
      pub length_goes : (h : HasTested v k b path argv esp fd size 5) → IsEntryPoint h entry_point → IsTablePlace h place →
          TestGoes v k b path argv (testing.HeaderLength esp fd size entry_point place)
          (tested (testing.HeaderLength esp fd size entry_point place) (word_at (slice_index h.has.header) 40))
      length_goes h entry stands =
          by_test_goes (testing.HeaderLength esp fd size entry_point place) (is_length (word_at (byte_of h) 40)) fd
          (spawn.Testing (testing.HeaderCount esp fd size entry_point place))
          (λ e. test_goes (testing.HeaderLength esp fd size entry_point place) (testing.HeaderCount esp fd size entry_point place) (
            record {
              has = header_told (spawn_words (spawn.Testing (testing.HeaderCount esp fd size entry_point place))) h.has;
              passed = length-passes (byte_of h) size h.has.small h.passed e;
            },
            entry,
            stands,
          ))
          (λ e. no_header_goes (testing.HeaderLength esp fd size entry_point place) h.has (length-fails (byte_of h) size h.has.small e))

      -- behind the last, the program headers are read
      module _ (h : HasTested v k b path argv esp fd size 6) (entry : IsEntryPoint h entry_point) (stands : IsTablePlace h place) where
        abbrev from : TestingStep
        from = testing.HeaderCount esp fd size entry_point place

        abbrev count : ℕ
        count = count_in (word_at (byte_of h) E_PHNUM)

        abbrev reading : SpawnStep
        reading = spawn.Reading (part.Table esp fd size entry_point count place) read.LoadingNumber

        below : entry_point < 2 ^ 32
        below = subst (λ (e : ℕ). e < 2 ^ 32) (sym entry) (word_under h.has.header E_ENTRY h.has.small)

        same_fits : table_fits size place count ≡ table_fits size (table_of (byte_of h)) count
        same_fits = ap (λ (p : ℕ). table_fits size p count) stands

        reads_table : table_fits size place count ≡ true → TestGoes v k b path argv from reading
        reads_table e =
            let fits = and_parts (nat_le count SEGMENT_MAX) (nat_le (place + PHDR_LEN * count) size) e in
            record {
              at = reading;
              is = refl;
              held = refl;
              unborne = refl;
              stands = record {
                fd = fd;
                count = PHDR_LEN * count;
                place = place;
                before =
                    before_table esp fd size entry_point count place h.has.words h.has.header h.has.answer
                    (found_told (spawn_words reading) h.has.found) h.has.of_file h.has.stack (entry, below) (count-tells (byte_of h) size h.has.small) stands
                    (leb-true count SEGMENT_MAX fits.0) (leb-true (place + PHDR_LEN * count) size fits.1) h.has.long
                    (count-passes (byte_of h) size h.has.small h.passed (sym same_fits ∙ e)) h.has.come;
                of_file = h.has.of_file.of_file;
              };
            }

        pub count_goes : TestGoes v k b path argv from (tested from (word_at (slice_index h.has.header) E_PHNUM))
        count_goes =
            by_test_goes from (table_fits size place count) fd reading reads_table
            (λ e. no_header_goes from h.has (count-fails (byte_of h) size h.has.small (sym same_fits ∙ e)))
