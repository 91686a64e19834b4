-- Where spawn goes on from one of its tests: at the next, with what it has found out, or it drops its file, which is no image.
use Rattle.std.proofs.Common.{◌≡◌, ◌≢◌, inr, ℕ, Bool, true, false, if◌then◌else◌, refl, subst}
use Rattle.std.specs.Prelude.{None, slice_index}
use Rattle.jos_base.specs.Environments.{Slot}
use Rattle.jos_elf.specs.Tests.{first_failed, header_tests, table_tests}
use Rattle.lib_os.specs.declared.place.Step.TheVariants as step
use Rattle.lib_os.specs.declared.spawn_steps.SpawnStep.{SpawnStep}
use Rattle.lib_os.specs.declared.spawn_steps.SpawnStep.TheVariants as spawn
use Rattle.lib_os.specs.declared.spawn_steps.TestingStep.{TestingStep}
use Rattle.lib_os.specs.AbstractSpawn.{headers_in}
use Rattle.lib_os.specs.AbstractState.{Born}
use Rattle.lib_os.specs.LibraryPages.{View}
use Rattle.lib_os.specs.StandsAtSpawn.{HasHeader, HasHeaders, TestingStands, no_header, no_table}
use Rattle.lib_os.proofs.SpawnOwnPages.{spawn_words}
use Rattle.lib_request.proofs.SpawnGoes.{GoesTo}
use Rattle.lib_image.specs.SpawnNexts.{no_image}
use Rattle.lib_image.specs.TestingStages.{where_holds}
use Rattle.lib_image.specs.WordLaws.{all_pass}
use Rattle.lib_image.proofs.TestingLists.{failed_some}
use Rattle.lib_image.proofs.TestingStays.{found_told}

-- it goes on so from one of its tests
abbrev pub TestGoes : View → Slot → Born → ℕ → ℕ → TestingStep → SpawnStep → Type 0
TestGoes v k b path argv from to = GoesTo v k b path argv (spawn.Testing from) (step.Spawning to)

module _ {v : View} {k : Slot} {b : Born} {path argv : ℕ} (from : TestingStep) where
  -- at another
  pub test_goes : (to : TestingStep) → TestingStands v (record k { extra = spawn_words (spawn.Testing to) }) b path argv to →
      TestGoes v k b path argv from (spawn.Testing to)
  test_goes to so = record { at = spawn.Testing to; is = refl; held = refl; unborne = refl; stands = so }

  -- where the header fails a test
  pub no_header_goes : {esp fd size : ℕ} (h : HasHeader v k b path argv esp fd size) → all_pass (header_tests size (slice_index h.header)) ≡ false →
      TestGoes v k b path argv from (no_image fd)
  no_header_goes {fd = fd} {size = size} h fails = record {
    at = no_image fd;
    is = refl;
    held = refl;
    unborne = refl;
    stands =
        no_header size h.words h.header h.answer (found_told (spawn_words (no_image fd)) h.found) h.of_file h.come
        (inr (failed_some (header_tests size (slice_index h.header)) fails)) refl;
  }

  -- or the program headers do
  pub no_table_goes : {esp fd size entry_point headers : ℕ} (h : HasHeaders v k b path argv esp fd size entry_point headers) →
      all_pass (table_tests size (headers_in h.table) headers) ≡ false → TestGoes v k b path argv from (no_image fd)
  no_table_goes {fd = fd} {size = size} {headers = headers} h fails = record {
    at = no_image fd;
    is = refl;
    held = refl;
    unborne = refl;
    stands =
        no_table size h.words h.header h.table h.answer (found_told (spawn_words (no_image fd)) h.found) h.of_file h.come
        (inr (subst (λ (n : ℕ). first_failed (table_tests size (headers_in h.table) n) ≢ None) h.many
        (failed_some (table_tests size (headers_in h.table) headers) fails))) refl;
  }

  -- by a test
  pub by_test_goes : (holds : Bool) (fd : ℕ) (to : SpawnStep) → (holds ≡ true → TestGoes v k b path argv from to) →
      (holds ≡ false → TestGoes v k b path argv from (no_image fd)) → TestGoes v k b path argv from (where_holds holds fd to)
  by_test_goes true fd to goes fails = goes refl
  by_test_goes false fd to goes fails = fails refl

  -- by a choice
  pub by_choice_goes : (test : Bool) (one other : SpawnStep) → (test ≡ true → TestGoes v k b path argv from one) →
      (test ≡ false → TestGoes v k b path argv from other) → TestGoes v k b path argv from (if test then one else other)
  by_choice_goes true one other so not_so = so refl
  by_choice_goes false one other so not_so = not_so refl
