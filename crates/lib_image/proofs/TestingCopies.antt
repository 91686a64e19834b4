-- The law of spawn as it copies the program headers of its file, word by word, out of the page in which they came: behind the last it tests their segments.
use Rattle.std.proofs.Common.{◌≡◌, ◌∙◌, ◌+◌, ◌*◌, ◌%◌, ◌≤◌, ◌++◌, ℕ, Bool, true, false, List, length, if◌then◌else◌, refl, ap, subst, arith}
use Rattle.std.specs.Int.{w32, to_le_bytes}
use Rattle.std.specs.Prelude.{min, nat_lt, slice_index, take}
use Rattle.std.proofs.Math.Nat.{min-eq_left}
use Rattle.std.proofs.lemmas.Bool.{ltb-false, ltb-true}
use Rattle.std.proofs.lemmas.List.{length-take-le, take_all}
use Rattle.jos_base.specs.declared.numbers.TheConstants.{PGSIZE, SEGMENT_MAX, UTEMP}
use Rattle.jos_base.specs.Environments.{Slot, is_live}
use Rattle.jos_base.specs.KernelState.{KernelState, slot_at}
use Rattle.jos_base.specs.Words.{page_number, word_at}
use Rattle.jos_elf.proofs.Tests.{table-none}
use Rattle.lib_os.specs.declared.numbers.TheConstants.{PAGE_WORDS, SPAWN_GIVEN}
use Rattle.lib_os.specs.declared.place.Step.TheVariants as step
use Rattle.lib_os.specs.declared.service.Service.TheVariants as service
use Rattle.lib_os.specs.declared.spawn_steps.SpawnStep.TheVariants as spawn
use Rattle.lib_os.specs.declared.spawn_steps.TestingStep.{TestingStep}
use Rattle.lib_os.specs.declared.spawn_steps.TestingStep.TheVariants as testing
use Rattle.lib_os.specs.AbstractSpawn.{headers_in}
use Rattle.lib_os.specs.AbstractState.{AbstractState, Born}
use Rattle.lib_os.specs.LibraryPages.{View}
use Rattle.lib_os.specs.Places.{place_of}
use Rattle.lib_os.specs.Rows.{Names}
use Rattle.lib_os.specs.StandsAtSpawn.{GivenHas, HasHeaders, IsCopyingHeaders, TestingStands}
use Rattle.lib_os.specs.StandsFor.{StandsFor, view_of}
use Rattle.lib_os.specs.UserCalls.{store}
use Rattle.lib_os.proofs.PagesPut.{IsPutIn, page_beside, page_more}
use Rattle.lib_os.proofs.SpawnOwnPages.{own_word_stored, spawn_there, spawn_words, spawns_at}
use Rattle.lib_stage.specs.ServiceSteps.{ServiceHolds}
use Rattle.lib_stage.proofs.Laws.{is_word_beside}
use Rattle.lib_request.proofs.OwnPageLaws.{IsStoredSo, own_store_known, own_word_beside}
use Rattle.lib_request.proofs.SpawnGoes.{stored_so}
use Rattle.lib_image.specs.declared.stage.ImageStage.TheVariants as stage
use Rattle.lib_image.specs.ImageStages.{imaging}
use Rattle.lib_image.specs.TestingStages.{segments_from, tested, testing_next, word_place}
use Rattle.lib_image.proofs.SegmentGoes.{segments_go}
use Rattle.lib_image.proofs.TestingGoes.{TestGoes, test_goes}
use Rattle.lib_image.proofs.TestingLists.{word_copied}
use Rattle.lib_image.proofs.TestingLoads.{LoadsOwn, test_falls}
use Rattle.lib_image.proofs.TestingStays.{copying_told, headers_beside, headers_told}

module _ {v : View} {k : Slot} {b : Born} {path argv esp fd size entry_point headers copied : ℕ} where
  -- ---- a word is loaded

  pub copy_loads : IsCopyingHeaders v k b path argv esp fd size entry_point headers copied →
      LoadsOwn v k b path argv (testing.TableLoading esp fd size entry_point headers copied) (UTEMP + word_place copied)
  copy_loads h =
      let less = h.few in
      let few = h.so.few in
      let many = h.so.many in
      let whole = h.so.whole in
      let word : ℕ = word_at (slice_index h.so.table) (4 * copied) in
      let to : TestingStep = testing.TableStoring esp fd size entry_point headers copied word in
      record {
        p = page_number UTEMP;
        keeps = refl;
        bytes = h.so.table;
        page = h.kept;
        i = 4 * copied;
        within = omega (arith, less, many, whole);
        fits = omega (arith, less, few);
        aligned = omega arith;
        place = omega (arith, less, few);
        word = word;
        word_is = refl;
        goes = test_goes (testing.TableLoading esp fd size entry_point headers copied) to (copying_told (spawn_words (spawn.Testing to)) h, refl);
      }

  -- ---- it is stored

  module _ {w : View} (word : ℕ) (put : IsPutIn v w (page_number SPAWN_GIVEN) (4 * copied) (to_le_bytes w32 word))
      (h : IsCopyingHeaders v k b path argv esp fd size entry_point headers copied) (is : word ≡ word_at (slice_index h.so.table) (4 * copied)) where
    abbrev from : TestingStep
    from = testing.TableStoring esp fd size entry_point headers copied word

    so : HasHeaders w k b path argv esp fd size entry_point headers
    so = headers_beside put h.so

    long : 4 * copied + 4 ≤ length h.so.table
    long =
        let less = h.few in
        let many = h.so.many in
        let whole = h.so.whole in
        omega (arith, less, many, whole)

    -- one word more
    more : GivenHas w (take (4 * copied + 4) h.so.table)
    more =
        let before = length-take-le (4 * copied) h.so.table (let within = long in omega (arith, within)) in
        subst (λ (l : List ℕ). GivenHas w l)
        (ap (λ (x : ℕ). take (4 * copied) h.so.table ++ to_le_bytes w32 x) is ∙ word_copied h.so.table (4 * copied) h.so.small long)
        (page_more put (omega (arith, before)) h.copied_are)

    pub copied_goes : TestGoes w k b path argv from (tested from 0)
    copied_goes = by_more (nat_lt (copied + 1) (8 * min headers SEGMENT_MAX)) refl
      where
        least : min headers SEGMENT_MAX ≡ headers
        least = min-eq_left h.so.few

        by_more : (c : Bool) → nat_lt (copied + 1) (8 * min headers SEGMENT_MAX) ≡ c → TestGoes w k b path argv from
            (if c then spawn.Testing (testing.TableLoading esp fd size entry_point headers (copied + 1))
            else segments_from esp fd size entry_point headers 0)
        by_more true test =
            let to : TestingStep = testing.TableLoading esp fd size entry_point headers (copied + 1) in
            let below = ltb-true (copied + 1) (8 * min headers SEGMENT_MAX) test in
            let few = least in
            let place : 4 * copied + 4 ≡ 4 * (copied + 1) = omega arith in
            test_goes from to (record {
              so = headers_told (spawn_words (spawn.Testing to)) (headers_beside put h.so);
              kept = page_beside put (λ same. absurd (omega (arith, same))) h.kept;
              few = omega (arith, below, few);
              copied_are = subst (λ (m : ℕ). GivenHas w (take m h.so.table)) place more;
            })
        by_more false test =
            let past = ltb-false (copied + 1) (8 * min headers SEGMENT_MAX) test in
            let few = least in
            let many = h.so.many in
            let whole = h.so.whole in
            segments_go w k b path argv esp fd size entry_point headers from (headers_beside put h.so)
            (subst (λ (l : List ℕ). GivenHas w l) (take_all (4 * copied + 4) h.so.table (omega (arith, past, few, many, whole))) more) 0
            (omega arith) (table-none size (headers_in h.so.table))

-- ---- the law of the store

-- whatever the number is, it lies in the page of the program headers
copy_beside : (copied : ℕ) → is_word_beside (SPAWN_GIVEN + word_place copied) ≡ true
copy_beside copied =
    let whole : page_number SPAWN_GIVEN * PGSIZE + 4 * (copied % PAGE_WORDS) ≡ SPAWN_GIVEN + word_place copied = omega arith in
    subst (λ (va : ℕ). is_word_beside va ≡ true) whole
    (own_word_beside (page_number SPAWN_GIVEN) (4 * (copied % PAGE_WORDS)) (omega arith) refl)

module _ (s : KernelState) (n path argv : ℕ) (live : is_live (slot_at s n) ≡ true) (esp fd size entry_point headers copied word : ℕ)
    (stands : place_of (slot_at s n) ≡ spawns_at path argv (spawn.Testing (testing.TableStoring esp fd size entry_point headers copied word))) where
  abbrev home : ℕ
  home = (slot_at s n).directory

  abbrev storing : TestingStep
  storing = testing.TableStoring esp fd size entry_point headers copied word

  stores_word : (names : Names) (a : AbstractState) → StandsFor names s a →
      IsStoredSo s n (service.Spawn path argv) a (testing_next storing) (store s n (SPAWN_GIVEN + word_place copied) word)
  stores_word names a h =
      let there = spawn_there h n path argv (spawn.Testing storing) stands in
      let has : TestingStands (view_of s.spaces home) (slot_at s n) there.b path argv storing = there.at in
      let less = has.0.few in
      let few = has.0.so.few in
      let it =
      own_word_stored h n path argv (spawn.Testing storing) stands (page_number SPAWN_GIVEN) refl (4 * copied) word (omega (arith, less, few)) in
      let place : page_number SPAWN_GIVEN * PGSIZE + 4 * copied ≡ SPAWN_GIVEN + word_place copied = omega (arith, less, few) in
      subst (λ (va : ℕ). IsStoredSo s n (service.Spawn path argv) a (testing_next storing) (store s n va word)) place
      (stored_so h n path argv (spawn.Testing storing) stands refl (testing_next storing) it (step.Spawning (tested storing 0)) refl
      (λ order. copied_goes word (it.put order) has.0 has.1))

  pub table_storing_holds : ServiceHolds s n (imaging (stage.Testing storing))
  table_storing_holds =
      own_store_known s n (service.Spawn path argv) (step.Spawning (spawn.Testing storing)) live refl stands (testing_next storing)
      (test_falls s n path argv live storing stands) (SPAWN_GIVEN + word_place copied) word (copy_beside copied) stores_word
