-- The law of spawn at a test, by the word that it loads from a page of its own.
use Rattle.std.proofs.Common.{◌≡◌, ◌∙◌, ◌+◌, ◌*◌, ◌%◌, ◌≤◌, inl, ℕ, List, length, true, refl, ap, subst, arith}
use Rattle.std.specs.Prelude.{slice_index}
use Rattle.jos_base.specs.declared.numbers.TheConstants.{PGSIZE, SEGMENT_MAX, UTEMP}
use Rattle.jos_base.specs.Environments.{Slot, is_live}
use Rattle.jos_base.specs.KernelState.{KernelState, slot_at}
use Rattle.jos_base.specs.Words.{page_number, word_at}
use Rattle.jos_elf.specs.declared.numbers.TheConstants.{EHDR_LEN, PHDR_LEN}
use Rattle.lib_os.specs.declared.numbers.TheConstants.{SERVICE_SPAWN, SPAWN_GIVEN}
use Rattle.lib_os.specs.declared.place.Step.{Step}
use Rattle.lib_os.specs.declared.place.Step.TheVariants as step
use Rattle.lib_os.specs.declared.service.Service.TheVariants as service
use Rattle.lib_os.specs.declared.spawn_steps.SpawnStep.TheVariants as spawn
use Rattle.lib_os.specs.declared.spawn_steps.TestingStep.{TestingStep}
use Rattle.lib_os.specs.declared.spawn_steps.TestingStep.TheVariants as testing
use Rattle.lib_os.specs.AbstractState.{AbstractState, Born}
use Rattle.lib_os.specs.LibraryPages.{View}
use Rattle.lib_os.specs.Places.{place_of}
use Rattle.lib_os.specs.Rows.{Names}
use Rattle.lib_os.specs.StandsAtSpawn.{HasHeader, IsTesting, PageHas, TestingStands}
use Rattle.lib_os.specs.StandsFor.{StandsFor, view_of}
use Rattle.lib_os.specs.UserCalls.{answer_of, load}
use Rattle.lib_os.proofs.SpawnOwnPages.{keeps_own, own_word_loaded, spawn_there, spawns_at}
use Rattle.lib_os.proofs.WindowWords.{read_at}
use Rattle.lib_stage.specs.declared.ask.Ask.TheVariants as ask
use Rattle.lib_stage.specs.ServiceSteps.{ServiceHolds}
use Rattle.lib_stage.proofs.Laws.{FallsOrAsks}
use Rattle.lib_request.proofs.OwnPageLaws.{IsLoadedSo, own_load_known}
use Rattle.lib_request.proofs.SpawnGoes.{loaded_so}
use Rattle.lib_image.specs.TestingStages.{tested, testing_next}
use Rattle.lib_image.proofs.ImageFalls.{IsWithin, testing_falls}
use Rattle.lib_image.proofs.TestingGoes.{TestGoes}

-- ---- numbers

-- what is kept of a step is within its bounds where spawn stands there
pub stands_within : (v : View) (k : Slot) (b : Born) (path argv : ℕ) (at : TestingStep) → TestingStands v k b path argv at → IsWithin at
stands_within v k b path argv (testing.HeaderMagic esp fd size) h = tt
stands_within v k b path argv (testing.HeaderClass esp fd size) h = tt
stands_within v k b path argv (testing.HeaderKind esp fd size) h = tt
stands_within v k b path argv (testing.HeaderEntryPoint esp fd size) h = tt
stands_within v k b path argv (testing.HeaderTable esp fd size entry_point) h = tt
stands_within v k b path argv (testing.HeaderLength esp fd size entry_point place) h = tt
stands_within v k b path argv (testing.HeaderCount esp fd size entry_point place) h = tt
stands_within v k b path argv (testing.TableLoading esp fd size entry_point headers copied) h = let few = h.few in omega (arith, few)
stands_within v k b path argv (testing.TableStoring esp fd size entry_point headers copied word) h = let few = h.0.few in omega (arith, few)
stands_within v k b path argv (testing.SegmentKind esp fd size entry_point headers header) h = h.below
stands_within v k b path argv (testing.SegmentMemory esp fd size entry_point headers header) h = h.testing_it.below
stands_within v k b path argv (testing.SegmentAddress esp fd size entry_point headers header memory) h = h.testing_it.below
stands_within v k b path argv (testing.SegmentLength esp fd size entry_point headers header va memory) h = h.testing_it.below
stands_within v k b path argv (testing.SegmentOffset esp fd size entry_point headers header va memory length) h = h.testing_it.below
stands_within v k b path argv (testing.OtherKind esp fd size entry_point headers header va memory other) h = (h.testing_it.below, h.other_below)
stands_within v k b path argv (testing.OtherMemory esp fd size entry_point headers header va memory other) h =
    (h.comparing.testing_it.below, h.comparing.other_below)
stands_within v k b path argv (testing.OtherAddress esp fd size entry_point headers header va memory other other_memory) h =
    (h.comparing.testing_it.below, h.comparing.other_below)

-- ---- a word that is loaded

-- It stands in a page that spawn keeps of its own, and spawn goes on by it.
pub record LoadsOwn (v : View) (k : Slot) (b : Born) (path argv : ℕ) (at : TestingStep) (va : ℕ) : Type 0 where
  pub p : ℕ
  pub keeps : keeps_own (spawn.Testing at) p ≡ true
  pub bytes : List ℕ
  pub page : PageHas v p 0 bytes
  pub i : ℕ
  pub within : i + 4 ≤ length bytes
  pub fits : i + 4 ≤ PGSIZE
  pub aligned : i % 4 ≡ 0
  pub place : p * PGSIZE + (0 + i) ≡ va
  pub word : ℕ
  pub word_is : word_at (slice_index bytes) i ≡ word
  pub goes : TestGoes v k b path argv at (tested at word)

-- in the page of the header
pub header_loads : {v : View} {k : Slot} {b : Born} {path argv esp fd size : ℕ} (at : TestingStep) (h : HasHeader v k b path argv esp fd size) (i : ℕ) →
    i + 4 ≤ EHDR_LEN → i % 4 ≡ 0 → TestGoes v k b path argv at (tested at (word_at (slice_index h.header) i)) → LoadsOwn v k b path argv at (UTEMP + i)
header_loads at h i inside aligned goes = record {
  p = page_number UTEMP;
  keeps = refl;
  bytes = h.header;
  page = h.kept;
  i = i;
  within = let long = h.long in omega (arith, long, inside);
  fits = omega (arith, inside);
  aligned = aligned;
  place = omega arith;
  word = word_at (slice_index h.header) i;
  word_is = refl;
  goes = goes;
}

-- or in that of the program headers, of one of which
pub segment_loads : {v : View} {k : Slot} {b : Born} {path argv esp fd size entry_point headers header : ℕ} (at : TestingStep)
    (h : IsTesting v k b path argv esp fd size entry_point headers header) (one : ℕ) → one ≤ header → (place : ℕ) → place + 4 ≤ PHDR_LEN → place % 4 ≡ 0 →
    (word : ℕ) → word_at (slice_index h.so.table) (PHDR_LEN * one + place) ≡ word → TestGoes v k b path argv at (tested at word) →
    LoadsOwn v k b path argv at (SPAWN_GIVEN + PHDR_LEN * (one % SEGMENT_MAX) + place)
segment_loads {headers = headers} at h one most place inside aligned word word_is goes =
    let below = h.below in
    let few = h.so.few in
    let many = h.so.many in
    let whole = h.so.whole in
    record {
      p = page_number SPAWN_GIVEN;
      keeps = refl;
      bytes = h.so.table;
      page = h.kept;
      i = PHDR_LEN * one + place;
      within = omega (arith, most, below, many, whole, inside);
      fits = omega (arith, most, below, few, inside);
      aligned = omega (arith, aligned);
      place = omega (arith, most, below, few);
      word = word;
      word_is = word_is;
      goes = goes;
    }

-- ---- the law

module _ (s : KernelState) (n path argv : ℕ) (live : is_live (slot_at s n) ≡ true) (at : TestingStep)
    (stands : place_of (slot_at s n) ≡ spawns_at path argv (spawn.Testing at)) where
  abbrev home : ℕ
  home = (slot_at s n).directory

  abbrev from : Step
  from = step.Spawning (spawn.Testing at)

  pub test_falls : (word : ℕ) → FallsOrAsks s n (service.Spawn path argv) from (testing_next at word)
  test_falls word =
      λ a h turn.
      let there = spawn_there h.1 n path argv (spawn.Testing at) stands in
      inl (testing_falls path argv at word (stands_within (view_of s.spaces home) (slot_at s n) there.b path argv at there.at))

  module _ (va : ℕ) (loads : (v : View) (k : Slot) (b : Born) → TestingStands v k b path argv at → LoadsOwn v k b path argv at va) where
    word_loaded : (names : Names) (a : AbstractState) → StandsFor names s a →
        IsLoadedSo s n (service.Spawn path argv) a (testing_next at) va (load s n va)
    word_loaded names a h =
        let there = spawn_there h n path argv (spawn.Testing at) stands in
        let it = loads (view_of s.spaces home) (slot_at s n) there.b there.at in
        let fits = it.fits in
        let aligned = it.aligned in
        subst (λ (q : ℕ). IsLoadedSo s n (service.Spawn path argv) a (testing_next at) q (load s n q)) it.place
        (loaded_so h n path argv (spawn.Testing at) stands refl (testing_next at) it.word
        (own_word_loaded h n path argv (spawn.Testing at) stands it.p it.keeps 0 it.bytes it.page it.i it.within (omega (arith, fits)) (omega (arith, aligned))
        ∙ ap (read_at s n (it.p * PGSIZE + (0 + it.i))) it.word_is)
        (step.Spawning (tested at it.word)) refl it.goes)

    pub load_holds : ServiceHolds s n (record { number = SERVICE_SPAWN; asks = ask.Load va; next = λ called. testing_next at (answer_of called) })
    load_holds = own_load_known s n (service.Spawn path argv) from live refl stands (testing_next at) test_falls va word_loaded
