-- The law of spawn as it loads a word of a program header while it bears its child: by that word it goes on to another of its steps.
use Rattle.std.proofs.Common.{◌≡◌, ◌∙◌, ◌+◌, ◌*◌, ◌%◌, ◌<◌, ◌≤◌, ℕ, Some, true, refl, subst, arith}
use Rattle.std.specs.Prelude.{slice_index}
use Rattle.jos_base.specs.declared.numbers.TheConstants.{PGSIZE, SEGMENT_MAX}
use Rattle.jos_base.specs.Environments.{Slot, is_live}
use Rattle.jos_base.specs.KernelState.{KernelState, slot_at}
use Rattle.jos_base.specs.Words.{page_number, word_at}
use Rattle.jos_elf.specs.declared.numbers.TheConstants.{PHDR_LEN}
use Rattle.lib_os.specs.declared.numbers.TheConstants.{SPAWN_GIVEN}
use Rattle.lib_os.specs.declared.place.Step.{Step}
use Rattle.lib_os.specs.declared.place.Step.TheVariants as step
use Rattle.lib_os.specs.declared.service.Service.TheVariants as service
use Rattle.lib_os.specs.declared.spawn_steps.BearingStep.{BearingStep}
use Rattle.lib_os.specs.declared.spawn_steps.SpawnStep.TheVariants as spawn
use Rattle.lib_os.specs.AbstractState.{AbstractState, Born, ImageRead}
use Rattle.lib_os.specs.LibraryPages.{View}
use Rattle.lib_os.specs.Places.{place_of}
use Rattle.lib_os.specs.Rows.{Names}
use Rattle.lib_os.specs.SpawnedChild.{bearing_child}
use Rattle.lib_os.specs.StandsAtSpawn.{HasImage}
use Rattle.lib_os.specs.StandsFor.{StandsFor, view_of}
use Rattle.lib_os.specs.UserCalls.{load}
use Rattle.lib_os.proofs.SpawnOwnPages.{own_word_loaded, spawn_there, spawns_at}
use Rattle.lib_stage.specs.declared.ask.Next.TheVariants as next
use Rattle.lib_stage.specs.ServiceSteps.{ServiceHolds}
use Rattle.lib_file.proofs.Finds.{staged}
use Rattle.lib_image.specs.TestingStages.{segment_asked}
use Rattle.lib_request.proofs.BorneGoes.{BorneGoesTo, borne_loaded_so}
use Rattle.lib_request.proofs.OwnPageLaws.{IsLoadedSo, own_load_known}
use Rattle.lib_child.specs.BearingStages.{next_of}
use Rattle.lib_child.proofs.BearingFalls.{bearing_known}

-- It has the program headers of its image, and goes on by a word of one of them.
pub record LoadsHeader (v : View) (k : Slot) (b : Born) (path argv id : ℕ) (at : BearingStep) (header place : ℕ) : Type 0 where
  pub image : ImageRead
  pub headers : ℕ
  pub whole : HasImage v image headers
  pub below : header < headers
  pub to : Step
  pub next_is : next_of at (word_at (slice_index image.table) (PHDR_LEN * header + place)) ≡ next.GoOn to
  pub goes : BorneGoesTo v k b path argv id (spawn.Bearing at) to

module _ (s : KernelState) (n path argv id : ℕ) (live : is_live (slot_at s n) ≡ true) (at : BearingStep)
    (stands : place_of (slot_at s n) ≡ spawns_at path argv (spawn.Bearing at)) (bears : bearing_child at ≡ Some id) (header place : ℕ)
    (inside : place + 4 ≤ PHDR_LEN) (aligned : place % 4 ≡ 0)
    (loads : (names : Names) (a : AbstractState) (h : StandsFor names s a) → LoadsHeader (view_of s.spaces (slot_at s n).directory) (slot_at s n)
    (spawn_there h n path argv (spawn.Bearing at) stands).b path argv id at header place) where
  abbrev va : ℕ
  va = SPAWN_GIVEN + PHDR_LEN * (header % SEGMENT_MAX) + place

  word_loaded : (names : Names) (a : AbstractState) → StandsFor names s a → IsLoadedSo s n (service.Spawn path argv) a (next_of at) va (load s n va)
  word_loaded names a h =
      let it = loads names a h in
      let below = it.below in
      let few = it.whole.few in
      let many = it.whole.many in
      let whole = it.whole.whole in
      let i : ℕ = PHDR_LEN * header + place in
      let where_is : page_number SPAWN_GIVEN * PGSIZE + (0 + i) ≡ va = omega (arith, below, few) in
      subst (λ (q : ℕ). IsLoadedSo s n (service.Spawn path argv) a (next_of at) q (load s n q)) where_is
      (borne_loaded_so h n path argv id (spawn.Bearing at) stands bears (next_of at) (word_at (slice_index it.image.table) i)
      (own_word_loaded h n path argv (spawn.Bearing at) stands (page_number SPAWN_GIVEN) refl 0 it.image.table it.whole.table i
      (omega (arith, below, many, whole, inside)) (omega (arith, below, few, inside)) (omega (arith, aligned))) it.to it.next_is it.goes)

  pub header_load_holds : ServiceHolds s n (staged (service.Spawn path argv) (segment_asked header place) (next_of at))
  header_load_holds =
      own_load_known s n (service.Spawn path argv) (step.Spawning (spawn.Bearing at)) live refl stands (next_of at)
      (bearing_known s n path argv at stands) va word_loaded
