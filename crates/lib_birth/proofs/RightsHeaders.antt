-- The law of spawn as it loads a word of a program header while it sets the rights of its child's pages: by that word it goes on to another of its steps.
use Rattle.std.proofs.Common.{◌≡◌, ◌+◌, ◌*◌, ◌%◌, ◌<◌, ◌≤◌, inl, ℕ, Bool, true, false, refl, sym, subst, arith, if◌then◌else◌}
use Rattle.std.specs.Prelude.{slice_index}
use Rattle.jos_base.specs.declared.numbers.TheConstants.{PGSIZE, SEGMENT_MAX}
use Rattle.jos_base.specs.Environments.{Slot, is_live}
use Rattle.jos_base.specs.KernelState.{KernelState, slot_at}
use Rattle.jos_base.specs.Words.{page_number, word_at}
use Rattle.jos_elf.specs.declared.numbers.TheConstants.{PHDR_LEN}
use Rattle.lib_os.specs.declared.numbers.TheConstants.{SERVICE_SPAWN, SPAWN_GIVEN}
use Rattle.lib_os.specs.declared.place.Step.TheVariants as step
use Rattle.lib_os.specs.declared.service.Service.TheVariants as service
use Rattle.lib_os.specs.declared.spawn_steps.FinishingStep.{FinishingStep}
use Rattle.lib_os.specs.declared.spawn_steps.SpawnStep.{SpawnStep}
use Rattle.lib_os.specs.declared.spawn_steps.SpawnStep.TheVariants as spawn
use Rattle.lib_os.specs.AbstractState.{AbstractState, Born, ImageRead}
use Rattle.lib_os.specs.LibraryPages.{View}
use Rattle.lib_os.specs.Places.{place_of}
use Rattle.lib_os.specs.Rows.{Names}
use Rattle.lib_os.specs.SpawnedChild.{finishing_child}
use Rattle.lib_os.specs.StandsAtSpawn.{FinishingStands, HasImage}
use Rattle.lib_os.specs.StandsFor.{StandsFor, view_of}
use Rattle.lib_os.specs.UserCalls.{answer_of, load}
use Rattle.lib_os.proofs.SpawnOwnPages.{keeps_own, own_word_loaded, spawn_there, spawns_at}
use Rattle.lib_stage.specs.declared.ask.Next.{Next}
use Rattle.lib_stage.specs.ServiceSteps.{ServiceHolds}
use Rattle.lib_stage.proofs.Laws.{Falls, FallsOrAsks}
use Rattle.lib_image.specs.SpawnNexts.{goes_on}
use Rattle.lib_image.specs.TestingStages.{segment_asked}
use Rattle.lib_request.proofs.BorneGoes.{BorneGoesTo, borne_loaded_so}
use Rattle.lib_request.proofs.OwnPageLaws.{IsLoadedSo, own_load_known}
use Rattle.lib_birth.specs.FinishingStages.{finishing_next}

-- one of two steps comes next
pub choice_is : (c : Bool) (a b : SpawnStep) → (if c then goes_on a else goes_on b) ≡ goes_on (if c then a else b)
choice_is true a b = refl
choice_is false a b = refl

-- It has the program headers of its image, and goes on by a word of one of them; less is left then, by whatever word.
pub record LoadsHeader (v : View) (k : Slot) (b : Born) (path argv : ℕ) (at : FinishingStep) (nexts : ℕ → SpawnStep) (header place : ℕ) : Type 0 where
  pub image : ImageRead
  pub headers : ℕ
  pub whole : HasImage v image headers
  pub below : header < headers
  pub goes : BorneGoesTo v k b path argv (finishing_child at) (spawn.Finishing at)
      (step.Spawning (nexts (word_at (slice_index image.table) (PHDR_LEN * header + place))))
  pub falls : (word : ℕ) → Falls (service.Spawn path argv) (step.Spawning (spawn.Finishing at)) (finishing_next at word)

module _ (s : KernelState) (n path argv : ℕ) (live : is_live (slot_at s n) ≡ true) (at : FinishingStep)
    (stands : place_of (slot_at s n) ≡ spawns_at path argv (spawn.Finishing at)) (given : keeps_own (spawn.Finishing at) (page_number SPAWN_GIVEN) ≡ true)
    (nexts : ℕ → SpawnStep)
    (next_is : (word : ℕ) → finishing_next at word ≡ goes_on (nexts word)) (header place : ℕ) (inside : place + 4 ≤ PHDR_LEN) (aligned : place % 4 ≡ 0)
    (loads : (v : View) (b : Born) → FinishingStands v (slot_at s n) b path argv at → LoadsHeader v (slot_at s n) b path argv at nexts header place) where
  abbrev from : SpawnStep
  from = spawn.Finishing at

  loads_at : (names : Names) (a : AbstractState) (h : StandsFor names s a) →
      LoadsHeader (view_of s.spaces (slot_at s n).directory) (slot_at s n) (spawn_there h n path argv (spawn.Finishing at) stands).b path argv at nexts header place
  loads_at names a h =
      let there = spawn_there h n path argv from stands in loads (view_of s.spaces (slot_at s n).directory) there.b there.at

  abbrev va : ℕ
  va = SPAWN_GIVEN + PHDR_LEN * (header % SEGMENT_MAX) + place

  word_loaded : (names : Names) (a : AbstractState) → StandsFor names s a → IsLoadedSo s n (service.Spawn path argv) a (finishing_next at) va (load s n va)
  word_loaded names a h =
      let it = loads_at names a h in
      let below = it.below in
      let few = it.whole.few in
      let many = it.whole.many in
      let whole = it.whole.whole in
      let i : ℕ = PHDR_LEN * header + place in
      let word : ℕ = word_at (slice_index it.image.table) i in
      let where_is : page_number SPAWN_GIVEN * PGSIZE + (0 + i) ≡ va = omega (arith, below, few) in
      subst (λ (q : ℕ). IsLoadedSo s n (service.Spawn path argv) a (finishing_next at) q (load s n q)) where_is
      (borne_loaded_so h n path argv (finishing_child at) from stands refl (finishing_next at) word
      (own_word_loaded h n path argv from stands (page_number SPAWN_GIVEN) given 0 it.image.table it.whole.table i
      (omega (arith, below, many, whole, inside)) (omega (arith, below, few, inside)) (omega (arith, aligned))) (step.Spawning (nexts word)) (next_is word) it.goes)

  known : (word : ℕ) → FallsOrAsks s n (service.Spawn path argv) (step.Spawning (spawn.Finishing at)) (finishing_next at word)
  known word =
      subst (λ (x : Next). FallsOrAsks s n (service.Spawn path argv) (step.Spawning from) x) (sym (next_is word))
      (λ a h turn. inl
      (subst (λ (x : Next). Falls (service.Spawn path argv) (step.Spawning from) x) (next_is word) ((loads_at h.0 a h.1).falls word)))

  pub header_load_holds : ServiceHolds s n
      (record { number = SERVICE_SPAWN; asks = segment_asked header place; next = λ called. finishing_next at (answer_of called) })
  header_load_holds =
      own_load_known s n (service.Spawn path argv) (step.Spawning (spawn.Finishing at)) live refl stands (finishing_next at) known va word_loaded
