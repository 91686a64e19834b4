-- Where spawn goes on as it reads a part of its file: at another step of the same part, or where the part is read, and its child with it where it bears one.
use Rattle.std.proofs.Common.{◌≡◌, ◌*◌, ◌≤◌, ℕ, List, refl, ap}
use Rattle.std.proofs.Math.Nat.{min-eq_left}
use Rattle.jos_base.specs.declared.numbers.TheConstants.{SEGMENT_MAX}
use Rattle.jos_base.specs.Environments.{Slot}
use Rattle.jos_base.specs.KernelState.{KernelState, slot_at, with_spaces}
use Rattle.jos_elf.specs.declared.numbers.TheConstants.{PHDR_LEN}
use Rattle.lib_os.specs.declared.place.Step.TheVariants as step
use Rattle.lib_os.specs.declared.service.Service.TheVariants as service
use Rattle.lib_os.specs.declared.spawn_steps.FilePart.{FilePart}
use Rattle.lib_os.specs.declared.spawn_steps.FilePart.TheVariants as part
use Rattle.lib_os.specs.declared.spawn_steps.ReadStep.{ReadStep}
use Rattle.lib_os.specs.declared.spawn_steps.SpawnStep.{SpawnStep}
use Rattle.lib_os.specs.declared.spawn_steps.SpawnStep.TheVariants as spawn
use Rattle.lib_os.specs.AbstractState.{AbstractState, Born}
use Rattle.lib_os.specs.InOrder.{IsInOrder}
use Rattle.lib_os.specs.LibraryPages.{View}
use Rattle.lib_os.specs.Places.{place_of}
use Rattle.lib_os.specs.Rows.{Names}
use Rattle.lib_os.specs.StandsAtSpawn.{IsBefore, StandsAtSpawn, before_header, before_piece, before_table}
use Rattle.lib_os.specs.StandsFor.{StandsFor, view_of}
use Rattle.lib_os.specs.UserCalls.{CallStep}
use Rattle.lib_os.proofs.Serving.{holds_page}
use Rattle.lib_os.proofs.SpawnedGoes.{goes_still}
use Rattle.lib_os.proofs.SpawnedTurns.{KeepsBearing, bears_none, bears_same}
use Rattle.lib_os.proofs.SpawnOwnPages.{IsStoredInto, spawn_there, spawn_words, spawns_at}
use Rattle.lib_os.proofs.WindowWords.{read_at}
use Rattle.lib_stage.specs.declared.ask.Next.{Next}
use Rattle.lib_request.proofs.BorneGoes.{borne_loaded_so, borne_stored_so}
use Rattle.lib_request.proofs.OwnPageLaws.{IsLoadedSo, IsStoredSo}
use Rattle.lib_request.proofs.SpawnGoes.{loaded_so, stored_so}
use Rattle.lib_image.specs.ReadingStages.{fd_of, first_of, wanted}
use Rattle.lib_image.specs.SpawnNexts.{goes_on}

-- ---- the part

module _ {v : View} {k : Slot} {b : Born} {path argv : ℕ} where
  pub fd_is : {wants : FilePart} {fd count place : ℕ} → IsBefore v k b path argv wants fd count place → fd_of wants ≡ fd
  fd_is (before_header esp fd size so sized long) = refl
  fd_is (before_table esp fd size entry_point headers place words header answer found sized stack begins many at few inside long passed come) = refl
  fd_is (before_piece fd headers child header done end place so next at) = refl

  pub count_is : {wants : FilePart} {fd count place : ℕ} → IsBefore v k b path argv wants fd count place → wanted wants ≡ count
  count_is (before_header esp fd size so sized long) = refl
  count_is (before_table esp fd size entry_point headers place words header answer found sized stack begins many at few inside long passed come) =
      let most : headers ≤ SEGMENT_MAX = few in ap (λ (n : ℕ). PHDR_LEN * n) (min-eq_left most)
  count_is (before_piece fd headers child header done end place so next at) = refl

  pub place_is : {wants : FilePart} {fd count place : ℕ} → IsBefore v k b path argv wants fd count place → first_of wants ≡ place
  place_is (before_header esp fd size so sized long) = refl
  place_is (before_table esp fd size entry_point headers place words header answer found sized stack begins many at few inside long passed come) = refl
  place_is (before_piece fd headers child header done end place so next at) = refl

-- ---- it bears the same child at each of these steps

pub reading_bears : (wants : FilePart) (from to : ReadStep) → KeepsBearing (spawn.Reading wants from) (spawn.Reading wants to)
reading_bears (part.Header esp fd size) from to = bears_none refl refl
reading_bears (part.Table esp fd size entry_point headers place) from to = bears_none refl refl
reading_bears (part.Piece fd headers child header done end place) from to =
    bears_same child refl refl (λ p. refl) (λ q is. is) (λ n progress is. is)

-- ---- it goes on

module _ {names : Names} {s : KernelState} {a : AbstractState} (h : StandsFor names s a) (n path argv : ℕ) (from to : SpawnStep)
    (stands : place_of (slot_at s n) ≡ spawns_at path argv from) (held : holds_page (spawns_at path argv from) ≡ holds_page (spawns_at path argv to))
    (next_of : ℕ → Next) where
  -- behind a load
  pub loaded_bearing : KeepsBearing from to → {va : ℕ} {call : CallStep ℕ} → (word : ℕ) → call ≡ read_at s n va word → next_of word ≡ goes_on to →
      StandsAtSpawn (view_of s.spaces (slot_at s n).directory) (record (slot_at s n) { extra = spawn_words to }) (spawn_there h n path argv from stands).b path
      argv to → IsLoadedSo s n (service.Spawn path argv) a next_of va call
  loaded_bearing (bears_none unborne unborne_after) word is next_is so =
      loaded_so h n path argv from stands unborne next_of word is (step.Spawning to) next_is
      (record { at = to; is = refl; held = held; unborne = unborne_after; stands = so })
  loaded_bearing (bears_same id bears bears_after childs told still) word is next_is so =
      borne_loaded_so h n path argv id from stands bears next_of word is (step.Spawning to) next_is (record {
        at = to;
        is = refl;
        held = held;
        bears = bears_after;
        childs = childs;
        told = told;
        goes = goes_still id from to still;
        stands = so;
      })

  -- behind a store
  pub stored_bearing : KeepsBearing from to → {p at : ℕ} {bytes : List ℕ} {call : CallStep (Unit {0})} →
      (it : IsStoredInto names s a n path argv from (spawn_there h n path argv from stands).b p at bytes call) → next_of 0 ≡ goes_on to →
      (IsInOrder (with_spaces s it.spaces) →
      StandsAtSpawn (view_of it.spaces (slot_at s n).directory) (record (slot_at s n) { extra = spawn_words to }) (spawn_there h n path argv from stands).b
      path argv to) → IsStoredSo s n (service.Spawn path argv) a next_of call
  stored_bearing (bears_none unborne unborne_after) it next_is so =
      stored_so h n path argv from stands unborne next_of it (step.Spawning to) next_is
      (λ order. record { at = to; is = refl; held = held; unborne = unborne_after; stands = so order })
  stored_bearing (bears_same id bears bears_after childs told still) it next_is so =
      borne_stored_so h n path argv id from stands bears next_of it (step.Spawning to) next_is (λ order. record {
        at = to;
        is = refl;
        held = held;
        bears = bears_after;
        childs = childs;
        told = told;
        goes = goes_still id from to still;
        stands = so order;
      })
