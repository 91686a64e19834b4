-- Spawn that is refused gives back the page of the stack, and that of the strings: nothing else is known of it there than with what it is refused.
use Rattle.std.proofs.Common.{◌≡◌, ◌≢◌, ◌==◌, ◌&&◌, ◌||◌, ℕ, Bool, true, false, List, [], refl, sym, arith}
use Rattle.std.proofs.lemmas.Bool.{false≢true}
use Rattle.std.proofs.lemmas.Bool.Decides.{nat_tests}
use Rattle.jos_base.specs.Environments.{Slot}
use Rattle.jos_base.specs.KernelState.{KernelState, slot_at, with_extra, with_spaces}
use Rattle.jos_base.specs.Words.{page_number}
use Rattle.lib_os.specs.declared.numbers.TheConstants.{SPAWN_GIVEN, SPAWN_HERE, SPAWN_STACK}
use Rattle.lib_os.specs.declared.progress.Progress.TheVariants as progress
use Rattle.lib_os.specs.declared.spawn_steps.SpawnStep.{SpawnStep}
use Rattle.lib_os.specs.declared.spawn_steps.SpawnStep.TheVariants as spawn
use Rattle.lib_os.specs.declared.spawn_steps.UndoingStep.TheVariants as undoing
use Rattle.lib_os.specs.AbstractState.{Born, Stage, Spawning}
use Rattle.lib_os.specs.InOrder.{IsInOrder}
use Rattle.lib_os.specs.LibrarySteps.{KeepsStanding}
use Rattle.lib_os.specs.Places.{place_of}
use Rattle.lib_os.specs.StandsAtSpawn.{Found, IsIn, Refuses, by_drop, by_file, by_given}
use Rattle.lib_os.proofs.KeptPages.{number_aside}
use Rattle.lib_os.proofs.SpawnOwnPages.{spawn_there, spawn_words, spawns_at}
use Rattle.lib_os.proofs.SpawnPagesTaken.{giving_keeps_at, without_page}

-- ---- what is so whatever its words are

module _ {k : Slot} {b : Born} {path argv : ℕ} (words : List ℕ) where
  in_with : {stage : Stage} → IsIn k b path argv stage → IsIn (record k { extra = words }) b path argv stage
  in_with h = record {
    regs = h.regs;
    program = h.program;
    eax = h.eax;
    registers = h.registers;
    phase = h.phase;
    silent = h.silent;
    awake = h.awake;
  }

  found_with : {stage : Stage} {found : Spawning} → Found k b path argv stage found → Found (record k { extra = words }) b path argv stage found
  found_with h = record { is_in = in_with h.is_in; is = h.is }

  pub refuses_with : {answer : ℕ} → Refuses k b path argv answer → Refuses (record k { extra = words }) b path argv answer
  refuses_with (by_given stage is_in wrongly is) = by_given stage (in_with is_in) wrongly is
  refuses_with (by_file all found none) = by_file all (found_with found) none
  refuses_with (by_drop found) = by_drop (found_with found)

-- ---- the pages

other_number : (q p : ℕ) → q ≢ p → (q == p) ≡ false
other_number q p other = grind (arith, nat_tests, other)

stack_alone : (c d e : Bool) → d ≡ false → ((c && true) || (d && true) || (e && false)) ≡ ((c && true) || (d && false) || (e && false))
stack_alone c false e off = refl
stack_alone c true e off = absurd (false≢true (sym off))

given_alone : (c d e : Bool) → c ≡ false → ((c && true) || (d && false) || (e && false)) ≡ ((c && false) || (d && false) || (e && false))
given_alone false d e off = refl
given_alone true d e off = absurd (false≢true (sym off))

module _ (s : KernelState) (n path argv error : ℕ) where
  abbrev with_both : SpawnStep
  with_both = spawn.Undoing (undoing.UndoingStack error)

  abbrev with_given : SpawnStep
  with_given = spawn.Undoing (undoing.UndoingGiven error)

  abbrev with_path : SpawnStep
  with_path = spawn.Undoing (undoing.UndoingPath error)

  -- that of the stack
  pub gives_stack_back : place_of (slot_at s n) ≡ spawns_at path argv with_both → IsInOrder (with_spaces s (without_page s n SPAWN_STACK refl)) →
      KeepsStanding progress.Hidden n s (with_extra (with_spaces s (without_page s n SPAWN_STACK refl)) n (spawn_words with_given)) []
  gives_stack_back stands order =
      giving_keeps_at s n path argv SPAWN_STACK with_both with_given stands refl refl (number_aside (page_number SPAWN_STACK) refl) refl
      (λ q other. stack_alone (q == page_number SPAWN_GIVEN) (q == page_number SPAWN_STACK) (q == page_number SPAWN_HERE)
      (other_number q (page_number SPAWN_STACK) other)) refl refl order
      (λ names a h. refuses_with (spawn_words with_given) (spawn_there h n path argv with_both stands).at)

  -- and that of the strings
  pub gives_given_back : place_of (slot_at s n) ≡ spawns_at path argv with_given → IsInOrder (with_spaces s (without_page s n SPAWN_GIVEN refl)) →
      KeepsStanding progress.Hidden n s (with_extra (with_spaces s (without_page s n SPAWN_GIVEN refl)) n (spawn_words with_path)) []
  gives_given_back stands order =
      giving_keeps_at s n path argv SPAWN_GIVEN with_given with_path stands refl refl (number_aside (page_number SPAWN_GIVEN) refl) refl
      (λ q other. given_alone (q == page_number SPAWN_GIVEN) (q == page_number SPAWN_STACK) (q == page_number SPAWN_HERE)
      (other_number q (page_number SPAWN_GIVEN) other)) refl refl order
      (λ names a h. refuses_with (spawn_words with_path) (spawn_there h n path argv with_given stands).at)
