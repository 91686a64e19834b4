-- The lock of a pipe is held for six steps at most, none of which waits, and the test for a closed pipe takes eight.
use Rattle.std.proofs.Common.{◌≡◌, ◌<◌, ◌≤◌, ◌==◌, ℕ, Bool, true, false, refl, arith, if◌then◌else◌}
use Rattle.std.specs.Prelude.{nat_lt}
use Rattle.lib_os.specs.declared.place.PipeStep.{PipeStep}
use Rattle.lib_os.specs.declared.place.PipeStep.TheVariants as pipe
use Rattle.lib_os.specs.declared.place.Step.TheVariants as step
use Rattle.lib_os.specs.PipeEnds.{holds_lock}
use Rattle.lib_stage.specs.declared.ask.Next.{Next}
use Rattle.lib_stage.specs.declared.ask.Next.TheVariants as next
use Rattle.lib_pipe.specs.declared.ends.PipeService.{PipeService}
use Rattle.lib_pipe.specs.declared.ends.PipeService.TheVariants as of
use Rattle.lib_pipe.specs.declared.ends.PipeStage.{PipeStage}
use Rattle.lib_pipe.specs.declared.ends.PipeStage.TheVariants as stage
use Rattle.lib_pipe.specs.PipeStages.{all_moved, is_stuck, next_of, next_of_stuck, next_to_move, piped, seems_stuck, stage_of, wanted}
use Rattle.lib_pipe.specs.ShortLocks.{LocksAreShort, TestsAreShort, left_behind, left_in, locked_steps, test_steps, waits}

-- so much is left behind what is done next, which waits for nothing
abbrev Goes : (PipeStage → ℕ) → Next → ℕ → Type 0
Goes left x most = (left_behind left x < most) × (waits x ≡ false)

held_there : (at : PipeStep) → holds_lock at ≡ nat_lt 0 (left_in locked_steps (stage_of at))
held_there pipe.EndMode = refl
held_there pipe.TakingBytes = refl
held_there (pipe.Locking done id runs) = refl
held_there (pipe.LockPausing done) = refl
held_there (pipe.ReadFrom done id runs) = refl
held_there (pipe.ReadTo done id runs from) = refl
held_there (pipe.LoadingHeld done from) = refl
held_there (pipe.KeepingHeld done from byte) = refl
held_there (pipe.TakingHeld done from) = refl
held_there (pipe.LoadingOwn done to) = refl
held_there (pipe.PuttingOwn done to byte) = refl
held_there (pipe.Putting done to) = refl
held_there (pipe.UnlockingMoved done) = refl
held_there (pipe.UnlockingEnd done) = refl
held_there (pipe.UnlockingTest done id runs) = refl
held_there (pipe.TestIdentifying done) = refl
held_there (pipe.TestRuns done id) = refl
held_there (pipe.TestAgain done id runs) = refl
held_there (pipe.TestOwn done id runs) = refl
held_there (pipe.TestOther done id runs own) = refl
held_there (pipe.TestDescriptor done id runs) = refl
held_there (pipe.TestDescriptorCount done id runs entry) = refl
held_there (pipe.TestPipe done id runs count) = refl
held_there (pipe.TestPipeCount done id runs count entry) = refl
held_there (pipe.TestRunsAgain done id runs closed) = refl
held_there (pipe.TestPausing done) = refl
held_there pipe.StatLocking = refl
held_there pipe.StatPausing = refl
held_there pipe.StatFrom = refl
held_there (pipe.StatTo from) = refl
held_there (pipe.StatUnlocking held) = refl
held_there (pipe.SecondEntry first fd) = refl
held_there (pipe.TakingReading r w) = refl
held_there (pipe.StoringReading r w) = refl
held_there (pipe.TakingWriting r w) = refl
held_there (pipe.StoringWriting r w) = refl
held_there (pipe.StoringEndMode r w) = refl
held_there (pipe.TakingPipe r w) = refl
held_there (pipe.MappingPipe r w) = refl
held_there (pipe.UndoingWriting r w error) = refl
held_there (pipe.UndoingReading r error) = refl
held_there (pipe.PipeEntry at) = refl
held_there (pipe.DroppingEnd at) = refl
held_there (pipe.DroppingPipe at) = refl
held_there pipe.SourcePipe = refl
held_there pipe.MappingEnd = refl

few : (at : PipeStage) → locked_steps at ≤ 6
few stage.EndMode = omega arith
few stage.TakingBytes = omega arith
few (stage.Locking done id runs) = omega arith
few (stage.LockPausing done) = omega arith
few (stage.ReadFrom done id runs) = omega arith
few (stage.ReadTo done id runs from) = omega arith
few (stage.LoadingHeld done from) = omega arith
few (stage.KeepingHeld done from byte) = omega arith
few (stage.TakingHeld done from) = omega arith
few (stage.LoadingOwn done to) = omega arith
few (stage.PuttingOwn done to byte) = omega arith
few (stage.Putting done to) = omega arith
few (stage.UnlockingMoved done) = omega arith
few (stage.UnlockingEnd done) = omega arith
few (stage.UnlockingTest done id runs) = omega arith
few (stage.TestIdentifying done) = omega arith
few (stage.TestRuns done id) = omega arith
few (stage.TestAgain done id runs) = omega arith
few (stage.TestOwn done id runs) = omega arith
few (stage.TestOther done id runs own) = omega arith
few (stage.TestDescriptor done id runs) = omega arith
few (stage.TestDescriptorCount done id runs entry) = omega arith
few (stage.TestPipe done id runs count) = omega arith
few (stage.TestPipeCount done id runs count entry) = omega arith
few (stage.TestRunsAgain done id runs closed) = omega arith
few (stage.TestPausing done) = omega arith
few stage.StatLocking = omega arith
few stage.StatPausing = omega arith
few stage.StatFrom = omega arith
few (stage.StatTo from) = omega arith
few (stage.StatUnlocking held) = omega arith

stuck_goes : (service : PipeService) (done id runs : ℕ) (none : Bool) → (done == 0) ≡ none → Goes locked_steps (next_of_stuck service done id runs) 5
stuck_goes (of.Write len) done id runs none told = (omega arith, refl)
stuck_goes (of.Read len) done id runs none told = by_test (done == 0)
  where
    by_test : (t : Bool) →
        Goes locked_steps (if t then piped (pipe.UnlockingTest done id runs) else next.Show (step.Piped (pipe.UnlockingEnd done))) 5
    by_test true = (omega arith, refl)
    by_test false = (omega arith, refl)
stuck_goes of.Stat done id runs none told = by_test (done == 0)
  where
    by_test : (t : Bool) →
        Goes locked_steps (if t then piped (pipe.UnlockingTest done id runs) else next.Show (step.Piped (pipe.UnlockingEnd done))) 5
    by_test true = (omega arith, refl)
    by_test false = (omega arith, refl)

move_goes : (service : PipeService) (done from to : ℕ) → Goes locked_steps (next_to_move service done from to) 5
move_goes (of.Write len) done from to = (omega arith, refl)
move_goes (of.Read len) done from to = (omega arith, refl)
move_goes of.Stat done from to = (omega arith, refl)

position_goes : (service : PipeService) (done id runs from to : ℕ) (stuck : Bool) →
    Goes locked_steps (if stuck then next_of_stuck service done id runs else next_to_move service done from to) 5
position_goes service done id runs from to true = stuck_goes service done id runs (done == 0) refl
position_goes service done id runs from to false = move_goes service done from to

moved_goes : (service : PipeService) (done : ℕ) (more : Bool) →
    Goes locked_steps (if more then piped (pipe.Locking done 0 0) else all_moved service done) 1
moved_goes service done true = (omega arith, refl)
moved_goes (of.Write len) done false = (omega arith, refl)
moved_goes (of.Read len) done false = (omega arith, refl)
moved_goes of.Stat done false = (omega arith, refl)

unlocked_goes : (done id runs : ℕ) (unknown : Bool) →
    Goes locked_steps (if unknown then piped (pipe.TestIdentifying done) else piped (pipe.TestAgain done id runs)) 1
unlocked_goes done id runs true = (omega arith, refl)
unlocked_goes done id runs false = (omega arith, refl)

locked_goes : (service : PipeService) (va word : ℕ) (at : PipeStage) → 0 < locked_steps at →
    Goes locked_steps (next_of service va at word) (locked_steps at)
locked_goes service va word stage.EndMode some = absurd (omega (arith, some))
locked_goes service va word stage.TakingBytes some = absurd (omega (arith, some))
locked_goes service va word (stage.Locking done id runs) some = absurd (omega (arith, some))
locked_goes service va word (stage.LockPausing done) some = absurd (omega (arith, some))
locked_goes service va word (stage.ReadFrom done id runs) some = (omega arith, refl)
locked_goes service va word (stage.ReadTo done id runs from) some = position_goes service done id runs from word (is_stuck service from word)
locked_goes service va word (stage.LoadingHeld done from) some = (omega arith, refl)
locked_goes service va word (stage.KeepingHeld done from byte) some = (omega arith, refl)
locked_goes service va word (stage.TakingHeld done from) some = (omega arith, refl)
locked_goes service va word (stage.LoadingOwn done to) some = (omega arith, refl)
locked_goes service va word (stage.PuttingOwn done to byte) some = (omega arith, refl)
locked_goes service va word (stage.Putting done to) some = (omega arith, refl)
locked_goes service va word (stage.UnlockingMoved done) some = moved_goes service done (nat_lt done (wanted service))
locked_goes service va word (stage.UnlockingEnd done) some = (omega arith, refl)
locked_goes service va word (stage.UnlockingTest done id runs) some = unlocked_goes done id runs (id == 0)
locked_goes service va word (stage.TestIdentifying done) some = absurd (omega (arith, some))
locked_goes service va word (stage.TestRuns done id) some = absurd (omega (arith, some))
locked_goes service va word (stage.TestAgain done id runs) some = absurd (omega (arith, some))
locked_goes service va word (stage.TestOwn done id runs) some = absurd (omega (arith, some))
locked_goes service va word (stage.TestOther done id runs own) some = absurd (omega (arith, some))
locked_goes service va word (stage.TestDescriptor done id runs) some = absurd (omega (arith, some))
locked_goes service va word (stage.TestDescriptorCount done id runs entry) some = absurd (omega (arith, some))
locked_goes service va word (stage.TestPipe done id runs count) some = absurd (omega (arith, some))
locked_goes service va word (stage.TestPipeCount done id runs count entry) some = absurd (omega (arith, some))
locked_goes service va word (stage.TestRunsAgain done id runs closed) some = absurd (omega (arith, some))
locked_goes service va word (stage.TestPausing done) some = absurd (omega (arith, some))
locked_goes service va word stage.StatLocking some = absurd (omega (arith, some))
locked_goes service va word stage.StatPausing some = absurd (omega (arith, some))
locked_goes service va word stage.StatFrom some = (omega arith, refl)
locked_goes service va word (stage.StatTo from) some = (omega arith, refl)
locked_goes service va word (stage.StatUnlocking held) some = (omega arith, refl)

pub locks_are_short : LocksAreShort
locks_are_short = record {
  held = held_there;
  few = few;
  fewer = λ service va word at some. (locked_goes service va word at some).0;
  awake = λ service va word at some. (locked_goes service va word at some).1;
}

-- ---- the test

test_few : (at : PipeStage) → test_steps at ≤ 8
test_few stage.EndMode = omega arith
test_few stage.TakingBytes = omega arith
test_few (stage.Locking done id runs) = omega arith
test_few (stage.LockPausing done) = omega arith
test_few (stage.ReadFrom done id runs) = omega arith
test_few (stage.ReadTo done id runs from) = omega arith
test_few (stage.LoadingHeld done from) = omega arith
test_few (stage.KeepingHeld done from byte) = omega arith
test_few (stage.TakingHeld done from) = omega arith
test_few (stage.LoadingOwn done to) = omega arith
test_few (stage.PuttingOwn done to byte) = omega arith
test_few (stage.Putting done to) = omega arith
test_few (stage.UnlockingMoved done) = omega arith
test_few (stage.UnlockingEnd done) = omega arith
test_few (stage.UnlockingTest done id runs) = omega arith
test_few (stage.TestIdentifying done) = omega arith
test_few (stage.TestRuns done id) = omega arith
test_few (stage.TestAgain done id runs) = omega arith
test_few (stage.TestOwn done id runs) = omega arith
test_few (stage.TestOther done id runs own) = omega arith
test_few (stage.TestDescriptor done id runs) = omega arith
test_few (stage.TestDescriptorCount done id runs entry) = omega arith
test_few (stage.TestPipe done id runs count) = omega arith
test_few (stage.TestPipeCount done id runs count entry) = omega arith
test_few (stage.TestRunsAgain done id runs closed) = omega arith
test_few (stage.TestPausing done) = omega arith
test_few stage.StatLocking = omega arith
test_few stage.StatPausing = omega arith
test_few stage.StatFrom = omega arith
test_few (stage.StatTo from) = omega arith
test_few (stage.StatUnlocking held) = omega arith

still_goes : (done id runs : ℕ) (still : Bool) →
    Goes test_steps (if still then piped (pipe.TestDescriptor done id runs) else piped (pipe.Locking done id runs)) 6
still_goes done id runs true = (omega arith, refl)
still_goes done id runs false = (omega arith, refl)

test_goes : (service : PipeService) (va word : ℕ) (at : PipeStage) → 1 < test_steps at → Goes test_steps (next_of service va at word) (test_steps at)
test_goes service va word stage.EndMode some = absurd (omega (arith, some))
test_goes service va word stage.TakingBytes some = absurd (omega (arith, some))
test_goes service va word (stage.Locking done id runs) some = absurd (omega (arith, some))
test_goes service va word (stage.LockPausing done) some = absurd (omega (arith, some))
test_goes service va word (stage.ReadFrom done id runs) some = absurd (omega (arith, some))
test_goes service va word (stage.ReadTo done id runs from) some = absurd (omega (arith, some))
test_goes service va word (stage.LoadingHeld done from) some = absurd (omega (arith, some))
test_goes service va word (stage.KeepingHeld done from byte) some = absurd (omega (arith, some))
test_goes service va word (stage.TakingHeld done from) some = absurd (omega (arith, some))
test_goes service va word (stage.LoadingOwn done to) some = absurd (omega (arith, some))
test_goes service va word (stage.PuttingOwn done to byte) some = absurd (omega (arith, some))
test_goes service va word (stage.Putting done to) some = absurd (omega (arith, some))
test_goes service va word (stage.UnlockingMoved done) some = absurd (omega (arith, some))
test_goes service va word (stage.UnlockingEnd done) some = absurd (omega (arith, some))
test_goes service va word (stage.UnlockingTest done id runs) some = absurd (omega (arith, some))
test_goes service va word (stage.TestIdentifying done) some = absurd (omega (arith, some))
test_goes service va word (stage.TestRuns done id) some = (omega arith, refl)
test_goes service va word (stage.TestAgain done id runs) some = (omega arith, refl)
test_goes service va word (stage.TestOwn done id runs) some = (omega arith, refl)
test_goes service va word (stage.TestOther done id runs own) some = still_goes done id runs (seems_stuck service own word)
test_goes service va word (stage.TestDescriptor done id runs) some = (omega arith, refl)
test_goes service va word (stage.TestDescriptorCount done id runs entry) some = (omega arith, refl)
test_goes service va word (stage.TestPipe done id runs count) some = (omega arith, refl)
test_goes service va word (stage.TestPipeCount done id runs count entry) some = (omega arith, refl)
test_goes service va word (stage.TestRunsAgain done id runs closed) some = absurd (omega (arith, some))
test_goes service va word (stage.TestPausing done) some = absurd (omega (arith, some))
test_goes service va word stage.StatLocking some = absurd (omega (arith, some))
test_goes service va word stage.StatPausing some = absurd (omega (arith, some))
test_goes service va word stage.StatFrom some = absurd (omega (arith, some))
test_goes service va word (stage.StatTo from) some = absurd (omega (arith, some))
test_goes service va word (stage.StatUnlocking held) some = absurd (omega (arith, some))

pub tests_are_short : TestsAreShort
tests_are_short = record {
  few = test_few;
  fewer = λ service va word at some. (test_goes service va word at some).0;
  awake = λ service va word at some. (test_goes service va word at some).1;
}
