-- How long the lock of a pipe is held, and how long the test for a closed pipe takes, in steps of who is at it: whatever the kernel answers.
use Rattle.std.specs.Prelude.{◌≡◌, ◌<◌, ◌≤◌, ℕ, Bool, true, false, nat_lt, Option, Some, None}
use Rattle.lib_os.specs.declared.place.PipeStep.{PipeStep}
use Rattle.lib_os.specs.declared.place.Step.{Step}
use Rattle.lib_os.specs.declared.place.Step.TheVariants as step
use Rattle.lib_os.specs.PipeEnds.{holds_lock}
use Rattle.lib_stage.specs.declared.ask.Next.{Next}
use Rattle.lib_stage.specs.declared.ask.Next.TheVariants as next
use Rattle.lib_pipe.specs.declared.ends.PipeService.{PipeService}
use Rattle.lib_pipe.specs.declared.ends.PipeStage.{PipeStage}
use Rattle.lib_pipe.specs.declared.ends.PipeStage.TheVariants as stage
use Rattle.lib_pipe.specs.PipeStages.{next_of, stage_of}

-- so much is left at a stage, and none where there is no stage
abbrev pub left_in : (PipeStage → ℕ) → Option PipeStage → ℕ
left_in left None = 0
left_in left (Some at) = left at

-- and so much at the step with which a service goes on
abbrev pub left_at : (PipeStage → ℕ) → Step → ℕ
left_at left (step.Piped at) = left_in left (stage_of at)
left_at left _ = 0

abbrev pub left_behind : (PipeStage → ℕ) → Next → ℕ
left_behind left (next.GoOn to) = left_at left to
left_behind left (next.Show to) = left_at left to
left_behind left (next.Wait to) = left_at left to
left_behind left _ = 0

abbrev pub waits : Next → Bool
waits (next.Wait to) = true
waits _ = false

-- ---- the lock

-- how many steps who holds the lock makes until that is given back, at most: the last of them stores 0; none where it is not held
abbrev pub locked_steps : PipeStage → ℕ
locked_steps (stage.ReadFrom done id runs) = 6
locked_steps (stage.ReadTo done id runs from) = 5
locked_steps (stage.LoadingHeld done from) = 4
locked_steps (stage.KeepingHeld done from byte) = 3
locked_steps (stage.TakingHeld done from) = 2
locked_steps (stage.LoadingOwn done to) = 4
locked_steps (stage.PuttingOwn done to byte) = 3
locked_steps (stage.Putting done to) = 2
locked_steps (stage.UnlockingMoved done) = 1
locked_steps (stage.UnlockingEnd done) = 1
locked_steps (stage.UnlockingTest done id runs) = 1
locked_steps stage.StatFrom = 3
locked_steps (stage.StatTo from) = 2
locked_steps (stage.StatUnlocking held) = 1
locked_steps _ = 0

-- The lock is held exactly where such steps are left, six at most. Each of them leaves fewer, and none waits.
pub record LocksAreShort : Type 0 where
  pub held : (at : PipeStep) → holds_lock at ≡ nat_lt 0 (left_in locked_steps (stage_of at))
  pub few : (at : PipeStage) → locked_steps at ≤ 6
  pub fewer : (service : PipeService) (va word : ℕ) (at : PipeStage) → 0 < locked_steps at →
      left_behind locked_steps (next_of service va at word) < locked_steps at
  pub awake : (service : PipeService) (va word : ℕ) (at : PipeStage) → 0 < locked_steps at → waits (next_of service va at word) ≡ false

-- ---- the test for a closed pipe

-- How many steps of the test are left, eight at most; none outside of it. It begins, and begins anew, where the environment reads how often it has
-- got a turn.
abbrev pub test_steps : PipeStage → ℕ
test_steps (stage.TestRuns done id) = 8
test_steps (stage.TestAgain done id runs) = 8
test_steps (stage.TestOwn done id runs) = 7
test_steps (stage.TestOther done id runs own) = 6
test_steps (stage.TestDescriptor done id runs) = 5
test_steps (stage.TestDescriptorCount done id runs entry) = 4
test_steps (stage.TestPipe done id runs count) = 3
test_steps (stage.TestPipeCount done id runs count entry) = 2
test_steps (stage.TestRunsAgain done id runs closed) = 1
test_steps _ = 0

-- Each of them but the last leaves fewer, and none but that waits.
pub record TestsAreShort : Type 0 where
  pub few : (at : PipeStage) → test_steps at ≤ 8
  pub fewer : (service : PipeService) (va word : ℕ) (at : PipeStage) → 1 < test_steps at →
      left_behind test_steps (next_of service va at word) < test_steps at
  pub awake : (service : PipeService) (va word : ℕ) (at : PipeStage) → 1 < test_steps at → waits (next_of service va at word) ≡ false
