-- At each step of a service on a pipe the number of hidden steps that it may still make is lower behind it; or the test whether the other end is
-- closed is asked again, since the environment has got another turn.
use Rattle.std.proofs.Common.{◌≡◌, ◌≢◌, ◌∙◌, ◌+◌, ◌%◌, ◌<◌, ◌≤◌, ◌==◌, ℕ, Bool, true, false, if◌then◌else◌}
use Rattle.std.proofs.Common.{refl, sym, ap, subst, arith}
use Rattle.std.proofs.lemmas.Bool.Decides.{nat_tests}
use Rattle.jos_base.specs.declared.numbers.TheConstants.{FIRST_ENV_ID, NENV, PGSIZE}
use Rattle.jos_base.specs.KernelState.{KernelState, slot_at}
use Rattle.lib_os.specs.declared.numbers.TheConstants.{DESCRIPTORS}
use Rattle.lib_os.specs.declared.place.Place.TheVariants as place
use Rattle.lib_os.specs.declared.place.PipeStep.{PipeStep}
use Rattle.lib_os.specs.declared.place.PipeStep.TheVariants as pipe
use Rattle.lib_os.specs.declared.place.Step.{Step}
use Rattle.lib_os.specs.declared.place.Step.TheVariants as step
use Rattle.lib_os.specs.declared.service.Service.{Service}
use Rattle.lib_os.specs.AbstractState.{AbstractState, Born, born, serving}
use Rattle.lib_os.specs.LibrarySteps.{AsksAgain, TEST_STEPS_MAX, counts_copies, most_copy_steps, steps_left}
use Rattle.lib_os.specs.LibrarySteps.AsksAgain.{tests, tries}
use Rattle.lib_os.specs.Places.{place_of}
use Rattle.lib_os.specs.Rows.{Names}
use Rattle.lib_os.specs.StandsFor.{StandsFor}
use Rattle.lib_os.proofs.PipeHere as here
use Rattle.lib_os.proofs.SlotsStand.{born_at, born_live, moves_bytes}

-- more than the number at a step, whatever pages wait to be copied behind it
abbrev pub most_at : Step → ℕ
most_at at = steps_left at + (if counts_copies at then most_copy_steps else 0)

-- the number falls from one step to another
abbrev pub FallsTo : Step → Step → Type 0
FallsTo from to = most_at to < steps_left from

-- the same between steps on pipes
abbrev pub PipeFallsTo : PipeStep → PipeStep → Type 0
PipeFallsTo from to = FallsTo (step.Piped from) (step.Piped to)

-- The test is asked again: the environment has got other turns than were told, and the number is at most that of the test.
abbrev pub AsksTo : ℕ → Service → PipeStep → PipeStep → Type 0
AsksTo runs call from to = AsksAgain runs (place.InService call (step.Piped from)) × (most_at (step.Piped to) ≤ TEST_STEPS_MAX)

-- ---- a pipe is made

pub entered_looks : FallsTo step.Entered (step.FreeEntry 0)
entered_looks = omega arith

pub entered_takes : FallsTo step.Entered (step.Piped (pipe.TakingReading 0 1))
entered_takes = omega arith

pub first_taken_falls : (fd : ℕ) → fd < DESCRIPTORS → FallsTo (step.FreeEntry fd) (step.FreeEntry (fd + 1))
first_taken_falls fd below = omega (arith, below)

pub first_free_falls : (fd : ℕ) → fd < DESCRIPTORS → FallsTo (step.FreeEntry fd) (step.Piped (pipe.SecondEntry fd (fd + 1)))
first_free_falls fd below = omega (arith, below)

pub second_taken_falls : (reading fd : ℕ) → fd < DESCRIPTORS → PipeFallsTo (pipe.SecondEntry reading fd) (pipe.SecondEntry reading (fd + 1))
second_taken_falls reading fd below = omega (arith, below)

pub second_free_falls : (reading fd : ℕ) → PipeFallsTo (pipe.SecondEntry reading fd) (pipe.TakingReading reading fd)
second_free_falls reading fd = omega arith

module _ (reading writing : ℕ) where
  pub taking_reading_falls : PipeFallsTo (pipe.TakingReading reading writing) (pipe.StoringReading reading writing)
  taking_reading_falls = omega arith

  pub storing_reading_falls : PipeFallsTo (pipe.StoringReading reading writing) (pipe.TakingWriting reading writing)
  storing_reading_falls = omega arith

  pub taking_writing_falls : PipeFallsTo (pipe.TakingWriting reading writing) (pipe.StoringWriting reading writing)
  taking_writing_falls = omega arith

  pub storing_writing_falls : PipeFallsTo (pipe.StoringWriting reading writing) (pipe.StoringEndMode reading writing)
  storing_writing_falls = omega arith

  pub end_mode_falls : PipeFallsTo (pipe.StoringEndMode reading writing) (pipe.TakingPipe reading writing)
  end_mode_falls = omega arith

  pub taking_pipe_falls : PipeFallsTo (pipe.TakingPipe reading writing) (pipe.MappingPipe reading writing)
  taking_pipe_falls = omega arith

  -- what is refused
  pub writing_refused_falls : (error : ℕ) → PipeFallsTo (pipe.TakingWriting reading writing) (pipe.UndoingReading reading error)
  writing_refused_falls error = omega arith

  pub pipe_refused_falls : (error : ℕ) → PipeFallsTo (pipe.TakingPipe reading writing) (pipe.UndoingWriting reading writing error)
  pipe_refused_falls error = omega arith

  pub undoing_writing_falls : (error : ℕ) → PipeFallsTo (pipe.UndoingWriting reading writing error) (pipe.UndoingReading reading error)
  undoing_writing_falls error = omega arith

-- ---- an end is dropped, or given a second descriptor

module _ (fd : ℕ) where
  pub entry_looks : FallsTo (step.DescriptorEntry fd) (step.Piped (pipe.PipeEntry fd))
  entry_looks = omega arith

  pub target_looks : FallsTo step.TargetEntry (step.Piped (pipe.PipeEntry fd))
  target_looks = omega arith

  pub no_pipe_falls : FallsTo (step.Piped (pipe.PipeEntry fd)) (step.DroppingDescriptor fd)
  no_pipe_falls = omega arith

  pub pipe_entry_falls : PipeFallsTo (pipe.PipeEntry fd) (pipe.DroppingEnd fd)
  pipe_entry_falls = omega arith

  pub dropping_end_falls : PipeFallsTo (pipe.DroppingEnd fd) (pipe.DroppingPipe fd)
  dropping_end_falls = omega arith

pub target_falls : FallsTo step.TargetEntry (step.Piped pipe.SourcePipe)
target_falls = omega arith

pub source_falls : PipeFallsTo pipe.SourcePipe pipe.MappingEnd
source_falls = omega arith

pub no_source_falls : FallsTo (step.Piped pipe.SourcePipe) step.MappingDescriptor
no_source_falls = omega arith

pub mapping_end_falls : FallsTo (step.Piped pipe.MappingEnd) step.MappingDescriptor
mapping_end_falls = omega arith

-- ---- read and write begin

pub device_falls : FallsTo step.ReadingDevice (step.Piped pipe.EndMode)
device_falls = omega arith

pub mode_falls : PipeFallsTo pipe.EndMode pipe.TakingBytes
mode_falls = omega arith

pub read_taking_falls : PipeFallsTo pipe.TakingBytes (pipe.Locking 0 0 0)
read_taking_falls = omega arith

pub write_taking_falls : FallsTo (step.Piped pipe.TakingBytes) (step.BufferRegion 0 PGSIZE)
write_taking_falls = omega arith

-- write has gathered its last byte, or not
pub gathered_falls : (done word left start : ℕ) → FallsTo (step.KeepingBytes done word left start) (step.Piped (pipe.Locking 0 0 0))
gathered_falls done word left start = omega arith

-- ---- a byte is moved, or none can be

module _ (done id runs : ℕ) where
  pub locking_falls : PipeFallsTo (pipe.Locking done id runs) (pipe.ReadFrom done id runs)
  locking_falls = by_id (id == 0)
    where
      by_id : (c : Bool) → (if c then 29 else 16) + 0 < (if c then 30 else 17)
      by_id true = omega arith
      by_id false = omega arith

  pub from_falls : (word : ℕ) → PipeFallsTo (pipe.ReadFrom done id runs) (pipe.ReadTo done id runs word)
  from_falls word = by_id (id == 0)
    where
      by_id : (c : Bool) → (if c then 28 else 15) + 0 < (if c then 29 else 16)
      by_id true = omega arith
      by_id false = omega arith

  pub held_falls : (from : ℕ) → PipeFallsTo (pipe.ReadTo done id runs from) (pipe.LoadingHeld done from)
  held_falls from = by_id (id == 0)
    where
      by_id : (c : Bool) → 3 + 0 < (if c then 28 else 15)
      by_id true = omega arith
      by_id false = omega arith

  pub room_falls : (from to : ℕ) → PipeFallsTo (pipe.ReadTo done id runs from) (pipe.LoadingOwn done to)
  room_falls from to = by_id (id == 0)
    where
      by_id : (c : Bool) → 3 + 0 < (if c then 28 else 15)
      by_id true = omega arith
      by_id false = omega arith

  pub stuck_falls : (from : ℕ) → PipeFallsTo (pipe.ReadTo done id runs from) (pipe.UnlockingTest done id runs)
  stuck_falls from = by_id (id == 0)
    where
      by_id : (c : Bool) → (if c then 27 else 14) + 0 < (if c then 28 else 15)
      by_id true = omega arith
      by_id false = omega arith

  -- by whether it has asked for its id
  pub unlocked_falls : (c : Bool) → (id == 0) ≡ c →
      PipeFallsTo (pipe.UnlockingTest done id runs) (if c then pipe.TestIdentifying done else pipe.TestAgain done id runs)
  unlocked_falls true told = subst (λ (c : Bool). 26 + 0 < (if c then 27 else 14)) (sym told) (omega arith)
  unlocked_falls false told = subst (λ (c : Bool). 13 + 0 < (if c then 27 else 14)) (sym told) (omega arith)

module _ (done : ℕ) where
  pub loading_held_falls : (from byte : ℕ) → PipeFallsTo (pipe.LoadingHeld done from) (pipe.KeepingHeld done from byte)
  loading_held_falls from byte = omega arith

  pub keeping_held_falls : (from byte : ℕ) → PipeFallsTo (pipe.KeepingHeld done from byte) (pipe.TakingHeld done from)
  keeping_held_falls from byte = omega arith

  pub loading_own_falls : (to byte : ℕ) → PipeFallsTo (pipe.LoadingOwn done to) (pipe.PuttingOwn done to byte)
  loading_own_falls to byte = omega arith

  pub putting_own_falls : (to byte : ℕ) → PipeFallsTo (pipe.PuttingOwn done to byte) (pipe.Putting done to)
  putting_own_falls to byte = omega arith

  pub moved_falls : PipeFallsTo (pipe.UnlockingMoved done) (pipe.Locking done 0 0)
  moved_falls = omega arith

  pub ended_falls : FallsTo (step.Piped (pipe.UnlockingEnd done)) (step.FileRegion 0 done)
  ended_falls = omega arith

  -- it has given up its turn
  pub lock_paused_falls : PipeFallsTo (pipe.LockPausing done) (pipe.Locking done 0 0)
  lock_paused_falls = omega arith

  pub test_paused_falls : PipeFallsTo (pipe.TestPausing done) (pipe.Locking done 0 0)
  test_paused_falls = omega arith

-- ---- the test whether the other end is closed

module _ (done id : ℕ) where
  pub identified_falls : PipeFallsTo (pipe.TestIdentifying done) (pipe.TestRuns done id)
  identified_falls = omega arith

  pub runs_falls : (word : ℕ) → PipeFallsTo (pipe.TestRuns done id) (pipe.TestOwn done id word)
  runs_falls word = omega arith

module _ (done id runs : ℕ) where
  pub test_own_falls : (word : ℕ) → PipeFallsTo (pipe.TestOwn done id runs) (pipe.TestOther done id runs word)
  test_own_falls word = omega arith

  pub still_falls : (own : ℕ) → PipeFallsTo (pipe.TestOther done id runs own) (pipe.TestDescriptor done id runs)
  still_falls own = omega arith

  -- a byte can be moved: it tries again, with its id
  pub tries_again_falls : (own : ℕ) → id ≢ 0 → PipeFallsTo (pipe.TestOther done id runs own) (pipe.Locking done id runs)
  tries_again_falls own some =
      let other : (id == 0) ≡ false = grind (arith, nat_tests, some) in
      subst (λ (c : Bool). (if c then 30 else 17) + 0 < 23) (sym other) (omega arith)

  pub descriptor_falls : (word : ℕ) → PipeFallsTo (pipe.TestDescriptor done id runs) (pipe.TestDescriptorCount done id runs word)
  descriptor_falls word = omega arith

  pub descriptor_count_falls : (entry count : ℕ) → PipeFallsTo (pipe.TestDescriptorCount done id runs entry) (pipe.TestPipe done id runs count)
  descriptor_count_falls entry count = omega arith

  pub pipe_falls : (count word : ℕ) → PipeFallsTo (pipe.TestPipe done id runs count) (pipe.TestPipeCount done id runs count word)
  pipe_falls count word = omega arith

  pub pipe_count_falls : (count entry closed : ℕ) →
      PipeFallsTo (pipe.TestPipeCount done id runs count entry) (pipe.TestRunsAgain done id runs closed)
  pipe_count_falls count entry closed = omega arith

  -- the environment has got another turn: it is asked again
  pub again_asks : (call : Service) (now closed : ℕ) → now ≢ runs → AsksTo now call (pipe.TestRunsAgain done id runs closed) (pipe.TestRuns done id)
  again_asks call now closed other = (tests call done id runs closed other, omega arith)

  -- and so it is behind a try in vain
  pub tried_asks : (call : Service) (now word : ℕ) → now ≢ runs → AsksTo now call (pipe.TestAgain done id runs) (pipe.TestOwn done id word)
  tried_asks call now word other = (tries call done id runs other, omega arith)

-- ---- where the state stands for an abstract one

module _ {names : Names} {s : KernelState} {a : AbstractState} (h : StandsFor names s a) (n : ℕ) where
  -- an environment that is born has an id: the slot of 0 is the file server's
  pub own_id : (b : Born) → a.slots n ≡ born b → (slot_at s n).id ≢ 0
  own_id b at none =
      let first : 0 ≡ n = sym (ap (λ (q : ℕ). q % NENV) none) ∙ h.tabled.ids n (born_live (born_at h n b at)) in
      let contradiction : serving FIRST_ENV_ID ≡ born b = sym h.first ∙ ap a.slots first ∙ at in absurd cc

  module _ (call : Service) (moves : moves_bytes call ≡ true) where
    -- the test lets it try again
    pub test_again_falls : (done id runs own : ℕ) → place_of (slot_at s n) ≡ place.InService call (step.Piped (pipe.TestOther done id runs own)) →
        PipeFallsTo (pipe.TestOther done id runs own) (pipe.Locking done id runs)
    test_again_falls done id runs own stands =
        let v = here.here h n call moves (pipe.TestOther done id runs own) stands refl refl in
        let it = here.stands_here h n call moves (pipe.TestOther done id runs own) stands refl refl in
        tries_again_falls done id runs own (λ none. own_id v.b v.is (sym it.1 ∙ none))

    -- it tried in vain, so that the turn is another
    pub test_tried_asks : (done id runs word : ℕ) → place_of (slot_at s n) ≡ place.InService call (step.Piped (pipe.TestAgain done id runs)) →
        AsksTo (slot_at s n).runs call (pipe.TestAgain done id runs) (pipe.TestOwn done id word)
    test_tried_asks done id runs word stands =
        let it = here.stands_here h n call moves (pipe.TestAgain done id runs) stands refl refl in
        let later = it.2 in
        tried_asks done id runs call (slot_at s n).runs word (λ same. omega (arith, later, same))

-- ---- stat

pub stat_device_falls : FallsTo step.ReadingDevice (step.Piped pipe.StatLocking)
stat_device_falls = omega arith

pub stat_locking_falls : PipeFallsTo pipe.StatLocking pipe.StatFrom
stat_locking_falls = omega arith

pub stat_paused_falls : PipeFallsTo pipe.StatPausing pipe.StatLocking
stat_paused_falls = omega arith

pub stat_from_falls : (word : ℕ) → PipeFallsTo pipe.StatFrom (pipe.StatTo word)
stat_from_falls word = omega arith

pub stat_unlocked_falls : (held word : ℕ) → FallsTo (step.Piped (pipe.StatUnlocking held)) (step.BufferRegion 0 word)
stat_unlocked_falls held word = omega arith
