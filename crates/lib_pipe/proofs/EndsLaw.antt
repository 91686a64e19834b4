-- The law of read and write at all their steps on an end of a pipe. At a step of another service nobody stands, so that nothing is said of it.
use Rattle.std.proofs.Common.{◌≡◌, ◌%◌, ◌+◌, ◌^◌, ◌==◌, ◌||◌, ◌∙◌, Ok, not, ℕ, Bool, true, false, None, refl, sym, ap, subst, arith, if◌then◌else◌}
use Rattle.std.specs.Prelude.{nat_lt}
use Rattle.jos_base.specs.declared.called.Called.{Called}
use Rattle.jos_base.specs.declared.numbers.TheConstants.{E_INVAL, SYS_GETENVID, SYS_YIELD}
use Rattle.jos_base.specs.Words.{negated}
use Rattle.jos_base.specs.Environments.{Slot, is_live}
use Rattle.jos_base.specs.KernelState.{KernelState, slot_at}
use Rattle.lib_os.specs.declared.place.PipeStep.{PipeStep}
use Rattle.lib_os.specs.declared.place.PipeStep.TheVariants as pipe
use Rattle.lib_os.specs.declared.place.Place.TheVariants as place
use Rattle.lib_os.specs.declared.place.Step.{Step}
use Rattle.lib_os.specs.declared.place.Step.TheVariants as step
use Rattle.lib_os.specs.declared.service.Service.{Service}
use Rattle.lib_os.specs.declared.service.Service.TheVariants as service
use Rattle.lib_os.specs.AbstractState.{AbstractState, Born}
use Rattle.lib_os.specs.LibraryPages.{View}
use Rattle.lib_os.specs.LibrarySteps.{Stands, is_pausing}
use Rattle.lib_os.specs.Places.{place_of}
use Rattle.lib_os.specs.Rows.{Names}
use Rattle.lib_os.specs.StandsFor.{StandsAtStep, StandsFor, view_of}
use Rattle.lib_os.specs.UserCalls.{CallStep, answer_of, store, store_byte}
use Rattle.lib_os.proofs.BytesKept.{store_byte_slots, store_slots}
use Rattle.lib_os.proofs.Numbered.{number_of}
use Rattle.lib_os.specs.Fence.{is_buffer}
use Rattle.lib_os.proofs.Calls.{getenvid_is}
use Rattle.lib_os.proofs.Trying.{LivesOn}
use Rattle.lib_os.proofs.GoingOn.{gives_nothing_up}
use Rattle.lib_os.proofs.PageTaken.{take_lives}
use Rattle.lib_os.proofs.PipeFalls as falls
use Rattle.lib_os.proofs.Serving.{served}
use Rattle.lib_stage.specs.declared.ask.Ask.TheVariants as ask
use Rattle.lib_stage.specs.declared.ask.Next.{Next}
use Rattle.lib_stage.specs.declared.ask.Next.TheVariants as next
use Rattle.lib_stage.specs.Asks.{no_args, performed}
use Rattle.lib_stage.specs.ServiceSteps.{Plan, ServiceHolds, or_nowhere, upshot_by}
use Rattle.lib_stage.proofs.Laws.{Falls, FallsOrAsks, GoesOn, law_of_call, plainly, falling_lowers, giving_goes, plain_leaves, law_of_nowhere, law_of_pause, store_byte_known, store_known}
use Rattle.lib_pipe.specs.declared.ends.PipeService.TheVariants as of
use Rattle.lib_pipe.specs.declared.ends.PipeStage.{PipeStage}
use Rattle.lib_pipe.specs.declared.ends.PipeStage.TheVariants as stage
use Rattle.lib_pipe.specs.PipeStages as stages
use Rattle.lib_pipe.proofs.EndSteps.{byte_holds, known_load_holds, load_holds, lock_holds, put_holds, staged}
use Rattle.lib_pipe.proofs.EndsHold as ends

-- ---- a step at which nobody stands

module _ (s : KernelState) (n : ℕ) (call : Service) (live : is_live (slot_at s n) ≡ true) (from : Step)
    (stands : place_of (slot_at s n) ≡ place.InService call from)
    (none : (v : View) (k : Slot) (b : Born) → StandsAtStep v k b call from → ⊥) where
  nobody : (names : Names) (a : AbstractState) → StandsFor names s a → ⊥
  nobody names a h =
      let v = served h n call from stands in none (view_of s.spaces (slot_at s n).directory) (slot_at s n) v.b v.at

  module _ (steady : is_pausing (place.InService call from) ≡ false) where
    nobody_loads : (va : ℕ) (next : ℕ → Next) → ((word : ℕ) → Falls call from (next word)) → ServiceHolds s n (staged call (ask.Load va) next)
    nobody_loads va next less = load_holds s n call live from stands steady va next less (λ names a h. absurd (nobody names a h))

    nobody_loads_byte : (va : ℕ) (next : ℕ → Next) → ((word : ℕ) → Falls call from (next word)) → ServiceHolds s n (staged call (ask.LoadByte va) next)
    nobody_loads_byte va next less =
        byte_holds s n call live from stands steady va 0 next less (λ names a h. absurd (nobody names a h))
        (λ names a h order. absurd (nobody names a h))

    nobody_stores : (va word : ℕ) (x : Next) → Falls call from x → ServiceHolds s n (staged call (ask.Store va word) (λ w. x))
    unfolding performed
    nobody_stores va word x less =
        put_holds s n call live from stands steady (ask.Store va word) (store s n va word) refl
        (store_known s n va word (λ order other lives a h. absurd (nobody h.0 a h.1))) refl (λ g may. may) (store_slots s n va word)
        (λ names a h. absurd (nobody names a h)) x less (λ order a h turn quiet. absurd (nobody h.0 a h.1))

    nobody_stores_byte : (va byte : ℕ) (x : Next) → Falls call from x → ServiceHolds s n (staged call (ask.StoreByte va byte) (λ w. x))
    unfolding performed
    nobody_stores_byte va byte x less =
        put_holds s n call live from stands steady (ask.StoreByte va byte) (store_byte s n va byte) refl
        (store_byte_known s n va byte (λ order other lives a h. absurd (nobody h.0 a h.1))) refl (λ g may. may) (store_byte_slots s n va byte)
        (λ names a h. absurd (nobody names a h)) x less (λ order a h turn quiet. absurd (nobody h.0 a h.1))

    nobody_locks : (va : ℕ) (free held : PipeStep) → Falls call from (next.GoOn (step.Piped free)) →
        is_pausing (place.InService call (step.Piped held)) ≡ true →
        ServiceHolds s n (staged call (ask.Exchange va 1) (λ word. stages.next_of_lock word free held))
    unfolding performed
    nobody_locks va free held less pauses =
        lock_holds s n call live from stands steady va (λ order other lives a h. absurd (nobody h.0 a h.1)) (λ names a h. absurd (nobody names a h))
        free held less pauses (λ a h. absurd (nobody h.0 a h.1)) (λ names a h last. absurd (nobody names a h))

  nobody_pauses : is_pausing (place.InService call from) ≡ true → (to : Step) → Falls call from (next.GoOn to) →
      ServiceHolds s n (staged call (ask.System SYS_YIELD no_args) (λ word. next.GoOn to))
  nobody_pauses pauses to less =
      law_of_pause s n call from to (number_of call) no_args stands live refl pauses less (λ a h turn quiet. absurd (nobody h.0 a h.1))

-- ---- read

module _ (s : KernelState) (n fd va len : ℕ) (live : is_live (slot_at s n) ≡ true) where
  abbrev reading : Service
  reading = service.Read fd va len

  abbrev pub reading_at : PipeStage → Plan
  reading_at at = staged (service.Read fd va len) (stages.ask_of (of.Read len) fd at) (stages.next_of (of.Read len) va at)

  no_read : (at : PipeStep) → place_of (slot_at s n) ≡ place.InService (service.Read fd va len) (step.Piped at) →
      is_pausing (place.InService reading (step.Piped at)) ≡ false → ((v : View) (k : Slot) (b : Born) → StandsAtStep v k b reading (step.Piped at) → ⊥) →
      ServiceHolds s n (or_nowhere reading_at None)
  no_read at stands steady none = law_of_nowhere s n reading (step.Piped at) stands steady none

  pub read_end_holds : (at : PipeStep) → place_of (slot_at s n) ≡ place.InService (service.Read fd va len) (step.Piped at) →
      ServiceHolds s n (or_nowhere reading_at (stages.stage_of at))
  read_end_holds pipe.EndMode stands = ends.read_mode_holds s n fd va len live stands
  read_end_holds pipe.TakingBytes stands = ends.read_taking_holds s n fd va len live stands
  read_end_holds (pipe.Locking done id runs) stands = ends.locking_holds s n reading refl live done id runs stands
  read_end_holds (pipe.LockPausing done) stands = ends.lock_pausing_holds s n reading refl live done stands
  read_end_holds (pipe.ReadFrom done id runs) stands = ends.read_from_holds s n fd va len live done id runs stands
  read_end_holds (pipe.ReadTo done id runs from) stands = ends.read_to_holds s n fd va len live done id runs from stands
  read_end_holds (pipe.LoadingHeld done from) stands = ends.loading_held_holds s n fd va len live done from stands
  read_end_holds (pipe.KeepingHeld done from byte) stands = ends.keeping_held_holds s n fd va len live done from byte stands
  read_end_holds (pipe.TakingHeld done from) stands = ends.taking_held_holds s n fd va len live done from stands
  read_end_holds (pipe.LoadingOwn done to) stands =
      nobody_loads_byte s n reading live (step.Piped (pipe.LoadingOwn done to)) stands (λ v k b h. h) refl (stages.own_place done)
      (λ word. stages.piped (pipe.PuttingOwn done to word)) (falls.loading_own_falls done to)
  read_end_holds (pipe.PuttingOwn done to byte) stands =
      nobody_stores_byte s n reading live (step.Piped (pipe.PuttingOwn done to byte)) stands (λ v k b h. h) refl (stages.byte_place fd to) (byte % 256)
      (stages.piped (pipe.Putting done to)) (falls.putting_own_falls done to byte)
  read_end_holds (pipe.Putting done to) stands =
      nobody_stores s n reading live (step.Piped (pipe.Putting done to)) stands (λ v k b h. h) refl _ ((to + 1) % 2 ^ 32)
      (next.Show (step.Piped (pipe.UnlockingMoved ((done + 1) % 2 ^ 32)))) tt
  read_end_holds (pipe.UnlockingMoved done) stands = ends.read_moved_holds s n fd va len live done stands
  read_end_holds (pipe.UnlockingEnd done) stands = ends.unlocking_end_holds s n fd va len live done stands
  read_end_holds (pipe.UnlockingTest done id runs) stands = ends.unlocking_test_holds s n reading refl live done id runs stands
  read_end_holds (pipe.TestIdentifying done) stands = ends.identifying_holds s n reading refl live done stands
  read_end_holds (pipe.TestRuns done id) stands = ends.runs_holds s n reading refl live done id stands
  read_end_holds (pipe.TestAgain done id runs) stands = ends.again_holds s n reading refl live done id runs stands
  read_end_holds (pipe.TestOwn done id runs) stands = ends.test_own_holds s n reading refl live done id runs stands
  read_end_holds (pipe.TestOther done id runs own) stands = ends.test_other_holds s n reading refl live done id runs own stands
  read_end_holds (pipe.TestDescriptor done id runs) stands = ends.test_descriptor_holds s n reading refl live done id runs stands
  read_end_holds (pipe.TestDescriptorCount done id runs entry) stands = ends.descriptor_count_holds s n reading refl live done id runs entry stands
  read_end_holds (pipe.TestPipe done id runs count) stands = ends.test_pipe_holds s n reading refl live done id runs count stands
  read_end_holds (pipe.TestPipeCount done id runs count entry) stands = ends.pipe_count_holds s n reading refl live done id runs count entry stands
  read_end_holds (pipe.TestRunsAgain done id runs closed) stands = ends.runs_again_holds s n reading refl live done id runs closed stands
  read_end_holds (pipe.TestPausing done) stands = ends.test_pausing_holds s n reading refl live done stands
  read_end_holds pipe.StatLocking stands =
      nobody_locks s n reading live (step.Piped pipe.StatLocking) stands (λ v k b h. h) refl _ pipe.StatFrom pipe.StatPausing falls.stat_locking_falls refl
  read_end_holds pipe.StatPausing stands =
      nobody_pauses s n reading live (step.Piped pipe.StatPausing) stands (λ v k b h. h) refl (step.Piped pipe.StatLocking) falls.stat_paused_falls
  read_end_holds pipe.StatFrom stands =
      nobody_loads s n reading live (step.Piped pipe.StatFrom) stands (λ v k b h. h) refl _ (λ word. stages.piped (pipe.StatTo word)) falls.stat_from_falls
  read_end_holds (pipe.StatTo from) stands =
      nobody_loads s n reading live (step.Piped (pipe.StatTo from)) stands (λ v k b h. h) refl _
      (λ word. next.Show (step.Piped (pipe.StatUnlocking (stages.held_of from word)))) (λ word. tt)
  read_end_holds (pipe.StatUnlocking held) stands =
      nobody_stores s n reading live (step.Piped (pipe.StatUnlocking held)) stands (λ v k b h. h) refl _ 0
      (next.GoOn (step.BufferRegion 0 ((held + 1) % 2 ^ 32))) (falls.stat_unlocked_falls held ((held + 1) % 2 ^ 32))
  read_end_holds (pipe.SecondEntry first fd) stands = no_read (pipe.SecondEntry first fd) stands refl (λ v k b h. h)
  read_end_holds (pipe.TakingReading r w) stands = no_read (pipe.TakingReading r w) stands refl (λ v k b h. h)
  read_end_holds (pipe.StoringReading r w) stands = no_read (pipe.StoringReading r w) stands refl (λ v k b h. h)
  read_end_holds (pipe.TakingWriting r w) stands = no_read (pipe.TakingWriting r w) stands refl (λ v k b h. h)
  read_end_holds (pipe.StoringWriting r w) stands = no_read (pipe.StoringWriting r w) stands refl (λ v k b h. h)
  read_end_holds (pipe.StoringEndMode r w) stands = no_read (pipe.StoringEndMode r w) stands refl (λ v k b h. h)
  read_end_holds (pipe.TakingPipe r w) stands = no_read (pipe.TakingPipe r w) stands refl (λ v k b h. h)
  read_end_holds (pipe.MappingPipe r w) stands = no_read (pipe.MappingPipe r w) stands refl (λ v k b h. h)
  read_end_holds (pipe.UndoingWriting r w error) stands = no_read (pipe.UndoingWriting r w error) stands refl (λ v k b h. h)
  read_end_holds (pipe.UndoingReading r error) stands = no_read (pipe.UndoingReading r error) stands refl (λ v k b h. h)
  read_end_holds (pipe.PipeEntry at) stands = no_read (pipe.PipeEntry at) stands refl (λ v k b h. h)
  read_end_holds (pipe.DroppingEnd at) stands = no_read (pipe.DroppingEnd at) stands refl (λ v k b h. h)
  read_end_holds (pipe.DroppingPipe at) stands = no_read (pipe.DroppingPipe at) stands refl (λ v k b h. h)
  read_end_holds pipe.SourcePipe stands = no_read pipe.SourcePipe stands refl (λ v k b h. h)
  read_end_holds pipe.MappingEnd stands = no_read pipe.MappingEnd stands refl (λ v k b h. h)

-- ---- write

module _ (s : KernelState) (n fd va len : ℕ) (live : is_live (slot_at s n) ≡ true) where
  abbrev writing : Service
  writing = service.Write fd va len

  abbrev pub writing_at : PipeStage → Plan
  writing_at at = staged (service.Write fd va len) (stages.ask_of (of.Write len) fd at) (stages.next_of (of.Write len) va at)

  no_write : (at : PipeStep) → place_of (slot_at s n) ≡ place.InService (service.Write fd va len) (step.Piped at) →
      is_pausing (place.InService writing (step.Piped at)) ≡ false → ((v : View) (k : Slot) (b : Born) → StandsAtStep v k b writing (step.Piped at) → ⊥) →
      ServiceHolds s n (or_nowhere writing_at None)
  no_write at stands steady none = law_of_nowhere s n writing (step.Piped at) stands steady none

  pub write_end_holds : (at : PipeStep) → place_of (slot_at s n) ≡ place.InService (service.Write fd va len) (step.Piped at) →
      ServiceHolds s n (or_nowhere writing_at (stages.stage_of at))
  write_end_holds pipe.EndMode stands = ends.write_mode_holds s n fd va len live stands
  write_end_holds pipe.TakingBytes stands = ends.write_taking_holds s n fd va len live stands
  write_end_holds (pipe.Locking done id runs) stands = ends.locking_holds s n writing refl live done id runs stands
  write_end_holds (pipe.LockPausing done) stands = ends.lock_pausing_holds s n writing refl live done stands
  write_end_holds (pipe.ReadFrom done id runs) stands = ends.write_from_holds s n fd va len live done id runs stands
  write_end_holds (pipe.ReadTo done id runs from) stands = ends.write_to_holds s n fd va len live done id runs from stands
  write_end_holds (pipe.LoadingHeld done from) stands =
      nobody_loads_byte s n writing live (step.Piped (pipe.LoadingHeld done from)) stands (λ v k b h. h) refl (stages.byte_place fd from)
      (λ word. stages.piped (pipe.KeepingHeld done from word)) (falls.loading_held_falls done from)
  write_end_holds (pipe.KeepingHeld done from byte) stands =
      nobody_stores_byte s n writing live (step.Piped (pipe.KeepingHeld done from byte)) stands (λ v k b h. h) refl (stages.own_place done) (byte % 256)
      (stages.piped (pipe.TakingHeld done from)) (falls.keeping_held_falls done from byte)
  write_end_holds (pipe.TakingHeld done from) stands =
      nobody_stores s n writing live (step.Piped (pipe.TakingHeld done from)) stands (λ v k b h. h) refl _ ((from + 1) % 2 ^ 32)
      (next.Show (step.Piped (pipe.UnlockingMoved ((done + 1) % 2 ^ 32)))) tt
  write_end_holds (pipe.LoadingOwn done to) stands = ends.loading_own_holds s n fd va len live done to stands
  write_end_holds (pipe.PuttingOwn done to byte) stands = ends.putting_own_holds s n fd va len live done to byte stands
  write_end_holds (pipe.Putting done to) stands = ends.putting_holds s n fd va len live done to stands
  write_end_holds (pipe.UnlockingMoved done) stands = ends.write_moved_holds s n fd va len live done stands
  write_end_holds (pipe.UnlockingEnd done) stands =
      nobody_stores s n writing live (step.Piped (pipe.UnlockingEnd done)) stands (λ v k b h. h) refl _ 0 (next.GoOn (step.FileRegion 0 done))
      (falls.ended_falls done)
  write_end_holds (pipe.UnlockingTest done id runs) stands = ends.unlocking_test_holds s n writing refl live done id runs stands
  write_end_holds (pipe.TestIdentifying done) stands = ends.identifying_holds s n writing refl live done stands
  write_end_holds (pipe.TestRuns done id) stands = ends.runs_holds s n writing refl live done id stands
  write_end_holds (pipe.TestAgain done id runs) stands = ends.again_holds s n writing refl live done id runs stands
  write_end_holds (pipe.TestOwn done id runs) stands = ends.test_own_holds s n writing refl live done id runs stands
  write_end_holds (pipe.TestOther done id runs own) stands = ends.test_other_holds s n writing refl live done id runs own stands
  write_end_holds (pipe.TestDescriptor done id runs) stands = ends.test_descriptor_holds s n writing refl live done id runs stands
  write_end_holds (pipe.TestDescriptorCount done id runs entry) stands = ends.descriptor_count_holds s n writing refl live done id runs entry stands
  write_end_holds (pipe.TestPipe done id runs count) stands = ends.test_pipe_holds s n writing refl live done id runs count stands
  write_end_holds (pipe.TestPipeCount done id runs count entry) stands = ends.pipe_count_holds s n writing refl live done id runs count entry stands
  write_end_holds (pipe.TestRunsAgain done id runs closed) stands = ends.runs_again_holds s n writing refl live done id runs closed stands
  write_end_holds (pipe.TestPausing done) stands = ends.test_pausing_holds s n writing refl live done stands
  write_end_holds pipe.StatLocking stands =
      nobody_locks s n writing live (step.Piped pipe.StatLocking) stands (λ v k b h. h) refl _ pipe.StatFrom pipe.StatPausing falls.stat_locking_falls refl
  write_end_holds pipe.StatPausing stands =
      nobody_pauses s n writing live (step.Piped pipe.StatPausing) stands (λ v k b h. h) refl (step.Piped pipe.StatLocking) falls.stat_paused_falls
  write_end_holds pipe.StatFrom stands =
      nobody_loads s n writing live (step.Piped pipe.StatFrom) stands (λ v k b h. h) refl _ (λ word. stages.piped (pipe.StatTo word)) falls.stat_from_falls
  write_end_holds (pipe.StatTo from) stands =
      nobody_loads s n writing live (step.Piped (pipe.StatTo from)) stands (λ v k b h. h) refl _
      (λ word. next.Show (step.Piped (pipe.StatUnlocking (stages.held_of from word)))) (λ word. tt)
  write_end_holds (pipe.StatUnlocking held) stands =
      nobody_stores s n writing live (step.Piped (pipe.StatUnlocking held)) stands (λ v k b h. h) refl _ 0
      (next.GoOn (step.BufferRegion 0 ((held + 1) % 2 ^ 32))) (falls.stat_unlocked_falls held ((held + 1) % 2 ^ 32))
  write_end_holds (pipe.SecondEntry first fd) stands = no_write (pipe.SecondEntry first fd) stands refl (λ v k b h. h)
  write_end_holds (pipe.TakingReading r w) stands = no_write (pipe.TakingReading r w) stands refl (λ v k b h. h)
  write_end_holds (pipe.StoringReading r w) stands = no_write (pipe.StoringReading r w) stands refl (λ v k b h. h)
  write_end_holds (pipe.TakingWriting r w) stands = no_write (pipe.TakingWriting r w) stands refl (λ v k b h. h)
  write_end_holds (pipe.StoringWriting r w) stands = no_write (pipe.StoringWriting r w) stands refl (λ v k b h. h)
  write_end_holds (pipe.StoringEndMode r w) stands = no_write (pipe.StoringEndMode r w) stands refl (λ v k b h. h)
  write_end_holds (pipe.TakingPipe r w) stands = no_write (pipe.TakingPipe r w) stands refl (λ v k b h. h)
  write_end_holds (pipe.MappingPipe r w) stands = no_write (pipe.MappingPipe r w) stands refl (λ v k b h. h)
  write_end_holds (pipe.UndoingWriting r w error) stands = no_write (pipe.UndoingWriting r w error) stands refl (λ v k b h. h)
  write_end_holds (pipe.UndoingReading r error) stands = no_write (pipe.UndoingReading r error) stands refl (λ v k b h. h)
  write_end_holds (pipe.PipeEntry at) stands = no_write (pipe.PipeEntry at) stands refl (λ v k b h. h)
  write_end_holds (pipe.DroppingEnd at) stands = no_write (pipe.DroppingEnd at) stands refl (λ v k b h. h)
  write_end_holds (pipe.DroppingPipe at) stands = no_write (pipe.DroppingPipe at) stands refl (λ v k b h. h)
  write_end_holds pipe.SourcePipe stands = no_write pipe.SourcePipe stands refl (λ v k b h. h)
  write_end_holds pipe.MappingEnd stands = no_write pipe.MappingEnd stands refl (λ v k b h. h)

-- ---- stat

module _ (s : KernelState) (n fd va : ℕ) (live : is_live (slot_at s n) ≡ true) where
  abbrev telling : Service
  telling = service.Stat fd va

  abbrev pub telling_at : PipeStage → Plan
  telling_at at = staged (service.Stat fd va) (stages.ask_of of.Stat fd at) (stages.next_of of.Stat va at)

  abbrev StatAt : PipeStep → Type 0
  StatAt at = place_of (slot_at s n) ≡ place.InService (service.Stat fd va) (step.Piped at)

  no_stat : (at : PipeStep) → StatAt at → is_pausing (place.InService telling (step.Piped at)) ≡ false →
      ((v : View) (k : Slot) (b : Born) → StandsAtStep v k b telling (step.Piped at) → ⊥) → ServiceHolds s n (or_nowhere telling_at None)
  no_stat at stands steady none = law_of_nowhere s n telling (step.Piped at) stands steady none

  -- it has no bytes to move, so that it is over
  stat_mode_falls : (other inside : Bool) → Falls telling (step.Piped pipe.EndMode)
      (if other || not inside then next.Answer (negated E_INVAL) else if 0 == 0 then next.Answer 0 else stages.piped pipe.TakingBytes)
  stat_mode_falls true inside = tt
  stat_mode_falls false true = tt
  stat_mode_falls false false = tt

  stat_taking_falls : (word : ℕ) (none : Bool) → Falls telling (step.Piped pipe.TakingBytes)
      (if not none then next.Answer word else stages.piped (pipe.Locking 0 0 0))
  stat_taking_falls word true = falls.read_taking_falls
  stat_taking_falls word false = tt

  stat_takes : (at : StatAt pipe.TakingBytes) → ServiceHolds s n (telling_at stage.TakingBytes)
  unfolding performed
  stat_takes stands =
      let plan = telling_at stage.TakingBytes in
      let call = performed s n plan.asks in
      let did = upshot_by plan n call call.gives in
      let none : (names : Names) (a : AbstractState) → StandsFor names s a → ⊥ =
      nobody s n telling live (step.Piped pipe.TakingBytes) stands (λ v k b h. h) in
      let goes : GoesOn s n plan call = giving_goes s n plan call (take_lives s n live) in
      record {
        lives = goes.live;
        keeps = λ order a h turn quiet. absurd (none h.0 a h.1);
        fails = λ may a h turn. absurd (none h.0 a h.1);
        leaves = plain_leaves s n plan refl;
        lowers = falling_lowers s n plan call telling (step.Piped pipe.TakingBytes) stands refl goes (λ a h turn is. none h.0 a h.1)
            (λ called. stat_taking_falls (answer_of called) (answer_of called == 0));
        gives_up = gives_nothing_up (Ok did.progress) (slot_at s n) (slot_at did.state n) (ap is_pausing stands ∙ refl);
        takes = λ a h. absurd (none h.0 a h.1);
      }

  stat_to_falls : (done id runs from : ℕ) (empty none : Bool) → Falls telling (step.Piped (pipe.ReadTo done id runs from))
      (if empty then (if none then stages.piped (pipe.UnlockingTest done id runs) else next.Show (step.Piped (pipe.UnlockingEnd done)))
      else stages.piped (pipe.LoadingHeld done from))
  stat_to_falls done id runs from true true = falls.stuck_falls done id runs from
  stat_to_falls done id runs from true false = tt
  stat_to_falls done id runs from false none = falls.held_falls done id runs from

  stat_moved_falls : (done : ℕ) (more : Bool) → Falls telling (step.Piped (pipe.UnlockingMoved done))
      (if more then stages.piped (pipe.Locking done 0 0) else next.Show (step.FileRegion 0 done))
  stat_moved_falls done true = falls.moved_falls done
  stat_moved_falls done false = tt

  stat_tests : (done id runs : ℕ) → StatAt (pipe.UnlockingTest done id runs) → (t : Bool) → (id == 0) ≡ t →
      ServiceHolds s n (staged telling (stages.unlock_asked fd)
      (λ word. if t then stages.piped (pipe.TestIdentifying done) else stages.piped (pipe.TestAgain done id runs)))
  stat_tests done id runs stands true told =
      nobody_stores s n telling live (step.Piped (pipe.UnlockingTest done id runs)) stands (λ v k b h. h) refl _ 0 (stages.piped (pipe.TestIdentifying done))
      (falls.unlocked_falls done id runs true told)
  stat_tests done id runs stands false told =
      nobody_stores s n telling live (step.Piped (pipe.UnlockingTest done id runs)) stands (λ v k b h. h) refl _ 0 (stages.piped (pipe.TestAgain done id runs))
      (falls.unlocked_falls done id runs false told)

  stat_none : (at : PipeStep) → StatAt at → ((v : View) (k : Slot) (b : Born) → StandsAtStep v k b telling (step.Piped at) → ⊥) → (a : AbstractState) →
      Stands s a → ⊥
  stat_none at stands none a h = nobody s n telling live (step.Piped at) stands none h.0 a h.1

  stat_identifies : (done : ℕ) → StatAt (pipe.TestIdentifying done) → ServiceHolds s n (telling_at (stage.TestIdentifying done))
  stat_identifies done stands =
      law_of_call s n (telling_at (stage.TestIdentifying done)) telling (step.Piped (pipe.TestIdentifying done)) (record {
        stands = stands;
        live = live;
        numbered = refl;
        plain = plainly refl;
        goes_on = refl;
        falls = λ called. falls.identified_falls done (answer_of called);
        few = omega arith;
      }) SYS_GETENVID no_args refl refl
      (subst (λ (z : CallStep Called). LivesOn z n (slot_at s n).registers) (sym (getenvid_is s n live no_args))
      (record { live = live; registers = refl; written = refl }))
      (λ order a h turn quiet. absurd (stat_none (pipe.TestIdentifying done) stands (λ v k b h. h) a h))

  stat_loads : (at : PipeStep) (va : ℕ) (next : ℕ → Next) → StatAt at → is_pausing (place.InService telling (step.Piped at)) ≡ false →
      ((v : View) (k : Slot) (b : Born) → StandsAtStep v k b telling (step.Piped at) → ⊥) →
      (((a : AbstractState) → Stands s a → ⊥) → (word : ℕ) → FallsOrAsks s n telling (step.Piped at) (next word)) →
      ServiceHolds s n (staged telling (ask.Load va) next)
  stat_loads at va next stands steady none less =
      known_load_holds s n telling live (step.Piped at) stands steady va next (λ word known. less (stat_none at stands none) word)
      (λ names a h turn. absurd (stat_none at stands none a (names, h)))

  still_lowers : (done id runs own : ℕ) → ((a : AbstractState) → Stands s a → ⊥) → (still : Bool) →
      FallsOrAsks s n telling (step.Piped (pipe.TestOther done id runs own))
      (if still then stages.piped (pipe.TestDescriptor done id runs) else stages.piped (pipe.Locking done id runs))
  still_lowers done id runs own none true = λ a h turn. absurd (none a h)
  still_lowers done id runs own none false = λ a h turn. absurd (none a h)

  runs_lower : (done id runs closed : ℕ) → ((a : AbstractState) → Stands s a → ⊥) → (same opened : Bool) →
      FallsOrAsks s n telling (step.Piped (pipe.TestRunsAgain done id runs closed))
      (if not same then stages.piped (pipe.TestRuns done id)
      else if opened then next.Wait (step.Piped (pipe.TestPausing done)) else next.Show (step.Returning done))
  runs_lower done id runs closed none false opened = λ a h turn. absurd (none a h)
  runs_lower done id runs closed none true true = refl
  runs_lower done id runs closed none true false = tt

  pub stat_end_holds : (at : PipeStep) → place_of (slot_at s n) ≡ place.InService (service.Stat fd va) (step.Piped at) →
      ServiceHolds s n (or_nowhere telling_at (stages.stage_of at))
  stat_end_holds pipe.EndMode stands =
      nobody_loads s n telling live (step.Piped pipe.EndMode) stands (λ v k b h. h) refl _ (stages.next_of_mode of.Stat va)
      (λ word. stat_mode_falls (word == 1) (is_buffer va 0))
  stat_end_holds pipe.TakingBytes stands = stat_takes stands
  stat_end_holds (pipe.Locking done id runs) stands =
      nobody_locks s n telling live (step.Piped (pipe.Locking done id runs)) stands (λ v k b h. h) refl _ (pipe.ReadFrom done id runs)
      (pipe.LockPausing done) (falls.locking_falls done id runs) refl
  stat_end_holds (pipe.LockPausing done) stands =
      nobody_pauses s n telling live (step.Piped (pipe.LockPausing done)) stands (λ v k b h. h) refl (step.Piped (pipe.Locking done 0 0))
      (falls.lock_paused_falls done)
  stat_end_holds (pipe.TestPausing done) stands =
      nobody_pauses s n telling live (step.Piped (pipe.TestPausing done)) stands (λ v k b h. h) refl (step.Piped (pipe.Locking done 0 0))
      (falls.test_paused_falls done)
  stat_end_holds (pipe.ReadFrom done id runs) stands =
      nobody_loads s n telling live (step.Piped (pipe.ReadFrom done id runs)) stands (λ v k b h. h) refl _
      (λ word. stages.piped (pipe.ReadTo done id runs word)) (falls.from_falls done id runs)
  stat_end_holds (pipe.ReadTo done id runs from) stands =
      nobody_loads s n telling live (step.Piped (pipe.ReadTo done id runs from)) stands (λ v k b h. h) refl _
      (stages.next_of_positions of.Stat done id runs from) (λ word. stat_to_falls done id runs from (word == from) (done == 0))
  stat_end_holds (pipe.LoadingHeld done from) stands =
      nobody_loads_byte s n telling live (step.Piped (pipe.LoadingHeld done from)) stands (λ v k b h. h) refl _
      (λ word. stages.piped (pipe.KeepingHeld done from word)) (falls.loading_held_falls done from)
  stat_end_holds (pipe.KeepingHeld done from byte) stands =
      nobody_stores_byte s n telling live (step.Piped (pipe.KeepingHeld done from byte)) stands (λ v k b h. h) refl _ (byte % 256)
      (stages.piped (pipe.TakingHeld done from)) (falls.keeping_held_falls done from byte)
  stat_end_holds (pipe.TakingHeld done from) stands =
      nobody_stores s n telling live (step.Piped (pipe.TakingHeld done from)) stands (λ v k b h. h) refl _ ((from + 1) % 2 ^ 32)
      (next.Show (step.Piped (pipe.UnlockingMoved ((done + 1) % 2 ^ 32)))) tt
  stat_end_holds (pipe.LoadingOwn done to) stands =
      nobody_loads_byte s n telling live (step.Piped (pipe.LoadingOwn done to)) stands (λ v k b h. h) refl _
      (λ word. stages.piped (pipe.PuttingOwn done to word)) (falls.loading_own_falls done to)
  stat_end_holds (pipe.PuttingOwn done to byte) stands =
      nobody_stores_byte s n telling live (step.Piped (pipe.PuttingOwn done to byte)) stands (λ v k b h. h) refl _ (byte % 256)
      (stages.piped (pipe.Putting done to)) (falls.putting_own_falls done to byte)
  stat_end_holds (pipe.Putting done to) stands =
      nobody_stores s n telling live (step.Piped (pipe.Putting done to)) stands (λ v k b h. h) refl _ ((to + 1) % 2 ^ 32)
      (next.Show (step.Piped (pipe.UnlockingMoved ((done + 1) % 2 ^ 32)))) tt
  stat_end_holds (pipe.UnlockingMoved done) stands =
      nobody_stores s n telling live (step.Piped (pipe.UnlockingMoved done)) stands (λ v k b h. h) refl _ 0 (stages.next_of_moved of.Stat done)
      (stat_moved_falls done (nat_lt done 0))
  stat_end_holds (pipe.UnlockingEnd done) stands =
      nobody_stores s n telling live (step.Piped (pipe.UnlockingEnd done)) stands (λ v k b h. h) refl _ 0 (next.GoOn (step.FileRegion 0 done))
      (falls.ended_falls done)
  stat_end_holds (pipe.UnlockingTest done id runs) stands = stat_tests done id runs stands (id == 0) refl
  stat_end_holds (pipe.TestIdentifying done) stands = stat_identifies done stands
  stat_end_holds (pipe.TestRuns done id) stands =
      nobody_loads s n telling live (step.Piped (pipe.TestRuns done id)) stands (λ v k b h. h) refl _
      (λ word. stages.piped (pipe.TestOwn done id word)) (falls.runs_falls done id)
  stat_end_holds (pipe.TestAgain done id runs) stands =
      stat_loads (pipe.TestAgain done id runs) _ (λ word. stages.piped (pipe.TestOwn done id word)) stands refl (λ v k b h. h)
      (λ none word a h turn. absurd (none a h))
  stat_end_holds (pipe.TestOwn done id runs) stands =
      nobody_loads s n telling live (step.Piped (pipe.TestOwn done id runs)) stands (λ v k b h. h) refl _
      (λ word. stages.piped (pipe.TestOther done id runs word)) (falls.test_own_falls done id runs)
  stat_end_holds (pipe.TestOther done id runs own) stands =
      stat_loads (pipe.TestOther done id runs own) _ (stages.next_of_test of.Stat done id runs own) stands refl (λ v k b h. h)
      (λ none word. still_lowers done id runs own none (word == own))
  stat_end_holds (pipe.TestDescriptor done id runs) stands =
      nobody_loads s n telling live (step.Piped (pipe.TestDescriptor done id runs)) stands (λ v k b h. h) refl _
      (λ word. stages.piped (pipe.TestDescriptorCount done id runs word)) (falls.descriptor_falls done id runs)
  stat_end_holds (pipe.TestDescriptorCount done id runs entry) stands =
      nobody_loads s n telling live (step.Piped (pipe.TestDescriptorCount done id runs entry)) stands (λ v k b h. h) refl _
      (λ word. stages.piped (pipe.TestPipe done id runs word)) (falls.descriptor_count_falls done id runs entry)
  stat_end_holds (pipe.TestPipe done id runs count) stands =
      nobody_loads s n telling live (step.Piped (pipe.TestPipe done id runs count)) stands (λ v k b h. h) refl _
      (λ word. stages.piped (pipe.TestPipeCount done id runs count word)) (falls.pipe_falls done id runs count)
  stat_end_holds (pipe.TestPipeCount done id runs count entry) stands =
      nobody_loads s n telling live (step.Piped (pipe.TestPipeCount done id runs count entry)) stands (λ v k b h. h) refl _
      (λ word. stages.piped (pipe.TestRunsAgain done id runs (if stages.is_closed count word then 1 else 0)))
      (λ word. falls.pipe_count_falls done id runs count entry (if stages.is_closed count word then 1 else 0))
  stat_end_holds (pipe.TestRunsAgain done id runs closed) stands =
      stat_loads (pipe.TestRunsAgain done id runs closed) _ (stages.next_of_runs done id runs closed) stands refl (λ v k b h. h)
      (λ none word. runs_lower done id runs closed none (word == runs) (closed == 0))
  stat_end_holds pipe.StatLocking stands = ends.stat_locking_holds s n fd va live stands
  stat_end_holds pipe.StatPausing stands = ends.stat_pausing_holds s n fd va live stands
  stat_end_holds pipe.StatFrom stands = ends.stat_from_holds s n fd va live stands
  stat_end_holds (pipe.StatTo from) stands = ends.stat_to_holds s n fd va live from stands
  stat_end_holds (pipe.StatUnlocking held) stands = ends.stat_unlocking_holds s n fd va live held stands
  stat_end_holds (pipe.SecondEntry first second) stands = no_stat (pipe.SecondEntry first second) stands refl (λ v k b h. h)
  stat_end_holds (pipe.TakingReading r w) stands = no_stat (pipe.TakingReading r w) stands refl (λ v k b h. h)
  stat_end_holds (pipe.StoringReading r w) stands = no_stat (pipe.StoringReading r w) stands refl (λ v k b h. h)
  stat_end_holds (pipe.TakingWriting r w) stands = no_stat (pipe.TakingWriting r w) stands refl (λ v k b h. h)
  stat_end_holds (pipe.StoringWriting r w) stands = no_stat (pipe.StoringWriting r w) stands refl (λ v k b h. h)
  stat_end_holds (pipe.StoringEndMode r w) stands = no_stat (pipe.StoringEndMode r w) stands refl (λ v k b h. h)
  stat_end_holds (pipe.TakingPipe r w) stands = no_stat (pipe.TakingPipe r w) stands refl (λ v k b h. h)
  stat_end_holds (pipe.MappingPipe r w) stands = no_stat (pipe.MappingPipe r w) stands refl (λ v k b h. h)
  stat_end_holds (pipe.UndoingWriting r w error) stands = no_stat (pipe.UndoingWriting r w error) stands refl (λ v k b h. h)
  stat_end_holds (pipe.UndoingReading r error) stands = no_stat (pipe.UndoingReading r error) stands refl (λ v k b h. h)
  stat_end_holds (pipe.PipeEntry at) stands = no_stat (pipe.PipeEntry at) stands refl (λ v k b h. h)
  stat_end_holds (pipe.DroppingEnd at) stands = no_stat (pipe.DroppingEnd at) stands refl (λ v k b h. h)
  stat_end_holds (pipe.DroppingPipe at) stands = no_stat (pipe.DroppingPipe at) stands refl (λ v k b h. h)
  stat_end_holds pipe.SourcePipe stands = no_stat pipe.SourcePipe stands refl (λ v k b h. h)
  stat_end_holds pipe.MappingEnd stands = no_stat pipe.MappingEnd stands refl (λ v k b h. h)
